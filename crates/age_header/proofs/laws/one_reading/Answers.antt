use Rattle.age_header.proofs.Common.{[], sym, subst, append-nil, Bytes, Head}
use Rattle.age_header.proofs.HeaderLemmas.{reading, one_text}
use Rattle.age_header.proofs.laws.one_reading.Goals as goal

pub returns-clause-reading : goal.returns-clause-reading
returns-clause-reading c ss ts m n h a b =
    let r = reading ss ts m n h [] a (subst (λ (z : Bytes). Head ts n z) (sym (append-nil h)) b) in
    (r.1, r.2)

pub returns-clause-text : goal.returns-clause-text
returns-clause-text c = one_text

pub returns-clause-prefix : goal.returns-clause-prefix
returns-clause-prefix c ss ts m n h x a b = let r = reading ss ts m n h x a b in r.0
