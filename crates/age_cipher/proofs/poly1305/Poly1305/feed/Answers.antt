use Rattle.age_cipher.proofs.Common.{◌≡◌, [], ◌++◌, ap, sym, ◌∙◌, length, take, value, zero-add}
use Rattle.age_cipher.proofs.SumLemmas.{answer_on}
use Rattle.age_cipher.proofs.poly1305.Poly1305.feed.Goals as goal

pub returns : goal.returns
returns c = λ t.
    let p = c.self.inside in
    let none : take p.filled p.block ≡ [] = ap (λ m. m.pending) c.self.view_is ∙ c.requires in
    let kept = ap (λ n. take n c.joined-self-inside.result) (sym (zero-add (length c.split_at.result.1.now)))
    ∙ c.joined-self-inside.ensures ∙ c.split_at.ensures.back in
    rw (← c.self.view_is) (answer_on _ (value c.whole_blocks-self-inside.result) _ t (c.args.piece.now ++ t)
    (rw (kept, none) (c.whole_blocks-self-inside.ensures.fed t)))
