use Rattle.age_file.proofs.Common.{inl, inr, rules}
use Rattle.age_file.proofs.FrontLemmas.{front_gave}
use Rattle.age_file.proofs.decryptor.Decryptor+S.new.Goals as goal

pub returns-in-Err-clause-refuses : goal.returns-in-Err-clause-refuses
returns-in-Err-clause-refuses g c =
    rw (c.of.ensures.fault, c.of.ensures.unchanged)
    (c.in-Err.ensures.reads, c.in-Err.ensures.most, inl c.in-Err.ensures.verdict)

pub returns-then-is_mixed-clause-refuses : goal.returns-then-is_mixed-clause-refuses
returns-then-is_mixed-clause-refuses g c =
    rw (c.of-then-is_mixed.ensures.fault, c.of-then-is_mixed.ensures.unchanged)
    (c.in-Ok.ensures.reads, inr (front_gave c.args.limits.now _ _ c.in-Ok.ensures.verdict), search rules)
