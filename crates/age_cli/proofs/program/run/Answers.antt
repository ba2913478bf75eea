use Rattle.std.proofs.Common.{◌≡◌, ap, refl, inl, inr, map}
use Rattle.age_cli.proofs.ProgramLemmas.{answered, failed, not_wrong, refused, stays_known, unused, wrong_status}
use Rattle.age_cli.proofs.ToldLemmas.{told_refusal}
use Rattle.age_cli.proofs.program.run.Goals as goal

pub returns-in-Ok-clause-finishes : goal.returns-in-Ok-clause-finishes
returns-in-Ok-clause-finishes g c = λ done. inr (
  c.in-Ok.job,
  c.in-Ok.ensures.reads,
  c.run_job.ensures.finishes done,
)

pub returns-in-Ok-clause-begins : goal.returns-in-Ok-clause-begins
returns-in-Ok-clause-begins g c = λ failed. elim (c.run_job.ensures.begins failed) [
  | inl same ↦ inr (inl same)
  | inr ran ↦ inr (inr (c.in-Ok.job, c.in-Ok.ensures.reads, ran))
]

pub returns-in-Err-clause-refused : goal.returns-in-Err-clause-refused
returns-in-Err-clause-refused g c = λ two.
    let r = refused (map (λ word. word.now) c.args.words.now) (c.answer_refusal.new.out ≡ c.args.out.now)
    c.in-Err.fault c.answer_refusal.result c.in-Err.ensures.reads c.answer_refusal.ensures.answers two in
    (refl, r.0, r.1)

pub returns-in-Err-clause-finishes : goal.returns-in-Err-clause-finishes
returns-in-Err-clause-finishes g c = λ none.
    inl (answered (map (λ word. word.now) c.args.words.now) (c.answer_refusal.new.out ≡ c.args.out.now)
    c.in-Err.fault c.answer_refusal.result c.in-Err.ensures.reads c.answer_refusal.ensures.answers none)

pub returns-in-Err-clause-begins : goal.returns-in-Err-clause-begins
returns-in-Err-clause-begins g c = λ one.
    elim (failed (map (λ word. word.now) c.args.words.now) (c.answer_refusal.new.out ≡ c.args.out.now)
    c.in-Err.fault c.answer_refusal.result c.in-Err.ensures.reads c.answer_refusal.ensures.answers one) [
      | inl asks ↦ inl asks
      | inr same ↦ inr (inl (stays_known (ap g.W.Write.contents same)))
    ]

pub returns-in-Ok-clause-streams : goal.returns-in-Ok-clause-streams
returns-in-Ok-clause-streams g c =
    inr (inr (c.in-Ok.job, c.in-Ok.ensures.reads, c.run_job.ensures.input, c.run_job.ensures.output))

pub returns-in-Err-clause-streams : goal.returns-in-Err-clause-streams
returns-in-Err-clause-streams g c =
    unused (map (λ word. word.now) c.args.words.now) _ (c.answer_refusal.new.out ≡ c.args.out.now) _ c.in-Err.fault
    c.answer_refusal.result c.in-Err.ensures.reads c.answer_refusal.ensures.answers refl

pub returns-in-Ok-clause-refuses : goal.returns-in-Ok-clause-refuses
returns-in-Ok-clause-refuses g c = λ bad.
    absurd (not_wrong (map (λ word. word.now) c.args.words.now) c.in-Ok.job c.in-Ok.ensures.reads bad)

pub returns-in-Err-clause-refuses : goal.returns-in-Err-clause-refuses
returns-in-Err-clause-refuses g c = λ bad.
    wrong_status (map (λ word. word.now) c.args.words.now) c.in-Err.fault c.answer_refusal.result
    c.in-Err.ensures.reads c.answer_refusal.ensures.answers

pub returns-in-Ok-clause-told : goal.returns-in-Ok-clause-told
returns-in-Ok-clause-told g c =
    λ one. inr (inr (c.in-Ok.job, c.in-Ok.ensures.reads, c.run_job.ensures.told one))

pub returns-in-Err-clause-told : goal.returns-in-Err-clause-told
returns-in-Err-clause-told g c =
    told_refusal (map (λ word. word.now) c.args.words.now) (c.answer_refusal.new.out ≡ c.args.out.now) _
    c.in-Err.fault c.answer_refusal.result c.in-Err.ensures.reads c.answer_refusal.ensures.answers
    (λ memory. inl (c.answer_refusal.ensures.told memory))
