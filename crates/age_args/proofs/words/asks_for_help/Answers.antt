use Rattle.std.proofs.Common.{◌∙◌, inl, inr, sym}
use Rattle.std.proofs.lemmas.Bool.{eqb-true}
use Rattle.age_args.proofs.WordsLemmas.{asks}
use Rattle.age_args.proofs.words.asks_for_help.Goals as goal
use Rattle.age_args.proofs.words.asks_for_help.Goals.{then-words-eq3, else-words-eq3}

pub returns-then-eq-2 : goal.returns-then-eq-2
returns-then-eq-2 c = λ is. elim c.if-words-eq3.branch [
  | then-words-eq3 w ↦
      search (asks, sym w.eq.ensures ∙ sym w.value-is ∙ c.if-eq.true, sym c.eq-then-eq.ensures ∙ is, inl)
  | else-words-eq3 w ↦ absurd (w.if-words-eq3.false (eqb-true _ _ (sym w.value-is ∙ c.if-eq.true)))
]

pub returns-else-eq-2 : goal.returns-else-eq-2
returns-else-eq-2 c = λ is. elim c.if-words-eq3.branch [
  | then-words-eq3 w ↦
      search (asks, sym w.eq.ensures ∙ sym w.value-is ∙ c.if-eq.true, sym c.eq-else-eq-2.ensures ∙ is, inr)
  | else-words-eq3 w ↦ absurd (w.if-words-eq3.false (eqb-true _ _ (sym w.value-is ∙ c.if-eq.true)))
]
