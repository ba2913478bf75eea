use Rattle.std.proofs.Common.{◌∙◌, inl, inr, sym}
use Rattle.age_file.proofs.FileLemmas.{tested_found}
use Rattle.age_file.proofs.unlocking.found_key.Goals as goal

pub returns-clause-key : goal.returns-clause-key
returns-clause-key g c =
    let alone = sym (rw c.stanzas.ensures.value at c.is_mixed.ensures) ∙ c.if-is_mixed.false in
    let chosen = rw c.stanzas-2.ensures.value at c.unlock.ensures.choice in
    search (tested_found, alone, chosen, c.tested.ensures.key)

pub returns-clause-memory : goal.returns-clause-memory
returns-clause-memory g c = λ memory.
    let chosen = rw c.stanzas-2.ensures.value at c.unlock.ensures.choice in
    let lacks = rw c.stanzas-2.ensures.value at c.unlock.ensures.memory in
    elim (c.tested.ensures.memory memory) [
      | inl none ↦ inl (lacks none)
      | inr key ↦ elim chosen [
        | inl none ↦ inl (lacks none)
        | inr is ↦ inr (key.0, sym is ∙ key.1)
      ]
    ]
