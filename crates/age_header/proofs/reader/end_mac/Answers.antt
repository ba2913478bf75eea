use Rattle.age_header.proofs.Common.{append_cancel_left, arith, common_steps, ◌≡◌, ◌∙◌, length, sym, ap, subst, codes, Bytes, IsBase64}
use Rattle.age_header.proofs.Base64Lemmas.{IsBase64-injective}
use Rattle.age_header.proofs.reader.end_mac.Goals as goal

pub returns-clause-none : goal.returns-clause-none
returns-clause-none c mac characters n e h =
    let found = rw c.in-Some-2.is at c.in_ok-mac.ensures.some in
    let same : characters ≡ c.in-Some.characters.now =
    append_cancel_left (codes "--- ") characters c.in-Some.characters.now (sym e ∙ c.in-Some.ensures) in
    let bytes : mac ≡ c.in-Some-2.mac.items =
    IsBase64-injective mac c.in-Some-2.mac.items c.in-Some.characters.now
    (subst (λ (x : Bytes). IsBase64 mac x) same h) found in
    c.in-Err.ensures.1 (ap length c.as_slice.ensures.value ∙ sym (ap length bytes) ∙ n)

pub returns-in_default-2-clause-none : goal.returns-in_default-2-clause-none
returns-in_default-2-clause-none c mac characters n e h =
    grind (arith, append_cancel_left, c.in_ok-mac.ensures.none, c.in-Some.ensures)

pub returns-in-Ok-clause-some : goal.returns-in-Ok-clause-some
returns-in-Ok-clause-some c = grind (arith, common_steps)
