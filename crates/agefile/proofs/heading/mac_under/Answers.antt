use Rattle.agefile.proofs.Common.{◌≡◌, ◌-◌, length, take, ◌∙◌, ap, subst, sym, refl, arith, inr, Ok, Err, Some, BadLine, MixedPassphrase}
use Rattle.agefile.proofs.HeaderLemmas.{header_found}
use Rattle.agefile.proofs.HeadingLemmas.{mac_early, mac_none, whole_text}
use Rattle.agefile.proofs.UnlockLemmas.{fronts}
use Rattle.agefile.proofs.heading.mac_under.Goals as goal

pub returns-in-Err : goal.returns-in-Err
returns-in-Err c stanzas is =
    mac_none stanzas c.args.key.now c.in-Err.fault c.in_text.ensures
    (header_found _ (Err c.in-Err.fault) (c.new-source.ensures ∙ ap Some is) c.in-Err.ensures.reads
    (rw c.limits.ensures at c.in-Err.ensures.verdict))

pub returns-then-rest-gt0 : goal.returns-then-rest-gt0
returns-then-rest-gt0 c stanzas is =
    mac_early stanzas c.rest-rest.result.now c.split_at.result.0.now c.in-Ok.header c.args.key.now
    (fronts (c.new-source.ensures ∙ ap Some is) c.rest-rest.ensures (rw c.limits.ensures at c.in-Ok.ensures.verdict))
    c.if-rest-gt0.true
    (subst (λ b. c.split_at.result.0.now ≡ take (length b - length c.rest-rest.result.now) b) is
    c.split_at.ensures.front)
    (c.in_text-then-rest-gt0.ensures ∙ ap (λ n. BadLine (n - 1)) c.lines_in.ensures)

pub returns-then-is_mixed : goal.returns-then-is_mixed
returns-then-is_mixed c stanzas is =
    let f = fronts (c.new-source.ensures ∙ ap Some is) c.rest-rest.ensures
    (rw c.limits.ensures at c.in-Ok.ensures.verdict) in
    let mixed = rw c.stanzas.ensures.value at (sym c.is_mixed.ensures ∙ c.if-is_mixed.true) in
    let none : length c.rest-rest.result.now ≡ 0 = omega (arith, c.if-rest-gt0.false) in
    inr (Err MixedPassphrase, whole_text stanzas _ c.in-Ok.header (Err MixedPassphrase) f none (rw mixed refl), refl)

pub returns : goal.returns
returns c stanzas is =
    let f = fronts (c.new-source.ensures ∙ ap Some is) c.rest-rest.ensures
    (rw c.limits.ensures at c.in-Ok.ensures.verdict) in
    let mixed = rw c.stanzas.ensures.value at (sym c.is_mixed.ensures ∙ c.if-is_mixed.false) in
    let mac = rw c.stanzas-2.ensures.value at c.in_ok-mac_of.ensures in
    let none : length c.rest-rest.result.now ≡ 0 = omega (arith, c.if-rest-gt0.false) in
    inr (
      Ok c.in-Ok.header.stanzas,
      whole_text stanzas _ c.in-Ok.header (Ok c.in-Ok.header.stanzas) f none (rw mixed refl),
      ap Ok mac,
    )
