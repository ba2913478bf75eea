use Rattle.age_header.proofs.Common.{arith, common_steps, nil_from_length, ◌∙◌, ◌++◌, length, sym, ap, Bytes}
use Rattle.age_header.proofs.VerdictPathLemmas.{version_text}
use Rattle.age_header.proofs.VerdictFirstLineLemmas.{no_prefix, short_line, short_input, short_room, version_read}
use Rattle.age_header.proofs.reader.read_version.Goals as goal

pub returns-in_default-clause-err : goal.returns-in_default-clause-err
unfolding version_text
returns-in_default-clause-err g c =
    let first : Bytes = c.in_ok-first.first.items in
    let end = rw c.min.ensures at c.in_ok-first.ensures.end in
    no_prefix first c.in_ok-first.end c.args.max c.in_ok-first.ensures.bytes c.in_ok-first.ensures.text end
    (λ x e. c.in_default.ensures x (e ∙ ap (λ (z : Bytes). z ++ x) (sym c.as_slice.ensures.value)))

pub returns-in-Input-clause-err : goal.returns-in-Input-clause-err
unfolding version_text
returns-in-Input-clause-err g c =
    short_input c.in-Some.rest.now (rw c.in-Input.is at c.in_ok-first.ensures.bytes) c.in_ok-first.ensures.text
    (rw (c.in-Input.is, c.min.ensures) at c.in_ok-first.ensures.end) (rw c.as_slice.ensures.value at c.in-Some.ensures)

pub returns-in-Room-clause-err : goal.returns-in-Room-clause-err
unfolding version_text
returns-in-Room-clause-err g c =
    short_room c.in-Some.rest.now (rw c.in-Room.is at c.in_ok-first.ensures.bytes) c.in_ok-first.ensures.text
    (rw (c.in-Room.is, c.min.ensures) at c.in_ok-first.ensures.end) (rw c.as_slice.ensures.value at c.in-Some.ensures)

pub returns-then-not-is_empty-clause-err : goal.returns-then-not-is_empty-clause-err
unfolding version_text
returns-then-not-is_empty-clause-err g c =
    short_line c.in_ok-first.first.items c.args.max (rw c.in-Lf.is at c.in_ok-first.ensures.bytes)
    c.in_ok-first.ensures.text (rw (c.in-Lf.is, c.min.ensures) at c.in_ok-first.ensures.end)
    (rw c.as_slice.ensures.value at c.in-Some.ensures) (λ e. let n = ap length e in grind (arith, common_steps))

pub returns-clause-ok : goal.returns-clause-ok
unfolding version_text
returns-clause-ok g c =
    version_read c.in_ok-first.first.items (rw c.in-Lf.is at c.in_ok-first.ensures.bytes)
    (rw (c.in-Lf.is, c.min.ensures) at c.in_ok-first.ensures.end) (rw c.as_slice.ensures.value at c.in-Some.ensures)
    (nil_from_length c.in-Some.rest.now (grind (arith, common_steps)))
