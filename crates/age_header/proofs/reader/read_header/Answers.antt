use Rattle.age_header.proofs.Common.{◌≡◌, ◌∙◌, length, sym, arith, rules, Err, common_steps, Bytes, iff_false, seen_by}
use Rattle.age_header.proofs.DeviceLemmas.{of_any, some_then}
use Rattle.age_header.proofs.MostLemmas.{line_within, reached_most}
use Rattle.age_header.proofs.ReaderLemmas.{outside}
use Rattle.age_header.proofs.VerdictLaterLinesLemmas.{path_truncated, path_too_large, path_header, path_bad, path_more, path_lines, path_start}
use Rattle.age_header.proofs.reader.read_header.Goals.{then-is_whole+in-Ok-None, else-is_whole}
use Rattle.age_header.proofs.reader.read_header.Goals as goal

pub lines-init : goal.lines-init
lines-init g c = record {
  count = c.in_ok-read_version.ensures.count;
  path = rw c.new-progress.ensures
      (path_start c.in_ok-read_version.ensures.ok.0 c.in_ok-read_version.ensures.ok.1);
}

pub returns-in_err-text-clause-verdict : goal.returns-in_err-text-clause-verdict
returns-in_err-text-clause-verdict g c =
    let is : c.from_residual-in_err-text.result ≡ Err c.in_err-text.field-0.0 = search rules in
    rw is (outside c.args.max c.in_err-text.field-0.0 c.in_err-text.ensures.err
    (some_then c.lines.invariant.path.read c.in_err-text.ensures.lost))

pub returns-in-Err-clause-verdict : goal.returns-in-Err-clause-verdict
returns-in-Err-clause-verdict g c =
    of_any (some_then c.lines.invariant.path.read (_, c.in_ok-text.ensures.bytes)) (λ b. tt)

pub returns-in-Err-step-clause-verdict : goal.returns-in-Err-step-clause-verdict
returns-in-Err-step-clause-verdict g c =
    of_any (some_then c.lines.invariant.path.read (_, c.in_ok-text.ensures.bytes)) (λ b. tt)

pub returns-in-Input-clause-verdict : goal.returns-in-Input-clause-verdict
returns-in-Input-clause-verdict g c =
    path_truncated c.lines.invariant.path (rw c.in-Input.is at c.in_ok-text.ensures.bytes) c.in_ok-text.ensures.text
    (rw c.in-Input.is at c.in_ok-text.ensures.end)

pub returns-in-Room-clause-verdict : goal.returns-in-Room-clause-verdict
returns-in-Room-clause-verdict g c =
    path_too_large c.lines.invariant.path (rw c.in-Room.is at c.in_ok-text.ensures.bytes) c.in_ok-text.ensures.text
    (rw c.in-Room.is at c.in_ok-text.ensures.end)

pub overflow_add-lines : goal.overflow_add-lines
overflow_add-lines g c = search (rules, path_lines, c.lines.invariant.path)

pub returns-in-Ok-Some-clause-verdict : goal.returns-in-Ok-Some-clause-verdict
returns-in-Ok-Some-clause-verdict g c =
    let bytes = rw c.in-Lf.is at c.in_ok-text.ensures.bytes in
    let low = rw c.in-Lf.is at c.in_ok-text.ensures.end in
    let end = rw c.in-Ok-Some.field-0-is at c.in-Ok-Some.ensures.some in
    let whole = c.is_whole.ensures.0 c.if-is_whole.true in
    let same : c.finish.result.stanzas ≡ whole.0 = cc (c.finish.ensures.stanzas, whole.2) in
    path_header c.lines.invariant.path bytes c.in_ok-text.ensures.text low (record {
      stanzas = c.finish.result.stanzas;
      mac = c.finish.result.mac;
      characters = end.0;
      some = rw same whole.1;
      at = c.finish.ensures.stanzas;
      size = rw c.finish.ensures.mac end.1;
      spelled = sym c.as_slice.ensures.value ∙ end.2;
      is = rw c.finish.ensures.mac end.3;
    })

pub returns-in-Ok-None-step-clause-verdict : goal.returns-in-Ok-None-step-clause-verdict
returns-in-Ok-None-step-clause-verdict g c =
    let bytes = rw c.in-Lf.is at c.in_ok-text.ensures.bytes in
    let low = rw c.in-Lf.is at c.in_ok-text.ensures.end in
    let none = rw c.in-Ok-None-step.field-0-is at c.in-Ok-None-step.ensures.none in
    path_bad c.lines.invariant.path bytes c.in_ok-text.ensures.text low
    (λ e. elim c.if-is_whole.branch [
      | then-is_whole+in-Ok-None w ↦
          let end = rw w.in-Ok-None.field-0-is at w.in-Ok-None.ensures.none in
          end e.mac e.characters e.size (w.as_slice.ensures.value ∙ e.spelled) e.is
      | else-is_whole w ↦ iff_false c.is_whole.ensures w.if-is_whole.false (e.stanzas, e.some, e.at)
    ])
    (rw c.as_slice-in-lines.ensures.value at none)

pub lines-preserved : goal.lines-preserved
lines-preserved g c =
    let text : Bytes = c.in_ok-text.text.items in
    let bytes = rw c.in-Lf.is at c.in_ok-text.ensures.bytes in
    let low = rw c.in-Lf.is at c.in_ok-text.ensures.end in
    let some = rw c.in-Ok-Some-step.field-0-is at c.in-Ok-Some-step.ensures.some in
    let step = rw c.as_slice-in-lines.ensures.value at some in
    let size : length text ≡ c.len.result = grind (arith, common_steps) in
    let more = path_more text c.lines.invariant.path bytes c.in_ok-text.ensures.text low step in
    record { count = c.in_ok-text.ensures.count ∙ c.lines.invariant.count; path = rw (← size) more }

pub returns-in_err-text-clause-most : goal.returns-in_err-text-clause-most
returns-in_err-text-clause-most g c =
    let is : c.from_residual-in_err-text.result ≡ Err c.in_err-text.field-0.0 = search rules in
    rw is (reached_most c.in_err-text.field-0.0 (seen_by g.S.Source.to_come g.S.Source.gave c.read_line.new.input)
    c.lines.invariant.path c.in_err-text.ensures.most)

pub returns-in-Input-clause-most : goal.returns-in-Input-clause-most
returns-in-Input-clause-most g c =
    search (rules, line_within, c.lines.invariant.path, c.in_ok-text.ensures.bytes, c.in_ok-text.ensures.end)

pub returns-in-Room-clause-most : goal.returns-in-Room-clause-most
returns-in-Room-clause-most g c =
    search (rules, line_within, c.lines.invariant.path, c.in_ok-text.ensures.bytes, c.in_ok-text.ensures.end)

pub returns-in-Err-clause-most : goal.returns-in-Err-clause-most
returns-in-Err-clause-most g c =
    search (rules, line_within, c.lines.invariant.path, c.in_ok-text.ensures.bytes, c.in_ok-text.ensures.end)

pub returns-in-Ok-None-step-clause-most : goal.returns-in-Ok-None-step-clause-most
returns-in-Ok-None-step-clause-most g c =
    search (rules, line_within, c.lines.invariant.path, c.in_ok-text.ensures.bytes, c.in_ok-text.ensures.end)

pub returns-in-Err-step-clause-most : goal.returns-in-Err-step-clause-most
returns-in-Err-step-clause-most g c =
    search (rules, line_within, c.lines.invariant.path, c.in_ok-text.ensures.bytes, c.in_ok-text.ensures.end)
