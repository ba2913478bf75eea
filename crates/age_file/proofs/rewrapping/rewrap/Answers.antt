use Rattle.age_file.proofs.Common.{◌≡◌, Err, rules, of_more, OutOfMemory}
use Rattle.age_file.proofs.DecryptLemmas.{found_key, headed}
use Rattle.age_file.proofs.RewrapLemmas.{begun_rewraps, copied_rewraps, copies_late, heading_rewraps, inspect_rewraps, locked_rewraps}
use Rattle.age_file.proofs.FrontLemmas.{copied_took, front_ahead, front_gave, headed_took, read_took}
use Rattle.age_file.proofs.rewrapping.rewrap.Goals as goal

pub returns-in_err-header-clause-rewraps : goal.returns-in_err-header-clause-rewraps
returns-in_err-header-clause-rewraps g c =
    let is : c.from_residual.result ≡ Err c.in_err-header.field-0.0 = search rules in
    rw is (search (inspect_rewraps, c.in_err-header.ensures.verdict))

pub returns-in_err-key-clause-rewraps : goal.returns-in_err-key-clause-rewraps
returns-in_err-key-clause-rewraps g c =
    let is : c.from_residual-in_err-key.result ≡ Err c.in_err-key.field-0.0 = search rules in
    search (locked_rewraps, headed, c.in_ok-header.ensures.verdict, is, c.in_err-key.ensures.key)

pub returns-in_err-text-clause-rewraps : goal.returns-in_err-text-clause-rewraps
returns-in_err-text-clause-rewraps g c =
    let is : c.from_residual-in_err-text.result ≡ Err c.in_err-text.field-0.0 = search rules in
    let key = found_key c.in_ok-key.ensures.key in
    search (heading_rewraps, headed, c.in_ok-header.ensures.verdict, key, is, c.in_err-text.ensures.err)

pub returns-in_err-buf-clause-rewraps : goal.returns-in_err-buf-clause-rewraps
returns-in_err-buf-clause-rewraps g c =
    let is : c.from_residual-in_err-buf.result ≡ Err OutOfMemory = search rules in
    rw is (of_more (headed c.args.limits.now c.in_ok-header.ensures.verdict).took (λ d end. tt))

pub returns-in_default-clause-rewraps : goal.returns-in_default-clause-rewraps
returns-in_default-clause-rewraps g c =
    let text : c.as_slice.result.now ≡ c.in_ok-text.text.items = search rules in
    let wrote = rw text at c.in_default.ensures.text in
    let key = found_key c.in_ok-key.ensures.key in
    search (begun_rewraps, headed, c.in_ok-header.ensures.verdict, key, c.in_ok-text.ensures.ok, wrote)

pub returns-clause-rewraps : goal.returns-clause-rewraps
returns-clause-rewraps g c =
    let text : c.as_slice.result.now ≡ c.in_ok-text.text.items = search rules in
    let wrote = rw text at c.in-Ok.ensures.text in
    let key = found_key c.in_ok-key.ensures.key in
    search (copied_rewraps, headed, c.in_ok-header.ensures, key, c.in_ok-text.ensures.ok, wrote, c.copy_all.ensures)

pub returns-clause-quiet : goal.returns-clause-quiet
returns-clause-quiet g c = search (copies_late (c.copy_all.new.out ≡ c.args.out.now), c.copy_all.ensures.copies)

pub returns-in_err-header-clause-took : goal.returns-in_err-header-clause-took
returns-in_err-header-clause-took g c =
    let is : c.from_residual.result ≡ Err c.in_err-header.field-0.0 = search rules in
    rw is (search (read_took, c.in_err-header.ensures.most))

pub returns-in_err-key-clause-took : goal.returns-in_err-key-clause-took
returns-in_err-key-clause-took g c = search (headed_took, c.in_ok-header.ensures.verdict)

pub returns-in_err-text-clause-took : goal.returns-in_err-text-clause-took
returns-in_err-text-clause-took g c = search (headed_took, c.in_ok-header.ensures.verdict)

pub returns-in_err-buf-clause-took : goal.returns-in_err-buf-clause-took
returns-in_err-buf-clause-took g c = search (headed_took, c.in_ok-header.ensures.verdict)

pub returns-in_default-clause-took : goal.returns-in_default-clause-took
returns-in_default-clause-took g c =
    search (front_ahead, front_gave, c.in_ok-header.ensures.verdict, c.in_default.ensures.text)

pub returns-clause-took : goal.returns-clause-took
returns-clause-took g c =
    search (copied_took, c.in_ok-header.ensures.verdict, c.in-Ok.ensures.text, c.copy_all.ensures)
