use Rattle.std.proofs.Common.{◌≡◌, refl, rules, Err}
use Rattle.age_job.proofs.RefusalLemmas.{of_file_key}
use Rattle.age_job.proofs.small_files.read_file_key.Goals as goal

pub returns-in_err-read_just-in-Some-clause-fault : goal.returns-in_err-read_just-in-Some-clause-fault
returns-in_err-read_just-in-Some-clause-fault g c = λ inspects.
    let is : c.from_residual.result ≡ Err c.in_err-read_just-in-Some.field-0.0 = search rules in
    rw is (of_file_key c.args.job.now c.as_str.result.now c.in_err-read_just-in-Some.field-0.0.fault inspects
    (rw c.in-Some.is c.as_str.ensures.value) (rw c.in-Some.is refl) c.in_err-read_just-in-Some.ensures)
