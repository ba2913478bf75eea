use Rattle.std.proofs.Common.{◌≡◌, arith, inr, rules, Err}
use Rattle.age_job.proofs.small_files.read_keys.Goals as goal

pub returns-in_err-key-clause-fault : goal.returns-in_err-key-clause-fault
returns-in_err-key-clause-fault g c =
    let is : c.from_residual-in_err-key.result ≡ Err c.in_err-key.field-0.0 = search rules in
    rw is (inr (omega (arith, c.loop-name-test.true), (c.as_str-name.result.now, c.in_err-key.ensures)))
