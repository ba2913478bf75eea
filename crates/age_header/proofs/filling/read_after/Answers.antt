use Rattle.age_header.proofs.Common.{rules, seen_by, ◌≡◌, ◌++◌, ℕ, length, length-append, Result, Ok, Err, take-append-add, Bytes, Seen, flow, IfOk, take-append_seam, ReadsAtMost, DeviceFault, Gives, Got}
use Rattle.age_header.proofs.filling.read_after.Goals as goal

-- one read after a prefix
got_read : (r : Result ℕ DeviceFault) (at : ℕ) (buf prefix rest after : Bytes) (a b : Seen) → buf ≡ prefix ++ rest
    → length prefix ≡ at → length after ≡ length rest
    → ReadsAtMost r after → Gives (flow a b) r after → IfOk r (λ n. Got at n buf (prefix ++ after) (flow a b))
got_read (Err e) at buf prefix rest after a b is len size bound gives = tt
got_read (Ok n) at buf prefix rest after a b is len size bound gives =
    search (rules, length-append, take-append_seam, take-append-add)

pub returns-clause-bytes : goal.returns-clause-bytes
returns-clause-bytes g c =
    got_read c.read.result c.args.at c.args.buf.now c.split_at_mut-rest.result.0.now c.split_at_mut-rest.result.1.now
    c.read.new.buf (seen_by g.S.Source.to_come g.S.Source.gave c.args.input.now)
    (seen_by g.S.Source.to_come g.S.Source.gave c.read.new.self)
    (search rules) (search rules) (search rules) c.read.ensures.bound c.read.ensures.gave
