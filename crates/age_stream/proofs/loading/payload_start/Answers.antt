use Rattle.age_stream.proofs.Common.{rules, arith, length, ◌≡◌, subst, take_all, Bytes, GaveAt}
use Rattle.age_stream.proofs.loading.payload_start.Goals as goal

pub returns-clause-read : goal.returns-clause-read
returns-clause-read g c =
    let nonce : Bytes = c.read_full.new.buf in
    let len : length nonce ≡ 16 = search rules in
    subst (GaveAt (g.D.ReadAt.gave c.read_full.new.dev) c.args.at) (take_all 16 nonce (omega (arith, len)))
    c.in-Ok-read_full.ensures.read
