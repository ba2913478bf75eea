use Rattle.std.proofs.Common.{◌≡◌, arith, length, rules}
use Rattle.agefile.proofs.SealingLemmas.{encrypts_exceeds, encrypts_whole}
use Rattle.agefile.proofs.sealing.agefile_encrypt.Goals as goal

pub returns-then-size-out : goal.returns-then-size-out
returns-then-size-out c =
    let len : c.len.result ≡ length c.in-Ok.header.items = search rules in
    encrypts_exceeds c.in-Ok.header c.agefile_file_len-size.result c.in-Ok.ensures (search rules) (search rules)
    (search rules) (rw len at c.agefile_file_len-size.ensures.value) c.of_len.ensures c.if-size-out.true

pub returns : goal.returns
returns c =
    let len : c.len.result ≡ length c.in-Ok.header.items = search rules in
    encrypts_whole c.write_file.new.file c.in-Ok.header c.agefile_file_len-size.result c.in-Ok.ensures (search rules)
    (search rules) (search rules) (rw len at c.agefile_file_len-size.ensures.value) c.of_len.ensures
    (omega (arith, c.if-size-out.false))
    (rw c.as_slice.ensures.value at c.write_file.ensures) c.split_at_mut-file.ensures.back
