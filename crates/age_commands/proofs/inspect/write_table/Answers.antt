use Rattle.age_commands.proofs.InspectLemmas.{tabled}
use Rattle.age_commands.proofs.inspect.write_table.Goals as goal

pub returns : goal.returns
returns g c =
    let has = g.W.Write.contents in
    tabled c.args.check (has c.args.out.now) (has c.write.new.self) (has c.write_rows.new.out)
    (has c.write_all.new.self) (has c.write_all-2.new.self) (has c.write-2.new.self) c.mac_signs.result c.write-2.result
    c.text_len-len.ensures.2 c.mac_signs.ensures c.text_len-len.ensures.1
    (rw c.stanzas.ensures.value at c.in_ok-write.ensures.bytes)
    (rw c.stanzas-2.ensures.value at c.in_ok-write_rows.ensures) c.in_ok-write_all.ensures.bytes
    c.in_ok-write_all-2.ensures.bytes c.write-2.ensures.bytes
