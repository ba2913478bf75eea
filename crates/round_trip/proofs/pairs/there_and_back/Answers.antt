use Rattle.round_trip.proofs.pairs.there_and_back.Goals as goal

pub returns-in-Ok-decrypted-clause-back : goal.returns-in-Ok-decrypted-clause-back
returns-in-Ok-decrypted-clause-back g c =
    let (stanzas, wraps, file) = c.in-Ok.ensures.file in
    let opens = c.pair_opens.ensures c.args.limits.now c.args.fresh.now.file_key stanzas c.args.plain.now
    c.in-Ok.file.items c.has_sixteen_bytes.ensures (rw c.requires.recipient at wraps) file in
    c.in-Ok-decrypted.ensures.text c.args.plain.now (rw (c.as_slice.ensures.value, c.requires.identity) opens)

pub returns-clause-lost : goal.returns-clause-lost
returns-clause-lost g c =
    let (stanzas, wraps, file) = c.in-Ok.ensures.file in
    let opens = c.pair_opens.ensures c.args.limits.now c.args.fresh.now.file_key stanzas c.args.plain.now
    c.in-Ok.file.items c.has_sixteen_bytes.ensures (rw c.requires.recipient at wraps) file in
    c.in-Err-decrypted.ensures.lost c.args.plain.now (rw (c.as_slice.ensures.value, c.requires.identity) opens)

pub returns-in-Err-clause-lost : goal.returns-in-Err-clause-lost
returns-in-Err-clause-lost g c =
    rw c.requires.recipient at c.in-Err.ensures.lost
