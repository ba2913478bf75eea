use Rattle.agefile.proofs.Common.{◌≤◌, length, arith, Some, None, refl, by_file_key, opened_len}
use Rattle.agefile.proofs.DecryptingLemmas.{decrypts_opened, no_room}
use Rattle.agefile.proofs.UnlockLemmas.{start_within}
use Rattle.agefile.proofs.decrypting.agefile_decrypt.Goals as goal

pub split_at-requires : goal.split_at-requires
split_at-requires c = search (start_within, c.in-Ok.ensures)

pub returns-then-room-out : goal.returns-then-room-out
returns-then-room-out c =
    let less = c.if-room-out.true in
    let room = rw c.split_at.ensures.back at c.opened_len-room.ensures in
    search (no_room, c.in-Ok.ensures, room, c.of_len.ensures, less)

pub returns-in-Some : goal.returns-in-Some
returns-in-Some c =
    let room : opened_len (length c.split_at.result.1.now) ≤ length c.args.out.now =
    omega (arith, c.opened_len-room.ensures, c.if-room-out.false) in
    decrypts_opened (by_file_key c.args.file_key.now) c.args.out.now c.open_pieces-len.new.out
    c.open_pieces-len.result.0 c.in-Ok.start (Some c.in-Some.fault) c.in-Ok.ensures (rw c.split_at.ensures.back at room)
    (rw (c.in-Some.is, c.split_at.ensures.back) at c.open_pieces-len.ensures) c.open_pieces-len.auto.out
    (rw c.from.ensures at c.report_fault.ensures.reported) (rw c.from.ensures at c.report_fault.ensures.returned)

pub returns : goal.returns
returns c =
    let room : opened_len (length c.split_at.result.1.now) ≤ length c.args.out.now =
    omega (arith, c.opened_len-room.ensures, c.if-room-out.false) in
    decrypts_opened (by_file_key c.args.file_key.now) c.args.out.now c.open_pieces-len.new.out
    c.open_pieces-len.result.0 c.in-Ok.start None c.in-Ok.ensures (rw c.split_at.ensures.back at room)
    (rw (c.in-None.is, c.split_at.ensures.back) at c.open_pieces-len.ensures) c.open_pieces-len.auto.out
    c.of_len-in-None.ensures refl
