use Rattle.age_header.proofs.Common.{[], ◌∷◌, ◌++◌, refl, Bytes, base64_of, mac_end, err_from_is_err_and}
use Rattle.age_header.proofs.DeviceLemmas.{done_start, done_more, done_part, writes_last}
use Rattle.age_header.proofs.writer.write_mac.Goals as goal

pub returns-in_err-write_all-clause-text : goal.returns-in_err-write_all-clause-text
unfolding mac_end
returns-in_err-write_all-clause-text g c =
    let mac : Bytes = c.args.mac.now in
    rw (err_from_is_err_and c.from_residual.result c.from_residual.ensures.1).1
    (done_part (g.W.Sink.taken c.write_all.new.out) (32 ∷ []) (base64_of mac ++ 10 ∷ []) (done_start (mac_end mac)) refl
    c.in_err-write_all.ensures.text)

pub returns-in_err-write_base64-clause-text : goal.returns-in_err-write_base64-clause-text
unfolding mac_end
returns-in_err-write_base64-clause-text g c =
    let mac : Bytes = c.args.mac.now in
    let one = done_more (32 ∷ []) (done_start (mac_end mac)) refl c.in_ok-write_all.ensures.text in
    rw (err_from_is_err_and c.from_residual-in_err-write_base64.result c.from_residual-in_err-write_base64.ensures.1).1
    (done_part (g.W.Sink.taken c.write_base64.new.out) (base64_of mac) (10 ∷ []) one refl
    c.in_err-write_base64.ensures.text)

pub returns-clause-text : goal.returns-clause-text
unfolding mac_end
returns-clause-text g c =
    let mac : Bytes = c.args.mac.now in
    let one = done_more (32 ∷ []) (done_start (mac_end mac)) refl c.in_ok-write_all.ensures.text in
    let two = done_more (base64_of mac) one refl c.in_ok-write_base64.ensures.text in
    search (writes_last, two, c.write_all-2.ensures.text)
