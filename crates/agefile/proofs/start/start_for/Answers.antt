use Rattle.std.proofs.Common.{◌≡◌, rules, Err}
use Rattle.agefile.proofs.UnlockLemmas.{key_in_front, start_cut, start_failed, start_found}
use Rattle.agefile.proofs.start.start_for.Goals as goal

pub returns-in_err-found : goal.returns-in_err-found
returns-in_err-found g c =
    let is : c.from_residual.result ≡ Err c.in_err-found.field-0.0 = search rules in
    rw is (search (start_failed, c.in_err-found.ensures))

pub split_at-requires : goal.split_at-requires
split_at-requires g c =
    search (key_in_front, c.in_ok-found.ensures)

pub returns-then-rest-lt-NONCE_SIZE : goal.returns-then-rest-lt-NONCE_SIZE
returns-then-rest-lt-NONCE_SIZE g c =
    search (start_cut, c.in_ok-found.ensures, c.split_at.ensures.back, c.if-rest-lt-NONCE_SIZE.true)

pub returns : goal.returns
returns g c =
    let nonce = c.copy_from_slice.ensures.after in
    let long = c.if-rest-lt-NONCE_SIZE.false in
    search (start_found, c.in_ok-found.ensures, c.split_at.ensures.back, long, nonce, c.payload_key.ensures)
