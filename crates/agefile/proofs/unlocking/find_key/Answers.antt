use Rattle.std.proofs.Common.{◌≡◌, refl, rules, Err}
use Rattle.std.proofs.lemmas.Result.{err_from_is_err_and}
use Rattle.agefile.proofs.HeaderLemmas.{header_found}
use Rattle.agefile.proofs.UnlockLemmas.{fronts, key_found, key_locked, key_none}
use Rattle.agefile.proofs.unlocking.find_key.Goals as goal

pub returns-in_err-header : goal.returns-in_err-header
returns-in_err-header g c =
    let found = header_found _ (Err c.in_err-header.field-0.0) c.new-source.ensures c.in_err-header.ensures.reads
    (rw c.limits.ensures at c.in_err-header.ensures.verdict) in
    let is : c.from_residual.result ≡ Err c.in_err-header.field-0.0 = search rules in
    rw is (search (key_none, found))

pub returns-in_err-key : goal.returns-in_err-key
returns-in_err-key g c =
    let f = fronts {rest = c.inspect.new.input.rest.now} c.new-source.ensures refl
    (rw c.limits.ensures at c.in_ok-header.ensures.verdict) in
    let p = err_from_is_err_and c.from_residual-in_err-key.result c.from_residual-in_err-key.ensures.1 in
    rw (p.1, p.2) (search (key_locked, f, c.in_err-key.ensures.key))

pub returns : goal.returns
returns g c =
    let f = fronts c.new-source.ensures c.rest.ensures (rw c.limits.ensures at c.in_ok-header.ensures.verdict) in
    search (key_found, f, c.in_ok-key.ensures.key)
