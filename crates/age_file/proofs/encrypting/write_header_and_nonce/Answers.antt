use Rattle.age_file.proofs.Common.{◌++◌, refl, err_from_is_err_and, done_start, done_more, writes_last}
use Rattle.age_file.proofs.CopiesLemmas.{part_more}
use Rattle.age_file.proofs.encrypting.write_header_and_nonce.Goals as goal

pub returns-in_err-write_header-clause-text : goal.returns-in_err-write_header-clause-text
returns-in_err-write_header-clause-text g c =
    let (text, head, part) = c.in_err-write_header.ensures.text in
    let is = (err_from_is_err_and c.from_residual.result c.from_residual.ensures.1).1 in
    (text, head, rw is (part_more _ text c.args.nonce.now part))

pub returns-clause-text : goal.returns-clause-text
returns-clause-text g c =
    let (text, head, put) = c.in_ok-write_header.ensures.text in
    let one = done_more text (done_start (text ++ c.args.nonce.now)) refl put in
    (text, head, search (writes_last, one, c.write_all.ensures.text))
