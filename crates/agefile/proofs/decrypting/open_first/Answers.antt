use Rattle.std.proofs.Common.{◌++◌, ◌∙◌, ◌≡◌, ap, rules, Err}
use Rattle.agefile.proofs.DecryptingLemmas.{first_fault, first_given, first_is}
use Rattle.agefile.proofs.decrypting.open_first.Goals as goal

pub returns-clause-gives : goal.returns-clause-gives
returns-clause-gives c =
    let piece = c.copy_from_slice.ensures.after ∙ c.split_at.ensures.front in
    let text = c.copy_from_slice-2.ensures.after ∙ c.split_at-2.ensures.front in
    let put = ap (λ d. c.copy_from_slice-2.new.self ++ d) c.split_at_mut-front.ensures.back in
    search (first_given, first_is, c.min-size.ensures, piece, c.in_ok-len.ensures.text, text, put)

pub returns-in_err-len-clause-gives : goal.returns-in_err-len-clause-gives
returns-in_err-len-clause-gives c =
    let piece = c.copy_from_slice.ensures.after ∙ c.split_at.ensures.front in
    let is : c.from_residual.result ≡ Err c.in_err-len.field-0.0 = search rules in
    search (is, first_fault, first_is, c.min-size.ensures, piece, c.in_err-len.ensures.text)
