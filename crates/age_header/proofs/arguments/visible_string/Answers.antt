use Rattle.age_header.proofs.Common.{IsUtf8-from_ascii, false≢true, sym, subst, Bytes, IsUtf8}
use Rattle.age_header.proofs.ArgumentsLemmas.{visible_ascii}
use Rattle.age_header.proofs.arguments.visible_string.Goals as goal

pub unreachable-requires : goal.unreachable-requires
unreachable-requires c =
    let text = IsUtf8-from_ascii c.args.text.now (visible_ascii c.args.text.now c.requires) in
    false≢true (c.in-Err.ensures.succeeds (subst (λ (x : Bytes). IsUtf8 x) (sym c.in_ok-from_slice.ensures.items) text))
