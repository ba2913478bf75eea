use Rattle.age_commands.proofs.Common.{◌≡◌, ◌∷◌, ◌++◌, [], Ok, rules, ap, sym, ◌∙◌, map, slice_index_or, take_all, keyed_stanza}
use Rattle.age_commands.proofs.SecretLemmas.{wrapped_more}
use Rattle.age_commands.proofs.recipient.wrap_for_keys.Goals as goal

pub loop-key-preserved : goal.loop-key-preserved
loop-key-preserved c =
    let key = slice_index_or c.args.keys.now c.loop-key.key-index [] in
    let added : c.append.new.self.items ≡ c.loop-key.stanzas.items ++ c.in_ok-one.one.items = search rules in
    let wraps = rw c.new.ensures at c.in_ok-one.ensures in
    let one : c.in_ok-one.one.items ≡ keyed_stanza key c.args.salt c.args.file_key.now ∷ [] = cc wraps in
    search (wrapped_more, c.loop-key-test.true, added, one, c.loop-key.invariant)

pub returns : goal.returns
returns c =
    let all = take_all c.loop-key.key-index c.args.keys.now c.loop-key-test.false in
    ap Ok (sym (c.loop-key.invariant ∙ ap (map (λ k. keyed_stanza k c.args.salt c.args.file_key.now)) all))
