use Rattle.age_recipient.proofs.Common.{◌∙◌, ap, list_any, bytes_eq, string_bytes, take_all, btree_set_updates_text}
use Rattle.age_recipient.proofs.LabelLemmas.{any_bytes, any_now, one_more, ordered_bytes}
use Rattle.age_recipient.proofs.labels.LabelSet.new.Goals as goal

pub loop-text-preserved : goal.loop-text-preserved
loop-text-preserved c = (
  c.in_ok-insert.ensures.ordered,
  λ text.
      one_more c.args.texts.now _ text c.loop-text-test.true c.in_ok-name.ensures.ok
      (btree_set_updates_text (string_bytes c.in_ok-name.name) _ _ _ c.in_ok-insert.ensures.updates text)
      (c.loop-text.invariant.1 text),
)

pub returns : goal.returns
returns c = record {
  ordered = ordered_bytes c.loop-text.names.keys c.loop-text.invariant.0;
  members = λ text. any_bytes text c.loop-text.names.keys ∙ c.loop-text.invariant.1 text
      ∙ ap (list_any (λ t. bytes_eq text t.now)) (take_all _ _ c.loop-text-test.false) ∙ any_now text c.args.texts.now;
}
