use Rattle.age_recipient.proofs.Common.{◌∙◌}
use Rattle.age_recipient.proofs.LabelLemmas.{same_bytes}
use Rattle.age_recipient.proofs.labels.LabelSetClone.clone.Goals as goal

pub returns : goal.returns
returns c = record { cases = same_bytes _ _ c.in_ok-names.ensures.cases ∙ c.self.view_is }
