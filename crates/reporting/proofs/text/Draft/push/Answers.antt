use Rattle.reporting.proofs.Texts.{pushed-tried}
use Rattle.reporting.proofs.text.Draft.push.Goals as goal

pub returns : goal.returns
returns c = let t = c.try_push.ensures in pushed-tried c.try_push.result _ _ _ t.variant.0 t.ok t.full t.err
