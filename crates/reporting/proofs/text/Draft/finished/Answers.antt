use Rattle.std.proofs.Common.{◌∙◌}
use Rattle.reporting.proofs.Texts.{text-filled}
use Rattle.reporting.proofs.text.Draft.finished.Goals as goal

pub returns : goal.returns
returns c = text-filled c.args.self.bytes.items (c.copy_from_slice.ensures.after ∙ c.as_slice.ensures.value) c.len-length.ensures.value
