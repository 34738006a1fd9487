use Rattle.std.proofs.Common.{◌∙◌}
use Rattle.reporting.proofs.Texts.{number_put}
use Rattle.reporting.proofs.text.Draft.append_number.Goals as goal

pub returns : goal.returns
returns c =
    let d = c.decimal-count in
    c.append.ensures ∙ number_put _ _ d.result c.push.ensures d.ensures.len d.ensures.digits
