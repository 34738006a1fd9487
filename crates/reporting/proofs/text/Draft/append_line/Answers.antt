use Rattle.std.proofs.Common.{[], ◌∷◌, ap, ◌∙◌}
use Rattle.reporting.specs.Text.{spaced}
use Rattle.reporting.specs.Steps.{pushed, appended}
use Rattle.reporting.proofs.Texts.{line-put}
use Rattle.reporting.proofs.text.Draft.append_line.Goals as goal

pub returns : goal.returns
returns c =
    let n = c.args.n in
    c.push.ensures ∙ ap (λ t. pushed t 10) (c.append_number.ensures ∙ ap (λ t. appended t (spaced (n ∷ []))) c.append.ensures) ∙ line-put _ _ _
