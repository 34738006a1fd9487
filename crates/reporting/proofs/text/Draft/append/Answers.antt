use Rattle.std.proofs.Common.{◌+◌, drop, sym, ap, ◌∙◌}
use Rattle.std.proofs.Math.ListN.{drop_of_length-le}
use Rattle.reporting.specs.Steps.{appended}
use Rattle.reporting.proofs.Texts.{appended-none, appended-step}
use Rattle.reporting.proofs.text.Draft.append.Goals as goal

pub loop-byte-preserved : goal.loop-byte-preserved
loop-byte-preserved c =
    let l = c.loop-byte in
    let word = c.args.word.now in
    ap (λ t. appended t (drop (l.byte-index + 1) word)) c.push-text.ensures ∙ appended-step l.text.bytes.items word l.byte-index c.loop-byte-test.true ∙ l.invariant

pub returns : goal.returns
returns c =
    let l = c.loop-byte in
    let word = c.args.word.now in
    sym (appended-none l.text.bytes.items) ∙ ap (appended l.text.bytes.items) (sym (drop_of_length-le word {i = l.byte-index} c.loop-byte-test.false)) ∙ l.invariant
