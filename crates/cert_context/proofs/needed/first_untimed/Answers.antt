use Rattle.std.proofs.Common.{arith}
use Rattle.std.proofs.lemmas.List.Elements.{All-more}
use Rattle.gap_checks.proofs.GapFaults.{failing-at}
use Rattle.gap_checks.proofs.GapPositions.{all-done}
use Rattle.cert_context.specs.Needed.{HasTime}
use Rattle.cert_context.proofs.needed.first_untimed.Goals as goal

pub returns-then-not-fits : goal.returns-then-not-fits
returns-then-not-fits g c =
    failing-at (HasTime (g.K.Known.table c.args.known.now)) c.args.rules.now c.loop-rule.rule-index 0 c.loop-rule-test.true
    c.loop-rule.invariant (λ h. let f = c.has_time-fits.ensures.1 h in let no : ⊥ = cc in no)

pub loop-rule-preserved : goal.loop-rule-preserved
loop-rule-preserved g c =
    All-more (HasTime (g.K.Known.table c.args.known.now)) c.args.rules.now c.loop-rule.rule-index 0 c.loop-rule-test.true
    c.loop-rule.invariant (c.has_time-fits.ensures.0 c.if-not-fits.false)

pub returns : goal.returns
returns g c =
    all-done (HasTime (g.K.Known.table c.args.known.now)) c.args.rules.now c.loop-rule.rule-index
    (omega (arith, c.loop-rule-test.false)) c.loop-rule.invariant
