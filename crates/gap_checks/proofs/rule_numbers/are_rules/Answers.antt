use Rattle.std.proofs.Common.{refl}
use Rattle.std.proofs.lemmas.List.Elements.{All-more}
use Rattle.its_model.specs.Views.{program_of}
use Rattle.cert_types.specs.cert_rules.AcceptsPlain.{IsRule}
use Rattle.gap_checks.proofs.GapPositions.{all-done}
use Rattle.gap_checks.proofs.rule_numbers.are_rules.Goals as goal

pub loop-number-preserved : goal.loop-number-preserved
loop-number-preserved c =
    All-more (IsRule (program_of c.args.p.now)) c.args.numbers.now c.loop-number.number-index 0 c.loop-number-test.true
    c.loop-number.invariant (c.is_rule-fits.ensures.0 c.if-not-fits.false)

pub returns : goal.returns
returns c = (
  λ e. all-done (IsRule (program_of c.args.p.now)) c.args.numbers.now c.loop-number.number-index c.loop-number-test.false c.loop-number.invariant,
  λ h. refl,
)
