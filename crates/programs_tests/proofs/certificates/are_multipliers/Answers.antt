use Rattle.std.proofs.Common.{ℕ, ◌≤◌, take, arith, sym}
use Rattle.std.proofs.lemmas.List.{take_all}
use Rattle.std.proofs.lemmas.List.Elements.{All-more, All-same}
use Rattle.linear_forms.specs.Limits.{certificate_limit}
use Rattle.programs_tests.proofs.certificates.are_multipliers.Goals as goal

pub loop-multiplier-preserved : goal.loop-multiplier-preserved
loop-multiplier-preserved c = All-more (λ (x : ℕ). x ≤ certificate_limit) c.args.multipliers.now c.loop-multiplier.multiplier-index 0 c.loop-multiplier-test.true c.loop-multiplier.invariant (omega arith)

pub returns : goal.returns
returns c = λ e. All-same (λ (x : ℕ). x ≤ certificate_limit) c.args.multipliers.now (take c.loop-multiplier.multiplier-index c.args.multipliers.now) (sym (take_all c.loop-multiplier.multiplier-index c.args.multipliers.now (omega arith))) c.loop-multiplier.invariant
