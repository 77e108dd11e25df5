use Rattle.std.proofs.Common.{refl, arith}
use Rattle.gap_checks.proofs.GapPositions.{ascends-from, ascends-not}
use Rattle.gap_checks.proofs.rule_numbers.ascends.Goals as goal

pub returns-then-numbers-i : goal.returns-then-numbers-i
returns-then-numbers-i c =
    (λ e. absurd (let no : ⊥ = cc in no), λ a. absurd (ascends-not c.args.numbers.now c.loop-i.i c.loop-i.auto.i c.loop-i-test.true c.if-numbers-i.true a))

pub returns : goal.returns
returns c = (λ e. ascends-from c.args.numbers.now (λ k l. c.loop-i.invariant k (omega (arith, l, c.loop-i-test.false))), λ a. refl)
