use Rattle.std.proofs.Common.{◌<◌, ◌^◌, take, arith, sym}
use Rattle.std.specs.Prelude.{ℤ, pos, unsigned_abs}
use Rattle.std.proofs.lemmas.Int.{ints}
use Rattle.std.proofs.lemmas.List.{take_all}
use Rattle.std.proofs.lemmas.List.Elements.{All-more, All-same}
use Rattle.programs_tests.proofs.certificates.are_row_numbers.Goals as goal

pub loop-number-preserved : goal.loop-number-preserved
loop-number-preserved c = All-more (λ (x : ℤ). unsigned_abs x < 2 ^ 63) c.args.numbers.now c.loop-number.number-index (pos 0) c.loop-number-test.true c.loop-number.invariant (omega (arith, ints))

pub returns : goal.returns
returns c = λ e. All-same (λ (x : ℤ). unsigned_abs x < 2 ^ 63) c.args.numbers.now (take c.loop-number.number-index c.args.numbers.now) (sym (take_all c.loop-number.number-index c.args.numbers.now (omega arith))) c.loop-number.invariant
