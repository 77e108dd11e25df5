use Rattle.std.proofs.Common.{◌≤◌, take, arith, sym}
use Rattle.std.specs.Prelude.{ℤ, pos, unsigned_abs}
use Rattle.std.proofs.lemmas.Int.{ints}
use Rattle.std.proofs.lemmas.List.{take_all}
use Rattle.std.proofs.lemmas.List.Elements.{All-more, All-same}
use Rattle.linear_forms.specs.Limits.{point_limit}
use Rattle.programs_tests.proofs.certificates.are_parts.Goals as goal

pub loop-part-preserved : goal.loop-part-preserved
loop-part-preserved c = All-more (λ (x : ℤ). unsigned_abs x ≤ point_limit) c.args.parts.now c.loop-part.part-index (pos 0) c.loop-part-test.true c.loop-part.invariant (omega (arith, ints))

pub returns : goal.returns
returns c = λ e. All-same (λ (x : ℤ). unsigned_abs x ≤ point_limit) c.args.parts.now (take c.loop-part.part-index c.args.parts.now) (sym (take_all c.loop-part.part-index c.args.parts.now (omega arith))) c.loop-part.invariant
