use Rattle.std.proofs.Common.{ℕ, arith, subst, sym}
use Rattle.std.specs.Int.{IsGcd}
use Rattle.std.proofs.lemmas.Nat.Gcd.{IsGcd-from_zero, IsGcd-from_mod}
use Rattle.int_laws.proofs.divisors.greatest_common_divisor.Goals as goal

pub loop-y-preserved : goal.loop-y-preserved
loop-y-preserved c g h = c.loop-y.invariant g (IsGcd-from_mod _ _ g h)

pub returns : goal.returns
returns c = c.loop-y.invariant _ (IsGcd-from_zero _ _ (omega arith))

pub returns-then-y-from : goal.returns-then-y-from
returns-then-y-from c = subst (λ (g : ℕ). IsGcd c.args.a c.args.b g) (sym c.from-then-y-from.ensures) (c.loop-y.invariant _ c.small_divisor.ensures)
