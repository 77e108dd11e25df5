use Rattle.std.proofs.Common.{◌*◌, ◌<◌, ◌≤◌, subst, sym, arith}
use Rattle.std.specs.Prelude.{ℤ, pos, nat_abs, ◌<ℤ◌, FitsSigned}
use Rattle.std.specs.Int.{w128}
use Rattle.std.proofs.lemmas.Int.{quot_is, rem_is, quot_rem_is, quot_fits, rem_below}
use Rattle.poly_terms.specs.Wide.{base}
use Rattle.poly_terms.proofs.WideLaws.{quotient-size}
use Rattle.poly_terms.proofs.wide.split.Goals as goal

-- 2^64 fits in 128 bits
base_fits : FitsSigned w128 (pos base)
base_fits = record { sfits = omega arith }

positive : pos 0 <ℤ pos base
positive = record { lt = tt }

pub returns-clause-value : goal.returns-clause-value
returns-clause-value c = quot_rem_is w128 c.args.z (pos base) c.ranges.z base_fits (quot_fits w128 c.args.z (pos base) c.ranges.z positive)

pub returns-clause-high : goal.returns-clause-high
returns-clause-high c =
    subst (λ (q : ℤ). nat_abs q * base ≤ nat_abs c.args.z)
    (sym (quot_is w128 c.args.z (pos base) c.ranges.z base_fits (quot_fits w128 c.args.z (pos base) c.ranges.z positive)))
    (quotient-size c.args.z)

pub returns-clause-low : goal.returns-clause-low
returns-clause-low c =
    subst (λ (q : ℤ). nat_abs q < base) (sym (rem_is w128 c.args.z (pos base) c.ranges.z base_fits))
    (rem_below c.args.z (pos base) (omega arith))
