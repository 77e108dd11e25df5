-- Bounds that are at least others.
use Rattle.std.proofs.Common.{◌≡◌, ◌≤◌, Bool, true, List, arith}
use Rattle.std.specs.Prelude.{ℤ}
use Rattle.potentials.specs.model.Programs.{Program}
use Rattle.potentials.specs.model.Polynomials.{polynomial_value}
use Rattle.potentials.specs.Sums.{charges}
use Rattle.potentials.specs.model.Terms.{Term}
use Rattle.potentials.proofs.NodeLaws.{bounds_above, peak_bounds_above}
use Rattle.signed_bounds.specs.Bounds.{Signed, signed_val}
use Rattle.signed_bounds.specs.Safe.{IsSafe}
use Rattle.signed_bounds.specs.Within.{within, WithinHolds}
use Rattle.potential_nodes.specs.Facts.{SignedFact, SumFact, PeakFact, SizeFact, HoldsSigned}
use Rattle.potential_nodes.specs.Combinations.{with_other_bound, bound_of}

-- if a bound is within another one, its value is at most the other's
pub within-above : WithinHolds → (is_safe : Term → Bool) → IsSafe is_safe → (a b : Signed)
    → within is_safe 1 a b ≡ true → (start : List ℤ) → signed_val a start ≤ signed_val b start
within-above within_holds is_safe safe a b test start =
    within_holds.each is_safe safe 1 a b (omega arith) test start (signed_val a start) (omega arith)

-- a fact holds with a bound that is at least its own
pub fact-above : (p : Program) (fact : SignedFact) (b : Signed)
    → ((start : List ℤ) → signed_val (bound_of fact) start ≤ signed_val b start) → HoldsSigned p fact
    → HoldsSigned p (with_other_bound fact b)
fact-above p (SumFact goal a) b less holds = bounds_above p (charges goal) (signed_val a) (signed_val b) less holds
fact-above p (PeakFact rule form a) b less holds =
    peak_bounds_above p rule (λ env. polynomial_value form env) (signed_val a) (signed_val b) less holds
fact-above p (SizeFact rule place a) b less holds = record {
  each = λ start steps c run last.
      let one = holds.each start steps c run last in
      let two = less start in
      omega (arith, one, two);
}
