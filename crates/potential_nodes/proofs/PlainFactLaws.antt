-- Facts over absolute start values hold as signed facts.
use Rattle.std.proofs.Common.{◌≡◌, ◌≢◌, ◌⊎◌, inl, inr, ℕ, ◌≤◌, ◌==◌, true, false, List, [], ◌∷◌, refl, sym, arith}
use Rattle.std.specs.Prelude.{ℤ}
use Rattle.potentials.specs.model.Programs.{Program}
use Rattle.potentials.specs.model.Runs.{Step, count}
use Rattle.potentials.specs.model.Bounds.{Constant, Input}
use Rattle.potentials.specs.model.Facts.{Time, Size, Cost}
use Rattle.potentials.specs.model.WorkedRuns.{countdown}
use Rattle.potentials.specs.model.WorkedCosts.{paying}
use Rattle.potentials.specs.Sums.{charges, weighed}
use Rattle.potentials.proofs.model.WorkedCosts.{costs_hold}
use Rattle.signed_bounds.specs.Inputs.{SignedBoundsKeepValues}
use Rattle.potential_nodes.specs.Facts.{once_charge}
use Rattle.potential_nodes.specs.PlainFacts.{PlainFactsHold, SignedCostsAreCosts}
use Rattle.potential_nodes.specs.WorkedCosts.{CostsAreWorkedOut}
use Rattle.potential_nodes.proofs.CostLaws.{spent-charged}
use Rattle.std.proofs.lemmas.Bool.Decides.{eqb_tells}
use Rattle.potentials.proofs.model.RunLaws.{one_if_same-same}

-- the sum of 1 for each step by a rule is at most how often it occurs
pub once-counted : (p : Program) (t : ℕ) (start : List ℤ) (steps : List Step)
    → weighed p (charges (once_charge t ∷ [])) start steps ≤ count t steps
once-counted p t start [] = omega arith
once-counted p t start (s ∷ earlier) = go (eqb_tells t s.rule) (once-counted p t start earlier)
  where
    go : ((t == s.rule) ≡ true) × (t ≡ s.rule) ⊎ ((t == s.rule) ≡ false) × (t ≢ s.rule)
        → weighed p (charges (once_charge t ∷ [])) start earlier ≤ count t earlier
        → weighed p (charges (once_charge t ∷ [])) start (s ∷ earlier) ≤ count t (s ∷ earlier)
    go (inl (test, same)) ih = let one = one_if_same-same s.rule t (sym same) in rw test (omega (arith, ih, one))
    go (inr (test, other)) ih = rw test (omega (arith, ih))

pub plain-facts : SignedBoundsKeepValues → PlainFactsHold
plain-facts keep p (Time t b) holds = record {
  each = λ start steps c run.
      let counted = once-counted p t start steps in
      let time = holds.each start steps c run in
      let same = keep.each b start in
      omega (arith, counted, time, same);
}
plain-facts keep p (Size t i b) holds = record {
  each = λ start steps c run last.
      let size = holds.each start steps c run last in
      let same = keep.each b start in
      omega (arith, size, same);
}
plain-facts keep p (Cost t b) holds = record {
  each = λ start steps c run.
      let sum = spent-charged p t start steps in
      let cost = holds.each start steps c run in
      let same = keep.each b start in
      omega (arith, sum, cost, same);
}

pub signed-costs : SignedBoundsKeepValues → SignedCostsAreCosts
signed-costs keep = record {
  each = λ p t b holds. record {
    each = λ start steps c run.
        let sum = spent-charged p t start steps in
        let cost = holds.each start steps c run in
        let same = keep.each b start in
        omega (arith, sum, cost, same);
  };
}

-- the worked values of facts on costs hold
pub costs-worked_out : SignedBoundsKeepValues → CostsAreWorkedOut
costs-worked_out keep = record {
  entering = refl;
  rounds = refl;
  none_written = refl;
  no_rule = refl;
  entry = refl;
  entering_holds = plain-facts keep paying (Cost 1 (Input 0)) costs_hold.entering;
  entering_less = λ h. costs_hold.entering_less ((signed-costs keep).each paying 1 (Constant 2) h);
  entering_by_other = λ h. costs_hold.entering_by_other ((signed-costs keep).each paying 1 (Input 1) h);
  rounds_hold = plain-facts keep paying (Cost 2 (Input 1)) costs_hold.rounds;
  rounds_less = λ h. costs_hold.rounds_less ((signed-costs keep).each paying 2 (Constant 6) h);
  plain_holds = plain-facts keep countdown (Cost 2 (Constant 9)) costs_hold.plain;
  plain_less = λ h. costs_hold.plain_less ((signed-costs keep).each countdown 2 (Constant 2) h);
}
