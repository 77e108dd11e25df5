-- The facts that lemmas state, and which of them a node may cite.
use Rattle.std.specs.Prelude.{◌≡◌, ℕ, zero, ◌≤◌, Bool, true, false, ◌&&◌, ◌==◌, List, [], ◌∷◌, ℤ, pos, Option}
use Rattle.std.specs.Prelude.{Some, None, nat_abs}
use Rattle.std.specs.Prelude.{if◌then◌else◌}
use Rattle.std.specs.List.{AllByRecursion, list_any}
use Rattle.std.specs.Ordering.{int_eq}
use Rattle.potentials.specs.model.Programs.{Program}
use Rattle.potentials.specs.model.Polynomials.{Polynomial, polynomial_value}
use Rattle.potentials.specs.model.Runs.{Config, Step, IsRun, last_rule, place_value}
use Rattle.potentials.specs.Sums.{Charge, charges, HoldsSum, HoldsPeak}
use Rattle.signed_bounds.specs.Bounds.{Signed, Constant, signed_val}
use Rattle.potential_nodes.specs.Lookup.{numbered}

-- a fact: a bound on the sum of charges, on a form at the steps of a rule, or on the absolute value at a place after a
-- rule
pub data SignedFact : Type 0 where
  SumFact : List Charge → Signed → SignedFact
  PeakFact : ℕ → Polynomial → Signed → SignedFact
  SizeFact : ℕ → ℕ → Signed → SignedFact

-- after every run whose last step is by the rule, the absolute value at the place is at most the bound; for the virtual
-- entry, after the runs without a step
pub record HoldsSignedSize (p : Program) (rule place : ℕ) (bound : List ℤ → ℕ) : Type 0 where
  pub each : (start : List ℤ) (steps : List Step) (c : Config) → IsRun p start steps c → last_rule steps ≡ rule
      → nat_abs (place_value c place) ≤ bound start

-- the fact holds on all runs
abbrev pub HoldsSigned : Program → SignedFact → Type 0
HoldsSigned p (SumFact goal b) = HoldsSum p (charges goal) (signed_val b)
HoldsSigned p (PeakFact rule form b) = HoldsPeak p rule (λ env. polynomial_value form env) (signed_val b)
HoldsSigned p (SizeFact rule place b) = HoldsSignedSize p rule place (signed_val b)

-- all facts of a list hold
abbrev pub AllSignedHold : Program → List SignedFact → Type 0
AllSignedHold p facts = AllByRecursion (λ fact. HoldsSigned p fact) facts

-- whether two lists of variables are the same, two polynomials, two lists of charges
abbrev pub same_variables : List ℕ → List ℕ → Bool
same_variables [] [] = true
same_variables [] (w ∷ ws) = false
same_variables (v ∷ vs) [] = false
same_variables (v ∷ vs) (w ∷ ws) = (v == w) && same_variables vs ws

abbrev pub same_polynomial : Polynomial → Polynomial → Bool
same_polynomial [] [] = true
same_polynomial [] (n ∷ ns) = false
same_polynomial (m ∷ ms) [] = false
same_polynomial (m ∷ ms) (n ∷ ns) = (int_eq m.coef n.coef && same_variables m.vars n.vars) && same_polynomial ms ns

abbrev pub same_charge : Charge → Charge → Bool
same_charge c d = (c.rule == d.rule) && same_polynomial c.form d.form

abbrev pub same_charges : List Charge → List Charge → Bool
same_charges [] [] = true
same_charges [] (d ∷ ds) = false
same_charges (c ∷ cs) [] = false
same_charges (c ∷ cs) (d ∷ ds) = same_charge c d && same_charges cs ds

-- the bound of a fact, if the fact is on the sum of just these charges
abbrev pub sum_bound_in : List Charge → Option SignedFact → Option Signed
sum_bound_in goal (Some (SumFact goal' b)) = if same_charges goal goal' then Some b else None
sum_bound_in goal _ = None

-- the bound of a fact, if the fact is on just this form at the steps of the rule
abbrev pub peak_bound_in : ℕ → Polynomial → Option SignedFact → Option Signed
peak_bound_in rule form (Some (PeakFact rule' form' b)) =
    if (rule == rule') && same_polynomial form form' then Some b else None
peak_bound_in rule form _ = None

-- the bound that the fact with a number states on a sum of charges, and on a form at the steps of a rule
abbrev pub sum_bound : List SignedFact → List Charge → ℕ → Option Signed
sum_bound facts goal n = sum_bound_in goal (numbered facts n)

abbrev pub peak_bound : List SignedFact → ℕ → Polynomial → ℕ → Option Signed
peak_bound facts rule form n = peak_bound_in rule form (numbered facts n)

-- the polynomial 1, and the charge of 1 for each step by a rule
abbrev pub one_form : Polynomial
one_form = record { coef = pos 1; vars = [] } ∷ []

abbrev pub once_charge : ℕ → Charge
once_charge t = record { rule = t; form = one_form }

-- whether a fact says that a rule never occurs: its steps, each counted once, are at most 0
abbrev pub says_never : ℕ → SignedFact → Bool
says_never t (SumFact goal (Constant zero)) = same_charges (once_charge t ∷ []) goal
says_never t _ = false

-- whether some fact says that a rule never occurs
abbrev pub is_never : List SignedFact → ℕ → Bool
is_never facts t = list_any (says_never t) facts
