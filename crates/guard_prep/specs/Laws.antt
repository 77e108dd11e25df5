-- Steps are points of the rows, and tightening preserves integer solutions.
use Rattle.std.specs.Prelude.{◌≡◌, ◌↔◌, ℕ, ◌+◌, ◌≤◌, ◌<◌, false, if◌then◌else◌, List, [], ◌∷◌, ◌++◌, length, map, ℤ}
use Rattle.std.specs.Prelude.{pos, ◌≤ℤ◌, nat_abs, Some, ⊤}
use Rattle.std.specs.List.{All, AllByRecursion}
use Rattle.poly_terms.specs.model.Limits.{place_limit, variable_limit, atom_limit, coefficient_limit}
use Rattle.poly_terms.specs.model.Terms.{Term, value}
use Rattle.poly_terms.specs.model.Programs.{Atom, Always, Compare, Rule, Program, rule_at, AtomHolds, GuardHolds}
use Rattle.poly_terms.specs.model.Runs.{Config, Step, IsStep, Leads}
use Rattle.poly_terms.specs.model.Costs.{cost_rule}
use Rattle.poly_terms.specs.linear_forms.Forms.{Form, at, form_value}
use Rattle.poly_terms.specs.linear_forms.Points.{Meets, IsPoint}
use Rattle.farkas_cert.specs.Sizes.{HasRowNumbers, AreSmall}
use Rattle.poly_terms.specs.Expanding.{expanded}
use Rattle.its_model.specs.Valid.{IsValid, IsValidAtom, IsValidTerm, difference_of}
use Rattle.guard_prep.specs.Tightening.{tightened}
use Rattle.guard_prep.specs.Prepared.{is_nonlinear, rows_of, new_values_of, unknowns_of}

-- the preconditions of computing the rows of a rule: its guard and updates contain only its own variables and can be
-- expanded; there are at most 64 variables, 64 atoms and 32 updates
pub record IsPreparable (r : Rule) : Type 0 where
  pub few_variables : r.left + r.free ≤ variable_limit
  pub few_atoms : length r.guard ≤ atom_limit
  pub few_updates : length r.updates ≤ place_limit
  pub guard : AllByRecursion (IsValidAtom (r.left + r.free)) r.guard
  pub updates : AllByRecursion (IsValidTerm (r.left + r.free)) r.updates

-- the rules of a valid program are preparable
pub record ValidRulesArePreparable : Type 0 where
  pub each : (p : Program) (t : ℕ) (r : Rule) → IsValid p → rule_at p t ≡ Some r → IsPreparable r

-- a row and the tightened row have the same integer solutions
pub record TighteningKeepsWholeSolutions : Type 0 where
  pub each : (f : Form) (z : ℕ → ℤ) → (pos 0 ≤ℤ form_value f z (pos 1)) ↔ Meets (tightened f) z (pos 1)

-- the values of the nonlinear updates, in order of places
abbrev pub nonlinear_values : List Term → List ℤ → List ℤ
nonlinear_values [] env = []
nonlinear_values (u ∷ us) env = if is_nonlinear (expanded u) then value u env ∷ nonlinear_values us env else nonlinear_values us env

-- the values of all unknowns: those of the variables, then those of the nonlinear updates
abbrev pub point_of : Rule → List ℤ → List ℤ
point_of r env = env ++ nonlinear_values r.updates env

-- if a guard holds, the values of the variables and of the nonlinear updates are a point of the rule's rows with
-- denominator 1, and the new values there are the values of the updates
pub record GuardsGivePoints : Type 0 where
  pub point : (r : Rule) (env : List ℤ) → IsPreparable r → length env ≡ r.left + r.free → GuardHolds env r.guard
      → IsPoint (rows_of r) (at (point_of r env)) (pos 1)
  pub new_values : (r : Rule) (env : List ℤ) → IsPreparable r → length env ≡ r.left + r.free
      → map (λ f. form_value f (at (point_of r env)) (pos 1)) (new_values_of r) ≡ map (λ u. value u env) r.updates

-- an atom is linear: its expanded difference has degree at most 1, or it is the atom that always holds
abbrev pub IsLinear : Atom → Type 0
IsLinear Always = ⊤
IsLinear (Compare d r e) = is_nonlinear (expanded (difference_of d r e)) ≡ false

-- the linear part of a guard holds: each of its linear atoms does
abbrev pub LinearPartHolds : List ℤ → List Atom → Type 0
LinearPartHolds env atoms = All (λ a. IsLinear a → AtomHolds env a) atoms

-- at integers, the rows of a rule hold exactly if the linear atoms of its guard hold for the variables, whatever
-- numbers follow these
pub record RowsAreTheLinearPart : Type 0 where
  pub each : (r : Rule) (env more : List ℤ) → IsPreparable r → length env ≡ r.left + r.free
      → IsPoint (rows_of r) (at (env ++ more)) (pos 1) ↔ LinearPartHolds env r.guard

-- a step of the rule from c to d gives the point z: a point of its rows with denominator 1, whose first unknowns are
-- the values of c, and at which the new values are those of d
pub record IsPointOfStep (r : Rule) (c d : Config) (z : List ℤ) : Type 0 where
  pub unknowns : length z ≡ unknowns_of r
  pub point : IsPoint (rows_of r) (at z) (pos 1)
  pub left : (j : ℕ) → j < length c.values → at z j ≡ at c.values j
  pub new_values : map (λ f. form_value f (at z) (pos 1)) (new_values_of r) ≡ d.values

-- each step of a valid program is a point of its rule's rows
pub record StepsArePoints : Type 0 where
  pub each : (p : Program) (c d : Config) (s : Step) → IsValid p → (i : IsStep p c s d)
      → IsPointOfStep i.rule c d (point_of i.rule (c.values ++ s.free))

-- at these values of the variables, and with the cost's value if it is nonlinear, the rows of a rule's cost rule have a
-- point with denominator 1, and the only new value there is the cost k
pub record IsPointOfCost (r : Rule) (k : Term) (env : List ℤ) : Type 0 where
  pub point : IsPoint (rows_of (cost_rule r k)) (at (point_of (cost_rule r k) env)) (pos 1)
  pub new_values : map (λ f. form_value f (at (point_of (cost_rule r k) env)) (pos 1)) (new_values_of (cost_rule r k))
      ≡ value k env ∷ []

-- the cost rules of a valid program are preparable; if the guard of a rule holds and its cost isn't negative, the rows
-- of its cost rule have a point with the cost as the new value; and each step by a cost rule is a point of its rows
pub record CostsArePoints : Type 0 where
  pub preparable : (p : Program) (t : ℕ) (r : Rule) (k : Term) → IsValid p → rule_at p t ≡ Some r → r.cost ≡ Some k
      → IsPreparable (cost_rule r k)
  pub points : (p : Program) (t : ℕ) (r : Rule) (k : Term) (env : List ℤ) → IsValid p → rule_at p t ≡ Some r
      → r.cost ≡ Some k → length env ≡ r.left + r.free → GuardHolds env r.guard → pos 0 ≤ℤ value k env
      → IsPointOfCost r k env
  pub steps : (p : Program) (t : ℕ) (r : Rule) (k : Term) (c d : Config) (free : List ℤ) → IsValid p
      → rule_at p t ≡ Some r → r.cost ≡ Some k → Leads (cost_rule r k) c free d
      → IsPointOfStep (cost_rule r k) c d (point_of (cost_rule r k) (c.values ++ free))

-- the absolute values of a form's numbers are at most 2^63 - 1, and it has this many coefficients
pub record IsSmallForm (n : ℕ) (f : Form) : Type 0 where
  pub width : length f.coefs ≡ n
  pub coefs : AllByRecursion (λ a. nat_abs a ≤ coefficient_limit) f.coefs
  pub constant : nat_abs f.constant ≤ coefficient_limit

-- the rows and the new values of a rule have a coefficient for each unknown, and numbers of at most 2^63 - 1 in
-- absolute value; there are at most 128 rows and 96 unknowns
pub record RowsAreSmall : Type 0 where
  pub rows : (r : Rule) → IsPreparable r → AllByRecursion (IsSmallForm (unknowns_of r)) (rows_of r)
  pub new_values : (r : Rule) → IsPreparable r → AllByRecursion (IsSmallForm (unknowns_of r)) (new_values_of r)
  pub few_rows : (r : Rule) → IsPreparable r → length (rows_of r) ≤ 128
  pub few_unknowns : (r : Rule) → IsPreparable r → unknowns_of r ≤ 96

-- the rows of a rule satisfy the conditions for certificates and for their points: their numbers are below 2^63 in
-- absolute value, their columns have bounded sums, and there are at most 128 unknowns
pub record RowsSuitCertificates : Type 0 where
  pub numbers : (r : Rule) → IsPreparable r → All HasRowNumbers (rows_of r)
  pub sums : (r : Rule) → IsPreparable r → AreSmall (rows_of r)
  pub unknowns : (r : Rule) → IsPreparable r → unknowns_of r ≤ 128
