-- Why a use of a rule is no step, and the order of the reasons.
use Rattle.std.specs.Prelude.{◌≡◌, ℕ, suc, Bool, ◌&&◌, if◌then◌else◌, nat_eq, List, [], ◌∷◌, ◌++◌, length, map, max, ℤ}
use Rattle.std.specs.Prelude.{int_lt, int_le, Option, Some, None, true, ⊤}
use Rattle.std.specs.List.{AllByRecursion}
use Rattle.std.specs.Ordering.{int_eq}
use Rattle.poly_terms.specs.model.Terms.{Term, value}
use Rattle.poly_terms.specs.model.Programs.{Relation, AtLeast, MoreThan, AtMost, LessThan, EqualTo, Atom, Always}
use Rattle.poly_terms.specs.model.Programs.{Compare, Symbol}
use Rattle.poly_terms.specs.model.Programs.{Rule, Program, rule_at}
use Rattle.poly_terms.specs.model.Runs.{Config, Step, IsStep}
use Rattle.poly_terms.specs.Checked.{values_fit}

-- The faults of a use of a rule: there is no such rule, or it leaves another symbol, or has another number of free
-- variables; an atom, counted from 1, doesn't hold; or a value exceeds 128 bits.
pub data StepFault : Type 0 where
  OtherRule : StepFault
  AtomFails : ℕ → StepFault
  PastRange : StepFault

-- The first fault if there is one, else the second.
abbrev pub first_of : Option StepFault → Option StepFault → Option StepFault
first_of None g = g
first_of (Some f) g = Some f

-- Whether a relation holds between two integers.
abbrev pub is_related : Relation → ℤ → ℤ → Bool
is_related AtLeast x y = int_le y x
is_related MoreThan x y = int_lt y x
is_related AtMost x y = int_le x y
is_related LessThan x y = int_lt x y
is_related EqualTo x y = int_eq x y

-- The fault of the atom with a number: both sides are computed before they are compared.
abbrev pub atom_fault : List ℤ → ℕ → Atom → Option StepFault
atom_fault env n Always = None
atom_fault env n (Compare d r e) =
    if values_fit d env && values_fit e env then (if is_related r (value d env) (value e env) then None
    else Some (AtomFails n)) else Some PastRange

-- The first fault of atoms that are numbered from n on.
abbrev pub guard_fault : List ℤ → ℕ → List Atom → Option StepFault
guard_fault env n [] = None
guard_fault env n (a ∷ atoms) = first_of (atom_fault env n a) (guard_fault env (suc n) atoms)

-- The first fault of updates.
abbrev pub updates_fault : List ℤ → List Term → Option StepFault
updates_fault env [] = None
updates_fault env (u ∷ updates) = if values_fit u env then updates_fault env updates else Some PastRange

-- The first fault of a rule's guard and updates: the atoms in order come before the updates.
abbrev pub body_fault : Rule → List ℤ → Option StepFault
body_fault r env = first_of (guard_fault env 1 r.guard) (updates_fault env r.updates)

-- The first fault of a use of a rule.
abbrev pub rule_fault : Rule → Config → List ℤ → Option StepFault
rule_fault r c free =
    if nat_eq c.at r.source && nat_eq (length free) r.free
    then body_fault r (c.values ++ free)
    else Some OtherRule

-- The fault of a use of a rule that may not exist.
abbrev pub found_fault : Option Rule → Config → List ℤ → Option StepFault
found_fault None c free = Some OtherRule
found_fault (Some r) c free = rule_fault r c free

-- The first fault of a step of a program from a configuration.
abbrev pub step_fault : Program → Config → Step → Option StepFault
step_fault p c s = found_fault (rule_at p s.rule) c s.free

-- The maximum number of places of a symbol.
abbrev pub maximum_arity : List Symbol → ℕ
maximum_arity [] = 0
maximum_arity (s ∷ symbols) = max s.arity (maximum_arity symbols)

-- No value of an atom exceeds 128 bits.
abbrev pub AtomFits : List ℤ → Atom → Type 0
AtomFits env Always = ⊤
AtomFits env (Compare d r e) = (values_fit d env ≡ true) × (values_fit e env ≡ true)

-- No value of a rule's guard and updates exceeds 128 bits.
pub record RuleFits (r : Rule) (env : List ℤ) : Type 0 where
  pub guard : AllByRecursion (AtomFits env) r.guard
  pub updates : AllByRecursion (λ u. values_fit u env ≡ true) r.updates

-- From a configuration with a value for each left variable, a use of a rule has no fault exactly if it is a step and no
-- intermediate value exceeds 128 bits.
pub record StepsHaveNoFault : Type 0 where
  pub step : (p : Program) (c : Config) (s : Step) (r : Rule) → rule_at p s.rule ≡ Some r → length c.values ≡ r.left
      → step_fault p c s ≡ None
      → IsStep p c s (record { at = r.target; values = map (λ u. value u (c.values ++ s.free)) r.updates })
  pub fits : (p : Program) (c : Config) (s : Step) (r : Rule) → rule_at p s.rule ≡ Some r → step_fault p c s ≡ None
      → RuleFits r (c.values ++ s.free)
  pub no_fault : (p : Program) (c d : Config) (s : Step) (r : Rule) → rule_at p s.rule ≡ Some r → IsStep p c s d
      → RuleFits r (c.values ++ s.free)
      → step_fault p c s ≡ None
