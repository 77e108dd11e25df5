-- The test that a turn keeps leading on if its values change by the same amounts each time: its guards have to keep
-- holding, and its new values have to be affine.
use Rattle.std.specs.Prelude.{if◌then◌else◌, ℕ, suc, Bool, true, false, List, [], ◌∷◌, map, length, ℤ, pos, int_le}
use Rattle.std.specs.Prelude.{Option, Some, None, is_some, unwrap_or}
use Rattle.std.specs.Ordering.{int_eq}
use Rattle.its_model.specs.model.Terms.{Term}
use Rattle.its_model.specs.model.Programs.{Relation, AtLeast, MoreThan, AtMost, LessThan, EqualTo, Atom, Always, Compare}
use Rattle.its_model.specs.model.Programs.{Rule, Program, rule_at}
use Rattle.its_model.specs.model.Runs.{Step}
use Rattle.affine_turns.specs.declared.affine.Affine.{Affine}
use Rattle.affine_turns.specs.Affine.{constant, affine_of, with_free}

-- a relation that holds keeps holding if its sides change by these amounts
abbrev pub keeps : Relation → ℤ → ℤ → Bool
keeps AtLeast k l = int_le l k
keeps MoreThan k l = int_le l k
keeps AtMost k l = int_le k l
keeps LessThan k l = int_le k l
keeps EqualTo k l = int_eq k l

-- a relation keeps holding between these two sides: both are affine, and pass the test by their slopes
abbrev pub sides_keep : Relation → Option Affine → Option Affine → Bool
sides_keep r (Some a) (Some b) = keeps r a.slope b.slope
sides_keep r (Some a) None = false
sides_keep r None b = false

-- the test of an atom: if it holds, it keeps holding
abbrev pub atom_keeps : List Affine → Atom → Bool
atom_keeps env Always = true
atom_keeps env (Compare x r y) = sides_keep r (affine_of x env) (affine_of y env)

-- why a step fails the test: its atom with this number, from 1, may cease to hold; or the new value at this place, from
-- 1, isn't found to be affine
pub data Stop : Type 0 where
  AtomStops : ℕ → Stop
  NonlinearPlace : ℕ → Stop

-- the first atom that fails the test; the first of these atoms has the number n
abbrev pub guard_stop : List Affine → ℕ → List Atom → Option Stop
guard_stop env n [] = None
guard_stop env n (atom ∷ atoms) = if atom_keeps env atom then guard_stop env (suc n) atoms else Some (AtomStops n)

-- the first update that isn't found to be affine; the first of these updates has the number n
abbrev pub updates_stop : List Affine → ℕ → List Term → Option Stop
updates_stop env n [] = None
updates_stop env n (u ∷ updates) =
    if is_some (affine_of u env) then updates_stop env (suc n) updates else Some (NonlinearPlace n)

-- the first reason, if there is one, else the second one
abbrev pub first_stop : Option Stop → Option Stop → Option Stop
first_stop None g = g
first_stop (Some f) g = Some f

-- the first reason of a rule: its atoms are tested first, and then its updates
abbrev pub rule_stop : Rule → List Affine → Option Stop
rule_stop r env = first_stop (guard_stop env 1 r.guard) (updates_stop env 1 r.updates)

-- the affine values of updates; 0 for one that isn't found to be affine
abbrev pub values_affine : List Affine → List Term → List Affine
values_affine env updates = map (λ u. unwrap_or (affine_of u env) (constant (pos 0))) updates

-- the affine new values of a rule
abbrev pub new_affine : Rule → List Affine → List Affine
new_affine r env = values_affine env r.updates

-- why a step by a rule fails the test, given the affine values at the places before it; none if there is no such rule
abbrev pub step_stop : Option Rule → List Affine → List ℤ → Option Stop
step_stop None env free = None
step_stop (Some r) env free = rule_stop r (with_free env free)

-- the affine values at the places after a step by a rule; the empty list if there is no such rule
abbrev pub step_affine : Option Rule → List Affine → List ℤ → List Affine
step_affine None env free = []
step_affine (Some r) env free = new_affine r (with_free env free)

-- the affine values at the places after steps, given as a list with the last step first
abbrev pub affine_after : Program → List Affine → List Step → List Affine
affine_after p env [] = env
affine_after p env (s ∷ earlier) = step_affine (rule_at p s.rule) (affine_after p env earlier) s.free

-- the number of a step that fails the test, from 1, and why
pub record StopAt : Type 0 where
  pub number : ℕ
  pub stop : Stop

-- the failure of earlier steps, if there is one, else that of the step with number n
abbrev pub or_stop : Option StopAt → ℕ → Option Stop → Option StopAt
or_stop None n None = None
or_stop None n (Some stop) = Some (record { number = n; stop = stop })
or_stop (Some found) n stop = Some found

-- the first failure along steps, given as a list with the last step first
abbrev pub first_stop_along : Program → List Affine → List Step → Option StopAt
first_stop_along p env [] = None
first_stop_along p env (s ∷ earlier) =
    or_stop (first_stop_along p env earlier) (suc (length earlier))
    (step_stop (rule_at p s.rule) (affine_after p env earlier) s.free)
