-- Lassos: a stem that leads to a configuration, and a turn that leads from there back, or on by the same differences
-- each time.
use Rattle.std.specs.Prelude.{◌≡◌, ℕ, ◌≤◌, ◌⊎◌, List, [], ◌∷◌, ◌++◌, length, ℤ, pos, ◌+ℤ◌, ◌*ℤ◌, ◌≤ℤ◌, Some, ⊤}
use Rattle.model.specs.Terms.{Term, value}
use Rattle.model.specs.Programs.{Program, Rule, Relation, AtLeast, MoreThan, AtMost, LessThan, EqualTo, Atom, Always, Compare}
use Rattle.model.specs.Programs.{rule_at, AtomHolds}
use Rattle.model.specs.Runs.{Config, Step, Leads, IsStep, IsRun, count}

-- for each number there is a run from these start values in which the rule occurs at least that often
pub record Endless (p : Program) (start : List ℤ) (t : ℕ) : Type 0 where
  pub each : (n : ℕ) → (steps : List Step) × (c : Config) × IsRun p start steps c × (n ≤ count t steps)

-- the steps, last step first, lead from one configuration to the other
abbrev pub LeadsTo : Program → Config → List Step → Config → Type 0
LeadsTo p c [] d = d ≡ c
LeadsTo p c (s ∷ earlier) d = (b : Config) × LeadsTo p c earlier b × IsStep p b s d

-- some step is by the rule
abbrev pub IsUsed : ℕ → List Step → Type 0
IsUsed t [] = ⊥
IsUsed t (s ∷ earlier) = (s.rule ≡ t) ⊎ IsUsed t earlier

-- the stem leads from the start values to a configuration, and the turn, which has at least one step, leads from there
-- back to it
pub record GoesRound (p : Program) (start : List ℤ) (stem turn : List Step) (at : Config) : Type 0 where
  pub begins : IsRun p start stem at
  pub whole : IsRun p start (turn ++ stem) at
  pub nonempty : 1 ≤ length turn

-- the values after n moves, each of which adds to a value its difference; a missing difference is 0
abbrev pub moved : List ℤ → List ℤ → ℕ → List ℤ
moved [] ds n = []
moved (v ∷ vs) [] n = v ∷ vs
moved (v ∷ vs) (d ∷ ds) n = (v +ℤ pos n *ℤ d) ∷ moved vs ds n

-- the value of an expression increases by the integer k each time that the values move by these differences
pub record HasSlope (f : Term) (env ds : List ℤ) (k : ℤ) : Type 0 where
  pub each : (n : ℕ) → value f (moved env ds n) ≡ value f env +ℤ pos n *ℤ k

-- if the relation holds, it still holds after its left side has increased by k and its right side by l
abbrev pub Keeps : Relation → ℤ → ℤ → Type 0
Keeps AtLeast k l = l ≤ℤ k
Keeps MoreThan k l = l ≤ℤ k
Keeps AtMost k l = k ≤ℤ l
Keeps LessThan k l = k ≤ℤ l
Keeps EqualTo k l = k ≡ l

-- an atom holds at these values, and still holds after they have moved by these differences any number of times
abbrev pub StaysTrue : List ℤ → List ℤ → Atom → Type 0
StaysTrue env ds Always = ⊤
StaysTrue env ds (Compare x r y) = AtomHolds env (Compare x r y)
    × (k : ℤ) × (l : ℤ) × HasSlope x env ds k × HasSlope y env ds l × Keeps r k l

-- every atom of a guard holds, and still holds after the values have moved by these differences
abbrev pub GuardStaysTrue : List ℤ → List ℤ → List Atom → Type 0
GuardStaysTrue env ds [] = ⊤
GuardStaysTrue env ds (atom ∷ atoms) = StaysTrue env ds atom × GuardStaysTrue env ds atoms

-- the differences of the new values, one for each update
abbrev pub HaveSlopes : List Term → List ℤ → List ℤ → List ℤ → Type 0
HaveSlopes [] env ds [] = ⊤
HaveSlopes [] env ds (e ∷ es) = ⊥
HaveSlopes (u ∷ us) env ds [] = ⊥
HaveSlopes (u ∷ us) env ds (e ∷ es) = HasSlope u env ds e × HaveSlopes us env ds es

-- A step leads from b to c; and if the values of b move by `ds`, those of c move by `es`, while free variables don't
-- change. So `ds` has a difference for each value of b.
pub record StepMoves (p : Program) (b : Config) (s : Step) (c : Config) (ds es : List ℤ) : Type 0 where
  pub rule : Rule
  pub numbered : rule_at p s.rule ≡ Some rule
  pub leads : Leads rule b s.free c
  pub places : length ds ≡ length b.values
  pub guard : GuardStaysTrue (b.values ++ s.free) ds rule.guard
  pub updates : HaveSlopes rule.updates (b.values ++ s.free) ds es

-- the steps, last step first, lead from c to d; and if the values of c move by `ds`, those of d move by `es`
abbrev pub PathMoves : Program → Config → List ℤ → List Step → Config → List ℤ → Type 0
PathMoves p c ds [] d es = (d ≡ c) × (es ≡ ds)
PathMoves p c ds (s ∷ earlier) d es =
    (b : Config) × (bs : List ℤ) × PathMoves p c ds earlier b bs × StepMoves p b s d bs es

-- a configuration whose values have moved n times
abbrev pub moved_config : Config → List ℤ → ℕ → Config
moved_config c ds n = record { at = c.at; values = moved c.values ds n }

-- The stem leads from the start values to a configuration, and the turn, which has at least one step, leads from there
-- to the configuration moved by the differences, and so from each moved configuration.
pub record GoesOnFor (p : Program) (start : List ℤ) (stem turn : List Step) (at : Config) (ds : List ℤ) : Type 0 where
  pub begins : IsRun p start stem at
  pub turn_moves : PathMoves p at ds turn (moved_config at ds 1) ds
  pub nonempty : 1 ≤ length turn
