-- Worked values of lassos of small programs: those that are lassos, and those that aren't.
use Rattle.std.specs.Prelude.{◌≡◌, ℕ, List, [], ◌∷◌, ℤ, pos, negsuc, None}
use Rattle.model.specs.Terms.{Term, Literal, Variable, Addition, Subtraction, Multiplication}
use Rattle.model.specs.Programs.{AtLeast, Atom, Compare, Rule, Program}
use Rattle.model.specs.Runs.{Config, Step}
use Rattle.model.specs.Worked.{by_rule, one_value}
use Rattle.lassos.specs.Lassos.{Endless, GoesRound, GoesOnFor, HasSlope, moved}

-- a rule over A alone, with these symbols as source and target, an update and a guard
abbrev pub one_place_rule : ℕ → ℕ → Term → List Atom → Rule
one_place_rule source target update guard = record {
  source = source;
  target = target;
  left = 1;
  free = 0;
  names = (65 ∷ []) ∷ [];
  updates = update ∷ [];
  guard = guard;
  cost = None;
}

-- the guard A >= 1
abbrev pub positive : List Atom
positive = Compare (Variable 0) AtLeast (Literal (pos 1)) ∷ []

-- the program l0(A) -> l1(A) and l1(A) -> l1(update) with the guard A >= 1
abbrev pub looping_by : Term → Program
looping_by update = record {
  symbols = record { name = 108 ∷ 48 ∷ []; arity = 1 } ∷ record { name = 108 ∷ 49 ∷ []; arity = 1 } ∷ [];
  start = 0;
  start_names = (65 ∷ []) ∷ [];
  rules = one_place_rule 0 1 (Variable 0) [] ∷ one_place_rule 1 1 update positive ∷ [];
}

-- the expressions A, A + 1, A - 1 and A * A
abbrev pub plus_one : Term
plus_one = Addition (Variable 0) (Literal (pos 1))

abbrev pub less_one : Term
less_one = Subtraction (Variable 0) (Literal (pos 1))

abbrev pub squared : Term
squared = Multiplication (Variable 0) (Variable 0)

-- the stem is a step by the first rule, and the turn one by the second
abbrev pub stem_step : List Step
stem_step = by_rule 1 ∷ []

abbrev pub turn_step : List Step
turn_step = by_rule 2 ∷ []

pub record LassosAreFound : Type 0 where
  -- if A doesn't change, the turn leads back from A = 1, and it isn't possible from A = 0; a lasso needs a turn with a
  -- step
  pub stays : GoesRound (looping_by (Variable 0)) (pos 1 ∷ []) stem_step turn_step (one_value 1 (pos 1))
  pub not_from_0 : (c : Config) → ¬ (GoesRound (looping_by (Variable 0)) (pos 0 ∷ []) stem_step turn_step c)
  pub no_turn : (c : Config) → ¬ (GoesRound (looping_by (Variable 0)) (pos 1 ∷ []) stem_step [] c)
  -- if A decreases, the turn doesn't lead back
  pub not_falling : (c : Config) → ¬ (GoesRound (looping_by less_one) (pos 3 ∷ []) stem_step turn_step c)
  -- if A increases by 1, the turn moves on by 1, and not by 2; if A decreases, the turn doesn't move on
  pub grows : GoesOnFor (looping_by plus_one) (pos 1 ∷ []) stem_step turn_step (one_value 1 (pos 1)) (pos 1 ∷ [])
  pub not_by_2 : ¬ (GoesOnFor (looping_by plus_one) (pos 1 ∷ []) stem_step turn_step (one_value 1 (pos 1)) (pos 2 ∷ []))
  pub not_down : ¬ (GoesOnFor (looping_by less_one) (pos 3 ∷ []) stem_step turn_step (one_value 1 (pos 3)) (negsuc 0 ∷ []))
  -- so the second rule occurs arbitrarily often; the first rule occurs only once
  pub endless : Endless (looping_by plus_one) (pos 1 ∷ []) 2
  pub once : ¬ (Endless (looping_by plus_one) (pos 1 ∷ []) 1)

-- A + 1 increases by 2 if A does; a constant increases by 0; a square has no slope
pub record SlopesAreFound : Type 0 where
  pub linear : HasSlope plus_one (pos 5 ∷ []) (pos 2 ∷ []) (pos 2)
  pub not_3 : ¬ (HasSlope plus_one (pos 5 ∷ []) (pos 2 ∷ []) (pos 3))
  pub constant : HasSlope (Literal (pos 7)) (pos 5 ∷ []) (pos 2 ∷ []) (pos 0)
  pub square : (k : ℤ) → ¬ (HasSlope squared (pos 0 ∷ []) (pos 1 ∷ []) k)
  pub two_values : moved (pos 1 ∷ pos 2 ∷ []) (pos 3 ∷ negsuc 0 ∷ []) 4 ≡ pos 13 ∷ negsuc 1 ∷ []
  pub missing : moved (pos 1 ∷ pos 2 ∷ []) (pos 3 ∷ []) 4 ≡ pos 13 ∷ pos 2 ∷ []
