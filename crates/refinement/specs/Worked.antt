-- Worked values of sections of small programs, of the programs that they spell, and of which are shown.
use Rattle.std.specs.Prelude.{◌≡◌, ℕ, [], ◌∷◌, map, pos, Some, None, ⊤}
use Rattle.model.specs.Terms.{Term, Literal, Variable, Negation, Addition, Subtraction}
use Rattle.model.specs.Programs.{AtLeast, AtMost, LessThan, Compare, Rule, Program}
use Rattle.model.specs.WorkedRuns.{entering, countdown, entry_alone, two_names}
use Rattle.model.specs.WorkedCosts.{paying}
use Rattle.refinement.specs.Simulation.{Simulates}
use Rattle.refinement.specs.Lifted.{AreCopies, BoundsAreKept}
use Rattle.refinement.specs.Sections.{Copy, Cases, To, Never, If, Branch, Section, passes, fails, paths, spelled}
use Rattle.refinement.specs.Sections.{projection_of}
use Rattle.refinement.specs.Obligations.{moved, ReadsFirst, IsShown}
use Rattle.refinement.specs.Laws.{HoldsAt, HasWeakerGuards, same_numbers}

-- an expression minus a number
abbrev pub less : Term → ℕ → Term
less f n = Subtraction f (Literal (pos n))

-- copies of the symbols of the program that enters a loop and counts A down: `a` of l0; `b` of l1, with a fact; and `c`
-- of l1, where A is below 0
abbrev pub entry_copy : Copy
entry_copy = record { name = 97 ∷ []; over = 0; facts = [] }

abbrev pub loop_copy : Term → Copy
loop_copy fact = record { name = 98 ∷ []; over = 1; facts = fact ∷ [] }

abbrev pub end_copy : Copy
end_copy = record { name = 99 ∷ []; over = 1; facts = less (Negation (Variable 0)) 1 ∷ [] }

-- the branches at these copies: entering by whether A is at least 0; looping at `b` by these cases; and never looping
-- at `c`
abbrev pub enters_by_sign : Branch
enters_by_sign = record { source = 0; rule = 1; cases = If (Variable 0) (To 1) (To 2) }

abbrev pub loops_by : Cases → Branch
loops_by cases = record { source = 1; rule = 2; cases = cases }

abbrev pub never_loops : Branch
never_loops = record { source = 2; rule = 2; cases = Never }

-- the section with this fact at `b`, and these cases of the loop there
abbrev pub split : Term → Cases → Section
split fact cases = record {
  copies = entry_copy ∷ loop_copy fact ∷ end_copy ∷ [];
  branches = enters_by_sign ∷ loops_by cases ∷ never_loops ∷ [];
}

-- the section by the sign of A: a loop that is entered with A at least 0 stays at `b`
abbrev pub split_by_sign : Section
split_by_sign = split (Variable 0) (To 1)

-- the section by sign without the branch of the loop at `c`
abbrev pub without_last : Section
without_last = record {
  copies = entry_copy ∷ loop_copy (Variable 0) ∷ end_copy ∷ [];
  branches = enters_by_sign ∷ loops_by (To 1) ∷ [];
}

-- the section by sign with a fact at the start
abbrev pub with_start_fact : Section
with_start_fact = record {
  copies = record { name = 97 ∷ []; over = 0; facts = Variable 0 ∷ [] } ∷ loop_copy (Variable 0) ∷ end_copy ∷ [];
  branches = enters_by_sign ∷ loops_by (To 1) ∷ never_loops ∷ [];
}

-- the section by sign with a copy of l1 as the first copy
abbrev pub with_other_first : Section
with_other_first = record {
  copies = record { name = 97 ∷ []; over = 1; facts = [] } ∷ loop_copy (Variable 0) ∷ end_copy ∷ [];
  branches = enters_by_sign ∷ loops_by (To 1) ∷ never_loops ∷ [];
}

-- the section by sign with one more branch at `b`, of the rule with a number
abbrev pub with_branch : ℕ → Section
with_branch t = record {
  copies = split_by_sign.copies;
  branches = record { source = 1; rule = t; cases = To 1 } ∷ split_by_sign.branches;
}

-- the rules of the spelled program, written by hand: entering with A at least 0, entering with A below 0, and looping
-- with A at least 0
abbrev pub entering_up : Rule
entering_up = record {
  source = 0;
  target = 1;
  left = 2;
  free = 0;
  names = two_names;
  updates = Variable 0 ∷ Variable 1 ∷ [];
  guard = Compare (Variable 0) AtLeast (Literal (pos 0)) ∷ [];
  cost = None;
}

abbrev pub entering_down : Rule
entering_down = record {
  source = 0;
  target = 2;
  left = 2;
  free = 0;
  names = two_names;
  updates = Variable 0 ∷ Variable 1 ∷ [];
  guard = Compare (Variable 0) LessThan (Literal (pos 0)) ∷ [];
  cost = None;
}

abbrev pub looping_up : Rule
looping_up = record {
  source = 1;
  target = 1;
  left = 2;
  free = 0;
  names = two_names;
  updates = Subtraction (Variable 0) (Literal (pos 1)) ∷ Negation (Variable 0) ∷ [];
  guard =
      Compare (Variable 0) AtLeast (Literal (pos 1)) ∷ Compare (Variable 0) AtMost (Literal (pos 9))
      ∷ Compare (Variable 0) AtLeast (Literal (pos 0)) ∷ [];
  cost = None;
}

-- the program that the section spells
abbrev pub by_sign : Program
by_sign = record {
  symbols =
      record { name = 97 ∷ []; arity = 2 } ∷ record { name = 98 ∷ []; arity = 2 }
      ∷ record { name = 99 ∷ []; arity = 2 } ∷ [];
  start = 0;
  start_names = two_names;
  rules = entering_up ∷ entering_down ∷ looping_up ∷ [];
}

-- l0(A) -> l1(A) where A >= 3
abbrev pub entering_from_3 : Rule
entering_from_3 = record {
  source = 0;
  target = 1;
  left = 1;
  free = 0;
  names = (65 ∷ []) ∷ [];
  updates = Variable 0 ∷ [];
  guard = Compare (Variable 0) AtLeast (Literal (pos 3)) ∷ [];
  cost = None;
}

-- the program of this rule
abbrev pub from_3 : Program
from_3 = record {
  symbols = record { name = 108 ∷ 48 ∷ []; arity = 1 } ∷ record { name = 108 ∷ 49 ∷ []; arity = 1 } ∷ [];
  start = 0;
  start_names = (65 ∷ []) ∷ [];
  rules = entering_from_3 ∷ [];
}

-- its section with a copy of each symbol, where l1 has the fact that A is at least a number
abbrev pub at_least : ℕ → Section
at_least n = record {
  copies = entry_copy ∷ loop_copy (less (Variable 0) n) ∷ [];
  branches = record { source = 0; rule = 1; cases = To 1 } ∷ [];
}

-- the paths through cases, the spelled program and its projection are the expected ones
pub record SectionsSpell : Type 0 where
  pub to_copy : paths (passes (Variable 1) ∷ []) (To 2) ≡ record { atoms = passes (Variable 1) ∷ []; copy = 2 } ∷ []
  pub to_nowhere : paths (passes (Variable 1) ∷ []) Never ≡ []
  pub by_test : paths [] (If (Variable 0) (To 1) (If (Variable 1) Never (To 2)))
      ≡ record { atoms = passes (Variable 0) ∷ []; copy = 1 }
      ∷ record { atoms = fails (Variable 0) ∷ fails (Variable 1) ∷ []; copy = 2 } ∷ []
  pub program : spelled countdown split_by_sign ≡ by_sign
  pub first_rule : (projection_of countdown split_by_sign).rule 1 ≡ 1
  pub second_rule : (projection_of countdown split_by_sign).rule 2 ≡ 1
  pub third_rule : (projection_of countdown split_by_sign).rule 3 ≡ 2
  pub entry : (projection_of countdown split_by_sign).rule 0 ≡ 0
  pub past_the_rules : (projection_of countdown split_by_sign).rule 4 ≡ 0
  pub first_symbol : (projection_of countdown split_by_sign).symbol 0 ≡ 0
  pub second_symbol : (projection_of countdown split_by_sign).symbol 1 ≡ 1
  pub third_symbol : (projection_of countdown split_by_sign).symbol 2 ≡ 1
  -- a list of the copies of rule 1 contains the first two rules, and not the first alone; it may contain others
  pub copies : AreCopies (spelled countdown split_by_sign) (projection_of countdown split_by_sign) 1 (1 ∷ 2 ∷ [])
  pub more_copies : AreCopies (spelled countdown split_by_sign) (projection_of countdown split_by_sign) 2 (1 ∷ 3 ∷ [])
  pub fewer_copies : ¬ (AreCopies (spelled countdown split_by_sign) (projection_of countdown split_by_sign) 1 (1 ∷ []))

-- B - A with A + 1 in place of A and A in place of B is A - (A + 1); a variable without an expression in its place
-- becomes 0; and an expression that reads only the first variables depends on no others
pub record ExpressionsAreMoved : Type 0 where
  pub difference : moved (Subtraction (Variable 1) (Variable 0))
      (Addition (Variable 0) (Literal (pos 1)) ∷ Variable 0 ∷ [])
      ≡ Subtraction (Variable 0) (Addition (Variable 0) (Literal (pos 1)))
  pub past_the_updates : moved (Variable 2) (Variable 0 ∷ Variable 1 ∷ []) ≡ Literal (pos 0)
  pub reads_second : ReadsFirst 2 (Variable 1)
  pub reads_third : ¬ (ReadsFirst 2 (Variable 2))

-- the section that splits the loop by the sign of A is shown
pub record SectionsAreShown : Type 0 where
  pub by_sign : IsShown countdown split_by_sign
  -- it isn't shown with a fact that is too strong by 1, with a loop that is said to be never enabled, or with one that
  -- leads to a copy of another symbol
  pub too_strong : ¬ (IsShown countdown (split (less (Variable 0) 1) (To 1)))
  pub never : ¬ (IsShown countdown (split (Variable 0) Never))
  pub other_symbol : ¬ (IsShown countdown (split (Variable 0) (To 0)))
  pub no_copy : ¬ (IsShown countdown (split (Variable 0) (To 3)))
  -- it isn't shown with a branch of a rule that leaves another symbol or doesn't exist, or with a fact over a third
  -- variable
  pub other_source : ¬ (IsShown countdown (with_branch 1))
  pub no_rule : ¬ (IsShown countdown (with_branch 3))
  pub third_variable : ¬ (IsShown countdown (split (Variable 2) (To 1)))
  -- it isn't shown with a first copy of another symbol than the start, without a branch, or with a fact at the start
  pub other_first : ¬ (IsShown countdown with_other_first)
  pub missing_branch : ¬ (IsShown countdown without_last)
  pub start_fact : ¬ (IsShown countdown with_start_fact)
  -- A is at least 3 after the rule with the guard A >= 3, and isn't shown to be at least 4
  pub at_least_3 : IsShown from_3 (at_least 3)
  pub at_least_4 : ¬ (IsShown from_3 (at_least 4))

-- A is at least 3 whenever a run is at l1, and isn't always at least 4 there, nor at least 3 at l0
pub record FactsHoldAtSymbols : Type 0 where
  pub at_least_3 : HoldsAt from_3 1 (less (Variable 0) 3)
  pub at_least_4 : ¬ (HoldsAt from_3 1 (less (Variable 0) 4))
  pub at_start : ¬ (HoldsAt from_3 0 (less (Variable 0) 3))

-- the looping rule with only its first atom, on A
abbrev pub looping_from_1 : Rule
looping_from_1 = record {
  source = 1;
  target = 1;
  left = 2;
  free = 0;
  names = two_names;
  updates = Subtraction (Variable 0) (Literal (pos 1)) ∷ Negation (Variable 0) ∷ [];
  guard = Compare (Variable 0) AtLeast (Literal (pos 1)) ∷ [];
  cost = None;
}

-- the program that enters and has this looping rule
abbrev pub longer_countdown : Program
longer_countdown = record {
  symbols = record { name = 108 ∷ 48 ∷ []; arity = 2 } ∷ record { name = 108 ∷ 49 ∷ []; arity = 2 } ∷ [];
  start = 0;
  start_names = two_names;
  rules = entering ∷ looping_from_1 ∷ [];
}

-- a program simulates itself, and one with fewer atoms simulates it; one with more atoms or fewer rules doesn't
pub record ProgramsSimulate : Type 0 where
  pub itself : HasWeakerGuards countdown countdown
  pub fewer_atoms : HasWeakerGuards countdown longer_countdown
  pub more_atoms : ¬ (Simulates countdown longer_countdown same_numbers (λ c. ⊤))
  pub fewer_rules : ¬ (Simulates entry_alone countdown same_numbers (λ c. ⊤))

-- where entering costs A and each round costs B, the section by sign is shown, the rules that it spells have the costs
-- of their rules, and bounds carry over from the spelled program; they don't carry over from the program without costs,
-- all of whose steps together cost at most 10
pub record CostsAreKept : Type 0 where
  pub by_sign : IsShown paying split_by_sign
  pub of_copies : map (λ r. r.cost) (spelled paying split_by_sign).rules
      ≡ Some (Variable 0) ∷ Some (Variable 0) ∷ Some (Variable 1) ∷ []
  pub from_copies : BoundsAreKept paying (spelled paying split_by_sign) (projection_of paying split_by_sign)
  pub from_plain : ¬ (BoundsAreKept paying countdown same_numbers)
