-- Gaps that hold and gaps that don't, worked out by hand.
use Rattle.std.specs.Prelude.{◌≡◌, ◌⊎◌, ℕ, zero, suc, ◌+◌, ◌^◌, List, [], ◌∷◌, ℤ, pos, negsuc, None}
use Rattle.run_counting.specs.model.Terms.{Literal, Variable, Addition, Subtraction}
use Rattle.run_counting.specs.model.Programs.{AtLeast, Compare, Rule, Program}
use Rattle.rule_forms.specs.linear_forms.Forms.{Form}
use Rattle.rule_forms.specs.linear_forms.RuleQuestions.{RuleForms}
use Rattle.cert_rules.specs.Gaps.{ScaledPoint, SymbolPlace, Gap}
use Rattle.cert_rules.specs.GapChecks.{GapHolds, WrongShape, MoveOff, FloorOff, NotKept, Unbalanced, LosesNothing}
use Rattle.cert_rules.specs.GapChecks.{gap_checks}
use Rattle.cert_rules.specs.Reasons.{CheckOf, AllPass, IsFirstAmong}
use Rattle.cert_rules.specs.WorkedSettings.{form, symbol_of, rule_over, program_with, enter, count_down}

-- the check with this reason fails, and all others pass
abbrev pub FailsAlone : {R : Type 0} → List (CheckOf R) → R → Type 0
FailsAlone [] r = ⊥
FailsAlone (c ∷ cs) r = (¬ c.holds × (c.reason ≡ r) × AllPass cs) ⊎ (c.holds × FailsAlone cs r)

-- the forms of a first and a second rule, by number
abbrev pub two_forms : RuleForms → RuleForms → ℕ → RuleForms
two_forms first second zero = first
two_forms first second (suc zero) = first
two_forms first second (suc (suc t)) = second

-- a rule with this many left variables and no others
abbrev pub plain_forms : ℕ → ℕ → ℕ → List Form → List Form → RuleForms
plain_forms source target left rows new_values = record {
  source = source;
  target = target;
  left = left;
  unknowns = left;
  rows = rows;
  new_values = new_values;
}

-- k(A) -> l(A), and l(A) -> l(A)
abbrev pub turning : Program
turning = program_with (enter ∷ rule_over 1 1 0 (Variable 0) [] ∷ [])

abbrev pub turning_forms : ℕ → RuleForms
turning_forms =
    two_forms (plain_forms 0 1 1 [] (form (pos 1 ∷ []) (pos 0) ∷ []))
    (plain_forms 1 1 1 [] (form (pos 1 ∷ []) (pos 0) ∷ []))

-- k(A) -> l(C) with a free variable C, and l(A) -> l(A - 1) where A >= 1
abbrev pub guessed : Program
guessed = program_with (rule_over 0 1 1 (Variable 1) [] ∷ count_down ∷ [])

abbrev pub guessed_forms : ℕ → RuleForms
guessed_forms =
    two_forms
    (record {
      source = 0;
      target = 1;
      left = 1;
      unknowns = 2;
      rows = [];
      new_values = form (pos 0 ∷ pos 1 ∷ []) (pos 0) ∷ [];
    })
    (plain_forms 1 1 1 (form (pos 1 ∷ []) (negsuc 0) ∷ []) (form (pos 1 ∷ []) (negsuc 0) ∷ []))

-- k(A, B) -> l(A, B), and l(A, B) -> l(A + B, B - 1) where A >= 1
abbrev pub pair_enter : Rule
pair_enter = record {
  source = 0;
  target = 1;
  left = 2;
  free = 0;
  names = [];
  updates = Variable 0 ∷ Variable 1 ∷ [];
  guard = [];
  cost = None;
}

abbrev pub pair_turn : Rule
pair_turn = record {
  source = 1;
  target = 1;
  left = 2;
  free = 0;
  names = [];
  updates = Addition (Variable 0) (Variable 1) ∷ Subtraction (Variable 1) (Literal (pos 1)) ∷ [];
  guard = Compare (Variable 0) AtLeast (Literal (pos 1)) ∷ [];
  cost = None;
}

abbrev pub pairs : Program
pairs = record {
  symbols = symbol_of 107 2 ∷ symbol_of 108 2 ∷ [];
  start = 0;
  start_names = (65 ∷ []) ∷ (66 ∷ []) ∷ [];
  rules = pair_enter ∷ pair_turn ∷ [];
}

abbrev pub pairs_forms : ℕ → RuleForms
pairs_forms =
    two_forms
    (plain_forms 0 1 2 [] (form (pos 1 ∷ pos 0 ∷ []) (pos 0) ∷ form (pos 0 ∷ pos 1 ∷ []) (pos 0) ∷ []))
    (plain_forms 1 1 2 (form (pos 1 ∷ pos 0 ∷ []) (negsuc 0) ∷ [])
    (form (pos 1 ∷ pos 1 ∷ []) (pos 0) ∷ form (pos 0 ∷ pos 1 ∷ []) (negsuc 0) ∷ []))

-- numerators over a denominator
abbrev pub scaled : List ℤ → ℕ → ScaledPoint
scaled parts den = record { parts = parts; den = den }

-- the point 1, and the ray whose direction is 0
abbrev pub one : ScaledPoint
one = scaled (pos 1 ∷ []) 1

abbrev pub nowhere : ScaledPoint
nowhere = scaled (pos 0 ∷ []) 0

-- a gap of a rule over a set of rules, with shut places, moves, the floor and kept points
abbrev pub gap_with : ℕ → List ℕ → List SymbolPlace → List ScaledPoint → ScaledPoint → List ScaledPoint → Gap
gap_with rule set shut moves floor kept = record {
  rule = rule;
  set = set;
  shut = shut;
  moves = moves;
  floor = floor;
  kept = kept;
}

-- a gap of the second rule over a set of one rule, with the move, the floor and the kept point
abbrev pub gap_over : ℕ → List SymbolPlace → ScaledPoint → ScaledPoint → ScaledPoint → Gap
gap_over t shut move floor kept = gap_with 2 (t ∷ []) shut (move ∷ []) floor (kept ∷ [])

-- such a gap over the second rule itself, with points of one part
abbrev pub gap_of_one : List SymbolPlace → ℤ → ℕ → ℤ → ℕ → ℤ → ℕ → Gap
gap_of_one shut move m floor f kept k =
    gap_over 2 shut (scaled (move ∷ []) m) (scaled (floor ∷ []) f) (scaled (kept ∷ []) k)

-- the first place of l
abbrev pub place_of_l : List SymbolPlace
place_of_l = record { symbol = 1; place = 1 } ∷ []

-- the gaps of three programs hold. In the first, a floor that moves unbalances the place, a floor with a denominator
-- the constant, and a floor with both the constant first; with a zero move nothing is lost; a ray isn't accepted as a
-- kept point; and a number past the limit is a wrong shape, as is a set without the rule. For a rule with a row, a
-- move, a floor and a kept point off it are reported, the move before the floor; and where its place isn't shut it
-- isn't balanced
pub record GapsAreJudged : Type 0 where
  pub turning_holds : GapHolds turning turning_forms (gap_of_one [] (pos 1) 1 (pos 0) 0 (pos 1) 1)
  pub pairs_hold :
      GapHolds pairs pairs_forms
      (gap_over 2 [] (scaled (pos 1 ∷ pos 1 ∷ []) 1) (scaled (pos 1 ∷ negsuc 0 ∷ []) 0)
      (scaled (pos 1 ∷ pos 1 ∷ []) 1))
  pub guessed_holds : GapHolds guessed guessed_forms (gap_of_one place_of_l (pos 1) 1 (pos 1) 0 (pos 1) 1)
  pub place_unbalanced :
      FailsAlone (gap_checks turning turning_forms (gap_of_one [] (pos 1) 1 (pos 1) 0 (pos 1) 1)) (Unbalanced 1 1)
  pub constant_unbalanced :
      FailsAlone (gap_checks turning turning_forms (gap_of_one [] (pos 1) 1 (pos 0) 1 (pos 1) 1)) (Unbalanced 1 0)
  pub constant_first :
      IsFirstAmong (gap_checks turning turning_forms (gap_of_one [] (pos 1) 1 (pos 1) 1 (pos 1) 1)) (Unbalanced 1 0)
  pub nothing_lost :
      FailsAlone (gap_checks turning turning_forms (gap_of_one [] (pos 0) 0 (pos 0) 0 (pos 1) 1)) LosesNothing
  pub ray_kept :
      FailsAlone (gap_checks turning turning_forms (gap_of_one [] (pos 1) 1 (pos 0) 0 (pos 1) 0)) (NotKept 2)
  pub past_the_limit :
      FailsAlone (gap_checks turning turning_forms (gap_of_one [] (pos (2 ^ 45 + 1)) 1 (pos 0) 0 (pos 1) 1)) WrongShape
  pub at_the_limit : GapHolds turning turning_forms (gap_of_one [] (pos (2 ^ 45)) 1 (pos 0) 0 (pos 1) 1)
  pub other_set :
      IsFirstAmong
      (gap_checks turning turning_forms
      (gap_over 1 [] (scaled (pos 1 ∷ []) 1) (scaled (pos 0 ∷ []) 0) (scaled (pos 1 ∷ []) 1)))
      WrongShape
  pub move_off :
      FailsAlone (gap_checks guessed guessed_forms (gap_of_one place_of_l (pos 0) 1 (pos 1) 0 (pos 1) 1)) (MoveOff 2)
  pub floor_off :
      FailsAlone (gap_checks guessed guessed_forms (gap_of_one place_of_l (pos 1) 1 (negsuc 0) 0 (pos 1) 1)) FloorOff
  pub move_first :
      IsFirstAmong (gap_checks guessed guessed_forms (gap_of_one place_of_l (pos 0) 1 (negsuc 0) 0 (pos 1) 1))
      (MoveOff 2)
  pub kept_off :
      FailsAlone (gap_checks guessed guessed_forms (gap_of_one place_of_l (pos 1) 1 (pos 1) 0 (pos 0) 1)) (NotKept 2)
  pub not_shut :
      FailsAlone (gap_checks guessed guessed_forms (gap_of_one [] (pos 1) 1 (pos 1) 0 (pos 1) 1)) (Unbalanced 1 1)
