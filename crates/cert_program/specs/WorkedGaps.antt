-- Worked values of the rules of small programs as forms, of sets of them, and of gaps over them.
use Rattle.std.specs.Prelude.{◌≡◌, ℕ, true, false, [], ◌∷◌, pos, None}
use Rattle.guard_prep.specs.model.Terms.{Variable}
use Rattle.guard_prep.specs.model.Programs.{Rule, Program}
use Rattle.guard_prep.specs.linear_forms.RuleQuestions.{RuleForms}
use Rattle.guard_prep.specs.its_model.Valid.{IsValid}
use Rattle.cert_rules.specs.GapChecks.{GapHolds, WrongShape, Unbalanced, gap_checks}
use Rattle.cert_rules.specs.Gaps.{ScaledPoint, SymbolPlace, Gap}
use Rattle.cert_rules.specs.Reasons.{IsFirstAmong}
use Rattle.cert_rules.specs.rule_forms.Ranking.{NoRank}
use Rattle.cert_rules.specs.WorkedGaps.{FailsAlone, scaled, one, nowhere, gap_with}
use Rattle.cert_program.specs.RankedSets.{forms_at, is_entered, ranked_set}
use Rattle.cert_program.specs.Worked.{form, three_rules}

-- the forms of the rule that squares, and the forms where there is no rule
abbrev pub squaring_forms : RuleForms
squaring_forms = record {
  source = 0;
  target = 0;
  left = 1;
  unknowns = 2;
  rows = [];
  new_values = form (pos 0 ∷ pos 1 ∷ []) (pos 0) ∷ [];
}

abbrev pub no_forms : RuleForms
no_forms = record { source = 0; target = 0; left = 0; unknowns = 0; rows = []; new_values = [] }

-- the first place of the symbol
abbrev pub first_place : SymbolPlace
first_place = record { symbol = 0; place = 1 }

-- the square has an unknown of its own; there is no rule 0. The symbol of the first rule is entered by the rules after
-- it and by the virtual entry; no symbol of an empty set is entered. A place is shut exactly if it is listed
pub record RankedSetsAreAsWorkedOut : Type 0 where
  pub forms : forms_at three_rules 2 ≡ squaring_forms
  pub forms_of_none : forms_at three_rules 0 ≡ no_forms
  pub entered : is_entered three_rules (1 ∷ []) 0 ≡ true
  pub not_entered : is_entered three_rules (4 ∷ []) 0 ≡ false
  pub shut : (ranked_set three_rules (3 ∷ []) 3 (first_place ∷ [])).shut 0 1 ≡ true
  pub not_shut : (ranked_set three_rules (3 ∷ []) 3 (first_place ∷ [])).shut 0 2 ≡ false

-- k(A) -> k(A), in a program with names
abbrev pub looping_rule : Rule
looping_rule = record {
  source = 0;
  target = 0;
  left = 1;
  free = 0;
  names = (65 ∷ []) ∷ [];
  updates = Variable 0 ∷ [];
  guard = [];
  cost = None;
}

abbrev pub looping : Program
looping = record {
  symbols = record { name = 107 ∷ []; arity = 1 } ∷ [];
  start = 0;
  start_names = (65 ∷ []) ∷ [];
  rules = looping_rule ∷ [];
}

-- a gap over one rule, which is strict, with its move, the floor and its kept point
abbrev pub gap_alone : ℕ → ScaledPoint → ScaledPoint → ScaledPoint → Gap
gap_alone t move floor kept = gap_with t (t ∷ []) [] (move ∷ []) floor (kept ∷ [])

-- the rule that keeps its place has a gap, and so has the rule that squares, whose points have a part for the square
-- too; without this part the shape is wrong; the rule that falls by 2 leaves its place unbalanced. A valid program has
-- a gap that holds, so that no function ranks its rule
pub record GapsOfProgramsAreJudged : Type 0 where
  pub staying : GapHolds three_rules (forms_at three_rules) (gap_alone 3 one nowhere one)
  pub squaring :
      GapHolds three_rules (forms_at three_rules)
      (gap_alone 2 (scaled (pos 1 ∷ pos 1 ∷ []) 1) (scaled (pos 0 ∷ pos 0 ∷ []) 0) (scaled (pos 1 ∷ pos 1 ∷ []) 1))
  pub without_square :
      IsFirstAmong (gap_checks three_rules (forms_at three_rules) (gap_alone 2 one nowhere one)) WrongShape
  pub halving :
      FailsAlone
      (gap_checks three_rules (forms_at three_rules)
      (gap_alone 1 (scaled (pos 2 ∷ []) 1) nowhere (scaled (pos 2 ∷ []) 1)))
      (Unbalanced 0 1)
  pub valid : IsValid looping
  pub looping_holds : GapHolds looping (forms_at looping) (gap_alone 1 one nowhere one)
  pub looping_unranked : NoRank (ranked_set looping (1 ∷ []) 1 [])
