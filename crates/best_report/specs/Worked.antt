-- Reports on a small program, worked out by hand.
use Rattle.std.specs.Prelude.{◌≡◌, ℕ, true, false, List, [], ◌∷◌, ◌^◌, ℤ, pos, negsuc, Option, Some, None, codes}
use Rattle.its_model.specs.model.Terms.{Variable}
use Rattle.its_model.specs.model.Bounds as plain
use Rattle.its_model.specs.model.Programs.{Program}
use Rattle.its_model.specs.model.WorkedRuns.{entering, looping, over_two_places, countdown}
use Rattle.its_model.specs.model.WorkedCosts.{with_cost, paying}
use Rattle.signed_bounds.specs.Bounds.{Signed, Constant, PositivePart, SumOf, MaximumOf, MinimumOf, NoParts, Part}
use Rattle.signed_bounds.specs.Bounds.{signed_val}
use Rattle.signed_values.specs.Starts.{comparison_starts}
use Rattle.outcome.specs.Reports.{Timed, Untimed, TimeLarge, Costed, Uncosted, Sized, Unsized, SizeUntimed, Report}
use Rattle.best_report.specs.declared.subject.Subject.{Subject}
use Rattle.best_report.specs.declared.subject.Subject.TheVariants as of
use Rattle.program_claims.specs.Claims.{AtSymbol}
use Rattle.program_claims.specs.Claims as claims
use Rattle.best_report.specs.Subjects.{subjects_of}
use Rattle.best_report.specs.Statements.{bound_on, first_on}
use Rattle.best_report.specs.Lines.{Line, is_bounded}
use Rattle.best_report.specs.Spending.{sum_of_spendings, with_total}
use Rattle.best_report.specs.Choices.{least_of, IsChosen, IsNoWorse, IsAtMostStated}
use Rattle.best_report.specs.Reports.{analysis_bound, signed_analysis_bound, KeepsBound, IsNoWorseLine, IsBestReport}
use Rattle.best_report.specs.Reports.{IsChosenLine, IsLineAtMostStated}
use Rattle.best_report.specs.Texts.{best_text}

-- A program with two rules and two places has these subjects, and no line on costs; one with costs has these beside.
pub record SubjectsAreWorkedOut : Type 0 where
  pub plain : subjects_of countdown
      ≡ of.Time 1 ∷ of.Time 2 ∷ of.Total ∷ of.Above 1 1 ∷ of.Above 1 2 ∷ of.Above 2 1 ∷ of.Above 2 2
      ∷ of.Below 1 1 ∷ of.Below 1 2 ∷ of.Below 2 1 ∷ of.Below 2 2 ∷ []
  pub costs : subjects_of paying
      ≡ of.Time 1 ∷ of.Time 2 ∷ of.Cost 1 ∷ of.Cost 2 ∷ of.Total ∷ of.Above 1 1 ∷ of.Above 1 2 ∷ of.Above 2 1
      ∷ of.Above 2 2 ∷ of.Below 1 1 ∷ of.Below 1 2 ∷ of.Below 2 1 ∷ of.Below 2 2 ∷ []

-- a line with a bound, and one without
abbrev pub line_with_bound : Subject → Signed → Line
line_with_bound s b = record { subject = s; bound = Some b }

abbrev pub line_without_bound : Subject → Line
line_without_bound s = record { subject = s; bound = None }

-- B - A
abbrev pub difference : Signed
difference = PositivePart (record { coef = negsuc 0; vars = 0 ∷ [] } ∷ record { coef = pos 1; vars = 1 ∷ [] } ∷ [])

-- a report with the time 3 of rule 1, a time of rule 2 that is too large, no cost and no total
abbrev pub half_timed : Report
half_timed = record {
  times = Timed (plain.Constant 3) ∷ Untimed (TimeLarge 5000) ∷ [];
  costs = None ∷ None ∷ [];
  total = None;
  sizes = [] ∷ [] ∷ [];
}

-- the same with costs: 4 of rule 1, and none known of rule 2
abbrev pub half_costed : Report
half_costed = record {
  times = Timed (plain.Constant 3) ∷ Untimed (TimeLarge 5000) ∷ [];
  costs = Some (Costed (plain.Constant 4)) ∷ Some (Uncosted (SizeUntimed 2)) ∷ [];
  total = None;
  sizes = (Sized (plain.Constant 7) ∷ Unsized (SizeUntimed 2) ∷ []) ∷ [] ∷ [];
}

-- a bound of an analysis is one on its subject: of that rule, and of that place, from above and from below; entries
-- count from 1
pub record BoundsAreFound : Type 0 where
  pub time : analysis_bound half_timed (of.Time 1) ≡ Some (plain.Constant 3)
  pub no_time : analysis_bound half_timed (of.Time 2) ≡ None
  pub no_rule : analysis_bound half_timed (of.Time 3) ≡ None
  pub no_entry : analysis_bound half_timed (of.Time 0) ≡ None
  pub written : analysis_bound half_costed (of.Cost 1) ≡ Some (plain.Constant 4)
  pub no_bound : analysis_bound half_costed (of.Cost 2) ≡ None
  pub no_cost : analysis_bound half_timed (of.Cost 1) ≡ None
  pub total : analysis_bound half_timed of.Total ≡ None
  pub above : analysis_bound half_costed (of.Above 1 1) ≡ Some (plain.Constant 7)
  pub below : analysis_bound half_costed (of.Below 1 1) ≡ Some (plain.Constant 7)
  pub no_size : analysis_bound half_costed (of.Above 1 2) ≡ None
  pub no_place : analysis_bound half_costed (of.Above 1 3) ≡ None

-- A and B
abbrev pub first_argument : Signed
first_argument = PositivePart (record { coef = pos 1; vars = 0 ∷ [] } ∷ [])

abbrev pub second_argument : Signed
second_argument = PositivePart (record { coef = pos 1; vars = 1 ∷ [] } ∷ [])

-- what is chosen of the bounds 3 and 5, and that a bound is no worse than another
abbrev pub is_chosen : Option Signed → Type 0
is_chosen b = IsChosen (Some (Constant 3)) (Some (Constant 5)) b

-- the lists of start values at which bounds over A and B are compared
abbrev pub starts : List (List ℤ)
starts = comparison_starts 2

-- Of two bounds one is chosen, or their minimum, and no other, nor none; a lone bound is chosen. A bound is no worse
-- than that of the analysis if it is at most that one at each list, and if the analysis has none. B - A isn't at most
-- B, since A is -20 in a list, and min(A, B) is at most both.
pub record ChoicesAreWorkedOut : Type 0 where
  pub found : is_chosen (Some (Constant 3))
  pub stated : is_chosen (Some (Constant 5))
  pub least : is_chosen (Some (MinimumOf (Constant 5) (Part (Constant 3) NoParts)))
  pub greatest : ¬ is_chosen (Some (MaximumOf (Part (Constant 5) (Part (Constant 3) NoParts))))
  pub lost : ¬ is_chosen None
  pub only_found : IsChosen (Some (Constant 3)) None (Some (Constant 3))
  pub only_stated : IsChosen None (Some (Constant 5)) (Some (Constant 5))
  pub neither : IsChosen None None None
  pub equal : IsNoWorse starts (Some (Constant 3)) (Some (Constant 3))
  pub worse : ¬ IsNoWorse starts (Some (Constant 3)) (Some (Constant 4))
  pub alone : IsNoWorse starts None (Some (Constant 4))
  pub missing : IsNoWorse starts (Some (Constant 3)) None
  pub at_negative : ¬ IsNoWorse starts (Some second_argument) (Some difference)
  pub minimum : IsNoWorse starts (Some second_argument) (Some (least_of second_argument first_argument))
  pub signed : signed_analysis_bound half_timed (of.Time 1) ≡ Some (Constant 3)
  pub better_line : IsNoWorseLine starts half_timed (line_with_bound (of.Time 1) (Constant 2))
  pub worse_line : ¬ IsNoWorseLine starts half_timed (line_with_bound (of.Time 1) (Constant 4))
  pub other_line : IsNoWorseLine starts half_timed (line_with_bound (of.Time 2) (Constant 4))

-- that the bound 5 of an analysis and the stated bound 3 are met
abbrev pub meets_both : Option Signed → Type 0
meets_both b = IsAtMostStated starts (Some (Constant 5)) (Some (Constant 3)) b

-- a bound whose constant is over the limits
abbrev pub beyond : Signed
beyond = Constant (2 ^ 127)

-- Where a bound is stated, there is one, which is no greater at any list: not that of the analysis, if that is greater at
-- one. Where the minimum of both would pass the limits, it may be that of the analysis, but no third one.
pub record StatedBoundsAreUsed : Type 0 where
  pub stated : meets_both (Some (Constant 3))
  pub lesser : meets_both (Some (Constant 2))
  pub lazy : ¬ meets_both (Some (Constant 5))
  pub lost : ¬ meets_both None
  pub alone : IsAtMostStated starts None (Some (Constant 5)) (Some (Constant 5))
  pub greater_alone : ¬ IsAtMostStated starts None (Some (Constant 5)) (Some (Constant 6))
  pub lost_alone : ¬ IsAtMostStated starts None (Some (Constant 5)) None
  pub not_stated : IsAtMostStated starts (Some (Constant 5)) None None
  pub minimum : IsAtMostStated starts (Some first_argument) (Some second_argument)
      (Some (least_of first_argument second_argument))
  pub first_alone : ¬ IsAtMostStated starts (Some first_argument) (Some second_argument) (Some first_argument)
  pub beyond_limits : IsAtMostStated starts (Some beyond) (Some first_argument) (Some beyond)
  pub third_beyond : ¬ IsAtMostStated starts (Some beyond) (Some first_argument) (Some (Constant 21))
  pub line : IsLineAtMostStated starts half_timed (claims.Time 1 (Constant 2) ∷ []) (line_with_bound (of.Time 1) (Constant 2))
  pub lazy_line : ¬ IsLineAtMostStated starts half_timed (claims.Time 1 (Constant 2) ∷ []) (line_with_bound (of.Time 1) (Constant 3))
  pub other_line : IsLineAtMostStated starts half_timed (claims.Time 2 (Constant 2) ∷ []) (line_with_bound (of.Time 1) (Constant 3))

-- A statement is on the subject of its kind with its rule and place, and of several on one subject the first one counts.
pub record StatementsAreFound : Type 0 where
  pub first : first_on (claims.Time 2 (Constant 7) ∷ claims.Time 1 (Constant 5) ∷ claims.Time 1 (Constant 3) ∷ [])
      (of.Time 1) ≡ Some (Constant 5)
  pub none : first_on (claims.Time 2 (Constant 7) ∷ []) (of.Time 1) ≡ None
  pub cost : bound_on (claims.Cost 2 (Constant 7)) (of.Cost 2) ≡ Some (Constant 7)
  pub no_cost : bound_on (claims.Time 2 (Constant 7)) (of.Cost 2) ≡ None
  pub total : bound_on (claims.Total (Constant 7)) of.Total ≡ Some (Constant 7)
  pub above : bound_on (claims.Above 1 2 (Constant 7)) (of.Above 1 2) ≡ Some (Constant 7)
  pub other_place : bound_on (claims.Above 1 2 (Constant 7)) (of.Above 1 1) ≡ None
  pub other_rule : bound_on (claims.Above 1 2 (Constant 7)) (of.Above 2 2) ≡ None
  pub other_side : bound_on (claims.Above 1 2 (Constant 7)) (of.Below 1 2) ≡ None
  pub below : bound_on (claims.Below 1 2 (Constant 7)) (of.Below 1 2) ≡ Some (Constant 7)
  pub fact : bound_on (AtSymbol 1 (Variable 0)) (of.Time 1) ≡ None

-- the sum of two bounds
abbrev pub sum_of : Signed → Signed → Signed
sum_of b c = SumOf (Part b (Part c NoParts))

-- lines with the times 3 and 5 of two rules, and this line on all steps
abbrev pub three_and_five : Line → List Line
three_and_five total = line_with_bound (of.Time 1) (Constant 3) ∷ line_with_bound (of.Time 2) (Constant 5) ∷ total ∷ []

-- the sum of these times
abbrev pub three_plus_five : Signed
three_plus_five = sum_of (Constant 3) (Constant 5)

-- lines with the same times, and with the cost 20 of rule 1 alone
abbrev pub costing_20 : List Line
costing_20 = line_with_bound (of.Time 1) (Constant 3) ∷ line_with_bound (of.Time 2) (Constant 5) ∷ line_with_bound (of.Cost 1) (Constant 20) ∷ []

-- the program that enters a loop, with the cost A of entering alone
abbrev pub entering_paid : Program
entering_paid = over_two_places (with_cost (Variable 0) entering ∷ looping ∷ [])

-- that a line on all steps is one of a report beside an analysis with a time of rule 1 alone, with these statements,
-- where the rules have the times 3 and 5
abbrev pub is_total : List claims.Stated → Option Signed → Type 0
is_total stated b =
    IsChosenLine countdown half_timed stated (three_and_five (record { subject = of.Total; bound = b }))
    (record { subject = of.Total; bound = b })

-- Times 3 and 5 of two rules have the sum 8, in whatever order the lines are. A rule with a cost spends that, and one
-- without a cost as much as it occurs, also in the same program. There is no sum where a rule has no bound, or where it
-- would exceed the limits. The sum is the total where neither the analysis nor a statement has one, and no other bound,
-- nor none, is it then; a total that is stated stays; and the sum is the bound on no other subject.
pub record SumsAreWorkedOut : Type 0 where
  pub times : sum_of_spendings countdown (three_and_five (line_without_bound of.Total)) ≡ Some three_plus_five
  pub value : signed_val three_plus_five [] ≡ 8
  pub order : sum_of_spendings countdown (line_with_bound (of.Time 2) (Constant 5) ∷ line_with_bound (of.Time 1) (Constant 3) ∷ [])
      ≡ Some three_plus_five
  pub no_time : sum_of_spendings countdown (line_with_bound (of.Time 1) (Constant 3) ∷ line_without_bound (of.Time 2) ∷ []) ≡ None
  pub no_line : sum_of_spendings countdown (line_with_bound (of.Time 2) (Constant 5) ∷ []) ≡ None
  pub costs : sum_of_spendings paying (line_with_bound (of.Cost 2) (Constant 30) ∷ costing_20)
      ≡ Some (sum_of (Constant 20) (Constant 30))
  pub no_cost : sum_of_spendings paying costing_20 ≡ None
  pub one_cost : sum_of_spendings entering_paid costing_20 ≡ Some (sum_of (Constant 20) (Constant 5))
  pub beyond_limits : sum_of_spendings countdown (line_with_bound (of.Time 1) (Constant 3) ∷ line_with_bound (of.Time 2) beyond ∷ []) ≡ None
  pub completed : with_total countdown (three_and_five (line_without_bound of.Total)) ≡ three_and_five (line_with_bound of.Total three_plus_five)
  pub has_total : with_total countdown (three_and_five (line_with_bound of.Total (Constant 7)))
      ≡ three_and_five (line_with_bound of.Total (Constant 7))
  pub summed : is_total [] (Some three_plus_five)
  pub by_statement : is_total (claims.Time 2 (Constant 5) ∷ []) (Some three_plus_five)
  pub missing : ¬ is_total [] None
  pub first_alone : ¬ is_total [] (Some (Constant 3))
  pub stated : is_total (claims.Total (Constant 7) ∷ []) (Some (Constant 7))
  pub not_stated : ¬ is_total (claims.Total (Constant 7) ∷ []) (Some three_plus_five)
  pub unsummed : IsChosenLine countdown half_timed [] (line_with_bound (of.Time 1) (Constant 3) ∷ []) (line_without_bound of.Total)
  pub invented : ¬ IsChosenLine countdown half_timed [] (line_with_bound (of.Time 1) (Constant 3) ∷ []) (line_with_bound of.Total (Constant 3))
  pub other_subject : ¬ IsChosenLine countdown half_timed [] (three_and_five (line_without_bound of.Total))
      (line_with_bound (of.Time 2) three_plus_five)

-- a report of the program that enters a loop and counts A down from 9 at most: the time 3 of rule 1, no time of rule 2,
-- no total, and the size 9 at the first place after rule 2
abbrev pub entering_timed : Report
entering_timed = record {
  times = Timed (plain.Constant 3) ∷ Untimed (TimeLarge 5000) ∷ [];
  costs = None ∷ None ∷ [];
  total = None;
  sizes = (Unsized (SizeUntimed 2) ∷ Unsized (SizeUntimed 2) ∷ [])
      ∷ (Sized (plain.Constant 9) ∷ Unsized (SizeUntimed 2) ∷ []) ∷ [];
}

-- the lines of its report with this line on the time of rule 1, and this one on the value of A after rule 2 from above
abbrev pub counting_lines : Line → Line → List Line
counting_lines time above =
    time ∷ line_with_bound (of.Time 2) (Constant 9) ∷ line_with_bound of.Total (Constant 10)
    ∷ line_without_bound (of.Above 1 1) ∷ line_without_bound (of.Above 1 2) ∷ above ∷ line_without_bound (of.Above 2 2)
    ∷ line_without_bound (of.Below 1 1) ∷ line_without_bound (of.Below 1 2) ∷ line_with_bound (of.Below 2 1) (Constant 8) ∷ line_without_bound (of.Below 2 2) ∷ []

abbrev pub time_1_line : Line
time_1_line = line_with_bound (of.Time 1) (Constant 1)

abbrev pub up_to_8 : Line
up_to_8 = line_with_bound (of.Above 2 1) (Constant 8)

-- A report has a line for each subject, in order, with bounds that hold: rule 1 occurs once, and not never, and A is 8
-- after the first round from 9. A bound of the analysis is kept, and no line has a greater one, though it holds; a bound
-- that the analysis hasn't may be missing.
pub record ReportsAreWorkedOut : Type 0 where
  pub best : IsBestReport countdown entering_timed (counting_lines time_1_line up_to_8)
  pub as_analysed : IsBestReport countdown entering_timed
      (counting_lines (line_with_bound (of.Time 1) (Constant 3)) (line_with_bound (of.Above 2 1) (Constant 9)))
  pub no_line : ¬ IsBestReport countdown entering_timed []
  pub never : ¬ IsBestReport countdown entering_timed (counting_lines (line_with_bound (of.Time 1) (Constant 0)) up_to_8)
  pub up_to_7 : ¬ IsBestReport countdown entering_timed
      (counting_lines time_1_line (line_with_bound (of.Above 2 1) (Constant 7)))
  pub lost : ¬ IsBestReport countdown entering_timed (counting_lines (line_without_bound (of.Time 1)) up_to_8)
  pub greater : ¬ IsBestReport countdown entering_timed (counting_lines (line_with_bound (of.Time 1) (Constant 4)) up_to_8)
  pub kept : KeepsBound entering_timed time_1_line
  pub not_kept : ¬ KeepsBound entering_timed (line_without_bound (of.Time 1))
  pub none_to_keep : KeepsBound entering_timed (line_without_bound (of.Time 2))
  pub no_size_kept : ¬ KeepsBound entering_timed (line_without_bound (of.Below 2 1))

-- the text for the program of two rules, whose start arguments are A and B
abbrev pub text_by : Report → List Line → List ℕ
text_by r lines = best_text countdown r lines

-- A report with all bounds on rules and on all steps is bounded, whatever is known of places; a missing time, cost or
-- total makes it `unknown`. A missing time has the reason of the analysis, where that has no time, either; one that has
-- a bound has none.
pub record TextsAreWorkedOut : Type 0 where
  pub bounded : text_by half_timed
      (line_with_bound (of.Time 1) (Constant 1) ∷ line_with_bound (of.Time 2) difference ∷ line_with_bound of.Total difference
      ∷ line_without_bound (of.Above 1 2) ∷ line_with_bound (of.Below 2 1) (Constant 0) ∷ [])
      ≡ codes "bounded\ntime 1: 1\ntime 2: [B - A]\ntotal: [B - A]\nabove 1.2: unknown\nbelow 2.1: 0\n"
  pub untimed : text_by half_timed
      (line_with_bound (of.Time 1) (Constant 1) ∷ line_without_bound (of.Time 2) ∷ line_without_bound of.Total ∷ [])
      ≡ codes "unknown\ntime 1: 1\ntime 2: unknown\ntotal: unknown\nwhy time 2: large 5000 nodes\n"
  pub no_total : text_by half_timed (line_with_bound (of.Time 1) (Constant 1) ∷ line_without_bound of.Total ∷ [])
      ≡ codes "unknown\ntime 1: 1\ntotal: unknown\n"
  pub summed : text_by half_timed (three_and_five (line_with_bound of.Total three_plus_five))
      ≡ codes "bounded\ntime 1: 3\ntime 2: 5\ntotal: 3 + 5\n"
  pub no_cost : text_by half_costed (line_with_bound (of.Cost 1) (Constant 1) ∷ line_without_bound (of.Cost 2) ∷ [])
      ≡ codes "unknown\ncost 1: 1\ncost 2: unknown\nwhy cost 2: untimed 2\n"
  pub order : text_by half_timed (line_without_bound (of.Time 2) ∷ line_with_bound (of.Time 1) (Constant 1) ∷ [])
      ≡ codes "unknown\ntime 2: unknown\ntime 1: 1\nwhy time 2: large 5000 nodes\n"
  pub has_all : is_bounded (line_with_bound (of.Time 1) (Constant 1) ∷ line_without_bound (of.Above 1 1) ∷ []) ≡ true
  pub lacks_time : is_bounded (line_without_bound (of.Time 1) ∷ line_with_bound of.Total (Constant 1) ∷ []) ≡ false
  pub lacks_total : is_bounded (line_with_bound (of.Time 1) (Constant 1) ∷ line_without_bound of.Total ∷ []) ≡ false
  pub lacks_cost : is_bounded (line_with_bound (of.Time 1) (Constant 1) ∷ line_without_bound (of.Cost 1) ∷ []) ≡ false
