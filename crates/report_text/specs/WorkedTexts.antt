-- Worked values of small reports and their texts: what texts distinguish, and what they don't.
use Rattle.std.specs.Prelude.{◌≡◌, ℕ, List, [], ◌∷◌, ◌++◌, replicate, Option, Some, None, codes}
use Rattle.model.specs.Terms.{Term, Variable}
use Rattle.model.specs.Programs.{Program}
use Rattle.model.specs.Bounds.{Bound, Constant, Input}
use Rattle.its_model.specs.Valid.{IsValid}
use Rattle.cert_types.specs.cert_rules.Gaps.{ScaledPoint, SymbolPlace, Gap}
use Rattle.outcome.specs.Holding.{IsReportOn}
use Rattle.outcome.specs.Reports.{Time, TimeLarge, Timed, Untimed, SizeUntimed, SizeLarge, Size, Sized, Unsized}
use Rattle.outcome.specs.Reports.{RuleCost, Costed, Uncosted, Report}
use Rattle.report_text.specs.Reasons.{gap_text}
use Rattle.report_text.specs.Reports.{text_of_report}
use Rattle.report_text.specs.Printable.{IsPrintableGap, IsPrintableReport}

-- the program f(unknown) -> g(unknown, .., unknown), with this many places of g, and this cost or none
abbrev pub one_rule_with_cost : ℕ → Option Term → Program
one_rule_with_cost n c = record {
  symbols = record { name = codes "f"; arity = 1 } ∷ record { name = codes "g"; arity = n } ∷ [];
  start = 0;
  start_names = codes "unknown" ∷ [];
  rules = record {
    source = 0;
    target = 1;
    left = 1;
    free = 0;
    names = codes "unknown" ∷ [];
    updates = replicate n (Variable 0);
    guard = [];
    cost = c;
  } ∷ [];
}

abbrev pub one_rule : ℕ → Program
one_rule n = one_rule_with_cost n None

-- a report with the variable as the time and as the total, and these sizes
abbrev pub timed_by_variable : List (List Size) → Report
timed_by_variable sizes =
    record { times = Timed (Input 0) ∷ []; costs = None ∷ []; total = Some (Input 0); sizes = sizes }

-- a report without a time, since its bound has 5,000 nodes, and without a size, since there is no time
abbrev pub without_time : Report
without_time = record {
  times = Untimed (TimeLarge 5000) ∷ [];
  costs = None ∷ [];
  total = None;
  sizes = (Unsized (SizeUntimed 1) ∷ []) ∷ [];
}

-- a gap over no rule with these shut places and moves, all without numbers
abbrev pub bare_gap : List SymbolPlace → List ScaledPoint → Gap
bare_gap shut moves = record {
  rule = 1;
  set = [];
  shut = shut;
  moves = moves;
  floor = record { parts = []; den = 1 };
  kept = [];
}

-- the report of a rule with this time, this cost and this total, where the size is the variable
abbrev pub paid_report : Time → RuleCost → Option Bound → Report
paid_report t c sum = record { times = t ∷ []; costs = Some c ∷ []; total = sum; sizes = (Sized (Input 0) ∷ []) ∷ [] }

-- the program whose one rule costs its variable
abbrev pub rule_costing_variable : Program
rule_costing_variable = one_rule_with_cost 1 (Some (Variable 0))

-- a rule with a cost has a line of it, and the total is what it costs; the first line is `unknown` if the time or the
-- bound on the cost is missing, even if there is a total. A variable that is named `unknown` is distinguished from a
-- missing bound on a cost, and from a missing total, by the reason
pub record CostTexts : Type 0 where
  pub program : IsValid rule_costing_variable
  pub costed : text_of_report rule_costing_variable (paid_report (Timed (Constant 1)) (Costed (Input 0)) (Some (Input 0)))
      ≡ codes "bounded\ntime 1: 1\ncost 1: unknown\ntotal: unknown\nsize 1.1: unknown\n"
  pub uncosted : text_of_report rule_costing_variable (paid_report (Timed (Constant 1)) (Uncosted (SizeLarge 5000)) None)
      ≡ codes "unknown\ntime 1: 1\ncost 1: unknown\ntotal: unknown\nsize 1.1: unknown\n"
      ++ codes "why cost 1: large 5000 nodes\n"
  pub untimed : text_of_report rule_costing_variable (paid_report (Untimed (TimeLarge 5000)) (Costed (Constant 0)) (Some (Constant 0)))
      ≡ codes "unknown\ntime 1: unknown\ncost 1: 0\ntotal: 0\nsize 1.1: unknown\n"
      ++ codes "why time 1: large 5000 nodes\n"
  pub nothing_known : text_of_report rule_costing_variable (paid_report (Untimed (TimeLarge 5000)) (Uncosted (SizeUntimed 1)) None)
      ≡ codes "unknown\ntime 1: unknown\ncost 1: unknown\ntotal: unknown\nsize 1.1: unknown\n"
      ++ codes "why time 1: large 5000 nodes\nwhy cost 1: untimed 1\n"
  -- with the same lines of bounds, the total is the variable in one report and missing in the other
  pub variable_total : text_of_report rule_costing_variable (paid_report (Untimed (TimeLarge 5000)) (Costed (Input 0)) (Some (Input 0)))
      ≡ codes "unknown\ntime 1: unknown\ncost 1: unknown\ntotal: unknown\nsize 1.1: unknown\n"
      ++ codes "why time 1: large 5000 nodes\n"
  pub printable : IsPrintableReport rule_costing_variable (paid_report (Timed (Constant 1)) (Costed (Input 0)) (Some (Input 0)))
  pub printable_reason : IsPrintableReport rule_costing_variable (paid_report (Timed (Constant 1)) (Uncosted (SizeLarge 5000)) None)
  pub stated : IsReportOn rule_costing_variable (paid_report (Timed (Constant 1)) (Costed (Input 0)) (Some (Input 0)))
  pub stated_total : IsReportOn rule_costing_variable (paid_report (Untimed (TimeLarge 5000)) (Costed (Constant 0)) (Some (Constant 0)))
  pub without_cost : ¬ (IsReportOn rule_costing_variable (timed_by_variable ((Sized (Input 0) ∷ []) ∷ [])))
  -- a text doesn't distinguish a cost that is left out from that of a further rule that doesn't exist, but then it is
  -- no report
  pub no_lines : text_of_report (one_rule 0) (timed_by_variable ([] ∷ []))
      ≡ text_of_report (one_rule 0) (record { times = Timed (Input 0) ∷ []; costs = []; total = Some (Input 0); sizes = [] ∷ [] })
  pub left_out : ¬ (IsReportOn (one_rule 0)
      (record { times = Timed (Input 0) ∷ []; costs = []; total = Some (Input 0); sizes = [] ∷ [] }))

-- a variable that is named `unknown` is distinguished from a missing bound by the first line and the reasons
pub record TextsDistinguish : Type 0 where
  pub program : IsValid (one_rule 1)
  pub variable : IsPrintableReport (one_rule 1) (timed_by_variable ((Sized (Input 0) ∷ []) ∷ []))
  pub missing : IsPrintableReport (one_rule 1) without_time
  pub of_variable : text_of_report (one_rule 1) (timed_by_variable ((Sized (Input 0) ∷ []) ∷ []))
      ≡ codes "bounded\ntime 1: unknown\ntotal: unknown\nsize 1.1: unknown\n"
  pub of_missing : text_of_report (one_rule 1) without_time
      ≡ codes "unknown\ntime 1: unknown\ntotal: unknown\nsize 1.1: unknown\n"
      ++ codes "why time 1: large 5000 nodes\nwhy size 1.1: untimed 1\n"

-- where no target has a place, a text doesn't show whether sizes are left out, but then it is no report on the program;
-- the text of a gap doesn't show a move that is one too many, or the number of a symbol that doesn't exist. Such
-- reports aren't printable
pub record TextsDontDistinguish : Type 0 where
  pub no_places : text_of_report (one_rule 0) (timed_by_variable [])
      ≡ text_of_report (one_rule 0) (timed_by_variable ([] ∷ []))
  pub left_out : ¬ (IsReportOn (one_rule 0) (timed_by_variable []))
  pub given : IsReportOn (one_rule 0) (timed_by_variable ([] ∷ []))
  pub no_line : gap_text [] (bare_gap [] (record { parts = []; den = 1 } ∷ [])) ≡ gap_text [] (bare_gap [] [])
  pub move_too_many : ¬ (IsPrintableGap 2 (bare_gap [] (record { parts = []; den = 1 } ∷ [])))
  pub no_symbol : gap_text [] (bare_gap (record { symbol = 0; place = 1 } ∷ []) [])
      ≡ gap_text [] (bare_gap (record { symbol = 1; place = 1 } ∷ []) [])
  pub unnamed : ¬ (IsPrintableGap 0 (bare_gap (record { symbol = 0; place = 1 } ∷ []) []))

-- all worked values of texts
pub record TextsAreWorkedOut : Type 0 where
  pub determined : TextsDistinguish
  pub costs : CostTexts
  pub not_distinguished : TextsDontDistinguish
