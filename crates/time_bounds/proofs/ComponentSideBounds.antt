-- The components that are found for a program, and their side bounds.
use Rattle.std.proofs.Common.{◌≡◌, ℕ, Bool, List, map, Vec, Some, sym, subst}
use Rattle.std.specs.List.{All}
use Rattle.std.specs.declared.alloc.Global.{Global}
use Rattle.model.specs.Programs.{Program}
use Rattle.its_model.specs.Valid.{IsValid}
use Rattle.its_graph.specs.Graphs.{IsGraphOf}
use Rattle.its_graph.specs.declared.graph.Graph.{Graph}
use Rattle.guard_prep.specs.declared.rule_rows.RuleRows.{RuleRows}
use Rattle.local_size.specs.declared.answer.LocalAnswer.{LocalAnswer}
use Rattle.cert_types.specs.cert_program.Setting.{setting_of}
use Rattle.cert_types.specs.Composing.{AreRowsOf}
use Rattle.rvg_components.specs.declared.component.Component.{Component}
use Rattle.rvg_components.specs.Listing.{answer_lists, is_flagged, local_from, members_of, AreLocalsFor}
use Rattle.rvg_components.specs.Listing.{AreAnswersOfProgram, AreComponents, SaysWhetherItLoops}
use Rattle.time_bounds.specs.declared.candidates.Candidate.{Candidate}
use Rattle.time_bounds.specs.declared.rule_statuses.RuleStatus.{RuleStatus}
use Rattle.time_bounds.specs.ProgramSearches.{searches_of_program}
use Rattle.time_bounds.specs.RuleStatuses.{AreRuleStatuses}
use Rattle.time_bounds.specs.Locals.{is_live_rule_status, AreAllAnswers, answer_in}
use Rattle.time_bounds.specs.Candidates.{IsAnswered, AreArmed, AreCandidatesOf}
use Rattle.time_bounds.proofs.CandidateLaws.{candidates_of, answered_all, all_answered}
use Rattle.time_bounds.proofs.LocalLists.{lives, locals, locals_for, answer_here}

-- the input of the search for components
pub record Handed (p : Program) (pivots : ℕ) (rule_statuses : List RuleStatus) (g : Graph) (prepared_rules : List RuleRows) (lists : List (Vec LocalAnswer Global))
    (live : List Bool) : Type 0 where
  pub valid : IsValid p
  pub graph : IsGraphOf g p
  pub rows : AreRowsOf prepared_rules p
  pub rule_statuses_are : AreRuleStatuses (searches_of_program p pivots) p rule_statuses
  pub answers : AreAllAnswers p pivots 1 rule_statuses (answer_lists lists)
  pub live_are : live ≡ map is_live_rule_status rule_statuses

-- the rows, answers and flags of the program are a right input of the search for components
pub handed : (p : Program) (pivots : ℕ) (rule_statuses : List RuleStatus) (g : Graph) (old prepared_rules : List RuleRows) (had lists : List (Vec LocalAnswer Global))
    (live : List Bool) → IsValid p → IsGraphOf g p → AreRowsOf old p → AreRuleStatuses (searches_of_program p pivots) p rule_statuses
    → AreAllAnswers p pivots 1 rule_statuses (answer_lists had) → prepared_rules ≡ old → lists ≡ had → live ≡ map is_live_rule_status rule_statuses
    → Handed p pivots rule_statuses g prepared_rules lists live
handed p pivots rule_statuses g old prepared_rules had lists live valid graph rows are all e f h = record {
  valid = valid;
  graph = graph;
  rows = subst (λ (xs : List RuleRows). AreRowsOf xs p) (sym e) rows;
  rule_statuses_are = are;
  answers = subst (λ (xs : List (Vec LocalAnswer Global)). AreAllAnswers p pivots 1 rule_statuses (answer_lists xs)) (sym f) all;
  live_are = h;
}

module _ (p : Program) (pivots : ℕ) (rule_statuses : List RuleStatus) (g : Graph) (prepared_rules : List RuleRows) (lists : List (Vec LocalAnswer Global)) (live : List Bool)
    (h : Handed p pivots rule_statuses g prepared_rules lists live) where
  -- the input of the search for components has an answer for each place of a live rule
  pub given : AreAnswersOfProgram p g prepared_rules (answer_lists lists) live
  given = record {
    valid = h.valid;
    graph = h.graph;
    rows = h.rows;
    locals_for = subst (λ (xs : List Bool). AreLocalsFor p (answer_lists lists) xs) (sym h.live_are) (locals_for p pivots rule_statuses (answer_lists lists) h.rule_statuses_are h.answers);
  }

  module _ (found : List Component)
      (components : AreComponents (setting_of p) (is_flagged live) (local_from (answer_lists lists)) (map members_of found))
      (looping : All (SaysWhetherItLoops (setting_of p) (local_from (answer_lists lists))) found) where
    of_rule_statuses : AreComponents (setting_of p) (is_flagged (map is_live_rule_status rule_statuses)) (local_from (answer_lists lists)) (map members_of found)
    of_rule_statuses =
        subst (λ (xs : List Bool). AreComponents (setting_of p) (is_flagged xs) (local_from (answer_lists lists)) (map members_of found)) h.live_are components

    -- each of the components has answers
    pub found_answered : All (IsAnswered (answer_lists lists)) found
    found_answered =
        all_answered (setting_of p) (is_flagged (map is_live_rule_status rule_statuses)) (answer_lists lists) found of_rule_statuses
        (answered_all p pivots h.valid (is_flagged (map is_live_rule_status rule_statuses)) (lives p pivots rule_statuses (answer_lists lists) h.rule_statuses_are h.answers)
        (local_from (answer_lists lists)) (locals p pivots rule_statuses (answer_lists lists) h.rule_statuses_are h.answers) found of_rule_statuses
        (λ m. (a : LocalAnswer) × (answer_in (answer_lists lists) m.rule m.place ≡ Some a))
        (λ t i l place. let x = answer_here p pivots rule_statuses (answer_lists lists) h.rule_statuses_are h.answers t i l place in (x.0, x.1)))
        looping

    -- the components with their side bounds are candidates of the program
    pub found_candidates : (cs : List Candidate) → AreArmed (local_from (answer_lists lists)) found cs → AreCandidatesOf p pivots cs
    found_candidates cs armed =
        candidates_of p pivots h.valid (is_flagged (map is_live_rule_status rule_statuses)) (lives p pivots rule_statuses (answer_lists lists) h.rule_statuses_are h.answers)
        (local_from (answer_lists lists)) (locals p pivots rule_statuses (answer_lists lists) h.rule_statuses_are h.answers) found of_rule_statuses cs looping armed
