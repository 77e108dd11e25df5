-- The side bounds of local bounds are accepted, and members that have them are a right input of the searches for sizes.
use Rattle.std.proofs.Common.{◌≡◌, ℕ, suc, ◌<◌, ◌≤◌, List, [], ◌∷◌, ◌++◌, length, map, get_or, Some, sym, ◌∙◌, ap}
use Rattle.std.proofs.Common.{subst, arith}
use Rattle.std.specs.List.{All}
use Rattle.std.proofs.lemmas.List.{length-map, map-append, get_or-map}
use Rattle.std.proofs.lemmas.List.Elements.{All-push, All-weaker}
use Rattle.model.specs.Programs.{Program, rule_at, arity_of}
use Rattle.its_graph.specs.declared.graph.Graph.{Graph}
use Rattle.its_graph.specs.Graphs.{IsGraphOf}
use Rattle.its_model.specs.Valid.{IsValid}
use Rattle.guard_prep.specs.declared.rule_rows.RuleRows.{RuleRows}
use Rattle.guard_prep.specs.Prepared.{Prepared}
use Rattle.guard_prep.specs.Views.{prepared_of}
use Rattle.local_size.specs.LocalAnswers.{HasBound, IsLocal}
use Rattle.local_size.specs.LocalLaws.{IsResultVariableOf}
use Rattle.local_size.proofs.Accepted.{bounds-accepted}
use Rattle.its_model.specs.poly_terms.Views.{form_of}
use Rattle.cert_types.specs.cert_rules.Nodes.{ResultVariable, LocalBound, Member}
use Rattle.cert_types.specs.cert_rules.AcceptsSizes.{HasMemberShape, AcceptsUp, AcceptsLow, AreAscending}
use Rattle.cert_types.specs.cert_program.Setting.{setting_of}
use Rattle.cert_types.specs.Composing.{AreRowsOf}
use Rattle.cert_types.specs.Views.{member_of}
use Rattle.cert_types.specs.declared.side_bound.Member as code
use Rattle.cert_types.specs.declared.answer.GuardFeasibility.{GuardFeasibility}
use Rattle.rank_search.proofs.RankSets.{rule-of}
use Rattle.size_nodes.specs.Members.{IsMemberOfProgram, AreMembersOfProgram}
use Rattle.time_bounds.specs.Candidates.{IsAccepted}
use Rattle.time_bounds.proofs.RowLaws.{RowsAt, rows_at}

-- both side bounds that are found for a place of a rule are accepted
pub accepted : (p : Program) (prepared_rules : List RuleRows) (k pivots : ℕ) (m : RuleRows)
    (result_variable : ResultVariable) (e : GuardFeasibility) (l : LocalBound)
    → IsValid p → AreRowsOf prepared_rules p → k < length prepared_rules → m ≡ get_or prepared_rules k m
    → result_variable.rule ≡ suc k → 1 ≤ result_variable.place
    → result_variable.place ≤ length m.new_values.items → IsLocal (prepared_of m) result_variable pivots e (HasBound l)
    → IsAccepted p (record { result_variable = result_variable; local = l })
accepted p prepared_rules k pivots m result_variable e l valid rows low is number least most h =
    let at : RowsAt p.rules k m = subst (λ (x : RuleRows). RowsAt p.rules k x) (sym is)
    (rows_at prepared_rules p.rules k m rows low) in
    let numbered : rule_at p result_variable.rule ≡ Some at.rule = ap (rule_at p) number ∙ at.numbered in
    let places : length m.new_values.items ≡ arity_of p at.rule.target =
    sym (length-map m.new_values.items form_of)
    ∙ (ap (λ (y : Prepared). length y.new_values) at.same
    ∙ (rule-of p [] 0 [] (suc k) at.rule valid at.numbered).values) in
    let of : IsResultVariableOf p result_variable at.rule = record {
      numbered = numbered;
      is_result_variable = record {
        rule = at.rule;
        numbered = numbered;
        least = least;
        most =
            subst (λ (n : ℕ). result_variable.place ≤ n) places most;
      };
    } in
    let local = subst (λ (y : Prepared). IsLocal y result_variable pivots e (HasBound l)) at.same h in record {
      shape = bounds-accepted.shape p at.rule result_variable pivots e l valid of local;
      up = bounds-accepted.up p at.rule result_variable pivots e l valid of local;
      low = bounds-accepted.low p at.rule result_variable pivots e l valid of local;
    }

-- members with accepted side bounds, with one more
pub accepted_more : (p : Program) (ms : List code.Member) (m : code.Member) → All (IsAccepted p) (map member_of ms)
    → IsAccepted p (member_of m)
    → All (IsAccepted p) (map member_of (ms ++ m ∷ []))
accepted_more p ms m all one =
    subst (λ (xs : List Member). All (IsAccepted p) xs) (sym (map-append member_of ms (m ∷ [])))
    (All-push (IsAccepted p) (map member_of ms) (member_of m) all one)

-- the members are a right input of the search for the size of the first one
pub given_alone : (p : Program) (g : Graph) (prepared_rules : List RuleRows) (ms : List code.Member) (m : code.Member)
    → IsValid p → IsGraphOf g p
    → AreRowsOf prepared_rules p → All (IsAccepted p) (map member_of ms) → 0 < length ms → m ≡ get_or ms 0 m
    → IsMemberOfProgram p g prepared_rules (member_of m)
given_alone p g prepared_rules ms m valid graph rows all some is =
    let first : get_or (map member_of ms) 0 (member_of m) ≡ member_of m = get_or-map member_of ms 0 m (member_of m) some
    ∙ ap member_of (sym is) in
    let k = subst (IsAccepted p) first (all 0 (member_of m) (omega (arith, some, length-map ms member_of))) in
    record { valid = valid; graph = graph; rows = rows; shape = k.shape; up = k.up; low = k.low }

-- the members are a right input of the search for the size of a loop
pub given_loop : (p : Program) (g : Graph) (prepared_rules : List RuleRows) (ms : List code.Member) → IsValid p
    → IsGraphOf g p → AreRowsOf prepared_rules p
    → All (IsAccepted p) (map member_of ms) → 0 < length ms → AreAscending (map member_of ms)
    → AreMembersOfProgram p g prepared_rules (map member_of ms)
given_loop p g prepared_rules ms valid graph rows all some ascending = record {
  valid = valid;
  graph = graph;
  rows = rows;
  shape = record {
    some = omega (arith, some, length-map ms member_of);
    ascending = ascending;
    each = All-weaker (IsAccepted p) (HasMemberShape (setting_of p)) (λ m a. a.shape) (map member_of ms) all;
  };
  up = All-weaker (IsAccepted p) (AcceptsUp (setting_of p)) (λ m a. a.up) (map member_of ms) all;
  low = All-weaker (IsAccepted p) (AcceptsLow (setting_of p)) (λ m a. a.low) (map member_of ms) all;
}
