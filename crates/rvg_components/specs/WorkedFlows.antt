-- Worked values for small programs: which places are nodes, where values flow, what loops, and the components in order.
use Rattle.std.specs.Prelude.{◌≡◌, ℕ, ◌==◌, Bool, true, false, cond, [], ◌∷◌, pos, negsuc, Some}
use Rattle.model.specs.Terms.{Variable}
use Rattle.model.specs.WorkedRuns.{countdown}
use Rattle.cert_types.specs.cert_rules.Nodes.{ResultVariable, Poly}
use Rattle.cert_types.specs.cert_rules.AcceptsSizes.{Up}
use Rattle.cert_types.specs.cert_rules.Setting.{Setting}
use Rattle.cert_types.specs.cert_rules.WorkedSettings.{counting, program_with, rule_over}
use Rattle.cert_types.specs.cert_rules.Worked.{side_bound}
use Rattle.cert_types.specs.declared.answer.Question.TheVariants as asked
use Rattle.poly_terms.specs.linear_forms.declared.limit_cause.LimitCause.TheVariants as causes
use Rattle.local_size.specs.LocalAnswers.{Local, HasBound, IsUnboundedOn, HasHitLimit}
use Rattle.rvg_components.specs.Flows.{Locals, value_flows, live_result_variables, loops}
use Rattle.rvg_components.specs.Listing.{AreComponents}

-- a place after a rule
abbrev pub result_variable : ℕ → ℕ → ResultVariable
result_variable t i = record { rule = t; place = i }

-- answers whose side bounds read the place before: both, only the upper one, only the lower one, and neither
abbrev pub reads_both : Local
reads_both = HasBound (record { up = side_bound (pos 1) (pos 0) []; low = side_bound (negsuc 0) (pos 0) [] })

abbrev pub reads_up : Local
reads_up = HasBound (record { up = side_bound (pos 1) (pos 0) []; low = side_bound (pos 0) (pos 7) [] })

abbrev pub reads_low : Local
reads_low = HasBound (record { up = side_bound (pos 0) (pos 7) []; low = side_bound (negsuc 0) (pos 0) [] })

abbrev pub reads_none : Local
reads_none = HasBound (record { up = side_bound (pos 0) (pos 7) []; low = side_bound (pos 0) (pos 7) [] })

-- an answer whose side bounds are the polynomial itself
abbrev pub reads_poly : Local
reads_poly = HasBound (record { up = Poly; low = Poly })

-- answers without side bounds
abbrev pub is_unbounded : Local
is_unbounded = IsUnboundedOn Up (pos 1 ∷ []) (record { parts = []; den = 0 })

abbrev pub has_hit_limit : Local
has_hit_limit = HasHitLimit (record { question = asked.Local 2 1; cause = causes.Scale })

-- this answer for rule 2, and for all others one that reads the place before
abbrev pub after_2 : Local → Locals
after_2 l t i = cond (t == 2) l reads_both

abbrev pub all_read : Locals
all_read t i = reads_both

-- all rules are live
abbrev pub all_live : ℕ → Bool
all_live t = true

-- the program that counts down, in which the new value of rule 2 is the square of A
abbrev pub squared : Setting
squared = record counting { poly = λ t i. Some (record { coef = pos 1; vars = 0 ∷ 0 ∷ [] } ∷ []) }

-- for k(A) -> l(A) and l(A) -> l(A - 1), a value flows from the first place into the second, and from the second into
-- itself, but not back. It flows if either side bound reads the place before, also if that is a polynomial, and not
-- otherwise; no value flows into a place without side bounds
pub record FlowsAreWorkedOut : Type 0 where
  pub onward : value_flows counting all_read (result_variable 1 1) (result_variable 2 1) ≡ true
  pub back : value_flows counting all_read (result_variable 2 1) (result_variable 1 1) ≡ false
  pub into_itself : value_flows counting all_read (result_variable 2 1) (result_variable 2 1) ≡ true
  pub not_into_itself : value_flows counting all_read (result_variable 1 1) (result_variable 1 1) ≡ false
  pub by_up : value_flows counting (after_2 reads_up) (result_variable 1 1) (result_variable 2 1) ≡ true
  pub by_low : value_flows counting (after_2 reads_low) (result_variable 1 1) (result_variable 2 1) ≡ true
  pub by_none : value_flows counting (after_2 reads_none) (result_variable 1 1) (result_variable 2 1) ≡ false
  pub by_poly : value_flows squared (after_2 reads_poly) (result_variable 1 1) (result_variable 2 1) ≡ true
  pub other_place : value_flows counting all_read (result_variable 1 2) (result_variable 2 1) ≡ false
  pub other_place_by_poly : value_flows squared (after_2 reads_poly) (result_variable 1 2) (result_variable 2 1) ≡ false
  pub into_unbounded : value_flows counting (after_2 is_unbounded) (result_variable 1 1) (result_variable 2 1) ≡ false
  pub into_hit_limit : value_flows counting (after_2 has_hit_limit) (result_variable 1 1) (result_variable 2 1) ≡ false

-- only the places of live rules are nodes, in the order of rules and then of places
pub record LivePlacesAreWorkedOut : Type 0 where
  pub all : live_result_variables counting.program all_live ≡ result_variable 1 1 ∷ result_variable 2 1 ∷ []
  pub first : live_result_variables counting.program (λ t. t == 1) ≡ result_variable 1 1 ∷ []
  pub second : live_result_variables counting.program (λ t. t == 2) ≡ result_variable 2 1 ∷ []
  pub none : live_result_variables counting.program (λ t. false) ≡ []
  pub two_places : live_result_variables countdown all_live ≡ result_variable 1 1 ∷ result_variable 1 2 ∷ result_variable 2 1 ∷ result_variable 2 2 ∷ []

-- the program of k(A) -> l(A), l(A) -> m(A), and m(A) -> l(A), in which the last two rules form a cycle
abbrev pub ring : Setting
ring = record counting {
  program = program_with (rule_over 0 1 0 (Variable 0) [] ∷ rule_over 1 2 0 (Variable 0) []
      ∷ rule_over 2 1 0 (Variable 0) [] ∷ []);
}

-- the place after rule 1 doesn't loop; that after rule 2 of the program that counts down does, unless it has no side
-- bounds; of two places on a cycle neither loops alone, and both together do
pub record LoopsAreWorkedOut : Type 0 where
  pub none : loops counting all_read [] ≡ false
  pub first : loops counting all_read (result_variable 1 1 ∷ []) ≡ false
  pub second : loops counting all_read (result_variable 2 1 ∷ []) ≡ true
  pub unbounded : loops counting (after_2 is_unbounded) (result_variable 2 1 ∷ []) ≡ false
  pub one_of_two : loops ring all_read (result_variable 2 1 ∷ []) ≡ false
  pub other_of_two : loops ring all_read (result_variable 3 1 ∷ []) ≡ false
  pub two : loops ring all_read (result_variable 2 1 ∷ result_variable 3 1 ∷ []) ≡ true

-- the program of l(A) -> m(A), k(A) -> m(A), and k(A) -> l(A): a value flows only from the last place into the first
abbrev pub last_first : Setting
last_first = record counting {
  program = program_with (rule_over 1 2 0 (Variable 0) [] ∷ rule_over 0 2 0 (Variable 0) []
      ∷ rule_over 0 1 0 (Variable 0) [] ∷ []);
}

-- the components of the cycle's program: the place of the entry, and then the two on the cycle; in no other order, nor
-- split, nor without one of them. Those of the other program: each place by itself, with the first one last
pub record FlowComponentsAreWorkedOut : Type 0 where
  pub round : AreComponents ring all_live all_read ((result_variable 1 1 ∷ []) ∷ (result_variable 2 1 ∷ result_variable 3 1 ∷ []) ∷ [])
  pub turned : ¬ (AreComponents ring all_live all_read ((result_variable 2 1 ∷ result_variable 3 1 ∷ []) ∷ (result_variable 1 1 ∷ []) ∷ []))
  pub descending : ¬ (AreComponents ring all_live all_read ((result_variable 1 1 ∷ []) ∷ (result_variable 3 1 ∷ result_variable 2 1 ∷ []) ∷ []))
  pub taken_apart : ¬ (AreComponents ring all_live all_read
      ((result_variable 1 1 ∷ []) ∷ (result_variable 2 1 ∷ []) ∷ (result_variable 3 1 ∷ []) ∷ []))
  pub together : ¬ (AreComponents ring all_live all_read ((result_variable 1 1 ∷ result_variable 2 1 ∷ result_variable 3 1 ∷ []) ∷ []))
  pub lacking : ¬ (AreComponents ring all_live all_read ((result_variable 1 1 ∷ []) ∷ []))
  pub each_alone : AreComponents last_first all_live all_read
      ((result_variable 2 1 ∷ []) ∷ (result_variable 3 1 ∷ []) ∷ (result_variable 1 1 ∷ []) ∷ [])
  pub by_rules : ¬ (AreComponents last_first all_live all_read
      ((result_variable 1 1 ∷ []) ∷ (result_variable 2 1 ∷ []) ∷ (result_variable 3 1 ∷ []) ∷ []))
  pub ends_first : ¬ (AreComponents last_first all_live all_read
      ((result_variable 3 1 ∷ []) ∷ (result_variable 1 1 ∷ []) ∷ (result_variable 2 1 ∷ []) ∷ []))
