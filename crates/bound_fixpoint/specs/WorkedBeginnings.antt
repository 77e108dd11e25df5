-- Worked values of the derivations before the first round: with two infeasible rules; with an unreached rule that is
-- infeasible too; with feasibility questions that all hit a limit; and with a rule whose target has no places; and
-- which derivations are justified in programs with an infeasible rule.
use Rattle.std.specs.Prelude.{◌≡◌, ℕ, zero, suc, List, [], ◌∷◌, pos, negsuc, None}
use Rattle.rule_questions.specs.model.Terms.{Literal, Variable}
use Rattle.rule_questions.specs.model.Programs.{AtLeast, Compare, Rule, Program}
use Rattle.rule_questions.specs.linear_forms.Forms.{Form}
use Rattle.rule_questions.specs.cert_rules.Setting.{Setting}
use Rattle.rule_questions.specs.cert_rules.Nodes.{AndProof, Empty, Unreached, Never, Cite}
use Rattle.rule_questions.specs.cert_rules.Worked.{only}
use Rattle.rule_questions.specs.cert_rules.WorkedSettings.{form, rule_over, program_with, no_poly, no_rows, no_cost}
use Rattle.rule_questions.specs.cert_rules.WorkedSettings.{no_cost_poly, folded, zero_below, counting_new_values}
use Rattle.rule_questions.specs.cert_rules.WorkedSettings.{symbol_of, counting, apart, stuck, two_ways_in}
use Rattle.bound_fixpoint.specs.Keys.{time_key}
use Rattle.bound_fixpoint.specs.Derivations.{Derivation}
use Rattle.bound_fixpoint.specs.Needs.{lemmas_of}
use Rattle.bound_fixpoint.specs.Searches.{Answers, Emptiness, NoPoint, HasPoint, searches_of}
use Rattle.bound_fixpoint.specs.Beginning.{empty_derivation, unreached_derivation, never_derivation, AreFirst}
use Rattle.bound_fixpoint.specs.Justification.{AreJustified}
use Rattle.bound_fixpoint.specs.WorkedDerivations.{once_derivation}
use Rattle.bound_fixpoint.specs.WorkedFirst.{all_hits_limit, cut_off, no_answers}

-- rules 1 and 2 are infeasible, or only rule 2, and no other rule is
abbrev pub first_two_empty : ℕ → Emptiness
first_two_empty zero = HasPoint (record { parts = []; den = 1 })
first_two_empty (suc zero) = NoPoint []
first_two_empty (suc (suc zero)) = NoPoint []
first_two_empty (suc (suc (suc t))) = HasPoint (record { parts = []; den = 1 })

abbrev pub second_empty : ℕ → Emptiness
second_empty zero = HasPoint (record { parts = []; den = 1 })
second_empty (suc zero) = HasPoint (record { parts = []; den = 1 })
second_empty (suc (suc zero)) = NoPoint []
second_empty (suc (suc (suc t))) = HasPoint (record { parts = []; den = 1 })

abbrev pub empty_answers : (ℕ → Emptiness) → Answers
empty_answers empty = record {
  empty = empty;
  rank = all_hits_limit.rank;
  components = [];
  size = all_hits_limit.size;
}

-- the times of the two entries, and of the loop, which no other rule reaches; and then the sizes after all three
abbrev pub six_derivations : List Derivation
six_derivations =
    empty_derivation 1 [] ∷ empty_derivation 2 [] ∷ unreached_derivation (time_key 1 ∷ time_key 2 ∷ []) 3 ∷
    never_derivation two_ways_in 1 ∷ never_derivation two_ways_in 2 ∷ never_derivation two_ways_in 3 ∷ []

-- these derivations, where the loop has only one of the infeasible rules as a premise
abbrev pub six_on_one : List Derivation
six_on_one =
    empty_derivation 1 [] ∷ empty_derivation 2 [] ∷ unreached_derivation (time_key 1 ∷ []) 3 ∷
    never_derivation two_ways_in 1 ∷ never_derivation two_ways_in 2 ∷ never_derivation two_ways_in 3 ∷ []

-- k(A) -> l, which has no place
abbrev pub leave : Rule
leave = record {
  source = 0;
  target = 1;
  left = 1;
  free = 0;
  names = [];
  updates = [];
  guard = [];
  cost = None;
}

abbrev pub leaving : Program
leaving = record {
  symbols = symbol_of 107 1 ∷ symbol_of 108 0 ∷ [];
  start = 0;
  start_names = (65 ∷ []) ∷ [];
  rules = leave ∷ [];
}

-- k(A) -> l(A) where A >= 1 and A <= 0, and l(A) -> l(A)
abbrev pub never_enter : Rule
never_enter = rule_over 0 1 0 (Variable 0)
    (Compare (Variable 0) AtLeast (Literal (pos 1)) ∷ Compare (Literal (pos 0)) AtLeast (Variable 0) ∷ [])

abbrev pub first_rows : ℕ → List Form
first_rows zero = []
first_rows (suc zero) = form (pos 1 ∷ []) (negsuc 0) ∷ form (negsuc 0 ∷ []) (pos 0) ∷ []
first_rows (suc (suc t)) = []

abbrev pub cut_short : Setting
cut_short = record {
  program = program_with (never_enter ∷ rule_over 1 1 0 (Variable 0) [] ∷ []);
  rows = first_rows;
  new_values = counting_new_values;
  poly = no_poly;
  cost_rows = no_rows;
  cost_value = no_cost;
  cost_poly = no_cost_poly;
  rewrite = folded;
  below = zero_below;
}

-- an unreached rule has all infeasible rules as premises, as its lemma cites them; one that is infeasible too counts
-- only as infeasible; a rule whose feasibility question hit a limit may run; and a rule whose target has no places has
-- no derivation for sizes
pub record BeginningsAreWorkedOut : Type 0 where
  pub two_empty : AreFirst (searches_of (empty_answers first_two_empty)) two_ways_in six_derivations
  pub not_on_one : ¬ (AreFirst (searches_of (empty_answers first_two_empty)) two_ways_in six_on_one)
  pub lemmas : lemmas_of six_derivations
      ≡ Empty 1 [] ∷ Empty 2 [] ∷ Unreached 3 (AndProof (Cite 1) (only (Cite 2)))
      ∷ Never (Cite 1) ∷ Never (Cite 2) ∷ Never (Cite 3) ∷ []
  pub empty_alone : AreFirst (searches_of (empty_answers second_empty)) apart.program
      (empty_derivation 2 [] ∷ never_derivation apart.program 2 ∷ [])
  pub not_both : ¬ (AreFirst (searches_of (empty_answers second_empty)) apart.program
      (empty_derivation 2 [] ∷ unreached_derivation (time_key 2 ∷ []) 2 ∷ never_derivation apart.program 2 ∷ []))
  pub hit_limit : AreFirst (searches_of no_answers) counting.program []
  pub no_place : AreFirst (searches_of cut_off) leaving (empty_derivation 1 [] ∷ [])
  pub not_without_place : ¬ (AreFirst (searches_of cut_off) leaving (empty_derivation 1 [] ∷ never_derivation leaving 1 ∷ []))

-- the time of an infeasible rule is justified by multipliers that certify it and by no others, and then so are the
-- sizes after it; after a rule whose time isn't 0 they aren't. A rule that is unreached without an infeasible one is
-- justified after that one, which is its premise
pub record EmptyDerivationsAreWorkedOut : Type 0 where
  pub stand : AreJustified stuck (empty_derivation 2 (1 ∷ 1 ∷ []) ∷ never_derivation stuck.program 2 ∷ [])
  pub not_shown : ¬ (AreJustified stuck (empty_derivation 2 (1 ∷ 0 ∷ []) ∷ []))
  pub not_running : ¬ (AreJustified counting (once_derivation ∷ never_derivation counting.program 1 ∷ []))
  pub on_empty : AreJustified cut_short (empty_derivation 1 (1 ∷ 1 ∷ []) ∷ unreached_derivation (time_key 1 ∷ []) 2 ∷ [])
  pub not_before_empty :
      ¬ (AreJustified cut_short (unreached_derivation (time_key 1 ∷ []) 2 ∷ empty_derivation 1 (1 ∷ 1 ∷ []) ∷ []))
  pub not_on_nothing : ¬ (AreJustified cut_short (empty_derivation 1 (1 ∷ 1 ∷ []) ∷ unreached_derivation [] 2 ∷ []))
