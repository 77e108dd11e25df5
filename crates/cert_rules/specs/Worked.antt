-- Worked values of accepted and refused nodes.
use Rattle.std.specs.Prelude.{◌≡◌, ℕ, List, [], ◌∷◌, ℤ, pos, negsuc, Option, Some}
use Rattle.run_counting.specs.model.Bounds.{Bound, Constant, Input, SumOf, ProductOf, MaximumOf, PowerOf, Parts}
use Rattle.run_counting.specs.model.Bounds.{NoParts, Part, val}
use Rattle.run_counting.specs.model.Facts.{Fact, Time, Size}
use Rattle.cert_rules.specs.Nodes.{SideBound, Linear, Member, SymbolForm, RankNode, Proof, Cite, Start, Empty, Unreached}
use Rattle.cert_rules.specs.Nodes.{Never, Rank, Spread, Cycle, Weaken, Proofs, NoProof, AndProof}
use Rattle.run_counting.specs.model.Paths.{pre}
use Rattle.run_counting.specs.model.Entries.{entries}
use Rattle.cert_rules.specs.Composed.{both_parts, time_of}
use Rattle.cert_rules.specs.ComposedSizes.{flows, factor_of, cycle_of}
use Rattle.cert_rules.specs.Setting.{IsFaithful}
use Rattle.cert_rules.specs.AcceptsSizes.{Up, AcceptsSideBound}
use Rattle.cert_rules.specs.Acceptance.{Accepts, facts_of, AcceptsLemmas, facts_of_lemmas}
use Rattle.cert_rules.specs.WorkedSettings.{form, counting, falling, guessing, apart, two_ways_in, doubling, stuck}

-- a list of one part
abbrev pub one_part : Bound → Parts
one_part b = Part b NoParts

-- a ranking function's form at a symbol with one place: a coefficient and a constant
abbrev pub at_symbol : ℕ → ℤ → ℤ → SymbolForm
at_symbol symbol coef constant = record { symbol = symbol; form = form (coef ∷ []) constant }

-- a side bound over one place: a coefficient, a constant and multipliers
abbrev pub side_bound : ℤ → ℤ → List ℕ → SideBound
side_bound coef constant multipliers = Linear 1 (form (coef ∷ []) constant) multipliers

-- premises: the virtual entry, and a lemma
abbrev pub only : Proof → Proofs
only proof = AndProof proof NoProof

-- the first rule runs once: the ranking function is 1 at k and 0 at l
abbrev pub once_node : RankNode
once_node = record {
  rule = 1;
  set = 1 ∷ [];
  den = 1;
  forms = at_symbol 0 (pos 0) (pos 1) ∷ at_symbol 1 (pos 0) (pos 0) ∷ [];
  moves = [] ∷ [];
  floor = [];
}

abbrev pub once : Proof
once = Rank once_node (only Start)

-- the second rule falls from A: the ranking function is A at both symbols; the multipliers of the rule and of the floor
-- are given
abbrev pub down_node : List ℕ → List ℕ → RankNode
down_node move floor = record {
  rule = 2;
  set = 1 ∷ 2 ∷ [];
  den = 1;
  forms = at_symbol 0 (pos 1) (pos 0) ∷ at_symbol 1 (pos 1) (pos 0) ∷ [];
  moves = [] ∷ move ∷ [];
  floor = floor;
}

abbrev pub down : List ℕ → List ℕ → Proof
down move floor = Rank (down_node move floor) (only Start)

-- the same function over the second rule alone, which the first one enters; and the node with given premises
abbrev pub alone_node : RankNode
alone_node = record {
  rule = 2;
  set = 2 ∷ [];
  den = 1;
  forms = at_symbol 1 (pos 1) (pos 0) ∷ [];
  moves = (0 ∷ []) ∷ [];
  floor = 1 ∷ [];
}

abbrev pub down_alone : Proofs → Proof
down_alone uses = Rank alone_node uses

-- the place after the first rule is A on both sides
abbrev pub entered_member : Member
entered_member = record {
  result_variable = record { rule = 1; place = 1 };
  local = record { up = side_bound (pos 1) (pos 0) []; low = side_bound (negsuc 0) (pos 0) [] };
}

abbrev pub entered : Proof
entered = Spread entered_member (only Start)

-- the place after the second rule is at most what it was, and at least 0
abbrev pub looped_member : Member
looped_member = record {
  result_variable = record { rule = 2; place = 1 };
  local = record { up = side_bound (pos 1) (pos 0) (0 ∷ []); low = side_bound (pos 0) (pos 0) (1 ∷ []) };
}

abbrev pub looped : Proof
looped = Cycle (looped_member ∷ []) (only (Cite 3))

-- four lemmas on the program that counts down
abbrev pub four_lemmas : List Proof
four_lemmas = once ∷ down (0 ∷ []) (1 ∷ []) ∷ entered ∷ looped ∷ []

-- a bound as the form A over 1: its constant 0, and 1 times the bound
abbrev pub one_times : Bound → Bound
one_times b = SumOf (both_parts (Constant 0) (ProductOf (both_parts (Constant 1) b)))

-- the composed bounds of the four lemmas: 1 times 1; 1 times A; the maximum of A and A; and the size that enters by the
-- first rule, as the second one adds nothing
abbrev pub once_time : Bound
once_time = SumOf (one_part (ProductOf (both_parts (Constant 1) (SumOf (one_part (Constant 1))))))

abbrev pub down_time : Bound
down_time = SumOf (one_part (ProductOf (both_parts (Constant 1) (one_times (Input 0)))))

abbrev pub entered_size : Bound
entered_size = MaximumOf (one_part (MaximumOf (both_parts (one_times (Input 0)) (one_times (Input 0)))))

abbrev pub nothing : Bound
nothing = SumOf (one_part (Constant 0))

abbrev pub looped_size : Bound
looped_size = ProductOf
    (one_part (SumOf (one_part (MaximumOf (Part (one_times entered_size) (both_parts nothing nothing))))))

-- the facts of the four lemmas
abbrev pub four_facts : List (List Fact)
four_facts =
    (Time 1 once_time ∷ []) ∷ (Time 2 down_time ∷ []) ∷ (Size 1 1 entered_size ∷ []) ∷ (Size 2 1 looped_size ∷ []) ∷ []

-- the four lemmas are accepted, with their facts; at A = 5 these are 1, 5, 5 and 5
pub record FourLemmasAreAccepted : Type 0 where
  pub accepted : AcceptsLemmas counting four_lemmas
  pub facts : facts_of_lemmas counting four_lemmas ≡ four_facts
  pub once_value : val once_time (5 ∷ []) ≡ 1
  pub down_value : val down_time (5 ∷ []) ≡ 5
  pub entered_value : val entered_size (5 ∷ []) ≡ 5
  pub looped_value : val looped_size (5 ∷ []) ≡ 5

-- the setting of the program that counts down is true of it, so the laws apply to some setting
abbrev pub CountingIsFaithful : Type 0
CountingIsFaithful = IsFaithful counting

-- the facts of the first lemma, and those of the first and the third
abbrev pub first_fact : List (List Fact)
first_fact = (Time 1 once_time ∷ []) ∷ []

abbrev pub first_and_size : List (List Fact)
first_and_size = (Time 1 once_time ∷ []) ∷ (Size 1 1 entered_size ∷ []) ∷ []

-- these are not accepted: a floor that isn't shown; a function that falls without a floor; an entry's size taken before
-- it; an entry without a time; an unreached node of a rule that is reached; a free variable taken for 0. With the
-- entry's time and the size after it the same node is accepted
pub record MistakesAreRefused : Type 0 where
  pub floor_is_looked_at : ¬ (Accepts counting [] (down (0 ∷ []) (0 ∷ [])))
  pub floor_is_needed : (move floor : List ℕ) → ¬ (Accepts falling [] (down move floor))
  pub size_after_entry : ¬ (Accepts counting first_fact (down_alone (AndProof Start (only (Cite 1)))))
  pub time_of_entry : ¬ (Accepts counting first_and_size (down_alone (AndProof Start (only (Cite 2)))))
  pub both_are_there : Accepts counting first_and_size (down_alone (AndProof (Cite 1) (only (Cite 2))))
  pub reached : ¬ (Accepts counting [] (Unreached 2 NoProof))
  pub unreached : Accepts apart [] (Unreached 2 NoProof)
  pub free_is_not_0 : (multipliers : List ℕ)
      → ¬ (AcceptsSideBound guessing (record { rule = 1; place = 1 }) Up (side_bound (pos 1) (pos 0) multipliers))

-- an empty node: no point meets A >= 1 and A <= 0, since the two rows add up to -1
abbrev pub empty_loop : List ℕ → Proof
empty_loop multipliers = Empty 2 multipliers

-- worked values of plain nodes: rows that add up to -1, and others that add up to 0; the facts of a rule that never
-- runs, and a rule that runs; a weaker bound, a stronger one, one with a base under 2, and one whose premise has
-- several facts; and a citation of no lemma
pub record PlainNodesAreJudged : Type 0 where
  pub empty : Accepts stuck [] (empty_loop (1 ∷ 1 ∷ []))
  pub not_empty : ¬ (Accepts stuck [] (empty_loop (1 ∷ 0 ∷ [])))
  pub never : Accepts stuck [] (Never (empty_loop (1 ∷ 1 ∷ [])))
  pub never_sizes : facts_of stuck [] (Never (empty_loop (1 ∷ 1 ∷ []))) ≡ Size 2 1 (Constant 0) ∷ []
  pub not_never : ¬ (Accepts counting first_fact (Never (Cite 1)))
  pub weaker : Accepts stuck [] (Weaken (empty_loop (1 ∷ 1 ∷ [])) (Input 0))
  pub weaker_fact : facts_of stuck [] (Weaken (empty_loop (1 ∷ 1 ∷ [])) (Input 0)) ≡ Time 2 (Input 0) ∷ []
  pub not_weaker : ¬ (Accepts counting first_fact (Weaken (Cite 1) (Constant 0)))
  pub no_base_of_1 : ¬ (Accepts stuck [] (Weaken (empty_loop (1 ∷ 1 ∷ [])) (PowerOf 1 (Input 0))))
  pub no_other_input : ¬ (Accepts stuck [] (Weaken (empty_loop (1 ∷ 1 ∷ [])) (Input 1)))
  pub one_fact : ¬ (Accepts stuck [] (Weaken Start (Constant 1)))
  pub start_facts : facts_of stuck [] Start ≡ Time 0 (Constant 1) ∷ Size 0 1 (Input 0) ∷ []
  pub earlier : ¬ (Accepts counting first_fact (Cite 2))

-- a place that doubles
abbrev pub doubled_member : Member
doubled_member = record {
  result_variable = record { rule = 2; place = 1 };
  local = record { up = side_bound (pos 2) (pos 0) []; low = side_bound (negsuc 1) (pos 0) [] };
}

abbrev pub doubled : List Member
doubled = doubled_member ∷ []

-- the time of every rule is 3, and the size of every place B
abbrev pub three_times : ℕ → Option Bound
three_times t = Some (Constant 3)

abbrev pub all_inputs : ℕ → ℕ → Option Bound
all_inputs t i = Some (Input 0)

-- the function (A + 1) / 2 for the loop with two entries
abbrev pub half_node : RankNode
half_node = record {
  rule = 3;
  set = 3 ∷ [];
  den = 2;
  forms = at_symbol 1 (pos 1) (pos 1) ∷ [];
  moves = [];
  floor = [];
}

-- worked values of formulas: each entry is summed; the factor of a rule that doubles is 2, and its power is multiplied
-- to the size that enters, so from 8 three rounds lead to 64
pub record FormulasAreWhole : Type 0 where
  pub both_entries : entries two_ways_in (3 ∷ []) ≡ 1 ∷ 2 ∷ []
  pub both_before : pre two_ways_in 3 ≡ 1 ∷ 2 ∷ 3 ∷ []
  pub both_summed : val (time_of two_ways_in half_node three_times all_inputs) (4 ∷ []) ≡ 30
  pub factor : factor_of (flows doubling doubled all_inputs) 2 ≡ 2
  pub power : val (cycle_of doubling doubled three_times all_inputs) (4 ∷ []) ≡ 64
