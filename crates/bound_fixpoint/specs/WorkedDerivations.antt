-- Derivations, and the bounds and numbers that are read off them, worked out by hand for the program that counts down:
-- k(A) -> l(A), and l(A) -> l(A - 1) where A >= 1.
use Rattle.std.specs.Prelude.{◌≡◌, ℕ, true, false, List, [], ◌∷◌, pos, Some, None}
use Rattle.rule_questions.specs.model.Bounds.{Bound, Constant, Input, SumOf, ProductOf}
use Rattle.rule_questions.specs.model.Facts.{Time, Size}
use Rattle.rule_questions.specs.cert_rules.Composed.{both_parts}
use Rattle.rule_questions.specs.cert_rules.Nodes.{ResultVariable, RankNode, NoProof, AndProof, Start, Cite, Empty, Unreached}
use Rattle.rule_questions.specs.cert_rules.Nodes.{Never, Cycle}
use Rattle.rule_questions.specs.cert_rules.WorkedSettings.{counting, doubling, apart, stuck, form}
use Rattle.rule_questions.specs.cert_rules.Worked.{one_part, one_times, only, once_node, once, once_time, alone_node}
use Rattle.rule_questions.specs.cert_rules.Worked.{down_alone, entered_member, entered, entered_size, looped_member}
use Rattle.rule_questions.specs.cert_rules.Worked.{looped_size, doubled, three_times, all_inputs}
use Rattle.bound_fixpoint.specs.Keys.{key, time_key, has_key, place_fact, over}
use Rattle.bound_fixpoint.specs.Derivations.{RankBy, EmptyBy, UnreachedBy, NeverBy, SpreadBy, CycleBy, Derivation, keys_of}
use Rattle.bound_fixpoint.specs.Derivations.{bound_found}
use Rattle.bound_fixpoint.specs.Derivations.{bounds_of, number_in, facts_of_derivation}
use Rattle.bound_fixpoint.specs.Needs.{rank_premises, spread_premises, cycle_premises, uses_from, lemmas_of}
use Rattle.bound_fixpoint.specs.Beginning.{empty_derivation, unreached_derivation, never_derivation}

-- the derivations of the time of rule 1, which runs once; of the size after it, which doesn't loop; and of the size
-- after rule 2, which does
abbrev pub once_derivation : Derivation
once_derivation = record {
  keys = time_key 1 ∷ [];
  node = RankBy once_node;
  premises = time_key 0 ∷ [];
  bound = once_time;
}

abbrev pub entered_derivation : Derivation
entered_derivation = record {
  keys = key 1 1 ∷ [];
  node = SpreadBy entered_member;
  premises = key 0 1 ∷ key 0 1 ∷ [];
  bound = entered_size;
}

abbrev pub looped_derivation : Derivation
looped_derivation = record {
  keys = key 2 1 ∷ [];
  node = CycleBy (looped_member ∷ []);
  premises = key 1 1 ∷ [];
  bound = looped_size;
}

-- the time of rule 2, ranked over itself alone: for each use of rule 1, the size after it
abbrev pub alone_time : Bound
alone_time = SumOf (one_part (ProductOf (both_parts once_time (one_times entered_size))))

abbrev pub alone_derivation : Derivation
alone_derivation = record {
  keys = time_key 2 ∷ [];
  node = RankBy alone_node;
  premises = time_key 1 ∷ key 1 1 ∷ [];
  bound = alone_time;
}

-- 7 for these keys, whatever the node
abbrev pub seven : List ResultVariable → Derivation
seven keys = record { keys = keys; node = NeverBy 1; premises = []; bound = Constant 7 }

-- both keys of rule 1
abbrev pub both_keys : Derivation
both_keys = seven (time_key 1 ∷ key 1 1 ∷ [])

-- without derivations only the virtual entry has bounds: its time, and the size at its only place. The first
-- derivation of a key counts, and none replaces the bounds of the virtual entry. A key has the number of its first
-- derivation, counted from 1; a key without one has 0, as the virtual entry has
pub record DerivationsAreReadOff : Type 0 where
  pub entry_time : bounds_of counting.program [] 0 0 ≡ Some (Constant 1)
  pub entry_size : bounds_of counting.program [] 0 1 ≡ Some (Input 0)
  pub no_other_place : bounds_of counting.program [] 0 2 ≡ None
  pub no_rule : bounds_of counting.program [] 1 0 ≡ None
  pub first_counts : bounds_of counting.program (once_derivation ∷ both_keys ∷ []) 1 0 ≡ Some once_time
  pub other_first : bounds_of counting.program (both_keys ∷ once_derivation ∷ []) 1 0 ≡ Some (Constant 7)
  pub second_key : bounds_of counting.program (once_derivation ∷ both_keys ∷ []) 1 1 ≡ Some (Constant 7)
  pub no_key : bounds_of counting.program (once_derivation ∷ both_keys ∷ []) 2 0 ≡ None
  pub entry_stays : bounds_of counting.program (seven (time_key 0 ∷ []) ∷ []) 0 0 ≡ Some (Constant 1)
  pub found_alone : bound_found (seven (time_key 0 ∷ []) ∷ []) 0 0 ≡ Some (Constant 7)
  pub first_number : number_in (once_derivation ∷ both_keys ∷ []) 1 0 ≡ 1
  pub second_number : number_in (once_derivation ∷ both_keys ∷ []) 1 1 ≡ 2
  pub no_number : number_in (once_derivation ∷ both_keys ∷ []) 2 0 ≡ 0
  pub entry_number : number_in (seven (time_key 0 ∷ []) ∷ []) 0 0 ≡ 0

-- place 0 is the time, and no place of a size; a key is its rule and its place; a derivation states its bound for each
-- of its keys, and these are the keys of its node
pub record KeysAreWorkedOut : Type 0 where
  pub time : place_fact 2 0 (Constant 7) ≡ Time 2 (Constant 7)
  pub size : place_fact 2 1 (Constant 7) ≡ Size 2 1 (Constant 7)
  pub time_over : (over (bounds_of counting.program [])).time 0 ≡ Some (Constant 1)
  pub size_over : (over (bounds_of counting.program [])).size 0 1 ≡ Some (Input 0)
  pub no_size_over : (over (bounds_of counting.program [])).size 0 0 ≡ None
  pub has : has_key (time_key 1 ∷ key 2 1 ∷ []) 2 1 ≡ true
  pub other_place : has_key (time_key 1 ∷ key 2 1 ∷ []) 2 0 ≡ false
  pub other_rule : has_key (time_key 1 ∷ key 2 1 ∷ []) 1 1 ≡ false
  pub facts : facts_of_derivation both_keys ≡ Time 1 (Constant 7) ∷ Size 1 1 (Constant 7) ∷ []
  pub of_empty : keys_of counting.program (EmptyBy 2 []) ≡ time_key 2 ∷ []
  pub of_unreached : keys_of counting.program (UnreachedBy 2) ≡ time_key 2 ∷ []
  pub of_never : keys_of counting.program (NeverBy 2) ≡ key 2 1 ∷ []
  pub of_rank : keys_of counting.program (RankBy once_node) ≡ time_key 1 ∷ []
  pub of_spread : keys_of counting.program (SpreadBy entered_member) ≡ key 1 1 ∷ []
  pub of_cycle : keys_of counting.program (CycleBy (entered_member ∷ looped_member ∷ [])) ≡ key 1 1 ∷ key 2 1 ∷ []

-- the value at l, over a set of rules
abbrev pub value_over : List ℕ → RankNode
value_over set = record {
  rule = 2;
  set = set;
  den = 1;
  forms =
      record { symbol = 0; form = form (pos 0 ∷ []) (pos 1) } ∷
      record { symbol = 1; form = form (pos 1 ∷ []) (pos 0) } ∷ [];
  moves = [];
  floor = [];
}

-- over rule 2 alone rule 1 is the entry, whose time and size are premises; over both rules it is the virtual entry,
-- after which the function reads no size. Both side bounds of rule 1 read the value before it; of rule 2 only the up
-- side bound reads, and nothing is added, so its time is no premise; where the loop doubles, both side bounds read,
-- and the time of its rule comes last. The virtual entry comes first in every list, and no lemma is cited twice
pub record PremisesAreWorkedOut : Type 0 where
  pub of_alone : rank_premises counting.program (value_over (2 ∷ [])) ≡ time_key 1 ∷ key 1 1 ∷ []
  pub of_both : rank_premises counting.program (value_over (1 ∷ 2 ∷ [])) ≡ time_key 0 ∷ []
  pub of_spread : spread_premises counting entered_member ≡ key 0 1 ∷ key 0 1 ∷ []
  pub of_cycle : cycle_premises counting (over (bounds_of counting.program (entered_derivation ∷ []))) (looped_member ∷ [])
      ≡ key 1 1 ∷ []
  pub with_time : cycle_premises doubling (record { time = three_times; size = all_inputs }) doubled
      ≡ key 1 1 ∷ key 1 1 ∷ time_key 2 ∷ []
  pub none : uses_from [] ≡ NoProof
  pub start : uses_from (0 ∷ 0 ∷ []) ≡ AndProof Start NoProof
  pub start_first : uses_from (3 ∷ 0 ∷ 3 ∷ 1 ∷ []) ≡ AndProof Start (AndProof (Cite 3) (AndProof (Cite 1) NoProof))
  pub in_order : uses_from (5 ∷ 2 ∷ 5 ∷ 4 ∷ 2 ∷ []) ≡ AndProof (Cite 5) (AndProof (Cite 2) (AndProof (Cite 4) NoProof))

-- the lemmas of derivations, each of which cites the earlier ones that state its premises: of the program that counts
-- down; of one with an unreached rule; and of one with an infeasible rule
pub record LemmasAreWorkedOut : Type 0 where
  pub counting_down : lemmas_of (once_derivation ∷ entered_derivation ∷ alone_derivation ∷ looped_derivation ∷ [])
      ≡ once ∷ entered ∷ down_alone (AndProof (Cite 1) (only (Cite 2)))
      ∷ Cycle (looped_member ∷ []) (only (Cite 2)) ∷ []
  pub turned : lemmas_of (entered_derivation ∷ once_derivation ∷ alone_derivation ∷ [])
      ≡ entered ∷ once ∷ down_alone (AndProof (Cite 2) (only (Cite 1))) ∷ []
  pub of_unreached : lemmas_of (unreached_derivation [] 2 ∷ never_derivation apart.program 2 ∷ [])
      ≡ Unreached 2 NoProof ∷ Never (Cite 1) ∷ []
  pub of_empty : lemmas_of (empty_derivation 2 (1 ∷ 1 ∷ []) ∷ never_derivation stuck.program 2 ∷ [])
      ≡ Empty 2 (1 ∷ 1 ∷ []) ∷ Never (Cite 1) ∷ []
  pub of_cut : lemmas_of (empty_derivation 1 [] ∷ unreached_derivation (time_key 1 ∷ []) 2 ∷ [])
      ≡ Empty 1 [] ∷ Unreached 2 (only (Cite 1)) ∷ []
