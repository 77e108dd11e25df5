-- The worked nodes and lemmas on small programs are accepted or refused, by computation.
use Rattle.std.proofs.Common.{◌≡◌, ℕ, List, [], ◌∷◌, refl, arith}
use Rattle.std.specs.Prelude.{pos, negsuc}
use Rattle.std.proofs.lemmas.Int.{ints}
use Rattle.rule_forms.specs.linear_forms.Certificates.{combined_coef}
use Rattle.run_counting.specs.model.Bounds.{Constant, Input, PowerOf}
use Rattle.run_counting.specs.model.Facts.{Fact}
use Rattle.cert_rules.specs.Nodes.{Cite, Start, Unreached, Never, Weaken, NoProof, AndProof}
use Rattle.cert_rules.specs.Acceptance.{Accepts, AcceptsLemmas, facts_of_lemmas}
use Rattle.cert_rules.specs.WorkedSettings.{counting, apart, stuck}
use Rattle.cert_rules.specs.Worked.{only, down, down_alone, four_lemmas, first_fact}
use Rattle.cert_rules.specs.Worked.{first_and_size, empty_loop, FourLemmasAreAccepted, MistakesAreRefused}
use Rattle.cert_rules.specs.Worked.{PlainNodesAreJudged}
use Rattle.cert_rules.proofs.Refusals.{lemmas-decided, accepted, refused}

-- all four lemmas are accepted
pub four_accepted : AcceptsLemmas counting four_lemmas
four_accepted = (lemmas-decided.each counting four_lemmas).0 refl

-- the ranking node over the loop alone is accepted
pub alone_accepted : Accepts counting first_and_size (down_alone (AndProof (Cite 1) (only (Cite 2))))
alone_accepted = accepted counting first_and_size (down_alone (AndProof (Cite 1) (only (Cite 2)))) refl

pub four_lemmas_accepted : FourLemmasAreAccepted
unfolding facts_of_lemmas
four_lemmas_accepted = record {
  accepted = four_accepted;
  facts = refl;
  once_value = refl;
  down_value = refl;
  entered_value = refl;
  looped_value = refl;
}

-- the coefficients combined of no rows are 0
pub no_rows_combine : (ms : List ℕ) (u : ℕ) → combined_coef ms [] u ≡ pos 0
no_rows_combine [] u = refl
no_rows_combine (m ∷ ms) u = refl

-- mistakes are refused; of the two that hold whatever the multipliers are, the combined rows are 0
pub mistakes_refused : MistakesAreRefused
mistakes_refused = record {
  floor_is_looked_at = refused counting [] (down (0 ∷ []) (0 ∷ [])) refl;
  floor_is_needed = λ move floor h.
      let e : pos 1 ≡ combined_coef floor [] 0 = h.1.floor.coefs 0 in omega (arith, ints, e, no_rows_combine floor 0);
  size_after_entry = refused counting first_fact (down_alone (AndProof Start (only (Cite 1)))) refl;
  time_of_entry = refused counting first_and_size (down_alone (AndProof Start (only (Cite 2)))) refl;
  both_are_there = alone_accepted;
  reached = refused counting [] (Unreached 2 NoProof) refl;
  unreached = accepted apart [] (Unreached 2 NoProof) refl;
  free_is_not_0 = λ multipliers h.
      let e : negsuc 0 ≡ combined_coef multipliers [] 1 = h.coefs 1 in
      omega (arith, ints, e, no_rows_combine multipliers 1);
}

-- the worked values of plain nodes hold
pub plain_nodes : PlainNodesAreJudged
plain_nodes = record {
  empty = accepted stuck [] (empty_loop (1 ∷ 1 ∷ [])) refl;
  not_empty = refused stuck [] (empty_loop (1 ∷ 0 ∷ [])) refl;
  never = accepted stuck [] (Never (empty_loop (1 ∷ 1 ∷ []))) refl;
  never_sizes = refl;
  not_never = refused counting first_fact (Never (Cite 1)) refl;
  weaker = accepted stuck [] (Weaken (empty_loop (1 ∷ 1 ∷ [])) (Input 0)) refl;
  weaker_fact = refl;
  not_weaker = refused counting first_fact (Weaken (Cite 1) (Constant 0)) refl;
  no_base_of_1 = refused stuck [] (Weaken (empty_loop (1 ∷ 1 ∷ [])) (PowerOf 1 (Input 0))) refl;
  no_other_input = refused stuck [] (Weaken (empty_loop (1 ∷ 1 ∷ [])) (Input 1)) refl;
  one_fact = refused stuck [] (Weaken Start (Constant 1)) refl;
  start_facts = refl;
  earlier = refused counting first_fact (Cite 2) refl;
}
