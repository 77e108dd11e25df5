-- Why all facts of accepted lemmas hold: if the facts stated before a node are good, so are those that it states.
use Rattle.std.proofs.Common.{ℕ, zero, suc, List, [], ◌∷◌, ◌++◌, All}
use Rattle.std.proofs.lemmas.List.Elements.{All-nil, All-cons, All-head, All-tail, All-append, All-push, All-weaker}
use Rattle.run_counting.specs.model.Programs.{Program}
use Rattle.run_counting.specs.model.Bounds.{Constant}
use Rattle.run_counting.specs.model.Facts.{Fact, Time, Size, Cost, Holds}
use Rattle.cert_rules.specs.Nodes.{Proof, Cite, Start, Empty, Unreached, Never, Rank, Spread, Cycle, Weaken, CostBound}
use Rattle.cert_rules.specs.Nodes.{Proofs, NoProof, AndProof}
use Rattle.cert_rules.specs.Setting.{Setting, IsFaithful}
use Rattle.cert_rules.specs.Known.{table_of}
use Rattle.cert_rules.specs.AcceptsRank.{rank_time}
use Rattle.cert_rules.specs.AcceptsSizes.{spread_size}
use Rattle.cert_rules.specs.AcceptsCosts.{node_cost}
use Rattle.cert_rules.specs.Acceptance.{facts_of_lemma, facts_of, joined_facts, Accepts, AllAccepted, AcceptsFrom}
use Rattle.cert_rules.specs.Acceptance.{facts_from, AcceptsLemmas, facts_of_lemmas}
use Rattle.cert_rules.specs.Laws.{AcceptedFactsHold, HasBasedBound, AcceptedBoundsAreBased}
use Rattle.cert_rules.proofs.GoodFacts.{IsGood, table-good}
use Rattle.cert_rules.proofs.UnusedRules.{empty-good, unreached-good, never-good}
use Rattle.cert_rules.proofs.Weaker.{start-good, weaken-good}
use Rattle.cert_rules.proofs.RankSoundness.{rank-good}
use Rattle.cert_rules.proofs.SpreadSoundness.{spread-good}
use Rattle.cert_rules.proofs.CycleSoundness.{cycle-good}
use Rattle.cert_rules.proofs.CostSoundness.{cost-good}

-- all facts of a lemma are good
abbrev AreGood : Program → List Fact → Type 0
AreGood p facts = All (IsGood p) facts

-- the facts of an earlier lemma are good
lemma-good : (p : Program) (past : List (List Fact)) → All (AreGood p) past → (n : ℕ)
    → AreGood p (facts_of_lemma past n)
lemma-good p past good zero = All-nil (IsGood p)
lemma-good p [] good (suc n) = All-nil (IsGood p)
lemma-good p (facts ∷ past) good (suc zero) = All-head (AreGood p) facts past good
lemma-good p (facts ∷ past) good (suc (suc n)) = lemma-good p past (All-tail (AreGood p) facts past good) (suc n)

-- a single good fact
one_good : (p : Program) (f : Fact) → IsGood p f → AreGood p (f ∷ [])
one_good p f h = All-cons (IsGood p) f [] h (All-nil (IsGood p))

module _ (s : Setting) (true_to : IsFaithful s) (past : List (List Fact)) (good : All (AreGood s.program) past) where
  -- the facts that an accepted node states are good, and so are those of its premises
  mutual
    node-good : (proof : Proof) → Accepts s past proof → AreGood s.program (facts_of s past proof)
    node-good (Cite n) h = lemma-good s.program past good n
    node-good Start h = start-good s.program
    node-good (Empty t multipliers) h = one_good s.program (Time t (Constant 0)) (empty-good s true_to t multipliers h)
    node-good (Unreached t uses) h =
        one_good s.program (Time t (Constant 0))
        (unreached-good s.program (joined_facts s past uses) (uses-good uses h.0) t h.1)
    node-good (Never child) h = never-good s.program (facts_of s past child) (node-good child h.0) h.1
    node-good (Rank node uses) h =
        one_good s.program (Time node.rule (s.rewrite (rank_time s node (table_of (joined_facts s past uses)))))
        (rank-good s true_to (table_of (joined_facts s past uses)) (table-good s.program (joined_facts s past uses) (uses-good uses h.0)) node h.1)
    node-good (Spread m uses) h =
        one_good s.program (Size m.result_variable.rule m.result_variable.place (s.rewrite (spread_size s (table_of (joined_facts s past uses)) m)))
        (spread-good s true_to (table_of (joined_facts s past uses)) (table-good s.program (joined_facts s past uses) (uses-good uses h.0)) m h.1)
    node-good (Cycle members uses) h = cycle-good s true_to (table_of (joined_facts s past uses)) (table-good s.program (joined_facts s past uses) (uses-good uses h.0)) members h.1
    node-good (Weaken child b) h = weaken-good s true_to (facts_of s past child) (node-good child h.0) b h.1
    node-good (CostBound node uses) h =
        one_good s.program (Cost node.rule (node_cost s (table_of (joined_facts s past uses)) node))
        (cost-good s true_to (table_of (joined_facts s past uses))
        (table-good s.program (joined_facts s past uses) (uses-good uses h.0)) node h.1)

    uses-good : (uses : Proofs) → AllAccepted s past uses → AreGood s.program (joined_facts s past uses)
    uses-good NoProof h = All-nil (IsGood s.program)
    uses-good (AndProof proof uses) h =
        All-append (IsGood s.program) (facts_of s past proof) (joined_facts s past uses) (node-good proof h.0)
        (uses-good uses h.1)

-- the facts that all lemmas state are good
lemmas-good : (s : Setting) → IsFaithful s → (past : List (List Fact)) → All (AreGood s.program) past
    → (proofs : List Proof) → AcceptsFrom s past proofs
    → All (AreGood s.program) (facts_from s past proofs)
lemmas-good s true_to past good [] h = good
lemmas-good s true_to past good (proof ∷ proofs) h =
    lemmas-good s true_to (past ++ facts_of s past proof ∷ [])
    (All-push (AreGood s.program) past (facts_of s past proof) good (node-good s true_to past good proof h.0))
    proofs h.1

-- every fact of every accepted lemma holds on all runs
pub accepted_facts_hold : AcceptedFactsHold
unfolding AcceptsLemmas facts_of_lemmas
accepted_facts_hold = record {
  each = λ s true_to proofs h.
      All-weaker (AreGood s.program) (All (Holds s.program))
      (λ facts good. All-weaker (IsGood s.program) (Holds s.program) (λ f g. g.holds) facts good)
      (facts_of_lemmas s proofs) (lemmas-good s true_to [] (All-nil (AreGood s.program)) proofs h);
}

-- every base in the bounds of accepted facts is at least 1
pub accepted_bounds_are_based : AcceptedBoundsAreBased
unfolding AcceptsLemmas facts_of_lemmas
accepted_bounds_are_based = record {
  each = λ s true_to proofs h.
      All-weaker (AreGood s.program) (All HasBasedBound)
      (λ facts good. All-weaker (IsGood s.program) HasBasedBound (λ f g. g.based) facts good)
      (facts_of_lemmas s proofs) (lemmas-good s true_to [] (All-nil (AreGood s.program)) proofs h);
}
