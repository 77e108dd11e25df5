-- When a derivation is accepted, and the facts that it then states.
use Rattle.std.specs.Prelude.{ℕ, zero, suc, List, [], ◌∷◌, ◌++◌, ⊤}
use Rattle.run_counting.specs.model.Bounds.{Constant}
use Rattle.run_counting.specs.model.Facts.{Fact, Time, Size, Cost}
use Rattle.cert_rules.specs.Nodes.{Proof, Cite, Start, Empty, Unreached, Never, Rank, Spread, Cycle, Weaken, CostBound}
use Rattle.cert_rules.specs.Nodes.{Proofs, NoProof, AndProof}
use Rattle.cert_rules.specs.Known.{table_of}
use Rattle.cert_rules.specs.AcceptsPlain.{AcceptsCite, AcceptsEmpty, AcceptsUnreached, AcceptsNever, AcceptsWeaken}
use Rattle.cert_rules.specs.AcceptsPlain.{may_run, start_facts, never_facts, weakened}
use Rattle.cert_rules.specs.AcceptsRank.{AcceptsRank, rank_time}
use Rattle.cert_rules.specs.AcceptsSizes.{AcceptsSpread, AcceptsCycle, spread_size, cycle_size, cycle_facts}
use Rattle.cert_rules.specs.AcceptsCosts.{AcceptsCost, node_cost}
use Rattle.cert_rules.specs.Setting.{Setting}

-- the facts of lemma number n, counted from 1; no fact if there is no such lemma
abbrev pub facts_of_lemma : List (List Fact) → ℕ → List Fact
facts_of_lemma past zero = []
facts_of_lemma [] (suc n) = []
facts_of_lemma (facts ∷ past) (suc zero) = facts
facts_of_lemma (facts ∷ past) (suc (suc n)) = facts_of_lemma past (suc n)

-- the facts that a node states, after lemmas with these facts; and the facts of its premises, joined in order
abbrev mutual
  pub facts_of : Setting → List (List Fact) → Proof → List Fact
  facts_of s past (Cite n) = facts_of_lemma past n
  facts_of s past Start = start_facts s.program
  facts_of s past (Empty t multipliers) = Time t (Constant 0) ∷ []
  facts_of s past (Unreached t uses) = Time t (Constant 0) ∷ []
  facts_of s past (Never child) = never_facts s.program (facts_of s past child)
  facts_of s past (Rank node uses) =
      Time node.rule (s.rewrite (rank_time s node (table_of (joined_facts s past uses)))) ∷ []
  facts_of s past (Spread m uses) =
      Size m.result_variable.rule m.result_variable.place (s.rewrite (spread_size s (table_of (joined_facts s past uses)) m)) ∷ []
  facts_of s past (Cycle members uses) =
      cycle_facts (s.rewrite (cycle_size s (table_of (joined_facts s past uses)) members)) members
  facts_of s past (Weaken child b) = weakened (facts_of s past child) b
  facts_of s past (CostBound node uses) = Cost node.rule (node_cost s (table_of (joined_facts s past uses)) node) ∷ []

  pub joined_facts : Setting → List (List Fact) → Proofs → List Fact
  joined_facts s past NoProof = []
  joined_facts s past (AndProof proof uses) = facts_of s past proof ++ joined_facts s past uses

-- the checks of the node itself pass, after lemmas with these facts, supposing that its premises are accepted
abbrev pub AcceptsNode : Setting → List (List Fact) → Proof → Type 0
AcceptsNode s past (Cite n) = AcceptsCite past n
AcceptsNode s past Start = ⊤
AcceptsNode s past (Empty t multipliers) = AcceptsEmpty s t multipliers
AcceptsNode s past (Unreached t uses) = AcceptsUnreached s.program (may_run (joined_facts s past uses)) t
AcceptsNode s past (Never child) = AcceptsNever (facts_of s past child)
AcceptsNode s past (Rank node uses) = AcceptsRank s (table_of (joined_facts s past uses)) node
AcceptsNode s past (Spread m uses) = AcceptsSpread s (table_of (joined_facts s past uses)) m
AcceptsNode s past (Cycle members uses) = AcceptsCycle s (table_of (joined_facts s past uses)) members
AcceptsNode s past (Weaken child b) = AcceptsWeaken s (facts_of s past child) b
AcceptsNode s past (CostBound node uses) = AcceptsCost s (table_of (joined_facts s past uses)) node

-- a derivation is accepted after lemmas with these facts: its premises are accepted, and the checks of its node pass
abbrev mutual
  pub Accepts : Setting → List (List Fact) → Proof → Type 0
  Accepts s past (Cite n) = AcceptsNode s past (Cite n)
  Accepts s past Start = AcceptsNode s past Start
  Accepts s past (Empty t multipliers) = AcceptsNode s past (Empty t multipliers)
  Accepts s past (Unreached t uses) = AllAccepted s past uses × AcceptsNode s past (Unreached t uses)
  Accepts s past (Never child) = Accepts s past child × AcceptsNode s past (Never child)
  Accepts s past (Rank node uses) = AllAccepted s past uses × AcceptsNode s past (Rank node uses)
  Accepts s past (Spread m uses) = AllAccepted s past uses × AcceptsNode s past (Spread m uses)
  Accepts s past (Cycle members uses) = AllAccepted s past uses × AcceptsNode s past (Cycle members uses)
  Accepts s past (Weaken child b) = Accepts s past child × AcceptsNode s past (Weaken child b)
  Accepts s past (CostBound node uses) = AllAccepted s past uses × AcceptsNode s past (CostBound node uses)

  pub AllAccepted : Setting → List (List Fact) → Proofs → Type 0
  AllAccepted s past NoProof = ⊤
  AllAccepted s past (AndProof proof uses) = Accepts s past proof × AllAccepted s past uses

-- each lemma is accepted after those before it
abbrev pub AcceptsFrom : Setting → List (List Fact) → List Proof → Type 0
AcceptsFrom s past [] = ⊤
AcceptsFrom s past (proof ∷ proofs) = Accepts s past proof × AcceptsFrom s (past ++ facts_of s past proof ∷ []) proofs

-- the facts of all lemmas, lemma by lemma
abbrev pub facts_from : Setting → List (List Fact) → List Proof → List (List Fact)
facts_from s past [] = past
facts_from s past (proof ∷ proofs) = facts_from s (past ++ facts_of s past proof ∷ []) proofs

-- all lemmas of a list are accepted, and the facts that they state
unfoldable pub AcceptsLemmas : Setting → List Proof → Type 0
AcceptsLemmas s proofs = AcceptsFrom s [] proofs

unfoldable pub facts_of_lemmas : Setting → List Proof → List (List Fact)
facts_of_lemmas s proofs = facts_from s [] proofs
