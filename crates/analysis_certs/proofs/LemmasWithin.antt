-- The lemmas of derivations and of costs that are accepted are within the limits of proof files, and write no bound.
use Rattle.std.proofs.Common.{◌≡◌, ℕ, suc, ◌+◌, ◌==◌, ◌≤◌, Bool, true, false, not, cond, List, [], ◌∷◌, ◌++◌, length, map, filter}
use Rattle.std.proofs.Common.{subst, arith, All}
use Rattle.std.proofs.lemmas.List.{length_push}
use Rattle.std.proofs.lemmas.List.Elements.{All-nil, All-cons, All-append, All-weaker}
use Rattle.its_model.specs.Valid.{IsValid}
use Rattle.model.specs.Entries.{is_in}
use Rattle.model.specs.Facts.{Fact}
use Rattle.cert_types.specs.cert_rules.Acceptance.{Accepts, AllAccepted, AcceptsFrom, AcceptsLemmas, facts_of}
use Rattle.cert_types.specs.cert_rules.AcceptsCosts.{HasCostNumbers}
use Rattle.cert_types.specs.cert_rules.AcceptsSizes.{HasMemberShape, left_of}
use Rattle.cert_types.specs.cert_rules.Nodes.{ResultVariable, CostBy, EmptyCost, NeverCost, SideBoundCost, CostNode, Proof, Proofs}
use Rattle.cert_types.specs.cert_rules.Nodes.{Start, AndProof}
use Rattle.cert_types.specs.cert_rules.Setting.{Setting, costs_of}
use Rattle.bound_fixpoint.specs.Derivations.{Node, EmptyBy, UnreachedBy, NeverBy, RankBy, SpreadBy, CycleBy, Derivation, number_in}
use Rattle.bound_fixpoint.specs.Needs.{once, cites, uses_from, uses_for, lemma_by, lemmas_of}
use Rattle.cert_text.specs.OverFirst.{IsOverFirst, AreOverFirst}
use Rattle.cert_text.specs.Spelled.{level_limit, IsCostByWithin, IsMemberWithin, IsProofWithin, AreProofsWithin, AreLemmasWithin}
use Rattle.cost_bounds.specs.CostLemmas.{cost_lemma, cost_lemmas, cost_premises}
use Rattle.analysis_certs.proofs.NodesWithin.{member-within, rank-within, side_bound-within}

module _ (s : Setting) (past : List (List Fact)) (level : ℕ) (low : level ≤ level_limit) where
  -- cited lemmas are within the limits
  cites-within : (ns : List ℕ) → AllAccepted s past (cites ns) → AreProofsWithin s.program (length past) level (cites ns)
  cites-within [] h = tt
  cites-within (n ∷ ns) h = ((low, (h.0.least, h.0.earlier)), cites-within ns h.1)

  -- cited lemmas, with the virtual entry or without it, are within the limits
  uses-within : (ns : List ℕ) → AllAccepted s past (uses_from ns)
      → AreProofsWithin s.program (length past) level (uses_from ns)
  uses-within ns h = go (is_in 0 ns) h
    where
      go : (v : Bool) → AllAccepted s past (cond v (AndProof Start (cites (once (filter (λ n. not (n == 0)) ns)))) (cites (once (filter (λ n. not (n == 0)) ns))))
          → AreProofsWithin s.program (length past) level
          (cond v (AndProof Start (cites (once (filter (λ n. not (n == 0)) ns)))) (cites (once (filter (λ n. not (n == 0)) ns))))
      go true k = ((low, tt), cites-within (once (filter (λ n. not (n == 0)) ns)) k.1)
      go false k = cites-within (once (filter (λ n. not (n == 0)) ns)) k

module _ (s : Setting) (valid : IsValid s.program) (number : ℕ → ℕ → ℕ) where
  -- the lemma of a node is within the limits
  lemma-within : (past : List (List Fact)) (node : Node) (premises : List ResultVariable) → Accepts s past (lemma_by number node premises)
      → IsProofWithin s.program (length past) 1 (lemma_by number node premises)
  lemma-within past (EmptyBy t multipliers) premises h = (omega arith, (h.shape.rule, h.shape.one_each.limit))
  lemma-within past (UnreachedBy t) premises h =
      ((omega arith, h.1.shape), uses-within s past 2 (omega arith) (map (λ k. number k.rule k.place) premises) h.0)
  lemma-within past (NeverBy t) premises h = ((omega arith, tt), (omega arith, (h.0.least, h.0.earlier)))
  lemma-within past (RankBy node) premises h = (
    (omega arith, rank-within s valid node h.1.shape),
    uses-within s past 2 (omega arith) (map (λ k. number k.rule k.place) premises) h.0,
  )
  lemma-within past (SpreadBy m) premises h = (
    (omega arith, member-within s m h.1.shape),
    uses-within s past 2 (omega arith) (map (λ k. number k.rule k.place) premises) h.0,
  )
  lemma-within past (CycleBy members) premises h = (
    (
      omega arith,
      (
        h.1.shape.some,
        All-weaker (HasMemberShape s) (IsMemberWithin s.program) (member-within s) members h.1.shape.each,
      ),
    ),
    uses-within s past 2 (omega arith) (map (λ k. number k.rule k.place) premises) h.0,
  )

  -- the certificate of a cost is within the limits
  cost_by-within : (t : ℕ) (by : CostBy) → HasCostNumbers s t by → IsCostByWithin by
  cost_by-within t (EmptyCost multipliers) h = h.limit
  cost_by-within t NeverCost h = tt
  cost_by-within t (SideBoundCost side_bound) h = side_bound-within (costs_of s) t (left_of s.program t) side_bound h

  -- the lemma of a cost is within the limits
  cost-within : (past : List (List Fact)) (node : CostNode) → Accepts s past (cost_lemma s number node)
      → IsProofWithin s.program (length past) 1 (cost_lemma s number node)
  cost-within past node h = (
    (omega arith, (record { rule = h.1.shape.cost.rule; numbered = h.1.shape.cost.numbered }, cost_by-within node.rule node.by h.1.shape.numbers)),
    uses-within s past 2 (omega arith) (map (λ k. number k.rule k.place) (cost_premises s node.rule node.by)) h.0,
  )

  costs-from : (past : List (List Fact)) (nodes : List CostNode) → AcceptsFrom s past (cost_lemmas s number nodes)
      → AreLemmasWithin s.program (length past) (cost_lemmas s number nodes)
  costs-from past [] h = tt
  costs-from past (node ∷ nodes) h = (
    cost-within past node h.0,
    subst (λ (n : ℕ). AreLemmasWithin s.program n (cost_lemmas s number nodes)) more
        (costs-from (past ++ facts_of s past (cost_lemma s number node) ∷ []) nodes h.1),
  )
    where
      more : length (past ++ facts_of s past (cost_lemma s number node) ∷ []) ≡ suc (length past)
      more = omega (arith, length_push past (facts_of s past (cost_lemma s number node)))

  -- the lemmas of derivations, followed by those of costs, are within the limits
  both-from : (past : List (List Fact)) (fs : List Derivation) (nodes : List CostNode)
      → AcceptsFrom s past (map (λ f. lemma_by number f.node f.premises) fs ++ cost_lemmas s number nodes)
      → AreLemmasWithin s.program (length past) (map (λ f. lemma_by number f.node f.premises) fs ++ cost_lemmas s number nodes)
  both-from past [] nodes h = costs-from past nodes h
  both-from past (f ∷ fs) nodes h = (
    lemma-within past f.node f.premises h.0,
    subst (λ (n : ℕ). AreLemmasWithin s.program n (map (λ g. lemma_by number g.node g.premises) fs ++ cost_lemmas s number nodes)) more
        (both-from (past ++ facts_of s past (lemma_by number f.node f.premises) ∷ []) fs nodes h.1),
  )
    where
      more : length (past ++ facts_of s past (lemma_by number f.node f.premises) ∷ []) ≡ suc (length past)
      more = omega (arith, length_push past (facts_of s past (lemma_by number f.node f.premises)))

-- accepted lemmas of derivations and of costs are within the limits
pub lemmas-within : (s : Setting) → IsValid s.program → (fs : List Derivation) (nodes : List CostNode)
    → AcceptsLemmas s (lemmas_of fs ++ cost_lemmas s (number_in fs) nodes)
    → AreLemmasWithin s.program 0 (lemmas_of fs ++ cost_lemmas s (number_in fs) nodes)
unfolding AcceptsLemmas
lemmas-within s valid fs nodes h = both-from s valid (number_in fs) [] fs nodes h

-- citing writes no bound
cites-over_first : (n : ℕ) (ns : List ℕ) → AreOverFirst n (cites ns)
cites-over_first n [] = tt
cites-over_first n (m ∷ ns) = (tt, cites-over_first n ns)

uses-over_first : (n : ℕ) (ns : List ℕ) → AreOverFirst n (uses_from ns)
uses-over_first n ns = go (is_in 0 ns)
  where
    go : (v : Bool) → AreOverFirst n
        (cond v (AndProof Start (cites (once (filter (λ m. not (m == 0)) ns)))) (cites (once (filter (λ m. not (m == 0)) ns))))
    go true = (tt, cites-over_first n (once (filter (λ m. not (m == 0)) ns)))
    go false = cites-over_first n (once (filter (λ m. not (m == 0)) ns))

-- the lemma of a derivation writes no bound
lemma-over_first : (n : ℕ) (number : ℕ → ℕ → ℕ) (node : Node) (premises : List ResultVariable) → IsOverFirst n (lemma_by number node premises)
lemma-over_first n number (EmptyBy t multipliers) premises = tt
lemma-over_first n number (UnreachedBy t) premises = uses-over_first n (map (λ k. number k.rule k.place) premises)
lemma-over_first n number (NeverBy t) premises = tt
lemma-over_first n number (RankBy node) premises = uses-over_first n (map (λ k. number k.rule k.place) premises)
lemma-over_first n number (SpreadBy m) premises = uses-over_first n (map (λ k. number k.rule k.place) premises)
lemma-over_first n number (CycleBy members) premises = uses-over_first n (map (λ k. number k.rule k.place) premises)

each-over_first : (n : ℕ) (number : ℕ → ℕ → ℕ) (fs : List Derivation)
    → All (IsOverFirst n) (map (λ f. lemma_by number f.node f.premises) fs)
each-over_first n number [] = All-nil (IsOverFirst n)
each-over_first n number (f ∷ fs) =
    All-cons (IsOverFirst n) (lemma_by number f.node f.premises) (map (λ g. lemma_by number g.node g.premises) fs)
    (lemma-over_first n number f.node f.premises) (each-over_first n number fs)

costs-over_first : (n : ℕ) (s : Setting) (number : ℕ → ℕ → ℕ) (nodes : List CostNode) → All (IsOverFirst n) (cost_lemmas s number nodes)
costs-over_first n s number [] = All-nil (IsOverFirst n)
costs-over_first n s number (node ∷ nodes) =
    All-cons (IsOverFirst n) (cost_lemma s number node) (cost_lemmas s number nodes)
    (uses-over_first n (map (λ k. number k.rule k.place) (cost_premises s node.rule node.by)))
    (costs-over_first n s number nodes)

pub lemmas-over_first : (n : ℕ) (s : Setting) (fs : List Derivation) (nodes : List CostNode)
    → All (IsOverFirst n) (lemmas_of fs ++ cost_lemmas s (number_in fs) nodes)
lemmas-over_first n s fs nodes =
    All-append (IsOverFirst n) (lemmas_of fs) (cost_lemmas s (number_in fs) nodes) (each-over_first n (number_in fs) fs)
    (costs-over_first n s (number_in fs) nodes)
