-- After the lemmas of justified derivations the lemmas of costs that are bounded are accepted, and hold.
use Rattle.std.proofs.Common.{◌≡◌, ◌≢◌, ℕ, true, List, [], ◌∷◌, ◌++◌, map, All, sym, ap, ◌∙◌, subst}
use Rattle.std.specs.List.{Contains}
use Rattle.std.proofs.lemmas.List.{append_assoc, append-nil}
use Rattle.std.proofs.lemmas.List.Elements.{All-nil, All-cons, All-head, All-tail}
use Rattle.model.specs.Bounds.{Bound, IsBased}
use Rattle.model.specs.Entries.{is_in}
use Rattle.model.specs.Facts.{Fact, Cost, Holds, HoldsCost}
use Rattle.model.specs.Programs.{Program}
use Rattle.its_model.specs.Valid.{IsValid}
use Rattle.cert_types.specs.cert_program.Setting.{setting_of}
use Rattle.cert_types.specs.cert_rules.Acceptance.{AcceptsFrom, AcceptsLemmas, Accepts, facts_from, facts_of}
use Rattle.cert_types.specs.cert_rules.Acceptance.{facts_of_lemmas, joined_facts}
use Rattle.cert_types.specs.cert_rules.AcceptsCosts.{node_cost}
use Rattle.cert_types.specs.cert_rules.Known.{IsKnown, Table, table_of}
use Rattle.cert_types.specs.cert_rules.Laws.{HasBasedBound}
use Rattle.cert_types.specs.cert_rules.Nodes.{ResultVariable, CostBy, EmptyCost, NeverCost, SideBoundCost, CostNode}
use Rattle.cert_types.specs.cert_rules.Nodes.{Proof}
use Rattle.cert_types.proofs.cert_program.Faithful.{settings-faithful}
use Rattle.cert_types.proofs.cert_rules.Soundness.{accepted_facts_hold, accepted_bounds_are_based}
use Rattle.size_nodes.proofs.FirstMissing.{all-known}
use Rattle.bound_fixpoint.specs.Derivations.{Derivation, bounds_of, facts_of_derivation, number_in}
use Rattle.bound_fixpoint.specs.Keys.{Bounds, at_key, over, time_key}
use Rattle.bound_fixpoint.specs.Needs.{lemmas_of, uses_for}
use Rattle.bound_fixpoint.specs.Justification.{AreJustified}
use Rattle.bound_fixpoint.specs.Stated.{SayBounds}
use Rattle.bound_fixpoint.proofs.CitedFacts.{uses-accepted}
use Rattle.bound_fixpoint.proofs.FactLists.{IsNumbered}
use Rattle.bound_fixpoint.proofs.KnownPremises.{sizes_known}
use Rattle.bound_fixpoint.proofs.ListMembers.{contained-all, contains-first, contains-right}
use Rattle.bound_fixpoint.proofs.NeededFacts.{needed_size, needed_time, premises_numbered}
use Rattle.bound_fixpoint.proofs.JustificationLaws.{are_numbered, have_lemmas}
use Rattle.cost_bounds.specs.CostLemmas.{cost_fact, cost_lemma, cost_lemmas, cost_premises}
use Rattle.cost_bounds.specs.CostOutcomes.{question, sizes_read}
use Rattle.cost_bounds.specs.Laws.{BoundedCostsAreAccepted, BoundedCostsHold, IsBoundedCost, table_with}
use Rattle.cost_bounds.proofs.CitedBefore.{accepts-append, facts-append, numbered-before, uses-before}
use Rattle.cost_bounds.proofs.CostNodes.{AgreesOn, Certifies, certified, node-accepted, node-same, zero_known}

module _ (p : Program) (pivots : ℕ) (v : IsValid p) (past : List (List Fact)) (number : ℕ → ℕ → ℕ) (b all : Bounds)
    (say : SayBounds (setting_of p) past number b all) (node : CostNode) (h : IsBoundedCost p pivots (over b) node)
  where
    -- the certificate of the node is right for its cost
    certifies : Certifies p pivots (over b) node.rule h.costs node.by
    certifies = certified p pivots (over b) node.rule (node.by, h)

    -- the premises of the node
    abbrev premises : List ResultVariable
    premises = cost_premises (setting_of p) node.rule node.by

    -- the premises of the node are known
    premises-known : All (λ k. IsKnown (at_key b k)) premises
    premises-known = go node.by certifies
      where
        go : (by : CostBy) → Certifies p pivots (over b) node.rule h.costs by
            → All (λ k. IsKnown (at_key b k)) (cost_premises (setting_of p) node.rule by)
        go (EmptyCost multipliers) k = All-nil (λ k. IsKnown (at_key b k))
        go NeverCost k = All-cons (λ k. IsKnown (at_key b k)) (time_key node.rule) [] (zero_known (b node.rule 0) k)
            (All-nil (λ k. IsKnown (at_key b k)))
        go (SideBoundCost side_bound) k =
            All-cons (λ k. IsKnown (at_key b k)) (time_key node.rule)
            (sizes_read (question p (over b) node.rule) side_bound) k.timed
            (sizes_known b (sizes_read (question p (over b) node.rule) side_bound)
            (all-known (over b) (sizes_read (question p (over b) node.rule) side_bound) k.sized))

    -- the lemma of each premise is an earlier one
    numbered : (n : ℕ) → is_in n (map (λ k. number k.rule k.place) premises) ≡ true → n ≢ 0 → IsNumbered past n
    numbered = premises_numbered (setting_of p) past number b all say premises premises-known

    module _ (more : List (List Fact)) where
      -- the table that is stated by citing the premises, after further lemmas
      abbrev stated : Table
      stated = table_of (joined_facts (setting_of p) (past ++ more) (uses_for number premises))

      -- citing the premises states the same facts after further lemmas
      same-facts : joined_facts (setting_of p) (past ++ more) (uses_for number premises)
          ≡ joined_facts (setting_of p) past (uses_for number premises)
      same-facts = uses-before (setting_of p) past more (map (λ k. number k.rule k.place) premises) numbered

      -- the cited lemmas state the premises of the node as they are known
      agrees : AgreesOn p pivots (over b) node.rule v h.costs stated node.by
      agrees = record {
        time = λ m. ap (λ (facts : List Fact). (table_of facts).time node.rule) same-facts
            ∙ needed_time (setting_of p) past number b all say premises premises-known node.rule m;
        sizes = λ e i m. ap (λ (facts : List Fact). (table_of facts).size e i) same-facts
            ∙ needed_size (setting_of p) past number b all say premises premises-known e i m;
      }

      -- the lemma of the node is accepted after further lemmas
      pub lemma-accepted : Accepts (setting_of p) (past ++ more) (cost_lemma (setting_of p) number node)
      lemma-accepted = (
        uses-accepted (setting_of p) (past ++ more) (map (λ k. number k.rule k.place) premises)
            (λ n m other. numbered-before past more n (numbered n m other)),
        node-accepted p pivots (over b) node.rule v h.costs stated node.by certifies agrees,
      )

      -- the lemma of the node states the bound of its cost
      pub lemma-states : facts_of (setting_of p) (past ++ more) (cost_lemma (setting_of p) number node)
          ≡ cost_fact (setting_of p) (over b) node ∷ []
      lemma-states =
          ap (λ (c : Bound). Cost node.rule c ∷ [])
          (node-same p pivots (over b) node.rule v h.costs stated node.by certifies agrees)

module _ (p : Program) (pivots : ℕ) (v : IsValid p) (past : List (List Fact)) (number : ℕ → ℕ → ℕ) (b all : Bounds)
    (say : SayBounds (setting_of p) past number b all) where
  -- the fact of each node, as a lemma states it
  abbrev facts_with : List CostNode → List (List Fact)
  facts_with nodes = map (λ node. cost_fact (setting_of p) (over b) node ∷ []) nodes

  -- the lemma of a node after those of earlier nodes
  one-more : (more : List (List Fact)) (node : CostNode) → IsBoundedCost p pivots (over b) node
      → past ++ (more ++ (cost_fact (setting_of p) (over b) node ∷ []) ∷ [])
      ≡ (past ++ more) ++ facts_of (setting_of p) (past ++ more) (cost_lemma (setting_of p) number node) ∷ []
  one-more more node h =
      sym (append_assoc past more ((cost_fact (setting_of p) (over b) node ∷ []) ∷ []))
      ∙ ap (λ (facts : List Fact). (past ++ more) ++ facts ∷ [])
      (sym (lemma-states p pivots v past number b all say node h more))

  -- the lemmas of costs are accepted after further lemmas
  lemmas-accepted : (more : List (List Fact)) (nodes : List CostNode) → All (IsBoundedCost p pivots (over b)) nodes
      → AcceptsFrom (setting_of p) (past ++ more) (cost_lemmas (setting_of p) number nodes)
  lemmas-accepted more [] h = tt
  lemmas-accepted more (node ∷ nodes) h =
      let first = All-head (IsBoundedCost p pivots (over b)) node nodes h in (
        lemma-accepted p pivots v past number b all say node first more,
        subst (λ (facts : List (List Fact)). AcceptsFrom (setting_of p) facts (cost_lemmas (setting_of p) number nodes))
            (one-more more node first)
            (lemmas-accepted (more ++ (cost_fact (setting_of p) (over b) node ∷ []) ∷ []) nodes
            (All-tail (IsBoundedCost p pivots (over b)) node nodes h)),
      )

  -- the lemmas of costs state the bounds of the costs
  lemmas-state : (more : List (List Fact)) (nodes : List CostNode) → All (IsBoundedCost p pivots (over b)) nodes
      → facts_from (setting_of p) (past ++ more) (cost_lemmas (setting_of p) number nodes) ≡ past
      ++ (more ++ facts_with nodes)
  lemmas-state more [] h = ap (λ (facts : List (List Fact)). past ++ facts) (sym (append-nil more))
  lemmas-state more (node ∷ nodes) h =
      let first = All-head (IsBoundedCost p pivots (over b)) node nodes h in
      ap (λ (facts : List (List Fact)). facts_from (setting_of p) facts (cost_lemmas (setting_of p) number nodes))
      (sym (one-more more node first))
      ∙ (lemmas-state (more ++ (cost_fact (setting_of p) (over b) node ∷ []) ∷ []) nodes
      (All-tail (IsBoundedCost p pivots (over b)) node nodes h)
      ∙ ap (λ (facts : List (List Fact)). past ++ facts)
      (append_assoc more ((cost_fact (setting_of p) (over b) node ∷ []) ∷ []) (facts_with nodes)))

  -- the lemmas of costs are accepted directly after the lemmas that state the known bounds
  pub behind-accepted : (nodes : List CostNode) → All (IsBoundedCost p pivots (over b)) nodes
      → AcceptsFrom (setting_of p) past (cost_lemmas (setting_of p) number nodes)
  behind-accepted nodes h =
      subst (λ (facts : List (List Fact)). AcceptsFrom (setting_of p) facts (cost_lemmas (setting_of p) number nodes))
      (append-nil past) (lemmas-accepted [] nodes h)

  pub behind-state : (nodes : List CostNode) → All (IsBoundedCost p pivots (over b)) nodes
      → facts_from (setting_of p) past (cost_lemmas (setting_of p) number nodes) ≡ past ++ facts_with nodes
  behind-state nodes h =
      ap (λ (facts : List (List Fact)). facts_from (setting_of p) facts (cost_lemmas (setting_of p) number nodes))
      (sym (append-nil past)) ∙ lemmas-state [] nodes h

module _ (p : Program) (pivots : ℕ) (fs : List Derivation) (nodes : List CostNode) (v : IsValid p)
    (stand : AreJustified (setting_of p) fs)
    (bounded : All (IsBoundedCost p pivots (table_with p fs)) nodes) where
  -- the lemmas of derivations and then those of the costs
  abbrev all_lemmas : List Proof
  all_lemmas = lemmas_of fs ++ cost_lemmas (setting_of p) (number_in fs) nodes

  -- the lemmas of derivations, followed by those of costs, are accepted
  pub all-accepted : AcceptsLemmas (setting_of p) all_lemmas
  unfolding AcceptsLemmas facts_of_lemmas
  all-accepted =
      accepts-append (setting_of p) [] (lemmas_of fs) (cost_lemmas (setting_of p) (number_in fs) nodes)
      (have_lemmas.accepted (setting_of p) fs stand)
      (behind-accepted p pivots v (facts_of_lemmas (setting_of p) (lemmas_of fs)) (number_in fs) (bounds_of p fs)
      (bounds_of p fs)
      (are_numbered.say (setting_of p) fs stand) nodes bounded)

  -- all these lemmas state what the derivations do, and the bounds of the costs
  pub all-stated : facts_of_lemmas (setting_of p) all_lemmas
      ≡ map facts_of_derivation fs ++ map (λ node. cost_fact (setting_of p) (table_with p fs) node ∷ []) nodes
  unfolding facts_of_lemmas
  all-stated =
      facts-append (setting_of p) [] (lemmas_of fs) (cost_lemmas (setting_of p) (number_in fs) nodes)
      ∙ (behind-state p pivots v (facts_of_lemmas (setting_of p) (lemmas_of fs)) (number_in fs) (bounds_of p fs)
      (bounds_of p fs)
      (are_numbered.say (setting_of p) fs stand) nodes bounded
      ∙ ap (λ (facts : List (List Fact)). facts ++ map (λ node. cost_fact (setting_of p) (table_with p fs) node ∷ [])
      nodes)
      (have_lemmas.stated (setting_of p) fs stand))

-- the lemmas of bounded costs are accepted after those of justified derivations
pub bounded-accepted : BoundedCostsAreAccepted
bounded-accepted = record {
  accepted = λ p pivots fs nodes v stand h. all-accepted p pivots fs nodes v stand h;
  stated = λ p pivots fs nodes v stand h. all-stated p pivots fs nodes v stand h;
}

module _ (p : Program) (pivots : ℕ) (fs : List Derivation) (node : CostNode) (v : IsValid p)
    (stand : AreJustified (setting_of p) fs)
    (bounded : IsBoundedCost p pivots (table_with p fs) node) where
  abbrev one : All (IsBoundedCost p pivots (table_with p fs)) (node ∷ [])
  one = All-cons (IsBoundedCost p pivots (table_with p fs)) node [] bounded
      (All-nil (IsBoundedCost p pivots (table_with p fs)))

  -- the lemma of the cost is the last one
  last : Contains (facts_of_lemmas (setting_of p)
      (lemmas_of fs ++ cost_lemmas (setting_of p) (number_in fs) (node ∷ [])))
      (cost_fact (setting_of p) (table_with p fs) node ∷ [])
  last =
      subst (λ (facts : List (List Fact)). Contains facts (cost_fact (setting_of p) (table_with p fs) node ∷ []))
      (sym (all-stated p pivots fs (node ∷ []) v stand one))
      (contains-right (cost_fact (setting_of p) (table_with p fs) node ∷ []) (map facts_of_derivation fs)
      ((cost_fact (setting_of p) (table_with p fs) node ∷ []) ∷ [])
      (contains-first (cost_fact (setting_of p) (table_with p fs) node ∷ []) []))

  -- a property of all facts of accepted lemmas is one of the bound of the cost
  of-last : (P : Fact → Type 0)
      → All (All P) (facts_of_lemmas (setting_of p)
      (lemmas_of fs ++ cost_lemmas (setting_of p) (number_in fs) (node ∷ [])))
      → P (cost_fact (setting_of p) (table_with p fs) node)
  of-last P h =
      All-head P (cost_fact (setting_of p) (table_with p fs) node) []
      (contained-all (All P)
      (facts_of_lemmas (setting_of p) (lemmas_of fs ++ cost_lemmas (setting_of p) (number_in fs) (node ∷ [])))
      (cost_fact (setting_of p) (table_with p fs) node ∷ []) h last)

  pub cost-holds : HoldsCost p node.rule (node_cost (setting_of p) (table_with p fs) node)
  cost-holds = of-last (Holds p)
      (accepted_facts_hold.each (setting_of p) (settings-faithful.each p v)
      (lemmas_of fs ++ cost_lemmas (setting_of p) (number_in fs) (node ∷ []))
      (all-accepted p pivots fs (node ∷ []) v stand one))

  pub cost-based : IsBased (node_cost (setting_of p) (table_with p fs) node)
  cost-based = of-last HasBasedBound
      (accepted_bounds_are_based.each (setting_of p) (settings-faithful.each p v)
      (lemmas_of fs ++ cost_lemmas (setting_of p) (number_in fs) (node ∷ []))
      (all-accepted p pivots fs (node ∷ []) v stand one))

-- bounds on costs over justified derivations hold on all runs
pub bounded-hold : BoundedCostsHold
bounded-hold = record {
  each = λ p pivots fs node v stand h. cost-holds p pivots fs node v stand h;
  based = λ p pivots fs node v stand h. cost-based p pivots fs node v stand h;
}
