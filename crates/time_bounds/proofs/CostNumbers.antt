-- The numbers that the entries of costs carry are those of their lemmas, which come after those of derivations.
use Rattle.std.proofs.Common.{◌≡◌, ℕ, zero, suc, ◌+◌, ◌≤◌, List, [], ◌∷◌, ◌++◌, length, map, All, Option, Some, None}
use Rattle.std.proofs.Common.{slice_get, refl, sym, ◌∙◌, ap, subst, arith}
use Rattle.std.specs.Option.{option_map}
use Rattle.std.proofs.lemmas.List.{append_assoc, length_push}
use Rattle.std.proofs.lemmas.List.Elements.{All-nil, All-cons}
use Rattle.model.specs.Bounds.{Bound}
use Rattle.model.specs.Facts.{Fact, Cost}
use Rattle.model.specs.Programs.{Program}
use Rattle.model.proofs.Cases.{none_some, some_same}
use Rattle.bound_expr.specs.Views.{bound_of}
use Rattle.outcome.specs.Holding.{numbered_entry}
use Rattle.outcome.specs.Reports.{RuleCost, Costed, Uncosted}
use Rattle.outcome.specs.Views.{cost_of}
use Rattle.outcome.specs.declared.entry.CostEntry.{CostEntry}
use Rattle.outcome.specs.declared.entry.CostEntry.TheVariants as costs
use Rattle.outcome.specs.declared.entry.Stored.{Stored}
use Rattle.cert_types.specs.cert_program.Setting.{setting_of}
use Rattle.cert_types.specs.cert_rules.Acceptance.{facts_of_lemma}
use Rattle.cert_types.specs.cert_rules.AcceptsCosts.{stated_cost}
use Rattle.cert_types.specs.cert_rules.Nodes.{CostNode}
use Rattle.bound_fixpoint.specs.Keys.{Bounds, over}
use Rattle.cost_bounds.specs.CostLemmas.{cost_fact, cost_node}
use Rattle.cost_bounds.specs.Laws.{IsBoundedCost}
use Rattle.time_bounds.specs.Analysis.{AreCostsOver}
use Rattle.time_bounds.specs.AnalysisLemmas.{AreCertified, CarryCosts}
use Rattle.time_bounds.proofs.CostEntries.{certificate_one}

-- the next lemma after others states its own facts
next_lemma : (past rest : List (List Fact)) (facts : List Fact) → facts_of_lemma (past ++ facts ∷ rest) (suc (length past)) ≡ facts
next_lemma [] rest facts = refl
next_lemma (first ∷ past) rest facts = next_lemma past rest facts

module _ (p : Program) (pivots : ℕ) (b : Bounds) where
  -- the cost nodes of entries with a bound certify it
  pub certified_bounded : (t : ℕ) (xs : List (Option RuleCost)) (nodes : List CostNode) → AreCertified p pivots b t xs nodes
      → All (IsBoundedCost p pivots (over b)) nodes
  certified_bounded t [] nodes h =
      subst (All (IsBoundedCost p pivots (over b))) (sym h) (All-nil (IsBoundedCost p pivots (over b)))
  certified_bounded t (None ∷ xs) nodes h = certified_bounded (suc t) xs nodes h
  certified_bounded t (Some (Uncosted w) ∷ xs) nodes h = certified_bounded (suc t) xs nodes h
  certified_bounded t (Some (Costed x) ∷ xs) nodes (by, is, (rest, e, h)) =
      subst (All (IsBoundedCost p pivots (over b))) (sym e)
      (All-cons (IsBoundedCost p pivots (over b)) (cost_node t by) rest is (certified_bounded (suc t) xs rest h))

  -- there are no more cost nodes than rules
  pub certified_few : (t : ℕ) (xs : List (Option RuleCost)) (nodes : List CostNode) → AreCertified p pivots b t xs nodes
      → length nodes ≤ length xs
  certified_few t [] nodes h = omega (arith, ap (λ (ns : List CostNode). length ns) h)
  certified_few t (None ∷ xs) nodes h = omega (arith, certified_few (suc t) xs nodes h)
  certified_few t (Some (Uncosted w) ∷ xs) nodes h = omega (arith, certified_few (suc t) xs nodes h)
  certified_few t (Some (Costed x) ∷ xs) nodes (by, is, (rest, e, h)) =
      omega (arith, ap (λ (ns : List CostNode). length ns) e, certified_few (suc t) xs rest h)

  -- the facts that the lemma of a cost node states
  stated : CostNode → List Fact
  stated node = cost_fact (setting_of p) (over b) node ∷ []

  -- a known cost after an entry without one is in the list without that entry
  skipped : (facts : List (List Fact)) (t i : ℕ) (x : Option CostEntry) (entries : List (Option CostEntry)) (s : Stored)
      → (x ≡ Some (costs.Known s) → ⊥) → slice_get (x ∷ entries) i ≡ Some (Some (costs.Known s))
      → ((j : ℕ) → slice_get entries j ≡ Some (Some (costs.Known s))
      → facts_of_lemma facts s.lemma ≡ Cost (suc t + j) (bound_of s.bound) ∷ [])
      → facts_of_lemma facts s.lemma ≡ Cost (t + i) (bound_of s.bound) ∷ []
  skipped facts t zero x entries s differ e rest = absurd (differ (some_same x (Some (costs.Known s)) e))
  skipped facts t (suc i) x entries s differ e rest =
      rest i e ∙ ap (λ (n : ℕ). Cost n (bound_of s.bound) ∷ []) (let z : suc t + i ≡ t + suc i = omega arith in z)

  -- each lemma of a known cost states it, if its number is counted from these lemmas on
  from : (past : List (List Fact)) (t i : ℕ) (entries : List (Option CostEntry)) (nodes : List CostNode) (s : Stored)
      → AreCostsOver p pivots b t (map (option_map cost_of) entries)
      → AreCertified p pivots b t (map (option_map cost_of) entries) nodes → CarryCosts (length past) entries
      → slice_get entries i ≡ Some (Some (costs.Known s))
      → facts_of_lemma (past ++ map stated nodes) s.lemma ≡ Cost (t + i) (bound_of s.bound) ∷ []
  unfolding stated
  from past t i [] nodes s h g c e = absurd (none_some (Some (costs.Known s)) e)
  from past t i (None ∷ entries) nodes s h g c e =
      skipped (past ++ map stated nodes) t i None entries s (λ k. differ k) e
      (λ j f. from past (suc t) j entries nodes s h.1 g c f)
    where
      differ : None ≡ Some (costs.Known s) → ⊥
      differ k = cc
  from past t i (Some (costs.UnboundedSide l) ∷ entries) nodes s h g c e =
      skipped (past ++ map stated nodes) t i (Some (costs.UnboundedSide l)) entries s (λ k. differ k) e
      (λ j f. from past (suc t) j entries nodes s h.1 g c f)
    where
      differ : Some (costs.UnboundedSide l) ≡ Some (costs.Known s) → ⊥
      differ k = cc
  from past t i (Some (costs.OutOfLimits x) ∷ entries) nodes s h g c e =
      skipped (past ++ map stated nodes) t i (Some (costs.OutOfLimits x)) entries s (λ k. differ k) e
      (λ j f. from past (suc t) j entries nodes s h.1 g c f)
    where
      differ : Some (costs.OutOfLimits x) ≡ Some (costs.Known s) → ⊥
      differ k = cc
  from past t i (Some (costs.Missing m) ∷ entries) nodes s h g c e =
      skipped (past ++ map stated nodes) t i (Some (costs.Missing m)) entries s (λ k. differ k) e
      (λ j f. from past (suc t) j entries nodes s h.1 g c f)
    where
      differ : Some (costs.Missing m) ≡ Some (costs.Known s) → ⊥
      differ k = cc
  from past t i (Some (costs.Untimed u) ∷ entries) nodes s h g c e =
      skipped (past ++ map stated nodes) t i (Some (costs.Untimed u)) entries s (λ k. differ k) e
      (λ j f. from past (suc t) j entries nodes s h.1 g c f)
    where
      differ : Some (costs.Untimed u) ≡ Some (costs.Known s) → ⊥
      differ k = cc
  from past t i (Some (costs.Large n) ∷ entries) nodes s h g c e =
      skipped (past ++ map stated nodes) t i (Some (costs.Large n)) entries s (λ k. differ k) e
      (λ j f. from past (suc t) j entries nodes s h.1 g c f)
    where
      differ : Some (costs.Large n) ≡ Some (costs.Known s) → ⊥
      differ k = cc
  from past t i (Some (costs.Known r) ∷ entries) nodes s h (by, is, (rest, f, g)) c e =
      go i e (λ j. from (past ++ stated (cost_node t by) ∷ []) (suc t) j entries rest s h.1 g
      (subst (λ (n : ℕ). CarryCosts n entries) more c.1))
    where
      here : facts_of_lemma (past ++ map stated nodes) r.lemma ≡ Cost t (bound_of r.bound) ∷ []
      here =
          (λ j. facts_of_lemma (past ++ map stated (f j)) (c.0 j))
          ∙ (next_lemma past (map stated rest) (stated (cost_node t by))
          ∙ ap (λ (x : Bound). Cost t x ∷ [])
          (ap (stated_cost (setting_of p) (over b) t) (certificate_one p pivots b t by h.0.0 is h.0.1) ∙ sym h.0.2))

      whole : (past ++ stated (cost_node t by) ∷ []) ++ map stated rest ≡ past ++ map stated nodes
      whole = append_assoc past (stated (cost_node t by) ∷ []) (map stated rest)
          ∙ ap (λ (ns : List CostNode). past ++ map stated ns) (sym f)

      more : suc (length past) ≡ length (past ++ stated (cost_node t by) ∷ [])
      more = omega (arith, length_push past (stated (cost_node t by)))

      go : (i : ℕ) → slice_get (Some (costs.Known r) ∷ entries) i ≡ Some (Some (costs.Known s))
          → ((j : ℕ) → slice_get entries j ≡ Some (Some (costs.Known s))
          → facts_of_lemma ((past ++ stated (cost_node t by) ∷ []) ++ map stated rest) s.lemma ≡ Cost (suc t + j) (bound_of s.bound) ∷ [])
          → facts_of_lemma (past ++ map stated nodes) s.lemma ≡ Cost (t + i) (bound_of s.bound) ∷ []
      go zero k later =
          subst (λ (x : Stored). facts_of_lemma (past ++ map stated nodes) x.lemma ≡ Cost (t + 0) (bound_of x.bound) ∷ []) (same k)
          (here ∙ ap (λ (n : ℕ). Cost n (bound_of r.bound) ∷ []) (let z : t ≡ t + 0 = omega arith in z))
        where
          same : Some (Some (costs.Known r)) ≡ Some (Some (costs.Known s)) → r ≡ s
          same d = cc
      go (suc j) k later =
          ap (λ (facts : List (List Fact)). facts_of_lemma facts s.lemma) (sym whole)
          ∙ (later j k ∙ ap (λ (n : ℕ). Cost n (bound_of s.bound) ∷ []) (let z : suc t + j ≡ t + suc j = omega arith in z))

  -- the same for entries that are numbered from 1
  pub costs_stated : (past : List (List Fact)) (t : ℕ) (entries : List (Option CostEntry)) (nodes : List CostNode) (s : Stored)
      → AreCostsOver p pivots b 1 (map (option_map cost_of) entries)
      → AreCertified p pivots b 1 (map (option_map cost_of) entries) nodes → CarryCosts (length past) entries
      → numbered_entry entries t ≡ Some (Some (costs.Known s))
      → facts_of_lemma (past ++ map (λ node. cost_fact (setting_of p) (over b) node ∷ []) nodes) s.lemma ≡ Cost t (bound_of s.bound) ∷ []
  unfolding stated
  costs_stated past zero entries nodes s h g c e = absurd (none_some (Some (costs.Known s)) e)
  costs_stated past (suc i) entries nodes s h g c e =
      from past 1 i entries nodes s h g c e
      ∙ ap (λ (n : ℕ). Cost n (bound_of s.bound) ∷ []) (let z : 1 + i ≡ suc i = omega arith in z)
