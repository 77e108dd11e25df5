-- The facts of accepted lemmas can be printed: each node keeps the properties of the bounds that are stated so far.
use Rattle.std.proofs.Common.{◌≡◌, ℕ, zero, suc, ◌+◌, ◌-◌, ◌<◌, ◌≤◌, ◌==◌, ◌&&◌, Bool, true, false, cond, List, [], ◌∷◌}
use Rattle.std.proofs.Common.{◌++◌, Some, None, subst, arith, All}
use Rattle.std.specs.List.{AllByRecursion, range_with_len}
use Rattle.std.proofs.lemmas.List.Elements.{All-from_recursion, recursion_from_All, All-weaker}
use Rattle.run_counting.specs.model.Programs.{arity_of}
use Rattle.run_counting.specs.model.Bounds.{Bound, Constant, Input}
use Rattle.run_counting.specs.model.Facts.{Fact, Time, Size, Cost}
use Rattle.run_counting.specs.model.Paths.{target_of}
use Rattle.bound_expr.specs.Numbers.{IsTidyNumber, HasTidyNumbers, IsInputBelow, ReadsBelow}
use Rattle.bound_expr.specs.Tidy.{IsTidy}
use Rattle.bound_expr.proofs.Nodes.{IsTidy-numbers}
use Rattle.cert_rules.specs.Nodes.{Member, RankNode, CostBy, EmptyCost, NeverCost, SideBoundCost}
use Rattle.cert_rules.specs.Nodes.{Proof, Cite, Start, Empty, Unreached, Never, Rank, Spread, Cycle, Weaken, CostBound}
use Rattle.cert_rules.specs.Nodes.{Proofs, NoProof, AndProof}
use Rattle.cert_rules.specs.Numbering.{nodes_of, nodes_of_all}
use Rattle.cert_rules.specs.Setting.{Setting}
use Rattle.cert_rules.specs.Known.{time_in, size_in, Table, table_of}
use Rattle.cert_rules.specs.AcceptsPlain.{HasWeakenShape, zero_sizes, never_facts, places_at, start_sizes}
use Rattle.cert_rules.specs.AcceptsPlain.{weakened}
use Rattle.cert_rules.specs.AcceptsRank.{HasRankShape, rank_time}
use Rattle.cert_rules.specs.AcceptsSizes.{HasMemberShape, spread_size, HasCycleShape, cycle_size, cycle_facts}
use Rattle.cert_rules.specs.AcceptsCosts.{HasCostNumbers, side_bound_cost, stated_cost}
use Rattle.cert_rules.specs.Acceptance.{facts_of_lemma, facts_of, joined_facts, Accepts, AllAccepted, AcceptsFrom}
use Rattle.cert_rules.specs.Acceptance.{facts_from, AcceptsLemmas, facts_of_lemmas}
use Rattle.cert_rules.specs.Laws.{bound_in}
use Rattle.cert_rules.specs.Printable.{IsTidying, HasTidyFactNumbers, IsPrintableFact, WritesTidy, WritesTidyBounds}
use Rattle.cert_rules.specs.Printable.{AcceptedFactsArePrintable}
use Rattle.cert_rules.proofs.CheckLists.{each-append, append-each}
use Rattle.cert_rules.proofs.ComposedNumbers.{rank_time-each}
use Rattle.cert_rules.proofs.SizeNumbers.{spread-each, cycle-each, cost-each}

-- a property of the bounds of facts that nodes keep: small constants and the first n inputs have it, every bound that
-- has it has tidy numbers and reads the first n inputs alone, and a bound with tidy numbers that reads these alone has
-- it once it is rewritten
record IsKept (s : Setting) (n : ℕ) (P : Bound → Type 0) : Type 0 where
  constant : (c : ℕ) → c ≤ 1 → P (Constant c)
  input : (i : ℕ) → i < n → P (Input i)
  numbers : (b : Bound) → P b → HasTidyNumbers b
  reads : (b : Bound) → P b → ReadsBelow n b
  rewritten : (b : Bound) → HasTidyNumbers b → ReadsBelow n b → P (s.rewrite b)

-- the bound of each fact has the property
abbrev EachBound : (Bound → Type 0) → List Fact → Type 0
EachBound P facts = AllByRecursion (λ f. P (bound_in f)) facts

-- laws for a property that the bounds of facts have
module _ (P : Bound → Type 0) where
  time-kept : (facts : List Fact) → EachBound P facts → (t : ℕ) (b : Bound) → time_in facts t ≡ Some b → P b
  time-kept [] h t b e = absurd (none e)
    where
      none : None ≡ Some b → ⊥
      none x = cc
  time-kept (Size u i c ∷ facts) h t b e = time-kept facts h.1 t b e
  time-kept (Cost u c ∷ facts) h t b e = time-kept facts h.1 t b e
  time-kept (Time u c ∷ facts) h t b e = go (u == t) (λ k. time-kept facts h.1 t b k) e
    where
      go : (v : Bool) → (time_in facts t ≡ Some b → P b) → cond v (Some c) (time_in facts t) ≡ Some b → P b
      go true later k = let same : c ≡ b = cc in subst P same h.0
      go false later k = later k

  size-kept : (facts : List Fact) → EachBound P facts → (t i : ℕ) (b : Bound) → size_in facts t i ≡ Some b → P b
  size-kept [] h t i b e = absurd (none e)
    where
      none : None ≡ Some b → ⊥
      none x = cc
  size-kept (Time u c ∷ facts) h t i b e = size-kept facts h.1 t i b e
  size-kept (Cost u c ∷ facts) h t i b e = size-kept facts h.1 t i b e
  size-kept (Size u j c ∷ facts) h t i b e = go ((u == t) && (j == i)) (λ k. size-kept facts h.1 t i b k) e
    where
      go : (v : Bool) → (size_in facts t i ≡ Some b → P b) → cond v (Some c) (size_in facts t i) ≡ Some b → P b
      go true later k = let same : c ≡ b = cc in subst P same h.0
      go false later k = later k

module _ (s : Setting) (tidying : IsTidying s) (n : ℕ) (P : Bound → Type 0) (kept : IsKept s n P) where
  -- laws for the bounds that an accepted node composes of known bounds with the property
  module _ (table : Table) (times : (t : ℕ) (b : Bound) → table.time t ≡ Some b → P b)
      (sizes : (t i : ℕ) (b : Bound) → table.size t i ≡ Some b → P b) where
    rank-kept : (node : RankNode) → HasRankShape s node → P (s.rewrite (rank_time s node table))
    rank-kept node shape =
        kept.rewritten (rank_time s node table)
        (rank_time-each IsTidyNumber (λ c low. low) (λ bs. tt) (λ bs. tt) s node table shape
        (λ t b e. kept.numbers b (times t b e)) (λ t i b e. kept.numbers b (sizes t i b e)))
        (rank_time-each (IsInputBelow n) (λ c low. tt) (λ bs. tt) (λ bs. tt) s node table shape
        (λ t b e. kept.reads b (times t b e)) (λ t i b e. kept.reads b (sizes t i b e)))

    spread-kept : (m : Member) → HasMemberShape s m → P (s.rewrite (spread_size s table m))
    spread-kept m shape =
        kept.rewritten (spread_size s table m)
        (spread-each IsTidyNumber (λ c low. low) (λ bs. tt) (λ bs. tt) (λ bs. tt) (λ c e low. low) s tidying.updates
        table.time table.size (λ t b e. kept.numbers b (times t b e)) (λ t i b e. kept.numbers b (sizes t i b e)) m
        shape)
        (spread-each (IsInputBelow n) (λ c low. tt) (λ bs. tt) (λ bs. tt) (λ bs. tt) (λ c e low. tt) s tidying.updates
        table.time table.size (λ t b e. kept.reads b (times t b e)) (λ t i b e. kept.reads b (sizes t i b e)) m shape)

    cycle-kept : (ms : List Member) → HasCycleShape s ms → P (s.rewrite (cycle_size s table ms))
    cycle-kept ms shape =
        kept.rewritten (cycle_size s table ms)
        (cycle-each IsTidyNumber (λ c low. low) (λ bs. tt) (λ bs. tt) (λ bs. tt) (λ c e low. low) s tidying.updates
        table.time table.size (λ t b e. kept.numbers b (times t b e)) (λ t i b e. kept.numbers b (sizes t i b e)) ms
        shape.each)
        (cycle-each (IsInputBelow n) (λ c low. tt) (λ bs. tt) (λ bs. tt) (λ bs. tt) (λ c e low. tt) s tidying.updates
        table.time table.size (λ t b e. kept.reads b (times t b e)) (λ t i b e. kept.reads b (sizes t i b e)) ms
        shape.each)

    cost-kept : (t : ℕ) (by : CostBy) → HasCostNumbers s t by → P (stated_cost s table t by)
    cost-kept t (EmptyCost multipliers) shape = kept.constant 0 (omega arith)
    cost-kept t NeverCost shape = kept.constant 0 (omega arith)
    cost-kept t (SideBoundCost side_bound) shape =
        kept.rewritten (side_bound_cost s table t side_bound)
        (cost-each IsTidyNumber (λ c low. low) (λ bs. tt) (λ bs. tt) (λ bs. tt) (λ c e low. low) s tidying.updates
        table.time table.size (λ u b e. kept.numbers b (times u b e)) (λ u i b e. kept.numbers b (sizes u i b e)) t side_bound
        (tidying.costs t) shape)
        (cost-each (IsInputBelow n) (λ c low. tt) (λ bs. tt) (λ bs. tt) (λ bs. tt) (λ c e low. tt) s tidying.updates
        table.time table.size (λ u b e. kept.reads b (times u b e)) (λ u i b e. kept.reads b (sizes u i b e)) t side_bound
        (tidying.costs t) shape)

  -- the sizes of a rule that never runs have the property
  zeros-kept : (t : ℕ) (is : List ℕ) → EachBound P (zero_sizes t is)
  zeros-kept t [] = tt
  zeros-kept t (i ∷ is) = (kept.constant 0 (omega arith), zeros-kept t is)

  never-kept : (facts : List Fact) → EachBound P (never_facts s.program facts)
  never-kept [] = tt
  never-kept (Time t b ∷ []) = zeros-kept t (places_at s.program (target_of s.program t))
  never-kept (Time t b ∷ f ∷ facts) = tt
  never-kept (Size t i b ∷ facts) = tt
  never-kept (Cost t b ∷ facts) = tt

  -- the sizes of the virtual entry have the property
  starts-kept : (a k : ℕ) → 1 ≤ a → a + k ≤ n + 1 → EachBound P (start_sizes (range_with_len a k))
  starts-kept a zero low high = tt
  starts-kept a (suc k) low high =
      (kept.input (a - 1) (omega (arith, low, high)), starts-kept (a + 1) k (omega arith) (omega (arith, high)))

  -- the sizes of the members of a loop have the property
  members-kept : (ms : List Member) (b : Bound) → P b → EachBound P (cycle_facts b ms)
  members-kept [] b h = tt
  members-kept (m ∷ ms) b h = (h, members-kept ms b h)

  -- the fact of a `weaken` node has the property if the bound that it writes has
  weaker-kept : (facts : List Fact) (b : Bound) → P b → EachBound P (weakened facts b)
  weaker-kept [] b h = tt
  weaker-kept (Time t a ∷ []) b h = (h, tt)
  weaker-kept (Size t i a ∷ []) b h = (h, tt)
  weaker-kept (Cost t a ∷ []) b h = (h, tt)
  weaker-kept (Time t a ∷ f ∷ facts) b h = tt
  weaker-kept (Size t i a ∷ f ∷ facts) b h = tt
  weaker-kept (Cost t a ∷ f ∷ facts) b h = tt

  module _ (few : arity_of s.program s.program.start ≤ n) (Writes : Proof → Type 0)
      (written : (child : Proof) (b : Bound) → Writes (Weaken child b) → HasWeakenShape s.program b → P b) where
    -- the bounds that an earlier lemma states have the property
    lemma-kept : (past : List (List Fact)) → AllByRecursion (EachBound P) past → (i : ℕ)
        → EachBound P (facts_of_lemma past i)
    lemma-kept past h zero = tt
    lemma-kept [] h (suc i) = tt
    lemma-kept (facts ∷ past) h (suc zero) = h.0
    lemma-kept (facts ∷ past) h (suc (suc i)) = lemma-kept past h.1 (suc i)

    module _ (past : List (List Fact)) (good : AllByRecursion (EachBound P) past) where
      -- each node of the list satisfies `Writes`
      abbrev AllWrite : List Proof → Type 0
      AllWrite nodes = AllByRecursion Writes nodes

      in_front : (nodes : List Proof) (last : Proof) → AllWrite (nodes ++ last ∷ []) → AllWrite nodes
      in_front nodes last h = (append-each Writes nodes (last ∷ []) h).0

      at_last : (nodes : List Proof) (last : Proof) → AllWrite (nodes ++ last ∷ []) → Writes last
      at_last nodes last h = (append-each Writes nodes (last ∷ []) h).1.0

      -- the bounds that an accepted node states have the property, and so do those that its premises state
      mutual
        node-kept : (proof : Proof) → Accepts s past proof → AllWrite (nodes_of proof)
            → EachBound P (facts_of s past proof)
        node-kept (Cite i) h w = lemma-kept past good i
        node-kept Start h w =
            (kept.constant 1 (omega arith), starts-kept 1 (arity_of s.program s.program.start) (omega arith) (omega (arith, few)))
        node-kept (Empty t multipliers) h w = (kept.constant 0 (omega arith), tt)
        node-kept (Unreached t uses) h w = (kept.constant 0 (omega arith), tt)
        node-kept (Never child) h w = never-kept (facts_of s past child)
        node-kept (Rank node uses) h w =
            let known = uses-kept uses h.0 (in_front (nodes_of_all uses) (Rank node uses) w) in (
              rank-kept (table_of (joined_facts s past uses)) (time-kept P (joined_facts s past uses) known)
                  (size-kept P (joined_facts s past uses) known) node h.1.shape,
              tt,
            )
        node-kept (Spread m uses) h w =
            let known = uses-kept uses h.0 (in_front (nodes_of_all uses) (Spread m uses) w) in (
              spread-kept (table_of (joined_facts s past uses)) (time-kept P (joined_facts s past uses) known)
                  (size-kept P (joined_facts s past uses) known) m h.1.shape,
              tt,
            )
        node-kept (Cycle members uses) h w =
            let known = uses-kept uses h.0 (in_front (nodes_of_all uses) (Cycle members uses) w) in
            members-kept members _
            (cycle-kept (table_of (joined_facts s past uses)) (time-kept P (joined_facts s past uses) known)
            (size-kept P (joined_facts s past uses) known) members h.1.shape)
        node-kept (Weaken child b) h w =
            weaker-kept (facts_of s past child) b
            (written child b (at_last (nodes_of child) (Weaken child b) w) h.1.shape)
        node-kept (CostBound node uses) h w =
            let known = uses-kept uses h.0 (in_front (nodes_of_all uses) (CostBound node uses) w) in (
              cost-kept (table_of (joined_facts s past uses)) (time-kept P (joined_facts s past uses) known)
                  (size-kept P (joined_facts s past uses) known) node.rule node.by h.1.shape.numbers,
              tt,
            )

        uses-kept : (uses : Proofs) → AllAccepted s past uses → AllWrite (nodes_of_all uses)
            → EachBound P (joined_facts s past uses)
        uses-kept NoProof h w = tt
        uses-kept (AndProof proof uses) h w =
            let both = append-each Writes (nodes_of proof) (nodes_of_all uses) w in
            each-append (λ f. P (bound_in f)) (facts_of s past proof) (joined_facts s past uses)
            (node-kept proof h.0 both.0) (uses-kept uses h.1 both.1)

    -- the bounds that all lemmas state have the property
    lemmas-kept : (past : List (List Fact)) → AllByRecursion (EachBound P) past → (proofs : List Proof)
        → AcceptsFrom s past proofs → AllByRecursion (λ proof. AllByRecursion Writes (nodes_of proof)) proofs
        → AllByRecursion (EachBound P) (facts_from s past proofs)
    lemmas-kept past good [] h w = good
    lemmas-kept past good (proof ∷ proofs) h w =
        lemmas-kept (past ++ facts_of s past proof ∷ [])
        (each-append (EachBound P) past (facts_of s past proof ∷ []) good (node-kept past good proof h.0 w.0, tt)) proofs
        h.1 w.1

-- a property of all facts of all lists, stated by recursion, is one stated by `All`
each-each : (Q : Fact → Type 0) (past : List (List Fact)) → AllByRecursion (AllByRecursion Q) past → All (All Q) past
each-each Q past h =
    All-weaker (AllByRecursion Q) (All Q) (λ facts k. All-from_recursion Q facts k) past
    (All-from_recursion (AllByRecursion Q) past h)

-- each node has the property that always holds
any_writes : (proofs : List Proof) → AllByRecursion (λ proof. AllByRecursion (λ (node : Proof). Unit {0}) (nodes_of proof)) proofs
any_writes [] = tt
any_writes (proof ∷ proofs) = (each (nodes_of proof), any_writes proofs)
  where
    each : (nodes : List Proof) → AllByRecursion (λ (node : Proof). Unit {0}) nodes
    each [] = tt
    each (node ∷ nodes) = (tt, each nodes)

module _ (s : Setting) (tidying : IsTidying s) (n : ℕ) where
  -- that bounds have tidy numbers over the first inputs is kept by nodes, and so is that they are tidy
  numbers-are_kept : IsKept s n (λ b. HasTidyNumbers b × ReadsBelow n b)
  numbers-are_kept = record {
    constant = λ c low. (omega (arith, low), tt);
    input = λ i low. (tt, low);
    numbers = λ b h. h.0;
    reads = λ b h. h.1;
    rewritten = λ b h k. (IsTidy-numbers (s.rewrite b) (tidying.tidy b h), tidying.reads b n k);
  }

  tidy-is_kept : IsKept s n (λ b. IsTidy b × ReadsBelow n b)
  tidy-is_kept = record {
    constant = λ c low. (omega (arith, low), tt);
    input = λ i low. (tt, low);
    numbers = λ b h. IsTidy-numbers b h.0;
    reads = λ b h. h.1;
    rewritten = λ b h k. (tidying.tidy b h, tidying.reads b n k);
  }

-- the facts of accepted lemmas can be printed
pub accepted-facts-printable : AcceptedFactsArePrintable
unfolding AcceptsLemmas facts_of_lemmas
accepted-facts-printable = record {
  numbers = λ s tidying proofs h.
      let n = arity_of s.program s.program.start in
      each-each (HasTidyFactNumbers n) (facts_of_lemmas s proofs)
      (lemmas-kept s tidying n (λ b. HasTidyNumbers b × ReadsBelow n b) (numbers-are_kept s tidying n) (omega arith)
      (λ node. Unit {0}) (λ child b w shape. (shape.numbers, shape.inputs)) [] tt proofs h (any_writes proofs));
  tidy = λ s tidying proofs h w.
      let n = arity_of s.program s.program.start in
      each-each (IsPrintableFact n) (facts_of_lemmas s proofs)
      (lemmas-kept s tidying n (λ b. IsTidy b × ReadsBelow n b) (tidy-is_kept s tidying n) (omega arith) WritesTidy
      (λ child b t shape. (t, shape.inputs)) [] tt proofs h (writes-each proofs (recursion_from_All WritesTidyBounds proofs w)));
}
  where
    writes-each : (proofs : List Proof) → AllByRecursion WritesTidyBounds proofs
        → AllByRecursion (λ proof. AllByRecursion WritesTidy (nodes_of proof)) proofs
    writes-each [] w = tt
    writes-each (proof ∷ proofs) w = (recursion_from_All WritesTidy (nodes_of proof) w.0, writes-each proofs w.1)
