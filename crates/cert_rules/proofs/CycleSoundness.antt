-- Why the sizes of an accepted loop hold: its members are fed by its flows.
use Rattle.std.proofs.Common.{◌≡◌, inl, inr, ℕ, zero, suc, ◌+◌, ◌*◌, ◌≤◌, ◌==◌, max, true, false, List, [], ◌∷◌, refl}
use Rattle.std.proofs.Common.{sym, subst, arith, All, le_trans}
use Rattle.std.specs.Prelude.{ℤ, pos, ◌≤ℤ◌, nat_abs}
use Rattle.std.specs.List.{list_any}
use Rattle.std.proofs.lemmas.Int.{ints}
use Rattle.std.proofs.lemmas.List.Elements.{All-nil, All-cons}
use Rattle.run_counting.specs.model.Runs.{Config, Step, IsStep, IsRun, last_rule, place_value, sizes_of_start}
use Rattle.run_counting.specs.model.Bounds.{Bound, val, IsBased}
use Rattle.run_counting.specs.model.Facts.{Size}
use Rattle.rule_forms.specs.linear_forms.Forms.{at}
use Rattle.cert_rules.specs.Nodes.{SideBound, Linear, Poly, Member}
use Rattle.run_counting.specs.model.Entries.{is_in}
use Rattle.run_counting.specs.model.Paths.{pre, entry_and_rules}
use Rattle.cert_rules.specs.Known.{Table}
use Rattle.cert_rules.specs.Setting.{Setting, IsFaithful}
use Rattle.cert_rules.specs.Composed.{sizes_after}
use Rattle.cert_rules.specs.ComposedSizes.{poly_at, reads, is_member, Flow, flow, flows, base_of, addition_of}
use Rattle.cert_rules.specs.ComposedSizes.{factor_of, rules_of}
use Rattle.cert_rules.specs.AcceptsSizes.{Side, Up, Low, HasMemberShape, HasSideBoundShape, AcceptsSideBound, AcceptsUp}
use Rattle.cert_rules.specs.AcceptsSizes.{AcceptsLow, left_of, SideBoundHasSizes, HasSizesAfter, HasSizesBefore}
use Rattle.cert_rules.specs.AcceptsSizes.{IsStraightSideBound, IsStraight, cycle_size, AcceptsCycle, cycle_facts}
use Rattle.run_counting.proofs.model.Membership.{is_in-filter, rule_is_numbered}
use Rattle.cert_rules.proofs.LastSteps.{last_precedes}
use Rattle.cert_rules.proofs.GoodFacts.{IsGood, IsGoodTable, known-time, known-size, known_time-based}
use Rattle.cert_rules.proofs.GoodFacts.{known_size-based}
use Rattle.cert_rules.proofs.AbsoluteValues.{abs-within}
use Rattle.cert_rules.proofs.SideBounds.{on_side, StaysOutside, side_bound-covered}
use Rattle.cert_rules.proofs.SpreadSoundness.{point_of, left_values, no_empty_run}
use Rattle.cert_rules.specs.Feeding.{grown, IsFed}
use Rattle.cert_rules.proofs.LoopGrowth.{fed}
use Rattle.cert_rules.proofs.Flows.{IsAmong, all-among, found_member, member-complete, rule-complete, flows_into-among}
use Rattle.cert_rules.proofs.Flows.{factor-least, flow-covered}
use Rattle.cert_rules.proofs.LoopBounds.{loop-bounded, flows_into-based, addition-based, loop_bound-based}

-- a straight side bound is no polynomial that reads a member
stays_straight : (s : Setting) (members : List Member) (m : Member) (e : ℕ) (side_bound : SideBound)
    → IsStraightSideBound s members m e side_bound → StaysOutside s m.result_variable (is_member members e) side_bound
stays_straight s members m e (Linear den form multipliers) h = tt
stays_straight s members m e Poly h = h

module _ (s : Setting) (true_to : IsFaithful s) (table : Table) (good : IsGoodTable s.program table)
    (members : List Member) (h : AcceptsCycle s table members) where
  -- all flows of the loop
  abbrev all_flows : List Flow
  all_flows = flows s members table.size

  -- a place after a rule is a member
  abbrev IsMember : ℕ → ℕ → Type 0
  IsMember t j = is_member members t j ≡ true

  -- the absolute value at a place, numbered from 0
  abbrev size_at : Config → ℕ → ℕ
  size_at c j = nat_abs (at c.values j)

  -- a side bound of a member is within its flow, if g bounds the members after the rule before
  cycle_side_bound : (start : List ℤ) (earlier : List Step) (b : Config) (st : Step) (c : Config)
      → IsRun s.program start earlier b → IsStep s.program b st c
      → (m : Member) → IsAmong m members → st.rule ≡ m.result_variable.rule
      → is_in (last_rule earlier) (pre s.program m.result_variable.rule) ≡ true
      → (g : ℕ) → ((j : ℕ) → IsMember (last_rule earlier) j → size_at b j ≤ g)
      → (side : Side) (side_bound : SideBound) → HasSideBoundShape s m.result_variable.rule (left_of s.program m.result_variable.rule) side_bound
      → AcceptsSideBound s m.result_variable side side_bound
      → SideBoundHasSizes s table members m.result_variable side_bound (last_rule earlier)
      → IsStraightSideBound s members m (last_rule earlier) side_bound
      → IsAmong (flow s members table.size m side_bound (last_rule earlier)) all_flows
      → on_side side (place_value c m.result_variable.place) ≤ℤ pos
      (max (val (base_of all_flows) (sizes_of_start start))
      (factor_of all_flows m.result_variable.rule * g + val (addition_of all_flows m.result_variable.rule) (sizes_of_start start)))
  cycle_side_bound start earlier b st c run x m among same before g inner side side_bound shape accepted sizes straight flows_here =
      let member_shape : HasMemberShape s m = all-among (HasMemberShape s) members m h.shape.each among in
      let size : (j : ℕ) → reads (poly_at s m.result_variable) side_bound j ≡ true → is_member members (last_rule earlier) j ≡ false
      → nat_abs (at b.values j) ≤ val (sizes_after table.size (last_rule earlier) j) (sizes_of_start start) =
      λ j k l. let fact = known-size s.program table good (last_rule earlier) (suc j)
      (sizes j k l) in
      fact.each start earlier b run refl in
      within (on_side side (place_value c m.result_variable.place)) _ _
      (side_bound-covered s m.result_variable b st.free c (point_of s true_to b st c x m.result_variable.rule same) member_shape.at.least
      (left_values s.program b st c x m.result_variable.rule same)
      (is_member members (last_rule earlier)) g (sizes_after table.size (last_rule earlier))
      (sizes_of_start start) inner side side_bound shape accepted size
      (stays_straight s members m (last_rule earlier) side_bound straight))
      (flow-covered all_flows (flow s members table.size m side_bound (last_rule earlier)) (sizes_of_start start) g
      flows_here)
    where
      within : (v : ℤ) (a b : ℕ) → v ≤ℤ pos a → a ≤ b → v ≤ℤ pos b
      within v a b k l = omega (arith, ints, k, l)

  -- after a step each member is within the base, or within the factor of its rule times a bound on the members before,
  -- plus the rule's addition
  cycle_step : (start : List ℤ) (earlier : List Step) (b : Config) (st : Step) (c : Config)
      → IsRun s.program start earlier b → IsStep s.program b st c
      → (g : ℕ) → ((j : ℕ) → IsMember (last_rule earlier) j → size_at b j ≤ g) → (i : ℕ) → IsMember st.rule i
      → size_at c i ≤ max (val (base_of all_flows) (sizes_of_start start))
      (factor_of all_flows st.rule * g + val (addition_of all_flows st.rule) (sizes_of_start start))
  cycle_step start earlier b st c run x g inner i k =
      let found = found_member members st.rule i k in
      let m : Member = found.0 in
      let same : st.rule ≡ m.result_variable.rule = sym found.2 in
      let member_shape : HasMemberShape s m = all-among (HasMemberShape s) members m h.shape.each found.1 in
      let up_side_bound : AcceptsUp s m = all-among (AcceptsUp s) members m h.up found.1 in
      let low_side_bound : AcceptsLow s m = all-among (AcceptsLow s) members m h.low found.1 in
      let straight : IsStraight s members m = all-among (IsStraight s members) members m h.straight found.1 in
      let before : is_in (last_rule earlier) (pre s.program m.result_variable.rule) ≡ true =
      subst (λ (t : ℕ). is_in (last_rule earlier) (pre s.program t) ≡ true) same
      (last_precedes s.program start earlier b st c run x) in
      let listed = flows_into-among s members table.size members m (last_rule earlier) found.1 before in
      let sizes : HasSizesAfter s table members m (last_rule earlier) =
      all-among (HasSizesBefore s table members) members m h.sizes found.1 (last_rule earlier) before in
      let up = cycle_side_bound start earlier b st c run x m found.1 same before g inner Up m.local.up member_shape.up up_side_bound
      sizes.up (straight.up (last_rule earlier) before) listed.0 in
      let low = cycle_side_bound start earlier b st c run x m found.1 same before g inner Low m.local.low member_shape.low
      low_side_bound
      sizes.low (straight.low (last_rule earlier) before) listed.1 in
      subst (λ (t : ℕ). size_at c i ≤ max (val (base_of all_flows) (sizes_of_start start))
      (factor_of all_flows t * g + val (addition_of all_flows t) (sizes_of_start start))) found.2
      (subst (λ (p : ℕ). nat_abs (place_value c p) ≤ max (val (base_of all_flows) (sizes_of_start start))
      (factor_of all_flows m.result_variable.rule * g + val (addition_of all_flows m.result_variable.rule) (sizes_of_start start)))
      found.3
      (abs-within (place_value c m.result_variable.place) _ up low))

  -- the rule of a member is one of the loop's rules
  rule_listed : (m : Member) → IsAmong m members → is_in m.result_variable.rule (rules_of s members) ≡ true
  rule_listed m among =
      let shape : HasMemberShape s m = all-among (HasMemberShape s) members m h.shape.each among in
      is_in-filter (λ t. list_any (λ (n : Member). n.result_variable.rule == t) members) (entry_and_rules s.program) m.result_variable.rule
      (rule_is_numbered s.program m.result_variable.rule shape.at.rule shape.at.numbered)
      (rule-complete members m among)

  -- the flows feed the members
  is_fed : (start : List ℤ)
      → IsFed (λ steps c. IsRun s.program start steps c) size_at (is_member members)
      (val (base_of all_flows) (sizes_of_start start)) (factor_of all_flows)
      (λ t. val (addition_of all_flows t) (sizes_of_start start)) (rules_of s members)
  is_fed start = record {
    least = factor-least all_flows;
    listed = λ t i k. let found =
        found_member members t i k in subst (λ (u : ℕ). is_in u (rules_of s members) ≡ true) found.2
        (rule_listed found.0 found.1);
    start = λ c run i k.
        let found = found_member members 0 i k in
        let shape : HasMemberShape s found.0 = all-among (HasMemberShape s) members found.0 h.shape.each found.1 in
        absurd (no_empty_run s.program found.0.result_variable shape.at (sym found.2));
    step = λ st earlier d
        run. (run.0, run.1, λ g inner i k. cycle_step start earlier run.0 st d run.1 run.2 g inner i k);
  }

  -- the flows have bases of at least 1
  flows-based : All (λ (f : Flow). IsBased f.offset) all_flows
  flows-based = flows_into-based s members table.size (known_size-based s.program table good) members

  -- the size of a member holds after every run that ends with its rule
  cycle_holds : (start : List ℤ) (steps : List Step) (c : Config) → IsRun s.program start steps c → (m : Member)
      → IsAmong m members → last_rule steps ≡ m.result_variable.rule
      → nat_abs (place_value c m.result_variable.place) ≤ val (cycle_size s table members) (sizes_of_start start)
  cycle_holds start steps c run m among same =
      le_trans (by_place m.result_variable.place refl shape.at.least)
      (loop-bounded s true_to all_flows (addition-based all_flows flows-based) table.time (sizes_of_start start)
      steps (rules_of s members)
      (λ t k n. let time = known-time s.program table good t (h.times t k n) in time.each start steps c run))
    where
      shape : HasMemberShape s m
      shape = all-among (HasMemberShape s) members m h.shape.each among

      most : ℕ
      most = grown (val (base_of all_flows) (sizes_of_start start)) (factor_of all_flows)
          (λ t. val (addition_of all_flows t) (sizes_of_start start)) (rules_of s members) steps

      by_place : (i : ℕ) → m.result_variable.place ≡ i → 1 ≤ i → nat_abs (place_value c m.result_variable.place) ≤ most
      by_place zero e l = absurd (omega arith)
      by_place (suc j) e l =
          rw e (fed (λ (ss : List Step) (d : Config). IsRun s.program start ss d) size_at (is_member members)
          (val (base_of all_flows) (sizes_of_start start)) (factor_of all_flows)
          (λ t. val (addition_of all_flows t) (sizes_of_start start)) (rules_of s members)
          (is_fed start) steps c run j
          (subst (λ (t : ℕ). is_member members t j ≡ true) (sym same) (member-complete members m j among e)))

  -- the size that an accepted loop composes has bases of at least 1
  cycle_size-based : IsBased (cycle_size s table members)
  cycle_size-based = loop_bound-based all_flows flows-based s table.time (known_time-based s.program table good)
      (rules_of s members)

  -- the fact of a member is good
  member-good : (m : Member) → IsAmong m members
      → IsGood s.program (Size m.result_variable.rule m.result_variable.place (s.rewrite (cycle_size s table members)))
  member-good m among = record {
    holds = record {
      each = λ start steps c run last.
          subst (λ (n : ℕ). nat_abs (place_value c m.result_variable.place) ≤ n)
          (sym (true_to.values (cycle_size s table members) cycle_size-based (sizes_of_start start)))
          (cycle_holds start steps c run m among last);
    };
    based = true_to.bases (cycle_size s table members) cycle_size-based;
  }

  -- the facts of an accepted loop are good
  pub cycle-good : All (IsGood s.program) (cycle_facts (s.rewrite (cycle_size s table members)) members)
  cycle-good = all_facts members (λ m k. member-good m k)
    where
      b : Bound
      b = s.rewrite (cycle_size s table members)

      all_facts : (ms : List Member)
          → ((m : Member) → IsAmong m ms → IsGood s.program (Size m.result_variable.rule m.result_variable.place b))
          → All (IsGood s.program) (cycle_facts b ms)
      all_facts [] k = All-nil (IsGood s.program)
      all_facts (m ∷ ms) k =
          All-cons (IsGood s.program) (Size m.result_variable.rule m.result_variable.place b) (cycle_facts b ms) (k m (inl refl))
          (all_facts ms (λ n l. k n (inr l)))
