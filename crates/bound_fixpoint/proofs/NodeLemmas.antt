-- The lemma of a node that is accepted over known bounds, after lemmas that state these bounds: it is accepted, and
-- states the bound that the node composes, for each of its keys.
use Rattle.std.proofs.Common.{◌≡◌, ◌≢◌, ℕ, zero, suc, ◌<◌, ◌≤◌, not, Bool, true, List, [], ◌∷◌, map, Some, refl}
use Rattle.std.proofs.Common.{sym, ◌∙◌, ap, subst, arith, All}
use Rattle.std.specs.Prelude.{pos, Option, None}
use Rattle.std.specs.List.{Contains}
use Rattle.std.proofs.lemmas.List.Elements.{All-nil, All-head, All-tail}
use Rattle.std.proofs.lemmas.List.FromFn.{length-range_with_len, get_or-range_with_len}
use Rattle.rule_questions.specs.model.Programs.{Program, arity_of}
use Rattle.rule_questions.specs.model.Bounds.{Bound, Constant}
use Rattle.rule_questions.specs.model.Facts.{Fact, Time, Size}
use Rattle.rule_questions.specs.model.Entries.{is_in, entries}
use Rattle.rule_questions.specs.model.Paths.{Here, Onward, HasPath, target_of}
use Rattle.rule_questions.proofs.model.Membership.{no_is_not_yes}
use Rattle.rule_questions.specs.linear_forms.Forms.{at}
use Rattle.rule_questions.specs.cert_rules.Nodes.{ResultVariable, Member, RankNode, Rank, Never, Cite, Spread, Cycle}
use Rattle.rule_questions.specs.cert_rules.Known.{IsKnown, table_of, has_zero_time}
use Rattle.rule_questions.specs.cert_rules.Setting.{Setting}
use Rattle.rule_questions.specs.cert_rules.Composed.{rank_form}
use Rattle.rule_questions.specs.cert_rules.Checks.{needed_into, needed_times}
use Rattle.rule_questions.specs.cert_rules.AcceptsPlain.{IsRule, AcceptsUnreached, AcceptsNever, may_run, zero_sizes}
use Rattle.rule_questions.specs.cert_rules.AcceptsPlain.{places_at, never_facts}
use Rattle.rule_questions.specs.cert_rules.AcceptsRank.{AcceptsRank, rank_time}
use Rattle.rule_questions.specs.cert_rules.AcceptsSizes.{AcceptsSpread, AcceptsCycle, HasMemberShape, spread_size}
use Rattle.rule_questions.specs.cert_rules.AcceptsSizes.{cycle_size, cycle_facts}
use Rattle.rule_questions.specs.cert_rules.Acceptance.{facts_of, facts_of_lemma, joined_facts, Accepts}
use Rattle.bound_fixpoint.specs.Keys.{Bounds, key, time_key, at_key, has_key, fact_at, over}
use Rattle.bound_fixpoint.specs.Derivations.{Node, EmptyBy, UnreachedBy, NeverBy, RankBy, SpreadBy, CycleBy, keys_of}
use Rattle.bound_fixpoint.specs.Derivations.{keys_after}
use Rattle.bound_fixpoint.specs.Needs.{rank_premises, spread_premises, cycle_premises, uses_for, lemma_by}
use Rattle.bound_fixpoint.specs.Justification.{composed_bound, is_left, AreZeroTimes, NeverRuns, AcceptsOver, ArePremises}
use Rattle.bound_fixpoint.specs.Stated.{SayBounds}
use Rattle.bound_fixpoint.proofs.Cases.{by_cases, none_some}
use Rattle.bound_fixpoint.proofs.Keys.{has_key-all, has_key-left, has_key-right, has_time_key, size_fact}
use Rattle.bound_fixpoint.proofs.FactLists.{zero_said, stating_numbered}
use Rattle.bound_fixpoint.proofs.ListMembers.{contains-first}
use Rattle.bound_fixpoint.proofs.NeededFacts.{premises_accepted, need_stated, needed_time, needed_size}
use Rattle.bound_fixpoint.proofs.SameTimes.{rank_time-same, rank_accepted, time_needed, size_needed}
use Rattle.bound_fixpoint.proofs.SameSizes.{spread_size-same, spread_accepted, cycle_size-same, cycle_accepted}

-- the facts of these keys with one bound
abbrev pub facts_with : Bound → List ResultVariable → List Fact
facts_with c keys = map (λ k. fact_at k c) keys

-- if each rule of the program that the first test allows is allowed by the second, a path of rules that the first
-- allows is one of rules that the second allows
path_by : (p : Program) (f g : ℕ → Bool) → ((t : ℕ) → IsRule p t → f t ≡ true → g t ≡ true) → (a b : ℕ)
    → HasPath p f a b → HasPath p g a b
path_by p f g h a b (Here e) = Here e
path_by p f g h a b (Onward {b = x} r edge) = Onward (path_by p f g h a x r) (record {
  number = edge.number;
  rule = edge.rule;
  numbered = edge.numbered;
  allowed = h edge.number (record { rule = edge.rule; numbered = edge.numbered }) edge.allowed;
  source = edge.source;
  target = edge.target;
})

-- sizes of 0 at places from 1 on are the facts of their keys
zero_sizes_at : (t : ℕ) (is : List ℕ) → All (λ i. 1 ≤ i) is
    → zero_sizes t is ≡ facts_with (Constant 0) (map (λ i. key t i) is)
zero_sizes_at t [] h = refl
zero_sizes_at t (i ∷ is) h =
    ap (λ (f : Fact). f ∷ zero_sizes t is)
    (sym (size_fact t i (Constant 0) (All-head (λ (i : ℕ). 1 ≤ i) i is h)))
    ∙ ap (λ (fs : List Fact). fact_at (key t i) (Constant 0) ∷ fs)
    (zero_sizes_at t is (All-tail (λ (i : ℕ). 1 ≤ i) i is h))

-- the sizes of members are the facts of their keys
pub cycle_facts_at : (s : Setting) (c : Bound) (members : List Member) → All (HasMemberShape s) members
    → cycle_facts c members ≡ facts_with c (map (λ m. m.result_variable) members)
cycle_facts_at s c [] h = refl
cycle_facts_at s c (m ∷ ms) h =
    ap (λ (f : Fact). f ∷ cycle_facts c ms)
    (sym (size_fact m.result_variable.rule m.result_variable.place c ((All-head (HasMemberShape s) m ms h).at.least)))
    ∙ ap (λ (fs : List Fact). fact_at m.result_variable c ∷ fs) (cycle_facts_at s c ms (All-tail (HasMemberShape s) m ms h))

module _ (s : Setting) (past : List (List Fact)) (number : ℕ → ℕ → ℕ) (b all : Bounds)
    (say : SayBounds s past number b all) where
  -- the facts that citing the premises states
  abbrev joined : List ResultVariable → List Fact
  joined premises = joined_facts s past (uses_for number premises)

  module _ (premises : List ResultVariable) (known : All (λ k. IsKnown (at_key b k)) premises) where
    -- a rule that is not reached by rules other than those whose times of 0 are premises
    module _ (zeros : AreZeroTimes b premises) where
      -- a time of 0 that is a premise is stated
      zero_stated : (t : ℕ) → has_key premises t 0 ≡ true → has_zero_time (joined premises) t ≡ true
      zero_stated t m =
          let h = need_stated s past number b all say premises known t 0 m in
          let zero_there : b t 0 ≡ Some (Constant 0) = has_key-all
          (λ k. b k.rule 0 ≡ Some (Constant 0)) premises t 0 zeros.zero m in
          let same : h.0 ≡ Constant 0 = some_bound h.0 (sym h.1 ∙ zero_there) in
          zero_said (joined premises) t (subst (λ (c : Bound). Contains (joined premises) (Time t c)) same h.2)
        where
          some_bound : (c : Bound) → Some c ≡ Some (Constant 0) → c ≡ Constant 0
          some_bound c e = cc

      -- a rule that may run by the stated facts is none of those whose times are premises
      left_of_all : (t : ℕ) → IsRule s.program t → may_run (joined premises) t ≡ true → is_left premises t ≡ true
      left_of_all t rule may =
          by_cases (has_key premises t 0)
          (λ m. absurd (no_is_not_yes (may_run (joined premises) t) (ap not (zero_stated t m)) may)) (λ n. ap not n)

      -- a rule that the other rules don't reach is not reached by those that may run
      unreached_accepted : (t : ℕ) → AcceptsUnreached s.program (is_left premises) t
          → AcceptsUnreached s.program (may_run (joined premises)) t
      unreached_accepted t ok = record {
        shape = ok.shape;
        reached = λ r numbered way. ok.reached r numbered
            (path_by s.program (may_run (joined premises)) (is_left premises) left_of_all s.program.start r.source way);
      }

      -- the lemma of the unreached rule is accepted
      pub unreached_lemma : (t : ℕ) → AcceptsUnreached s.program (is_left premises) t
          → Accepts s past (lemma_by number (UnreachedBy t) premises)
      unreached_lemma t ok = (premises_accepted s past number b all say premises known, unreached_accepted t ok)

  -- the sizes of a rule that never runs
  module _ (t : ℕ) (never : NeverRuns s.program b t) where
    -- the lemma of its time states that this is 0, and nothing else
    stated_alone : facts_of_lemma past (number t 0) ≡ Time t (Constant 0) ∷ []
    stated_alone = say.alone t (Constant 0) never.rule never.zero

    -- this fact is the required one
    one_zero : (u : ℕ) → IsRule s.program u → AcceptsNever (Time u (Constant 0) ∷ [])
    one_zero zero rule = absurd (none_some rule.rule rule.numbered)
    one_zero (suc u) rule = record { shape = tt; zero = refl }

    -- the lemma of the sizes after it is accepted
    pub never_lemma : Accepts s past (Never (Cite (number t 0)))
    never_lemma =
        let there = stating_numbered past (number t 0) (Time t (Constant 0))
        (subst (λ (fs : List Fact). Contains fs (Time t (Constant 0))) (sym stated_alone)
        (contains-first (Time t (Constant 0)) [])) in (
          record { least = there.least; earlier = there.earlier },
          subst (λ (fs : List Fact). AcceptsNever fs) (sym stated_alone) (one_zero t never.rule),
        )

    -- the lemma states size 0 at each place after the rule
    pub never_states : facts_of s past (Never (Cite (number t 0)))
        ≡ facts_with (Constant 0) (keys_after s.program t)
    never_states =
        ap (never_facts s.program) stated_alone ∙ zero_sizes_at t (places_at s.program (target_of s.program t))
        (from_one (target_of s.program t))
      where
        from_one : (o : Option ℕ) → All (λ i. 1 ≤ i) (places_at s.program o)
        from_one None = All-nil (λ i. 1 ≤ i)
        from_one (Some a) = λ k d low.
            let below : k < arity_of s.program a = omega
            (arith, low, length-range_with_len 1 (arity_of s.program a)) in
            omega (arith, get_or-range_with_len 1 (arity_of s.program a) k d below)

  -- a ranking function
  module _ (node : RankNode) (known : All (λ k. IsKnown (at_key b k)) (rank_premises s.program node))
      (ok : AcceptsRank s (over b) node) where
    -- the times of the entries are stated as they are known
    times_same : (e : ℕ) → is_in e (entries s.program node.set) ≡ true
        → (table_of (joined (rank_premises s.program node))).time e ≡ (over b).time e
    times_same e m =
        needed_time s past number b all say (rank_premises s.program node) known e (time_needed s.program node e m)

    -- the sizes that the function reads are looked up as they are known
    sizes_same : (e j : ℕ) → is_in e (entries s.program node.set) ≡ true
        → at (rank_form node.forms (target_of s.program e)).coefs j ≢ pos 0
        → (table_of (joined (rank_premises s.program node))).size e (suc j) ≡ (over b).size e (suc j)
    sizes_same e j m reads =
        needed_size s past number b all say (rank_premises s.program node) known e (suc j)
        (size_needed s.program node e j m reads)

    -- the lemma of the ranking function is accepted
    pub rank_lemma : Accepts s past (Rank node (uses_for number (rank_premises s.program node)))
    rank_lemma = (
      premises_accepted s past number b all say (rank_premises s.program node) known,
      rank_accepted s (over b) (table_of (joined (rank_premises s.program node))) node times_same sizes_same ok,
    )

    -- the lemma states the time that the function composes of the known bounds
    pub rank_states : facts_of s past (Rank node (uses_for number (rank_premises s.program node)))
        ≡ facts_with (s.rewrite (rank_time s node (over b))) (time_key node.rule ∷ [])
    rank_states =
        ap (λ (c : Bound). Time node.rule (s.rewrite c) ∷ [])
        (rank_time-same s (over b) (table_of (joined (rank_premises s.program node))) node times_same sizes_same)

  -- a place that doesn't loop
  module _ (m : Member) (known : All (λ k. IsKnown (at_key b k)) (spread_premises s m))
      (ok : AcceptsSpread s (over b) m) where
    -- the sizes that the side bounds read are looked up as they are known
    spread_same : (t i : ℕ) → has_key (spread_premises s m) t i ≡ true
        → (table_of (joined (spread_premises s m))).size t i ≡ (over b).size t i
    spread_same = needed_size s past number b all say (spread_premises s m) known

    -- the lemma of the spread node is accepted
    pub spread_lemma : Accepts s past (Spread m (uses_for number (spread_premises s m)))
    spread_lemma = (
      premises_accepted s past number b all say (spread_premises s m) known,
      spread_accepted s (over b) (table_of (joined (spread_premises s m))) m ok spread_same,
    )

    -- the lemma states the size that the node composes of the known bounds
    pub spread_states : facts_of s past (Spread m (uses_for number (spread_premises s m)))
        ≡ facts_with (s.rewrite (spread_size s (over b) m)) (m.result_variable ∷ [])
    spread_states =
        ap (λ (c : Bound). Size m.result_variable.rule m.result_variable.place (s.rewrite c) ∷ [])
        (spread_size-same s (over b) (table_of (joined (spread_premises s m))) m ok spread_same)
        ∙ ap (λ (f : Fact). f ∷ [])
        (sym (size_fact m.result_variable.rule m.result_variable.place (s.rewrite (spread_size s (over b) m)) ok.shape.at.least))

  -- a loop
  module _ (members : List Member) (known : All (λ k. IsKnown (at_key b k)) (cycle_premises s (over b) members))
      (ok : AcceptsCycle s (over b) members) where
    -- the keys of the sizes that a loop node needs, and the rules whose times it needs
    abbrev loop_sizes : List ResultVariable
    loop_sizes = needed_into s members members

    abbrev loop_times : List ℕ
    loop_times = needed_times s (over b) members

    -- the sizes that the loop node needs are looked up as they are known
    loop_sizes_same : (t i : ℕ) → has_key loop_sizes t i ≡ true
        → (table_of (joined (cycle_premises s (over b) members))).size t i ≡ (over b).size t i
    loop_sizes_same t i m =
        needed_size s past number b all say (cycle_premises s (over b) members) known t i
        (has_key-left loop_sizes (map time_key loop_times) t i m)

    -- the times that are premises are looked up as they are known
    loop_times_same : (t : ℕ) → is_in t loop_times ≡ true
        → (table_of (joined (cycle_premises s (over b) members))).time t ≡ (over b).time t
    loop_times_same t m =
        needed_time s past number b all say (cycle_premises s (over b) members) known t
        (has_key-right loop_sizes (map time_key loop_times) t 0 (has_time_key loop_times t m))

    -- the lemma of the loop node is accepted
    pub cycle_lemma : Accepts s past (Cycle members (uses_for number (cycle_premises s (over b) members)))
    cycle_lemma = (
      premises_accepted s past number b all say (cycle_premises s (over b) members) known,
      cycle_accepted s (over b) (table_of (joined (cycle_premises s (over b) members))) members ok loop_sizes_same
          loop_times_same,
    )

    -- the lemma states the size that the node composes of the known bounds, for each member
    pub cycle_states : facts_of s past (Cycle members (uses_for number (cycle_premises s (over b) members)))
        ≡ facts_with (s.rewrite (cycle_size s (over b) members)) (map (λ m. m.result_variable) members)
    cycle_states =
        ap (λ (c : Bound). cycle_facts (s.rewrite c) members)
        (cycle_size-same s (over b) (table_of (joined (cycle_premises s (over b) members))) members ok loop_sizes_same
        loop_times_same)
        ∙ cycle_facts_at s (s.rewrite (cycle_size s (over b) members)) members ok.shape.each

  -- the lemma of a node that is accepted with its premises, all of which are known, is accepted
  pub node_lemma : (node : Node) (premises : List ResultVariable) → AcceptsOver s b node premises → ArePremises s b node premises
      → All (λ k. IsKnown (at_key b k)) premises → Accepts s past (lemma_by number node premises)
  node_lemma (EmptyBy t multipliers) premises ok are known = ok
  node_lemma (UnreachedBy t) premises ok are known = unreached_lemma premises known ok.0 t ok.1
  node_lemma (NeverBy t) premises ok are known = never_lemma t ok
  node_lemma (RankBy node) premises ok are known =
      subst (λ (ks : List ResultVariable). Accepts s past (Rank node (uses_for number ks))) (sym are)
      (rank_lemma node (subst (λ (ks : List ResultVariable). All (λ k. IsKnown (at_key b k)) ks) are known) ok)
  node_lemma (SpreadBy m) premises ok are known =
      subst (λ (ks : List ResultVariable). Accepts s past (Spread m (uses_for number ks))) (sym are)
      (spread_lemma m (subst (λ (ks : List ResultVariable). All (λ k. IsKnown (at_key b k)) ks) are known) ok)
  node_lemma (CycleBy members) premises ok are known =
      subst (λ (ks : List ResultVariable). Accepts s past (Cycle members (uses_for number ks))) (sym are)
      (cycle_lemma members (subst (λ (ks : List ResultVariable). All (λ k. IsKnown (at_key b k)) ks) are known) ok)

  -- the lemma states the bound that the node composes, for each of its keys
  pub node_states : (node : Node) (premises : List ResultVariable) → AcceptsOver s b node premises → ArePremises s b node premises
      → All (λ k. IsKnown (at_key b k)) premises
      → facts_of s past (lemma_by number node premises) ≡ facts_with (composed_bound s b node) (keys_of s.program node)
  node_states (EmptyBy t multipliers) premises ok are known = refl
  node_states (UnreachedBy t) premises ok are known = refl
  node_states (NeverBy t) premises ok are known = never_states t ok
  node_states (RankBy node) premises ok are known =
      subst (λ (ks : List ResultVariable). facts_of s past (Rank node (uses_for number ks))
      ≡ facts_with (s.rewrite (rank_time s node (over b))) (time_key node.rule ∷ [])) (sym are)
      (rank_states node (subst (λ (ks : List ResultVariable). All (λ k. IsKnown (at_key b k)) ks) are known) ok)
  node_states (SpreadBy m) premises ok are known =
      subst (λ (ks : List ResultVariable). facts_of s past (Spread m (uses_for number ks))
      ≡ facts_with (s.rewrite (spread_size s (over b) m)) (m.result_variable ∷ [])) (sym are)
      (spread_states m (subst (λ (ks : List ResultVariable). All (λ k. IsKnown (at_key b k)) ks) are known) ok)
  node_states (CycleBy members) premises ok are known =
      subst (λ (ks : List ResultVariable). facts_of s past (Cycle members (uses_for number ks))
      ≡ facts_with (s.rewrite (cycle_size s (over b) members)) (map (λ m. m.result_variable) members)) (sym are)
      (cycle_states members (subst (λ (ks : List ResultVariable). All (λ k. IsKnown (at_key b k)) ks) are known) ok)
