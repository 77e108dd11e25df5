-- Rules that no run uses: empty and unreached rules, and the facts that hold after them.
use Rattle.std.proofs.Common.{◌≡◌, ◌≢◌, ℕ, zero, suc, ◌≤◌, ◌==◌, ◌&&◌, Bool, true, false, List, [], ◌∷◌, Some, None}
use Rattle.std.proofs.Common.{refl, sym, ap, ◌∙◌, subst, arith, All}
use Rattle.std.specs.Prelude.{ℤ, pos}
use Rattle.std.proofs.lemmas.Bool.{and_parts, not_from_false}
use Rattle.std.proofs.lemmas.List.Elements.{All-nil, All-cons, All-head, All-tail}
use Rattle.run_counting.specs.model.Programs.{Program, Rule, rule_at}
use Rattle.run_counting.specs.model.Runs.{Config, Step, IsStep, IsRun, count, one_if_same, last_rule, sizes_of_start}
use Rattle.run_counting.specs.model.Bounds.{Bound, Constant, val}
use Rattle.run_counting.specs.model.Facts.{Fact, Time, Size, Cost, HoldsTime, HoldsSize}
use Rattle.run_counting.proofs.model.RunLaws.{one_if_same-same, one_if_same-other}
use Rattle.rule_forms.specs.linear_forms.Certificates.{Implies, minus_one}
use Rattle.rule_forms.proofs.linear_forms.CertificateLaws.{no_point}
use Rattle.run_counting.specs.model.Paths.{target_of, IsReached}
use Rattle.run_counting.proofs.model.StepLaws.{reached}
use Rattle.cert_rules.specs.Known.{is_zero_bound, has_zero_time}
use Rattle.cert_rules.specs.Setting.{Setting, IsFaithful}
use Rattle.cert_rules.specs.AcceptsPlain.{IsRule, may_run, AcceptsEmpty, AcceptsUnreached, AcceptsNever, zero_sizes}
use Rattle.cert_rules.specs.AcceptsPlain.{places_at, never_facts}
use Rattle.run_counting.proofs.model.Membership.{same_number-sound}
use Rattle.cert_rules.proofs.GoodFacts.{IsGood}

-- the virtual entry isn't a rule of the program
pub entry_is_other : (p : Program) (t : ℕ) → IsRule p t → one_if_same 0 t ≡ 0
entry_is_other p zero h = absurd (none_some h.numbered)
  where
    none_some : None ≡ Some h.rule → ⊥
    none_some e = cc
entry_is_other p (suc t) h = one_if_same-other 0 (suc t) (λ e. omega (arith, e))

-- if no run can be continued with a step by the rule, the rule never occurs
never_occurs : (p : Program) (t : ℕ) → IsRule p t → (start : List ℤ)
    → ((earlier : List Step) (b : Config) (s : Step) (c : Config) → IsRun p start earlier b → IsStep p b s c
    → s.rule ≢ t)
    → (steps : List Step) (c : Config) → IsRun p start steps c → count t steps ≡ 0
never_occurs p t rule start h [] c run = entry_is_other p t rule
never_occurs p t rule start h (s ∷ earlier) c (b, run, step) =
    omega (arith, one_if_same-other s.rule t (h earlier b s c run step), never_occurs p t rule start h earlier b run)

-- a rule whose rows have no point never occurs, so the fact that its time is 0 is good
pub empty-good : (s : Setting) → IsFaithful s → (t : ℕ) (multipliers : List ℕ) → AcceptsEmpty s t multipliers
    → IsGood s.program (Time t (Constant 0))
empty-good s true_to t multipliers h = record {
  holds = record {
    each =
        λ start steps c run. omega (
          arith,
          never_occurs s.program t h.shape.rule start (λ earlier b st d r x same. no_step b st d x same) steps c
              run,
        );
  };
  based = tt;
}
  where
    no_step : (b : Config) (st : Step) (d : Config) → IsStep s.program b st d → st.rule ≡ t → ⊥
    no_step b st d x same =
        let point = true_to.steps b st d x in
        let certificate : Implies (s.rows st.rule) multipliers minus_one =
        subst (λ (u : ℕ). Implies (s.rows u) multipliers minus_one) (sym same) h.empty in
        no_point (s.rows st.rule) multipliers certificate point.z (pos 1) point.point

-- a bound that is the constant 0 has the value 0
pub zero_val : (b : Bound) (m : List ℕ) → is_zero_bound b ≡ true → val b m ≡ 0
zero_val (Constant zero) m h = refl
zero_val (Constant (suc n)) m h = absurd (no h)
  where
    no : false ≡ true → ⊥
    no e = cc
zero_val b m h = absurd (no h)
  where
    no : false ≡ true → ⊥
    no e = cc

-- a rule with a time that is 0 never occurs
zero_time : (p : Program) (facts : List Fact) → All (IsGood p) facts → (t : ℕ) → has_zero_time facts t ≡ true
    → (start : List ℤ) (steps : List Step) (c : Config) → IsRun p start steps c → count t steps ≤ 0
zero_time p [] good t h start steps c run = absurd (no h)
  where
    no : false ≡ true → ⊥
    no e = cc
zero_time p (Size u i b ∷ facts) good t h start steps c run =
    zero_time p facts (All-tail (IsGood p) (Size u i b) facts good) t h start steps c run
zero_time p (Cost u b ∷ facts) good t h start steps c run =
    zero_time p facts (All-tail (IsGood p) (Cost u b) facts good) t h start steps c run
zero_time p (Time u b ∷ facts) good t h start steps c run =
    go ((u == t) && is_zero_bound b) refl (All-head (IsGood p) (Time u b) facts good)
    (λ k. zero_time p facts (All-tail (IsGood p) (Time u b) facts good) t k start steps c run)
  where
    go : (v : Bool) → ((u == t) && is_zero_bound b) ≡ v → IsGood p (Time u b)
        → (has_zero_time facts t ≡ true → count t steps ≤ 0) → count t steps ≤ 0
    go true e here later =
        let parts = and_parts (u == t) (is_zero_bound b) e in
        let time : HoldsTime p u b = here.holds in
        let most : count t steps ≤ val b (sizes_of_start start) =
        subst (λ (n : ℕ). count n steps ≤ val b (sizes_of_start start)) (same_number-sound u t parts.0)
        (time.each start steps c run) in
        omega (arith, most, zero_val b (sizes_of_start start) parts.1)
    go false e here later = later (rw e at h)

-- no step of a run is by a rule whose time is 0
steps_may_run : (p : Program) (facts : List Fact) → All (IsGood p) facts
    → (start : List ℤ) (steps : List Step) (c : Config) → IsRun p start steps c
    → All (λ s. may_run facts s.rule ≡ true) steps
steps_may_run p facts good start [] c run = All-nil (λ (s : Step). may_run facts s.rule ≡ true)
steps_may_run p facts good start (s ∷ earlier) c (b, run, step) =
    All-cons (λ (s : Step). may_run facts s.rule ≡ true) s earlier (go (has_zero_time facts s.rule) refl)
    (steps_may_run p facts good start earlier b run)
  where
    go : (v : Bool) → has_zero_time facts s.rule ≡ v → may_run facts s.rule ≡ true
    go true e = absurd
        (omega (
          arith,
          zero_time p facts good s.rule e start (s ∷ earlier) c (b, run, step),
          one_if_same-same s.rule
              s.rule refl,
        ))
    go false e = not_from_false (has_zero_time facts s.rule) e

-- a rule whose source isn't reached never occurs, so the fact that its time is 0 is good
pub unreached-good : (p : Program) (facts : List Fact) → All (IsGood p) facts → (t : ℕ) → AcceptsUnreached p (may_run facts) t
    → IsGood p (Time t (Constant 0))
unreached-good p facts good t h = record {
  holds = record {
    each =
        λ start steps c run. omega (
          arith,
          never_occurs p t h.shape start (λ earlier b st d r x same. unreached start earlier b st d r x same)
              steps c run,
        );
  };
  based = tt;
}
  where
    same_rule : (u v : ℕ) (q r : Rule) → u ≡ v → rule_at p u ≡ Some q → rule_at p v ≡ Some r → q ≡ r
    same_rule u v q r e f g = some_same (sym f ∙ (ap (λ (n : ℕ). rule_at p n) e ∙ g))
      where
        some_same : Some q ≡ Some r → q ≡ r
        some_same k = cc

    unreached : (start : List ℤ) (earlier : List Step) (b : Config) (st : Step) (d : Config) → IsRun p start earlier b
        → IsStep p b st d → st.rule ≡ t → ⊥
    unreached start earlier b st d r x same =
        h.reached h.shape.rule h.shape.numbered (subst (λ (a : ℕ). IsReached p (may_run facts) a)
        (x.leads.source ∙ ap (λ (q : Rule). q.source)
        (same_rule st.rule t x.rule h.shape.rule same x.numbered h.shape.numbered))
        (reached p (may_run facts) start earlier b r (steps_may_run p facts good start earlier b r)))

-- the last rule of a run, if there is one, occurs in it
used_last : (t : ℕ) (steps : List Step) → last_rule steps ≡ suc t → 1 ≤ count (suc t) steps
used_last t [] h = absurd (omega (arith, h))
used_last t (s ∷ earlier) h = omega (arith, one_if_same-same s.rule (suc t) h)

-- every size holds after a rule that never runs
never_sizes : (p : Program) (t : ℕ) (b : Bound) → HoldsTime p (suc t) b → is_zero_bound b ≡ true → (places : List ℕ)
    → All (IsGood p) (zero_sizes (suc t) places)
never_sizes p t b time zero_b [] = All-nil (IsGood p)
never_sizes p t b time zero_b (i ∷ is) =
    All-cons (IsGood p) (Size (suc t) i (Constant 0)) (zero_sizes (suc t) is) (record { holds = size; based = tt })
    (never_sizes p t b time zero_b is)
  where
    size : HoldsSize p (suc t) i (Constant 0)
    size = record {
      each =
          λ start steps c run last. absurd
          (omega (arith, used_last t steps last, time.each start steps c run, zero_val b (sizes_of_start start) zero_b));
    }

-- the facts that an accepted node states of a rule that never runs are good
pub never-good : (p : Program) (facts : List Fact) → All (IsGood p) facts → AcceptsNever facts
    → All (IsGood p) (never_facts p facts)
never-good p [] good h = All-nil (IsGood p)
never-good p (Time zero b ∷ []) good h = absurd h.shape
never-good p (Time (suc t) b ∷ []) good h =
    let here : IsGood p (Time (suc t) b) = All-head (IsGood p) (Time (suc t) b) [] good in
    never_sizes p t b here.holds h.zero (places_at p (target_of p (suc t)))
never-good p (Size t i b ∷ facts) good h = absurd h.shape
never-good p (Cost t b ∷ facts) good h = absurd h.shape
never-good p (Time zero b ∷ f ∷ facts) good h = absurd h.shape
never-good p (Time (suc t) b ∷ f ∷ facts) good h = absurd h.shape
