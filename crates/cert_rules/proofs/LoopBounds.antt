-- The formula of a loop as a bound: it is at least the growth of the loop, and its bases are at least 1.
use Rattle.std.proofs.Common.{◌≡◌, ℕ, zero, suc, ◌+◌, ◌*◌, ◌^◌, ◌≤◌, ◌==◌, ◌||◌, not, Bool, true, false, List, [], ◌∷◌}
use Rattle.std.proofs.Common.{Option, refl, sym, ap, ◌∙◌, arith, All, mul-le-mul, le_trans, le_of_eq, pow-suc}
use Rattle.std.proofs.Math.Nat.{pow-le-pow_right}
use Rattle.std.proofs.lemmas.Bool.{or_left, or_right, ltb-false}
use Rattle.std.proofs.lemmas.List.Elements.{All-nil, All-cons, All-head, All-tail, All-append}
use Rattle.run_counting.specs.model.Runs.{Step, count}
use Rattle.run_counting.specs.model.Bounds.{Bound, val, val_sum, val_product, IsBased, AreBased}
use Rattle.cert_rules.specs.Nodes.{Member}
use Rattle.run_counting.specs.model.Entries.{is_in}
use Rattle.run_counting.specs.model.Paths.{pre}
use Rattle.cert_rules.specs.Known.{known, is_zero_bound}
use Rattle.cert_rules.specs.Setting.{Setting, IsFaithful}
use Rattle.cert_rules.specs.Composed.{sizes_after}
use Rattle.cert_rules.specs.ComposedSizes.{poly_at, is_member, Flow, flow, flows_from, flows_into, is_outer, is_inner}
use Rattle.cert_rules.specs.ComposedSizes.{offsets, base_of, addition_of, factor_of, multiplies, adds, growth_parts}
use Rattle.cert_rules.specs.ComposedSizes.{addition_parts, loop_bound}
use Rattle.run_counting.specs.Paying.{income}
use Rattle.cert_rules.specs.Feeding.{growth}
use Rattle.run_counting.proofs.model.Membership.{same_number}
use Rattle.cert_rules.proofs.Flows.{factor-least}
use Rattle.cert_rules.proofs.Bases.{offset_of-based}
use Rattle.cert_rules.proofs.UnusedRules.{zero_val}

-- every power of 1 is 1
one_to : (n : ℕ) → 1 ^ n ≡ 1
one_to zero = refl
one_to (suc n) = pow-suc 1 n ∙ omega (arith, one_to n)

-- every power of the factor of a rule that doesn't multiply is 1
no_growth : (fs : List Flow) (t n : ℕ) → multiplies fs t ≡ false → factor_of fs t ^ n ≡ 1
no_growth fs t n h =
    let most : factor_of fs t ≤ 1 = ltb-false 1 (factor_of fs t) h in
    let one : factor_of fs t ≡ 1 = single (factor_of fs t) (factor-least fs t) most in
    ap (λ (k : ℕ). k ^ n) one ∙ one_to n
  where
    single : (k : ℕ) → 1 ≤ k → k ≤ 1 → k ≡ 1
    single k a b = omega arith

-- the product of the factors of all steps, times the last part, is at most the product of the powers and the last part
growth-bounded : (fs : List Flow) (time : ℕ → Option Bound) (m : List ℕ) (steps : List Step) (last : Bound) (x : ℕ)
    → x ≤ val last m → (ts : List ℕ)
    → ((t : ℕ) → is_in t ts ≡ true → multiplies fs t ≡ true → count t steps ≤ val (known (time t)) m)
    → growth (factor_of fs) ts steps * x ≤ val_product (growth_parts fs time ts last) m
growth-bounded fs time m steps last x l [] h = omega (arith, l)
growth-bounded fs time m steps last x l (t ∷ ts) h =
    go (multiplies fs t) refl
    (growth-bounded fs time m steps last x l ts (λ u k n. h u (or_right (u == t) (is_in u ts) k) n))
  where
    go : (v : Bool) → multiplies fs t ≡ v
        → growth (factor_of fs) ts steps * x ≤ val_product (growth_parts fs time ts last) m
        → growth (factor_of fs) (t ∷ ts) steps * x ≤ val_product (growth_parts fs time (t ∷ ts) last) m
    go true e ih =
        rw e (le_trans (le_of_eq (apart (factor_of fs t ^ count t steps) (growth (factor_of fs) ts steps) x))
        (mul-le-mul (pow-le-pow_right (factor-least fs t) (h t (or_left (t == t) (is_in t ts) (same_number t)) e)) ih))
      where
        apart : (a b c : ℕ) → (a * b) * c ≡ a * (b * c)
        apart a b c = omega arith
    go false e ih =
        let one : factor_of fs t ^ count t steps ≡ 1 = no_growth fs t (count t steps) e in
        rw e (le_trans (le_of_eq
        (ap (λ (n : ℕ). (n * growth (factor_of fs) ts steps) * x) one ∙ alone (growth (factor_of fs) ts steps) x))
        ih)
      where
        alone : (b c : ℕ) → (1 * b) * c ≡ b * c
        alone b c = omega arith

-- the sum of the additions of all steps is at most the sum of the parts
additions-bounded : (s : Setting) → IsFaithful s → (fs : List Flow) → ((t : ℕ) → IsBased (addition_of fs t))
    → (time : ℕ → Option Bound) (m : List ℕ) (steps : List Step) (ts : List ℕ)
    → ((t : ℕ) → is_in t ts ≡ true → adds s fs t ≡ true → count t steps ≤ val (known (time t)) m)
    → income (λ t. val (addition_of fs t) m) ts steps ≤ val_sum (addition_parts s fs time ts) m
additions-bounded s true_to fs based time m steps [] h = omega arith
additions-bounded s true_to fs based time m steps (t ∷ ts) h =
    go (is_zero_bound (s.rewrite (addition_of fs t))) refl
    (additions-bounded s true_to fs based time m steps ts (λ u k n. h u (or_right (u == t) (is_in u ts) k) n))
  where
    go : (v : Bool) → is_zero_bound (s.rewrite (addition_of fs t)) ≡ v
        → income (λ u. val (addition_of fs u) m) ts steps ≤ val_sum (addition_parts s fs time ts) m
        → income (λ u. val (addition_of fs u) m) (t ∷ ts) steps ≤ val_sum (addition_parts s fs time (t ∷ ts)) m
    go true e ih =
        let none : val (addition_of fs t) m ≡ 0 =
        sym (true_to.values (addition_of fs t) (based t) m) ∙ zero_val (s.rewrite (addition_of fs t)) m e in
        rw e (omega (arith, ih, ap (λ (n : ℕ). count t steps * n) none))
    go false e ih =
        let here : count t steps * val (addition_of fs t) m ≤ val (known (time t)) m * (val (addition_of fs t) m * 1) =
        mul-le-mul (h t (or_left (t == t) (is_in t ts) (same_number t)) (ap not e)) (omega arith) in
        rw e (omega (arith, ih, here))

-- the formula of a loop is at least what the loop can grow
pub loop-bounded : (s : Setting) → IsFaithful s → (fs : List Flow) → ((t : ℕ) → IsBased (addition_of fs t))
    → (time : ℕ → Option Bound) (m : List ℕ) (steps : List Step) (ts : List ℕ)
    → ((t : ℕ) → is_in t ts ≡ true → (multiplies fs t || adds s fs t) ≡ true → count t steps ≤ val (known (time t)) m)
    → growth (factor_of fs) ts steps * (val (base_of fs) m + income (λ t. val (addition_of fs t) m) ts steps) ≤ val
    (loop_bound s fs time ts) m
loop-bounded s true_to fs based time m steps ts h =
    let added = additions-bounded s true_to fs based time m steps ts
    (λ t k n. h t k (or_right (multiplies fs t) (adds s fs t) n)) in
    growth-bounded fs time m steps _ (val (base_of fs) m + income (λ t. val (addition_of fs t) m) ts steps)
    (omega (arith, added)) ts (λ t k n. h t k (or_left (multiplies fs t) (adds s fs t) n))

-- the offset of this flow has bases of at least 1
abbrev pub HasBasedOffset : Flow → Type 0
HasBasedOffset f = IsBased f.offset

offsets-based : (test : Flow → Bool) (fs : List Flow) → All HasBasedOffset fs → AreBased (offsets test fs)
offsets-based test [] h = tt
offsets-based test (f ∷ fs) h = go (test f) refl (offsets-based test fs (All-tail HasBasedOffset f fs h))
  where
    go : (v : Bool) → test f ≡ v → AreBased (offsets test fs) → AreBased (offsets test (f ∷ fs))
    go true e ih = rw e (All-head HasBasedOffset f fs h, ih)
    go false e ih = rw e ih

module _ (s : Setting) (members : List Member) (size : ℕ → ℕ → Option Bound)
    (known_based : (e i : ℕ) → IsBased (known (size e i))) where
  -- the flows into a member from listed rules have offsets with bases of at least 1
  flows_from-based : (m : Member) (es : List ℕ) → All HasBasedOffset (flows_from s members size m es)
  flows_from-based m [] = All-nil HasBasedOffset
  flows_from-based m (e ∷ es) =
      All-cons HasBasedOffset (flow s members size m m.local.up e)
      (flow s members size m m.local.low e ∷ flows_from s members size m es)
      (offset_of-based (poly_at s m.result_variable) m.local.up (is_member members e) (sizes_after size e)
      (λ j. known_based e (suc j)))
      (All-cons HasBasedOffset (flow s members size m m.local.low e) (flows_from s members size m es)
      (offset_of-based (poly_at s m.result_variable) m.local.low (is_member members e) (sizes_after size e)
      (λ j. known_based e (suc j))) (flows_from-based m es))

  -- all flows into these members have offsets with bases of at least 1
  pub flows_into-based : (ms : List Member) → All HasBasedOffset (flows_into s members size ms)
  flows_into-based [] = All-nil HasBasedOffset
  flows_into-based (m ∷ ms) =
      All-append HasBasedOffset (flows_from s members size m (pre s.program m.result_variable.rule))
      (flows_into s members size ms) (flows_from-based m (pre s.program m.result_variable.rule)) (flows_into-based ms)

module _ (fs : List Flow) (h : All HasBasedOffset fs) where
  -- the addition of a rule has bases of at least 1 if all offsets have
  pub addition-based : (t : ℕ) → IsBased (addition_of fs t)
  addition-based t = (tt, offsets-based (is_inner t) fs h)

  growth_parts-based : (time : ℕ → Option Bound) → ((t : ℕ) → IsBased (known (time t))) → (ts : List ℕ) (last : Bound)
      → IsBased last → AreBased (growth_parts fs time ts last)
  growth_parts-based time k [] last l = (l, tt)
  growth_parts-based time k (t ∷ ts) last l = go (multiplies fs t) refl (growth_parts-based time k ts last l)
    where
      go : (v : Bool) → multiplies fs t ≡ v → AreBased (growth_parts fs time ts last)
          → AreBased (growth_parts fs time (t ∷ ts) last)
      go true e ih = rw e ((factor-least fs t, k t), ih)
      go false e ih = rw e ih

  addition_parts-based : (s : Setting) (time : ℕ → Option Bound) → ((t : ℕ) → IsBased (known (time t)))
      → (ts : List ℕ) → AreBased (addition_parts s fs time ts)
  addition_parts-based s time k [] = tt
  addition_parts-based s time k (t ∷ ts) = go (adds s fs t) refl (addition_parts-based s time k ts)
    where
      go : (v : Bool) → adds s fs t ≡ v → AreBased (addition_parts s fs time ts)
          → AreBased (addition_parts s fs time (t ∷ ts))
      go true e ih = rw e ((tt, (k t, (addition-based t, tt))), ih)
      go false e ih = rw e ih

  -- the formula of a loop has bases of at least 1
  pub loop_bound-based : (s : Setting) (time : ℕ → Option Bound) → ((t : ℕ) → IsBased (known (time t)))
      → (ts : List ℕ) → IsBased (loop_bound s fs time ts)
  loop_bound-based s time k ts =
      (tt, growth_parts-based time k ts _ (tt, ((tt, offsets-based is_outer fs h), addition_parts-based s time k ts)))
