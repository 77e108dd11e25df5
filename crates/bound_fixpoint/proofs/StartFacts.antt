-- The facts of the virtual entry are the bounds known initially.
use Rattle.std.proofs.Common.{◌≡◌, ℕ, zero, suc, ◌-◌, ◌<◌, ◌≤◌, ◌==◌, true, false, List, [], ◌∷◌}
use Rattle.std.proofs.Common.{Some, refl, sym, ◌∙◌, ap, subst, arith}
use Rattle.std.specs.Prelude.{nat_lt}
use Rattle.std.specs.List.{Contains, range_with_len}
use Rattle.std.proofs.lemmas.Bool.{or_left, or_right}
use Rattle.std.proofs.lemmas.Bool.Decides.{nat_tests}
use Rattle.std.proofs.lemmas.List.Elements.{All-nil, All-cons}
use Rattle.std.proofs.lemmas.List.FromFn.{length-range_with_len, get_or-range_with_len}
use Rattle.rule_questions.specs.model.Programs.{Program, arity_of}
use Rattle.rule_questions.specs.model.Bounds.{Bound, Constant, Input}
use Rattle.rule_questions.specs.model.Facts.{Size, Time}
use Rattle.rule_questions.specs.model.Entries.{is_in}
use Rattle.rule_questions.proofs.model.Membership.{same_number, is_in-cases, no_is_not_yes, contains-is_in}
use Rattle.rule_questions.specs.cert_rules.AcceptsPlain.{places_at, start_sizes, start_facts}
use Rattle.bound_fixpoint.specs.Keys.{Bounds, place_fact, size_by, start_size, start_bounds}
use Rattle.bound_fixpoint.proofs.Cases.{either, by_cases, none_some, some_same}
use Rattle.bound_fixpoint.proofs.ListMembers.{contains-first, contains-later}
use Rattle.bound_fixpoint.proofs.RuleNumbers.{in_range}
use Rattle.bound_fixpoint.specs.Stated.{IsFactOf, AreFactsOf}

-- the bounds known initially are among these bounds
pub record HaveStart (p : Program) (b : Bounds) : Type 0 where
  pub each : (t i : ℕ) (c : Bound) → start_bounds p t i ≡ Some c → b t i ≡ Some c

-- the size of a place that is listed is among the sizes of the start arguments
size_among : (is : List ℕ) (i : ℕ) → is_in i is ≡ true → Contains (start_sizes is) (Size 0 i (Input (i - 1)))
size_among [] i m = absurd (no_is_not_yes false refl m)
size_among (k ∷ is) i m =
    either (is_in-cases i k is m)
    (λ e. subst (λ (n : ℕ). Contains (start_sizes (k ∷ is)) (Size 0 n (Input (n - 1)))) (sym e)
    (contains-first (Size 0 k (Input (k - 1))) (start_sizes is)))
    (λ later. contains-later (Size 0 i (Input (i - 1))) (Size 0 k (Input (k - 1))) (start_sizes is)
    (size_among is i later))

-- a bound known initially is a fact of the virtual entry
start_place_stated : (p : Program) (i : ℕ) (c : Bound) → start_size (arity_of p p.start) i ≡ Some c
    → Contains (start_facts p) (place_fact 0 i c)
start_place_stated p zero c e =
    subst (λ (x : Bound). Contains (start_facts p) (Time 0 x)) (some_same (Constant 1) c e)
    (contains-first (Time 0 (Constant 1)) (start_sizes (places_at p (Some p.start))))
start_place_stated p (suc j) c e = by_cases (nat_lt j (arity_of p p.start)) below (λ n. absurd (none_some c (rw n at e)))
  where
    below : nat_lt j (arity_of p p.start) ≡ true → Contains (start_facts p) (Size 0 (suc j) c)
    below m =
        let low : j < arity_of p p.start = grind (arith, nat_tests) in
        let same : Some (Input j) ≡ Some c = rw m at e in
        let number : suc j - 1 ≡ j = omega arith in
        subst (λ (x : Bound). Contains (start_facts p) (Size 0 (suc j) x))
        (ap (λ (n : ℕ). Input n) number ∙ some_same (Input j) c same)
        (contains-later (Size 0 (suc j) (Input (suc j - 1))) (Time 0 (Constant 1))
        (start_sizes (places_at p (Some p.start)))
        (size_among (places_at p (Some p.start)) (suc j)
        (in_range (arity_of p p.start) (suc j) (omega arith) (omega (arith, low)))))

-- a bound known initially is one of the virtual entry
pub start_stated : (p : Program) (t i : ℕ) (c : Bound) → start_bounds p t i ≡ Some c
    → (t ≡ 0) × Contains (start_facts p) (place_fact t i c)
start_stated p zero i c e = (refl, start_place_stated p i c e)
start_stated p (suc t) i c e = absurd (none_some c e)

-- the sizes of listed places are those that are known
sizes_known : (b : Bounds) (is : List ℕ) → ((i : ℕ) → is_in i is ≡ true → size_by b 0 i ≡ Some (Input (i - 1)))
    → AreFactsOf b (start_sizes is)
sizes_known b [] h = All-nil (IsFactOf b)
sizes_known b (i ∷ is) h =
    All-cons (IsFactOf b) (Size 0 i (Input (i - 1))) (start_sizes is)
    (h i (or_left (i == i) (is_in i is) (same_number i)))
    (sizes_known b is (λ k m. h k (or_right (k == i) (is_in k is) m)))

-- the facts of the virtual entry are known initially
pub start_known : (p : Program) (b : Bounds) → HaveStart p b → AreFactsOf b (start_facts p)
start_known p b start =
    All-cons (IsFactOf b) (Time 0 (Constant 1)) (start_sizes (places_at p (Some p.start)))
    (start.each 0 0 (Constant 1) refl) (sizes_known b (places_at p (Some p.start)) each)
  where
    number : (i : ℕ) → is_in i (range_with_len 1 (arity_of p p.start)) ≡ true → (1 ≤ i) × (i ≤ arity_of p p.start)
    number i m = go (contains-is_in (range_with_len 1 (arity_of p p.start)) i m)
      where
        go : Contains (range_with_len 1 (arity_of p p.start)) i → (1 ≤ i) × (i ≤ arity_of p p.start)
        go (k, low, e) =
            let below : k < arity_of p p.start = omega
            (arith, low, length-range_with_len 1 (arity_of p p.start)) in
            let same = get_or-range_with_len 1 (arity_of p p.start) k i below in
            (omega (arith, e, same), omega (arith, e, same, below))

    at : (i : ℕ) → (1 ≤ i) × (i ≤ arity_of p p.start) → size_by b 0 i ≡ Some (Input (i - 1))
    at zero (low, high) = absurd (omega (arith, low))
    at (suc j) (low, high) =
        let below : nat_lt j (arity_of p p.start) ≡ true = grind (arith, nat_tests) in
        let same : j ≡ suc j - 1 = omega arith in
        start.each 0 (suc j) (Input (suc j - 1)) (rw below (ap (λ (n : ℕ). Some (Input n)) same))

    each : (i : ℕ) → is_in i (places_at p (Some p.start)) ≡ true → size_by b 0 i ≡ Some (Input (i - 1))
    each i m = at i (number i m)
