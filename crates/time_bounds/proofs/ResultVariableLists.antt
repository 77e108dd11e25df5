-- Lists of places after rules that ascend, and their members.
use Rattle.std.proofs.Common.{◌≡◌, ◌⊎◌, inl, inr, ℕ, zero, suc, ◌+◌, ◌<◌, ◌≤◌, ◌==◌, ◌&&◌, ◌||◌, Bool, true, false}
use Rattle.std.proofs.Common.{List}
use Rattle.std.proofs.Common.{[], ◌∷◌, ◌++◌, length, map, refl, sym, ◌∙◌, ap, subst, arith, Contains, get_or}
use Rattle.std.specs.List.Sorted.{IsStrictlyIncreasing}
use Rattle.std.proofs.lemmas.Bool.{and_parts, and_from, or_left, or_right}
use Rattle.std.proofs.lemmas.List.{get_or-map}
use Rattle.std.proofs.lemmas.List.Elements.{All-contains_itself}
use Rattle.model.proofs.Membership.{same_number, same_number-sound, no_is_not_yes}
use Rattle.cert_types.specs.cert_rules.Nodes.{ResultVariable}
use Rattle.rvg_components.specs.Listing.{result_variable_at}
use Rattle.bound_fixpoint.specs.Keys.{has_key}
use Rattle.cert_types.specs.cert_rules.AcceptsSizes.{ComesBefore}
use Rattle.bound_fixpoint.specs.Components.{AreResultVariablesAscending}
use Rattle.bound_fixpoint.specs.Keys.{key as result_variable}

-- a place comes before each of these
abbrev pub IsBeforeAll : ResultVariable → List ResultVariable → Type 0
IsBeforeAll m [] = Unit {0}
IsBeforeAll m (n ∷ ns) = ComesBefore m n × IsBeforeAll m ns

-- each place comes before all those after it
abbrev pub Ascend : List ResultVariable → Type 0
Ascend [] = Unit {0}
Ascend (m ∷ ms) = IsBeforeAll m ms × Ascend ms

-- each place of the first list comes before all of the second
abbrev pub AreAllBefore : List ResultVariable → List ResultVariable → Type 0
AreAllBefore [] ys = Unit {0}
AreAllBefore (x ∷ xs) ys = IsBeforeAll x ys × AreAllBefore xs ys

before-append : (m : ResultVariable) (xs ys : List ResultVariable) → IsBeforeAll m xs → IsBeforeAll m ys → IsBeforeAll m (xs ++ ys)
before-append m [] ys h k = k
before-append m (x ∷ xs) ys h k = (h.0, before-append m xs ys h.1 k)

-- two lists that ascend, one before the other, ascend together
pub ascend-append : (xs ys : List ResultVariable) → Ascend xs → Ascend ys → AreAllBefore xs ys → Ascend (xs ++ ys)
ascend-append [] ys h k l = k
ascend-append (x ∷ xs) ys h k l = (before-append x xs ys h.0 l.0, ascend-append xs ys h.1 k l.1)

before-at : (m : ResultVariable) (ms : List ResultVariable) → IsBeforeAll m ms → (b : ℕ) → b < length ms → ComesBefore m (result_variable_at ms b)
before-at m [] h b l = absurd (omega (arith, l))
before-at m (n ∷ ms) h zero l = h.0
before-at m (n ∷ ms) h (suc b) l = before-at m ms h.1 b (omega (arith, l))

-- the element at a lesser position comes before
pub ascend-at : (ms : List ResultVariable) → Ascend ms → (a b : ℕ) → a < b → b < length ms
    → ComesBefore (result_variable_at ms a) (result_variable_at ms b)
ascend-at [] h a b l k = absurd (omega (arith, k))
ascend-at (m ∷ ms) h a zero l k = absurd (omega (arith, l))
ascend-at (m ∷ ms) h zero (suc b) l k = before-at m ms h.0 b (omega (arith, k))
ascend-at (m ∷ ms) h (suc a) (suc b) l k = ascend-at ms h.1 a b (omega (arith, l)) (omega (arith, k))

not_itself : (m : ResultVariable) → ComesBefore m m → ⊥
not_itself m (inl l) = omega (arith, l)
not_itself m (inr l) = omega (arith, l.1)

-- the position of each element is unique
pub at-one : (ms : List ResultVariable) → Ascend ms → (a b : ℕ) → a < length ms → b < length ms → result_variable_at ms a ≡ result_variable_at ms b
    → a ≡ b
at-one ms up a b la lb e = go (order a b) (order b a)
  where
    order : (m n : ℕ) → (m < n) ⊎ (n ≤ m)
    order m n = grind arith

    go : (a < b) ⊎ (b ≤ a) → (b < a) ⊎ (a ≤ b) → a ≡ b
    go (inl l) k =
        absurd (not_itself (result_variable_at ms b) (subst (λ (x : ResultVariable). ComesBefore x (result_variable_at ms b)) e (ascend-at ms up a b l lb)))
    go (inr l) (inl k) =
        absurd (not_itself (result_variable_at ms b) (subst (λ (x : ResultVariable). ComesBefore (result_variable_at ms b) x) e (ascend-at ms up b a k la)))
    go (inr l) (inr k) = omega (arith, l, k)

-- the test that two places are the same
abbrev is_result_variable : ResultVariable → ℕ → ℕ → Bool
is_result_variable m t i = (m.rule == t) && (m.place == i)

result_variable-sound : (m : ResultVariable) (t i : ℕ) → is_result_variable m t i ≡ true → m ≡ result_variable t i
result_variable-sound m t i h =
    let both = and_parts (m.rule == t) (m.place == i) h in
    together (same_number-sound m.rule t both.0) (same_number-sound m.place i both.1)
  where
    together : m.rule ≡ t → m.place ≡ i → m ≡ result_variable t i
    together a b = λ j. record { rule = a j; place = b j }

result_variable-complete : (m : ResultVariable) (t i : ℕ) → m ≡ result_variable t i → is_result_variable m t i ≡ true
result_variable-complete m t i e =
    subst (λ (n : ResultVariable). is_result_variable n t i ≡ true) (sym e) (and_from (t == t) (i == i) (same_number t) (same_number i))

-- a member has a position
pub member-at : (ms : List ResultVariable) (t i : ℕ) → has_key ms t i ≡ true
    → (k : ℕ) × (k < length ms) × (result_variable_at ms k ≡ result_variable t i)
member-at [] t i h = absurd (no_is_not_yes false refl h)
member-at (m ∷ ms) t i h = go (is_result_variable m t i) refl h (member-at ms t i)
  where
    go : (v : Bool) → is_result_variable m t i ≡ v → (v || has_key ms t i) ≡ true
        → (has_key ms t i ≡ true → (k : ℕ) × (k < length ms) × (result_variable_at ms k ≡ result_variable t i))
        → (k : ℕ) × (k < length (m ∷ ms)) × (result_variable_at (m ∷ ms) k ≡ result_variable t i)
    go true e k later = (zero, omega arith, result_variable-sound m t i e)
    go false e k later = let x = later k in (suc x.0, omega (arith, x.1), x.2)

-- the element at a position is a member
pub at-member : (ms : List ResultVariable) (k t i : ℕ) → k < length ms → result_variable_at ms k ≡ result_variable t i → has_key ms t i ≡ true
at-member [] k t i l e = absurd (omega (arith, l))
at-member (m ∷ ms) zero t i l e = or_left (is_result_variable m t i) (has_key ms t i) (result_variable-complete m t i e)
at-member (m ∷ ms) (suc k) t i l e =
    or_right (is_result_variable m t i) (has_key ms t i) (at-member ms k t i (omega (arith, l)) e)

-- a member of two appended lists is one of the first or of the second
pub member-append : (xs ys : List ResultVariable) (t i : ℕ) → has_key (xs ++ ys) t i ≡ true
    → (has_key xs t i ≡ true) ⊎ (has_key ys t i ≡ true)
member-append [] ys t i h = inr h
member-append (x ∷ xs) ys t i h = go (is_result_variable x t i) refl h (member-append xs ys t i)
  where
    go : (v : Bool) → is_result_variable x t i ≡ v → (v || has_key (xs ++ ys) t i) ≡ true
        → (has_key (xs ++ ys) t i ≡ true → (has_key xs t i ≡ true) ⊎ (has_key ys t i ≡ true))
        → (has_key (x ∷ xs) t i ≡ true) ⊎ (has_key ys t i ≡ true)
    go true e k later = inl (or_left (is_result_variable x t i) (has_key xs t i) e)
    go false e k later = by (later k)
      where
        by : (has_key xs t i ≡ true) ⊎ (has_key ys t i ≡ true) → (has_key (x ∷ xs) t i ≡ true) ⊎ (has_key ys t i ≡ true)
        by (inl m) = inl (or_right (is_result_variable x t i) (has_key xs t i) m)
        by (inr m) = inr m

-- a member of the first of two lists is one of the appended lists
pub append-left : (xs ys : List ResultVariable) (t i : ℕ) → has_key xs t i ≡ true → has_key (xs ++ ys) t i ≡ true
append-left [] ys t i h = absurd (no_is_not_yes false refl h)
append-left (x ∷ xs) ys t i h = go (is_result_variable x t i) refl h (append-left xs ys t i)
  where
    go : (v : Bool) → is_result_variable x t i ≡ v → (v || has_key xs t i) ≡ true
        → (has_key xs t i ≡ true → has_key (xs ++ ys) t i ≡ true) → has_key ((x ∷ xs) ++ ys) t i ≡ true
    go true e k later = or_left (is_result_variable x t i) (has_key (xs ++ ys) t i) e
    go false e k later = or_right (is_result_variable x t i) (has_key (xs ++ ys) t i) (later k)

-- a member of the second of two lists is one of the appended lists
pub append-right : (xs ys : List ResultVariable) (t i : ℕ) → has_key ys t i ≡ true → has_key (xs ++ ys) t i ≡ true
append-right [] ys t i h = h
append-right (x ∷ xs) ys t i h = or_right (is_result_variable x t i) (has_key (xs ++ ys) t i) (append-right xs ys t i h)

-- if positions ascend, the elements at these positions do
module _ (result_variables : List ResultVariable) where
  ascending-by : (ms : List ResultVariable) → ((k : ℕ) → suc k < length ms → ComesBefore (result_variable_at ms k) (result_variable_at ms (suc k)))
      → AreResultVariablesAscending ms
  ascending-by [] h = tt
  ascending-by (m ∷ []) h = tt
  ascending-by (m ∷ n ∷ ms) h = (h 0 (omega arith), ascending-by (n ∷ ms) (λ k l. h (suc k) (omega (arith, l))))

  -- the place at a position of positions
  pub chosen : (ps : List ℕ) (k : ℕ) → k < length ps → result_variable_at (map (result_variable_at result_variables) ps) k ≡ result_variable_at result_variables (get_or ps k 0)
  chosen ps k l = get_or-map (result_variable_at result_variables) ps k 0 (result_variable 0 0) l

  -- if places ascend, those at increasing positions do
  pub ascending-chosen : Ascend result_variables → (ps : List ℕ) → IsStrictlyIncreasing ps
      → ((b : ℕ) → Contains ps b → b < length result_variables) → AreResultVariablesAscending (map (result_variable_at result_variables) ps)
  ascending-chosen up ps rises within = ascending-by (map (result_variable_at result_variables) ps) next
    where
      long : (xs : List ℕ) → length (map (result_variable_at result_variables) xs) ≡ length xs
      long [] = refl
      long (x ∷ xs) = let h = long xs in omega (arith, h)

      next : (k : ℕ) → suc k < length (map (result_variable_at result_variables) ps)
          → ComesBefore (result_variable_at (map (result_variable_at result_variables) ps) k) (result_variable_at (map (result_variable_at result_variables) ps) (suc k))
      next k l =
          let more : suc k < length ps = omega (arith, l, long ps) in
          let one : k + 1 ≡ suc k = omega arith in
          let rise : get_or ps k 0 < get_or ps (suc k) 0 =
          subst (λ (j : ℕ). get_or ps k 0 < get_or ps j 0) one (rises k (omega (arith, more))) in
          let there = ascend-at result_variables up (get_or ps k 0) (get_or ps (suc k) 0) rise
          (within (get_or ps (suc k) 0) (All-contains_itself ps (suc k) 0 more)) in
          subst (λ (x : ResultVariable). ComesBefore x (result_variable_at (map (result_variable_at result_variables) ps) (suc k)))
          (sym (chosen ps k (omega (arith, more))))
          (subst (λ (x : ResultVariable). ComesBefore (result_variable_at result_variables (get_or ps k 0)) x) (sym (chosen ps (suc k) more)) there)

  -- a member of the elements at these positions is at one of them
  pub chosen-sound : (ps : List ℕ) (t i : ℕ) → has_key (map (result_variable_at result_variables) ps) t i ≡ true
      → (k : ℕ) × Contains ps k × (result_variable_at result_variables k ≡ result_variable t i)
  chosen-sound [] t i h = absurd (no_is_not_yes false refl h)
  chosen-sound (p ∷ ps) t i h = go (is_result_variable (result_variable_at result_variables p) t i) refl h (chosen-sound ps t i)
    where
      go : (v : Bool) → is_result_variable (result_variable_at result_variables p) t i ≡ v → (v || has_key (map (result_variable_at result_variables) ps) t i) ≡ true
          → (has_key (map (result_variable_at result_variables) ps) t i ≡ true → (k : ℕ) × Contains ps k × (result_variable_at result_variables k ≡ result_variable t i))
          → (k : ℕ) × Contains (p ∷ ps) k × (result_variable_at result_variables k ≡ result_variable t i)
      go true e k later = (p, (zero, omega arith, refl), result_variable-sound (result_variable_at result_variables p) t i e)
      go false e k later = deeper (later k)
        where
          deeper : (j : ℕ) × Contains ps j × (result_variable_at result_variables j ≡ result_variable t i)
              → (j : ℕ) × Contains (p ∷ ps) j × (result_variable_at result_variables j ≡ result_variable t i)
          deeper (j, (n, l, same), m) = (j, (suc n, omega (arith, l), same), m)

  -- the element at one of these positions is a member of the elements at them
  pub chosen-complete : (ps : List ℕ) (k t i : ℕ) → Contains ps k → result_variable_at result_variables k ≡ result_variable t i
      → has_key (map (result_variable_at result_variables) ps) t i ≡ true
  chosen-complete [] k t i (n, l, same) e = absurd (omega (arith, l))
  chosen-complete (p ∷ ps) k t i (zero, l, same) e =
      or_left (is_result_variable (result_variable_at result_variables p) t i) (has_key (map (result_variable_at result_variables) ps) t i)
      (result_variable-complete (result_variable_at result_variables p) t i (ap (result_variable_at result_variables) same ∙ e))
  chosen-complete (p ∷ ps) k t i (suc n, l, same) e =
      or_right (is_result_variable (result_variable_at result_variables p) t i) (has_key (map (result_variable_at result_variables) ps) t i)
      (chosen-complete ps k t i (n, omega (arith, l), same) e)
