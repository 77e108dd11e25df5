-- The rules of ascending members, each listed once, are the rules of the members.
use Rattle.std.proofs.Common.{◌≡◌, ◌≢◌, ◌⊎◌, inl, inr, ℕ, zero, suc, ◌+◌, ◌≤◌, ◌==◌, ◌||◌, Bool, true, false, List, []}
use Rattle.std.proofs.Common.{◌∷◌, length, filter, Some, None, refl, sym, ap, ◌∙◌, subst, arith}
use Rattle.std.specs.List.{AllByRecursion, list_any, range_with_len}
use Rattle.std.proofs.lemmas.Bool.{or_left, or_right}
use Rattle.std.proofs.lemmas.Bool.Decides.{eqb_tells}
use Rattle.std.proofs.lemmas.List.Elements.{recursion_from_All}
use Rattle.model.specs.Programs.{Program, rule_at}
use Rattle.model.specs.Entries.{is_in}
use Rattle.model.specs.Paths.{entry_and_rules}
use Rattle.model.proofs.Membership.{same_number-sound, no_is_not_yes, is_in-cases, is_in-filter, filter-in, rule_is_numbered}
use Rattle.cert_types.specs.cert_rules.Nodes.{Member}
use Rattle.cert_types.specs.cert_rules.AcceptsSizes.{ComesBefore, AreAscending, HasMemberShape, HasCycleShape}
use Rattle.cert_types.specs.cert_rules.ComposedSizes.{rules_of}
use Rattle.cert_types.specs.cert_program.Setting.{setting_of}
use Rattle.size_nodes.specs.Flows.{rules_after}

-- ascending numbers, the first of which is at least b
abbrev Rises : ℕ → List ℕ → Type 0
Rises b [] = Unit {0}
Rises b (x ∷ xs) = (b ≤ x) × Rises (suc x) xs

-- numbers that ascend from b on ascend from any lesser number on
rises-from : (a b : ℕ) (xs : List ℕ) → a ≤ b → Rises b xs → Rises a xs
rises-from a b [] l h = tt
rises-from a b (x ∷ xs) l h = (omega (arith, l, h.0), h.1)

-- no number of the list is below b
not_below : (b : ℕ) (xs : List ℕ) → Rises b xs → (z : ℕ) → is_in z xs ≡ true → b ≤ z
not_below b [] h z k = absurd (no_is_not_yes false refl k)
not_below b (x ∷ xs) h z k = go (is_in-cases z x xs k) (λ l. not_below (suc x) xs h.1 z l)
  where
    go : (z ≡ x) ⊎ (is_in z xs ≡ true) → (is_in z xs ≡ true → suc x ≤ z) → b ≤ z
    go (inl e) later = omega (arith, h.0, e)
    go (inr l) later = omega (arith, h.0, later l)

-- a number in a list is its first, or in the rest
first-in : (x : ℕ) (xs : List ℕ) → is_in x (x ∷ xs) ≡ true
first-in x xs = go (eqb_tells x x)
  where
    go : ((x == x) ≡ true) × (x ≡ x) ⊎ ((x == x) ≡ false) × (x ≢ x) → is_in x (x ∷ xs) ≡ true
    go (inl k) = or_left (x == x) (is_in x xs) k.0
    go (inr k) = absurd (k.1 refl)

later-in : (z x : ℕ) (xs : List ℕ) → is_in z xs ≡ true → is_in z (x ∷ xs) ≡ true
later-in z x xs h = or_right (z == x) (is_in z xs) h

-- ascending lists with the same elements are equal
rises-same : (a b : ℕ) (xs ys : List ℕ) → Rises a xs → Rises b ys → ((z : ℕ) → is_in z xs ≡ true → is_in z ys ≡ true)
    → ((z : ℕ) → is_in z ys ≡ true → is_in z xs ≡ true) → xs ≡ ys
rises-same a b [] [] hx hy f g = refl
rises-same a b [] (y ∷ ys) hx hy f g = absurd (no_is_not_yes false refl (g y (first-in y ys)))
rises-same a b (x ∷ xs) [] hx hy f g = absurd (no_is_not_yes false refl (f x (first-in x xs)))
rises-same a b (x ∷ xs) (y ∷ ys) hx hy f g =
    joined first (rises-same (suc x) (suc y) xs ys hx.1 hy.1 onward back)
  where
    first : x ≡ y
    first = go (is_in-cases x y ys (f x (first-in x xs))) (is_in-cases y x xs (g y (first-in y ys)))
      where
        go : (x ≡ y) ⊎ (is_in x ys ≡ true) → (y ≡ x) ⊎ (is_in y xs ≡ true) → x ≡ y
        go (inl e) k = e
        go (inr h) (inl e) = sym e
        go (inr h) (inr k) = absurd (omega (arith, not_below (suc y) ys hy.1 x h, not_below (suc x) xs hx.1 y k))

    joined : x ≡ y → xs ≡ ys → x ∷ xs ≡ y ∷ ys
    joined e h = ap (λ (z : ℕ). z ∷ xs) e ∙ ap (λ (zs : List ℕ). y ∷ zs) h

    onward : (z : ℕ) → is_in z xs ≡ true → is_in z ys ≡ true
    onward z h = go (is_in-cases z y ys (f z (later-in z x xs h)))
      where
        go : (z ≡ y) ⊎ (is_in z ys ≡ true) → is_in z ys ≡ true
        go (inl e) = absurd (omega (arith, not_below (suc x) xs hx.1 z h, first, e))
        go (inr k) = k

    back : (z : ℕ) → is_in z ys ≡ true → is_in z xs ≡ true
    back z h = go (is_in-cases z x xs (g z (later-in z y ys h)))
      where
        go : (z ≡ x) ⊎ (is_in z xs ≡ true) → is_in z xs ≡ true
        go (inl e) = absurd (omega (arith, not_below (suc y) ys hy.1 z h, first, e))
        go (inr k) = k

-- numbers filtered from a range ascend
filter-rises : (test : ℕ → Bool) (n a : ℕ) → Rises a (filter test (range_with_len a n))
filter-rises test zero a = tt
filter-rises test (suc n) a = go (test a) refl (filter-rises test n (a + 1))
  where
    go : (v : Bool) → test a ≡ v → Rises (a + 1) (filter test (range_with_len (a + 1) n))
        → Rises a (filter test (range_with_len a (suc n)))
    go true e h = rw e (omega arith, subst (λ k. Rises k (filter test (range_with_len (a + 1) n))) (let q : a + 1 ≡ suc a = omega arith in q) h)
    go false e h = rw e (rises-from a (a + 1) _ (omega arith) h)

-- the members ascend, and their rules are no less than a number
abbrev Ascend : ℕ → List Member → Type 0
Ascend t [] = Unit {0}
Ascend t (m ∷ ms) = (t ≤ m.result_variable.rule) × Ascend m.result_variable.rule ms

ascend : (m : Member) (ms : List Member) → AreAscending (m ∷ ms) → Ascend m.result_variable.rule ms
ascend m [] h = tt
ascend m (n ∷ ms) h = (go h.0, ascend n ms h.1)
  where
    go : ComesBefore m.result_variable n.result_variable → m.result_variable.rule ≤ n.result_variable.rule
    go (inl k) = omega (arith, k)
    go (inr k) = omega (arith, k.0)

-- the rules of ascending members, each listed once, ascend
rules-rise : (t : ℕ) (ms : List Member) → Ascend t ms → Rises (suc t) (rules_after t ms)
rules-rise t [] h = tt
rules-rise t (m ∷ ms) h = go (eqb_tells m.result_variable.rule t) (rules-rise m.result_variable.rule ms h.1)
  where
    go : ((m.result_variable.rule == t) ≡ true) × (m.result_variable.rule ≡ t) ⊎ ((m.result_variable.rule == t) ≡ false) × (m.result_variable.rule ≢ t)
        → Rises (suc m.result_variable.rule) (rules_after m.result_variable.rule ms) → Rises (suc t) (rules_after t (m ∷ ms))
    go (inl k) later = rw k.0 (subst (λ u. Rises (suc u) (rules_after u ms)) k.1 later)
    go (inr k) later = rw k.0 (omega (arith, h.0, k.1), later)

-- a rule that is listed is that of a member
listed-rule : (t : ℕ) (ms : List Member) (z : ℕ) → is_in z (rules_after t ms) ≡ true
    → list_any (λ m. m.result_variable.rule == z) ms ≡ true
listed-rule t [] z h = absurd (no_is_not_yes false refl h)
listed-rule t (m ∷ ms) z h = go (m.result_variable.rule == t) refl h (listed-rule t ms z) (listed-rule m.result_variable.rule ms z)
  where
    here : z ≡ m.result_variable.rule → list_any (λ n. n.result_variable.rule == z) (m ∷ ms) ≡ true
    here e = or_left (m.result_variable.rule == z) (list_any (λ n. n.result_variable.rule == z) ms) (same m.result_variable.rule z (sym e))
      where
        same : (x y : ℕ) → x ≡ y → (x == y) ≡ true
        same x y e = by (eqb_tells x y)
          where
            by : ((x == y) ≡ true) × (x ≡ y) ⊎ ((x == y) ≡ false) × (x ≢ y) → (x == y) ≡ true
            by (inl k) = k.0
            by (inr k) = absurd (k.1 e)

    later : list_any (λ n. n.result_variable.rule == z) ms ≡ true → list_any (λ n. n.result_variable.rule == z) (m ∷ ms) ≡ true
    later k = or_right (m.result_variable.rule == z) (list_any (λ n. n.result_variable.rule == z) ms) k

    go : (v : Bool) → (m.result_variable.rule == t) ≡ v → is_in z (rules_after t (m ∷ ms)) ≡ true
        → (is_in z (rules_after t ms) ≡ true → list_any (λ n. n.result_variable.rule == z) ms ≡ true)
        → (is_in z (rules_after m.result_variable.rule ms) ≡ true → list_any (λ n. n.result_variable.rule == z) ms ≡ true)
        → list_any (λ n. n.result_variable.rule == z) (m ∷ ms) ≡ true
    go true e k f g = later (f (rw e at k))
    go false e k f g = by (is_in-cases z m.result_variable.rule (rules_after m.result_variable.rule ms) (rw e at k))
      where
        by : (z ≡ m.result_variable.rule) ⊎ (is_in z (rules_after m.result_variable.rule ms) ≡ true)
            → list_any (λ n. n.result_variable.rule == z) (m ∷ ms) ≡ true
        by (inl e) = here e
        by (inr l) = later (g l)

-- the rule of a member is listed, or is the one that is left out
rule-listed : (t : ℕ) (ms : List Member) (z : ℕ) → list_any (λ m. m.result_variable.rule == z) ms ≡ true
    → (z ≡ t) ⊎ (is_in z (rules_after t ms) ≡ true)
rule-listed t [] z h = absurd (no_is_not_yes false refl h)
rule-listed t (m ∷ ms) z h =
    go (m.result_variable.rule == t) refl (m.result_variable.rule == z) refl h (rule-listed t ms z) (rule-listed m.result_variable.rule ms z)
  where
    go : (v : Bool) → (m.result_variable.rule == t) ≡ v → (w : Bool) → (m.result_variable.rule == z) ≡ w
        → list_any (λ n. n.result_variable.rule == z) (m ∷ ms) ≡ true
        → (list_any (λ n. n.result_variable.rule == z) ms ≡ true → (z ≡ t) ⊎ (is_in z (rules_after t ms) ≡ true))
        → (list_any (λ n. n.result_variable.rule == z) ms ≡ true
        → (z ≡ m.result_variable.rule) ⊎ (is_in z (rules_after m.result_variable.rule ms) ≡ true))
        → (z ≡ t) ⊎ (is_in z (rules_after t (m ∷ ms)) ≡ true)
    go true e true f k g l = inl (sym (same_number-sound m.result_variable.rule z f) ∙ same_number-sound m.result_variable.rule t e)
    go true e false f k g l = rw e (g (rw f at k))
    go false e true f k g l =
        inr (rw e (subst (λ (u : ℕ). is_in u (m.result_variable.rule ∷ rules_after m.result_variable.rule ms) ≡ true) (same_number-sound m.result_variable.rule z f)
        (first-in m.result_variable.rule (rules_after m.result_variable.rule ms))))
    go false e false f k g l = by (l (rw f at k))
      where
        by : (z ≡ m.result_variable.rule) ⊎ (is_in z (rules_after m.result_variable.rule ms) ≡ true)
            → (z ≡ t) ⊎ (is_in z (rules_after t (m ∷ ms)) ≡ true)
        by (inl q) = inr (rw e (subst (λ (u : ℕ). is_in u (m.result_variable.rule ∷ rules_after m.result_variable.rule ms) ≡ true) (sym q)
            (first-in m.result_variable.rule (rules_after m.result_variable.rule ms))))
        by (inr q) = inr (rw e (later-in z m.result_variable.rule (rules_after m.result_variable.rule ms) q))

module _ (p : Program) where
  -- the rule of a member is a rule of the program
  rule-there : (m : Member) → HasMemberShape (setting_of p) m
      → (1 ≤ m.result_variable.rule) × (is_in m.result_variable.rule (entry_and_rules p) ≡ true)
  rule-there m h = (
    go m.result_variable.rule h.at.numbered,
    rule_is_numbered p m.result_variable.rule h.at.rule h.at.numbered,
  )
    where
      go : (t : ℕ) → rule_at p t ≡ Some h.at.rule → 1 ≤ t
      go zero e = absurd (none e)
        where
          none : None ≡ Some h.at.rule → ⊥
          none k = cc
      go (suc t) e = omega arith

  member-there : (ms : List Member) → AllByRecursion (HasMemberShape (setting_of p)) ms → (z : ℕ)
      → list_any (λ m. m.result_variable.rule == z) ms ≡ true → (1 ≤ z) × (is_in z (entry_and_rules p) ≡ true)
  member-there [] h z k = absurd (no_is_not_yes false refl k)
  member-there (m ∷ ms) h z k = go (m.result_variable.rule == z) refl k (member-there ms h.1 z)
    where
      go : (v : Bool) → (m.result_variable.rule == z) ≡ v → (v || list_any (λ n. n.result_variable.rule == z) ms) ≡ true
          → (list_any (λ n. n.result_variable.rule == z) ms ≡ true → (1 ≤ z) × (is_in z (entry_and_rules p) ≡ true))
          → (1 ≤ z) × (is_in z (entry_and_rules p) ≡ true)
      go true e l later = subst (λ u. (1 ≤ u) × (is_in u (entry_and_rules p) ≡ true)) (same_number-sound m.result_variable.rule z e) (rule-there m h.0)
      go false e l later = later l

  -- the rules of members that ascend, each once, are the rules of the members
  pub rules-are : (ms : List Member) → HasCycleShape (setting_of p) ms → rules_after 0 ms ≡ rules_of (setting_of p) ms
  rules-are ms h =
      rises-same 1 0 (rules_after 0 ms) (rules_of (setting_of p) ms) (rules-rise 0 ms (from-zero ms h.ascending))
      (filter-rises (λ t. list_any (λ m. m.result_variable.rule == t) ms) (suc (length p.rules)) 0)
      (λ z k. let l = listed-rule 0 ms z k in
      is_in-filter (λ t. list_any (λ m. m.result_variable.rule == t) ms) (entry_and_rules p) z (member-there ms all z l).1 l)
      (λ z k. let l = filter-in (λ t. list_any (λ m. m.result_variable.rule == t) ms) (entry_and_rules p) z k in
      go z (member-there ms all z l.1).0 (rule-listed 0 ms z l.1))
    where
      all : AllByRecursion (HasMemberShape (setting_of p)) ms
      all = recursion_from_All (HasMemberShape (setting_of p)) ms h.each

      from-zero : (ns : List Member) → AreAscending ns → Ascend 0 ns
      from-zero [] k = tt
      from-zero (m ∷ ns) k = (omega arith, ascend m ns k)

      go : (z : ℕ) → 1 ≤ z → (z ≡ 0) ⊎ (is_in z (rules_after 0 ms) ≡ true) → is_in z (rules_after 0 ms) ≡ true
      go z l (inl e) = absurd (omega (arith, l, e))
      go z l (inr k) = k
