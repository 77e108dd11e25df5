-- Laws of membership in a list of numbers, in a filtered list, and among the numbers of a program's rules.
use Rattle.std.proofs.Common.{◌≡◌, ◌≢◌, ◌⊎◌, inl, inr, ℕ, zero, suc, ◌<◌, ◌==◌, Bool, true, false, List, [], ◌∷◌}
use Rattle.std.proofs.Common.{length, filter, Some, None, refl, sym, ap, ◌∙◌, subst, arith, slice_get}
use Rattle.std.specs.List.{list_any, range_with_len, Contains}
use Rattle.std.proofs.lemmas.List.FromFn.{length-range_with_len, get_or-range_with_len}
use Rattle.std.proofs.lemmas.Bool.{or_left, or_right, true≢false}
use Rattle.std.proofs.lemmas.Bool.Decides.{eqb_tells}
use Rattle.model.specs.Programs.{Program, Rule, rule_at}
use Rattle.model.specs.Entries.{is_in}
use Rattle.model.specs.Paths.{entry_and_rules}
pub use Rattle.std.proofs.lemmas.Bool.{both_ways as no_is_not_yes}

-- a number is equal to itself, by the test
pub same_number : (x : ℕ) → (x == x) ≡ true
same_number x = go (eqb_tells x x)
  where
    go : ((x == x) ≡ true) × (x ≡ x) ⊎ ((x == x) ≡ false) × (x ≢ x) → (x == x) ≡ true
    go (inl (test, e)) = test
    go (inr (test, other)) = absurd (other refl)

-- numbers that are equal by the test are equal
pub same_number-sound : (x y : ℕ) → (x == y) ≡ true → x ≡ y
same_number-sound x y h = go (eqb_tells x y)
  where
    go : ((x == y) ≡ true) × (x ≡ y) ⊎ ((x == y) ≡ false) × (x ≢ y) → x ≡ y
    go (inl (test, e)) = e
    go (inr (test, other)) = absurd (true≢false (sym h ∙ test))

-- a number in a list is the first one or in the rest
pub is_in-cases : (x y : ℕ) (ys : List ℕ) → is_in x (y ∷ ys) ≡ true → (x ≡ y) ⊎ (is_in x ys ≡ true)
is_in-cases x y ys h = go (eqb_tells x y)
  where
    go : ((x == y) ≡ true) × (x ≡ y) ⊎ ((x == y) ≡ false) × (x ≢ y) → (x ≡ y) ⊎ (is_in x ys ≡ true)
    go (inl (test, e)) = inl e
    go (inr (test, other)) = inr (rw test at h)

-- a number of a list that passes the test is in the filtered list
pub is_in-filter : (test : ℕ → Bool) (xs : List ℕ) (x : ℕ) → is_in x xs ≡ true → test x ≡ true
    → is_in x (filter test xs) ≡ true
is_in-filter test [] x h k = absurd (no_is_not_yes false refl h)
is_in-filter test (y ∷ ys) x h k = go (is_in-cases x y ys h) (λ m. is_in-filter test ys x m k)
  where
    kept : (v : Bool) → test y ≡ v → (is_in x ys ≡ true → is_in x (filter test ys) ≡ true) → is_in x ys ≡ true
        → is_in x (filter test (y ∷ ys)) ≡ true
    kept true e ih m = rw e (or_right (x == y) (is_in x (filter test ys)) (ih m))
    kept false e ih m = rw e (ih m)

    go : (x ≡ y) ⊎ (is_in x ys ≡ true) → (is_in x ys ≡ true → is_in x (filter test ys) ≡ true)
        → is_in x (filter test (y ∷ ys)) ≡ true
    go (inl e) ih = rw (ap test (sym e) ∙ k)
        (or_left (x == y) (is_in x (filter test ys)) (subst (λ (n : ℕ). (x == n) ≡ true) e (same_number x)))
    go (inr m) ih = kept (test y) refl ih m

-- a number in a filtered list is in the list and passes the test
pub filter-in : (test : ℕ → Bool) (xs : List ℕ) (x : ℕ) → is_in x (filter test xs) ≡ true
    → (is_in x xs ≡ true) × (test x ≡ true)
filter-in test [] x h = absurd (no_is_not_yes false refl h)
filter-in test (y ∷ ys) x h = go (test y) refl (λ m. filter-in test ys x m)
  where
    later : (is_in x (filter test ys) ≡ true → (is_in x ys ≡ true) × (test x ≡ true)) → is_in x (filter test ys) ≡ true
        → (is_in x (y ∷ ys) ≡ true) × (test x ≡ true)
    later ih m = let k = ih m in (or_right (x == y) (is_in x ys) k.0, k.1)

    go : (v : Bool) → test y ≡ v → (is_in x (filter test ys) ≡ true → (is_in x ys ≡ true) × (test x ≡ true))
        → (is_in x (y ∷ ys) ≡ true) × (test x ≡ true)
    go false e ih = later ih (rw e at h)
    go true e ih = by (is_in-cases x y (filter test ys) (rw e at h))
      where
        by : (x ≡ y) ⊎ (is_in x (filter test ys) ≡ true) → (is_in x (y ∷ ys) ≡ true) × (test x ≡ true)
        by (inl same) = (
          or_left (x == y) (is_in x ys) (subst (λ (n : ℕ). (x == n) ≡ true) same (same_number x)),
          ap test same ∙ e,
        )
        by (inr m) = later ih m

-- if a number of a list passes a test, some element passes it
pub list_any-from : (test : ℕ → Bool) (xs : List ℕ) (x : ℕ) → is_in x xs ≡ true → test x ≡ true
    → list_any test xs ≡ true
list_any-from test [] x h k = absurd (no_is_not_yes false refl h)
list_any-from test (y ∷ ys) x h k = go (is_in-cases x y ys h) (λ m. list_any-from test ys x m k)
  where
    go : (x ≡ y) ⊎ (is_in x ys ≡ true) → (is_in x ys ≡ true → list_any test ys ≡ true) → list_any test (y ∷ ys) ≡ true
    go (inl e) ih = or_left (test y) (list_any test ys) (ap test (sym e) ∙ k)
    go (inr m) ih = or_right (test y) (list_any test ys) (ih m)

-- if some element passes a test, there is a number in the list that passes it
pub list_any-sound : (test : ℕ → Bool) (xs : List ℕ) → list_any test xs ≡ true
    → (x : ℕ) × (is_in x xs ≡ true) × (test x ≡ true)
list_any-sound test [] h = absurd (no_is_not_yes false refl h)
list_any-sound test (y ∷ ys) h = go (test y) refl (list_any-sound test ys)
  where
    later : ((x : ℕ) × (is_in x ys ≡ true) × (test x ≡ true)) → (x : ℕ) × (is_in x (y ∷ ys) ≡ true) × (test x ≡ true)
    later (x, m, passes) = (x, or_right (x == y) (is_in x ys) m, passes)

    go : (v : Bool) → test y ≡ v → (list_any test ys ≡ true → (x : ℕ) × (is_in x ys ≡ true) × (test x ≡ true))
        → (x : ℕ) × (is_in x (y ∷ ys) ≡ true) × (test x ≡ true)
    go true e ih = (y, or_left (y == y) (is_in y ys) (same_number y), e)
    go false e ih = later (ih (rw e at h))

-- a number that passes the test of being in a list is contained in the list
pub contains-is_in : (xs : List ℕ) (x : ℕ) → is_in x xs ≡ true → Contains xs x
contains-is_in [] x h = absurd (no_is_not_yes false refl h)
contains-is_in (y ∷ ys) x h = go (is_in-cases x y ys h) (λ m. contains-is_in ys x m)
  where
    later : Contains ys x → Contains (y ∷ ys) x
    later (k, low, e) = (suc k, omega arith, e)

    go : (x ≡ y) ⊎ (is_in x ys ≡ true) → (is_in x ys ≡ true → Contains ys x) → Contains (y ∷ ys) x
    go (inl e) ih = (zero, omega arith, sym e)
    go (inr m) ih = later (ih m)

-- a number that a list contains passes the test of being in it
pub is_in-contained : (xs : List ℕ) (x : ℕ) → Contains xs x → is_in x xs ≡ true
is_in-contained [] x (k, low, e) = absurd (omega arith)
is_in-contained (y ∷ ys) x (zero, low, e) =
    or_left (x == y) (is_in x ys) (subst (λ (n : ℕ). (n == y) ≡ true) e (same_number y))
is_in-contained (y ∷ ys) x (suc k, low, e) =
    or_right (x == y) (is_in x ys) (is_in-contained ys x (k, omega arith, e))

-- a number below n is one of the first n numbers
pub is_in-numbers : (n x : ℕ) → x < n → is_in x (range_with_len 0 n) ≡ true
is_in-numbers n x h =
    is_in-contained (range_with_len 0 n) x
    (x, omega (arith, length-range_with_len 0 n), get_or-range_with_len 0 n x x h ∙ omega arith)

-- a position at which a list has an element is below its length
pub slice_get-below : {X : Type 0} (xs : List X) (i : ℕ) (x : X) → slice_get xs i ≡ Some x → i < length xs
slice_get-below [] i x h = absurd (none_some h)
  where
    none_some : None ≡ Some x → ⊥
    none_some e = cc
slice_get-below (y ∷ ys) zero x h = omega arith
slice_get-below (y ∷ ys) (suc i) x h = omega (arith, slice_get-below ys i x h)

-- the number of a rule is among the numbers of the entry and the rules
pub rule_is_numbered : (p : Program) (t : ℕ) (r : Rule) → rule_at p t ≡ Some r → is_in t (entry_and_rules p) ≡ true
rule_is_numbered p zero r h = absurd (none_some h)
  where
    none_some : None ≡ Some r → ⊥
    none_some e = cc
rule_is_numbered p (suc t) r h =
    is_in-numbers (suc (length p.rules)) (suc t) (omega (arith, slice_get-below p.rules t r h))

-- the number of the virtual entry is among the numbers of the entry and the rules
pub entry_is_numbered : (p : Program) → is_in 0 (entry_and_rules p) ≡ true
entry_is_numbered p = is_in-numbers (suc (length p.rules)) 0 (omega arith)
