-- The first element of a list that fails: it is computed if its reason is, so that there is at most one, and none
-- exactly if all pass.
use Rattle.std.proofs.Common.{◌≡◌, ◌↔◌, ℕ, suc, ◌+◌, List, [], ◌∷◌, ◌++◌, length, Option, Some, None, refl, sym, ◌∙◌}
use Rattle.std.proofs.Common.{ap, subst, arith}
use Rattle.std.specs.List.{AllByRecursion}
use Rattle.std.proofs.lemmas.List.{append_assoc}
use Rattle.std.proofs.lemmas.List.Elements.{All-nil, All-cons, recursion_from_All}
use Rattle.cert_rules.specs.Deciding.{Refused, At, first_refused, numbered}
use Rattle.cert_rules.specs.Refusals.{FailsFirst}

-- the first failure of a list, and that of a longer list
module _ {A R : Type 0} (Passes : A → Type 0) (Fails : A → R → Type 0) where
  -- the first failure of a list is one position further on after an element that passes
  pub first-behind : (x : A) (xs : List A) (n : ℕ) (r : R) → Passes x → FailsFirst Passes Fails xs n r
      → FailsFirst Passes Fails (x ∷ xs) (suc n) r
  first-behind x xs n r h k = record {
    before = x ∷ k.before;
    element = k.element;
    behind = k.behind;
    whole = ap (λ (ys : List A). x ∷ ys) k.whole;
    number = ap (λ (i : ℕ). suc i) k.number;
    passed = All-cons Passes x k.before h k.passed;
    fails = k.fails;
  }

  -- the first failure of a list is that many positions further on after elements that pass
  pub first-after : (xs ys : List A) (n : ℕ) (r : R) → AllByRecursion Passes xs → FailsFirst Passes Fails ys n r
      → FailsFirst Passes Fails (xs ++ ys) (length xs + n) r
  first-after [] ys n r h k =
      let count : n ≡ 0 + n = omega arith in subst (λ (m : ℕ). FailsFirst Passes Fails ys m r) count k
  first-after (x ∷ xs) ys n r h k =
      let count : suc (length xs + n) ≡ suc (length xs) + n = omega arith in
      subst (λ (m : ℕ). FailsFirst Passes Fails (x ∷ xs ++ ys) m r) count
      (first-behind x (xs ++ ys) (length xs + n) r h.0 (first-after xs ys n r h.1 k))

  -- the first failure of a list is that of the list with others after it
  pub first-before : (xs ys : List A) (n : ℕ) (r : R) → FailsFirst Passes Fails xs n r
      → FailsFirst Passes Fails (xs ++ ys) n r
  first-before xs ys n r k = record {
    before = k.before;
    element = k.element;
    behind = k.behind ++ ys;
    whole = ap (λ (zs : List A). zs ++ ys) k.whole ∙ append_assoc k.before (k.element ∷ k.behind) ys;
    number = k.number;
    passed = k.passed;
    fails = k.fails;
  }

  -- if the first element of a list fails, it is the first to fail
  pub first-here : (x : A) (xs : List A) (r : R) → Fails x r → FailsFirst Passes Fails (x ∷ xs) 1 r
  first-here x xs r f = record {
    before = [];
    element = x;
    behind = xs;
    whole = refl;
    number = refl;
    passed = All-nil Passes;
    fails = f;
  }

  -- a computed reason: there is none exactly for elements that pass, and it is this one exactly for those that fail for
  -- it
  module _ (why : A → Option R) (none : (x : A) → (why x ≡ None) ↔ Passes x)
      (some : (x : A) (r : R) → (why x ≡ Some r) ↔ Fails x r) where
    -- no element is computed exactly if all pass
    pub passed-none : (xs : List A) (n : ℕ) → AllByRecursion Passes xs → first_refused why n xs ≡ None
    passed-none [] n h = refl
    passed-none (x ∷ xs) n h =
        ap (λ (o : Option R). numbered n o (first_refused why (suc n) xs)) ((none x).1 h.0) ∙ passed-none xs (suc n) h.1

    pub none-passed : (xs : List A) (n : ℕ) → first_refused why n xs ≡ None → AllByRecursion Passes xs
    none-passed [] n e = tt
    none-passed (x ∷ xs) n e = go (why x) refl e (none-passed xs (suc n))
      where
        go : (o : Option R) → why x ≡ o → numbered n o (first_refused why (suc n) xs) ≡ None
            → (first_refused why (suc n) xs ≡ None → AllByRecursion Passes xs) → AllByRecursion Passes (x ∷ xs)
        go None w k later = ((none x).0 w, later k)
        go (Some r) w k later = absurd (some_none k)
          where
            some_none : Some (At n r) ≡ None → ⊥
            some_none l = cc

    -- an element that is computed is the first to fail
    computed-first : (xs : List A) (n m : ℕ) (r : R) → first_refused why (suc n) xs ≡ Some (At m r)
        → (k : ℕ) × (m ≡ n + k) × FailsFirst Passes Fails xs k r
    computed-first [] n m r e = absurd (none_some e)
      where
        none_some : None ≡ Some (At m r) → ⊥
        none_some l = cc
    computed-first (x ∷ xs) n m r e = go (why x) refl e (computed-first xs (suc n) m r)
      where
        go : (o : Option R) → why x ≡ o → numbered (suc n) o (first_refused why (suc (suc n)) xs) ≡ Some (At m r)
            → (first_refused why (suc (suc n)) xs ≡ Some (At m r)
            → (k : ℕ) × (m ≡ suc n + k) × FailsFirst Passes Fails xs k r)
            → (k : ℕ) × (m ≡ n + k) × FailsFirst Passes Fails (x ∷ xs) k r
        go None w k later =
            let l = later k in (suc l.0, omega (arith, l.1), first-behind x xs l.0 r ((none x).0 w) l.2)
        go (Some q) w k later =
            (1, omega (arith, number k), first-here x xs r ((some x r).0 (w ∙ ap Some (same k))))
          where
            number : Some (At (suc n) q) ≡ Some (At m r) → suc n ≡ m
            number l = cc

            same : Some (At (suc n) q) ≡ Some (At m r) → q ≡ r
            same l = cc

    pub computed-fails : (xs : List A) (n : ℕ) (r : R) → first_refused why 1 xs ≡ Some (At n r)
        → FailsFirst Passes Fails xs n r
    computed-fails xs n r e =
        let k = computed-first xs 0 n r e in
        subst (λ (m : ℕ). FailsFirst Passes Fails xs m r) (omega (arith, k.1)) k.2

    -- the first element that fails is computed
    computed-at : (before : List A) (x : A) (behind : List A) (n : ℕ) (r : R) → AllByRecursion Passes before → Fails x r
        → first_refused why n (before ++ x ∷ behind) ≡ Some (At (n + length before) r)
    computed-at [] x behind n r h f =
        ap (λ (o : Option R). numbered n o (first_refused why (suc n) behind)) ((some x r).1 f)
        ∙ ap (λ (m : ℕ). Some (At m r)) (omega arith)
    computed-at (y ∷ before) x behind n r h f =
        ap (λ (o : Option R). numbered n o (first_refused why (suc n) (before ++ x ∷ behind))) ((none y).1 h.0)
        ∙ (computed-at before x behind (suc n) r h.1 f ∙ ap (λ (m : ℕ). Some (At m r)) (omega arith))

    pub first-computed : (xs : List A) (n : ℕ) (r : R) → FailsFirst Passes Fails xs n r
        → first_refused why 1 xs ≡ Some (At n r)
    first-computed xs n r k =
        ap (first_refused why 1) k.whole
        ∙ (computed-at k.before k.element k.behind 1 r (recursion_from_All Passes k.before k.passed) k.fails
        ∙ ap (λ (m : ℕ). Some (At m r)) (omega (arith, k.number)))

-- what is computed is one thing
pub one-computed : {R : Type 0} (o : Option (Refused R)) (m n : ℕ) (q r : R) → o ≡ Some (At m q) → o ≡ Some (At n r)
    → (m ≡ n) × (q ≡ r)
one-computed o m n q r e d = (number (sym e ∙ d), same (sym e ∙ d))
  where
    number : Some (At m q) ≡ Some (At n r) → m ≡ n
    number l = cc

    same : Some (At m q) ≡ Some (At n r) → q ≡ r
    same l = cc

-- nothing computed isn't something
pub none-computed : {R : Type 0} (o : Option R) (r : R) → o ≡ None → o ≡ Some r → ⊥
none-computed o r e d = cc
