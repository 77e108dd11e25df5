-- The first of some faults is one of them, and none comes before it.
use Rattle.std.proofs.Common.{◌≡◌, ℕ, ◌≤◌, Bool, true, false, cond, nat_lt, nat_eq, ◌&&◌, ◌||◌, List, [], ◌∷◌, Option}
use Rattle.std.proofs.Common.{Some, None, refl, sym, subst, inl, inr, arith}
use Rattle.std.specs.Prelude.{◌⊎◌}
use Rattle.std.proofs.lemmas.Bool.Decides.{nat_tests}
use Rattle.text_core.specs.Readers.{Fault, Reader}
use Rattle.text_core.specs.Faults.{Among, NotAfter}
use Rattle.text_core.specs.Reading.{is_before, first_of, first_among}

-- if the test of positions and numbers passes, the first pair doesn't come after the second one
before_true : (a b i j : ℕ) → nat_lt a b || (nat_eq a b && nat_lt i j) ≡ true → (a ≤ b) × (a ≡ b → i ≤ j)
before_true a b i j h = (grind (arith, nat_tests), λ e. grind (arith, nat_tests))

-- if the test fails, the second pair doesn't come after the first one
before_false : (a b i j : ℕ) → nat_lt a b || (nat_eq a b && nat_lt i j) ≡ false → (b ≤ a) × (b ≡ a → j ≤ i)
before_false a b i j h = (grind (arith, nat_tests), λ e. grind (arith, nat_tests))

module _ {P T F K : Type 0} (r : Reader P T F K) where
  -- a fault doesn't come after itself
  pub not_after_self : (x : Fault K) → NotAfter r x x
  not_after_self x = record { position = omega arith; kind = λ e. omega arith }

  -- `NotAfter` is transitive
  pub not_after_on : (x y z : Fault K) → NotAfter r x y → NotAfter r y z → NotAfter r x z
  not_after_on x y z a b = record {
    position = let p = a.position in let q = b.position in omega (arith, p, q);
    kind = λ e.
        let p = a.position in let q = b.position in
        let k = a.kind (omega (arith, p, q, e)) in let l = b.kind (omega (arith, p, q, e)) in
        omega (arith, k, l);
  }

  -- a fault is one of these, and doesn't come after them
  pub record IsFirstOf (best : Option (Fault K)) (y x : Fault K) : Type 0 where
    pub one : (best ≡ Some x) ⊎ (x ≡ y)
    pub other : NotAfter r x y
    pub so_far : (z : Fault K) → best ≡ Some z → NotAfter r x z

  -- the first of a fault so far and another is one of them and doesn't come after them
  pub first_of_is : (best : Option (Fault K)) (y : Fault K) → IsFirstOf best y (first_of r best y)
  first_of_is None y = record { one = inr refl; other = not_after_self y; so_far = λ z e. cc }
  first_of_is (Some x) y = go (is_before r y x) refl
    where
      go : (b : Bool) → is_before r y x ≡ b → IsFirstOf (Some x) y (cond b y x)
      go true h =
          let t = before_true y.at x.at (r.number y.kind) (r.number x.kind) h in
          let n : NotAfter r y x = record { position = t.0; kind = t.1 } in
          record { one = inr refl; other = not_after_self y; so_far = λ z e. let same : x ≡ z = cc in subst (NotAfter r y) same n }
      go false h =
          let t = before_false y.at x.at (r.number y.kind) (r.number x.kind) h in
          let n : NotAfter r x y = record { position = t.0; kind = t.1 } in
          record { one = inl refl; other = n; so_far = λ z e. let same : x ≡ z = cc in subst (NotAfter r x) same (not_after_self x) }

  -- the first of a fault so far and others: none if there are none, else one of them that doesn't come after the others
  abbrev pub IsFirstAmong : Option (Fault K) → List (Fault K) → Option (Fault K) → Type 0
  IsFirstAmong best xs None = (best ≡ None) × ((y : Fault K) → ¬ Among y xs)
  IsFirstAmong best xs (Some x) = ((best ≡ Some x) ⊎ Among x xs) × ((y : Fault K) → (best ≡ Some y) ⊎ Among y xs → NotAfter r x y)

  -- the first of a fault so far and others is one of them and doesn't come after them; it is none if there are none
  pub first_among_is : (xs : List (Fault K)) (best : Option (Fault K)) → IsFirstAmong best xs (first_among r best xs)
  first_among_is [] None = (refl, λ y h. h)
  first_among_is [] (Some x) = (inl refl, λ y h. same y h)
    where
      same : (y : Fault K) → (Some x ≡ Some y) ⊎ ⊥ → NotAfter r x y
      same y (inl e) = let s : x ≡ y = cc in subst (NotAfter r x) s (not_after_self x)
      same y (inr h) = absurd h
  first_among_is (x ∷ xs) best = go (first_among r (Some (first_of r best x)) xs) (first_among_is xs (Some (first_of r best x)))
    where
      f : IsFirstOf best x (first_of r best x)
      f = first_of_is best x

      go : (o : Option (Fault K)) → IsFirstAmong (Some (first_of r best x)) xs o → IsFirstAmong best (x ∷ xs) o
      go None h = cc
      go (Some z) h = (one h.0, none)
        where
          one : (Some (first_of r best x) ≡ Some z) ⊎ Among z xs → (best ≡ Some z) ⊎ Among z (x ∷ xs)
          one (inr a) = inr (inr a)
          one (inl e) = let s : first_of r best x ≡ z = cc in subst (λ (v : Fault K). (best ≡ Some v) ⊎ Among v (x ∷ xs)) s (of f.one)
            where
              of : (best ≡ Some (first_of r best x)) ⊎ (first_of r best x ≡ x) → (best ≡ Some (first_of r best x)) ⊎ Among (first_of r best x) (x ∷ xs)
              of (inl k) = inl k
              of (inr k) = inr (inl k)

          none : (y : Fault K) → (best ≡ Some y) ⊎ Among y (x ∷ xs) → NotAfter r z y
          none y (inl k) = not_after_on z (first_of r best x) y (h.1 (first_of r best x) (inl refl)) (f.so_far y k)
          none y (inr (inl k)) = not_after_on z (first_of r best x) y (h.1 (first_of r best x) (inl refl)) (subst (NotAfter r (first_of r best x)) (sym k) f.other)
          none y (inr (inr k)) = h.1 y (inr k)
