-- A coefficient of a function is a parameter or 0, so it is within the limit if all parameters are.
use Rattle.std.proofs.Common.{◌≡◌, ℕ, zero, suc, ◌+◌, ◌<◌, ◌≤◌, ◌≢◌, ap, arith, refl, sym, ◌∙◌, subst, Bool, true}
use Rattle.std.proofs.Common.{false, not, cond, ◌⊎◌, inl, inr, List, [], ◌∷◌, ◌++◌, length, map, filter, nat_eq}
use Rattle.std.proofs.Common.{if◌then◌else◌, ◌&&◌}
use Rattle.std.specs.Prelude.{ℤ, pos, nat_abs, ◌+ℤ◌}
use Rattle.std.specs.List.{range_with_len}
use Rattle.std.proofs.lemmas.Int.{ints}
use Rattle.std.proofs.lemmas.Bool.{ne_eqb}
use Rattle.std.proofs.lemmas.Bool.Decides.{eqb_tells}
use Rattle.simplex_core.specs.linear_forms.RuleQuestions.{RankedSet, Coefficient, open_places, coefficients}
use Rattle.cert_types.specs.rule_forms.RankLaws.{coefficient}
use Rattle.cert_types.proofs.rule_forms.Losses.{share, share-elsewhere, share-other}

-- the coefficients of the places of a symbol
abbrev pub block : ℕ → List ℕ → List Coefficient
block t places = map (λ i. record { symbol = t; place = i }) places

-- the coefficient in appended lists is the sum of those in each
pub coefficient-append : (xs ys : List Coefficient) (v : ℕ → ℤ) (s i : ℕ)
    → coefficient (xs ++ ys) v s i ≡ coefficient xs v s i +ℤ coefficient ys (λ k. v (length xs + k)) s i
coefficient-append [] ys v s i = start _ _
    (later ys (λ k. v k) (λ k. v (0 + k)) (λ k. ap v (let e : k ≡ 0 + k = omega arith in e)))
  where
    start : (a b : ℤ) → a ≡ b → a ≡ pos 0 +ℤ b
    start a b e = omega (arith, ints, e)

    later : (cs : List Coefficient) (v w : ℕ → ℤ) → ((k : ℕ) → v k ≡ w k) → coefficient cs v s i ≡ coefficient cs w s i
    later [] v w h = refl
    later (c ∷ cs) v w h =
        ap (λ (x : ℤ). share c x s i +ℤ coefficient cs (λ p. v (suc p)) s i) (h 0)
        ∙ ap (λ (y : ℤ). share c (w 0) s i +ℤ y) (later cs (λ p. v (suc p)) (λ p. w (suc p)) (λ k. h (suc k)))
coefficient-append (x ∷ xs) ys v s i =
    regroup _ _ _ _ _ (coefficient-append xs ys (λ p. v (suc p)) s i)
    (later ys (λ k. v (suc (length xs + k))) (λ k. v (suc (length xs) + k))
    (λ k. ap v (let e : suc (length xs + k) ≡ suc (length xs) + k = omega arith in e)))
  where
    regroup : (a r b c d : ℤ) → r ≡ b +ℤ c → c ≡ d → a +ℤ r ≡ (a +ℤ b) +ℤ d
    regroup a r b c d e f = omega (arith, ints, e, f)

    later : (cs : List Coefficient) (v w : ℕ → ℤ) → ((k : ℕ) → v k ≡ w k) → coefficient cs v s i ≡ coefficient cs w s i
    later [] v w h = refl
    later (c ∷ cs) v w h =
        ap (λ (y : ℤ). share c y s i +ℤ coefficient cs (λ p. v (suc p)) s i) (h 0)
        ∙ ap (λ (y : ℤ). share c (w 0) s i +ℤ y) (later cs (λ p. v (suc p)) (λ p. w (suc p)) (λ k. h (suc k)))

-- a block of another symbol has coefficient 0
pub block-elsewhere : (t : ℕ) (places : List ℕ) (v : ℕ → ℤ) (s i : ℕ) → t ≢ s → coefficient (block t places) v s i
    ≡ pos 0
block-elsewhere t [] v s i d = refl
block-elsewhere t (j ∷ places) v s i d =
    both _ _ (share-elsewhere (record { symbol = t; place = j }) (v 0) s i (ne_eqb t s d))
    (block-elsewhere t places (λ p. v (suc p)) s i d)
  where
    both : (a b : ℤ) → a ≡ pos 0 → b ≡ pos 0 → a +ℤ b ≡ pos 0
    both a b e f = omega (arith, ints, e, f)

-- at a place before its own, a block has coefficient 0, except for the constant
pub block-before : (t : ℕ) (test : ℕ → Bool) (a n : ℕ) (v : ℕ → ℤ) (i : ℕ) → 1 ≤ i → i < a
    → coefficient (block t (filter test (range_with_len a n) ++ 0 ∷ [])) v t i ≡ pos 0
block-before t test a zero v i l m =
    both _ _ (share-other (record { symbol = t; place = 0 }) (v 0) t i (λ e. omega (arith, e, l))) refl
  where
    both : (a b : ℤ) → a ≡ pos 0 → b ≡ pos 0 → a +ℤ b ≡ pos 0
    both a b e f = omega (arith, ints, e, f)
block-before t test a (suc n) v i l m = go (test a) v (λ w. block-before t test (a + 1) n w i l (omega (arith, m)))
  where
    both : (a b : ℤ) → a ≡ pos 0 → b ≡ pos 0 → a +ℤ b ≡ pos 0
    both a b e f = omega (arith, ints, e, f)

    go : (b : Bool) (w : ℕ → ℤ)
        → ((w : ℕ → ℤ) → coefficient (block t (filter test (range_with_len (a + 1) n) ++ 0 ∷ [])) w t i ≡ pos 0)
        → coefficient (block t
        (cond b (a ∷ filter test (range_with_len (a + 1) n)) (filter test (range_with_len (a + 1) n))
        ++ 0 ∷ [])) w t i
        ≡ pos 0
    go true w rest =
        both _ _ (share-other (record { symbol = t; place = a }) (w 0) t i (λ e. omega (arith, e, m)))
        (rest (λ p. w (suc p)))
    go false w rest = rest w

module _ (limit : ℕ) where
  -- if one of two terms is 0, the sum is within the limit
  first-only : (a b : ℤ) → nat_abs a ≤ limit → b ≡ pos 0 → nat_abs (a +ℤ b) ≤ limit
  first-only a b l e = subst (λ (z : ℤ). nat_abs z ≤ limit) (alone a b e) l
    where
      alone : (a b : ℤ) → b ≡ pos 0 → a ≡ a +ℤ b
      alone a b e = omega (arith, ints, e)

  second-only : (a b : ℤ) → a ≡ pos 0 → nat_abs b ≤ limit → nat_abs (a +ℤ b) ≤ limit
  second-only a b e l = subst (λ (z : ℤ). nat_abs z ≤ limit) (alone a b e) l
    where
      alone : (a b : ℤ) → a ≡ pos 0 → b ≡ a +ℤ b
      alone a b e = omega (arith, ints, e)

  -- a share is the parameter or 0
  share-small : (c : Coefficient) (x : ℤ) (s i : ℕ) → nat_abs x ≤ limit → nat_abs (share c x s i) ≤ limit
  share-small c x s i l = go (nat_eq c.symbol s && nat_eq c.place i)
    where
      go : (b : Bool) → nat_abs (if b then x else pos 0) ≤ limit
      go true = l
      go false = omega arith

  -- the coefficient in a block, at a place of its symbol, is within the limit
  block-small : (t : ℕ) (test : ℕ → Bool) (a n : ℕ) (v : ℕ → ℤ) (i : ℕ) → 1 ≤ a → ((k : ℕ) → nat_abs (v k) ≤ limit)
      → nat_abs (coefficient (block t (filter test (range_with_len a n) ++ 0 ∷ [])) v t i) ≤ limit
  block-small t test a zero v i l h =
      first-only (share (record { symbol = t; place = 0 }) (v 0) t i) (pos 0)
      (share-small (record { symbol = t; place = 0 }) (v 0) t i (h 0)) refl
  block-small t test a (suc n) v i l h = go (test a) v h (λ w k. block-small t test (a + 1) n w i (omega (arith, l)) k)
    where
      go : (b : Bool) (w : ℕ → ℤ) → ((k : ℕ) → nat_abs (w k) ≤ limit)
          → ((w : ℕ → ℤ) → ((k : ℕ) → nat_abs (w k) ≤ limit) → nat_abs
          (coefficient (block t (filter test (range_with_len (a + 1) n) ++ 0 ∷ [])) w t i) ≤ limit)
          → nat_abs (coefficient
          (block t (cond b (a ∷ filter test (range_with_len (a + 1) n)) (filter test (range_with_len (a + 1) n))
          ++ 0 ∷ [])) w t i)
          ≤ limit
      go false w h ih = ih w h
      go true w h ih = which (eqb_tells a i)
        where
          which : ((nat_eq a i ≡ true) × (a ≡ i)) ⊎ ((nat_eq a i ≡ false) × (a ≢ i))
              → nat_abs (share (record { symbol = t; place = a }) (w 0) t i
              +ℤ coefficient (block t (filter test (range_with_len (a + 1) n) ++ 0 ∷ [])) (λ p. w (suc p)) t i) ≤ limit
          which (inl e) =
              first-only _ _ (share-small (record { symbol = t; place = a }) (w 0) t i (h 0))
              (block-before t test (a + 1) n (λ p. w (suc p)) i (let f = e.1 in omega (arith, f, l))
              (let f = e.1 in omega (arith, f)))
          which (inr e) =
              second-only _ _ (share-other (record { symbol = t; place = a }) (w 0) t i e.1)
              (ih (λ p. w (suc p)) (λ k. h (suc k)))

  module _ (b : RankedSet) (test : ℕ → Bool) where
    -- the coefficients of symbols from a on are 0 at a symbol before a
    pub symbols-before : (a n : ℕ) (v : ℕ → ℤ) (s i : ℕ) → s < a
        → coefficient (coefficients b (filter test (range_with_len a n))) v s i ≡ pos 0
    symbols-before a zero v s i l = refl
    symbols-before a (suc n) v s i l = go (test a) (λ w. symbols-before (a + 1) n w s i (omega (arith, l)))
      where
        both : (x y z : ℤ) → x ≡ y +ℤ z → y ≡ pos 0 → z ≡ pos 0 → x ≡ pos 0
        both x y z e f g = omega (arith, ints, e, f, g)

        go : (t : Bool) → ((w : ℕ → ℤ) → coefficient (coefficients b (filter test (range_with_len (a + 1) n))) w s i
            ≡ pos 0)
            → coefficient (coefficients b (cond t (a ∷ filter test (range_with_len (a + 1) n))
            (filter test (range_with_len (a + 1) n)))) v s i ≡ pos 0
        go true rest =
            both _ _ _ (coefficient-append (block a (open_places b a ++ 0 ∷ []))
            (coefficients b (filter test (range_with_len (a + 1) n))) v s i)
            (block-elsewhere a (open_places b a ++ 0 ∷ []) v s i (λ e. omega (arith, e, l)))
            (rest _)
        go false rest = rest v

    -- a coefficient is within the limit
    pub coefficient-small : (a n : ℕ) (v : ℕ → ℤ) (s i : ℕ) → ((k : ℕ) → nat_abs (v k) ≤ limit)
        → nat_abs (coefficient (coefficients b (filter test (range_with_len a n))) v s i) ≤ limit
    coefficient-small a zero v s i h = omega arith
    coefficient-small a (suc n) v s i h = go (test a) (λ w k. coefficient-small (a + 1) n w s i k)
      where
        go : (t : Bool) → ((w : ℕ → ℤ) → ((k : ℕ) → nat_abs (w k) ≤ limit)
            → nat_abs (coefficient (coefficients b (filter test (range_with_len (a + 1) n))) w s i) ≤ limit)
            → nat_abs (coefficient (coefficients b (cond t (a ∷ filter test (range_with_len (a + 1) n))
            (filter test (range_with_len (a + 1) n)))) v s i) ≤ limit
        go false ih = ih v h
        go true ih =
            subst (λ (z : ℤ). nat_abs z ≤ limit)
            (sym (coefficient-append (block a (open_places b a ++ 0 ∷ []))
            (coefficients b (filter test (range_with_len (a + 1) n))) v s i))
            (which (eqb_tells a s))
          where
            which : ((nat_eq a s ≡ true) × (a ≡ s)) ⊎ ((nat_eq a s ≡ false) × (a ≢ s))
                → nat_abs (coefficient (block a (open_places b a ++ 0 ∷ [])) v s i
                +ℤ coefficient (coefficients b (filter test (range_with_len (a + 1) n)))
                (λ k. v (length (block a (open_places b a ++ 0 ∷ [])) + k)) s i) ≤ limit
            which (inl e) =
                first-only _ _
                (subst (λ (t : ℕ). nat_abs (coefficient (block a (open_places b a ++ 0 ∷ [])) v t i) ≤ limit) e.1
                (block-small a (λ j. not (b.shut a j)) 1 (b.arity a) v i (omega arith) h))
                (symbols-before (a + 1) n _ s i (let f = e.1 in omega (arith, f)))
            which (inr e) =
                second-only _ _ (block-elsewhere a (open_places b a ++ 0 ∷ []) v s i e.1)
                (ih _ (λ k. h (length (block a (open_places b a ++ 0 ∷ [])) + k)))
