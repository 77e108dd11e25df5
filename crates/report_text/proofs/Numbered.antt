-- Numbered lines, one for each element: each line determines something of its element, and no later line is mistaken
-- for it.
use Rattle.std.proofs.Common.{◌≡◌, ℕ, suc, ◌+◌, ◌^◌, ◌<◌, ◌≤◌, List, [], ◌∷◌, ◌++◌, length, refl, sym, ◌∙◌, subst}
use Rattle.std.proofs.Common.{append_assoc, arith}
use Rattle.std.specs.Prelude.{⊤}
use Rattle.std.specs.List.{AllByRecursion}
use Rattle.report_text.specs.Pieces.{numbered_lines}

-- two lists have the same length, and their elements are in this relation
abbrev pub Pairs : {X : Type 0} → (X → X → Type 0) → List X → List X → Type 0
Pairs R [] [] = ⊤
Pairs R [] (y ∷ ys) = ⊥
Pairs R (x ∷ xs) [] = ⊥
Pairs R (x ∷ xs) (y ∷ ys) = R x y × Pairs R xs ys

-- if the elements of two lists are equal in pairs, the lists are equal
pub pairs_same : {X : Type 0} (xs ys : List X) → Pairs (λ x y. x ≡ y) xs ys → xs ≡ ys
pairs_same [] [] same = refl
pairs_same [] (y ∷ ys) same = absurd same
pairs_same (x ∷ xs) [] same = absurd same
pairs_same (x ∷ xs) (y ∷ ys) same = let l = pairs_same xs ys same.1 in λ i. same.0 i ∷ l i

-- lists of one length are paired
pub pairs_any : {X : Type 0} (xs ys : List X) → length xs ≡ length ys → Pairs (λ x y. ⊤) xs ys
pairs_any [] [] e = tt
pairs_any [] (y ∷ ys) e = absurd (omega (arith, e))
pairs_any (x ∷ xs) [] e = absurd (omega (arith, e))
pairs_any (x ∷ xs) (y ∷ ys) e = (tt, pairs_any xs ys (omega (arith, e)))

module _ {X : Type 0} (Fits : X → Type 0) (Alike Same : X → X → Type 0) (Later : ℕ → List ℕ → Type 0) (line : ℕ → X → List ℕ)
    (step : (n : ℕ) (x y : X) (u v : List ℕ) → n < 2 ^ 64 → Fits x → Fits y → Alike x y → Later n u → Later n v → line n x ++ u ≡ line n y ++ v → Same x y × (u ≡ v))
    (later : (n m : ℕ) (x : X) (u : List ℕ) → n < m → m < 2 ^ 64 → Later n u → Later n (line m x ++ u)) where
  -- what follows the line of a number begins with that of a later one
  pub later_lines : (n m : ℕ) (xs : List X) (u : List ℕ) → n < m → m + length xs ≤ 2 ^ 64 → Later n u → Later n (numbered_lines line m xs ++ u)
  later_lines n m [] u over few h = h
  later_lines n m (x ∷ xs) u over few h =
      subst (Later n) (sym (append_assoc (line m x) (numbered_lines line (suc m) xs) u))
      (later n m x (numbered_lines line (suc m) xs ++ u) over (omega (arith, few)) (later_lines n (suc m) xs u (omega (arith, over)) (omega (arith, few)) h))

  -- the lines of all elements are determined
  pub numbered_determined : (n : ℕ) (xs ys : List X) (u v : List ℕ) → n + length xs ≤ 2 ^ 64 → n + length ys ≤ 2 ^ 64 → AllByRecursion Fits xs → AllByRecursion Fits ys → Pairs Alike xs ys
      → ((m : ℕ) → Later m u) → ((m : ℕ) → Later m v) → numbered_lines line n xs ++ u ≡ numbered_lines line n ys ++ v → Pairs Same xs ys × (u ≡ v)
  numbered_determined n [] [] u v a b p q like s t e = (tt, e)
  numbered_determined n [] (y ∷ ys) u v a b p q like s t e = absurd like
  numbered_determined n (x ∷ xs) [] u v a b p q like s t e = absurd like
  numbered_determined n (x ∷ xs) (y ∷ ys) u v a b p q like s t e =
      let r = step n x y (numbered_lines line (suc n) xs ++ u) (numbered_lines line (suc n) ys ++ v) (omega (arith, a)) p.0 q.0 like.0
      (later_lines n (suc n) xs u (omega arith) (omega (arith, a)) (s n)) (later_lines n (suc n) ys v (omega arith) (omega (arith, b)) (t n))
      (sym (append_assoc (line n x) (numbered_lines line (suc n) xs) u) ∙ (e ∙ append_assoc (line n y) (numbered_lines line (suc n) ys) v)) in
      let l = numbered_determined (suc n) xs ys u v (omega (arith, a)) (omega (arith, b)) p.1 q.1 like.1 s t r.1 in
      ((r.0, l.0), l.1)
