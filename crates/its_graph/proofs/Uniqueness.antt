-- A graph has at most one list of its components in their order.
use Rattle.std.proofs.Common.{◌≡◌, ◌⊎◌, inl, inr, ℕ, suc, ◌+◌, ◌<◌, List, [], ◌∷◌, ◌++◌, Contains, get_or, refl, sym}
use Rattle.std.proofs.Common.{◌∙◌, ap, subst, arith, append_assoc}
use Rattle.std.specs.List.Sorted.{IsStrictlyIncreasing}
use Rattle.std.proofs.lemmas.List.{append-nil}
use Rattle.its_graph.specs.Components.{IsMutual, IsListed, IsNext, IsListing}
use Rattle.its_graph.proofs.Elements.{Contains-cons_cases, Contains-first, Contains-later, none_in_empty}

-- The tail of an ascending list ascends.
increasing-tail : (x : ℕ) (xs : List ℕ) → IsStrictlyIncreasing (x ∷ xs) → IsStrictlyIncreasing xs
increasing-tail x xs up k low =
    let next : suc k + 1 ≡ suc (k + 1) = omega arith in
    subst (λ (j : ℕ). get_or xs k 0 < get_or (x ∷ xs) j 0) next (up (suc k) (omega (arith, low)))

-- The first number of an ascending list is below all others.
increasing-first : (x : ℕ) (xs : List ℕ) → IsStrictlyIncreasing (x ∷ xs) → (y : ℕ) → Contains xs y → x < y
increasing-first x [] up y h = absurd (none_in_empty y h)
increasing-first x (z ∷ xs) up y h = go (Contains-cons_cases z xs y h) (λ later. increasing-first z xs (increasing-tail x (z ∷ xs) up) y later)
  where
    first : x < z
    first = up 0 (omega arith)

    go : (y ≡ z) ⊎ Contains xs y → (Contains xs y → z < y) → x < y
    go (inl e) ih = omega (arith, first, e)
    go (inr later) ih = omega (arith, first, ih later)

-- Ascending lists with the same elements are equal.
same-ascending : (xs ys : List ℕ) → IsStrictlyIncreasing xs → IsStrictlyIncreasing ys → ((b : ℕ) → Contains xs b → Contains ys b) → ((b : ℕ) → Contains ys b → Contains xs b) → xs ≡ ys
same-ascending [] [] ux uy f g = refl
same-ascending [] (y ∷ ys) ux uy f g = absurd (none_in_empty y (g y (Contains-first y ys)))
same-ascending (x ∷ xs) [] ux uy f g = absurd (none_in_empty x (f x (Contains-first x xs)))
same-ascending (x ∷ xs) (y ∷ ys) ux uy f g =
    joined first (same-ascending xs ys (increasing-tail x xs ux) (increasing-tail y ys uy) onward back)
  where
    first : x ≡ y
    first = go (Contains-cons_cases y ys x (f x (Contains-first x xs))) (Contains-cons_cases x xs y (g y (Contains-first y ys)))
      where
        go : (x ≡ y) ⊎ Contains ys x → (y ≡ x) ⊎ Contains xs y → x ≡ y
        go (inl e) h = e
        go (inr h) (inl e) = sym e
        go (inr h) (inr k) = absurd (omega (arith, increasing-first y ys uy x h, increasing-first x xs ux y k))

    joined : x ≡ y → xs ≡ ys → x ∷ xs ≡ y ∷ ys
    joined e h = ap (λ (z : ℕ). z ∷ xs) e ∙ ap (λ (zs : List ℕ). y ∷ zs) h

    onward : (b : ℕ) → Contains xs b → Contains ys b
    onward b h = go (Contains-cons_cases y ys b (f b (Contains-later x xs b h)))
      where
        go : (b ≡ y) ⊎ Contains ys b → Contains ys b
        go (inl e) = absurd (omega (arith, increasing-first x xs ux b h, first, e))
        go (inr k) = k

    back : (b : ℕ) → Contains ys b → Contains xs b
    back b h = go (Contains-cons_cases x xs b (g b (Contains-later y ys b h)))
      where
        go : (b ≡ x) ⊎ Contains xs b → Contains xs b
        go (inl e) = absurd (omega (arith, increasing-first y ys uy b h, first, e))
        go (inr k) = k

module _ (Edge : ℕ → ℕ → Type 0) (n : ℕ) where
  -- The next component is unique.
  one_next : (before : List (List ℕ)) (c d : List ℕ) → IsNext Edge n before c → IsNext Edge n before d → c ≡ d
  one_next before c d hc hd = same-ascending c d hc.ascending hd.ascending
      (λ b h. (hd.members b).1 (subst (λ (x : ℕ). IsMutual Edge x b) least ((hc.members b).0 h))) (λ b h. (hc.members b).1 (subst (λ (x : ℕ). IsMutual Edge x b) (sym least) ((hd.members b).0 h)))
    where
      least : hc.least ≡ hd.least
      least = omega (arith, hc.first hd.least hd.ready, hd.first hc.least hc.ready)

  -- Lists that continue the same components are equal.
  same_rest : (cs ds : List (List ℕ)) → IsListing Edge n cs → IsListing Edge n ds → (before xs ys : List (List ℕ)) → cs ≡ before ++ xs → ds ≡ before ++ ys → xs ≡ ys
  same_rest cs ds lc ld before [] [] ec ed = refl
  same_rest cs ds lc ld before [] (d ∷ ys) ec ed =
      let next = ld.each before ys d ed in
      absurd (next.ready.unlisted (subst (λ (zs : List (List ℕ)). IsListed zs next.least) (ec ∙ append-nil before) (lc.all next.least next.ready.node)))
  same_rest cs ds lc ld before (c ∷ xs) [] ec ed =
      let next = lc.each before xs c ec in
      absurd (next.ready.unlisted (subst (λ (zs : List (List ℕ)). IsListed zs next.least) (ed ∙ append-nil before) (ld.all next.least next.ready.node)))
  same_rest cs ds lc ld before (c ∷ xs) (d ∷ ys) ec ed =
      let same : c ≡ d = one_next before c d (lc.each before xs c ec) (ld.each before ys d ed) in
      let moved : ds ≡ before ++ c ∷ ys = ed ∙ ap (λ (z : List ℕ). before ++ z ∷ ys) (sym same) in
      let rest = same_rest cs ds lc ld (before ++ c ∷ []) xs ys (ec ∙ sym (append_assoc before (c ∷ []) xs)) (moved ∙ sym (append_assoc before (c ∷ []) ys)) in
      ap (λ (z : List ℕ). z ∷ xs) same ∙ ap (λ (zs : List (List ℕ)). d ∷ zs) rest

  -- There is at most one list.
  pub one_listing : (cs ds : List (List ℕ)) → IsListing Edge n cs → IsListing Edge n ds → cs ≡ ds
  one_listing cs ds lc ld = same_rest cs ds lc ld [] cs ds refl refl
