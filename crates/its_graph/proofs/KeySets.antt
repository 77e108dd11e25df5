-- The keys of sets of numbers.
use Rattle.std.proofs.Common.{◌≡◌, ◌⊎◌, ◌↔◌, inl, inr, ℕ, List, [], ◌∷◌, Contains, refl, sym, ◌∙◌, subst}
use Rattle.std.specs.Ordering.{nat_cmp, match_ordering}
use Rattle.std.specs.declared.cmp.Ordering.{Ordering}
use Rattle.std.specs.declared.cmp.Ordering.TheVariants.{Less, Equal, Greater}
use Rattle.std.specs.BTreeSet.{insert_key}
use Rattle.std.proofs.lemmas.Map.Lookups.{exact_unsigned}
use Rattle.its_graph.proofs.Elements.{Contains-cons_cases, Contains-first, Contains-later, none_in_empty, only_element}

-- The keys after an insertion are those before and the new one.
pub insert_key-elements : (k : ℕ) (ks : List ℕ) (q : ℕ) → Contains (insert_key nat_cmp ks k) q ↔ (Contains ks q ⊎ (q ≡ k))
insert_key-elements k [] q = (λ h. inr (only_element k q h), λ h. back h)
  where
    back : Contains [] q ⊎ (q ≡ k) → Contains (k ∷ []) q
    back (inl none) = absurd (none_in_empty q none)
    back (inr e) = subst (λ (x : ℕ). Contains (k ∷ []) x) (sym e) (Contains-first k [])
insert_key-elements k (x ∷ ks) q = go (nat_cmp k x) refl (insert_key-elements k ks q)
  where
    go : (o : Ordering) → nat_cmp k x ≡ o → (Contains (insert_key nat_cmp ks k) q ↔ (Contains ks q ⊎ (q ≡ k)))
        → Contains (match_ordering o (k ∷ x ∷ ks) (x ∷ ks) (x ∷ insert_key nat_cmp ks k)) q ↔ (Contains (x ∷ ks) q ⊎ (q ≡ k))
    go Less e ih = (λ h. first (Contains-cons_cases k (x ∷ ks) q h), λ h. back h)
      where
        first : (q ≡ k) ⊎ Contains (x ∷ ks) q → Contains (x ∷ ks) q ⊎ (q ≡ k)
        first (inl same) = inr same
        first (inr later) = inl later

        back : Contains (x ∷ ks) q ⊎ (q ≡ k) → Contains (k ∷ x ∷ ks) q
        back (inl later) = Contains-later k (x ∷ ks) q later
        back (inr same) = subst (λ (y : ℕ). Contains (k ∷ x ∷ ks) y) (sym same) (Contains-first k (x ∷ ks))
    go Equal e ih = (λ h. inl h, λ h. back h)
      where
        back : Contains (x ∷ ks) q ⊎ (q ≡ k) → Contains (x ∷ ks) q
        back (inl h) = h
        back (inr same) = subst (λ (y : ℕ). Contains (x ∷ ks) y) (sym (same ∙ exact_unsigned k x e)) (Contains-first x ks)
    go Greater e ih = (λ h. first (Contains-cons_cases x (insert_key nat_cmp ks k) q h), λ h. back h)
      where
        first : (q ≡ x) ⊎ Contains (insert_key nat_cmp ks k) q → Contains (x ∷ ks) q ⊎ (q ≡ k)
        first (inl same) = inl (subst (λ (y : ℕ). Contains (x ∷ ks) y) (sym same) (Contains-first x ks))
        first (inr later) = rest (ih.0 later)
          where
            rest : Contains ks q ⊎ (q ≡ k) → Contains (x ∷ ks) q ⊎ (q ≡ k)
            rest (inl h) = inl (Contains-later x ks q h)
            rest (inr same) = inr same

        back : Contains (x ∷ ks) q ⊎ (q ≡ k) → Contains (x ∷ insert_key nat_cmp ks k) q
        back (inr same) = Contains-later x (insert_key nat_cmp ks k) q (ih.1 (inr same))
        back (inl h) = rest (Contains-cons_cases x ks q h)
          where
            rest : (q ≡ x) ⊎ Contains ks q → Contains (x ∷ insert_key nat_cmp ks k) q
            rest (inl same) = subst (λ (y : ℕ). Contains (x ∷ insert_key nat_cmp ks k) y) (sym same) (Contains-first x (insert_key nat_cmp ks k))
            rest (inr later) = Contains-later x (insert_key nat_cmp ks k) q (ih.1 (inl later))
