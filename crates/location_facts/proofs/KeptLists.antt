-- The list of those facts that satisfy a condition, as it is built fact by fact.
use Rattle.std.proofs.Common.{◌≡◌, inl, inr, ℕ, zero, suc, ◌≤◌, refl, sym, ap, ◌∙◌, arith, subst, List, []}
use Rattle.std.proofs.Common.{◌∷◌, ◌++◌}
use Rattle.std.proofs.Common.{length, Some}
use Rattle.std.specs.Prelude.{slice_get}
use Rattle.poly_terms.specs.model.Programs.{Program}
use Rattle.poly_terms.proofs.model.Cases.{some_same}
use Rattle.location_facts.specs.declared.fact.LocFact.{LocFact}
use Rattle.location_facts.specs.Candidates.{order_number}
use Rattle.location_facts.specs.Kept.{HasThose}
use Rattle.location_facts.proofs.CandidateList.{Between, lower}

module _ (Keeps : LocFact → Type 0) where
  -- one more fact that satisfies the condition is added to both lists
  pub those-kept : (facts those : List LocFact) (f : LocFact) → HasThose Keeps facts those → Keeps f
      → HasThose Keeps (facts ++ f ∷ []) (those ++ f ∷ [])
  those-kept [] those f h k = inl (k, ([], ap (λ (xs : List LocFact). xs ++ f ∷ []) h, refl))
  those-kept (g ∷ facts) those f (inl (kg, (rest, e, h))) k =
      inl (kg, (rest ++ f ∷ [], ap (λ (xs : List LocFact). xs ++ f ∷ []) e, those-kept facts rest f h k))
  those-kept (g ∷ facts) those f (inr (drops, h)) k = inr (drops, those-kept facts those f h k)

  -- one more fact that doesn't satisfy the condition is left out
  pub those-passed : (facts those : List LocFact) (f : LocFact) → HasThose Keeps facts those → (Keeps f → ⊥)
      → HasThose Keeps (facts ++ f ∷ []) those
  those-passed [] those f h n = inr (n, h)
  those-passed (g ∷ facts) those f (inl (kg, (rest, e, h))) n = inl (kg, (rest, e, those-passed facts rest f h n))
  those-passed (g ∷ facts) those f (inr (drops, h)) n = inr (drops, those-passed facts those f h n)

  -- at most as many facts satisfy the condition as there are facts
  pub those-most : (facts those : List LocFact) → HasThose Keeps facts those → length those ≤ length facts
  those-most [] those h = let e = ap (λ (xs : List LocFact). length xs) h in omega (arith, e)
  those-most (g ∷ facts) those (inl (kg, (rest, e, h))) =
      let l = ap (λ (xs : List LocFact). length xs) e in omega (arith, l, those-most facts rest h)
  those-most (g ∷ facts) those (inr (drops, h)) = omega (arith, those-most facts those h)

  -- if as many facts satisfy the condition as there are facts, all of them do
  pub those-all : (facts those : List LocFact) → HasThose Keeps facts those → length those ≡ length facts
      → those ≡ facts
  those-all [] those h l = h
  those-all (g ∷ facts) those (inl (kg, (rest, e, h))) l =
      let m = ap (λ (xs : List LocFact). length xs) e in
      e ∙ ap (λ (xs : List LocFact). g ∷ xs) (those-all facts rest h (omega (arith, l, m)))
  those-all (g ∷ facts) those (inr (drops, h)) l = absurd (let m = those-most facts those h in omega (arith, l, m))

  -- each fact of the built list satisfies the condition
  pub those-keep : (facts those : List LocFact) → HasThose Keeps facts those → (i : ℕ) (f : LocFact)
      → slice_get those i ≡ Some f → Keeps f
  those-keep [] those h i f e = absurd
      (let same : ⊥ = nowhere i (sym (ap (λ (xs : List LocFact). slice_get xs i) h) ∙ e) in same)
    where
      nowhere : (i : ℕ) → slice_get [] i ≡ Some f → ⊥
      nowhere i e = cc
  those-keep (g ∷ facts) those (inl (kg, (rest, same, h))) zero f e =
      subst Keeps (some_same g f (sym (ap (λ (xs : List LocFact). slice_get xs zero) same) ∙ e)) kg
  those-keep (g ∷ facts) those (inl (kg, (rest, same, h))) (suc i) f e =
      those-keep facts rest h i f (sym (ap (λ (xs : List LocFact). slice_get xs (suc i)) same) ∙ e)
  those-keep (g ∷ facts) those (inr (drops, h)) i f e = those-keep facts those h i f e

  -- if the facts ascend, so do those that satisfy the condition
  pub those-between : (p : Program) (k n : ℕ) (facts those : List LocFact) → HasThose Keeps facts those
      → Between p k n facts → Between p k n those
  those-between p k n [] those h b = subst (Between p k n) (sym h) b
  those-between p k n (g ∷ facts) those (inl (kg, (rest, e, h))) (c, l, b) =
      subst (Between p k n) (sym e) (c, l, those-between p (suc (order_number g)) n facts rest h b)
  those-between p k n (g ∷ facts) those (inr (drops, h)) (c, l, b) =
      lower p k (suc (order_number g)) n those (omega (arith, l))
      (those-between p (suc (order_number g)) n facts those h b)
