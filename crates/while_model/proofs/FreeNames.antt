-- The name of the free variable is none of the inputs.
use Rattle.std.proofs.Common.{◌≡◌, ℕ, zero, suc, ◌+◌, ◌<◌, ◌≤◌, Bool, true, false, List, [], ◌∷◌, ◌++◌, length}
use Rattle.std.proofs.Common.{refl, sym, ◌∙◌, subst, arith, length-append}
use Rattle.std.specs.Prelude.{nat_eq}
use Rattle.std.specs.List.{list_any, Contains}
use Rattle.std.specs.Cmp.Lexicographic.{pointwise}
use Rattle.std.proofs.lemmas.Cmp.{nat_list_eq_equiv}
use Rattle.std.proofs.lemmas.Map.Views.{list_any-from_Contains}
use Rattle.std.proofs.lemmas.Bool.{true≢false}
use Rattle.model.specs.Programs.{Name}
use Rattle.while_model.specs.Translation.{longest, apart_from}
use Rattle.while_model.specs.Laws.{FreeNamesAreApart}

-- No name is longer than the longest.
length-le_longest : (names : List Name) (name : Name) → Contains names name → length name ≤ longest names
length-le_longest [] name (k, low, at) = absurd (omega (arith, low))
length-le_longest (x ∷ names) name (zero, low, at) =
    subst (λ (n : Name). length n ≤ longest (x ∷ names)) at (omega arith)
length-le_longest (x ∷ names) name (suc k, low, at) =
    let later : length name ≤ longest names = length-le_longest names name (k, omega (arith, low), at) in omega (arith, later)

-- With enough `_` to be longer than all of the names, a name is none of them.
apart : (names : List Name) (most : ℕ) (name : Name) → longest names < length name + most
    → ¬ (Contains names (apart_from names most name))
apart names zero name longer h = omega (arith, longer, length-le_longest names name h)
apart names (suc most) name longer h =
    go (list_any (pointwise nat_eq name) names) refl
    (apart names most (name ++ 95 ∷ []) (omega (arith, longer, length-append name (95 ∷ [])))) h
  where
    go : (v : Bool) → list_any (pointwise nat_eq name) names ≡ v
        → ¬ (Contains names (apart_from names most (name ++ 95 ∷ []))) → ¬ (Contains names (apart_from names (suc most) name))
    go true e later h = later (rw e at h)
    go false e later h =
        let there : list_any (pointwise nat_eq name) names ≡ true =
        list_any-from_Contains nat_list_eq_equiv name names (rw e at h) in
        true≢false (sym there ∙ e)

pub free_names_are_apart : FreeNamesAreApart
free_names_are_apart = record { each = λ inputs. apart inputs (longest inputs) (104 ∷ []) (omega arith) }
