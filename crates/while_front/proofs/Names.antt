-- How the name of the free variable is found, step by step.
use Rattle.std.proofs.Common.{◌≡◌, ℕ, zero, suc, ◌-◌, ◌<◌, true, false, List, [], ◌∷◌, ◌++◌, refl, ap, arith}
use Rattle.std.specs.Prelude.{nat_eq}
use Rattle.std.specs.List.{list_any}
use Rattle.std.specs.Cmp.Lexicographic.{pointwise}
use Rattle.while_model.specs.model.Programs.{Name}
use Rattle.while_model.specs.Translation.{apart_from}

-- A name that is none of the names stays as it is.
pub apart_none : (names : List Name) (most : ℕ) (name : Name) → list_any (pointwise nat_eq name) names ≡ false
    → apart_from names most name ≡ name
apart_none names zero name h = refl
apart_none names (suc most) name h = rw h refl

-- A name stays as it is if no `_` may be added.
pub apart_zero : (names : List Name) (most : ℕ) (name : Name) → most ≡ 0 → apart_from names most name ≡ name
apart_zero names zero name e = refl
apart_zero names (suc most) name e = absurd (omega (arith, e))

-- A name that is one of the names gets one `_` more.
pub apart_more : (names : List Name) (most : ℕ) (name : Name) → 0 < most
    → list_any (pointwise nat_eq name) names ≡ true
    → apart_from names most name ≡ apart_from names (most - 1) (name ++ 95 ∷ [])
apart_more names zero name h e = absurd (omega (arith, h))
apart_more names (suc most) name h e =
    rw e (ap (λ (k : ℕ). apart_from names k (name ++ 95 ∷ [])) (let q : most ≡ suc most - 1 = omega arith in q))
