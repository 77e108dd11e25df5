-- Stored facts, by position.
use Rattle.std.proofs.Common.{◌≡◌, ℕ, zero, suc, ◌<◌, ◌≤◌, List, [], ◌∷◌, length, refl, ap, ◌∙◌, arith, Vec, get_or}
use Rattle.std.specs.declared.alloc.Global.{Global}
use Rattle.cert_types.specs.Views.{facts_of as facts_in_order}
use Rattle.cert_types.specs.declared.fact.Fact.{Fact}
use Rattle.cert_context.specs.Statements.{facts_from}

-- the facts at a position of a list are those found there
pub facts-found : (xs ys : List (Vec Fact Global)) (n : ℕ) (x : Vec Fact Global) → xs ≡ ys → n < length xs
    → x ≡ get_or xs n x → facts_in_order x.items ≡ facts_from ys n
facts-found xs ys n x e l h = go xs n l h ∙ ap (λ (zs : List (Vec Fact Global)). facts_from zs n) e
  where
    go : (zs : List (Vec Fact Global)) (m : ℕ) → m < length zs → x ≡ get_or zs m x → facts_in_order x.items ≡ facts_from zs m
    go [] m l h = absurd (omega (arith, l))
    go (z ∷ zs) zero l h = ap (λ (v : Vec Fact Global). facts_in_order v.items) h
    go (z ∷ zs) (suc m) l h = go zs m (omega (arith, l)) h

-- past the end of the list there are no facts
pub facts-past : (xs ys : List (Vec Fact Global)) (n : ℕ) → xs ≡ ys → length xs ≤ n → [] ≡ facts_from ys n
facts-past xs ys n e l = go xs n l ∙ ap (λ (zs : List (Vec Fact Global)). facts_from zs n) e
  where
    go : (zs : List (Vec Fact Global)) (m : ℕ) → length zs ≤ m → [] ≡ facts_from zs m
    go [] m l = refl
    go (z ∷ zs) zero l = absurd (omega (arith, l))
    go (z ∷ zs) (suc m) l = go zs m (omega (arith, l))
