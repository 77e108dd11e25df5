-- Products of the code as plain data: products of plain bounds.
use Rattle.std.specs.Prelude.{ℕ, List, [], ◌∷◌, map}
use denote.Ref.{Bor}
use Rattle.signed_bounds.specs.Bounds as plain
use Rattle.signed_bounds.specs.Products as products
use Rattle.signed_bounds.specs.Views.{signed_of}
use Rattle.signed_bounds.specs.declared.signed.Signed.{Signed}
use Rattle.signed_within.specs.declared.product.Product.{Product}

-- the bounds that references refer to
abbrev pub signed_at : List (Bor Signed) → List plain.Signed
signed_at refs = map (λ r. signed_of r.now) refs

-- a product of plain bounds
abbrev pub product_of : Product → products.Product
product_of p = record { times = p.times; factors = signed_at p.factors.items }

-- products of plain bounds
abbrev pub products_at : List Product → List products.Product
products_at ps = map product_of ps

-- the factors of each product, as often as the number at its position says
abbrev pub counted : List Product → List ℕ → List products.Product
counted [] ns = []
counted (p ∷ ps) [] = []
counted (p ∷ ps) (n ∷ ns) = record { times = n; factors = signed_at p.factors.items } ∷ counted ps ns

-- the number of each product
abbrev pub times_of : List Product → List ℕ
times_of ps = map (λ p. p.times) ps
