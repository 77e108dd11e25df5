-- A property of each part holds of each of those that the cases of powers and of distribution choose among them.
use Rattle.std.proofs.Common.{List, [], ◌∷◌}
use Rattle.bound_expr.specs.model.Bounds.{Bound, Constant, Input, SumOf, ProductOf, MaximumOf, PowerOf, Parts}
use Rattle.bound_expr.specs.Views.{list_of}
use Rattle.bound_table.specs.Powers.{but_first_constant, exponent_of, exponents_of}
use Rattle.bound_table.specs.Distribution.{before_sum, parts_of_sum, after_sum}
use Rattle.bound_table.proofs.Each.{Each, Each-append}

-- a property of each part holds of each of the parts but the first constant
pub Each-but_first_constant : (P : Bound → Type 0) (ps : List Bound) → Each P ps → Each P (but_first_constant ps)
Each-but_first_constant P [] each = tt
Each-but_first_constant P (Constant n ∷ ps) each = each.1
Each-but_first_constant P (Input i ∷ ps) each = (each.0, Each-but_first_constant P ps each.1)
Each-but_first_constant P (SumOf qs ∷ ps) each = (each.0, Each-but_first_constant P ps each.1)
Each-but_first_constant P (ProductOf qs ∷ ps) each = (each.0, Each-but_first_constant P ps each.1)
Each-but_first_constant P (MaximumOf qs ∷ ps) each = (each.0, Each-but_first_constant P ps each.1)
Each-but_first_constant P (PowerOf c e ∷ ps) each = (each.0, Each-but_first_constant P ps each.1)

-- a property holds of all exponents of powers if it holds of the exponent of each power
pub Each-exponents_of : (P Q : Bound → Type 0) → ((p : Bound) → P p → Each Q (exponent_of p)) → (ps : List Bound)
    → Each P ps → Each Q (exponents_of ps)
Each-exponents_of P Q one [] each = tt
Each-exponents_of P Q one (p ∷ ps) each =
    Each-append Q (exponent_of p) (exponents_of ps) (one p each.0) (Each-exponents_of P Q one ps each.1)

-- a property of each factor holds of each factor before the first sum
pub Each-before_sum : (P : Bound → Type 0) (ps : List Bound) → Each P ps → Each P (before_sum ps)
Each-before_sum P [] each = tt
Each-before_sum P (SumOf qs ∷ ps) each = tt
Each-before_sum P (Constant n ∷ ps) each = (each.0, Each-before_sum P ps each.1)
Each-before_sum P (Input i ∷ ps) each = (each.0, Each-before_sum P ps each.1)
Each-before_sum P (ProductOf qs ∷ ps) each = (each.0, Each-before_sum P ps each.1)
Each-before_sum P (MaximumOf qs ∷ ps) each = (each.0, Each-before_sum P ps each.1)
Each-before_sum P (PowerOf c e ∷ ps) each = (each.0, Each-before_sum P ps each.1)

-- a property holds of each part of the first sum if it holds of the parts of each sum
pub Each-parts_of_sum : (P Q : Bound → Type 0) → ((qs : Parts) → P (SumOf qs) → Each Q (list_of qs)) → (ps : List Bound)
    → Each P ps → Each Q (parts_of_sum ps)
Each-parts_of_sum P Q one [] each = tt
Each-parts_of_sum P Q one (SumOf qs ∷ ps) each = one qs each.0
Each-parts_of_sum P Q one (Constant n ∷ ps) each = Each-parts_of_sum P Q one ps each.1
Each-parts_of_sum P Q one (Input i ∷ ps) each = Each-parts_of_sum P Q one ps each.1
Each-parts_of_sum P Q one (ProductOf qs ∷ ps) each = Each-parts_of_sum P Q one ps each.1
Each-parts_of_sum P Q one (MaximumOf qs ∷ ps) each = Each-parts_of_sum P Q one ps each.1
Each-parts_of_sum P Q one (PowerOf c e ∷ ps) each = Each-parts_of_sum P Q one ps each.1

-- a property of each factor holds of each factor after the first sum
pub Each-after_sum : (P : Bound → Type 0) (ps : List Bound) → Each P ps → Each P (after_sum ps)
Each-after_sum P [] each = tt
Each-after_sum P (SumOf qs ∷ ps) each = each.1
Each-after_sum P (Constant n ∷ ps) each = Each-after_sum P ps each.1
Each-after_sum P (Input i ∷ ps) each = Each-after_sum P ps each.1
Each-after_sum P (ProductOf qs ∷ ps) each = Each-after_sum P ps each.1
Each-after_sum P (MaximumOf qs ∷ ps) each = Each-after_sum P ps each.1
Each-after_sum P (PowerOf c e ∷ ps) each = Each-after_sum P ps each.1
