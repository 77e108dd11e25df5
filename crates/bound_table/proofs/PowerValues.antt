-- The cases that evaluate, shift and merge powers keep the value.
use Rattle.std.proofs.Common.{◌≡◌, ℕ, ◌+◌, ◌*◌, ◌^◌, ◌≤◌, nat_le, Bool, true, false, cond, List, [], ◌∷◌}
use Rattle.std.proofs.Common.{Option, Some, None, refl, ap, sym, ◌∙◌, subst, arith}
use Rattle.std.proofs.lemmas.Bool.{eqb-true, leb-true}
use Rattle.std.proofs.lemmas.Nat.{pow-add}
use Rattle.bound_expr.specs.model.Bounds.{Bound, Constant, Input, SumOf, ProductOf, MaximumOf, PowerOf, val}
use Rattle.bound_expr.specs.Views.{list_of}
use Rattle.bound_expr.specs.Limits.{constant_limit}
use Rattle.bound_table.specs.declared.kinds.Kind.{Kind}
use Rattle.bound_table.specs.declared.kinds.Kind.TheVariants.{AsSum, AsProd, AsMax}
use Rattle.bound_table.specs.Folding.{parts_of_kind}
use Rattle.bound_table.specs.Powers.{small_power, number_of_power, number_or_power, evaluated, first_power}
use Rattle.bound_table.specs.Powers.{but_first_constant, sum_or_single, number_taken, exponent_left, times_power_left}
use Rattle.bound_table.specs.Powers.{shifted, have_one_base, exponents_of, powers_list}
use Rattle.bound_table.specs.Powers.{powers_merged}
use Rattle.bound_table.proofs.Products.{parts_at, sum_at, product_at, val_sum-list_of, val_sum-parts_of}
use Rattle.bound_table.proofs.CaseValues.{parts_at-append, parts_at-spread}
use Rattle.bound_table.proofs.PartFacts.{AreTogether}
use Rattle.bound_table.proofs.RunValues.{parts_at-runs_joined}

-- if `small_power` has a value, it is the power, and at most 2^127 - 1
pub small_power-some : (c n v : ℕ) → small_power c n ≡ Some v → (v ≡ c ^ n) × (v ≤ constant_limit)
small_power-some c n v is = go (nat_le (c ^ n) constant_limit) refl is
  where
    go : (b : Bool) → nat_le (c ^ n) constant_limit ≡ b → cond b (Some (c ^ n)) None ≡ Some v
        → (v ≡ c ^ n) × (v ≤ constant_limit)
    go true within is =
        let same : v ≡ c ^ n = cc in
        (same, subst (λ (w : ℕ). w ≤ constant_limit) (sym same) (leb-true (c ^ n) constant_limit within))
    go false within is = cc

-- if a power has a number, that is its value
pub number_of_power-some : (c : ℕ) (e : Bound) (v : ℕ) (m : List ℕ) → number_of_power c e ≡ Some v
    → (v ≡ c ^ val e m) × (v ≤ constant_limit)
number_of_power-some c (Constant n) v m is = small_power-some c n v is
number_of_power-some c (Input i) v m is = cc
number_of_power-some c (SumOf ps) v m is = cc
number_of_power-some c (ProductOf ps) v m is = cc
number_of_power-some c (MaximumOf ps) v m is = cc
number_of_power-some c (PowerOf d e) v m is = cc

-- evaluating a power keeps the value
pub val-evaluated : (c : ℕ) (e : Bound) (m : List ℕ) → val (evaluated c e) m ≡ c ^ val e m
val-evaluated c e m = go (number_of_power c e) refl
  where
    go : (o : Option ℕ) → number_of_power c e ≡ o → val (number_or_power c e o) m ≡ c ^ val e m
    go None is = refl
    go (Some v) is = (number_of_power-some c e v m is).0

-- a number and the remaining parts are the power of all parts
record HasTaken (c : ℕ) (ps : List Bound) (v : ℕ) (m : List ℕ) : Type 0 where
  taken : ℕ
  is_power : v ≡ c ^ taken
  small : v ≤ constant_limit
  sum : sum_at ps m ≡ taken + sum_at (but_first_constant ps) m

-- a part put before parts with a number taken out keeps the number taken out
HasTaken-before : (c : ℕ) (p : Bound) (ps : List Bound) (v : ℕ) (m : List ℕ) → HasTaken c ps v m
    → (n : ℕ) × (v ≡ c ^ n) × (v ≤ constant_limit) × (val p m + sum_at ps m ≡ n + (val p m + sum_at (but_first_constant ps) m))
HasTaken-before c p ps v m has = (has.taken, has.is_power, has.small, omega (arith, has.sum))

-- if the power of the first constant is taken out, the remaining parts have the remaining exponent
first_power-taken : (c : ℕ) (ps : List Bound) (v : ℕ) (m : List ℕ) → first_power c ps ≡ Some v → HasTaken c ps v m
first_power-taken c [] v m is = cc
first_power-taken c (Constant n ∷ ps) v m is =
    let some = small_power-some c n v is in
    record { taken = n; is_power = some.0; small = some.1; sum = refl }
first_power-taken c (Input i ∷ ps) v m is =
    let more = HasTaken-before c (Input i) ps v m (first_power-taken c ps v m is) in
    record { taken = more.0; is_power = more.1; small = more.2; sum = more.3 }
first_power-taken c (SumOf qs ∷ ps) v m is =
    let more = HasTaken-before c (SumOf qs) ps v m (first_power-taken c ps v m is) in
    record { taken = more.0; is_power = more.1; small = more.2; sum = more.3 }
first_power-taken c (ProductOf qs ∷ ps) v m is =
    let more = HasTaken-before c (ProductOf qs) ps v m (first_power-taken c ps v m is) in
    record { taken = more.0; is_power = more.1; small = more.2; sum = more.3 }
first_power-taken c (MaximumOf qs ∷ ps) v m is =
    let more = HasTaken-before c (MaximumOf qs) ps v m (first_power-taken c ps v m is) in
    record { taken = more.0; is_power = more.1; small = more.2; sum = more.3 }
first_power-taken c (PowerOf d e ∷ ps) v m is =
    let more = HasTaken-before c (PowerOf d e) ps v m (first_power-taken c ps v m is) in
    record { taken = more.0; is_power = more.1; small = more.2; sum = more.3 }

-- parts as a sum, or a single one, have the value of their sum
val-sum_or_single : (ps : List Bound) (m : List ℕ) → val (sum_or_single ps) m ≡ sum_at ps m
val-sum_or_single [] m = refl
val-sum_or_single (p ∷ []) m = omega arith
val-sum_or_single (p ∷ q ∷ ps) m = val_sum-parts_of (p ∷ q ∷ ps) m

-- a number that is taken out of a power is at most 2^127 - 1, and times the power that is left it is the power
pub number_taken-some : (c : ℕ) (e : Bound) (v : ℕ) (m : List ℕ) → number_taken c e ≡ Some v
    → (v * c ^ val (exponent_left e) m ≡ c ^ val e m) × (v ≤ constant_limit)
number_taken-some c (SumOf ps) v m is =
    let has = first_power-taken c (list_of ps) v m is in
    let left = sum_at (but_first_constant (list_of ps)) m in (
      ap (λ (w : ℕ). v * c ^ w) (val-sum_or_single (but_first_constant (list_of ps)) m)
          ∙ ap (λ (w : ℕ). w * c ^ left) has.is_power
          ∙ sym (pow-add c has.taken left)
          ∙ ap (λ (w : ℕ). c ^ w) (sym (val_sum-list_of ps m ∙ has.sum)),
      has.small,
    )
number_taken-some c (Constant n) v m is = cc
number_taken-some c (Input i) v m is = cc
number_taken-some c (ProductOf ps) v m is = cc
number_taken-some c (MaximumOf ps) v m is = cc
number_taken-some c (PowerOf d e) v m is = cc

-- taking a constant out of a power keeps the value
pub val-shifted : (c : ℕ) (e : Bound) (m : List ℕ) → val (shifted c e) m ≡ c ^ val e m
val-shifted c e m = go (number_taken c e) refl
  where
    go : (o : Option ℕ) → number_taken c e ≡ o → val (times_power_left c e o) m ≡ c ^ val e m
    go None is = refl
    go (Some v) is =
        let one : v * (c ^ val (exponent_left e) m * 1) ≡ v * c ^ val (exponent_left e) m = omega arith in
        one ∙ (number_taken-some c e v m is).0

-- the product of a power and powers of the same base is that base to the sum of the exponents
powers-before : (c : ℕ) (e f : Bound) (ps : List Bound) (m : List ℕ)
    → product_at (PowerOf c f ∷ ps) m ≡ c ^ sum_at (exponents_of (PowerOf c f ∷ ps)) m
    → product_at (PowerOf c e ∷ PowerOf c f ∷ ps) m ≡ c ^ sum_at (exponents_of (PowerOf c e ∷ PowerOf c f ∷ ps)) m
powers-before c e f ps m are =
    let left = sum_at (exponents_of (PowerOf c f ∷ ps)) m in
    ap (λ (w : ℕ). c ^ val e m * w) are
    ∙ sym (pow-add c (val e m) left)
    ∙ ap (λ (w : ℕ). c ^ w)
    (sym
    (parts_at-append AsSum (parts_of_kind AsSum e) (exponents_of (PowerOf c f ∷ ps)) m
    ∙ ap (λ (w : ℕ). w + left) (parts_at-spread AsSum e m)))

-- the product of powers of one base is that base to the sum of the exponents
powers-product : (c : ℕ) (e : Bound) (ps : List Bound) (m : List ℕ) → AreTogether have_one_base (PowerOf c e) ps
    → product_at (PowerOf c e ∷ ps) m ≡ c ^ sum_at (exponents_of (PowerOf c e ∷ ps)) m
powers-product c e [] m together =
    let one : c ^ val e m * 1 ≡ c ^ val e m = omega arith in
    let none : val e m + 0 ≡ val e m = omega arith in
    one
    ∙ ap (λ (w : ℕ). c ^ w)
    (sym (parts_at-append AsSum (parts_of_kind AsSum e) [] m ∙ ap (λ (w : ℕ). w + 0) (parts_at-spread AsSum e m) ∙ none))
powers-product c e (PowerOf d f ∷ ps) m together =
    let same : c ≡ d = eqb-true c d together.0 in
    let are = powers-product d f ps m together.1 in
    subst
    (λ (b : ℕ). product_at (PowerOf c e ∷ PowerOf b f ∷ ps) m ≡ c ^ sum_at (exponents_of (PowerOf c e ∷ PowerOf b f ∷ ps)) m)
    same
    (powers-before c e f ps m
    (subst (λ (b : ℕ). product_at (PowerOf b f ∷ ps) m ≡ b ^ sum_at (exponents_of (PowerOf b f ∷ ps)) m) (sym same) are))
powers-product c e (Constant n ∷ ps) m together = let no = together.0 in cc
powers-product c e (Input i ∷ ps) m together = let no = together.0 in cc
powers-product c e (SumOf qs ∷ ps) m together = let no = together.0 in cc
powers-product c e (ProductOf qs ∷ ps) m together = let no = together.0 in cc
powers-product c e (MaximumOf qs ∷ ps) m together = let no = together.0 in cc

-- the factors that replace a run of powers have the product of the run
powers_list-product : (p : Bound) (ps : List Bound) (m : List ℕ) → AreTogether have_one_base p ps
    → product_at (powers_list (p ∷ ps)) m ≡ product_at (p ∷ ps) m
powers_list-product p [] m together = refl
powers_list-product (PowerOf c e) (q ∷ qs) m together =
    let exponents = exponents_of (PowerOf c e ∷ q ∷ qs) in
    let one : c ^ sum_at exponents m * 1 ≡ c ^ sum_at exponents m = omega arith in
    ap (λ (w : ℕ). c ^ w * 1) (val_sum-parts_of exponents m) ∙ one ∙ sym (powers-product c e (q ∷ qs) m together)
powers_list-product (Constant n) (q ∷ qs) m together = refl
powers_list-product (Input i) (q ∷ qs) m together = refl
powers_list-product (SumOf ps) (q ∷ qs) m together = refl
powers_list-product (ProductOf ps) (q ∷ qs) m together = refl
powers_list-product (MaximumOf ps) (q ∷ qs) m together = refl

-- merging powers keeps the value
pub parts_at-powers_merged : (k : Kind) (ps : List Bound) (m : List ℕ)
    → parts_at k (powers_merged k ps) m ≡ parts_at k ps m
parts_at-powers_merged AsProd ps m = parts_at-runs_joined AsProd have_one_base powers_list powers_list-product ps m
parts_at-powers_merged AsSum ps m = refl
parts_at-powers_merged AsMax ps m = refl
