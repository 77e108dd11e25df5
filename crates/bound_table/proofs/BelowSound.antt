-- A bound that is below another has no greater value: a factor that is taken is no smaller than the one that takes it,
-- and a factor that is left is at least 1, unless it is an input that is taken too, and then both products are 0.
use Rattle.std.proofs.Common.{◌≡◌, ℕ, zero, suc, ◌+◌, ◌*◌, ◌^◌, ◌≤◌, ◌⊎◌, max, nat_le, Bool, true, false, cond, not}
use Rattle.std.proofs.Common.{◌&&◌, ◌||◌, List, [], ◌∷◌, slice_index, refl, ap, sym, ◌∙◌, inl, inr, arith}
use Rattle.std.specs.List.{list_any, list_all}
use Rattle.std.proofs.Math.Nat.{pow-le-pow_left, pow-le-pow_right, one-le-pow}
use Rattle.std.proofs.lemmas.Bool.{and_parts, eqb-true, leb-true}
use Rattle.bound_expr.specs.model.Bounds.{Bound, Constant, Input, SumOf, ProductOf, MaximumOf, PowerOf, val}
use Rattle.bound_expr.specs.model.Bounds.{IsBasedFrom, IsBased}
use Rattle.bound_expr.specs.Views.{list_of}
use Rattle.bound_expr.specs.Measure.{node_count}
use Rattle.bound_expr.specs.Kinds.{is_constant}
use Rattle.bound_table.specs.Kinds.{is_same_input, is_nest}
use Rattle.bound_table.specs.Terms.{constant_of, factors_of}
use Rattle.bound_table.specs.Below.{match_in_order, matched, leftovers, may_be_leftover, factor_below, term_below, terms_of}
use Rattle.bound_table.specs.Below.{below_one, below_step, below_within, below, IsNeverGreater}
use Rattle.bound_expr.proofs.Caps.{le-mul}
use Rattle.bound_table.proofs.Each.{Each, Each-list_of, Each-factors_of}
use Rattle.bound_table.proofs.Products.{sum_at, product_at, maximum_at, val_sum-list_of, val_maximum-list_of, val-term}

-- a test that holds only where the value is no greater at m
abbrev IsSoundAt : List ℕ → (Bound → Bound → Bool) → Type 0
IsSoundAt m related = (p q : Bound) → IsBased p → IsBased q → related p q ≡ true → val p m ≤ val q m

-- the product of all factors is that of the factors that are taken times that of the factors left over
product-taken-spare : (related : Bound → Bound → Bool) (fs gs : List Bound) (m : List ℕ)
    → match_in_order related fs gs ≡ true
    → product_at gs m ≡ product_at (matched related fs gs) m * product_at (leftovers related fs gs) m
product-taken-spare related [] gs m found = omega arith
product-taken-spare related (f ∷ fs) [] m found = cc
product-taken-spare related (f ∷ fs) (g ∷ gs) m found =
    go (related f g) found (product-taken-spare related fs gs m) (product-taken-spare related (f ∷ fs) gs m)
  where
    go : (takes : Bool) → cond takes (match_in_order related fs gs) (match_in_order related (f ∷ fs) gs) ≡ true
        → (match_in_order related fs gs ≡ true → product_at gs m ≡ product_at (matched related fs gs) m * product_at (leftovers related fs gs) m)
        → (match_in_order related (f ∷ fs) gs ≡ true → product_at gs m ≡ product_at (matched related (f ∷ fs) gs) m * product_at (leftovers related (f ∷ fs) gs) m)
        → val g m * product_at gs m
        ≡ product_at (cond takes (g ∷ matched related fs gs) (matched related (f ∷ fs) gs)) m * product_at (cond takes (leftovers related fs gs) (g ∷ leftovers related (f ∷ fs) gs)) m
    go true found ih ih' = omega (arith, ap (λ (v : ℕ). val g m * v) (ih found))
    go false found ih ih' = omega (arith, ap (λ (v : ℕ). val g m * v) (ih' found))

-- each factor is at most the one that it takes
product-le-taken : (related : Bound → Bound → Bool) (fs gs : List Bound) (m : List ℕ) → IsSoundAt m related
    → Each IsBased fs → Each IsBased gs
    → match_in_order related fs gs ≡ true → product_at fs m ≤ product_at (matched related fs gs) m
product-le-taken related [] gs m sound bf bg found = omega arith
product-le-taken related (f ∷ fs) [] m sound bf bg found = cc
product-le-taken related (f ∷ fs) (g ∷ gs) m sound bf bg found =
    go (related f g) refl found (product-le-taken related fs gs m sound bf.1 bg.1)
    (product-le-taken related (f ∷ fs) gs m sound bf bg.1)
  where
    go : (takes : Bool) → related f g ≡ takes
        → cond takes (match_in_order related fs gs) (match_in_order related (f ∷ fs) gs) ≡ true
        → (match_in_order related fs gs ≡ true → product_at fs m ≤ product_at (matched related fs gs) m)
        → (match_in_order related (f ∷ fs) gs ≡ true → product_at (f ∷ fs) m ≤ product_at (matched related (f ∷ fs) gs) m)
        → product_at (f ∷ fs) m ≤ product_at (cond takes (g ∷ matched related fs gs) (matched related (f ∷ fs) gs)) m
    go true is found ih ih' =
        le-mul (val f m) (product_at fs m) (val g m) (product_at (matched related fs gs) m) (sound f g bf.0 bg.0 is)
        (ih found)
    go false is found ih ih' = ih' found

-- if two inputs are the same, a product with the one is 0 where the other is
same_input-val : (g t : Bound) (m : List ℕ) → is_same_input g t ≡ true → val g m ≡ val t m
same_input-val (Input i) (Input j) m same = ap (λ (k : ℕ). slice_index m k) (eqb-true i j same)
same_input-val (Constant c) t m same = cc
same_input-val (SumOf ps) t m same = cc
same_input-val (ProductOf ps) t m same = cc
same_input-val (MaximumOf ps) t m same = cc
same_input-val (PowerOf c e) t m same = cc
same_input-val (Input i) (Constant c) m same = cc
same_input-val (Input i) (SumOf ps) m same = cc
same_input-val (Input i) (ProductOf ps) m same = cc
same_input-val (Input i) (MaximumOf ps) m same = cc
same_input-val (Input i) (PowerOf c e) m same = cc

-- where an input that is the same as one among the factors is 0, their product is 0
among-zero : (g : Bound) (ts : List Bound) (m : List ℕ) → list_any (is_same_input g) ts ≡ true → val g m ≡ 0
    → product_at ts m ≡ 0
among-zero g [] m any none = cc
among-zero g (t ∷ ts) m any none = go (is_same_input g t) refl any (among-zero g ts m)
  where
    go : (same : Bool) → is_same_input g t ≡ same → same || list_any (is_same_input g) ts ≡ true
        → (list_any (is_same_input g) ts ≡ true → val g m ≡ 0 → product_at ts m ≡ 0) → val t m * product_at ts m ≡ 0
    go true is any ih = ap (λ (v : ℕ). v * product_at ts m) (sym (same_input-val g t m is) ∙ none) ∙ omega arith
    go false is any ih = ap (λ (v : ℕ). val t m * v) (ih any none) ∙ omega arith

-- a factor that may be left over is at least 1, or the product of the factors that are taken is 0
spare-one : (ts : List Bound) (g : Bound) (m : List ℕ) → IsBased g → may_be_leftover ts g ≡ true
    → (1 ≤ val g m) ⊎ (product_at ts m ≡ 0)
spare-one ts (PowerOf c e) m based may = inl (one-le-pow (val e m) c based.0)
spare-one ts (Input i) m based may = go (val (Input i) m) refl
  where
    go : (v : ℕ) → val (Input i) m ≡ v → (1 ≤ val (Input i) m) ⊎ (product_at ts m ≡ 0)
    go zero is = inr (among-zero (Input i) ts m may is)
    go (suc v) is = inl (omega (arith, is))
spare-one ts (Constant c) m based may = cc
spare-one ts (SumOf ps) m based may = cc
spare-one ts (ProductOf ps) m based may = cc
spare-one ts (MaximumOf ps) m based may = cc

-- the product of the factors left over is at least 1, or that of the factors taken is 0
spares-one : (ts gs : List Bound) (m : List ℕ) → Each IsBased gs → list_all (may_be_leftover ts) gs ≡ true
    → (1 ≤ product_at gs m) ⊎ (product_at ts m ≡ 0)
spares-one ts [] m based all = inl (omega arith)
spares-one ts (g ∷ gs) m based all =
    go (spare-one ts g m based.0 (and_parts _ _ all).0) (spares-one ts gs m based.1 (and_parts _ _ all).1)
  where
    go : (1 ≤ val g m) ⊎ (product_at ts m ≡ 0) → (1 ≤ product_at gs m) ⊎ (product_at ts m ≡ 0)
        → (1 ≤ val g m * product_at gs m) ⊎ (product_at ts m ≡ 0)
    go (inl one) (inl ones) = inl (le-mul 1 1 (val g m) (product_at gs m) one ones)
    go (inl one) (inr none) = inr none
    go (inr none) ones = inr none

-- if the bases of all factors are at least 1, so are those of the factors left over
spare-based : (related : Bound → Bound → Bool) (fs gs : List Bound) → Each IsBased gs
    → Each IsBased (leftovers related fs gs)
spare-based related [] gs based = based
spare-based related (f ∷ fs) [] based = tt
spare-based related (f ∷ fs) (g ∷ gs) based =
    go (related f g) (spare-based related fs gs based.1) (spare-based related (f ∷ fs) gs based.1)
  where
    go : (takes : Bool) → Each IsBased (leftovers related fs gs) → Each IsBased (leftovers related (f ∷ fs) gs)
        → Each IsBased (cond takes (leftovers related fs gs) (g ∷ leftovers related (f ∷ fs) gs))
    go true ih ih' = ih
    go false ih ih' = (based.0, ih')

-- factors that each take one of the others have a product of at most that of the others
factors-le : (related : Bound → Bound → Bool) (fs gs : List Bound) (m : List ℕ) → IsSoundAt m related → Each IsBased fs
    → Each IsBased gs
    → match_in_order related fs gs ≡ true → list_all (may_be_leftover (matched related fs gs)) (leftovers related fs gs) ≡ true
    → product_at fs m ≤ product_at gs m
factors-le related fs gs m sound bf bg found all =
    go (spares-one (matched related fs gs) (leftovers related fs gs) m (spare-based related fs gs bg) all)
  where
    less : product_at fs m ≤ product_at (matched related fs gs) m
    less = product-le-taken related fs gs m sound bf bg found

    go : (1 ≤ product_at (leftovers related fs gs) m) ⊎ (product_at (matched related fs gs) m ≡ 0)
        → product_at fs m ≤ product_at gs m
    go (inl ones) =
        omega (
          arith,
          less,
          product-taken-spare related fs gs m found,
          le-mul (product_at (matched related fs gs) m) 1 (product_at (matched related fs gs) m)
              (product_at (leftovers related fs gs) m) (omega arith) ones,
        )
    go (inr none) = omega (arith, less, none)

-- a power of no greater base and no greater exponent is no greater
powers-le : (c e d f : ℕ) → 1 ≤ c → c ≤ d → e ≤ f → c ^ e ≤ d ^ f
powers-le c e d f one bases exponents =
    omega (arith, pow-le-pow_left bases e, pow-le-pow_right {n = d} (omega arith) exponents)

-- the test on factors is sound if that on bounds is
factor_below-sound : (smaller : Bound → Bound → Bool) (m : List ℕ) → IsSoundAt m smaller
    → IsSoundAt m (factor_below smaller)
factor_below-sound smaller m sound (Input i) (Input j) bp bq holds =
    omega (arith, same_input-val (Input i) (Input j) m holds)
factor_below-sound smaller m sound (PowerOf c e) (PowerOf d f) bp bq holds =
    powers-le c (val e m) d (val f m) bp.0 (leb-true c d (and_parts _ _ holds).0)
    (sound e f bp.1 bq.1 (and_parts _ _ holds).1)
factor_below-sound smaller m sound p q bp bq holds =
    sound p q bp bq (and_parts (is_nest p || is_nest q) (smaller p q) holds).1

-- the test on parts of a sum is sound if that on bounds is: constants and factors are compared
term_below-sound : (smaller : Bound → Bound → Bool) (m : List ℕ) → IsSoundAt m smaller
    → IsSoundAt m (term_below smaller)
term_below-sound smaller m sound p q bp bq holds =
    let fs = factors_of p in
    let gs = factors_of q in
    let related = factor_below smaller in
    let no_constant = not (list_any is_constant fs) in
    let none_either = not (list_any is_constant gs) in
    let constant_le = nat_le (constant_of p) (constant_of q) in
    let found = match_in_order related fs gs in
    let left = list_all (may_be_leftover (matched related fs gs)) (leftovers related fs gs) in
    let four = and_parts (no_constant && none_either && constant_le && found) left holds in
    let three = and_parts (no_constant && none_either && constant_le) found four.0 in
    let two = and_parts (no_constant && none_either) constant_le three.0 in
    let product =
    factors-le related fs gs m (factor_below-sound smaller m sound) (Each-factors_of (IsBasedFrom 1) p bp) (Each-factors_of (IsBasedFrom 1) q bq) three.1 four.1 in
    omega (
      arith,
      val-term p m,
      val-term q m,
      le-mul (constant_of p) (product_at fs m) (constant_of q) (product_at gs m)
          (leb-true (constant_of p) (constant_of q) two.1) product,
    )

-- parts that each take one of the others have a sum of at most that of the others
match_in_order-sum : (related : Bound → Bound → Bool) (ps qs : List Bound) (m : List ℕ) → IsSoundAt m related
    → Each IsBased ps → Each IsBased qs
    → match_in_order related ps qs ≡ true → sum_at ps m ≤ sum_at qs m
match_in_order-sum related [] qs m sound bp bq found = omega arith
match_in_order-sum related (p ∷ ps) [] m sound bp bq found = cc
match_in_order-sum related (p ∷ ps) (q ∷ qs) m sound bp bq found =
    go (related p q) refl found (match_in_order-sum related ps qs m sound bp.1 bq.1)
    (match_in_order-sum related (p ∷ ps) qs m sound bp bq.1)
  where
    go : (takes : Bool) → related p q ≡ takes
        → cond takes (match_in_order related ps qs) (match_in_order related (p ∷ ps) qs) ≡ true
        → (match_in_order related ps qs ≡ true → sum_at ps m ≤ sum_at qs m)
        → (match_in_order related (p ∷ ps) qs ≡ true → sum_at (p ∷ ps) m ≤ sum_at qs m)
        → sum_at (p ∷ ps) m ≤ sum_at (q ∷ qs) m
    go true is found ih ih' = omega (arith, sound p q bp.0 bq.0 is, ih found)
    go false is found ih ih' = omega (arith, ih' found)

-- a bound is the sum of its parts
terms-sum : (b : Bound) (m : List ℕ) → sum_at (terms_of b) m ≡ val b m
terms-sum (SumOf ps) m = sym (val_sum-list_of ps m)
terms-sum (Constant c) m = omega arith
terms-sum (Input i) m = omega arith
terms-sum (ProductOf ps) m = omega arith
terms-sum (MaximumOf ps) m = omega arith
terms-sum (PowerOf c e) m = omega arith

-- the parts of a bound whose bases are at least 1 have such bases
terms-based : (b : Bound) → IsBased b → Each IsBased (terms_of b)
terms-based (SumOf ps) based = Each-list_of (IsBasedFrom 1) ps based.1
terms-based (Constant c) based = (based, tt)
terms-based (Input i) based = (based, tt)
terms-based (ProductOf ps) based = (based, tt)
terms-based (MaximumOf ps) based = (based, tt)
terms-based (PowerOf c e) based = (based, tt)

-- a sum whose parts each take a part of another sum is no greater than it
terms-le : (smaller : Bound → Bound → Bool) (m : List ℕ) → IsSoundAt m smaller → (a b : Bound) → IsBased a → IsBased b
    → match_in_order (term_below smaller) (terms_of a) (terms_of b) ≡ true → val a m ≤ val b m
terms-le smaller m sound a b ba bb found =
    omega (
      arith,
      terms-sum a m,
      terms-sum b m,
      match_in_order-sum (term_below smaller) (terms_of a) (terms_of b) m (term_below-sound smaller m sound)
          (terms-based a ba) (terms-based b bb) found,
    )

-- a bound below a part of a maximum is no greater than that
any-le : (smaller : Bound → Bound → Bool) (a : Bound) (qs : List Bound) (m : List ℕ) → IsSoundAt m smaller → IsBased a
    → Each IsBased qs
    → list_any (λ q. smaller a q) qs ≡ true → val a m ≤ maximum_at qs m
any-le smaller a [] m sound ba bq any = cc
any-le smaller a (q ∷ qs) m sound ba bq any = go (smaller a q) refl any (any-le smaller a qs m sound ba bq.1)
  where
    go : (is : Bool) → smaller a q ≡ is → is || list_any (λ q. smaller a q) qs ≡ true
        → (list_any (λ q. smaller a q) qs ≡ true → val a m ≤ maximum_at qs m)
        → val a m ≤ max (val q m) (maximum_at qs m)
    go true is any ih = omega (arith, sound a q ba bq.0 is)
    go false is any ih = omega (arith, ih any)

-- a maximum whose parts are all below a bound is no greater than the bound
all-le : (smaller : Bound → Bound → Bool) (ps : List Bound) (b : Bound) (m : List ℕ) → IsSoundAt m smaller
    → Each IsBased ps → IsBased b
    → list_all (λ p. smaller p b) ps ≡ true → maximum_at ps m ≤ val b m
all-le smaller [] b m sound bp bb all = omega arith
all-le smaller (p ∷ ps) b m sound bp bb all =
    let both = and_parts (smaller p b) (list_all (λ p. smaller p b) ps) all in
    omega (arith, sound p b bp.0 bb both.0, all-le smaller ps b m sound bp.1 bb both.1)

-- the test on a bound that is no maximum is sound
below_one-sound : (smaller : Bound → Bound → Bool) (m : List ℕ) → IsSoundAt m smaller → IsSoundAt m (below_one smaller)
below_one-sound smaller m sound a (MaximumOf qs) ba bb holds =
    omega (arith, val_maximum-list_of qs m, any-le smaller a (list_of qs) m sound ba (Each-list_of (IsBasedFrom 1) qs bb.1) holds)
below_one-sound smaller m sound a (Constant c) ba bb holds = terms-le smaller m sound a (Constant c) ba bb holds
below_one-sound smaller m sound a (Input i) ba bb holds = terms-le smaller m sound a (Input i) ba bb holds
below_one-sound smaller m sound a (SumOf qs) ba bb holds = terms-le smaller m sound a (SumOf qs) ba bb holds
below_one-sound smaller m sound a (ProductOf qs) ba bb holds = terms-le smaller m sound a (ProductOf qs) ba bb holds
below_one-sound smaller m sound a (PowerOf c e) ba bb holds = terms-le smaller m sound a (PowerOf c e) ba bb holds

-- one level of the test is sound
below_step-sound : (smaller : Bound → Bound → Bool) (m : List ℕ) → IsSoundAt m smaller
    → IsSoundAt m (below_step smaller)
below_step-sound smaller m sound (Constant zero) b ba bb holds = omega arith
below_step-sound smaller m sound (Constant (suc c)) b ba bb holds =
    below_one-sound smaller m sound (Constant (suc c)) b ba bb holds
below_step-sound smaller m sound (MaximumOf ps) b ba bb holds =
    omega (arith, val_maximum-list_of ps m, all-le smaller (list_of ps) b m sound (Each-list_of (IsBasedFrom 1) ps ba.1) bb holds)
below_step-sound smaller m sound (Input i) b ba bb holds = below_one-sound smaller m sound (Input i) b ba bb holds
below_step-sound smaller m sound (SumOf ps) b ba bb holds = below_one-sound smaller m sound (SumOf ps) b ba bb holds
below_step-sound smaller m sound (ProductOf ps) b ba bb holds =
    below_one-sound smaller m sound (ProductOf ps) b ba bb holds
below_step-sound smaller m sound (PowerOf c e) b ba bb holds =
    below_one-sound smaller m sound (PowerOf c e) b ba bb holds

-- any number of levels of the test are sound
below_within-sound : (n : ℕ) (m : List ℕ) → IsSoundAt m (λ p q. below_within n p q)
below_within-sound zero m a b ba bb holds = cc
below_within-sound (suc n) m a b ba bb holds =
    below_step-sound (λ p q. below_within n p q) m (below_within-sound n m) a b ba bb holds

-- the test `below` is sound: it holds only if the first bound is never greater
pub below-sound : (a b : Bound) → IsBased a → IsBased b → below a b ≡ true → IsNeverGreater a b
unfolding below
below-sound a b ba bb holds = record { each = λ m. below_within-sound (node_count a + node_count b) m a b ba bb holds }
