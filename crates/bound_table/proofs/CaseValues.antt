-- Each case keeps the value of a node.
use Rattle.std.proofs.Common.{◌≡◌, ℕ, zero, suc, ◌*◌, ◌≤◌, nat_le, Bool, true, false, cond, ◌&&◌, ◌||◌, List}
use Rattle.std.proofs.Common.{[], ◌∷◌, ◌++◌, refl, ap, sym, ◌∙◌, arith}
use Rattle.std.specs.List.{list_any, count_by}
use Rattle.std.specs.Ordering.{is_lt}
use Rattle.std.proofs.lemmas.Bool.{eqb-true, leb-true}
use Rattle.std.proofs.Math.Nat.{mul_assoc, mul_comm}
use Rattle.bound_expr.specs.model.Bounds.{Bound, Constant, Input, SumOf, ProductOf, MaximumOf, PowerOf, val}
use Rattle.bound_expr.specs.Kinds.{is_constant}
use Rattle.bound_expr.specs.Limits.{constant_limit}
use Rattle.bound_table.specs.declared.kinds.Kind.{Kind}
use Rattle.bound_table.specs.declared.kinds.Kind.TheVariants.{AsSum, AsProd, AsMax}
use Rattle.bound_table.specs.Kinds.{whole, unit_of, joined, all_joined, is_zero}
use Rattle.bound_table.specs.Folding.{parts_of_kind, spliced, constants_in, without_constants, with_one_constant}
use Rattle.bound_table.specs.Folding.{folded}
use Rattle.bound_table.specs.Folding.{zeroed, is_neutral, without_neutral, simple}
use Rattle.bound_table.specs.Sorting.{order_of, inserted, sorted}
use Rattle.bound_table.proofs.Products.{parts_at, val_sum-list_of, val_product-list_of, val_maximum-list_of}
use Rattle.bound_table.proofs.Products.{val_sum-parts_of, val_product-parts_of, val_maximum-parts_of}

-- numbers are joined in any grouping
joined-assoc : (k : Kind) (a b c : ℕ) → joined k (joined k a b) c ≡ joined k a (joined k b c)
joined-assoc AsSum a b c = omega arith
joined-assoc AsProd a b c = mul_assoc a b c
joined-assoc AsMax a b c = omega arith

-- joining is commutative
joined-comm : (k : Kind) (a b : ℕ) → joined k a b ≡ joined k b a
joined-comm AsSum a b = omega arith
joined-comm AsProd a b = mul_comm a b
joined-comm AsMax a b = omega arith

-- joining the unit of a kind to a number doesn't change it
pub joined-unit : (k : Kind) (a : ℕ) → joined k a (unit_of k) ≡ a
joined-unit AsSum a = omega arith
joined-unit AsProd a = omega arith
joined-unit AsMax a = omega arith

-- joining the unit before a number changes nothing
unit-joined : (k : Kind) (a : ℕ) → joined k (unit_of k) a ≡ a
unit-joined AsSum a = omega arith
unit-joined AsProd a = omega arith
unit-joined AsMax a = omega arith

-- two numbers change places before a third
joined-swap : (k : Kind) (a b c : ℕ) → joined k a (joined k b c) ≡ joined k b (joined k a c)
joined-swap k a b c =
    sym (joined-assoc k a b c) ∙ ap (λ (v : ℕ). joined k v c) (joined-comm k a b) ∙ joined-assoc k b a c

-- the value of a node of a kind is that of its parts, joined as the kind joins them
pub val-whole : (k : Kind) (ps : List Bound) (m : List ℕ) → val (whole k ps) m ≡ parts_at k ps m
val-whole AsSum ps m = val_sum-parts_of ps m
val-whole AsProd ps m = val_product-parts_of ps m
val-whole AsMax ps m = val_maximum-parts_of ps m

-- the value of two lists of parts is that of the two joined
pub parts_at-append : (k : Kind) (ps qs : List Bound) (m : List ℕ)
    → parts_at k (ps ++ qs) m ≡ joined k (parts_at k ps m) (parts_at k qs m)
parts_at-append k [] qs m = sym (unit-joined k (parts_at k qs m))
parts_at-append k (p ∷ ps) qs m =
    ap (joined k (val p m)) (parts_at-append k ps qs m)
    ∙ sym (joined-assoc k (val p m) (parts_at k ps m) (parts_at k qs m))

-- the case Flat: a part and its own parts of the kind have the same value
pub parts_at-spread : (k : Kind) (p : Bound) (m : List ℕ) → parts_at k (parts_of_kind k p) m ≡ val p m
parts_at-spread AsSum (SumOf ps) m = sym (val_sum-list_of ps m)
parts_at-spread AsProd (ProductOf ps) m = sym (val_product-list_of ps m)
parts_at-spread AsMax (MaximumOf ps) m = sym (val_maximum-list_of ps m)
parts_at-spread k p m = joined-unit k (val p m)

-- splicing keeps the value
pub parts_at-spliced : (k : Kind) (ps : List Bound) (m : List ℕ) → parts_at k (spliced k ps) m ≡ parts_at k ps m
parts_at-spliced k [] m = refl
parts_at-spliced k (p ∷ ps) m =
    parts_at-append k (parts_of_kind k p) (spliced k ps) m
    ∙ ap (λ (v : ℕ). joined k v (parts_at k (spliced k ps) m)) (parts_at-spread k p m)
    ∙ ap (joined k (val p m)) (parts_at-spliced k ps m)

-- the case FoldConst: the value of the parts is that of their constants joined with that of the others
parts_at-constants : (k : Kind) (ps : List Bound) (m : List ℕ)
    → parts_at k ps m ≡ joined k (all_joined k (constants_in ps)) (parts_at k (without_constants ps) m)
parts_at-constants k [] m = sym (joined-unit k (unit_of k))
parts_at-constants k (Constant c ∷ ps) m =
    ap (joined k c) (parts_at-constants k ps m)
    ∙ sym (joined-assoc k c (all_joined k (constants_in ps)) (parts_at k (without_constants ps) m))
parts_at-constants k (p ∷ ps) m =
    ap (joined k (val p m)) (parts_at-constants k ps m)
    ∙ joined-swap k (val p m) (all_joined k (constants_in ps)) (parts_at k (without_constants ps) m)

-- with one constant in place of all, the value is that of the constant and the other parts
parts_at-with_one_constant : (k : Kind) (c : ℕ) (ps : List Bound) (m : List ℕ) → 1 ≤ count_by is_constant ps
    → parts_at k (with_one_constant c ps) m ≡ joined k c (parts_at k (without_constants ps) m)
parts_at-with_one_constant k c [] m some = absurd (omega arith)
parts_at-with_one_constant k c (Constant d ∷ ps) m some = refl
parts_at-with_one_constant k c (p ∷ ps) m some =
    ap (joined k (val p m)) (parts_at-with_one_constant k c ps m (omega (arith, some)))
    ∙ joined-swap k (val p m) c (parts_at k (without_constants ps) m)

-- folding keeps the value
pub parts_at-folded : (k : Kind) (ps : List Bound) (m : List ℕ) → parts_at k (folded k ps) m ≡ parts_at k ps m
parts_at-folded k ps m =
    go (nat_le 2 (count_by is_constant ps)) (nat_le (all_joined k (constants_in ps)) constant_limit) refl
  where
    go : (many small : Bool) → nat_le 2 (count_by is_constant ps) ≡ many
        → parts_at k (cond (many && small) (with_one_constant (all_joined k (constants_in ps)) ps) ps) m
        ≡ parts_at k ps m
    go true true is =
        parts_at-with_one_constant k (all_joined k (constants_in ps)) ps m
        (omega (arith, leb-true 2 (count_by is_constant ps) is))
        ∙ sym (parts_at-constants k ps m)
    go true false is = refl
    go false small is = refl

-- the case ZeroProduct: a product with a part 0 is 0
parts_at-zero : (ps : List Bound) (m : List ℕ) → list_any is_zero ps ≡ true → parts_at AsProd ps m ≡ 0
parts_at-zero [] m any = cc
parts_at-zero (p ∷ ps) m any = go (is_zero p) refl any (parts_at-zero ps m)
  where
    zero-val : (p : Bound) → is_zero p ≡ true → val p m ≡ 0
    zero-val (Constant zero) is = refl
    zero-val (Constant (suc c)) is = cc
    zero-val (Input i) is = cc
    zero-val (SumOf qs) is = cc
    zero-val (ProductOf qs) is = cc
    zero-val (MaximumOf qs) is = cc
    zero-val (PowerOf c e) is = cc

    go : (b : Bool) → is_zero p ≡ b → b || list_any is_zero ps ≡ true
        → (list_any is_zero ps ≡ true → parts_at AsProd ps m ≡ 0) → val p m * parts_at AsProd ps m ≡ 0
    go true is any ih = ap (λ (v : ℕ). v * parts_at AsProd ps m) (zero-val p is) ∙ omega arith
    go false is any ih = ap (λ (v : ℕ). val p m * v) (ih any) ∙ omega arith

-- making a product 0 keeps the value
pub val-zeroed : (k : Kind) (ps : List Bound) (m : List ℕ) → val (zeroed k ps) m ≡ parts_at k ps m
val-zeroed AsSum ps m = val-whole AsSum ps m
val-zeroed AsMax ps m = val-whole AsMax ps m
val-zeroed AsProd ps m = go (list_any is_zero ps) refl
  where
    go : (b : Bool) → list_any is_zero ps ≡ b → val (cond b (Constant 0) (whole AsProd ps)) m ≡ parts_at AsProd ps m
    go true is = sym (parts_at-zero ps m is)
    go false is = val-whole AsProd ps m

-- the case Neutral: a neutral part has the value of the unit
neutral-val : (k : Kind) (p : Bound) (m : List ℕ) → is_neutral k p ≡ true → val p m ≡ unit_of k
neutral-val k (Constant c) m is = eqb-true c (unit_of k) is
neutral-val k (Input i) m is = cc
neutral-val k (SumOf qs) m is = cc
neutral-val k (ProductOf qs) m is = cc
neutral-val k (MaximumOf qs) m is = cc
neutral-val k (PowerOf c e) m is = cc

-- dropping what changes nothing keeps the value
pub parts_at-without_neutral : (k : Kind) (ps : List Bound) (m : List ℕ)
    → parts_at k (without_neutral k ps) m ≡ parts_at k ps m
parts_at-without_neutral k [] m = refl
parts_at-without_neutral k (p ∷ ps) m = go (is_neutral k p) refl (parts_at-without_neutral k ps m)
  where
    go : (b : Bool) → is_neutral k p ≡ b → parts_at k (without_neutral k ps) m ≡ parts_at k ps m
        → parts_at k (cond b (without_neutral k ps) (p ∷ without_neutral k ps)) m ≡ joined k (val p m) (parts_at k ps m)
    go true is ih =
        ih ∙ sym (ap (λ (v : ℕ). joined k v (parts_at k ps m)) (neutral-val k p m is) ∙ unit-joined k (parts_at k ps m))
    go false is ih = ap (joined k (val p m)) ih

-- the case Order: inserting a part keeps the value
parts_at-inserted : (k : Kind) (p : Bound) (ps : List Bound) (m : List ℕ)
    → parts_at k (inserted k p ps) m ≡ joined k (val p m) (parts_at k ps m)
parts_at-inserted k p [] m = refl
parts_at-inserted k p (q ∷ ps) m = go (is_lt (order_of k q p)) (parts_at-inserted k p ps m)
  where
    go : (b : Bool) → parts_at k (inserted k p ps) m ≡ joined k (val p m) (parts_at k ps m)
        → parts_at k (cond b (q ∷ inserted k p ps) (p ∷ q ∷ ps)) m
        ≡ joined k (val p m) (joined k (val q m) (parts_at k ps m))
    go true ih = ap (joined k (val q m)) ih ∙ joined-swap k (val q m) (val p m) (parts_at k ps m)
    go false ih = refl

-- sorting keeps the value
pub parts_at-sorted : (k : Kind) (ps : List Bound) (m : List ℕ) → parts_at k (sorted k ps) m ≡ parts_at k ps m
parts_at-sorted k [] m = refl
parts_at-sorted k (p ∷ ps) m = parts_at-inserted k p (sorted k ps) m ∙ ap (joined k (val p m)) (parts_at-sorted k ps m)

-- the case Few: a node without parts or with a single part keeps its value when it is simplified
pub val-simple : (k : Kind) (ps : List Bound) (m : List ℕ) → val (simple k ps) m ≡ parts_at k ps m
val-simple k [] m = refl
val-simple k (p ∷ []) m = sym (joined-unit k (val p m))
val-simple k (p ∷ q ∷ ps) m = val-whole k (p ∷ q ∷ ps) m
