-- The bound that terms and factors make.
use Rattle.std.proofs.Common.{◌≡◌, ◌≢◌, ℕ, suc, ◌-◌, cond, nat_lt, Bool, true, false, not, ◌&&◌, ◌||◌, List, [], ◌∷◌}
use Rattle.std.proofs.Common.{length, None, refl, ap, ◌∙◌, arith}
use Rattle.std.specs.Prelude.{slice_get, nat_eq}
use Rattle.std.specs.Option.{option_map}
use Rattle.std.proofs.lemmas.Bool.Decides.{nat_tests}
use Rattle.text_core.specs.model.Bounds as plain
use Rattle.text_core.specs.model.Bounds.{SumOf, Parts, NoParts, Part}
use Rattle.bound_expr.specs.declared.bound.Bound.{Bound}
use Rattle.bound_expr.specs.Views.{bound_of, bounds_of, parts_of}
use Rattle.bound_text.specs.Shapes.{is_sum, is_maximum, is_leaf, is_empty, with_part}
use Rattle.bound_text.specs.ParserStates.{as_one, term_of, bound_of_parts, lone, passes, last, product_node}

-- several parts, or none, are taken as one node
pub as_one_more : (whole : Parts → plain.Bound) (xs : List Bound) → length xs ≢ 1 → as_one whole (parts_of (bounds_of xs)) ≡ whole (parts_of (bounds_of xs))
as_one_more whole [] h = refl
as_one_more whole (x ∷ []) h = absurd (h refl)
as_one_more whole (x ∷ y ∷ xs) h = refl

-- the parts made from a list are empty exactly if the list is
pub is_empty_parts : (xs : List Bound) → is_empty (parts_of (bounds_of xs)) ≡ nat_eq (length xs) 0
is_empty_parts [] = refl
is_empty_parts (x ∷ xs) = grind (arith, nat_tests)

-- a sum of terms with one more is a sum
pub as_one-with_part : (b : plain.Bound) (bs : Parts) (t : plain.Bound) → as_one SumOf (with_part (Part b bs) t) ≡ SumOf (with_part (Part b bs) t)
as_one-with_part b NoParts t = refl
as_one-with_part b (Part c bs) t = refl

-- the bound of terms and factors is a sum exactly if there are terms before, or the only factor is a sum
pub is_sum-bound_made : (ts fs : Parts) → is_sum (bound_of_parts ts fs) ≡ not (is_empty ts) || passes is_sum (lone fs)
is_sum-bound_made NoParts NoParts = refl
is_sum-bound_made NoParts (Part b NoParts) = refl
is_sum-bound_made NoParts (Part b (Part c bs)) = refl
is_sum-bound_made (Part b bs) fs = ap is_sum (as_one-with_part b bs (term_of fs))

-- the bound of terms and factors is a maximum exactly if there are no terms before, and the only factor is a maximum
pub is_maximum-bound_made : (ts fs : Parts) → is_maximum (bound_of_parts ts fs) ≡ is_empty ts && passes is_maximum (lone fs)
is_maximum-bound_made NoParts NoParts = refl
is_maximum-bound_made NoParts (Part b NoParts) = refl
is_maximum-bound_made NoParts (Part b (Part c bs)) = refl
is_maximum-bound_made (Part b bs) fs = ap is_maximum (as_one-with_part b bs (term_of fs))

-- the bound of terms and factors is a leaf exactly if there are no terms before, and the only factor is a leaf
pub is_leaf-bound_made : (ts fs : Parts) → is_leaf (bound_of_parts ts fs) ≡ is_empty ts && passes is_leaf (lone fs)
is_leaf-bound_made NoParts NoParts = refl
is_leaf-bound_made NoParts (Part b NoParts) = refl
is_leaf-bound_made NoParts (Part b (Part c bs)) = refl
is_leaf-bound_made (Part b bs) fs = ap is_leaf (as_one-with_part b bs (term_of fs))

-- rewrites the kind of bound that terms and factors make
pub ruleset kinds = (is_sum-bound_made, is_maximum-bound_made, is_leaf-bound_made)

-- the last part is the last element of the list
pub last_got : (xs : List Bound) → last (parts_of (bounds_of xs)) ≡ option_map bound_of (slice_get xs (length xs - 1))
last_got [] = refl
last_got (x ∷ []) = refl
last_got (x ∷ y ∷ xs) = last_got (y ∷ xs) ∙ ap (λ (k : ℕ). option_map bound_of (slice_get (x ∷ y ∷ xs) k)) (let e : suc (length (y ∷ xs) - 1) ≡ length (x ∷ y ∷ xs) - 1 = omega arith in e)

-- a list of parts that isn't of length one has no single part
pub lone_many : (xs : List Bound) → length xs ≢ 1 → lone (parts_of (bounds_of xs)) ≡ None
lone_many [] h = refl
lone_many (x ∷ []) h = absurd (h refl)
lone_many (x ∷ y ∷ xs) h = refl

-- a list of one part has the first part as its single part
pub lone_got : (xs : List Bound) → length xs ≡ 1 → lone (parts_of (bounds_of xs)) ≡ option_map bound_of (slice_get xs 0)
lone_got [] h = cc
lone_got (x ∷ []) h = refl
lone_got (x ∷ y ∷ xs) h = absurd (omega (arith, h))

-- factors count as a product if there are several, or a lone sum
pub makes_product : (xs : List Bound) → product_node (parts_of (bounds_of xs)) ≡ cond (nat_lt 1 (length xs) || passes is_sum (lone (parts_of (bounds_of xs)))) 1 0
makes_product [] = refl
makes_product (x ∷ []) = refl
makes_product (x ∷ y ∷ xs) = ap (λ (b : Bool). cond (b || false) 1 0) (let e : true ≡ nat_lt 1 (length (x ∷ y ∷ xs)) = grind (arith, nat_tests) in e)
