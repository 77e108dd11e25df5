-- The rows of squares hold where the unknowns of updates have the values of the updates.
use Rattle.std.proofs.Common.{◌≡◌, ℕ, zero, suc, ◌+◌, ◌<◌, ◌≤◌, Bool, true, false, List, [], ◌∷◌, ◌++◌, length, map, refl, sym}
use Rattle.std.proofs.Common.{◌∙◌, ap, subst, get_or, Option, Some, None, arith}
use Rattle.std.specs.Prelude.{ℤ, pos, negsuc, ◌+ℤ◌, ◌-ℤ◌, ◌*ℤ◌, neg_ℤ, ◌≤ℤ◌, slice_index_or, nat_lt, ◌==◌, ◌&&◌, if◌then◌else◌}
use Rattle.std.specs.List.{AllByRecursion}
use Rattle.std.proofs.lemmas.Int.{ints}
use Rattle.std.proofs.lemmas.Bool.{eqb-true}
use Rattle.std.proofs.lemmas.List.{append_assoc, length-append, get_or_at}
use Rattle.guard_prep.specs.model.Terms.{Term, Variable, value}
use Rattle.guard_prep.specs.model.Polynomials.{Monomial, Polynomial, product_value, monomial_value, polynomial_value}
use Rattle.guard_prep.specs.its_model.Valid.{IsValidTerm}
use Rattle.guard_prep.specs.Prepared.{is_nonlinear}
use Rattle.guard_prep.specs.Laws.{nonlinear_values}
use Rattle.guard_prep.specs.poly_terms.Checked.{ReadsBelow}
use Rattle.guard_prep.specs.poly_terms.Expanding.{expanded}
use Rattle.guard_prep.proofs.poly_terms.Values.{expanded-value}
use Rattle.guard_prep.proofs.int_laws.OrderLaws.{mul-nonneg_ℤ}
use Rattle.guard_prep.specs.poly_terms.int_laws.Polynomial.{variable, constant, ◌⊕◌, ◌⊖◌, ◌⊗◌, negated}
use Rattle.guard_prep.proofs.int_laws.Identities.{identity}
use Rattle.potential_nodes.specs.Certificates.{RowsHoldAt}
use Rattle.potential_nodes.specs.PolynomialTerms.{form_term}
use Rattle.potential_nodes.proofs.TermLaws.{form-value}
use Rattle.potential_ground.specs.SquareRows.{is_affine, affine_part, Square, square_of, square_in, Line, line}
use Rattle.potential_ground.specs.SquareRows.{lines_below, signed, square_row, rows_with, rows_of_update, square_rows}

-- rows hold that are appended to rows that hold
pub rows-append : (xs ys : List Term) (z : List ℤ) → RowsHoldAt xs z → RowsHoldAt ys z → RowsHoldAt (xs ++ ys) z
rows-append [] ys z h k = k
rows-append (x ∷ xs) ys z (first, others) k = (first, rows-append xs ys z others k)

-- an integer times the one before it is at least 0
times-before : (x : ℤ) → pos 0 ≤ℤ (x *ℤ (x -ℤ pos 1))
times-before (pos zero) = omega (arith, ints)
times-before (pos (suc n)) = mul-nonneg_ℤ (pos (suc n)) (pos (suc n) -ℤ pos 1) (omega (arith, ints)) (omega (arith, ints))
times-before (negsuc n) =
    subst (λ (v : ℤ). pos 0 ≤ℤ v)
    (identity (negsuc n ∷ []) (negated (variable 0) ⊗ (constant (pos 1) ⊖ variable 0))
    (variable 0 ⊗ (variable 0 ⊖ constant (pos 1))) refl)
    (mul-nonneg_ℤ (neg_ℤ (negsuc n)) (pos 1 -ℤ negsuc n) (omega (arith, ints)) (omega (arith, ints)))

-- a square is at least 0
square-nonneg : (x : ℤ) → pos 0 ≤ℤ (x *ℤ x)
square-nonneg (pos n) = mul-nonneg_ℤ (pos n) (pos n) (omega (arith, ints)) (omega (arith, ints))
square-nonneg (negsuc n) =
    subst (λ (v : ℤ). pos 0 ≤ℤ v)
    (identity (negsuc n ∷ []) (negated (variable 0) ⊗ negated (variable 0)) (variable 0 ⊗ variable 0) refl)
    (mul-nonneg_ℤ (neg_ℤ (negsuc n)) (neg_ℤ (negsuc n)) (omega (arith, ints)) (omega (arith, ints)))

-- the value of a line at an integer
abbrev line_value : Line → ℤ → ℤ
line_value l x = l.slope *ℤ x +ℤ l.offset

-- a line is at most the square of an integer
abbrev IsBelow : ℤ → Line → Type 0
IsBelow x l = pos 0 ≤ℤ (x *ℤ x -ℤ line_value l x)

-- all lines are
lines-below : (x : ℤ) → AllByRecursion (IsBelow x) lines_below
lines-below x = (flat, (up, (down, (steep_up, (steep_down, tt)))))
  where
    flat : IsBelow x (line (pos 0) (pos 0))
    flat =
        subst (λ (v : ℤ). pos 0 ≤ℤ v)
        (identity (x ∷ []) (variable 0 ⊗ variable 0)
        (variable 0 ⊗ variable 0 ⊖ (constant (pos 0) ⊗ variable 0 ⊕ constant (pos 0))) refl) (square-nonneg x)

    up : IsBelow x (line (pos 1) (pos 0))
    up =
        subst (λ (v : ℤ). pos 0 ≤ℤ v)
        (identity (x ∷ []) (variable 0 ⊗ (variable 0 ⊖ constant (pos 1)))
        (variable 0 ⊗ variable 0 ⊖ (constant (pos 1) ⊗ variable 0 ⊕ constant (pos 0))) refl) (times-before x)

    down : IsBelow x (line (negsuc 0) (pos 0))
    down =
        subst (λ (v : ℤ). pos 0 ≤ℤ v)
        (identity (x ∷ []) (negated (variable 0) ⊗ (negated (variable 0) ⊖ constant (pos 1)))
        (variable 0 ⊗ variable 0 ⊖ (constant (negsuc 0) ⊗ variable 0 ⊕ constant (pos 0))) refl) (times-before (neg_ℤ x))

    steep_up : IsBelow x (line (pos 2) (negsuc 0))
    steep_up =
        subst (λ (v : ℤ). pos 0 ≤ℤ v)
        (identity (x ∷ []) ((variable 0 ⊖ constant (pos 1)) ⊗ (variable 0 ⊖ constant (pos 1)))
        (variable 0 ⊗ variable 0 ⊖ (constant (pos 2) ⊗ variable 0 ⊕ constant (negsuc 0))) refl)
        (square-nonneg (x -ℤ pos 1))

    steep_down : IsBelow x (line (negsuc 1) (negsuc 0))
    steep_down =
        subst (λ (v : ℤ). pos 0 ≤ℤ v)
        (identity (x ∷ []) ((variable 0 ⊕ constant (pos 1)) ⊗ (variable 0 ⊕ constant (pos 1)))
        (variable 0 ⊗ variable 0 ⊖ (constant (negsuc 1) ⊗ variable 0 ⊕ constant (negsuc 0))) refl)
        (square-nonneg (x +ℤ pos 1))

-- an affine polynomial has the value of its affine part
affine-value : (p : Polynomial) (z : List ℤ) → is_affine p ≡ true
    → polynomial_value (affine_part p) z ≡ polynomial_value p z
affine-value [] z h = refl
affine-value (m ∷ ms) z h = go (nat_lt (length m.vars) 2) h (affine-value ms z)
  where
    go : (v : Bool) → (v && is_affine ms) ≡ true
        → (is_affine ms ≡ true → polynomial_value (affine_part ms) z ≡ polynomial_value ms z)
        → polynomial_value (if v then m ∷ affine_part ms else affine_part ms) z
        ≡ monomial_value m z +ℤ polynomial_value ms z
    go true h ih = ap (λ (v : ℤ). monomial_value m z +ℤ v) (ih h)
    go false h ih = absurd (wrong h)
      where
        wrong : false ≡ true → ⊥
        wrong e = cc

-- the value of variable v
abbrev value_at : List ℤ → ℕ → ℤ
value_at z v = slice_index_or z v (pos 0)

-- a number times a product that is a square has the value of the number times the square
square_of-value : (c : ℤ) (vars : List ℕ) (s : Square) (z : List ℤ) → square_of c vars ≡ Some s
    → c *ℤ product_value vars z ≡ s.coef *ℤ (value_at z s.variable *ℤ value_at z s.variable)
square_of-value c [] s z h = absurd (none_is h)
  where
    none_is : None ≡ Some s → ⊥
    none_is e = cc
square_of-value c (v ∷ []) s z h = absurd (none_is h)
  where
    none_is : None ≡ Some s → ⊥
    none_is e = cc
square_of-value c (v ∷ w ∷ []) s z h = go (v == w) refl h
  where
    none_is : None ≡ Some s → ⊥
    none_is e = cc

    some_is : (a b : Square) → Some a ≡ Some b → a ≡ b
    some_is a b e = cc

    go : (t : Bool) → (v == w) ≡ t → (if t then Some (record { coef = c; variable = v }) else None) ≡ Some s
        → c *ℤ product_value (v ∷ w ∷ []) z ≡ s.coef *ℤ (value_at z s.variable *ℤ value_at z s.variable)
    go true e h =
        ap (λ (u : ℕ). c *ℤ (value_at z v *ℤ (value_at z u *ℤ pos 1))) (sym (eqb-true v w e))
        ∙ (identity (c ∷ value_at z v ∷ []) (variable 0 ⊗ (variable 1 ⊗ (variable 1 ⊗ constant (pos 1))))
        (variable 0 ⊗ (variable 1 ⊗ variable 1)) refl
        ∙ ap (λ (r : Square). r.coef *ℤ (value_at z r.variable *ℤ value_at z r.variable)) (some_is _ _ h))
    go false e h = absurd (none_is h)
square_of-value c (v ∷ w ∷ x ∷ vars) s z h = absurd (none_is h)
  where
    none_is : None ≡ Some s → ⊥
    none_is e = cc

-- the number times the square of variable v
abbrev square_value : Square → List ℤ → ℤ
square_value s z = s.coef *ℤ (value_at z s.variable *ℤ value_at z s.variable)

-- a polynomial that is affine but for a square has the value of its affine part plus that of the square
square_in-value : (p : Polynomial) (s : Square) (z : List ℤ) → square_in p ≡ Some s
    → polynomial_value p z ≡ polynomial_value (affine_part p) z +ℤ square_value s z
square_in-value [] s z h = absurd (none_is h)
  where
    none_is : None ≡ Some s → ⊥
    none_is e = cc
square_in-value (m ∷ ms) s z h = go (nat_lt (length m.vars) 2) (is_affine ms) refl h (square_in-value ms s z)
  where
    none_is : None ≡ Some s → ⊥
    none_is e = cc

    more : (x a b c : ℤ) → a ≡ b +ℤ c → x +ℤ a ≡ (x +ℤ b) +ℤ c
    more x a b c e = omega (arith, ints, e)

    turned : (a b c d : ℤ) → a ≡ c → b ≡ d → a +ℤ b ≡ d +ℤ c
    turned a b c d e f = omega (arith, ints, e, f)

    go : (v a : Bool) → is_affine ms ≡ a
        → (if v then square_in ms else (if a then square_of m.coef m.vars else None)) ≡ Some s
        → (square_in ms ≡ Some s → polynomial_value ms z ≡ polynomial_value (affine_part ms) z +ℤ square_value s z)
        → monomial_value m z +ℤ polynomial_value ms z
        ≡ polynomial_value (if v then m ∷ affine_part ms else affine_part ms) z +ℤ square_value s z
    go true a is h ih = more (monomial_value m z) _ _ _ (ih h)
    go false true is h ih =
        turned (monomial_value m z) (polynomial_value ms z) _ _ (square_of-value m.coef m.vars s z h)
        (sym (affine-value ms z is))
    go false false is h ih = absurd (none_is h)

-- unknown w is a polynomial plus a number times a square: its rows hold
module _ (w : ℕ) (rest : Polynomial) (z : List ℤ) where
  signed-nonneg : (c y : ℤ) (t : Term) → value t z ≡ c *ℤ y → pos 0 ≤ℤ y → pos 0 ≤ℤ value (signed c t) z
  signed-nonneg (pos n) y t e h =
      subst (λ (v : ℤ). pos 0 ≤ℤ v) (sym e) (mul-nonneg_ℤ (pos n) y (omega (arith, ints)) h)
  signed-nonneg (negsuc n) y t e h =
      subst (λ (v : ℤ). pos 0 ≤ℤ v)
      (identity (negsuc n ∷ y ∷ []) (negated (variable 0) ⊗ variable 1) (negated (variable 0 ⊗ variable 1)) refl
      ∙ ap neg_ℤ (sym e))
      (mul-nonneg_ℤ (neg_ℤ (negsuc n)) y (omega (arith, ints)) h)

  row-holds : (s : Square) (l : Line)
      → value_at z w ≡ polynomial_value rest z +ℤ square_value s z
      → IsBelow (value_at z s.variable) l → pos 0 ≤ℤ value (square_row w rest s l) z
  row-holds s l is below =
      let x = value_at z s.variable in
      signed-nonneg s.coef (x *ℤ x -ℤ line_value l x) _
      (ap (λ (v : ℤ). (v -ℤ value (form_term rest) z) -ℤ s.coef *ℤ line_value l x) is
      ∙ (ap (λ (v : ℤ). ((polynomial_value rest z +ℤ s.coef *ℤ (x *ℤ x)) -ℤ v) -ℤ s.coef *ℤ line_value l x) (form-value rest z)
      ∙ identity (polynomial_value rest z ∷ s.coef ∷ x ∷ line_value l x ∷ [])
      (((variable 0 ⊕ variable 1 ⊗ (variable 2 ⊗ variable 2)) ⊖ variable 0) ⊖ variable 1 ⊗ variable 3)
      (variable 1 ⊗ (variable 2 ⊗ variable 2 ⊖ variable 3)) refl))
      below

  rows-with-hold : (o : Option Square)
      → ((s : Square) → o ≡ Some s → value_at z w ≡ polynomial_value rest z +ℤ square_value s z)
      → RowsHoldAt (rows_with w rest o) z
  rows-with-hold None is = tt
  rows-with-hold (Some s) is = go lines_below (lines-below (value_at z s.variable))
    where
      go : (ls : List Line) → AllByRecursion (IsBelow (value_at z s.variable)) ls
          → RowsHoldAt (map (square_row w rest s) ls) z
      go [] below = tt
      go (l ∷ ls) (first, others) = (row-holds s l (is s refl) first, go ls others)

-- the rows of an unknown that has the value of a polynomial hold
update-rows-hold : (w : ℕ) (p : Polynomial) (z : List ℤ) → value_at z w ≡ polynomial_value p z
    → RowsHoldAt (rows_of_update w p) z
update-rows-hold w p z is =
    rows-with-hold w (affine_part p) z (square_in p) (λ s h. is ∙ square_in-value p s z h)

-- the rows of all updates hold, where the unknowns behind `front` have the values of the nonlinear updates
pub square-rows-hold : (k : ℕ) (us : List Term) (env front : List ℤ) (z : List ℤ)
    → ((t : Term) → ReadsBelow (length env) t → value t z ≡ value t env) → AllByRecursion (IsValidTerm (length env)) us
    → z ≡ front ++ nonlinear_values us env → length front ≡ k → RowsHoldAt (square_rows k (map expanded us)) z
square-rows-hold k [] env front z same v e l = tt
square-rows-hold k (u ∷ us) env front z same v e l =
    go (is_nonlinear (expanded u)) e (λ j fr. square-rows-hold j us env fr z same v.1)
  where
    own : z ≡ front ++ value u env ∷ nonlinear_values us env → value_at z k ≡ polynomial_value (expanded u) z
    own f =
        ap (λ (y : List ℤ). value_at y k) f
        ∙ (get_or_at front (value u env) (nonlinear_values us env) (pos 0) k l
        ∙ (sym (same u v.0.variables) ∙ sym (expanded-value u z)))

    go : (b : Bool) → z ≡ front ++ (if b then value u env ∷ nonlinear_values us env else nonlinear_values us env)
        → ((j : ℕ) (fr : List ℤ) → z ≡ fr ++ nonlinear_values us env → length fr ≡ j
        → RowsHoldAt (square_rows j (map expanded us)) z)
        → RowsHoldAt (if b then rows_of_update k (expanded u) ++ square_rows (suc k) (map expanded us)
        else square_rows k (map expanded us)) z
    go true f ih =
        rows-append (rows_of_update k (expanded u)) (square_rows (suc k) (map expanded us)) z
        (update-rows-hold k (expanded u) z (own f))
        (ih (suc k) (front ++ value u env ∷ []) (f ∙ sym (append_assoc front (value u env ∷ []) (nonlinear_values us env)))
        (length-append front (value u env ∷ []) ∙ (let g : length front + 1 ≡ suc k = omega (arith, l) in g)))
    go false f ih = ih k front f l
