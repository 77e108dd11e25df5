-- The parts that are pushed, one place after another.
use Rattle.std.proofs.Common.{◌≡◌, ◌≢◌, ◌||◌, cond, length, ℕ, suc, ◌+◌, ◌<◌, ◌≤◌, Bool, true, false, List, [], ◌∷◌}
use Rattle.std.proofs.Common.{◌++◌, get_or, drop, refl, sym, ap, ◌∙◌, arith}
use Rattle.std.specs.Prelude.{ℤ, pos, nat_abs}
use Rattle.std.proofs.lemmas.List.{drop_more, drop_all}
use Rattle.linear_forms.specs.int_laws.NormalForm.{is_zero}
use Rattle.poly_terms.specs.model.Bounds as plain
use Rattle.poly_terms.specs.model.Bounds.{Constant, ProductOf, Parts, NoParts, Part}
use Rattle.bound_expr.specs.declared.bound.Bound.{Bound}
use Rattle.bound_expr.specs.Views.{bound_of, bounds_of, parts_of}
use Rattle.cert_program.specs.cert_rules.Nodes.{Member}
use Rattle.cert_program.specs.cert_rules.Known.{Table, known}
use Rattle.cert_program.specs.cert_rules.Composed.{both_parts, parts_for, place_parts, sizes_after}
use Rattle.cert_program.specs.cert_rules.ComposedSizes.{is_member}
use Rattle.cert_program.specs.cert_rules.Numbers.{rounded_up}
use Rattle.cert_program.proofs.cert_rules.FormBounds.{zero_of_test}
use Rattle.cert_types.specs.Sizes.{is_result_variable, members_from, sizes_from, joined, place_part}

-- joining no parts at the end changes nothing
pub joined-nothing : (ps : Parts) → joined ps NoParts ≡ ps
joined-nothing NoParts = refl
joined-nothing (Part b bs) = ap (Part b) (joined-nothing bs)

-- of three lists of parts it doesn't matter which two are joined first
pub joined_assoc : (a b c : Parts) → joined (joined a b) c ≡ joined a (joined b c)
joined_assoc NoParts b c = refl
joined_assoc (Part x xs) b c = ap (Part x) (joined_assoc xs b c)

-- the parts of a list with one more bound are those of the list with that bound
pub parts_of-more : (xs : List Bound) (x : Bound) → parts_of (bounds_of (xs ++ x ∷ [])) ≡ joined (parts_of (bounds_of xs)) (Part (bound_of x) NoParts)
parts_of-more [] x = refl
parts_of-more (y ∷ ys) x = ap (Part (bound_of y)) (parts_of-more ys x)

module _ (members : List Member) (table : Table) (rule : ℕ) where
  -- the members from the next place on are those from this place on without the first
  next-members : (place : ℕ) → (λ (j : ℕ). members_from members rule place (suc j)) ≡ members_from members rule (place + 1)
  next-members place = λ i j. step j i
    where
      step : (j : ℕ) → members_from members rule place (suc j) ≡ members_from members rule (place + 1) j
      step j = ap (λ (n : ℕ). is_result_variable members rule n) (let e : place + suc j ≡ place + 1 + j = omega arith in e)

  next-sizes : (place : ℕ) → (λ (j : ℕ). sizes_from table rule place (suc j)) ≡ sizes_from table rule (place + 1)
  next-sizes place = λ i j. step j i
    where
      step : (j : ℕ) → sizes_from table rule place (suc j) ≡ sizes_from table rule (place + 1) j
      step j = ap (λ (n : ℕ). known (table.size rule n)) (let e : place + suc j ≡ place + 1 + j = omega arith in e)

  -- the parts of places are that of the first and those of the others
  places-step : (c : ℤ) (cs : List ℤ) (den place : ℕ)
      → place_parts (c ∷ cs) den (members_from members rule place) (sizes_from table rule place)
      ≡ joined (place_part c den (is_result_variable members rule place) (known (table.size rule place)))
      (place_parts cs den (members_from members rule (place + 1)) (sizes_from table rule (place + 1)))
  places-step c cs den place =
      cases (members_from members rule place) (sizes_from table rule place)
      ∙ ((λ i. joined (place_part c den (first i) (size i)) (place_parts cs den (next-members place i) (next-sizes place i))))
    where
      cases : (out : ℕ → Bool) (sizes : ℕ → plain.Bound) → place_parts (c ∷ cs) den out sizes
          ≡ joined (place_part c den (out 0) (sizes 0)) (place_parts cs den (λ j. out (suc j)) (λ j. sizes (suc j)))
      cases out sizes = go (is_zero c || out 0) refl
        where
          go : (v : Bool) → (is_zero c || out 0) ≡ v → place_parts (c ∷ cs) den out sizes
              ≡ joined (place_part c den (out 0) (sizes 0)) (place_parts cs den (λ j. out (suc j)) (λ j. sizes (suc j)))
          go true e = rw e refl
          go false e = rw e refl

      first : members_from members rule place 0 ≡ is_result_variable members rule place
      first = ap (λ (n : ℕ). is_result_variable members rule n) (let e : place + 0 ≡ place = omega arith in e)

      size : sizes_from table rule place 0 ≡ known (table.size rule place)
      size = ap (λ (n : ℕ). known (table.size rule n)) (let e : place + 0 ≡ place = omega arith in e)

  -- pushing the part of the first place and then those of the others pushes the parts of all
  pub places_pushed : (coefs : List ℤ) (c : ℤ) (cs : List ℤ) (den place : ℕ) (old between new : Parts) → coefs ≡ c ∷ cs
      → between ≡ joined old (place_part c den (is_result_variable members rule place) (known (table.size rule place)))
      → new ≡ joined between (place_parts cs den (members_from members rule (place + 1)) (sizes_from table rule (place + 1)))
      → new ≡ joined old (place_parts coefs den (members_from members rule place) (sizes_from table rule place))
  places_pushed coefs c cs den place old between new ec eb en =
      en ∙ (ap (λ (ps : Parts). joined ps (place_parts cs den (members_from members rule (place + 1)) (sizes_from table rule (place + 1)))) eb
      ∙ (joined_assoc old (place_part c den (is_result_variable members rule place) (known (table.size rule place))) _
      ∙ (ap (joined old) (sym (places-step c cs den place))
      ∙ ap (λ (xs : List ℤ). joined old (place_parts xs den (members_from members rule place) (sizes_from table rule place))) (sym ec))))

  -- the members among the places from 1 on are all members after the rule
  all-members : members_from members rule 1 ≡ is_member members rule
  all-members = λ i j. step j i
    where
      step : (j : ℕ) → members_from members rule 1 j ≡ is_member members rule j
      step j = ap (λ (n : ℕ). is_result_variable members rule n) (let e : 1 + j ≡ suc j = omega arith in e)

  all-sizes : sizes_from table rule 1 ≡ sizes_after table.size rule
  all-sizes = λ i j. step j i
    where
      step : (j : ℕ) → sizes_from table rule 1 j ≡ sizes_after table.size rule j
      step j = ap (λ (n : ℕ). known (table.size rule n)) (let e : 1 + j ≡ suc j = omega arith in e)

  -- the parts from the first place on are those of all places after the rule
  pub all_places : (cs : List ℤ) (den : ℕ) → place_parts cs den (members_from members rule 1) (sizes_from table rule 1)
      ≡ place_parts cs den (is_member members rule) (sizes_after table.size rule)
  all_places cs den = λ i. place_parts cs den (all-members i) (all-sizes i)

-- a part is pushed where the coefficient isn't 0 and the place is no member
pub pushed : (xs new : List Bound) (x size : Bound) (c : ℤ) (den : ℕ) (out : Bool) (b : plain.Bound) (n : ℕ) → new ≡ xs ++ x ∷ []
    → bound_of x ≡ ProductOf (both_parts (Constant n) (bound_of size)) → bound_of size ≡ b
    → n ≡ rounded_up (nat_abs c) den → false ≡ is_zero c || out
    → parts_of (bounds_of new) ≡ joined (parts_of (bounds_of xs)) (place_part c den out b)
pushed xs new x size c den out b n en ex es er within =
    ap (λ (ys : List Bound). parts_of (bounds_of ys)) en
    ∙ (parts_of-more xs x ∙ ap (joined (parts_of (bounds_of xs)))
    (ap (λ (p : plain.Bound). Part p NoParts) made
    ∙ ap (λ (v : Bool). cond v NoParts (Part (ProductOf (both_parts (Constant (rounded_up (nat_abs c) den)) b)) NoParts)) within))
  where
    made : bound_of x ≡ ProductOf (both_parts (Constant (rounded_up (nat_abs c) den)) b)
    made = ex ∙ (ap (λ (p : plain.Bound). ProductOf (both_parts (Constant n) p)) es
        ∙ ap (λ (m : ℕ). ProductOf (both_parts (Constant m) b)) er)

-- no part is pushed if the coefficient is 0 or the place is a member
pub not_pushed : (ps : Parts) (c : ℤ) (den : ℕ) (out : Bool) (b : plain.Bound) → true ≡ is_zero c || out
    → ps ≡ joined ps (place_part c den out b)
not_pushed ps c den out b h = sym (ap (joined ps) (ap (λ (v : Bool). cond v NoParts (Part (ProductOf (both_parts (Constant (rounded_up (nat_abs c) den)) b)) NoParts)) (sym h))
    ∙ joined-nothing ps)

-- a place whose coefficient is 0 is left out
pub out_by_zero : (c : ℤ) (v : Bool) → c ≡ pos 0 → true ≡ is_zero c || v
out_by_zero c v e = sym (ap (λ (z : ℤ). is_zero z || v) e)

-- a place whose coefficient isn't 0 is left out exactly if it is a member
pub out_by_member : (c : ℤ) (u v : Bool) → c ≢ pos 0 → u ≡ v → u ≡ is_zero c || v
out_by_member c u v other e = go (is_zero c) refl
  where
    go : (w : Bool) → is_zero c ≡ w → u ≡ is_zero c || v
    go true f = absurd (other (zero_of_test c f))
    go false f = rw f e

-- if there is no coefficient, nothing is pushed
pub none_pushed : (ps : Parts) (coefs : List ℤ) (den : ℕ) (out : ℕ → Bool) (sizes : ℕ → plain.Bound) → length coefs ≡ 0
    → ps ≡ joined ps (place_parts coefs den out sizes)
none_pushed ps [] den out sizes e = sym (joined-nothing ps)
none_pushed ps (c ∷ cs) den out sizes e = absurd (omega (arith, e))

-- after one more part for a list of numbers, the parts pushed and those left make the whole
pub part_pushed : (f : ℕ → plain.Bound) (xs : List ℕ) (i d : ℕ) (done more : List Bound) (b : Bound) (whole : Parts)
    → i < length xs → joined (parts_of (bounds_of done)) (parts_for f (drop i xs)) ≡ whole
    → more ≡ done ++ b ∷ [] → bound_of b ≡ f (get_or xs i d)
    → joined (parts_of (bounds_of more)) (parts_for f (drop (i + 1) xs)) ≡ whole
part_pushed f xs i d done more b whole low kept em eb =
    ap (λ (ys : List Bound). joined (parts_of (bounds_of ys)) (parts_for f (drop (i + 1) xs))) em
    ∙ (ap (λ (ps : Parts). joined ps (parts_for f (drop (i + 1) xs))) (parts_of-more done b)
    ∙ (joined_assoc (parts_of (bounds_of done)) (Part (bound_of b) NoParts) (parts_for f (drop (i + 1) xs))
    ∙ (ap (λ (c : plain.Bound). joined (parts_of (bounds_of done)) (Part c (parts_for f (drop (i + 1) xs)))) eb
    ∙ (ap (λ (ys : List ℕ). joined (parts_of (bounds_of done)) (parts_for f ys)) (sym (drop_more xs i d low)) ∙ kept))))

-- if no number is left, the parts pushed are the whole
pub parts_whole : (f : ℕ → plain.Bound) (xs : List ℕ) (i : ℕ) (done : List Bound) (whole : Parts) → length xs ≤ i
    → joined (parts_of (bounds_of done)) (parts_for f (drop i xs)) ≡ whole → parts_of (bounds_of done) ≡ whole
parts_whole f xs i done whole low kept =
    sym (joined-nothing (parts_of (bounds_of done)))
    ∙ (ap (λ (ys : List ℕ). joined (parts_of (bounds_of done)) (parts_for f ys)) (sym (drop_all i xs low)) ∙ kept)
