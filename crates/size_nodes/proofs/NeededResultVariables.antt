-- The sizes that side bounds read, place by place and rule by rule.
use Rattle.cert_types.specs.declared.side_bound.ResultVariable.{ResultVariable as CodeResultVariable}
use Rattle.std.proofs.Common.{◌≡◌, ℕ, zero, suc, ◌+◌, ◌^◌, ◌<◌, ◌≤◌, ◌&&◌, not, Bool, true, false, List, [], ◌∷◌, ◌++◌}
use Rattle.std.proofs.Common.{map, filter, All, Option, refl, sym, ap, ◌∙◌, arith}
use Rattle.std.specs.List.{AllByRecursion, range_with_len}
use Rattle.std.proofs.lemmas.List.{append-nil, map-append}
use Rattle.std.proofs.lemmas.List.Elements.{All-from_recursion}
use Rattle.model.specs.Polynomials.{Polynomial}
use Rattle.cert_types.specs.cert_rules.Nodes.{ResultVariable, SideBound, Member}
use Rattle.cert_types.specs.cert_rules.Setting.{Setting}
use Rattle.cert_types.specs.cert_rules.ComposedSizes.{poly_at, reads, is_member}
use Rattle.cert_types.specs.cert_rules.AcceptsSizes.{left_of}
use Rattle.cert_types.specs.cert_rules.Checks.{result_variables_after, needed_by, needed_from}
use Rattle.cert_types.specs.Views.{result_variable_of}
use Rattle.cert_types.specs.Sizes.{is_result_variable}
use Rattle.cert_types.specs.Reading.{places_read}
use Rattle.size_nodes.specs.Needs.{result_variables_outside, result_variables_from}

-- filtering by two tests is filtering by one and then by the other
filter-both : (f g : ℕ → Bool) (xs : List ℕ)
    → filter (λ j. f j && not (g j)) xs ≡ filter (λ j. not (g j)) (filter f xs)
filter-both f g [] = refl
filter-both f g (x ∷ xs) = go (f x) refl (g x) refl (filter-both f g xs)
  where
    go : (v : Bool) → f x ≡ v → (w : Bool) → g x ≡ w
        → filter (λ j. f j && not (g j)) xs ≡ filter (λ j. not (g j)) (filter f xs)
        → filter (λ j. f j && not (g j)) (x ∷ xs) ≡ filter (λ j. not (g j)) (filter f (x ∷ xs))
    go true e true k h = rw (e, k) h
    go true e false k h = rw (e, k) (ap (λ (ys : List ℕ). x ∷ ys) h)
    go false e w k h = rw e h

-- the sizes that a side bound reads after a rule are those of the places that it reads except for the members
needed-outside : (s : Setting) (members : List Member) (m : Member) (side_bound : SideBound) (e : ℕ)
    → needed_by s members m side_bound e
    ≡ result_variables_outside members e (places_read (poly_at s m.result_variable) side_bound (left_of s.program m.result_variable.rule))
needed-outside s members m side_bound e =
    ap (result_variables_after e) (filter-both (λ j. reads (poly_at s m.result_variable) side_bound j) (λ j. is_member members e j) _)

-- the sizes that a member reads, after each of these rules
pub needed-result_variables : (s : Setting) (members : List Member) (m : Member) (es : List ℕ)
    → needed_from s members m es
    ≡ result_variables_from members (places_read (poly_at s m.result_variable) m.local.up (left_of s.program m.result_variable.rule))
    (places_read (poly_at s m.result_variable) m.local.low (left_of s.program m.result_variable.rule)) es
needed-result_variables s members m [] = refl
needed-result_variables s members m (e ∷ es) =
    λ i. needed-outside s members m m.local.up e i
    ++ (needed-outside s members m m.local.low e i ++ needed-result_variables s members m es i)

-- the numbers of a range that ends at or before b are below b
below-range : (a n b : ℕ) → a + n ≤ b → AllByRecursion (λ j. j < b) (range_with_len a n)
below-range a zero b l = tt
below-range a (suc n) b l = (omega (arith, l), below-range (a + 1) n b (omega (arith, l)))

each-filter : (P : ℕ → Type 0) (test : ℕ → Bool) (xs : List ℕ) → AllByRecursion P xs → AllByRecursion P (filter test xs)
each-filter P test [] h = tt
each-filter P test (x ∷ xs) h = go (test x) refl (each-filter P test xs h.1)
  where
    go : (v : Bool) → test x ≡ v → AllByRecursion P (filter test xs) → AllByRecursion P (filter test (x ∷ xs))
    go true e k = rw e (h.0, k)
    go false e k = rw e k

-- the places that are read are few
pub few_read : (poly : Option Polynomial) (side_bound : SideBound) (left : ℕ) → left ≤ 64 → All (λ j. j < 2 ^ 31) (places_read poly side_bound left)
few_read poly side_bound left l =
    All-from_recursion (λ j. j < 2 ^ 31) (places_read poly side_bound left)
    (each-filter (λ j. j < 2 ^ 31) (λ j. reads poly side_bound j) (range_with_len 0 left) (below-range 0 left (2 ^ 31) (omega (arith, l))))

module _ (members : List Member) (rule : ℕ) where
  -- a place is left out if it is a member, and else it is one result variable
  same-result_variable : (position : ℕ) → is_result_variable members rule (position + 1) ≡ is_member members rule position
  same-result_variable position = ap (λ (n : ℕ). is_result_variable members rule n) (let e : position + 1 ≡ suc position = omega arith in e)

  -- a place that is a member adds no result variable to the needed ones
  pub inside_left_out : (position : ℕ) (result_variables : List ResultVariable) → true ≡ is_result_variable members rule (position + 1)
      → result_variables ≡ result_variables ++ result_variables_outside members rule (position ∷ [])
  inside_left_out position result_variables h =
      sym (append-nil result_variables) ∙ ap (λ (xs : List ResultVariable). result_variables ++ xs) (sym (none (sym (same-result_variable position) ∙ sym h)))
    where
      none : is_member members rule position ≡ true → result_variables_outside members rule (position ∷ []) ≡ []
      none e = rw e refl

  -- a place that is no member has its result variable pushed to the needed ones
  pub outside_pushed : (position : ℕ) (old new : List CodeResultVariable) (result_variable : CodeResultVariable) → new ≡ old ++ result_variable ∷ []
      → result_variable_of result_variable ≡ record { rule = rule; place = position + 1 } → false ≡ is_result_variable members rule (position + 1)
      → map result_variable_of new ≡ map result_variable_of old ++ result_variables_outside members rule (position ∷ [])
  outside_pushed position old new result_variable en es h =
      ap (map result_variable_of) en ∙ (map-append result_variable_of old (result_variable ∷ [])
      ∙ ap (λ (xs : List ResultVariable). map result_variable_of old ++ xs)
      (ap (λ (x : ResultVariable). x ∷ []) (es ∙ ap here (let e : position + 1 ≡ suc position = omega arith in e))
      ∙ sym (one (sym (same-result_variable position) ∙ sym h))))
    where
      here : ℕ → ResultVariable
      here n = record { rule = rule; place = n }

      one : is_member members rule position ≡ false → result_variables_outside members rule (position ∷ []) ≡ here (suc position) ∷ []
      one e = rw e refl

  -- the first of these places, and then the others
  pub outside-first : (x : ℕ) (ys : List ℕ)
      → result_variables_outside members rule (x ∷ ys) ≡ result_variables_outside members rule (x ∷ []) ++ result_variables_outside members rule ys
  outside-first x ys = go (is_member members rule x) refl
    where
      go : (v : Bool) → is_member members rule x ≡ v
          → result_variables_outside members rule (x ∷ ys) ≡ result_variables_outside members rule (x ∷ []) ++ result_variables_outside members rule ys
      go true e = rw e refl
      go false e = rw e refl
