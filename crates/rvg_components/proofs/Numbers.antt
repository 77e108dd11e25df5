-- Numbers of places: the position of each rule's places among all, and the place of each number.
use Rattle.std.proofs.Common.{◌≡◌, ◌⊎◌, inl, inr, ℕ, zero, suc, ◌+◌, ◌-◌, ◌<◌, ◌≤◌, Bool, true, false, cond, List, []}
use Rattle.std.proofs.Common.{◌∷◌, ◌++◌, length, get_or, map, refl, sym, ◌∙◌, ap, subst, arith}
use Rattle.std.specs.List.{sum}
use Rattle.std.proofs.lemmas.Bool.{cases_lt}
use Rattle.std.proofs.lemmas.List.{map-append, append_assoc, length-append, get_or_append_left, get_or-append_right}
use Rattle.std.proofs.lemmas.List.FromFn.{length-map-range_with_len, get_or-map-range_with_len, map-range_with_len_more}
use Rattle.std.proofs.lemmas.List.Sums.{sum_by-cons}
use Rattle.cert_types.specs.cert_rules.Nodes.{ResultVariable}
use Rattle.cert_types.specs.declared.side_bound.ResultVariable as code
use Rattle.cert_types.specs.Views.{result_variable_of}
use Rattle.local_size.specs.declared.answer.LocalAnswer.{LocalAnswer}
use Rattle.rvg_components.specs.Numbering.{widths, firsts_from, places_of, result_variables_by_width}

-- the result variable of place i, counted from 0, of rule t
abbrev pub result_variable_in : ℕ → ℕ → ResultVariable
result_variable_in t i = record { rule = t; place = suc i }

-- there are this many places of a rule
pub places-length : (t i n : ℕ) → length (places_of t i n) ≡ n
places-length t i n = length-map-range_with_len (λ j. let s : ResultVariable = record { rule = t; place = j } in s) i n

-- the place at each position
places-read : (t n i : ℕ) (d : ResultVariable) → i < n → get_or (places_of t 1 n) i d ≡ result_variable_in t i
places-read t n i d low = get_or-map-range_with_len (λ j. let s : ResultVariable = record { rule = t; place = j } in s) 1 n i (suc i) d low (omega arith)

-- the places of a rule with one more
pub places_more : (t n : ℕ) → places_of t 1 (n + 1) ≡ places_of t 1 n ++ record { rule = t; place = n + 1 } ∷ []
places_more t n = map-range_with_len_more (λ j. let s : ResultVariable = record { rule = t; place = j } in s) 1 n (n + 1) (omega arith)

-- the sum of widths with one more
pub sum-cons : (w : ℕ) (ws : List ℕ) → sum (w ∷ ws) ≡ w + sum ws
sum-cons w ws = sum_by-cons (λ x. x) w ws

-- the places of rules with one more
result_variables-cons : (t w : ℕ) (ws : List ℕ) → length (result_variables_by_width t (w ∷ ws)) ≡ w + length (result_variables_by_width (suc t) ws)
result_variables-cons t w ws = length-append (places_of t 1 w) (result_variables_by_width (suc t) ws)
    ∙ ap (λ (n : ℕ). n + length (result_variables_by_width (suc t) ws)) (places-length t 1 w)

-- the number of places is the sum of the widths
pub result_variables-length : (t : ℕ) (ws : List ℕ) → length (result_variables_by_width t ws) ≡ sum ws
result_variables-length t [] = refl
result_variables-length t (w ∷ ws) = result_variables-cons t w ws ∙ (ap (λ (n : ℕ). w + n) (result_variables-length (suc t) ws) ∙ sym (sum-cons w ws))

-- there is a first place for each rule
pub firsts-length : (b : ℕ) (ws : List ℕ) → length (firsts_from b ws) ≡ length ws
firsts-length b [] = refl
firsts-length b (w ∷ ws) = omega (arith, firsts-length (b + w) ws)

-- x is the position of place i of the rule at position k, among the places from rule t on, of which the first has
-- number b
pub record IsAt (b t : ℕ) (ws : List ℕ) (k i x : ℕ) : Type 0 where
  pub number : get_or (firsts_from b ws) k 0 + i ≡ b + x
  pub within : x < length (result_variables_by_width t ws)
  pub result_variable : (d : ResultVariable) → get_or (result_variables_by_width t ws) x d ≡ result_variable_in (t + k) i

-- the position of a place of the first rule
at-first : (b t w : ℕ) (ws : List ℕ) (i : ℕ) → i < w → IsAt b t (w ∷ ws) 0 i i
at-first b t w ws i inside = record {
  number = refl;
  within = omega (arith, result_variables-cons t w ws, inside);
  result_variable = λ d. get_or_append_left (places_of t 1 w) (result_variables_by_width (suc t) ws) d i (omega (arith, places-length t 1 w, inside))
      ∙ (places-read t w i d inside ∙ ap (λ (r : ℕ). result_variable_in r i) plain);
}
  where
    plain : t ≡ t + 0
    plain = omega arith

-- the position of a place of a later rule
at-later : (b t w : ℕ) (ws : List ℕ) (k i x : ℕ) → IsAt (b + w) (suc t) ws k i x → IsAt b t (w ∷ ws) (suc k) i (w + x)
at-later b t w ws k i x a = record {
  number = a.number ∙ grouped;
  within = omega (arith, result_variables-cons t w ws, a.within);
  result_variable = λ d. get_or-append_right (places_of t 1 w) (result_variables_by_width (suc t) ws) w (w + x) d (places-length t 1 w) (omega arith)
      ∙ (ap (λ (y : ℕ). get_or (result_variables_by_width (suc t) ws) y d) back ∙ (a.result_variable d ∙ ap (λ (r : ℕ). result_variable_in r i) moved));
}
  where
    grouped : b + w + x ≡ b + (w + x)
    grouped = omega arith

    back : w + x - w ≡ x
    back = omega arith

    moved : suc t + k ≡ t + suc k
    moved = omega arith

-- each place has a position
pub at-position : (b t : ℕ) (ws : List ℕ) (k i : ℕ) → k < length ws → i < get_or ws k 0 → (x : ℕ) × IsAt b t ws k i x
at-position b t [] k i low inside = absurd (omega (arith, low))
at-position b t (w ∷ ws) zero i low inside = (i, at-first b t w ws i inside)
at-position b t (w ∷ ws) (suc k) i low inside = go (at-position (b + w) (suc t) ws k i (omega (arith, low)) inside)
  where
    go : (x : ℕ) × IsAt (b + w) (suc t) ws k i x → (x : ℕ) × IsAt b t (w ∷ ws) (suc k) i x
    go (x, a) = (w + x, at-later b t w ws k i x a)

-- a position is that of place i of the rule at position k
pub record PlaceAt (b t : ℕ) (ws : List ℕ) (x : ℕ) : Type 0 where
  pub rule : ℕ
  pub place : ℕ
  pub rule_within : rule < length ws
  pub place_within : place < get_or ws rule 0
  pub at : IsAt b t ws rule place x

-- each position has a place
pub place-at : (b t : ℕ) (ws : List ℕ) (x : ℕ) → x < length (result_variables_by_width t ws) → PlaceAt b t ws x
place-at b t [] x low = absurd (omega (arith, low))
place-at b t (w ∷ ws) x low = go (cases_lt x w) (λ past. place-at (b + w) (suc t) ws (x - w) (omega (arith, low, past, result_variables-cons t w ws)))
  where
    later : w ≤ x → PlaceAt (b + w) (suc t) ws (x - w) → PlaceAt b t (w ∷ ws) x
    later past p = record {
      rule = suc p.rule;
      place = p.place;
      rule_within = omega (arith, p.rule_within);
      place_within = p.place_within;
      at = subst (λ (y : ℕ). IsAt b t (w ∷ ws) (suc p.rule) p.place y) same (at-later b t w ws p.rule p.place (x - w) p.at);
    }
      where
        same : w + (x - w) ≡ x
        same = omega (arith, past)

    go : (x < w) ⊎ (w ≤ x) → (w ≤ x → PlaceAt (b + w) (suc t) ws (x - w)) → PlaceAt b t (w ∷ ws) x
    go (inl inside) ih = record { rule = 0; place = x; rule_within = omega arith; place_within = inside; at = at-first b t w ws x inside }
    go (inr past) ih = later past (ih past)

-- there is a width for each rule
pub widths-length : (locals : List (List LocalAnswer)) (live : List Bool) → length locals ≡ length live → length (widths locals live) ≡ length live
widths-length [] [] e = refl
widths-length [] (f ∷ live) e = absurd (omega (arith, e))
widths-length (l ∷ locals) [] e = absurd (omega (arith, e))
widths-length (l ∷ locals) (f ∷ live) e = omega (arith, widths-length locals live (omega (arith, e)))

-- the width of a rule is its number of answers if it is live, else 0
pub widths-at : (locals : List (List LocalAnswer)) (live : List Bool) (k : ℕ) → length locals ≡ length live
    → get_or (widths locals live) k 0 ≡ cond (get_or live k false) (length (get_or locals k [])) 0
widths-at [] [] k e = refl
widths-at [] (f ∷ live) k e = absurd (omega (arith, e))
widths-at (l ∷ locals) [] k e = absurd (omega (arith, e))
widths-at (l ∷ locals) (f ∷ live) zero e = refl
widths-at (l ∷ locals) (f ∷ live) (suc k) e = widths-at locals live k (omega (arith, e))

-- one more place is pushed
pub result_variable_pushed : (t n : ℕ) (first old new : List code.ResultVariable) (x : code.ResultVariable) → map result_variable_of old ≡ map result_variable_of first ++ places_of t 1 n → new ≡ old ++ x ∷ []
    → result_variable_of x ≡ record { rule = t; place = n + 1 } → map result_variable_of new ≡ map result_variable_of first ++ places_of t 1 (n + 1)
result_variable_pushed t n first old new x kept pushed is =
    ap (map result_variable_of) pushed
    ∙ (map-append result_variable_of old (x ∷ [])
    ∙ (ap (λ (xs : List ResultVariable). xs ++ result_variable_of x ∷ []) kept
    ∙ (append_assoc (map result_variable_of first) (places_of t 1 n) (result_variable_of x ∷ [])
    ∙ ap (λ (xs : List ResultVariable). map result_variable_of first ++ xs) (ap (λ (y : ResultVariable). places_of t 1 n ++ y ∷ []) is ∙ sym (places_more t n)))))

-- a rule with a place is live, and has this many answers
pub width-live : (v : Bool) (n i : ℕ) → i < cond v n 0 → (v ≡ true) × (i < n)
width-live true n i low = (refl, low)
width-live false n i low = absurd (omega (arith, low))
