-- Lists of checks, one after the other and from a place on.
use Rattle.std.proofs.Common.{◌≡◌, ℕ, ◌+◌, ◌<◌, ◌≤◌, Bool, true, false, List, [], ◌∷◌, ◌++◌, map, drop, get_or, length}
use Rattle.std.proofs.Common.{Some, None, refl, ap, sym, ◌∙◌}
use Rattle.std.specs.Prelude.{if◌then◌else◌, ◌&&◌}
use Rattle.std.specs.List.{AllByRecursion}
use Rattle.std.proofs.lemmas.List.{drop_more, drop_all}
use Rattle.potential_nodes.specs.Checks.{Reason, Check, first_refused}
use Rattle.check_potentials.specs.Refusals.{all_hold}

-- a check that holds leaves those after it, and one that fails is the first
pub passed_one : (c : Check) (checks : List Check) → c.holds ≡ true → first_refused (c ∷ checks) ≡ first_refused checks
passed_one c checks e = ap (λ (v : Bool). if v then first_refused checks else Some c.reason) e

pub failed_one : (c : Check) (checks : List Check) → c.holds ≡ false → first_refused (c ∷ checks) ≡ Some c.reason
failed_one c checks e = ap (λ (v : Bool). if v then first_refused checks else Some c.reason) e

some_none : {A : Type 0} {a : A} → Some a ≡ None → ⊥
some_none k = cc

-- where none of the first checks is refused, those after them decide
pub refused_passes : (xs ys : List Check) → first_refused xs ≡ None → first_refused (xs ++ ys) ≡ first_refused ys
refused_passes [] ys h = refl
refused_passes (c ∷ xs) ys h = go c.holds refl (refused_passes xs ys)
  where
    go : (v : Bool) → c.holds ≡ v → (first_refused xs ≡ None → first_refused (xs ++ ys) ≡ first_refused ys)
        → first_refused (c ∷ xs ++ ys) ≡ first_refused ys
    go true e rest = passed_one c (xs ++ ys) e ∙ rest (sym (passed_one c xs e) ∙ h)
    go false e rest = absurd (some_none (sym (failed_one c xs e) ∙ h))

-- where one of the first checks is refused, it is the first of all
pub refused_stops : (xs ys : List Check) (r : Reason) → first_refused xs ≡ Some r → first_refused (xs ++ ys) ≡ Some r
refused_stops [] ys r h = absurd (none_some h)
  where
    none_some : None ≡ Some r → ⊥
    none_some k = cc
refused_stops (c ∷ xs) ys r h = go c.holds refl (refused_stops xs ys r)
  where
    go : (v : Bool) → c.holds ≡ v → (first_refused xs ≡ Some r → first_refused (xs ++ ys) ≡ Some r)
        → first_refused (c ∷ xs ++ ys) ≡ Some r
    go true e rest = passed_one c (xs ++ ys) e ∙ rest (sym (passed_one c xs e) ∙ h)
    go false e rest = failed_one c (xs ++ ys) e ∙ (sym (failed_one c xs e) ∙ h)

-- whether one check more holds
hold_one : (c : Check) (checks : List Check) (v : Bool) → c.holds ≡ v → all_hold (c ∷ checks) ≡ (v && all_hold checks)
hold_one c checks v e = ap (λ (t : Bool). t && all_hold checks) e

-- two lists hold where both do
pub hold_append : (xs ys : List Check) → all_hold (xs ++ ys) ≡ (all_hold xs && all_hold ys)
hold_append [] ys = refl
hold_append (c ∷ xs) ys = ap (λ (v : Bool). c.holds && v) (hold_append xs ys) ∙ both c.holds (all_hold xs) (all_hold ys)
  where
    both : (a b d : Bool) → (a && (b && d)) ≡ ((a && b) && d)
    both true b d = refl
    both false b d = refl

-- where all hold, none is refused
pub hold_refused : (xs : List Check) → all_hold xs ≡ true → first_refused xs ≡ None
hold_refused [] h = refl
hold_refused (c ∷ xs) h = go c.holds refl (hold_refused xs)
  where
    go : (v : Bool) → c.holds ≡ v → (all_hold xs ≡ true → first_refused xs ≡ None) → first_refused (c ∷ xs) ≡ None
    go true e rest = passed_one c xs e ∙ rest (sym (hold_one c xs true e) ∙ h)
    go false e rest = absurd (apart (sym (hold_one c xs false e) ∙ h))
      where
        apart : false ≡ true → ⊥
        apart k = cc

-- each check has this reason
abbrev pub HaveReason : Reason → List Check → Type 0
HaveReason r checks = AllByRecursion (λ c. c.reason ≡ r) checks

pub have_append : (r : Reason) (xs ys : List Check) → HaveReason r xs → HaveReason r ys → HaveReason r (xs ++ ys)
have_append r [] ys hs ks = ks
have_append r (c ∷ xs) ys (h, hs) ks = (h, have_append r xs ys hs ks)

pub have_map : {B : Type 0} (r : Reason) (f : B → Check) (xs : List B) → ((x : B) → (f x).reason ≡ r)
    → HaveReason r (map f xs)
have_map r f [] h = tt
have_map r f (x ∷ xs) h = (h x, have_map r f xs h)

-- where not all hold, and each has this reason, it is the first
pub alike_refused : (r : Reason) (xs : List Check) → HaveReason r xs → all_hold xs ≡ false → first_refused xs ≡ Some r
alike_refused r [] h e = absurd (apart e)
  where
    apart : true ≡ false → ⊥
    apart k = cc
alike_refused r (c ∷ xs) (h, hs) e = go c.holds refl (alike_refused r xs hs)
  where
    go : (v : Bool) → c.holds ≡ v → (all_hold xs ≡ false → first_refused xs ≡ Some r) → first_refused (c ∷ xs) ≡ Some r
    go true k rest = passed_one c xs k ∙ rest (sym (hold_one c xs true k) ∙ e)
    go false k rest = failed_one c xs k ∙ ap Some h

-- a list of checks from a place on: the one at the place, and those after it
refused_more : {A B : Type 0} (check_of : B → Check) (view : A → B) (xs : List A) (i : ℕ) (x : A) → i < length xs
    → x ≡ get_or xs i x
    → first_refused (map check_of (map view (drop i xs)))
    ≡ first_refused (check_of (view x) ∷ map check_of (map view (drop (i + 1) xs)))
refused_more {A} check_of view xs i x low e =
    ap (λ (ys : List A). first_refused (map check_of (map view ys))) (drop_more xs i x low)
    ∙ ap (λ (y : A). first_refused (check_of (view y) ∷ map check_of (map view (drop (i + 1) xs)))) (sym e)

module _ {A B : Type 0} (check_of : B → Check) (view : A → B) (xs : List A) (i : ℕ) where
  -- a loop for the first check that is refused: one that holds is passed, one that fails is found, or there is none
  pub refused_passed : (x : A) → i < length xs → x ≡ get_or xs i x → (check_of (view x)).holds ≡ true
      → first_refused (map check_of (map view (drop i xs))) ≡ first_refused (map check_of (map view xs))
      → first_refused (map check_of (map view (drop (i + 1) xs))) ≡ first_refused (map check_of (map view xs))
  refused_passed x low e h kept =
      sym (passed_one (check_of (view x)) (map check_of (map view (drop (i + 1) xs))) h)
      ∙ (sym (refused_more check_of view xs i x low e) ∙ kept)

  pub refused_found : (x : A) → i < length xs → x ≡ get_or xs i x → (check_of (view x)).holds ≡ false
      → first_refused (map check_of (map view (drop i xs))) ≡ first_refused (map check_of (map view xs))
      → Some (check_of (view x)).reason ≡ first_refused (map check_of (map view xs))
  refused_found x low e h kept =
      sym (failed_one (check_of (view x)) (map check_of (map view (drop (i + 1) xs))) h)
      ∙ (sym (refused_more check_of view xs i x low e) ∙ kept)

  pub refused_none : length xs ≤ i
      → first_refused (map check_of (map view (drop i xs))) ≡ first_refused (map check_of (map view xs))
      → None ≡ first_refused (map check_of (map view xs))
  refused_none low kept =
      sym (ap (λ (ys : List A). first_refused (map check_of (map view ys))) (drop_all i xs low)) ∙ kept

  -- a loop that asks whether all hold
  hold_more : (x : A) (v : Bool) → i < length xs → x ≡ get_or xs i x → (check_of (view x)).holds ≡ v
      → all_hold (map check_of (map view (drop i xs))) ≡ (v && all_hold (map check_of (map view (drop (i + 1) xs))))
  hold_more x v low e h =
      ap (λ (ys : List A). all_hold (map check_of (map view ys))) (drop_more xs i x low)
      ∙ ap (λ (y : A). all_hold (check_of (view y) ∷ map check_of (map view (drop (i + 1) xs)))) (sym e)
      ∙ hold_one (check_of (view x)) (map check_of (map view (drop (i + 1) xs))) v h

  pub hold_passed : (x : A) → i < length xs → x ≡ get_or xs i x → (check_of (view x)).holds ≡ true
      → all_hold (map check_of (map view (drop i xs))) ≡ all_hold (map check_of (map view xs))
      → all_hold (map check_of (map view (drop (i + 1) xs))) ≡ all_hold (map check_of (map view xs))
  hold_passed x low e h kept = sym (hold_more x true low e h) ∙ kept

  pub hold_failed : (x : A) → i < length xs → x ≡ get_or xs i x → (check_of (view x)).holds ≡ false
      → all_hold (map check_of (map view (drop i xs))) ≡ all_hold (map check_of (map view xs))
      → false ≡ all_hold (map check_of (map view xs))
  hold_failed x low e h kept = sym (hold_more x false low e h) ∙ kept

  pub hold_none : length xs ≤ i
      → all_hold (map check_of (map view (drop i xs))) ≡ all_hold (map check_of (map view xs))
      → true ≡ all_hold (map check_of (map view xs))
  hold_none low kept = sym (ap (λ (ys : List A). all_hold (map check_of (map view ys))) (drop_all i xs low)) ∙ kept

-- a shape that isn't right is refused with its reason, and one that is leaves what is after it
pub misshapen : (r : Reason) (shape ys : List Check) → HaveReason r shape → false ≡ all_hold shape
    → Some r ≡ first_refused (shape ++ ys)
misshapen r shape ys h e = sym (refused_stops shape ys r (alike_refused r shape h (sym e)))

pub well_shaped : (shape ys : List Check) → true ≡ all_hold shape → first_refused (shape ++ ys) ≡ first_refused ys
well_shaped shape ys e = refused_passes shape ys (hold_refused shape (sym e))

-- a reason found after what is passed
pub stops_behind : (all xs ys : List Check) (r : Reason) → first_refused all ≡ first_refused (xs ++ ys)
    → Some r ≡ first_refused xs → Some r ≡ first_refused all
stops_behind all xs ys r passed h = sym (passed ∙ refused_stops xs ys r (sym h))

-- one list more is passed
pub passes_behind : (all xs ys : List Check) → first_refused all ≡ first_refused (xs ++ ys) → None ≡ first_refused xs
    → first_refused all ≡ first_refused ys
passes_behind all xs ys passed h = passed ∙ refused_passes xs ys (sym h)
