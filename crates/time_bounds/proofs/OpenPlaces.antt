-- Whether one of some places has no size, for one place more at a time.
use Rattle.std.proofs.Common.{◌≡◌, ℕ, zero, suc, ◌<◌, ◌||◌, Bool, true, false, not, List, [], ◌∷◌, ◌++◌, length, map, take, get_or, Option, Some, None}
use Rattle.std.proofs.Common.{refl, sym, ◌∙◌, arith}
use Rattle.std.specs.Prelude.{is_some}
use Rattle.std.proofs.lemmas.Bool.{or_left, or_right}
use Rattle.cert_types.specs.declared.side_bound.ResultVariable as code
use Rattle.cert_types.specs.cert_rules.Nodes.{ResultVariable}
use Rattle.cert_types.specs.Views.{result_variable_of}
use Rattle.outcome.specs.declared.entry.Stored.{Stored}
use Rattle.size_bounds.specs.Tables.{bound_stored}
use Rattle.bound_fixpoint.specs.Keys.{Bounds, at_key, lacks}
use Rattle.bound_fixpoint.specs.Answers.{are_open}

-- if one place more has a size, none is open
closed-append : (b : Bounds) (xs : List ResultVariable) (k : ResultVariable) → are_open b xs ≡ false → lacks (at_key b k) ≡ false
    → are_open b (xs ++ k ∷ []) ≡ false
closed-append b [] k h e = join (lacks (at_key b k)) e
  where
    join : (v : Bool) → v ≡ false → (v || false) ≡ false
    join true f = f
    join false f = refl
closed-append b (x ∷ xs) k h e = go (lacks (at_key b x)) (are_open b xs) h (λ m. closed-append b xs k m e)
  where
    go : (v w : Bool) → (v || w) ≡ false → (w ≡ false → are_open b (xs ++ k ∷ []) ≡ false) → (v || are_open b (xs ++ k ∷ [])) ≡ false
    go true w m rest = m
    go false w m rest = rest m

-- the same for the first elements of a list
pub closed_more : (b : Bounds) (result_variables : List code.ResultVariable) (i : ℕ) (d : code.ResultVariable) → i < length result_variables
    → are_open b (map result_variable_of (take i result_variables)) ≡ false → lacks (at_key b (result_variable_of (get_or result_variables i d))) ≡ false
    → are_open b (map result_variable_of (take (suc i) result_variables)) ≡ false
closed_more b [] i d l h e = absurd (omega (arith, l))
closed_more b (x ∷ result_variables) zero d l h e = closed-append b [] (result_variable_of x) refl e
closed_more b (x ∷ result_variables) (suc i) d l h e =
    go (lacks (at_key b (result_variable_of x))) (are_open b (map result_variable_of (take i result_variables))) h
    (λ m. closed_more b result_variables i d (omega (arith, l)) m e)
  where
    go : (v w : Bool) → (v || w) ≡ false → (w ≡ false → are_open b (map result_variable_of (take (suc i) result_variables)) ≡ false)
        → (v || are_open b (map result_variable_of (take (suc i) result_variables))) ≡ false
    go true w m rest = m
    go false w m rest = rest m

-- if one place is without a size, some place is open
pub open_at : (b : Bounds) (result_variables : List code.ResultVariable) (i : ℕ) (d : code.ResultVariable) → i < length result_variables
    → lacks (at_key b (result_variable_of (get_or result_variables i d))) ≡ true → are_open b (map result_variable_of result_variables) ≡ true
open_at b [] i d l e = absurd (omega (arith, l))
open_at b (x ∷ result_variables) zero d l e = or_left (lacks (at_key b (result_variable_of x))) (are_open b (map result_variable_of result_variables)) e
open_at b (x ∷ result_variables) (suc i) d l e =
    or_right (lacks (at_key b (result_variable_of x))) (are_open b (map result_variable_of result_variables)) (open_at b result_variables i d (omega (arith, l)) e)

-- the values of a test and its negation, for a bound that is known, and for one that is missing
pub known-sound : (v w : Bool) → v ≡ not w → v ≡ true → w ≡ false
known-sound v true e h = sym (sym e ∙ h)
known-sound v false e h = refl

pub missing-sound : (v w : Bool) → v ≡ not w → v ≡ false → w ≡ true
missing-sound v true e h = refl
missing-sound v false e h = sym h ∙ e

-- an entry is stored exactly if a bound is known
pub stored_known : (o : Option Stored) → is_some o ≡ not (lacks (bound_stored o))
stored_known None = refl
stored_known (Some s) = refl
