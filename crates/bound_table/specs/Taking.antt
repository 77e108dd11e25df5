-- How parts of one bound are paired with parts of another, offered one after the other.
use Rattle.std.specs.Prelude.{◌≡◌, ℕ, ◌<◌, length, slice_index_or, ◌&&◌, cond, Bool, true, false, List, [], ◌∷◌}
use Rattle.std.specs.Prelude.{slice_set}
use Rattle.std.specs.List.{list_any, list_all}
use Rattle.bound_expr.specs.model.Bounds.{Bound, Input}
use Rattle.bound_table.specs.Kinds.{is_same_input}
use Rattle.bound_table.specs.declared.kinds.Pairing.{Pairing}
use Rattle.bound_table.specs.declared.kinds.Pairing.TheVariants.{AsTerms, AsFactors}
use Rattle.bound_table.specs.Below.{match_in_order, matched, leftovers, may_be_leftover, term_below, factor_below, below}

-- one bound is below another in their context: as a part of a sum, or as a factor
abbrev pub paired_below : Pairing → (Bound → Bound → Bool) → Bound → Bound → Bool
paired_below AsTerms smaller = term_below smaller
paired_below AsFactors smaller = factor_below smaller

-- the elements that still need one to take, after q was offered to the first of them
abbrev pub left_after : (Bound → Bound → Bool) → List Bound → Bound → List Bound
left_after related [] q = []
left_after related (p ∷ ps) q = cond (related p q) ps (p ∷ ps)

-- the factors that are taken, if each factor takes one that it is below
abbrev pub factors_taken : List Bound → List Bound → List Bound
factors_taken fs gs = matched (factor_below (λ p q. below p q)) fs gs

-- each element takes one, and those left over may be left over
abbrev pub takes_fully : (Bound → Bound → Bool) → List Bound → List Bound → Bool
takes_fully related ps qs =
    match_in_order related ps qs && list_all (may_be_leftover (matched related ps qs)) (leftovers related ps qs)

-- the marks, with that of t set if t is an input
abbrev pub marked_one : List Bool → Bound → List Bool
marked_one marks (Input i) = slice_set marks i true
marked_one marks _ = marks

-- the marks, with those of all inputs among the bounds set
abbrev pub marked : List Bool → List Bound → List Bool
marked marks [] = marks
marked marks (t ∷ ts) = marked (marked_one marks t) ts

-- a bound that is an input is the same as one that is taken
abbrev pub input_among : List Bound → Bound → Bool
input_among ts (Input i) = list_any (is_same_input (Input i)) ts
input_among ts _ = true

-- the marks are those of the inputs that are taken, as far as there is room
pub record IsMarked (marks : List Bool) (ts : List Bound) : Type 0 where
  pub each : (i : ℕ) → i < length marks → slice_index_or marks i false ≡ list_any (is_same_input (Input i)) ts
