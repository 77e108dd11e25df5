-- The test that one bound is below another, on their structure.
use Rattle.std.specs.Prelude.{ℕ, zero, suc, ◌+◌, ◌≤◌, nat_le, ◌&&◌, ◌||◌, not, cond, Bool, true, false, List, [], ◌∷◌}
use Rattle.std.specs.List.{list_any, list_all}
use Rattle.bound_expr.specs.model.Bounds.{Bound, Constant, Input, SumOf, MaximumOf, PowerOf, val}
use Rattle.bound_expr.specs.Views.{list_of}
use Rattle.bound_expr.specs.Measure.{node_count}
use Rattle.bound_expr.specs.Kinds.{is_constant, is_power, is_input}
use Rattle.bound_table.specs.Kinds.{is_same_input, is_nest}
use Rattle.bound_table.specs.Terms.{constant_of, factors_of}

-- the elements of the first list match, in order, different elements of the second: each takes the first related one after
-- the one taken before;
-- true if each finds one
abbrev pub match_in_order : (Bound → Bound → Bool) → List Bound → List Bound → Bool
match_in_order related [] qs = true
match_in_order related (p ∷ ps) [] = false
match_in_order related (p ∷ ps) (q ∷ qs) = cond (related p q) (match_in_order related ps qs) (match_in_order related (p ∷ ps) qs)

-- the elements of the second list that are matched
abbrev pub matched : (Bound → Bound → Bool) → List Bound → List Bound → List Bound
matched related [] qs = []
matched related (p ∷ ps) [] = []
matched related (p ∷ ps) (q ∷ qs) = cond (related p q) (q ∷ matched related ps qs) (matched related (p ∷ ps) qs)

-- the elements that are left over
abbrev pub leftovers : (Bound → Bound → Bool) → List Bound → List Bound → List Bound
leftovers related [] qs = qs
leftovers related (p ∷ ps) [] = []
leftovers related (p ∷ ps) (q ∷ qs) = cond (related p q) (leftovers related ps qs) (q ∷ leftovers related (p ∷ ps) qs)

-- a factor may be left over if it is a power, or an input that is also one of those taken
abbrev pub may_be_leftover : List Bound → Bound → Bool
may_be_leftover ts g = is_power g || (is_input g && list_any (is_same_input g) ts)

-- a factor below another: the same input; powers with bases and exponents below; or one of the two is a sum or a
-- maximum, and it is below the other as a bound
abbrev pub factor_below : (Bound → Bound → Bool) → Bound → Bound → Bool
factor_below smaller (Input i) (Input j) = is_same_input (Input i) (Input j)
factor_below smaller (PowerOf c e) (PowerOf d f) = nat_le c d && smaller e f
factor_below smaller f g = (is_nest f || is_nest g) && smaller f g

-- a part below another: no constant among the factors of either; the constant at most the other's; each factor takes a
-- factor that it is below; and the factors that are left may be left
abbrev pub term_below : (Bound → Bound → Bool) → Bound → Bound → Bool
term_below smaller p q =
    not (list_any is_constant (factors_of p)) && not (list_any is_constant (factors_of q))
    && nat_le (constant_of p) (constant_of q)
    && match_in_order (factor_below smaller) (factors_of p) (factors_of q)
    && list_all (may_be_leftover (matched (factor_below smaller) (factors_of p) (factors_of q)))
    (leftovers (factor_below smaller) (factors_of p) (factors_of q))

-- the parts of a sum; a bound that is no sum is its own only part
abbrev pub terms_of : Bound → List Bound
terms_of (SumOf ps) = list_of ps
terms_of b = b ∷ []

-- a bound that is no maximum, against any other: it is below one of the parts of a maximum, and below another bound
-- where each of its parts takes one of the other's
abbrev pub below_one : (Bound → Bound → Bool) → Bound → Bound → Bool
below_one smaller a (MaximumOf qs) = list_any (λ q. smaller a q) (list_of qs)
below_one smaller a b = match_in_order (term_below smaller) (terms_of a) (terms_of b)

-- one level of the test: 0 is below everything, and a maximum is below what all of its parts are below
abbrev pub below_step : (Bound → Bound → Bool) → Bound → Bound → Bool
below_step smaller (Constant zero) b = true
below_step smaller (MaximumOf ps) b = list_all (λ p. smaller p b) (list_of ps)
below_step smaller a b = below_one smaller a b

-- the test with at most this many levels
abbrev pub below_within : ℕ → Bound → Bound → Bool
below_within zero a b = false
below_within (suc n) a b = below_step (λ p q. below_within n p q) a b

-- a is below b; no test has more levels than the two bounds have nodes
unfoldable pub below : Bound → Bound → Bool
below a b = below_within (node_count a + node_count b) a b

-- a bound has no greater value than another, whatever the inputs are
pub record IsNeverGreater (a b : Bound) : Type 0 where
  pub each : (m : List ℕ) → val a m ≤ val b m
