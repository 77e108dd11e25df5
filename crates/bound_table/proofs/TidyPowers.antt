-- The cases of powers keep nodes nearly tidy.
use Rattle.std.proofs.Common.{◌≡◌, ℕ, ◌+◌, ◌≤◌, List, [], ◌∷◌, ◌++◌, length, Option, Some, None, refl, arith}
use Rattle.std.proofs.lemmas.List.{length-append}
use Rattle.bound_expr.specs.model.Bounds.{Bound, Constant, Input, SumOf, ProductOf, MaximumOf, PowerOf, Parts, NoParts}
use Rattle.bound_expr.specs.model.Bounds.{Part}
use Rattle.bound_expr.specs.Views.{list_of}
use Rattle.bound_expr.specs.Tidy.{part_count, IsNoSum, IsTidy}
use Rattle.bound_table.specs.declared.kinds.Case.{Case}
use Rattle.bound_table.specs.declared.kinds.Case.TheVariants.{Flat, FoldConst, ZeroProduct, Neutral, PowerConst}
use Rattle.bound_table.specs.declared.kinds.Case.TheVariants.{PowerShift, PowerMerge, Distribute, Order, Like}
use Rattle.bound_table.specs.declared.kinds.Case.TheVariants.{Dominate, Few}
use Rattle.bound_table.specs.declared.kinds.Kind.{Kind}
use Rattle.bound_table.specs.declared.kinds.Kind.TheVariants.{AsSum, AsProd, AsMax}
use Rattle.bound_table.specs.Kinds.{whole}
use Rattle.bound_table.specs.Folding.{parts_of_kind}
use Rattle.bound_table.specs.Runs.{runs_of}
use Rattle.bound_table.specs.Powers.{number_of_power, number_or_power, evaluated, but_first_constant, sum_or_single}
use Rattle.bound_table.specs.Powers.{number_taken, exponent_left, times_power_left, shifted, have_one_base}
use Rattle.bound_table.specs.Powers.{exponent_of, exponents_of, powers_list, powers_merged}
use Rattle.bound_table.specs.Rewriting.{at_power}
use Rattle.bound_table.proofs.Each.{Each}
use Rattle.bound_table.proofs.Kept.{Each-but_first_constant, Each-exponents_of}
use Rattle.bound_table.proofs.PartFacts.{AreTogether, runs_of-good, Each-all_runs_joined}
use Rattle.bound_table.proofs.PowerValues.{number_of_power-some, number_taken-some}
use Rattle.bound_table.proofs.TidyParts.{IsTidyPart, each-part, IsNearlyTidy, whole-tidy, tidy-spread}

-- the list of parts has as many elements as there are parts
pub length-list_of : (ps : Parts) → length (list_of ps) ≡ part_count ps
length-list_of NoParts = refl
length-list_of (Part p ps) = omega (arith, length-list_of ps)

-- a tidy bound has at least one part of each kind, itself if it is of another kind
pub spread-some : (k : Kind) (p : Bound) → IsTidy p → 1 ≤ length (parts_of_kind k p)
spread-some AsSum (SumOf ps) tidy = omega (arith, length-list_of ps, tidy.0.0)
spread-some AsProd (ProductOf ps) tidy = omega (arith, length-list_of ps, tidy.0.0)
spread-some AsMax (MaximumOf ps) tidy = omega (arith, length-list_of ps, tidy.0.0)
spread-some k p tidy = omega arith

-- a node of at least two tidy parts is tidy
pub whole-many : (k : Kind) (ps : List Bound) → Each (IsTidyPart k) ps → 2 ≤ length ps → IsTidy (whole k ps)
whole-many k [] each many = absurd (omega arith)
whole-many k (p ∷ []) each many = absurd (omega arith)
whole-many k (p ∷ q ∷ ps) each many = whole-tidy k p q ps each

-- at most one part is the first constant
but_first_constant-length : (ps : List Bound) → length ps ≤ 1 + length (but_first_constant ps)
but_first_constant-length [] = omega arith
but_first_constant-length (Constant n ∷ ps) = omega arith
but_first_constant-length (Input i ∷ ps) = omega (arith, but_first_constant-length ps)
but_first_constant-length (SumOf qs ∷ ps) = omega (arith, but_first_constant-length ps)
but_first_constant-length (ProductOf qs ∷ ps) = omega (arith, but_first_constant-length ps)
but_first_constant-length (MaximumOf qs ∷ ps) = omega (arith, but_first_constant-length ps)
but_first_constant-length (PowerOf c e ∷ ps) = omega (arith, but_first_constant-length ps)

-- tidy parts as a sum, or a single one, are tidy
sum_or_single-tidy : (ps : List Bound) → Each (IsTidyPart AsSum) ps → 1 ≤ length ps → IsTidy (sum_or_single ps)
sum_or_single-tidy [] each some = absurd (omega arith)
sum_or_single-tidy (p ∷ []) each some = each.0.0
sum_or_single-tidy (p ∷ q ∷ ps) each some = whole-tidy AsSum p q ps each

-- the exponent that is left of a tidy exponent is tidy
exponent_left-tidy : (e : Bound) → IsTidy e → IsTidy (exponent_left e)
exponent_left-tidy (SumOf ps) tidy =
    sum_or_single-tidy (but_first_constant (list_of ps))
    (Each-but_first_constant (IsTidyPart AsSum) (list_of ps) (each-part IsNoSum ps tidy.0.1 tidy.1))
    (omega (arith, but_first_constant-length (list_of ps), length-list_of ps, tidy.0.0))
exponent_left-tidy (Constant n) tidy = tidy
exponent_left-tidy (Input i) tidy = tidy
exponent_left-tidy (ProductOf ps) tidy = tidy
exponent_left-tidy (MaximumOf ps) tidy = tidy
exponent_left-tidy (PowerOf c e) tidy = tidy

-- a power that may be a number is nearly tidy
evaluated-nearly : (n : ℕ) (e : Bound) → (2 ≤ n) × IsTidy e → IsNearlyTidy (evaluated n e)
evaluated-nearly n e near = go (number_of_power n e) refl
  where
    go : (o : Option ℕ) → number_of_power n e ≡ o → IsNearlyTidy (number_or_power n e o)
    go None is = near
    go (Some v) is = (number_of_power-some n e v [] is).1

-- a power of which a number may be taken out is nearly tidy
shifted-nearly : (n : ℕ) (e : Bound) → (2 ≤ n) × IsTidy e → IsNearlyTidy (shifted n e)
shifted-nearly n e near = go (number_taken n e) refl
  where
    go : (o : Option ℕ) → number_taken n e ≡ o → IsNearlyTidy (times_power_left n e o)
    go None is = near
    go (Some v) is =
        (((number_taken-some n e v [] is).1, tt), (((near.0, exponent_left-tidy e near.1), tt), tt))

-- the result of a case at a tidy power is nearly tidy
pub at_power-nearly : (c : Case) (n : ℕ) (e : Bound) → (2 ≤ n) × IsTidy e → IsNearlyTidy (at_power c n e)
at_power-nearly Flat n e near = near
at_power-nearly FoldConst n e near = near
at_power-nearly ZeroProduct n e near = near
at_power-nearly Neutral n e near = near
at_power-nearly PowerConst n e near = evaluated-nearly n e near
at_power-nearly PowerShift n e near = shifted-nearly n e near
at_power-nearly PowerMerge n e near = near
at_power-nearly Distribute n e near = near
at_power-nearly Order n e near = near
at_power-nearly Like n e near = near
at_power-nearly Dominate n e near = near
at_power-nearly Few n e near = near

-- the exponent of a tidy power has tidy parts
exponent-tidy : (p : Bound) → IsTidyPart AsProd p → Each (IsTidyPart AsSum) (exponent_of p)
exponent-tidy (PowerOf c e) tidy = tidy-spread AsSum e tidy.0.1
exponent-tidy (Constant n) tidy = tt
exponent-tidy (Input i) tidy = tt
exponent-tidy (SumOf ps) tidy = tt
exponent-tidy (ProductOf ps) tidy = tt
exponent-tidy (MaximumOf ps) tidy = tt

-- the exponents of two tidy powers have at least two parts together
exponents-many : (c d : ℕ) (e f : Bound) (ps : List Bound) → IsTidy e → IsTidy f
    → 2 ≤ length (exponents_of (PowerOf c e ∷ PowerOf d f ∷ ps))
exponents-many c d e f ps tidy tidy' =
    omega (
      arith,
      length-append (parts_of_kind AsSum e) (parts_of_kind AsSum f ++ exponents_of ps),
      length-append (parts_of_kind AsSum f) (exponents_of ps),
      spread-some AsSum e tidy,
      spread-some AsSum f tidy',
    )

-- a run of tidy powers becomes a tidy part
one_power-tidy : (p : Bound) (ps : List Bound) → Each (IsTidyPart AsProd) (p ∷ ps) → AreTogether have_one_base p ps
    → Each (IsTidyPart AsProd) (powers_list (p ∷ ps))
one_power-tidy p [] each together = each
one_power-tidy (PowerOf c e) (PowerOf d f ∷ qs) each together =
    let exponents = exponents_of (PowerOf c e ∷ PowerOf d f ∷ qs) in
    let many = exponents-many c d e f qs each.0.0.1 each.1.0.0.1 in
    let parts = Each-exponents_of (IsTidyPart AsProd) (IsTidyPart AsSum) exponent-tidy (PowerOf c e ∷ PowerOf d f ∷ qs) each in
    (((each.0.0.0, whole-many AsSum exponents parts many), tt), tt)
one_power-tidy (PowerOf c e) (Constant n ∷ qs) each together = let no = together.0 in cc
one_power-tidy (PowerOf c e) (Input i ∷ qs) each together = let no = together.0 in cc
one_power-tidy (PowerOf c e) (SumOf ps ∷ qs) each together = let no = together.0 in cc
one_power-tidy (PowerOf c e) (ProductOf ps ∷ qs) each together = let no = together.0 in cc
one_power-tidy (PowerOf c e) (MaximumOf ps ∷ qs) each together = let no = together.0 in cc
one_power-tidy (Constant n) (q ∷ qs) each together = each
one_power-tidy (Input i) (q ∷ qs) each together = each
one_power-tidy (SumOf ps) (q ∷ qs) each together = each
one_power-tidy (ProductOf ps) (q ∷ qs) each together = each
one_power-tidy (MaximumOf ps) (q ∷ qs) each together = each

-- merging powers keeps tidy parts
pub powers_merged-tidy : (k : Kind) (ps : List Bound) → Each (IsTidyPart k) ps → Each (IsTidyPart k) (powers_merged k ps)
powers_merged-tidy AsProd ps each =
    Each-all_runs_joined have_one_base powers_list (IsTidyPart AsProd) one_power-tidy (runs_of have_one_base ps)
    (runs_of-good have_one_base (IsTidyPart AsProd) ps each)
powers_merged-tidy AsSum ps each = each
powers_merged-tidy AsMax ps each = each
