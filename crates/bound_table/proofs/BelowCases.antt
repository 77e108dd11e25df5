-- The test of being below, kind by kind of its first argument, and the end of a matching of factors.
use Rattle.std.proofs.Common.{◌≡◌, ℕ, zero, suc, ◌+◌, ◌≤◌, ◌==◌, ◌⊎◌, Bool, true, false, ◌&&◌, ◌||◌, List, [], ◌∷◌}
use Rattle.std.proofs.Common.{length, refl, ap, sym, ◌∙◌, inl, inr, subst, arith}
use Rattle.std.proofs.Common.{Vec, Box, Global}
use Rattle.std.proofs.Math.Dec.{eqb-suc-zero}
use Rattle.std.specs.List.{list_all}
use Rattle.std.proofs.lemmas.List.{length-map}
use Rattle.bound_expr.specs.model.Bounds as plain
use Rattle.bound_expr.specs.model.Bounds.{Constant, Input, SumOf, ProductOf, MaximumOf, PowerOf}
use Rattle.bound_expr.specs.declared.bound.Bound.{Bound, Const, Var, Sum, Prod, Max, Power}
use Rattle.bound_expr.specs.Views.{bound_of, bounds_of, parts_of}
use Rattle.bound_expr.specs.Tidy.{IsNoMaximum}
use Rattle.bound_expr.proofs.Views.{bound_of-Const, bound_of-Var, bound_of-Sum, bound_of-Prod, bound_of-Max}
use Rattle.bound_expr.proofs.Views.{bound_of-Power}
use Rattle.bound_expr.proofs.PartLists.{list_of-parts_of}
use Rattle.bound_table.specs.Below.{match_in_order, matched, leftovers, may_be_leftover, below_one, below}
use Rattle.bound_table.specs.Kinds.{is_power_or_input}
use Rattle.bound_table.specs.Taking.{takes_fully, input_among}
use Rattle.bound_table.proofs.BelowLevels.{bound_weight, bounds_weight, bounds_weight-list_of, below_is}
use Rattle.bound_table.proofs.Takes.{spare-split}

-- a bound that is neither a constant nor a maximum
abbrev pub IsPlain : plain.Bound → Type 0
IsPlain (Constant c) = ⊥
IsPlain (MaximumOf ps) = ⊥
IsPlain b = Unit {0}

-- the test of a bound that is neither a constant nor a maximum is `below_one`
pub below-plain : (a b : plain.Bound) → IsPlain a → below a b ≡ below_one (λ p q. below p q) a b
below-plain (Constant c) b plain = absurd plain
below-plain (MaximumOf ps) b plain = absurd plain
below-plain (Input i) b plain = below_is (Input i) b
below-plain (SumOf ps) b plain = below_is (SumOf ps) b
below-plain (ProductOf ps) b plain = below_is (ProductOf ps) b
below-plain (PowerOf c e) b plain = below_is (PowerOf c e) b

-- a bound of the code that is a variable, a sum, a product or a power
abbrev pub IsOneOfFour : Bound → Type 0
IsOneOfFour a =
    ((i : ℕ) × (a ≡ Var i))
    ⊎ (((v : Vec Bound Global) × (a ≡ Sum v))
    ⊎ (((v : Vec Bound Global) × (a ≡ Prod v)) ⊎ ((c : ℕ) × (e : Box Bound Global) × (a ≡ Power c e))))

-- the view of such a bound is neither a constant nor a maximum
pub IsPlain-kinds : (a : Bound)
    → IsOneOfFour a
    → IsPlain (bound_of a)
IsPlain-kinds a (inl (i, e)) = subst IsPlain (sym (ap bound_of e ∙ bound_of-Var i)) tt
IsPlain-kinds a (inr (inl (v, e))) = subst IsPlain (sym (ap bound_of e ∙ bound_of-Sum v)) tt
IsPlain-kinds a (inr (inr (inl (v, e)))) = subst IsPlain (sym (ap bound_of e ∙ bound_of-Prod v)) tt
IsPlain-kinds a (inr (inr (inr (c, x, e)))) = subst IsPlain (sym (ap bound_of e ∙ bound_of-Power c x)) tt

-- the test of such a bound of the code is `below_one`
pub below-kinds : (a : Bound) (b : plain.Bound)
    → IsOneOfFour a
    → below (bound_of a) b ≡ below_one (λ p q. below p q) (bound_of a) b
below-kinds a b kinds = below-plain (bound_of a) b (IsPlain-kinds a kinds)

-- a constant is below a bound if it is 0, or if it is below as any other bound is
pub below-constant : (c : ℕ) (b : plain.Bound)
    → below (Constant c) b ≡ ((c == 0) || below_one (λ p q. below p q) (Constant c) b)
below-constant zero b = below_is (Constant zero) b
below-constant (suc c) b =
    below_is (Constant (suc c)) b
    ∙ sym (ap (λ v. v || below_one (λ p q. below p q) (Constant (suc c)) b) (eqb-suc-zero c))

-- a maximum is below a bound exactly if each of its parts is
pub below-maximum : (a : Bound) (v : Vec Bound Global) (b : plain.Bound) → a ≡ Max v
    → below (bound_of a) b ≡ list_all (λ p. below p b) (bounds_of v.items)
below-maximum a v b e =
    ap (λ s. below s b) (ap bound_of e ∙ bound_of-Max v)
    ∙ below_is (MaximumOf (parts_of (bounds_of v.items))) b
    ∙ ap (λ ps. list_all (λ p. below p b) ps) (list_of-parts_of (bounds_of v.items))

-- the parts of a maximum weigh less than the maximum
pub bounds_weight-maximum : (a : Bound) (v : Vec Bound Global) → a ≡ Max v
    → bounds_weight (bounds_of v.items) + 3 ≤ bound_weight (bound_of a)
bounds_weight-maximum a v e =
    omega (arith, ap bound_weight (ap bound_of e ∙ bound_of-Max v), bounds_weight-list_of (parts_of (bounds_of v.items)), ap bounds_weight (list_of-parts_of (bounds_of v.items)))

-- at the end of a matching in which some element found none, the matching fails
pub fully-unfound : (related : plain.Bound → plain.Bound → Bool) (left ps qs : List plain.Bound)
    → match_in_order related left [] ≡ match_in_order related ps qs
    → (length left == 0) ≡ false → false ≡ takes_fully related ps qs
fully-unfound related [] ps qs found some = cc
fully-unfound related (p ∷ left) ps qs found some =
    ap (λ v. v && list_all (may_be_leftover (matched related ps qs)) (leftovers related ps qs)) found

-- at the end of a matching in which each element found one, the elements left over decide
pub fully-found : (related : plain.Bound → plain.Bound → Bool) (left ps qs : List plain.Bound) (fit among : Bool)
    → match_in_order related left [] ≡ match_in_order related ps qs
    → (length left == 0) ≡ true
    → (fit && list_all is_power_or_input (leftovers related left [])) ≡ list_all is_power_or_input (leftovers related ps qs)
    → among ≡ list_all (input_among (matched related ps qs)) qs → (fit && among) ≡ takes_fully related ps qs
fully-found related [] ps qs fit among found none fits is =
    ap (λ v. v && among) (sym (and-true fit) ∙ fits)
    ∙ ap (λ v. list_all is_power_or_input (leftovers related ps qs) && v) is
    ∙ sym (spare-split related ps qs)
    ∙ ap (λ v. v && list_all (may_be_leftover (matched related ps qs)) (leftovers related ps qs)) found
  where
    and-true : (b : Bool) → (b && true) ≡ b
    and-true true = refl
    and-true false = refl
fully-found related (p ∷ left) ps qs fit among found none fits is = cc (eqb-suc-zero (length left))

-- at the end of the loop over the other factors, if an element still needs one, the matching fails
pub loop-unfound : (related : plain.Bound → plain.Bound → Bool) (xs : List Bound) (rest ps qs : List plain.Bound)
    → rest ≡ []
    → match_in_order related (bounds_of xs) rest ≡ match_in_order related ps qs
    → (length xs == 0) ≡ false
    → false ≡ takes_fully related ps qs
loop-unfound related xs rest ps qs none found some =
    fully-unfound related (bounds_of xs) ps qs (sym (ap (match_in_order related (bounds_of xs)) none) ∙ found)
    (ap (λ (n : ℕ). n == 0) (length-map xs bound_of) ∙ some)

-- at the end of the loop over the other factors, if no element needs one, the elements left over decide
pub loop-found : (related : plain.Bound → plain.Bound → Bool) (xs : List Bound) (rest ps qs : List plain.Bound)
    (fit among : Bool)
    → rest ≡ []
    → match_in_order related (bounds_of xs) rest ≡ match_in_order related ps qs
    → (length xs == 0) ≡ true
    → (fit && list_all is_power_or_input (leftovers related (bounds_of xs) rest))
    ≡ list_all is_power_or_input (leftovers related ps qs)
    → among ≡ list_all (input_among (matched related ps qs)) qs
    → (fit && among) ≡ takes_fully related ps qs
loop-found related xs rest ps qs fit among none found empty fits is =
    let left = bounds_of xs in
    let over = λ (gs : List plain.Bound). fit && list_all is_power_or_input (leftovers related left gs) in
    fully-found related left ps qs fit among (sym (ap (match_in_order related left) none) ∙ found)
    (ap (λ (n : ℕ). n == 0) (length-map xs bound_of) ∙ empty)
    (sym (ap over none) ∙ fits) is

-- a matching of no elements takes nothing
pub match_in_order-none : (related : plain.Bound → plain.Bound → Bool) (ps : List plain.Bound)
    → match_in_order related ps [] ≡ (length ps == 0)
match_in_order-none related [] = refl
match_in_order-none related (p ∷ ps) = sym (eqb-suc-zero (length ps))

-- a bound that is one of the five other kinds is no maximum
pub IsNoMaximum-kinds : (a : Bound)
    → ((i : ℕ) × (a ≡ Const i)) ⊎ IsOneOfFour a
    → IsNoMaximum (bound_of a)
IsNoMaximum-kinds a (inl (i, e)) = subst IsNoMaximum (sym (ap bound_of e ∙ bound_of-Const i)) tt
IsNoMaximum-kinds a (inr (inl (i, e))) = subst IsNoMaximum (sym (ap bound_of e ∙ bound_of-Var i)) tt
IsNoMaximum-kinds a (inr (inr (inl (v, e)))) = subst IsNoMaximum (sym (ap bound_of e ∙ bound_of-Sum v)) tt
IsNoMaximum-kinds a (inr (inr (inr (inl (v, e))))) = subst IsNoMaximum (sym (ap bound_of e ∙ bound_of-Prod v)) tt
IsNoMaximum-kinds a (inr (inr (inr (inr (c, x, e))))) = subst IsNoMaximum (sym (ap bound_of e ∙ bound_of-Power c x)) tt
