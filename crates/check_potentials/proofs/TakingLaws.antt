-- The position of the first charge that is the same as another.
use Rattle.std.proofs.Common.{◌≡◌, ℕ, zero, suc, ◌<◌, ◌≤◌, Bool, true, false, List, [], ◌∷◌, ◌++◌, map, take, drop}
use Rattle.std.proofs.Common.{get_or, length, Option, Some, None, refl, ap, sym, ◌∙◌, arith}
use Rattle.std.specs.Prelude.{remove, option_map, if◌then◌else◌}
use Rattle.std.proofs.lemmas.List.{drop_all}
use Rattle.potential_nodes.specs.potentials.Sums as sums
use Rattle.potential_nodes.specs.Facts.{same_charge}
use Rattle.potential_nodes.specs.Combinations.{without_charge}
use Rattle.potential_types.specs.declared.facts.Charge.{Charge}
use Rattle.potential_types.specs.Views.{charge_of}

-- what is found after a prefix
abbrev pub behind : List sums.Charge → Option (List sums.Charge) → Option (List sums.Charge)
behind before o = option_map (λ found. before ++ found) o

-- what is found after one charge more
behind_one : (y : sums.Charge) (before : List sums.Charge) (o : Option (List sums.Charge))
    → behind (y ∷ before) o ≡ option_map (λ found. y ∷ found) (behind before o)
behind_one y before None = refl
behind_one y before (Some found) = refl

-- what is found after nothing
behind_none : (o : Option (List sums.Charge)) → behind [] o ≡ o
behind_none None = refl
behind_none (Some found) = refl

-- the test fails, or passes, at the first charge
test_fails : (c y : sums.Charge) (ys : List sums.Charge) → same_charge c y ≡ false
    → without_charge c (y ∷ ys) ≡ option_map (λ found. y ∷ found) (without_charge c ys)
test_fails c y ys e =
    ap (λ (t : Bool). if t then Some ys else option_map (λ found. y ∷ found) (without_charge c ys)) e

test_passes : (c y : sums.Charge) (ys : List sums.Charge) → same_charge c y ≡ true → without_charge c (y ∷ ys) ≡ Some ys
test_passes c y ys e =
    ap (λ (t : Bool). if t then Some ys else option_map (λ found. y ∷ found) (without_charge c ys)) e

-- a charge that is another one goes to those before
pub first_fails : (c : sums.Charge) (ys : List sums.Charge) (i : ℕ) (y : sums.Charge) → i < length ys
    → get_or ys i y ≡ y → same_charge c y ≡ false
    → behind (take i ys) (without_charge c (drop i ys)) ≡ behind (take (suc i) ys) (without_charge c (drop (suc i) ys))
first_fails c [] i y h e f = absurd (omega arith)
first_fails c (x ∷ ys) zero y h e f =
    behind_none (without_charge c (x ∷ ys))
    ∙ test_fails c x ys (ap (same_charge c) e ∙ f)
    ∙ ap (λ (o : Option (List sums.Charge)). option_map (λ found. x ∷ found) o)
    (sym (behind_none (without_charge c ys)))
    ∙ sym (behind_one x [] (without_charge c ys))
first_fails c (x ∷ ys) (suc i) y h e f =
    behind_one x (take i ys) (without_charge c (drop i ys))
    ∙ ap (λ (o : Option (List sums.Charge)). option_map (λ found. x ∷ found) o) (first_fails c ys i y (omega arith) e f)
    ∙ sym (behind_one x (take (suc i) ys) (without_charge c (drop (suc i) ys)))

-- the same one is taken out
pub first_passes : (c : sums.Charge) (ys : List sums.Charge) (i : ℕ) (y : sums.Charge) → i < length ys
    → get_or ys i y ≡ y → same_charge c y ≡ true
    → behind (take i ys) (without_charge c (drop i ys)) ≡ Some (remove ys i)
first_passes c [] i y h e f = absurd (omega arith)
first_passes c (x ∷ ys) zero y h e f =
    behind_none (without_charge c (x ∷ ys)) ∙ test_passes c x ys (ap (same_charge c) e ∙ f)
first_passes c (x ∷ ys) (suc i) y h e f =
    behind_one x (take i ys) (without_charge c (drop i ys))
    ∙ ap (λ (o : Option (List sums.Charge)). option_map (λ found. x ∷ found) o)
    (first_passes c ys i y (omega arith) e f)

-- no charge is left
pub first_none : (c : sums.Charge) (ys : List sums.Charge) (i : ℕ) → length ys ≤ i
    → behind (take i ys) (without_charge c (drop i ys)) ≡ None
first_none c ys i h = ap (λ (zs : List sums.Charge). behind (take i ys) (without_charge c zs)) (drop_all i ys h)

-- the charge at a position, and all others
pub charge_of-get : (cs : List Charge) (i : ℕ) (c : Charge) → i < length cs → c ≡ get_or cs i c
    → get_or (map charge_of cs) i (charge_of c) ≡ charge_of c
charge_of-get [] i c h e = absurd (omega arith)
charge_of-get (d ∷ cs) zero c h e = ap charge_of (sym e)
charge_of-get (d ∷ cs) (suc i) c h e = charge_of-get cs i c (omega arith) e

pub charge_of-remove : (cs : List Charge) (i : ℕ) → map charge_of (remove cs i) ≡ remove (map charge_of cs) i
charge_of-remove [] zero = refl
charge_of-remove [] (suc i) = refl
charge_of-remove (d ∷ cs) zero = refl
charge_of-remove (d ∷ cs) (suc i) = ap (λ (ds : List sums.Charge). charge_of d ∷ ds) (charge_of-remove cs i)
