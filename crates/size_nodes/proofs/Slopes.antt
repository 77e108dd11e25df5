-- Side bounds multiply members neither by coefficients that are 0 nor after rules without members.
use Rattle.std.proofs.Common.{◌≡◌, ℕ, ◌+◌, ◌≤◌, ◌-◌, Bool, true, false, cond, List, [], ◌∷◌, length, map, refl, sym, ap, ◌∙◌, arith}
use Rattle.std.specs.Prelude.{ℤ, pos, nat_abs}
use Rattle.std.proofs.lemmas.Nat.{div_below}
use Rattle.cert_types.specs.cert_rules.Nodes.{SideBound, Linear, Poly}
use Rattle.cert_types.specs.cert_rules.Numbers.{rounded_up}
use Rattle.cert_types.specs.cert_rules.ComposedSizes.{inner_sum, is_member, slope_of}
use Rattle.cert_types.specs.declared.side_bound.Member.{Member}
use Rattle.cert_types.specs.Views.{member_of}

-- 0 over a denominator, rounded up, is 0
none-rounded : (den : ℕ) → 1 ≤ den → 0 ≡ rounded_up 0 den
none-rounded den l =
    let q = div_below (0 + (den - 1)) den 1 (omega (arith, l)) (omega (arith, l)) in
    omega (arith, q)

-- the coefficient 0 counts as 0, whether its place is a member or not
pub zero_inner : (b : Bool) (c : ℤ) (den : ℕ) → c ≡ pos 0 → 1 ≤ den → 0 ≡ cond b (rounded_up (nat_abs c) den) 0
zero_inner true c den e l = none-rounded den l ∙ ap (λ (d : ℤ). rounded_up (nat_abs d) den) (sym e)
zero_inner false c den e l = refl

-- the sum over no places is 0
no-inner : (cs : List ℤ) (den : ℕ) → inner_sum cs den (λ j. false) ≡ 0
no-inner [] den = refl
no-inner (c ∷ cs) den = let e = no-inner cs den in omega (arith, e)

-- after a rule without members the slope is 0
pub outer_slope : (side_bound : SideBound) (ms : List Member) (rule : ℕ) → length ms ≡ 0 → 0 ≡ slope_of side_bound (is_member (map member_of ms) rule)
outer_slope (Linear den form multipliers) [] rule e = sym (no-inner form.coefs den)
outer_slope Poly ms rule e = refl
outer_slope (Linear den form multipliers) (m ∷ ms) rule e = absurd (omega (arith, e))
