-- The bounds on sizes that nodes compose: side bounds as bounds, the maximum over the rules that can come before, and
-- the formula of a loop.
use Rattle.std.specs.Prelude.{ℕ, zero, suc, ◌+◌, ◌==◌, ◌&&◌, not, max, nat_lt, Bool, false, cond, List, [], ◌∷◌, ◌++◌}
use Rattle.std.specs.Prelude.{filter, ℤ, nat_abs, Option, Some, None}
use Rattle.std.specs.List.{list_any}
use Rattle.rule_forms.specs.int_laws.NormalForm.{is_zero}
use Rattle.run_counting.specs.model.Bounds.{Bound, Constant, SumOf, ProductOf, MaximumOf, PowerOf, Parts, NoParts, Part}
use Rattle.run_counting.specs.model.Polynomials.{Monomial, Polynomial}
use Rattle.rule_forms.specs.linear_forms.Forms.{at}
use Rattle.cert_rules.specs.Nodes.{ResultVariable, SideBound, Linear, Poly, Member}
use Rattle.run_counting.specs.model.Entries.{is_in}
use Rattle.cert_rules.specs.Numbers.{rounded_up}
use Rattle.run_counting.specs.model.Paths.{pre, entry_and_rules}
use Rattle.cert_rules.specs.Known.{known, is_zero_bound}
use Rattle.cert_rules.specs.Composed.{both_parts, parts_for, rest_bound, form_bound, sizes_after}
use Rattle.cert_rules.specs.Setting.{Setting}

-- the absolute coefficient of a monomial times the bounds of its variables
abbrev pub monomial_bound : (ℕ → Bound) → Monomial → Bound
monomial_bound sizes m = ProductOf (Part (Constant (nat_abs m.coef)) (parts_for sizes m.vars))

-- a part for each monomial, in order
abbrev pub monomial_parts : Polynomial → (ℕ → Bound) → Parts
monomial_parts [] sizes = NoParts
monomial_parts (m ∷ ms) sizes = Part (monomial_bound sizes m) (monomial_parts ms sizes)

-- a polynomial with absolute coefficients as a bound; where there is none, 0
abbrev pub polynomial_bound : Option Polynomial → (ℕ → Bound) → Bound
polynomial_bound None sizes = Constant 0
polynomial_bound (Some q) sizes = SumOf (monomial_parts q sizes)

-- a side bound as a bound, given a bound for each place
abbrev pub composed_side_bound : Option Polynomial → SideBound → (ℕ → Bound) → Bound
composed_side_bound poly (Linear den form multipliers) sizes = form_bound form den sizes
composed_side_bound poly Poly sizes = polynomial_bound poly sizes

-- a polynomial has the variable
abbrev pub has_variable : Option Polynomial → ℕ → Bool
has_variable None j = false
has_variable (Some q) j = list_any (λ m. is_in j m.vars) q

-- a side bound reads a place, numbered from 0: its coefficient there isn't 0, or the polynomial has it
abbrev pub reads : Option Polynomial → SideBound → ℕ → Bool
reads poly (Linear den form multipliers) j = not (is_zero (at form.coefs j))
reads poly Poly j = has_variable poly j

-- the polynomial of a result variable's new value, if it has degree 2 or more
abbrev pub poly_of : Setting → ℕ → ℕ → Option Polynomial
poly_of s t zero = None
poly_of s t (suc i) = s.poly t i

abbrev pub poly_at : Setting → ResultVariable → Option Polynomial
poly_at s result_variable = poly_of s result_variable.rule result_variable.place

-- the maximum of both side bounds of a member, at the sizes after rule e
abbrev pub spread_part : Setting → Member → (ℕ → ℕ → Option Bound) → ℕ → Bound
spread_part s m size e =
    MaximumOf (both_parts (composed_side_bound (poly_at s m.result_variable) m.local.up (sizes_after size e))
    (composed_side_bound (poly_at s m.result_variable) m.local.low (sizes_after size e)))

-- the size of a result variable that doesn't loop: the maximum over the rules that can come before its rule
abbrev pub spread_of : Setting → Member → (ℕ → ℕ → Option Bound) → Bound
spread_of s m size = MaximumOf (parts_for (spread_part s m size) (pre s.program m.result_variable.rule))

-- place j, numbered from 0, after rule e is a member
abbrev pub is_member : List Member → ℕ → ℕ → Bool
is_member members e j = list_any (λ m. (m.result_variable.rule == e) && (m.result_variable.place == suc j)) members

-- the sum, over the places inside, of the absolute coefficient over den, rounded up
abbrev pub inner_sum : List ℤ → ℕ → (ℕ → Bool) → ℕ
inner_sum [] den inside = 0
inner_sum (c ∷ cs) den inside = cond (inside 0) (rounded_up (nat_abs c) den) 0 + inner_sum cs den (λ j. inside (suc j))

-- the slope of a side bound: the sum of its coefficients at the places inside; and its offset, a bound on the rest
abbrev pub slope_of : SideBound → (ℕ → Bool) → ℕ
slope_of (Linear den form multipliers) inside = inner_sum form.coefs den inside
slope_of Poly inside = 0

abbrev pub offset_of : Option Polynomial → SideBound → (ℕ → Bool) → (ℕ → Bound) → Bound
offset_of poly (Linear den form multipliers) inside sizes = rest_bound form den inside sizes
offset_of poly Poly inside sizes = polynomial_bound poly sizes

-- a flow into a member by one side bound, after one rule that can come before: at most slope times the members, plus
-- the offset
pub record Flow : Type 0 where
  pub rule : ℕ
  pub slope : ℕ
  pub offset : Bound

-- the flow into a member by a side bound from rule e
abbrev pub flow : Setting → List Member → (ℕ → ℕ → Option Bound) → Member → SideBound → ℕ → Flow
flow s members size m side_bound e = record {
  rule = m.result_variable.rule;
  slope = slope_of side_bound (is_member members e);
  offset = offset_of (poly_at s m.result_variable) side_bound (is_member members e) (sizes_after size e);
}

-- the flows into a member from these rules, up before low
abbrev pub flows_from : Setting → List Member → (ℕ → ℕ → Option Bound) → Member → List ℕ → List Flow
flows_from s members size m [] = []
flows_from s members size m (e ∷ es) =
    flow s members size m m.local.up e ∷ flow s members size m m.local.low e ∷ flows_from s members size m es

-- the flows into these members of a loop
abbrev pub flows_into : Setting → List Member → (ℕ → ℕ → Option Bound) → List Member → List Flow
flows_into s members size [] = []
flows_into s members size (m ∷ ms) =
    flows_from s members size m (pre s.program m.result_variable.rule) ++ flows_into s members size ms

-- all flows of a loop: by members, then by the rules that can come before, then up before low
abbrev pub flows : Setting → List Member → (ℕ → ℕ → Option Bound) → List Flow
flows s members size = flows_into s members size members

-- the flow reads no member: its slope is 0
abbrev pub is_outer : Flow → Bool
is_outer f = f.slope == 0

-- the offsets of the flows that pass a test
abbrev pub offsets : (Flow → Bool) → List Flow → Parts
offsets test [] = NoParts
offsets test (f ∷ fs) = cond (test f) (Part f.offset (offsets test fs)) (offsets test fs)

-- the base of a loop: the maximum offset of the flows that read no member
abbrev pub base_of : List Flow → Bound
base_of fs = MaximumOf (offsets is_outer fs)

-- the flow reads members, and is by rule t
abbrev pub is_inner : ℕ → Flow → Bool
is_inner t f = (f.rule == t) && not (is_outer f)

-- the addition of rule t: the maximum offset of its flows that read members
abbrev pub addition_of : List Flow → ℕ → Bound
addition_of fs t = MaximumOf (offsets (is_inner t) fs)

-- the factor of rule t: the maximum of 1 and the slopes of its flows
abbrev pub factor_of : List Flow → ℕ → ℕ
factor_of [] t = 1
factor_of (f ∷ fs) t = cond (f.rule == t) (max f.slope (factor_of fs t)) (factor_of fs t)

-- the rules of the members, ascending
abbrev pub rules_of : Setting → List Member → List ℕ
rules_of s members = filter (λ t. list_any (λ m. m.result_variable.rule == t) members) (entry_and_rules s.program)

-- the rule multiplies: its factor is greater than 1
abbrev pub multiplies : List Flow → ℕ → Bool
multiplies fs t = nat_lt 1 (factor_of fs t)

-- the rule adds: its addition, rewritten, isn't 0
abbrev pub adds : Setting → List Flow → ℕ → Bool
adds s fs t = not (is_zero_bound (s.rewrite (addition_of fs t)))

-- for each rule that multiplies, its factor to the power of its time, and then the last part
abbrev pub growth_parts : List Flow → (ℕ → Option Bound) → List ℕ → Bound → Parts
growth_parts fs time [] last = Part last NoParts
growth_parts fs time (t ∷ ts) last =
    cond (multiplies fs t)
    (Part (PowerOf (factor_of fs t) (known (time t))) (growth_parts fs time ts last))
    (growth_parts fs time ts last)

-- for each rule that adds, its time times its addition
abbrev pub addition_parts : Setting → List Flow → (ℕ → Option Bound) → List ℕ → Parts
addition_parts s fs time [] = NoParts
addition_parts s fs time (t ∷ ts) =
    cond (adds s fs t)
    (Part (ProductOf (both_parts (known (time t)) (addition_of fs t))) (addition_parts s fs time ts))
    (addition_parts s fs time ts)

-- the size of the members of a loop with these flows and rules
abbrev pub loop_bound : Setting → List Flow → (ℕ → Option Bound) → List ℕ → Bound
loop_bound s fs time ts = ProductOf (growth_parts fs time ts (SumOf (Part (base_of fs) (addition_parts s fs time ts))))

-- the size of every member of a loop
abbrev pub cycle_of : Setting → List Member → (ℕ → Option Bound) → (ℕ → ℕ → Option Bound) → Bound
cycle_of s members time size = loop_bound s (flows s members size) time (rules_of s members)
