-- When local bounds, spreads and loops are accepted.
use Rattle.std.specs.Prelude.{◌≡◌, ℕ, suc, ◌-◌, ◌≤◌, ◌<◌, ◌⊎◌, ◌||◌, true, false, List, [], ◌∷◌, length, pos, neg_ℤ}
use Rattle.std.specs.Prelude.{Option, Some, None, ⊤}
use Rattle.std.specs.List.{All}
use Rattle.run_counting.specs.model.Programs.{Program, Rule, rule_at, arity_of}
use Rattle.run_counting.specs.model.Bounds.{Bound}
use Rattle.run_counting.specs.model.Facts.{Fact, Size}
use Rattle.run_counting.specs.model.Polynomials.{Polynomial}
use Rattle.rule_forms.specs.linear_forms.Forms.{Form}
use Rattle.rule_forms.specs.linear_forms.Certificates.{Implies}
use Rattle.rule_forms.specs.linear_forms.Combinations.{form_sum, form_times}
use Rattle.cert_rules.specs.Nodes.{ResultVariable, SideBound, Linear, Poly, Member}
use Rattle.run_counting.specs.model.Entries.{is_in}
use Rattle.run_counting.specs.model.Paths.{pre}
use Rattle.cert_rules.specs.Combined.{form_at}
use Rattle.cert_rules.specs.Known.{IsKnown, Table}
use Rattle.cert_rules.specs.ComposedSizes.{poly_at, reads, spread_of, is_member, rules_of, flows, multiplies, adds}
use Rattle.cert_rules.specs.ComposedSizes.{cycle_of}
use Rattle.cert_rules.specs.Limits.{IsInLimit, IsFormInLimit, IsSmallComposed}
use Rattle.cert_rules.specs.AcceptsPlain.{AreMultipliers}
use Rattle.cert_rules.specs.Setting.{Setting}

-- a place of the target of a rule
pub record IsResultVariable (p : Program) (result_variable : ResultVariable) : Type 0 where
  pub rule : Rule
  pub numbered : rule_at p result_variable.rule ≡ Some rule
  pub least : 1 ≤ result_variable.place
  pub most : result_variable.place ≤ arity_of p rule.target

-- the numbers of a linear side bound: a denominator of at least 1, one coefficient for each left place, a multiplier
-- for each row, all within the limit; a polynomial side bound has no number
pub record HasLinearShape (s : Setting) (t left den : ℕ) (form : Form) (multipliers : List ℕ) : Type 0 where
  pub over : 1 ≤ den
  pub den_limit : IsInLimit den
  pub long : length form.coefs ≡ left
  pub limit : IsFormInLimit form
  pub one_each : AreMultipliers s t multipliers

abbrev pub HasSideBoundShape : Setting → ℕ → ℕ → SideBound → Type 0
HasSideBoundShape s t left (Linear den form multipliers) = HasLinearShape s t left den form multipliers
HasSideBoundShape s t left Poly = ⊤

-- the number of left variables of a rule, where there is one
abbrev pub left_in : Option Rule → ℕ
left_in None = 0
left_in (Some r) = r.left

-- the number of left variables of the rule with a number
abbrev pub left_of : Program → ℕ → ℕ
left_of p t = left_in (rule_at p t)

-- the shape of a member, checked before anything else
pub record HasMemberShape (s : Setting) (m : Member) : Type 0 where
  pub at : IsResultVariable s.program m.result_variable
  pub up : HasSideBoundShape s m.result_variable.rule (left_of s.program m.result_variable.rule) m.local.up
  pub low : HasSideBoundShape s m.result_variable.rule (left_of s.program m.result_variable.rule) m.local.low

-- the side of a side bound: over the new value, or over its negation
pub data Side : Type 0 where
  Up : Side
  Low : Side

-- the form that has to be at least 0: the form less den times the new value on the up side, plus it on the low side
abbrev pub side_bound_goal : Side → ℕ → Form → Form → Form
side_bound_goal Up den form value = form_sum form (form_times (neg_ℤ (pos den)) value)
side_bound_goal Low den form value = form_sum form (form_times (pos den) value)

-- the form of the new value at a result variable, whose place counts from 1
abbrev pub new_value : Setting → ResultVariable → Form
new_value s result_variable = form_at (s.new_values result_variable.rule) (result_variable.place - 1)

-- each monomial has left variables alone
abbrev pub ReadsLeft : ℕ → Polynomial → Type 0
ReadsLeft left q = All (λ m. All (λ v. v < left) m.vars) q

-- the update has degree 2 or more and reads left variables alone
pub record IsPolynomialUpdate (s : Setting) (result_variable : ResultVariable) : Type 0 where
  pub polynomial : Polynomial
  pub nonlinear : poly_at s result_variable ≡ Some polynomial
  pub left_alone : ReadsLeft (left_of s.program result_variable.rule) polynomial

-- a side bound is accepted: the rows imply it, or the update is its own polynomial
abbrev pub AcceptsSideBound : Setting → ResultVariable → Side → SideBound → Type 0
AcceptsSideBound s result_variable side (Linear den form multipliers) =
    Implies (s.rows result_variable.rule) multipliers (side_bound_goal side den form (new_value s result_variable))
AcceptsSideBound s result_variable side Poly = IsPolynomialUpdate s result_variable

-- each of the two side bounds of a member is accepted
abbrev pub AcceptsUp : Setting → Member → Type 0
AcceptsUp s m = AcceptsSideBound s m.result_variable Up m.local.up

abbrev pub AcceptsLow : Setting → Member → Type 0
AcceptsLow s m = AcceptsSideBound s m.result_variable Low m.local.low

-- after rule e each place that a side bound reads is a member, or has a size
abbrev pub SideBoundHasSizes : Setting → Table → List Member → ResultVariable → SideBound → ℕ → Type 0
SideBoundHasSizes s table members result_variable side_bound e = (j : ℕ) → reads (poly_at s result_variable) side_bound j ≡ true → is_member members e j ≡ false
    → IsKnown (table.size e (suc j))

-- after rule e each place that the up side bound or the low one reads is a member or has a size
pub record HasSizesAfter (s : Setting) (table : Table) (members : List Member) (m : Member) (e : ℕ) : Type 0 where
  pub up : SideBoundHasSizes s table members m.result_variable m.local.up e
  pub low : SideBoundHasSizes s table members m.result_variable m.local.low e

-- the side bounds have their sizes after each rule that can come before
abbrev pub HasSizesBefore : Setting → Table → List Member → Member → Type 0
HasSizesBefore s table members m = (e : ℕ) → is_in e (pre s.program m.result_variable.rule) ≡ true
    → HasSizesAfter s table members m e

-- the size that a spread composes
abbrev pub spread_size : Setting → Table → Member → Bound
spread_size s table m = spread_of s m table.size

-- a spread node is accepted: both side bounds are accepted, each place that they read has a size after each rule that
-- can come before, and the composed bound is small
pub record AcceptsSpread (s : Setting) (table : Table) (m : Member) : Type 0 where
  pub shape : HasMemberShape s m
  pub up : AcceptsUp s m
  pub low : AcceptsLow s m
  pub sizes : HasSizesBefore s table [] m
  pub small : IsSmallComposed s.rewrite (spread_size s table m)

-- one result variable comes before another: by rule, then by place
abbrev pub ComesBefore : ResultVariable → ResultVariable → Type 0
ComesBefore a b = (a.rule < b.rule) ⊎ ((a.rule ≡ b.rule) × (a.place < b.place))

-- the members ascend
abbrev pub AreAscending : List Member → Type 0
AreAscending [] = ⊤
AreAscending (m ∷ []) = ⊤
AreAscending (m ∷ n ∷ rest) = ComesBefore m.result_variable n.result_variable × AreAscending (n ∷ rest)

-- after rule e a polynomial side bound reads no member
abbrev pub IsStraightSideBound : Setting → List Member → Member → ℕ → SideBound → Type 0
IsStraightSideBound s members m e (Linear den form multipliers) = ⊤
IsStraightSideBound s members m e Poly = (j : ℕ) → reads (poly_at s m.result_variable) Poly j ≡ true → is_member members e j ≡ false

-- neither side bound of a member is a polynomial that reads a member
pub record IsStraight (s : Setting) (members : List Member) (m : Member) : Type 0 where
  pub up : (e : ℕ) → is_in e (pre s.program m.result_variable.rule) ≡ true → IsStraightSideBound s members m e m.local.up
  pub low : (e : ℕ) → is_in e (pre s.program m.result_variable.rule) ≡ true → IsStraightSideBound s members m e m.local.low

-- the size that a loop composes
abbrev pub cycle_size : Setting → Table → List Member → Bound
cycle_size s table members = cycle_of s members table.time table.size

-- there are members, and they ascend
pub record HasCycleShape (s : Setting) (members : List Member) : Type 0 where
  pub some : 1 ≤ length members
  pub ascending : AreAscending members
  pub each : All (HasMemberShape s) members

-- a loop node is accepted: all side bounds are accepted, each place outside the loop that they read has a size, no
-- polynomial side bound reads a member, each rule that multiplies or adds has a time, and the composed bound is small
pub record AcceptsCycle (s : Setting) (table : Table) (members : List Member) : Type 0 where
  pub shape : HasCycleShape s members
  pub up : All (AcceptsUp s) members
  pub low : All (AcceptsLow s) members
  pub sizes : All (HasSizesBefore s table members) members
  pub straight : All (IsStraight s members) members
  pub times : (t : ℕ) → is_in t (rules_of s members) ≡ true
      → (multiplies (flows s members table.size) t || adds s (flows s members table.size) t) ≡ true
      → IsKnown (table.time t)
  pub small : IsSmallComposed s.rewrite (cycle_size s table members)

-- the size of each member
abbrev pub cycle_facts : Bound → List Member → List Fact
cycle_facts b [] = []
cycle_facts b (m ∷ ms) = Size m.result_variable.rule m.result_variable.place b ∷ cycle_facts b ms
