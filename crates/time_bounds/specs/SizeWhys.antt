-- Why a place after a rule has no size, as sentences about the program.
use Rattle.std.specs.Prelude.{◌≡◌, ℕ, ◌-◌, ◌≤◌, ◌||◌, Bool, true, false, List, [], ◌∷◌, length, map, ℤ, pos}
use Rattle.std.specs.Prelude.{◌+ℤ◌, ◌*ℤ◌, ◌<ℤ◌, Some, None}
use Rattle.std.specs.List.{All, Contains}
use Rattle.model.specs.Bounds.{Bound, Constant}
use Rattle.model.specs.Programs.{Program, Rule, rule_at}
use Rattle.model.specs.Entries.{is_in}
use Rattle.model.specs.Paths.{pre}
use Rattle.its_model.specs.linear_forms.Forms.{Form, at, form_value}
use Rattle.its_model.specs.linear_forms.Points.{IsPoint}
use Rattle.guard_prep.specs.Prepared.{prepared}
use Rattle.outcome.specs.Reports.{NoSize, SizeUnbounded, SizeHitLimit, SizeMissing, SizeNonlinear, SizeUntimed, SizeLarge}
use Rattle.cert_types.specs.rule_forms.Bounds.{HasNone, IsUnboundedRay}
use Rattle.cert_types.specs.rule_forms.Kinds.{Affine, IsOfKind}
use Rattle.cert_types.specs.cert_rules.AcceptsSizes.{Side, IsStraight, spread_size, cycle_size}
use Rattle.cert_types.specs.cert_rules.Checks.{large_nodes}
use Rattle.cert_types.specs.cert_rules.ComposedSizes.{poly_at, reads, rules_of, flows, multiplies, adds}
use Rattle.cert_types.specs.cert_rules.Gaps.{ScaledPoint}
use Rattle.cert_types.specs.cert_rules.Known.{Table}
use Rattle.cert_types.specs.cert_rules.Limits.{IsSmallComposed}
use Rattle.cert_types.specs.cert_rules.Nodes.{ResultVariable, Member}
use Rattle.cert_types.specs.cert_rules.Setting.{Setting}
use Rattle.cert_types.specs.cert_program.Setting.{setting_of}
use Rattle.cert_types.specs.declared.answer.LimitHit.{LimitHit}
use Rattle.local_size.specs.LocalAnswers.{HasBound}
use Rattle.local_size.specs.Places.{value_on, is_polynomial_at}
use Rattle.bound_fixpoint.specs.Components.{IsOneOf}
use Rattle.bound_fixpoint.specs.Keys.{Bounds, key, has_key, over}
use Rattle.bound_fixpoint.specs.Loops.{do_loop}
use Rattle.bound_fixpoint.specs.Searches.{Unsized}
use Rattle.time_bounds.specs.ProgramSearches.{searches_of_program}
use Rattle.time_bounds.specs.ProgramSizes.{IsLocalOf, AnswersMembers, HitsLimitAt}

-- the point that is reached from a point by adding the ray n times, over the same denominator: its numerators
abbrev pub moved : ScaledPoint → List ℤ → ℕ → ℕ → ℤ
moved kept ray n u = at kept.parts u +ℤ pos n *ℤ at ray u

-- from the point along the ray, within the rows, a value passes every affine form in the left arguments: from some
-- point on the way on, q times the value is more than the form
pub record PassesForms (rows : List Form) (left : ℕ) (value : Form) (kept : ScaledPoint) (ray : List ℤ) : Type 0 where
  pub inside : (n : ℕ) → IsPoint rows (moved kept ray n) (pos kept.den)
  pub passes : (g : Form) (q : ℕ) → 1 ≤ q → IsOfKind left Affine g q → (n : ℕ)
      × ((m : ℕ) → n ≤ m
      → form_value g (moved kept ray m) (pos kept.den) <ℤ (pos q *ℤ form_value value (moved kept ray m) (pos kept.den)))

-- the new value at a place, or its negation on the low side, passes every affine form in the arguments: from the point
-- along the ray, on which no argument moves and the value rises; so no affine form in the arguments is at least the
-- value on all rational points of the rule's rows. A new value of degree 2 or more counts as a variable of its own
-- there, which may be any number, and comparisons of degree 2 or more have no rows. And the update isn't a polynomial
-- of degree 2 or more in the arguments alone, which would bound it. The ray and the point have a number for each
-- variable
pub record PassesEveryForm (p : Program) (t i : ℕ) (side : Side) (ray : List ℤ) (kept : ScaledPoint) : Type 0 where
  pub rule : Rule
  pub numbered : rule_at p t ≡ Some rule
  pub not_polynomial : is_polynomial_at (prepared rule) i ≡ false
  pub ray_length : length ray ≡ (prepared rule).unknowns
  pub point_length : length kept.parts ≡ (prepared rule).unknowns
  pub from : IsPoint (prepared rule).rows (at kept.parts) (pos kept.den)
  pub along : IsUnboundedRay (prepared rule).rows (prepared rule).left (value_on side (prepared rule) i) (at ray)
  pub passes : PassesForms (prepared rule).rows (prepared rule).left (value_on side (prepared rule) i) kept ray
  pub none : HasNone (prepared rule).rows (prepared rule).left (value_on side (prepared rule) i) Affine

-- the first linear program of a place that exceeds a limit passes this one, or the one for a point does
pub record PlaceHitsLimitSo (p : Program) (pivots t i : ℕ) (x : LimitHit) : Type 0 where
  pub rule : Rule
  pub numbered : rule_at p t ≡ Some rule
  pub hits_limit : HitsLimitAt p pivots (prepared rule) (key t i) x

-- the places that have one size with a place, since values flow from it into them and back, each with its local bounds:
-- the members of its component in the graph of places
pub record IsComponentOf (p : Program) (pivots t i : ℕ) (members : List Member) : Type 0 where
  pub components : List (List ResultVariable)
  pub are_components : (searches_of_program p pivots).AreComponents components
  pub among : IsOneOf components (map (λ m. m.result_variable) members)
  pub inside : has_key (map (λ m. m.result_variable) members) t i ≡ true
  pub bounds : All (λ m. IsLocalOf p pivots m.result_variable.rule m.result_variable.place (HasBound m.local)) members

-- among the premises of the size of members, this is the first that is missing
abbrev pub LacksFirst : Setting → Bounds → List Member → NoSize → Type 0
LacksFirst s b members why = AnswersMembers (do_loop s members) s (over b) members (Unsized why)

-- a member takes its value from a place: the rule of the place can come just before the member's rule, and a local
-- bound of the member reads the place
pub record TakesFrom (s : Setting) (n : Member) (m : ResultVariable) : Type 0 where
  pub place : 1 ≤ m.place
  pub before : is_in m.rule (pre s.program n.result_variable.rule) ≡ true
  pub reads : (reads (poly_at s n.result_variable) n.local.up (m.place - 1) || reads (poly_at s n.result_variable) n.local.low (m.place - 1))
      ≡ true

-- the size depends on that of another place, which isn't known: a member takes its value from there, and it is no
-- member
pub record RestsOnSize (p : Program) (pivots : ℕ) (b : Bounds) (t i : ℕ) (m : ResultVariable) : Type 0 where
  pub members : List Member
  pub component : IsComponentOf p pivots t i members
  pub member : Member
  pub among : Contains members member
  pub takes : TakesFrom (setting_of p) member m
  pub outside : has_key (map (λ n. n.result_variable) members) m.rule m.place ≡ false
  pub missing : b m.rule m.place ≡ None
  pub first : LacksFirst (setting_of p) b members (SizeMissing m)

-- in a loop the value at this place multiplies members: its local bound is a polynomial of degree 2 or more that reads
-- one
pub record MultipliesAt (p : Program) (pivots : ℕ) (b : Bounds) (t i : ℕ) (m : ResultVariable) : Type 0 where
  pub members : List Member
  pub component : IsComponentOf p pivots t i members
  pub member : Member
  pub among : Contains members member
  pub same : member.result_variable ≡ m
  pub loop : do_loop (setting_of p) members ≡ true
  pub nonlinear : ¬ (IsStraight (setting_of p) members member)
  pub first : LacksFirst (setting_of p) b members (SizeNonlinear m)

-- in a loop the value grows with each use of this rule, which multiplies it or adds to it; and the rule has no time
pub record GrowsUntimed (p : Program) (pivots : ℕ) (b : Bounds) (t i u : ℕ) : Type 0 where
  pub members : List Member
  pub component : IsComponentOf p pivots t i members
  pub loop : do_loop (setting_of p) members ≡ true
  pub uses : is_in u (rules_of (setting_of p) members) ≡ true
  pub grows : (multiplies (flows (setting_of p) members (over b).size) u
      || adds (setting_of p) (flows (setting_of p) members (over b).size) u) ≡ true
  pub missing : b u 0 ≡ None
  pub first : LacksFirst (setting_of p) b members (SizeUntimed u)

-- the size that members compose: of a loop, or of a single member that doesn't loop
abbrev pub composed_size : Bool → Setting → Table → List Member → Bound
composed_size true s tab members = cycle_size s tab members
composed_size false s tab [] = Constant 0
composed_size false s tab (m ∷ members) = spread_size s tab m

-- the size that is composed of known times and sizes is large, and has this many nodes
pub record SizeIsLarge (p : Program) (pivots : ℕ) (b : Bounds) (t i n : ℕ) : Type 0 where
  pub members : List Member
  pub component : IsComponentOf p pivots t i members
  pub size : Bound
  pub composed : size ≡ composed_size (do_loop (setting_of p) members) (setting_of p) (over b) members
  pub large : ¬ (IsSmallComposed (setting_of p).rewrite size)
  pub nodes : n ≡ large_nodes (setting_of p).rewrite size
  pub first : LacksFirst (setting_of p) b members (SizeLarge n)

-- what each reason says of a place without a size, where these bounds are known
abbrev pub HasNoSize : Program → ℕ → Bounds → ℕ → ℕ → NoSize → Type 0
HasNoSize p pivots b t i (SizeUnbounded side ray kept) = PassesEveryForm p t i side ray kept
HasNoSize p pivots b t i (SizeHitLimit x) = PlaceHitsLimitSo p pivots t i x
HasNoSize p pivots b t i (SizeMissing m) = RestsOnSize p pivots b t i m
HasNoSize p pivots b t i (SizeNonlinear m) = MultipliesAt p pivots b t i m
HasNoSize p pivots b t i (SizeUntimed u) = GrowsUntimed p pivots b t i u
HasNoSize p pivots b t i (SizeLarge n) = SizeIsLarge p pivots b t i n
