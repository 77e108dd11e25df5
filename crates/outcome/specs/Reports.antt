-- The report of an analysis as plain data: a bound for each rule, each cost and each place, or a reason.
use Rattle.std.specs.Prelude.{ℕ, Bool, true, false, ◌&&◌, List, [], ◌∷◌, ℤ, Option, Some, None}
use Rattle.std.specs.List.{list_all}
use Rattle.farkas_cert.specs.model.Bounds.{Bound}
use Rattle.cert_types.specs.cert_rules.Nodes.{ResultVariable}
use Rattle.cert_types.specs.cert_rules.AcceptsSizes.{Side}
use Rattle.cert_types.specs.cert_rules.Gaps.{ScaledPoint, Gap}
use Rattle.cert_types.specs.declared.answer.LimitHit.{LimitHit}

-- why a rule has no time: no function ranks it, a linear program exceeded a limit, or the bound is too large
pub data NoTime : Type 0 where
  NoFunction : Gap → NoTime
  TimeHitLimit : LimitHit → NoTime
  TimeLarge : ℕ → NoTime

-- a time, or why there is none
pub data Time : Type 0 where
  Timed : Bound → Time
  Untimed : NoTime → Time

-- why a place has no size: a side is unbounded, along a ray and from a point; a linear program hit a limit; a size
-- from outside is missing; a polynomial side bound reads a member; a rule has no time; or the bound is too large
pub data NoSize : Type 0 where
  SizeUnbounded : Side → List ℤ → ScaledPoint → NoSize
  SizeHitLimit : LimitHit → NoSize
  SizeMissing : ResultVariable → NoSize
  SizeNonlinear : ResultVariable → NoSize
  SizeUntimed : ℕ → NoSize
  SizeLarge : ℕ → NoSize

-- a size, or why there is none
pub data Size : Type 0 where
  Sized : Bound → Size
  Unsized : NoSize → Size

-- of a rule with a cost: a bound on what its steps cost together, or why there is none, by the same reasons as for a
-- size: the cost of one step in place of a value at a place
pub data RuleCost : Type 0 where
  Costed : Bound → RuleCost
  Uncosted : NoSize → RuleCost

-- a time of each rule or why there is none, in order; for each rule, in order, the bound of its cost or why there is
-- none, and nothing for a rule without a cost; the total, where there is one; and for each rule, in order, a size of
-- each place or why there is none
pub record Report : Type 0 where
  pub times : List Time
  pub costs : List (Option RuleCost)
  pub total : Option Bound
  pub sizes : List (List Size)

-- whether a rule has a time
abbrev pub is_timed : Time → Bool
is_timed (Timed b) = true
is_timed (Untimed w) = false

-- whether no bound on a cost is missing: the rule has no cost, or a bound on it
abbrev pub is_costed : Option RuleCost → Bool
is_costed None = true
is_costed (Some (Costed b)) = true
is_costed (Some (Uncosted w)) = false

-- whether every rule has a time, and every rule with a cost a bound on it
abbrev pub is_bounded : Report → Bool
is_bounded r = list_all is_timed r.times && list_all is_costed r.costs

-- the bound of a time, where there is one
abbrev pub bound_in : Time → Option Bound
bound_in (Timed b) = Some b
bound_in (Untimed w) = None

-- the bound on what all steps by a rule cost together: that of its cost; of a rule without a cost, whose steps cost 1
-- each, its time
abbrev pub spent_in : Time → Option RuleCost → Option Bound
spent_in t None = bound_in t
spent_in t (Some (Costed b)) = Some b
spent_in t (Some (Uncosted w)) = None

-- these bounds for all rules, in order
abbrev pub spendings : List Time → List (Option RuleCost) → List (Option Bound)
spendings [] costs = []
spendings (t ∷ times) [] = []
spendings (t ∷ times) (c ∷ costs) = spent_in t c ∷ spendings times costs
