-- The members of a loop with a polynomial side bound that reads a member.
use Rattle.std.specs.Prelude.{ℕ, ◌||◌, Bool, false, cond, List, [], ◌∷◌, Option, Some, None}
use Rattle.std.specs.List.{list_any}
use Rattle.model.specs.Paths.{pre}
use Rattle.model.specs.Polynomials.{Polynomial}
use Rattle.cert_types.specs.cert_rules.Nodes.{ResultVariable, SideBound, Linear, Poly, LocalBound, Member}
use Rattle.cert_types.specs.cert_rules.ComposedSizes.{is_member, poly_at}
use Rattle.cert_types.specs.cert_rules.Setting.{Setting}

-- whether a polynomial side bound reads a member after rule e
abbrev pub is_nonlinear_side_bound : Option Polynomial → List Member → SideBound → ℕ → Bool
is_nonlinear_side_bound q members (Linear den form multipliers) e = false
is_nonlinear_side_bound None members Poly e = false
is_nonlinear_side_bound (Some q) members Poly e = list_any (λ m. list_any (is_member members e) m.vars) q

-- whether one of both side bounds of a local bound is polynomial and reads a member after rule e
abbrev pub is_nonlinear_from : Option Polynomial → List Member → LocalBound → ℕ → Bool
is_nonlinear_from q members local e = is_nonlinear_side_bound q members local.up e || is_nonlinear_side_bound q members local.low e

-- whether one of both side bounds is polynomial and reads a member after one of these rules
abbrev pub is_nonlinear_over : Option Polynomial → List Member → LocalBound → List ℕ → Bool
is_nonlinear_over q members local es = list_any (is_nonlinear_from q members local) es

-- whether one of both side bounds of a member is polynomial and reads a member, after one of the rules that can come
-- before it
abbrev pub is_nonlinear_by : Setting → List Member → Member → Bool
is_nonlinear_by s members m = is_nonlinear_over (poly_at s m.result_variable) members m.local (pre s.program m.result_variable.rule)

-- the first of these members with a polynomial side bound that reads a member
abbrev pub first_nonlinear : Setting → List Member → List Member → Option ResultVariable
first_nonlinear s members [] = None
first_nonlinear s members (m ∷ ms) = cond (is_nonlinear_by s members m) (Some m.result_variable) (first_nonlinear s members ms)
