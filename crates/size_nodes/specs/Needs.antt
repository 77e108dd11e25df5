-- The premises of side bounds: the sizes of the places that they read, except for members; and the first size or time
-- that isn't known.
use Rattle.std.specs.Prelude.{ℕ, zero, suc, not, Bool, true, false, cond, List, [], ◌∷◌, ◌++◌, filter}
use Rattle.std.specs.Prelude.{Option, Some, None}
use Rattle.model.specs.Bounds.{Bound}
use Rattle.model.specs.Polynomials.{Polynomial}
use Rattle.cert_types.specs.cert_program.Setting.{nonlinear_at}
use Rattle.cert_types.specs.cert_rules.Nodes.{ResultVariable, Member}
use Rattle.cert_types.specs.cert_rules.Known.{Table}
use Rattle.cert_types.specs.cert_rules.ComposedSizes.{is_member}
use Rattle.cert_types.specs.cert_rules.Checks.{result_variables_after}

-- the update at a place, if it has degree 2 or more; places count from 1
abbrev pub update_at : List Polynomial → ℕ → Option Polynomial
update_at polys zero = None
update_at polys (suc i) = nonlinear_at polys i

-- these places after a rule, except for the members
abbrev pub result_variables_outside : List Member → ℕ → List ℕ → List ResultVariable
result_variables_outside members e js = result_variables_after e (filter (λ j. not (is_member members e j)) js)

-- the result variables read after each of these rules: the places of the upper side bound before those of the lower one
abbrev pub result_variables_from : List Member → List ℕ → List ℕ → List ℕ → List ResultVariable
result_variables_from members up low [] = []
result_variables_from members up low (e ∷ es) =
    result_variables_outside members e up ++ (result_variables_outside members e low ++ result_variables_from members up low es)

-- the first of these result variables, unless its size is known
abbrev pub this_or : Option Bound → ResultVariable → Option ResultVariable → Option ResultVariable
this_or None result_variable rest = Some result_variable
this_or (Some b) result_variable rest = rest

-- the first result variable whose size isn't known
abbrev pub first_missing : Table → List ResultVariable → Option ResultVariable
first_missing tab [] = None
first_missing tab (result_variable ∷ result_variables) = this_or (tab.size result_variable.rule result_variable.place) result_variable (first_missing tab result_variables)

-- whether no bound is known
abbrev pub lacks : Option Bound → Bool
lacks None = true
lacks (Some b) = false

-- the first of these rules without a time
abbrev pub first_unknown : (ℕ → Option Bound) → List ℕ → Option ℕ
first_unknown time [] = None
first_unknown time (t ∷ ts) = cond (lacks (time t)) (Some t) (first_unknown time ts)
