use Rattle.std.proofs.Common.{◌≡◌, true}
use Rattle.poly_terms.specs.Views.{term_of}
use Rattle.affine_constants.specs.Constants.{agrees_at_units}
use Rattle.affine_constants.proofs.constant.agrees_at_units.Given as goal

-- the value at the unit points so far is the one
abbrev pub invariant-loop-variable : goal.invariant-loop-variable
invariant-loop-variable l = agrees_at_units l.variables (term_of l.e) l.value l.variable ≡ true
