use Rattle.std.proofs.Common.{◌≡◌, map}
use Rattle.while_model.specs.Translation.{variables}
use Rattle.poly_terms.specs.Views.{term_of}
use Rattle.while_front.proofs.updates.variables.Given as goal

-- The list has the variables passed.
abbrev pub invariant-loop-x : goal.invariant-loop-x
invariant-loop-x l = map term_of l.updates.items ≡ variables l.x
