-- The worked values of bounds inside proof files.
use Rattle.std.proofs.Common.{refl}
use Rattle.text_grammar.specs.text_core.Faults.{faults_at}
use Rattle.cert_lexer.specs.WorkedBounds.{LevelsAreWorkedOut, OrderIsWorkedOut, KindsAreWorkedOut, BoundsAreWorkedOut}

-- the worked values at 200 levels and at one more hold
levels : LevelsAreWorkedOut
unfolding faults_at
levels = record { deepest = refl; one_deeper = refl; pushed_down = refl; unlisted = refl; twice = refl }

-- the worked order of two refusals holds
order : OrderIsWorkedOut
order = record {
  position = refl;
  behind = refl;
  syntax = refl;
  too_large = refl;
  too_deep = refl;
  reference = refl;
  limit = refl;
  same = refl;
}

-- the worked kinds of refusals hold
kinds : KindsAreWorkedOut
kinds = record { name = refl; size = refl; levels = refl; number = refl; syntax = refl }

-- all worked values of bounds inside proof files hold
pub bounds_worked_out : BoundsAreWorkedOut
bounds_worked_out = record { levels = levels; order = order; kinds = kinds }
