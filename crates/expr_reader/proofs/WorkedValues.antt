-- The worked values hold.
use Rattle.std.specs.Prelude.{refl}
use Rattle.expr_reader.specs.Worked.{Differences, AtomFaults, WorkedValues}
use Rattle.expr_reader.specs.WorkedSigns.{NumbersAreWorkedOut, SignsAreWorkedOut}

relations : Differences
relations = record { at_least = refl; more_than = refl; at_most = refl; less_than = refl; equal = refl }

faults : AtomFaults
faults = record {
  at_the_end = refl;
  before_joint = refl;
  before_close = refl;
  before_plus = refl;
  eighth = refl;
  base = refl;
  caret = refl;
  on_the_left = refl;
}

numbers : NumbersAreWorkedOut
numbers = record {
  exponent = refl;
  ninth = refl;
  beyond = refl;
  literal = refl;
  greatest = refl;
  too_great = refl;
  behind_base = refl;
  behind_exponent = refl;
  digits = refl;
  caret = refl;
  caret_twice = refl;
  caret_first = refl;
}

signs : SignsAreWorkedOut
signs = record { plus = refl; minus = refl; times = refl; minus_first = refl }

pub worked_values : WorkedValues
worked_values = record { relations = relations; faults = faults; numbers = numbers; signs = signs }
