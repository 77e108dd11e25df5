use Rattle.std.proofs.Common.{refl}
use Rattle.guard_prep.specs.Tightening.{divisor_of}
use Rattle.guard_prep.proofs.laws.rows_are_as_worked_out.Goals as goal

pub returns : goal.returns
unfolding divisor_of
returns c = record {
  divisors = record { common = refl; alone = refl; coprime = refl; zeros = refl; none = refl };
  tightened_rows = record { up = refl; down = refl; both = refl; apart = refl; says_nothing = refl; always = refl; never = refl };
  guards = record {
    at_least = refl;
    more_than = refl;
    at_most = refl;
    less_than = refl;
    equal_to = refl;
    contradiction = refl;
    always = refl;
    conjunction = refl;
    degree_two = refl;
    cancelled = refl;
  };
  updates = record { new_values = refl; nonlinear = refl; unknowns = refl; row = refl; two_nonlinear = refl; cancelled = refl };
}
