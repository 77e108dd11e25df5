use Rattle.std.proofs.Common.{refl}
use Rattle.affine_constants.proofs.law.constants_are_as_worked_out.Goals as goal

pub returns : goal.returns
returns c = record {
  six_everywhere = refl;
  times_one = refl;
  negative = refl;
  zero_everywhere = refl;
  not_constant = refl;
  second_variable = refl;
  few_variables = refl;
  square = refl;
  power = refl;
  large = refl;
  largest = refl;
}
