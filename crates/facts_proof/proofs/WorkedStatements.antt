-- The worked statements have the values that were worked out.
use Rattle.std.proofs.Common.{refl}
use Rattle.facts_proof.specs.Worked.{StatementsAreWorkedOut}

pub statements_are_worked_out : StatementsAreWorkedOut
statements_are_worked_out = record {
  bounds = refl;
  total = refl;
  nothing = refl;
  by_one = refl;
  by_each = refl;
}
