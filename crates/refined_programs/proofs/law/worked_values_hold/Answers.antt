use Rattle.std.proofs.Common.{refl}
use Rattle.refined_programs.proofs.law.worked_values_hold.Goals as goal

pub returns : goal.returns
returns c = record {
  forms = record { sum = refl; constant = refl; nothing = refl };
  paths = record { at_copies = refl };
  ends = record { by_tests = refl; nowhere = refl };
  sections = record { both = refl };
}
