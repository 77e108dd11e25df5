-- The worked values of reading while programs.
use Rattle.std.proofs.Common.{refl}
use Rattle.while_laws.specs.Worked.{WorkedReadings}

pub readings_worked : WorkedReadings
readings_worked = record {
  pieces = record {
    keyword = refl;
    longer = refl;
    truth = refl;
    becomes = refl;
    colon = refl;
    blank = refl;
    operator = refl;
    end = refl;
    power = refl;
    no_power = refl;
    sum = refl;
  };
  faults = record { least = refl; first = refl; only = refl; unknown = refl; rules = refl };
  programs_are_read = refl;
  refusals_are_given = refl;
}
