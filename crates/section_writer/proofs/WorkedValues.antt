-- The texts of small sections, and which are within the limits.
use Rattle.std.proofs.Common.{◌≡◌, refl, arith, ℕ, ◌≤◌, ◌<◌}
use Rattle.std.specs.Fmt.{digits}
use Rattle.section_writer.specs.Texts.{text_of}
use Rattle.section_writer.specs.Limits.{AreCasesWithin, IsSectionWithin}
use Rattle.section_writer.specs.Worked.{PartsAreWritten, SectionsAreWritten, LimitsAreKept, WorkedValues}

parts_worked : PartsAreWritten
unfolding digits
parts_worked = record {
  form = refl;
  constant = refl;
  no_facts = refl;
  facts = refl;
  nowhere = refl;
  multipliers = refl;
}

sections_worked : SectionsAreWritten
unfolding text_of digits
sections_worked = record { two = refl; absent = refl }

limits_worked : LimitsAreKept
limits_worked = record {
  two = record {
    some = omega arith;
    few_copies = omega arith;
    few_branches = omega arith;
    copies = (
      record { name = (refl, refl); short = omega arith; over = omega arith; facts = tt },
      (
        record {
          name = (refl, refl);
          short = omega arith;
          over = omega arith;
          facts = (
            record { coefs = (omega arith, tt); constant = omega arith },
            (record { coefs = tt; constant = omega arith }, tt),
          );
        },
        tt,
      ),
    );
    distinct = (refl, (refl, tt));
    branches = (
      record {
        source = omega arith;
        first = omega arith;
        last = omega arith;
        cases = (
          omega arith,
          record { coefs = (omega arith, tt); constant = omega arith },
          (omega arith, omega arith, ((omega arith, (omega arith, tt)), (tt, tt))),
          (omega arith, (omega arith, tt)),
        );
      },
      tt,
    );
  };
  nothing = λ h. absurd (let e = h.some in omega (arith, e));
  same_name = λ h. (let e = h.distinct.0 in cc);
  no_name = λ h. (let e = h.copies.0.name.0 in cc);
  long_name = λ h. absurd (let e = h.copies.0.short in omega (arith, e));
  no_symbol = λ h. absurd (let e = h.copies.0.over in omega (arith, e));
  large = λ h. absurd (let e = h.constant in omega (arith, e));
  rule_zero = λ h. absurd (let e = h.branches.0.first in omega (arith, e));
  rule_four = λ h. absurd (let e = h.branches.0.last in omega (arith, e));
  absent = λ h. absurd (let e = h.branches.0.cases.1 in omega (arith, e));
  level_64 = (omega arith, tt);
  level_65 = λ h. absurd (let e = h.0 in omega (arith, e));
}

pub worked_values : WorkedValues
worked_values = record { parts = parts_worked; sections = sections_worked; limits = limits_worked }
