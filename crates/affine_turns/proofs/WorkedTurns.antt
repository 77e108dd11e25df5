-- Proofs of the worked values of affine expressions and of turns.
use Rattle.std.proofs.Common.{refl}
use Rattle.affine_turns.specs.Worked.{ExpressionsAreSeen, RelationsAreKept, TurnsAreSeen}

pub expressions_seen : ExpressionsAreSeen
expressions_seen = record {
  literal = refl;
  missing = refl;
  opposite = refl;
  sum = refl;
  nothing = refl;
  difference = refl;
  scaled = refl;
  scaled_behind = refl;
  square = refl;
  power = refl;
  staying_power = refl;
  wide = refl;
  wide_slope = refl;
  least = refl;
  later = refl;
  between_values = refl;
}

pub relations_kept : RelationsAreKept
relations_kept = record {
  at_least = (refl, refl);
  not_at_least = refl;
  more_than = (refl, refl);
  at_most = (refl, refl);
  less_than = (refl, refl);
  equal = (refl, refl);
  first_atom = refl;
  no_atom = refl;
  square_atom = refl;
}

pub turns_seen : TurnsAreSeen
turns_seen = record {
  grows = refl;
  grows_on = refl;
  falls = refl;
  bends = refl;
  doubles = refl;
  doubles_on = refl;
}
