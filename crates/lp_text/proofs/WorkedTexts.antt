-- The worked values of texts of linear programs hold.
use Rattle.std.proofs.Common.{◌≡◌, ◌≤◌, ℕ, ◌+◌, ◌-◌, ◌^◌, refl, arith}
use Rattle.std.specs.Prelude.{pos, []}
use Rattle.std.specs.Fmt.{digits}
use Rattle.std.proofs.lemmas.Int.{ints}
use Rattle.lp_text.specs.Lps.{Lp}
use Rattle.lp_text.specs.Spelled.{AreRowsOf, IsWithin}
use Rattle.lp_text.specs.Worked.{small, TextsAreWorkedOut}

-- `small` is within the limits
small_within : IsWithin small
small_within = record {
  columns = 2;
  counted = refl;
  some = omega arith;
  few = omega arith;
  first = refl;
  first_costs = (omega arith, (omega arith, tt));
  second = refl;
  second_costs = (omega arith, (omega arith, tt));
  rows = (
    record { count = refl; numbers = (omega arith, (omega arith, tt)); right = omega arith },
    (record { count = refl; numbers = (omega arith, (omega arith, tt)); right = omega arith }, tt),
  );
  few_rows = omega arith;
}

-- `small` with another number of columns isn't within the limits, and no program without columns is
wider_is_outside : ¬ IsWithin (record small { columns = pos 3 })
wider_is_outside h = let e = h.counted in let l = h.first in omega (arith, ints, e, l)

empty_is_outside : ¬ IsWithin (record { columns = pos 0; first = []; second = []; rows = [] })
empty_is_outside h = let e = h.counted in let l = h.some in omega (arith, ints, e, l)

pub texts_worked : TextsAreWorkedOut
unfolding digits
texts_worked = record {
  columns = refl;
  costs = refl;
  rows = refl;
  empty = refl;
  other = refl;
  read = refl;
  text = refl;
  kinds = refl;
  least = refl;
  greatest = refl;
  none = refl;
  past = refl;
  full = λ columns count. refl;
  room = λ columns count. refl;
  cost = (omega arith, tt);
  large_cost = λ h. let l = h.1.0 in omega (arith, l);
  number = (omega arith, tt);
  large_number = λ h. let l = h.1.0 in omega (arith, l);
  large_right = λ h. let l = h.right in omega (arith, l);
  within = small_within;
  wider = wider_is_outside;
  empty_within = empty_is_outside;
  entries = refl;
  entry = refl;
  other_entry = refl;
  right = refl;
  first = refl;
  second = refl;
}
