-- The worked values of signed numbers, and of refusals of `-` and of blanks, hold.
use Rattle.std.proofs.Common.{◌≡◌, ℕ, suc, zero, ◌^◌, ◌≤◌, ◌<◌, Bool, true, false, List, [], ◌∷◌, refl, arith}
use Rattle.std.specs.Prelude.{nat_lt, ◌==◌, ◌||◌, ℤ, pos, negsuc, None}
use Rattle.std.specs.Fmt.{digits}
use Rattle.std.proofs.lemmas.Bool.Decides.{nat_tests}
use Rattle.text_grammar.specs.ByteTexts.{with_sign, IsBounded, value_rule, signed_rule}
use Rattle.text_grammar.specs.SmallSigns.{signs_bytes, is_outside}
use Rattle.text_grammar.specs.WorkedSigns.{SignsAreWorkedOut}
use Rattle.text_grammar.proofs.Numerals.{none_when, when_none, some_none}

-- the permitted signed numbers, on each side of 0
above : (n : ℕ) → (n == 0) || nat_lt 9 n ≡ false → (1 ≤ n) × (n ≤ 9)
above n h = (grind (arith, nat_tests), grind (arith, nat_tests))

taken_above : (n : ℕ) → 1 ≤ n → n ≤ 9 → (n == 0) || nat_lt 9 n ≡ false
taken_above n l k = grind (arith, nat_tests)

below : (n : ℕ) → nat_lt 19 n ≡ false → n ≤ 19
below n h = grind (arith, nat_tests)

taken_below : (n : ℕ) → n ≤ 19 → nat_lt 19 n ≡ false
taken_below n l = grind (arith, nat_tests)

-- permitted numbers are at most 20 in absolute value, and with one each lesser one of its sign is permitted
few : (negative : Bool) (n : ℕ) → is_outside (with_sign negative n) ≡ false → n ≤ 20
few false n h = let l = (above n h).1 in omega (arith, l)
few true zero h = omega arith
few true (suc n) h = let l = below n h in omega (arith, l)

lesser : (negative : Bool) (m n : ℕ) → 1 ≤ m → m ≤ n → is_outside (with_sign negative n) ≡ false
    → is_outside (with_sign negative m) ≡ false
lesser false m n some l h = let k = (above n h).1 in taken_above m some (omega (arith, l, k))
lesser true zero n some l h = absurd (omega (arith, some))
lesser true (suc m) zero some l h = absurd (omega (arith, l))
lesser true (suc m) (suc n) some l h = let k = below n h in taken_below m (omega (arith, l, k))

signs_bounded : IsBounded signs_bytes
signs_bounded = record {
  small = λ s n e. absurd (some_none 1 e);
  below = λ s m n some l e. absurd (some_none 1 e);
  small_signed = λ s negative n e.
      let l = few negative n (none_when (is_outside (with_sign negative n)) 3 e) in omega (arith, l);
  below_signed = λ s negative m n some l e.
      when_none (is_outside (with_sign negative m)) 3
      (lesser negative m n some l (none_when (is_outside (with_sign negative n)) 3 e));
}

-- the rule of values isn't that of signed numbers
not_signed : (value_rule ≡ signed_rule) → ⊥
not_signed e = cc

pub signs_worked_out : SignsAreWorkedOut
unfolding digits
signs_worked_out = record {
  below = refl;
  none_below = refl;
  above = refl;
  text = refl;
  events = refl;
  comes = refl;
  stands = ((refl, refl), tt);
  outside = λ h. some_none 3 h.0.1;
  third = ((tt, refl), tt);
  third_below = λ h. some_none 4 h.0.0;
  line = (((omega arith, (omega arith, tt)), (refl, tt, (refl, refl, tt)), refl), tt);
  line_plus = (((omega arith, (omega arith, tt)), (refl, tt, (refl, tt, tt)), refl), tt);
  line_below = λ h. some_none 4 h.0.1.2.1;
  line_blank = λ h. some_none 5 h.0.1.0;
  line_empty = ((tt, tt, refl), tt);
  bounded = signs_bounded;
  endless = λ h. let l = h.small_signed [] false (2 ^ 64) refl in omega (arith, l);
  gap = λ h. some_none 3 (h.below_signed [] true 1 2 (omega arith) (omega arith) refl);
  numbers = record {
    value = refl;
    natural = refl;
    number = refl;
    positive = refl;
    digits = refl;
    line = refl;
    values = refl;
    signed = refl;
  };
  other_rule = λ h. not_signed h.signed;
  answers = refl;
}
