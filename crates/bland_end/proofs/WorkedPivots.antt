-- The worked values of two tableaux with the same basis hold, by computation.
use Rattle.std.proofs.Common.{◌≡◌, ℕ, zero, suc, arith, refl}
use Rattle.std.specs.Prelude.{ℤ, pos, ◌<ℤ◌}
use Rattle.std.proofs.lemmas.Int.{ints}
use Rattle.simplex_core.specs.Tableau.{Tableau, equation, cost, first_tableau, pivot}
use Rattle.bland_end.specs.Bases.{IsBasic}
use Rattle.bland_end.specs.Pivoted.{ComesByPivots, AtFirst, AfterPivot}
use Rattle.bland_end.specs.Worked.{sums, solved_for}
use Rattle.bland_end.specs.WorkedPivots.{three_equations, in_order, turned, PivotsAreWorkedOut}
use Rattle.bland_end.proofs.Pivoted.{pivoted-canonical}

-- a number that is 1 or more is above 0
is_above : (z : ℤ) (n : ℕ) → z ≡ pos (suc n) → pos 0 <ℤ z
is_above z n e = omega (arith, ints, e)

-- the first tableau, and the two after one and after two pivots
abbrev start : Tableau
start = first_tableau three_equations

abbrev in_one : Tableau
in_one = pivot start 0 0

abbrev in_two : Tableau
in_two = pivot in_one 1 1

abbrev turned_one : Tableau
turned_one = pivot start 0 1

abbrev turned_two : Tableau
turned_two = pivot turned_one 1 2

-- the entries of the pivots are above 0
pub record AreAbove : Type 0 where
  pub first : pos 0 <ℤ start.entry 0 0
  pub second : pos 0 <ℤ in_one.entry 1 1
  pub third : pos 0 <ℤ in_two.entry 2 2
  pub turned_first : pos 0 <ℤ start.entry 0 1
  pub turned_second : pos 0 <ℤ turned_one.entry 1 2
  pub turned_third : pos 0 <ℤ turned_two.entry 2 0

entries_above : AreAbove
unfolding equation cost first_tableau pivot
entries_above = record {
  first = is_above _ 0 refl;
  second = is_above _ 0 refl;
  third = is_above _ 2 refl;
  turned_first = is_above _ 1 refl;
  turned_second = is_above _ 1 refl;
  turned_third = is_above _ 5 refl;
}

-- pivots lead to the tableau in order
comes_in_order : ComesByPivots three_equations in_order
comes_in_order =
    AfterPivot {t = in_two} 2 2 (omega arith) (omega arith) entries_above.third
    (AfterPivot {t = in_one} 1 1 (omega arith) (omega arith) entries_above.second
    (AfterPivot {t = start} 0 0 (omega arith) (omega arith) entries_above.first AtFirst))

comes_turned : ComesByPivots three_equations turned
comes_turned =
    AfterPivot {t = turned_two} 2 0 (omega arith) (omega arith) entries_above.turned_third
    (AfterPivot {t = turned_one} 1 2 (omega arith) (omega arith) entries_above.turned_second
    (AfterPivot {t = start} 0 1 (omega arith) (omega arith) entries_above.turned_first AtFirst))

-- each unknown that is basic in one tableau is basic in the other
basic_there : (j : ℕ) → IsBasic three_equations in_order j → IsBasic three_equations turned j
unfolding first_tableau pivot
basic_there j (zero, l, e) = (2, omega arith, e)
basic_there j (suc zero, l, e) = (0, omega arith, e)
basic_there j (suc (suc zero), l, e) = (1, omega arith, e)
basic_there j (suc (suc (suc i)), l, e) = absurd (omega (arith, l))

basic_back : (j : ℕ) → IsBasic three_equations turned j → IsBasic three_equations in_order j
unfolding first_tableau pivot
basic_back j (zero, l, e) = (1, omega arith, e)
basic_back j (suc zero, l, e) = (2, omega arith, e)
basic_back j (suc (suc zero), l, e) = (0, omega arith, e)
basic_back j (suc (suc (suc i)), l, e) = absurd (omega (arith, l))

-- pivots don't lead to a tableau of zeros
zeros_not : ¬ ComesByPivots (sums 2 3) (solved_for 0 2)
zeros_not h = differ ((pivoted-canonical (sums 2 3) (solved_for 0 2) h).own 0 (omega arith))
  where
    differ : ◌≡◌ {A = ℤ} (pos 0) (pos 1) → ⊥
    differ e = omega (arith, ints, e)

pub pivots : PivotsAreWorkedOut
unfolding equation cost first_tableau pivot
pivots = record {
  first = comes_in_order;
  second = comes_turned;
  same = record { there = basic_there; back = basic_back };
  rows = (refl, refl);
  right = (refl, refl);
  scales = (refl, refl);
  costs = (refl, refl);
  cost_scales = (refl, refl);
  none = zeros_not;
}
