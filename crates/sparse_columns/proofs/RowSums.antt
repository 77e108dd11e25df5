-- The sum of the cells' numbers is that of the numbers in all rows.
use Rattle.std.proofs.Common.{◌≡◌, ℕ, suc, ◌<◌, ◌≤◌, arith, refl, sym, ◌∙◌, ◌⊎◌, inl, inr, List, [], ◌∷◌, Some}
use Rattle.std.specs.Prelude.{pos, slice_get}
use Rattle.std.proofs.lemmas.Int.{ints}
use Rattle.std.proofs.lemmas.Bool.{cases_lt}
use Rattle.int_laws.specs.Sums.{sum_to}
use Rattle.int_laws.proofs.SumLaws.{sum_to-add, sum_to-single, sum_to-zero}
use Rattle.sparse_columns.specs.declared.cell.Cell.{Cell}
use Rattle.sparse_columns.specs.Order.{IsAscending}
use Rattle.sparse_columns.specs.Numbers.{alone, number_of, total_of}
use Rattle.sparse_columns.proofs.Lookups.{alone-here, alone-other, number_of-at}

-- the sum of cells in the first m rows is the sum of the numbers in these rows
total-within : (cs : List Cell) (m : ℕ) → ((k : ℕ) (c : Cell) → slice_get cs k ≡ Some c → c.row < m) → total_of cs ≡ sum_to m (number_of cs)
total-within [] m within = sym (sum_to-zero m (λ _. pos 0) (λ j l. refl))
total-within (c ∷ cs) m within =
    let rest = total-within cs m (λ k d is. within (suc k) d is) in
    let single = sum_to-single m c.row (alone c.row c.number) (within 0 c refl) (λ j l d. alone-other c.row j c.number (λ e. d (sym e))) in
    let here = alone-here c.row c.row c.number refl in
    let both = sum_to-add m (alone c.row c.number) (number_of cs) in
    omega (arith, ints, rest, single, here, both)

-- if all numbers are in the first m rows, the sum of ascending cells is that of the numbers there
pub total-is : (cs : List Cell) (m : ℕ) → IsAscending cs → ((i : ℕ) → m ≤ i → number_of cs i ≡ pos 0) → total_of cs ≡ sum_to m (number_of cs)
total-is cs m h outside = total-within cs m (λ k c is. inside k c is (cases_lt c.row m))
  where
    inside : (k : ℕ) (c : Cell) → slice_get cs k ≡ Some c → (c.row < m) ⊎ (m ≤ c.row) → c.row < m
    inside k c is (inl l) = l
    inside k c is (inr l) = absurd (c.nonzero (sym (number_of-at cs k c h is) ∙ outside c.row l))
