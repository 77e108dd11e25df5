-- A number of a problem that is 2^31 or more puts the first tableau out of range.
use Rattle.std.proofs.Common.{◌≡◌, ℕ, zero, suc, ◌+◌, ◌*◌, ◌<◌, ◌≤◌, ◌^◌, ap, arith, refl, ◌∙◌, List, [], ◌∷◌, Some}
use Rattle.std.proofs.Common.{Bool, true, false}
use Rattle.std.specs.Prelude.{ℤ, pos, negsuc, ◌-ℤ◌, ◌*ℤ◌, slice_get, slice_index_or, unsigned_abs, int_lt, nat_eq, ◌&&◌}
use Rattle.std.specs.Prelude.{if◌then◌else◌}
use Rattle.std.proofs.lemmas.Int.{ints}
use Rattle.std.proofs.lemmas.Bool.{eqb-true, eq-eqb}
use Rattle.int_laws.proofs.RingLaws.{zero-mul_ℤ}
use Rattle.int_laws.proofs.SumLaws.{sum_to-zero}
use Rattle.frac128.proofs.LowestTerms.{whole_is_lowest}
use Rattle.simplex_core.specs.declared.problem.Entry.{Entry}
use Rattle.simplex_core.specs.declared.problem.Problem.{Problem}
use Rattle.linear_forms.specs.LinearProgram.{LinearProgram}
use Rattle.simplex_core.specs.Tableau.{artificial, unknowns, cost_row, sign_of, equation, cost, first_reduced_cost}
use Rattle.simplex_core.specs.Tableau.{first_tableau}
use Rattle.simplex_core.specs.Problem.{entry_value, program_of, IsProper, table_size}
use Rattle.simplex_core.specs.Positions.{InTable}
use Rattle.simplex_core.specs.Numbers.{IsOneAbove, IsOneEntryAbove}
use Rattle.simplex_core.specs.Outcome.{IsInRange}
use Rattle.simplex_core.proofs.Regions.{equation-column, equation-right, cost-first, cost-second, cost-no_artificial}
use Rattle.simplex_core.proofs.Regions.{first-row, first-cost}
use Rattle.simplex_core.proofs.ProgramFields.{program-columns, program-rows, program-entry, program-right}
use Rattle.simplex_core.proofs.ProgramFields.{program-first, program-second}
use Rattle.simplex_core.proofs.First.{first-scale}

-- the size of the table of a problem
pub size-is : (q : Problem) → table_size (program_of q) ≡ q.rows * (q.cols + q.rows + 1)
unfolding program_of
size-is q = refl

-- a sign doesn't change an absolute value
signed-size : (b z : ℤ) → unsigned_abs (sign_of b *ℤ z) ≡ unsigned_abs z
signed-size b z = go (int_lt b (pos 0))
  where
    go : (v : Bool) → unsigned_abs ((if v then negsuc 0 else pos 1) *ℤ z) ≡ unsigned_abs z
    go true = omega (arith, ints)
    go false = omega (arith, ints)

-- a number of the first tableau that is 2^31 or more is out of range
out_of_range : (p : LinearProgram) (i j : ℕ) (z : ℤ) → InTable p.rows p.columns i j → (first_tableau p).entry i j ≡ z → 2 ^ 31 ≤ unsigned_abs z → ¬ IsInRange p (first_tableau p)
out_of_range p i j z inside is above range =
    let small = (range.each i j inside).each ((first_tableau p).entry i j) (pos 1) (omega (arith, ints)) (whole_is_lowest ((first_tableau p).entry i j))
    (ap (λ (s : ℤ). (first_tableau p).entry i j *ℤ s) (first-scale p i)) in
    let size = ap unsigned_abs is in
    omega (arith, small.0, size, above)

-- the number of a cell that has an entry
entry_value-at : (es : List Entry) (k : ℕ) (e : Entry) → slice_get es k ≡ Some e
    → ((l : ℕ) (d : Entry) → l < k → slice_get es l ≡ Some d → d.row ≡ e.row → d.col ≡ e.col → ⊥) → entry_value es e.row e.col ≡ e.value
entry_value-at [] k e is once = cc
entry_value-at (d ∷ es) zero e is once =
    let same : d ≡ e = cc in
    ap (λ (b : Bool). if b then d.value else entry_value es e.row e.col)
    (ap (λ (b : Bool). b && nat_eq d.col e.col) (eq-eqb d.row e.row (ap (λ (x : Entry). x.row) same)) ∙ eq-eqb d.col e.col (ap (λ (x : Entry). x.col) same))
    ∙ ap (λ (x : Entry). x.value) same
entry_value-at (d ∷ es) (suc k) e is once =
    ap (λ (b : Bool). if b then d.value else entry_value es e.row e.col) (off (nat_eq d.row e.row) (nat_eq d.col e.col) refl refl)
    ∙ entry_value-at es k e is (λ l x m at. once (suc l) x (omega arith) at)
  where
    off : (a b : Bool) → nat_eq d.row e.row ≡ a → nat_eq d.col e.col ≡ b → (a && b) ≡ false
    off true true x y = absurd (once 0 d (omega arith) refl (eqb-true d.row e.row x) (eqb-true d.col e.col y))
    off true false x y = refl
    off false b x y = refl

-- a problem with a large entry has a first tableau out of range
pub large-entry : (q : Problem) → IsProper q → IsOneEntryAbove q.entries.items → ¬ IsInRange (program_of q) (first_tableau (program_of q))
large-entry q proper large =
    let p = program_of q in
    let e = large.entry in
    let inside = proper.inside large.position e large.is in
    let rows = program-rows q in
    let columns = program-columns q in
    let value = entry_value-at q.entries.items large.position e large.is (λ l d m at r c. proper.once l large.position d e m at large.is r c) in
    let number = first-row p e.row e.col (omega (arith, inside.0)) ∙ (equation-column p e.row e.col (omega (arith, inside.1))
    ∙ ap (λ (z : ℤ). sign_of (p.right e.row) *ℤ z) (program-entry q e.row e.col ∙ value)) in
    out_of_range p e.row e.col (sign_of (p.right e.row) *ℤ e.value)
    (record { row = omega (arith, inside.0); column = omega (arith, inside.1); cost = λ l. absurd (omega (arith, inside.0)) }) number
    (omega (arith, large.above, signed-size (p.right e.row) e.value))

-- a problem with a large right side has a first tableau out of range
pub large-right : (q : Problem) → IsProper q → IsOneAbove q.right.items → ¬ IsInRange (program_of q) (first_tableau (program_of q))
large-right q proper large =
    let p = program_of q in
    let i = large.position in
    let rows = program-rows q in
    let columns = program-columns q in
    let within : i < q.rows = let l = large.within in let s = proper.right in omega arith in
    let z = slice_index_or q.right.items i (pos 0) in
    let number = first-row p i (unknowns p) (omega arith) ∙ (equation-right p i ∙ ap (λ (y : ℤ). sign_of (p.right i) *ℤ y) (program-right q i)) in
    out_of_range p i (unknowns p) (sign_of (p.right i) *ℤ z)
    (record { row = omega arith; column = omega arith; cost = λ l. absurd (omega arith) }) number
    (omega (arith, large.above, signed-size (p.right i) z))

-- the first reduced costs by the first and the second costs are these costs
reduced-is : (p : LinearProgram) (k j : ℕ) → first_reduced_cost p (suc k) j ≡ cost p (suc k) j
reduced-is p k j =
    less _ _ (sum_to-zero p.rows (λ i. cost p (suc k) (artificial p i) *ℤ equation p i j) (λ i l. zero-mul_ℤ _ _ (cost-no_artificial p k (artificial p i) (omega arith))))
  where
    less : (a b : ℤ) → b ≡ pos 0 → a -ℤ b ≡ a
    less a b e = omega (arith, ints)

-- a problem with a large first cost has a first tableau out of range
pub large-first : (q : Problem) → IsProper q → IsOneAbove q.first.items → ¬ IsInRange (program_of q) (first_tableau (program_of q))
large-first q proper large =
    let p = program_of q in
    let j = large.position in
    let rows = program-rows q in
    let columns = program-columns q in
    let within : j < p.columns = let l = large.within in let s = proper.first in omega arith in
    out_of_range p (cost_row p 1) j (slice_index_or q.first.items j (pos 0))
    (record { row = omega arith; column = omega arith; cost = λ l. omega arith })
    (first-cost p 1 j ∙ (reduced-is p 0 j ∙ (cost-first p j within ∙ program-first q j))) large.above

-- a problem with a large second cost has a first tableau out of range
pub large-second : (q : Problem) → IsProper q → IsOneAbove q.second.items → ¬ IsInRange (program_of q) (first_tableau (program_of q))
large-second q proper large =
    let p = program_of q in
    let j = large.position in
    let rows = program-rows q in
    let columns = program-columns q in
    let within : j < p.columns = let l = large.within in let s = proper.second in omega arith in
    out_of_range p (cost_row p 2) j (slice_index_or q.second.items j (pos 0))
    (record { row = omega arith; column = omega arith; cost = λ l. omega arith })
    (first-cost p 2 j ∙ (reduced-is p 1 j ∙ (cost-second p 0 j within ∙ program-second q j))) large.above
