-- The table filled from a problem shows the first tableau.
use Rattle.std.proofs.Common.{◌≡◌, ◌≢◌, ℕ, zero, suc, ◌+◌, ◌-◌, ◌<◌, ◌≤◌, ap, arith, refl, sym, ◌∙◌, ◌⊎◌}
use Rattle.std.proofs.Common.{inl, inr, List, Some}
use Rattle.std.specs.Prelude.{ℤ, pos, ◌-ℤ◌, ◌*ℤ◌, slice_index, slice_index_or}
use Rattle.std.proofs.lemmas.Bool.{cases_lt}
use Rattle.std.proofs.lemmas.Int.{ints}
use Rattle.frac128.specs.declared.frac.Frac.{Frac}
use Rattle.int_laws.proofs.RingLaws.{mul-zero_ℤ, zero-mul_ℤ}
use Rattle.int_laws.specs.Sums.{sum_to}
use Rattle.int_laws.proofs.SumLaws.{sum_to-same, sum_to-zero}
use Rattle.simplex_core.specs.declared.sparse_table.SparseTable.{SparseTable}
use Rattle.simplex_core.specs.declared.problem.Problem.{Problem}
use Rattle.linear_forms.specs.LinearProgram.{LinearProgram}
use Rattle.simplex_core.specs.Tableau.{artificial, cost_row, sign_of, equation, cost, first_reduced_cost, first_tableau}
use Rattle.simplex_core.specs.Problem.{entry_value, program_of, IsProper}
use Rattle.simplex_core.specs.Positions.{InTable}
use Rattle.simplex_core.specs.Cells.{cell, Shows}
use Rattle.simplex_core.specs.Building.{HoldsWhole, signed_entries, with_equations, cost_number}
use Rattle.simplex_core.specs.Building.{with_costs, AreZeroFrom, AreCostsZeroFrom, AreSumsOf}
use Rattle.simplex_core.proofs.Invariant.{same_or_other}
use Rattle.simplex_core.proofs.Regions.{choose-below, choose-above, choose-same, choose-other, equation-column}
use Rattle.simplex_core.proofs.Regions.{equation-artificial, equation-other_artificial, equation-right, cost-none}
use Rattle.simplex_core.proofs.Regions.{cost-first, cost-second, cost-artificial, cost-no_artificial, first-row}
use Rattle.simplex_core.proofs.Regions.{first-cost}
use Rattle.simplex_core.proofs.First.{first-is_tableau, first-scale, first-basis, first-cost-artificial}
use Rattle.simplex_core.proofs.ProgramFields.{program-columns, program-rows, program-entry, program-right}
use Rattle.simplex_core.proofs.ProgramFields.{program-first, program-second}
use Rattle.simplex_core.proofs.WrittenNumbers.{entry_value-outside}

-- the filled equations have the entries' numbers in a column of the program
pub filled-column : (m n : ℕ) (right : List ℤ) (g : ℕ → ℕ → ℤ) (i j : ℕ) → i < m → j < n → with_equations m n right g m i j ≡ g i j
filled-column m n right g i j l k =
    choose-below i m _ (g i j) l ∙ (choose-other j (n + i) (pos 1) _ (omega arith) ∙ choose-other j (n + m) _ (g i j) (omega arith))

-- the filled equations have the same sums as the entries
pub filled-sums : (m n : ℕ) (right sums : List ℤ) (g : ℕ → ℕ → ℤ) → AreSumsOf g m n sums → AreSumsOf (with_equations m n right g m) m n sums
filled-sums m n right sums g are = record {
  each = λ j l. are.each j l ∙ sum_to-same m (λ i. g i j) (λ i. with_equations m n right g m i j) (λ i k. sym (filled-column m n right g i j k l));
}

-- while only the entries are written, the artificial unknowns are 0
pub artificial-zero : (q : Problem) (table : SparseTable) (sides : List ℤ) → IsProper q → table.columns ≡ q.cols → HoldsWhole table (signed_entries q.entries.items sides)
    → AreZeroFrom table 0
artificial-zero q table sides proper columns holds = record {
  each = λ i _ l. record {
    each = λ f is.
        holds.num i (table.columns + i) f (omega arith) (omega arith) is
        ∙ mul-zero_ℤ _ _ (entry_value-outside q.rows q.cols q.entries.items i (table.columns + i) proper.inside (inr (omega (arith, columns))));
  };
}

-- while only the equations are written, the cost rows are 0
pub costs-zero : (q : Problem) (table : SparseTable) (m n : ℕ) (right sides : List ℤ) → IsProper q → table.rows ≡ m → m ≡ q.rows
    → HoldsWhole table (with_equations m n right (signed_entries q.entries.items sides) m) → AreCostsZeroFrom table 0
costs-zero q table m n right sides proper rows same holds = record {
  each = λ k j few _ l. record {
    each = λ f is.
        holds.num (table.rows + k) j f (omega arith) (omega arith) is
        ∙ (choose-above (table.rows + k) m _ (signed_entries q.entries.items sides (table.rows + k) j) (omega (arith, rows))
        ∙ mul-zero_ℤ _ _ (entry_value-outside q.rows q.cols q.entries.items (table.rows + k) j proper.inside (inl (omega (arith, rows, same)))));
  };
}

-- the filled equations are the program's
equations-are : (q : Problem) (m n i j : ℕ) → IsProper q → m ≡ q.rows → n ≡ q.cols → i < m → j < n + m + 1
    → with_equations m n q.right.items (signed_entries q.entries.items q.right.items) m i j ≡ equation (program_of q) i j
equations-are q m n i j proper em en l k = go (cases_lt j n) (same_or_other j (n + i)) (same_or_other j (n + m))
  where
    p : LinearProgram
    p = program_of q

    g : ℕ → ℕ → ℤ
    g = signed_entries q.entries.items q.right.items

    rows : p.rows ≡ m
    rows = program-rows q ∙ sym em

    columns : p.columns ≡ n
    columns = program-columns q ∙ sym en

    sign : sign_of (slice_index_or q.right.items i (pos 0)) ≡ sign_of (p.right i)
    sign = ap sign_of (sym (program-right q i))

    go : (j < n) ⊎ (n ≤ j) → (j ≡ n + i) ⊎ (j ≢ n + i) → (j ≡ n + m) ⊎ (j ≢ n + m) → with_equations m n q.right.items g m i j ≡ equation p i j
    go (inl f) v w =
        filled-column m n q.right.items g i j l f
        ∙ (ap (λ (z : ℤ). z *ℤ entry_value q.entries.items i j) sign
        ∙ (ap (λ (z : ℤ). sign_of (p.right i) *ℤ z) (sym (program-entry q i j)) ∙ sym (equation-column p i j (omega (arith, rows, columns)))))
    go (inr f) (inl v) w =
        choose-below i m _ (g i j) l ∙ (choose-same j (n + i) (pos 1) _ v
        ∙ (sym (equation-artificial p i (omega (arith, rows, columns))) ∙ ap (λ (y : ℕ). equation p i y) (omega (arith, rows, columns))))
    go (inr f) (inr v) (inl w) =
        choose-below i m _ (g i j) l ∙ (choose-other j (n + i) (pos 1) _ v ∙ (choose-same j (n + m) _ (g i j) w
        ∙ (ap (λ (z : ℤ). sign_of z *ℤ z) (sym (program-right q i)) ∙ (sym (equation-right p i) ∙ ap (λ (y : ℕ). equation p i y) (omega (arith, rows, columns))))))
    go (inr f) (inr v) (inr w) =
        choose-below i m _ (g i j) l ∙ (choose-other j (n + i) (pos 1) _ v ∙ (choose-other j (n + m) _ (g i j) w
        ∙ (mul-zero_ℤ _ _ (entry_value-outside q.rows q.cols q.entries.items i j proper.inside (inr (omega (arith, rows, columns))))
        ∙ (sym (equation-other_artificial p i (j - n) (omega (arith, rows, columns)) (omega (arith, rows, columns))) ∙ ap (λ (y : ℕ). equation p i y) (omega (arith, rows, columns))))))

-- the filled cost rows are the first reduced costs
costs-are : (q : Problem) (m n r j : ℕ) → IsProper q → m ≡ q.rows → n ≡ q.cols → r < 3 → j < n + m
    → with_costs m (with_equations m n q.right.items (signed_entries q.entries.items q.right.items) m) q.first.items q.second.items n (m + r) j
    ≡ first_reduced_cost (program_of q) r j
costs-are q m n r j proper em en few k = go (cases_lt j n)
  where
    p : LinearProgram
    p = program_of q

    g : ℕ → ℕ → ℤ
    g = with_equations m n q.right.items (signed_entries q.entries.items q.right.items) m

    rows : p.rows ≡ m
    rows = program-rows q ∙ sym em

    columns : p.columns ≡ n
    columns = program-columns q ∙ sym en

    position : (m + r) - m ≡ r
    position = omega (arith, rows, columns)

    none : (c b : ℤ) (w : ℤ) → c ≡ w → b ≡ pos 0 → w ≡ c -ℤ b
    none c b w e f = omega (arith, ints)

    number : (s : ℕ) → s < 3 → j < n → cost_number m g q.first.items q.second.items s j ≡ first_reduced_cost p s j
    number zero f l =
        less (sum_to m (λ i. g i j)) (sum_to p.rows (λ i. cost p 0 (artificial p i) *ℤ equation p i j)) (cost p 0 j) (cost-none p j (omega (arith, rows, columns)))
        (ap (λ (x : ℕ). sum_to x (λ i. g i j)) (sym rows)
        ∙ sum_to-same p.rows (λ i. g i j) (λ i. cost p 0 (artificial p i) *ℤ equation p i j)
        (λ i x. equations-are q m n i j proper em en (omega (arith, rows, columns)) (omega (arith, rows, columns)) ∙ one_times (cost p 0 (artificial p i)) (equation p i j) (cost-artificial p (artificial p i) (omega (arith, rows, columns)))))
      where
        less : (a b c : ℤ) → c ≡ pos 0 → a ≡ b → pos 0 -ℤ a ≡ c -ℤ b
        less a b c e f = omega (arith, ints)

        one_times : (o z : ℤ) → o ≡ pos 1 → z ≡ o *ℤ z
        one_times o z e = base ∙ ap (λ (y : ℤ). y *ℤ z) (sym e)
          where
            base : z ≡ pos 1 *ℤ z
            base = omega (arith, ints)
    number (suc zero) f l =
        none (cost p 1 j) _ _ (cost-first p j (omega (arith, rows, columns)) ∙ program-first q j)
        (sum_to-zero p.rows (λ i. cost p 1 (artificial p i) *ℤ equation p i j) (λ i x. zero-mul_ℤ _ _ (cost-no_artificial p 0 (artificial p i) (omega (arith, rows, columns)))))
    number (suc (suc s)) f l =
        none (cost p (suc (suc s)) j) _ _ (cost-second p s j (omega (arith, rows, columns)) ∙ program-second q j)
        (sum_to-zero p.rows (λ i. cost p (suc (suc s)) (artificial p i) *ℤ equation p i j) (λ i x. zero-mul_ℤ _ _ (cost-no_artificial p (suc s) (artificial p i) (omega (arith, rows, columns)))))

    go : (j < n) ⊎ (n ≤ j) → with_costs m g q.first.items q.second.items n (m + r) j ≡ first_reduced_cost p r j
    go (inl l) =
        choose-above (m + r) m (g (m + r) j) _ (omega (arith, rows, columns))
        ∙ (choose-below j n _ (g (m + r) j) l
        ∙ (ap (λ (s : ℕ). cost_number m g q.first.items q.second.items s j) position ∙ number r few l))
    go (inr l) =
        choose-above (m + r) m (g (m + r) j) _ (omega (arith, rows, columns))
        ∙ (choose-above j n _ (g (m + r) j) l
        ∙ (choose-above (m + r) m _ (signed_entries q.entries.items q.right.items (m + r) j) (omega (arith, rows, columns))
        ∙ (mul-zero_ℤ _ _ (entry_value-outside q.rows q.cols q.entries.items (m + r) j proper.inside (inl (omega (arith, rows, columns))))
        ∙ (sym (first-cost-artificial p r (j - n) (omega (arith, rows, columns))) ∙ (first-cost p r (artificial p (j - n)) ∙ ap (λ (y : ℕ). first_reduced_cost p r y) (omega (arith, rows, columns)))))))

-- the filled numbers are those of the first tableau
pub filled-entry : (q : Problem) (i j : ℕ) → IsProper q → InTable q.rows q.cols i j
    → with_costs q.rows (with_equations q.rows q.cols q.right.items (signed_entries q.entries.items q.right.items) q.rows) q.first.items q.second.items q.cols i j
    ≡ (first_tableau (program_of q)).entry i j
filled-entry q i j proper inside = go (cases_lt i q.rows)
  where
    p : LinearProgram
    p = program_of q

    rows : p.rows ≡ q.rows
    rows = program-rows q

    go : (i < q.rows) ⊎ (q.rows ≤ i)
        → with_costs q.rows (with_equations q.rows q.cols q.right.items (signed_entries q.entries.items q.right.items) q.rows) q.first.items q.second.items q.cols i j ≡ (first_tableau p).entry i j
    go (inl l) =
        let k = inside.column in
        choose-below i q.rows _ _ l ∙ (equations-are q q.rows q.cols i j proper refl refl l k ∙ sym (first-row p i j (omega (arith, rows))))
    go (inr l) =
        let r = inside.row in
        let k = inside.cost l in
        let e : i ≡ q.rows + (i - q.rows) = omega arith in
        let c : i ≡ cost_row p (i - q.rows) = omega (arith, rows) in
        ap (λ (x : ℕ). with_costs q.rows (with_equations q.rows q.cols q.right.items (signed_entries q.entries.items q.right.items) q.rows) q.first.items q.second.items q.cols x j) e
        ∙ (costs-are q q.rows q.cols (i - q.rows) j proper refl refl (omega arith) k
        ∙ (sym (first-cost p (i - q.rows) j) ∙ ap (λ (x : ℕ). (first_tableau p).entry x j) (sym c)))

-- the filled table shows the first tableau
pub filled-shows : (q : Problem) (table : SparseTable) → IsProper q → table.rows ≡ q.rows → table.columns ≡ q.cols
    → HoldsWhole table (with_costs table.rows (with_equations table.rows table.columns q.right.items (signed_entries q.entries.items q.right.items) table.rows) q.first.items q.second.items table.columns)
    → ((i : ℕ) → i < q.rows → slice_index table.basis.items i ≡ q.cols + i)
    → Shows (program_of q) table (first_tableau (program_of q))
filled-shows q table proper em en holds basis = record {
  rows = rows;
  columns = columns;
  positive = (first-is_tableau p).positive;
  numbers = numbers;
  basis = λ i l. basis i (omega (arith, rows, columns)) ∙ (ap (λ (n : ℕ). n + i) (sym (program-columns q)) ∙ sym (first-basis-is i));
}
  where
    p : LinearProgram
    p = program_of q

    m : ℕ
    m = table.rows

    n : ℕ
    n = table.columns

    rows : m ≡ p.rows
    rows = em ∙ sym (program-rows q)

    columns : n ≡ p.columns
    columns = en ∙ sym (program-columns q)

    first-basis-is : (i : ℕ) → (first_tableau p).basis i ≡ artificial p i
    first-basis-is i = first-basis p i

    whole : (f : Frac) (i : ℕ) (z : ℤ) → f.num ≡ z → f.den ≡ pos 1 → (first_tableau p).scale i ≡ pos 1 → f.num *ℤ (first_tableau p).scale i ≡ z *ℤ f.den
    whole f i z a b c = ap (λ (y : ℤ). y *ℤ (first_tableau p).scale i) a ∙ (ap (λ (y : ℤ). z *ℤ y) c ∙ ap (λ (y : ℤ). z *ℤ y) (sym b))

    numbers : (i j : ℕ) (f : Frac) → InTable p.rows p.columns i j → cell table i j ≡ Some f → f.num *ℤ (first_tableau p).scale i ≡ (first_tableau p).entry i j *ℤ f.den
    numbers i j f inside is =
        let r = inside.row in
        let k = inside.column in
        whole f i ((first_tableau p).entry i j) (holds.num i j f (omega (arith, rows, columns)) (omega (arith, rows, columns)) is ∙ value i j inside (cases_lt i m)) (holds.den i j f (omega (arith, rows, columns)) (omega (arith, rows, columns)) is) (first-scale p i)
      where
        value : (i j : ℕ) → InTable p.rows p.columns i j → (i < m) ⊎ (m ≤ i)
            → with_costs m (with_equations m n q.right.items (signed_entries q.entries.items q.right.items) m) q.first.items q.second.items n i j ≡ (first_tableau p).entry i j
        value i j inside (inl l) =
            let k = inside.column in
            choose-below i m _ _ l ∙ (equations-are q m n i j proper em en l (omega (arith, rows, columns)) ∙ sym (first-row p i j (omega (arith, rows, columns))))
        value i j inside (inr l) =
            let r = inside.row in
            let k = inside.cost in
            let e : i ≡ m + (i - m) = omega (arith, rows, columns) in
            let c : i ≡ cost_row p (i - m) = omega (arith, rows, columns) in
            ap (λ (x : ℕ). with_costs m (with_equations m n q.right.items (signed_entries q.entries.items q.right.items) m) q.first.items q.second.items n x j) e
            ∙ (costs-are q m n (i - m) j proper em en (omega (arith, rows, columns)) (let w = k (omega (arith, rows, columns)) in omega (arith, rows, columns))
            ∙ (sym (first-cost p (i - m) j) ∙ ap (λ (x : ℕ). (first_tableau p).entry x j) (sym c)))
