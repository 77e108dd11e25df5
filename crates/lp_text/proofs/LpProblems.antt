-- The problem of a linear program within the limits is proper, and denotes what is written.
use Rattle.std.proofs.Common.{◌≡◌, ℕ, zero, suc, ◌+◌, ◌*◌, ◌<◌, ◌≤◌, ap, arith, refl, sym, ◌∙◌, subst, List, [], ◌∷◌}
use Rattle.std.proofs.Common.{length, map, Some}
use Rattle.std.specs.Prelude.{ℤ, pos, ◌≤ℤ◌, unsigned_abs, slice_get}
use Rattle.std.specs.List.{All}
use Rattle.std.proofs.lemmas.Int.{ints}
use Rattle.std.proofs.Math.Nat.{mul-le-mul}
use Rattle.simplex_core.specs.linear_forms.Forms.{at}
use Rattle.simplex_core.specs.linear_forms.ProgramLaws.{Agree}
use Rattle.simplex_core.proofs.linear_forms.SolutionLaws.{length-map}
use Rattle.simplex_core.specs.declared.problem.Problem.{Problem}
use Rattle.simplex_core.specs.declared.problem.Entry.{Entry}
use Rattle.simplex_core.specs.Problem.{program_of, IsProper, entry_value, table_size, widest}
use Rattle.lp_builder.specs.Entries.{entries_of}
use Rattle.lp_builder.proofs.Entries.{lines-value, lines-inside, lines-distinct, each-at, distinct-at}
use Rattle.lp_text.specs.Lps.{Row, Lp}
use Rattle.lp_text.specs.Spelled.{AreRowsOf, IsWithin}
use Rattle.lp_text.specs.Problems.{lines_of, program_in, IsProblemOf, ProblemsAreMeant}

-- each row has at most as many numbers as there are columns
rows-width : (n : ℕ) (rs : List Row) → AreRowsOf n rs → All (λ l. length l ≤ n) (map (λ r. r.numbers) rs)
rows-width n [] h k d l = absurd (omega (arith, l))
rows-width n (r ∷ rs) h zero d l = let e = h.0.count in omega (arith, e)
rows-width n (r ∷ rs) h (suc k) d l = rows-width n rs h.1 k d (omega (arith, l))

-- costs are at least 0
cost-nonneg : (c : ℕ) → pos 0 ≤ℤ pos c
cost-nonneg c = omega (arith, ints)

costs-nonneg : (cs : List ℕ) (j : ℕ) → pos 0 ≤ℤ at (map pos cs) j
costs-nonneg [] j = cost-nonneg 0
costs-nonneg (c ∷ cs) zero = cost-nonneg c
costs-nonneg (c ∷ cs) (suc j) = costs-nonneg cs j

-- the table of at most 64 rows and columns is small
table-small : (m n : ℕ) → m ≤ 64 → n ≤ 64 → m * (n + m + 1) ≤ 40000000000
table-small m n l k = let a = mul-le-mul l k in let b = mul-le-mul l l in omega (arith, a, b, l)

module _ (p : Lp) (q : Problem) (w : IsWithin p) (h : IsProblemOf p q) where
  -- the problem has at most 64 rows and columns
  rows-few : q.rows ≤ 64
  rows-few = let e = h.rows in let l = w.few_rows in omega (arith, e, l)

  columns-are : q.cols ≡ w.columns
  columns-are = h.columns ∙ ap unsigned_abs w.counted

  columns-few : q.cols ≤ 64
  columns-few = let e = columns-are in let l = w.few in omega (arith, e, l)

  -- an entry of the lines lies in the table
  entry-inside : (e : Entry) → (0 ≤ e.row) × (e.row < 0 + length (lines_of p)) × (e.col < w.columns)
      → (e.row < q.rows) × (e.col < q.cols)
  entry-inside e i = (
    (let a = i.1 in let b = h.rows in let m = length-map (λ (r : Row). r.numbers) p.rows in omega (arith, a, b, m)),
    subst (λ (n : ℕ). e.col < n) (sym columns-are) i.2,
  )

  -- an entry of the problem is one of the lines
  entry-at : (k : ℕ) (e : Entry) → slice_get q.entries.items k ≡ Some e → slice_get (entries_of 0 (lines_of p)) k ≡ Some e
  entry-at k e i = sym (ap (λ (es : List Entry). slice_get es k) h.entries) ∙ i

  pub problem-proper : IsProper q
  unfolding program_of
  problem-proper = record {
    rows = (let l = rows-few in omega (arith, l));
    columns = (let l = columns-few in omega (arith, l));
    inside = λ k e i.
        entry-inside e
        (each-at (λ f. (0 ≤ f.row) × (f.row < 0 + length (lines_of p)) × (f.col < w.columns)) (entries_of 0 (lines_of p)) k e
        (lines-inside 0 w.columns (lines_of p) (rows-width w.columns p.rows w.rows)) (entry-at k e i));
    once = λ k l d e m i j.
        distinct-at (entries_of 0 (lines_of p)) k l d e
        (lines-distinct 0 w.columns (lines_of p) (rows-width w.columns p.rows w.rows)) m (entry-at k d i) (entry-at l e j);
    right = ap (λ (xs : List ℤ). length xs) h.right ∙ (length-map (λ (r : Row). r.right) p.rows ∙ sym h.rows);
    first = ap (λ (xs : List ℤ). length xs) h.first ∙ (length-map pos p.first ∙ (w.first ∙ sym columns-are));
    second = ap (λ (xs : List ℤ). length xs) h.second ∙ (length-map pos p.second ∙ (w.second ∙ sym columns-are));
    costs = record {
      first = λ j l. subst (λ (z : ℤ). pos 0 ≤ℤ z) (sym (ap (λ (xs : List ℤ). at xs j) h.first)) (costs-nonneg p.first j);
      second = λ j l. subst (λ (z : ℤ). pos 0 ≤ℤ z) (sym (ap (λ (xs : List ℤ). at xs j) h.second)) (costs-nonneg p.second j);
    };
  }

  pub problem-agrees : Agree (program_of q) (program_in p)
  unfolding program_of
  problem-agrees = record {
    rows = h.rows;
    columns = h.columns;
    entry = λ i j l m.
        ap (λ (es : List Entry). entry_value es i j) h.entries
        ∙ (ap (λ (k : ℕ). entry_value (entries_of 0 (lines_of p)) k j) (from_zero i) ∙ lines-value 0 i j (lines_of p));
    right = λ i l. ap (λ (xs : List ℤ). at xs i) h.right;
    first = λ j l. ap (λ (xs : List ℤ). at xs j) h.first;
    second = λ j l. ap (λ (xs : List ℤ). at xs j) h.second;
  }
    where
      from_zero : (i : ℕ) → i ≡ 0 + i
      from_zero i = omega arith

  pub problem-narrow : table_size (program_of q) ≤ widest
  unfolding program_of
  problem-narrow = table-small q.rows q.cols rows-few columns-few

pub problems_meant : ProblemsAreMeant
problems_meant = record { proper = problem-proper; agrees = problem-agrees; narrow = problem-narrow }
