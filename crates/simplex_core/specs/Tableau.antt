-- The tableaux of the simplex method with artificial unknowns, in integers.
use Rattle.std.specs.Prelude.{ℕ, zero, suc, ◌+◌, ◌-◌, ℤ, pos, negsuc, ◌-ℤ◌, ◌*ℤ◌, int_lt, nat_lt, nat_eq, if◌then◌else◌}
use Rattle.int_laws.specs.Sums.{sum_to}
use Rattle.linear_forms.specs.LinearProgram.{LinearProgram}

-- a tableau: row i represents the fractions entry i j / scale i; the equations' rows are followed by three cost rows;
-- basis i is the column of the unknown that row i is solved for
pub record Tableau : Type 0 where
  pub entry : ℕ → ℕ → ℤ
  pub scale : ℕ → ℤ
  pub basis : ℕ → ℕ

-- the column of the artificial unknown of row i, which comes after the program's columns
abbrev pub artificial : LinearProgram → ℕ → ℕ
artificial p i = p.columns + i

-- the number of unknowns, with the artificial ones; it is also the column of the right sides
abbrev pub unknowns : LinearProgram → ℕ
unknowns p = p.columns + p.rows

-- the row of the costs with number k
abbrev pub cost_row : LinearProgram → ℕ → ℕ
cost_row p k = p.rows + k

-- the sign that makes a right side at least 0
abbrev pub sign_of : ℤ → ℤ
sign_of b = if int_lt b (pos 0) then negsuc 0 else pos 1

-- the numbers of row i as an equation with a right side of at least 0 and an artificial unknown
unfoldable pub equation : LinearProgram → ℕ → ℕ → ℤ
equation p i j =
    if nat_lt j p.columns then sign_of (p.right i) *ℤ p.entry i j
    else if nat_lt j (unknowns p) then (if nat_eq j (artificial p i) then pos 1 else pos 0)
    else sign_of (p.right i) *ℤ p.right i

-- the costs of an unknown: number 0 counts the artificial ones, numbers 1 and 2 are the first and the second costs
unfoldable pub cost : LinearProgram → ℕ → ℕ → ℤ
cost p zero j = if nat_lt j p.columns then pos 0 else pos 1
cost p (suc zero) j = if nat_lt j p.columns then p.first j else pos 0
cost p (suc (suc k)) j = if nat_lt j p.columns then p.second j else pos 0

-- the reduced cost at the first basis, which consists of the artificial unknowns: the cost less the basis' costs times
-- the column
abbrev pub first_reduced_cost : LinearProgram → ℕ → ℕ → ℤ
first_reduced_cost p k j = cost p k j -ℤ sum_to p.rows (λ i. cost p k (artificial p i) *ℤ equation p i j)

-- the first tableau: the equations, solved for the artificial unknowns
unfoldable pub first_tableau : LinearProgram → Tableau
first_tableau p = record {
  entry = λ i j. if nat_lt i p.rows then equation p i j else first_reduced_cost p (i - p.rows) j;
  scale = λ _. pos 1;
  basis = λ i. artificial p i;
}

-- the pivot at row r and column c: row r is divided by its entry in column c, and each other row is reduced by the
-- multiple of it that leaves 0 in column c; then row r is solved for the unknown c
unfoldable pub pivot : Tableau → ℕ → ℕ → Tableau
pivot t r c = record {
  entry = λ i j. if nat_eq i r then t.entry r j else (t.entry i j *ℤ t.entry r c -ℤ t.entry i c *ℤ t.entry r j);
  scale = λ i. if nat_eq i r then t.entry r c else (t.scale i *ℤ t.entry r c);
  basis = λ i. if nat_eq i r then c else t.basis i;
}
