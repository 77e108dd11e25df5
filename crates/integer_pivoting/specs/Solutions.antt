-- What solves a linear program.
use Rattle.std.specs.Prelude.{◌≡◌, ℕ, Bool, false, List, [], ◌∷◌, ℤ, pos, ◌+ℤ◌, ◌*ℤ◌, ◌≤ℤ◌, ◌<ℤ◌, slice_index_or}
use Rattle.std.specs.List.{AllByRecursion}
use Rattle.integer_pivoting.specs.declared.program.Entry.{Entry}
use Rattle.integer_pivoting.specs.declared.program.Equation.{Equation}
use Rattle.integer_pivoting.specs.declared.program.Column.{Column}
use Rattle.integer_pivoting.specs.declared.program.LinearProgram.{LinearProgram}
use Rattle.integer_pivoting.specs.declared.program.Solution.{Solution}
use Rattle.integer_pivoting.specs.declared.program.Answer.{Answer}
use Rattle.integer_pivoting.specs.declared.program.Answer.TheVariants.{Optimal, Infeasible, Unbounded}

-- the sum of entries, each times the value of its column; a column that isn't there has the value 0
abbrev pub sum_of : List Entry → List ℤ → ℤ
sum_of [] values = pos 0
sum_of (e ∷ entries) values = (e.value *ℤ slice_index_or values e.column (pos 0)) +ℤ sum_of entries values

-- values over a denominator meet an equation
abbrev pub Meets : List ℤ → ℤ → Equation → Type 0
Meets values den q = sum_of q.entries.items values ≡ (q.right *ℤ den)

-- there is a value for each column, and it is at least 0 where the column isn't free
abbrev pub AreSigned : List Column → List ℤ → Type 0
AreSigned [] [] = Unit
AreSigned [] (v ∷ values) = ⊥
AreSigned (c ∷ columns) [] = ⊥
AreSigned (c ∷ columns) (v ∷ values) = (c.is_free ≡ false → pos 0 ≤ℤ v) × AreSigned columns values

-- a solution has a value for each column, over a positive denominator, and meets each equation
pub record IsSolution (p : LinearProgram) (s : Solution) : Type 0 where
  pub positive : pos 0 <ℤ s.den
  pub signed : AreSigned p.columns.items s.numerators.items
  pub met : AllByRecursion (Meets s.numerators.items s.den) p.equations.items

-- what is said of an answer: values that it gives are a solution
abbrev pub Solves : LinearProgram → Answer → Type 0
Solves p (Optimal s) = IsSolution p s
Solves p Infeasible = Unit
Solves p Unbounded = Unit
