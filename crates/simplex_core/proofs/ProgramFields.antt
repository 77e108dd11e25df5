-- The linear program of a problem, field by field.
use Rattle.std.proofs.Common.{◌≡◌, ℕ, ap, refl, sym, ◌∙◌, List, length}
use Rattle.std.specs.Prelude.{ℤ, pos, slice_index_or}
use Rattle.simplex_core.specs.declared.problem.Problem.{Problem}
use Rattle.simplex_core.specs.Problem.{entry_value, program_of}
use Rattle.simplex_core.specs.TableClauses.{AreSides}

-- the columns of a problem's program
pub program-columns : (q : Problem) → (program_of q).columns ≡ q.cols
unfolding program_of
program-columns q = refl

-- the rows of a problem's program
pub program-rows : (q : Problem) → (program_of q).rows ≡ q.rows
unfolding program_of
program-rows q = refl

-- the numbers of a problem's program
pub program-entry : (q : Problem) (i j : ℕ) → (program_of q).entry i j ≡ entry_value q.entries.items i j
unfolding program_of
program-entry q i j = refl

-- the right sides of a problem's program
pub program-right : (q : Problem) (i : ℕ) → (program_of q).right i ≡ slice_index_or q.right.items i (pos 0)
unfolding program_of
program-right q i = refl

-- the first costs of a problem's program
pub program-first : (q : Problem) (j : ℕ) → (program_of q).first j ≡ slice_index_or q.first.items j (pos 0)
unfolding program_of
program-first q j = refl

-- the second costs of a problem's program
pub program-second : (q : Problem) (j : ℕ) → (program_of q).second j ≡ slice_index_or q.second.items j (pos 0)
unfolding program_of
program-second q j = refl

-- a problem's right sides are its program's
pub sides-read : (q : Problem) (right : List ℤ) → length q.right.items ≡ q.rows → right ≡ q.right.items → AreSides (program_of q) right
sides-read q right rows same = record {
  length_is = ap length same ∙ (rows ∙ sym (program-rows q));
  each = λ i. ap (λ (xs : List ℤ). slice_index_or xs i (pos 0)) same ∙ sym (program-right q i);
}
