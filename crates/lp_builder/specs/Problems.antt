-- When a problem is that of a question.
use Rattle.std.specs.Prelude.{◌≡◌, ◌^◌, ◌+◌, ◌<◌, ◌++◌, length, map, replicate, pos}
use Rattle.simplex_core.specs.linear_forms.ProgramLaws.{Agree}
use Rattle.simplex_core.specs.linear_forms.Questions.{Question, IsShaped, equations, group_columns, double, on_both}
use Rattle.simplex_core.specs.linear_forms.Questions.{on_plus}
use Rattle.simplex_core.specs.linear_forms.Questions.{program_of_question}
use Rattle.simplex_core.specs.declared.problem.Problem.{Problem}
use Rattle.simplex_core.specs.Problem.{program_of, IsProper}
use Rattle.lp_builder.specs.Entries.{entries_of}

-- the problem's parts are the question's lines, right sides and costs, one by one
pub record HoldsQuestion (q : Question) (p : Problem) : Type 0 where
  pub rows : p.rows ≡ length (equations 0 q.groups)
  pub columns : p.cols ≡ double q.parameters + group_columns q.groups
  pub entries : p.entries.items ≡ entries_of 0 (map (λ e. e.numbers) (equations 0 q.groups))
  pub right : p.right.items ≡ map (λ e. e.right) (equations 0 q.groups)
  pub first : p.first.items ≡ on_both q.sizes ++ replicate (group_columns q.groups) (pos 0)
  pub second : p.second.items ≡ on_plus q.heights ++ replicate (group_columns q.groups) (pos 0)

-- a problem that holds a question of fewer than 2^31 rows and columns satisfies the precondition of `solve`, and its
-- linear program agrees with the question's
pub record HeldQuestionsAreProper : Type 0 where
  pub proper : (q : Question) (p : Problem) → IsShaped q → HoldsQuestion q p → p.rows < 2 ^ 31 → p.cols < 2 ^ 31
      → IsProper p
  pub agrees : (q : Question) (p : Problem) → IsShaped q → HoldsQuestion q p
      → Agree (program_of p) (program_of_question q)
