-- The state of a builder: the lines of the groups written so far.
use Rattle.std.specs.Prelude.{◌≡◌, ℕ, ◌+◌, ◌*◌, ◌^◌, ◌<◌, List, [], ◌∷◌, ◌++◌, length, map}
use Rattle.std.specs.List.{All}
use Rattle.simplex_core.specs.linear_forms.ProgramLaws.{Agree}
use Rattle.simplex_core.specs.linear_forms.Questions.{Group, IsGroupShaped, equations, group_columns}
use Rattle.simplex_core.specs.linear_forms.Questions.{program_of_question}
use Rattle.simplex_core.specs.declared.problem.Problem.{Problem}
use Rattle.simplex_core.specs.Problem.{program_of, IsProper}
use Rattle.lp_builder.specs.declared.description.Cost.{Cost}
use Rattle.lp_builder.specs.declared.builder.Builder.{Builder}
use Rattle.lp_builder.specs.Descriptions.{question_of}
use Rattle.lp_builder.specs.Entries.{entries_of}

-- how many parameters the question has
abbrev pub parameter_count : Builder → ℕ
parameter_count b = b.parameters

-- how many rows have been written
abbrev pub row_count : Builder → ℕ
row_count b = b.writer.row

-- how many columns the rows have: a pair for each parameter, and those of the groups
abbrev pub column_count : Builder → ℕ
column_count b = 2 * b.parameters + b.columns

-- the builder is at the start of a row, and its rows and columns are below 2^31
pub record AtRowStart (b : Builder) : Type 0 where
  pub at_start : b.writer.col ≡ 0
  pub few_rows : row_count b < 2 ^ 31
  pub few_columns : column_count b < 2 ^ 31

-- the builder holds these groups: the nonzero numbers of their lines and their right sides, in order
pub record Holds (b : Builder) (gs : List Group) : Type 0 where
  pub row : b.writer.row ≡ length (equations 0 gs)
  pub entries : b.writer.entries.items ≡ entries_of 0 (map (λ e. e.numbers) (equations 0 gs))
  pub right : b.right.items ≡ map (λ e. e.right) (equations 0 gs)
  pub columns : b.columns ≡ group_columns gs
  pub shaped : All (IsGroupShaped b.parameters) gs

-- the new builder holds one more group
pub record Adds (old new : Builder) (g : Group) : Type 0 where
  pub ready : AtRowStart new
  pub holds : (gs : List Group) → Holds old gs → Holds new (gs ++ (g ∷ []))
  pub parameters : parameter_count new ≡ parameter_count old
  pub rows : row_count new ≡ row_count old + g.unknowns + 1
  pub columns : column_count new ≡ column_count old + length g.rows + 1

-- the problem satisfies the precondition of `solve`, and its linear program agrees with that of the question whose
-- groups the builder holds and whose parameters have these costs
pub record IsBuilt (b : Builder) (costs : List Cost) (p : Problem) : Type 0 where
  pub proper : (gs : List Group) → Holds b gs → IsProper p
  pub agrees : (gs : List Group) → Holds b gs → Agree (program_of p) (program_of_question (question_of costs gs))
