use Rattle.std.proofs.Common.{◌≡◌, ◌<◌, ◌^◌, List}
use Rattle.simplex_core.specs.linear_forms.Questions.{Group}
use Rattle.lp_builder.specs.Builders.{parameter_count, row_count, column_count, AtRowStart, Holds}
use Rattle.sample_questions.proofs.parts.problem_of.Given as goal

-- the builder holds some groups, and its rows and columns are counted
abbrev pub invariant-loop-part : goal.invariant-loop-part
invariant-loop-part l = record {
  ready : AtRowStart l.builder;
  held : (gs : List Group) × Holds l.builder gs;
  parameters : parameter_count l.builder ≡ l.parameters;
  rows : row_count l.builder ≡ l.rows;
  columns : column_count l.builder ≡ l.columns;
  few_rows : l.rows < 2 ^ 31;
  few_columns : l.columns < 2 ^ 31;
}
