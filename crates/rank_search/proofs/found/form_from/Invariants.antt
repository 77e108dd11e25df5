use Rattle.std.proofs.Common.{◌≡◌, ◌++◌, ◌+◌, ◌-◌}
use Rattle.simplex_core.specs.linear_forms.Forms.{at}
use Rattle.simplex_core.specs.linear_forms.QuestionLaws.{parameters_of}
use Rattle.poly_terms.specs.model.Programs.{arity_of}
use Rattle.its_model.specs.Views.{program_of}
use Rattle.rank_search.specs.ShutPlaces.{is_listed}
use Rattle.rank_search.specs.Reading.{open_count, read_coefs}
use Rattle.rank_search.proofs.found.form_from.Given as goal

-- the coefficients so far and those of the remaining places are all
abbrev pub invariant-loop-before : goal.invariant-loop-before
invariant-loop-before l = record {
  kept : l.coefs.items
      ++ read_coefs (is_listed l.closed l.symbol) (parameters_of (at l.numbers)) l.parameter (l.before + 1)
      (arity_of (program_of l.p) l.symbol - l.before)
      ≡ read_coefs (is_listed l.closed l.symbol) (parameters_of (at l.numbers)) l.initial.parameter 1
      (arity_of (program_of l.p) l.symbol);
  count : l.parameter + open_count (is_listed l.closed l.symbol) (l.before + 1)
      (arity_of (program_of l.p) l.symbol - l.before)
      ≡ l.initial.parameter + open_count (is_listed l.closed l.symbol) 1 (arity_of (program_of l.p) l.symbol);
}
