use Rattle.std.proofs.Common.{◌≡◌, ◌++◌, ◌*◌, ◌≤◌, map, drop}
use Rattle.simplex_core.specs.linear_forms.Forms.{at}
use Rattle.simplex_core.specs.linear_forms.QuestionLaws.{parameters_of}
use Rattle.its_model.specs.Views.{program_of}
use Rattle.cert_types.specs.Views.{form_of}
use Rattle.rule_questions.specs.ProgramQuestions.{places_of}
use Rattle.rank_search.specs.Reading.{read_forms}
use Rattle.rank_search.proofs.found.forms_from.Given as goal

-- the forms so far and those of the remaining symbols are all
abbrev pub invariant-loop-symbol : goal.invariant-loop-symbol
invariant-loop-symbol l = record {
  kept : map form_of l.forms.items
      ++ read_forms (program_of l.p) (places_of l.shut) (parameters_of (at l.numbers)) l.next
      (drop l.symbol-index l.symbols)
      ≡ read_forms (program_of l.p) (places_of l.shut) (parameters_of (at l.numbers)) 0 l.symbols;
  few : l.next ≤ 33 * l.symbol-index;
}
