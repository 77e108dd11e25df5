use Rattle.std.proofs.Common.{option_map, ap, sym, ◌∙◌}
use Rattle.poly_terms.specs.Views.{term_of}
use Rattle.its_model.specs.Views.{rule_of}
use Rattle.programs_tests.proofs.Laws.{first_rule, some}
use Rattle.programs_tests.proofs.rules.has_cost.Goals as goal

pub returns-in-Some : goal.returns-in-Some
returns-in-Some c = λ e. record {
  rule = rule_of c.index.result.now;
  numbered =
      first_rule c.args.p.now c.index.result.now
      (some c.args.p.now (sym c.is_empty.ensures ∙ c.if-is_empty.false)) c.index.ensures;
  cost = term_of c.in-Some.field-0;
  written = ap (option_map term_of) c.in-Some.is;
}
