use Rattle.std.proofs.Common.{map}
use Rattle.poly_terms.specs.Views.{form_of}
use Rattle.location_facts.specs.Implied.{proof_in}
use Rattle.location_facts.specs.Rows.{row_after}
use Rattle.location_facts.proofs.DueRules.{none-sound}
use Rattle.location_facts.proofs.shown.proof_by.Goals as goal

pub returns-in-None-clause-verdict : goal.returns-in-None-clause-verdict
returns-in-None-clause-verdict c rows again =
    none-sound c.args.pivots c.args.asked.prepared_rule.now.unknowns rows
    (row_after (map form_of c.args.asked.prepared_rule.now.new_values.items) c.args.fact) c.args.asked.under.now
    c.args.earlier (proof_in c.refuting_answer.result) c.in-None.is c.refuting_answer.ensures.same again
