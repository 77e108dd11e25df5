use Rattle.std.proofs.Common.{ap, ◌∙◌}
use Rattle.text_core.specs.Reading.{first_among}
use Rattle.its_text.specs.Grammar.{programs}
use Rattle.its_reader.specs.Faults.{maybe_fault}
use Rattle.its_text.specs.Kinds.{LeftNotVariable, LeftRepeated, Limit, TooManyArguments}
use Rattle.its_text.specs.StateFaults.{fault_if, is_operator}
use Rattle.its_reader.proofs.FaultTestLaws.{three_first_fault}
use Rattle.its_reader.specs.Views.{maybe_of}
use Rattle.std.specs.Prelude.{nat_le, length}
use Rattle.model.specs.Limits.{place_limit}
use Rattle.text_core.specs.Names.{is_among}
use Rattle.expr_reader.specs.Variables.{names_in}
use Rattle.its_reader.proofs.draft.RuleDraft.first_fault_of_left_name.Goals as goal

pub returns : goal.returns
returns c = three_first_fault (maybe_fault c.args.best) _ _ _
    (fault_if (is_operator (maybe_of c.args.lookahead.behind)) LeftNotVariable c.args.lookahead.at)
    (fault_if (is_among c.args.name.now (names_in c.args.self.now.variables)) LeftRepeated c.args.lookahead.at)
    (fault_if (nat_le place_limit (length (names_in c.args.self.now.variables))) (Limit TooManyArguments)
    c.args.lookahead.at)
    (c.first_where-operated.ensures ∙ ap
    (λ v. first_among programs (maybe_fault c.args.best) (fault_if v LeftNotVariable c.args.lookahead.at))
    c.is_operator-operates.ensures)
    (c.first_where-repeated.ensures ∙ ap
    (λ v. first_among programs (maybe_fault c.first_where-operated.result)
    (fault_if v LeftRepeated c.args.lookahead.at)) c.has-named.ensures)
    (c.first_where.ensures ∙ ap
    (λ v. first_among programs (maybe_fault c.first_where-repeated.result)
    (fault_if v (Limit TooManyArguments) c.args.lookahead.at)) c.has_places-full.ensures)
