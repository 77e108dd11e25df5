use Rattle.std.proofs.Common.{ap, ◌∙◌}
use Rattle.text_core.specs.Reading.{first_among}
use Rattle.its_text.specs.Grammar.{programs}
use Rattle.its_reader.specs.Faults.{maybe_fault}
use Rattle.its_text.specs.Kinds.{NumberTooLarge, Limit, TooManyVariables, TooManyTokens}
use Rattle.its_text.specs.StateFaults.{fault_if}
use Rattle.its_reader.proofs.FaultTestLaws.{three_first_fault}
use Rattle.std.specs.Prelude.{nat_le}
use Rattle.model.specs.Limits.{token_limit}
use Rattle.expr_reader.specs.Views.{piece_of as inner_plain}
use Rattle.its_reader.specs.FaultTests.{is_large_row, passes}
use Rattle.its_reader.proofs.draft.RuleDraft.first_fault_of_inner.Goals as goal

pub returns : goal.returns
returns c = three_first_fault (maybe_fault c.args.best) _ _ _
    (fault_if (is_large_row (inner_plain c.args.piece)) NumberTooLarge c.args.at)
    (fault_if (passes c.args.truth c.args.self.now (inner_plain c.args.piece)) (Limit TooManyVariables) c.args.at)
    (fault_if (nat_le token_limit c.args.tokens) (Limit TooManyTokens) c.args.at)
    (c.first_where-measured.ensures ∙ ap
    (λ v. first_among programs (maybe_fault c.args.best) (fault_if v NumberTooLarge c.args.at))
    c.is_large-large.ensures)
    (c.first_where-counted.ensures ∙ ap
    (λ v. first_among programs (maybe_fault c.first_where-measured.result)
    (fault_if v (Limit TooManyVariables) c.args.at)) c.passes-full.ensures)
    (c.first_where.ensures ∙ ap
    (λ v. first_among programs (maybe_fault c.first_where-counted.result)
    (fault_if v (Limit TooManyTokens) c.args.at)) c.are_many-long.ensures)
