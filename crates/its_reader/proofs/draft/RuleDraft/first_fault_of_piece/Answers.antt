use Rattle.std.proofs.Common.{sym, ap, ◌∙◌}
use Rattle.text_core.specs.Reading.{first_among}
use Rattle.its_text.specs.Grammar.{programs}
use Rattle.its_reader.specs.Faults.{maybe_fault}
use Rattle.std.specs.Prelude.{if◌then◌else◌, []}
use Rattle.its_reader.specs.FaultTests.{piece_faults}
use Rattle.expr_reader.specs.Views.{piece_of as inner_plain}
use Rattle.its_reader.proofs.draft.RuleDraft.first_fault_of_piece.Goals as goal

pub returns-then-goes_on_with : goal.returns-then-goes_on_with
returns-then-goes_on_with c =
    c.first_fault_of_inner.ensures
    ∙ (ap (λ n. first_among programs (maybe_fault c.args.best)
    (piece_faults c.args.self.now n c.args.truth c.args.at (inner_plain c.args.piece))) c.tokens.ensures
    ∙ ap (λ v. first_among programs (maybe_fault c.args.best)
    (if v then piece_faults c.args.self.now c.args.expression.now.tokens c.args.truth c.args.at
    (inner_plain c.args.piece) else [])) (sym (sym c.goes_on_with.ensures ∙ c.if-goes_on_with.true)))

pub returns-else-goes_on_with : goal.returns-else-goes_on_with
returns-else-goes_on_with c =
    ap (λ v. first_among programs (maybe_fault c.args.best)
    (if v then piece_faults c.args.self.now c.args.expression.now.tokens c.args.truth c.args.at
    (inner_plain c.args.piece) else [])) (sym (sym c.goes_on_with.ensures ∙ c.if-goes_on_with.false))
