use Rattle.std.proofs.Common.{◌≡◌, refl, sym, subst}
use Rattle.text_core.specs.Reading.{first_among}
use Rattle.its_text.specs.Grammar.{programs}
use Rattle.its_reader.specs.Faults.{maybe_fault}
use Rattle.expr_reader.specs.GuardParts.{piece_in}
use Rattle.its_reader.specs.FaultTests.{step_faults}
use Rattle.its_reader.proofs.draft.RuleDraft.first_fault_of_next.Goals as goal

pub returns-in-Some : goal.returns-in-Some
returns-in-Some c = subst
    (λ o. maybe_fault c.first_fault_of_piece.result ≡ first_among programs (maybe_fault c.args.best)
    (step_faults c.args.self.now c.args.expression.now c.args.truth c.args.at (piece_in o))) (sym c.in-Some.is)
    c.first_fault_of_piece.ensures

pub returns-in-None : goal.returns-in-None
returns-in-None c = subst
    (λ o. maybe_fault c.args.best ≡ first_among programs (maybe_fault c.args.best)
    (step_faults c.args.self.now c.args.expression.now c.args.truth c.args.at (piece_in o))) (sym c.in-None.is) refl
