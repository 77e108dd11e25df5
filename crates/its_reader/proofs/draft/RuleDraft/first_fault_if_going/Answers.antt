use Rattle.std.proofs.Common.{◌≡◌, refl, sym, subst}
use Rattle.text_core.specs.Reading.{first_among}
use Rattle.its_text.specs.Grammar.{programs}
use Rattle.its_reader.specs.Faults.{maybe_fault}
use Rattle.its_reader.specs.FaultTests.{going_if}
use Rattle.its_reader.specs.Views.{maybe_of}
use Rattle.its_reader.proofs.draft.RuleDraft.first_fault_if_going.Goals as goal

pub returns-then-going : goal.returns-then-going
returns-then-going c = subst
    (λ v. maybe_fault c.first_fault_going_on.result ≡ first_among programs (maybe_fault c.args.best)
    (going_if v c.args.self.now c.args.lookahead.at (maybe_of c.args.lookahead.next))) (sym c.if-going.true)
    c.first_fault_going_on.ensures

pub returns-else-going : goal.returns-else-going
returns-else-going c = subst
    (λ v. maybe_fault c.args.best ≡ first_among programs (maybe_fault c.args.best)
    (going_if v c.args.self.now c.args.lookahead.at (maybe_of c.args.lookahead.next))) (sym c.if-going.false) refl
