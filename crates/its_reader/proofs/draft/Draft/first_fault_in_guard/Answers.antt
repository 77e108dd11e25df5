use Rattle.std.proofs.Common.{◌≡◌, sym, subst}
use Rattle.text_core.specs.Reading.{first_among}
use Rattle.its_text.specs.Grammar.{programs}
use Rattle.its_reader.specs.Faults.{maybe_fault}
use Rattle.its_reader.specs.FaultTests.{guard_faults}
use Rattle.its_reader.specs.Views.{maybe_of}
use Rattle.its_reader.proofs.draft.Draft.first_fault_in_guard.Goals as goal

pub returns-then-read : goal.returns-then-read
returns-then-read c = subst
    (λ v. maybe_fault c.first_fault_behind_atoms.result ≡ first_among programs (maybe_fault c.args.best)
    (guard_faults v c.args.opening c.args.self.now c.args.lookahead.at (maybe_of c.args.lookahead.next)
    (maybe_of c.args.lookahead.behind))) (sym c.if-read.true) c.first_fault_behind_atoms.ensures

pub returns-else-read : goal.returns-else-read
returns-else-read c = subst
    (λ v. maybe_fault c.first_fault_of_another_atom.result
    ≡ first_among programs (maybe_fault c.args.best)
    (guard_faults v c.args.opening c.args.self.now c.args.lookahead.at (maybe_of c.args.lookahead.next)
    (maybe_of c.args.lookahead.behind))) (sym c.if-read.false) c.first_fault_of_another_atom.ensures
