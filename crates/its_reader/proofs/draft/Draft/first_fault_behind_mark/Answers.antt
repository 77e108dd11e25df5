use Rattle.std.proofs.Common.{◌≡◌, sym, subst}
use Rattle.text_core.specs.Reading.{first_among}
use Rattle.its_text.specs.Grammar.{programs}
use Rattle.its_reader.specs.Faults.{maybe_fault}
use Rattle.its_reader.specs.FaultTests.{mark_faults}
use Rattle.its_reader.specs.Views.{maybe_of}
use Rattle.its_reader.proofs.draft.Draft.first_fault_behind_mark.Goals as goal

pub returns-then-begins : goal.returns-then-begins
returns-then-begins c = subst
    (λ v. maybe_fault c.first_fault_of_named_rule.result ≡ first_among programs (maybe_fault c.args.best)
    (mark_faults v c.args.self.now c.args.lookahead.at (maybe_of c.args.lookahead.next)
    (maybe_of c.args.lookahead.behind))) (sym c.if-begins.true) c.first_fault_of_named_rule.ensures

pub returns-else-begins : goal.returns-else-begins
returns-else-begins c = subst
    (λ v. maybe_fault c.first_fault_of_atom.result ≡ first_among programs (maybe_fault c.args.best)
    (mark_faults v c.args.self.now c.args.lookahead.at (maybe_of c.args.lookahead.next)
    (maybe_of c.args.lookahead.behind))) (sym c.if-begins.false) c.first_fault_of_atom.ensures
