use Rattle.std.proofs.Common.{sym, ap, ◌∙◌}
use Rattle.text_core.specs.Reading.{first_among}
use Rattle.its_text.specs.Grammar.{programs}
use Rattle.its_reader.specs.Faults.{maybe_fault}
use Rattle.its_reader.specs.FaultTests.{mark_faults, guard_faults, tail_faults}
use Rattle.its_reader.specs.Views.{maybe_of}
use Rattle.its_reader.proofs.draft.Draft.first_fault_in_tail.Goals as goal

pub returns-in-GuardMarked : goal.returns-in-GuardMarked
returns-in-GuardMarked c = c.first_fault_behind_mark.ensures
    ∙ (ap (λ v. first_among programs (maybe_fault c.args.best)
    (mark_faults v c.args.self.now c.args.lookahead.at (maybe_of c.args.lookahead.next)
    (maybe_of c.args.lookahead.behind))) c.begins_source-begins.ensures
    ∙ ap (λ p. first_among programs (maybe_fault c.args.best)
    (tail_faults p c.args.self.now c.args.lookahead.at (maybe_of c.args.lookahead.next)
    (maybe_of c.args.lookahead.behind))) (sym c.in-GuardMarked.is))

pub returns-in-Guarding : goal.returns-in-Guarding
returns-in-Guarding c = c.first_fault_in_guard.ensures
    ∙ (ap (λ v. first_among programs (maybe_fault c.args.best)
    (guard_faults v c.in-Guarding.opening c.args.self.now c.args.lookahead.at (maybe_of c.args.lookahead.next)
    (maybe_of c.args.lookahead.behind))) c.has_read_atom-read.ensures
    ∙ ap (λ p. first_among programs (maybe_fault c.args.best)
    (tail_faults p c.args.self.now c.args.lookahead.at (maybe_of c.args.lookahead.next)
    (maybe_of c.args.lookahead.behind))) (sym c.in-Guarding.is))
