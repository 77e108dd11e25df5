use Rattle.std.proofs.Common.{◌≡◌, refl, sym, ap, subst, ◌∙◌}
use Rattle.text_core.specs.Reading.{first_among}
use Rattle.its_text.specs.Grammar.{programs}
use Rattle.its_reader.specs.Faults.{maybe_fault}
use Rattle.its_reader.specs.FaultTests.{wanted_faults, left_argument_name_faults}
use Rattle.its_reader.specs.Views.{maybe_of}
use Rattle.its_reader.proofs.draft.RuleDraft.first_fault_of_wanted.Goals as goal

pub returns-then-wanted : goal.returns-then-wanted
returns-then-wanted c = subst
    (λ v. maybe_fault c.first_fault_of_argument.result ≡ first_among programs (maybe_fault c.args.best)
    (wanted_faults v c.args.self.now c.args.lookahead.at (maybe_of c.args.lookahead.next)
    (maybe_of c.args.lookahead.behind))) (sym c.if-wanted.true)
    (c.first_fault_of_argument.ensures ∙ ap
    (λ o. first_among programs (maybe_fault c.args.best)
    (left_argument_name_faults c.args.self.now c.args.lookahead.at o (maybe_of c.args.lookahead.behind)))
    c.word_of.ensures)

pub returns-else-wanted : goal.returns-else-wanted
returns-else-wanted c = subst
    (λ v. maybe_fault c.args.best ≡ first_among programs (maybe_fault c.args.best)
    (wanted_faults v c.args.self.now c.args.lookahead.at (maybe_of c.args.lookahead.next)
    (maybe_of c.args.lookahead.behind))) (sym c.if-wanted.false) refl
