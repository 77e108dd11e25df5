use Rattle.std.proofs.Common.{◌≡◌, refl, sym, subst}
use Rattle.text_core.specs.Reading.{first_among}
use Rattle.its_text.specs.Grammar.{programs}
use Rattle.its_reader.specs.Faults.{maybe_fault}
use Rattle.its_reader.specs.Views.{words_of}
use Rattle.its_reader.specs.FaultTests.{left_argument_name_faults}
use Rattle.its_reader.specs.Views.{maybe_of}
use Rattle.its_reader.proofs.draft.RuleDraft.first_fault_of_argument.Goals as goal

pub returns-in-Some : goal.returns-in-Some
returns-in-Some c = subst
    (λ o. maybe_fault c.first_fault_of_left_name.result ≡ first_among programs (maybe_fault c.args.best)
    (left_argument_name_faults c.args.self.now c.args.lookahead.at (words_of o) (maybe_of c.args.lookahead.behind)))
    (sym c.in-Some.is) c.first_fault_of_left_name.ensures

pub returns-in-None : goal.returns-in-None
returns-in-None c = subst
    (λ o. maybe_fault c.args.best ≡ first_among programs (maybe_fault c.args.best)
    (left_argument_name_faults c.args.self.now c.args.lookahead.at (words_of o) (maybe_of c.args.lookahead.behind)))
    (sym c.in-None.is) refl
