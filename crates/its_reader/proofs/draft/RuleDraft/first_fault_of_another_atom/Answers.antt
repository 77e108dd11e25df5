use Rattle.std.proofs.Common.{ap, ◌∙◌}
use Rattle.text_core.specs.Reading.{first_among}
use Rattle.its_text.specs.Grammar.{programs}
use Rattle.its_reader.specs.Faults.{maybe_fault}
use Rattle.its_text.specs.Kinds.{Limit, TooManyAtoms}
use Rattle.its_text.specs.StateFaults.{fault_if}
use Rattle.its_reader.proofs.FaultTestLaws.{one_more}
use Rattle.its_reader.specs.Views.{maybe_of}
use Rattle.its_reader.specs.FaultTests.{atoms_full, atom_faults}
use Rattle.its_reader.proofs.draft.RuleDraft.first_fault_of_another_atom.Goals as goal

pub returns : goal.returns
returns c = one_more (maybe_fault c.args.best) _ _
    (fault_if (atoms_full c.args.self.now (maybe_of c.args.lookahead.next)) (Limit TooManyAtoms) c.args.lookahead.at)
    (atom_faults c.args.self.now c.args.lookahead.at (maybe_of c.args.lookahead.next)
    (maybe_of c.args.lookahead.behind))
    (c.first_where-first.ensures ∙ ap
    (λ v. first_among programs (maybe_fault c.args.best) (fault_if v (Limit TooManyAtoms) c.args.lookahead.at))
    c.exceeds_atom_limit-full.ensures)
    c.first_fault_of_atom.ensures
