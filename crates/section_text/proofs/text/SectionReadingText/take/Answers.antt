use Rattle.std.proofs.Common.{◌||◌, Option, ap, ◌∙◌}
use Rattle.std.specs.Prelude.{is_some}
use Rattle.its_model.specs.Views.{program_of}
use Rattle.section_text.specs.declared.kind.SectionKind.{SectionKind}
use Rattle.section_text.specs.Faults.{shown_at}
use Rattle.section_text.specs.Views.{draft_of}
use Rattle.section_text.proofs.Judging.{progressed, shown_behind}
use Rattle.section_text.proofs.text.SectionReadingText.take.Goals as goal

pub returns-clause-known : goal.returns-clause-known
returns-clause-known c = λ es k.
    progressed (program_of c.args.self.now.program.now) c.args.self.now.text.now es c.args.token.piece
    (draft_of c.args.self.now.draft) (draft_of c.take.new.self) c.args.self.now.broken c.breaks-self.result k c.in_ok-take.ensures
    (c.breaks-self.ensures
    ∙ ap (λ (o : Option SectionKind). c.args.self.now.broken || is_some o) c.fault_of_piece-kind.ensures)

pub returns-clause-shown : goal.returns-clause-shown
returns-clause-shown c = λ es k.
    c.shown_fault-shown.ensures
    ∙ ap (λ (o : Option SectionKind). shown_at c.args.self.now.broken o c.args.token.at) c.fault_of_piece-kind.ensures
    ∙ shown_behind (program_of c.args.self.now.program.now) c.args.self.now.text.now es (draft_of c.args.self.now.draft)
    c.args.self.now.broken c.args.token.piece c.args.token.at k
