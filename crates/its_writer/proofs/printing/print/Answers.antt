-- The buffer is empty before the text is written.
use Rattle.std.proofs.Common.{sym, subst}
use Rattle.its_model.specs.Views.{program_of}
use Rattle.its_writer.specs.Texts.{program_then}
use Rattle.its_writer.specs.Answers.{SpellsBack}
use Rattle.its_writer.proofs.Written.{whole_text}
use Rattle.its_writer.proofs.SpellingLaws.{canonical_back}
use Rattle.its_writer.proofs.printing.print.Goals as goal

pub returns-clause-text : goal.returns-clause-text
returns-clause-text c = whole_text c.new-text.result.items c.write_program.new.text.items (program_then (program_of c.args.p.now)) c.new-text.ensures.items c.in_ok-write_program.ensures

pub returns-clause-spelled : goal.returns-clause-spelled
returns-clause-spelled c =
    subst (λ text. SpellsBack text (program_of c.args.p.now))
    (sym (whole_text c.new-text.result.items c.write_program.new.text.items (program_then (program_of c.args.p.now)) c.new-text.ensures.items c.in_ok-write_program.ensures))
    (canonical_back (program_of c.args.p.now))
