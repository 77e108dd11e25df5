-- If some text spells a program, its canonical text does.
use Rattle.its_text.specs.expr_text.model.Programs.{Program}
use Rattle.its_text.proofs.SpelledVerdicts.{verdicts_are_spelled}
use Rattle.its_writer.specs.Texts.{canonical_text}
use Rattle.its_writer.specs.Answers.{SpellsBack, SpelledPrograms}
use Rattle.its_writer.proofs.ProgramsBack.{spellable_spells}
use Rattle.its_writer.proofs.ProgramsOrdered.{spelled_spellable}

pub spelled_programs : SpelledPrograms
spelled_programs = record { spelled = spelled_spellable; spells = spellable_spells }

-- if some text spells the program, the canonical text spells it, and is read back as the program
pub canonical_back : (p : Program) → SpellsBack (canonical_text p) p
canonical_back p = record {
  spells = λ bytes s. spellable_spells p (spelled_spellable bytes p s);
  read_back = λ s. (verdicts_are_spelled.stands (canonical_text p) p).1 s;
}
