-- Both directions are proved: from a spelling to a spellable program, and back.
use Rattle.its_writer.proofs.SpellingLaws.{spelled_programs}
use Rattle.its_writer.proofs.law.spelled_programs_are_spellable.Goals as goal

pub returns : goal.returns
returns c = spelled_programs
