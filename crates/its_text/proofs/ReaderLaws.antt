-- The reader of program texts obeys the laws of readers, so a text has one answer, and spells at most one program.
use Rattle.std.specs.Prelude.{◌≡◌, ℕ, List}
use Rattle.std.proofs.Common.{sym, ◌∙◌, ap}
use Rattle.expr_text.specs.model.Programs.{Program}
use Rattle.expr_text.specs.text_core.Tokens.{pieces}
use Rattle.expr_text.specs.text_core.Laws.{Laws, AnswersAll, OneFirst}
use Rattle.expr_text.proofs.text_core.FirstFaults.{answers_all, one_tree_each, one_first_each}
use Rattle.its_text.specs.Lexing.{tokens_of}
use Rattle.its_text.specs.Numbering.{program_numbered}
use Rattle.its_text.specs.Grammar.{programs}
use Rattle.its_text.specs.Spelling.{Spells, OneProgram}
use Rattle.its_text.proofs.KindLaws.{kinds_differ}
use Rattle.its_text.proofs.Ends.{ends}
use Rattle.its_text.proofs.Completing.{goes_on}
use Rattle.its_text.proofs.Reading.{reads, some_is}

-- The reader obeys the laws of readers.
pub programs_laws : Laws programs
programs_laws = record { goes_on = goes_on; ends = ends; reads = reads; differ = kinds_differ }

-- A text has exactly one answer.
pub answers_all_texts : AnswersAll programs
answers_all_texts = answers_all programs programs_laws

-- A text has at most one first fault.
pub one_first_fault : OneFirst programs
one_first_fault = one_first_each programs programs_laws

one_each : (bytes : List ℕ) (p q : Program) → Spells bytes p → Spells bytes q → p ≡ q
one_each bytes p q s t =
    some_is (sym s.numbered ∙ (ap program_numbered ((one_tree_each programs programs_laws).each s.written t.written (pieces (tokens_of bytes)) s.text t.text) ∙ t.numbered))

-- A text spells at most one program.
pub one_program : OneProgram
one_program = record { each = one_each }
