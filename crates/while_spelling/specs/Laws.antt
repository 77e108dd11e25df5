-- The translation of each while program that is read is spelled by its canonical text.
use Rattle.std.specs.Prelude.{ℕ, List, [], ◌∷◌, negsuc}
use Rattle.its_text.specs.Spelling.{Spells}
use Rattle.its_writer.specs.Spellable.{IsSpellable}
use Rattle.its_writer.specs.Texts.{canonical_text}
use Rattle.while_model.specs.model.Terms.{Literal}
use Rattle.while_model.specs.model.Programs.{Name}
use Rattle.while_model.specs.Statements.{Assign, Statements, Nothing, Simple}
use Rattle.while_model.specs.Translation.{program_of}
use Rattle.while_tree.specs.Readable.{IsReadable}
use Rattle.while_text.specs.Reading.{Source}
use Rattle.while_laws.specs.ProgramLaws.{IsTextOf}
use Rattle.while_answer.specs.Spelled.{IsTextWithin}
use Rattle.while_answer.specs.Executed.{translation_of}
use Rattle.while_spelling.specs.Natural.{AreNatural}

-- A program within the limits of which no literal is below 0 has a translation that can be spelled; each program that
-- is read has no literal below 0; so the canonical text of its translation spells the translation. A translation with a
-- literal below 0 can't be spelled.
pub record TranslationsAreSpelled : Type 0 where
  pub spellable : (inputs : List Name) (program : Statements) → IsReadable inputs program → AreNatural program
      → IsSpellable (program_of inputs program)
  pub natural : (text : List ℕ) (source : Source) → IsTextOf text source → AreNatural source.program
  pub spelled : (text : List ℕ) (source : Source) → IsTextWithin text source
      → Spells (canonical_text (translation_of source)) (translation_of source)
  pub below : ¬ (IsSpellable (program_of ((65 ∷ []) ∷ []) (Simple (Assign 0 (Literal (negsuc 0))) Nothing)))
