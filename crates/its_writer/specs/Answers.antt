-- The relation of a program to its canonical text.
use Rattle.std.specs.Prelude.{◌≡◌, ◌≤◌, ℕ, List, length}
use Rattle.its_text.specs.expr_text.model.Programs.{Program}
use Rattle.its_text.specs.expr_text.its_model.Valid.{IsValid}
use Rattle.its_text.specs.expr_text.text_core.Reading.{Parsed}
use Rattle.its_text.specs.Spelling.{Spells, SpellsWithin}
use Rattle.its_text.specs.Answers.{verdict}
use Rattle.its_writer.specs.Texts.{canonical_text}
use Rattle.its_writer.specs.Spellable.{IsSpellable}
use Rattle.its_writer.specs.Generated.{generated}

-- if some text spells the program, this text spells it, and is read back as the program if it is within the limits
pub record SpellsBack (text : List ℕ) (p : Program) : Type 0 where
  pub spells : (bytes : List ℕ) → Spells bytes p → Spells text p
  pub read_back : SpellsWithin text p → verdict text ≡ Parsed p

-- a program that a text spells is spellable, and the canonical text of a spellable program spells it
pub record SpelledPrograms : Type 0 where
  pub spelled : (bytes : List ℕ) (p : Program) → Spells bytes p → IsSpellable p
  pub spells : (p : Program) → IsSpellable p → Spells (canonical_text p) p

-- up to n = 100 the canonical text of the generated program spells it within the limits and has no more bytes than a
-- program file may have, so the program is valid
pub record GeneratedAreSpelled : Type 0 where
  pub within : (n : ℕ) → n ≤ 100 → SpellsWithin (canonical_text (generated n)) (generated n)
  pub short : (n : ℕ) → n ≤ 100 → length (canonical_text (generated n)) ≤ 4194304
  pub valid : (n : ℕ) → n ≤ 100 → IsValid (generated n)
