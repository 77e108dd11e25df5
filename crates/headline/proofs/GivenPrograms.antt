-- The program that a file gave a call is the one that its disclosed text spells.
use Rattle.std.proofs.Common.{◌≡◌, ℕ, List, Option, Some, sym, ◌∙◌, subst}
use Rattle.std.specs.FinMap.{get}
use Rattle.model.specs.Programs.{Program}
use Rattle.its_text.specs.Spelling.{Spells, SpellsWithin}
use Rattle.its_text.proofs.ReaderLaws.{one_program}
use Rattle.outside_io.specs.Files.{Files}
use Rattle.call_plans.specs.Calls.{ShelfUse}
use Rattle.call_plans.specs.Gives.{Gives}
use Rattle.call_plans.proofs.GivenFiles.{given}
use Rattle.koat_cli.specs.ProgramTexts.{programs}

-- a file has one text
pub same_text : (found : Option (List ℕ)) (x y : List ℕ) → found ≡ Some x → found ≡ Some y → x ≡ y
same_text found x y e f = let same : Some x ≡ Some y = sym e ∙ f in cc

pub program_given : (seen : ShelfUse) (files : Files) (file text : List ℕ) (p q : Program) {Last : Type 0}
    → seen.files_if_disclosed ≡ Some files → get files file ≡ Some text → Spells text p → Gives programs seen file Last q → q ≡ p
program_given seen files file text p q disclosed holds spells gives =
    let read : gives.bytes ≡ text =
    same_text (get files file) gives.bytes text (given seen.files_if_disclosed files file gives.bytes disclosed gives.held) holds in
    let within : SpellsWithin gives.bytes q = gives.stands in
    one_program.each text q p (subst (λ (bytes : List ℕ). Spells bytes q) read within.spells) spells
