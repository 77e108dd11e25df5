-- `generate`: the generated program of a number.
use Rattle.std.specs.Prelude.{◌≡◌, ℕ, List, ⊤}
use Rattle.its_reader.specs.its_text.Spelling.{SpellsWithin}
use Rattle.its_writer.specs.Generated.{generated}
use Rattle.its_writer.specs.Texts.{canonical_text}
use Rattle.call_plans.specs.declared.status.Status.TheVariants.{Done}
use Rattle.call_plans.specs.Plans.{Cases, End, Case}

-- the text is the canonical one of the generated program of the number, which it spells within the limits
pub record StatesGenerated (n : ℕ) (text : List ℕ) : Type 0 where
  pub result_is : text ≡ canonical_text (generated n)
  pub spelled : SpellsWithin text (generated n)

-- the table of `generate`: always `Done`, with the program
abbrev pub generate_answers : ℕ → Cases
generate_answers n = Case Done ⊤ (StatesGenerated n) End
