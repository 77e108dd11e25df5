-- `translate`: the integer transition system of a while program.
use Rattle.std.specs.Prelude.{◌≡◌, ℕ, List, ⊤}
use Rattle.its_writer.specs.Answers.{SpellsBack}
use Rattle.its_writer.specs.Texts.{canonical_text}
use Rattle.while_answer.specs.Executed.{translation_of}
use Rattle.while_answer.specs.while_text.Reading.{Source}
use Rattle.call_plans.specs.declared.status.Status.TheVariants.{Done}
use Rattle.call_plans.specs.Plans.{Cases, End, Case}

-- the text is the canonical one of the translation, which it spells, if any text does
pub record StatesTranslation (source : Source) (text : List ℕ) : Type 0 where
  pub result_is : text ≡ canonical_text (translation_of source)
  pub spelled : SpellsBack text (translation_of source)

-- the table of `translate`: always `Done`, with the translation
abbrev pub translate_answers : Source → Cases
translate_answers source = Case Done ⊤ (StatesTranslation source) End
