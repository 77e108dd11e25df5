-- Worked values of the answers on a while program, and of what statuses mean then.
use Rattle.std.specs.Prelude.{◌≡◌, ℕ, List, [], ◌∷◌, ◌++◌, Some, codes, ⊤}
use Rattle.model.specs.Bounds.{Constant}
use Rattle.its_writer.specs.Texts.{canonical_text}
use Rattle.command_line.specs.Lines.{Word, Words}
use Rattle.while_answer.specs.Executed.{translation_of}
use Rattle.while_answer.specs.Worked.{counting_down}
use Rattle.while_answer.specs.while_text.Reading.{Source}
use Rattle.call_plans.specs.declared.status.Status.TheVariants.{Done}
use Rattle.call_plans.specs.Calls.{ShelfUse, SinkUse}
use Rattle.call_plans.specs.Gives.{Gives}
use Rattle.koat_cli.specs.Calls.{Call}
use Rattle.koat_cli.specs.WhileTexts.{while_programs}
use Rattle.koat_cli.specs.WroteTotal.{WroteTotal}
use Rattle.koat_cli.specs.WorkedAnswers.{Answered}
use Rattle.koat_cli.specs.WorkedMeanings.{Meaning}

-- the words of `while p`, and of `translate p`
abbrev pub while_words : Words
while_words = codes "while" ∷ codes "p" ∷ []

abbrev pub translate_words : Words
translate_words = codes "translate" ∷ codes "p" ∷ []

-- if `p` gives a program, the answer to `translate p` is the program's translation
pub record WhileAnswersAreWorkedOut : Type 0 where
  pub translated : (seen : ShelfUse) (source : Source) → Gives while_programs seen (codes "p") ⊤ source
      → seen.fetches_after ≡ Some 1
      → Answered translate_words (Some 0) seen Done (canonical_text (translation_of source))

-- `while p` doesn't end with `Done` if nothing was written, nor if a report without a bound was; no report on the
-- counting loop was written with a total of 2. `translate p` doesn't end with `Done` if nothing was written.
pub record WhileStatusesMean : Type 0 where
  pub done_unwritten : (seen : ShelfUse) → ¬ (Meaning while_words 0 seen Done [])
  pub done_as_unknown : (seen : ShelfUse) (bytes : List ℕ) → ¬ (Meaning while_words 0 seen Done (codes "unknown\n" ++ bytes))
  pub steps_less : (call : Call) (put : SinkUse) (pivots : ℕ) (file : Word)
      → ¬ (WroteTotal call put pivots file counting_down (Constant 2))
  pub translated_unwritten : (seen : ShelfUse) → ¬ (Meaning translate_words 0 seen Done [])
