-- The answers to some words, the figures of a report, and the texts of answers on a lasso.
use Rattle.std.proofs.Common.{◌≡◌, ◌≢◌, ℕ, List, [], ◌∷◌, get_or, Option, None, refl, ap, arith, codes, inl, inr}
use Rattle.std.specs.Fmt.{digits}
use Rattle.its_writer.specs.Generated.{generated}
use Rattle.its_writer.specs.Texts.{canonical_text}
use Rattle.its_writer.proofs.GeneratedWithin.{generated_spelled}
use Rattle.command_line.specs.Lines.{Words, Positional}
use Rattle.command_line.specs.Numerals.{IsNumber}
use Rattle.command_line.specs.Requests.{OfNumber, HasRequest}
use Rattle.command_line.specs.declared.task.NumberTask.TheVariants.{Generate}
use Rattle.command_line.proofs.Firsts.{gives_of}
use Rattle.call_plans.specs.declared.status.Status.{Status}
use Rattle.call_plans.specs.declared.status.Status.TheVariants.{Done}
use Rattle.call_plans.specs.Calls.{ShelfUse}
use Rattle.koat_cli.specs.Calls.{Call}
use Rattle.koat_cli.specs.Answers.{IsAnswerToRequest, ToRequest}
use Rattle.koat_cli.specs.Report.{usage_text}
use Rattle.koat_cli.proofs.OneRequest.{answer_of}
use Rattle.koat_cli.specs.WorkedAnswers.{Answered, FiguresAreWorkedOut, LassoTextsAreWorkedOut, AnswersAreWorkedOut}

pub figures_worked : FiguresAreWorkedOut
unfolding digits
figures_worked = record { figures = refl }

pub lasso_texts_worked : LassoTextsAreWorkedOut
unfolding digits
lasso_texts_worked = record {
  turn = refl;
  great_cost = refl;
  moving = refl;
  no_place = refl;
  bad = refl;
  other_value = refl;
  other_symbol = refl;
  leaves = refl;
  passes = refl;
  atom = refl;
  place = refl;
  changes = refl;
}

-- the word `0` is the number 0
no_loop : IsNumber 100 (codes "0") 0
no_loop = record { some = λ e. cc; digits = refl; plain = refl; value = refl; in_range = omega arith }

pub generate_asked : HasRequest (codes "generate" ∷ codes "0" ∷ []) (OfNumber Generate 0)
generate_asked = record {
  others = codes "0" ∷ [];
  values = [];
  positionals = codes "0" ∷ [];
  command = refl;
  gives = gives_of (Positional (codes "0") ∷ []) None (refl, tt);
  parts = record { no_option = refl; word = codes "0"; one = refl; number = no_loop };
}

-- the call with these words
abbrev call_with : Words → Option ℕ → ShelfUse → Call
call_with words before seen = record { words = words; fetches_before = before; shelf = seen }

-- the words `generate 0`
abbrev generate_words : Words
generate_words = codes "generate" ∷ codes "0" ∷ []

generate : (seen : ShelfUse) → Answered generate_words seen.fetches_after seen Done (canonical_text (generated 0))
generate seen =
    ToRequest (OfNumber Generate 0) generate_asked
    (refl, inl (refl, record { result_is = refl; spelled = generated_spelled 0 (omega arith) }))

generate_fetched : (before : Option ℕ) (seen : ShelfUse) (s : Status) (x : List ℕ) → seen.fetches_after ≢ before
    → ¬ (Answered generate_words before seen s x)
generate_fetched before seen s x other reply =
    other (answer_of (call_with generate_words before seen) (OfNumber Generate 0) s x generate_asked reply).0

-- the text of the answer begins with a bracket, so it isn't the usage text
no_usage_text : (s : Status) (before : Option ℕ) (seen : ShelfUse)
    → ¬ (IsAnswerToRequest (call_with generate_words before seen) (OfNumber Generate 0) s usage_text)
no_usage_text s before seen (fetches, inl told) =
    let bracket : 117 ≡ 40 = ap (λ (w : List ℕ). get_or w 0 0) told.1.result_is in omega (arith, bracket)
no_usage_text s before seen (fetches, inr never) = never

generate_its_text : (before : Option ℕ) (seen : ShelfUse) (s : Status) → ¬ (Answered generate_words before seen s usage_text)
generate_its_text before seen s reply =
    no_usage_text s before seen
    (answer_of (call_with generate_words before seen) (OfNumber Generate 0) s usage_text generate_asked reply)

pub answers_worked : AnswersAreWorkedOut
answers_worked = record {
  generate = generate;
  generate_fetched = generate_fetched;
  generate_its_text = generate_its_text;
}
