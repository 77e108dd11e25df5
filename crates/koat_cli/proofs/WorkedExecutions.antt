-- The answers on a while program, and what statuses mean then.
use Rattle.std.proofs.Common.{◌≡◌, ℕ, List, [], ◌∷◌, ◌++◌, get_or, Some, refl, ◌∙◌, ap, inl, inr, arith}
use Rattle.std.proofs.Common.{codes}
use Rattle.std.specs.Prelude.{◌⊎◌, ⊤}
use Rattle.its_writer.specs.Texts.{canonical_text}
use Rattle.its_writer.proofs.SpellingLaws.{canonical_back}
use Rattle.command_line.specs.Requests.{OfFile, While}
use Rattle.command_line.specs.declared.task.FileTask.TheVariants.{Translate}
use Rattle.command_line.proofs.WorkedLines.{command_lines}
use Rattle.while_answer.specs.Executed.{translation_of}
use Rattle.while_answer.specs.Texts.{point_lines}
use Rattle.while_answer.specs.Worked.{StepsAreWorkedOut}
use Rattle.while_answer.specs.while_text.Reading.{Source}
use Rattle.call_plans.specs.declared.status.Status.TheVariants.{Done, Unknown}
use Rattle.call_plans.specs.Calls.{ShelfUse}
use Rattle.call_plans.specs.Gives.{Gives}
use Rattle.call_plans.specs.Meanings.{Wrote}
use Rattle.call_plans.specs.OnFiles.{WithMeaning}
use Rattle.koat_cli.specs.Answers.{ToRequest}
use Rattle.koat_cli.specs.RequestPlans.{plan_of}
use Rattle.koat_cli.specs.WhileTexts.{while_programs}
use Rattle.koat_cli.specs.WorkedAnswers.{Answered}
use Rattle.koat_cli.specs.WorkedMeanings.{appended, Meaning}
use Rattle.koat_cli.specs.WorkedExecutions.{while_words, translate_words, WhileAnswersAreWorkedOut, WhileStatusesMean}
use Rattle.koat_cli.proofs.WorkedMeanings.{first_is, first_letter, report_first}

-- the answers if the file has a program
translated : (seen : ShelfUse) (source : Source) → Gives while_programs seen (codes "p") ⊤ source
    → seen.fetches_after ≡ Some 1
    → Answered translate_words (Some 0) seen Done (canonical_text (translation_of source))
translated seen source gives fetched =
    ToRequest (OfFile Translate (codes "p")) command_lines.translation
    (WithMeaning source gives
    (fetched, inl (refl, record { result_is = refl; spelled = canonical_back (translation_of source) })))

pub while_answers_worked : WhileAnswersAreWorkedOut
while_answers_worked = record { translated = translated }

-- the first letter of a text of positions followed by a report
points_first : (positions lines : List ℕ)
    → (get_or (point_lines 0 positions ++ lines) 0 0 ≡ get_or lines 0 0)
    ⊎ (get_or (point_lines 0 positions ++ lines) 0 0 ≡ 112)
points_first [] lines = inl refl
points_first (at ∷ positions) lines = inr refl

-- with `Done` the first letter is that of a position, or of a report that lacks no bound
first_of_done : {a b c : ℕ} → a ≡ b → c ≡ 98 → (b ≡ c) ⊎ (b ≡ 112) → (a ≡ 98) ⊎ (a ≡ 112)
first_of_done e f (inl g) = inl (e ∙ (g ∙ f))
first_of_done e f (inr g) = inr (e ∙ g)

done_first : (seen : ShelfUse) (bytes : List ℕ) → Meaning while_words 0 seen Done bytes
    → (get_or bytes 0 0 ≡ 98) ⊎ (get_or bytes 0 0 ≡ 112)
done_first seen bytes h = go (h.answered (While 10000 (codes "p")) command_lines.while_program refl)
  where
    go : Wrote seen (appended bytes) (plan_of (While 10000 (codes "p"))) Done
        → (get_or bytes 0 0 ≡ 98) ⊎ (get_or bytes 0 0 ≡ 112)
    go (source, (gives, (x, (inl told, e)))) =
        let lines = told.1.holds.report_text in
        let whole : get_or bytes 0 0 ≡ get_or (point_lines 0 source.at ++ lines) 0 0 =
        first_is bytes x e ∙ ap (λ (w : List ℕ). get_or w 0 0) told.1.holds.result_is in
        let letter : get_or lines 0 0 ≡ 98 =
        ap (λ (w : List ℕ). get_or w 0 0) told.1.holds.stated.stated.text_of
        ∙ (report_first (translation_of source) told.1.report ∙ ap first_letter told.1.bounded) in
        first_of_done whole letter (points_first source.at lines)
    go (source, (gives, (x, (inr (inl told), e)))) =
        absurd (let e : Done ≡ Unknown = told.0 in let never : ⊥ = cc in never)
    go (source, (gives, (x, (inr (inr never), e)))) = absurd never

-- the empty text, and another headline, don't begin with this letter
done_unwritten : (seen : ShelfUse) → ¬ (Meaning while_words 0 seen Done [])
done_unwritten seen h = go (done_first seen [] h)
  where
    go : (◌≡◌ {A = ℕ} 0 98) ⊎ (◌≡◌ {A = ℕ} 0 112) → ⊥
    go (inl e) = omega (arith, e)
    go (inr e) = omega (arith, e)

done_as_unknown : (seen : ShelfUse) (bytes : List ℕ) → ¬ (Meaning while_words 0 seen Done (codes "unknown\n" ++ bytes))
done_as_unknown seen bytes h = go (done_first seen (codes "unknown\n" ++ bytes) h)
  where
    go : (◌≡◌ {A = ℕ} 117 98) ⊎ (◌≡◌ {A = ℕ} 117 112) → ⊥
    go (inl e) = omega (arith, e)
    go (inr e) = omega (arith, e)

-- the text of a translation begins with a bracket
translated_unwritten : (seen : ShelfUse) → ¬ (Meaning translate_words 0 seen Done [])
translated_unwritten seen h = go (h.answered (OfFile Translate (codes "p")) command_lines.translation refl)
  where
    go : Wrote seen (appended []) (plan_of (OfFile Translate (codes "p"))) Done → ⊥
    go (source, (gives, (x, (inl told, e)))) =
        let bracket : ◌≡◌ {A = ℕ} 0 40 = first_is [] x e ∙ ap (λ (w : List ℕ). get_or w 0 0) told.1.result_is in
        omega (arith, bracket)
    go (source, (gives, (x, (inr never, e)))) = never

pub while_statuses_mean : StepsAreWorkedOut → WhileStatusesMean
while_statuses_mean steps = record {
  done_unwritten = done_unwritten;
  done_as_unknown = done_as_unknown;
  steps_less = λ call put pivots file wrote. steps.three_steps (wrote.stated.bounded _ wrote.is_total);
  translated_unwritten = translated_unwritten;
}
