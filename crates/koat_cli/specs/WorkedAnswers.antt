-- Worked values of the answers to some words, of the figures of a report as text, and of the texts of answers on a
-- lasso.
use Rattle.std.specs.Prelude.{◌≡◌, ◌≢◌, ℕ, ◌^◌, List, [], ◌∷◌, pos, negsuc, Option, None, codes}
use Rattle.model.specs.Programs.{Program}
use Rattle.model.specs.Bounds.{Constant}
use Rattle.its_writer.specs.Generated.{entry_rule, counting_rule, generated}
use Rattle.its_writer.specs.Texts.{canonical_text}
use Rattle.its_model.specs.Steps.{AtomFails}
use Rattle.lasso_forms.specs.moving_check.affine_turns.Turns.{AtomStops, NonlinearPlace}
use Rattle.lasso_forms.specs.moving_check.Findings.{LeavesSymbol, PassesAt, StopsAt, ChangesAt}
use Rattle.lasso_forms.specs.Turns.{Back, On, StepIsBad, TurnIsOpen, TurnStops}
use Rattle.command_line.specs.Lines.{Words}
use Rattle.outcome.specs.Reports.{Timed, Untimed, TimeLarge, Sized, Unsized, SizeLarge, SizeUntimed, Report}
use Rattle.call_plans.specs.declared.status.Status.{Status}
use Rattle.call_plans.specs.declared.status.Status.TheVariants.{Done}
use Rattle.call_plans.specs.Calls.{ShelfUse}
use Rattle.koat_cli.specs.Report.{usage_text}
use Rattle.koat_cli.specs.Figures.{text_of_figures}
use Rattle.koat_cli.specs.LassoTexts.{turn_text, obstacle_text}
use Rattle.koat_cli.specs.Answers.{IsAnswer}

-- a program of two rules
abbrev pub two_rules : Program
two_rules = record { symbols = []; start = 0; start_names = []; rules = entry_rule ∷ counting_rule 1 ∷ [] }

-- a report in which one of two rules has a time, one of three places has a size, and the total is missing
abbrev pub one_of_each : Report
one_of_each = record {
  times = Timed (Constant 1) ∷ Untimed (TimeLarge 9) ∷ [];
  costs = None ∷ None ∷ [];
  total = None;
  sizes = (Unsized (SizeUntimed 2) ∷ Sized (Constant 5) ∷ []) ∷ (Unsized (SizeLarge 9) ∷ []) ∷ [];
}

-- its figures, with four lemmas, as text
pub record FiguresAreWorkedOut : Type 0 where
  pub figures : text_of_figures two_rules one_of_each 4
      ≡ codes "rules 2\ntimes 1 of 2\nsizes 1 of 3\ntotal: unknown\nlemmas 4\n"

-- the text of a turn by two rules that leads back and costs 5, and of one by one rule that costs 2^127 or more; those
-- of turns that move on at two places and at none; those of a bad step, and of turns that lead to another value at the
-- second place, and to another symbol; and those of turns that aren't shown to move on
pub record LassoTextsAreWorkedOut : Type 0 where
  pub turn : turn_text (Back (record { rules = 1 ∷ 12 ∷ []; cost = 5 })) ≡ codes "endless\nrule 1\nrule 12\nturn cost 5\n"
  pub great_cost : turn_text (Back (record { rules = 3 ∷ []; cost = 2 ^ 127 }))
      ≡ codes "endless\nrule 3\nturn cost 2^127 or more\n"
  pub moving : turn_text (On (record { differences = pos 10 ∷ negsuc 1 ∷ []; rules = 2 ∷ []; cost = 3 }))
      ≡ codes "endless\nmoves (10, -2)\nrule 2\nturn cost 3\n"
  pub no_place : turn_text (On (record { differences = []; rules = 1 ∷ []; cost = 0 }))
      ≡ codes "endless\nmoves ()\nrule 1\nturn cost 0\n"
  pub bad : obstacle_text (StepIsBad (record { number = 2; fault = AtomFails 1 })) ≡ codes "not a run at step 2: atom 1\n"
  pub other_value : obstacle_text (TurnIsOpen 2) ≡ codes "not a run: open at place 2\n"
  pub other_symbol : obstacle_text (TurnIsOpen 0) ≡ codes "not a run: open at place 0\n"
  pub leaves : obstacle_text (TurnStops LeavesSymbol) ≡ codes "not seen to move on: other symbol\n"
  pub passes : obstacle_text (TurnStops (PassesAt 1))
      ≡ codes "not seen to move on: difference at place 1 passes 128 bits\n"
  pub atom : obstacle_text (TurnStops (StopsAt (record { number = 12; stop = AtomStops 3 })))
      ≡ codes "not seen to move on at step 12: atom 3\n"
  pub place : obstacle_text (TurnStops (StopsAt (record { number = 3; stop = NonlinearPlace 12 })))
      ≡ codes "not seen to move on at step 3: place 12\n"
  pub changes : obstacle_text (TurnStops (ChangesAt 2))
      ≡ codes "not seen to move on: difference at place 2 changes\n"

-- the answer of a call with these words, with this count of fetches before, which saw this of the shelf, is this status
-- and this text
abbrev pub Answered : Words → Option ℕ → ShelfUse → Status → List ℕ → Type 0
Answered words before seen status text =
    IsAnswer (record { words = words; fetches_before = before; shelf = seen }) status text

-- whatever a call sees of the shelf: the answer to `generate 0` is `Done` with the program's text, if nothing was
-- fetched, not the usage text, and not if something was fetched
pub record AnswersAreWorkedOut : Type 0 where
  pub generate : (seen : ShelfUse)
      → Answered (codes "generate" ∷ codes "0" ∷ []) seen.fetches_after seen Done (canonical_text (generated 0))
  pub generate_fetched : (before : Option ℕ) (seen : ShelfUse) (status : Status) (text : List ℕ)
      → seen.fetches_after ≢ before → ¬ (Answered (codes "generate" ∷ codes "0" ∷ []) before seen status text)
  pub generate_its_text : (before : Option ℕ) (seen : ShelfUse) (status : Status)
      → ¬ (Answered (codes "generate" ∷ codes "0" ∷ []) before seen status usage_text)
