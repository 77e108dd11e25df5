-- A report whose bounds hold on all runs has no time for some rule of a lasso's turn, and none for any rule of a turn
-- that `lasso` wrote.
use Rattle.std.proofs.Common.{◌≡◌, ◌≢◌, Bool, true, false, ℕ, zero, suc, ◌-◌, ◌<◌, List, [], ◌∷◌, length}
use Rattle.std.proofs.Common.{Some, refl, subst, arith, inl, inr}
use Rattle.std.proofs.lemmas.Bool.{and_parts}
use Rattle.std.proofs.lemmas.List.Elements.{All-weaker}
use Rattle.std.specs.Prelude.{slice_get, ⊤}
use Rattle.std.specs.List.{list_all}
use Rattle.model.specs.Facts.{HoldsTime}
use Rattle.model.specs.Programs.{Program}
use Rattle.model.specs.Bounds.{Bound}
use Rattle.command_line.specs.Lines.{Word}
use Rattle.command_line.specs.Requests.{OfPair, OfProgram, HasRequest}
use Rattle.command_line.specs.declared.task.PairTask.TheVariants.{Lasso as LassoTask}
use Rattle.command_line.specs.declared.task.ProgramTask.TheVariants.{Analyse}
use Rattle.outcome.specs.Reports.{Time, Timed, Untimed, Report, is_timed, is_costed}
use Rattle.outcome.specs.Holding.{IsReportOn, ReportHolds, numbered_entry}
use Rattle.lasso_forms.specs.Files.{LassoFile}
use Rattle.lasso_forms.specs.Laws.{EndlessTurnsHaveNoTime}
use Rattle.lasso_forms.specs.Turns.{rules_in, CanRepeat}
use Rattle.call_plans.specs.declared.status.Status.TheVariants.{Done, NotARun}
use Rattle.call_plans.specs.Calls.{SinkUse}
use Rattle.call_plans.specs.Meanings.{Appended, Wrote}
use Rattle.call_plans.specs.Gives.{Gives}
use Rattle.koat_cli.specs.Calls.{Call}
use Rattle.koat_cli.specs.Ends.{Ends}
use Rattle.koat_cli.specs.ProgramTexts.{programs}
use Rattle.koat_cli.specs.LassoLaws.{WroteTurn, LassosLeaveTimesMissing}
use Rattle.koat_cli.specs.RequestPlans.{plan_of}
use Rattle.koat_cli.proofs.EndsMean.{ends_mean}

-- if every rule has a time, each entry is one
entry_timed : (times : List Time) (n : ℕ) → n < length times → list_all is_timed times ≡ true
    → (b : Bound) × (slice_get times n ≡ Some (Timed b))
entry_timed [] n low all = absurd (omega (arith, low))
entry_timed (Timed b ∷ times) zero low all = (b, refl)
entry_timed (Timed b ∷ times) (suc n) low all = entry_timed times n (omega (arith, low)) all
entry_timed (Untimed why ∷ times) n low all = let never : ⊥ = cc in absurd never

module _ (law : EndlessTurnsHaveNoTime) (p : Program) (f : LassoFile) (r : Report) where
  not_all_timed : CanRepeat p f → IsReportOn p r → ReportHolds p r → list_all is_timed r.times ≡ true → ⊥
  not_all_timed can on holds all =
      let some = law.some_rule p f can in
      let entry = entry_timed r.times (some.0 - 1) (omega (arith, some.1, some.2, on.times)) all in
      let number : suc (some.0 - 1) ≡ some.0 = omega (arith, some.1) in
      some.3 entry.0
      (holds.times some.0 entry.0 (subst (λ (t : ℕ). numbered_entry r.times t ≡ Some (Timed entry.0)) number entry.1))

  some_untimed : CanRepeat p f → IsReportOn p r → ReportHolds p r → list_all is_timed r.times ≡ false
  some_untimed can on holds = go (list_all is_timed r.times) refl
    where
      go : (v : Bool) → list_all is_timed r.times ≡ v → list_all is_timed r.times ≡ false
      go true e = absurd (not_all_timed can on holds e)
      go false e = e

-- a call that ends with `Done` doesn't end with the status of no run
done_differs : Done ≡ NotARun → ⊥
done_differs e = cc

-- the turn that was written is that of the lasso, and no report whose bounds hold on every run has a time for a rule of
-- it, or a total if it costs something
turn_written : (call : Call) (put : SinkUse) (file second : Word)
    → Wrote call.shelf put (plan_of (OfPair LassoTask file second)) Done → WroteTurn call put file second
turn_written call put file second (p, (gives, (f, (also, (x, (inl told, appended)))))) = record {
  program = p;
  given = gives;
  lasso = f;
  also_given = also;
  turn = told.1.turn;
  is_turn = told.1.is_turn;
  written = subst (λ (y : List ℕ). Appended put y) told.1.result_is appended;
  no_time = λ report holds.
      All-weaker (λ (rule : ℕ). (time : Bound) → ¬ (HoldsTime p rule time))
      (λ (rule : ℕ). (time : Bound) → numbered_entry report.times rule ≢ Some (Timed time))
      (λ rule none time entry. none time (holds.times rule time entry)) (rules_in told.1.turn) told.1.no_time;
  no_total = λ back same costs report holds total is. told.1.no_total back same costs total (holds.total total is);
}
turn_written call put file second (p, (gives, (f, (also, (x, (inr (inl told), appended)))))) =
    absurd (done_differs told.0)
turn_written call put file second (p, (gives, (f, (also, (x, (inr (inr never), appended)))))) = absurd never

-- an analysis that ended with `Done` was of a program that has no lasso
no_lasso : EndlessTurnsHaveNoTime → (call : Call) (put : SinkUse) (pivots : ℕ) (file : Word)
    → HasRequest call.words (OfProgram Analyse pivots file) → Ends Done call put
    → (p : Program) × Gives programs call.shelf file ⊤ p × ((f : LassoFile) → ¬ (CanRepeat p f))
no_lasso law call put pivots file asked ends =
    let d = (ends_mean Done call put ends).done pivots file asked refl in
    let all = and_parts (list_all is_timed d.0.times) (list_all is_costed d.0.costs) d.2 in (
      d.1.program,
      d.1.given,
      λ f can. not_all_timed law d.1.program f d.0 can d.1.stated.report d.1.found.true_on_all_runs all.0,
    )

pub times_missing : EndlessTurnsHaveNoTime → LassosLeaveTimesMissing
times_missing law = record {
  each = λ p f r can on holds. some_untimed law p f r can on holds;
  of_calls = λ call put file second asked ends.
      turn_written call put file second
      ((ends_mean Done call put ends).answered (OfPair LassoTask file second) asked refl);
  never_done = no_lasso law;
}
