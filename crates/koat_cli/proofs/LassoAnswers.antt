-- Texts of lasso files are decided, and there is one answer on a lasso file.
use Rattle.std.proofs.Common.{◌≡◌, ℕ, List, None, IfSome, true, false, refl, sym, ◌∙◌, ap, subst, inl, inr}
use Rattle.model.specs.Programs.{Program}
use Rattle.run_replay.specs.ReplayLaws.{ReplaysAreDecided}
use Rattle.lasso_forms.specs.declared.error.TurnError.{TurnError}
use Rattle.lasso_forms.specs.Files.{LassoFile}
use Rattle.lasso_forms.specs.Laws.{EndlessTurnsHaveNoTime}
use Rattle.lasso_forms.specs.Texts.{IsFirstFault}
use Rattle.lasso_forms.specs.Turns.{EndlessTurn, IsEndlessTurn, HasObstacle}
use Rattle.lasso_forms.specs.Views.{obstacle_in}
use Rattle.lasso_forms.proofs.FileTexts.{files_decided}
use Rattle.lasso_forms.proofs.OneTurn.{turns_decided}
use Rattle.call_plans.specs.declared.status.Status.TheVariants.{Done, NotARun}
use Rattle.call_plans.specs.Lawful.{IsDecided, AreRows}
use Rattle.call_plans.specs.Plans.{HasRow}
use Rattle.call_plans.proofs.Rows.{row_of}
use Rattle.koat_cli.specs.LassoTexts.{lassos, turn_text, obstacle_text}
use Rattle.koat_cli.specs.RunTexts.{run_refusal_text}
use Rattle.koat_cli.specs.Commands.Lasso.{StatesTurn, lasso_answers}
use Rattle.koat_cli.proofs.Statements.{stated-unique, found_stated}

-- texts of lasso files are decided
pub lasso_texts_decided : (p : Program) → IsDecided (lassos p)
lasso_texts_decided p = record {
  one = files_decided.one p;
  one_refusal = λ bytes.
      stated-unique (IsFirstFault p bytes) run_refusal_text (files_decided.one_fault p bytes);
  apart = λ bytes f text stands refused. files_decided.apart p bytes f refused.subject stands refused.is;
}

-- the rows of the answers on a lasso file
module _ (law : ReplaysAreDecided) (p : Program) (f : LassoFile) where
  turn_text_unique : (x y : List ℕ) → StatesTurn p f x → StatesTurn p f y → x ≡ y
  turn_text_unique x y a b =
      let same = (turns_decided law).one p f a.turn b.turn a.is_turn b.is_turn in
      a.result_is ∙ (ap (λ (t : EndlessTurn). turn_text t) same ∙ sym b.result_is)

  pub lasso_rows : AreRows (lasso_answers p f)
  lasso_rows = (
    row_of turn_text_unique (λ x a. (turns_decided law).repeats p f a.turn a.is_turn)
        (λ can way. (turns_decided law).apart p f way.0 can way.1, tt),
    (
      row_of (stated-unique (HasObstacle p f) obstacle_text ((turns_decided law).one_obstacle p f))
          (λ x a. (a.subject, a.is)) tt,
      tt,
    ),
  )

-- the answer on a turn that can be repeated is its text
pub turn_answered : EndlessTurnsHaveNoTime → (p : Program) (f : LassoFile) (t : EndlessTurn) (text : List ℕ)
    → IsEndlessTurn p f t → text ≡ turn_text t → HasRow (lasso_answers p f) Done text
turn_answered law p f t text is result_is =
    inl (
      refl,
      record {
        turn = t;
        is_turn = is;
        endless = law.endless p f t is;
        no_time = law.no_time p f t is;
        moves_on = λ moving same. law.moves_on p f moving (subst (IsEndlessTurn p f) same is);
        no_total = λ back same. law.no_total p f back (subst (IsEndlessTurn p f) same is);
        result_is = result_is;
      },
    )

-- the answer on an obstacle is its text
pub obstacle_answered : (p : Program) (f : LassoFile) (e : TurnError) (text : List ℕ)
    → IfSome (obstacle_in e) (HasObstacle p f) → IfSome (obstacle_in e) (λ o. text ≡ obstacle_text o)
    → (obstacle_in e ≡ None → false ≡ true) → HasRow (lasso_answers p f) NotARun text
obstacle_answered p f e text right result_is given =
    inr (inl (refl, found_stated (HasObstacle p f) obstacle_text (obstacle_in e) text right result_is given))
