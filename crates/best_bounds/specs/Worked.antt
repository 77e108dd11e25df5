-- Subjects of statements, and lists that keep them, worked out by hand.
use Rattle.std.specs.Prelude.{◌≡◌, ◌≢◌, [], ◌∷◌}
use Rattle.its_model.specs.model.Terms.{Variable}
use Rattle.signed_bounds.specs.Bounds.{Constant}
use Rattle.program_claims.specs.Claims.{Stated, Time, Cost, Total, Above, Below, AtSymbol}
use Rattle.best_bounds.specs.Subjects.{subject_of, KeepsSubjects, bounds_on_steps}

-- bounds on the time of rule 1, and one on all costs
abbrev pub time_5 : Stated
time_5 = Time 1 (Constant 5)

abbrev pub time_3 : Stated
time_3 = Time 1 (Constant 3)

abbrev pub total_9 : Stated
total_9 = Total (Constant 9)

-- The number of a bound doesn't count for its subject, but its kind, its rule and its place do. Of two bounds on one
-- subject either may replace both; none may be lost, or made up.
pub record SubjectsAreWorkedOut : Type 0 where
  pub same : subject_of time_5 ≡ subject_of time_3
  pub other_rule : subject_of time_5 ≢ subject_of (Time 2 (Constant 5))
  pub other_kind : subject_of time_5 ≢ subject_of (Cost 1 (Constant 5))
  pub other_side : subject_of (Above 1 2 (Constant 5)) ≢ subject_of (Below 1 2 (Constant 5))
  pub other_place : subject_of (Above 1 2 (Constant 5)) ≢ subject_of (Above 1 1 (Constant 5))
  pub lesser_kept : KeepsSubjects (time_5 ∷ time_3 ∷ []) (time_3 ∷ [])
  pub greater_kept : KeepsSubjects (time_5 ∷ time_3 ∷ []) (time_5 ∷ [])
  pub lost : ¬ KeepsSubjects (time_5 ∷ total_9 ∷ []) (total_9 ∷ [])
  pub made_up : ¬ KeepsSubjects (time_5 ∷ []) (time_3 ∷ [])
  pub counted : bounds_on_steps (time_5 ∷ Cost 1 (Constant 2) ∷ total_9 ∷ Above 1 2 (Constant 7) ∷ Below 1 2 (Constant 7)
      ∷ AtSymbol 0 (Variable 0) ∷ []) ≡ 3
