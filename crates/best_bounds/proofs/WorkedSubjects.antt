-- Subjects of statements, and lists that keep them, are as they were worked out by hand.
use Rattle.std.proofs.Common.{◌≡◌, zero, suc, [], ◌∷◌, inl, inr, refl, arith}
use Rattle.std.specs.List.{Contains}
use Rattle.best_bounds.specs.Subjects.{TimeOf, AllCosts}
use Rattle.best_bounds.specs.Worked.{SubjectsAreWorkedOut, time_5, time_3}
use Rattle.best_bounds.proofs.SubjectLists.{keeps_one}

-- the only element of a list
only : {X : Type 0} (x y : X) → Contains (x ∷ []) y → x ≡ y
only x y (zero, low, is) = is
only x y (suc k, low, is) = absurd (omega (arith, low))

pub subjects_worked_out : SubjectsAreWorkedOut
subjects_worked_out = record {
  same = refl;
  other_rule = λ e. cc;
  other_kind = λ e. cc;
  other_side = λ e. cc;
  other_place = λ e. cc;
  lesser_kept = keeps_one time_5 time_3 time_3 [] refl (inr refl);
  greater_kept = keeps_one time_5 time_3 time_5 [] refl (inl refl);
  lost = λ h. let e : AllCosts ≡ TimeOf 1 = only AllCosts (TimeOf 1) (h.on_each 0 (TimeOf 1) (omega arith)) in cc;
  made_up = λ h. let e : time_5 ≡ time_3 = only time_5 time_3 (h.among 0 time_3 (omega arith)) in cc;
  counted = refl;
}
