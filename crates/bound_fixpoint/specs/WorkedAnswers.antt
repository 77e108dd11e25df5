-- Worked values of the results of answers, of which answers are right, and of how many bounds are missing, for the
-- program that counts down: k(A) -> l(A), and l(A) -> l(A - 1) where A >= 1.
use Rattle.std.specs.Prelude.{◌≡◌, ℕ, true, false, [], ◌∷◌}
use Rattle.rule_questions.specs.model.Bounds.{Constant}
use Rattle.rule_questions.specs.cert_rules.WorkedSettings.{counting}
use Rattle.rule_questions.specs.cert_rules.WorkedReasons.{towering}
use Rattle.rule_questions.specs.cert_rules.Worked.{once_node, once_time, entered_member, entered_size, looped_member}
use Rattle.bound_fixpoint.specs.Keys.{Bounds, key, time_key}
use Rattle.bound_fixpoint.specs.Derivations.{RankBy, SpreadBy, CycleBy, bounds_of}
use Rattle.bound_fixpoint.specs.Searches.{SizeOutcome, SizedBy, Unsized, OfTime, OfSize}
use Rattle.outcome.specs.Reports.{TimeLarge, SizeMissing, SizeUntimed}
use Rattle.bound_fixpoint.specs.Answers.{TimeOf, SizesOf, is_open, Found, Lacks, Composes, AnswersSizing}
use Rattle.bound_fixpoint.specs.Right.{IsRightSizing}
use Rattle.bound_fixpoint.specs.Laws.{missing, AreUniform}
use Rattle.bound_fixpoint.specs.WorkedDerivations.{seven}
use Rattle.bound_fixpoint.specs.WorkedSets.{nothing_known, once_known, entered_known}

-- a target is queried where one of its bounds is missing, and not where all are known, or where it has none. A node
-- gives the bound that it composes, with exactly its premises; where this bound is too large, the result is its number
-- of nodes alone
pub record AnswersAreWorkedOut : Type 0 where
  pub asked : is_open once_known (SizesOf (time_key 1 ∷ key 1 1 ∷ [])) ≡ true
  pub time_asked : is_open once_known (TimeOf 2) ≡ true
  pub known_not_asked : is_open once_known (TimeOf 1) ≡ false
  pub nothing_asked : is_open nothing_known (SizesOf []) ≡ false
  pub found : Composes counting nothing_known (RankBy once_node) once_time
      (Found (RankBy once_node) (time_key 0 ∷ []) once_time)
  pub not_other_bound : ¬ (Composes counting nothing_known (RankBy once_node) once_time
      (Found (RankBy once_node) (time_key 0 ∷ []) (Constant 1)))
  pub not_other_premises : ¬ (Composes counting nothing_known (RankBy once_node) once_time
      (Found (RankBy once_node) [] once_time))
  pub not_lacking : (n : ℕ)
      → ¬ (Composes counting nothing_known (RankBy once_node) once_time (Lacks (OfTime (TimeLarge n))))
  pub large : Composes towering nothing_known (RankBy once_node) once_time (Lacks (OfTime (TimeLarge 201)))
  pub not_small : ¬ (Composes towering nothing_known (RankBy once_node) once_time
      (Found (RankBy once_node) (time_key 0 ∷ []) (towering.rewrite once_time)))
  pub not_other_count :
      ¬ (Composes towering nothing_known (RankBy once_node) once_time (Lacks (OfTime (TimeLarge 200))))
  pub sized : AnswersSizing counting once_known (SizedBy (SpreadBy entered_member))
      (Found (SpreadBy entered_member) (key 0 1 ∷ key 0 1 ∷ []) entered_size)
  pub not_sized_so : ¬ (AnswersSizing counting once_known (SizedBy (SpreadBy entered_member))
      (Found (SpreadBy entered_member) (key 0 1 ∷ key 0 1 ∷ []) (Constant 7)))
  pub unsized : AnswersSizing counting once_known (Unsized (SizeUntimed 1)) (Lacks (OfSize (SizeUntimed 1)))
  pub not_for_another : ¬ (AnswersSizing counting once_known (Unsized (SizeUntimed 1)) (Lacks (OfSize (SizeUntimed 2))))

-- a node is a right answer for the places whose size it states if it is accepted over the known bounds, and a loop node
-- only if the places loop; the first size that is missing for it is the right reason. For no places no answer is right
pub record RightSizesAreWorkedOut : Type 0 where
  pub size : IsRightSizing counting nothing_known (key 1 1 ∷ []) (SizedBy (SpreadBy entered_member))
  pub loop : IsRightSizing counting entered_known (key 2 1 ∷ []) (SizedBy (CycleBy (looped_member ∷ [])))
  pub not_of_another : ¬ (IsRightSizing counting nothing_known (key 2 1 ∷ []) (SizedBy (SpreadBy entered_member)))
  pub not_too_early : ¬ (IsRightSizing counting once_known (key 2 1 ∷ []) (SizedBy (CycleBy (looped_member ∷ []))))
  pub no_time : ¬ (IsRightSizing counting once_known (time_key 1 ∷ []) (SizedBy (RankBy once_node)))
  pub reason : IsRightSizing counting once_known (key 2 1 ∷ []) (Unsized (SizeMissing (key 1 1)))
  pub not_a_loop : ¬ (IsRightSizing counting nothing_known (key 1 1 ∷ []) (SizedBy (CycleBy (entered_member ∷ []))))
  pub of_nothing : (b : Bounds) (answer : SizeOutcome) → ¬ (IsRightSizing counting b [] answer)

-- at first both times and both sizes are missing, and each derivation removes its own. Places are uniform if all have
-- one bound, or none has one
pub record MissingIsWorkedOut : Type 0 where
  pub at_first : missing counting.program nothing_known ≡ 4
  pub with_time : missing counting.program once_known ≡ 3
  pub with_size : missing counting.program entered_known ≡ 2
  pub same : AreUniform (bounds_of counting.program (seven (key 1 1 ∷ key 2 1 ∷ []) ∷ [])) (key 1 1 ∷ key 2 1 ∷ [])
  pub none : AreUniform nothing_known (key 1 1 ∷ key 2 1 ∷ [])
  pub not_one_alone : ¬ (AreUniform entered_known (key 1 1 ∷ key 2 1 ∷ []))
