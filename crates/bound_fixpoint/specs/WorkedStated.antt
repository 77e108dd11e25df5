-- Worked values of which lists of facts state what is known, for the program that counts down, where only the time of
-- its first rule was found.
use Rattle.std.specs.Prelude.{ℕ, List, [], ◌∷◌}
use Rattle.rule_questions.specs.model.Bounds.{Constant}
use Rattle.rule_questions.specs.model.Facts.{Fact, Time}
use Rattle.rule_questions.specs.cert_rules.WorkedSettings.{counting}
use Rattle.rule_questions.specs.cert_rules.Worked.{once_time}
use Rattle.bound_fixpoint.specs.Keys.{Bounds}
use Rattle.bound_fixpoint.specs.Derivations.{bounds_of, number_in}
use Rattle.bound_fixpoint.specs.Stated.{SayBounds}
use Rattle.bound_fixpoint.specs.WorkedDerivations.{once_derivation}

-- the bounds known with the time of the first rule
abbrev pub once_known : Bounds
once_known = bounds_of counting.program (once_derivation ∷ [])

-- these lemmas state the bounds that are known with the time of the first rule, by these numbers
abbrev pub SayOnce : List (List Fact) → (ℕ → ℕ → ℕ) → Type 0
SayOnce past number = SayBounds counting past number once_known once_known

-- one lemma with the time states these bounds. No lemmas don't, nor does one with another time, nor one with the time
-- twice, nor one with the number of the virtual entry
pub record BoundsAreSaidAsWorkedOut : Type 0 where
  pub said : SayOnce ((Time 1 once_time ∷ []) ∷ []) (number_in (once_derivation ∷ []))
  pub not_by_none : ¬ (SayOnce [] (number_in (once_derivation ∷ [])))
  pub not_other_time : ¬ (SayOnce ((Time 1 (Constant 1) ∷ []) ∷ []) (number_in (once_derivation ∷ [])))
  pub not_twice : ¬ (SayOnce ((Time 1 once_time ∷ Time 1 once_time ∷ []) ∷ []) (number_in (once_derivation ∷ [])))
  pub not_by_the_entry : ¬ (SayOnce ((Time 1 once_time ∷ []) ∷ []) (λ t i. 0))
