-- Worked values of sets and shut places of a program that counts down: k(A) -> l(A), and l(A) -> l(A - 1) where A >= 1.
use Rattle.std.specs.Prelude.{ℕ, [], ◌∷◌}
use Rattle.rule_questions.specs.cert_rules.Gaps.{SymbolPlace}
use Rattle.rule_questions.specs.cert_rules.WorkedSettings.{counting}
use Rattle.bound_fixpoint.specs.Keys.{Bounds}
use Rattle.bound_fixpoint.specs.Derivations.{bounds_of}
use Rattle.bound_fixpoint.specs.Sets.{IsSetOfRule, AreShutOf}
use Rattle.bound_fixpoint.specs.WorkedDerivations.{once_derivation, entered_derivation}

-- nothing is known but the virtual entry; then the time of rule 1; and then the size after it
abbrev pub nothing_known : Bounds
nothing_known = bounds_of counting.program []

abbrev pub once_known : Bounds
once_known = bounds_of counting.program (once_derivation ∷ [])

abbrev pub entered_known : Bounds
entered_known = bounds_of counting.program (once_derivation ∷ entered_derivation ∷ [])

-- the set of the first rule is itself, and that of the second both; with a time of the first rule the second is alone
pub record SetsOfCounting : Type 0 where
  pub first : IsSetOfRule counting.program nothing_known 1 (1 ∷ [])
  pub second : IsSetOfRule counting.program nothing_known 2 (1 ∷ 2 ∷ [])
  pub alone : IsSetOfRule counting.program once_known 2 (2 ∷ [])
  pub not_alone : ¬ (IsSetOfRule counting.program nothing_known 2 (2 ∷ []))
  pub without_itself : ¬ (IsSetOfRule counting.program nothing_known 2 (1 ∷ []))
  pub descending : ¬ (IsSetOfRule counting.program nothing_known 2 (2 ∷ 1 ∷ []))

-- a place of a symbol
abbrev pub place : ℕ → ℕ → SymbolPlace
place symbol i = record { symbol = symbol; place = i }

-- where rule 1 has a time and rule 2 is alone, rule 1 enters l, and no size is known after it: the only place of l is
-- shut, and it isn't once the size is known. Over both rules the virtual entry enters k, after which a size is known:
-- no place is shut
pub record ShutOfCounting : Type 0 where
  pub alone : AreShutOf counting.program once_known (2 ∷ []) (place 1 1 ∷ [])
  pub not_none : ¬ (AreShutOf counting.program once_known (2 ∷ []) [])
  pub not_entered : ¬ (AreShutOf counting.program once_known (2 ∷ []) (place 0 1 ∷ place 1 1 ∷ []))
  pub not_twice : ¬ (AreShutOf counting.program once_known (2 ∷ []) (place 1 1 ∷ place 1 1 ∷ []))
  pub sized : AreShutOf counting.program entered_known (2 ∷ []) []
  pub both : AreShutOf counting.program nothing_known (1 ∷ 2 ∷ []) []
