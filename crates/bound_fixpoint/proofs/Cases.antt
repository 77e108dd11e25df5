-- Case distinctions.
use Rattle.std.proofs.Common.{◌≡◌, ◌⊎◌, inl, inr, Bool, true, false, Option, Some, None, refl}
use Rattle.rule_questions.specs.model.Bounds.{Bound}
use Rattle.bound_fixpoint.specs.Keys.{lacks}
pub use Rattle.rule_questions.proofs.model.Cases.{none_some, some_none, some_same}

-- the case distinction on one of two facts
pub either : {A B C : Type 0} → A ⊎ B → (A → C) → (B → C) → C
either (inl a) f g = f a
either (inr b) f g = g b

-- a Boolean is `true` or `false`
pub by_cases : {C : Type 0} → (v : Bool) → (v ≡ true → C) → (v ≡ false → C) → C
by_cases true f g = f refl
by_cases false f g = g refl

-- `false` isn't `true`
pub false_true : false ≡ true → ⊥
false_true e = cc

-- `true` isn't `false`
pub true_false : true ≡ false → ⊥
true_false e = cc

-- a bound for which the test says that it is missing is missing
pub lacks_none : (o : Option Bound) → lacks o ≡ true → o ≡ None
lacks_none None h = refl
lacks_none (Some b) h = absurd (false_true h)
