-- A limit and the code's name of it determine each other.
use Rattle.std.proofs.Common.{◌≡◌, refl, sym, ◌∙◌, ap}
use Rattle.linear_forms.specs.Causes.{Cause, range, budget, wide, scale, cause_of}
use Rattle.linear_forms.specs.declared.limit_cause.LimitCause.{LimitCause}
use Rattle.linear_forms.specs.declared.limit_cause.LimitCause.TheVariants.{Range, Budget, Wide, Scale}

-- the code's name of a limit
pub named : Cause → LimitCause
named (range k) = Range k
named (budget n) = Budget n
named (wide n) = Wide n
named scale = Scale

-- the code's name of a limit names that limit
pub named-is : (c : Cause) → cause_of (named c) ≡ c
unfolding named
named-is (range k) = refl
named-is (budget n) = refl
named-is (wide n) = refl
named-is scale = refl

-- naming the limit that a name stands for gives the name
named-again : (c : LimitCause) → named (cause_of c) ≡ c
unfolding named
named-again (Range k) = refl
named-again (Budget n) = refl
named-again (Wide n) = refl
named-again Scale = refl

-- two names of the same limit are equal
pub names-same : (c d : LimitCause) → cause_of c ≡ cause_of d → c ≡ d
names-same c d e = sym (named-again c) ∙ (ap named e ∙ named-again d)
