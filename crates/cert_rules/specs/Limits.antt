-- The limits on the numbers of a certificate and on the size of composed bounds.
use Rattle.std.specs.Prelude.{◌≡◌, ℕ, ◌≤◌, false, All, List, nat_abs}
use Rattle.run_counting.specs.model.Bounds.{Bound}
use Rattle.bound_expr.specs.Measure.{is_large}
use Rattle.rule_forms.specs.linear_forms.Forms.{Form}
use Rattle.rule_forms.specs.linear_forms.Limits.{certificate_limit}

-- a multiplier, coefficient, constant or denominator is at most 2^56 in absolute value
abbrev pub IsInLimit : ℕ → Type 0
IsInLimit n = n ≤ certificate_limit

-- each multiplier is within the limit
abbrev pub AreInLimit : List ℕ → Type 0
AreInLimit multipliers = All IsInLimit multipliers

-- each number of a form is within the limit
pub record IsFormInLimit (f : Form) : Type 0 where
  pub coefs : All (λ c. IsInLimit (nat_abs c)) f.coefs
  pub constant : IsInLimit (nat_abs f.constant)

-- a composed bound isn't large, neither before nor after it is rewritten
pub record IsSmallComposed (rewrite : Bound → Bound) (b : Bound) : Type 0 where
  pub before : is_large b ≡ false
  pub after : is_large (rewrite b) ≡ false
