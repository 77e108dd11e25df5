-- Tests of numbers: whether they are within their limits, whether they ascend, and whether multipliers show that a form
-- follows from rows.
use Rattle.std.specs.Prelude.{ℕ, ◌==◌, ◌&&◌, max, nat_lt, nat_le, int_le, Bool, true, List, [], ◌∷◌, length, nat_abs}
use Rattle.std.specs.List.{list_all, range_with_len}
use Rattle.std.specs.Ordering.{int_eq}
use Rattle.rule_forms.specs.linear_forms.Forms.{Form, at}
use Rattle.rule_forms.specs.linear_forms.Certificates.{combined_coef, combined_constant}
use Rattle.rule_forms.specs.linear_forms.Limits.{certificate_limit}
use Rattle.cert_rules.specs.Setting.{Setting}

-- a number is at most 2^56
abbrev pub is_in_limit : ℕ → Bool
is_in_limit n = nat_le n certificate_limit

-- each of these numbers is within the limit
abbrev pub are_in_limit : List ℕ → Bool
are_in_limit ns = list_all is_in_limit ns

-- whether each number of a form is within the limit, in absolute value
abbrev pub is_form_in_limit : Form → Bool
is_form_in_limit f = list_all (λ c. is_in_limit (nat_abs c)) f.coefs && is_in_limit (nat_abs f.constant)

-- there is a multiplier for each row of a rule, within the limit
abbrev pub are_multipliers : Setting → ℕ → List ℕ → Bool
are_multipliers s t multipliers = (length multipliers == length (s.rows t)) && are_in_limit multipliers

-- each number is less than the next
abbrev pub is_ascending : List ℕ → Bool
is_ascending [] = true
is_ascending (x ∷ []) = true
is_ascending (x ∷ y ∷ rest) = nat_lt x y && is_ascending (y ∷ rest)

-- the number of coefficients of the longest of these forms
abbrev pub longest : List Form → ℕ
longest [] = 0
longest (f ∷ fs) = max (length f.coefs) (longest fs)

-- the multipliers show that the goal is at least 0 where the rows are: there is one for each row; the combined rows and
-- the goal have the same coefficient of every unknown that one of them has; and the combined constant isn't above the
-- goal's
abbrev pub implies : List Form → List ℕ → Form → Bool
implies rows multipliers goal =
    (length multipliers == length rows)
    && list_all (λ u. int_eq (at goal.coefs u) (combined_coef multipliers rows u))
    (range_with_len 0 (longest (goal ∷ rows)))
    && int_le (combined_constant multipliers rows) goal.constant
