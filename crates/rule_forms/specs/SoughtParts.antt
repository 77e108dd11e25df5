-- The coefficients of a form of each kind that are to be found, and the fixed ones.
use Rattle.std.specs.Prelude.{ℕ, List, [], ◌∷◌, ◌++◌}
use Rattle.std.specs.List.{range_with_len}
use Rattle.linear_forms.specs.Forms.{Form}
use Rattle.linear_forms.specs.Combinations.{form_times, zero_form}
use Rattle.linear_forms.specs.RuleQuestions.{before_rule}
use Rattle.rule_forms.specs.Kinds.{Kind, Number, Argument, Affine, unit_of}

-- the places whose coefficients are to be found; place 0 is the constant
abbrev pub sought_places : ℕ → Kind → List ℕ
sought_places left Number = 0 ∷ []
sought_places left (Argument place sign) = []
sought_places left Affine = range_with_len 1 left ++ (0 ∷ [])

-- the fixed part of the form
abbrev pub fixed_part : Kind → Form
fixed_part Number = zero_form
fixed_part (Argument place sign) = form_times (unit_of sign) (before_rule place)
fixed_part Affine = zero_form
