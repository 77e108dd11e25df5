-- The parts of a rule that the questions for a place use: its new value, its update, and the kinds of forms.
use Rattle.std.specs.Prelude.{ℕ, zero, suc, ◌&&◌, nat_lt, Bool, false, List, [], slice_index_or}
use Rattle.std.specs.List.{list_all}
use Rattle.poly_terms.specs.model.Polynomials.{Polynomial}
use Rattle.simplex_core.specs.linear_forms.Forms.{Form}
use Rattle.simplex_core.specs.linear_forms.RuleQuestions.{RuleForms, value_up, value_low}
use Rattle.cert_types.specs.rule_forms.Kinds.{Kind, kinds_for}
use Rattle.guard_prep.specs.Prepared.{Prepared}
use Rattle.cert_types.specs.cert_rules.AcceptsSizes.{Side, Up, Low}
use Rattle.rule_questions.specs.ProgramQuestions.{forms_of}

-- a rule as the questions use it, without its symbols
abbrev pub local_forms : Prepared → RuleForms
local_forms m = forms_of 0 0 m

-- the new value at a place on the upper side, and its negation on the lower side; places count from 1
abbrev pub value_on : Side → Prepared → ℕ → Form
value_on Up m place = value_up (local_forms m) place
value_on Low m place = value_low (local_forms m) place

-- the update at a place has degree 2 or more
abbrev pub is_nonlinear_at : Prepared → ℕ → Bool
is_nonlinear_at m zero = false
is_nonlinear_at m (suc i) = slice_index_or m.nonlinear i false

-- the expanded update at a place
abbrev pub expanded_at : Prepared → ℕ → Polynomial
expanded_at m zero = []
expanded_at m (suc i) = slice_index_or m.polys i []

-- a polynomial contains only left variables, of which there are this many
abbrev pub is_of_left : ℕ → Polynomial → Bool
is_of_left left q = list_all (λ m. list_all (λ v. nat_lt v left) m.vars) q

-- the update at a place has degree 2 or more and contains only left variables
abbrev pub is_polynomial_at : Prepared → ℕ → Bool
is_polynomial_at m place = is_nonlinear_at m place && is_of_left m.left (expanded_at m place)

-- the kinds of forms that are tried at a place, in order
abbrev pub kinds_of : Prepared → ℕ → List Kind
kinds_of m place = kinds_for (is_nonlinear_at m place) m.left place
