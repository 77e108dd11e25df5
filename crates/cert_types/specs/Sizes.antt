-- The sizes of places as composing looks them up.
use Rattle.std.specs.Prelude.{ℕ, ◌+◌, ◌<◌, ◌^◌, ◌==◌, ◌&&◌, ◌||◌, Bool, cond, List, length, ℤ, pos, nat_abs, Option}
use Rattle.std.specs.Prelude.{Some, None}
use Rattle.std.specs.List.{list_any}
use Rattle.linear_forms.specs.int_laws.NormalForm.{is_zero}
use denote.Ref.{Bor}
use Rattle.poly_terms.specs.model.Bounds.{Bound, Constant, ProductOf, Parts, NoParts, Part}
use Rattle.linear_forms.specs.Forms as forms
use Rattle.cert_program.specs.cert_rules.Nodes.{Member}
use Rattle.cert_program.specs.cert_rules.Known.{Table, known}
use Rattle.cert_program.specs.cert_rules.Numbers.{rounded_up}
use Rattle.linear_forms.specs.RuleQuestions.{constant_form}
use Rattle.cert_program.specs.cert_rules.Composed.{both_parts}
use Rattle.cert_types.specs.declared.rank.Form.{Form}
use Rattle.cert_types.specs.Views.{form_of}

-- the member is at this place after this rule; places count from 1
abbrev pub is_result_variable_of : ℕ → ℕ → Member → Bool
is_result_variable_of rule place m = (m.result_variable.rule == rule) && (m.result_variable.place == place)

-- one of the members is at this place after this rule
abbrev pub is_result_variable : List Member → ℕ → ℕ → Bool
is_result_variable members rule place = list_any (is_result_variable_of rule place) members

-- the test whether a place is a member, for places renumbered from `place` on
abbrev pub members_from : List Member → ℕ → ℕ → ℕ → Bool
members_from members rule place j = is_result_variable members rule (place + j)

-- the sizes after a rule, for places renumbered from `place` on
abbrev pub sizes_from : Table → ℕ → ℕ → ℕ → Bound
sizes_from table rule place j = known (table.size rule (place + j))

-- the parts of one list and then those of the other
abbrev pub joined : Parts → Parts → Parts
joined NoParts cs = cs
joined (Part b bs) cs = Part b (joined bs cs)

-- the part of a place: none if its coefficient is 0 or it is left out
abbrev pub place_part : ℤ → ℕ → Bool → Bound → Parts
place_part c den is_out b =
    cond (is_zero c || is_out) NoParts (Part (ProductOf (both_parts (Constant (rounded_up (nat_abs c) den)) b)) NoParts)

-- a form that was found, as plain data; where there is none, 0
abbrev pub form_found : Option (Bor Form) → forms.Form
form_found None = constant_form (pos 0)
form_found (Some f) = (form_of f.now).form

-- a form has fewer coefficients than there can be places
abbrev pub IsShort : Form → Type 0
IsShort f = length f.coefs.items < 2 ^ 31
