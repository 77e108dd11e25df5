-- The setting of a small program, worked out by hand.
use Rattle.std.specs.Prelude.{◌≡◌, List, [], ◌∷◌, ℤ, pos, negsuc, Some, None}
use Rattle.guard_prep.specs.model.Terms.{Literal, Variable, Subtraction, Multiplication}
use Rattle.guard_prep.specs.model.Programs.{MoreThan, Compare, Rule, Program}
use Rattle.guard_prep.specs.linear_forms.Forms.{Form}
use Rattle.cert_program.specs.Setting.{setting_of}

-- k(A) -> k(A - 2) where 2 * A > 3, with the cost 2 * A - 5; k(A) -> k(A * A), with the cost A * A; and k(A) -> k(A)
abbrev pub halving : Rule
halving = record {
  source = 0;
  target = 0;
  left = 1;
  free = 0;
  names = [];
  updates = Subtraction (Variable 0) (Literal (pos 2)) ∷ [];
  guard = Compare (Multiplication (Literal (pos 2)) (Variable 0)) MoreThan (Literal (pos 3)) ∷ [];
  cost = Some (Subtraction (Multiplication (Literal (pos 2)) (Variable 0)) (Literal (pos 5)));
}

abbrev pub squaring : Rule
squaring = record {
  source = 0;
  target = 0;
  left = 1;
  free = 0;
  names = [];
  updates = Multiplication (Variable 0) (Variable 0) ∷ [];
  guard = [];
  cost = Some (Multiplication (Variable 0) (Variable 0));
}

abbrev pub staying : Rule
staying = record {
  source = 0;
  target = 0;
  left = 1;
  free = 0;
  names = [];
  updates = Variable 0 ∷ [];
  guard = [];
  cost = None;
}

abbrev pub three_rules : Program
three_rules = record {
  symbols = record { name = 107 ∷ []; arity = 1 } ∷ [];
  start = 0;
  start_names = (65 ∷ []) ∷ [];
  rules = halving ∷ squaring ∷ staying ∷ [];
}

abbrev pub form : List ℤ → ℤ → Form
form coefs constant = record { coefs = coefs; constant = constant }

-- 2 * A > 3 is tightened to A - 2 >= 0; the new value of the first rule is A - 2, that of the second an unknown of its
-- own, with the square as its polynomial; and there is no rule 0 and no rule 4. For the first rule's cost, 2 * A - 5
-- >= 0 is tightened to A - 3 >= 0, after the row of its guard, and its value is 2 * A - 5; the cost of the second one
-- is an unknown of its own, with the square as its polynomial, and gives no row; the third rule has no cost
pub record SettingsAreAsWorkedOut : Type 0 where
  pub rows : (setting_of three_rules).rows 1 ≡ form (pos 1 ∷ []) (negsuc 1) ∷ []
  pub new_values : (setting_of three_rules).new_values 1 ≡ form (pos 1 ∷ []) (negsuc 1) ∷ []
  pub flat : (setting_of three_rules).poly 1 0 ≡ None
  pub no_rows : (setting_of three_rules).rows 2 ≡ []
  pub nonlinear_new_values : (setting_of three_rules).new_values 2 ≡ form (pos 0 ∷ pos 1 ∷ []) (pos 0) ∷ []
  pub nonlinear : (setting_of three_rules).poly 2 0 ≡ Some (record { coef = pos 1; vars = 0 ∷ 0 ∷ [] } ∷ [])
  pub past_the_places : (setting_of three_rules).poly 2 1 ≡ None
  pub no_rule_0 : (setting_of three_rules).rows 0 ≡ []
  pub no_rule_4 : (setting_of three_rules).new_values 4 ≡ []
  pub cost_rows :
      (setting_of three_rules).cost_rows 1 ≡ form (pos 1 ∷ []) (negsuc 1) ∷ form (pos 1 ∷ []) (negsuc 2) ∷ []
  pub cost_value : (setting_of three_rules).cost_value 1 ≡ form (pos 2 ∷ []) (negsuc 4)
  pub flat_cost : (setting_of three_rules).cost_poly 1 ≡ None
  pub no_cost_rows : (setting_of three_rules).cost_rows 2 ≡ []
  pub nonlinear_cost_value : (setting_of three_rules).cost_value 2 ≡ form (pos 0 ∷ pos 1 ∷ []) (pos 0)
  pub nonlinear_cost : (setting_of three_rules).cost_poly 2 ≡ Some (record { coef = pos 1; vars = 0 ∷ 0 ∷ [] } ∷ [])
  pub without_cost : (setting_of three_rules).cost_rows 3 ≡ []
  pub value_without_cost : (setting_of three_rules).cost_value 3 ≡ form [] (pos 0)
