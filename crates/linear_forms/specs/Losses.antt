-- Forms at the new values of a rule, and the decrease of a ranking function by a rule.
use Rattle.std.specs.Prelude.{List, ℤ}
use Rattle.linear_forms.specs.Forms.{Form, at}
use Rattle.linear_forms.specs.Combinations.{form_sum, combination, less}
use Rattle.linear_forms.specs.RuleQuestions.{constant_form}

-- a form over the places of a rule's target, as a form over the rule's unknowns: each place is its new value
abbrev pub at_new_values : Form → List Form → Form
at_new_values f new_values = form_sum (combination new_values (at f.coefs)) (constant_form f.constant)

-- the loss of a function by a rule, less k: the form at its source, less the form at its target after the rule, less k
abbrev pub loss : Form → Form → List Form → ℤ → Form
loss at_source at_target new_values k = less (less at_source (at_new_values at_target new_values)) (constant_form k)
