-- Forms at positions of lists.
use Rattle.std.specs.Prelude.{ℕ, zero, suc, List, [], ◌∷◌}
use Rattle.rule_forms.specs.linear_forms.Forms.{Form}
use Rattle.rule_forms.specs.linear_forms.Combinations.{zero_form}

-- the form at a position of a list; past its end the form 0
abbrev pub form_at : List Form → ℕ → Form
form_at [] i = zero_form
form_at (f ∷ fs) zero = f
form_at (f ∷ fs) (suc i) = form_at fs i
