-- Sums and multiples of forms.
use Rattle.std.specs.Prelude.{ℕ, suc, List, [], ◌∷◌, map, ℤ, pos, negsuc, ◌+ℤ◌, ◌*ℤ◌}
use Rattle.linear_forms.specs.Forms.{Form}

-- the sum of two lists of coefficients, position by position; missing coefficients count as 0
abbrev pub coefs_sum : List ℤ → List ℤ → List ℤ
coefs_sum [] bs = bs
coefs_sum (a ∷ rest) [] = a ∷ rest
coefs_sum (a ∷ rest) (b ∷ others) = (a +ℤ b) ∷ coefs_sum rest others

-- the form whose value is the sum of the values of two
abbrev pub form_sum : Form → Form → Form
form_sum f g = record { coefs = coefs_sum f.coefs g.coefs; constant = f.constant +ℤ g.constant }

-- the form whose value is c times the value of another
abbrev pub form_times : ℤ → Form → Form
form_times c f = record { coefs = map (λ a. c *ℤ a) f.coefs; constant = c *ℤ f.constant }

-- the form that is 0 everywhere
abbrev pub zero_form : Form
zero_form = record { coefs = []; constant = pos 0 }

-- the sum of the forms, each multiplied by v at its position
abbrev pub combination : List Form → (ℕ → ℤ) → Form
combination [] v = zero_form
combination (f ∷ fs) v = form_sum (form_times (v 0) f) (combination fs (λ p. v (suc p)))

-- a form less another
abbrev pub less : Form → Form → Form
less f g = form_sum f (form_times (negsuc 0) g)
