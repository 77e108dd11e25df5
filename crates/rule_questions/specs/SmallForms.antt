-- Forms whose numbers are small.
use Rattle.std.specs.Prelude.{◌+◌, ◌≤◌, nat_abs}
use Rattle.std.specs.List.{All}
use Rattle.poly_terms.specs.linear_forms.Forms.{Form}
use Rattle.poly_terms.specs.model.Limits.{coefficient_limit}

-- the numbers of a form are within the limits on rows
pub record IsSmall (f : Form) : Type 0 where
  pub coefs : All (λ a. nat_abs a ≤ coefficient_limit) f.coefs
  pub constant : nat_abs f.constant ≤ coefficient_limit

-- the numbers of a form are within the limits on a difference of two small forms
pub record IsDifferenceSmall (f : Form) : Type 0 where
  pub coefs : All (λ a. nat_abs a ≤ coefficient_limit + coefficient_limit) f.coefs
  pub constant : nat_abs f.constant ≤ coefficient_limit + coefficient_limit
