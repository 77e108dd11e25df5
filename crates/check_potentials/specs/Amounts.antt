-- What is paid at the steps of a rule.
use Rattle.std.specs.Prelude.{ℕ, List}
use Rattle.potential_nodes.specs.potentials.model.Polynomials.{Polynomial}
use Rattle.potential_nodes.specs.Lookup.{lookup}
use Rattle.potential_nodes.specs.Falls.{Payment, payer, amount_in}

-- the amount that payments have for a rule, and 0 if they have none
abbrev pub amount_of : List Payment → ℕ → Polynomial
amount_of payments t = amount_in (lookup payer t payments)
