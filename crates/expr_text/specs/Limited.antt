-- Limiting exponents changes no refusal.
use Rattle.std.specs.Prelude.{◌≡◌, None}
use Rattle.its_model.specs.model.Terms.{Term}
use Rattle.its_model.specs.poly_terms.Faults.{first_fault}
use Rattle.expr_text.specs.TermGrammarStates.{limited}

-- replacing each exponent over the limit on degrees by the limit plus one changes no refusal of an expression, and an
-- expression that isn't refused has no such exponent
pub record LimitedAlike : Type 0 where
  pub refused : (t : Term) → first_fault (limited t) ≡ first_fault t
  pub itself : (t : Term) → first_fault t ≡ None → limited t ≡ t
