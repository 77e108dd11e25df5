-- Facts at symbols, as they were worked out by hand.
use Rattle.std.specs.Prelude.{◌≡◌, ℕ, List, [], ◌∷◌, ℤ, pos, negsuc, codes}
use Rattle.model.specs.Polynomials.{Polynomial}
use Rattle.model.specs.Programs.{Program}
use Rattle.model.specs.WorkedRuns.{countdown}
use Rattle.refined_programs.specs.its_model.linear_forms.Forms.{Form}
use Rattle.refined_programs.specs.Annotated.{Copy, Section}
use Rattle.symbol_facts.specs.Facts.{SymbolFact, IsSymbolFact}
use Rattle.symbol_facts.specs.Common.{strongest, common, summands, symbol_facts}

-- a form over two places, and one copy of a symbol
abbrev pub form : ℤ → ℤ → ℤ → Form
form a b constant = record { coefs = a ∷ b ∷ []; constant = constant }

abbrev pub copy : ℕ → List Form → Copy
copy over facts = record { name = codes "a"; over = over; facts = facts }

-- a section with these copies
abbrev pub copying : List Copy → Section
copying copies = record { copies = copies; branches = [] }

-- Of x2 - 1 >= 0, x2 - 3 >= 0 and x2 >= 0 only x2 - 3 >= 0 is left, after x1 >= 0, which came first. Two copies have in common
-- what both say of x2, the weaker of it, and not what one alone says of x1; three copies, one of which says nothing, have
-- nothing in common, and neither have no copies.
pub record CommonFactsAreWorkedOut : Type 0 where
  pub strongest_ones : strongest
      (form (pos 1) (pos 0) (pos 0) ∷ form (pos 0) (pos 1) (negsuc 0) ∷ form (pos 0) (pos 1) (negsuc 2)
      ∷ form (pos 0) (pos 1) (pos 0) ∷ [])
      ≡ form (pos 1) (pos 0) (pos 0) ∷ form (pos 0) (pos 1) (negsuc 2) ∷ []
  pub one : common (copy 1 (form (pos 1) (pos 0) (pos 4) ∷ []) ∷ []) ≡ form (pos 1) (pos 0) (pos 4) ∷ []
  pub two : common
      (copy 1 (form (pos 1) (pos 0) (pos 0) ∷ form (pos 0) (pos 1) (negsuc 2) ∷ [])
      ∷ copy 1 (form (pos 0) (pos 1) (negsuc 0) ∷ form (pos 0) (pos 1) (pos 7) ∷ []) ∷ [])
      ≡ form (pos 0) (pos 1) (negsuc 0) ∷ []
  pub three : common
      (copy 1 (form (pos 1) (pos 0) (pos 0) ∷ []) ∷ copy 1 [] ∷ copy 1 (form (pos 1) (pos 0) (pos 0) ∷ []) ∷ []) ≡ []
  pub none : common [] ≡ []
  pub summands_of : summands 0 (negsuc 1 ∷ pos 0 ∷ pos 1 ∷ [])
      ≡ record { coef = negsuc 1; vars = 0 ∷ [] } ∷ record { coef = pos 1; vars = 2 ∷ [] } ∷ []

-- the values at the two places, as polynomials
abbrev pub first_place : Polynomial
first_place = record { coef = pos 1; vars = 0 ∷ [] } ∷ []

abbrev pub second_place : Polynomial
second_place = record { coef = pos 1; vars = 1 ∷ [] } ∷ []

-- the square of the value at the first place is at least a number, at the second symbol
abbrev pub square_from : ℤ → SymbolFact
square_from least = record { symbol = 1; form = record { coef = pos 1; vars = 0 ∷ 0 ∷ [] } ∷ []; least = least }

-- Of the program that counts down a section with copies of both symbols says what the copies of the second one have in
-- common, and nothing of the first one, whose copy has no facts; without copies it says nothing. That the first place
-- of the loop is at least 0 doesn't hold, as a run enters it with -1, nor that no form is at least 1; that it is at least
-- 0 does. So does that the square of that place is at least 0, but not that it is at least 2.
pub record FactsOfCountdown : Type 0 where
  pub by_copies : symbol_facts countdown
      (copying (copy 0 [] ∷ copy 1 (form (pos 0) (pos 1) (negsuc 2) ∷ []) ∷ copy 1 (form (pos 0) (pos 1) (negsuc 0) ∷ []) ∷ []))
      ≡ record { symbol = 1; form = second_place; least = pos 1 } ∷ []
  pub by_nothing : symbol_facts countdown (copying []) ≡ []
  pub trivial : IsSymbolFact countdown (record { symbol = 1; form = []; least = pos 0 })
  pub too_strong : ¬ (IsSymbolFact countdown (record { symbol = 1; form = []; least = pos 1 }))
  pub untrue : ¬ (IsSymbolFact countdown (record { symbol = 1; form = first_place; least = pos 0 }))
  pub square : IsSymbolFact countdown (square_from (pos 0))
  pub square_untrue : ¬ (IsSymbolFact countdown (square_from (pos 2)))

pub record FactsAreWorkedOut : Type 0 where
  pub common_facts : CommonFactsAreWorkedOut
  pub of_countdown : FactsOfCountdown
