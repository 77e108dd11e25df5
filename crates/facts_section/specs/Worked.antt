-- Facts as expressions, the facts of symbols that are needed, and branches, as worked out by hand.
use Rattle.std.specs.Prelude.{◌≡◌, ℕ, List, [], ◌∷◌, ℤ, pos, negsuc}
use Rattle.refined_programs.specs.model.Terms.{Addition, Literal, Multiplication, Negation, Variable}
use Rattle.refined_programs.specs.model.WorkedRuns.{countdown}
use Rattle.refined_programs.specs.refinement.Sections.{To}
use Rattle.location_facts.specs.declared.fact.LocFact.{LocFact}
use Rattle.facts_section.specs.Copies.{IsMetBy, IsSectionOfFacts, copy_number, fact_copies, fact_term, section_of_facts}
use Rattle.facts_section.specs.Needed.{needed_among, needed_facts, without_implied}

-- at l1 the value at a place, less that at another one, is at least a number
abbrev pub at_l1 : ℕ → ℕ → ℤ → LocFact
at_l1 i j k = record { symbol = 1; plus = i; minus = j; least = k }

-- two facts on the first value at l1, one on the difference of both values, and one at l0
abbrev pub four_facts : List LocFact
four_facts =
    at_l1 1 0 (pos 0) ∷ at_l1 1 0 (pos 1) ∷ at_l1 1 2 (negsuc 0)
    ∷ record { symbol = 0; plus = 1; minus = 0; least = pos 0 } ∷ []

pub record FactsAreWorkedOut : Type 0 where
  -- x1 - x2 >= -1 over three places
  pub difference : fact_term 3 (at_l1 1 2 (negsuc 0))
      ≡ Addition (Addition (Literal (pos 1)) (Multiplication (Literal (pos 1)) (Variable 0)))
      (Multiplication (Negation (Literal (pos 1))) (Variable 1))
  -- -x2 >= 1 over two places
  pub opposite : fact_term 2 (at_l1 0 2 (pos 1))
      ≡ Addition (Negation (Literal (pos 1))) (Multiplication (Negation (Literal (pos 1))) (Variable 1))
  -- it is met at 5 and -1, and not at 5 and 0
  pub met : IsMetBy (at_l1 0 2 (pos 1)) (pos 5 ∷ negsuc 0 ∷ [])
  pub unmet : ¬ (IsMetBy (at_l1 0 2 (pos 1)) (pos 5 ∷ pos 0 ∷ []))
  -- of two facts on one difference the stronger one is needed; the start symbol has none; of three facts all are needed
  pub at_other : needed_facts countdown four_facts 1 ≡ at_l1 1 0 (pos 1) ∷ at_l1 1 2 (negsuc 0) ∷ []
  pub at_start : needed_facts countdown four_facts 0 ≡ []
  pub all_of_few : needed_among (at_l1 1 0 (pos 1) ∷ at_l1 1 2 (pos 1) ∷ at_l1 2 0 (pos 0) ∷ [])
      ≡ at_l1 1 0 (pos 1) ∷ at_l1 1 2 (pos 1) ∷ at_l1 2 0 (pos 0) ∷ []
  -- x1 >= 1 follows from x1 - x2 >= 1 and x2 >= 0, but not from x1 - x2 >= 0 and x2 >= 0
  pub implied : without_implied [] (at_l1 1 0 (pos 1) ∷ at_l1 1 2 (pos 1) ∷ at_l1 2 0 (pos 0) ∷ [])
      ≡ at_l1 1 2 (pos 1) ∷ at_l1 2 0 (pos 0) ∷ []
  pub not_implied : without_implied [] (at_l1 1 0 (pos 1) ∷ at_l1 1 2 (pos 0) ∷ at_l1 2 0 (pos 0) ∷ [])
      ≡ at_l1 1 0 (pos 1) ∷ at_l1 1 2 (pos 0) ∷ at_l1 2 0 (pos 0) ∷ []
  -- of three facts each of which follows from the others the first is left out
  pub in_a_circle : without_implied [] (at_l1 1 2 (pos 0) ∷ at_l1 1 3 (pos 0) ∷ at_l1 3 2 (pos 0) ∷ at_l1 2 3 (pos 0) ∷ [])
      ≡ at_l1 1 3 (pos 0) ∷ at_l1 3 2 (pos 0) ∷ at_l1 2 3 (pos 0) ∷ []
  -- the copies of the start symbol and of the other one
  pub first_copy : copy_number countdown 0 ≡ 0
  pub other_copy : copy_number countdown 1 ≡ 1
  -- each rule has a branch to the copy of its target: the one from the start, and those at l1
  pub branches : (section_of_facts countdown four_facts).branches
      ≡ record { source = 0; rule = 1; cases = To 1 } ∷ record { source = 1; rule = 2; cases = To 1 } ∷ []
  -- copies without branches aren't the section
  pub without_branches : ¬ (IsSectionOfFacts countdown four_facts
      (record { copies = fact_copies countdown four_facts; branches = [] }))
