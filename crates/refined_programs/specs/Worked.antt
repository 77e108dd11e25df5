-- Worked values of expressions of affine forms, of the ends and paths of cases, and of sections without their
-- multipliers.
use Rattle.std.specs.Prelude.{◌≡◌, [], ◌∷◌, pos, negsuc}
use Rattle.refinement.specs.model.Terms.{Term, Literal, Variable, Negation, Addition, Multiplication}
use Rattle.refinement.specs.Sections.{passes, fails}
use Rattle.refinement.specs.Sections as plain
use Rattle.its_model.specs.linear_forms.Forms.{Form}
use Rattle.refined_programs.specs.Affine.{affine_term}
use Rattle.refined_programs.specs.Annotated.{Section, Cases, To, Never, If, section_of}
use Rattle.refined_programs.specs.Ends.{AtCopy, Nowhere, ends, paths_of}

-- A - 2*C - 3 is ((-3) + 1*A) + (-2)*C, the constant first and 0 times B left out; 5 is itself, and so is 0
pub record FormsAreWritten : Type 0 where
  pub sum : affine_term (pos 1 ∷ pos 0 ∷ negsuc 1 ∷ []) (negsuc 2)
      ≡ Addition (Addition (Negation (Literal (pos 3))) (Multiplication (Literal (pos 1)) (Variable 0)))
      (Multiplication (Negation (Literal (pos 2))) (Variable 2))
  pub constant : affine_term (pos 0 ∷ pos 0 ∷ []) (pos 5) ≡ Literal (pos 5)
  pub nothing : affine_term [] (pos 0) ≡ Literal (pos 0)

-- of three ends the two at copies are paths, in order, with the atoms along them
pub record EndsArePaths : Type 0 where
  pub at_copies : paths_of
      (record { atoms = passes (Variable 0) ∷ []; goal = AtCopy 2 ((1 ∷ []) ∷ []) }
      ∷ record { atoms = fails (Variable 0) ∷ passes (Variable 1) ∷ []; goal = Nowhere (1 ∷ 0 ∷ []) }
      ∷ record { atoms = fails (Variable 0) ∷ fails (Variable 1) ∷ []; goal = AtCopy 1 [] } ∷ [])
      ≡ record { atoms = passes (Variable 0) ∷ []; copy = 2 }
      ∷ record { atoms = fails (Variable 0) ∷ fails (Variable 1) ∷ []; copy = 1 } ∷ []

-- the form A, and its expression
abbrev pub just_a : Form
just_a = record { coefs = pos 1 ∷ []; constant = pos 0 }

abbrev pub a_term : Term
a_term = Addition (Literal (pos 0)) (Multiplication (Literal (pos 1)) (Variable 0))

-- the form -A - 1, and its expression
abbrev pub a_below : Form
a_below = record { coefs = negsuc 0 ∷ []; constant = negsuc 0 }

abbrev pub below_term : Term
below_term = Addition (Negation (Literal (pos 1))) (Multiplication (Negation (Literal (pos 1))) (Variable 0))

-- cases by whether A is at least 0: to copy 1; or else by whether it is below 0: nowhere, or to copy 2
abbrev pub by_sign : Cases
by_sign = If just_a (To 1 ((1 ∷ 0 ∷ []) ∷ [])) (If a_below (Never (2 ∷ 3 ∷ [])) (To 2 []))

-- these cases have three ends, of which the second is nowhere; each has the atom that was there before and the tests
-- passed and failed along the way, in order
pub record EndsOfCases : Type 0 where
  pub by_tests : ends (passes (Variable 1) ∷ []) by_sign
      ≡ record { atoms = passes (Variable 1) ∷ passes a_term ∷ []; goal = AtCopy 1 ((1 ∷ 0 ∷ []) ∷ []) }
      ∷ record { atoms = passes (Variable 1) ∷ fails a_term ∷ passes below_term ∷ []; goal = Nowhere (2 ∷ 3 ∷ []) }
      ∷ record { atoms = passes (Variable 1) ∷ fails a_term ∷ fails below_term ∷ []; goal = AtCopy 2 [] } ∷ []
  pub nowhere : ends [] (Never (4 ∷ [])) ≡ record { atoms = []; goal = Nowhere (4 ∷ []) } ∷ []

-- a section with two copies and these cases
abbrev pub two_copies : Section
two_copies = record {
  copies = record { name = 97 ∷ []; over = 0; facts = [] } ∷ record { name = 98 ∷ []; over = 1; facts = just_a ∷ [] }
      ∷ [];
  branches = record { source = 0; rule = 3; cases = by_sign } ∷ [];
}

-- without its multipliers the section has the expressions of its forms
pub record SectionsLoseMultipliers : Type 0 where
  pub both : section_of two_copies ≡ record {
    copies = record { name = 97 ∷ []; over = 0; facts = [] } ∷ record { name = 98 ∷ []; over = 1; facts = a_term ∷ [] }
        ∷ [];
    branches = record {
      source = 0;
      rule = 3;
      cases = plain.If a_term (plain.To 1) (plain.If below_term plain.Never (plain.To 2));
    } ∷ [];
  }
