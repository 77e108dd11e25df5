-- What contains only variables below n contains only variables below each greater number.
use Rattle.std.proofs.Common.{◌≡◌, ℕ, ◌≤◌, List, [], ◌∷◌, map, arith}
use Rattle.std.specs.Prelude.{None}
use Rattle.std.specs.List.{AllByRecursion}
use Rattle.poly_terms.specs.model.Terms.{Term, Literal, Variable, Negation, Addition, Subtraction, Multiplication}
use Rattle.poly_terms.specs.model.Terms.{Exponentiation}
use Rattle.poly_terms.specs.model.Programs.{Atom, Always, Compare}
use Rattle.poly_terms.specs.Checked.{ReadsBelow}
use Rattle.poly_terms.specs.Expanding.{expanded}
use Rattle.poly_terms.specs.Faults.{first_fault}
use Rattle.poly_terms.specs.Ordered.{IsAscending}
use Rattle.poly_terms.specs.AffineForms.{HasVariablesBelow}
use Rattle.poly_terms.proofs.OrderLaws.{expanded-ordered}
use Rattle.poly_terms.proofs.VariableLaws.{variables-expanded, variables-more}
use Rattle.its_model.specs.Valid.{IsValidAtom, IsValidTerm}

-- an expression with variables below n has them below each greater number
reads-more : (n w : ℕ) (t : Term) → n ≤ w → ReadsBelow n t → ReadsBelow w t
reads-more n w (Literal z) l h = tt
reads-more n w (Variable i) l h = omega (arith, h)
reads-more n w (Negation e) l h = reads-more n w e l h
reads-more n w (Addition d e) l h = (reads-more n w d l h.0, reads-more n w e l h.1)
reads-more n w (Subtraction d e) l h = (reads-more n w d l h.0, reads-more n w e l h.1)
reads-more n w (Multiplication d e) l h = (reads-more n w d l h.0, reads-more n w e l h.1)
reads-more n w (Exponentiation e k) l h = reads-more n w e l h

-- an atom that is valid for n variables is valid for more
atom-more : (n w : ℕ) (a : Atom) → n ≤ w → IsValidAtom n a → IsValidAtom w a
atom-more n w Always l h = tt
atom-more n w (Compare d r e) l h = record { left = reads-more n w d l h.left; right = reads-more n w e l h.right; expands = h.expands }

-- atoms that are valid for some variables are valid for more
pub atoms-more : (n w : ℕ) (atoms : List Atom) → n ≤ w → AllByRecursion (IsValidAtom n) atoms → AllByRecursion (IsValidAtom w) atoms
atoms-more n w [] l h = tt
atoms-more n w (a ∷ atoms) l h = (atom-more n w a l h.0, atoms-more n w atoms l h.1)

-- the expanded forms of updates ascend
pub all-ascending : (us : List Term) → AllByRecursion IsAscending (map expanded us)
all-ascending [] = tt
all-ascending (u ∷ us) = ((expanded-ordered u).ascending, all-ascending us)

-- the variables of expanded updates are below each number that is at least the number of variables
pub all-below : (n w : ℕ) (us : List Term) → n ≤ w → AllByRecursion (IsValidTerm n) us → AllByRecursion (HasVariablesBelow w) (map expanded us)
all-below n w [] l h = tt
all-below n w (u ∷ us) l h = (variables-more n w (expanded u) l (variables-expanded n u h.0.variables), all-below n w us l h.1)

-- valid updates have no fault
pub no-faults : (n : ℕ) (us : List Term) → AllByRecursion (IsValidTerm n) us → AllByRecursion (λ u. first_fault u ≡ None) us
no-faults n [] h = tt
no-faults n (u ∷ us) h = (h.0.expands, no-faults n us h.1)
