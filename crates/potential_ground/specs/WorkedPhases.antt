-- A worked example with two phases: the second function rises by at most the first one.
use Rattle.std.specs.Prelude.{◌≡◌, ℕ, List, [], ◌∷◌, ℤ, pos, negsuc, Option, Some, None}
use Rattle.guard_prep.specs.model.Terms.{Literal, Variable, Addition, Subtraction}
use Rattle.guard_prep.specs.model.Programs.{Program, AtLeast, AtMost, MoreThan, Compare}
use Rattle.potential_nodes.specs.model.Polynomials.{Monomial, Polynomial}
use Rattle.potential_nodes.specs.signed_bounds.Bounds.{Signed, Constant, PositivePart, SumOf, ProductOf, Quotient, Root, NoParts}
use Rattle.potential_nodes.specs.signed_bounds.Bounds.{Part, signed_val}
use Rattle.potential_nodes.specs.Lookup.{numbered}
use Rattle.potential_nodes.specs.Certificates.{OneRow, TwoRows}
use Rattle.potential_nodes.specs.Facts.{SumFact, PeakFact, one_form, once_charge}
use Rattle.potential_nodes.specs.Tables.{SymbolFunction, Move}
use Rattle.potential_nodes.specs.Falls.{Payment}
use Rattle.potential_nodes.specs.PhaseNodes.{PhasesNode}
use Rattle.potential_nodes.specs.Checks.{BadShape, MissingTime, BadMove, BadFloor, BadAmount, BadGain, LowBound}
use Rattle.potential_nodes.specs.Combinations.{Times, Add}
use Rattle.potential_nodes.specs.SignedNodes.{SignedLemma, InPhases}
use Rattle.potential_nodes.specs.Worked.{number, times}
use Rattle.potential_ground.specs.WorkedParts.{falls, composes, function, pays, over_two_symbols, rule, refused_first, stated, refused_at}

-- l0(A, B) -> l1(A, B), and l1 -> l1(A + B, B - 1) where A >= 1
abbrev pub phase_change : Program
phase_change = over_two_symbols 2 (rule 2 0 1 ((Variable 0) ∷ (Variable 1) ∷ []) []
    ∷ rule 2 1 1 ((Addition (Variable 0) (Variable 1)) ∷ (Subtraction (Variable 1) (Literal (pos 1))) ∷ []) (Compare (Variable 0) AtLeast (Literal (pos 1)) ∷ []) ∷ [])

-- B + 1, and A plus a number, as polynomials
abbrev pub first_phase : Polynomial
first_phase = times (pos 1) 1 ∷ number (pos 1) ∷ []

abbrev pub second_phase : ℤ → Polynomial
second_phase z = times (pos 1) 0 ∷ number z ∷ []

-- 2*[B + 1], and the root of a number times [A + z]
abbrev pub twice_first : Signed
twice_first = ProductOf (Part (Constant 2) (Part (PositivePart first_phase) NoParts))

abbrev pub root_of_second : ℕ → ℤ → Signed
root_of_second n z = Root (ProductOf (Part (Constant n) (Part (PositivePart (second_phase z)) NoParts)))

-- 2*[B + 1] + root(n*[A + z]) plus a number
abbrev pub phases_bound : ℕ → ℤ → ℕ → Signed
phases_bound n z constant = SumOf (Part twice_first (Part (root_of_second n z) (Part (Constant constant) NoParts)))

-- both functions at both symbols; each step by rule 2, which is counted, lowers B + 1 by 1, and raises A by at most B
abbrev pub counted_in_phases : ℤ → ℕ → PhasesNode
counted_in_phases second multiplier = record {
  firsts = function 0 first_phase ∷ function 1 first_phase ∷ [];
  seconds = function 0 (second_phase second) ∷ function 1 (second_phase second) ∷ [];
  den = 1;
  moves = record { rule = 1; first = []; second = [] } ∷ record { rule = 2; first = []; second = [] } ∷ [];
  counted = record { rule = 2; floor = OneRow multiplier 0 ∷ [] } ∷ [];
}

-- the lemmas: rule 1 occurs once; a bound on rule 2 by two phases; and both rules. The parameters are the number that
-- the second function adds to A, the multiplier of its floor, the number under the root, and the constant of the total
abbrev pub phase_lemmas : ℤ → ℕ → ℕ → ℤ → ℕ → List SignedLemma
phase_lemmas second multiplier factor under constant =
    falls (function 0 one_form ∷ []) 1 [] (pays 1 [] ∷ []) (Constant 1)
    ∷ record { node = InPhases (counted_in_phases second multiplier); bound = phases_bound factor under 1 }
    ∷ composes (Add 1 2) (phases_bound factor under constant) ∷ []

-- the lemmas are accepted, and the last one states 2*[B + 1] + root(2*[A - 1]) + 2 for both rules; with one number
-- changed they are refused at the lemma that the change breaks
pub record PhaseChangesAreBounded : Type 0 where
  pub accepted : refused_first phase_change (phase_lemmas (pos 0) 1 2 (negsuc 0) 2) ≡ None
  pub all_rules : numbered (stated (phase_lemmas (pos 0) 1 2 (negsuc 0) 2)) 3
      ≡ Some (SumFact (once_charge 1 ∷ once_charge 2 ∷ []) (phases_bound 2 (negsuc 0) 2))
  -- 2*[B + 1] + root(2*[A - 1]) + 2 at A = 9 and B = 4 is 10 + 4 + 2
  pub value : signed_val (phases_bound 2 (negsuc 0) 2) (pos 9 ∷ pos 4 ∷ []) ≡ 16
  pub low_second : refused_first phase_change (phase_lemmas (negsuc 0) 1 2 (negsuc 0) 2) ≡ refused_at 2 (BadFloor 2)
  pub multiplier : refused_first phase_change (phase_lemmas (pos 0) 2 2 (negsuc 0) 2) ≡ refused_at 2 (BadFloor 2)
  pub low_factor : refused_first phase_change (phase_lemmas (pos 0) 1 1 (negsuc 0) 2) ≡ refused_at 2 LowBound
  pub low_under : refused_first phase_change (phase_lemmas (pos 0) 1 2 (negsuc 1) 2) ≡ refused_at 2 LowBound
  pub low : refused_first phase_change (phase_lemmas (pos 0) 1 2 (negsuc 0) 1) ≡ refused_at 3 LowBound
