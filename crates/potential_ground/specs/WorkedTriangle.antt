-- A worked example with a triangle of two loops: polynomials of degree 2, which products of rows show.
use Rattle.std.specs.Prelude.{◌≡◌, ℕ, List, [], ◌∷◌, ℤ, pos, negsuc, Option, Some, None}
use Rattle.guard_prep.specs.model.Terms.{Literal, Variable, Addition, Subtraction}
use Rattle.guard_prep.specs.model.Programs.{Program, AtLeast, AtMost, MoreThan, Compare}
use Rattle.potential_nodes.specs.model.Polynomials.{Monomial, Polynomial}
use Rattle.potential_nodes.specs.signed_bounds.Bounds.{Signed, Constant, PositivePart, SumOf, ProductOf, Quotient, Root, NoParts}
use Rattle.potential_nodes.specs.signed_bounds.Bounds.{Part, signed_val}
use Rattle.potential_nodes.specs.Lookup.{numbered}
use Rattle.potential_nodes.specs.Certificates.{OneRow, TwoRows}
use Rattle.potential_nodes.specs.Facts.{SumFact, PeakFact, one_form, once_charge}
use Rattle.potential_nodes.specs.Tables.{SymbolFunction, Move}
use Rattle.potential_nodes.specs.Falls.{Payment}
use Rattle.potential_nodes.specs.PhaseNodes.{PhasesNode}
use Rattle.potential_nodes.specs.Checks.{BadShape, MissingTime, BadMove, BadFloor, BadAmount, BadGain, LowBound}
use Rattle.potential_nodes.specs.Combinations.{Times, Add}
use Rattle.potential_nodes.specs.SignedNodes.{SignedLemma, InPhases}
use Rattle.potential_nodes.specs.Worked.{number, times}
use Rattle.potential_ground.specs.WorkedParts.{falls, composes, function, keeps, keeps_by, resets, pays, pays_amount, product, over_three_symbols, rule, refused_first, stated, refused_at}

-- for B from 1 to A, for C from 1 to B, with invariants of the loops as guards: l0(A, B, C) -> l1(A, 1, C); l1 -> l2(A,
-- B, 1) where B <= A and B >= 1; l2 -> l2(A, B, C + 1) where C <= B, B >= 1, C >= 1 and A >= B; and l2 -> l1(A, B + 1,
-- C) where C > B, B + 1 >= C, B >= 1 and A >= B
abbrev pub triangle : Program
triangle = over_three_symbols 3 (rule 3 0 1 ((Variable 0) ∷ (Literal (pos 1)) ∷ (Variable 2) ∷ []) []
    ∷ rule 3 1 2 ((Variable 0) ∷ (Variable 1) ∷ (Literal (pos 1)) ∷ []) (Compare (Variable 1) AtMost (Variable 0) ∷ Compare (Variable 1) AtLeast (Literal (pos 1)) ∷ [])
    ∷ rule 3 2 2 ((Variable 0) ∷ (Variable 1) ∷ (Addition (Variable 2) (Literal (pos 1))) ∷ []) (Compare (Variable 2) AtMost (Variable 1) ∷ Compare (Variable 1) AtLeast (Literal (pos 1)) ∷ Compare (Variable 2) AtLeast (Literal (pos 1)) ∷ Compare (Variable 0) AtLeast (Variable 1) ∷ [])
    ∷ rule 3 2 1 ((Variable 0) ∷ (Addition (Variable 1) (Literal (pos 1))) ∷ (Variable 2) ∷ []) (Compare (Variable 2) MoreThan (Variable 1) ∷ Compare (Addition (Variable 1) (Literal (pos 1))) AtLeast (Variable 2) ∷ Compare (Variable 1) AtLeast (Literal (pos 1)) ∷ Compare (Variable 0) AtLeast (Variable 1) ∷ []) ∷ [])

-- half of A*A + A and half of A*A + 5*A, with these numbers as parameters
abbrev pub half_of : ℤ → ℤ → Signed
half_of once constant = Quotient (PositivePart (product (pos 1) 0 0 ∷ times once 0 ∷ number constant ∷ [])) 2

-- the functions, doubled, at l0, l1 and l2 that pay the amount B of rule 2
abbrev pub square_functions : List SymbolFunction
square_functions =
    function 0 (product (pos 1) 0 0 ∷ times (pos 1) 0 ∷ [])
    ∷ function 1 (product (pos 1) 0 0 ∷ product (negsuc 0) 1 1 ∷ times (pos 1) 0 ∷ times (pos 1) 1 ∷ [])
    ∷ function 2 (product (pos 1) 0 0 ∷ product (negsuc 0) 1 1 ∷ times (pos 1) 0 ∷ times (negsuc 0) 1 ∷ []) ∷ []

-- the functions at the three symbols for all rules of the loops, where A's coefficient at l0 is a parameter
abbrev pub loop_functions : ℤ → List SymbolFunction
loop_functions once =
    function 0 (product (pos 1) 0 0 ∷ times once 0 ∷ [])
    ∷ function 1 (product (pos 1) 0 0 ∷ product (negsuc 0) 1 1 ∷ times (pos 5) 0 ∷ times (negsuc 2) 1 ∷ number (pos 4) ∷ [])
    ∷ function 2 (product (pos 1) 0 0 ∷ product (negsuc 0) 1 1 ∷ times (pos 5) 0 ∷ times (negsuc 2) 1 ∷ times (negsuc 1) 2 ∷ number (pos 4) ∷ []) ∷ []

-- B as a polynomial, and B - C + 1
abbrev pub form_b : Polynomial
form_b = times (pos 1) 1 ∷ []

abbrev pub to_go : Polynomial
to_go = times (pos 1) 1 ∷ times (negsuc 0) 2 ∷ number (pos 1) ∷ []

-- the payments of the loop over C: 1 at each of its rules
abbrev pub loop_payments : ℕ → List Payment
loop_payments multiplier =
    pays 2 (OneRow 7 0 ∷ OneRow 2 1 ∷ TwoRows 1 0 0 ∷ TwoRows 2 0 1 ∷ [])
    ∷ pays 3 (OneRow 2 0 ∷ OneRow 7 3 ∷ TwoRows 1 3 3 ∷ TwoRows 2 3 1 ∷ [])
    ∷ pays 4 (OneRow multiplier 1 ∷ OneRow 7 3 ∷ TwoRows 1 3 3 ∷ TwoRows 2 3 2 ∷ []) ∷ []

-- the lemmas: rule 1 occurs once; the sum of B at rule 2 is at most (A*A + A)/2, by products of rows; rule 3, whose
-- function B - C + 1 rule 2 resets to B, occurs at most that often; the rules of the loops occur at most (A*A + 5*A)/2
-- times; and all rules. The parameters are the denominator, the multipliers of rule 2's floor and amount and of rule
-- 4's floor, the numbers of the bound, A's coefficient at the start, and the constant of the total
abbrev pub triangle_lemmas : ℕ → ℕ → ℕ → ℕ → ℤ → ℤ → ℕ → List SignedLemma
triangle_lemmas den floor positive last constant once total =
    falls (function 0 one_form ∷ []) 1 [] (pays 1 [] ∷ []) (Constant 1)
    ∷ falls square_functions den (keeps 1 ∷ keeps 2 ∷ keeps 3 ∷ keeps 4 ∷ [])
    (pays_amount 2 form_b (OneRow floor 0 ∷ TwoRows 1 0 0 ∷ TwoRows 2 0 1 ∷ []) (OneRow positive 1 ∷ []) ∷ [])
    (half_of (pos 1) constant)
    ∷ falls (function 2 to_go ∷ []) 1 (resets 2 form_b 2 ∷ keeps 3 ∷ []) (pays 3 (OneRow 1 0 ∷ []) ∷ [])
    (half_of (pos 1) (pos 0))
    ∷ falls (loop_functions once) 2 (keeps 1 ∷ keeps 2 ∷ keeps 3 ∷ keeps_by 4 (OneRow 2 1 ∷ []) ∷ []) (loop_payments last)
    (half_of (pos 5) (pos 0))
    ∷ composes (Add 1 4) (SumOf (Part (half_of (pos 5) (pos 0)) (Part (Constant total) NoParts))) ∷ []

-- the lemmas are accepted, and the last one states (A*A + 5*A)/2 + 1 for all rules; with one number changed they are
-- refused at the lemma that the change breaks
pub record TrianglesAreBounded : Type 0 where
  pub accepted : refused_first triangle (triangle_lemmas 2 3 1 2 (pos 0) (pos 5) 1) ≡ None
  pub amounts : numbered (stated (triangle_lemmas 2 3 1 2 (pos 0) (pos 5) 1)) 2
      ≡ Some (SumFact (record { rule = 2; form = form_b } ∷ []) (half_of (pos 1) (pos 0)))
  pub all_rules : numbered (stated (triangle_lemmas 2 3 1 2 (pos 0) (pos 5) 1)) 5
      ≡ Some (SumFact (once_charge 1 ∷ once_charge 2 ∷ once_charge 3 ∷ once_charge 4 ∷ [])
      (SumOf (Part (half_of (pos 5) (pos 0)) (Part (Constant 1) NoParts))))
  pub other_den : refused_first triangle (triangle_lemmas 3 3 1 2 (pos 0) (pos 5) 1) ≡ refused_at 2 (BadMove 2)
  pub multiplier : refused_first triangle (triangle_lemmas 2 2 1 2 (pos 0) (pos 5) 1) ≡ refused_at 2 (BadFloor 2)
  pub no_amount : refused_first triangle (triangle_lemmas 2 3 0 2 (pos 0) (pos 5) 1) ≡ refused_at 2 (BadAmount 2)
  pub low_amount : refused_first triangle (triangle_lemmas 2 3 1 2 (negsuc 0) (pos 5) 1) ≡ refused_at 2 LowBound
  pub last_floor : refused_first triangle (triangle_lemmas 2 3 1 1 (pos 0) (pos 5) 1) ≡ refused_at 4 (BadFloor 4)
  pub low_start : refused_first triangle (triangle_lemmas 2 3 1 2 (pos 0) (pos 4) 1) ≡ refused_at 4 (BadMove 1)
  pub low : refused_first triangle (triangle_lemmas 2 3 1 2 (pos 0) (pos 5) 0) ≡ refused_at 5 LowBound
