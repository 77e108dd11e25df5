-- A worked example with a loop that closes a gap from either side: a function that is at most 0 after one of its rules.
use Rattle.std.specs.Prelude.{◌≡◌, ℕ, List, [], ◌∷◌, ℤ, pos, negsuc, Option, Some, None}
use Rattle.guard_prep.specs.model.Terms.{Literal, Variable, Addition, Subtraction}
use Rattle.guard_prep.specs.model.Programs.{Program, AtLeast, AtMost, MoreThan, Compare}
use Rattle.potential_nodes.specs.model.Polynomials.{Monomial, Polynomial}
use Rattle.potential_nodes.specs.signed_bounds.Bounds.{Signed, Constant, PositivePart, SumOf, ProductOf, Quotient, Root, NoParts}
use Rattle.potential_nodes.specs.signed_bounds.Bounds.{Part, signed_val}
use Rattle.potential_nodes.specs.Lookup.{numbered}
use Rattle.potential_nodes.specs.Certificates.{OneRow, TwoRows}
use Rattle.potential_nodes.specs.Facts.{SumFact, PeakFact, one_form, once_charge}
use Rattle.potential_nodes.specs.Tables.{SymbolFunction, Move}
use Rattle.potential_nodes.specs.Falls.{Payment}
use Rattle.potential_nodes.specs.PhaseNodes.{PhasesNode}
use Rattle.potential_nodes.specs.Checks.{BadShape, MissingTime, BadMove, BadFloor, BadAmount, BadGain, LowBound}
use Rattle.potential_nodes.specs.Combinations.{Times, Add}
use Rattle.potential_nodes.specs.SignedNodes.{SignedLemma, InPhases}
use Rattle.potential_nodes.specs.Worked.{number, times}
use Rattle.potential_ground.specs.WorkedParts.{falls, peaks, composes, function, keeps, gains, resets, resets_by, pays, over_three_symbols, rule, refused_first, stated, refused_at}

-- l0(A, B) -> l1(A, B) where A >= 0 and B >= 0; l1 -> l1(A + 1, B) where B - A > 2; l1 -> l1(A, B + 1) where A - B > 2;
-- and l1 -> l2(A, B) where A - B <= 2 and B - A <= 2
abbrev pub two_sides : Program
two_sides = over_three_symbols 2 (rule 2 0 1 ((Variable 0) ∷ (Variable 1) ∷ []) (Compare (Variable 0) AtLeast (Literal (pos 0)) ∷ Compare (Variable 1) AtLeast (Literal (pos 0)) ∷ [])
    ∷ rule 2 1 1 ((Addition (Variable 0) (Literal (pos 1))) ∷ (Variable 1) ∷ []) (Compare (Subtraction (Variable 1) (Variable 0)) MoreThan (Literal (pos 2)) ∷ [])
    ∷ rule 2 1 1 ((Variable 0) ∷ (Addition (Variable 1) (Literal (pos 1))) ∷ []) (Compare (Subtraction (Variable 0) (Variable 1)) MoreThan (Literal (pos 2)) ∷ [])
    ∷ rule 2 1 2 ((Variable 0) ∷ (Variable 1) ∷ []) (Compare (Subtraction (Variable 0) (Variable 1)) AtMost (Literal (pos 2)) ∷ Compare (Subtraction (Variable 1) (Variable 0)) AtMost (Literal (pos 2)) ∷ []) ∷ [])

-- B - A - 2 and A - B - 2 as polynomials, and their positive parts
abbrev pub up : Polynomial
up = times (pos 1) 1 ∷ times (negsuc 0) 0 ∷ number (negsuc 1) ∷ []

abbrev pub down : Polynomial
down = times (pos 1) 0 ∷ times (negsuc 0) 1 ∷ number (negsuc 1) ∷ []

abbrev pub part_up : Signed
part_up = PositivePart up

abbrev pub part_down : Signed
part_down = PositivePart down

-- the total 2*[B - A - 2] + [A - B - 2] plus a number
abbrev pub total : ℕ → Signed
total n = SumOf (Part (ProductOf (Part (Constant 2) (Part part_up NoParts))) (Part part_down (Part (Constant n) NoParts)))

-- the moves of the last lemma, without that of rule 4 and with it
abbrev pub three_moves : List Move
three_moves = keeps 1 ∷ gains 2 one_form (Some 4) ∷ gains 3 one_form (Some 5) ∷ []

abbrev pub four_moves : List Move
four_moves = keeps 1 ∷ gains 2 one_form (Some 4) ∷ gains 3 one_form (Some 5) ∷ keeps 4 ∷ []

-- the lemmas: rule 1 occurs once, and B - A - 2 before it is at most its positive part, so its sum is; rule 2 lowers B
-- - A - 2, which rule 1 resets, and which is at most 0 after rule 3; rule 3 lowers A - B - 2, which rule 2 raises by 1;
-- and all rules together. The parameters are the value that rule 3 resets the function to, the gain of rule 2, the
-- function at the start, the constant of the total, and the last lemma's moves
abbrev pub side_lemmas : Polynomial → ℤ → ℕ → ℕ → List Move → List SignedLemma
side_lemmas reset gain first constant moves =
    falls (function 0 one_form ∷ []) 1 [] (pays 1 [] ∷ []) (Constant 1)
    ∷ peaks (function 0 up ∷ []) [] 1 up part_up
    ∷ composes (Times 1 up 1 2) part_up
    ∷ falls (function 1 up ∷ []) 1 (resets 1 up 3 ∷ keeps 2 ∷ resets_by 3 reset (OneRow 1 0 ∷ []) ∷ [])
    (pays 2 (OneRow 1 0 ∷ []) ∷ []) part_up
    ∷ falls (function 0 down ∷ function 1 down ∷ []) 1 (keeps 1 ∷ gains 2 (number gain ∷ []) (Some 4) ∷ keeps 3 ∷ [])
    (pays 3 (OneRow 1 0 ∷ []) ∷ []) (SumOf (Part part_down (Part part_up NoParts)))
    ∷ falls (function 0 (number (pos first) ∷ []) ∷ function 1 one_form ∷ function 2 [] ∷ []) 1 moves
    (pays 1 [] ∷ pays 2 [] ∷ pays 3 [] ∷ pays 4 [] ∷ []) (total constant) ∷ []

-- the lemmas are accepted, and the last one states 2*[B - A - 2] + [A - B - 2] + 2 for all rules; with one number
-- changed they are refused at the lemma that the change breaks
pub record TwoSidesAreBounded : Type 0 where
  pub accepted : refused_first two_sides (side_lemmas [] (pos 1) 2 2 four_moves) ≡ None
  pub all_rules : numbered (stated (side_lemmas [] (pos 1) 2 2 four_moves)) 6
      ≡ Some (SumFact (once_charge 1 ∷ once_charge 2 ∷ once_charge 3 ∷ once_charge 4 ∷ []) (total 2))
  pub low_reset : refused_first two_sides (side_lemmas (number (negsuc 4) ∷ []) (pos 1) 2 2 four_moves)
      ≡ refused_at 4 (BadMove 3)
  pub high_reset : refused_first two_sides (side_lemmas (number (pos 1) ∷ []) (pos 1) 2 2 four_moves)
      ≡ refused_at 4 (BadGain 3)
  pub other_gain : refused_first two_sides (side_lemmas [] (pos 0) 2 2 four_moves) ≡ refused_at 5 BadShape
  pub low_start : refused_first two_sides (side_lemmas [] (pos 1) 1 2 four_moves) ≡ refused_at 6 (BadMove 1)
  pub low : refused_first two_sides (side_lemmas [] (pos 1) 2 1 four_moves) ≡ refused_at 6 LowBound
  pub no_move : refused_first two_sides (side_lemmas [] (pos 1) 2 2 three_moves) ≡ refused_at 6 (MissingTime 4)
  -- a rule without a move is reported before a wrong move
  pub no_move_first : refused_first two_sides (side_lemmas [] (pos 1) 1 2 three_moves) ≡ refused_at 6 (MissingTime 4)
