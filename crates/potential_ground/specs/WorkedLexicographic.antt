-- A worked example with a lexicographic loop: functions that are reset, with peaks of the values that they are reset
-- to.
use Rattle.std.specs.Prelude.{◌≡◌, ℕ, List, [], ◌∷◌, ℤ, pos, negsuc, Option, Some, None}
use Rattle.guard_prep.specs.model.Terms.{Literal, Variable, Addition, Subtraction}
use Rattle.guard_prep.specs.model.Programs.{Program, AtLeast, AtMost, MoreThan, Compare}
use Rattle.potential_nodes.specs.model.Polynomials.{Monomial, Polynomial}
use Rattle.potential_nodes.specs.signed_bounds.Bounds.{Signed, Constant, PositivePart, SumOf, ProductOf, Quotient, Root, NoParts}
use Rattle.potential_nodes.specs.signed_bounds.Bounds.{Part, signed_val}
use Rattle.potential_nodes.specs.Lookup.{numbered}
use Rattle.potential_nodes.specs.Certificates.{OneRow, TwoRows}
use Rattle.potential_nodes.specs.Facts.{SumFact, PeakFact, one_form, once_charge}
use Rattle.potential_nodes.specs.Tables.{SymbolFunction, Move}
use Rattle.potential_nodes.specs.Falls.{Payment}
use Rattle.potential_nodes.specs.PhaseNodes.{PhasesNode}
use Rattle.potential_nodes.specs.Checks.{BadShape, MissingTime, BadMove, BadFloor, BadAmount, BadGain, LowBound}
use Rattle.potential_nodes.specs.Combinations.{Times, Add}
use Rattle.potential_nodes.specs.SignedNodes.{SignedLemma, InPhases}
use Rattle.potential_nodes.specs.Worked.{number, times}
use Rattle.potential_ground.specs.WorkedParts.{falls, peaks, composes, function, keeps, gains, resets, pays, over_two_symbols, rule, refused_first, stated, refused_at}

-- l0(A, B, C) -> l1(A, B, C); l1 -> l1(A - 1, C, C) where A >= 1 and B <= 0; l1 -> l1(A, B - 1, C) where A >= 1 and
-- B >= 1
abbrev pub lexicographic : Program
lexicographic = over_two_symbols 3 (rule 3 0 1 ((Variable 0) ∷ (Variable 1) ∷ (Variable 2) ∷ []) []
    ∷ rule 3 1 1 ((Subtraction (Variable 0) (Literal (pos 1))) ∷ (Variable 2) ∷ (Variable 2) ∷ []) (Compare (Variable 0) AtLeast (Literal (pos 1)) ∷ Compare (Variable 1) AtMost (Literal (pos 0)) ∷ [])
    ∷ rule 3 1 1 ((Variable 0) ∷ (Subtraction (Variable 1) (Literal (pos 1))) ∷ (Variable 2) ∷ []) (Compare (Variable 0) AtLeast (Literal (pos 1)) ∷ Compare (Variable 1) AtLeast (Literal (pos 1)) ∷ []) ∷ [])

-- the positive parts of A, B and C, and the product of those of A and C
abbrev pub part_a : Signed
part_a = PositivePart (times (pos 1) 0 ∷ [])

abbrev pub part_b : Signed
part_b = PositivePart (times (pos 1) 1 ∷ [])

abbrev pub part_c : Signed
part_c = PositivePart (times (pos 1) 2 ∷ [])

abbrev pub product_a_c : Signed
product_a_c = ProductOf (Part part_a (Part part_c NoParts))

-- A, B and C as polynomials
abbrev pub form_a : Polynomial
form_a = times (pos 1) 0 ∷ []

abbrev pub form_b : Polynomial
form_b = times (pos 1) 1 ∷ []

abbrev pub form_c : Polynomial
form_c = times (pos 1) 2 ∷ []

-- the total [A]*[C] + [A] + [B] plus a number
abbrev pub total : ℕ → Signed
total n = SumOf (Part product_a_c (Part part_a (Part part_b (Part (Constant n) NoParts))))

-- the lemmas: rule 1 occurs once and rule 2 at most [A] times; B before rule 1 is at most [B] and C before rule 2 at
-- most [C], so their sums are at most [B] and [A]*[C]; rule 3 lowers B, which rules 1 and 2 reset; the sum of A before
-- rule 1 is at most [A]; and all rules together by a function that rule 1 resets to A and that rule 3 raises by 1. The
-- parameters are the gain of rule 2, the row of rule 3's floor, the function that covers C, and the constant of the
-- total
abbrev pub lexicographic_lemmas : Polynomial → ℕ → Polynomial → ℕ → List SignedLemma
lexicographic_lemmas gain row cover constant =
    falls (function 0 one_form ∷ []) 1 [] (pays 1 [] ∷ []) (Constant 1)
    ∷ falls (function 0 form_a ∷ function 1 form_a ∷ []) 1 (keeps 1 ∷ keeps 2 ∷ keeps 3 ∷ [])
    (pays 2 (OneRow 1 0 ∷ []) ∷ []) part_a
    ∷ peaks (function 0 form_b ∷ []) [] 1 form_b part_b
    ∷ peaks (function 0 cover ∷ function 1 cover ∷ []) (keeps 1 ∷ keeps 2 ∷ keeps 3 ∷ []) 2 form_c part_c
    ∷ composes (Times 1 form_b 1 3) part_b
    ∷ composes (Times 2 form_c 2 4) product_a_c
    ∷ falls (function 1 form_b ∷ []) 1 (resets 1 form_b 5 ∷ resets 2 gain 6 ∷ keeps 3 ∷ []) (pays 3 (OneRow 1 row ∷ []) ∷ [])
    (SumOf (Part product_a_c (Part part_b NoParts)))
    ∷ peaks (function 0 form_a ∷ []) [] 1 form_a part_a
    ∷ composes (Times 1 form_a 1 8) part_a
    ∷ falls (function 0 one_form ∷ function 1 form_a ∷ []) 1
    (gains 1 form_a (Some 9) ∷ keeps 2 ∷ gains 3 one_form (Some 7) ∷ [])
    (pays 1 [] ∷ pays 2 (OneRow 1 0 ∷ []) ∷ pays 3 (OneRow 1 0 ∷ []) ∷ []) (total constant) ∷ []

-- the lemmas are accepted, and the last one states [A]*[C] + [A] + [B] + 1 for all rules; with one number changed they
-- are refused at the lemma that the change breaks
pub record LexicographicLoopsAreBounded : Type 0 where
  pub accepted : refused_first lexicographic (lexicographic_lemmas form_c 1 form_c 1) ≡ None
  pub third_rule : numbered (stated (lexicographic_lemmas form_c 1 form_c 1)) 7
      ≡ Some (SumFact (once_charge 3 ∷ []) (SumOf (Part product_a_c (Part part_b NoParts))))
  pub all_rules : numbered (stated (lexicographic_lemmas form_c 1 form_c 1)) 10
      ≡ Some (SumFact (once_charge 1 ∷ once_charge 2 ∷ once_charge 3 ∷ []) (total 1))
  pub other_gain : refused_first lexicographic (lexicographic_lemmas form_b 1 form_c 1) ≡ refused_at 7 BadShape
  pub other_row : refused_first lexicographic (lexicographic_lemmas form_c 0 form_c 1) ≡ refused_at 7 (BadFloor 3)
  pub low_function : refused_first lexicographic (lexicographic_lemmas form_c 1 (number (negsuc 0) ∷ form_c) 1)
      ≡ refused_at 4 (BadFloor 2)
  pub low : refused_first lexicographic (lexicographic_lemmas form_c 1 form_c 0) ≡ refused_at 10 LowBound
