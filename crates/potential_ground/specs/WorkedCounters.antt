-- A worked example with three counters, each of which feeds the next one: constant gains, one after the other.
use Rattle.std.specs.Prelude.{◌≡◌, ℕ, List, [], ◌∷◌, ℤ, pos, negsuc, Option, Some, None}
use Rattle.guard_prep.specs.model.Terms.{Literal, Variable, Addition, Subtraction}
use Rattle.guard_prep.specs.model.Programs.{Program, AtLeast, AtMost, MoreThan, Compare}
use Rattle.potential_nodes.specs.model.Polynomials.{Monomial, Polynomial}
use Rattle.potential_nodes.specs.signed_bounds.Bounds.{Signed, Constant, PositivePart, SumOf, ProductOf, Quotient, Root, NoParts}
use Rattle.potential_nodes.specs.signed_bounds.Bounds.{Part, signed_val}
use Rattle.potential_nodes.specs.Lookup.{numbered}
use Rattle.potential_nodes.specs.Certificates.{OneRow, TwoRows}
use Rattle.potential_nodes.specs.Facts.{SumFact, PeakFact, one_form, once_charge}
use Rattle.potential_nodes.specs.Tables.{SymbolFunction, Move}
use Rattle.potential_nodes.specs.Falls.{Payment}
use Rattle.potential_nodes.specs.PhaseNodes.{PhasesNode}
use Rattle.potential_nodes.specs.Checks.{BadShape, MissingTime, BadMove, BadFloor, BadAmount, BadGain, LowBound}
use Rattle.potential_nodes.specs.Combinations.{Times, Add}
use Rattle.potential_nodes.specs.SignedNodes.{SignedLemma, InPhases}
use Rattle.potential_nodes.specs.Worked.{number, times}
use Rattle.potential_ground.specs.WorkedParts.{falls, composes, function, keeps, gains, pays, over_two_symbols, rule, refused_first, stated, refused_at}

-- weights 3, 2, 1: l0(A, B, C) -> l1(A, B, C); l1 -> l1(A - 1, B + 1, C) where A >= 1; l1 -> l1(A, B - 1, C + 1) where
-- B >= 1; and l1 -> l1(A, B, C - 1) where C >= 1
abbrev pub three_counters : Program
three_counters = over_two_symbols 3 (rule 3 0 1 ((Variable 0) ∷ (Variable 1) ∷ (Variable 2) ∷ []) []
    ∷ rule 3 1 1 ((Subtraction (Variable 0) (Literal (pos 1))) ∷ (Addition (Variable 1) (Literal (pos 1))) ∷ (Variable 2) ∷ []) (Compare (Variable 0) AtLeast (Literal (pos 1)) ∷ [])
    ∷ rule 3 1 1 ((Variable 0) ∷ (Subtraction (Variable 1) (Literal (pos 1))) ∷ (Addition (Variable 2) (Literal (pos 1))) ∷ []) (Compare (Variable 1) AtLeast (Literal (pos 1)) ∷ [])
    ∷ rule 3 1 1 ((Variable 0) ∷ (Variable 1) ∷ (Subtraction (Variable 2) (Literal (pos 1))) ∷ []) (Compare (Variable 2) AtLeast (Literal (pos 1)) ∷ []) ∷ [])

-- the positive parts of A, B and C
abbrev pub part_a : Signed
part_a = PositivePart (times (pos 1) 0 ∷ [])

abbrev pub part_b : Signed
part_b = PositivePart (times (pos 1) 1 ∷ [])

abbrev pub part_c : Signed
part_c = PositivePart (times (pos 1) 2 ∷ [])

-- a sum of two bounds, and one of three; a number times a bound
abbrev pub plus : Signed → Signed → Signed
plus a b = SumOf (Part a (Part b NoParts))

abbrev pub plus_three : Signed → Signed → Signed → Signed
plus_three a b c = SumOf (Part a (Part b (Part c NoParts)))

abbrev pub multiple : ℕ → Signed → Signed
multiple n b = ProductOf (Part (Constant n) (Part b NoParts))

-- one function at both symbols
abbrev pub at_both : List Monomial → List SymbolFunction
at_both q = function 0 q ∷ function 1 q ∷ []

-- the total 3*[A] + 2*[B] + [C] plus a number, where [x] is the positive part of x
abbrev pub total : ℕ → Signed
total n = SumOf (Part (multiple 3 part_a) (Part (multiple 2 part_b) (Part part_c (Part (Constant n) NoParts))))

-- the lemmas: rule 1 occurs once; rule 2 at most [A] times; rule 3 at most [B] + [A] times, since each step by rule 2
-- raises B by the gain; rule 4 likewise; the three loops together by three gains of 1; and all rules by adding up. The
-- parameters are the gain and the lemma that bounds it, the denominator of rule 2's function, its multiplier, and the
-- constant of the totals
abbrev pub counter_lemmas : ℤ → Option ℕ → ℕ → ℕ → ℕ → List SignedLemma
counter_lemmas gain cited den multiplier constant =
    falls (function 0 one_form ∷ []) 1 [] (pays 1 [] ∷ []) (Constant 1)
    ∷ falls (at_both (times (pos 1) 0 ∷ [])) den (keeps 1 ∷ keeps 2 ∷ keeps 3 ∷ keeps 4 ∷ []) (pays 2 (OneRow multiplier 0 ∷ []) ∷ []) part_a
    ∷ falls (at_both (times (pos 1) 1 ∷ [])) 1 (keeps 1 ∷ gains 2 (number gain ∷ []) cited ∷ keeps 3 ∷ keeps 4 ∷ [])
    (pays 3 (OneRow 1 0 ∷ []) ∷ []) (plus part_b part_a)
    ∷ falls (at_both (times (pos 1) 2 ∷ [])) 1 (keeps 1 ∷ keeps 2 ∷ gains 3 one_form (Some 3) ∷ keeps 4 ∷ []) (pays 4 (OneRow 1 0 ∷ []) ∷ [])
    (plus_three part_c part_a part_b)
    ∷ falls (at_both one_form) 1
    (keeps 1 ∷ gains 2 one_form (Some 2) ∷ gains 3 one_form (Some 3) ∷ gains 4 one_form (Some 4) ∷ [])
    (pays 2 [] ∷ pays 3 [] ∷ pays 4 [] ∷ []) (total constant)
    ∷ composes (Add 1 2) (plus (Constant 1) part_a)
    ∷ composes (Add 6 3) (plus_three (multiple 2 part_a) part_b (Constant 1))
    ∷ composes (Add 7 4) (total constant) ∷ []

-- the lemmas are accepted, and the last one states 3*[A] + 2*[B] + [C] + 1 for all rules; with one number changed they
-- are refused at the lemma that the change breaks
pub record ThreeCountersAreBounded : Type 0 where
  pub accepted : refused_first three_counters (counter_lemmas (pos 1) (Some 2) 1 1 1) ≡ None
  pub all_rules : numbered (stated (counter_lemmas (pos 1) (Some 2) 1 1 1)) 8
      ≡ Some (SumFact (once_charge 1 ∷ once_charge 2 ∷ once_charge 3 ∷ once_charge 4 ∷ []) (total 1))
  pub other_gain : refused_first three_counters (counter_lemmas (pos 2) (Some 2) 1 1 1) ≡ refused_at 3 BadShape
  pub no_lemma : refused_first three_counters (counter_lemmas (pos 1) None 1 1 1) ≡ refused_at 3 (BadGain 2)
  pub no_gain : refused_first three_counters (counter_lemmas (pos 0) None 1 1 1) ≡ refused_at 3 (BadMove 2)
  pub own_lemma : refused_first three_counters (counter_lemmas (pos 1) (Some 3) 1 1 1) ≡ refused_at 3 BadShape
  pub half : refused_first three_counters (counter_lemmas (pos 1) (Some 2) 2 1 1) ≡ refused_at 2 (BadMove 2)
  pub by_zero : refused_first three_counters (counter_lemmas (pos 1) (Some 2) 0 1 1) ≡ refused_at 2 BadShape
  pub multiplier : refused_first three_counters (counter_lemmas (pos 1) (Some 2) 1 2 1) ≡ refused_at 2 (BadFloor 2)
  pub low : refused_first three_counters (counter_lemmas (pos 1) (Some 2) 1 1 0) ≡ refused_at 5 LowBound
