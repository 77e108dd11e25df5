-- Worked values of nodes that are accepted and nodes that aren't, on a program with one loop.
use Rattle.std.specs.Prelude.{◌≡◌, ℕ, zero, suc, true, false, List, [], ◌∷◌, ℤ, pos, negsuc, Option, Some, None}
use Rattle.potentials.specs.model.Terms.{Term, Literal, Variable, Addition, Subtraction, Multiplication}
use Rattle.potentials.specs.model.Programs.{Program, Rule, LessThan, Compare}
use Rattle.potentials.specs.model.Polynomials.{Monomial, Polynomial}
use Rattle.potentials.specs.model.WorkedRuns.{two_names, over_two_places}
use Rattle.potentials.specs.Sums.{charges, HoldsSum}
use Rattle.signed_bounds.specs.Bounds.{Signed, Constant, PositivePart, signed_val}
use Rattle.signed_bounds.specs.Safe.{expands_to_squares}
use Rattle.potential_nodes.specs.PolynomialTerms.{reads_below}
use Rattle.potential_nodes.specs.Certificates.{OneRow, TwoRows, ZeroRow, are_opposite, shows}
use Rattle.potential_nodes.specs.Ground.{Ground, IsTrueGround}
use Rattle.potential_nodes.specs.Facts.{SignedFact, SumFact, PeakFact, SizeFact, one_form, once_charge}
use Rattle.potential_nodes.specs.Checks.{Reason, BadShape, MissingTime, BadMove, BadFloor, BadGain, LowBound}
use Rattle.potential_nodes.specs.Tables.{SymbolFunction, Move, PotentialTable}
use Rattle.potential_nodes.specs.Combinations.{Times, Least, Add, Among}
use Rattle.potential_nodes.specs.PhaseNodes.{PhasesNode, phases_signed}
use Rattle.potential_nodes.specs.SignedNodes.{SignedNode, Fall, Peak, Row, Combined, Sized, InPhases}
use Rattle.potential_nodes.specs.Acceptance.{refusal}

-- the rules l0(A, B) -> l1(A, B), and l1(A, B) -> l1(A + 1, B) where A < B
abbrev pub entering_loop : Rule
entering_loop = record {
  source = 0;
  target = 1;
  left = 2;
  free = 0;
  names = two_names;
  updates = Variable 0 ∷ Variable 1 ∷ [];
  guard = [];
  cost = None;
}

abbrev pub counting_up : Rule
counting_up = record {
  source = 1;
  target = 1;
  left = 2;
  free = 0;
  names = two_names;
  updates = Addition (Variable 0) (Literal (pos 1)) ∷ Variable 1 ∷ [];
  guard = Compare (Variable 0) LessThan (Variable 1) ∷ [];
  cost = None;
}

-- the program of both
abbrev pub loop : Program
loop = over_two_places (entering_loop ∷ counting_up ∷ [])

-- the row B - A - 1 of rule 2
abbrev pub loop_row : Term
loop_row = Subtraction (Subtraction (Variable 1) (Variable 0)) (Literal (pos 1))

-- the rows and the new values of the loop's steps
abbrev pub loop_rows : ℕ → List Term
loop_rows (suc (suc zero)) = loop_row ∷ []
loop_rows t = []

abbrev pub loop_new_values : ℕ → List Term
loop_new_values (suc (suc zero)) = Addition (Variable 0) (Literal (pos 1)) ∷ Variable 1 ∷ []
loop_new_values t = Variable 0 ∷ Variable 1 ∷ []

abbrev pub loop_ground : Ground
loop_ground = record {
  program = loop;
  rows = loop_rows;
  new_values = loop_new_values;
  variables = λ t. 2;
  places = λ s. 2;
  is_safe = expands_to_squares;
}

-- monomials: a number, and a number times a variable; the polynomials B - A + k, and A
abbrev pub number : ℤ → Monomial
number z = record { coef = z; vars = [] }

abbrev pub times : ℤ → ℕ → Monomial
times z i = record { coef = z; vars = i ∷ [] }

abbrev pub gap : ℤ → Polynomial
gap k = times (pos 1) 1 ∷ times (negsuc 0) 0 ∷ number k ∷ []

abbrev pub value_of_a : Polynomial
value_of_a = times (pos 1) 0 ∷ []

-- the expression -5 * (B * A)
abbrev pub five_times : Term
five_times = Multiplication (Literal (negsuc 4)) (Multiplication (Variable 1) (Variable 0))

-- the expression A * A
abbrev pub a_squared : Term
a_squared = Multiplication (Variable 0) (Variable 0)

-- worked certificates on the row B - A - 1: it shows B - A, which isn't shown without it; 0 minus its square isn't
-- shown; where A and -A are rows, -5*B*A is shown by -5 times their product with B, but not by 4 times; and a row
-- isn't its own negation; where no expression passes the test, the row still shows B - A, since the remainder is 1
-- everywhere, but not B - A - 2, with the remainder -1, nor do no rows show A, or A*A - A*A, which isn't affine as it is
-- written; A and -A are still opposite, and a row isn't its own negation; and unknown 95 is the last that counts
pub record CertificatesAreWorkedOut : Type 0 where
  pub row : shows expands_to_squares (loop_row ∷ []) (OneRow 1 0 ∷ []) (Subtraction (Variable 1) (Variable 0)) ≡ true
  pub no_row : shows expands_to_squares (loop_row ∷ []) [] (Subtraction (Variable 1) (Variable 0)) ≡ false
  pub square : shows expands_to_squares (loop_row ∷ []) (TwoRows 1 0 0 ∷ []) (Literal (pos 0)) ≡ false
  pub zero_row : shows expands_to_squares (Variable 0 ∷ Subtraction (Literal (pos 0)) (Variable 0) ∷ [])
      (ZeroRow (negsuc 4) 0 1 1 ∷ []) five_times ≡ true
  pub other_multiple : shows expands_to_squares (Variable 0 ∷ Subtraction (Literal (pos 0)) (Variable 0) ∷ [])
      (ZeroRow (pos 4) 0 1 1 ∷ []) five_times ≡ false
  pub not_opposite : shows expands_to_squares (loop_row ∷ []) (ZeroRow (pos 0) 0 0 1 ∷ []) (Literal (pos 0)) ≡ false
  pub untested_row : shows (λ t. false) (loop_row ∷ []) (OneRow 1 0 ∷ []) (Subtraction (Variable 1) (Variable 0)) ≡ true
  pub untested_low : shows (λ t. false) (loop_row ∷ []) (OneRow 1 0 ∷ [])
      (Subtraction (Subtraction (Variable 1) (Variable 0)) (Literal (pos 2))) ≡ false
  pub untested_variable : shows (λ t. false) [] [] (Variable 0) ≡ false
  pub untested_product : shows (λ t. false) [] [] (Subtraction a_squared a_squared) ≡ false
  pub untested_opposite : are_opposite (λ t. false) (Variable 0 ∷ Subtraction (Literal (pos 0)) (Variable 0) ∷ [])
      (ZeroRow (pos 0) 0 1 1) ≡ true
  pub untested_same : are_opposite (λ t. false) (loop_row ∷ []) (ZeroRow (pos 0) 0 0 1) ≡ false
  pub last_unknown : shows (λ t. false) (Variable 95 ∷ []) (OneRow 1 0 ∷ []) (Variable 95) ≡ true
  pub no_unknown : shows (λ t. false) (Variable 96 ∷ []) (OneRow 1 0 ∷ []) (Variable 96) ≡ false
  pub reads : reads_below 2 (gap (pos 0)) ≡ true
  pub reads_more : reads_below 1 (gap (pos 0)) ≡ false

-- one function at both symbols
abbrev pub at_both : Polynomial → List SymbolFunction
at_both q = record { symbol = 0; form = q } ∷ record { symbol = 1; form = q } ∷ []

-- a move that keeps the function with a gain, without a cited lemma or a certificate
abbrev pub keep : ℕ → Polynomial → Move
keep t gain = record { rule = t; keeps = true; gain = gain; cited = None; certificate = [] }

-- a potential with one function and these moves
abbrev pub table : ℕ → Polynomial → List Move → PotentialTable
table den q moves = record { functions = at_both q; den = den; moves = moves }

-- a node in which the potential pays 1 for each step by rule 2
abbrev pub pays_once : PotentialTable → SignedNode
pays_once tab = Fall (record {
  potential = tab;
  payments = record { rule = 2; amount = one_form; floor = OneRow 1 0 ∷ []; positive = [] } ∷ [];
})

-- the reason why a node with a bound isn't accepted after these facts; none if it is
abbrev pub refused : List SignedFact → SignedNode → Signed → Option Reason
refused facts n b = refusal loop_ground facts (record { node = n; bound = b })

-- B - A at both symbols pays, with the bound [B - A]; but not with a lower bound, without a move of rule 1 unless it
-- never occurs, with a function that is lower by 1, with A, with den 0, with moves in another order, or with a gain of
-- 1 that no fact bounds
pub record FallsAreWorkedOut : Type 0 where
  pub accepted : refused [] (pays_once (table 1 (gap (pos 0)) (keep 1 [] ∷ keep 2 [] ∷ [])))
      (PositivePart (gap (pos 0))) ≡ None
  pub low : refused [] (pays_once (table 1 (gap (pos 0)) (keep 1 [] ∷ keep 2 [] ∷ []))) (PositivePart (gap (negsuc 0)))
      ≡ Some LowBound
  pub no_move : refused [] (pays_once (table 1 (gap (pos 0)) (keep 2 [] ∷ []))) (PositivePart (gap (pos 0)))
      ≡ Some (MissingTime 1)
  pub never : refused (SumFact (once_charge 1 ∷ []) (Constant 0) ∷ [])
      (pays_once (table 1 (gap (pos 0)) (keep 2 [] ∷ []))) (PositivePart (gap (pos 0))) ≡ None
  pub floor : refused [] (pays_once (table 1 (gap (negsuc 0)) (keep 1 [] ∷ keep 2 [] ∷ [])))
      (PositivePart (gap (pos 0))) ≡ Some (BadFloor 2)
  pub move : refused [] (pays_once (table 1 value_of_a (keep 1 [] ∷ keep 2 [] ∷ []))) (PositivePart (gap (pos 0)))
      ≡ Some (BadMove 2)
  pub denominator : refused [] (pays_once (table 0 (gap (pos 0)) (keep 1 [] ∷ keep 2 [] ∷ [])))
      (PositivePart (gap (pos 0))) ≡ Some BadShape
  pub order : refused [] (pays_once (table 1 (gap (pos 0)) (keep 2 [] ∷ keep 1 [] ∷ []))) (PositivePart (gap (pos 0)))
      ≡ Some BadShape
  pub gain : refused [] (pays_once (table 1 (gap (pos 0)) (keep 1 (number (pos 1) ∷ []) ∷ keep 2 [] ∷ [])))
      (PositivePart (gap (pos 0))) ≡ Some (BadGain 1)

-- a node in which B - A covers B - A at rule 2
abbrev pub covers_gap : SignedNode
covers_gap = Peak (record {
  potential = table 1 (gap (pos 0)) (keep 1 [] ∷ keep 2 [] ∷ []);
  rule = 2;
  form = gap (pos 0);
  floor = [];
})

-- a peak is accepted with its bound, but not with a lower one; A - B + 2 is at most 1 at rule 2, and isn't shown to be
-- at most 0
pub record PeaksAreWorkedOut : Type 0 where
  pub accepted : refused [] covers_gap (PositivePart (gap (pos 0))) ≡ None
  pub low : refused [] covers_gap (PositivePart (gap (negsuc 0))) ≡ Some LowBound
  pub row : refused [] (Row (record {
    rule = 2;
    form = times (pos 1) 0 ∷ times (negsuc 0) 1 ∷ number (pos 2) ∷ [];
    number = 1;
    certificate = OneRow 1 0 ∷ [];
  })) (Constant 1) ≡ None
  pub no_row : refused [] (Row (record {
    rule = 2;
    form = times (pos 1) 0 ∷ times (negsuc 0) 1 ∷ number (pos 2) ∷ [];
    number = 0;
    certificate = OneRow 1 0 ∷ [];
  })) (Constant 1) ≡ Some (BadFloor 2)
  pub sized : refused (SizeFact 0 1 (Constant 4) ∷ []) (Sized (record {
    rule = 1;
    form = times (negsuc 1) 0 ∷ number (negsuc 0) ∷ [];
    cited = 1 ∷ [];
  })) (Constant 8) ≡ None
  pub sized_low : refused (SizeFact 0 1 (Constant 4) ∷ []) (Sized (record {
    rule = 1;
    form = times (negsuc 1) 0 ∷ [];
    cited = 1 ∷ [];
  })) (Constant 7) ≡ Some LowBound
  pub no_size : refused (SizeFact 0 1 (Constant 4) ∷ []) (Sized (record {
    rule = 1;
    form = times (pos 1) 1 ∷ [];
    cited = 1 ∷ [];
  })) (Constant 8) ≡ Some BadShape

-- three lemmas: rule 2 occurs at most 5 times, A is at most 3 before its steps, and rule 1 occurs at most once
abbrev pub three_facts : List SignedFact
three_facts =
    SumFact (once_charge 2 ∷ []) (Constant 5) ∷ PeakFact 2 value_of_a (Constant 3)
    ∷ SumFact (once_charge 1 ∷ []) (Constant 1) ∷ []

-- facts composed of these three, and compositions that fail
pub record CombinationsAreWorkedOut : Type 0 where
  pub product : refused three_facts (Combined (Times 2 value_of_a 1 2)) (Constant 15) ≡ None
  pub product_low : refused three_facts (Combined (Times 2 value_of_a 1 2)) (Constant 14) ≡ Some LowBound
  pub other_rule : refused three_facts (Combined (Times 2 value_of_a 3 2)) (Constant 15) ≡ Some BadShape
  pub added : refused three_facts (Combined (Add 1 3)) (Constant 6) ≡ None
  pub no_sum : refused three_facts (Combined (Add 1 2)) (Constant 6) ≡ Some BadShape
  pub least : refused three_facts (Combined (Least 1 1)) (Constant 4) ≡ Some LowBound
  pub no_least : refused three_facts (Combined (Least 1 3)) (Constant 5) ≡ Some BadShape
  pub among : refused three_facts (Combined (Among [] 1)) (Constant 5) ≡ None
  pub not_among : refused three_facts (Combined (Among (once_charge 1 ∷ []) 1)) (Constant 5) ≡ Some BadShape
  pub no_lemma : refused three_facts (Combined (Among [] 4)) (Constant 5) ≡ Some BadShape

-- a node of two phases with B - A as both functions
abbrev pub gap_phases : PhasesNode
gap_phases = record {
  firsts = at_both (gap (pos 0));
  seconds = at_both (gap (pos 0));
  den = 1;
  moves = record { rule = 1; first = []; second = [] } ∷ record { rule = 2; first = []; second = OneRow 1 0 ∷ [] } ∷ [];
  counted = record { rule = 2; floor = OneRow 1 0 ∷ [] } ∷ [];
}

-- two phases are accepted with the bound that they compose, but not with [B - A]
pub record PhaseNodesAreWorkedOut : Type 0 where
  pub accepted : refused [] (InPhases gap_phases) (phases_signed loop_ground gap_phases) ≡ None
  pub low : refused [] (InPhases gap_phases) (PositivePart (gap (pos 0))) ≡ Some LowBound

-- the rows are true of the loop's steps, so rule 2 occurs at most [B - A] times, and not always at most once less
pub record LoopsAreBounded : Type 0 where
  pub ground : IsTrueGround loop_ground
  pub bound : HoldsSum loop (charges (once_charge 2 ∷ [])) (signed_val (PositivePart (gap (pos 0))))
  pub no_less : ¬ (HoldsSum loop (charges (once_charge 2 ∷ [])) (signed_val (PositivePart (gap (negsuc 0)))))
