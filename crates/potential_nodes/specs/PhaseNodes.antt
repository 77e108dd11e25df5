-- Two phases: when a node of this kind is accepted, and the fact that it states.
use Rattle.std.specs.Prelude.{ℕ, ◌*◌, Bool, true, ◌&&◌, if◌then◌else◌, List, [], ◌∷◌, ◌++◌, map, pos, neg_ℤ}
use Rattle.std.specs.Prelude.{None}
use Rattle.potentials.specs.model.Polynomials.{Polynomial, polynomial_value}
use Rattle.potentials.specs.Phases.{Phases}
use Rattle.signed_bounds.specs.Bounds.{Signed, Constant, PositivePart, SumOf, ProductOf, Root, NoParts}
use Rattle.signed_bounds.specs.Bounds.{Part}
use Rattle.signed_bounds.specs.Within.{within}
use Rattle.potential_nodes.specs.Lookup.{is_there, ascends}
use Rattle.potential_nodes.specs.Certificates.{Summand, shows}
use Rattle.potential_nodes.specs.Ground.{Ground}
use Rattle.potential_nodes.specs.Facts.{SignedFact, same_variables, one_form, is_never}
use Rattle.potential_nodes.specs.Checks.{Check, check, BadShape, BadMove, LowBound}
use Rattle.potential_nodes.specs.Tables.{SymbolFunction, Move, PotentialTable, symbol_of, function_at, form_in}
use Rattle.potential_nodes.specs.Tables.{source_form}
use Rattle.potential_nodes.specs.Tables.{table_shape, missing_checks, move_goal}
use Rattle.potential_nodes.specs.Falls.{Payment, FallNode, payer, payment_at, amount_at, payment_shape}
use Rattle.potential_nodes.specs.Falls.{floor_check}

-- a move of a rule, with the certificates for both functions
pub record PhaseMove : Type 0 where
  pub rule : ℕ
  pub first : List Summand
  pub second : List Summand

-- a counted rule, with the certificate that the second function is at least den before its steps
pub record CountedRule : Type 0 where
  pub rule : ℕ
  pub floor : List Summand

-- the first and the second functions, their common denominator, the moves and the counted rules
pub record PhasesNode : Type 0 where
  pub firsts : List SymbolFunction
  pub seconds : List SymbolFunction
  pub den : ℕ
  pub moves : List PhaseMove
  pub counted : List CountedRule

-- the payment of 1 for a counted rule
abbrev pub unit_payment : CountedRule → Payment
unit_payment c = record { rule = c.rule; amount = one_form; floor = c.floor; positive = [] }

-- the first functions as a potential, which each move keeps without a gain
abbrev pub first_move : PhaseMove → Move
first_move m = record { rule = m.rule; keeps = true; gain = []; cited = None; certificate = m.first }

abbrev pub first_table : PhasesNode → PotentialTable
first_table n = record { functions = n.firsts; den = n.den; moves = map first_move n.moves }

-- the counted rules as payments of 1
abbrev pub phases_fall : PhasesNode → FallNode
phases_fall n = record { potential = first_table n; payments = map unit_payment n.counted }

abbrev pub is_counted : PhasesNode → ℕ → Bool
is_counted n t = is_there (payment_at (phases_fall n) t)

-- the second functions as a potential: the gain of a move of a counted rule is the first function of its source
abbrev pub second_move : Ground → PhasesNode → PhaseMove → Move
second_move g n m = record {
  rule = m.rule;
  keeps = true;
  gain = if is_counted n m.rule then source_form g (first_table n) m.rule else [];
  cited = None;
  certificate = m.second;
}

abbrev pub second_table : Ground → PhasesNode → PotentialTable
second_table g n = record { functions = n.seconds; den = n.den; moves = map (second_move g n) n.moves }

-- the two phases of a node
abbrev pub phases_of : Ground → PhasesNode → Phases
phases_of g n = record {
  has = λ s. is_there (function_at (first_table n) s);
  first = λ s values. polynomial_value (form_in (function_at (first_table n) s)) values;
  second = λ s values. polynomial_value (form_in (function_at (second_table g n) s)) values;
  counted = is_counted n;
}

-- the certificates of a move show that each step by its rule goes in phases
abbrev pub shows_move : Ground → PhasesNode → PotentialTable → Move → Bool
shows_move g n tab m =
    shows g.is_safe (g.rows m.rule) m.certificate (move_goal g tab (amount_at (phases_fall n)) m)

abbrev pub phase_check : Ground → PhasesNode → PhaseMove → Check
phase_check g n m = check (BadMove m.rule)
    (shows_move g n (first_table n) (first_move m) && shows_move g n (second_table g n) (second_move g n m))

-- a polynomial minus a number
abbrev pub less_number : Polynomial → ℕ → Polynomial
less_number q k = record { coef = neg_ℤ (pos k); vars = [] } ∷ q

-- the bound of a node, times den: den, plus twice the first function at the start, plus the root of 2 * den times the
-- second one there less den
abbrev pub phases_root : Ground → PhasesNode → Signed
phases_root g n = Root (ProductOf (Part (Constant (2 * n.den))
    (Part (PositivePart (less_number (form_in (function_at (second_table g n) g.program.start)) n.den)) NoParts)))

abbrev pub phases_signed : Ground → PhasesNode → Signed
phases_signed g n = SumOf (Part (Constant n.den) (Part (ProductOf (Part (Constant 2)
    (Part (PositivePart (form_in (function_at (first_table n) g.program.start))) NoParts)))
    (Part (phases_root g n) NoParts)))

-- the checks of the shape: the same symbols have a first function and a second one
abbrev pub phases_shape : Ground → PhasesNode → List Check
phases_shape g n =
    check BadShape (same_variables (map symbol_of n.firsts) (map symbol_of n.seconds))
    ∷ check BadShape (ascends (map payer (map unit_payment n.counted)))
    ∷ map (payment_shape g (first_table n)) (map unit_payment n.counted)

-- the checks of a node of two phases, after lemmas with these facts, in the order of the reasons
abbrev pub phases_checks : Ground → List SignedFact → PhasesNode → Signed → List Check
phases_checks g facts n b =
    (table_shape g (first_table n) ++ (table_shape g (second_table g n) ++ phases_shape g n))
    ++ (missing_checks g (first_table n) (is_never facts) ++ (missing_checks g (second_table g n) (is_never facts)
    ++ (map (phase_check g n) n.moves
    ++ (map (floor_check g (second_table g n)) (map unit_payment n.counted)
    ++ check LowBound (within g.is_safe n.den (phases_signed g n) b) ∷ []))))
