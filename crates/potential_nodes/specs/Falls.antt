-- A potential that pays for charges: when a node of this kind is accepted, and the fact that it states.
use Rattle.std.specs.Prelude.{ℕ, Bool, true, ◌&&◌, ◌||◌, List, [], ◌∷◌, ◌++◌, map, Option, Some, None}
use Rattle.potentials.specs.model.Terms.{Negation}
use Rattle.potentials.specs.model.Programs.{rule_at}
use Rattle.potentials.specs.model.Polynomials.{Polynomial, polynomial_value}
use Rattle.potentials.specs.model.Paths.{source_in}
use Rattle.potentials.specs.Sums.{Charge}
use Rattle.potentials.specs.Potentials.{Goal}
use Rattle.signed_bounds.specs.Bounds.{Signed, SumOf, SignedParts, NoParts, Part}
use Rattle.signed_bounds.specs.Within.{within}
use Rattle.potential_nodes.specs.Lookup.{lookup, is_there, ascends}
use Rattle.potential_nodes.specs.PolynomialTerms.{form_term, reads_below}
use Rattle.potential_nodes.specs.Certificates.{Summand, shows}
use Rattle.potential_nodes.specs.Ground.{Ground}
use Rattle.potential_nodes.specs.Facts.{SignedFact, sum_bound, is_never}
use Rattle.potential_nodes.specs.Checks.{Check, check, BadShape, BadFloor, BadAmount, BadGain, LowBound}
use Rattle.potential_nodes.specs.Tables.{Move, PotentialTable, move_charge, has_function, floor_goal, table_shape}
use Rattle.potential_nodes.specs.Tables.{missing_checks, move_check, start_bound}

-- a payment: the rule, the amount over its variables, and certificates that the function before the step bears the
-- amount and that it isn't negative
pub record Payment : Type 0 where
  pub rule : ℕ
  pub amount : Polynomial
  pub floor : List Summand
  pub positive : List Summand

-- a potential, and its payments
pub record FallNode : Type 0 where
  pub potential : PotentialTable
  pub payments : List Payment

-- the rule of a payment; the payment of a rule, if there is one; and its amount, 0 if there is none
abbrev pub payer : Payment → ℕ
payer y = y.rule

abbrev pub payment_at : FallNode → ℕ → Option Payment
payment_at n t = lookup payer t n.payments

abbrev pub amount_in : Option Payment → Polynomial
amount_in None = []
amount_in (Some y) = y.amount

abbrev pub amount_at : FallNode → ℕ → Polynomial
amount_at n t = amount_in (payment_at n t)

-- the goal of a node: the amounts of its payments, as a goal and as charges
abbrev pub goal_of : FallNode → Goal
goal_of n = record {
  is_paid = λ t. is_there (payment_at n t);
  amount = λ t env. polynomial_value (amount_at n t) env;
}

abbrev pub payment_charge : Payment → Charge
payment_charge y = record { rule = y.rule; form = y.amount }

abbrev pub charges_of : FallNode → List Charge
charges_of n = map payment_charge n.payments

-- the check of a payment's shape: its rule leaves a symbol with a function, and its amount reads the rule's variables
-- alone
abbrev pub payment_shape : Ground → PotentialTable → Payment → Check
payment_shape g tab y = check BadShape
    (has_function tab (source_in (rule_at g.program y.rule)) && reads_below (g.variables y.rule) y.amount)

-- the bound that the cited fact states on the sum of a move's gain, if a fact is cited
abbrev pub sum_cited_by : List SignedFact → Move → Option ℕ → Option Signed
sum_cited_by facts m None = None
sum_cited_by facts m (Some n) = sum_bound facts (move_charge m ∷ []) n

abbrev pub sum_cited : List SignedFact → Move → Option Signed
sum_cited facts m = sum_cited_by facts m m.cited

-- whether the fact that a move cites, if it cites one, is on the sum of its gain
abbrev pub cites_sum_by : List SignedFact → Move → Option ℕ → Bool
cites_sum_by facts m None = true
cites_sum_by facts m (Some n) = is_there (sum_bound facts (move_charge m ∷ []) n)

abbrev pub sum_shape : List SignedFact → Move → Check
sum_shape facts m = check BadShape (cites_sum_by facts m m.cited)

-- the check of a move's gain: the gain is never over 0, or a fact is cited for it
abbrev pub gain_check : Ground → Move → Check
gain_check g m = check (BadGain m.rule) (is_there m.cited || g.is_safe (Negation (form_term m.gain)))

-- the checks of a payment's certificates
abbrev pub floor_check : Ground → PotentialTable → Payment → Check
floor_check g tab y =
    check (BadFloor y.rule) (shows g.is_safe (g.rows y.rule) y.floor (floor_goal g tab y.rule y.amount))

abbrev pub amount_check : Ground → Payment → Check
amount_check g y = check (BadAmount y.rule) (shows g.is_safe (g.rows y.rule) y.positive (form_term y.amount))

-- the bounds on the sums of the gains of moves
abbrev pub with_bound : Option Signed → SignedParts → SignedParts
with_bound None parts = parts
with_bound (Some b) parts = Part b parts

abbrev pub gain_parts : List SignedFact → List Move → SignedParts
gain_parts facts [] = NoParts
gain_parts facts (m ∷ moves) = with_bound (sum_cited facts m) (gain_parts facts moves)

-- the bound of a node, times den: the level at the start plus the gains
abbrev pub fall_bound : Ground → List SignedFact → PotentialTable → Signed
fall_bound g facts tab = SumOf (Part (start_bound g tab) (gain_parts facts tab.moves))

-- the checks of a node that pays for charges, after lemmas with these facts, in the order of the reasons
abbrev pub fall_checks : Ground → List SignedFact → FallNode → Signed → List Check
fall_checks g facts n b =
    (table_shape g n.potential ++ (check BadShape (ascends (map payer n.payments))
    ∷ (map (payment_shape g n.potential) n.payments ++ map (sum_shape facts) n.potential.moves)))
    ++ (missing_checks g n.potential (is_never facts)
    ++ (map (move_check g n.potential (amount_at n)) n.potential.moves
    ++ (map (floor_check g n.potential) n.payments
    ++ (map (amount_check g) n.payments
    ++ (map (gain_check g) n.potential.moves
    ++ check LowBound (within g.is_safe n.potential.den (fall_bound g facts n.potential) b) ∷ [])))))
