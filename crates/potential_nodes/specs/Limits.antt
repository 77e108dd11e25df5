-- The limits on the size of a lemma, so that checking it takes little time.
use Rattle.std.specs.Prelude.{ℕ, Bool, true, ◌&&◌, not, nat_le, List, [], ◌∷◌, length}
use Rattle.std.specs.List.{list_all}
use Rattle.potentials.specs.model.Limits.{monomial_limit, degree_limit}
use Rattle.potentials.specs.model.Polynomials.{Monomial, Polynomial}
use Rattle.potentials.specs.Sums.{Charge}
use Rattle.signed_bounds.specs.Bounds.{Signed}
use Rattle.signed_bounds.specs.Measure.{exceeds_limits}
use Rattle.potential_nodes.specs.Certificates.{Summand}
use Rattle.potential_nodes.specs.Tables.{SymbolFunction, Move, PotentialTable}
use Rattle.potential_nodes.specs.Falls.{Payment, FallNode}
use Rattle.potential_nodes.specs.Peaks.{PeakNode}
use Rattle.potential_nodes.specs.Combinations.{Combination, Times, Least, Add, Among}
use Rattle.potential_nodes.specs.PlainPeaks.{RowNode, SizedNode}
use Rattle.potential_nodes.specs.PhaseNodes.{PhaseMove, CountedRule, PhasesNode}
use Rattle.potential_nodes.specs.SignedNodes.{SignedNode, Fall, Peak, Row, Combined, Sized, InPhases}

-- the maximum number of summands of a certificate
abbrev pub summand_limit : ℕ
summand_limit = 1024

-- whether a certificate has at most 1,024 summands
abbrev pub is_short : List Summand → Bool
is_short summands = nat_le (length summands) summand_limit

-- whether a monomial has at most 8 factors, and a polynomial at most 64 such monomials
abbrev pub is_small_monomial : Monomial → Bool
is_small_monomial m = nat_le (length m.vars) degree_limit

abbrev pub is_small : Polynomial → Bool
is_small p = nat_le (length p) monomial_limit && list_all is_small_monomial p

-- whether the polynomials and certificates of functions, moves, payments, phases and charges are within the limits
abbrev pub is_small_function : SymbolFunction → Bool
is_small_function f = is_small f.form

abbrev pub is_small_move : Move → Bool
is_small_move m = is_small m.gain && is_short m.certificate

abbrev pub is_small_table : PotentialTable → Bool
is_small_table tab = list_all is_small_function tab.functions && list_all is_small_move tab.moves

abbrev pub is_small_payment : Payment → Bool
is_small_payment y = is_small y.amount && (is_short y.floor && is_short y.positive)

abbrev pub is_small_phase_move : PhaseMove → Bool
is_small_phase_move m = is_short m.first && is_short m.second

abbrev pub is_small_counted : CountedRule → Bool
is_small_counted c = is_short c.floor

abbrev pub is_small_charge : Charge → Bool
is_small_charge c = is_small c.form

abbrev pub is_small_combination : Combination → Bool
is_small_combination (Times rule form time peak) = is_small form
is_small_combination (Least a b) = true
is_small_combination (Add a b) = true
is_small_combination (Among goal a) = list_all is_small_charge goal

-- a node's polynomials and certificates are within the limits
abbrev pub is_small_node : SignedNode → Bool
is_small_node (Fall n) = is_small_table n.potential && list_all is_small_payment n.payments
is_small_node (Peak n) = is_small_table n.potential && (is_small n.form && is_short n.floor)
is_small_node (Row n) = is_small n.form && is_short n.certificate
is_small_node (Combined n) = is_small_combination n
is_small_node (Sized n) = is_small n.form
is_small_node (InPhases n) =
    (list_all is_small_function n.firsts && list_all is_small_function n.seconds)
    && (list_all is_small_phase_move n.moves && list_all is_small_counted n.counted)

-- a lemma is within the limits: its node is, and the bound that it states
abbrev pub is_within_limits : SignedNode → Signed → Bool
is_within_limits n b = is_small_node n && not (exceeds_limits b)
