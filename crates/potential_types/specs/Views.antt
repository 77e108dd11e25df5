-- Lemmas, facts and reasons of the code as plain data.
use Rattle.std.specs.Prelude.{List, map}
use Rattle.poly_terms.specs.Views.{poly_of}
use Rattle.signed_bounds.specs.Views.{signed_of}
use Rattle.potential_nodes.specs.Certificates as certificates
use Rattle.potential_nodes.specs.Checks as checks
use Rattle.potential_nodes.specs.Tables as tables
use Rattle.potential_nodes.specs.potentials.Sums as sums
use Rattle.potential_nodes.specs.Facts as facts
use Rattle.potential_nodes.specs.Falls as falls
use Rattle.potential_nodes.specs.Peaks as peaks
use Rattle.potential_nodes.specs.PlainPeaks as plain_peaks
use Rattle.potential_nodes.specs.Combinations as combinations
use Rattle.potential_nodes.specs.PhaseNodes as phase_nodes
use Rattle.potential_nodes.specs.SignedNodes as signed_nodes
use Rattle.potential_types.specs.declared.summand.Summand.{Summand}
use Rattle.potential_types.specs.declared.summand.Summand.TheVariants.{OneRow, TwoRows, ZeroRow}
use Rattle.potential_types.specs.declared.reason.Reason.{Reason}
use Rattle.potential_types.specs.declared.reason.Reason.TheVariants.{BadShape, MissingTime, BadMove, BadFloor, BadAmount, BadGain, LowBound}
use Rattle.potential_types.specs.declared.tables.SymbolFunction.{SymbolFunction}
use Rattle.potential_types.specs.declared.tables.Move.{Move}
use Rattle.potential_types.specs.declared.tables.PotentialTable.{PotentialTable}
use Rattle.potential_types.specs.declared.facts.Charge.{Charge}
use Rattle.potential_types.specs.declared.facts.SignedFact.{SignedFact}
use Rattle.potential_types.specs.declared.facts.SignedFact.TheVariants.{Sum, Peak, Size}
use Rattle.potential_types.specs.declared.nodes.Payment.{Payment}
use Rattle.potential_types.specs.declared.nodes.FallNode.{FallNode}
use Rattle.potential_types.specs.declared.nodes.PeakNode.{PeakNode}
use Rattle.potential_types.specs.declared.nodes.RowNode.{RowNode}
use Rattle.potential_types.specs.declared.nodes.Combination.{Combination}
use Rattle.potential_types.specs.declared.nodes.Combination.TheVariants.{Times, Least, Add, Among}
use Rattle.potential_types.specs.declared.nodes.SizedNode.{SizedNode}
use Rattle.potential_types.specs.declared.nodes.PhaseMove.{PhaseMove}
use Rattle.potential_types.specs.declared.nodes.CountedRule.{CountedRule}
use Rattle.potential_types.specs.declared.nodes.PhasesNode.{PhasesNode}
use Rattle.potential_types.specs.declared.nodes.SignedNode.{SignedNode}
use Rattle.potential_types.specs.declared.nodes.SignedNode.TheVariants as variants
use Rattle.potential_types.specs.declared.nodes.SignedLemma.{SignedLemma}

-- a summand of a certificate, and a certificate
abbrev pub summand_of : Summand → certificates.Summand
summand_of (OneRow m i) = certificates.OneRow m i
summand_of (TwoRows m i j) = certificates.TwoRows m i j
summand_of (ZeroRow m i k u) = certificates.ZeroRow m i k u

abbrev pub summands_of : List Summand → List certificates.Summand
summands_of summands = map summand_of summands

-- a reason
abbrev pub reason_of : Reason → checks.Reason
reason_of BadShape = checks.BadShape
reason_of (MissingTime t) = checks.MissingTime t
reason_of (BadMove t) = checks.BadMove t
reason_of (BadFloor t) = checks.BadFloor t
reason_of (BadAmount t) = checks.BadAmount t
reason_of (BadGain t) = checks.BadGain t
reason_of LowBound = checks.LowBound

-- a function, a move, and a table
abbrev pub function_of : SymbolFunction → tables.SymbolFunction
function_of f = record { symbol = f.symbol; form = poly_of f.form }

abbrev pub move_of : Move → tables.Move
move_of m = record {
  rule = m.rule;
  keeps = m.keeps;
  gain = poly_of m.gain;
  cited = m.cited;
  certificate = summands_of m.certificate.items;
}

abbrev pub table_of : PotentialTable → tables.PotentialTable
table_of t = record {
  functions = map function_of t.functions.items;
  den = t.den;
  moves = map move_of t.moves.items;
}

-- a charge, and a fact
abbrev pub charge_of : Charge → sums.Charge
charge_of c = record { rule = c.rule; form = poly_of c.form }

abbrev pub fact_view : SignedFact → facts.SignedFact
fact_view (Sum goal b) = facts.SumFact (map charge_of goal.items) (signed_of b)
fact_view (Peak t form b) = facts.PeakFact t (poly_of form) (signed_of b)
fact_view (Size t i b) = facts.SizeFact t i (signed_of b)

-- payments and nodes
abbrev pub payment_of : Payment → falls.Payment
payment_of y = record {
  rule = y.rule;
  amount = poly_of y.amount;
  floor = summands_of y.floor.items;
  positive = summands_of y.positive.items;
}

abbrev pub fall_of : FallNode → falls.FallNode
fall_of n = record { potential = table_of n.potential; payments = map payment_of n.payments.items }

abbrev pub peak_of : PeakNode → peaks.PeakNode
peak_of n = record {
  potential = table_of n.potential;
  rule = n.rule;
  form = poly_of n.form;
  floor = summands_of n.floor.items;
}

abbrev pub row_node_of : RowNode → plain_peaks.RowNode
row_node_of n = record {
  rule = n.rule;
  form = poly_of n.form;
  number = n.number;
  certificate = summands_of n.certificate.items;
}

abbrev pub combination_of : Combination → combinations.Combination
combination_of (Times t form time peak) = combinations.Times t (poly_of form) time peak
combination_of (Least a b) = combinations.Least a b
combination_of (Add a b) = combinations.Add a b
combination_of (Among goal a) = combinations.Among (map charge_of goal.items) a

abbrev pub sized_of : SizedNode → plain_peaks.SizedNode
sized_of n = record { rule = n.rule; form = poly_of n.form; cited = n.cited.items }

abbrev pub phase_move_of : PhaseMove → phase_nodes.PhaseMove
phase_move_of m = record {
  rule = m.rule;
  first = summands_of m.first.items;
  second = summands_of m.second.items;
}

abbrev pub counted_of : CountedRule → phase_nodes.CountedRule
counted_of c = record { rule = c.rule; floor = summands_of c.floor.items }

abbrev pub phases_node_of : PhasesNode → phase_nodes.PhasesNode
phases_node_of n = record {
  firsts = map function_of n.firsts.items;
  seconds = map function_of n.seconds.items;
  den = n.den;
  moves = map phase_move_of n.moves.items;
  counted = map counted_of n.counted.items;
}

abbrev pub node_of : SignedNode → signed_nodes.SignedNode
node_of (variants.Fall n) = signed_nodes.Fall (fall_of n)
node_of (variants.Peak n) = signed_nodes.Peak (peak_of n)
node_of (variants.Row n) = signed_nodes.Row (row_node_of n)
node_of (variants.Combined n) = signed_nodes.Combined (combination_of n)
node_of (variants.Sized n) = signed_nodes.Sized (sized_of n)
node_of (variants.InPhases n) = signed_nodes.InPhases (phases_node_of n)

abbrev pub lemma_of : SignedLemma → signed_nodes.SignedLemma
lemma_of l = record { node = node_of l.node; bound = signed_of l.bound }
