-- The texts of lemmas about potentials.
use Rattle.std.specs.Prelude.{ℕ, Bool, true, false, List, [], ◌∷◌, ◌++◌, map, Option, Some, None, slice_get, codes, decimal}
use Rattle.potential_nodes.specs.potentials.model.Programs.{Program}
use Rattle.potential_nodes.specs.potentials.Sums.{Charge}
use Rattle.potential_nodes.specs.Tables.{SymbolFunction, Move, PotentialTable}
use Rattle.potential_nodes.specs.Falls.{Payment, FallNode}
use Rattle.potential_nodes.specs.Peaks.{PeakNode}
use Rattle.potential_nodes.specs.PlainPeaks.{RowNode, SizedNode}
use Rattle.potential_nodes.specs.Combinations.{Combination, Times, Least, Add, Among}
use Rattle.potential_nodes.specs.PhaseNodes.{PhaseMove, CountedRule, PhasesNode}
use Rattle.potential_nodes.specs.SignedNodes.{SignedNode, Fall, Peak, Row, Combined, Sized, InPhases, SignedLemma}
use Rattle.section_writer.specs.Lists.{number_list, word_list}
use Rattle.section_writer.specs.Texts.{symbol_name}
use Rattle.potential_writer.specs.Parts.{poly_text, form_text, certificate_text}
use Rattle.potential_writer.specs.Bounds.{bound_text}

-- the name of a symbol and its function, and functions
abbrev pub function_text : Program → SymbolFunction → List ℕ
function_text p f = symbol_name (slice_get p.symbols f.symbol) ++ (codes " " ++ poly_text f.form)

unfoldable pub functions_text : Program → List SymbolFunction → List ℕ
functions_text p fs = codes "functions " ++ word_list (map (function_text p) fs)

-- whether a move keeps the function or sets it anew
abbrev pub kind_text : Bool → List ℕ
kind_text true = codes " keep "
kind_text false = codes " reset "

-- the lemma that a move cites, if it cites one
abbrev pub cited_text : Option ℕ → List ℕ
cited_text None = []
cited_text (Some n) = codes " by " ++ decimal n

-- a move, and a potential
abbrev pub move_text : Move → List ℕ
move_text m = decimal m.rule ++ (kind_text m.keeps ++ (poly_text m.gain ++ (cited_text m.cited ++ (codes " "
    ++ certificate_text m.certificate))))

unfoldable pub table_text : Program → PotentialTable → List ℕ
table_text p t = functions_text p t.functions ++ (codes " den " ++ (decimal t.den ++ (codes " moves "
    ++ word_list (map move_text t.moves))))

-- a payment, and a charge
abbrev pub payment_text : Payment → List ℕ
payment_text y = form_text y.rule y.amount ++ (codes " " ++ (certificate_text y.floor
    ++ (codes " " ++ certificate_text y.positive)))

abbrev pub charge_text : Charge → List ℕ
charge_text c = form_text c.rule c.form

-- a move of two phases, and a rule that they count
abbrev pub phase_move_text : PhaseMove → List ℕ
phase_move_text m =
    decimal m.rule ++ (codes " " ++ (certificate_text m.first ++ (codes " " ++ certificate_text m.second)))

abbrev pub counted_text : CountedRule → List ℕ
counted_text c = decimal c.rule ++ (codes " " ++ certificate_text c.floor)

-- the rules that two phases count
unfoldable pub counts_text : List CountedRule → List ℕ
counts_text counted = codes " counts " ++ word_list (map counted_text counted)

-- the denominator, the moves and the counted rules of two phases
unfoldable pub phase_steps_text : PhasesNode → List ℕ
phase_steps_text n = codes " den " ++ (decimal n.den ++ (codes " moves "
    ++ (word_list (map phase_move_text n.moves) ++ counts_text n.counted)))

-- a composition
abbrev pub combination_text : Combination → List ℕ
combination_text (Times t form a b) =
    codes "times " ++ (form_text t form ++ (codes " by " ++ (decimal a ++ (codes " " ++ decimal b))))
combination_text (Least a b) = codes "least " ++ (decimal a ++ (codes " " ++ decimal b))
combination_text (Add a b) = codes "add " ++ (decimal a ++ (codes " " ++ decimal b))
combination_text (Among goal a) = codes "among " ++ (word_list (map charge_text goal) ++ (codes " by " ++ decimal a))

-- a polynomial that is at most a number, and one that is bounded by sizes
abbrev pub row_text : RowNode → List ℕ
row_text n = codes "row " ++ (form_text n.rule n.form ++ (codes " " ++ (certificate_text n.certificate
    ++ (codes " most " ++ decimal n.number))))

abbrev pub sized_text : SizedNode → List ℕ
sized_text n = codes "sized " ++ (form_text n.rule n.form ++ (codes " by " ++ number_list n.cited))

-- a potential that pays, one that covers a polynomial, and two phases
abbrev pub fall_text : Program → FallNode → List ℕ
fall_text p n = codes "fall " ++ (table_text p n.potential ++ (codes " pays " ++ word_list (map payment_text n.payments)))

abbrev pub peak_text : Program → PeakNode → List ℕ
peak_text p n = codes "peak " ++ (form_text n.rule n.form ++ (codes " " ++ (certificate_text n.floor
    ++ (codes " " ++ table_text p n.potential))))

abbrev pub phases_text : Program → PhasesNode → List ℕ
phases_text p n = codes "phases " ++ (functions_text p n.firsts ++ (codes " "
    ++ (functions_text p n.seconds ++ phase_steps_text n)))

-- a node
abbrev pub node_text : Program → SignedNode → List ℕ
node_text p (Fall n) = fall_text p n
node_text p (Peak n) = peak_text p n
node_text p (Row n) = row_text n
node_text p (Combined n) = combination_text n
node_text p (Sized n) = sized_text n
node_text p (InPhases n) = phases_text p n

-- the line of a lemma, and the lines of lemmas
abbrev pub lemma_line : Program → SignedLemma → List ℕ
lemma_line p l =
    codes "signed " ++ (node_text p l.node ++ (codes " to " ++ (bound_text l.bound ++ codes "\n")))

abbrev pub lemma_lines : Program → List SignedLemma → List ℕ
lemma_lines p [] = []
lemma_lines p (l ∷ lemmas) = lemma_line p l ++ lemma_lines p lemmas
