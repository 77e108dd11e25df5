-- What is checked of nodes, stage by stage.
use Rattle.std.specs.Prelude.{ℕ, Bool, true, false, ◌&&◌, ◌||◌, List, [], ◌∷◌, ◌++◌, map, pos, Option, Some, None}
use Rattle.potential_nodes.specs.potentials.model.Terms.{Literal, Negation, Subtraction}
use Rattle.potential_nodes.specs.signed_bounds.Bounds.{Signed, SumOf, SignedParts, NoParts, Part}
use Rattle.potential_nodes.specs.signed_bounds.Safe.{expands_to_squares}
use Rattle.potential_nodes.specs.signed_bounds.Within.{within}
use Rattle.potential_nodes.specs.Lookup.{is_there, ascends}
use Rattle.potential_nodes.specs.PolynomialTerms.{form_term}
use Rattle.potential_nodes.specs.Certificates.{shows}
use Rattle.potential_nodes.specs.Ground.{Ground}
use Rattle.potential_nodes.specs.Facts.{SignedFact, is_never}
use Rattle.potential_nodes.specs.Checks.{Check, check, BadShape, BadFloor, BadGain, LowBound}
use Rattle.potential_nodes.specs.Tables.{Move, PotentialTable, table_shape, move_check, floor_goal, start_bound}
use Rattle.potential_nodes.specs.Tables.{missing_checks}
use Rattle.potential_nodes.specs.Falls.{FallNode, payer, payment_shape}
use Rattle.potential_nodes.specs.Falls.{sum_shape, floor_check, amount_check, gain_check}
use Rattle.potential_nodes.specs.Falls.{amount_at, gain_parts, fall_bound}
use Rattle.potential_nodes.specs.Peaks.{PeakNode, covered_shape, cited_shape, kept_moves, reset_moves, peak_parts}
use Rattle.potential_nodes.specs.Peaks.{no_amounts, head_check, head_checks}
use Rattle.potential_nodes.specs.PlainPeaks.{RowNode, SizedNode, form_size}
use Rattle.potential_nodes.specs.PhaseNodes.{PhasesNode, first_table, second_table, unit_payment, phases_shape}
use Rattle.potential_nodes.specs.PhaseNodes.{phase_check, phases_signed}

-- the shape of a potential that pays
abbrev pub fall_shape : Ground → List SignedFact → FallNode → List Check
fall_shape g facts n =
    table_shape g n.potential ++ (check BadShape (ascends (map payer n.payments))
    ∷ (map (payment_shape g n.potential) n.payments ++ map (sum_shape facts) n.potential.moves))

-- a gain is never over 0, or a fact is cited for it
abbrev pub gain_bounded : Move → Check
gain_bounded m = check (BadGain m.rule) (is_there m.cited || expands_to_squares (Negation (form_term m.gain)))

-- the bounds of a potential that pays: the gains, and all together
abbrev pub fall_bounds : Ground → List SignedFact → PotentialTable → Signed → List Check
fall_bounds g facts tab b =
    map (gain_check g) tab.moves ++ check LowBound (within g.is_safe tab.den (fall_bound g facts tab) b) ∷ []

-- its payments, and after them the bounds
abbrev pub fall_payments : Ground → List SignedFact → FallNode → Signed → List Check
fall_payments g facts n b =
    map (floor_check g n.potential) n.payments
    ++ (map (amount_check g) n.payments ++ fall_bounds g facts n.potential b)

-- its moves, and after them the payments
abbrev pub fall_moves : Ground → List SignedFact → FallNode → Signed → List Check
fall_moves g facts n b =
    map (move_check g n.potential (amount_at n)) n.potential.moves ++ fall_payments g facts n b

-- its missing moves, and after them its moves
abbrev pub fall_missing : Ground → List SignedFact → FallNode → Signed → List Check
fall_missing g facts n b = missing_checks g n.potential (is_never facts) ++ fall_moves g facts n b

-- the shape of a potential that covers a form
abbrev pub peak_shape : Ground → List SignedFact → PeakNode → List Check
peak_shape g facts n = table_shape g n.potential ++ (covered_shape g n ∷ map (cited_shape facts) n.potential.moves)

-- the function before a step is high enough
abbrev pub peak_floor : Ground → PeakNode → Check
peak_floor g n =
    check (BadFloor n.rule) (shows g.is_safe (g.rows n.rule) n.floor (floor_goal g n.potential n.rule n.form))

-- a level and the bounds of the gains above it together
abbrev pub level_bound : List SignedFact → PotentialTable → Signed → Signed
level_bound facts tab head = SumOf (Part head (gain_parts facts (kept_moves tab)))

-- whether the bound is high enough for a level and the gains above it
abbrev pub is_level_within : List SignedFact → PotentialTable → Signed → Signed → Bool
is_level_within facts tab b head = within expands_to_squares tab.den (level_bound facts tab head) b

-- whether the bound is high enough for each level of a list, with the gains above it
abbrev pub are_levels_within : List SignedFact → PotentialTable → Signed → SignedParts → Bool
are_levels_within facts tab b NoParts = true
are_levels_within facts tab b (Part head heads) = is_level_within facts tab b head && are_levels_within facts tab b
    heads

-- the bounds of a potential that covers a form: the gains, and each level with them
abbrev pub peak_bounds : Ground → List SignedFact → PotentialTable → Signed → List Check
peak_bounds g facts tab b =
    map (gain_check g) tab.moves ++ (head_check g facts tab b (start_bound g tab)
    ∷ head_checks g facts tab b (peak_parts facts (reset_moves tab)))

-- its floor, and after it the bounds
abbrev pub peak_levels : Ground → List SignedFact → PeakNode → Signed → List Check
peak_levels g facts n b = peak_floor g n ∷ peak_bounds g facts n.potential b

-- its moves, and after them floor and bounds
abbrev pub peak_moves : Ground → List SignedFact → PeakNode → Signed → List Check
peak_moves g facts n b =
    map (move_check g n.potential no_amounts) n.potential.moves ++ peak_levels g facts n b

-- its missing moves, and after them its moves
abbrev pub peak_missing : Ground → List SignedFact → PeakNode → Signed → List Check
peak_missing g facts n b = missing_checks g n.potential (is_never facts) ++ peak_moves g facts n b

-- the shape of a node of two phases
abbrev pub phase_shapes : Ground → PhasesNode → List Check
phase_shapes g n = table_shape g (first_table n) ++ (table_shape g (second_table g n) ++ phases_shape g n)

-- the floors and the bound of a node of two phases
abbrev pub phase_bounds : Ground → PhasesNode → Signed → List Check
phase_bounds g n b =
    map (floor_check g (second_table g n)) (map unit_payment n.counted)
    ++ check LowBound (within g.is_safe n.den (phases_signed g n) b) ∷ []

-- its moves, and after them floors and bound
abbrev pub phase_moves : Ground → PhasesNode → Signed → List Check
phase_moves g n b = map (phase_check g n) n.moves ++ phase_bounds g n b

-- whether the bound is high enough for the bounds of a polynomial's monomials, where each has one
abbrev pub is_form_within : Option SignedParts → Signed → Bool
is_form_within None b = false
is_form_within (Some parts) b = within expands_to_squares 1 (SumOf parts) b

-- the bound is high enough for a polynomial by the sizes after a rule
abbrev pub size_bounded : List SignedFact → SizedNode → Signed → ℕ → Check
size_bounded facts n b e = check LowBound (is_form_within (form_size facts n e) b)

-- the missing moves of a node of two phases, for both tables
abbrev pub missing_moves : Ground → List SignedFact → PhasesNode → List Check
missing_moves g facts n =
    missing_checks g (first_table n) (is_never facts) ++ missing_checks g (second_table g n) (is_never facts)

-- what is checked of a node of two phases after its shape
abbrev pub phase_behind : Ground → List SignedFact → PhasesNode → Signed → List Check
phase_behind g facts n b =
    missing_checks g (first_table n) (is_never facts)
    ++ (missing_checks g (second_table g n) (is_never facts) ++ phase_moves g n b)

-- a form is at most a number
abbrev pub row_floor : Ground → RowNode → Check
row_floor g n =
    check (BadFloor n.rule) (shows g.is_safe (g.rows n.rule) n.certificate
    (Subtraction (Literal (pos n.number)) (form_term n.form)))
