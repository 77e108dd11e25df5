-- A potential that covers a form of a rule: when a node of this kind is accepted, and the fact that it states.
use Rattle.std.specs.Prelude.{ℕ, Bool, true, ◌&&◌, if◌then◌else◌, List, [], ◌∷◌, ◌++◌, map, filter, not, Option, Some}
use Rattle.std.specs.Prelude.{None}
use Rattle.potentials.specs.model.Programs.{rule_at}
use Rattle.potentials.specs.model.Polynomials.{Polynomial}
use Rattle.potentials.specs.model.Paths.{source_in}
use Rattle.signed_bounds.specs.Bounds.{Signed, SumOf, SignedParts, NoParts, Part}
use Rattle.signed_bounds.specs.Within.{within}
use Rattle.potential_nodes.specs.Lookup.{is_there}
use Rattle.potential_nodes.specs.PolynomialTerms.{reads_below}
use Rattle.potential_nodes.specs.Certificates.{Summand, shows}
use Rattle.potential_nodes.specs.Ground.{Ground}
use Rattle.potential_nodes.specs.Facts.{SignedFact, peak_bound, is_never}
use Rattle.potential_nodes.specs.Checks.{Check, check, BadShape, BadFloor, LowBound}
use Rattle.potential_nodes.specs.Tables.{Move, PotentialTable, has_function, floor_goal, table_shape, missing_checks}
use Rattle.potential_nodes.specs.Tables.{move_check, start_bound}
use Rattle.potential_nodes.specs.Falls.{cites_sum_by, gain_check, with_bound, gain_parts}

-- a potential, the form of a rule that it covers, and the certificate that the function before the step is high enough
pub record PeakNode : Type 0 where
  pub potential : PotentialTable
  pub rule : ℕ
  pub form : Polynomial
  pub floor : List Summand

-- no amounts: 0 for each rule
abbrev pub no_amounts : ℕ → Polynomial
no_amounts t = []

-- the check that the rule leaves a symbol with a function, and that the form reads the rule's variables alone
abbrev pub covered_shape : Ground → PeakNode → Check
covered_shape g n = check BadShape
    (has_function n.potential (source_in (rule_at g.program n.rule)) && reads_below (g.variables n.rule) n.form)

-- the bound that the cited fact states on the peak of a move's gain, if a fact is cited
abbrev pub peak_cited_by : List SignedFact → Move → Option ℕ → Option Signed
peak_cited_by facts m None = None
peak_cited_by facts m (Some n) = peak_bound facts m.rule m.gain n

abbrev pub peak_cited : List SignedFact → Move → Option Signed
peak_cited facts m = peak_cited_by facts m m.cited

-- whether the fact that a move cites, if it cites one, is on the peak of its gain
abbrev pub cites_peak_by : List SignedFact → Move → Option ℕ → Bool
cites_peak_by facts m None = true
cites_peak_by facts m (Some n) = is_there (peak_bound facts m.rule m.gain n)

-- the check that a move that keeps the function cites a sum, and one that resets it a peak
abbrev pub cited_shape : List SignedFact → Move → Check
cited_shape facts m =
    check BadShape (if m.keeps then cites_sum_by facts m m.cited else cites_peak_by facts m m.cited)

-- the moves that keep the function, and those that reset it
abbrev pub keeps_function : Move → Bool
keeps_function m = m.keeps

abbrev pub sets_anew : Move → Bool
sets_anew m = not m.keeps

abbrev pub kept_moves : PotentialTable → List Move
kept_moves tab = filter keeps_function tab.moves

abbrev pub reset_moves : PotentialTable → List Move
reset_moves tab = filter sets_anew tab.moves

-- the bounds on the peaks of the resets' gains
abbrev pub peak_parts : List SignedFact → List Move → SignedParts
peak_parts facts [] = NoParts
peak_parts facts (m ∷ moves) = with_bound (peak_cited facts m) (peak_parts facts moves)

-- the check that the stated bound is high enough for a level and the gains above it
abbrev pub head_check : Ground → List SignedFact → PotentialTable → Signed → Signed → Check
head_check g facts tab b head = check LowBound
    (within g.is_safe tab.den (SumOf (Part head (gain_parts facts (kept_moves tab)))) b)

-- the checks that the stated bound is high enough for each level of a list
abbrev pub head_checks : Ground → List SignedFact → PotentialTable → Signed → SignedParts → List Check
head_checks g facts tab b NoParts = []
head_checks g facts tab b (Part head heads) = head_check g facts tab b head ∷ head_checks g facts tab b heads

-- the checks of a node that covers a form, after lemmas with these facts, in the order of the reasons
abbrev pub peak_checks : Ground → List SignedFact → PeakNode → Signed → List Check
peak_checks g facts n b =
    (table_shape g n.potential ++ (covered_shape g n ∷ map (cited_shape facts) n.potential.moves))
    ++ (missing_checks g n.potential (is_never facts)
    ++ (map (move_check g n.potential no_amounts) n.potential.moves
    ++ (check (BadFloor n.rule)
    (shows g.is_safe (g.rows n.rule) n.floor (floor_goal g n.potential n.rule n.form))
    ∷ (map (gain_check g) n.potential.moves
    ++ (head_check g facts n.potential b (start_bound g n.potential)
    ∷ head_checks g facts n.potential b (peak_parts facts (reset_moves n.potential)))))))
