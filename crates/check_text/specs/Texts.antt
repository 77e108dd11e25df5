-- The texts of the checker's verdicts: the facts and the gaps of a file that is accepted, the first refusal of one that
-- isn't, and the first fault of a text that isn't that of a proof file.
use Rattle.std.specs.Prelude.{ℕ, List, [], ◌++◌, slice_get, Option, Some, None, codes, decimal}
use Rattle.std.specs.List.{flat_map}
use Rattle.its_model.specs.text_core.Readers.{Fault}
use Rattle.model.specs.Facts.{Fact, Time, Size, Cost}
use Rattle.model.specs.Programs.{Name, Symbol, Program}
use Rattle.bound_text.specs.Texts.{text_of}
use Rattle.cert_types.specs.cert_rules.GapChecks.{GapFault, WrongShape, MoveOff, FloorOff, NotKept, Unbalanced}
use Rattle.cert_types.specs.cert_rules.GapChecks.{LosesNothing}
use Rattle.cert_types.specs.cert_rules.Gaps.{Gap}
use Rattle.cert_types.specs.cert_rules.Reasons.{Reason, Shape, NotEmpty, Reached, NotZero, Move, Floor, SideBoundUp, SideBoundLow}
use Rattle.cert_types.specs.cert_rules.Reasons.{MissingTime, MissingSize, Nonlinear, Large, NotWeaker}
use Rattle.cert_text.specs.cert_lexer.declared.kind.ProofKind.{ProofKind}
use Rattle.cert_text.specs.cert_lexer.declared.kind.ProofKind.TheVariants.{Syntax, NumberTooLarge, TooDeep}
use Rattle.cert_text.specs.cert_lexer.declared.kind.ProofKind.TheVariants.{BadReference, Limit}

-- a rule and a place
abbrev pub place_text : ℕ → ℕ → List ℕ
place_text rule place = decimal rule ++ (codes "." ++ decimal place)

-- the rest of a line: a colon, this text, and the line feed
abbrev pub line_end : List ℕ → List ℕ
line_end text = codes ": " ++ (text ++ codes "\n")

-- the line of a fact; that of the virtual entry has rule 0
abbrev pub fact_line : List Name → Fact → List ℕ
fact_line names (Time rule b) = codes "time " ++ (decimal rule ++ line_end (text_of names b))
fact_line names (Size rule place b) = codes "size " ++ (place_text rule place ++ line_end (text_of names b))
fact_line names (Cost rule b) = codes "cost " ++ (decimal rule ++ line_end (text_of names b))

-- the line of a gap: the rule that no function with coefficient 0 at the shut places ranks
abbrev pub gap_line : ℕ → List ℕ
gap_line rule = codes "gap " ++ (decimal rule ++ codes "\n")

-- a line for each gap, in order
abbrev pub gap_lines : List Gap → List ℕ
gap_lines gaps = flat_map (λ g. gap_line g.rule) gaps

-- the text of a file that is accepted: a line for each of its facts, in order, and then one for each of its gaps
unfoldable pub accepted_text : Program → List Fact → List Gap → List ℕ
accepted_text p facts gaps = codes "accepted\n" ++ (flat_map (fact_line p.start_names) facts ++ gap_lines gaps)

-- a side bound: its rule, its place and its side
abbrev pub side_bound_text : ℕ → ℕ → List ℕ → List ℕ
side_bound_text rule place side = codes "arm " ++ (place_text rule place ++ side)

-- why a node isn't accepted
abbrev pub reason_text : Reason → List ℕ
reason_text Shape = codes "shape"
reason_text NotEmpty = codes "empty"
reason_text Reached = codes "reached"
reason_text NotZero = codes "zero"
reason_text (Move rule) = codes "move " ++ decimal rule
reason_text Floor = codes "floor"
reason_text (SideBoundUp rule place) = side_bound_text rule place (codes " up")
reason_text (SideBoundLow rule place) = side_bound_text rule place (codes " low")
reason_text (MissingTime rule) = codes "missing time " ++ decimal rule
reason_text (MissingSize rule place) = codes "missing size " ++ place_text rule place
reason_text (Nonlinear rule place) = codes "bent " ++ place_text rule place
reason_text (Large nodes) = codes "large " ++ decimal nodes
reason_text NotWeaker = codes "weaker"

-- the node of a lemma that is refused, both counted from 1, and why
abbrev pub refused_node_text : ℕ → ℕ → Reason → List ℕ
refused_node_text lemma node reason =
    codes "no lemma " ++ (decimal lemma ++ (codes " node " ++ (decimal node ++ (codes ": "
    ++ (reason_text reason ++ codes "\n")))))

-- the name of a symbol, if there is one
abbrev pub name_in : Option Symbol → Name
name_in None = []
name_in (Some s) = s.name

-- the balance of a place of a symbol; place 0 is that of the constant
abbrev pub balance_text : List Symbol → ℕ → ℕ → List ℕ
balance_text symbols symbol place =
    codes "balance " ++ (name_in (slice_get symbols symbol) ++ (codes "." ++ decimal place))

-- why a gap doesn't hold
abbrev pub fault_text : List Symbol → GapFault → List ℕ
fault_text symbols WrongShape = codes "shape"
fault_text symbols (MoveOff rule) = codes "move " ++ decimal rule
fault_text symbols FloorOff = codes "floor"
fault_text symbols (NotKept rule) = codes "kept " ++ decimal rule
fault_text symbols (Unbalanced symbol place) = balance_text symbols symbol place
fault_text symbols LosesNothing = codes "nothing"

-- the gap that doesn't hold, counted from 1, and why
abbrev pub refused_gap_text : Program → ℕ → GapFault → List ℕ
refused_gap_text p gap fault =
    codes "no gap " ++ (decimal gap ++ (codes ": " ++ (fault_text p.symbols fault ++ codes "\n")))

-- the text if a proof's file is too long
abbrev pub proof_too_long_text : List ℕ
proof_too_long_text = codes "proof refused: too long\n"

-- what is wrong with a proof's text
abbrev pub proof_kind_text : ProofKind → List ℕ
proof_kind_text Syntax = codes "Syntax"
proof_kind_text NumberTooLarge = codes "NumberTooLarge"
proof_kind_text TooDeep = codes "TooDeep"
proof_kind_text BadReference = codes "BadReference"
proof_kind_text Limit = codes "Limit"

-- the text of a refusal: the byte, from 0, and what is wrong there
abbrev pub proof_refusal_line : ℕ → List ℕ → List ℕ
proof_refusal_line at kind = codes "proof refused at " ++ (decimal at ++ (codes ": " ++ (kind ++ codes "\n")))

abbrev pub proof_refusal_text : Fault ProofKind → List ℕ
proof_refusal_text x = proof_refusal_line x.at (proof_kind_text x.kind)
