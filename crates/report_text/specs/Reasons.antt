-- Why a time or a size is missing, as it is printed: the text after the colon, and the lines that follow.
use Rattle.std.specs.Prelude.{ℕ, List, [], ◌∷◌, ◌++◌, Option, Some, None, slice_get, codes, decimal}
use Rattle.model.specs.Programs.{Name, Symbol}
use Rattle.cert_types.specs.declared.answer.Question.{Question}
use Rattle.cert_types.specs.declared.answer.Question.TheVariants as questions
use Rattle.farkas_cert.specs.linear_forms.declared.limit_cause.LimitCause.{LimitCause}
use Rattle.farkas_cert.specs.linear_forms.declared.limit_cause.LimitCause.TheVariants as causes
use Rattle.cert_types.specs.declared.answer.LimitHit.{LimitHit}
use Rattle.cert_types.specs.cert_rules.Gaps.{ScaledPoint, SymbolPlace, Gap}
use Rattle.cert_types.specs.cert_rules.AcceptsSizes.{Side, Up, Low}
use Rattle.outcome.specs.Reports.{NoTime, NoFunction, TimeHitLimit, TimeLarge}
use Rattle.outcome.specs.Reports.{NoSize, SizeUnbounded, SizeHitLimit, SizeMissing, SizeNonlinear, SizeUntimed, SizeLarge}
use Rattle.report_text.specs.Pieces.{rules_text, parts_text, point_text, place_text, result_variable_text}

-- the question of a linear program
abbrev pub question_text : Question → List ℕ
question_text (questions.Empty rule) = codes "empty " ++ decimal rule
question_text (questions.Rank rule) = codes "rank " ++ decimal rule
question_text (questions.Local rule place) = codes "local " ++ place_text rule place
question_text (questions.Cost rule) = codes "cost " ++ decimal rule

-- the limit that the linear program exceeded
abbrev pub cause_text : LimitCause → List ℕ
cause_text (causes.Range pivot) = codes "range at pivot " ++ decimal pivot
cause_text (causes.Budget pivots) = codes "budget after " ++ (decimal pivots ++ codes " pivots")
cause_text (causes.Wide entries) = codes "wide " ++ (decimal entries ++ codes " entries")
cause_text causes.Scale = codes "scale"

abbrev pub limit_hit_text : LimitHit → List ℕ
limit_hit_text t = question_text t.question ++ (codes " " ++ cause_text t.cause)

-- the number of nodes of a bound that is too large
abbrev pub large_text : ℕ → List ℕ
large_text nodes = codes "large " ++ (decimal nodes ++ codes " nodes")

-- the name of a symbol
abbrev pub name_in : Option Symbol → Name
name_in None = []
name_in (Some s) = s.name

-- a line for each shut place
abbrev pub shut_line : List Symbol → SymbolPlace → List ℕ
shut_line symbols s =
    codes "  shut " ++ (name_in (slice_get symbols s.symbol) ++ (codes "." ++ (decimal s.place ++ codes "\n")))

abbrev pub shut_lines : List Symbol → List SymbolPlace → List ℕ
shut_lines symbols [] = []
shut_lines symbols (s ∷ shut) = shut_line symbols s ++ shut_lines symbols shut

-- a line for the point of a rule; `word` says what the point is
abbrev pub point_line : List ℕ → ℕ → ScaledPoint → List ℕ
point_line word rule p =
    codes "  " ++ (word ++ (codes " " ++ (decimal rule ++ (codes ": " ++ (point_text p ++ codes "\n")))))

-- a line for the point of each rule of a set
abbrev pub point_lines : List ℕ → List ℕ → List ScaledPoint → List ℕ
point_lines word [] points = []
point_lines word (rule ∷ set) [] = []
point_lines word (rule ∷ set) (p ∷ points) = point_line word rule p ++ point_lines word set points

-- the lines of a gap: its shut places, the moves of its rules, the floor of its rule, and the kept points of its rules
abbrev pub gap_lines : List Symbol → Gap → List ℕ
gap_lines symbols g =
    shut_lines symbols g.shut ++ (point_lines (codes "move") g.set g.moves
    ++ (point_line (codes "floor") g.rule g.floor ++ point_lines (codes "kept") g.set g.kept))

-- no function ranks over the set of the gap
abbrev pub gap_text : List Symbol → Gap → List ℕ
gap_text symbols g =
    codes "no affine ranking function over rules " ++ (rules_text g.set ++ (codes "\n" ++ gap_lines symbols g))

-- why a time is missing
abbrev pub no_time_text : List Symbol → NoTime → List ℕ
no_time_text symbols (NoFunction g) = gap_text symbols g
no_time_text symbols (TimeHitLimit t) = limit_hit_text t ++ codes "\n"
no_time_text symbols (TimeLarge nodes) = large_text nodes ++ codes "\n"

-- an unbounded side, with its ray and the point from which it starts
abbrev pub side_text : Side → List ℕ
side_text Up = codes "loose up\n"
side_text Low = codes "loose low\n"

-- why a size is missing
abbrev pub no_size_text : NoSize → List ℕ
no_size_text (SizeUnbounded side ray kept) =
    side_text side ++ (codes "  ray: " ++ (parts_text ray ++ (codes "\n  kept: " ++ (point_text kept ++ codes "\n"))))
no_size_text (SizeHitLimit t) = limit_hit_text t ++ codes "\n"
no_size_text (SizeMissing s) = codes "missing " ++ (result_variable_text s ++ codes "\n")
no_size_text (SizeNonlinear s) = codes "bent " ++ (result_variable_text s ++ codes "\n")
no_size_text (SizeUntimed rule) = codes "untimed " ++ (decimal rule ++ codes "\n")
no_size_text (SizeLarge nodes) = large_text nodes ++ codes "\n"
