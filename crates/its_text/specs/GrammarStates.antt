-- The state of parsing a program's text, as the tree so far.
use Rattle.std.specs.Prelude.{List, [], ◌∷◌, codes, Option}
use Rattle.expr_text.specs.model.Programs.{Name}
use Rattle.expr_text.specs.Trees.{Sum}
use Rattle.expr_text.specs.GrammarStates.{GrammarState as ExpressionState, behind_state as expression_behind}
use Rattle.expr_text.specs.GuardGrammarStates.{GuardGrammarState, guard_behind as atoms_behind}
use Rattle.its_text.specs.Pieces.{Piece, In, Comma, CostOpen, GuardMark, SquareOpen, word, open_bracket, close_bracket}
use Rattle.its_text.specs.Written.{LeftTerm, RightTerm, Target, Marked, Bare, Guard, WrittenRule, Section, Rules}
use Rattle.its_text.specs.Written.{names_behind, sums_behind, left_behind, right_behind, arrow_behind, target_behind}
use Rattle.its_text.specs.Written.{rules_behind, words_behind, pieces_behind}

-- The sections before, and the rules so far of the section that is being read.
pub record Ruling : Type 0 where
  pub sections : List Section
  pub rules : List WrittenRule

-- The left term of a rule and its arrow, with or without a cost, have been read.
pub record ArrowRead : Type 0 where
  pub ruling : Ruling
  pub left : LeftTerm
  pub cost : Option Sum

-- The form of a rule's target: a right term inside `Com_1(` and `)`, or alone.
pub data Wrap : Type 0 where
  InCom : Wrap
  Alone : Wrap

-- The name of a right term has been read.
pub record Aimed : Type 0 where
  pub led : ArrowRead
  pub wrap : Wrap
  pub name : Name

-- The target of a rule has been read.
pub record Headed : Type 0 where
  pub led : ArrowRead
  pub target : Target

-- The parser state, by the part of the text that was read last.
pub data GrammarState : Type 0 where
  -- After nothing, or a whole section.
  Between : List Section → GrammarState
  -- After `(`.
  Opened : List Section → GrammarState
  -- After `(GOAL`, and after `(GOAL COMPLEXITY`.
  GoalNamed : List Section → GrammarState
  GoalRead : List Section → GrammarState
  -- After `(STARTTERM`, then `(`, then `FUNCTIONSYMBOLS`, then the symbol, then `)`.
  StartNamed : List Section → GrammarState
  StartOpened : List Section → GrammarState
  StartListed : List Section → GrammarState
  StartRead : List Section → Name → GrammarState
  StartClosed : List Section → Name → GrammarState
  -- After `(VAR` and names.
  Listing : List Section → List Name → GrammarState
  -- After `(COMMENT`.
  CommentNamed : List Section → GrammarState
  -- After `(RULES` and whole rules.
  AfterRule : Ruling → GrammarState
  -- After a rule's source, its `(`, a left argument after earlier ones, the comma after it, the closing bracket.
  SourceNamed : Ruling → Name → GrammarState
  LeftOpened : Ruling → Name → GrammarState
  LeftRead : Ruling → Name → Name → List Name → GrammarState
  LeftParted : Ruling → Name → Name → List Name → GrammarState
  SourceClosed : Ruling → LeftTerm → GrammarState
  -- After `-{` and a part of a cost.
  Costing : Ruling → LeftTerm → ExpressionState → GrammarState
  -- After the arrow, then `Com_1`, then its `(`.
  Arrowed : ArrowRead → GrammarState
  ComNamed : ArrowRead → GrammarState
  ComOpened : ArrowRead → GrammarState
  -- After the name of a right term, its `(`, a part of an argument after others, the closing bracket within `Com_1(`.
  TargetNamed : Aimed → GrammarState
  RightOpened : Aimed → GrammarState
  Arguing : Aimed → List Sum → ExpressionState → GrammarState
  TargetClosed : ArrowRead → RightTerm → GrammarState
  -- After the target, `:|:`, a name after it that begins a rule or an atom, a part of the atoms after `:|:`.
  Targeted : Headed → GrammarState
  GuardMarked : Headed → GrammarState
  WordRead : Headed → Name → GrammarState
  MarkGuarding : Headed → GuardGrammarState → GrammarState
  -- After `[`, and after a part of the atoms after it.
  SquareOpened : Headed → GrammarState
  SquareGuarding : Headed → GuardGrammarState → GrammarState

-- The rule whose target has been read, with a guard.
abbrev pub rule_with : Headed → Guard → WrittenRule
rule_with h guard = record { left = h.led.left; cost = h.led.cost; target = h.target; guard = guard }

-- The rules so far with that rule.
abbrev pub ruling_with : Headed → Guard → Ruling
ruling_with h guard = record { sections = h.led.ruling.sections; rules = rule_with h guard ∷ h.led.ruling.rules }

-- The sections so far with the section of these rules.
abbrev pub section_of : Ruling → List Section
section_of r = Rules r.rules ∷ r.sections

-- The target of a right term with this form.
abbrev pub wrapped : Wrap → RightTerm → Target
wrapped InCom t = Marked t
wrapped Alone t = Bare t

-- The tokens of each part, the last one first.
abbrev pub ruling_pieces : Ruling → List Piece
ruling_pieces r = rules_behind r.rules (word (codes "RULES") ∷ open_bracket ∷ pieces_behind r.sections)

abbrev pub arrow_pieces : ArrowRead → List Piece
arrow_pieces l = arrow_behind l.cost (left_behind l.left (ruling_pieces l.ruling))

abbrev pub com_pieces : ArrowRead → List Piece
com_pieces l = open_bracket ∷ word (codes "Com_1") ∷ arrow_pieces l

abbrev pub wrap_pieces : ArrowRead → Wrap → List Piece
wrap_pieces l InCom = com_pieces l
wrap_pieces l Alone = arrow_pieces l

abbrev pub aimed_pieces : Aimed → List Piece
aimed_pieces a = word a.name ∷ wrap_pieces a.led a.wrap

abbrev pub headed_pieces : Headed → List Piece
headed_pieces h = target_behind h.target (arrow_pieces h.led)

-- The tokens of arguments with a comma after the last one.
abbrev pub parted_behind : List Sum → List Piece → List Piece
parted_behind [] before = before
parted_behind (s ∷ sums) before = Comma ∷ sums_behind (s ∷ sums) before

-- The tokens that have been read, the last one first.
abbrev pub pieces_read : GrammarState → List Piece
pieces_read (Between ss) = pieces_behind ss
pieces_read (Opened ss) = open_bracket ∷ pieces_behind ss
pieces_read (GoalNamed ss) = word (codes "GOAL") ∷ open_bracket ∷ pieces_behind ss
pieces_read (GoalRead ss) = word (codes "COMPLEXITY") ∷ word (codes "GOAL") ∷ open_bracket ∷ pieces_behind ss
pieces_read (StartNamed ss) = word (codes "STARTTERM") ∷ open_bracket ∷ pieces_behind ss
pieces_read (StartOpened ss) = open_bracket ∷ word (codes "STARTTERM") ∷ open_bracket ∷ pieces_behind ss
pieces_read (StartListed ss) =
    word (codes "FUNCTIONSYMBOLS") ∷ open_bracket ∷ word (codes "STARTTERM") ∷ open_bracket ∷ pieces_behind ss
pieces_read (StartRead ss name) =
    word name ∷ word (codes "FUNCTIONSYMBOLS") ∷ open_bracket ∷ word (codes "STARTTERM") ∷ open_bracket
    ∷ pieces_behind ss
pieces_read (StartClosed ss name) =
    close_bracket ∷ word name ∷ word (codes "FUNCTIONSYMBOLS") ∷ open_bracket ∷ word (codes "STARTTERM") ∷ open_bracket
    ∷ pieces_behind ss
pieces_read (Listing ss names) = words_behind names (word (codes "VAR") ∷ open_bracket ∷ pieces_behind ss)
pieces_read (CommentNamed ss) = word (codes "COMMENT") ∷ open_bracket ∷ pieces_behind ss
pieces_read (AfterRule r) = ruling_pieces r
pieces_read (SourceNamed r name) = word name ∷ ruling_pieces r
pieces_read (LeftOpened r name) = open_bracket ∷ word name ∷ ruling_pieces r
pieces_read (LeftRead r name a earlier) = names_behind (a ∷ earlier) (open_bracket ∷ word name ∷ ruling_pieces r)
pieces_read (LeftParted r name a earlier) =
    Comma ∷ names_behind (a ∷ earlier) (open_bracket ∷ word name ∷ ruling_pieces r)
pieces_read (SourceClosed r t) = left_behind t (ruling_pieces r)
pieces_read (Costing r t e) = expression_behind In e (CostOpen ∷ left_behind t (ruling_pieces r))
pieces_read (Arrowed l) = arrow_pieces l
pieces_read (ComNamed l) = word (codes "Com_1") ∷ arrow_pieces l
pieces_read (ComOpened l) = com_pieces l
pieces_read (TargetNamed a) = aimed_pieces a
pieces_read (RightOpened a) = open_bracket ∷ aimed_pieces a
pieces_read (Arguing a arguments e) = expression_behind In e (parted_behind arguments (open_bracket ∷ aimed_pieces a))
pieces_read (TargetClosed l t) = right_behind t (com_pieces l)
pieces_read (Targeted h) = headed_pieces h
pieces_read (GuardMarked h) = GuardMark ∷ headed_pieces h
pieces_read (WordRead h name) = word name ∷ GuardMark ∷ headed_pieces h
pieces_read (MarkGuarding h g) = atoms_behind In g (GuardMark ∷ headed_pieces h)
pieces_read (SquareOpened h) = SquareOpen ∷ headed_pieces h
pieces_read (SquareGuarding h g) = atoms_behind In g (SquareOpen ∷ headed_pieces h)
