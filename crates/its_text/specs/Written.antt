-- Programs as they are written, with names in place of numbers. Each list has its last element first.
use Rattle.std.specs.Prelude.{ℕ, List, [], ◌∷◌, codes, Option, Some, None}
use Rattle.expr_text.specs.model.Programs.{Name}
use Rattle.expr_text.specs.Trees.{Sum, sum_behind}
use Rattle.expr_text.specs.Guards.{Atoms, atoms_behind}
use Rattle.its_text.specs.Pieces.{Piece, In, Comma, Arrow, CostOpen, CostClose, GuardMark, SquareOpen, SquareClose}
use Rattle.its_text.specs.Pieces.{Remark, word, open_bracket, close_bracket}

-- a rule's left term: a symbol with the names of its arguments
pub record LeftTerm : Type 0 where
  pub name : Name
  pub arguments : List Name

-- a rule's right term: a symbol with expressions
pub record RightTerm : Type 0 where
  pub name : Name
  pub arguments : List Sum

-- the target of a rule: a term within `Com_1(` and `)`, or a term alone
pub data Target : Type 0 where
  Marked : RightTerm → Target
  Bare : RightTerm → Target

-- a rule's guard: none, atoms after `:|:`, or atoms in square brackets; both may have no atoms
pub data Guard : Type 0 where
  NoGuard : Guard
  BehindMark : Option Atoms → Guard
  InSquares : Option Atoms → Guard

-- a rule: the left term, the cost in its arrow or none, its target and its guard
pub record WrittenRule : Type 0 where
  pub left : LeftTerm
  pub cost : Option Sum
  pub target : Target
  pub guard : Guard

-- a section: the goal, the start symbol, the variables, the rules, or a comment with its closing bracket
pub data Section : Type 0 where
  Goal : Section
  Start : Name → Section
  Variables : List Name → Section
  Rules : List WrittenRule → Section
  Comment : List ℕ → Section

-- The tokens of each part after those before it, the last one first.
abbrev pub names_behind : List Name → List Piece → List Piece
names_behind [] before = before
names_behind (a ∷ []) before = word a ∷ before
names_behind (a ∷ b ∷ names) before = word a ∷ Comma ∷ names_behind (b ∷ names) before

abbrev pub sums_behind : List Sum → List Piece → List Piece
sums_behind [] before = before
sums_behind (s ∷ []) before = sum_behind In s before
sums_behind (s ∷ r ∷ sums) before = sum_behind In s (Comma ∷ sums_behind (r ∷ sums) before)

abbrev pub left_behind : LeftTerm → List Piece → List Piece
left_behind t before = close_bracket ∷ names_behind t.arguments (open_bracket ∷ word t.name ∷ before)

abbrev pub right_behind : RightTerm → List Piece → List Piece
right_behind t before = close_bracket ∷ sums_behind t.arguments (open_bracket ∷ word t.name ∷ before)

-- An arrow: `->`, or a cost within `-{` and `}>`.
abbrev pub arrow_behind : Option Sum → List Piece → List Piece
arrow_behind None before = Arrow ∷ before
arrow_behind (Some c) before = CostClose ∷ sum_behind In c (CostOpen ∷ before)

abbrev pub target_behind : Target → List Piece → List Piece
target_behind (Marked t) before = close_bracket ∷ right_behind t (open_bracket ∷ word (codes "Com_1") ∷ before)
target_behind (Bare t) before = right_behind t before

abbrev pub maybe_behind : Option Atoms → List Piece → List Piece
maybe_behind None before = before
maybe_behind (Some atoms) before = atoms_behind In atoms before

abbrev pub guard_behind : Guard → List Piece → List Piece
guard_behind NoGuard before = before
guard_behind (BehindMark atoms) before = maybe_behind atoms (GuardMark ∷ before)
guard_behind (InSquares atoms) before = SquareClose ∷ maybe_behind atoms (SquareOpen ∷ before)

abbrev pub rule_behind : WrittenRule → List Piece → List Piece
rule_behind r before = guard_behind r.guard (target_behind r.target (arrow_behind r.cost (left_behind r.left before)))

abbrev pub rules_behind : List WrittenRule → List Piece → List Piece
rules_behind [] before = before
rules_behind (r ∷ rules) before = rule_behind r (rules_behind rules before)

abbrev pub words_behind : List Name → List Piece → List Piece
words_behind [] before = before
words_behind (a ∷ names) before = word a ∷ words_behind names before

abbrev pub section_behind : Section → List Piece → List Piece
section_behind Goal before = close_bracket ∷ word (codes "COMPLEXITY") ∷ word (codes "GOAL") ∷ open_bracket ∷ before
section_behind (Start name) before =
    close_bracket ∷ close_bracket ∷ word name ∷ word (codes "FUNCTIONSYMBOLS") ∷ open_bracket ∷ word (codes "STARTTERM")
    ∷ open_bracket ∷ before
section_behind (Variables names) before =
    close_bracket ∷ words_behind names (word (codes "VAR") ∷ open_bracket ∷ before)
section_behind (Rules rules) before = close_bracket ∷ rules_behind rules (word (codes "RULES") ∷ open_bracket ∷ before)
section_behind (Comment bytes) before = Remark bytes ∷ word (codes "COMMENT") ∷ open_bracket ∷ before

-- The tokens of a program, the last one first.
abbrev pub pieces_behind : List Section → List Piece
pieces_behind [] = []
pieces_behind (s ∷ sections) = section_behind s (pieces_behind sections)
