-- The part of a while program that has been built up to a token.
use Rattle.std.specs.Prelude.{ℕ, ◌-◌, ◌^◌, min, Bool, false, true, nat_lt, if◌then◌else◌, List, [], ◌∷◌, ◌++◌}
use Rattle.std.specs.Prelude.{take, drop, pos, Option, Some, None}
use Rattle.expr_text.specs.TermGrammarStates.{Level, Operand, Wanted, BaseRead, GrammarState, empty_level, sum_made}
use Rattle.expr_text.specs.TermGrammarStates.{with_number, with_caret}
use Rattle.expr_reader.specs.StateSteps.{behind_plus, behind_minus, behind_times}
use Rattle.text_grammar.specs.text_core.Names.{position_of}
use Rattle.while_text.specs.model.Terms.{Term, Literal, Variable}
use Rattle.while_text.specs.model.Programs.{Name, Atom, Always, Compare}
use Rattle.while_text.specs.while_model.Statements.{Assign, Choose, Skip, Statements}
use Rattle.while_text.specs.while_tree.Views.{Statement, Plain, Loop, Branch, joined}
use Rattle.while_text.specs.declared.piece.Sort.{Sort}
use Rattle.while_text.specs.declared.piece.Sort.TheVariants as sorts
use Rattle.while_text.specs.declared.piece.Piece.{Piece}
use Rattle.while_text.specs.declared.phase.Phase.{Phase}
use Rattle.while_text.specs.declared.phase.Phase.TheVariants as phases
use Rattle.while_text.specs.declared.block.Opener.{Opener}
use Rattle.while_text.specs.declared.block.Opener.TheVariants as openers
use Rattle.while_text.specs.Courses.{Course, is_relation, is_last, opens_block}

-- An open block, with its test and the statements before the statement that it belongs to: the block of a loop, the
-- first block of a branch, or the second one, with the first one.
pub data Block : Type 0 where
  InLoop : List Atom → List Statement → Block
  InFirst : List Atom → List Statement → Block
  InSecond : List Atom → Statements → List Statement → Block

-- The names of the inputs; the variable of the assignment that is being read, and whether its value is `?`; the
-- expression that is being read, and the last one that ended a value; the left side of the atom; the atoms of the test;
-- the kind of the next block; the open blocks, the innermost last; the statements of the innermost one so far; and the
-- positions of all statements.
pub record Draft : Type 0 where
  pub names : List Name
  pub variable : ℕ
  pub chosen : Bool
  pub grammar_state : GrammarState
  pub value : Term
  pub left : Term
  pub test : List Atom
  pub opener : Opener
  pub blocks : List Block
  pub body : List Statement
  pub positions : List ℕ

-- The state of reading an expression before its first token.
abbrev pub no_state : GrammarState
no_state = record { outer = []; level = empty_level; operand = Wanted }

-- The state before the first token.
abbrev pub begun_draft : Draft
begun_draft = record {
  names = [];
  variable = 0;
  chosen = false;
  grammar_state = no_state;
  value = Literal (pos 0);
  left = Literal (pos 0);
  test = [];
  opener = openers.Second;
  blocks = [];
  body = [];
  positions = [];
}

-- The bytes of a token of a text.
abbrev pub bytes_of : List ℕ → Piece → List ℕ
bytes_of text p = take p.len (drop p.at text)

-- The number of an input, or the number of inputs if the name is none of them.
abbrev pub number_of : List Name → Name → ℕ
number_of names name = min (position_of name names) (2 ^ 32 - 1)

-- The term of an expression that ends here.
abbrev pub term_of : GrammarState → Term
term_of f = sum_made f.level f.operand

-- The last element of a list, none if the list is empty, and the elements before it.
abbrev pub last_of : {X : Type 0} → List X → Option X
last_of [] = None
last_of (x ∷ []) = Some x
last_of (x ∷ y ∷ xs) = last_of (y ∷ xs)

abbrev pub before_last : {X : Type 0} → List X → List X
before_last [] = []
before_last (x ∷ []) = []
before_last (x ∷ y ∷ xs) = x ∷ before_last (y ∷ xs)

-- The front after a closing bracket, if one is open.
abbrev pub closed_by : Option Level → GrammarState → GrammarState
closed_by None f = f
closed_by (Some level) f = record { outer = before_last f.outer; level = level; operand = BaseRead (term_of f) }

-- The front after a `-`; an expression within the limit on tokens has fewer of them in a row than the limit here.
abbrev pub with_minus : GrammarState → GrammarState
with_minus f =
    if nat_lt f.level.minuses (2 ^ 32 - 1)
    then record { outer = f.outer; level = behind_minus f.level f.operand; operand = Wanted }
    else f

-- The front after a token; if it is a name, it is the variable with this number.
abbrev pub state_after : ℕ → Sort → GrammarState → GrammarState
state_after x sorts.Name f = record f { operand = BaseRead (Variable x) }
state_after x (sorts.Number n) f = record f { operand = with_number f.operand n }
state_after x sorts.Open f = record { outer = f.outer ++ f.level ∷ []; level = empty_level; operand = f.operand }
state_after x sorts.Close f = closed_by (last_of f.outer) f
state_after x sorts.Plus f = record { outer = f.outer; level = behind_plus f.level f.operand; operand = Wanted }
state_after x sorts.Minus f = with_minus f
state_after x sorts.Times f = record { outer = f.outer; level = behind_times f.level f.operand; operand = Wanted }
state_after x sorts.Caret f = record f { operand = with_caret f.operand }
state_after x _ f = f

-- The front after a token of a text.
abbrev pub with_token : List ℕ → Piece → Draft → GrammarState
with_token text p d = state_after (number_of d.names (bytes_of text p)) p.sort d.grammar_state

-- The draft with one more statement.
abbrev pub with_statement : Statement → Draft → Draft
with_statement s d = record d { body = d.body ++ s ∷ [] }

-- The draft with the position of one more statement.
abbrev pub begins_at : ℕ → Draft → Draft
begins_at at d = record d { positions = d.positions ++ at ∷ [] }

-- The draft after a statement with a test has begun, whose block is of this kind.
abbrev pub begins_test : Opener → ℕ → Draft → Draft
begins_test opener at d = record (begins_at at d) { test = []; opener = opener }

-- The draft after a block has opened inside another.
abbrev pub with_block : Block → Draft → Draft
with_block block d = record d {
  blocks = d.blocks ++ block ∷ [];
  body = [];
  test = [];
  opener = openers.Second;
}

-- A last statement that is a branch is opened again for its second block; any other one stays the last statement.
abbrev pub reopened : Statement → Draft → Draft
reopened (Branch test block other) d = with_block (InSecond test block d.body) d
reopened (Plain action) d = with_statement (Plain action) d
reopened (Loop test block) d = with_statement (Loop test block) d

-- The draft after the second block of the last statement, if it is a branch, has opened.
abbrev pub second_of : Option Statement → Draft → Draft
second_of (Some s) d = reopened s (record d { body = before_last d.body })
second_of None d = d

-- The draft after a block has opened; outside of a test it is the second one of a branch.
abbrev pub block_opens : Opener → Draft → Draft
block_opens openers.Loop d = with_block (InLoop d.test d.body) d
block_opens openers.First d = with_block (InFirst d.test d.body) d
block_opens openers.Second d = second_of (last_of d.body) d

-- The statement of a block that closes, given the statements in it, and the statements before that statement.
abbrev pub statement_of : Block → Statements → Statement
statement_of (InLoop test before) block = Loop test block
statement_of (InFirst test before) block = Branch test block (joined [])
statement_of (InSecond test first before) block = Branch test first block

abbrev pub before_of : Block → List Statement
before_of (InLoop test before) = before
before_of (InFirst test before) = before
before_of (InSecond test first before) = before

-- The draft after a block has closed: its statement is appended to those before it; a branch has no second block yet.
abbrev pub closed : Block → Draft → Draft
closed block d = record d { body = before_of block ++ statement_of block (joined d.body) ∷ [] }

-- The draft after the innermost block has closed, if one is open.
abbrev pub block_closes : Option Block → Draft → Draft
block_closes None d = d
block_closes (Some block) d = closed block (record d { blocks = before_last d.blocks })

-- The assignment that has been read.
abbrev pub assignment : Draft → Statement
assignment d = Plain (if d.chosen then Choose d.variable else Assign d.variable d.value)

abbrev pub assignment_ends : Draft → Draft
assignment_ends d = record d { value = Literal (pos 0); body = d.body ++ assignment d ∷ [] }

-- The draft after a token among the inputs.
abbrev pub made_of_input : List ℕ → Piece → Sort → Draft → Draft
made_of_input text p sorts.Name d = record d { names = d.names ++ bytes_of text p ∷ [] }
made_of_input text p _ d = d

-- The draft after a token outside of the parts of statements.
abbrev pub made_of_statement : List ℕ → Piece → Sort → Draft → Draft
made_of_statement text p sorts.Name d =
    record (begins_at p.at d) { variable = number_of d.names (bytes_of text p) }
made_of_statement text p sorts.Skip d = with_statement (Plain Skip) (begins_at p.at d)
made_of_statement text p sorts.While d = begins_test openers.Loop p.at d
made_of_statement text p sorts.If d = begins_test openers.First p.at d
made_of_statement text p sorts.BlockClose d = block_closes (last_of d.blocks) d
made_of_statement text p _ d = d

-- The draft after a token that follows the variable of an assignment.
abbrev pub made_of_variable : Sort → Draft → Draft
made_of_variable sorts.Becomes d = record d { grammar_state = no_state; chosen = false }
made_of_variable _ d = d

-- The draft after a token in the value of an assignment, which ends with its last token.
abbrev pub made_of_value_token : List ℕ → Piece → Course → Draft → Draft
made_of_value_token text p c d =
    if is_last p c then record d { value = term_of (with_token text p d); grammar_state = no_state }
    else record d { grammar_state = with_token text p d }

abbrev pub made_of_value : List ℕ → Piece → Course → Sort → Draft → Draft
made_of_value text p c sorts.Question d = record d { chosen = true }
made_of_value text p c sorts.Semicolon d = assignment_ends d
made_of_value text p c _ d = made_of_value_token text p c d

-- The draft after a token in a test outside of its atoms.
abbrev pub made_of_test : Sort → Draft → Draft
made_of_test sorts.Open d = record d { grammar_state = no_state }
made_of_test sorts.Joint d = record d { grammar_state = no_state }
made_of_test _ d = d

-- The draft after a token in an atom up to its relation.
abbrev pub made_of_left_side : List ℕ → Piece → Draft → Draft
made_of_left_side text p d =
    if is_relation p.sort then record d { left = term_of d.grammar_state; grammar_state = no_state }
    else record d { grammar_state = with_token text p d }

abbrev pub made_of_left : List ℕ → Piece → Sort → Draft → Draft
made_of_left text p sorts.Truth d = record d { test = d.test ++ Always ∷ [] }
made_of_left text p _ d = made_of_left_side text p d

-- The atom that ends with the token.
abbrev pub atom_of : List ℕ → Piece → Course → Draft → Atom
atom_of text p c d = Compare d.left c.relation (term_of (with_token text p d))

-- The draft after a token on the right side of an atom, which ends with its last token.
abbrev pub made_of_right : List ℕ → Piece → Course → Draft → Draft
made_of_right text p c d =
    if is_last p c
    then record d { test = d.test ++ atom_of text p c d ∷ []; left = Literal (pos 0); grammar_state = no_state }
    else record d { grammar_state = with_token text p d }

-- The draft after a token, by the part that is being read.
abbrev pub made_in : Phase → List ℕ → Piece → Course → Draft → Draft
made_in phases.Inputs text p c d = made_of_input text p p.sort d
made_in phases.Statements text p c d = made_of_statement text p p.sort d
made_in phases.Assignment text p c d = made_of_variable p.sort d
made_in phases.Value text p c d = made_of_value text p c p.sort d
made_in phases.Test text p c d = made_of_test p.sort d
made_in phases.Left text p c d = made_of_left text p p.sort d
made_in phases.Right text p c d = made_of_right text p c d

-- The draft after a token of a text.
abbrev pub draft_after : List ℕ → Piece → Course → Draft → Draft
draft_after text p c d = if opens_block p.sort then block_opens d.opener d else made_in c.phase text p c d
