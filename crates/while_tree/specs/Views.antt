-- Statements of the code as plain data.
use Rattle.std.specs.Prelude.{List, [], ◌∷◌, map}
use Rattle.while_model.specs.model.Programs.{Atom}
use Rattle.while_model.specs.Statements.{Action, Assign, Choose, Skip, Statements, Nothing, Simple, While, If}
use Rattle.poly_terms.specs.Views.{term_of}
use Rattle.its_model.specs.Views.{atom_of}
use Rattle.while_tree.specs.declared.stmt.Stmt.{Stmt}
use Rattle.while_tree.specs.declared.stmt.Stmt.TheOpen as code
use Rattle.while_tree.specs.declared.stmt.Stmt.TheFolds.{fold-Stmt}

-- One statement: an action, a loop with its test and its block, or a branch with its test and its two blocks.
pub data Statement : Type 0 where
  Plain : Action → Statement
  Loop : List Atom → Statements → Statement
  Branch : List Atom → Statements → Statements → Statement

-- The statement, followed by the others.
abbrev pub before : Statement → Statements → Statements
before (Plain action) rest = Simple action rest
before (Loop test block) rest = While test block rest
before (Branch test block other) rest = If test block other rest

-- The statements of the list, one after the other.
abbrev pub joined : List Statement → Statements
joined [] = Nothing
joined (s ∷ ss) = before s (joined ss)

-- A statement of the code, with the statements in its blocks replaced by the plain ones.
abbrev pub stmt_step : code.Stmt-F Statement → Statement
stmt_step (code.Assign x e) = Plain (Assign x (term_of e))
stmt_step (code.Any x) = Plain (Choose x)
stmt_step code.Skip = Plain Skip
stmt_step (code.While test block) = Loop (map atom_of test.items) (joined block.items)
stmt_step (code.If test block other) = Branch (map atom_of test.items) (joined block.items) (joined other.items)

-- A statement of the code as plain data.
abbrev pub stmt_of : Stmt → Statement
stmt_of = fold-Stmt Statement stmt_step

-- Statements of the code as plain data.
abbrev pub statements_of : List Stmt → Statements
statements_of body = joined (map stmt_of body)
