-- Programs of a small while language as plain data: statements with tests, over integer variables.
use Rattle.std.specs.Prelude.{ℕ, suc, ◌+◌, List, ⊤}
use Rattle.model.specs.Terms.{Term}
use Rattle.model.specs.Programs.{Atom}

-- The action of a statement without a test: a variable, numbered from 0, takes the value of an expression or any
-- integer, or nothing happens.
pub data Action : Type 0 where
  Assign : ℕ → Term → Action
  Choose : ℕ → Action
  Skip : Action

-- A list of statements: empty, or a first statement and the rest. The test of a loop or branch is a list of atoms, and
-- holds if each atom does.
pub data Statements : Type 0 where
  Nothing : Statements
  Simple : Action → Statements → Statements
  While : List Atom → Statements → Statements → Statements
  If : List Atom → Statements → Statements → Statements → Statements

-- The first statements, followed by the second ones.
abbrev pub followed_by : Statements → Statements → Statements
followed_by Nothing others = others
followed_by (Simple action rest) others = Simple action (followed_by rest others)
followed_by (While test block rest) others = While test block (followed_by rest others)
followed_by (If test block other rest) others = If test block other (followed_by rest others)

-- The number of statements, including those in blocks.
abbrev pub size : Statements → ℕ
size Nothing = 0
size (Simple action rest) = suc (size rest)
size (While test block rest) = suc (size block + size rest)
size (If test block other rest) = suc (size block + size other + size rest)

-- There is at least one statement.
abbrev pub IsNonempty : Statements → Type 0
IsNonempty Nothing = ⊥
IsNonempty (Simple action rest) = ⊤
IsNonempty (While test block rest) = ⊤
IsNonempty (If test block other rest) = ⊤
