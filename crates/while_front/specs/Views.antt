-- Moves of the code as plain data, and the share of one statement in the moves of a program.
use Rattle.std.specs.Prelude.{ℕ, ◌+◌, List, [], ◌∷◌, ◌++◌, map}
use Rattle.while_model.specs.Statements.{Action, Assign, Choose, Skip, size}
use Rattle.while_model.specs.Moves as plain_moves
use Rattle.while_model.specs.Moves.{first, moves_by, moves}
use Rattle.poly_terms.specs.Views.{term_of}
use Rattle.its_model.specs.Views.{atom_of}
use Rattle.while_tree.specs.Views.{Statement, Plain, Loop, Branch}
use Rattle.while_front.specs.declared.moves.Action as code_action
use Rattle.while_front.specs.declared.moves.Action.TheVariants as actions
use Rattle.while_front.specs.declared.moves.Move as code_move

-- The number of statements that a statement counts for: itself and those in its blocks.
abbrev pub statement_size : Statement → ℕ
statement_size (Plain action) = 1
statement_size (Loop test block) = 1 + size block
statement_size (Branch test block other) = 1 + size block + size other

-- The moves of one statement with the number `at` that is followed by the point `next`.
abbrev pub statement_moves : ℕ → ℕ → Statement → List plain_moves.Move
statement_moves at next (Plain action) = record { from = at; to = next; guard = []; action = action } ∷ []
statement_moves at next (Loop test block) =
    moves_by at test (first (at + 1) at block) next ++ moves (at + 1) at block
statement_moves at next (Branch test block other) =
    moves_by at test (first (at + 1) next block) (first (at + 1 + size block) next other)
    ++ (moves (at + 1) next block ++ moves (at + 1 + size block) next other)

-- An action of the code as plain data.
abbrev pub action_of : code_action.Action → Action
action_of (actions.Assign x e) = Assign x (term_of e)
action_of (actions.Choose x) = Choose x
action_of actions.Skip = Skip

-- A move of the code as plain data.
abbrev pub move_of : code_move.Move → plain_moves.Move
move_of m = record { from = m.from; to = m.to; guard = map atom_of m.guard.items; action = action_of m.action }
