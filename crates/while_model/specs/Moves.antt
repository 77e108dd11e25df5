-- Points of a while program, and the moves between them. The points are the statements, numbered from 0 in the order of
-- their first bytes, and the end, whose number is the number of statements.
use Rattle.std.specs.Prelude.{ℕ, suc, ◌+◌, List, [], ◌∷◌, ◌++◌, map}
use Rattle.model.specs.Programs.{AtLeast, MoreThan, AtMost, LessThan, EqualTo, Atom, Always, Compare}
use Rattle.while_model.specs.Statements.{Action, Skip, Statements, Nothing, Simple, While, If, size}

-- A move from one point to another, which is possible if its guard holds, and its action.
pub record Move : Type 0 where
  pub from : ℕ
  pub to : ℕ
  pub guard : List Atom
  pub action : Action

-- The negations of an atom: the atom fails exactly if one of these holds.
abbrev pub negations_of : Atom → List Atom
negations_of Always = []
negations_of (Compare d AtLeast e) = Compare d LessThan e ∷ []
negations_of (Compare d MoreThan e) = Compare d AtMost e ∷ []
negations_of (Compare d AtMost e) = Compare d MoreThan e ∷ []
negations_of (Compare d LessThan e) = Compare d AtLeast e ∷ []
negations_of (Compare d EqualTo e) = Compare d LessThan e ∷ Compare d MoreThan e ∷ []

-- The negations of the atoms of a test, atom by atom.
abbrev pub negations : List Atom → List Atom
negations [] = []
negations (atom ∷ atoms) = negations_of atom ++ negations atoms

-- The first point of statements that are numbered from `at` on; if there are none, it is the point `after`, which
-- follows them.
abbrev pub first : ℕ → ℕ → Statements → ℕ
first at after Nothing = after
first at after (Simple action rest) = at
first at after (While test block rest) = at
first at after (If test block other rest) = at

-- A move without an action.
abbrev pub passing : ℕ → List Atom → ℕ → Move
passing at guard to = record { from = at; to = to; guard = guard; action = Skip }

-- The moves from a test: one to the point for a test that holds, and then, for each negation of its atoms, one to the
-- other point.
abbrev pub moves_by : ℕ → List Atom → ℕ → ℕ → List Move
moves_by at test one other = passing at test one ∷ map (λ atom. passing at (atom ∷ []) other) (negations test)

-- The moves of statements that are numbered from `at` on and followed by the point `after`; the point after a loop's
-- block is the loop.
abbrev pub moves : ℕ → ℕ → Statements → List Move
moves at after Nothing = []
moves at after (Simple action rest) =
    record { from = at; to = first (suc at) after rest; guard = []; action = action } ∷ moves (suc at) after rest
moves at after (While test block rest) =
    moves_by at test (first (suc at) at block) (first (suc at + size block) after rest)
    ++ (moves (suc at) at block ++ moves (suc at + size block) after rest)
moves at after (If test block other rest) =
    moves_by at test (first (suc at) (first (suc at + size block + size other) after rest) block)
    (first (suc at + size block) (first (suc at + size block + size other) after rest) other)
    ++ (moves (suc at) (first (suc at + size block + size other) after rest) block
    ++ (moves (suc at + size block) (first (suc at + size block + size other) after rest) other
    ++ moves (suc at + size block + size other) after rest))

-- The moves of a program.
abbrev pub program_moves : Statements → List Move
program_moves program = moves 0 (size program) program
