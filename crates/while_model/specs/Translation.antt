-- The integer transition system of a while program: its symbols are the points that moves leave or reach, in the order
-- of their first occurrence; its rules are the moves.
use Rattle.std.specs.Prelude.{ℕ, zero, suc, ◌==◌, nat_eq, max, List, [], ◌∷◌, ◌++◌, length, map, None, set, if◌then◌else◌}
use Rattle.std.specs.List.{list_any, range_with_len}
use Rattle.std.specs.Cmp.Lexicographic.{pointwise}
use Rattle.std.specs.Fmt.{decimal}
use Rattle.model.specs.Terms.{Term, Variable}
use Rattle.model.specs.Programs.{Name, Symbol, Rule, Program}
use Rattle.while_model.specs.Statements.{Action, Assign, Choose, Skip, Statements}
use Rattle.while_model.specs.Moves.{Move, program_moves}

-- The points, with the point k at the end unless it is among them.
abbrev pub with_point : List ℕ → ℕ → List ℕ
with_point points k = if list_any (λ x. x == k) points then points else points ++ k ∷ []

-- The points, with those that the moves leave and reach.
abbrev pub with_points : List ℕ → List Move → List ℕ
with_points points [] = points
with_points points (m ∷ ms) = with_points (with_point (with_point points m.from) m.to) ms

-- The points of the moves, in the order of their first occurrence.
abbrev pub points_of : List Move → List ℕ
points_of ms = with_points [] ms

-- The position of a point in the list, or the length of the list if it isn't there.
abbrev pub number_in : List ℕ → ℕ → ℕ
number_in [] k = 0
number_in (x ∷ points) k = if x == k then 0 else suc (number_in points k)

-- The length of the longest name.
abbrev pub longest : List Name → ℕ
longest [] = 0
longest (name ∷ names) = max (length name) (longest names)

-- The name with the fewest `_` after it, at most `most`, that make it none of these names.
abbrev pub apart_from : List Name → ℕ → Name → Name
apart_from names zero name = name
apart_from names (suc most) name =
    if list_any (pointwise nat_eq name) names then apart_from names most (name ++ 95 ∷ []) else name

-- The name of the free variable: `h` with the fewest `_` after it that make it no input.
abbrev pub free_name : List Name → Name
free_name inputs = apart_from inputs (longest inputs) (104 ∷ [])

-- A point as a symbol: its name is `p` and the point's number, and it has a place for each input.
abbrev pub symbol_of : List Name → ℕ → Symbol
symbol_of inputs k = record { name = 112 ∷ decimal k; arity = length inputs }

-- The number of free variables of an action: one if it assigns any value, else none.
abbrev pub free_count : Action → ℕ
free_count (Assign x e) = 0
free_count (Choose x) = 1
free_count Skip = 0

-- The names of the free variables of an action.
abbrev pub free_names : List Name → Action → List Name
free_names inputs (Assign x e) = []
free_names inputs (Choose x) = free_name inputs ∷ []
free_names inputs Skip = []

-- The first n variables, as expressions.
abbrev pub variables : ℕ → List Term
variables n = map (λ x. Variable x) (range_with_len 0 n)

-- The updates of an action over n variables; the free variable has the number n.
abbrev pub updates_of : ℕ → Action → List Term
updates_of n (Assign x e) = set (variables n) x e
updates_of n (Choose x) = set (variables n) x (Variable n)
updates_of n Skip = variables n

-- A move as a rule; the symbols are numbered by the list of points.
abbrev pub rule_of : List Name → List ℕ → Move → Rule
rule_of inputs points m = record {
  source = number_in points m.from;
  target = number_in points m.to;
  left = length inputs;
  free = free_count m.action;
  names = inputs ++ free_names inputs m.action;
  updates = updates_of (length inputs) m.action;
  guard = m.guard;
  cost = None;
}

-- The program of moves over these inputs; it starts at point 0.
abbrev pub program_by : List Name → List Move → Program
program_by inputs ms = record {
  symbols = map (symbol_of inputs) (points_of ms);
  start = number_in (points_of ms) 0;
  start_names = inputs;
  rules = map (rule_of inputs (points_of ms)) ms;
}

-- The translation of a while program with these inputs.
abbrev pub program_of : List Name → Statements → Program
program_of inputs program = program_by inputs (program_moves program)
