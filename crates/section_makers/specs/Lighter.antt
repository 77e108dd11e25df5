-- A program without the atoms that have large numbers.
use Rattle.std.specs.Prelude.{ℕ, ◌&&◌, Bool, true, filter, map, nat_abs, nat_le}
use Rattle.refinement.specs.model.Terms.{Term, Literal, Variable, Negation, Addition, Subtraction, Multiplication}
use Rattle.refinement.specs.model.Terms.{Exponentiation}
use Rattle.refinement.specs.model.Programs.{Atom, Always, Compare, Rule, Program}

-- each number of an expression is at most this in absolute value
abbrev pub has_small_numbers : ℕ → Term → Bool
has_small_numbers n (Literal z) = nat_le (nat_abs z) n
has_small_numbers n (Variable i) = true
has_small_numbers n (Negation e) = has_small_numbers n e
has_small_numbers n (Addition d e) = has_small_numbers n d && has_small_numbers n e
has_small_numbers n (Subtraction d e) = has_small_numbers n d && has_small_numbers n e
has_small_numbers n (Multiplication d e) = has_small_numbers n d && has_small_numbers n e
has_small_numbers n (Exponentiation e k) = has_small_numbers n e

-- each number of an atom is at most this in absolute value
abbrev pub is_small_atom : ℕ → Atom → Bool
is_small_atom n Always = true
is_small_atom n (Compare d r e) = has_small_numbers n d && has_small_numbers n e

-- the rule with only the atoms of its guard whose numbers are small
abbrev pub lighter_rule : ℕ → Rule → Rule
lighter_rule n r = record {
  source = r.source;
  target = r.target;
  left = r.left;
  free = r.free;
  names = r.names;
  updates = r.updates;
  guard = filter (is_small_atom n) r.guard;
  cost = r.cost;
}

-- the program with these rules
abbrev pub lighter : ℕ → Program → Program
lighter n p = record {
  symbols = p.symbols;
  start = p.start;
  start_names = p.start_names;
  rules = map (lighter_rule n) p.rules;
}
