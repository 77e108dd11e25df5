-- The program of a written one: numbers in place of names.
use Rattle.std.specs.Prelude.{ℕ, Bool, nat_eq, List, [], ◌∷◌, ◌++◌, map, reverse, length, if◌then◌else◌, ◌&&◌, nat_lt}
use Rattle.std.specs.Prelude.{codes, drop, ◌-◌, Option, Some, None}
use Rattle.std.specs.List.{list_all, starts_with}
use Rattle.std.specs.Char.{is_ascii_digit}
use Rattle.expr_text.specs.model.Programs as plain
use Rattle.expr_text.specs.model.Programs.{Name, Symbol, Program}
use Rattle.expr_text.specs.model.Terms.{Term}
use Rattle.expr_text.specs.text_core.Names.{is_same, is_among, position_of}
use Rattle.expr_text.specs.Trees.{Sum}
use Rattle.expr_text.specs.Terms.{with_sum, sum_term}
use Rattle.expr_text.specs.Guards.{Atoms, with_atoms, atoms_terms}
use Rattle.its_text.specs.Written.{LeftTerm, RightTerm, Target, Marked, Bare, Guard, NoGuard, BehindMark, InSquares}
use Rattle.its_text.specs.Written.{WrittenRule, Section, Goal, Start, Variables, Rules, Comment}

-- Whether a name is `Com_` and digits, which is no symbol on a right side.
abbrev pub is_com : Name → Bool
is_com name = starts_with nat_eq name (codes "Com_") && nat_lt 4 (length name) && list_all is_ascii_digit (drop 4 name)

-- The right term of a target.
abbrev pub term_in : Target → RightTerm
term_in (Marked t) = t
term_in (Bare t) = t

-- The symbols with one more at the end, unless one of them has its name.
abbrev pub names_of : List Symbol → List Name
names_of symbols = map (λ s. s.name) symbols

abbrev pub with_symbol : List Symbol → Name → ℕ → List Symbol
with_symbol symbols name arity =
    if is_among name (names_of symbols) then symbols else symbols ++ record { name = name; arity = arity } ∷ []

-- The symbols after a left term, a right term, and rules: each is numbered at its first occurrence, and has as many
-- places as there are arguments there.
abbrev pub with_left : List Symbol → LeftTerm → List Symbol
with_left symbols t = with_symbol symbols t.name (length t.arguments)

abbrev pub with_right : List Symbol → RightTerm → List Symbol
with_right symbols t = with_symbol symbols t.name (length t.arguments)

abbrev pub symbols_of : List WrittenRule → List Symbol
symbols_of [] = []
symbols_of (r ∷ earlier) = with_right (with_left (symbols_of earlier) r.left) (term_in r.target)

-- The number, from 0, of the symbol with a name, and the number of its places.
abbrev pub number_of : List Symbol → Name → ℕ
number_of symbols name = position_of name (names_of symbols)

abbrev pub arity_of : List Symbol → Name → ℕ
arity_of [] name = 0
arity_of (s ∷ symbols) name = if is_same name s.name then s.arity else arity_of symbols name

-- The variables after arguments, in order of first occurrence.
abbrev pub with_sums : List Name → List Sum → List Name
with_sums names [] = names
with_sums names (s ∷ earlier) = with_sum (with_sums names earlier) s

-- The variables after a guard.
abbrev pub with_maybe : List Name → Option Atoms → List Name
with_maybe names None = names
with_maybe names (Some atoms) = with_atoms names atoms

abbrev pub with_guard : List Name → Guard → List Name
with_guard names NoGuard = names
with_guard names (BehindMark atoms) = with_maybe names atoms
with_guard names (InSquares atoms) = with_maybe names atoms

-- The left variables of a term, in order.
abbrev pub left_names : LeftTerm → List Name
left_names t = reverse t.arguments

-- The variables after a cost.
abbrev pub with_cost : List Name → Option Sum → List Name
with_cost names None = names
with_cost names (Some c) = with_sum names c

-- The number of atoms of its rule that a cost counts as: one if there is a cost, else none.
abbrev pub atoms_of_cost : Option Sum → ℕ
atoms_of_cost None = 0
atoms_of_cost (Some c) = 1

-- The variables after an arrow that follows a left term.
abbrev pub arrow_names : LeftTerm → Option Sum → List Name
arrow_names t cost = with_cost (left_names t) cost

-- The variables of a rule: the left ones, then the free ones in order of first occurrence in its text, in which the
-- cost precedes the target.
abbrev pub rule_names : WrittenRule → List Name
rule_names r = with_guard (with_sums (arrow_names r.left r.cost) (term_in r.target).arguments) r.guard

-- The atoms of a guard over variables with these names.
abbrev pub maybe_terms : List Name → Option Atoms → List plain.Atom
maybe_terms names None = []
maybe_terms names (Some atoms) = atoms_terms names atoms

abbrev pub guard_terms : List Name → Guard → List plain.Atom
guard_terms names NoGuard = []
guard_terms names (BehindMark atoms) = maybe_terms names atoms
guard_terms names (InSquares atoms) = maybe_terms names atoms

-- The arguments of a right term over variables with these names, in order.
abbrev pub sums_terms : List Name → List Sum → List Term
sums_terms names [] = []
sums_terms names (s ∷ earlier) = sums_terms names earlier ++ sum_term names s ∷ []

-- A cost over variables with these names.
abbrev pub cost_term : List Name → Option Sum → Option Term
cost_term names None = None
cost_term names (Some c) = Some (sum_term names c)

-- A rule by numbers.
abbrev pub rule_numbered : List Symbol → WrittenRule → plain.Rule
rule_numbered symbols r = record {
  source = number_of symbols r.left.name;
  target = number_of symbols (term_in r.target).name;
  left = length r.left.arguments;
  free = length (rule_names r) - length r.left.arguments;
  names = rule_names r;
  updates = sums_terms (rule_names r) (term_in r.target).arguments;
  guard = guard_terms (rule_names r) r.guard;
  cost = cost_term (rule_names r) r.cost;
}

-- Rules by numbers, in order.
abbrev pub rules_numbered : List Symbol → List WrittenRule → List plain.Rule
rules_numbered symbols [] = []
rules_numbered symbols (r ∷ earlier) = rules_numbered symbols earlier ++ rule_numbered symbols r ∷ []

-- The start symbol's name, and the rules, if there is such a section.
abbrev pub or_start : Option Name → Section → Option Name
or_start found (Start name) = Some name
or_start found Goal = found
or_start found (Variables names) = found
or_start found (Rules rules) = found
or_start found (Comment bytes) = found

abbrev pub start_of : List Section → Option Name
start_of [] = None
start_of (s ∷ sections) = or_start (start_of sections) s

abbrev pub or_rules : Option (List WrittenRule) → Section → Option (List WrittenRule)
or_rules found (Rules rules) = Some rules
or_rules found Goal = found
or_rules found (Start name) = found
or_rules found (Variables names) = found
or_rules found (Comment bytes) = found

abbrev pub rules_of : List Section → Option (List WrittenRule)
rules_of [] = None
rules_of (s ∷ sections) = or_rules (rules_of sections) s

-- The left term of the first rule that leaves the symbol with a name.
abbrev pub or_left : Option LeftTerm → Name → LeftTerm → Option LeftTerm
or_left (Some earlier) start t = Some earlier
or_left None start t = if is_same start t.name then Some t else None

abbrev pub first_leaving : Name → List WrittenRule → Option LeftTerm
first_leaving start [] = None
first_leaving start (r ∷ earlier) = or_left (first_leaving start earlier) start r.left

-- The program of a start symbol and rules, if the start symbol is the source of a rule.
abbrev pub program_from : Name → List WrittenRule → Option LeftTerm → Option Program
program_from start rules None = None
program_from start rules (Some first) = Some (record {
  symbols = symbols_of rules;
  start = number_of (symbols_of rules) start;
  start_names = left_names first;
  rules = rules_numbered (symbols_of rules) rules;
})

abbrev pub program_of_parts : Option Name → Option (List WrittenRule) → Option Program
program_of_parts (Some start) (Some rules) = program_from start rules (first_leaving start rules)
program_of_parts _ _ = None

-- The program by numbers, if there are a start symbol and rules.
abbrev pub program_numbered : List Section → Option Program
program_numbered sections = program_of_parts (start_of sections) (rules_of sections)
