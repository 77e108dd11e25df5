-- The canonical text of a program.
use Rattle.std.specs.Prelude.{ℕ, List, [], ◌∷◌, ◌++◌, map, take, codes, Option, Some, None}
use Rattle.its_text.specs.expr_text.model.Programs.{Name, Rule, Program}
use Rattle.its_text.specs.expr_text.model.Terms.{Term}
use Rattle.its_text.specs.expr_text.Terms.{with_name}
use Rattle.its_writer.specs.Layout.{each_then, arrow_by, joined_then}
use Rattle.its_writer.specs.Expressions.{name_at, name_then, expression_then, guard_then}

-- the names of a program's symbols
abbrev pub symbol_names : Program → List Name
symbol_names p = map (λ s. s.name) p.symbols

-- the names of a rule's left variables
abbrev pub left_names : Rule → List Name
left_names r = take r.left r.names

-- an arrow: `->`, or the cost within `-{` and `}>`
abbrev pub arrow_then : List Name → Option Term → List ℕ → List ℕ
arrow_then names None rest = codes "->" ++ rest
arrow_then names (Some c) rest = codes "-{" ++ expression_then names c (codes "}>" ++ rest)

-- a rule on a line of its own, after two blanks
abbrev pub rule_then : List Name → Rule → List ℕ → List ℕ
rule_then symbols r rest =
    codes "  " ++ (name_at symbols r.source ++ (codes "(" ++ joined_then (codes ",") name_then (left_names r)
    (codes ") " ++ arrow_then r.names r.cost (codes " Com_1(" ++ (name_at symbols r.target ++ (codes "("
    ++ joined_then (codes ",") (expression_then r.names) r.updates (codes "))"
    ++ guard_then r.names r.guard (codes "\n" ++ rest))))))))

-- names, followed by those of other names that are new
abbrev pub with_names : List Name → List Name → List Name
with_names known [] = known
with_names known (name ∷ names) = with_names (with_name known name) names

-- the names of all variables of rules, in order of first occurrence
abbrev pub with_rules : List Name → List Rule → List Name
with_rules known [] = known
with_rules known (r ∷ rules) = with_rules (with_names known r.names) rules

abbrev pub variables_of : Program → List Name
variables_of p = with_rules [] p.rules

-- the sections of a program: the goal, the start symbol, the variables and the rules
abbrev pub program_then : Program → List ℕ → List ℕ
program_then p rest =
    codes "(GOAL COMPLEXITY)\n(STARTTERM (FUNCTIONSYMBOLS " ++ (name_at (symbol_names p) p.start ++ (codes "))\n(VAR"
    ++ each_then (arrow_by (codes " ") name_then) (variables_of p) (codes ")\n(RULES\n"
    ++ each_then (rule_then (symbol_names p)) p.rules (codes ")\n" ++ rest))))

-- the canonical text
abbrev pub canonical_text : Program → List ℕ
canonical_text p = program_then p []
