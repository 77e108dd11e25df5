-- The canonical texts of the generated programs are short.
use Rattle.std.proofs.Common.{◌≡◌, ℕ, suc, ◌+◌, ◌*◌, ◌≤◌, List, [], ◌∷◌, ◌++◌, length, length-append, ap, arith}
use Rattle.std.specs.Prelude.{codes}
use Rattle.std.specs.List.{AllByRecursion}
use Rattle.its_text.specs.expr_text.model.Programs.{Name, Rule}
use Rattle.its_writer.specs.Layout.{each_then, arrow_by}
use Rattle.its_writer.specs.Expressions.{name_at, name_then}
use Rattle.its_writer.specs.Texts.{symbol_names, rule_then, variables_of, canonical_text}
use Rattle.its_writer.specs.Generated.{entry_rule, counting_rule, leaving_rule, generated_rules, generated}
use Rattle.its_writer.proofs.GeneratedLaws.{rules_all}
use Rattle.its_writer.proofs.GeneratedWithin.{IsShortName, symbol_short, rules_count, variables_are}

-- the line of a rule with two short names has few bytes
line_length : (source target last rest : List ℕ) → IsShortName source → IsShortName target → length last ≤ 100
    → length (codes "  " ++ (source ++ (codes "(A,B) -> Com_1(" ++ (target ++ (last ++ rest))))) ≤ 700 + length rest
line_length source target last rest s t l =
    let a = length-append source (codes "(A,B) -> Com_1(" ++ (target ++ (last ++ rest))) in
    let b = length-append target (last ++ rest) in
    let c = length-append last rest in
    omega (arith, a, b, c, s, t, l)

-- the line of a rule is short
record IsShortLine (symbols : List Name) (r : Rule) : Type 0 where
  each : (rest : List ℕ) → length (rule_then symbols r rest) ≤ 700 + length rest

entry_short : (symbols : List Name) → IsShortName (name_at symbols 0) → IsShortName (name_at symbols 1) → IsShortLine symbols entry_rule
entry_short symbols s t = record { each = λ rest. line_length (name_at symbols 0) (name_at symbols 1) (codes "(A,B))\n") rest s t (omega arith) }

counting_short : (symbols : List Name) (i : ℕ) → IsShortName (name_at symbols i) → IsShortLine symbols (counting_rule i)
counting_short symbols i s = record {
  each = λ rest. line_length (name_at symbols i) (name_at symbols i) (codes "(A-1,B)) :|: A >= 1\n") rest s s (omega arith);
}

leaving_short : (symbols : List Name) (i : ℕ) → IsShortName (name_at symbols i) → IsShortName (name_at symbols (suc i)) → IsShortLine symbols (leaving_rule i)
leaving_short symbols i s t = record {
  each = λ rest. line_length (name_at symbols i) (name_at symbols (suc i)) (codes "(B,B))\n") rest s t (omega arith);
}

-- the lines of rules together are short
lines_short : (symbols : List Name) (rules : List Rule) (rest : List ℕ) → AllByRecursion (IsShortLine symbols) rules
    → length (each_then (rule_then symbols) rules rest) ≤ 700 * length rules + length rest
lines_short symbols [] rest s = omega arith
lines_short symbols (r ∷ rules) rest s =
    let a = s.0.each (each_then (rule_then symbols) rules rest) in
    let b = lines_short symbols rules rest s.1 in
    omega (arith, a, b)

-- the text before the rules is short
sections_length : (start behind lines : List ℕ) → IsShortName start → behind ≡ codes " A B)\n(RULES\n" ++ lines
    → length (codes "(GOAL COMPLEXITY)\n(STARTTERM (FUNCTIONSYMBOLS " ++ (start ++ (codes "))\n(VAR" ++ behind))) ≤ 500 + length lines
sections_length start behind lines s e =
    let a = length-append start (codes "))\n(VAR" ++ behind) in
    let b = ap (λ (bs : List ℕ). length bs) e in
    omega (arith, a, b, s)

-- the whole text of the generated program is short
pub generated_short : (n : ℕ) → n ≤ 100 → length (canonical_text (generated n)) ≤ 4194304
generated_short n few =
    let symbols : List Name = symbol_names (generated n) in
    let lines : List ℕ = each_then (rule_then symbols) (generated_rules n) (codes ")\n") in
    let short = rules_all (IsShortLine symbols) n (entry_short symbols (symbol_short n 0 few (omega arith)) (symbol_short n 1 few (omega arith)))
    (λ i some le. (
      counting_short symbols i (symbol_short n i few (omega (arith, le))),
      leaving_short symbols i (symbol_short n i few (omega (arith, le))) (symbol_short n (suc i) few (omega (arith, le))),
    )) in
    let a = lines_short symbols (generated_rules n) (codes ")\n") short in
    let b = sections_length (name_at symbols 0) (each_then (arrow_by (codes " ") name_then) (variables_of (generated n)) (codes ")\n(RULES\n" ++ lines)) lines
    (symbol_short n 0 few (omega arith)) (ap (λ (ns : List Name). each_then (arrow_by (codes " ") name_then) ns (codes ")\n(RULES\n" ++ lines)) (variables_are n)) in
    let c = rules_count n in
    omega (arith, a, b, c, few)
