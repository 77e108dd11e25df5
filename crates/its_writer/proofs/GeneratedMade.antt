-- The generator's result is the generated program, part by part.
use Rattle.std.proofs.Common.{◌≡◌, ℕ, suc, ◌+◌, List, [], ◌∷◌, ◌++◌, map, ap, sym, ◌∙◌, arith, append_assoc, append-nil}
use Rattle.std.specs.Prelude.{pos}
use Rattle.std.proofs.lemmas.List.{map_push}
use Rattle.its_text.specs.expr_text.model.Programs as plain
use Rattle.its_text.specs.expr_text.text_core.Names.{name_of}
use Rattle.its_model.specs.Views.{symbol_of, rule_of, program_of}
use Rattle.its_model.specs.declared.program.Symbol.{Symbol}
use Rattle.its_model.specs.declared.program.Rule.{Rule}
use Rattle.its_model.specs.declared.program.Program.{Program}
use Rattle.its_writer.specs.Layout.{numeral, integer_then}
use Rattle.its_writer.specs.Printing.{WritesAll}
use Rattle.its_writer.specs.Generated.{location, two_names, counting_rule, leaving_rule, locations, generated_rules, generated}

-- the number is written after the letter `l`
pub named : (i : ℕ) (old new : List ℕ) → old ≡ 108 ∷ [] → WritesAll old new (integer_then (pos i)) → new ≡ (location i).name
named i old new letter w =
    sym (append-nil new) ∙ w.each [] ∙ ap (λ (bs : List ℕ). bs ++ (numeral i ++ [])) letter ∙ ap (λ (ds : List ℕ). 108 ∷ ds) (append-nil (numeral i))

-- the symbol with a name and two places
abbrev pub with_two_places : plain.Name → plain.Symbol
with_two_places name = record { name = name; arity = 2 }

-- one more location has been built
pub location_more : (symbols : List Symbol) (s : Symbol) (m : ℕ) → map symbol_of symbols ≡ locations m → symbol_of s ≡ location m
    → map symbol_of (symbols ++ s ∷ []) ≡ locations (m + 1)
location_more symbols s m before is =
    map_push symbol_of symbols s
    ∙ ap (λ (ls : List plain.Symbol). ls ++ symbol_of s ∷ []) before
    ∙ ap (λ (l : plain.Symbol). locations m ++ l ∷ []) is
    ∙ ap locations (let e : suc m ≡ m + 1 = omega arith in e)

-- two more rules have been built
pub rules_more : (rules : List Rule) (a b : Rule) (m : ℕ) → map rule_of rules ≡ generated_rules m → rule_of a ≡ counting_rule (m + 1)
    → rule_of b ≡ leaving_rule (m + 1) → map rule_of ((rules ++ a ∷ []) ++ b ∷ []) ≡ generated_rules (m + 1)
rules_more rules a b m before counts leaves =
    let e : m + 1 ≡ suc m = omega arith in
    map_push rule_of (rules ++ a ∷ []) b
    ∙ ap (λ (rs : List plain.Rule). rs ++ rule_of b ∷ []) (map_push rule_of rules a)
    ∙ append_assoc (map rule_of rules) (rule_of a ∷ []) (rule_of b ∷ [])
    ∙ ap (λ (rs : List plain.Rule). rs ++ rule_of a ∷ rule_of b ∷ []) before
    ∙ ap (λ (r : plain.Rule). generated_rules m ++ r ∷ rule_of b ∷ []) (counts ∙ ap counting_rule e)
    ∙ ap (λ (r : plain.Rule). generated_rules m ++ counting_rule (suc m) ∷ r ∷ []) (leaves ∙ ap leaving_rule e)
    ∙ ap generated_rules (sym e)

-- a program of such parts is the generated one
pub program_made : (p : Program) (n : ℕ) → map symbol_of p.symbols.items ≡ locations (n + 2) → p.start ≡ 0
    → map name_of p.start_names.items ≡ two_names → map rule_of p.rules.items ≡ generated_rules n → program_of p ≡ generated n
program_made p n symbols start names rules =
    let with_symbols : List plain.Symbol → plain.Program = λ ss. record {
      symbols = ss;
      start = p.start;
      start_names = map name_of p.start_names.items;
      rules = map rule_of p.rules.items;
    } in
    let with_start : ℕ → plain.Program = λ i. record {
      symbols = locations (n + 2);
      start = i;
      start_names = map name_of p.start_names.items;
      rules = map rule_of p.rules.items;
    } in
    let with_start_names : List plain.Name → plain.Program = λ ns. record {
      symbols = locations (n + 2);
      start = 0;
      start_names = ns;
      rules = map rule_of p.rules.items;
    } in
    let with_rules : List plain.Rule → plain.Program = λ rs. record {
      symbols = locations (n + 2);
      start = 0;
      start_names = two_names;
      rules = rs;
    } in
    ap with_symbols symbols ∙ ap with_start start ∙ ap with_start_names names ∙ ap with_rules rules
