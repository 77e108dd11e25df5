-- A program that is spelled within the limits has few symbols, since each of its rules names two symbols.
use Rattle.std.proofs.Common.{◌≡◌, ℕ, suc, ◌+◌, ◌^◌, ◌<◌, ◌≤◌, Bool, true, false, if◌then◌else◌, List, [], ◌∷◌, ◌++◌, length}
use Rattle.std.proofs.Common.{length-append, Option, Some, None, subst, arith}
use Rattle.model.specs.Programs.{Name, Symbol, Program}
use Rattle.its_reader.specs.its_text.Written.{LeftTerm, WrittenRule}
use Rattle.its_reader.specs.its_text.Numbering.{term_in, names_of, with_symbol, with_left, symbols_of, start_of, rules_of}
use Rattle.its_reader.specs.its_text.Numbering.{first_leaving, program_from, program_of_parts}
use Rattle.its_reader.specs.its_text.Spelling.{HaveRulesWithin, SpellsWithin}
use Rattle.text_grammar.specs.text_core.Names.{is_among}
use Rattle.its_reader.proofs.its_text.Reading.{some_is, none_is_some}

-- a name adds at most one symbol
one_more : (symbols : List Symbol) (name : Name) (arity : ℕ) → length (with_symbol symbols name arity) ≤ suc (length symbols)
one_more symbols name arity = go (is_among name (names_of symbols))
  where
    go : (v : Bool) → length (if v then symbols else symbols ++ record { name = name; arity = arity } ∷ []) ≤ suc (length symbols)
    go true = omega arith
    go false = let e = length-append symbols (record { name = name; arity = arity } ∷ []) in omega (arith, e)

-- a rule adds at most two symbols
two_each : (rules : List WrittenRule) → length (symbols_of rules) ≤ length rules + length rules
two_each [] = omega arith
two_each (r ∷ rules) =
    let so_far = two_each rules in
    let left = one_more (symbols_of rules) r.left.name (length r.left.arguments) in
    let right =
    one_more (with_left (symbols_of rules) r.left) (term_in r.target).name (length (term_in r.target).arguments) in
    omega (arith, so_far, left, right)

-- a program of at most 1,000 rules has at most 2,000 symbols
few_from : (start : Name) (rules : List WrittenRule) (o : Option LeftTerm) (p : Program) → program_from start rules o ≡ Some p
    → length rules ≤ 1000 → length p.symbols ≤ 2000
few_from start rules None p e few = absurd (none_is_some e)
few_from start rules (Some t) p e few =
    subst (λ (q : Program). length q.symbols ≤ 2000) (some_is e) (let two = two_each rules in omega (arith, two, few))

few_of_parts : (start : Option Name) (rules : Option (List WrittenRule)) (p : Program) → program_of_parts start rules ≡ Some p
    → HaveRulesWithin rules → length p.symbols ≤ 2000
few_of_parts None None p e within = absurd (none_is_some e)
few_of_parts None (Some rules) p e within = absurd (none_is_some e)
few_of_parts (Some start) None p e within = absurd (none_is_some e)
few_of_parts (Some start) (Some rules) p e within = few_from start rules (first_leaving start rules) p e within.0

-- the symbols of a program that was read can be numbered in 32 bits
pub few_symbols : (bytes : List ℕ) (p : Program) → SpellsWithin bytes p → length p.symbols < 2 ^ 32
few_symbols bytes p h =
    let few = few_of_parts (start_of h.spells.written) (rules_of h.spells.written) p h.spells.numbered h.within.rules in
    omega (arith, few)
