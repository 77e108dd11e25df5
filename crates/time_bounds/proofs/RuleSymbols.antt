-- The symbols that rules lead from and to are those of the program, and of its graph.
use Rattle.std.proofs.Common.{◌≡◌, ℕ, ◌<◌, List, length, map, get_or, All, Option, option_map, refl, sym, ◌∙◌, ap}
use Rattle.std.proofs.Common.{subst, arith}
use Rattle.std.proofs.lemmas.List.{length-map, get_or-map}
use Rattle.std.proofs.lemmas.Option.{slice_get-map, slice_get_read}
use Rattle.model.specs.Programs as plain
use Rattle.its_model.specs.declared.program.Symbol.{Symbol}
use Rattle.its_model.specs.declared.program.Rule.{Rule}
use Rattle.its_model.specs.declared.program.Program.{Program}
use Rattle.its_model.specs.Valid.{IsValid}
use Rattle.its_model.specs.Views.{rule_of, symbol_of, program_of}
use Rattle.its_graph.specs.declared.graph.Graph.{Graph}
use Rattle.its_graph.specs.Graphs.{IsGraphOf}
use Rattle.its_graph.proofs.SymbolLaws.{valid_have_symbols}

-- a property of each plain rule is one of each rule of the code
each_rule : (P : plain.Rule → Type 0) (rules : List Rule) → All P (map rule_of rules) → All (λ r. P (rule_of r)) rules
each_rule P rules h k d low =
    subst P (get_or-map rule_of rules k d (rule_of d) low) (h k (rule_of d) (omega (arith, low, length-map rules rule_of)))

-- the rules of a valid program lead to its symbols
pub targets_within : (p : Program) → IsValid (program_of p) → All (λ r. r.target < length p.symbols.items) p.rules.items
targets_within p valid k d low =
    let h = each_rule (λ r. (r.source < length (map symbol_of p.symbols.items)) × (r.target < length (map symbol_of p.symbols.items)))
    p.rules.items (valid_have_symbols (program_of p) valid).rules k d low in
    let target = h.1 in
    omega (arith, target, length-map p.symbols.items symbol_of)

-- the rules of a valid program lead from symbols of its graph
pub sources_within : (p : Program) → IsValid (program_of p) → (g : Graph) → IsGraphOf g (program_of p)
    → All (λ r. r.source < g.symbols) p.rules.items
sources_within p valid g is k d low =
    let h = each_rule (λ r. (r.source < length (map symbol_of p.symbols.items)) × (r.target < length (map symbol_of p.symbols.items)))
    p.rules.items (valid_have_symbols (program_of p) valid).rules k d low in
    let source = h.0 in
    omega (arith, source, is.symbols)

-- the rule that was read leads to a symbol of the program
pub target_read : (p : Program) → IsValid (program_of p) → (i : ℕ) (r : Rule) → i < length p.rules.items → r ≡ get_or p.rules.items i r
    → r.target < length p.symbols.items
target_read p valid i r low e = subst (λ (x : Rule). x.target < length p.symbols.items) (sym e) (targets_within p valid i r low)

-- the number of places of a symbol that was read
pub arity_read : (p : Program) (s : ℕ) (x : Symbol) → s < length p.symbols.items → x ≡ get_or p.symbols.items s x
    → plain.arity_of (program_of p) s ≡ x.arity
arity_read p s x low e =
    ap plain.arity_in (slice_get-map symbol_of p.symbols.items s
    ∙ ap (λ (o : Option Symbol). option_map symbol_of o) (slice_get_read p.symbols.items (length p.symbols.items) s x refl low e))
