-- Rules into a symbol, places and symbols of the code, for tests and loops.
use Rattle.std.proofs.Common.{◌≡◌, ℕ, ◌+◌, ap, arith, sym, ◌∙◌, List, [], ◌∷◌, ◌++◌, filter, length, min}
use Rattle.std.proofs.Common.{Bool, true, false, Option, Some, None, option_map}
use Rattle.std.specs.Prelude.{slice_get}
use Rattle.std.specs.List.{range_with_len}
use Rattle.std.proofs.lemmas.List.{length-map}
use Rattle.std.proofs.lemmas.Option.{slice_get-map}
use Rattle.poly_terms.specs.model.Paths.{target_of, same_symbol}
use Rattle.poly_terms.specs.model.Programs as plain
use Rattle.poly_terms.specs.model.Programs.{arity_in}
use Rattle.its_model.specs.declared.program.Symbol.{Symbol}
use Rattle.its_model.specs.declared.program.Program.{Program}
use Rattle.its_model.specs.Views.{symbol_of, rule_of, program_of}
use Rattle.rule_questions.proofs.Filters.{filter-pushed, filter-passed}
use Rattle.location_facts.specs.Candidates.{last_place}

-- a rule leads to a symbol
abbrev leads_to : plain.Program → ℕ → ℕ → Bool
leads_to p s t = same_symbol (target_of p t) (Some s)

-- a rule that leads to the symbol is appended to those so far
pub into_pushed : (p : plain.Program) (s n m : ℕ) (old new : List ℕ) → old ≡ filter (leads_to p s) (range_with_len 1 n)
    → m ≡ n + 1 → leads_to p s m ≡ true → new ≡ old ++ m ∷ [] → new ≡ filter (leads_to p s) (range_with_len 1 (n + 1))
into_pushed p s n m old new e g h k =
    k ∙ (ap (λ (xs : List ℕ). xs ++ m ∷ []) e
    ∙ sym (filter-pushed (leads_to p s) 1 n m (let z : m ≡ 1 + n = omega (arith, g) in z) h))

-- a rule that doesn't lead to the symbol adds nothing
pub into_passed : (p : plain.Program) (s n m : ℕ) (old : List ℕ) → old ≡ filter (leads_to p s) (range_with_len 1 n)
    → m ≡ n + 1 → leads_to p s m ≡ false → old ≡ filter (leads_to p s) (range_with_len 1 (n + 1))
into_passed p s n m old e g h =
    e ∙ sym (filter-passed (leads_to p s) 1 n m (let z : m ≡ 1 + n = omega (arith, g) in z) h)

-- after all rules, the list is complete
pub into_all : (p : Program) (s n : ℕ) (old : List ℕ)
    → old ≡ filter (leads_to (program_of p) s) (range_with_len 1 n) → n ≡ length p.rules.items
    → old ≡ filter (leads_to (program_of p) s) (range_with_len 1 (length (program_of p).rules))
into_all p s n old e g =
    e ∙ ap (λ (k : ℕ). filter (leads_to (program_of p) s) (range_with_len 1 k))
    (g ∙ sym (length-map p.rules.items rule_of))

-- there are as many symbols as in the code
pub symbol_count : (p : Program) → length (program_of p).symbols ≡ length p.symbols.items
symbol_count p = length-map p.symbols.items symbol_of

-- the last place of an existing symbol, and of a missing one
pub last_found : (p : Program) (s : ℕ) (x : Symbol) → slice_get p.symbols.items s ≡ Some x
    → min x.arity 8 ≡ last_place (program_of p) s
last_found p s x e =
    ap (λ (n : ℕ). min n 8)
    (sym (ap arity_in (slice_get-map symbol_of p.symbols.items s
    ∙ ap (λ (o : Option Symbol). option_map symbol_of o) e)))

pub last_missing : (p : Program) (s : ℕ) → slice_get p.symbols.items s ≡ None → 0 ≡ last_place (program_of p) s
last_missing p s e =
    ap (λ (n : ℕ). min n 8)
    (sym (ap arity_in (slice_get-map symbol_of p.symbols.items s
    ∙ ap (λ (o : Option Symbol). option_map symbol_of o) e)))
