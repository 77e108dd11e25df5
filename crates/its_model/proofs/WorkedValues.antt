-- The worked values of the views.
use Rattle.std.proofs.Common.{◌≡◌, ℕ, List, [], ◌∷◌, map, refl, ap, ◌∙◌}
use Rattle.std.specs.Prelude.{option_map}
use Rattle.poly_terms.specs.model.Programs as plain
use Rattle.poly_terms.specs.Views.{term_of}
use Rattle.text_core.specs.declared.name.Name.{Name}
use Rattle.its_model.specs.declared.program.Symbol.{Symbol}
use Rattle.its_model.specs.declared.program.Rule.{Rule}
use Rattle.its_model.specs.declared.program.Program.{Program}
use Rattle.its_model.specs.Views.{name_of, atom_of, symbol_of, rule_of, program_of}
use Rattle.its_model.specs.Worked.{GuardsAreRead, ProgramsAreRead, RunsAreRead, IsSymbol, AreSpelled, IsFirstRule}
use Rattle.its_model.specs.Worked.{first_rule, IsSecondRule, second_rule, IsWorkedProgram, worked_program}

-- The worked values of relations and atoms hold.
pub guards : GuardsAreRead
guards = record { at_least = refl; more_than = refl; at_most = refl; less_than = refl; equal_to = refl; always = refl; with_literal = refl; with_variables = refl }

-- Names that have these bytes are these plain names.
names_read : (ns : List Name) (all : List plain.Name) → AreSpelled ns all → map name_of ns ≡ all
names_read [] [] h = refl
names_read [] (bytes ∷ more) h = absurd h
names_read (n ∷ ns) [] h = absurd h
names_read (n ∷ ns) (bytes ∷ more) h = λ i. h.0 i ∷ names_read ns more h.1 i

-- A symbol with these bytes and places is this plain symbol.
symbol_read : (bytes : plain.Name) (places : ℕ) (s : Symbol) → IsSymbol bytes places s → symbol_of s ≡ record { name = bytes; arity = places }
symbol_read bytes places s h = λ i. record { name = h.named i; arity = h.arity i }

-- The first rule as plain data.
first_read : (r : Rule) → IsFirstRule r → rule_of r ≡ first_rule
first_read r h = λ i. record {
  source = h.source i;
  target = h.target i;
  left = h.left i;
  free = h.free i;
  names = names_read _ _ h.names i;
  updates = ap (map term_of) h.updates i;
  guard = ap (map atom_of) h.guard i;
  cost = ap (option_map term_of) h.cost i;
}

-- The second rule as plain data.
second_read : (r : Rule) → IsSecondRule r → rule_of r ≡ second_rule
second_read r h = λ i. record {
  source = h.source i;
  target = h.target i;
  left = h.left i;
  free = h.free i;
  names = names_read _ _ h.names i;
  updates = ap (map term_of) h.updates i;
  guard = ap (map atom_of) h.guard i;
  cost = ap (option_map term_of) h.cost i;
}

-- The program as plain data.
program_read : (p : Program) → IsWorkedProgram p → program_of p ≡ worked_program
program_read p w = λ i. record {
  symbols = symbols i;
  start = w.start i;
  start_names = names_read _ _ w.start_names i;
  rules = rules i;
}
  where
    symbols : map symbol_of p.symbols.items ≡ worked_program.symbols
    symbols = ap (map symbol_of) w.symbols ∙ (λ i. symbol_read _ _ w.f w.f_is i ∷ symbol_read _ _ w.h w.h_is i ∷ symbol_read _ _ w.g w.g_is i ∷ [])

    rules : map rule_of p.rules.items ≡ worked_program.rules
    rules = ap (map rule_of) w.rules ∙ (λ i. first_read w.one w.one_is i ∷ second_read w.two w.two_is i ∷ [])

-- The worked values of symbols, rules and programs hold.
pub programs : ProgramsAreRead
programs = record { symbol = symbol_read _ _; rule = first_read; bare_rule = second_read; program = program_read }

-- The worked values of configurations and steps hold.
pub runs : RunsAreRead
runs = record {
  config = λ c a v. λ i. record { at = a i; values = v i };
  step = λ s t f. λ i. record { rule = t i; free = f i };
}
