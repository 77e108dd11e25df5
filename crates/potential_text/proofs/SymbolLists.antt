-- The names of symbols, of the code and as plain data.
use Rattle.std.proofs.Common.{◌≡◌, ◌∷◌, List, [], map, refl, ap}
use Rattle.its_model.specs.Views.{name_of, symbol_of}
use Rattle.its_model.specs.model.Programs as plain
use Rattle.its_model.specs.declared.program.Symbol.{Symbol}

-- the names of symbols as plain data are their names
pub same_names : (symbols : List Symbol)
    → map (λ (s : plain.Symbol). s.name) (map symbol_of symbols) ≡ map (λ s. name_of s.name) symbols
same_names [] = refl
same_names (s ∷ symbols) = ap (λ (ns : List plain.Name). name_of s.name ∷ ns) (same_names symbols)
