-- The symbols that are sources or targets of the rules of a set.
use Rattle.std.specs.Prelude.{ℕ, ◌||◌, Bool, List, length, filter, Some}
use Rattle.std.specs.List.{list_any, range_with_len}
use Rattle.run_counting.specs.model.Programs.{Program}
use Rattle.run_counting.specs.model.Paths.{source_of, target_of, same_symbol}

-- the symbol is the source or the target of a rule of the set
abbrev pub touches : Program → List ℕ → ℕ → Bool
touches p set a = list_any (λ t. same_symbol (Some a) (source_of p t) || same_symbol (Some a) (target_of p t)) set

-- the sources and targets of the rules of a set, in the order of symbols
abbrev pub symbols_of : Program → List ℕ → List ℕ
symbols_of p set = filter (touches p set) (range_with_len 0 (length p.symbols))
