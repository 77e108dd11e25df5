-- Reachable symbols, computed in rounds.
use Rattle.std.specs.Prelude.{ℕ, zero, suc, ◌&&◌, not, Bool, false, List, [], ◌∷◌, ◌++◌, length, filter, Option, Some}
use Rattle.std.specs.Prelude.{None}
use Rattle.std.specs.List.{filter_map}
use Rattle.run_counting.specs.model.Programs.{Program}
use Rattle.run_counting.specs.model.Paths.{source_of, target_of, entry_and_rules}
use Rattle.run_counting.specs.model.Entries.{is_in}

-- the symbol exists, and is in the list
abbrev pub is_among : Option ℕ → List ℕ → Bool
is_among None symbols = false
is_among (Some a) symbols = is_in a symbols

-- the allowed rule leaves one of these symbols
abbrev pub leaves : Program → (ℕ → Bool) → List ℕ → ℕ → Bool
leaves p is_allowed symbols t = is_allowed t && is_among (source_of p t) symbols

-- these symbols, and the targets of the allowed rules that leave one of them
abbrev pub one_round : Program → (ℕ → Bool) → List ℕ → List ℕ
one_round p is_allowed symbols =
    symbols ++ filter_map (target_of p) (filter (leaves p is_allowed symbols) (entry_and_rules p))

-- the symbols that are reached from the start symbol in n rounds
abbrev pub reached_in : Program → (ℕ → Bool) → ℕ → List ℕ
reached_in p is_allowed zero = p.start ∷ []
reached_in p is_allowed (suc n) = one_round p is_allowed (reached_in p is_allowed n)

-- the source of the rule isn't reached by allowed rules in as many rounds as there are rules
abbrev pub is_unreached : Program → (ℕ → Bool) → ℕ → Bool
is_unreached p is_allowed t = not (is_among (source_of p t) (reached_in p is_allowed (length p.rules)))
