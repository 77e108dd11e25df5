-- Sets of rules, by their numbers, and the entries of a set.
use Rattle.std.specs.Prelude.{◌≡◌, ◌↔◌, ℕ, ◌==◌, ◌&&◌, ◌||◌, not, Bool, true, false, List, [], ◌∷◌, filter, Option}
use Rattle.std.specs.List.{list_any, Contains}
use Rattle.std.specs.List.Sorted.{IsStrictlyIncreasing}
use Rattle.model.specs.Programs.{Program}
use Rattle.model.specs.Paths.{source_of, target_of, same_symbol, comes_before, entry_and_rules}

-- whether a number is in a list
abbrev pub is_in : ℕ → List ℕ → Bool
is_in x [] = false
is_in x (y ∷ ys) = (x == y) || is_in x ys

-- an entry of a set of rules is a rule outside it, or the virtual entry, that can come just before one of its rules
pub record IsEntry (p : Program) (set : List ℕ) (e : ℕ) : Type 0 where
  pub outside : ¬ (Contains set e)
  pub member : ℕ
  pub inside : Contains set member
  pub before : comes_before p e member ≡ true

-- whether a rule of the set leaves the symbol (has it as its source)
abbrev pub is_left_by : Program → List ℕ → Option ℕ → Bool
is_left_by p set o = list_any (λ t. same_symbol o (source_of p t)) set

-- whether rule e, or the virtual entry, is an entry of the set: it isn't in the set, and leads to the source of a rule
-- in it
abbrev pub enters : Program → List ℕ → ℕ → Bool
enters p set e = not (is_in e set) && is_left_by p set (target_of p e)

-- the entries of a set, in ascending order; the virtual entry is among them if it leads to the source of a rule of the
-- set
abbrev pub entries : Program → List ℕ → List ℕ
entries p set = filter (enters p set) (entry_and_rules p)

-- the list of the entries of a set ascends, and a number is in it exactly if it is an entry
pub record EntriesAreListed (p : Program) (set : List ℕ) : Type 0 where
  pub each : (e : ℕ) → Contains (entries p set) e ↔ IsEntry p set e
  pub ascending : IsStrictlyIncreasing (entries p set)

-- the list of the entries is right for every program and every set of rules
abbrev pub AllEntriesAreListed : Type 0
AllEntriesAreListed = (p : Program) (set : List ℕ) → EntriesAreListed p set
