-- The shut places, as a set.
use Rattle.std.specs.Prelude.{◌≡◌, ℕ, Bool, List}
use Rattle.std.specs.BTreeSet.{BTreeSet, contains}
use Rattle.std.specs.declared.cmp.Ordering.{Ordering}
use Rattle.std.specs.Ordering.{nat_cmp, ordering_then}
use Rattle.cert_types.specs.cert_rules.Gaps.{SymbolPlace, is_shut}

-- places are ordered by symbols, and then by their numbers
abbrev pub place_cmp : ℕ × ℕ → ℕ × ℕ → Ordering
place_cmp x y = ordering_then (nat_cmp x.0 y.0) (nat_cmp x.1 y.1)

-- place i of symbol a is in the set
abbrev pub is_listed : BTreeSet (ℕ × ℕ) → ℕ → ℕ → Bool
is_listed set a i = contains place_cmp set (a, i)

-- the set contains exactly the places of a list
abbrev pub HasShut : BTreeSet (ℕ × ℕ) → List SymbolPlace → Type 0
HasShut set shut = (a i : ℕ) → is_listed set a i ≡ is_shut shut a i
