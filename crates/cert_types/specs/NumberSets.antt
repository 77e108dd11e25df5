-- Sets of numbers, and the lists that they represent.
use Rattle.std.specs.Prelude.{◌≡◌, ℕ, List, Some}
use Rattle.std.specs.BTreeSet.{BTreeSet, contains}
use Rattle.std.specs.Ordering.{nat_cmp}
use Rattle.poly_terms.specs.model.Programs.{Program}
use Rattle.poly_terms.specs.model.Entries.{is_in, is_left_by}

-- the set contains exactly the numbers of the list
abbrev pub HasJust : BTreeSet ℕ → List ℕ → Type 0
HasJust set ns = (n : ℕ) → contains nat_cmp set n ≡ is_in n ns

-- the set contains exactly the symbols that some rule of the list leaves
abbrev pub HasSources : Program → BTreeSet ℕ → List ℕ → Type 0
HasSources p set rules = (a : ℕ) → contains nat_cmp set a ≡ is_left_by p rules (Some a)
