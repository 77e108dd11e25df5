-- The table of times and sizes over which nodes are judged, by key.
use Rattle.std.proofs.Common.{◌≡◌, ℕ, not, Option, Some, None, refl, ◌∙◌, ap, List}
use Rattle.std.specs.Prelude.{is_some}
use Rattle.model.specs.Bounds.{Bound}
use Rattle.model.specs.Programs.{Program}
use Rattle.bound_fixpoint.specs.Keys.{lacks, over}
use Rattle.bound_fixpoint.specs.Derivations as plain
use Rattle.bound_fixpoint.specs.Laws.{missing}
use Rattle.outcome.specs.declared.entry.Stored.{Stored}
use Rattle.size_bounds.specs.declared.table.Table.{Table}
use Rattle.size_bounds.specs.Tables.{bound_stored, table_of, stored_in, bounds_in}
use Rattle.size_bounds.proofs.TablesByKey.{table_by_key}
use Rattle.bound_derivations.specs.declared.derivation.Derivation.{Derivation}
use Rattle.bound_derivations.specs.Books.{AreDerivedBounds}
use Rattle.bound_derivations.specs.Views.{derivations_of}

-- the bounds of a table that is the index of derivations are those known with them
pub bounds_by_derivations : (p : Program) (tab : Table) (derivations : List Derivation) → AreDerivedBounds p tab derivations
    → bounds_in tab ≡ plain.bounds_of p (derivations_of derivations)
bounds_by_derivations p tab derivations derived = λ j t i. derived.bounds t i j

-- the times and sizes of a table that is the index of derivations are those known with them
pub table_by_derivations : (p : Program) (tab : Table) (derivations : List Derivation) → AreDerivedBounds p tab derivations
    → table_of tab ≡ over (plain.bounds_of p (derivations_of derivations))
table_by_derivations p tab derivations derived = table_by_key tab ∙ ap over (bounds_by_derivations p tab derivations derived)

-- something is stored where a bound is
known_stored : (o : Option Stored) → is_some o ≡ not (lacks (bound_stored o))
known_stored None = refl
known_stored (Some s) = refl

-- a key has an entry exactly if a bound of it is known with the derivations
pub known_by_derivations : (p : Program) (tab : Table) (derivations : List Derivation) → AreDerivedBounds p tab derivations → (t i : ℕ)
    → is_some (stored_in tab t i) ≡ not (lacks (plain.bounds_of p (derivations_of derivations) t i))
known_by_derivations p tab derivations derived t i =
    known_stored (stored_in tab t i) ∙ ap (λ (o : Option Bound). not (lacks o)) (derived.bounds t i)

-- as many bounds are missing in the table as with the derivations
pub missing_by_derivations : (p : Program) (tab : Table) (derivations : List Derivation) → AreDerivedBounds p tab derivations
    → missing p (bounds_in tab) ≡ missing p (plain.bounds_of p (derivations_of derivations))
missing_by_derivations p tab derivations derived = ap (missing p) (bounds_by_derivations p tab derivations derived)
