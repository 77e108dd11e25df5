-- A table as bounds by key, and as the bounds that are known with the derivations whose index it is.
use Rattle.std.proofs.Common.{◌≡◌, ℕ, zero, suc, ◌≤◌, List, refl, arith}
use Rattle.model.specs.Programs.{Program}
use Rattle.bound_fixpoint.specs.Keys.{Bounds, size_by}
use Rattle.bound_fixpoint.specs.Derivations as plain
use Rattle.size_bounds.specs.declared.table.Table.{Table}
use Rattle.bound_derivations.specs.declared.derivation.Derivation.{Derivation}
use Rattle.size_bounds.specs.Tables.{number_at}
use Rattle.bound_derivations.specs.Books.{AreDerivedBounds}
use Rattle.bound_derivations.specs.Views.{derivations_of}
pub use Rattle.size_bounds.proofs.TablesByKey.{table_by_key as table_over}
pub use Rattle.bound_derivations.proofs.TablesByKey.{bounds_by_derivations as bounds_same, table_by_derivations as table_with}

-- the numbers of a table are those of the derivations whose index it is
pub numbers_same : (p : Program) (tab : Table) (derivations : List Derivation) → AreDerivedBounds p tab derivations
    → number_at tab ≡ plain.number_in (derivations_of derivations)
numbers_same p tab derivations derived = λ j t i. derived.numbers t i j

-- a size at a place from 1 on is the bound there
pub place_size : (b : Bounds) (t i : ℕ) → 1 ≤ i → size_by b t i ≡ b t i
place_size b t zero l = absurd (omega (arith, l))
place_size b t (suc i) l = refl
