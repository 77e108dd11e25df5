-- The lemmas of derivations, by the numbers of a table that is their index.
use Rattle.std.proofs.Common.{◌≡◌, ℕ, List, map, ap}
use Rattle.model.specs.Programs.{Program}
use Rattle.bound_fixpoint.specs.Derivations as plain
use Rattle.bound_fixpoint.specs.Needs.{lemma_by, lemmas_of}
use Rattle.size_bounds.specs.declared.table.Table.{Table}
use Rattle.bound_derivations.specs.declared.derivation.Derivation.{Derivation}
use Rattle.bound_derivations.specs.Books.{AreDerivedBounds}
use Rattle.size_bounds.specs.Tables.{number_at}
use Rattle.bound_derivations.specs.Views.{derivations_of}

-- the lemmas of derivations by the numbers of their table
pub by_derivations : (p : Program) (tab : Table) (derivations : List Derivation) → AreDerivedBounds p tab derivations
    → map (λ (f : plain.Derivation). lemma_by (number_at tab) f.node f.premises) (derivations_of derivations) ≡ lemmas_of (derivations_of derivations)
by_derivations p tab derivations derived =
    let same : number_at tab ≡ plain.number_in (derivations_of derivations) = (λ j t i. derived.numbers t i j) in
    ap (λ (number : ℕ → ℕ → ℕ). map (λ (f : plain.Derivation). lemma_by number f.node f.premises) (derivations_of derivations)) same
