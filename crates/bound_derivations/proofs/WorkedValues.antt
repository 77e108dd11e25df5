-- Worked values of tables by key, and of tables that are the index of derivations.
use Rattle.std.proofs.Common.{cond, List, Option, Some, None, refl, ◌∙◌, ap}
use Rattle.bound_fixpoint.specs.Keys.{has_key}
use Rattle.outcome.specs.declared.entry.Stored.{Stored}
use Rattle.cert_types.specs.cert_rules.Nodes.{ResultVariable}
use Rattle.size_bounds.specs.Tables.{entry_at, row_at, bound_stored, lemma_stored}
use Rattle.bound_derivations.specs.Views.{derivation_of}
use Rattle.bound_derivations.specs.Worked.{TablesAreReadByKey, ValuesArePutByKey, DerivedBoundsHaveTheirDerivations}

-- reading tables by key
pub read_by_key : TablesAreReadByKey
read_by_key = record {
  time = λ tab s e. (
    ap (λ (os : List (Option Stored)). bound_stored (entry_at os 1)) e,
    ap (λ (os : List (Option Stored)). lemma_stored (entry_at os 1)) e,
  );
  no_time = λ tab s e. (
    ap (λ (os : List (Option Stored)). bound_stored (entry_at os 0)) e,
    ap (λ (os : List (Option Stored)). bound_stored (entry_at os 2)) e,
    ap (λ (os : List (Option Stored)). lemma_stored (entry_at os 2)) e,
  );
  size = λ tab s e. (
    ap (λ (rs : List (List (Option Stored))). bound_stored (entry_at (row_at rs 1) 1)) e,
    ap (λ (rs : List (List (Option Stored))). lemma_stored (entry_at (row_at rs 1) 1)) e,
  );
  no_size = λ tab s e. (
    ap (λ (rs : List (List (Option Stored))). bound_stored (entry_at (row_at rs 1) 0)) e,
    ap (λ (rs : List (List (Option Stored))). bound_stored (entry_at (row_at rs 1) 2)) e,
    ap (λ (rs : List (List (Option Stored))). bound_stored (entry_at (row_at rs 0) 1)) e,
  );
}

-- writing tables by key
pub put_by_key : ValuesArePutByKey
put_by_key = record {
  time = refl;
  no_time = refl;
  size = refl;
  no_size = refl;
  past = refl;
  kept = refl;
  free = refl;
  filled = refl;
  beyond = refl;
}

-- tables of one derivation
pub have_their_derivations : DerivedBoundsHaveTheirDerivations
have_their_derivations = record {
  bound = λ p tab f derived k. derived.bounds 1 0
      ∙ ap (λ (ks : List ResultVariable). cond (has_key ks 1 0) (Some (derivation_of f).bound) None) k;
  number = λ p tab f derived k. derived.numbers 1 0 ∙ ap (λ (ks : List ResultVariable). cond (has_key ks 1 0) 1 0) k;
  elsewhere = λ p tab f derived k. (
    derived.bounds 1 1 ∙ ap (λ (ks : List ResultVariable). cond (has_key ks 1 1) (Some (derivation_of f).bound) None) k,
    derived.bounds 2 0 ∙ ap (λ (ks : List ResultVariable). cond (has_key ks 2 0) (Some (derivation_of f).bound) None) k,
    derived.numbers 1 1 ∙ ap (λ (ks : List ResultVariable). cond (has_key ks 1 1) 1 0) k,
  );
}
