use Rattle.std.proofs.Common.{◌≡◌, map}
use Rattle.bound_fixpoint.specs.Needs.{lemma_by}
use Rattle.cert_types.specs.Views.{proof_of}
use Rattle.size_bounds.specs.Tables.{number_at}
use Rattle.bound_derivations.specs.Views.{derivations_of}
use Rattle.bound_derivations.proofs.citing.lemmas_by_numbers.Given as goal

abbrev pub invariant-loop-derivation : goal.invariant-loop-derivation
invariant-loop-derivation l =
    map proof_of l.lemmas.items ≡ map (λ f. lemma_by (number_at l.table) f.node f.premises) (derivations_of l.yielded)
