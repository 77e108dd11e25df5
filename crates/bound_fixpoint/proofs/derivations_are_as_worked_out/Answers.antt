use Rattle.bound_fixpoint.proofs.WorkedDerivations.{derivations_worked, keys_worked, premises_worked, lemmas_worked}
use Rattle.bound_fixpoint.proofs.derivations_are_as_worked_out.Goals as goal

pub returns : goal.returns
returns c = record { derivations = derivations_worked; keys = keys_worked; premises = premises_worked; lemmas = lemmas_worked }
