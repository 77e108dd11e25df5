use Rattle.while_model.proofs.WorkedPrograms.{programs_are_translated, free_names_are_found, steps_are_executed}
use Rattle.while_model.proofs.worked_values_hold.Goals as goal

pub returns : goal.returns
returns c = record {
  translated = programs_are_translated;
  free_names = free_names_are_found;
  executed = steps_are_executed;
}
