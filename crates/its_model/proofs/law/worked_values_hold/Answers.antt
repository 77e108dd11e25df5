use Rattle.its_model.proofs.WorkedValues.{guards, programs, runs}
use Rattle.its_model.proofs.law.worked_values_hold.Goals as goal

pub returns : goal.returns
returns c = record { guards = guards; programs = programs; runs = runs }
