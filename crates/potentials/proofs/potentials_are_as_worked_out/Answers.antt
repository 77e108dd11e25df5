use Rattle.potentials.proofs.WorkedPotentials as lemmas
use Rattle.potentials.proofs.potentials_are_as_worked_out.Goals as goal

pub returns : goal.returns
returns c = record {
  sums = lemmas.sums_worked;
  levels = lemmas.levels_worked;
  potentials = lemmas.potentials_worked;
  facts = lemmas.facts_worked;
  quotients = lemmas.quotients_worked;
  phases = lemmas.phases_worked;
  ranks = lemmas.ranks_worked;
}
