use Rattle.refinement.proofs.WorkedSections.{sections_spell, expressions_are_moved, sections_are_shown}
use Rattle.refinement.proofs.WorkedPrograms.{facts_hold_at_symbols, programs_simulate}
use Rattle.refinement.proofs.WorkedCosts.{costs_are_kept}
use Rattle.refinement.proofs.worked_values_hold.Goals as goal

pub returns : goal.returns
returns c = record {
  spelled = sections_spell;
  moved = expressions_are_moved;
  shown = sections_are_shown;
  facts = facts_hold_at_symbols;
  simulated = programs_simulate;
  costs = costs_are_kept;
}
