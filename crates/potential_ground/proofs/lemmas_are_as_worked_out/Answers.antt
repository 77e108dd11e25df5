use Rattle.potential_ground.proofs.WorkedLemmas as lemmas
use Rattle.potential_ground.proofs.lemmas_are_as_worked_out.Goals as goal

pub returns-clause-counters : goal.returns-clause-counters
returns-clause-counters c = lemmas.counters

pub returns-clause-lexicographic : goal.returns-clause-lexicographic
returns-clause-lexicographic c = lemmas.lexicographic

pub returns-clause-sides : goal.returns-clause-sides
returns-clause-sides c = lemmas.sides

pub returns-clause-phases : goal.returns-clause-phases
returns-clause-phases c = lemmas.phases

pub returns-clause-triangles : goal.returns-clause-triangles
returns-clause-triangles c = lemmas.triangles
