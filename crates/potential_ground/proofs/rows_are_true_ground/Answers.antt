use Rattle.potential_ground.proofs.RowTermLaws as lemmas
use Rattle.potential_ground.proofs.rows_are_true_ground.Goals as goal

pub returns : goal.returns
returns c = lemmas.rows_are_true_ground c.steps_are_points.ensures
