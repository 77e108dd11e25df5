use Rattle.potential_ground.proofs.WholeLaws.{accepted_potentials}
use Rattle.potential_ground.proofs.accepted_potentials_hold.Goals as goal

pub returns : goal.returns
returns c =
    accepted_potentials c.rows_are_true_ground.ensures c.squares_are_safe.ensures c.plain_facts_hold.ensures
    c.accepted_lemmas_hold.ensures
