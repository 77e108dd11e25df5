use Rattle.std.proofs.Common.{◌∙◌, map, sym, ap}
use Rattle.potential_nodes.specs.Checks.{first_refused}
use Rattle.potential_nodes.specs.Facts.{is_never}
use Rattle.potential_nodes.specs.Tables.{PotentialTable, missing_checks}
use Rattle.potential_nodes.specs.PhaseNodes.{first_table, second_table}
use Rattle.potential_types.specs.Views.{fact_view, reason_of}
use Rattle.check_potentials.specs.Grounds.{plain_ground}
use Rattle.check_potentials.proofs.RefusalLaws.{refused_stops, refused_passes}
use Rattle.check_potentials.proofs.phasing.missing_phase_move.Goals as goal

pub returns-in-Some : goal.returns-in-Some
returns-in-Some c = λ n are.
    let g = plain_ground c.args.ground in
    let never = is_never (map fact_view c.args.known.facts.now) in
    sym (refused_stops (missing_checks g (first_table n) never) (missing_checks g (second_table g n) never)
    (reason_of c.in-Some.reason) (sym (c.in-Some.ensures
    ∙ ap (λ (t : PotentialTable). first_refused (missing_checks g t never)) are.first)))

pub returns-in-None : goal.returns-in-None
returns-in-None c = λ n are.
    let g = plain_ground c.args.ground in
    let never = is_never (map fact_view c.args.known.facts.now) in
    (c.missing_move-in-None.ensures
    ∙ ap (λ (t : PotentialTable). first_refused (missing_checks g t never)) are.second)
    ∙ sym (refused_passes (missing_checks g (first_table n) never) (missing_checks g (second_table g n) never)
    (sym (c.in-None.ensures
    ∙ ap (λ (t : PotentialTable). first_refused (missing_checks g t never)) are.first)))
