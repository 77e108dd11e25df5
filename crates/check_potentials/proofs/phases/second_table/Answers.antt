use Rattle.std.proofs.Common.{◌∙◌, List, map, ap, ap₂}
use Rattle.potential_nodes.specs.Tables as tables
use Rattle.potential_nodes.specs.PhaseNodes.{second_move}
use Rattle.potential_types.specs.declared.nodes.PhaseMove.{PhaseMove}
use Rattle.potential_types.specs.Views.{function_of, phase_move_of, phases_node_of}
use Rattle.check_potentials.specs.Grounds.{plain_ground}
use Rattle.check_potentials.proofs.PhaseTables.{tabled}
use Rattle.check_potentials.proofs.phases.second_table.Goals as goal

pub returns : goal.returns
returns c =
    let g = plain_ground c.args.ground in
    let n = phases_node_of c.args.node.now in
    ap₂ (λ (fs : List tables.SymbolFunction) (ms : List tables.Move). tabled fs c.args.node.now.den ms)
    (c.in_ok-functions.ensures ∙ ap (map function_of) c.deref.ensures.value)
    (c.in_ok-moves.ensures n c.requires.first c.requires.payments
    ∙ ap (λ (ss : List PhaseMove). map (second_move g n) (map phase_move_of ss)) c.deref-2.ensures.value)
