-- The size of the tree so far, by the position of the code.
use Rattle.std.proofs.Common.{◌≡◌, ◌+◌, max, refl, arith}
use Rattle.text_core.specs.model.Bounds.{Constant, Input, Parts}
use Rattle.bound_expr.specs.Measure.{node_count_of_all, maximum_depth}
use Rattle.bound_text.specs.ParserStates.{Outer, nodes_of, inner_levels, nodes_round, levels_above}
use Rattle.bound_text.specs.Views.{state_with, sum_here, product_here, item_here}
use Rattle.bound_text.specs.declared.state.Position.{Position}
use Rattle.bound_text.specs.declared.state.Position.TheVariants as at
use Rattle.bound_text.proofs.PartLaws.{node_count-with_part, depth-with_part, product_node-with_part}

-- a leaf that is no factor yet counts as many nodes as a factor
pub nodes_here : (position : Position) (outer : Outer) (ts fs : Parts)
    → nodes_of (state_with position outer ts fs) ≡ nodes_round outer + sum_here position outer ts + node_count_of_all ts + product_here position fs + node_count_of_all fs + item_here position
nodes_here at.Begins outer ts fs = refl
nodes_here (at.Number c) outer ts fs = omega (arith, node_count-with_part fs (Constant c), product_node-with_part fs (Constant c) refl)
nodes_here (at.Name i) outer ts fs = omega (arith, node_count-with_part fs (Input i), product_node-with_part fs (Input i) refl)
nodes_here (at.RunCaret i) outer ts fs = refl
nodes_here (at.PowerCaret c) outer ts fs = refl
nodes_here at.ItemRead outer ts fs = refl
nodes_here at.BlankRead outer ts fs = refl
nodes_here at.PlusRead outer ts fs = refl
nodes_here at.CommaRead outer ts fs = refl

-- the levels of a state are those computed by the position of the code
pub levels_here : (position : Position) (outer : Outer) (ts fs : Parts)
    → inner_levels (state_with position outer ts fs) ≡ max (levels_above outer + sum_here position outer ts + maximum_depth ts) (levels_above outer + sum_here position outer ts + product_here position fs + max (maximum_depth fs) (item_here position))
levels_here at.Begins outer ts fs = refl
levels_here (at.Number c) outer ts fs = omega (arith, depth-with_part fs (Constant c), product_node-with_part fs (Constant c) refl)
levels_here (at.Name i) outer ts fs = omega (arith, depth-with_part fs (Input i), product_node-with_part fs (Input i) refl)
levels_here (at.RunCaret i) outer ts fs = refl
levels_here (at.PowerCaret c) outer ts fs = refl
levels_here at.ItemRead outer ts fs = refl
levels_here at.BlankRead outer ts fs = refl
levels_here at.PlusRead outer ts fs = refl
levels_here at.CommaRead outer ts fs = refl

pub ruleset here = (nodes_here, levels_here)
