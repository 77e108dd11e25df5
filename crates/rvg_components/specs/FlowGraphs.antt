-- The graph of places that the code builds.
use Rattle.std.specs.Prelude.{◌≡◌, ◌↔◌, ℕ, ◌<◌, ◌≤◌, Bool, List, length, All}
use Rattle.its_graph.specs.Groups.{IsPair}
use Rattle.cert_types.specs.cert_rules.Nodes.{ResultVariable}
use Rattle.cert_types.specs.cert_rules.Setting.{Setting}
use Rattle.rvg_components.specs.Flows.{Locals, live_result_variables}
use Rattle.rvg_components.specs.Listing.{HasFlow}

-- these are the places of live rules in order, and the edges along which values flow, by the positions of the places
pub record IsFlowGraph (s : Setting) (is_live : ℕ → Bool) (local : Locals) (result_variables : List ResultVariable)
    (edges : List (ℕ × ℕ)) : Type 0 where
  pub places : result_variables ≡ live_result_variables s.program is_live
  pub few : length result_variables ≤ 32000
  pub within : All (λ (e : ℕ × ℕ). (e.0 < length result_variables) × (e.1 < length result_variables)) edges
  pub flowing : (a b : ℕ) → IsPair edges a b ↔ HasFlow s local result_variables a b
