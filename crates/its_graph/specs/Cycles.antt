-- Whether a program has a cycle, decided by the components of its graph.
use Rattle.std.specs.Prelude.{◌↔◌, ℕ, ◌<◌, List, map, All}
use Rattle.std.specs.List.{Contains}
use Rattle.model.specs.Programs.{Program}
use Rattle.model.specs.Paths.{HasCycle}
use Rattle.its_graph.specs.Groups.{IsPair}
use Rattle.its_graph.specs.Links.{ends_of}
use Rattle.its_graph.specs.Components.{IsListing}

-- The links of a program: source and target of each rule, in the order of the rules.
abbrev pub links_of : Program → List (ℕ × ℕ)
links_of p = map ends_of p.rules

-- Some component has an inner edge: it has both ends of a link.
pub record HasInnerLink (links : List (ℕ × ℕ)) (components : List (List ℕ)) : Type 0 where
  pub component : List ℕ
  pub listed : Contains components component
  pub from : ℕ
  pub to : ℕ
  pub link : IsPair links from to
  pub holds_from : Contains component from
  pub holds_to : Contains component to

-- A program, whose links are between nodes below a number, has a cycle exactly if some component of the graph of its
-- links has an inner edge.
abbrev pub CyclesAreInnerLinks : Type 0
CyclesAreInnerLinks = (p : Program) (nodes : ℕ) (components : List (List ℕ))
    → All (λ (e : ℕ × ℕ). (e.0 < nodes) × (e.1 < nodes)) (links_of p)
    → IsListing (IsPair (links_of p)) nodes components → HasCycle p ↔ HasInnerLink (links_of p) components
