-- The graph of a program, as the code keeps it.
use Rattle.std.specs.Prelude.{◌≡◌, ◌↔◌, ℕ, ◌<◌, ◌≤◌, ◌^◌, List, length, map, All, Bool, not, eqb, slice_index_or, true}
use Rattle.std.specs.Prelude.{false}
use Rattle.std.specs.Prelude.{Option, Some, None}
use Rattle.std.specs.List.{list_any}
use Rattle.model.specs.Programs.{Program, Rule}
use Rattle.model.specs.Paths.{HasEdge, IsInSet, source_of, target_of}
use Rattle.its_model.specs.Valid.{IsValid}
use Rattle.its_graph.specs.declared.graph.Graph.{Graph}
use Rattle.its_graph.specs.Components.{IsMutual}
use Rattle.its_graph.specs.Groups.{values_in, values_of}
use Rattle.its_graph.specs.Links.{ends_of, arrivals}

-- The start symbol and those of the rules are symbols of the program.
pub record HasSymbols (p : Program) : Type 0 where
  pub start : p.start < length p.symbols
  pub rules : All (λ (r : Rule). (r.source < length p.symbols) × (r.target < length p.symbols)) p.rules

-- A valid program has the symbols that its rules name.
abbrev pub ValidHaveSymbols : Type 0
ValidHaveSymbols = (p : Program) → IsValid p → HasSymbols p

-- The graph of a program: its start, a link for each rule, and for each symbol the virtual entry and the rules that
-- lead to it; if the program has all symbols that its rules name, the graph has as many.
pub record IsGraphOf (g : Graph) (p : Program) : Type 0 where
  pub start : g.start ≡ p.start
  pub links : g.links.items ≡ map ends_of p.rules
  pub few : length g.links.items < 2 ^ 32
  pub start_within : g.start < g.symbols
  pub links_within : All (λ (e : ℕ × ℕ). (e.0 < g.symbols) × (e.1 < g.symbols)) g.links.items
  pub size : length g.arriving.items ≡ g.symbols
  pub arriving : (s : ℕ) → values_in g.arriving.items s ≡ values_of (arrivals g.start g.links.items) s
  pub symbols : length p.symbols ≤ g.symbols
  pub exact : HasSymbols p → g.symbols ≡ length p.symbols

-- The test of a rule that it isn't in a list.
abbrev pub none_of : List ℕ → ℕ → Bool
none_of cut t = not (list_any (eqb t) cut)

-- The test of a rule by its flag.
abbrev pub flagged : List Bool → ℕ → Bool
flagged flags t = slice_index_or flags t false

-- Rule t leads from the component of allowed rules with least symbol m to the same component.
pub record StaysIn (p : Program) (is_allowed : ℕ → Bool) (t m : ℕ) : Type 0 where
  pub source : ℕ
  pub leaves : source_of p t ≡ Some source
  pub target : ℕ
  pub leads : target_of p t ≡ Some target
  pub source_there : IsMutual (HasEdge p is_allowed) source m
  pub target_there : IsMutual (HasEdge p is_allowed) target m
  pub least : (b : ℕ) → IsMutual (HasEdge p is_allowed) m b → m ≤ b

-- Each rule has as name the least symbol of the component that it stays in, and has none if it stays in none.
abbrev pub ArePartsOf : Program → (ℕ → Bool) → List (Option ℕ) → Type 0
ArePartsOf p is_untimed parts = (t m : ℕ) → (slice_index_or parts t None ≡ Some m) ↔ StaysIn p is_untimed t m

-- The names of parts are below a number.
abbrev pub ArePartsBelow : ℕ → List (Option ℕ) → Type 0
ArePartsBelow n parts = (t m : ℕ) → slice_index_or parts t None ≡ Some m → m < n

-- Untimed rules of one part have the same set.
abbrev pub HaveSameSets : Program → (ℕ → Bool) → List (Option ℕ) → Type 0
HaveSameSets p is_untimed parts = (t u m : ℕ) → is_untimed t ≡ true → is_untimed u ≡ true
    → slice_index_or parts t None ≡ Some m → slice_index_or parts u None ≡ Some m
    → (e : ℕ) → IsInSet p is_untimed t e → IsInSet p is_untimed u e
