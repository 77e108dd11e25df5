use Rattle.std.proofs.Common.{◌≡◌, ◌↔◌, ℕ, ◌<◌, ◌≤◌, ◌∷◌, List, All, Option, None, map, ap, sym, ◌∙◌, subst}
use Rattle.model.specs.Paths.{HasEdge}
use Rattle.its_graph.specs.Groups.{IsPair}
use Rattle.its_graph.specs.Classes.{AreLeaders}
use Rattle.its_graph.specs.Links.{ends_of, kept_links, shared_leader}
use Rattle.its_graph.specs.Graphs.{flagged, ArePartsBelow, ArePartsOf}
use Rattle.its_graph.proofs.PairLists.{Pair, pair-within}
use Rattle.its_graph.proofs.KeptLinks.{kept-within, kept-edges}
use Rattle.its_graph.proofs.EdgeTables.{leaders-by}
use Rattle.its_graph.proofs.SharedLeaders.{parts-below}
use Rattle.its_graph.proofs.NamedParts.{parts-named}
use Rattle.its_graph.proofs.SameSets.{same-sets}
use Rattle.its_graph.proofs.graph.Graph.parts.Goals as goal

-- the kept links are below the limit
pub leaders_in-requires-clause-within : goal.leaders_in-requires-clause-within
leaders_in-requires-clause-within c =
    let g = c.args.self.now in
    let n = c.link_limit.result in
    let links : c.deref-3.result.now ≡ kept_links c.args.untimed.now 1 g.links.items =
    c.deref-3.ensures.value
    ∙ (c.in_ok-links.ensures ∙ ap (λ (xs : List Pair). kept_links c.args.untimed.now 1 xs) c.deref.ensures.value) in
    let within : All (λ (e : Pair). (e.0 < n) × (e.1 < n)) g.links.items =
    subst (λ (xs : List Pair). All (λ (e : Pair). (e.0 < n) × (e.1 < n)) xs) c.deref-2.ensures.value
    c.link_limit.ensures.below in
    subst (λ (xs : List Pair). All (λ (e : Pair). (e.0 < n) × (e.1 < n)) xs) (sym links)
    (kept-within n c.args.untimed.now 1 g.links.items within)

-- the parts are those of the leaders
pub returns-clause-within : goal.returns-clause-within
returns-clause-within c =
    let g = c.args.self.now in
    let n = c.link_limit.result in
    let leaders = c.in_ok-leaders.leaders.items in
    let links : c.deref-2.result.now ≡ g.links.items = c.deref-2.ensures.value in
    let below : All (λ (e : Pair). (e.0 < n) × (e.1 < n)) g.links.items =
    subst (λ (xs : List Pair). All (λ (e : Pair). (e.0 < n) × (e.1 < n)) xs) links c.link_limit.ensures.below in
    let few : n ≤ g.symbols =
    c.link_limit.ensures.least g.symbols
    (subst (λ (xs : List Pair). All (λ (e : Pair). (e.0 < g.symbols) × (e.1 < g.symbols)) xs) (sym links)
    c.requires.graph.1.links_within) in
    let parts : c.in_ok-parts.parts.items ≡ None ∷ map (shared_leader leaders) g.links.items =
    c.in_ok-parts.ensures
    ∙ (ap (λ (ls : List ℕ). None ∷ map (shared_leader ls) c.deref-4.result.now) c.deref-5.ensures.value
    ∙ ap (λ (xs : List Pair). None ∷ map (shared_leader leaders) xs) c.deref-4.ensures.value) in
    subst (λ (ps : List (Option ℕ)). ArePartsBelow g.symbols ps) (sym parts)
    (parts-below (IsPair c.deref-3.result.now) n g.symbols leaders g.links.items c.in_ok-leaders.ensures below few)

-- each rule has the name of its component
pub returns-clause-named : goal.returns-clause-named
returns-clause-named c = λ p h.
    let g = c.args.self.now in
    let n = c.link_limit.result in
    let untimed = c.args.untimed.now in
    let leaders = c.in_ok-leaders.leaders.items in
    let below : All (λ (e : Pair). (e.0 < n) × (e.1 < n)) g.links.items =
    subst (λ (xs : List Pair). All (λ (e : Pair). (e.0 < n) × (e.1 < n)) xs) c.deref-2.ensures.value
    c.link_limit.ensures.below in
    let kept : c.deref-3.result.now ≡ kept_links untimed 1 (map ends_of p.rules) =
    c.deref-3.ensures.value
    ∙ (c.in_ok-links.ensures ∙ ap (λ (xs : List Pair). kept_links untimed 1 xs) (c.deref.ensures.value ∙ h.links)) in
    let edges : (a b : ℕ) → IsPair c.deref-3.result.now a b ↔ HasEdge p (flagged untimed) a b =
    λ a b. subst (λ (xs : List Pair). IsPair xs a b ↔ HasEdge p (flagged untimed) a b) (sym kept) (kept-edges p untimed a b) in
    let within : All (λ (e : Pair). (e.0 < n) × (e.1 < n)) c.deref-3.result.now =
    subst (λ (xs : List Pair). All (λ (e : Pair). (e.0 < n) × (e.1 < n)) xs)
    (ap (λ (xs : List Pair). kept_links untimed 1 xs) h.links ∙ sym kept) (kept-within n untimed 1 g.links.items below) in
    let by_rules : AreLeaders (HasEdge p (flagged untimed)) n leaders =
    leaders-by (IsPair c.deref-3.result.now) (HasEdge p (flagged untimed)) edges n leaders c.in_ok-leaders.ensures in
    let parts : c.in_ok-parts.parts.items ≡ None ∷ map (shared_leader leaders) g.links.items =
    c.in_ok-parts.ensures
    ∙ (ap (λ (ls : List ℕ). None ∷ map (shared_leader ls) c.deref-4.result.now) c.deref-5.ensures.value
    ∙ ap (λ (xs : List Pair). None ∷ map (shared_leader leaders) xs) c.deref-4.ensures.value) in
    subst (λ (ps : List (Option ℕ)). ArePartsOf p (flagged untimed) ps) (sym parts)
    (parts-named p (flagged untimed) n leaders by_rules
    (λ a b e. (pair-within n c.deref-3.result.now a b within ((edges a b).1 e)).1) g.links.items h.links below)

-- rules of one component have the same set
pub returns-clause-sets : goal.returns-clause-sets
returns-clause-sets c = λ p h. same-sets p (flagged c.args.untimed.now) c.in_ok-parts.parts.items (returns-clause-named c p h)
