-- A rule is in the part with a name exactly if it stays in the component with this least symbol.
use Rattle.std.proofs.Common.{◌≡◌, ℕ, zero, suc, ◌<◌, ◌≤◌, List, ◌∷◌, length, map, Option, Some, None, Bool, get_or}
use Rattle.std.proofs.Common.{refl, sym, ◌∙◌, ap, subst, arith}
use Rattle.std.specs.Prelude.{slice_get}
use Rattle.std.specs.List.{All}
use Rattle.std.proofs.lemmas.List.{length-map, get_or-map}
use Rattle.std.proofs.lemmas.List.Elements.{All-get_or}
use Rattle.std.proofs.lemmas.Option.{slice_get_within, get_or_from_slice_get}
use Rattle.model.specs.Programs.{Program, Rule, rule_at}
use Rattle.model.specs.Paths.{HasEdge, source_in, target_in, target_of}
use Rattle.its_graph.specs.Components.{IsMutual}
use Rattle.its_graph.specs.Classes.{AreLeaders}
use Rattle.its_graph.specs.Links.{ends_of, shared_leader}
use Rattle.its_graph.specs.Graphs.{ArePartsOf, StaysIn}
use Rattle.its_graph.proofs.PairLists.{Pair}
use Rattle.its_graph.proofs.Routes.{mutual-self, mutual-join, path-within}
use Rattle.its_graph.proofs.SharedLeaders.{HasLeader, has-leader, leader-shared, none_some, number_in}

module _ (p : Program) (is_untimed : ℕ → Bool) (n : ℕ) (leaders : List ℕ)
    (l : AreLeaders (HasEdge p is_untimed) n leaders)
    (edges : (a b : ℕ) → HasEdge p is_untimed a b → b < n) where
  -- A node in one component with a node of the graph is one of the graph.
  mutual-below : (a b : ℕ) → a < n → IsMutual (HasEdge p is_untimed) a b → b < n
  mutual-below a b low m = path-within (HasEdge p is_untimed) n edges a b low m.onward

  -- The leader of an end is the least symbol of its component.
  leader-least : (a m : ℕ) → a < n → IsMutual (HasEdge p is_untimed) a m
      → ((b : ℕ) → IsMutual (HasEdge p is_untimed) m b → m ≤ b) → get_or leaders a 0 ≡ m
  leader-least a m low at least =
      let m_low : m < n = mutual-below a m low at in
      let same : get_or leaders a 0 ≡ get_or leaders m 0 = l.same a m low m_low at in
      let up : get_or leaders m 0 ≤ m = l.least m m m_low m_low (mutual-self (HasEdge p is_untimed) m) in
      let down : m ≤ get_or leaders m 0 = least (get_or leaders m 0) (l.own m m_low) in
      omega (arith, same, up, down)

  -- A rule in a part stays in the part's component.
  named-stays : (t m : ℕ) → HasLeader p leaders n t m → StaysIn p is_untimed t m
  named-stays t m s = record {
    source = s.source;
    leaves = s.leaves;
    target = s.target;
    leads = s.leads;
    source_there = own s.source s.source_within s.source_leader;
    target_there = own s.target s.target_within s.target_leader;
    least = λ b k.
        let from = mutual-join (HasEdge p is_untimed) s.source m b (own s.source s.source_within s.source_leader) k in
        let low = l.least s.source b s.source_within (mutual-below s.source b s.source_within from) from in
        omega (arith, low, s.source_leader);
  }
    where
      own : (a : ℕ) → a < n → get_or leaders a 0 ≡ m → IsMutual (HasEdge p is_untimed) a m
      own a low e = subst (λ (x : ℕ). IsMutual (HasEdge p is_untimed) a x) e (l.own a low)

  -- A rule that stays in a component is in the part of that component.
  stays-named : (links : List Pair) → links ≡ map ends_of p.rules → All (λ (e : Pair). (e.0 < n) × (e.1 < n)) links
      → (t m : ℕ) → StaysIn p is_untimed t m → get_or (None ∷ map (shared_leader leaders) links) t None ≡ Some m
  stays-named links same within t m s = go t s.leaves s.leads
    where
      at_rule : (i : ℕ) (r : Rule) → slice_get p.rules i ≡ Some r → Some r.source ≡ Some s.source
          → Some r.target ≡ Some s.target → get_or (map (shared_leader leaders) links) i None ≡ Some m
      at_rule i r e leaves leads =
          let in_rules : i < length p.rules = slice_get_within p.rules i r e in
          let low : i < length links = omega (arith, in_rules, ap length same, length-map p.rules ends_of) in
          let link : get_or links i (0, 0) ≡ ends_of r =
          ap (λ (xs : List Pair). get_or xs i (0, 0)) same
          ∙ (get_or-map ends_of p.rules i r (0, 0) in_rules ∙ ap ends_of (get_or_from_slice_get p.rules i r r e)) in
          let both = All-get_or (λ (x : Pair). (x.0 < n) × (x.1 < n)) links i (0, 0) low within in
          let from : (get_or links i (0, 0)).0 ≡ s.source = ap (λ (x : Pair). x.0) link ∙ number_in r.source s.source leaves in
          let to : (get_or links i (0, 0)).1 ≡ s.target = ap (λ (x : Pair). x.1) link ∙ number_in r.target s.target leads in
          get_or-map (shared_leader leaders) links i (0, 0) None low
          ∙ leader-shared leaders (get_or links i (0, 0)) m
          (ap (λ (x : ℕ). get_or leaders x 0) from
          ∙ leader-least s.source m (subst (λ (x : ℕ). x < n) from both.0) s.source_there s.least)
          (ap (λ (x : ℕ). get_or leaders x 0) to
          ∙ leader-least s.target m (subst (λ (x : ℕ). x < n) to both.1) s.target_there s.least)

      go : (t : ℕ) → source_in (rule_at p t) ≡ Some s.source → target_of p t ≡ Some s.target
          → get_or (None ∷ map (shared_leader leaders) links) t None ≡ Some m
      go zero leaves leads = absurd (none_some s.source leaves)
      go (suc i) leaves leads = inner (slice_get p.rules i) refl
        where
          inner : (o : Option Rule) → slice_get p.rules i ≡ o → get_or (map (shared_leader leaders) links) i None ≡ Some m
          inner None k = absurd (none_some s.source (sym (ap source_in k) ∙ leaves))
          inner (Some r) k = at_rule i r k (sym (ap source_in k) ∙ leaves) (sym (ap target_in k) ∙ leads)

  -- The names of the parts are those of the components.
  pub parts-named : (links : List Pair) → links ≡ map ends_of p.rules → All (λ (e : Pair). (e.0 < n) × (e.1 < n)) links
      → ArePartsOf p is_untimed (None ∷ map (shared_leader leaders) links)
  parts-named links same within t m = (
    λ e. named-stays t m (has-leader p leaders n links same within t m e),
    stays-named links same within t m,
  )
