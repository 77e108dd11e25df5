-- A program has a cycle exactly if a listed component has both ends of a link.
use Rattle.std.proofs.Common.{◌≡◌, ℕ, ◌+◌, ◌<◌, List, ◌∷◌, ◌++◌, take, drop, Contains, sym, ◌∙◌, ap}
use Rattle.std.proofs.lemmas.List.{take-append-drop, drop_more}
use Rattle.std.specs.List.{All}
use Rattle.model.specs.Programs.{Program}
use Rattle.model.specs.Paths.{HasEdge, any_rule, HasCycle}
use Rattle.its_graph.specs.Groups.{IsPair}
use Rattle.its_graph.specs.Components.{IsMutual, IsNext, IsListing}
use Rattle.its_graph.specs.Cycles.{links_of, HasInnerLink, CyclesAreInnerLinks}
use Rattle.its_graph.proofs.PairLists.{Pair, pair-within}
use Rattle.its_graph.proofs.Routes.{path-map, mutual-turned, mutual-join, one_edge}
use Rattle.its_graph.proofs.Numbering.{edge-pair}

module _ (Edge : ℕ → ℕ → Type 0) (n : ℕ) (cs : List (List ℕ)) (l : IsListing Edge n cs) where
  -- A listed component comes next after some components.
  next-of : (c : List ℕ) → Contains cs c → (before : List (List ℕ)) × IsNext Edge n before c
  next-of c (k, low, e) =
      let rest : drop k cs ≡ c ∷ drop (k + 1) cs = drop_more cs k c low
      ∙ ap (λ (d : List ℕ). d ∷ drop (k + 1) cs) e in
      let whole : cs ≡ take k cs ++ c ∷ drop (k + 1) cs = sym (take-append-drop k cs)
      ∙ ap (λ (xs : List (List ℕ)). take k cs ++ xs) rest in
      (take k cs, l.each (take k cs) (drop (k + 1) cs) c whole)

  -- the nodes of a listed component are mutual
  inside-mutual : (c : List ℕ) → Contains cs c → (a b : ℕ) → Contains c a → Contains c b → IsMutual Edge a b
  inside-mutual c h a b ha hb =
      let next = (next-of c h).1 in
      mutual-join Edge a next.least b (mutual-turned Edge next.least a ((next.members a).0 ha)) ((next.members b).0 hb)

  -- a component has all nodes that are mutual with one of its own
  mutual-inside : (c : List ℕ) → Contains cs c → (a b : ℕ) → Contains c a → IsMutual Edge a b → Contains c b
  mutual-inside c h a b ha m =
      let next = (next-of c h).1 in
      (next.members b).1 (mutual-join Edge next.least a b ((next.members a).0 ha) m)

module _ (p : Program) (n : ℕ) (cs : List (List ℕ)) (l : IsListing (IsPair (links_of p)) n cs) where
  -- both ends of a link on a cycle are in the component of the first
  inner-link : All (λ (e : Pair). (e.0 < n) × (e.1 < n)) (links_of p) → HasCycle p → HasInnerLink (links_of p) cs
  inner-link within c =
      let link = (edge-pair p c.from c.to).0 c.edge in
      let place = l.all c.from (pair-within n (links_of p) c.from c.to within link).0 in
      let back = path-map (HasEdge p any_rule) (IsPair (links_of p)) (λ a b. (edge-pair p a b).0) c.to c.from c.back in
      record {
        component = place.component;
        listed = place.listed;
        from = c.from;
        to = c.to;
        link = link;
        holds_from = place.member;
        holds_to =
            mutual-inside (IsPair (links_of p)) n cs l place.component place.listed c.from c.to place.member
            (record { onward = one_edge (IsPair (links_of p)) c.from c.to link; back = back });
      }

  -- a link inside a component is on a cycle
  inner-cycle : HasInnerLink (links_of p) cs → HasCycle p
  inner-cycle i =
      let m = inside-mutual (IsPair (links_of p)) n cs l i.component i.listed i.from i.to i.holds_from i.holds_to in
      record {
        from = i.from;
        to = i.to;
        edge = (edge-pair p i.from i.to).1 i.link;
        back =
            path-map (IsPair (links_of p)) (HasEdge p any_rule) (λ a b. (edge-pair p a b).1) i.to i.from m.back;
      }

-- A program has a cycle exactly if a component of its links has a link inside.
pub cycles_are_inner_links : CyclesAreInnerLinks
cycles_are_inner_links = λ p n cs within l. (λ c. inner-link p n cs l within c, λ i. inner-cycle p n cs l i)
