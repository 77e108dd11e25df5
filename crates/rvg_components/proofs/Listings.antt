-- Listings of components: relations that agree have the same ones, and a component of two nodes has an edge inside.
use Rattle.std.proofs.Common.{◌≡◌, ◌⊎◌, inl, inr, ℕ, ◌+◌, ◌<◌, List, [], ◌∷◌, ◌++◌, take, drop, length, get_or}
use Rattle.std.proofs.Common.{Contains, sym, ◌∙◌, ap, arith}
use Rattle.std.proofs.lemmas.List.{take-append-drop, drop_more}
use Rattle.model.specs.Paths.{Path, Here, Onward}
use Rattle.its_graph.specs.Components.{IsMutual, IsListed, MayComeNext, IsNext, IsListing}
use Rattle.its_graph.proofs.Elements.{Contains-first, Contains-later, none_in_empty}
use Rattle.its_graph.proofs.Routes.{path-map, join, edge_then, mutual-self, path-within}

-- the edges of one graph are edges of another
abbrev pub Within : (ℕ → ℕ → Type 0) → (ℕ → ℕ → Type 0) → Type 0
Within Edge Other = (a b : ℕ) → Edge a b → Other a b

-- nodes in one component of the first graph are in one component of the other
mutual-same : (Edge Other : ℕ → ℕ → Type 0) → Within Edge Other → (a b : ℕ) → IsMutual Edge a b → IsMutual Other a b
mutual-same Edge Other on a b m = record {
  onward = path-map Edge Other on a b m.onward;
  back = path-map Edge Other on b a m.back;
}

-- a component that may come next by one relation may come next by the other
ready-same : (Edge Other : ℕ → ℕ → Type 0) → Within Edge Other → Within Other Edge → (n : ℕ) (before : List (List ℕ)) (a : ℕ) → MayComeNext Edge n before a → MayComeNext Other n before a
ready-same Edge Other on back n before a h = record {
  node = h.node;
  unlisted = h.unlisted;
  sources = λ b path. go b (h.sources b (path-map Other Edge back b a path));
}
  where
    go : (b : ℕ) → IsListed before b ⊎ IsMutual Edge a b → IsListed before b ⊎ IsMutual Other a b
    go b (inl l) = inl l
    go b (inr m) = inr (mutual-same Edge Other on a b m)

-- a listing of the components of one relation is one of the other
pub listing-same : (Edge Other : ℕ → ℕ → Type 0) → Within Edge Other → Within Other Edge → (n : ℕ) (cs : List (List ℕ)) → IsListing Edge n cs → IsListing Other n cs
listing-same Edge Other on back n cs l = record { each = λ before after c e. next before c (l.each before after c e); all = l.all }
  where
    next : (before : List (List ℕ)) (c : List ℕ) → IsNext Edge n before c → IsNext Other n before c
    next before c h = record {
      least = h.least;
      ready = ready-same Edge Other on back n before h.least h.ready;
      first = λ a r. h.first a (ready-same Other Edge back on n before a r);
      members = λ b. (λ m. mutual-same Edge Other on h.least b ((h.members b).0 m), λ m. (h.members b).1 (mutual-same Other Edge back h.least b m));
      ascending = h.ascending;
    }

-- an edge between two of these nodes
pub record InnerEdge (Edge : ℕ → ℕ → Type 0) (nodes : List ℕ) : Type 0 where
  pub from : ℕ
  pub to : ℕ
  pub holds_from : Contains nodes from
  pub holds_to : Contains nodes to
  pub edge : Edge from to

module _ (Edge : ℕ → ℕ → Type 0) (n : ℕ) where
  -- a listed component comes next after those before it
  pub next-at : (cs : List (List ℕ)) → IsListing Edge n cs → (k : ℕ) (c : List ℕ) → k < length cs → get_or cs k c ≡ c → IsNext Edge n (take k cs) c
  next-at cs l k c low e = l.each (take k cs) (drop (k + 1) cs) c (sym (take-append-drop k cs)
      ∙ ap (λ (xs : List (List ℕ)). take k cs ++ xs) (drop_more cs k c low ∙ ap (λ (d : List ℕ). d ∷ drop (k + 1) cs) e))

  -- a component isn't empty
  pub not-empty : (before : List (List ℕ)) → IsNext Edge n before [] → ⊥
  not-empty before h = none_in_empty h.least ((h.members h.least).1 (mutual-self Edge h.least))

  -- the nodes of a component are nodes of the graph
  pub nodes-within : ((a b : ℕ) → Edge a b → b < n) → (before : List (List ℕ)) (c : List ℕ) → IsNext Edge n before c → (a : ℕ) → Contains c a → a < n
  nodes-within within before c h a among = path-within Edge n within h.least a h.ready.node ((h.members a).0 among).onward

  -- a component of two nodes or more has an edge inside
  pub inner-edge : (before : List (List ℕ)) (x y : ℕ) (rest : List ℕ) → IsNext Edge n before (x ∷ y ∷ rest) → InnerEdge Edge (x ∷ y ∷ rest)
  inner-edge before x y rest h = go path
    where
      nodes : List ℕ
      nodes = x ∷ y ∷ rest

      to_x : IsMutual Edge h.least x
      to_x = (h.members x).0 (Contains-first x (y ∷ rest))

      to_y : IsMutual Edge h.least y
      to_y = (h.members y).0 (Contains-later x (y ∷ rest) y (Contains-first y rest))

      path : Path Edge x y
      path = join Edge x h.least y to_x.back to_y.onward

      apart : x < y
      apart = h.ascending 0 (omega arith)

      go : Path Edge x y → InnerEdge Edge (x ∷ y ∷ rest)
      go (Here e) = absurd (omega (arith, apart, e))
      go (Onward {b = z} p edge) = record {
        from = z;
        to = y;
        holds_from = (h.members z).1 (record {
          onward = join Edge h.least x z to_x.onward p;
          back = edge_then Edge z y h.least edge to_y.back;
        });
        holds_to = Contains-later x (y ∷ rest) y (Contains-first y rest);
        edge = edge;
      }
