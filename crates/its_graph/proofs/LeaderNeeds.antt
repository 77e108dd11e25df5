-- The needs of leaders in a graph: they can be put in order, since no leader needs itself, directly or not.
use Rattle.std.proofs.Common.{◌≡◌, ◌↔◌, ℕ, ◌<◌, List, length, Vec, get_or, sym, ◌∙◌, subst}
use Rattle.std.specs.declared.alloc.Global.{Global}
use Rattle.model.specs.Paths.{Path, Here, Onward}
use Rattle.its_graph.specs.Groups.{values_in, Joins, IsPair}
use Rattle.its_graph.specs.Classes.{AreLeaders}
use Rattle.its_graph.specs.Orders.{IsLeader, Needs, AreLeadersInOrder, AreOrderable}
use Rattle.std.specs.List.{All}
use Rattle.std.proofs.lemmas.List.Elements.{All-from_get_or, Contains-get_or}
use Rattle.its_graph.specs.Groups.{values_of}
use Rattle.its_graph.specs.Orders.{needs_among}
use Rattle.its_graph.proofs.PairLists.{Pair, AreWithin, joins-pairs, need-from, need-listed}
use Rattle.its_graph.proofs.Routes.{join, edge_then}

module _ (Edge : ℕ → ℕ → Type 0) (leaders : List ℕ) (l : AreLeaders Edge (length leaders) leaders) where
  -- The leader of a node is a leader.
  pub leads-itself : (a : ℕ) → a < length leaders → IsLeader leaders (get_or leaders a 0)
  leads-itself a low = (l.within a low, sym (l.same a (get_or leaders a 0) low (l.within a low) (l.own a low)))

  -- A path leads from a needed leader to the one that needs it.
  pub need-path : (c d : ℕ) → Needs Edge leaders c d → Path Edge d c
  need-path c d n =
      let from = l.own n.from n.from_within in
      let to = l.own n.to n.to_within in
      join Edge d n.from c (subst (λ (x : ℕ). Path Edge x n.from) n.need from.back)
      (edge_then Edge n.from n.to c n.edge (subst (λ (x : ℕ). Path Edge n.to x) n.leader to.onward))

  -- Both leaders of a need are leaders.
  pub need-leads : (c d : ℕ) → Needs Edge leaders c d → IsLeader leaders c × IsLeader leaders d
  need-leads c d n =
      (subst (λ (x : ℕ). IsLeader leaders x) n.leader (leads-itself n.to n.to_within), subst (λ (x : ℕ). IsLeader leaders x) n.need (leads-itself n.from n.from_within))

  -- The leaders can be put in order by the table of their needs.
  pub orderable : (needs : List (Vec ℕ Global)) → length needs ≡ length leaders → ((c d : ℕ) → Joins needs c d ↔ Needs Edge leaders c d) → AreOrderable leaders needs
  orderable needs size same = record {
    size = size;
    leading = λ c d h. need-leads c d ((same c d).0 h);
    acyclic = λ c d h path. acyclic c d ((same c d).0 h) path;
  }
    where
      acyclic : (c d : ℕ) → Needs Edge leaders c d → Path (Joins needs) d c → ⊥
      acyclic c d n path =
          let back : Path Edge c d = along d c path in
          let both = need-leads c d n in
          n.other (sym both.1.1 ∙ (l.same d c both.1.0 both.0.0 (record { onward = need-path c d n; back = back }) ∙ both.0.1))
        where
          along : (x y : ℕ) → Path (Joins needs) x y → Path Edge y x
          along x y (Here e) = Here (sym e)
          along x y (Onward {b = z} p h) = join Edge y z x (need-path z y ((same z y).0 h)) (along x z p)

  -- An order by the table is one by the edges.
  pub order-by-edges : (Need : ℕ → ℕ → Type 0) → ((c d : ℕ) → Need c d ↔ Needs Edge leaders c d) → (order : List ℕ) → AreLeadersInOrder Need leaders order → AreLeadersInOrder (Needs Edge leaders) leaders order
  order-by-edges Need same order o = record {
    each = λ k low. let at = o.each k low in record {
      leads = at.leads;
      unlisted = at.unlisted;
      needs = λ d n. at.needs d ((same (get_or order k 0) d).1 n);
      least = λ q leads unlisted all. at.least q leads unlisted (λ d n. all d ((same q d).0 n));
    };
    all = o.all;
  }

-- The table of the listed needs has the needs of the leaders.
pub needs-table : (leaders : List ℕ) (edges : List Pair) (needs : List (Vec ℕ Global)) → AreWithin (length leaders) edges
    → ((a : ℕ) → values_in needs a ≡ values_of (needs_among leaders edges) a) → (c d : ℕ) → Joins needs c d ↔ Needs (IsPair edges) leaders c d
needs-table leaders edges needs within same c d =
    (λ h. need-from leaders edges c d within ((joins-pairs needs (needs_among leaders edges) same c d).0 h), λ n. (joins-pairs needs (needs_among leaders edges) same c d).1 (listed n))
  where
    listed : Needs (IsPair edges) leaders c d → IsPair (needs_among leaders edges) c d
    listed n =
        subst (λ (x : ℕ). IsPair (needs_among leaders edges) x d) n.leader
        (subst (λ (x : ℕ). IsPair (needs_among leaders edges) (get_or leaders n.to 0) x) n.need
        (need-listed leaders edges n.from n.to n.edge (λ e. n.other (sym n.need ∙ (e ∙ n.leader)))))

-- The leaders that have needs are below the number of nodes.
pub needs-keys : (leaders : List ℕ) (edges : List Pair) → AreLeaders (IsPair edges) (length leaders) leaders → AreWithin (length leaders) edges → All (λ (e : Pair). e.0 < length leaders) (needs_among leaders edges)
needs-keys leaders edges l within =
    let zeros : Pair = (0, 0) in
    All-from_get_or (λ (e : Pair). e.0 < length leaders) (needs_among leaders edges) zeros
    (λ i low. let e : Pair = get_or (needs_among leaders edges) i zeros in (need-leads (IsPair edges) leaders l e.0 e.1 (need-from leaders edges e.0 e.1 within (Contains-get_or (needs_among leaders edges) i zeros low))).0.0)
