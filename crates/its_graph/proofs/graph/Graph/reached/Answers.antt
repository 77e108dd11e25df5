use Rattle.std.proofs.Common.{◌≡◌, ◌↔◌, ℕ, suc, ◌<◌, List, All, Vec, Bool, true, false, length, replicate, get_or, ap}
use Rattle.std.proofs.Common.{arith, sym, ◌∙◌, subst}
use Rattle.std.specs.declared.alloc.Global.{Global}
use Rattle.std.proofs.lemmas.Result.{IfOk-weaker}
use Rattle.std.proofs.lemmas.List.{length-map}
use Rattle.std.proofs.lemmas.List.Elements.{All-weaker}
use Rattle.model.specs.Programs.{Program}
use Rattle.model.specs.Paths.{Path, IsReached, HasEdge}
use Rattle.its_graph.specs.Groups.{values_in, values_of, Joins}
use Rattle.its_graph.specs.Links.{ends_of, kept_links, all_cut}
use Rattle.its_graph.specs.Graphs.{IsGraphOf, none_of, flagged}
use Rattle.its_graph.proofs.PairLists.{Pair}
use Rattle.its_graph.proofs.KeptLinks.{uncut-size, uncut-flags, kept-within, kept-values, kept-table, same-edges}
use Rattle.its_graph.proofs.Reaching.{same-paths, both-ways}
use Rattle.its_graph.proofs.graph.Graph.reached.Goals as goal

-- There is a flag for each rule and one for the entry.
pub allowed_links-requires : goal.allowed_links-requires
allowed_links-requires c =
    let n = c.len.result in
    omega (arith, ap length c.deref.ensures.value, ap length (c.deref-2.ensures.value ∙ c.in_ok-allowed.ensures), uncut-size n c.args.cut.now, c.len.ensures, c.args.self.now.links.ok.0)

-- The ends of the kept links are below the number of symbols.
pub grouped-requires : goal.grouped-requires
grouped-requires c =
    let g = c.args.self.now in
    let n = g.symbols in
    let links : c.deref-3.result.now ≡ kept_links c.deref-2.result.now 1 g.links.items = c.deref-3.ensures.value ∙ (c.in_ok-links.ensures ∙ ap (λ (xs : List Pair). kept_links c.deref-2.result.now 1 xs) c.deref.ensures.value) in
    subst (λ (xs : List Pair). All (λ (e : Pair). e.0 < n) xs) (sym links)
    (All-weaker (λ (e : Pair). (e.0 < n) × (e.1 < n)) (λ (e : Pair). e.0 < n) (λ e h. h.0) (kept_links c.deref-2.result.now 1 g.links.items) (kept-within n c.deref-2.result.now 1 g.links.items c.requires.1.links_within))

-- The values of the table are nodes.
pub flooded-requires-clause-edges_within : goal.flooded-requires-clause-edges_within
flooded-requires-clause-edges_within c =
    let g = c.args.self.now in
    let n = g.symbols in
    let kept = kept_links c.deref-2.result.now 1 g.links.items in
    let links : c.deref-3.result.now ≡ kept = c.deref-3.ensures.value ∙ (c.in_ok-links.ensures ∙ ap (λ (xs : List Pair). kept_links c.deref-2.result.now 1 xs) c.deref.ensures.value) in
    let size : length c.deref-4.result.now ≡ n = ap length c.deref-4.ensures.value ∙ c.in_ok-next.ensures.one_each in
    let values : (a : ℕ) → values_in c.deref-4.result.now a ≡ values_of kept a = λ a. ap (λ (t : List (Vec ℕ Global)). values_in t a) c.deref-4.ensures.value ∙ (c.in_ok-next.ensures.values a ∙ ap (λ (xs : List Pair). values_of xs a) links) in
    λ a. subst (λ (k : ℕ). All (λ b. b < k) (values_in c.deref-4.result.now a)) (sym size) (kept-values n kept c.deref-4.result.now (kept-within n c.deref-2.result.now 1 g.links.items c.requires.1.links_within) values a)

-- The flooded symbols are the reached ones.
pub returns-clause-reached : goal.returns-clause-reached
returns-clause-reached c =
    IfOk-weaker c.flooded.result (λ (seen : Vec Bool Global). (b : ℕ) → (get_or seen.items b false ≡ true) ↔ Path (Joins c.deref-4.result.now) c.args.self.now.start b)
    (λ (seen : Vec Bool Global). (p : Program) → IsGraphOf c.args.self.now p → (b : ℕ) → (get_or seen.items b false ≡ true) ↔ IsReached p (none_of c.args.cut.now) b)
    (λ seen decided p h b. both-ways (decided b) (reach p h b)) c.flooded.ensures.reached
  where
    reach : (p : Program) → IsGraphOf c.args.self.now p → (b : ℕ) → Path (Joins c.deref-4.result.now) c.args.self.now.start b ↔ IsReached p (none_of c.args.cut.now) b
    reach p h b =
        let g = c.args.self.now in
        let n = c.len.result in
        let flags = c.deref-2.result.now in
        let kept = kept_links flags 1 g.links.items in
        let links : c.deref-3.result.now ≡ kept = c.deref-3.ensures.value ∙ (c.in_ok-links.ensures ∙ ap (λ (xs : List Pair). kept_links flags 1 xs) c.deref.ensures.value) in
        let values : (a : ℕ) → values_in c.deref-4.result.now a ≡ values_of kept a = λ a. ap (λ (t : List (Vec ℕ Global)). values_in t a) c.deref-4.ensures.value ∙ (c.in_ok-next.ensures.values a ∙ ap (λ (xs : List Pair). values_of xs a) links) in
        let rules : length p.rules ≡ n = omega (arith, ap length h.links, length-map p.rules ends_of, c.len.ensures, g.links.ok.0) in
        let same : flags ≡ all_cut c.args.cut.now (replicate (suc n) true) = c.deref-2.ensures.value ∙ c.in_ok-allowed.ensures in
        let by_flags = same-paths (Joins c.deref-4.result.now) (HasEdge p (flagged flags)) (kept-table g p h flags c.deref-4.result.now values) g.start b in
        let by_cut = same-paths (HasEdge p (flagged flags)) (HasEdge p (none_of c.args.cut.now)) (same-edges p (flagged flags) (none_of c.args.cut.now) (λ t r e. ap (λ (xs : List Bool). flagged xs t) same ∙ uncut-flags p n c.args.cut.now rules t r e)) g.start b in
        subst (λ (s : ℕ). Path (Joins c.deref-4.result.now) g.start b ↔ Path (HasEdge p (none_of c.args.cut.now)) s b) h.start (both-ways by_flags by_cut)
