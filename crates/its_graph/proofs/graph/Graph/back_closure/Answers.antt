use Rattle.std.proofs.Common.{◌≡◌, ◌↔◌, ℕ, ◌<◌, List, All, Contains, Vec, Bool, true, false, length, map, get_or, Some}
use Rattle.std.proofs.Common.{ap, sym, ◌∙◌, subst}
use Rattle.std.specs.declared.alloc.Global.{Global}
use Rattle.std.specs.List.Sorted.{IsStrictlyIncreasing}
use Rattle.std.proofs.lemmas.Result.{IfOk-weaker}
use Rattle.std.proofs.lemmas.List.Elements.{All-weaker}
use Rattle.model.specs.Programs.{Program}
use Rattle.model.specs.Paths.{Path, HasEdge, IsInSet, source_in}
use Rattle.its_graph.specs.Groups.{values_in, values_of, Joins, swap}
use Rattle.its_graph.specs.Links.{kept_links, members_from}
use Rattle.its_graph.specs.Graphs.{IsGraphOf, flagged}
use Rattle.its_graph.proofs.PairLists.{Pair}
use Rattle.its_graph.proofs.KeptLinks.{kept-within, swap-within, kept-values, turned-table}
use Rattle.its_graph.proofs.Reaching.{turned-paths, both-ways}
use Rattle.its_graph.proofs.SetMembers.{in-set, members-ascending, is_rule}
use Rattle.its_graph.proofs.Arrivals.{rule-at-link}
use Rattle.its_graph.proofs.graph.Graph.back_closure.Goals as goal

-- The ends of the kept links, reversed, are below the number of symbols.
pub grouped-requires : goal.grouped-requires
grouped-requires c =
    let g = c.args.self.now in
    let n = g.symbols in
    let kept = kept_links c.args.untimed.now 1 g.links.items in
    let links : c.deref-3.result.now ≡ map swap kept = c.deref-3.ensures.value ∙ (c.in_ok-swapped.ensures ∙ ap (λ (xs : List Pair). map swap xs) (c.deref-2.ensures.value ∙ (c.in_ok-links.ensures ∙ ap (λ (xs : List Pair). kept_links c.args.untimed.now 1 xs) c.deref.ensures.value))) in
    subst (λ (xs : List Pair). All (λ (e : Pair). e.0 < n) xs) (sym links)
    (All-weaker (λ (e : Pair). (e.0 < n) × (e.1 < n)) (λ (e : Pair). e.0 < n) (λ e h. h.0) (map swap kept) (swap-within n kept (kept-within n c.args.untimed.now 1 g.links.items c.requires.graph.1.links_within)))

-- The values of the table are nodes.
pub flooded-requires-clause-edges_within : goal.flooded-requires-clause-edges_within
flooded-requires-clause-edges_within c =
    let g = c.args.self.now in
    let n = g.symbols in
    let kept = kept_links c.args.untimed.now 1 g.links.items in
    let links : c.deref-3.result.now ≡ map swap kept = c.deref-3.ensures.value ∙ (c.in_ok-swapped.ensures ∙ ap (λ (xs : List Pair). map swap xs) (c.deref-2.ensures.value ∙ (c.in_ok-links.ensures ∙ ap (λ (xs : List Pair). kept_links c.args.untimed.now 1 xs) c.deref.ensures.value))) in
    let size : length c.deref-4.result.now ≡ n = ap length c.deref-4.ensures.value ∙ c.in_ok-previous.ensures.one_each in
    let values : (a : ℕ) → values_in c.deref-4.result.now a ≡ values_of (map swap kept) a = λ a. ap (λ (t : List (Vec ℕ Global)). values_in t a) c.deref-4.ensures.value ∙ (c.in_ok-previous.ensures.values a ∙ ap (λ (xs : List Pair). values_of xs a) links) in
    λ a. subst (λ (k : ℕ). All (λ b. b < k) (values_in c.deref-4.result.now a)) (sym size) (kept-values n (map swap kept) c.deref-4.result.now (swap-within n kept (kept-within n c.args.untimed.now 1 g.links.items c.requires.graph.1.links_within)) values a)

-- The numbers ascend.
pub returns-clause-ascending : goal.returns-clause-ascending
returns-clause-ascending c =
    IfOk-weaker c.members.result (λ (found : Vec ℕ Global). found.items ≡ members_from c.args.untimed.now c.deref-6.result.now c.args.rule 1 c.deref-5.result.now) (λ (found : Vec ℕ Global). IsStrictlyIncreasing found.items)
    (λ found e. subst (λ (xs : List ℕ). IsStrictlyIncreasing xs) (sym e) (members-ascending c.args.untimed.now c.deref-6.result.now c.args.rule 1 c.deref-5.result.now).0) c.members.ensures

-- The numbers are those of the set.
pub returns-clause-members : goal.returns-clause-members
returns-clause-members c =
    IfOk-weaker c.members.result (λ (found : Vec ℕ Global). found.items ≡ members_from c.args.untimed.now c.deref-6.result.now c.args.rule 1 c.deref-5.result.now)
    (λ (found : Vec ℕ Global). (p : Program) → IsGraphOf c.args.self.now p → (e : ℕ) → Contains found.items e ↔ IsInSet p (flagged c.args.untimed.now) c.args.rule e)
    (λ found is p h e. subst (λ (xs : List ℕ). Contains xs e ↔ IsInSet p (flagged c.args.untimed.now) c.args.rule e) (sym is) (decided p h e)) c.members.ensures
  where
    decided : (p : Program) → IsGraphOf c.args.self.now p → (e : ℕ) → Contains (members_from c.args.untimed.now c.deref-6.result.now c.args.rule 1 c.deref-5.result.now) e ↔ IsInSet p (flagged c.args.untimed.now) c.args.rule e
    decided p h e =
        let g = c.args.self.now in
        let untimed = c.args.untimed.now in
        let seen = c.deref-6.result.now in
        let link : Pair = c.index.result.now in
        let kept = kept_links untimed 1 g.links.items in
        let number = is_rule untimed (length g.links.items) c.args.rule c.requires.flags c.requires.entry c.requires.untimed_rule in
        let rule = rule-at-link p g.links.items c.args.rule link h.links number.0 number.1 c.index.ensures in
        let source = ap source_in rule.1 ∙ ap (λ (x : Pair). Some x.0) rule.2 in
        let links : c.deref-3.result.now ≡ map swap kept = c.deref-3.ensures.value ∙ (c.in_ok-swapped.ensures ∙ ap (λ (xs : List Pair). map swap xs) (c.deref-2.ensures.value ∙ (c.in_ok-links.ensures ∙ ap (λ (xs : List Pair). kept_links untimed 1 xs) c.deref.ensures.value))) in
        let values : (a : ℕ) → values_in c.deref-4.result.now a ≡ values_of (map swap kept) a = λ a. ap (λ (t : List (Vec ℕ Global)). values_in t a) c.deref-4.ensures.value ∙ (c.in_ok-previous.ensures.values a ∙ ap (λ (xs : List Pair). values_of xs a) links) in
        let back : (b : ℕ) → Path (Joins c.deref-4.result.now) link.0 b ↔ Path (HasEdge p (flagged untimed)) b link.0 = λ b. turned-paths (Joins c.deref-4.result.now) (HasEdge p (flagged untimed)) (turned-table g p h untimed c.deref-4.result.now values) link.0 b in
        let reach : (b : ℕ) → (get_or seen b false ≡ true) ↔ Path (HasEdge p (flagged untimed)) b link.0 =
        λ b. subst (λ (xs : List Bool). (get_or xs b false ≡ true) ↔ Path (HasEdge p (flagged untimed)) b link.0) (sym c.deref-6.ensures.value) (both-ways (c.in_ok-seen.ensures.reached b) (back b)) in
        subst (λ (xs : List Pair). Contains (members_from untimed seen c.args.rule 1 xs) e ↔ IsInSet p (flagged untimed) c.args.rule e) (sym (c.deref-5.ensures.value ∙ h.links))
        (in-set p untimed seen c.args.rule link.0 c.requires.entry source reach c.requires.untimed_rule rule.0 rule.1 e)
