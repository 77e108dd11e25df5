use Rattle.std.proofs.Common.{◌≡◌, ℕ, ◌<◌, List, All, Vec, length, sym, ◌∙◌, ap, subst}
use Rattle.std.specs.declared.alloc.Global.{Global}
use Rattle.std.proofs.lemmas.Result.{IfOk-weaker}
use Rattle.std.proofs.lemmas.List.Elements.{All-weaker, All-map}
use Rattle.its_graph.specs.Groups.{values_in, values_of, Joins, IsPair, swap}
use Rattle.its_graph.specs.Classes.{AreTables, AreLeaders}
use Rattle.its_graph.proofs.PairLists.{Pair, joins-pairs}
use Rattle.its_graph.proofs.EdgeTables.{tables-of, leaders-by}
use Rattle.its_graph.proofs.listing.leaders_in.Goals as goal

-- The ends of the reversed edges are nodes too.
pub grouped-requires-2 : goal.grouped-requires-2
grouped-requires-2 c =
    let n = c.args.nodes in
    let E : Pair → Type 0 = λ (e : Pair). e.0 < n in
    subst (λ (xs : List Pair). All E xs) (sym (c.deref.ensures.value ∙ c.in_ok-swapped.ensures))
    (All-map E swap c.args.edges.now (All-weaker (λ (e : Pair). (e.0 < n) × (e.1 < n)) (λ (e : Pair). e.1 < n) (λ e h. h.1) c.args.edges.now c.requires.within))

-- Both tables are those of the edges.
pub leaders_of-requires-clause-tables : goal.leaders_of-requires-clause-tables
leaders_of-requires-clause-tables c =
    let n = c.args.nodes in
    let next = c.deref-2.result.now in
    let previous = c.deref-3.result.now in
    let size : length next ≡ n = ap length c.deref-2.ensures.value ∙ c.in_ok-next.ensures.one_each in
    let tables : AreTables n next previous = tables-of n c.args.edges.now next previous c.requires.within size
    (ap length c.deref-3.ensures.value ∙ c.in_ok-previous.ensures.one_each)
    (λ a. ap (λ (t : List (Vec ℕ Global)). values_in t a) c.deref-2.ensures.value ∙ c.in_ok-next.ensures.values a)
    (λ a. ap (λ (t : List (Vec ℕ Global)). values_in t a) c.deref-3.ensures.value ∙ (c.in_ok-previous.ensures.values a ∙ ap (λ (xs : List Pair). values_of xs a) (c.deref.ensures.value ∙ c.in_ok-swapped.ensures))) in
    subst (λ (k : ℕ). AreTables k next previous) (sym size) tables

-- The leaders by the table are those by the edges.
pub returns : goal.returns
returns c =
    let n = c.args.nodes in
    let next = c.deref-2.result.now in
    let size : length next ≡ n = ap length c.deref-2.ensures.value ∙ c.in_ok-next.ensures.one_each in
    let values : (a : ℕ) → values_in next a ≡ values_of c.args.edges.now a = λ a. ap (λ (t : List (Vec ℕ Global)). values_in t a) c.deref-2.ensures.value ∙ c.in_ok-next.ensures.values a in
    IfOk-weaker c.leaders_of.result (λ (leaders : Vec ℕ Global). AreLeaders (Joins next) (length next) leaders.items) (λ (leaders : Vec ℕ Global). AreLeaders (IsPair c.args.edges.now) n leaders.items)
    (λ leaders h. leaders-by (Joins next) (IsPair c.args.edges.now) (joins-pairs next c.args.edges.now values) n leaders.items (subst (λ (k : ℕ). AreLeaders (Joins next) k leaders.items) size h)) c.leaders_of.ensures
