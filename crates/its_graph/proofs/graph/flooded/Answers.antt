use Rattle.std.proofs.Common.{◌≡◌, ◌↔◌, ℕ, List, Bool, true, false, map, length, replicate, get_or, Vec, ◌==◌, ap, sym}
use Rattle.std.proofs.Common.{◌∙◌, subst}
use Rattle.std.specs.declared.alloc.Global.{Global}
use Rattle.std.proofs.lemmas.Result.{IfOk-weaker}
use Rattle.std.proofs.lemmas.List.{with_items_is}
use Rattle.model.specs.Paths.{Path}
use Rattle.its_graph.specs.Groups.{Joins}
use Rattle.its_graph.specs.Floods.{Fills}
use Rattle.its_graph.proofs.Reaching.{flood-reaches}
use Rattle.its_graph.proofs.graph.flooded.Goals as goal

-- The known nodes are those that are reached.
pub returns-clause-reached : goal.returns-clause-reached
returns-clause-reached c =
    let next = c.args.next.now in
    let n : ℕ = length next in
    let start = c.args.start in
    let found = c.in_ok-fill.field-0.items in
    let same = with_items_is c.in_ok-colors.colors c.fill.new.colors (c.fill.auto.colors ∙ (ap length c.deref_mut.ensures.value ∙ sym c.in_ok-colors.colors.ok.0)) in
    let filled : Fills (Joins next) (replicate n 0) c.fill.new.colors start 0 2 found =
    subst (λ (xs : List ℕ). Fills (Joins next) xs c.fill.new.colors start 0 2 found) (c.deref_mut.ensures.value ∙ c.in_ok-colors.ensures) c.in_ok-fill.ensures in
    IfOk-weaker c.are_known.result (λ (flags : Vec Bool Global). flags.items ≡ map (λ (color : ℕ). color == 2) c.deref.result.now)
    (λ (seen : Vec Bool Global). (b : ℕ) → (get_or seen.items b false ≡ true) ↔ Path (Joins next) start b)
    (λ seen e b. subst (λ (xs : List Bool). (get_or xs b false ≡ true) ↔ Path (Joins next) start b) (sym (e ∙ ap (λ (xs : List ℕ). map (λ (color : ℕ). color == 2) xs) (c.deref.ensures.value ∙ same))) (flood-reaches next n start c.fill.new.colors found filled b)) c.are_known.ensures
