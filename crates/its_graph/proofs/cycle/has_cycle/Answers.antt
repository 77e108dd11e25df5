use Rattle.std.proofs.Common.{◌≡◌, ◌↔◌, ℕ, ◌<◌, List, All, Vec, length, map, ap, arith, sym, ◌∙◌, subst, IsTrue}
use Rattle.std.specs.declared.alloc.Global.{Global}
use Rattle.its_model.specs.declared.program.Rule.{Rule}
use Rattle.its_graph.specs.Groups.{IsPair, items_of}
use Rattle.its_graph.specs.Components.{IsListing}
use Rattle.its_graph.specs.Links.{link_of, LeadBelow}
use Rattle.its_graph.specs.Numbers.{AreNumbers, HasInside}
use Rattle.its_graph.proofs.PairLists.{Pair, pair-within}
use Rattle.its_graph.proofs.Numbering.{apart, cycle-inside, links-within}
use Rattle.its_graph.proofs.cycle.has_cycle.Goals as goal

-- The ends of the links are below the limit.
pub components_below-requires-clause-within : goal.components_below-requires-clause-within
components_below-requires-clause-within c =
    let n : ℕ = c.symbol_limit-symbols.result in
    let rules = c.args.p.now.rules.items in
    let below : LeadBelow n rules = subst (λ (rs : List Rule). LeadBelow n rs) c.deref.ensures.value c.symbol_limit-symbols.ensures.below in
    let links : c.in_ok-links.links.items ≡ map link_of rules = c.in_ok-links.ensures ∙ ap (λ (rs : List Rule). map link_of rs) c.deref-2.ensures.value in
    subst (λ (es : List Pair). All (λ (e : Pair). (e.0 < n) × (e.1 < n)) es) (sym (c.deref-3.ensures.value ∙ links)) (links-within n rules below)

-- There are at most as many components as symbols.
pub numbers_of-requires-clause-few : goal.numbers_of-requires-clause-few
numbers_of-requires-clause-few c = omega (arith, ap length c.deref-4.ensures.value, c.in_ok-components.ensures.few, c.symbol_limit-symbols.ensures.few)

-- No two components have a symbol in common.
pub numbers_of-requires-clause-apart : goal.numbers_of-requires-clause-apart
numbers_of-requires-clause-apart c =
    let n : ℕ = c.symbol_limit-symbols.result in
    let rules = c.args.p.now.rules.items in
    let below : LeadBelow n rules = subst (λ (rs : List Rule). LeadBelow n rs) c.deref.ensures.value c.symbol_limit-symbols.ensures.below in
    let links : c.in_ok-links.links.items ≡ map link_of rules = c.in_ok-links.ensures ∙ ap (λ (rs : List Rule). map link_of rs) c.deref-2.ensures.value in
    let listing : IsListing (IsPair (map link_of rules)) n (map items_of c.deref-4.result.now) =
    subst (λ (t : List (Vec ℕ Global)). IsListing (IsPair (map link_of rules)) n (map items_of t)) (sym c.deref-4.ensures.value)
    (subst (λ (es : List Pair). IsListing (IsPair es) n (map items_of c.in_ok-components.components.items)) (c.deref-3.ensures.value ∙ links) c.in_ok-components.ensures.listing) in
    apart (IsPair (map link_of rules)) n c.deref-4.result.now (λ a b h. (pair-within n (map link_of rules) a b (links-within n rules below) h).1) listing

-- The ends of the links have numbers.
pub has_link_inside-requires : goal.has_link_inside-requires
has_link_inside-requires c =
    let n : ℕ = c.symbol_limit-symbols.result in
    let rules = c.args.p.now.rules.items in
    let below : LeadBelow n rules = subst (λ (rs : List Rule). LeadBelow n rs) c.deref.ensures.value c.symbol_limit-symbols.ensures.below in
    let links : c.in_ok-links.links.items ≡ map link_of rules = c.in_ok-links.ensures ∙ ap (λ (rs : List Rule). map link_of rs) c.deref-2.ensures.value in
    let size : length c.deref-5.result.now ≡ n = ap length c.deref-5.ensures.value ∙ c.in_ok-numbers.ensures.size in
    subst (λ (k : ℕ). All (λ (e : Pair). (e.0 < k) × (e.1 < k)) c.deref-6.result.now) (sym size)
    (subst (λ (es : List Pair). All (λ (e : Pair). (e.0 < n) × (e.1 < n)) es) (sym (c.deref-6.ensures.value ∙ links)) (links-within n rules below))

-- A link inside a component is a cycle.
pub returns : goal.returns
returns c =
    let n : ℕ = c.symbol_limit-symbols.result in
    let rules = c.args.p.now.rules.items in
    let below : LeadBelow n rules = subst (λ (rs : List Rule). LeadBelow n rs) c.deref.ensures.value c.symbol_limit-symbols.ensures.below in
    let links : c.in_ok-links.links.items ≡ map link_of rules = c.in_ok-links.ensures ∙ ap (λ (rs : List Rule). map link_of rs) c.deref-2.ensures.value in
    let listing : IsListing (IsPair (map link_of rules)) n (map items_of c.deref-4.result.now) =
    subst (λ (t : List (Vec ℕ Global)). IsListing (IsPair (map link_of rules)) n (map items_of t)) (sym c.deref-4.ensures.value)
    (subst (λ (es : List Pair). IsListing (IsPair es) n (map items_of c.in_ok-components.components.items)) (c.deref-3.ensures.value ∙ links) c.in_ok-components.ensures.listing) in
    let numbers : AreNumbers c.deref-4.result.now c.deref-5.result.now = subst (λ (xs : List ℕ). AreNumbers c.deref-4.result.now xs) (sym c.deref-5.ensures.value) c.in_ok-numbers.ensures.numbered in
    let decided : IsTrue c.has_link_inside.result ↔ HasInside c.deref-5.result.now (map link_of rules) =
    subst (λ (es : List Pair). IsTrue c.has_link_inside.result ↔ HasInside c.deref-5.result.now es) (c.deref-6.ensures.value ∙ links) c.has_link_inside.ensures in
    let cycle = cycle-inside c.args.p.now n c.deref-4.result.now c.deref-5.result.now below listing numbers in
    (λ h. cycle.0 (decided.0 h), λ h. decided.1 (cycle.1 h))
