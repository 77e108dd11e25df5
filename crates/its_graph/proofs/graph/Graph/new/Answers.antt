use Rattle.std.proofs.Common.{◌≡◌, ℕ, ◌<◌, ◌≤◌, List, All, length, map, ap, arith, refl, sym, ◌∙◌, subst}
use Rattle.std.proofs.lemmas.List.{length-map}
use Rattle.std.proofs.lemmas.List.Elements.{All-weaker}
use Rattle.its_model.specs.declared.program.Rule.{Rule}
use Rattle.its_model.specs.Views.{program_of, symbol_of}
use Rattle.its_graph.specs.Groups.{values_of}
use Rattle.its_graph.specs.Links.{link_of, LeadBelow, arrivals}
use Rattle.its_graph.specs.Graphs.{HasSymbols}
use Rattle.its_graph.proofs.PairLists.{Pair}
use Rattle.its_graph.proofs.Numbering.{links-within, links-ends}
use Rattle.its_graph.proofs.Arrivals.{arrivals-within, below-symbols}
use Rattle.its_graph.proofs.graph.Graph.new.Goals as goal

-- The keys of the arrivals are symbols.
pub grouped-requires : goal.grouped-requires
grouped-requires c =
    let n : ℕ = c.max-symbols.result in
    let rules = c.args.p.now.rules.items in
    let limit = subst (λ (rs : List Rule). LeadBelow c.symbol_limit.result rs) c.deref.ensures.value c.symbol_limit.ensures.below in
    let below : LeadBelow n rules = All-weaker (λ (r : Rule). (r.source < c.symbol_limit.result) × (r.target < c.symbol_limit.result)) (λ (r : Rule). (r.source < n) × (r.target < n)) (λ r h. (omega (arith, h.0, c.max.ensures, c.max-symbols.ensures), omega (arith, h.1, c.max.ensures, c.max-symbols.ensures))) rules limit in
    let links : c.in_ok-links.links.items ≡ map link_of rules = c.in_ok-links.ensures ∙ ap (λ (rs : List Rule). map link_of rs) c.deref-2.ensures.value in
    let pairs : c.deref-4.result.now ≡ arrivals c.args.p.now.start (map link_of rules) = c.deref-4.ensures.value ∙ (c.in_ok-arrivals_of.ensures ∙ ap (λ (xs : List Pair). arrivals c.args.p.now.start xs) (c.deref-3.ensures.value ∙ links)) in
    subst (λ (xs : List Pair). All (λ (e : Pair). e.0 < n) xs) (sym pairs) (arrivals-within n c.args.p.now.start (map link_of rules) (omega (arith, c.max.ensures, c.max-symbols.ensures)) (links-within n rules below))

-- The fields of the graph are those of the program.
pub returns : goal.returns
returns c =
    let n : ℕ = c.max-symbols.result in
    let p = c.args.p.now in
    let rules = p.rules.items in
    let limit = subst (λ (rs : List Rule). LeadBelow c.symbol_limit.result rs) c.deref.ensures.value c.symbol_limit.ensures.below in
    let below : LeadBelow n rules = All-weaker (λ (r : Rule). (r.source < c.symbol_limit.result) × (r.target < c.symbol_limit.result)) (λ (r : Rule). (r.source < n) × (r.target < n)) (λ r h. (omega (arith, h.0, c.max.ensures, c.max-symbols.ensures), omega (arith, h.1, c.max.ensures, c.max-symbols.ensures))) rules limit in
    let links : c.in_ok-links.links.items ≡ map link_of rules = c.in_ok-links.ensures ∙ ap (λ (rs : List Rule). map link_of rs) c.deref-2.ensures.value in
    let pairs : c.deref-4.result.now ≡ arrivals p.start c.in_ok-links.links.items = c.deref-4.ensures.value ∙ (c.in_ok-arrivals_of.ensures ∙ ap (λ (xs : List Pair). arrivals p.start xs) c.deref-3.ensures.value) in
    let symbols = length-map p.symbols.items symbol_of in
    let long = p.symbols.ok.0 in
    record {
      start = refl;
      links = links ∙ links-ends rules;
      few = omega (arith, ap length links, length-map rules link_of, c.requires);
      start_within = omega (arith, c.max.ensures, c.max-symbols.ensures);
      links_within = subst (λ (xs : List Pair). All (λ (e : Pair). (e.0 < n) × (e.1 < n)) xs) (sym links) (links-within n rules below);
      size = c.in_ok-arriving.ensures.one_each;
      arriving = λ s. c.in_ok-arriving.ensures.values s ∙ ap (λ (xs : List Pair). values_of xs s) pairs;
      symbols = omega (arith, symbols, long, c.len.ensures, c.max-symbols.ensures);
      exact = λ h. exact h symbols long;
    }
  where
    exact : HasSymbols (program_of c.args.p.now) → length (map symbol_of c.args.p.now.symbols.items) ≡ length c.args.p.now.symbols.items → c.args.p.now.symbols.len ≡ length c.args.p.now.symbols.items → c.max-symbols.result ≡ length (map symbol_of c.args.p.now.symbols.items)
    exact h symbols long =
        let least : c.symbol_limit.result ≤ length (map symbol_of c.args.p.now.symbols.items) =
        c.symbol_limit.ensures.least (length (map symbol_of c.args.p.now.symbols.items)) (subst (λ (rs : List Rule). LeadBelow (length (map symbol_of c.args.p.now.symbols.items)) rs) (sym c.deref.ensures.value) (below-symbols (length (map symbol_of c.args.p.now.symbols.items)) c.args.p.now.rules.items h.rules)) in
        omega (arith, least, h.start, symbols, long, c.len.ensures, c.max.ensures, c.max-symbols.ensures)
