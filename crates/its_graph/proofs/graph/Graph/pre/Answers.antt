use Rattle.std.proofs.Common.{◌≡◌, ℕ, List, ap, sym, ◌∙◌, Some}
use Rattle.model.specs.Programs.{Program}
use Rattle.model.specs.Paths.{source_in, pre}
use Rattle.its_graph.specs.Groups.{values_of}
use Rattle.its_graph.specs.Links.{arrivals}
use Rattle.its_graph.specs.Graphs.{IsGraphOf}
use Rattle.its_graph.proofs.PairLists.{Pair}
use Rattle.its_graph.proofs.Filling.{values-at}
use Rattle.its_graph.proofs.Arrivals.{arrivals-pre, rule-at-link, symbol-within}
use Rattle.its_graph.proofs.graph.Graph.pre.Goals as goal

-- the arrivals at the rule's source are the rules that can come just before it
pub returns : goal.returns
returns c = λ p h. go p h
  where
    go : (p : Program) → IsGraphOf c.args.self.now p → c.deref.result.now ≡ pre p c.args.rule
    go p h =
        let g = c.args.self.now in
        let link : Pair = c.index.result.now in
        let rule = rule-at-link p g.links.items c.args.rule link h.links c.requires.number.0 c.requires.number.1 c.index.ensures in
        let source = ap source_in rule.1 ∙ ap (λ (e : Pair). Some e.0) rule.2 in
        let low = symbol-within g p h c.args.rule link c.requires.number.0 c.requires.number.1 c.index.ensures in
        c.deref.ensures.value ∙ (sym (values-at g.arriving.items link.0 c.index-2.result.now low c.index-2.ensures)
        ∙ (h.arriving link.0 ∙ (ap (λ (s : ℕ). values_of (arrivals s g.links.items) link.0) h.start ∙ (ap (λ (xs : List Pair). values_of (arrivals p.start xs) link.0) h.links ∙ arrivals-pre p c.args.rule link.0 source))))
