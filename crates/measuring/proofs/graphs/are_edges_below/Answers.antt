use Rattle.std.proofs.Common.{ℕ, ◌<◌, List, All, take, arith, sym}
use Rattle.std.proofs.lemmas.List.{take_all}
use Rattle.std.proofs.lemmas.List.Elements.{All-more, All-same}
use Rattle.measuring.proofs.graphs.are_edges_below.Goals as goal

pub loop-from-preserved : goal.loop-from-preserved
loop-from-preserved c =
    All-more (λ (e : ℕ × ℕ). (e.0 < c.args.nodes) × (e.1 < c.args.nodes)) c.args.edges.now c.loop-from.from-index (0, 0)
    c.loop-from-test.true c.loop-from.invariant (c.if-from-nodes.false, c.if-to-nodes.false)

pub returns : goal.returns
returns c =
    λ e. All-same (λ (e : ℕ × ℕ). (e.0 < c.args.nodes) × (e.1 < c.args.nodes)) c.args.edges.now
    (take c.loop-from.from-index c.args.edges.now)
    (sym (take_all c.loop-from.from-index c.args.edges.now (omega arith))) c.loop-from.invariant
