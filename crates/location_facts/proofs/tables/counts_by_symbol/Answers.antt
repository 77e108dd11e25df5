use Rattle.std.proofs.Common.{arith}
use Rattle.location_facts.proofs.SymbolTables.{counts-none, counts-more, counts-few, counts-all}
use Rattle.location_facts.proofs.tables.counts_by_symbol.Goals as goal

pub loop-i-init : goal.loop-i-init
loop-i-init c =
    counts-none c.args.symbols c.args.facts.now c.in_ok-counts.counts.items
    (c.in_ok-counts.ensures.items_if_clones_equal (λ y h. h))

pub count_one-requires : goal.count_one-requires
count_one-requires c =
    counts-few c.args.symbols c.loop-i.i c.args.facts.now c.loop-i.counts.items (omega arith) (omega arith)
    c.loop-i.invariant

pub loop-i-preserved : goal.loop-i-preserved
loop-i-preserved c =
    counts-more c.args.symbols c.loop-i.i c.args.facts.now _ (omega arith) c.loop-i.counts.items
    c.count_one.new.counts.items c.loop-i.invariant c.count_one.ensures

pub returns : goal.returns
returns c =
    counts-all c.args.symbols c.loop-i.i c.args.facts.now c.loop-i.counts.items (omega arith) c.loop-i.invariant
