use Rattle.std.proofs.Common.{◌≡◌, ◌∙◌, arith, length, sym}
use Rattle.its_model.specs.Views.{program_of}
use Rattle.location_facts.proofs.FaultLists.{symbol_count}
use Rattle.location_facts.proofs.SymbolTables.{into-more, into-longer}
use Rattle.location_facts.proofs.tables.rules_by_symbol.Goals as goal

pub loop-symbol-preserved : goal.loop-symbol-preserved
loop-symbol-preserved c = record {
  many = into-longer c.loop-symbol.table.items c.push.new.self.items c.loop-symbol.symbol c.in_ok-rules.rules
      c.loop-symbol.invariant.many c.in_ok-push.ensures.items;
  each = into-more (program_of c.args.p.now) c.loop-symbol.table.items c.push.new.self.items c.loop-symbol.symbol
      c.in_ok-rules.rules c.loop-symbol.invariant.many c.loop-symbol.invariant.each (c.in_ok-rules.ensures {u = tt})
      c.in_ok-push.ensures.items;
}

pub returns : goal.returns
returns c =
    let n = symbol_count c.args.p.now in
    let all : c.loop-symbol.symbol ≡ length c.args.p.now.symbols.items = omega (arith, n) in
    record {
      many = c.loop-symbol.invariant.many ∙ (all ∙ sym n);
      each = c.loop-symbol.invariant.each;
    }
