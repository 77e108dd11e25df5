use Rattle.std.specs.Prelude.{map}
use Rattle.its_model.specs.Views.{program_of}
use Rattle.facts_section.specs.Lists.{needed_count}
use Rattle.facts_section.proofs.CountedLists.{count_pushed}
use Rattle.facts_section.proofs.section.facts_by_symbol.Goals as goal

pub loop-symbol-preserved : goal.loop-symbol-preserved
loop-symbol-preserved c =
    count_pushed (program_of c.args.p.now) c.args.kept.now c.loop-symbol.symbol
    (map needed_count c.loop-symbol.symbols.items) (map needed_count c.push_facts.new.symbols.items)
    c.loop-symbol.invariant c.in_ok-push_facts.ensures
