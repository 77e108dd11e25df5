use Rattle.std.proofs.Common.{◌≡◌, ◌++◌, drop, map}
use Rattle.its_model.specs.Views.{symbol_of}
use Rattle.refined_programs.specs.Views.{annotated_copy}
use Rattle.symbol_facts.specs.Common.{facts_at}
use Rattle.symbol_facts.specs.Views.{fact_of}
use Rattle.symbol_facts.proofs.finding.facts_at_symbols.Given as goal

-- the facts at the symbols passed, and those at the symbols to come, are all
abbrev pub invariant-loop-symbol : goal.invariant-loop-symbol
invariant-loop-symbol l =
    map fact_of l.facts.items
    ++ facts_at (map annotated_copy l.copies) l.symbol (map symbol_of (drop l.symbol l.symbols))
    ≡ facts_at (map annotated_copy l.copies) 0 (map symbol_of l.symbols)
