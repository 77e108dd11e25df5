use Rattle.std.proofs.Common.{◌≡◌, ◌++◌, map, drop}
use Rattle.std.specs.List.{flat_map}
use Rattle.its_model.specs.Views.{program_of}
use Rattle.symbol_facts.specs.Views.{fact_of}
use Rattle.claims_text.specs.Symbols.{symbol_fact_line}
use Rattle.claims_text.proofs.statements.push_facts.Given as goal

-- what is written, followed by the text of the lines left, is the whole
abbrev pub invariant-loop-fact : goal.invariant-loop-fact
invariant-loop-fact l =
    l.text.items ++ flat_map (symbol_fact_line (program_of l.program)) (map fact_of (drop l.fact-index l.facts))
    ≡ l.initial.text.items ++ flat_map (symbol_fact_line (program_of l.program)) (map fact_of l.facts)
