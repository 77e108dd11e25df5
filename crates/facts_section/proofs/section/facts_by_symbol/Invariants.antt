use Rattle.std.proofs.Common.{◌≡◌, length, map}
use Rattle.std.specs.List.{range_with_len}
use Rattle.its_model.specs.Views.{program_of}
use Rattle.facts_section.specs.Lists.{needed_count}
use Rattle.facts_section.specs.Needed.{needed_facts}
use Rattle.facts_section.proofs.section.facts_by_symbol.Given as goal

-- the symbols passed have as many facts as are needed
abbrev pub invariant-loop-symbol : goal.invariant-loop-symbol
invariant-loop-symbol l =
    map needed_count l.symbols.items
    ≡ map (λ s. length (needed_facts (program_of l.p) l.kept s)) (range_with_len 0 l.symbol)
