-- The lists of multipliers of the code, counted.
use Rattle.std.specs.Prelude.{ℕ, length}
use Rattle.refined_programs.specs.declared.section.Branch.{Branch}
use Rattle.refined_programs.specs.Views.{annotated_cases, branch_of}
use Rattle.facts_section.specs.declared.shares.SymbolFacts.{SymbolFacts}
use Rattle.facts_section.specs.Counted.{CountedBranch, lists_in}

-- a branch of the code without its multipliers, and the number of its lists of multipliers
abbrev pub counted_of : Branch → CountedBranch
counted_of b = record { branch = branch_of b; lists = lists_in (annotated_cases b.cases) }

-- the number of facts of a symbol that are needed
abbrev pub needed_count : SymbolFacts → ℕ
needed_count f = length f.needed.items
