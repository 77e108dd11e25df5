use Rattle.std.proofs.Common.{◌≡◌, ◌++◌, drop}
use Rattle.symbol_facts.specs.Common.{join_facts}
use Rattle.symbol_facts.specs.Tables.{forms_in}
use Rattle.symbol_facts.specs.Views.{forms_of}
use Rattle.symbol_facts.proofs.common.join_with_table.Given as goal

-- what is left of the facts passed, and of those to come, is what is left of all
abbrev pub invariant-loop-fact : goal.invariant-loop-fact
invariant-loop-fact l =
    forms_of l.left.items ++ join_facts (forms_of (drop l.fact-index l.known)) (forms_in (λ k. k.now) l.table.entries)
    ≡ join_facts (forms_of l.known) (forms_in (λ k. k.now) l.table.entries)
