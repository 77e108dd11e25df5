use Rattle.std.proofs.Common.{◌≡◌, ◌++◌}
use Rattle.symbol_facts.specs.Tables.{forms_in}
use Rattle.symbol_facts.specs.Views.{forms_of}
use Rattle.symbol_facts.proofs.common.facts_of_table.Given as goal

-- the facts so far, and those of the entries to come, are all
abbrev pub invariant-loop-coefs : goal.invariant-loop-coefs
invariant-loop-coefs l =
    forms_of l.facts.items ++ forms_in (λ k. k.now) l.coefs-iterator ≡ forms_in (λ k. k.now) l.table.entries
