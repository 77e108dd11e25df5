use Rattle.std.proofs.Common.{◌≡◌, drop, map}
use Rattle.std.specs.Prelude.{fold}
use Rattle.refined_programs.specs.Views.{affine_form}
use Rattle.symbol_facts.specs.Common.{with_fact, strongest}
use Rattle.symbol_facts.specs.Tables.{forms_in}
use Rattle.symbol_facts.proofs.strongest.strongest_facts.Given as goal

-- the table with the facts left is that of all
abbrev pub invariant-loop-fact : goal.invariant-loop-fact
invariant-loop-fact l =
    fold with_fact (forms_in (λ k. k.now) l.table.entries) (map affine_form (drop l.fact-index l.facts))
    ≡ strongest (map affine_form l.facts)
