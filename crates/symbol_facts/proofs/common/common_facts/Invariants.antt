use Rattle.std.proofs.Common.{◌≡◌, drop, map, None}
use Rattle.std.specs.Prelude.{option_map}
use Rattle.refined_programs.specs.Views.{annotated_copy}
use Rattle.symbol_facts.specs.Views.{forms_of}
use Rattle.symbol_facts.proofs.KnownFacts.{facts_after_copies}
use Rattle.symbol_facts.proofs.common.common_facts.Given as goal

-- what is known, along the copies left, is what is known along all
abbrev pub invariant-loop-copy : goal.invariant-loop-copy
invariant-loop-copy l =
    facts_after_copies l.symbol (option_map (λ v. forms_of v.items) l.known) (map annotated_copy (drop l.copy-index l.copies))
    ≡ facts_after_copies l.symbol None (map annotated_copy l.copies)
