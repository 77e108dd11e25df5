use Rattle.std.proofs.Common.{◌≡◌, ◌∷◌}
use Rattle.std.specs.List.{range_with_len}
use Rattle.model.specs.Bounds.{Constant}
use Rattle.model.specs.Facts.{Time}
use Rattle.cert_types.specs.Views.{facts_of}
use Rattle.cert_types.specs.cert_rules.AcceptsPlain.{start_sizes}
use Rattle.cert_context.proofs.stating.start_facts.Given as goal

-- the facts are those of the places before this one
abbrev pub invariant-loop-position : goal.invariant-loop-position
invariant-loop-position l =
    facts_of l.facts.items ≡ Time 0 (Constant 1) ∷ start_sizes (range_with_len 1 l.position)
