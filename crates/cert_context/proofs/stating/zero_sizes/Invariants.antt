use Rattle.std.proofs.Common.{◌≡◌}
use Rattle.std.specs.List.{range_with_len}
use Rattle.cert_types.specs.Views.{facts_of}
use Rattle.cert_types.specs.cert_rules.AcceptsPlain.{zero_sizes}
use Rattle.cert_context.proofs.stating.zero_sizes.Given as goal

-- the facts are those of the places before this one
abbrev pub invariant-loop-position : goal.invariant-loop-position
invariant-loop-position l = facts_of l.facts.items ≡ zero_sizes l.rule (range_with_len 1 l.position)
