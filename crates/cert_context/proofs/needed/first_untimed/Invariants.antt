use Rattle.std.proofs.Common.{take}
use Rattle.std.specs.List.{All}
use Rattle.cert_context.specs.Needed.{HasTime}
use Rattle.cert_context.proofs.needed.first_untimed.Given as goal

-- the rules before this one have times
abbrev pub invariant-loop-rule : goal.invariant-loop-rule
invariant-loop-rule g l = All (HasTime (g.K.Known.table l.known)) (take l.rule-index l.rules)
