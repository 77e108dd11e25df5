use Rattle.std.proofs.Common.{◌≡◌, take}
use Rattle.cert_types.specs.cert_rules.Known.{table_of}
use Rattle.cert_context.specs.Lookups.{facts_at}
use Rattle.cert_context.specs.Joining.{StatesAllAt}
use Rattle.cert_context.specs.Statements.{joined_by}
use Rattle.cert_context.proofs.joining.joined.Given as goal

-- the facts joined are those of the premises before this one
abbrev pub invariant-loop-used : goal.invariant-loop-used
invariant-loop-used l = record {
  joined : table_of (facts_at l.all.items) ≡ table_of (joined_by l.kept (take l.used-index l.uses));
  result_is : StatesAllAt l.kept l.seen (facts_at l.all.items);
}
