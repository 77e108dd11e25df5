use Rattle.std.proofs.Common.{[], take}
use Rattle.cert_context.specs.Statements.{joined_by}
use Rattle.check_file.specs.Zeros.{AddsZeros, HasZerosAt}
use Rattle.check_file.proofs.unreached.zero_rules.Given as goal

-- the rules of the premises before this one are added
abbrev pub invariant-loop-used : goal.invariant-loop-used
invariant-loop-used l = record {
  added : AddsZeros [] (joined_by l.kept (take l.used-index l.uses)) l.cut.items;
  looked : HasZerosAt l.kept l.seen l.cut.items;
}
