use Rattle.std.proofs.Common.{take}
use Rattle.cert_types.specs.Views.{facts_of}
use Rattle.check_file.specs.Zeros.{AddsZeros}
use Rattle.check_file.proofs.unreached.push_zeros.Given as goal

-- the rules of the facts before this one are added
abbrev pub invariant-loop-fact : goal.invariant-loop-fact
invariant-loop-fact l = AddsZeros l.initial.cut.items (facts_of (take l.fact-index l.facts)) l.cut.items
