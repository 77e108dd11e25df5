use Rattle.std.proofs.Common.{take}
use Rattle.its_model.specs.Views.{program_of}
use Rattle.cert_types.specs.NumberSets.{HasSources}
use Rattle.cert_types.proofs.entering.sources_of.Given as goal

-- the set contains exactly the sources of the rules read so far
abbrev pub invariant-loop-rule : goal.invariant-loop-rule
invariant-loop-rule l = HasSources (program_of l.p) l.sources (take l.rule-index l.set)
