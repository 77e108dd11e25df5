use Rattle.std.proofs.Common.{◌≡◌, drop}
use Rattle.cert_program.specs.cert_rules.Known.{time_in as time_of}
use Rattle.cert_types.specs.Views.{facts_of}
use Rattle.cert_types.proofs.lookup.time_in.Given as goal

abbrev pub invariant-loop-fact : goal.invariant-loop-fact
invariant-loop-fact l = time_of (facts_of (drop l.fact-index l.facts)) l.rule ≡ time_of (facts_of l.facts) l.rule
