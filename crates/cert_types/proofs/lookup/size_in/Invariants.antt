use Rattle.std.proofs.Common.{◌≡◌, drop}
use Rattle.cert_program.specs.cert_rules.Known.{size_in as size_of}
use Rattle.cert_types.specs.Views.{facts_of}
use Rattle.cert_types.proofs.lookup.size_in.Given as goal

abbrev pub invariant-loop-fact : goal.invariant-loop-fact
invariant-loop-fact l = size_of (facts_of (drop l.fact-index l.facts)) l.rule l.place ≡ size_of (facts_of l.facts) l.rule l.place
