use Rattle.std.proofs.Common.{◌≡◌, ◌++◌, drop}
use Rattle.cert_types.specs.Views.{facts_of}
use Rattle.check_file.proofs.lemmas.push_copies.Given as goal

-- the facts copied and those left are all facts
abbrev pub invariant-loop-fact : goal.invariant-loop-fact
invariant-loop-fact l =
    facts_of l.all.items ++ facts_of (drop l.fact-index l.facts) ≡ facts_of l.initial.all.items ++ facts_of l.facts
