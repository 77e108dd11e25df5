use Rattle.std.proofs.Common.{◌≡◌, ◌++◌, map, take}
use Rattle.cert_types.specs.cert_rules.Nodes.{Cite}
use Rattle.cert_types.specs.Views.{proof_of}
use Rattle.size_bounds.proofs.uses.push_cites.Given as goal

abbrev pub invariant-loop-lemma : goal.invariant-loop-lemma
invariant-loop-lemma l = map proof_of l.uses.items ≡ map proof_of l.initial.uses.items ++ map (λ n. Cite n) (take l.lemma-index l.lemmas)
