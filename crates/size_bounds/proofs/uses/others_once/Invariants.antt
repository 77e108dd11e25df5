use Rattle.std.proofs.Common.{◌≡◌, ◌==◌, not, filter, take}
use Rattle.bound_fixpoint.specs.Needs.{once}
use Rattle.cert_types.specs.NumberSets.{HasJust}
use Rattle.size_bounds.proofs.uses.others_once.Given as goal

-- the lemmas so far, each once; the set has exactly these
abbrev pub invariant-loop-lemma : goal.invariant-loop-lemma
invariant-loop-lemma l =
    (l.found.items ≡ once (filter (λ n. not (n == 0)) (take l.lemma-index l.lemmas))) × HasJust l.seen l.found.items
