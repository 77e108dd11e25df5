use Rattle.std.proofs.Common.{◌≡◌, map, drop}
use Rattle.cert_types.specs.Views.{proof_of}
use Rattle.cert_text.specs.Texts.{some_has_cost}
use Rattle.cert_text.proofs.trees.any_has_cost.Given as goal

-- there is a node on costs exactly if there is one in the remaining lemmas
abbrev pub invariant-loop-lemma : goal.invariant-loop-lemma
invariant-loop-lemma l =
    some_has_cost (map proof_of (drop l.lemma-index l.lemmas)) ≡ some_has_cost (map proof_of l.lemmas)
