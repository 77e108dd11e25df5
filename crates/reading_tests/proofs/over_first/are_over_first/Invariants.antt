use Rattle.std.proofs.Common.{ℕ, drop}
use Rattle.std.specs.List.{All}
use Rattle.cert_types.specs.Views.{proof_of}
use Rattle.cert_text.specs.OverFirst.{IsOverFirst}
use Rattle.reading_tests.proofs.over_first.are_over_first.Given as goal

-- if the remaining lemmas are over the first n, all are
abbrev pub invariant-loop-lemma : goal.invariant-loop-lemma
invariant-loop-lemma l =
    All (λ lemma. IsOverFirst l.n (proof_of lemma)) (drop l.lemma-index l.lemmas)
    → All (λ lemma. IsOverFirst l.n (proof_of lemma)) l.lemmas
