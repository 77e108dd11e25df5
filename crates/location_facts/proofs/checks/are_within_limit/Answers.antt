use Rattle.std.proofs.Common.{sym, refl, subst}
use Rattle.std.specs.List.{All}
use Rattle.std.proofs.lemmas.List.{take_all}
use Rattle.std.proofs.lemmas.List.Elements.{All-more}
use Rattle.location_facts.specs.Certificates.{IsWithinLimit}
use Rattle.location_facts.proofs.checks.are_within_limit.Goals as goal

pub loop-proof-preserved : goal.loop-proof-preserved
loop-proof-preserved c =
    All-more IsWithinLimit c.args.proofs.now c.loop-proof.proof-index c.proof-item.result c.loop-proof-test.true
    c.loop-proof.invariant
    (subst IsWithinLimit c.proof-item.is (c.is_within_limit-is_small.ensures.0 c.if-not-is_small.false))

pub returns-then-not-is_small : goal.returns-then-not-is_small
returns-then-not-is_small c = (
  λ e. absurd (let no : ⊥ = cc in no),
  λ h. absurd (let t = c.is_within_limit-is_small.ensures.1 (subst IsWithinLimit (sym c.proof-item.is)
      (h c.loop-proof.proof-index c.proof-item.result c.loop-proof-test.true)) in let no : ⊥ = cc in no),
)

pub returns : goal.returns
returns c = (
  λ e. subst (All IsWithinLimit) (take_all c.loop-proof.proof-index c.args.proofs.now c.loop-proof-test.false)
      c.loop-proof.invariant,
  λ h. refl,
)
