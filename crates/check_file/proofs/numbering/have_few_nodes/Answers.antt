use Rattle.std.proofs.Common.{refl, sym, subst, arith}
use Rattle.std.specs.List.{All}
use Rattle.std.proofs.lemmas.List.Elements.{All-push}
use Rattle.cert_types.specs.Views.{proof_of}
use Rattle.cert_context.proofs.Cuts.{done-more, each-at}
use Rattle.cert_context.proofs.NeededBounds.{has-all}
use Rattle.check_file.specs.Files.{HasFewNodes}
use Rattle.check_file.proofs.numbering.have_few_nodes.Goals as goal

pub returns-then-not-fits : goal.returns-then-not-fits
returns-then-not-fits c = (
  λ e. absurd (let no : ⊥ = cc in no),
  λ h. absurd (let f = c.has_few_nodes-fits.ensures.1 (each-at proof_of HasFewNodes c.args.proofs.now c.loop-proof.proof-index
      c.proof-item.result c.loop-proof-test.true c.proof-item.is h) in let no : ⊥ = cc in no),
)

pub loop-proof-preserved : goal.loop-proof-preserved
loop-proof-preserved c =
    subst (All HasFewNodes)
    (sym (done-more proof_of c.args.proofs.now c.loop-proof.proof-index c.proof-item.result c.loop-proof-test.true c.proof-item.is))
    (All-push HasFewNodes _ (proof_of c.proof-item.result) c.loop-proof.invariant (c.has_few_nodes-fits.ensures.0 c.if-not-fits.false))

pub returns : goal.returns
returns c = (
  λ e. has-all proof_of HasFewNodes c.args.proofs.now c.loop-proof.proof-index (omega (arith, c.loop-proof-test.false))
      c.loop-proof.invariant,
  λ h. refl,
)
