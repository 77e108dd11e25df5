use Rattle.cert_types.specs.Views.{facts_of}
use Rattle.check_file.proofs.KeptLemmas.{copied-more}
use Rattle.check_file.proofs.lemmas.all_stated.Goals as goal

pub loop-position-preserved : goal.loop-position-preserved
loop-position-preserved c =
    copied-more c.args.kept.now c.deref-position-items.result.now c.loop-position.position-index _
    (facts_of c.loop-position.all.items) (facts_of c.push_copies.new.all.items) (facts_of c.facts_at.result.now)
    c.deref-position-items.ensures.value c.loop-position-test.true c.loop-position.invariant c.in_ok-push_copies.ensures
    c.facts_at.ensures
