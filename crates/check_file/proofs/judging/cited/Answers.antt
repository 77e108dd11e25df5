use Rattle.check_file.proofs.CitedLemmas.{cited-node}
use Rattle.check_file.proofs.judging.cited.Goals as goal

pub returns-in-Some : goal.returns-in-Some
returns-in-Some c =
    let r = c.requires in
    let found = c.in-Some.ensures.lookup in
    cited-node r.0 r.1 r.2 c.args.kept.now r.3 c.args.lemma c.in-Some.position.now c.deref.result.now c.deref.ensures.value
    c.if-lemma-eq0.false found.0 found.1
