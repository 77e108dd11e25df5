use Rattle.std.proofs.Common.{List, ◌+◌, map, take, drop, sym, subst, arith}
use Rattle.cert_types.specs.Views.{proof_of}
use Rattle.cert_types.specs.cert_rules.Nodes.{Proof}
use Rattle.check_file.specs.Files.{HasFewNodes, RefusesLemmas}
use Rattle.cert_context.specs.CheckContexts.{program, setting}
use Rattle.check_file.specs.Judging.{IsKeptOf}
use Rattle.cert_context.proofs.Cuts.{cut-at, done-more, done-all, done-count, each-at}
use Rattle.check_file.proofs.KeptLemmas.{kept-more, refused-fault}
use Rattle.check_file.proofs.lemmas.judge_lemmas.Goals as goal

pub judge-requires : goal.judge-requires
judge-requires c =
    let few = each-at proof_of HasFewNodes c.args.lemmas.now c.loop-i.i c.index-lemmas-i.result (omega arith) c.index-lemmas-i.is c.requires.nodes in
    record {
      context = c.requires.context;
      kept = (map proof_of (take c.loop-i.i c.args.lemmas.now), c.loop-i.invariant);
      few = omega (arith, few);
    }

pub keep-requires : goal.keep-requires
keep-requires c =
    let k = c.loop-i.invariant in
    let n = done-count proof_of c.args.lemmas.now c.loop-i.i (omega arith) in
    record { placed = c.in-Ok.ensures.placed; few = omega (arith, k.few, k.count, n, c.requires.few) }

pub loop-i-preserved : goal.loop-i-preserved
loop-i-preserved c =
    let g = c.args.context.now in
    subst (λ (ps : List Proof). IsKeptOf (program g) (setting g) ps c.keep.new.kept)
    (sym (done-more proof_of c.args.lemmas.now c.loop-i.i c.index-lemmas-i.result (omega arith) c.index-lemmas-i.is))
    (kept-more (program g) (setting g) (map proof_of (take c.loop-i.i c.args.lemmas.now)) c.loop-i.kept c.loop-i.invariant
    (proof_of c.index-lemmas-i.result) c.keep.new.kept c.in-Ok.judged c.in-Ok.ensures (c.in_ok-keep-in-Ok.ensures {u = tt}))

pub returns-in-Err : goal.returns-in-Err
returns-in-Err c =
    let g = c.args.context.now in
    subst (RefusesLemmas (setting g) (map proof_of c.args.lemmas.now)) (sym c.at_lemma.ensures)
    (refused-fault (program g) (setting g) (map proof_of (take c.loop-i.i c.args.lemmas.now)) c.loop-i.kept c.loop-i.invariant
    (proof_of c.index-lemmas-i.result) (map proof_of (drop (c.loop-i.i + 1) c.args.lemmas.now)) (map proof_of c.args.lemmas.now)
    (c.loop-i.i + 1) c.in-Err.fault
    (cut-at proof_of c.args.lemmas.now c.loop-i.i c.index-lemmas-i.result (omega arith) c.index-lemmas-i.is)
    (omega (arith, done-count proof_of c.args.lemmas.now c.loop-i.i (omega arith))) c.in-Err.ensures)

pub returns : goal.returns
returns c =
    let g = c.args.context.now in
    subst (λ (ps : List Proof). IsKeptOf (program g) (setting g) ps c.loop-i.kept)
    (done-all proof_of c.args.lemmas.now c.loop-i.i (omega arith)) c.loop-i.invariant
