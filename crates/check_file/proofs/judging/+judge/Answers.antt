use Rattle.std.proofs.Common.{◌∙◌, ◌+◌, List, map, take, drop, length, refl, subst, sym, ap, arith}
use Rattle.cert_types.specs.cert_rules.Numbering.{nodes_of}
use Rattle.cert_types.specs.Views.{proof_of}
use Rattle.check_file.specs.Children.{nodes_in}
use Rattle.cert_context.specs.CheckContexts.{program, setting}
use Rattle.check_file.specs.Judging.{AreWhole}
use Rattle.check_file.specs.Refusing.{RefusesAmong}
use Rattle.std.specs.List.{AllByRecursion}
use Rattle.cert_context.specs.Statements.{past_of, facts_by, AreBased}
use Rattle.check_file.proofs.AcceptedLemmas.{based-all}
use Rattle.cert_types.specs.cert_rules.Nodes.{Proof}
use Rattle.check_file.proofs.ChildNodes.{count-children}
use Rattle.cert_context.proofs.Cuts.{cut-at, done-more, done-all}
use Rattle.check_file.proofs.JudgedNodes.{whole, refused-here, refused-child, one-more, refused-next, cut-count}
use Rattle.check_file.proofs.judging.+judge.Goals as goal

pub judge-judge_all-requires : goal.judge-judge_all-requires
judge-judge_all-requires t c =
    let n = count-children (proof_of c.args.proof.now) in
    let same = ap (λ (ps : List Proof). length (nodes_in ps)) c.children.ensures in
    (omega (arith, n, same), (c.requires.context, (c.requires.kept, omega (arith, c.requires.few, n, same))))

pub judge_all-judge-requires : goal.judge_all-judge-requires
judge_all-judge-requires t c =
    let all = cut-count c.args.proofs.now c.loop-proof.proof-index c.proof-item.result c.loop-proof-test.true c.proof-item.is in
    (omega (arith, all), (c.requires.context, (c.requires.kept, omega (arith, c.requires.few, all, c.loop-proof.invariant.count))))

pub judge_all-loop-proof-preserved : goal.judge_all-loop-proof-preserved
judge_all-loop-proof-preserved t c =
    let s = setting c.args.context.now in
    let kept = c.args.kept.now in
    subst (λ (ps : List Proof). AreWhole s kept ps c.args.before (record { uses = c.push.new.self; count = c.in-Ok.judged.count }))
    (sym (done-more proof_of c.args.proofs.now c.loop-proof.proof-index c.proof-item.result c.loop-proof-test.true c.proof-item.is))
    (one-more s kept (map proof_of (take c.loop-proof.proof-index c.args.proofs.now)) (proof_of c.proof-item.result)
    c.args.before c.loop-proof.count c.loop-proof.uses c.push.new.self c.in-Ok.judged c.loop-proof.invariant c.in-Ok.ensures
    c.in_ok-push-in-Ok.ensures.items)

pub judge_all-returns-in-Err : goal.judge_all-returns-in-Err
judge_all-returns-in-Err t c =
    let s = setting c.args.context.now in
    let kept = c.args.kept.now in
    refused-next s kept (map proof_of (take c.loop-proof.proof-index c.args.proofs.now)) (proof_of c.proof-item.result)
    (map proof_of (drop (c.loop-proof.proof-index + 1) c.args.proofs.now)) (map proof_of c.args.proofs.now) c.args.before
    c.loop-proof.count c.loop-proof.uses c.in-Err.fault
    (cut-at proof_of c.args.proofs.now c.loop-proof.proof-index c.proof-item.result c.loop-proof-test.true c.proof-item.is)
    c.loop-proof.invariant c.in-Err.ensures

pub judge_all-returns : goal.judge_all-returns
judge_all-returns t c =
    subst (λ (ps : List Proof). AreWhole (setting c.args.context.now) c.args.kept.now ps c.args.before
    (record { uses = c.loop-proof.uses; count = c.loop-proof.count }))
    (done-all proof_of c.args.proofs.now c.loop-proof.proof-index (omega (arith, c.loop-proof-test.false)))
    c.loop-proof.invariant

pub judge-judge_node-requires-clause-based : goal.judge-judge_node-requires-clause-based
judge-judge_node-requires-clause-based t c =
    let g = c.args.context.now in
    let k = c.requires.kept.1 in
    subst (AllByRecursion AreBased) (sym (ap (map (facts_by c.args.kept.now)) c.deref.ensures.value ∙ c.in-Ok.ensures.facts))
    (based-all (program g) c.requires.context.valid c.requires.kept.0 (past_of c.args.kept.now) k.accepted k.facts
    (map proof_of c.children.result.now) c.in-Ok.ensures.passed)

pub judge-overflow_add-result : goal.judge-overflow_add-result
judge-overflow_add-result t c =
    let n = count-children (proof_of c.args.proof.now) in
    let same = ap (λ (ps : List Proof). length (nodes_in ps)) c.children.ensures in
    omega (arith, c.requires.few, c.in-Ok.ensures.count, n, same)

pub judge-returns-in-Ok-judge_node : goal.judge-returns-in-Ok-judge_node
judge-returns-in-Ok-judge_node t c =
    let s = setting c.args.context.now in
    let kept = c.args.kept.now in
    whole s kept (proof_of c.args.proof.now) c.args.before c.in-Ok.joined
    (subst (λ (ps : List Proof). AreWhole s kept ps c.args.before c.in-Ok.joined) c.children.ensures c.in-Ok.ensures)
    c.in-Ok-judge_node.stated (c.in-Ok.joined.count + 1) c.in-Ok-judge_node.ensures refl

pub judge-overflow_add-joined : goal.judge-overflow_add-joined
judge-overflow_add-joined t c =
    let n = count-children (proof_of c.args.proof.now) in
    let same = ap (λ (ps : List Proof). length (nodes_in ps)) c.children.ensures in
    omega (arith, c.requires.few, c.in-Ok.ensures.count, n, same)

pub judge-returns-in-Ok : goal.judge-returns-in-Ok
judge-returns-in-Ok t c =
    let s = setting c.args.context.now in
    let kept = c.args.kept.now in
    subst (RefusesAmong s (past_of kept) (nodes_of (proof_of c.args.proof.now)) c.args.before) (sym c.at_node.ensures)
    (refused-here s kept (proof_of c.args.proof.now) c.args.before c.in-Ok.joined
    (subst (λ (ps : List Proof). AreWhole s kept ps c.args.before c.in-Ok.joined) c.children.ensures c.in-Ok.ensures)
    c.in-Err-judge_node.fault c.in-Err-judge_node.ensures)

pub judge-returns : goal.judge-returns
judge-returns t c =
    let s = setting c.args.context.now in
    let kept = c.args.kept.now in
    refused-child s kept (proof_of c.args.proof.now) c.args.before c.in-Err.fault
    (subst (λ (ps : List Proof). RefusesAmong s (past_of kept) (nodes_in ps) c.args.before c.in-Err.fault) c.children.ensures c.in-Err.ensures)
