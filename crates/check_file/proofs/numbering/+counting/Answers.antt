use Rattle.std.proofs.Common.{◌≡◌, ◌+◌, ◌∙◌, List, map, take, length, ap, arith}
use Rattle.std.proofs.lemmas.List.{length-append}
use Rattle.cert_types.specs.Views.{proof_of}
use Rattle.cert_types.specs.cert_rules.Nodes.{Proof}
use Rattle.cert_types.specs.cert_rules.Numbering.{nodes_of}
use Rattle.check_file.specs.Children.{nodes_in}
use Rattle.check_file.proofs.ChildNodes.{count-children, nodes-push}
use Rattle.check_file.proofs.JudgedNodes.{cut-count}
use Rattle.check_file.proofs.NodeCounts.{count-more, count-same, count-within}
use Rattle.cert_context.proofs.Cuts.{done-more, done-all}
use Rattle.check_file.proofs.numbering.+counting.Goals as goal

pub counted-all_counted-requires : goal.counted-all_counted-requires
counted-all_counted-requires t c =
    let n = count-children (proof_of c.args.proof.now) in
    let same = ap (λ (ps : List Proof). length (nodes_in ps)) c.children.ensures in
    (omega (arith, n, same), c.requires)

pub counted-returns : goal.counted-returns
counted-returns t c =
    let n = count-children (proof_of c.args.proof.now) in
    let same = ap (λ (ps : List Proof). length (nodes_in ps)) c.children.ensures in
    count-same _ _ c.one_more.result
    (let e : c.args.before + length (nodes_in (map proof_of c.children.result.now)) + 1
    ≡ c.args.before + length (nodes_of (proof_of c.args.proof.now)) = omega (arith, n, same) in e)
    (count-more _ c.all_counted.result 1 c.one_more.result c.all_counted.ensures c.one_more.ensures)

pub all_counted-counted-count-requires : goal.all_counted-counted-count-requires
all_counted-counted-count-requires t c =
    let all = cut-count c.args.proofs.now c.loop-proof.proof-index c.proof-item.result c.loop-proof-test.true c.proof-item.is in
    (omega (arith, all), count-within _ c.loop-proof.count c.loop-proof.invariant)

pub all_counted-loop-proof-preserved : goal.all_counted-loop-proof-preserved
all_counted-loop-proof-preserved t c =
    let done = map proof_of (take c.loop-proof.proof-index c.args.proofs.now) in
    let q = proof_of c.proof-item.result in
    let more =
    ap (λ (ps : List Proof). length (nodes_in ps))
    (done-more proof_of c.args.proofs.now c.loop-proof.proof-index c.proof-item.result c.loop-proof-test.true c.proof-item.is)
    ∙ (ap length (nodes-push done q) ∙ length-append (nodes_in done) (nodes_of q)) in
    count-same _ _ c.counted-count.result (omega (arith, more))
    (count-more _ c.loop-proof.count (length (nodes_of q)) c.counted-count.result c.loop-proof.invariant c.counted-count.ensures)

pub all_counted-returns : goal.all_counted-returns
all_counted-returns t c =
    count-same _ _ c.loop-proof.count
    (ap (λ (ps : List Proof). c.args.before + length (nodes_in ps))
    (done-all proof_of c.args.proofs.now c.loop-proof.proof-index (omega (arith, c.loop-proof-test.false))))
    c.loop-proof.invariant
