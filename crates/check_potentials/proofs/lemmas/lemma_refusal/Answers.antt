use Rattle.std.proofs.Common.{◌∙◌, map, sym}
use Rattle.signed_bounds.specs.Views.{signed_of}
use Rattle.potential_nodes.specs.Acceptance.{node_checks}
use Rattle.potential_nodes.specs.Checks.{check, BadShape}
use Rattle.potential_nodes.specs.Limits.{is_within_limits}
use Rattle.potential_types.specs.Views.{fact_view, node_of}
use Rattle.check_potentials.specs.Grounds.{plain_ground}
use Rattle.check_potentials.proofs.RefusalLaws.{passed_one, failed_one}
use Rattle.check_potentials.proofs.lemmas.lemma_refusal.Goals as goal

pub returns-then-not-is_small : goal.returns-then-not-is_small
returns-then-not-is_small c =
    let g = plain_ground c.args.ground in
    let facts = map fact_view c.args.known.facts.now in
    let n = node_of c.args.lemma.now.node in
    let b = signed_of c.args.lemma.now.bound in
    sym (failed_one (check BadShape (is_within_limits n b)) (node_checks g facts n b)
    (sym c.is_within_limits-is_small.ensures ∙ c.if-not-is_small.true))

pub returns : goal.returns
returns c =
    let g = plain_ground c.args.ground in
    let facts = map fact_view c.args.known.facts.now in
    let n = node_of c.args.lemma.now.node in
    let b = signed_of c.args.lemma.now.bound in
    c.in_ok-refused.ensures
    ∙ sym (passed_one (check BadShape (is_within_limits n b)) (node_checks g facts n b)
    (sym c.is_within_limits-is_small.ensures ∙ c.if-not-is_small.false))
