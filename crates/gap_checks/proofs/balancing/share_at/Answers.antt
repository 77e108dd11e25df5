use Rattle.std.proofs.Common.{◌<◌, length, get_or, sym, ◌∙◌, subst, arith}
use Rattle.std.proofs.lemmas.Int.{to_z-of_z}
use Rattle.std.proofs.lemmas.List.{get_or_default, length-map}
use mir.Syntax.{w128}
use Rattle.cert_types.specs.cert_rules.AcceptsPlain.{IsRule}
use Rattle.cert_types.specs.cert_program.RankedSets.{forms_at}
use Rattle.cert_types.specs.AnswerViews.{gap_of, scaled_of}
use Rattle.gap_checks.specs.GapBalances.{program}
use Rattle.gap_checks.specs.GapTests.{IsNear}
use Rattle.gap_checks.proofs.GapFaults.{in-list, have-small, near-moves}
use Rattle.gap_checks.proofs.GapPositions.{position-is}
use Rattle.gap_checks.proofs.Sums.{opposite-read}
use Rattle.gap_checks.proofs.TouchSums.{share-arrives, share-leaves, point-found}
use Rattle.gap_checks.proofs.balancing.share_at.Goals as goal

pub leaving-requires-clause-rule : goal.leaving-requires-clause-rule
leaving-requires-clause-rule c =
    let set = c.args.g.now.set.items in
    let i = c.args.touch.now.position in
    let t = c.index-rule.ensures ∙ get_or_default set i c.index-rule.result.now 0 c.requires.inside in
    subst (IsRule (program c.args.rules.now)) (sym t) (c.requires.shape.rules (get_or set i 0) (in-list set i 0 c.requires.inside))

pub leaving-requires-clause-near : goal.leaving-requires-clause-near
leaving-requires-clause-near c =
    let g = c.args.g.now in
    let i = c.args.touch.now.position in
    let near = near-moves (program c.args.rules.now) c.requires.valid (gap_of g) c.requires.shape in
    subst IsNear
    (position-is (λ t z. IsNear z) g.set.items g.moves.items i c.index-z.result.now near.ascending near.long c.requires.inside
    c.index-z.ensures) (near.near (get_or g.set.items i 0) (in-list g.set.items i 0 c.requires.inside))

pub arriving-requires-clause-rule : goal.arriving-requires-clause-rule
arriving-requires-clause-rule c =
    let set = c.args.g.now.set.items in
    let i = c.args.touch.now.position in
    let t = c.index-rule.ensures ∙ get_or_default set i c.index-rule.result.now 0 c.requires.inside in
    subst (IsRule (program c.args.rules.now)) (sym t) (c.requires.shape.rules (get_or set i 0) (in-list set i 0 c.requires.inside))

pub arriving-requires-clause-near : goal.arriving-requires-clause-near
arriving-requires-clause-near c =
    let g = c.args.g.now in
    let i = c.args.touch.now.position in
    let near = near-moves (program c.args.rules.now) c.requires.valid (gap_of g) c.requires.shape in
    subst IsNear
    (position-is (λ t z. IsNear z) g.set.items g.moves.items i c.index-z.result.now near.ascending near.long c.requires.inside
    c.index-z.ensures) (near.near (get_or g.set.items i 0) (in-list g.set.items i 0 c.requires.inside))

pub arriving-requires-clause-new_values : goal.arriving-requires-clause-new_values
arriving-requires-clause-new_values c =
    (have-small (program c.args.rules.now) c.requires.valid c.args.rules.now.prepared_rules.now c.requires.rows).new_values c.index-rule.result.now

pub returns-in-Leaves-clause-value : goal.returns-in-Leaves-clause-value
returns-in-Leaves-clause-value c =
    let g = c.args.g.now in
    let i = c.args.touch.now.position in
    let few : i < length g.moves.items = omega (arith, c.requires.inside, c.requires.shape.one_move, length-map g.moves.items scaled_of) in
    let t = c.index-rule.ensures ∙ get_or_default g.set.items i c.index-rule.result.now 0 c.requires.inside in
    to_z-of_z w128 c.leaving.result (record { sfits = c.leaving.type_inv })
    ∙ share-leaves (forms_at (program c.args.rules.now)) g.set.items (gap_of g).moves c.args.touch.now c.args.place
    c.index-rule.result.now (scaled_of c.index-z.result.now) _ c.in-Leaves.is t
    (point-found g.moves.items i c.index-z.result.now few c.index-z.ensures) c.leaving.ensures.value

pub returns-in-Arrives-clause-value : goal.returns-in-Arrives-clause-value
returns-in-Arrives-clause-value c =
    let g = c.args.g.now in
    let i = c.args.touch.now.position in
    let few : i < length g.moves.items = omega (arith, c.requires.inside, c.requires.shape.one_move, length-map g.moves.items scaled_of) in
    let t = c.index-rule.ensures ∙ get_or_default g.set.items i c.index-rule.result.now 0 c.requires.inside in
    opposite-read c.arriving.result (omega (arith, c.arriving.ensures.size))
    ∙ share-arrives (forms_at (program c.args.rules.now)) g.set.items (gap_of g).moves c.args.touch.now c.args.place
    c.index-rule.result.now (scaled_of c.index-z.result.now) _ c.in-Arrives.is t
    (point-found g.moves.items i c.index-z.result.now few c.index-z.ensures) c.arriving.ensures.value
