use Rattle.std.proofs.Common.{List, arith, ◌∙◌, map, replicate}
use Rattle.std.specs.Prelude.{ℤ, pos, neg_ℤ}
use Rattle.std.specs.Int.{w128}
use Rattle.std.proofs.lemmas.Int.{to_z-of_z}
use Rattle.std.proofs.lemmas.List.{length-replicate}
use Rattle.std.proofs.lemmas.Result.{IfOk-weaker}
use Rattle.simplex_core.specs.linear_forms.Forms.{Form}
use Rattle.simplex_core.specs.linear_forms.Questions.{number, signed, slack}
use Rattle.poly_terms.specs.Views.{form_of}
use Rattle.lp_builder.specs.Descriptions.{goal_forms}
use Rattle.lp_builder.proofs.Pieces.{line-pieces, slack-behind}
use Rattle.lp_builder.proofs.line.put_line.Goals as goal

pub skip-requires : goal.skip-requires
skip-requires c = omega (arith, c.in_ok-put_goals.ensures.1, c.requires.room)

pub put_rows-requires-clause-room : goal.put_rows-requires-clause-room
put_rows-requires-clause-room c =
    omega (arith, c.in_ok-put_goals.ensures.1, c.skip.ensures.col, length-replicate c.args.before (pos 0), c.requires.room)

pub put-requires : goal.put-requires
put-requires c =
    omega (arith, c.in_ok-put_goals.ensures.1, c.skip.ensures.col, length-replicate c.args.before (pos 0), c.in_ok-put_rows.ensures.1, c.requires.room)

pub returns : goal.returns
returns c =
    let value = to_z-of_z w128 c.slack.result (record { sfits = c.slack.type_inv }) ∙ c.slack.ensures in
    let pairs = signed (map (number c.args.line.unknowns c.args.line.number) (goal_forms 0 c.args.parameters c.args.goals.now)) in
    let zeros = replicate c.args.before (pos 0) in
    let multipliers : List ℤ = map {A = Form} {B = ℤ} (λ r. neg_ℤ (number c.args.line.unknowns c.args.line.number r)) (map form_of c.args.rows.now) in
    let pieces = line-pieces c.args.writer.now c.put_goals.new.writer c.skip.new.self c.put_rows.new.writer pairs zeros {zs = multipliers} c.in_ok-put_goals.ensures.0 c.skip.ensures c.in_ok-put_rows.ensures.0 in
    IfOk-weaker c.put.result _ _
    (λ x w. slack-behind c.args.writer.now c.put_rows.new.writer c.put.new.self pairs zeros multipliers _ (slack c.args.line.unknowns c.args.line.number) pieces value w) c.put.ensures
