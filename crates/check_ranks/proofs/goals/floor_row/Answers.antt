use Rattle.std.proofs.Common.{◌∙◌, to_z, of_z}
use Rattle.std.specs.Int.{w128}
use Rattle.std.specs.Prelude.{pos}
use Rattle.std.proofs.lemmas.Int.{to_z-of_z}
use Rattle.cert_types.specs.Sizes.{form_found}
use Rattle.check_ranks.proofs.GoalForms.{floor-row}
use Rattle.check_ranks.proofs.goals.floor_row.Goals as goal

pub returns : goal.returns
returns c =
    floor-row c.args.width (form_found c.args.before) (pos c.args.least) c.in_ok-coefs.coefs.items
    (to_z w128 (of_z w128 c.floor_constant-constant.result)) c.requires.within c.in_ok-coefs.ensures
    (to_z-of_z w128 c.floor_constant-constant.result (record { sfits = c.floor_constant-constant.type_inv })
    ∙ c.floor_constant-constant.ensures)
