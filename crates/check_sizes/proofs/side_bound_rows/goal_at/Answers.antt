use Rattle.std.proofs.Common.{◌∙◌, ap, arith}
use Rattle.std.specs.Int.{w64, w128}
use Rattle.std.specs.Prelude.{pos, unsigned_abs}
use Rattle.std.proofs.lemmas.Int.{to_z-of_z}
use Rattle.poly_terms.specs.Views.{form_of}
use Rattle.cert_context.specs.declared.columns.Column.TheVariants.{Unknown}
use Rattle.cert_context.proofs.FormColumns.{form-small, number-small}
use Rattle.check_sizes.proofs.side_bound_rows.goal_at.Goals as goal

pub goal_number-requires-clause-own_small : goal.goal_number-requires-clause-own_small
goal_number-requires-clause-own_small c =
    let own = to_z-of_z w64 c.coefficient-own.result (record { sfits = c.coefficient-own.type_inv }) ∙ c.coefficient-own.ensures in
    let small = form-small (Unknown c.args.unknown) (record { coefs = c.args.coefs.now; constant = pos 0 })
    (record { coefs = c.requires.coefs_small; constant = omega arith }) in
    omega (arith, ap unsigned_abs own, small)

pub goal_number-requires-clause-value_small : goal.goal_number-requires-clause-value_small
goal_number-requires-clause-value_small c =
    let number = to_z-of_z w128 c.number-other.result (record { sfits = c.number-other.type_inv }) ∙ c.number-other.ensures in
    omega (arith, ap unsigned_abs number, number-small (Unknown c.args.unknown) (form_of c.args.value.now) c.requires.value_small)
