use Rattle.std.proofs.Common.{◌∙◌, map, ap, sym, to_z, arith}
use Rattle.std.specs.Int.{w64}
use Rattle.std.proofs.lemmas.Int.{fits_signed_from_abs, ints, to_z-of_z}
use Rattle.cert_types.specs.Sizes.{is_result_variable}
use Rattle.cert_types.specs.Views.{member_of}
use Rattle.size_nodes.proofs.Slopes.{zero_inner}
use Rattle.size_nodes.proofs.flow.inner.Goals as goal

pub returns-then-coef-eq0-clause-sum : goal.returns-then-coef-eq0-clause-sum
returns-then-coef-eq0-clause-sum c =
    let whole =
    to_z-of_z w64 c.args.coef.now (fits_signed_from_abs w64 c.args.coef.now (omega (arith, ints, c.requires.limit))) in
    zero_inner (is_result_variable (map member_of c.args.members.now) c.args.rule c.args.place) c.args.coef.now c.args.den
    (sym whole ∙ ap (to_z w64) c.if-coef-eq0.true) c.requires.over
