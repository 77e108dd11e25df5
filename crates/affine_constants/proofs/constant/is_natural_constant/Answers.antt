use Rattle.std.proofs.Common.{sym, ◌∙◌}
use Rattle.poly_terms.specs.Views.{term_of}
use Rattle.affine_constants.proofs.Units.{affine-reads}
use Rattle.affine_constants.proofs.constant.is_natural_constant.Goals as goal

pub has_one_value-requires : goal.has_one_value-requires
has_one_value-requires c =
    affine-reads c.args.variables (term_of c.args.e.now) (sym c.is_affine.ensures ∙ c.if-not-is_affine.false)
