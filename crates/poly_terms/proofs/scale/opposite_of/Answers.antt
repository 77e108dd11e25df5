use Rattle.std.proofs.Common.{◌∙◌}
use Rattle.poly_terms.specs.Views.{poly_of}
use Rattle.poly_terms.proofs.ScaleLaws.{opposite-times}
use Rattle.poly_terms.proofs.scale.opposite_of.Goals as goal

pub returns : goal.returns
returns c = c.scaled.ensures ∙ opposite-times (poly_of c.args.p)
