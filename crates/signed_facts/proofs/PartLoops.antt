-- A loop over the parts of a bound: one more part at the end.
use Rattle.std.proofs.Common.{◌≡◌, refl, ap}
use Rattle.bound_expr.specs.Views as plain_views
use Rattle.signed_bounds.specs.poly_terms.model.Bounds as plain
use Rattle.signed_bounds.specs.Bounds.{Part}
use Rattle.signed_bounds.specs.Inputs.{signed_of_bound, signed_of_parts}
use Rattle.signed_bounds.specs.Views.{with_part}

-- the signed parts of parts with one more at the end have the signed bound of that one at the end
pub signed-with_part : (bs : plain.Parts) (b : plain.Bound)
    → signed_of_parts (plain_views.with_part bs b) ≡ with_part (signed_of_parts bs) (signed_of_bound b)
signed-with_part plain.NoParts b = refl
signed-with_part (plain.Part c cs) b = ap (Part (signed_of_bound c)) (signed-with_part cs b)
