use Rattle.std.proofs.Common.{◌≡◌, ◌==◌, List, [], ◌∷◌, drop, length, refl, ap, sym, ◌∙◌, arith}
use Rattle.std.proofs.Math.Dec.{eqb-suc-zero}
use Rattle.std.proofs.lemmas.List.{drop_all}
use Rattle.signed_bounds.specs.Bounds.{NoParts}
use Rattle.signed_bounds.specs.declared.signed.Signed.{Signed}
use Rattle.signed_bounds.specs.Views.{signeds_of, parts_of}
use Rattle.signed_bounds.specs.Safe.{expands_to_squares}
use Rattle.signed_bounds.specs.Fits.{all_fit}
use Rattle.signed_within.proofs.fitting.+fits.Goals as goal

-- no parts fit other parts exactly if there are none of these
nothing_fits : (ys : List Signed) → (length ys == 0) ≡ all_fit expands_to_squares NoParts (parts_of (signeds_of ys))
nothing_fits [] = refl
nothing_fits (y ∷ ys) = eqb-suc-zero (length ys)

pub all_fit-returns : goal.all_fit-returns
all_fit-returns t c =
    c.is_empty.ensures
    ∙ nothing_fits c.loop-part.left.now
    ∙ sym (ap (λ (xs : List Signed). all_fit expands_to_squares (parts_of (signeds_of xs)) (parts_of (signeds_of c.loop-part.left.now)))
    (drop_all c.loop-part.part-index c.args.parts.now (omega arith)))
    ∙ c.loop-part.invariant
