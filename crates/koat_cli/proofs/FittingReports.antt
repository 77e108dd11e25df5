-- Loops over lists whose elements fit, and over the parts of a bound; and the gap of a number, if all gaps fit.
use Rattle.std.proofs.Common.{◌≡◌, ◌∙◌, ℕ, zero, suc, ◌+◌, ◌<◌, List, [], ◌∷◌, map, take, get_or, length, sym, ap, subst}
use Rattle.std.proofs.Common.{arith}
use Rattle.std.specs.List.{AllByRecursion}
use Rattle.std.proofs.lemmas.List.{take_more, map-append}
use Rattle.model.specs.Bounds as plain
use Rattle.model.specs.Bounds.{Parts, NoParts, Part}
use Rattle.bound_expr.specs.Views.{bound_of, bounds_of, parts_of, with_part}
use Rattle.bound_expr.specs.declared.bound.Bound.{Bound}
use Rattle.bound_expr.proofs.Lists.{parts_of-take_more}
use Rattle.bound_text.specs.Texts.{HasShortBases, HaveShortBases}
use Rattle.its_model.proofs.CostSteps.{joined-hold}
use Rattle.cert_types.specs.AnswerViews.{gap_of}
use Rattle.cert_types.specs.declared.gap.Gap as code
use Rattle.outcome.specs.Views.{no_gap, numbered_gap}
use Rattle.koat_cli.specs.FittingReports.{HasShortNumbers}

-- what views of the elements before a position have, and that of the one at it, those of one element more have
pub each-more : {A B : Type 0} (P : B → Type 0) (f : A → B) (xs : List A) (i : ℕ) (x : A) → i < length xs
    → AllByRecursion P (map f (take i xs)) → P (f (get_or xs i x)) → AllByRecursion P (map f (take (i + 1) xs))
each-more P f xs i x low all one =
    subst (AllByRecursion P) (sym (ap (map f) (take_more xs i x low) ∙ map-append f (take i xs) (get_or xs i x ∷ [])))
    (joined-hold P (map f (take i xs)) (f (get_or xs i x) ∷ []) all (one, tt))

-- the same for an element that a loop gave
pub each-step : {A B : Type 0} (P : B → Type 0) (f : A → B) (xs : List A) (i : ℕ) (x : A) → i < length xs
    → x ≡ get_or xs i x → AllByRecursion P (map f (take i xs)) → P (f x) → AllByRecursion P (map f (take (i + 1) xs))
each-step P f xs i x low is all one = each-more P f xs i x low all (subst (λ y. P (f y)) is one)

-- the gap without points has no number but 0
none_fits : HasShortNumbers no_gap
none_fits = record {
  rule = omega arith;
  set = tt;
  places = tt;
  moves = tt;
  floor = record { parts = tt; den = omega arith };
  kept = tt;
}

-- the gap of a number has numbers that fit, if those of all gaps do
pub numbered_fits : (gaps : List code.Gap) (n : ℕ) → AllByRecursion HasShortNumbers (map gap_of gaps)
    → HasShortNumbers (numbered_gap gaps n)
numbered_fits gaps zero h = none_fits
numbered_fits [] (suc n) h = none_fits
numbered_fits (g ∷ gaps) (suc zero) h = h.0
numbered_fits (g ∷ gaps) (suc (suc n)) h = numbered_fits gaps (suc n) h.1

-- one more part at the end
bases-with_part : (ps : Parts) (b : plain.Bound) → HaveShortBases ps → HasShortBases b
    → HaveShortBases (with_part ps b)
bases-with_part NoParts b h k = (k, tt)
bases-with_part (Part c cs) b h k = (h.0, bases-with_part cs b h.1 k)

pub bases-step : (xs : List Bound) (i : ℕ) (x : Bound) → i < length xs → x ≡ get_or xs i x
    → HaveShortBases (parts_of (bounds_of (take i xs))) → HasShortBases (bound_of x)
    → HaveShortBases (parts_of (bounds_of (take (i + 1) xs)))
bases-step xs i x h e all one =
    subst HaveShortBases (sym (parts_of-take_more xs i x h e))
    (bases-with_part (parts_of (bounds_of (take i xs))) (bound_of x) all one)
