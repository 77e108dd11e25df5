-- The loop in which each factor takes one of the others.
use Rattle.std.proofs.Common.{◌≡◌, ℕ, zero, suc, ◌+◌, ◌<◌, ◌≤◌, Bool, true, false, List, [], ◌∷◌, drop, get_or, length}
use Rattle.std.proofs.Common.{Option, Some, None, refl, ap, sym, ◌∙◌, arith}
use Rattle.std.specs.Prelude.{◌==◌}
use Rattle.std.proofs.Math.Dec.{eqb-suc-zero}
use Rattle.std.proofs.lemmas.List.{drop_more, drop_all}
use denote.Ref.{Bor}
use Rattle.signed_bounds.specs.Bounds as plain
use Rattle.signed_bounds.specs.declared.signed.Signed.{Signed}
use Rattle.signed_bounds.specs.Views.{signed_of}
use Rattle.signed_bounds.specs.Covers.{is_empty}
use Rattle.signed_within.specs.declared.test.Test.{Test}
use Rattle.signed_within.specs.declared.test.Test.TheVariants.{Equal, Fitting}
use Rattle.signed_within.specs.Tests.{without, lists_match}
use Rattle.signed_within.specs.Views.{signed_at}

-- the first factor takes one, and the other factors take theirs of those left
match_first : (t : Test) (f : plain.Signed) (fs gs : List plain.Signed) (o : Option (List plain.Signed))
    → without t f gs ≡ o
    → lists_match t (f ∷ fs) gs ≡ (elim o [ None ↦ false | Some left ↦ lists_match t fs left ])
match_first Equal f fs gs o e =
    ap (λ (r : Option (List plain.Signed)). elim r [ None ↦ false | Some left ↦ lists_match Equal fs left ]) e
match_first Fitting f fs gs o e =
    ap (λ (r : Option (List plain.Signed)). elim r [ None ↦ false | Some left ↦ lists_match Fitting fs left ]) e

-- the factors from this one on match if this one takes one and those after it match the factors left
pub match_more : (t : Test) (rs : List (Bor Signed)) (i : ℕ) (r : Bor Signed) (gs : List plain.Signed)
    (o : Option (List plain.Signed)) → i < length rs → r ≡ get_or rs i r → without t (signed_of r.now) gs ≡ o
    → lists_match t (signed_at (drop i rs)) gs
    ≡ (elim o [ None ↦ false | Some left ↦ lists_match t (signed_at (drop (i + 1) rs)) left ])
match_more t rs i r gs o h e is =
    ap (λ (qs : List (Bor Signed)). lists_match t (signed_at qs) gs) (drop_more rs i r h)
    ∙ ap (λ (q : Bor Signed). lists_match t (signed_of q.now ∷ signed_at (drop (i + 1) rs)) gs) (sym e)
    ∙ match_first t (signed_of r.now) (signed_at (drop (i + 1) rs)) gs o is

-- if no factor is left that takes one, the lists match exactly if no other factor is left
match_nothing : (t : Test) (gs : List plain.Signed) → lists_match t [] gs ≡ is_empty gs
match_nothing Equal gs = refl
match_nothing Fitting gs = refl

pub match_none : (t : Test) (rs : List (Bor Signed)) (i : ℕ) (gs : List plain.Signed) → length rs ≤ i
    → lists_match t (signed_at (drop i rs)) gs ≡ is_empty gs
match_none t rs i gs h =
    ap (λ (qs : List (Bor Signed)). lists_match t (signed_at qs) gs) (drop_all i rs h) ∙ match_nothing t gs

-- a list is empty exactly if its length is 0
pub is_empty-length : (rs : List (Bor Signed)) → (length rs == 0) ≡ is_empty (signed_at rs)
is_empty-length [] = refl
is_empty-length (r ∷ rs) = eqb-suc-zero (length rs)
