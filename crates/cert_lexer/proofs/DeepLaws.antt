-- The number of marks doesn't change as they are raised, and the first part that is too deep is behind those stored.
use Rattle.std.proofs.Common.{◌≡◌, ℕ, zero, suc, Bool, true, false, cond, nat_lt, [], ◌∷◌, length}
use Rattle.std.proofs.Common.{◌+◌, not, Some, None, refl, ap, ◌∙◌, arith}
use Rattle.std.specs.Prelude.{◌||◌}
use Rattle.std.proofs.lemmas.Bool.Decides.{nat_tests}
use Rattle.std.specs.List.{position, position_or_len}
use Rattle.bound_text.specs.Inside.{Marks}
use Rattle.cert_lexer.specs.Bounds.{is_deep}
use Rattle.cert_lexer.specs.Levels.{has_deep, raised, raised_from, shallow}

-- raising marks keeps their number
raised_length : (ms : Marks) → length (raised ms) ≡ length ms
raised_length [] = refl
raised_length (m ∷ ms) = ap suc (raised_length ms)

from_length : (n : ℕ) (ms : Marks) → length (raised_from n ms) ≡ length ms
from_length zero ms = raised_length ms
from_length (suc n) [] = refl
from_length (suc n) (m ∷ ms) = ap suc (from_length n ms)

-- raising marks from a piece on, or not, keeps their number
pub either_length : (v : Bool) (n : ℕ) (ms : Marks) → length (cond v (raised_from n ms) ms) ≡ length ms
either_length true n ms = from_length n ms
either_length false n ms = refl

-- the first mark that is too deep comes after the marks before it
first_place : (ms : Marks) → position_or_len is_deep ms ≡ length (shallow ms)
first_place [] = refl
first_place (m ∷ ms) = go (is_deep m) (first_place ms)
  where
    go : (v : Bool) → position_or_len is_deep ms ≡ length (shallow ms)
        → cond (not v) (1 + position_or_len is_deep ms) 0 ≡ length (cond v [] (m ∷ shallow ms))
    go true ih = refl
    go false ih = omega (arith, ih)

first_within : (ms : Marks) → nat_lt (position_or_len is_deep ms) (length ms) ≡ has_deep ms
first_within [] = refl
first_within (m ∷ ms) = go (is_deep m) (first_within ms)
  where
    more : (k n : ℕ) → nat_lt (1 + k) (suc n) ≡ nat_lt k n
    more k n = grind (arith, nat_tests)

    some : (n : ℕ) → nat_lt 0 (suc n) ≡ true
    some n = grind (arith, nat_tests)

    go : (v : Bool) → nat_lt (position_or_len is_deep ms) (length ms) ≡ has_deep ms
        → nat_lt (cond (not v) (1 + position_or_len is_deep ms) 0) (suc (length ms)) ≡ v || has_deep ms
    go true ih = some (length ms)
    go false ih = more (position_or_len is_deep ms) (length ms) ∙ ih

-- the place of the first mark that is too deep, if there is one
pub first_deep : (ms : Marks) → position is_deep ms ≡ cond (has_deep ms) (Some (length (shallow ms))) None
first_deep ms =
    ap (λ (v : Bool). cond v (Some (position_or_len is_deep ms)) None) (first_within ms)
    ∙ ap (λ (n : ℕ). cond (has_deep ms) (Some n) None) (first_place ms)
