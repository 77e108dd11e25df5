-- The position of the first factor that passes a test.
use Rattle.std.proofs.Common.{◌≡◌, ℕ, zero, suc, ◌+◌, ◌<◌, ◌≤◌, Bool, true, false, cond, List, [], ◌∷◌, ◌++◌, map, take, drop}
use Rattle.std.proofs.Common.{get_or, length, Option, Some, None, refl, ap, sym, ◌∙◌, add-one, arith}
use Rattle.std.specs.Prelude.{remove, option_map, if◌then◌else◌}
use Rattle.std.proofs.lemmas.List.{drop_all, length-map}
use denote.Ref.{Bor}
use Rattle.signed_bounds.specs.Bounds as plain
use Rattle.signed_bounds.specs.declared.signed.Signed.{Signed}
use Rattle.signed_bounds.specs.Views.{signed_of}
use Rattle.signed_bounds.specs.Covers.{without_first}
use Rattle.signed_within.specs.Views.{signed_at}

-- a result found after a prefix, with the prefix before it
abbrev pub behind : List plain.Signed → Option (List plain.Signed) → Option (List plain.Signed)
behind before o = option_map (λ found. before ++ found) o

-- a result found after one more factor is found after a prefix longer by one
behind_one : (y : plain.Signed) (before : List plain.Signed) (o : Option (List plain.Signed))
    → behind (y ∷ before) o ≡ option_map (λ found. y ∷ found) (behind before o)
behind_one y before None = refl
behind_one y before (Some found) = refl

-- a result found after no prefix is the result
behind_none : (o : Option (List plain.Signed)) → behind [] o ≡ o
behind_none None = refl
behind_none (Some found) = refl

-- a test that fails at the first factor looks at the others, and one that passes takes the first
test_fails : (test : plain.Signed → Bool) (y : plain.Signed) (ys : List plain.Signed) → test y ≡ false
    → without_first test (y ∷ ys) ≡ option_map (λ found. y ∷ found) (without_first test ys)
test_fails test y ys e =
    ap (λ (t : Bool). if t then Some ys else option_map (λ found. y ∷ found) (without_first test ys)) e

test_passes : (test : plain.Signed → Bool) (y : plain.Signed) (ys : List plain.Signed) → test y ≡ true
    → without_first test (y ∷ ys) ≡ Some ys
test_passes test y ys e =
    ap (λ (t : Bool). if t then Some ys else option_map (λ found. y ∷ found) (without_first test ys)) e

-- a factor that fails the test is added to the prefix
pub first_fails : (test : plain.Signed → Bool) (ys : List plain.Signed) (i : ℕ) (y : plain.Signed) → i < length ys
    → get_or ys i y ≡ y → test y ≡ false
    → behind (take i ys) (without_first test (drop i ys)) ≡ behind (take (suc i) ys) (without_first test (drop (suc i) ys))
first_fails test [] i y h e f = absurd (omega arith)
first_fails test (x ∷ ys) zero y h e f =
    behind_none (without_first test (x ∷ ys))
    ∙ test_fails test x ys (ap test e ∙ f)
    ∙ ap (λ (o : Option (List plain.Signed)). option_map (λ found. x ∷ found) o) (sym (behind_none (without_first test ys)))
    ∙ sym (behind_one x [] (without_first test ys))
first_fails test (x ∷ ys) (suc i) y h e f =
    behind_one x (take i ys) (without_first test (drop i ys))
    ∙ ap (λ (o : Option (List plain.Signed)). option_map (λ found. x ∷ found) o)
    (first_fails test ys i y (omega arith) e f)
    ∙ sym (behind_one x (take (suc i) ys) (without_first test (drop (suc i) ys)))

-- a factor that passes the test is taken out
pub first_passes : (test : plain.Signed → Bool) (ys : List plain.Signed) (i : ℕ) (y : plain.Signed) → i < length ys
    → get_or ys i y ≡ y → test y ≡ true
    → behind (take i ys) (without_first test (drop i ys)) ≡ Some (remove ys i)
first_passes test [] i y h e f = absurd (omega arith)
first_passes test (x ∷ ys) zero y h e f =
    behind_none (without_first test (x ∷ ys)) ∙ test_passes test x ys (ap test e ∙ f)
first_passes test (x ∷ ys) (suc i) y h e f =
    behind_one x (take i ys) (without_first test (drop i ys))
    ∙ ap (λ (o : Option (List plain.Signed)). option_map (λ found. x ∷ found) o)
    (first_passes test ys i y (omega arith) e f)

-- if no factor is left, none is found
pub first_none : (test : plain.Signed → Bool) (ys : List plain.Signed) (i : ℕ) → length ys ≤ i
    → behind (take i ys) (without_first test (drop i ys)) ≡ None
first_none test ys i h =
    ap (λ (zs : List plain.Signed). behind (take i ys) (without_first test zs)) (drop_all i ys h)

-- the bound at a position is the one that the reference there refers to
pub signed_at-get : (rs : List (Bor Signed)) (i : ℕ) (r : Bor Signed) → i < length rs → r ≡ get_or rs i r
    → get_or (signed_at rs) i (signed_of r.now) ≡ signed_of r.now
signed_at-get [] i r h e = absurd (omega arith)
signed_at-get (q ∷ rs) zero r h e = ap (λ (s : Bor Signed). signed_of s.now) (sym e)
signed_at-get (q ∷ rs) (suc i) r h e = signed_at-get rs i r (omega arith) e

-- removing a reference removes the bound that it refers to
pub signed_at-remove : (rs : List (Bor Signed)) (i : ℕ) → signed_at (remove rs i) ≡ remove (signed_at rs) i
signed_at-remove [] zero = refl
signed_at-remove [] (suc i) = refl
signed_at-remove (q ∷ rs) zero = refl
signed_at-remove (q ∷ rs) (suc i) = ap (λ (fs : List plain.Signed). signed_of q.now ∷ fs) (signed_at-remove rs i)

-- there are as many bounds as references
pub signed_at-length : (rs : List (Bor Signed)) → length (signed_at rs) ≡ length rs
signed_at-length rs = length-map rs (λ r. signed_of r.now)
