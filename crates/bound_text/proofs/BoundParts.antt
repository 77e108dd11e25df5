-- A bound as the terms of a sum and the factors of the last one.
use Rattle.std.proofs.Common.{◌≡◌, true, refl, ap, sym, ◌∙◌, arith}
use Rattle.text_core.specs.model.Bounds.{Bound, Constant, Input, SumOf, ProductOf, MaximumOf, PowerOf, Parts, NoParts}
use Rattle.text_core.specs.model.Bounds.{Part}
use Rattle.bound_expr.specs.Tidy.{IsNoSum, EachPart}
use Rattle.bound_text.specs.Shapes.{with_part, IsShaped, AreShaped}
use Rattle.bound_text.specs.ParserStates.{as_one, term_of, bound_of_parts, can_end}

-- the factors of a term
abbrev pub factors_of : Bound → Parts
factors_of (ProductOf fs) = fs
factors_of (Constant c) = Part (Constant c) NoParts
factors_of (Input i) = Part (Input i) NoParts
factors_of (SumOf bs) = Part (SumOf bs) NoParts
factors_of (MaximumOf bs) = Part (MaximumOf bs) NoParts
factors_of (PowerOf c e) = Part (PowerOf c e) NoParts

-- terms, and after them all but the last of some parts
abbrev pub terms_from : Parts → Parts → Parts
terms_from ts NoParts = ts
terms_from ts (Part b NoParts) = ts
terms_from ts (Part b (Part c cs)) = terms_from (with_part ts b) (Part c cs)

-- the factors of the last term
abbrev pub last_factors : Parts → Parts
last_factors NoParts = NoParts
last_factors (Part b NoParts) = factors_of b
last_factors (Part b (Part c cs)) = last_factors (Part c cs)

-- the terms of a bound but the last
abbrev pub terms_in : Bound → Parts
terms_in (SumOf bs) = terms_from NoParts bs
terms_in (Constant c) = NoParts
terms_in (Input i) = NoParts
terms_in (ProductOf bs) = NoParts
terms_in (MaximumOf bs) = NoParts
terms_in (PowerOf c e) = NoParts

-- the factors of a bound's last term
abbrev pub factors_in : Bound → Parts
factors_in (SumOf bs) = last_factors bs
factors_in (ProductOf fs) = fs
factors_in (Constant c) = Part (Constant c) NoParts
factors_in (Input i) = Part (Input i) NoParts
factors_in (MaximumOf bs) = Part (MaximumOf bs) NoParts
factors_in (PowerOf c e) = Part (PowerOf c e) NoParts

-- a term that is no sum is what its factors make
pub term-factors : (b : Bound) → IsShaped b → IsNoSum b → (term_of (factors_of b) ≡ b) × (can_end (factors_of b) ≡ true)
term-factors (Constant c) shaped none = (refl, refl)
term-factors (Input i) shaped none = (refl, refl)
term-factors (SumOf bs) shaped none = absurd none
term-factors (ProductOf NoParts) shaped none = absurd (omega (arith, shaped.0))
term-factors (ProductOf (Part b NoParts)) shaped none = absurd (omega (arith, shaped.0))
term-factors (ProductOf (Part b (Part c bs))) shaped none = (refl, refl)
term-factors (MaximumOf bs) shaped none = (refl, refl)
term-factors (PowerOf c e) shaped none = (refl, refl)

-- parts appended to others
abbrev pub appended : Parts → Parts → Parts
appended ts NoParts = ts
appended ts (Part b bs) = appended (with_part ts b) bs

-- parts appended to others, by recursion on the second
abbrev plus_parts : Parts → Parts → Parts
plus_parts NoParts bs = bs
plus_parts (Part a args) bs = Part a (plus_parts args bs)

-- moving the first of the second parts to the end of the first parts doesn't change what is appended
plus_parts-with_part : (ts : Parts) (b : Bound) (bs : Parts) → plus_parts (with_part ts b) bs ≡ plus_parts ts (Part b bs)
plus_parts-with_part NoParts b bs = refl
plus_parts-with_part (Part a args) b bs = ap (Part a) (plus_parts-with_part args b bs)

-- appending no parts changes nothing
plus_parts-none : (ts : Parts) → plus_parts ts NoParts ≡ ts
plus_parts-none NoParts = refl
plus_parts-none (Part a args) = ap (Part a) (plus_parts-none args)

-- both definitions of appending are equal
appended-plus : (ts bs : Parts) → appended ts bs ≡ plus_parts ts bs
appended-plus ts NoParts = sym (plus_parts-none ts)
appended-plus ts (Part b bs) = appended-plus (with_part ts b) bs ∙ plus_parts-with_part ts b bs

-- parts appended to none are themselves
pub appended-none : (bs : Parts) → appended NoParts bs ≡ bs
appended-none bs = appended-plus NoParts bs

-- the terms before the last term, with that one at the end, are the parts of the sum
terms-last : (ts : Parts) (b : Bound) (bs : Parts) → EachPart IsNoSum (Part b bs) → AreShaped (Part b bs)
    → (with_part (terms_from ts (Part b bs)) (term_of (last_factors (Part b bs))) ≡ appended ts (Part b bs)) × (can_end (last_factors (Part b bs)) ≡ true)
terms-last ts b NoParts none shaped =
    let t = term-factors b shaped.0 none.0 in
    (ap (with_part ts) t.0, t.1)
terms-last ts b (Part c cs) none shaped = terms-last (with_part ts b) c cs none.1 shaped.1

-- the terms and factors of a bound that a text spells make that bound
pub bound-parts : (b : Bound) → IsShaped b → (bound_of_parts (terms_in b) (factors_in b) ≡ b) × ((can_end (factors_in b) ≡ true))
bound-parts (Constant c) shaped = (refl, refl)
bound-parts (Input i) shaped = (refl, refl)
bound-parts (SumOf NoParts) shaped = absurd (omega (arith, shaped.0))
bound-parts (SumOf (Part b NoParts)) shaped = absurd (omega (arith, shaped.0))
bound-parts (SumOf (Part b (Part c cs))) shaped =
    let t = terms-last NoParts b (Part c cs) shaped.1 shaped.2 in
    let e : with_part (terms_from NoParts (Part b (Part c cs))) (term_of (last_factors (Part b (Part c cs)))) ≡ Part b (Part c cs) = t.0 ∙ appended-none (Part b (Part c cs)) in
    (ap (as_one SumOf) e, t.1)
bound-parts (ProductOf NoParts) shaped = absurd (omega (arith, shaped.0))
bound-parts (ProductOf (Part b NoParts)) shaped = absurd (omega (arith, shaped.0))
bound-parts (ProductOf (Part b (Part c bs))) shaped = (refl, refl)
bound-parts (MaximumOf bs) shaped = (refl, refl)
bound-parts (PowerOf c e) shaped = (refl, refl)
