-- The first of several refusals, taken in parts.
use Rattle.std.proofs.Common.{◌≡◌, ℕ, Bool, true, false, cond, ◌&&◌, ◌||◌, nat_lt, nat_eq, List, [], ◌∷◌, Option, Some}
use Rattle.std.proofs.Common.{None, refl, ap, sym, ◌∙◌, arith}
use Rattle.std.proofs.lemmas.Bool.Decides.{nat_tests}
use Rattle.text_core.specs.Readers.{Fault}
use Rattle.text_core.specs.Reading.{first_of, first_among, is_before}
use Rattle.text_grammar.specs.Texts.{Text, reader}
use Rattle.text_grammar.specs.Following.{first_of_two}

-- a position with a number comes before another one
abbrev before : ℕ → ℕ → ℕ → ℕ → Bool
before a i b j = nat_lt a b || (nat_eq a b && nat_lt i j)

-- `before` is transitive
before_on : (a i b j c k : ℕ) → before a i b j ≡ true → before b j c k ≡ true → before a i c k ≡ true
before_on a i b j c k h g = grind (arith, nat_tests)

-- `not before` is transitive
not_before_on : (a i b j c k : ℕ) → before a i b j ≡ false → before b j c k ≡ false → before a i c k ≡ false
not_before_on a i b j c k h g = grind (arith, nat_tests)

module _ {P T K : Type 0} (x : Text P T K) where
  -- the first of three refusals doesn't depend on their grouping
  first-first : (a b c : Fault K) → first_of (reader x) (Some a) (first_of (reader x) (Some b) c) ≡ first_of (reader x) (Some (first_of (reader x) (Some a) b)) c
  first-first a b c = go (is_before (reader x) c b) (is_before (reader x) b a) refl refl
    where
      go : (u v : Bool) → is_before (reader x) c b ≡ u → is_before (reader x) b a ≡ v → first_of (reader x) (Some a) (cond u c b) ≡ first_of (reader x) (Some (cond v b a)) c
      go true true e f = ap (λ (w : Bool). cond w c a) (before_on c.at (x.number c.kind) b.at (x.number b.kind) a.at (x.number a.kind) e f) ∙ ap (λ (w : Bool). cond w c b) (sym e)
      go true false e f = refl
      go false true e f = ap (λ (w : Bool). cond w b a) f ∙ ap (λ (w : Bool). cond w c b) (sym e)
      go false false e f = ap (λ (w : Bool). cond w b a) f ∙ ap (λ (w : Bool). cond w c a) (sym (not_before_on c.at (x.number c.kind) b.at (x.number b.kind) a.at (x.number a.kind) e f))

  -- the first of a refusal so far and others is the first of it and the first of the others
  pub first_among-two : (best : Option (Fault K)) (xs : List (Fault K)) → first_among (reader x) best xs ≡ first_of_two x best (first_among (reader x) None xs)
  first_among-two None xs = refl
  first_among-two (Some a) [] = refl
  first_among-two (Some a) (y ∷ xs) = first_among-two (Some (first_of (reader x) (Some a) y)) xs ∙ go (first_among (reader x) None xs) ∙ ap (first_of_two x (Some a)) (sym (first_among-two (Some y) xs))
    where
      go : (o : Option (Fault K)) → first_of_two x (Some (first_of (reader x) (Some a) y)) o ≡ first_of_two x (Some a) (first_of_two x (Some y) o)
      go None = refl
      go (Some b) = ap Some (sym (first-first a y b))
