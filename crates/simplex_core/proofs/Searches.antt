-- What the searches over numbers below a limit find.
use Rattle.std.proofs.Common.{◌≡◌, ℕ, zero, suc, ◌<◌, ap, arith, refl, sym, ◌∙◌, ◌⊎◌, inl, inr, Bool, true, false}
use Rattle.std.proofs.Common.{Option, Some, None}
use Rattle.std.specs.Prelude.{◌&&◌, ◌||◌, if◌then◌else◌}
pub use Rattle.int_laws.proofs.SumLaws.{last_or_before}
use Rattle.simplex_core.specs.Search.{every, some, or_else, least}
pub use Rattle.std.proofs.lemmas.Bool.{and_parts as and-both, and_right as and_no, and_left as no_and}
pub use Rattle.std.proofs.lemmas.Bool.{and_from as both-and}

-- if a conjunction fails and its first part holds, the second part fails
pub second_fails : (a b : Bool) → (a && b) ≡ false → a ≡ true → b ≡ false
second_fails true b h k = h
second_fails false b h k = cc

-- if all numbers below n pass, each does
pub every-each : (n : ℕ) (f : ℕ → Bool) → every n f ≡ true → (j : ℕ) → j < n → f j ≡ true
every-each zero f h j l = absurd (omega arith)
every-each (suc n) f h j l = go (and-both _ _ h) (λ e. every-each n f e j) (last_or_before n j l)
  where
    go : (every n f ≡ true) × (f n ≡ true) → (every n f ≡ true → j < n → f j ≡ true) → (j ≡ n) ⊎ (j < n) → f j ≡ true
    go parts ih (inl e) = ap f e ∙ parts.1
    go parts ih (inr m) = ih parts.0 m

-- if each number below n passes, all do
pub each-every : (n : ℕ) (f : ℕ → Bool) → ((j : ℕ) → j < n → f j ≡ true) → every n f ≡ true
each-every zero f h = refl
each-every (suc n) f h = both-and _ _ (each-every n f (λ j l. h j (omega arith))) (h n (omega arith))

-- if some number below n passes, there is one
pub some-one : (n : ℕ) (f : ℕ → Bool) → some n f ≡ true → (j : ℕ) × (j < n) × (f j ≡ true)
some-one zero f h = cc
some-one (suc n) f h = go (some n f) (f n) refl refl h (some-one n f)
  where
    go : (a b : Bool) → some n f ≡ a → f n ≡ b → (a || b) ≡ true → (some n f ≡ true → (j : ℕ) × (j < n) × (f j ≡ true))
        → (j : ℕ) × (j < suc n) × (f j ≡ true)
    go true b ea eb e ih = let found = ih ea in (found.0, omega (arith, found.1), found.2)
    go false true ea eb e ih = (n, omega arith, eb)
    go false false ea eb e ih = cc

-- if not some number below n passes, none does
pub some-none : (n : ℕ) (f : ℕ → Bool) → some n f ≡ false → (j : ℕ) → j < n → f j ≡ false
some-none zero f h j l = absurd (omega arith)
some-none (suc n) f h j l = go (some n f) (f n) refl refl h (λ e. some-none n f e j) (last_or_before n j l)
  where
    go : (a b : Bool) → some n f ≡ a → f n ≡ b → (a || b) ≡ false → (some n f ≡ false → j < n → f j ≡ false) → (j ≡ n) ⊎ (j < n) → f j ≡ false
    go true b ea eb e ih w = cc
    go false true ea eb e ih w = cc
    go false false ea eb e ih (inl w) = ap f w ∙ eb
    go false false ea eb e ih (inr w) = ih ea w

-- the least number that passes is below n, and passes
pub least-found : (n : ℕ) (f : ℕ → Bool) (j : ℕ) → least n f ≡ Some j → (j < n) × (f j ≡ true)
least-found zero f j h = cc
least-found (suc n) f j h = go (least n f) (f n) refl refl h (λ i. least-found n f i)
  where
    go : (o : Option ℕ) (b : Bool) → least n f ≡ o → f n ≡ b → or_else o (if b then Some n else None) ≡ Some j
        → ((i : ℕ) → least n f ≡ Some i → (i < n) × (f i ≡ true)) → (j < suc n) × (f j ≡ true)
    go (Some i) b eo eb e ih =
        let at_j : i ≡ j = cc in
        let found = ih i eo in
        (omega (arith, found.0), ap f (sym at_j) ∙ found.1)
    go None true eo eb e ih = let at_j : n ≡ j = cc in (omega arith, ap f (sym at_j) ∙ eb)
    go None false eo eb e ih = cc

-- if there is no least number that passes, none below n passes
pub least-none : (n : ℕ) (f : ℕ → Bool) → least n f ≡ None → (j : ℕ) → j < n → f j ≡ false
least-none zero f h j l = absurd (omega arith)
least-none (suc n) f h j l = go (least n f) (f n) refl refl h (λ e. least-none n f e j) (last_or_before n j l)
  where
    go : (o : Option ℕ) (b : Bool) → least n f ≡ o → f n ≡ b → or_else o (if b then Some n else None) ≡ None
        → (least n f ≡ None → j < n → f j ≡ false) → (j ≡ n) ⊎ (j < n) → f j ≡ false
    go (Some i) b eo eb e ih w = cc
    go None true eo eb e ih w = cc
    go None false eo eb e ih (inl w) = ap f w ∙ eb
    go None false eo eb e ih (inr w) = ih eo w

-- no number before the least one that passes does
pub least-before : (n : ℕ) (f : ℕ → Bool) (j : ℕ) → least n f ≡ Some j → (i : ℕ) → i < j → f i ≡ false
least-before zero f j h i l = cc
least-before (suc n) f j h i l = go (least n f) (f n) refl refl h (λ k e. least-before n f k e i) (λ e. least-none n f e i)
  where
    go : (o : Option ℕ) (b : Bool) → least n f ≡ o → f n ≡ b → or_else o (if b then Some n else None) ≡ Some j
        → ((k : ℕ) → least n f ≡ Some k → i < k → f i ≡ false) → (least n f ≡ None → i < n → f i ≡ false) → f i ≡ false
    go (Some k) b eo eb e ih none = let at_j : k ≡ j = cc in ih k eo (omega arith)
    go None true eo eb e ih none = let at_j : n ≡ j = cc in none eo (omega arith)
    go None false eo eb e ih none = cc

-- if one number below n fails, not all pass
pub fails-every : (n j : ℕ) (f : ℕ → Bool) → j < n → f j ≡ false → every n f ≡ false
fails-every zero j f l h = absurd (omega arith)
fails-every (suc n) j f l h = go (last_or_before n j l) (λ m. fails-every n j f m h)
  where
    go : (j ≡ n) ⊎ (j < n) → (j < n → every n f ≡ false) → every (suc n) f ≡ false
    go (inl e) ih = and_no (every n f) (f n) (ap f (sym e) ∙ h)
    go (inr m) ih = no_and (every n f) (f n) (ih m)

-- if neither n nor some number below it passes, none below n + 1 does
pub some-more : (n : ℕ) (f : ℕ → Bool) → some n f ≡ false → f n ≡ false → some (suc n) f ≡ false
some-more n f before here = ap (λ (b : Bool). b || f n) before ∙ here

-- if a number below n passes, some number does
pub some-here : (n j : ℕ) (f : ℕ → Bool) → j < n → f j ≡ true → some n f ≡ true
some-here zero j f l h = absurd (omega arith)
some-here (suc n) j f l h = go (last_or_before n j l) (λ m. some-here n j f m h)
  where
    right : (a b : Bool) → b ≡ true → (a || b) ≡ true
    right true b e = refl
    right false b e = e

    left : (a b : Bool) → a ≡ true → (a || b) ≡ true
    left true b e = refl
    left false b e = cc

    go : (j ≡ n) ⊎ (j < n) → (j < n → some n f ≡ true) → some (suc n) f ≡ true
    go (inl e) ih = right (some n f) (f n) (ap f (sym e) ∙ h)
    go (inr m) ih = left (some n f) (f n) (ih m)
