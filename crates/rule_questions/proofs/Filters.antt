-- Filtering numbers, with one more number.
use Rattle.std.proofs.Common.{◌≡◌, ℕ, ◌+◌, Bool, true, false, cond}
use Rattle.std.proofs.Common.{List, [], ◌∷◌, ◌++◌, filter}
use Rattle.std.proofs.Common.{refl, sym, ap, ◌∙◌}
use Rattle.std.specs.List.{range_with_len}
use Rattle.std.proofs.lemmas.List.Elements.{filter-append}
use Rattle.cert_types.proofs.Numbers.{numbers-more}

append-nothing : {A : Type 0} (xs : List A) → xs ++ [] ≡ xs
append-nothing [] = refl
append-nothing {A} (x ∷ xs) = ap (λ (ys : List A). x ∷ ys) (append-nothing xs)

-- the numbers that pass a test so far, and one number more
module _ (test : ℕ → Bool) (a : ℕ) where
  filter-more : (n : ℕ) → filter test (range_with_len a (n + 1))
      ≡ filter test (range_with_len a n) ++ cond (test (a + n)) ((a + n) ∷ []) []
  filter-more n = ap (filter test) (numbers-more a n) ∙ filter-append test (range_with_len a n) ((a + n) ∷ [])

  -- the next number that passes the test is appended to those so far
  pub filter-pushed : (n m : ℕ) → m ≡ a + n → test m ≡ true
      → filter test (range_with_len a (n + 1)) ≡ filter test (range_with_len a n) ++ m ∷ []
  filter-pushed n m e h =
      filter-more n
      ∙ (ap (λ (v : Bool). filter test (range_with_len a n) ++ cond v ((a + n) ∷ []) []) (ap test (sym e) ∙ h)
      ∙ ap (λ (k : ℕ). filter test (range_with_len a n) ++ k ∷ []) (sym e))

  -- if the next number doesn't pass the test, those so far are unchanged
  pub filter-passed : (n m : ℕ) → m ≡ a + n → test m ≡ false
      → filter test (range_with_len a (n + 1)) ≡ filter test (range_with_len a n)
  filter-passed n m e h =
      filter-more n
      ∙ (ap (λ (v : Bool). filter test (range_with_len a n) ++ cond v ((a + n) ∷ []) []) (ap test (sym e) ∙ h)
      ∙ append-nothing (filter test (range_with_len a n)))
