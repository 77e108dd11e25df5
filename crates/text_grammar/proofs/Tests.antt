-- What follows from tests that are true.
use Rattle.std.proofs.Common.{◌≡◌, ℕ, zero, suc, ◌<◌, Bool, true, false, not, ◌&&◌, ◌||◌, List, [], ◌∷◌, refl, ap, ◌∙◌}
use Rattle.std.proofs.Common.{inl, inr, arith}
use Rattle.std.specs.Prelude.{◌⊎◌, slice_index_or}
use Rattle.std.specs.List.{list_all, list_any}
use Rattle.std.proofs.lemmas.Bool.{eqb-true}
use Rattle.text_core.specs.Faults.{Among}
use Rattle.text_grammar.specs.declared.symbol.Symbol.{Symbol}
use Rattle.text_grammar.specs.declared.symbol.Symbol.TheVariants.{Piece, Made, Mark}
use Rattle.text_grammar.specs.Leads.{Lead, Matches, Passes, Stuck}
use Rattle.text_grammar.specs.Sounding.{each, each_below, is_same_symbol, is_same_number, are_same, is_same_lead}

-- if a conjunction of two tests is true, both are
pub both : (a b : Bool) → a && b ≡ true → (a ≡ true) × (b ≡ true)
both true b h = (refl, h)
both false b h = cc

-- if a disjunction of two tests is true, one of them is
pub either : (a b : Bool) → a || b ≡ true → (a ≡ true) ⊎ (b ≡ true)
either true b h = inl refl
either false b h = inr h

-- if a test implies another one and is true, the other is true
pub implied : (a b : Bool) → not a || b ≡ true → a ≡ true → b ≡ true
implied true b h e = h
implied false b h e = cc

-- a test that holds of each element and of the default holds at each index
pub each_at : {X : Type 0} (test : ℕ → X → Bool) (xs : List X) (d : X) → each test xs ≡ true → ((n : ℕ) → test n d ≡ true) → (n : ℕ) → test n (slice_index_or xs n d) ≡ true
each_at test [] d h none n = none n
each_at test (x ∷ xs) d h none zero = (both (test 0 x) _ h).0
each_at test (x ∷ xs) d h none (suc n) = each_at (λ k. test (suc k)) xs d (both (test 0 x) _ h).1 (λ k. none (suc k)) n

-- a test that holds below a limit holds of each number below it
pub each_below_at : (limit : ℕ) (test : ℕ → Bool) → each_below limit test ≡ true → (n : ℕ) → n < limit → test n ≡ true
each_below_at zero test h n l = absurd (omega (arith, l))
each_below_at (suc k) test h n l = go (both (test k) _ h) (below k n l) (λ b m. each_below_at k test b n m)
  where
    below : (k n : ℕ) → n < suc k → (n ≡ k) ⊎ (n < k)
    below k n l = grind arith

    go : (test k ≡ true) × (each_below k test ≡ true) → (n ≡ k) ⊎ (n < k) → (each_below k test ≡ true → n < k → test n ≡ true) → test n ≡ true
    go h (inl e) ih = ap test e ∙ h.0
    go h (inr m) ih = ih h.1 m

-- a test that holds of all elements holds of each
pub all_among : {X : Type 0} (test : X → Bool) (xs : List X) (x : X) → list_all test xs ≡ true → Among x xs → test x ≡ true
all_among test [] x h a = absurd a
all_among test (y ∷ xs) x h (inl e) = ap test e ∙ (both (test y) _ h).0
all_among test (y ∷ xs) x h (inr a) = all_among test xs x (both (test y) _ h).1 a

-- a test that holds of all elements and of the default holds at each index
pub all_at : {X : Type 0} (test : X → Bool) (xs : List X) (d : X) → list_all test xs ≡ true → test d ≡ true → (n : ℕ) → test (slice_index_or xs n d) ≡ true
all_at test [] d h none n = none
all_at test (x ∷ xs) d h none zero = (both (test x) _ h).0
all_at test (x ∷ xs) d h none (suc n) = all_at test xs d (both (test x) _ h).1 none n

-- if some element passes a test, it is an element of the list
pub any_among : {X : Type 0} (test : X → Bool) (xs : List X) → list_any test xs ≡ true → (x : X) × Among x xs × (test x ≡ true)
any_among test [] h = cc
any_among test (y ∷ xs) h = go (either (test y) _ h) (λ k. any_among test xs k)
  where
    go : (test y ≡ true) ⊎ (list_any test xs ≡ true) → (list_any test xs ≡ true → (x : _) × Among x xs × (test x ≡ true)) → (x : _) × Among x (y ∷ xs) × (test x ≡ true)
    go (inl e) ih = (y, inl refl, e)
    go (inr k) ih = let w = ih k in (w.0, inr w.1, w.2)

-- numbers that the test calls the same are equal
pub same_number : (m n : ℕ) → is_same_number m n ≡ true → m ≡ n
same_number m n h = eqb-true m n h

-- symbols that the test calls the same are equal
pub same_symbol : (s t : Symbol) → is_same_symbol s t ≡ true → s ≡ t
same_symbol (Piece c) (Piece d) h = ap Piece (eqb-true c d h)
same_symbol (Made c) (Made d) h = ap Made (eqb-true c d h)
same_symbol (Mark c) (Mark d) h = ap Mark (eqb-true c d h)
same_symbol (Piece c) (Made d) h = cc
same_symbol (Piece c) (Mark d) h = cc
same_symbol (Made c) (Piece d) h = cc
same_symbol (Made c) (Mark d) h = cc
same_symbol (Mark c) (Piece d) h = cc
same_symbol (Mark c) (Made d) h = cc

-- lists whose elements are pairwise the same are equal
pub same_lists : {X : Type 0} (same : X → X → Bool) → ((x y : X) → same x y ≡ true → x ≡ y) → (xs ys : List X) → are_same same xs ys ≡ true → xs ≡ ys
same_lists same one [] [] h = refl
same_lists same one [] (y ∷ ys) h = cc
same_lists same one (x ∷ xs) [] h = cc
same_lists same one (x ∷ xs) (y ∷ ys) h =
    let b = both (same x y) _ h in let e = one x y b.0 in let f = same_lists same one xs ys b.1 in cc

-- leads that the test calls the same are equal
pub same_lead : (l k : Lead) → is_same_lead l k ≡ true → l ≡ k
same_lead (Matches ms xs) (Matches ns ys) h =
    let b = both (are_same is_same_number ms ns) _ h in
    let e = same_lists is_same_number same_number ms ns b.0 in let f = same_lists is_same_symbol same_symbol xs ys b.1 in cc
same_lead (Matches ms xs) (Passes ns) h = cc
same_lead (Matches ms xs) Stuck h = cc
same_lead (Passes ms) (Passes ns) h = ap Passes (same_lists is_same_number same_number ms ns h)
same_lead (Passes ms) (Matches ns ys) h = cc
same_lead (Passes ms) Stuck h = cc
same_lead Stuck Stuck h = refl
same_lead Stuck (Matches ns ys) h = cc
same_lead Stuck (Passes ns) h = cc
