-- The worked values of counts, and of a put that failed, hold.
use Rattle.std.proofs.Common.{◌≡◌, ℕ, zero, suc, ◌+◌, ◌-◌, ◌^◌, ◌≤◌, List, [], ◌∷◌, length, take, get_or, refl, ap}
use Rattle.std.proofs.Common.{arith, inl, inr}
use Rattle.outside_io.specs.Counts.{Rose}
use Rattle.outside_io.specs.WorkedPuts.{CountsRise, AreLeft, PrefixesAreLeft}

-- a count that is neither greater than before nor at its maximum hasn't risen
not_risen : (before now : ℕ) → now ≤ before → (now ≡ 2 ^ 64 - 1 → ⊥) → ¬ (Rose before now)
not_risen before now small elsewhere (inl greater) = omega (arith, small, greater)
not_risen before now small elsewhere (inr at_the_end) = elsewhere at_the_end

-- the counts rise as was worked out
pub counts : CountsRise
counts = record {
  one_more = refl;
  to_the_end = refl;
  at_the_end = refl;
  rose = inl (omega arith);
  rose_more = inl (omega arith);
  rose_at_the_end = inr refl;
  stayed = not_risen 3 3 (omega arith) (omega arith);
  fell = not_risen 3 2 (omega arith) (omega arith);
  stayed_below_the_end = not_risen (2 ^ 64 - 2) (2 ^ 64 - 2) (omega arith) (omega arith);
  rose_past_the_end = inl (omega arith);
  stayed_past_the_end = not_risen (2 ^ 64 + 5) (2 ^ 64 + 5) (omega arith) (omega arith);
  fell_past_the_end = not_risen (2 ^ 64 + 5) (2 ^ 64) (omega arith) (omega arith);
  fell_to_the_end = inr refl;
}

-- the written bytes are the byte 1 alone, or with the byte 2, or with both
left : (bytes : List ℕ) → AreLeft bytes → (get_or bytes 0 9 ≡ 1) × (get_or bytes 2 3 ≡ 3) × (length bytes ≤ 3)
left bytes h = go h.count h.within h.appends
  where
    go : (k : ℕ) → k ≤ 2 → bytes ≡ 1 ∷ take k (2 ∷ 3 ∷ [])
        → (get_or bytes 0 9 ≡ 1) × (get_or bytes 2 3 ≡ 3) × (length bytes ≤ 3)
    go zero within e = (ap (λ (bs : List ℕ). get_or bs 0 9) e, ap (λ (bs : List ℕ). get_or bs 2 3) e, omega (arith, ap length e))
    go (suc zero) within e = (ap (λ (bs : List ℕ). get_or bs 0 9) e, ap (λ (bs : List ℕ). get_or bs 2 3) e, omega (arith, ap length e))
    go (suc (suc zero)) within e = (ap (λ (bs : List ℕ). get_or bs 0 9) e, ap (λ (bs : List ℕ). get_or bs 2 3) e, omega (arith, ap length e))
    go (suc (suc (suc k))) within e = absurd (omega (arith, within))

-- the second written byte, if there is one, is the byte 2
second : (bytes : List ℕ) → AreLeft bytes → get_or bytes 1 2 ≡ 2
second bytes h = go h.count h.within h.appends
  where
    go : (k : ℕ) → k ≤ 2 → bytes ≡ 1 ∷ take k (2 ∷ 3 ∷ []) → get_or bytes 1 2 ≡ 2
    go zero within e = ap (λ (bs : List ℕ). get_or bs 1 2) e
    go (suc zero) within e = ap (λ (bs : List ℕ). get_or bs 1 2) e
    go (suc (suc zero)) within e = ap (λ (bs : List ℕ). get_or bs 1 2) e
    go (suc (suc (suc k))) within e = absurd (omega (arith, within))

-- the worked values of written bytes hold
pub prefixes : PrefixesAreLeft
prefixes = record {
  none = record { count = 0; within = omega arith; appends = refl };
  first = record { count = 1; within = omega arith; appends = refl };
  all = record { count = 2; within = omega arith; appends = refl };
  last_alone = λ h. omega (arith, second (1 ∷ 3 ∷ []) h);
  reversed = λ h. omega (arith, second (1 ∷ 3 ∷ 2 ∷ []) h);
  other_bytes = λ h. omega (arith, (left (1 ∷ 2 ∷ 4 ∷ []) h).1);
  more = λ h. omega (arith, (left (1 ∷ 2 ∷ 3 ∷ 2 ∷ []) h).2);
  twice = λ h. omega (arith, (left (1 ∷ 2 ∷ 3 ∷ 2 ∷ 3 ∷ []) h).2);
  before = λ h. omega (arith, (left (2 ∷ 1 ∷ []) h).0);
  overwritten = λ h. omega (arith, (left (2 ∷ 3 ∷ []) h).0);
  lost = λ h. omega (arith, (left [] h).0);
  no_longer_disclosed = λ h. absurd h.appends;
}
