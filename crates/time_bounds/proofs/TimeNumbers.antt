-- Entries of times carry the numbers of their lemmas, and gaps are numbered in order, one more at a time.
use Rattle.std.proofs.Common.{◌≡◌, ℕ, suc, ◌+◌, List, [], ◌∷◌, ◌++◌, length, refl, sym, subst, arith}
use Rattle.outcome.specs.declared.entry.TimeEntry.{TimeEntry}
use Rattle.outcome.specs.declared.entry.TimeEntry.TheVariants as times
use Rattle.bound_fixpoint.specs.Keys.{Bounds}
use Rattle.time_bounds.specs.TimesSaid.{IsKnownTime}
use Rattle.time_bounds.specs.AnalysisLemmas.{CarriesTime, AreGapsInOrder}
use Rattle.time_bounds.specs.Numbered.{EachNumbered}
use Rattle.time_bounds.proofs.NumberedLists.{each_pushed}

-- one more time that carries the number of its lemma is appended to those that do
pub times_carried : (ns : ℕ → ℕ → ℕ) (xs new : List TimeEntry) (x : TimeEntry) (t : ℕ) → EachNumbered (CarriesTime ns) 1 xs → new ≡ xs ++ x ∷ [] → t ≡ length xs + 1
    → CarriesTime ns t x → EachNumbered (CarriesTime ns) 1 new
times_carried ns xs new x t h e at k =
    subst (λ (ys : List TimeEntry). EachNumbered (CarriesTime ns) 1 ys) (sym e)
    (each_pushed (CarriesTime ns) 1 xs x h (subst (λ (n : ℕ). CarriesTime ns n x) (let z : t ≡ 1 + length xs = omega (arith, at) in z) k))

-- one entry more keeps the order of gaps
order_more : (n : ℕ) (xs : List TimeEntry) (m : ℕ) (x : TimeEntry) (k : ℕ) → AreGapsInOrder n xs m → AreGapsInOrder m (x ∷ []) k
    → AreGapsInOrder n (xs ++ x ∷ []) k
order_more n [] m x k h g = subst (λ (j : ℕ). AreGapsInOrder j (x ∷ []) k) (sym h) g
order_more n (times.Known s ∷ xs) m x k h g = order_more n xs m x k h g
order_more n (times.Gap i ∷ xs) m x k h g = (h.0, order_more (suc n) xs m x k h.1 g)
order_more n (times.OutOfLimits t ∷ xs) m x k h g = order_more n xs m x k h g
order_more n (times.Large l ∷ xs) m x k h g = order_more n xs m x k h g

-- one entry more leaves the gaps numbered in the order of rules
pub gaps_ordered : (xs new : List TimeEntry) (x : TimeEntry) (m k : ℕ) → AreGapsInOrder 0 xs m → new ≡ xs ++ x ∷ [] → AreGapsInOrder m (x ∷ []) k
    → AreGapsInOrder 0 new k
gaps_ordered xs new x m k h e g = subst (λ (ys : List TimeEntry). AreGapsInOrder 0 ys k) (sym e) (order_more 0 xs m x k h g)

-- an entry with a known time leaves the numbers of gaps unchanged
pub known_ordered : (b : Bounds) (t n : ℕ) (x : TimeEntry) → IsKnownTime b t x → AreGapsInOrder n (x ∷ []) n
known_ordered b t n (times.Known s) h = refl
known_ordered b t n (times.Gap g) h = absurd h
known_ordered b t n (times.OutOfLimits r) h = absurd h
known_ordered b t n (times.Large l) h = absurd h
