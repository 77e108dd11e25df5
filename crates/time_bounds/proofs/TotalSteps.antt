-- What a run costs is at most the sum of what each rule spends.
use Rattle.std.proofs.Common.{◌≡◌, ℕ, suc, ◌+◌, ◌<◌, ◌≤◌, List, [], ◌∷◌, length, Option, Some, None, refl, sym, ◌∙◌, ap}
use Rattle.std.proofs.Common.{subst, arith}
use Rattle.std.specs.List.{range_with_len, sum_by}
use Rattle.std.proofs.lemmas.List.Sums.{sum_by-cons}
use Rattle.std.specs.Prelude.{slice_index_or}
use Rattle.model.specs.Programs.{Program}
use Rattle.model.specs.Bounds.{Bound, SumOf, Parts, NoParts, Part, val, val_sum, IsBased, AreBased}
use Rattle.model.specs.Facts.{HoldsTotal}
use Rattle.model.specs.Runs.{sizes_of_start}
use Rattle.model.specs.Spending.{spent}
use Rattle.model.proofs.SpendingSums.{spending_is_by_rules}
use Rattle.bound_table.specs.InForce.{rewritten}
use Rattle.bound_table.proofs.TableInForce.{rewritten-value}
use Rattle.time_bounds.specs.Totals.{before, known_parts, total_of}
use Rattle.time_bounds.specs.Laws.{SpendingsHold, TotalsHold}

-- a sum over as many numbers as a list has elements, from k on
sum_along : (ℕ → ℕ) → ℕ → List (Option Bound) → ℕ
sum_along f k [] = 0
sum_along f k (o ∷ os) = f k + sum_along f (suc k) os

-- this is the sum over these numbers
along : (f : ℕ → ℕ) (k : ℕ) (os : List (Option Bound)) → sum_along f k os ≡ sum_by f (range_with_len k (length os))
unfolding sum_along
along f k [] = refl
along f k (o ∷ os) =
    ap (λ (n : ℕ). f k + n)
    (along f (suc k) os ∙ ap (λ (n : ℕ). sum_by f (range_with_len n (length os))) (let e : suc k ≡ k + 1 = omega arith in e))
    ∙ sym (sum_by-cons f k (range_with_len (k + 1) (length os)))

-- known parts have a first one and others
pub first_known : (o : Option Bound) (rest : Option Parts) (ps : Parts) → before o rest ≡ Some ps
    → (b : Bound) × (qs : Parts) × (o ≡ Some b) × (rest ≡ Some qs) × (ps ≡ Part b qs)
first_known None rest ps e = cc
first_known (Some b) None ps e = cc
first_known (Some b) (Some qs) ps e =
    let same : ps ≡ Part b qs = cc in
    (b, qs, refl, refl, same)

-- numbers that are at most the values of parts add up to at most the value of the sum
sum_within : (m : List ℕ) (os : List (Option Bound)) (ps : Parts) → known_parts os ≡ Some ps → (f : ℕ → ℕ) (k : ℕ)
    → ((i : ℕ) (b : Bound) → i < length os → slice_index_or os i None ≡ Some b → f (k + i) ≤ val b m) → sum_along f k os ≤ val_sum ps m
unfolding sum_along
sum_within m [] ps e f k h = omega arith
sum_within m (o ∷ os) ps e f k h =
    let first = first_known o (known_parts os) ps e in
    let here = h 0 first.0 (omega arith) first.2 in
    let at : k + 0 ≡ k = omega arith in
    let rest = sum_within m os first.1 first.3 f (suc k) (λ i b low g.
    subst (λ (n : ℕ). f n ≤ val b m) (shift k i) (h (suc i) b (omega arith) g)) in
    let whole : val_sum ps m ≡ val first.0 m + val_sum first.1 m = ap (λ (qs : Parts). val_sum qs m) first.4 in
    omega (arith, here, ap f at, rest, whole)
  where
    shift : (k i : ℕ) → k + suc i ≡ suc k + i
    shift k i = omega arith

-- known parts have bases of at least 1
parts_based : (os : List (Option Bound)) (ps : Parts) → known_parts os ≡ Some ps
    → ((i : ℕ) (b : Bound) → i < length os → slice_index_or os i None ≡ Some b → IsBased b) → AreBased ps
parts_based [] ps e h =
    let none : NoParts ≡ ps = cc in
    subst AreBased none tt
parts_based (o ∷ os) ps e h =
    let first = first_known o (known_parts os) ps e in
    subst AreBased (sym first.4)
    (h 0 first.0 (omega arith) first.2, parts_based os first.1 first.3 (λ i b low g. h (suc i) b (omega arith) g))

-- a total is the rewriting of a sum
pub total_is : (os : List (Option Bound)) (b : Bound) → total_of os ≡ Some b
    → (ps : Parts) × (known_parts os ≡ Some ps) × (b ≡ rewritten (SumOf ps))
total_is os b e = go (known_parts os) refl
  where
    go : (o : Option Parts) → known_parts os ≡ o → (ps : Parts) × (known_parts os ≡ Some ps) × (b ≡ rewritten (SumOf ps))
    go None f = let none : None ≡ Some b = rw f at e in cc
    go (Some ps) f =
        let some : Some (rewritten (SumOf ps)) ≡ Some b = rw f at e in
        let same : b ≡ rewritten (SumOf ps) = cc in
        (ps, f, same)

-- if these bounds hold of all rules, every run costs at most what their total says
pub totals_hold : TotalsHold
totals_hold = record { each = λ p bounds b h e. holds p bounds b h (total_is bounds b e) }
  where
    holds : (p : Program) (bounds : List (Option Bound)) (b : Bound) → SpendingsHold p bounds
        → (ps : Parts) × (known_parts bounds ≡ Some ps) × (b ≡ rewritten (SumOf ps)) → HoldsTotal p b
    holds p bounds b h (ps, known, is) = record {
      each = λ start steps c run.
          let m = sizes_of_start start in
          let within = sum_within m bounds ps known (λ t. spent p t start steps) 1 (λ i x low g.
          subst (λ (t : ℕ). spent p t start steps ≤ val x m) (number i) ((h.holds i x low g).each start steps c run)) in
          let value : val b m ≡ val (SumOf ps) m =
          ap (λ (x : Bound). val x m) is ∙ (rewritten-value (SumOf ps) (tt, parts_based bounds ps known h.based)).each m in
          let numbers = along (λ t. spent p t start steps) 1 bounds in
          let long = ap (λ (n : ℕ). sum_by (λ t. spent p t start steps) (range_with_len 1 n)) h.one_each in
          omega (arith, within, value, numbers, long, spending_is_by_rules.each p start steps);
    }
      where
        number : (i : ℕ) → suc i ≡ 1 + i
        number i = omega arith
