-- Facts that hold and whose bounds have bases of at least 1, and looking up bounds among them.
use Rattle.std.proofs.Common.{◌≡◌, ℕ, ◌==◌, ◌&&◌, Bool, true, false, List, [], ◌∷◌, Option, Some, None, refl, subst}
use Rattle.std.proofs.Common.{All}
use Rattle.std.proofs.lemmas.Bool.{and_parts}
use Rattle.std.proofs.lemmas.List.Elements.{All-head, All-tail}
use Rattle.run_counting.specs.model.Programs.{Program}
use Rattle.run_counting.specs.model.Bounds.{Bound, IsBased}
use Rattle.run_counting.specs.model.Facts.{Fact, Time, Size, Cost, HoldsTime, HoldsSize, Holds}
use Rattle.cert_rules.specs.Known.{IsKnown, known, time_in, size_in, Table, table_of}
use Rattle.cert_rules.specs.Laws.{HasBasedBound}
use Rattle.run_counting.proofs.model.Membership.{same_number-sound}

-- a fact that holds on all runs, and whose bound has bases of at least 1
pub record IsGood (p : Program) (f : Fact) : Type 0 where
  pub holds : Holds p f
  pub based : HasBasedBound f

-- a time that is looked up in good facts is a good fact
pub time-good : (p : Program) (facts : List Fact) → All (IsGood p) facts → (t : ℕ) (b : Bound)
    → time_in facts t ≡ Some b → IsGood p (Time t b)
time-good p [] good t b h = absurd (none_some h)
  where
    none_some : None ≡ Some b → ⊥
    none_some e = cc
time-good p (Size u i c ∷ facts) good t b h = time-good p facts (All-tail (IsGood p) (Size u i c) facts good) t b h
time-good p (Cost u c ∷ facts) good t b h = time-good p facts (All-tail (IsGood p) (Cost u c) facts good) t b h
time-good p (Time u c ∷ facts) good t b h =
    go (u == t) refl (All-head (IsGood p) (Time u c) facts good)
    (λ k. time-good p facts (All-tail (IsGood p) (Time u c) facts good) t b k)
  where
    go : (v : Bool) → (u == t) ≡ v → IsGood p (Time u c) → (time_in facts t ≡ Some b → IsGood p (Time t b))
        → IsGood p (Time t b)
    go true e here later =
        subst (λ (x : Bound). IsGood p (Time t x)) same (subst (λ (n : ℕ). IsGood p (Time n c)) (same_number-sound u t e) here)
      where
        found : Some c ≡ Some b
        found = rw e at h

        same : c ≡ b
        same = cc
    go false e here later = later (rw e at h)

-- a size that is looked up in good facts is good
pub size-good : (p : Program) (facts : List Fact) → All (IsGood p) facts → (t i : ℕ) (b : Bound)
    → size_in facts t i ≡ Some b → IsGood p (Size t i b)
size-good p [] good t i b h = absurd (none_some h)
  where
    none_some : None ≡ Some b → ⊥
    none_some e = cc
size-good p (Time u c ∷ facts) good t i b h = size-good p facts (All-tail (IsGood p) (Time u c) facts good) t i b h
size-good p (Cost u c ∷ facts) good t i b h = size-good p facts (All-tail (IsGood p) (Cost u c) facts good) t i b h
size-good p (Size u j c ∷ facts) good t i b h =
    go ((u == t) && (j == i)) refl (All-head (IsGood p) (Size u j c) facts good)
    (λ k. size-good p facts (All-tail (IsGood p) (Size u j c) facts good) t i b k)
  where
    go : (v : Bool) → ((u == t) && (j == i)) ≡ v → IsGood p (Size u j c)
        → (size_in facts t i ≡ Some b → IsGood p (Size t i b)) → IsGood p (Size t i b)
    go true e here later =
        let parts = and_parts (u == t) (j == i) e in
        subst (λ (x : Bound). IsGood p (Size t i x)) same
        (subst (λ (n : ℕ). IsGood p (Size t n c)) (same_number-sound j i parts.1)
        (subst (λ (n : ℕ). IsGood p (Size n j c)) (same_number-sound u t parts.0) here))
      where
        found : Some c ≡ Some b
        found = rw e at h

        same : c ≡ b
        same = cc
    go false e here later = later (rw e at h)

-- a table whose bounds are good: each of them holds on all runs, with bases of at least 1
pub record IsGoodTable (p : Program) (table : Table) : Type 0 where
  pub times : (t : ℕ) (b : Bound) → table.time t ≡ Some b → IsGood p (Time t b)
  pub sizes : (t i : ℕ) (b : Bound) → table.size t i ≡ Some b → IsGood p (Size t i b)

-- the table of good facts is good
pub table-good : (p : Program) (facts : List Fact) → All (IsGood p) facts → IsGoodTable p (table_of facts)
table-good p facts good = record { times = time-good p facts good; sizes = size-good p facts good }

module _ (p : Program) (table : Table) (good : IsGoodTable p table) where
  -- the time of a rule that a good table has holds
  pub known-time : (t : ℕ) → IsKnown (table.time t) → HoldsTime p t (known (table.time t))
  known-time t (b, e) = let g : IsGood p (Time t b) = good.times t b e in rw e (g.holds)

  -- the size of a place that a good table has holds
  pub known-size : (t i : ℕ) → IsKnown (table.size t i) → HoldsSize p t i (known (table.size t i))
  known-size t i (b, e) = let g : IsGood p (Size t i b) = good.sizes t i b e in rw e (g.holds)

  -- a time that a good table has, or 0 if it has none, has bases of at least 1
  pub known_time-based : (t : ℕ) → IsBased (known (table.time t))
  known_time-based t = go (table.time t) refl
    where
      go : (o : Option Bound) → table.time t ≡ o → IsBased (known o)
      go None e = tt
      go (Some b) e = let g : IsGood p (Time t b) = good.times t b e in g.based

  -- a size that a good table has, or 0 if it has none, has bases of at least 1
  pub known_size-based : (t i : ℕ) → IsBased (known (table.size t i))
  known_size-based t i = go (table.size t i) refl
    where
      go : (o : Option Bound) → table.size t i ≡ o → IsBased (known o)
      go None e = tt
      go (Some b) e = let g : IsGood p (Size t i b) = good.sizes t i b e in g.based
