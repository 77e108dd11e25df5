-- The sums of a symbol's places, place by place and touch by touch.
use Rattle.std.proofs.Common.{◌≡◌, ◌⊎◌, inl, inr, ℕ, ◌+◌, ◌*◌, ◌<◌, ◌≤◌, List, length, drop, get_or}
use Rattle.std.proofs.Common.{refl, sym, ap, ◌∙◌, subst, arith}
use Rattle.std.specs.Prelude.{ℤ, pos, ◌^◌, ◌+ℤ◌, ◌-ℤ◌, unsigned_abs}
use mir.Syntax.{w128}
use mir.Val.{to_z, of_z}
use Rattle.std.proofs.Math.ListN.{set}
use Rattle.std.proofs.lemmas.Bool.{cases_lt}
use Rattle.std.proofs.Common.{FitsSigned, replicate}
use Rattle.std.proofs.lemmas.Int.{ints, to_z-of_z, fits_signed_from_abs}
use Rattle.std.proofs.lemmas.List.{drop_more, length-set, get_or-set_same, get_or-set_other, length-replicate}
use Rattle.std.proofs.lemmas.List.{get_or-replicate}
use Rattle.farkas_cert.specs.model.Programs.{Program, arity_of}
use Rattle.farkas_cert.proofs.Products.{sum-le, moved, all_done}
use Rattle.cert_types.specs.cert_program.RankedSets.{forms_at}
use Rattle.cert_types.specs.cert_rules.GapChecks.{net}
use Rattle.cert_types.specs.cert_rules.Gaps.{Gap}
use Rattle.gap_checks.specs.declared.touching.Group.{Group}
use Rattle.gap_checks.specs.declared.touching.Touch.{Touch}
use Rattle.gap_checks.specs.GapTests.{coefficient_at, near_value_limit}
use Rattle.gap_checks.specs.GapBalances.{AddsTouch, AreNets, AreSums, sum_at}
use Rattle.gap_checks.specs.Touches.{AreTouches, IsGroup, share_of}
use Rattle.gap_checks.proofs.TouchSums.{shares_sum, group-starts, group-ends}

-- two numbers with small absolute values keep their values in 128 bits
both-read : (s r : ℤ) → unsigned_abs s + unsigned_abs r < 2 ^ 127
    → to_z w128 (of_z w128 s) +ℤ to_z w128 (of_z w128 r) ≡ s +ℤ r
both-read s r h =
    ap (λ (x : ℤ). x +ℤ to_z w128 (of_z w128 r)) (to_z-of_z w128 s (fits_signed_from_abs w128 s (omega (arith, h))))
    ∙ ap (λ (x : ℤ). s +ℤ x) (to_z-of_z w128 r (fits_signed_from_abs w128 r (omega (arith, h))))

-- the sum of two numbers with small absolute values fits 128 bits
pub sum-fits : (s r : ℤ) → unsigned_abs s + unsigned_abs r < 2 ^ 127
    → FitsSigned w128 (to_z w128 (of_z w128 s) +ℤ to_z w128 (of_z w128 r))
sum-fits s r h =
    fits_signed_from_abs w128 _ (omega (arith, ap unsigned_abs (both-read s r h), sum-le s r, h))

-- the sum of two numbers with small absolute values keeps its value in 128 bits
pub sum-read : (s r : ℤ) → unsigned_abs s + unsigned_abs r < 2 ^ 127
    → to_z w128 (of_z w128 (to_z w128 (of_z w128 s) +ℤ to_z w128 (of_z w128 r))) ≡ s +ℤ r
sum-read s r h = to_z-of_z w128 _ (sum-fits s r h) ∙ both-read s r h

-- the opposite of a number with a small absolute value keeps its value in 128 bits
pub opposite-read : (r : ℤ) → unsigned_abs r < 2 ^ 127 → to_z w128 (of_z w128 (pos 0 -ℤ to_z w128 (of_z w128 r))) ≡ pos 0 -ℤ r
opposite-read r h =
    ap (λ (x : ℤ). to_z w128 (of_z w128 (pos 0 -ℤ x))) (to_z-of_z w128 r (fits_signed_from_abs w128 r (omega (arith, h))))
    ∙ to_z-of_z w128 (pos 0 -ℤ r) (fits_signed_from_abs w128 (pos 0 -ℤ r) (omega (arith, ints, h)))

-- the sums of the places before this one have grown by a touch's share, and the others are unchanged
pub record AreAddedBefore (f : ℕ → ℤ) (place : ℕ) (old new : List ℤ) : Type 0 where
  pub long : length new ≡ length old
  pub each : (k : ℕ) → k < place → sum_at new k ≡ sum_at old k +ℤ f k
  pub small : (k : ℕ) → k < place → unsigned_abs (f k) ≤ near_value_limit
  pub others : (k : ℕ) → place ≤ k → sum_at new k ≡ sum_at old k

module _ (f : ℕ → ℤ) (old : List ℤ) where
  -- before the first place no sum has grown
  pub added-none : AreAddedBefore f 0 old old
  added-none = record {
    long = refl;
    each = λ k l. absurd (omega (arith, l));
    small = λ k l. absurd (omega (arith, l));
    others = λ k l. refl;
  }

  -- the sums after one more place
  pub added-more : (place : ℕ) (new : List ℤ) (x r : ℤ) → place < length old → AreAddedBefore f place old new
      → x ≡ sum_at new place +ℤ r → r ≡ f place → unsigned_abs r ≤ near_value_limit
      → AreAddedBefore f (place + 1) old (set new place x)
  added-more place new x r l h e v small = record {
    long = length-set new place x ∙ h.long;
    each = λ k b. each k (cases_lt k place) b;
    small = λ k b. small-at k (cases_lt k place) b;
    others = λ k b. get_or-set_other new place k x (pos 0) (λ e. omega (arith, b, e)) ∙ h.others k (omega (arith, b));
  }
    where
      here : sum_at (set new place x) place ≡ sum_at old place +ℤ f place
      here =
          get_or-set_same new place x (pos 0) (omega (arith, l, h.long))
          ∙ (e ∙ (ap (λ (y : ℤ). y +ℤ r) (h.others place (omega arith)) ∙ ap (λ (y : ℤ). sum_at old place +ℤ y) v))

      each : (k : ℕ) → (k < place) ⊎ (place ≤ k) → k < place + 1
          → sum_at (set new place x) k ≡ sum_at old k +ℤ f k
      each k (inl b) c = get_or-set_other new place k x (pos 0) (λ e. omega (arith, b, e)) ∙ h.each k b
      each k (inr b) c =
          subst (λ (j : ℕ). sum_at (set new place x) j ≡ sum_at old j +ℤ f j)
          (let same : place ≡ k = omega (arith, b, c) in same) here

      small-at : (k : ℕ) → (k < place) ⊎ (place ≤ k) → k < place + 1 → unsigned_abs (f k) ≤ near_value_limit
      small-at k (inl b) c = h.small k b
      small-at k (inr b) c =
          subst (λ (j : ℕ). unsigned_abs (f j) ≤ near_value_limit) (let same : place ≡ k = omega (arith, b, c) in same)
          (subst (λ (y : ℤ). unsigned_abs y ≤ near_value_limit) v small)

-- after the last place of the touch's symbol, its share was added to each of them
pub added-all : (p : Program) (g : Gap) (touch : Touch) (old new : List ℤ) (place : ℕ)
    → arity_of p touch.symbol + 1 ≤ place
    → AreAddedBefore (λ k. share_of (forms_at p) g.set g.moves (coefficient_at touch.symbol k) touch) place old new
    → AddsTouch p g touch old new
added-all p g touch old new place l h = record {
  long = h.long;
  each = λ k b. h.each k (omega (arith, b, l));
  size = λ k b. size k (cases_lt k place);
}
  where
    size : (k : ℕ) → (k < place) ⊎ (place ≤ k)
        → unsigned_abs (sum_at new k) ≤ unsigned_abs (sum_at old k) + near_value_limit
    size k (inl b) = omega (arith, ints, ap unsigned_abs (h.each k b), h.small k b)
    size k (inr b) = omega (arith, ap unsigned_abs (h.others k b))

-- the sums of a symbol after its touches before position i: together with the shares of the touches from i on, they are
-- what leaves by the moves, less what arrives
pub record AreSumsSoFar (p : Program) (g : Gap) (ts : List Touch) (symbol i : ℕ) (nets : List ℤ) : Type 0 where
  pub sums : AreSums nets (i * near_value_limit)
  pub each : (k : ℕ) → k < arity_of p symbol + 1
      → sum_at nets k +ℤ shares_sum (share_of (forms_at p) g.set g.moves (coefficient_at symbol k)) (drop i ts)
      ≡ net (forms_at p) (coefficient_at symbol k) g.set g.moves

-- sums within a limit are within a greater one
pub sums-weaker : (sums : List ℤ) (m n : ℕ) → m ≤ n → AreSums sums m → AreSums sums n
sums-weaker sums m n l h = record { long = h.long; size = λ k b. omega (arith, l, h.size k b) }

module _ (p : Program) (g : Gap) (ts : List Touch) (h : AreTouches (forms_at p) g.set ts) (long : length g.moves ≡ length g.set) where
  -- before the first touch of a symbol its sums are 0
  pub sums-none : (d : Touch) (group : Group) → IsGroup ts group → arity_of p group.symbol ≤ 32
      → AreSumsSoFar p g ts group.symbol group.start (replicate 33 (pos 0))
  sums-none d group is few = record {
    sums = record {
      long = length-replicate 33 (pos 0);
      size = λ k l. omega (arith, ap unsigned_abs (zero-at k l));
    };
    each = λ k l.
        let none = zero-at k (omega (arith, l, few)) in
        let all = group-starts (forms_at p) g.set g.moves ts h group is k long d in
        omega (arith, ints, none, all);
  }
    where
      zero-at : (k : ℕ) → k < 33 → sum_at (replicate 33 (pos 0)) k ≡ pos 0
      zero-at k l = get_or-replicate 33 k (pos 0) (pos 0) l

  -- the sums after one more touch
  pub sums-more : (symbol i : ℕ) (touch : Touch) (old new : List ℤ) → i < length ts → touch ≡ get_or ts i touch
      → touch.symbol ≡ symbol → AreSumsSoFar p g ts symbol i old → AddsTouch p g touch old new
      → AreSumsSoFar p g ts symbol (i + 1) new
  sums-more symbol i touch old new l e same a b = record {
    sums = record {
      long = b.long ∙ a.sums.long;
      size = λ k c. omega (arith, b.size k (omega (arith, c, a.sums.long)), a.sums.size k c);
    };
    each = λ k c.
        moved (sum_at old k) (part k) (sum_at new k) (left k i) (left k (i + 1))
        (net (forms_at p) (coefficient_at symbol k) g.set g.moves) (added k c) (a.each k c) (next k);
  }
    where
      -- the share of the touch at a place, and the shares of the touches from a position on
      part : ℕ → ℤ
      part k = share_of (forms_at p) g.set g.moves (coefficient_at symbol k) touch

      left : ℕ → ℕ → ℤ
      left k n = shares_sum (share_of (forms_at p) g.set g.moves (coefficient_at symbol k)) (drop n ts)

      added : (k : ℕ) → k < arity_of p symbol + 1 → sum_at new k ≡ sum_at old k +ℤ part k
      added k c =
          subst (λ (s : ℕ). k < arity_of p s + 1
          → sum_at new k ≡ sum_at old k +ℤ share_of (forms_at p) g.set g.moves (coefficient_at s k) touch) same (b.each k) c

      next : (k : ℕ) → left k i ≡ part k +ℤ left k (i + 1)
      next k =
          ap (shares_sum (share_of (forms_at p) g.set g.moves (coefficient_at symbol k))) (drop_more ts i touch l)
          ∙ ap (λ (t : Touch). share_of (forms_at p) g.set g.moves (coefficient_at symbol k) t +ℤ left k (i + 1)) (sym e)

  -- after the last touch of a symbol its sums are what leaves by all moves, less what arrives
  pub sums-all : (d : Touch) (group : Group) (i : ℕ) (sums : List ℤ) → IsGroup ts group → i ≡ group.end → i ≤ 2000
      → AreSumsSoFar p g ts group.symbol i sums → AreNets p g group.symbol sums
  sums-all d group i sums is e few a = record {
    sums = record { long = a.sums.long; size = λ k b. omega (arith, few, a.sums.size k b) };
    each = λ k b.
        all_done _ _ _ (a.each k b)
        (ap (λ (n : ℕ). shares_sum (share_of (forms_at p) g.set g.moves (coefficient_at group.symbol k)) (drop n ts)) e
        ∙ group-ends (forms_at p) g.set g.moves ts h group is k long d);
  }
