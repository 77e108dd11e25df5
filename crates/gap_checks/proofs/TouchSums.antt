-- The shares of touches in a balance, in any order, and those of the touches of one symbol.
use Rattle.std.proofs.Common.{◌≡◌, ◌≢◌, ℕ, zero, suc, ◌+◌, ◌<◌, ◌≤◌, Bool, List, [], ◌∷◌, length, drop, get_or}
use Rattle.std.proofs.Common.{map, if◌then◌else◌, refl, sym, ap, ◌∙◌, arith}
use Rattle.std.specs.Prelude.{ℤ, pos, negsuc, ◌+ℤ◌, ◌-ℤ◌}
use Rattle.std.specs.List.{sum_by}
use Rattle.std.specs.List.Sorted.{IsPermutation}
use Rattle.std.proofs.lemmas.Bool.{ne_eqb}
use Rattle.std.proofs.lemmas.Int.{ints}
use Rattle.std.proofs.Math.ListN.{get_or-map}
use Rattle.std.proofs.lemmas.List.{get_or_default, length-map}
use Rattle.std.proofs.lemmas.List.Sums.{sum_by-cons}
use Rattle.std.proofs.lemmas.List.Sorted.{sum_by-IsPermutation}
use Rattle.farkas_cert.specs.declared.scaled.Scaled.{Scaled}
use Rattle.farkas_cert.specs.linear_forms.Combinations.{zero_form}
use Rattle.farkas_cert.specs.linear_forms.RuleQuestions.{RuleForms, Coefficient, at_source, at_target, before_rule, after_rule}
use Rattle.cert_types.specs.cert_rules.GapChecks.{value_at, net}
use Rattle.cert_types.specs.cert_rules.Gaps.{ScaledPoint}
use Rattle.cert_types.specs.AnswerViews.{scaled_of}
use Rattle.gap_checks.specs.declared.touching.Group.{Group}
use Rattle.gap_checks.specs.declared.touching.Way.{Way}
use Rattle.gap_checks.specs.declared.touching.Way.TheVariants.{Leaves, Arrives}
use Rattle.gap_checks.specs.declared.touching.Touch.{Touch}
use Rattle.gap_checks.specs.GapTests.{coefficient_at}
use Rattle.gap_checks.specs.Touches.{AreTouches, IsGroup, rule_in, point_in, touches_from, share_by, share_of}
use Rattle.gap_checks.proofs.Balances.{net-next, net-end}
use Rattle.gap_checks.proofs.TouchLists.{IsTouchOf, symbol_by, touch-real}

-- the point at a position is the scaled point that was found there
pub point-found : (zs : List Scaled) (i : ℕ) (z : Scaled) → i < length zs → z ≡ get_or zs i z
    → point_in (map scaled_of zs) i ≡ scaled_of z
point-found zs i z l e =
    get_or_default (map scaled_of zs) i (record { parts = []; den = 0 }) (scaled_of z) (omega (arith, l, length-map zs scaled_of))
    ∙ (get_or-map scaled_of zs i z ∙ ap scaled_of (sym e))

-- the sum of the shares of touches
abbrev pub shares_sum : (Touch → ℤ) → List Touch → ℤ
shares_sum f [] = pos 0
shares_sum f (t ∷ ts) = f t +ℤ shares_sum f ts

-- by how much a number is above 0, and by how much it is below
abbrev above : ℤ → ℕ
above (pos n) = n
above (negsuc n) = 0

abbrev below : ℤ → ℕ
below (pos n) = 0
below (negsuc n) = suc n

both-sides : (x : ℤ) → x ≡ pos (above x) -ℤ pos (below x)
both-sides (pos n) = let e : pos n ≡ pos n -ℤ pos 0 = omega (arith, ints) in e
both-sides (negsuc n) = let e : negsuc n ≡ pos 0 -ℤ pos (suc n) = omega (arith, ints) in e

module _ (f : Touch → ℤ) where
  -- a sum of shares is the sum of what they are above 0, less that of what they are below
  sides-sum : (ts : List Touch)
      → shares_sum f ts ≡ pos (sum_by (λ t. above (f t)) ts) -ℤ pos (sum_by (λ t. below (f t)) ts)
  sides-sum [] = refl
  sides-sum (t ∷ ts) =
      omega (arith, ints, both-sides (f t), sides-sum ts, sum_by-cons (λ u. above (f u)) t ts, sum_by-cons (λ u. below (f u)) t ts)

  -- the order of touches doesn't change the sum of their shares
  pub sum-permuted : (ts us : List Touch) → IsPermutation ts us → shares_sum f us ≡ shares_sum f ts
  sum-permuted ts us h =
      omega (
        arith,
        ints,
        sides-sum ts,
        sides-sum us,
        sum_by-IsPermutation (λ t. above (f t)) ts us h,
        sum_by-IsPermutation (λ t. below (f t)) ts us h,
      )

  -- if the touches before a position have share 0, those from there on have the whole sum
  pub sum-before : (ts : List Touch) (k : ℕ) (d : Touch) → k ≤ length ts → ((j : ℕ) → j < k → f (get_or ts j d) ≡ pos 0)
      → shares_sum f (drop k ts) ≡ shares_sum f ts
  sum-before ts zero d l h = refl
  sum-before [] (suc k) d l h = absurd (omega (arith, l))
  sum-before (t ∷ ts) (suc k) d l h =
      let rest = sum-before ts k d (omega (arith, l)) (λ j m. h (suc j) (omega (arith, m))) in
      omega (arith, ints, rest, h 0 (omega arith))

  -- if the touches from a position on have share 0, so has their sum
  pub sum-behind : (ts : List Touch) (k : ℕ) (d : Touch)
      → ((j : ℕ) → k ≤ j → j < length ts → f (get_or ts j d) ≡ pos 0) → shares_sum f (drop k ts) ≡ pos 0
  sum-behind [] zero d h = refl
  sum-behind [] (suc k) d h = refl
  sum-behind (t ∷ ts) zero d h =
      let rest = sum-behind ts zero d (λ j l m. h (suc j) (omega arith) (omega (arith, m))) in
      omega (arith, ints, rest, h 0 (omega arith) (omega arith))
  sum-behind (t ∷ ts) (suc k) d h = sum-behind ts k d (λ j l m. h (suc j) (omega (arith, l)) (omega (arith, m)))

module _ (rule : ℕ → RuleForms) (set : List ℕ) (zs : List ScaledPoint) where
  -- the shares of all touches of a set at a place of a symbol add up to what leaves it by the moves, less what arrives
  -- there
  touches-net : (c : Coefficient) → length zs ≡ length set → (n i : ℕ) → i + n ≡ length set
      → shares_sum (share_of rule set zs c) (touches_from rule set i n) ≡ net rule c (drop i set) (drop i zs)
  touches-net c l zero i e = sym (net-end rule c set zs i (omega (arith, e)))
  touches-net c l (suc n) i e =
      let rest = touches-net c l n (i + 1) (omega (arith, e)) in
      let next = net-next rule c set zs i 0 (record { parts = []; den = 0 }) l (omega (arith, e)) in
      omega (arith, ints, rest, next)

  -- a touch by which its rule leads to the symbol has the opposite of what arrives as its share
  pub share-arrives : (touch : Touch) (place t : ℕ) (z : ScaledPoint) (r : ℤ) → touch.way ≡ Arrives
      → t ≡ rule_in set touch.position → point_in zs touch.position ≡ z
      → r ≡ value_at (at_target (rule t) (coefficient_at touch.symbol place)) z
      → pos 0 -ℤ r ≡ share_of rule set zs (coefficient_at touch.symbol place) touch
  share-arrives touch place t z r e f g h =
      ap (λ (x : ℤ). pos 0 -ℤ x) h
      ∙ (ap (λ (u : ℕ). pos 0 -ℤ value_at (at_target (rule u) (coefficient_at touch.symbol place)) z) f
      ∙ (ap (λ (y : ScaledPoint). pos 0 -ℤ value_at (at_target (rule (rule_in set touch.position)) (coefficient_at touch.symbol place)) y)
      (sym g)
      ∙ sym (ap (λ (s : Way). share_by s (rule (rule_in set touch.position)) (point_in zs touch.position) (coefficient_at touch.symbol place)) e)))

  -- a touch by which its rule leaves the symbol has what leaves as its share
  pub share-leaves : (touch : Touch) (place t : ℕ) (z : ScaledPoint) (r : ℤ) → touch.way ≡ Leaves
      → t ≡ rule_in set touch.position → point_in zs touch.position ≡ z
      → r ≡ value_at (at_source (rule t) (coefficient_at touch.symbol place)) z
      → r ≡ share_of rule set zs (coefficient_at touch.symbol place) touch
  share-leaves touch place t z r e f g h =
      h
      ∙ (ap (λ (u : ℕ). value_at (at_source (rule u) (coefficient_at touch.symbol place)) z) f
      ∙ (ap (λ (y : ScaledPoint). value_at (at_source (rule (rule_in set touch.position)) (coefficient_at touch.symbol place)) y)
      (sym g)
      ∙ sym (ap (λ (s : Way). share_by s (rule (rule_in set touch.position)) (point_in zs touch.position) (coefficient_at touch.symbol place)) e)))

  -- a touch has share 0 at the places of another symbol
  share-none : (t : Touch) (s place : ℕ) → IsTouchOf rule set t → s ≢ t.symbol
      → share_of rule set zs (coefficient_at s place) t ≡ pos 0
  share-none t s place h n = go t.way (rule (rule_in set t.position)) (point_in zs t.position) (λ e. n (e ∙ sym h.1))
    where
      go : (way : Way) (r : RuleForms) (z : ScaledPoint) → s ≢ symbol_by way r
          → share_by way r z (coefficient_at s place) ≡ pos 0
      go Leaves r z m =
          ap (λ (v : Bool). value_at (if v then before_rule place else zero_form) z) (ne_eqb s r.source m)
          ∙ omega (arith, ints)
      go Arrives r z m =
          ap (λ (v : Bool). pos 0 -ℤ value_at (if v then after_rule r place else zero_form) z) (ne_eqb s r.target m)
          ∙ omega (arith, ints)

  module _ (ts : List Touch) (h : AreTouches rule set ts) (group : Group) (g : IsGroup ts group) (place : ℕ)
      (l : length zs ≡ length set) where
    abbrev pub there : Touch → ℤ
    there = share_of rule set zs (coefficient_at group.symbol place)

    -- the shares, at a symbol's places, of the touches from its first one on add up to what leaves, less what arrives
    pub group-starts : (d : Touch) → shares_sum there (drop group.start ts)
        ≡ net rule (coefficient_at group.symbol place) set zs
    group-starts d =
        sum-before there ts group.start d (omega (arith, g.some, g.bound))
        (λ j m. share-none (get_or ts j d) group.symbol place
        (touch-real rule set ts h j d (omega (arith, m, g.some, g.bound)))
        (λ e. omega (arith, e, g.before j d (omega arith) m)))
        ∙ (sum-permuted there (touches_from rule set 0 (length set)) ts h.all
        ∙ touches-net (coefficient_at group.symbol place) l (length set) 0 (omega arith))

    -- the shares, at a symbol's places, of the touches after its last one add up to 0
    pub group-ends : (d : Touch) → shares_sum there (drop group.end ts) ≡ pos 0
    group-ends d =
        sum-behind there ts group.end d
        (λ j m n. share-none (get_or ts j d) group.symbol place (touch-real rule set ts h j d n)
        (λ e. omega (arith, e, g.behind j d m n)))
