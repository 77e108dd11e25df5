-- The rules of a set and their points, position by position.
use Rattle.std.proofs.Common.{◌≡◌, ◌≢◌, ℕ, zero, suc, ◌+◌, ◌-◌, ◌<◌, ◌≤◌, Bool, cond, List, [], ◌∷◌, length, map, take, drop}
use Rattle.std.proofs.Common.{get_or, sym, ◌∙◌, ap, subst, arith}
use Rattle.std.specs.List.{All, AllByRecursion}
use Rattle.std.proofs.lemmas.List.{take_all, drop_more, drop-map, length-map}
use Rattle.std.proofs.lemmas.Bool.{ne_eqb}
use Rattle.std.proofs.lemmas.List.Elements.{All-more, All-get_or, All-from_recursion, recursion_from_All}
use Rattle.std.proofs.Math.ListN.{get_or-map}
use Rattle.farkas_cert.specs.declared.scaled.Scaled.{Scaled}
use Rattle.cert_types.specs.cert_rules.GapChecks.{point_of}
use Rattle.cert_types.specs.cert_rules.Gaps.{ScaledPoint}
use Rattle.cert_types.specs.cert_rules.Numbers.{IsAscending}
use Rattle.cert_types.specs.AnswerViews.{scaled_of}
use Rattle.gap_checks.specs.GapTests.{IsFirstFailing}
use Rattle.gap_checks.proofs.GapFaults.{failing-at, point-at}

-- each number of an ascending list is less than the next
pub ascends-at : (xs : List ℕ) → IsAscending xs → (k : ℕ) → suc k < length xs → get_or xs k 0 < get_or xs (suc k) 0
ascends-at [] a k l = absurd (omega (arith, l))
ascends-at (x ∷ []) a k l = absurd (omega (arith, l))
ascends-at (x ∷ y ∷ rest) a zero l = a.0
ascends-at (x ∷ y ∷ rest) a (suc k) l = ascends-at (y ∷ rest) a.1 k (omega (arith, l))

-- a list ascends if each number is less than the next
pub ascends-from : (xs : List ℕ) → ((k : ℕ) → suc k < length xs → get_or xs k 0 < get_or xs (suc k) 0) → IsAscending xs
ascends-from [] h = tt
ascends-from (x ∷ []) h = tt
ascends-from (x ∷ y ∷ rest) h = (h 0 (omega arith), ascends-from (y ∷ rest) (λ k l. h (suc k) (omega (arith, l))))

-- a list doesn't ascend if one of its numbers isn't less than the next
pub ascends-not : (xs : List ℕ) (i : ℕ) → 1 ≤ i → i < length xs → get_or xs i 0 ≤ get_or xs (i - 1) 0
    → ¬ (IsAscending xs)
ascends-not xs zero l m h a = absurd (omega (arith, l))
ascends-not xs (suc k) l m h a =
    let before : suc k - 1 ≡ k = omega arith in
    omega (arith, ascends-at xs a k m, subst (λ (j : ℕ). get_or xs (suc k) 0 ≤ get_or xs j 0) before h)

-- what holds of all elements before a position at or past the end holds of all elements
pub all-done : {A : Type 0} (P : A → Type 0) (xs : List A) (i : ℕ) → length xs ≤ i → All P (take i xs)
    → AllByRecursion P xs
all-done P xs i l h = recursion_from_All P xs (subst (All P) (take_all i xs l) h)

-- what holds of all elements holds of the one at a position
pub each-at : {A : Type 0} (P : A → Type 0) (xs : List A) (i : ℕ) (d : A) → i < length xs → AllByRecursion P xs
    → P (get_or xs i d)
each-at P xs i d l h = All-get_or P xs i d l (All-from_recursion P xs h)

module _ (Q : ℕ → ScaledPoint → Type 0) (set : List ℕ) (zs : List Scaled) (i : ℕ) (z : Scaled) (a : IsAscending set)
    (l : length (map scaled_of zs) ≡ length set) (h : i < length set) (e : z ≡ get_or zs i z) where
  -- the point of the rule at a position of a set is the point at that position
  pub position-is : point_of set (map scaled_of zs) (get_or set i 0) ≡ scaled_of z
  position-is =
      point-at set (map scaled_of zs) i 0 (scaled_of z) a l h ∙ (get_or-map scaled_of zs i z ∙ ap scaled_of (sym e))

  -- what holds of a rule and its point holds of the rule and the point at its position
  pub position-has : Q (get_or set i 0) (point_of set (map scaled_of zs) (get_or set i 0))
      → Q (get_or set i 0) (scaled_of z)
  position-has q = subst (Q (get_or set i 0)) position-is q

  -- if Q holds of the rules before a position and their points, and of those at the position, it holds of one rule more
  pub position-more : All (λ t. Q t (point_of set (map scaled_of zs) t)) (take i set) → Q (get_or set i 0) (scaled_of z)
      → All (λ t. Q t (point_of set (map scaled_of zs) t)) (take (i + 1) set)
  position-more k q =
      All-more (λ t. Q t (point_of set (map scaled_of zs) t)) set i 0 h k
      (subst (Q (get_or set i 0)) (sym position-is) q)

  -- if Q holds of the rules before a position, but not of the rule there, that rule is the first failing one
  pub position-fails : All (λ t. Q t (point_of set (map scaled_of zs) t)) (take i set)
      → ¬ (Q (get_or set i 0) (scaled_of z))
      → IsFirstFailing (λ t. Q t (point_of set (map scaled_of zs) t)) set (get_or set i 0)
  position-fails k n =
      failing-at (λ t. Q t (point_of set (map scaled_of zs) t)) set i 0 h k (λ q. n (position-has q))

  -- if Q doesn't hold of the rule at a position, it doesn't hold of all rules
  pub position-breaks : ¬ (Q (get_or set i 0) (scaled_of z))
      → ¬ (AllByRecursion (λ t. Q t (point_of set (map scaled_of zs) t)) set)
  position-breaks n all =
      n (position-has (each-at (λ t. Q t (point_of set (map scaled_of zs) t)) set i 0 h all))

-- if the rule at a position isn't rule t, the point of t is found after that position
pub point-passed : (set : List ℕ) (zs : List Scaled) (i t : ℕ) → length zs ≡ length set → i < length set
    → get_or set i 0 ≢ t
    → point_of (drop (i + 1) set) (map scaled_of (drop (i + 1) zs)) t ≡ point_of (drop i set) (map scaled_of (drop i zs)) t
point-passed set zs i t l h n =
    ap (λ (ys : List ScaledPoint). point_of (drop (i + 1) set) ys t) (sym (drop-map scaled_of (i + 1) zs))
    ∙ (sym step ∙ ap (λ (ys : List ScaledPoint). point_of (drop i set) ys t) (drop-map scaled_of i zs))
  where
    none : ScaledPoint
    none = record { parts = []; den = 0 }

    ps : List ScaledPoint
    ps = map scaled_of zs

    step : point_of (drop i set) (drop i ps) t ≡ point_of (drop (i + 1) set) (drop (i + 1) ps) t
    step =
        ap (λ (ts : List ℕ). point_of ts (drop i ps) t) (drop_more set i 0 h)
        ∙ (ap (λ (ys : List ScaledPoint). point_of (get_or set i 0 ∷ drop (i + 1) set) ys t)
        (drop_more ps i none (omega (arith, l, h, length-map zs scaled_of)))
        ∙ ap (λ (v : Bool). cond v (get_or ps i none) (point_of (drop (i + 1) set) (drop (i + 1) ps) t))
        (ne_eqb (get_or set i 0) t n))
