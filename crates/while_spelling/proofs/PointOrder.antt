-- The points of moves are numbered in the order in which the rules have them.
use Rattle.std.proofs.Common.{◌≡◌, ◌≢◌, ◌⊎◌, inl, inr, ℕ, suc, ◌≤◌, ◌==◌, Bool, true, false, List, [], ◌∷◌}
use Rattle.std.proofs.Common.{◌++◌, length, map, refl, sym, ◌∙◌, ap, subst, arith, length-append}
use Rattle.std.specs.List.{list_any}
use Rattle.std.proofs.lemmas.Bool.{true≢false}
use Rattle.std.proofs.lemmas.Bool.Decides.{eqb_tells}
use Rattle.its_writer.specs.Spellable.{known_with, symbols_behind, AreInOrder}
use Rattle.its_writer.proofs.TermsOrdered.{known_below, known_next}
use Rattle.while_model.specs.model.Programs.{Name}
use Rattle.while_model.specs.Moves.{Move}
use Rattle.while_model.specs.Translation.{with_point, with_points, number_in, rule_of}
use Rattle.while_model.proofs.Members.{IsIn}
use Rattle.while_model.proofs.Numbers.{with_point-has, with_point-keeps}
use Rattle.while_front.proofs.PointLists.{number_below}

-- The number of a point among points stays the same with one more.
number_append : (points : List ℕ) (k x : ℕ) → IsIn k points → number_in (points ++ x ∷ []) k ≡ number_in points k
number_append [] k x h = absurd h
number_append (y ∷ points) k x h = go (number_append points k x) (eqb_tells y k) h
  where
    go : (IsIn k points → number_in (points ++ x ∷ []) k ≡ number_in points k)
        → ((y == k) ≡ true) × (y ≡ k) ⊎ ((y == k) ≡ false) × (y ≢ k) → (k ≡ y) ⊎ IsIn k points
        → number_in (y ∷ (points ++ x ∷ [])) k ≡ number_in (y ∷ points) k
    go later (inl (test, e)) i = rw test refl
    go later (inr (test, other)) (inl e) = absurd (other (sym e))
    go later (inr (test, other)) (inr there) = rw test (ap suc (later there))

number_point : (points : List ℕ) (k x : ℕ) → IsIn k points → number_in (with_point points x) k ≡ number_in points k
number_point points k x h = go (list_any (λ y. y == x) points) refl
  where
    go : (v : Bool) → list_any (λ y. y == x) points ≡ v → number_in (with_point points x) k ≡ number_in points k
    go true e = rw e refl
    go false e = rw e (number_append points k x h)

number_points : (points : List ℕ) (ms : List Move) (k : ℕ) → IsIn k points
    → number_in (with_points points ms) k ≡ number_in points k
number_points points [] k h = refl
number_points points (m ∷ ms) k h =
    let one = with_point points m.from in
    number_points (with_point one m.to) ms k (with_point-keeps one m.to k (with_point-keeps points m.from k h))
    ∙ (number_point one k m.to (with_point-keeps points m.from k h) ∙ number_point points k m.from h)

-- A point that isn't found has the next number once it is appended.
new_number : (points : List ℕ) (k : ℕ) → list_any (λ x. x == k) points ≡ false
    → number_in (points ++ k ∷ []) k ≡ length points
new_number [] k h = go (eqb_tells k k)
  where
    go : ((k == k) ≡ true) × (k ≡ k) ⊎ ((k == k) ≡ false) × (k ≢ k) → number_in (k ∷ []) k ≡ 0
    go (inl (test, e)) = rw test refl
    go (inr (test, other)) = absurd (other refl)
new_number (x ∷ points) k h = go (new_number points k) (eqb_tells x k)
  where
    go : (list_any (λ y. y == k) points ≡ false → number_in (points ++ k ∷ []) k ≡ length points)
        → ((x == k) ≡ true) × (x ≡ k) ⊎ ((x == k) ≡ false) × (x ≢ k)
        → number_in (x ∷ (points ++ k ∷ [])) k ≡ suc (length points)
    go later (inl (test, e)) = absurd (true≢false (rw test at h))
    go later (inr (test, other)) = rw test (ap suc (later (rw test at h)))

-- A point is a known one or the next one, and is known behind it.
pub record IsNext (points : List ℕ) (k : ℕ) : Type 0 where
  pub low : number_in (with_point points k) k ≤ length points
  pub known : known_with (length points) (number_in (with_point points k) k) ≡ length (with_point points k)

point_next : (points : List ℕ) (k : ℕ) → IsNext points k
point_next points k = go (list_any (λ x. x == k) points) refl
  where
    old : IsIn k points → (with_point points k ≡ points) → IsNext points k
    old i same =
        let below = number_below points k i in
        subst
        (λ (list : List ℕ). (number_in list k ≤ length points)
        × (known_with (length points) (number_in list k) ≡ length list) → IsNext points k) same
        (λ both. record { low = both.0; known = both.1 })
        (omega (arith, below), known_below (length points) (number_in points k) below)

    new : with_point points k ≡ points ++ k ∷ [] → number_in (points ++ k ∷ []) k ≡ length points → IsNext points k
    new same number =
        let at : number_in (with_point points k) k ≡ length points =
        ap (λ (list : List ℕ). number_in list k) same ∙ number in
        let more : length (with_point points k) ≡ suc (length points) =
        ap (λ (list : List ℕ). length list) same
        ∙ (let two = length-append points (k ∷ []) in omega (arith, two)) in
        record {
          low = omega (arith, at);
          known = ap (λ (i : ℕ). known_with (length points) i) at ∙ (known_next (length points) ∙ sym more);
        }

    go : (v : Bool) → list_any (λ x. x == k) points ≡ v → IsNext points k
    go true e =
        let same : with_point points k ≡ points = rw e refl in
        old (subst (λ (list : List ℕ). IsIn k list) same (with_point-has points k)) same
    go false e = let same : with_point points k ≡ points ++ k ∷ [] = rw e refl in new same (new_number points k e)

-- The rules of moves have the points of all moves in order, where these points are known before them.
pub record AreNumbered (inputs : List Name) (points all : List ℕ) (ms : List Move) : Type 0 where
  pub order : AreInOrder (length points) (map (rule_of inputs all) ms)
  pub known : symbols_behind (length points) (map (rule_of inputs all) ms) ≡ length all

pub points_numbered : (inputs : List Name) (points : List ℕ) (ms : List Move)
    → AreNumbered inputs points (with_points points ms) ms
points_numbered inputs points [] = record { order = tt; known = refl }
points_numbered inputs points (m ∷ ms) =
    let one = with_point points m.from in
    let two = with_point one m.to in
    let all = with_points two ms in
    let from : number_in all m.from ≡ number_in one m.from =
    number_points two ms m.from (with_point-keeps one m.to m.from (with_point-has points m.from))
    ∙ number_point one m.from m.to (with_point-has points m.from) in
    let to : number_in all m.to ≡ number_in two m.to = number_points two ms m.to (with_point-has one m.to) in
    let source = point_next points m.from in
    let target = point_next one m.to in
    let behind_source : known_with (length points) (number_in all m.from) ≡ length one =
    ap (λ (i : ℕ). known_with (length points) i) from ∙ source.known in
    let behind : known_with (known_with (length points) (number_in all m.from)) (number_in all m.to) ≡ length two =
    ap (λ (n : ℕ). known_with n (number_in all m.to)) behind_source
    ∙ (ap (λ (i : ℕ). known_with (length one) i) to ∙ target.known) in
    let later = points_numbered inputs two ms in
    record {
      order = (
        subst (λ (i : ℕ). i ≤ length points) (sym from) source.low,
        subst (λ (n : ℕ). number_in all m.to ≤ n) (sym behind_source)
            (subst (λ (i : ℕ). i ≤ length one) (sym to) target.low),
        subst (λ (n : ℕ). AreInOrder n (map (rule_of inputs all) ms)) (sym behind) later.order,
      );
      known = ap (λ (n : ℕ). symbols_behind n (map (rule_of inputs all) ms)) behind ∙ later.known;
    }
