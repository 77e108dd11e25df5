-- Properties of the points of the rules of a set, rule by rule and position by position.
use Rattle.std.proofs.Common.{◌≡◌, ◌≢◌, ◌⊎◌, inl, inr, ℕ, suc, ◌<◌, ◌==◌, ◌||◌, Bool, true, false, cond, List, [], ◌∷◌}
use Rattle.std.proofs.Common.{length, refl, sym, ◌∙◌, ap, subst, arith}
use Rattle.std.proofs.lemmas.Bool.{ne_eqb, or_right}
use Rattle.std.proofs.lemmas.Bool.Decides.{eqb_tells}
use Rattle.run_counting.specs.model.Entries.{is_in}
use Rattle.run_counting.proofs.model.Membership.{no_is_not_yes, is_in-cases, same_number}
use Rattle.cert_rules.specs.Gaps.{ScaledPoint}
use Rattle.cert_rules.specs.GapChecks.{point_of}
use Rattle.cert_rules.specs.Numbers.{IsAscending}

-- the property holds of each rule of a list with the point at its position, and there are as many points as rules
abbrev pub AreEach : (ℕ → ScaledPoint → Type 0) → List ℕ → List ScaledPoint → Type 0
AreEach P [] [] = Unit {0}
AreEach P [] (z ∷ zs) = ⊥
AreEach P (t ∷ ts) [] = ⊥
AreEach P (t ∷ ts) (z ∷ zs) = P t z × AreEach P ts zs

-- the rest of an ascending list is ascending
pub rest-ascends : (x : ℕ) (ys : List ℕ) → IsAscending (x ∷ ys) → IsAscending ys
rest-ascends x [] h = tt
rest-ascends x (y ∷ ys) h = h.1

-- the first number of an ascending list is less than all others
pub first-least : (x : ℕ) (ys : List ℕ) → IsAscending (x ∷ ys) → (t : ℕ) → is_in t ys ≡ true → x < t
first-least x [] h t i = absurd (no_is_not_yes false refl i)
first-least x (y ∷ ys) h t i = go (is_in-cases t y ys i) (λ k. first-least y ys h.1 t k)
  where
    go : (t ≡ y) ⊎ (is_in t ys ≡ true) → (is_in t ys ≡ true → y < t) → x < t
    go (inl e) later = omega (arith, e, h.0)
    go (inr k) later = omega (arith, later k, h.0)

-- there are as many points as rules
pub each-long : (P : ℕ → ScaledPoint → Type 0) (ts : List ℕ) (zs : List ScaledPoint) → AreEach P ts zs → length zs ≡ length ts
each-long P [] [] h = refl
each-long P [] (z ∷ zs) h = absurd h
each-long P (t ∷ ts) [] h = absurd h
each-long P (t ∷ ts) (z ∷ zs) h = ap (λ (n : ℕ). suc n) (each-long P ts zs h.1)

module _ (P : ℕ → ScaledPoint → Type 0) where
  -- a property of each position is one of each rule of the list with its point
  pub each-of : (ts : List ℕ) (zs : List ScaledPoint) → AreEach P ts zs → (t : ℕ) → is_in t ts ≡ true → P t (point_of ts zs t)
  each-of [] zs h t i = absurd (no_is_not_yes false refl i)
  each-of (u ∷ ts) [] h t i = absurd h
  each-of (u ∷ ts) (z ∷ zs) h t i = go (eqb_tells u t) (λ k. each-of ts zs h.1 t k)
    where
      go : (((u == t) ≡ true) × (u ≡ t)) ⊎ (((u == t) ≡ false) × (u ≢ t)) → (is_in t ts ≡ true → P t (point_of ts zs t))
          → P t (cond (u == t) z (point_of ts zs t))
      go (inl e) later =
          subst (λ (v : Bool). P t (cond v z (point_of ts zs t))) (sym e.0) (subst (λ (s : ℕ). P s z) e.1 h.0)
      go (inr e) later =
          subst (λ (v : Bool). P t (cond v z (point_of ts zs t))) (sym e.0)
          (later (sym (ap (λ (v : Bool). v || is_in t ts) (ne_eqb t u (λ k. e.1 (sym k)))) ∙ i))

  -- a property of each rule of an ascending list with its point is one of each position
  pub of-each : (ts : List ℕ) (zs : List ScaledPoint) → IsAscending ts → length zs ≡ length ts
      → ((t : ℕ) → is_in t ts ≡ true → P t (point_of ts zs t)) → AreEach P ts zs
  of-each [] [] a l h = tt
  of-each [] (z ∷ zs) a l h = absurd (omega (arith, l))
  of-each (u ∷ ts) [] a l h = absurd (omega (arith, l))
  of-each (u ∷ ts) (z ∷ zs) a l h = (own, of-each ts zs (rest-ascends u ts a) (omega (arith, l)) others)
    where
      own : P u z
      own = subst (λ (v : Bool). P u (cond v z (point_of ts zs u))) (same_number u)
          (h u (ap (λ (v : Bool). v || is_in u ts) (same_number u)))

      others : (t : ℕ) → is_in t ts ≡ true → P t (point_of ts zs t)
      others t i =
          subst (λ (v : Bool). P t (cond v z (point_of ts zs t)))
          (ne_eqb u t (λ e. omega (arith, e, first-least u ts a t i)))
          (h t (or_right (t == u) (is_in t ts) i))
