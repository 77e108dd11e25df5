-- A lasso has at most one right verdict.
use Rattle.std.proofs.Common.{◌≡◌, ◌⊎◌, inl, inr, ℕ, zero, suc, ◌+◌, ◌<◌, ◌≤◌, List, take, get_or, ℤ, pos, refl, sym}
use Rattle.std.proofs.Common.{◌∙◌, ap, subst, arith, Ok, Err, Option, Some, None}
use Rattle.std.specs.Prelude.{Result, IfSome}
use Rattle.std.proofs.lemmas.List.{get_or-take}
use Rattle.its_model.specs.model.Programs.{Program}
use Rattle.its_model.specs.model.Runs.{Config}
use Rattle.its_model.proofs.poly_terms.model.RunLaws.{same_end}
use Rattle.bound_expr.specs.Capped.{capped}
use Rattle.run_replay.specs.ReplayLaws.{ReplaysAreDecided}
use Rattle.run_replay.specs.Replays.{BadStep, IsFirstBadStep}
use Rattle.lasso_check.specs.Lassos.{Lasso, stem_back, both_back}
use Rattle.lasso_check.specs.Checks.{GoesRoundInRange, IsFirstDifference, IsOpenAt, Turn, Verdict, Round, Bad, OpenAt}
use Rattle.lasso_check.specs.CheckAnswers.{IsTurn, HasVerdict, turn_of, verdict_in, Finds, FindsOnly}
use Rattle.lasso_check.specs.declared.checking.Turn as code
use Rattle.lasso_check.specs.declared.checking_error.LassoError.{LassoError}
use Rattle.lasso_check.specs.CheckLaws.{LassosHaveOneVerdict}

-- a configuration doesn't differ from itself
no_difference : (b c : Config) (place : ℕ) → b ≡ c → IsFirstDifference b c place → ⊥
no_difference b c zero e h = h (ap (λ (d : Config). d.at) e)
no_difference b c (suc i) e h = h.2 (ap (λ (d : Config). get_or d.values i (pos 0)) e)

-- lists whose first j values agree agree at each place before j
take_same-get_or : (xs ys : List ℤ) (i j : ℕ) → i < j → take j xs ≡ take j ys → get_or xs i (pos 0) ≡ get_or ys i (pos 0)
take_same-get_or xs ys i j low e =
    sym (get_or-take j xs i (pos 0) low)
    ∙ (ap (λ (zs : List ℤ). get_or zs i (pos 0)) e ∙ get_or-take j ys i (pos 0) low)

-- two configurations have at most one first difference
first_difference-unique : (b c : Config) (i j : ℕ) → IsFirstDifference b c i → IsFirstDifference b c j → i ≡ j
first_difference-unique b c zero zero h k = refl
first_difference-unique b c zero (suc j) h k = absurd (h k.0)
first_difference-unique b c (suc i) zero h k = absurd (k h.0)
first_difference-unique b c (suc i) (suc j) h k = go (order i j)
  where
    order : (x y : ℕ) → (x < y) ⊎ ((x ≡ y) ⊎ (y < x))
    order zero zero = inr (inl refl)
    order zero (suc y) = inl (omega arith)
    order (suc x) zero = inr (inr (omega arith))
    order (suc x) (suc y) =
        elim (order x y) [ inl l ↦ inl (omega (arith, l)) | inr (inl e) ↦ inr (inl (ap suc e)) | inr (inr l) ↦ inr (inr (omega (arith, l))) ]

    go : (i < j) ⊎ ((i ≡ j) ⊎ (j < i)) → suc i ≡ suc j
    go (inl l) = absurd (h.2 (take_same-get_or b.values c.values i j l k.1))
    go (inr (inl e)) = ap suc e
    go (inr (inr l)) = absurd (k.2 (take_same-get_or b.values c.values j i l h.1))

-- turns with the same rules and cost are the same
same_turn : (t u : Turn) → t.rules ≡ u.rules → t.cost ≡ u.cost → t ≡ u
same_turn t u e f = λ i. record { rules = e i; cost = f i }

module _ (law : ReplaysAreDecided) (p : Program) (l : Lasso) where
  -- a turn that leads back has only one result
  pub turn-unique : (t u : Turn) → IsTurn p l t → IsTurn p l u → t ≡ u
  turn-unique t u h k =
      let charged : h.charged ≡ k.charged = omega (arith, h.costs, k.costs) in
      same_turn t u (h.rules ∙ sym k.rules) (h.cost ∙ (ap capped charged ∙ sym k.cost))

  -- a turn that leads back isn't open
  pub round_not_open : (place : ℕ) → GoesRoundInRange p l → IsOpenAt p l place → ⊥
  round_not_open place h k =
      let before : k.before ≡ h.at = same_end p l.start (stem_back l) k.before h.at k.stem.run h.stem.run in
      let behind : k.behind ≡ h.at = same_end p l.start (both_back l) k.behind h.at k.whole.run h.whole.run in
      no_difference k.before k.behind place (before ∙ sym behind) k.first

  -- neither a turn that leads back nor an open one has a bad step
  pub round_not_bad : (bad : BadStep) → GoesRoundInRange p l → IsFirstBadStep p l.start (both_back l) bad → ⊥
  round_not_bad bad h k = law.none_bad p l.start (both_back l) bad (h.at, h.whole) k

  pub open_not_bad : (place : ℕ) (bad : BadStep) → IsOpenAt p l place → IsFirstBadStep p l.start (both_back l) bad → ⊥
  open_not_bad place bad h k = law.none_bad p l.start (both_back l) bad (h.behind, h.whole) k

  -- a turn is open at no more than one first place
  pub open-unique : (i j : ℕ) → IsOpenAt p l i → IsOpenAt p l j → i ≡ j
  open-unique i j h k =
      let before : k.before ≡ h.before = same_end p l.start (stem_back l) k.before h.before k.stem.run h.stem.run in
      let behind : k.behind ≡ h.behind = same_end p l.start (both_back l) k.behind h.behind k.whole.run h.whole.run in
      first_difference-unique h.before h.behind i j h.first
      (subst (λ (c : Config). IsFirstDifference h.before c j) behind
      (subst (λ (c : Config). IsFirstDifference c k.behind j) before k.first))

  -- a lasso has at most one right verdict, if replays are decided
  pub verdict-unique : (v w : Verdict) → HasVerdict p l v → HasVerdict p l w → v ≡ w
  verdict-unique (Round t) (Round u) h k = ap (λ (x : Turn). Round x) (turn-unique t u h k)
  verdict-unique (Round t) (Bad b) h k = absurd (round_not_bad b h.round k)
  verdict-unique (Round t) (OpenAt i) h k = absurd (round_not_open i h.round k)
  verdict-unique (Bad a) (Round t) h k = absurd (round_not_bad a k.round h)
  verdict-unique (Bad a) (Bad b) h k = ap (λ (x : BadStep). Bad x) (law.one_bad p l.start (both_back l) a b h k)
  verdict-unique (Bad a) (OpenAt i) h k = absurd (open_not_bad i a k h)
  verdict-unique (OpenAt i) (Round t) h k = absurd (round_not_open i k.round h)
  verdict-unique (OpenAt i) (Bad b) h k = absurd (open_not_bad i b h k)
  verdict-unique (OpenAt i) (OpenAt j) h k = ap (λ (x : ℕ). OpenAt x) (open-unique i j h k)

-- a lasso has at most one verdict
pub one_verdict : ReplaysAreDecided → LassosHaveOneVerdict
one_verdict law = record { one = λ p l v w h k. verdict-unique law p l v w h k }

-- a right result gives the right verdict and no other one
pub found_only : LassosHaveOneVerdict → (p : Program) (l : Lasso) (v : Verdict) → HasVerdict p l v
    → (result : Result code.Turn LassoError) → Finds p l result → FindsOnly v result
found_only law p l v h (Ok t) k = law.one p l (Round (turn_of t)) v k h
found_only law p l v h (Err e) k = go (verdict_in e) k
  where
    go : (o : Option Verdict) → IfSome o (HasVerdict p l) → IfSome o (λ w. w ≡ v)
    go None k = tt
    go (Some w) k = law.one p l w v k h
