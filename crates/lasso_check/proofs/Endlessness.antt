-- The rules of a turn that leads back occur arbitrarily often.
use Rattle.std.proofs.Common.{◌≡◌, ◌≢◌, Bool, inl, inr, ◌⊎◌, true, false, ℕ, zero, suc, ◌+◌, ◌<◌, ◌≤◌, List, [], ◌∷◌, ◌++◌, length}
use Rattle.std.proofs.Common.{reverse, ◌==◌, refl, sym, ◌∙◌, ap, subst, arith, min}
use Rattle.std.specs.Prelude.{nat_lt}
use Rattle.std.specs.List.{All, filter, range_with_len}
use Rattle.std.proofs.lemmas.Bool.Decides.{eqb_tells, nat_tests}
use Rattle.std.proofs.lemmas.List.{reverse-append, length-reverse}
use Rattle.std.proofs.lemmas.List.Elements.{All-nil, All-cons}
use Rattle.its_model.specs.model.Programs.{Program}
use Rattle.its_model.specs.model.Runs.{Step, IsRun, count}
use Rattle.its_model.specs.model.Spending.{spent_all}
use Rattle.its_model.proofs.poly_terms.model.RunLaws.{one_if_same-other}
use Rattle.its_model.specs.model.Bounds.{Bound}
use Rattle.its_model.specs.model.Facts.{HoldsTime}
use Rattle.bound_expr.specs.Limits.{cap}
use Rattle.lassos.specs.Lassos.{Endless, IsUsed, GoesRound}
use Rattle.lassos.specs.Laws.{LassosAreEndless, EndlessRulesHaveNoTime, CostlyTurnsHaveNoTotal}
use Rattle.lasso_check.specs.Lassos.{Lasso, stem_back, turn_back, both_back}
use Rattle.lasso_check.specs.Checks.{GoesRoundInRange, is_used_in}
use Rattle.lasso_check.specs.Checks as checks
use Rattle.lasso_check.specs.CheckAnswers.{IsTurn}
use Rattle.lasso_check.specs.CheckLaws.{ListedRulesAreEndless}

-- the steps of both parts, last step first, are those of the turn followed by those of the stem
both-append : (l : Lasso) → both_back l ≡ turn_back l ++ stem_back l
both-append l = reverse-append l.stem l.turn

-- a turn that leads back in range leads back
pub goes_round : (p : Program) (l : Lasso) → (h : GoesRoundInRange p l) → GoesRound p l.start (stem_back l) (turn_back l) h.at
goes_round p l h = record {
  begins = h.stem.run;
  whole = subst (λ (ss : List Step). IsRun p l.start ss h.at) (both-append l) h.whole.run;
  nonempty = omega (arith, h.nonempty, length-reverse l.turn);
}

-- a rule with a number from 1 on is used if its count isn't 0
counted_used : (t : ℕ) (steps : List Step) → 1 ≤ t → 1 ≤ count t steps → IsUsed t steps
counted_used t [] low h = absurd (omega (arith, h, one_if_same-other 0 t (λ e. omega (arith, e, low))))
counted_used t (s ∷ earlier) low h = go (eqb_tells s.rule t) (counted_used t earlier low)
  where
    go : ((s.rule == t) ≡ true) × (s.rule ≡ t) ⊎ ((s.rule == t) ≡ false) × (s.rule ≢ t)
        → (1 ≤ count t earlier → IsUsed t earlier) → IsUsed t (s ∷ earlier)
    go (inl (test, same)) before = inl same
    go (inr (test, other)) before = inr (before (omega (arith, h, one_if_same-other s.rule t other)))

-- what holds of each used number from 1 on holds of every number in the filtered list
pub all_used : (steps : List Step) (P : ℕ → Type 0) → ((t : ℕ) → IsUsed t steps → P t) → (a n : ℕ) → 1 ≤ a
    → All P (filter (is_used_in steps) (range_with_len a n))
all_used steps P each a zero low = All-nil P
all_used steps P each a (suc n) low = go (is_used_in steps a) refl (all_used steps P each (a + 1) n (omega arith))
  where
    some : is_used_in steps a ≡ true → 1 ≤ count a steps
    some e = grind (arith, nat_tests)

    go : (v : Bool) → is_used_in steps a ≡ v → All P (filter (is_used_in steps) (range_with_len (a + 1) n))
        → All P (filter (is_used_in steps) (range_with_len a (suc n)))
    go true e rest =
        rw e (All-cons P a (filter (is_used_in steps) (range_with_len (a + 1) n))
        (each a (counted_used a steps low (some e))) rest)
    go false e rest = rw e rest

-- if a turn costs something, both parts cost more than the stem
costs_more : (p : Program) (l : Lasso) (t : checks.Turn) (h : IsTurn p l t) → 1 ≤ t.cost
    → 1 + spent_all p l.start (stem_back l) ≤ spent_all p l.start (turn_back l ++ stem_back l)
costs_more p l t h low =
    let some : 1 ≤ h.charged = at_least h.charged cap (subst (λ (n : ℕ). 1 ≤ n) h.cost low) in
    let whole = ap (λ (ss : List Step). spent_all p l.start ss) (both-append l) in
    omega (arith, h.costs, some, whole)
  where
    at_least : (n limit : ℕ) → 1 ≤ min n limit → 1 ≤ n
    at_least n limit k = omega (arith, k)

pub listed_endless : LassosAreEndless → EndlessRulesHaveNoTime → CostlyTurnsHaveNoTotal → ListedRulesAreEndless
listed_endless endless no_time no_total = record {
  endless = λ p l t h. each p l t h (λ u. Endless p l.start u) (λ u used. round p l t h u used);
  no_time = λ p l t h. each p l t h (λ u. (bound : Bound) → ¬ (HoldsTime p u bound))
      (λ u used. no_time.each p l.start u (round p l t h u used));
  no_total = λ p l t h low.
      no_total.round p l.start (stem_back l) (turn_back l) h.round.at (goes_round p l h.round) (costs_more p l t h low);
}
  where
    round : (p : Program) (l : Lasso) (t : checks.Turn) → IsTurn p l t → (u : ℕ) → IsUsed u (turn_back l) → Endless p l.start u
    round p l t h u used =
        endless.round p l.start (stem_back l) (turn_back l) h.round.at (goes_round p l h.round) u used

    each : (p : Program) (l : Lasso) (t : checks.Turn) → IsTurn p l t → (P : ℕ → Type 0)
        → ((u : ℕ) → IsUsed u (turn_back l) → P u) → All P t.rules
    each p l t h P give =
        subst (All P) (sym h.rules) (all_used (turn_back l) P give 1 (length p.rules) (omega arith))
