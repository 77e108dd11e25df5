-- Why the size of an accepted spread holds: the sizes after the rules that can come before hold, and both side bounds
-- are at least the new value on their side.
use Rattle.std.proofs.Common.{◌≡◌, ◌⊎◌, inl, inr, ℕ, suc, ◌+◌, ◌*◌, ◌≤◌, max, true, false, List, [], ◌∷◌, length}
use Rattle.std.proofs.Common.{Option, Some, None, refl, sym, ap, ◌∙◌, subst, arith, le_trans}
use Rattle.std.specs.Prelude.{ℤ, pos, neg_ℤ, ◌≤ℤ◌, nat_abs}
use Rattle.std.proofs.lemmas.Int.{ints}
use Rattle.run_counting.specs.model.Programs.{Program, rule_at}
use Rattle.run_counting.specs.model.Runs.{Config, Step, IsStep, IsRun, last_rule, place_value, sizes_of_start}
use Rattle.run_counting.specs.model.Bounds.{Bound, val, val_maximum, IsBased}
use Rattle.run_counting.specs.model.Polynomials.{Polynomial}
use Rattle.run_counting.specs.model.Facts.{Size}
use Rattle.rule_forms.specs.linear_forms.Forms.{at}
use Rattle.cert_rules.specs.Nodes.{ResultVariable, SideBound, Linear, Poly, Member}
use Rattle.run_counting.specs.model.Entries.{is_in}
use Rattle.run_counting.specs.model.Paths.{pre}
use Rattle.cert_rules.specs.Known.{Table}
use Rattle.cert_rules.specs.Setting.{Setting, StepPoint, IsFaithful}
use Rattle.cert_rules.specs.Composed.{parts_for, no_place, sizes_after}
use Rattle.cert_rules.specs.ComposedSizes.{poly_at, reads, slope_of, offset_of, composed_side_bound, spread_part}
use Rattle.cert_rules.specs.AcceptsSizes.{Up, Low, Side, IsResultVariable, HasSideBoundShape, AcceptsSideBound, left_in, left_of}
use Rattle.cert_rules.specs.AcceptsSizes.{SideBoundHasSizes, HasSizesAfter, spread_size, AcceptsSpread}
use Rattle.run_counting.proofs.model.Membership.{is_in-cases, no_is_not_yes}
use Rattle.cert_rules.proofs.LastSteps.{last_precedes}
use Rattle.cert_rules.proofs.GoodFacts.{IsGood, IsGoodTable, known-size, known_size-based}
use Rattle.cert_rules.proofs.Bases.{parts_for-based, composed_side_bound-based}
use Rattle.cert_rules.proofs.AbsoluteValues.{abs-within}
use Rattle.cert_rules.proofs.SideBounds.{on_side, StaysOutside, side_bound-covered}

-- a part for a listed number is at most the maximum of the parts
pub listed_below : (f : ℕ → Bound) (es : List ℕ) (m : List ℕ) (e : ℕ) → is_in e es ≡ true
    → val (f e) m ≤ val_maximum (parts_for f es) m
listed_below f [] m e h = absurd (no_is_not_yes false refl h)
listed_below f (x ∷ es) m e h = go (is_in-cases e x es h) (λ k. listed_below f es m e k)
  where
    go : (e ≡ x) ⊎ (is_in e es ≡ true) → (is_in e es ≡ true → val (f e) m ≤ val_maximum (parts_for f es) m)
        → val (f e) m ≤ val_maximum (parts_for f (x ∷ es)) m
    go (inl same) ih = omega (arith, ap (λ (n : ℕ). val (f n) m) same)
    go (inr k) ih = omega (arith, ih k)

-- a step by a rule, as a point of that rule's rows
pub point_of : (s : Setting) → IsFaithful s → (b : Config) (st : Step) (c : Config) → IsStep s.program b st c
    → (t : ℕ) → st.rule ≡ t → StepPoint s t b st.free c
point_of s true_to b st c x t same = subst (λ (u : ℕ). StepPoint s u b st.free c) same (true_to.steps b st c x)

-- a step begins with a value for each left variable of its rule
pub left_values : (p : Program) (b : Config) (st : Step) (c : Config) → IsStep p b st c → (t : ℕ) → st.rule ≡ t
    → left_of p t ≡ length b.values
left_values p b st c x t same = ap (λ (u : ℕ). left_of p u) (sym same) ∙ (ap left_in x.numbered ∙ sym x.leads.left)

-- the empty run doesn't end with the rule of a result variable
pub no_empty_run : (p : Program) (result_variable : ResultVariable) → IsResultVariable p result_variable → last_rule [] ≡ result_variable.rule → ⊥
no_empty_run p result_variable h same = none_some (ap (λ (u : ℕ). rule_at p u) same ∙ h.numbered)
  where
    none_some : None ≡ Some h.rule → ⊥
    none_some e = cc

-- if no place is inside, no polynomial reads a place inside
pub stays_out : (s : Setting) (result_variable : ResultVariable) (side_bound : SideBound) → StaysOutside s result_variable no_place side_bound
stays_out s result_variable (Linear den form multipliers) = tt
stays_out s result_variable Poly = λ j k. refl

-- if no place is inside, the offset of a side bound is the side bound as a bound
pub whole_side_bound : (o : Option Polynomial) (side_bound : SideBound) (sizes : ℕ → Bound) (m : List ℕ)
    → val (offset_of o side_bound no_place sizes) m ≡ val (composed_side_bound o side_bound sizes) m
whole_side_bound o (Linear den form multipliers) sizes m = refl
whole_side_bound o Poly sizes m = refl

module _ (s : Setting) (true_to : IsFaithful s) (table : Table) (good : IsGoodTable s.program table) (m : Member)
    (h : AcceptsSpread s table m) where
  -- an accepted side bound, at the sizes after the rule before, is at least the new value on its side
  spread_side_bound : (start : List ℤ) (earlier : List Step) (b : Config) (st : Step) (c : Config)
      → IsRun s.program start earlier b → IsStep s.program b st c → st.rule ≡ m.result_variable.rule
      → is_in (last_rule earlier) (pre s.program m.result_variable.rule) ≡ true
      → (side : Side) (side_bound : SideBound) → HasSideBoundShape s m.result_variable.rule (left_of s.program m.result_variable.rule) side_bound
      → AcceptsSideBound s m.result_variable side side_bound
      → SideBoundHasSizes s table [] m.result_variable side_bound (last_rule earlier)
      → on_side side (place_value c m.result_variable.place) ≤ℤ pos
      (val (composed_side_bound (poly_at s m.result_variable) side_bound (sizes_after table.size (last_rule earlier)))
      (sizes_of_start start))
  spread_side_bound start earlier b st c run x same before side side_bound shape accepted sizes =
      let size : (j : ℕ) → reads (poly_at s m.result_variable) side_bound j ≡ true → no_place j ≡ false
      → nat_abs (at b.values j) ≤ val (sizes_after table.size (last_rule earlier) j) (sizes_of_start start) =
      λ j k l. let fact = known-size s.program table good (last_rule earlier) (suc j)
      (sizes j k refl) in fact.each start earlier b run refl in
      plain (on_side side (place_value c m.result_variable.place)) (slope_of side_bound no_place) _ _
      (side_bound-covered s m.result_variable b st.free c (point_of s true_to b st c x m.result_variable.rule same) h.shape.at.least
      (left_values s.program b st c x m.result_variable.rule same)
      no_place 0 (sizes_after table.size (last_rule earlier)) (sizes_of_start start)
      (λ j k. absurd (no_is_not_yes false refl k)) side side_bound shape accepted size (stays_out s m.result_variable side_bound))
      (whole_side_bound (poly_at s m.result_variable) side_bound (sizes_after table.size (last_rule earlier)) (sizes_of_start start))
    where
      plain : (v : ℤ) (k n o : ℕ) → v ≤ℤ pos (k * 0 + n) → n ≡ o → v ≤ℤ pos o
      plain v k n o l e = omega (arith, ints, l, e)

  -- the new value of a step is at most the maximum over the rules that can come before
  spread_step : (start : List ℤ) (earlier : List Step) (b : Config) (st : Step) (c : Config)
      → IsRun s.program start earlier b → IsStep s.program b st c → st.rule ≡ m.result_variable.rule
      → nat_abs (place_value c m.result_variable.place) ≤ val (spread_size s table m) (sizes_of_start start)
  spread_step start earlier b st c run x same =
      let before : is_in (last_rule earlier) (pre s.program m.result_variable.rule) ≡ true =
      subst (λ (t : ℕ). is_in (last_rule earlier) (pre s.program t) ≡ true) same
      (last_precedes s.program start earlier b st c run x) in
      let sizes : HasSizesAfter s table [] m (last_rule earlier) = h.sizes (last_rule earlier) before in
      let up = spread_side_bound start earlier b st c run x same before Up m.local.up h.shape.up h.up
      sizes.up in
      let low = spread_side_bound start earlier b st c run x same before Low m.local.low h.shape.low h.low
      sizes.low in
      le_trans (either (place_value c m.result_variable.place) _ _ up low)
      (listed_below (spread_part s m table.size) (pre s.program m.result_variable.rule) (sizes_of_start start)
      (last_rule earlier) before)
    where
      either : (v : ℤ) (a b : ℕ) → v ≤ℤ pos a → neg_ℤ v ≤ℤ pos b → nat_abs v ≤ max a (max b 0)
      either v a b k l = abs-within v (max a (max b 0)) (omega (arith, ints, k)) (omega (arith, ints, l))

  -- the size holds after every run that ends with the rule
  spread_holds : (start : List ℤ) (steps : List Step) (c : Config) → IsRun s.program start steps c
      → last_rule steps ≡ m.result_variable.rule
      → nat_abs (place_value c m.result_variable.place) ≤ val (spread_size s table m) (sizes_of_start start)
  spread_holds start [] c run same = absurd (no_empty_run s.program m.result_variable h.shape.at same)
  spread_holds start (st ∷ earlier) c (b, run, x) same = spread_step start earlier b st c run x same

  -- the size that an accepted spread composes has bases of at least 1
  spread_size-based : IsBased (spread_size s table m)
  spread_size-based = (
    tt,
    parts_for-based (spread_part s m table.size)
        (λ e. (
          tt,
          (
            composed_side_bound-based (poly_at s m.result_variable) m.local.up (sizes_after table.size e)
                (λ j. known_size-based s.program table good e (suc j)),
            (
              composed_side_bound-based (poly_at s m.result_variable) m.local.low (sizes_after table.size e)
                  (λ j. known_size-based s.program table good e (suc j)),
              tt,
            ),
          ),
        )) (pre s.program m.result_variable.rule),
  )

  -- the fact of an accepted spread is good
  pub spread-good : IsGood s.program (Size m.result_variable.rule m.result_variable.place (s.rewrite (spread_size s table m)))
  spread-good = record {
    holds = record {
      each = λ start steps c run last.
          subst (λ (n : ℕ). nat_abs (place_value c m.result_variable.place) ≤ n)
          (sym (true_to.values (spread_size s table m) spread_size-based (sizes_of_start start)))
          (spread_holds start steps c run last);
    };
    based = true_to.bases (spread_size s table m) spread_size-based;
  }
