-- The first check of a size that fails over a table is the first over a table that has grown, as long as its reason
-- remains true.
use Rattle.std.proofs.Common.{◌≡◌, inl, inr, ℕ, ◌||◌, List, [], ◌∷◌, filter, Some, None, sym, ◌∙◌, ap, subst}
use Rattle.std.specs.Prelude.{⊤}
use Rattle.std.specs.List.{AllByRecursion}
use Rattle.std.proofs.lemmas.List.Elements.{recursion_from_All}
use Rattle.model.specs.Bounds.{Bound}
use Rattle.model.specs.Paths.{pre}
use Rattle.cert_types.specs.cert_rules.Nodes.{ResultVariable, Member}
use Rattle.cert_types.specs.cert_rules.Known.{IsKnown, Table}
use Rattle.cert_types.specs.cert_rules.Setting.{Setting}
use Rattle.cert_types.specs.cert_rules.ComposedSizes.{Flow, flows, rules_of, multiplies, adds}
use Rattle.cert_types.specs.cert_rules.AcceptsSizes.{HasMemberShape, IsStraight, spread_size, cycle_size}
use Rattle.cert_types.specs.cert_rules.Reasons.{Reason, Shape, NotEmpty, Reached, NotZero, Move, Floor, SideBoundUp, SideBoundLow}
use Rattle.cert_types.specs.cert_rules.Reasons.{MissingTime, MissingSize, Nonlinear, Large, NotWeaker}
use Rattle.cert_types.specs.cert_rules.Reasons.{Check, for_each, IsFirstAmong}
use Rattle.cert_types.specs.cert_rules.Checks.{check_up, check_low, check_size, check_time, check_small, needed_into}
use Rattle.cert_types.specs.cert_rules.Checks.{needed_times, straight_from, straight_into, spread_checks, cycle_checks}
use Rattle.cert_types.proofs.cert_rules.CheckLists.{each-in}
use Rattle.cert_types.proofs.cert_rules.SizeReasons.{members-known}
use Rattle.time_bounds.proofs.GrownBounds.{TableHasGrown, spread-stays, AreStraight, into-stays, cycle-stays}

-- the reason of a check remains true over a table: what was missing is missing
abbrev pub RemainsTrue : Table → Reason → Type 0
RemainsTrue tab Shape = ⊤
RemainsTrue tab NotEmpty = ⊤
RemainsTrue tab Reached = ⊤
RemainsTrue tab NotZero = ⊤
RemainsTrue tab (Move t) = ⊤
RemainsTrue tab Floor = ⊤
RemainsTrue tab (SideBoundUp t i) = ⊤
RemainsTrue tab (SideBoundLow t i) = ⊤
RemainsTrue tab (MissingTime t) = tab.time t ≡ None
RemainsTrue tab (MissingSize t i) = tab.size t i ≡ None
RemainsTrue tab (Nonlinear t i) = ⊤
RemainsTrue tab (Large n) = ⊤
RemainsTrue tab NotWeaker = ⊤

-- checks of the same elements over two tables: if each that held holds, and one that failed fails for the same reason,
-- the first that fails is the same
each-still : {A : Type 0} (f g : A → Check) (r : Reason) → ((x : A) → (f x).holds → (g x).holds)
    → ((x : A) → ¬ (f x).holds → (f x).reason ≡ r → ¬ (g x).holds × ((g x).reason ≡ r)) → (xs : List A) (rest later : List Check)
    → IsFirstAmong (for_each f xs rest) r
    → (AllByRecursion (λ x. (f x).holds) xs → IsFirstAmong rest r → IsFirstAmong later r) → IsFirstAmong (for_each g xs later) r
each-still f g r keeps fails [] rest later h k = k tt h
each-still f g r keeps fails (x ∷ xs) rest later (inl h) k = inl (fails x h.0 h.1)
each-still f g r keeps fails (x ∷ xs) rest later (inr h) k =
    inr (keeps x h.0, each-still f g r keeps fails xs rest later h.1 (λ all first. k (h.0, all) first))

-- checks that don't depend on the table fail alike
same-still : {A : Type 0} (f : A → Check) (r : Reason) (xs : List A) (rest later : List Check) → IsFirstAmong (for_each f xs rest) r
    → (AllByRecursion (λ x. (f x).holds) xs → IsFirstAmong rest r → IsFirstAmong later r) → IsFirstAmong (for_each f xs later) r
same-still f r xs rest later h k = each-still f f r (λ x y. y) (λ x y e. (y, e)) xs rest later h k

none-some : (b : Bound) → None ≡ Some b → ⊥
none-some b e = cc

module _ (s : Setting) (old new : Table) (grown : TableHasGrown old new) (r : Reason) (stands : RemainsTrue new r) where
  -- the checks that sizes, or times, are known
  sizes-still : (result_variables : List ResultVariable) (rest later : List Check) → IsFirstAmong (for_each (check_size old) result_variables rest) r
      → (AllByRecursion (λ m. IsKnown (old.size m.rule m.place)) result_variables → IsFirstAmong rest r → IsFirstAmong later r)
      → IsFirstAmong (for_each (check_size new) result_variables later) r
  sizes-still result_variables rest later h k =
      each-still (check_size old) (check_size new) r (λ m y. (y.0, grown.sizes m.rule m.place y.0 y.1))
      (λ m n e. ((λ y. none-some y.0 (sym (subst (RemainsTrue new) (sym e) stands) ∙ y.1)), e)) result_variables rest later h k

  times-still : (ts : List ℕ) (rest later : List Check) → IsFirstAmong (for_each (check_time old) ts rest) r
      → (AllByRecursion (λ t. IsKnown (old.time t)) ts → IsFirstAmong rest r → IsFirstAmong later r)
      → IsFirstAmong (for_each (check_time new) ts later) r
  times-still ts rest later h k =
      each-still (check_time old) (check_time new) r (λ t y. (y.0, grown.times t y.0 y.1))
      (λ t n e. ((λ y. none-some y.0 (sym (subst (RemainsTrue new) (sym e) stands) ∙ y.1)), e)) ts rest later h k

  -- the check that a composed bound is small, if the bound is unchanged
  small-still : (a b : Bound) → a ≡ b → IsFirstAmong (check_small s a ∷ []) r → IsFirstAmong (check_small s b ∷ []) r
  small-still a b e h = subst (λ (x : Bound). IsFirstAmong (check_small s x ∷ []) r) e h

  -- the checks of a place that doesn't loop
  pub spread-still : (m : Member) → IsFirstAmong (spread_checks s old m) r → IsFirstAmong (spread_checks s new m) r
  spread-still m (inl h) = inl h
  spread-still m (inr (shape, inl h)) = inr (shape, inl h)
  spread-still m (inr (shape, inr (up, inl h))) = inr (shape, inr (up, inl h))
  spread-still m (inr (shape, inr (up, inr (low, h)))) =
      inr (
        shape,
        inr (
          up,
          inr (
            low,
            sizes-still (needed_into s [] (m ∷ [])) (check_small s (spread_size s old m) ∷ [])
                (check_small s (spread_size s new m) ∷ []) h
                (λ sizes first. small-still (spread_size s old m) (spread_size s new m)
                (spread-stays s old new grown m (members-known s old [] (m ∷ []) (shape, tt) (up, tt) (low, tt) sizes).0) first),
          ),
        ),
      )

  module _ (ms : List Member) where
    from-still : (m : Member) (es : List ℕ) (rest later : List Check) → IsFirstAmong (straight_from s ms m es rest) r
        → (AllByRecursion (AreStraight s old new grown ms m) es → IsFirstAmong rest r → IsFirstAmong later r)
        → IsFirstAmong (straight_from s ms m es later) r
    from-still m [] rest later h k = k tt h
    from-still m (e ∷ es) rest later (inl h) k = inl h
    from-still m (e ∷ es) rest later (inr (up, inl h)) k = inr (up, inl h)
    from-still m (e ∷ es) rest later (inr (up, inr (low, h))) k =
        inr (up, inr (low, from-still m es rest later h (λ all first. k ((up, low), all) first)))

    -- the checks that no side bound is nonlinear are the same
    into-still : (ns : List Member) (rest later : List Check) → IsFirstAmong (straight_into s ms ns rest) r
        → (AllByRecursion (IsStraight s ms) ns → IsFirstAmong rest r → IsFirstAmong later r)
        → IsFirstAmong (straight_into s ms ns later) r
    into-still [] rest later h k = k tt h
    into-still (m ∷ ns) rest later h k =
        from-still m (pre s.program m.result_variable.rule) (straight_into s ms ns rest) (straight_into s ms ns later) h
        (λ here left. into-still ns rest later left (λ all first. k (straight m here, all) first))
      where
        straight : (m : Member) → AllByRecursion (AreStraight s old new grown ms m) (pre s.program m.result_variable.rule) → IsStraight s ms m
        straight m here = record {
          up = λ e i. (each-in (AreStraight s old new grown ms m) (pre s.program m.result_variable.rule) here e i).0;
          low = λ e i. (each-in (AreStraight s old new grown ms m) (pre s.program m.result_variable.rule) here e i).1;
        }

    -- the checks after those of sizes: that side bounds are linear, of times, and that the size is small
    abbrev small_checks : Table → List Check
    small_checks tab = check_small s (cycle_size s tab ms) ∷ []

    abbrev time_checks : Table → List Check
    time_checks tab = for_each (check_time tab) (needed_times s tab ms) (small_checks tab)

    abbrev nonlinear_checks : Table → List Check
    nonlinear_checks tab = straight_into s ms ms (time_checks tab)

    abbrev size_checks : Table → List Check
    size_checks tab = for_each (check_size tab) (needed_into s ms ms) (nonlinear_checks tab)

    timed-still : flows s ms old.size ≡ flows s ms new.size → IsFirstAmong (time_checks old) r → IsFirstAmong (time_checks new) r
    timed-still same h =
        subst (λ (ts : List ℕ). IsFirstAmong (for_each (check_time new) ts (small_checks new)) r)
        (ap (λ (fs : List Flow). filter (λ t. multiplies fs t || adds s fs t) (rules_of s ms)) same)
        (times-still (needed_times s old ms) (small_checks old) (small_checks new) h
        (λ times first. small-still (cycle_size s old ms) (cycle_size s new ms) (cycle-stays s old new grown ms same times) first))

    -- the checks of the members of a loop
    pub cycle-still : IsFirstAmong (cycle_checks s old ms) r → IsFirstAmong (cycle_checks s new ms) r
    cycle-still (inl h) = inl h
    cycle-still (inr (shape, h)) =
        inr (
          shape,
          same-still (check_up s) r ms (for_each (check_low s) ms (size_checks old)) (for_each (check_low s) ms (size_checks new)) h
              (λ ups behind_ups. same-still (check_low s) r ms (size_checks old) (size_checks new) behind_ups
              (λ lows behind_lows. sizes-still (needed_into s ms ms) (nonlinear_checks old) (nonlinear_checks new) behind_lows
              (λ sizes behind_sizes. into-still ms (time_checks old) (time_checks new) behind_sizes
              (λ straight first. timed-still (into-stays s old new grown ms ms
              (members-known s old ms ms (recursion_from_All (HasMemberShape s) ms shape.each) ups lows sizes) straight) first)))),
        )
