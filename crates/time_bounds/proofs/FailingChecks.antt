-- If a check of a size is the first that fails, what follows from its failure holds.
use Rattle.std.proofs.Common.{◌≡◌, inl, inr, ℕ, List, [], ◌∷◌}
use Rattle.std.specs.List.{AllByRecursion}
use Rattle.model.specs.Bounds.{Bound}
use Rattle.model.specs.Paths.{pre}
use Rattle.cert_types.specs.cert_rules.AcceptsSizes.{IsStraightSideBound, spread_size, cycle_size}
use Rattle.cert_types.specs.cert_rules.Checks.{large_nodes, check_size, check_time, check_up, check_low, check_small}
use Rattle.cert_types.specs.cert_rules.Checks.{needed_into, needed_times, straight_from, straight_into, spread_checks}
use Rattle.cert_types.specs.cert_rules.Checks.{cycle_checks}
use Rattle.cert_types.specs.cert_rules.Known.{IsKnown, Table}
use Rattle.cert_types.specs.cert_rules.Limits.{IsSmallComposed}
use Rattle.cert_types.specs.cert_rules.Nodes.{ResultVariable, Member}
use Rattle.cert_types.specs.cert_rules.Reasons.{Reason, Shape, SideBoundUp, SideBoundLow, MissingTime, MissingSize, Nonlinear, Large}
use Rattle.cert_types.specs.cert_rules.Reasons.{Check, for_each, IsFirstAmong}
use Rattle.cert_types.specs.cert_rules.Setting.{Setting}

-- a property of each element is one of all elements of a list
pub of_all : {A : Type 0} (P : A → Type 0) → ((x : A) → P x) → (xs : List A) → AllByRecursion P xs
of_all P h [] = tt
of_all P h (x ∷ xs) = (h x, of_all P h xs)

module _ (r : Reason) (S : Type 0) where
  -- for each check: if it fails with the reason, the conclusion follows
  abbrev pub AllGive : List Check → Type 0
  AllGive [] = Unit {0}
  AllGive (c ∷ cs) = ((c.holds → ⊥) → c.reason ≡ r → S) × AllGive cs

  -- if the first check that fails has the reason, the conclusion follows
  pub first_gives : (cs : List Check) → IsFirstAmong cs r → AllGive cs → S
  first_gives [] h all = absurd h
  first_gives (c ∷ cs) (inl h) all = all.0 h.0 h.1
  first_gives (c ∷ cs) (inr h) all = first_gives cs h.1 all.1

  -- the conclusion follows from checks for each element of a list, if it follows from each
  pub each_gives : {A : Type 0} (f : A → Check) (xs : List A) (rest : List Check)
      → AllByRecursion (λ x. ((f x).holds → ⊥) → (f x).reason ≡ r → S) xs → AllGive rest → AllGive (for_each f xs rest)
  each_gives f [] rest h all = all
  each_gives f (x ∷ xs) rest h all = (h.0, each_gives f xs rest h.1 all)

  module _ (s : Setting) (members : List Member) where
    -- if one of both side bounds of a member after a rule is nonlinear with the reason, the conclusion follows
    abbrev pub NonlinearGives : Member → ℕ → Type 0
    NonlinearGives m e = ((IsStraightSideBound s members m e m.local.up → ⊥) → Nonlinear m.result_variable.rule m.result_variable.place ≡ r → S)
        × ((IsStraightSideBound s members m e m.local.low → ⊥) → Nonlinear m.result_variable.rule m.result_variable.place ≡ r → S)

    pub from_gives : (m : Member) (es : List ℕ) (rest : List Check) → AllByRecursion (NonlinearGives m) es → AllGive rest
        → AllGive (straight_from s members m es rest)
    from_gives m [] rest h all = all
    from_gives m (e ∷ es) rest h all = (h.0.0, (h.0.1, from_gives m es rest h.1 all))

    pub into_gives : (ms : List Member) (rest : List Check)
        → AllByRecursion (λ m. AllByRecursion (NonlinearGives m) (pre s.program m.result_variable.rule)) ms → AllGive rest
        → AllGive (straight_into s members ms rest)
    into_gives [] rest h all = all
    into_gives (m ∷ ms) rest h all =
        from_gives m (pre s.program m.result_variable.rule) (straight_into s members ms rest) h.0 (into_gives ms rest h.1 all)

  -- the conclusion follows if what fails is neither the shape nor a side bound, and follows from what is missing,
  -- nonlinear or large
  module _ (s : Setting) (tab : Table) (shape : Shape ≡ r → ⊥) (up : (t i : ℕ) → SideBoundUp t i ≡ r → ⊥)
      (low : (t i : ℕ) → SideBoundLow t i ≡ r → ⊥) where
    abbrev pub SizeGives : ResultVariable → Type 0
    SizeGives m = (IsKnown (tab.size m.rule m.place) → ⊥) → MissingSize m.rule m.place ≡ r → S

    abbrev pub TimeGives : ℕ → Type 0
    TimeGives t = (IsKnown (tab.time t) → ⊥) → MissingTime t ≡ r → S

    abbrev pub LargeGives : Bound → Type 0
    LargeGives b = (IsSmallComposed s.rewrite b → ⊥) → Large (large_nodes s.rewrite b) ≡ r → S

    -- the conclusion follows from the checks of a place that doesn't loop
    pub spread_gives : (m : Member) → AllByRecursion SizeGives (needed_into s [] (m ∷ [])) → LargeGives (spread_size s tab m)
        → IsFirstAmong (spread_checks s tab m) r → S
    spread_gives m sizes large h =
        first_gives (spread_checks s tab m) h (
          (λ fails e. absurd (shape e)),
          (
            (λ fails e. absurd (up m.result_variable.rule m.result_variable.place e)),
            (
              (λ fails e. absurd (low m.result_variable.rule m.result_variable.place e)),
              each_gives (check_size tab) (needed_into s [] (m ∷ [])) (check_small s (spread_size s tab m) ∷ []) sizes (large, tt),
            ),
          ),
        )

    -- the checks of members that loop, from the last ones on
    abbrev size_checks : List Member → List Check
    size_checks ms = check_small s (cycle_size s tab ms) ∷ []

    abbrev time_checks : List Member → List Check
    time_checks ms = for_each (check_time tab) (needed_times s tab ms) (size_checks ms)

    abbrev nonlinear_checks : List Member → List Check
    nonlinear_checks ms = straight_into s ms ms (time_checks ms)

    abbrev needed_checks : List Member → List Check
    needed_checks ms = for_each (check_size tab) (needed_into s ms ms) (nonlinear_checks ms)

    -- the conclusion follows from the checks of members that loop
    pub cycle_gives : (ms : List Member) → AllByRecursion SizeGives (needed_into s ms ms)
        → AllByRecursion (λ m. AllByRecursion (NonlinearGives s ms m) (pre s.program m.result_variable.rule)) ms
        → AllByRecursion TimeGives (needed_times s tab ms) → LargeGives (cycle_size s tab ms)
        → IsFirstAmong (cycle_checks s tab ms) r → S
    cycle_gives ms sizes bends times large h =
        first_gives (cycle_checks s tab ms) h (
          (λ fails e. absurd (shape e)),
          each_gives (check_up s) ms (for_each (check_low s) ms (needed_checks ms))
              (of_all _ (λ m fails e. absurd (up m.result_variable.rule m.result_variable.place e)) ms)
              (each_gives (check_low s) ms (needed_checks ms)
              (of_all _ (λ m fails e. absurd (low m.result_variable.rule m.result_variable.place e)) ms)
              (each_gives (check_size tab) (needed_into s ms ms) (nonlinear_checks ms) sizes
              (into_gives s ms ms (time_checks ms) bends
              (each_gives (check_time tab) (needed_times s tab ms) (size_checks ms) times (large, tt))))),
        )
