-- The answer for a loop is the first reason why it isn't accepted, or the node that is.
use Rattle.std.proofs.Common.{◌≡◌, inl, inr, ℕ, cond, List, [], ◌∷◌, ◌++◌, map, Option, Some, None, refl, sym, ap, ◌∙◌, subst}
use Rattle.std.specs.List.{AllByRecursion}
use Rattle.std.proofs.lemmas.List.Elements.{recursion_from_All}
use Rattle.model.specs.Bounds.{Bound}
use Rattle.model.specs.Programs.{Program}
use Rattle.its_graph.specs.declared.graph.Graph.{Graph}
use Rattle.guard_prep.specs.declared.rule_rows.RuleRows.{RuleRows}
use Rattle.bound_table.specs.InForce.{rewritten}
use Rattle.cert_types.specs.cert_rules.Nodes.{ResultVariable, Member}
use Rattle.cert_types.specs.cert_rules.Known.{IsKnown, Table}
use Rattle.cert_types.specs.cert_rules.Limits.{IsSmallComposed}
use Rattle.cert_types.specs.cert_rules.ComposedSizes.{Flow, flows, base_of, rules_of}
use Rattle.cert_types.specs.cert_rules.AcceptsSizes.{AcceptsUp, AcceptsLow, AcceptsCycle, cycle_size}
use Rattle.cert_types.specs.cert_rules.Reasons.{Reason, MissingTime, MissingSize, Nonlinear, Large, Check, for_each}
use Rattle.cert_types.specs.cert_rules.Reasons.{IsFirstAmong}
use Rattle.cert_types.specs.cert_rules.Checks.{large_nodes, check_up, check_low, check_size, check_time, check_small}
use Rattle.cert_types.specs.cert_rules.Checks.{needed_into}
use Rattle.cert_types.specs.cert_rules.Checks.{needed_times, straight_into, cycle_checks}
use Rattle.cert_types.proofs.cert_rules.CheckLists.{passes_each}
use Rattle.cert_types.proofs.cert_rules.SizeReasons.{passes-cycle}
use Rattle.cert_types.specs.cert_program.Setting.{setting_of}
use Rattle.size_nodes.specs.Needs.{lacks}
use Rattle.size_nodes.specs.Sizings.{time_key}
use Rattle.size_nodes.specs.Needs.{first_missing, first_unknown}
use Rattle.size_nodes.specs.Growths.{growth_by_flows, growing_rule_numbers, composed}
use Rattle.size_nodes.specs.NonlinearSideBounds.{first_nonlinear}
use Rattle.size_nodes.specs.Members.{AreMembersOfProgram}
use Rattle.size_nodes.specs.declared.sizing.Sizing.{Sizing}
use Rattle.size_nodes.specs.declared.sizing.Sizing.TheVariants as sizings
use Rattle.size_nodes.specs.Sizings.{IsTimedSizing, IsSizingWhere, IsLoopSizing, IsCycleSizing}
use Rattle.size_nodes.proofs.FirstMissing.{all-known, first-missing, behind-each}
use Rattle.size_nodes.proofs.NonlinearMembers.{straight-first, straight-passes, nonlinear-first}
use Rattle.size_nodes.proofs.LoopParts.{composed-is, growing-are}
use Rattle.model.proofs.Cases.{some_same as some-same, none_some as no-bound}

none-some : (t : ℕ) → None ≡ Some t → ⊥
none-some t e = cc

module _ (tab : Table) where
  -- if no rule lacks a time, all times are known
  times-known : (ts : List ℕ) → first_unknown tab.time ts ≡ None → AllByRecursion (λ t. IsKnown (tab.time t)) ts
  times-known [] h = tt
  times-known (t ∷ ts) h = go (tab.time t) refl h (times-known ts)
    where
      go : (o : Option Bound) → tab.time t ≡ o → cond (lacks o) (Some t) (first_unknown tab.time ts) ≡ None
          → (first_unknown tab.time ts ≡ None → AllByRecursion (λ u. IsKnown (tab.time u)) ts)
          → AllByRecursion (λ u. IsKnown (tab.time u)) (t ∷ ts)
      go None e k later = absurd (none-some t (sym k))
      go (Some b) e k later = ((b, e), later k)

  -- the first rule without a time is that of the first check that fails
  first-untimed : (ts : List ℕ) (rest : List Check) (t : ℕ) → first_unknown tab.time ts ≡ Some t
      → IsFirstAmong (for_each (check_time tab) ts rest) (MissingTime t)
  first-untimed [] rest t h = absurd (none-some t h)
  first-untimed (u ∷ ts) rest t h = go (tab.time u) refl h (first-untimed ts rest t)
    where
      go : (o : Option Bound) → tab.time u ≡ o → cond (lacks o) (Some u) (first_unknown tab.time ts) ≡ Some t
          → (first_unknown tab.time ts ≡ Some t → IsFirstAmong (for_each (check_time tab) ts rest) (MissingTime t))
          → IsFirstAmong (for_each (check_time tab) (u ∷ ts) rest) (MissingTime t)
      go None e k later =
          inl ((λ known. no-bound known.0 (sym e ∙ known.1)), ap MissingTime (some-same u t k))
      go (Some b) e k later = inr ((b, e), later k)

module _ (p : Program) (g : Graph) (prepared_rules : List RuleRows) (tab : Table) (ms : List Member)
    (given : AreMembersOfProgram p g prepared_rules ms) where
  -- the premises of the loop
  abbrev needed : List ResultVariable
  needed = needed_into (setting_of p) ms ms

  abbrev timed : List ℕ
  timed = needed_times (setting_of p) tab ms

  abbrev whole : Bound
  whole = cycle_size (setting_of p) tab ms

  ups : AllByRecursion (AcceptsUp (setting_of p)) ms
  ups = recursion_from_All (AcceptsUp (setting_of p)) ms given.up

  lows : AllByRecursion (AcceptsLow (setting_of p)) ms
  lows = recursion_from_All (AcceptsLow (setting_of p)) ms given.low

  -- the checks after those of the side bounds, of the sizes, of linearity and of the times
  abbrev small_checks : List Check
  small_checks = check_small (setting_of p) whole ∷ []

  abbrev time_checks : List Check
  time_checks = for_each (check_time tab) timed small_checks

  abbrev nonlinear_checks : List Check
  nonlinear_checks = straight_into (setting_of p) ms ms time_checks

  abbrev size_checks : List Check
  size_checks = for_each (check_size tab) needed nonlinear_checks

  behind-side_bounds : (r : Reason) → IsFirstAmong size_checks r → IsFirstAmong (cycle_checks (setting_of p) tab ms) r
  behind-side_bounds r h =
      inr (
        given.shape,
        behind-each (check_up (setting_of p)) ms (for_each (check_low (setting_of p)) ms size_checks) r ups
            (behind-each (check_low (setting_of p)) ms size_checks r lows h),
      )

  -- if a size is missing, the answer is the first one
  pub is-missing : (result_variable : ResultVariable) → first_missing tab needed ≡ Some result_variable
      → IsFirstAmong (cycle_checks (setting_of p) tab ms) (MissingSize result_variable.rule result_variable.place)
  is-missing result_variable e = behind-side_bounds (MissingSize result_variable.rule result_variable.place) (first-missing tab needed nonlinear_checks result_variable e)

  module _ (none : first_missing tab needed ≡ None) where
    behind-sizes : (r : Reason) → IsFirstAmong nonlinear_checks r → IsFirstAmong (cycle_checks (setting_of p) tab ms) r
    behind-sizes r h = behind-side_bounds r (behind-each (check_size tab) needed nonlinear_checks r (all-known tab needed none) h)

    -- if no size is missing, the answer is the first nonlinear member
    pub is-nonlinear : (result_variable : ResultVariable) → first_nonlinear (setting_of p) ms ms ≡ Some result_variable
        → IsFirstAmong (cycle_checks (setting_of p) tab ms) (Nonlinear result_variable.rule result_variable.place)
    is-nonlinear result_variable e =
        behind-sizes (Nonlinear result_variable.rule result_variable.place) (nonlinear-first (setting_of p) ms time_checks ms result_variable e)

    module _ (straight : first_nonlinear (setting_of p) ms ms ≡ None) where
      behind-straight : (r : Reason) → IsFirstAmong time_checks r → IsFirstAmong (cycle_checks (setting_of p) tab ms) r
      behind-straight r h = behind-sizes r (straight-first (setting_of p) ms time_checks ms straight r h)

      -- if no member is nonlinear, the answer is the first rule that needs a time and has none
      is-untimed : (t : ℕ) → first_unknown tab.time timed ≡ Some t
          → IsFirstAmong (cycle_checks (setting_of p) tab ms) (MissingTime t)
      is-untimed t e = behind-straight (MissingTime t) (first-untimed tab timed small_checks t e)

      -- if each such rule has a time, the answer is a bound that is too large
      is-large : (n : ℕ) → first_unknown tab.time timed ≡ None → ¬ (IsSmallComposed rewritten whole)
          → n ≡ large_nodes rewritten whole → IsFirstAmong (cycle_checks (setting_of p) tab ms) (Large n)
      is-large n e h k =
          behind-straight (Large n)
          (behind-each (check_time tab) timed small_checks (Large n) (times-known tab timed e)
          (inl (h, ap Large (sym k))))

      -- otherwise the node is accepted
      is-accepted : first_unknown tab.time timed ≡ None → IsSmallComposed rewritten whole
          → AcceptsCycle (setting_of p) tab ms
      is-accepted e h = passes-cycle (setting_of p) tab ms (
        given.shape,
        passes_each (check_up (setting_of p)) (for_each (check_low (setting_of p)) ms size_checks) ms ups
            (passes_each (check_low (setting_of p)) size_checks ms lows
            (passes_each (check_size tab) nonlinear_checks needed (all-known tab needed none)
            (straight-passes (setting_of p) ms time_checks ms straight
            (passes_each (check_time tab) small_checks timed (times-known tab timed e) (h, tt))))),
      )

      timed-sizing : (a : Sizing) → first_unknown tab.time timed ≡ None
          → IsTimedSizing (needed ++ map time_key timed) whole a → IsCycleSizing (setting_of p) tab ms a
      timed-sizing (sizings.Found premises bound) e h = (is-accepted e h.0, h.1, h.2)
      timed-sizing (sizings.Missing result_variable) e h = absurd h
      timed-sizing (sizings.Nonlinear result_variable) e h = absurd h
      timed-sizing (sizings.Untimed rule) e h = absurd h
      timed-sizing (sizings.Large nodes) e h = is-large nodes e h.0 h.1

      sizing-where : (a : Sizing) (o : Option ℕ) → first_unknown tab.time timed ≡ o
          → IsSizingWhere o (needed ++ map time_key timed) whole a → IsCycleSizing (setting_of p) tab ms a
      sizing-where a None e h = timed-sizing a e h
      sizing-where a (Some t) e h = subst (IsCycleSizing (setting_of p) tab ms) (sym h) (is-untimed t e)

      -- the answer over the flows and the rules of the loop is the answer for the loop
      pub is-sized : (a : Sizing) (result_variables : List ResultVariable) (fs : List Flow) (ts : List ℕ)
          → result_variables ≡ needed → fs ≡ flows (setting_of p) ms tab.size → ts ≡ rules_of (setting_of p) ms
          → IsLoopSizing tab result_variables (base_of fs) (map (growth_by_flows fs) ts) a → IsCycleSizing (setting_of p) tab ms a
      is-sized a result_variables fs ts es ef et h =
          sizing-where a (first_unknown tab.time timed) refl
          (subst (λ (ss : List ResultVariable). IsSizingWhere (first_unknown tab.time timed) (ss ++ map time_key timed) whole a) es
          (subst (λ (us : List ℕ). IsSizingWhere (first_unknown tab.time us) (result_variables ++ map time_key us) whole a) times-are
          (subst (λ (b : Bound). IsSizingWhere (first_unknown tab.time (growing_rule_numbers (map (growth_by_flows fs) ts)))
          (result_variables ++ map time_key (growing_rule_numbers (map (growth_by_flows fs) ts))) b a) bound-is h)))
        where
          times-are : growing_rule_numbers (map (growth_by_flows fs) ts) ≡ timed
          times-are = (λ i. growing_rule_numbers (map (growth_by_flows (ef i)) (et i))) ∙ growing-are p (flows (setting_of p) ms tab.size) (rules_of (setting_of p) ms)

          bound-is : composed tab.time (base_of fs) (map (growth_by_flows fs) ts) ≡ whole
          bound-is = (λ i. composed tab.time (base_of (ef i)) (map (growth_by_flows (ef i)) (et i)))
              ∙ composed-is p (flows (setting_of p) ms tab.size) tab.time (rules_of (setting_of p) ms)
