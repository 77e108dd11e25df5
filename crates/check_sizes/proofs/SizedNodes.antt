-- The facts of a node on sizes, or its first check that fails, by the result on its members.
use Rattle.std.proofs.Common.{◌≡◌, inl, inr, List, [], ◌∷◌, refl, sym, ap, ◌∙◌, subst, Vec}
use Rattle.std.specs.declared.alloc.Global.{Global}
use Rattle.std.specs.List.{AllByRecursion}
use Rattle.std.specs.Prelude.{Result, Ok, Err, MatchResult}
use Rattle.model.specs.Bounds.{Bound}
use Rattle.model.specs.Facts.{Size}
use Rattle.cert_types.specs.AnswerViews.{reason_of}
use Rattle.gap_checks.specs.GapTests.{IsFirstFailing}
use Rattle.cert_types.specs.declared.answer.Reason as result_is
use Rattle.cert_types.specs.declared.fact.Fact.{Fact}
use Rattle.cert_types.specs.cert_rules.AcceptsSizes.{AcceptsLow, AcceptsUp, HasCycleShape, HasMemberShape, cycle_facts}
use Rattle.cert_types.specs.cert_rules.AcceptsSizes.{cycle_size, spread_size}
use Rattle.cert_types.specs.cert_rules.Checks.{check_low, check_up, cycle_checks, spread_checks}
use Rattle.cert_types.specs.cert_rules.Known.{Table}
use Rattle.cert_types.specs.cert_rules.Nodes.{Member}
use Rattle.cert_types.specs.cert_rules.Reasons.{Check, Shape, SideBoundUp, SideBoundLow, Reason, IsFirstAmong}
use Rattle.cert_types.specs.cert_rules.Setting.{Setting}
use Rattle.gap_checks.proofs.GapFaults.{first-of-each, behind-each}
use Rattle.cert_types.proofs.cert_rules.SizeReasons.{cycle-passes, spread-passes}
use Rattle.size_nodes.specs.Sizings.{IsCycleSizing, IsSpreadSizing}
use Rattle.size_nodes.specs.declared.sizing.Sizing.{Sizing}
use Rattle.size_nodes.specs.declared.sizing.Sizing.TheVariants as sizings
use Rattle.cert_context.specs.declared.refusal.NodeFault.{NodeFault}
use Rattle.cert_context.specs.declared.refusal.NodeFault.TheVariants as node
use Rattle.cert_context.specs.NodeAnswers.{Refuses, States}
use Rattle.check_sizes.specs.SizeAnswers.{IsFaultOf, StatesSizes}

-- the reason that is reported is the one for which the node failed
same-reason : (checks : List Check) (r : result_is.Reason) (x : Reason) → reason_of r ≡ x → IsFirstAmong checks x
    → Refuses checks (node.Refused r)
same-reason checks r x e h = subst (IsFirstAmong checks) (sym e) h

module _ (s : Setting) (table : Table) (m : Member) where
  -- if a size is found for a place that doesn't loop, it is stated
  spread-found : (sizing : Sizing) (facts : Vec Fact Global) → IsSpreadSizing s table m sizing
      → StatesSizes (m ∷ []) sizing facts
      → States (spread_checks s table m) (Size m.result_variable.rule m.result_variable.place (s.rewrite (spread_size s table m)) ∷ []) facts
  spread-found (sizings.Found premises bound) facts h k = record {
    passed = spread-passes s table m h.0;
    result_is = k ∙ ap (λ (b : Bound). cycle_facts b (m ∷ [])) h.2;
  }
  spread-found (sizings.Missing result_variable) facts h k = absurd k
  spread-found (sizings.Nonlinear result_variable) facts h k = absurd k
  spread-found (sizings.Untimed rule) facts h k = absurd k
  spread-found (sizings.Large nodes) facts h k = absurd k

  -- if no size is found for a place that doesn't loop, the first check that fails is reported
  spread-failed : (sizing : Sizing) (fault : NodeFault) → IsSpreadSizing s table m sizing → IsFaultOf sizing fault
      → Refuses (spread_checks s table m) fault
  spread-failed sizing node.Memory h k = tt
  spread-failed (sizings.Found premises bound) (node.Refused r) h k = absurd k
  spread-failed (sizings.Missing result_variable) (node.Refused r) h k = same-reason (spread_checks s table m) r _ k h
  spread-failed (sizings.Nonlinear result_variable) (node.Refused r) h k = absurd h
  spread-failed (sizings.Untimed rule) (node.Refused r) h k = absurd h
  spread-failed (sizings.Large nodes) (node.Refused r) h k = same-reason (spread_checks s table m) r _ k h

  -- the answer on a place that doesn't loop is right in both cases
  pub spread-answer : (sizing : Sizing) (r : Result (Vec Fact Global) NodeFault) → IsSpreadSizing s table m sizing
      → MatchResult r (λ facts. StatesSizes (m ∷ []) sizing facts) (λ fault. IsFaultOf sizing fault)
      → MatchResult r
      (λ facts. States (spread_checks s table m) (Size m.result_variable.rule m.result_variable.place (s.rewrite (spread_size s table m)) ∷ []) facts)
      (λ fault. Refuses (spread_checks s table m) fault)
  spread-answer sizing (Ok facts) h k = spread-found sizing facts h k
  spread-answer sizing (Err fault) h k = spread-failed sizing fault h k

  -- if the shape of a spread isn't right, the reason is `Shape`
  pub spread-shape : ¬ (HasMemberShape s m) → IsFirstAmong (spread_checks s table m) Shape
  spread-shape n = inl (n, refl)

  -- if a side bound of a spread isn't accepted, the reason is its side
  pub spread-up : HasMemberShape s m → ¬ (AcceptsUp s m) → IsFirstAmong (spread_checks s table m) (SideBoundUp m.result_variable.rule m.result_variable.place)
  spread-up h n = inr (h, inl (n, refl))

  pub spread-low : HasMemberShape s m → AcceptsUp s m → ¬ (AcceptsLow s m)
      → IsFirstAmong (spread_checks s table m) (SideBoundLow m.result_variable.rule m.result_variable.place)
  spread-low h u n = inr (h, inr (u, inl (n, refl)))

module _ (s : Setting) (table : Table) (ms : List Member) where
  -- if a size is found for a loop, it is stated of each member
  cycle-found : (sizing : Sizing) (facts : Vec Fact Global) → IsCycleSizing s table ms sizing → StatesSizes ms sizing facts
      → States (cycle_checks s table ms) (cycle_facts (s.rewrite (cycle_size s table ms)) ms) facts
  cycle-found (sizings.Found premises bound) facts h k = record {
    passed = cycle-passes s table ms h.0;
    result_is = k ∙ ap (λ (b : Bound). cycle_facts b ms) h.2;
  }
  cycle-found (sizings.Missing result_variable) facts h k = absurd k
  cycle-found (sizings.Nonlinear result_variable) facts h k = absurd k
  cycle-found (sizings.Untimed rule) facts h k = absurd k
  cycle-found (sizings.Large nodes) facts h k = absurd k

  cycle-failed : (sizing : Sizing) (fault : NodeFault) → IsCycleSizing s table ms sizing → IsFaultOf sizing fault
      → Refuses (cycle_checks s table ms) fault
  cycle-failed sizing node.Memory h k = tt
  cycle-failed (sizings.Found premises bound) (node.Refused r) h k = absurd k
  cycle-failed (sizings.Missing result_variable) (node.Refused r) h k = same-reason (cycle_checks s table ms) r _ k h
  cycle-failed (sizings.Nonlinear result_variable) (node.Refused r) h k = same-reason (cycle_checks s table ms) r _ k h
  cycle-failed (sizings.Untimed rule) (node.Refused r) h k = same-reason (cycle_checks s table ms) r _ k h
  cycle-failed (sizings.Large nodes) (node.Refused r) h k = same-reason (cycle_checks s table ms) r _ k h

  pub cycle-answer : (sizing : Sizing) (r : Result (Vec Fact Global) NodeFault) → IsCycleSizing s table ms sizing
      → MatchResult r (λ facts. StatesSizes ms sizing facts) (λ fault. IsFaultOf sizing fault)
      → MatchResult r
      (λ facts. States (cycle_checks s table ms) (cycle_facts (s.rewrite (cycle_size s table ms)) ms) facts)
      (λ fault. Refuses (cycle_checks s table ms) fault)
  cycle-answer sizing (Ok facts) h k = cycle-found sizing facts h k
  cycle-answer sizing (Err fault) h k = cycle-failed sizing fault h k

  pub cycle-shape : ¬ (HasCycleShape s ms) → IsFirstAmong (cycle_checks s table ms) Shape
  cycle-shape n = inl (n, refl)

  -- the first member whose upper side bound isn't accepted is the reason, or else the first whose lower one isn't
  pub cycle-up : HasCycleShape s ms → (m : Member) → IsFirstFailing (AcceptsUp s) ms m
      → IsFirstAmong (cycle_checks s table ms) (SideBoundUp m.result_variable.rule m.result_variable.place)
  cycle-up h m k = inr (h, first-of-each (check_up s) _ ms m k)

  pub cycle-low : HasCycleShape s ms → AllByRecursion (AcceptsUp s) ms → (m : Member) → IsFirstFailing (AcceptsLow s) ms m
      → IsFirstAmong (cycle_checks s table ms) (SideBoundLow m.result_variable.rule m.result_variable.place)
  cycle-low h u m k = inr (h, behind-each (check_up s) _ ms _ u (first-of-each (check_low s) _ ms m k))
