-- The growth by the rules of a loop, as in its composed bound.
use Rattle.std.proofs.Common.{◌≡◌, ℕ, ◌||◌, Bool, true, false, List, [], ◌∷◌, map, filter, Option, refl, ap, ◌∙◌}
use Rattle.model.specs.Bounds.{Bound, SumOf, ProductOf, PowerOf, Parts, NoParts, Part}
use Rattle.model.specs.Programs.{Program}
use Rattle.cert_types.specs.cert_rules.Known.{known}
use Rattle.cert_types.specs.cert_rules.Composed.{both_parts}
use Rattle.cert_types.specs.cert_rules.ComposedSizes.{Flow, base_of, factor_of, addition_of, multiplies, adds}
use Rattle.cert_types.specs.cert_rules.ComposedSizes.{growth_parts}
use Rattle.cert_types.specs.cert_rules.ComposedSizes.{addition_parts, loop_bound}
use Rattle.cert_types.specs.cert_program.Setting.{setting_of}
use Rattle.cert_types.specs.Sizes.{joined}
use Rattle.size_nodes.specs.Growths.{growth_by_flows, growing_rule_numbers, power_part, addition_part, all_joined}
use Rattle.size_nodes.specs.Growths.{composed}

module _ (p : Program) (fs : List Flow) (time : ℕ → Option Bound) where
  -- the parts of the powers (each factor to the power of its rule's time), followed by the last part
  powers-are : (ts : List ℕ) (last : Bound)
      → joined (all_joined (power_part time) (map (growth_by_flows fs) ts)) (Part last NoParts) ≡ growth_parts fs time ts last
  powers-are [] last = refl
  powers-are (t ∷ ts) last = go (multiplies fs t) refl (powers-are ts last)
    where
      go : (v : Bool) → multiplies fs t ≡ v
          → joined (all_joined (power_part time) (map (growth_by_flows fs) ts)) (Part last NoParts) ≡ growth_parts fs time ts last
          → joined (all_joined (power_part time) (map (growth_by_flows fs) (t ∷ ts))) (Part last NoParts)
          ≡ growth_parts fs time (t ∷ ts) last
      go true e h = rw e (ap (Part (PowerOf (factor_of fs t) (known (time t)))) h)
      go false e h = rw e h

  -- the parts of the additions, each times its rule's time
  additions-are : (ts : List ℕ)
      → all_joined (addition_part time) (map (growth_by_flows fs) ts) ≡ addition_parts (setting_of p) fs time ts
  additions-are [] = refl
  additions-are (t ∷ ts) = go (adds (setting_of p) fs t) refl (additions-are ts)
    where
      go : (v : Bool) → adds (setting_of p) fs t ≡ v
          → all_joined (addition_part time) (map (growth_by_flows fs) ts) ≡ addition_parts (setting_of p) fs time ts
          → all_joined (addition_part time) (map (growth_by_flows fs) (t ∷ ts)) ≡ addition_parts (setting_of p) fs time (t ∷ ts)
      go true e h = rw e (ap (Part (ProductOf (both_parts (known (time t)) (addition_of fs t)))) h)
      go false e h = rw e h

  -- the composed bound is that of the loop
  pub composed-is : (ts : List ℕ)
      → composed time (base_of fs) (map (growth_by_flows fs) ts) ≡ loop_bound (setting_of p) fs time ts
  composed-is ts =
      ap (λ (ps : Parts). ProductOf (joined (all_joined (power_part time) (map (growth_by_flows fs) ts))
      (Part (SumOf (Part (base_of fs) ps)) NoParts))) (additions-are ts)
      ∙ ap ProductOf (powers-are ts (SumOf (Part (base_of fs) (addition_parts (setting_of p) fs time ts))))

-- the rules that multiply or add
pub growing-are : (p : Program) (fs : List Flow) (ts : List ℕ)
    → growing_rule_numbers (map (growth_by_flows fs) ts) ≡ filter (λ t. multiplies fs t || adds (setting_of p) fs t) ts
growing-are p fs [] = refl
growing-are p fs (t ∷ ts) = go (multiplies fs t || adds (setting_of p) fs t) refl (growing-are p fs ts)
  where
    go : (v : Bool) → (multiplies fs t || adds (setting_of p) fs t) ≡ v
        → growing_rule_numbers (map (growth_by_flows fs) ts) ≡ filter (λ u. multiplies fs u || adds (setting_of p) fs u) ts
        → growing_rule_numbers (map (growth_by_flows fs) (t ∷ ts)) ≡ filter (λ u. multiplies fs u || adds (setting_of p) fs u) (t ∷ ts)
    go true e h = rw e (ap (λ (us : List ℕ). t ∷ us) h)
    go false e h = rw e h
