-- The components of the program that doubles, within 10 pivots.
use Rattle.std.proofs.Common.{◌≡◌, inl, inr, ℕ, zero, suc, ◌<◌, ◌≤◌, ◌↔◌, true, false, [], Some, refl, sym, subst}
use Rattle.std.proofs.Common.{arith}
use Rattle.std.proofs.lemmas.List.Elements.{All-nil, All-cons}
use Rattle.model.specs.Paths.{Here, Onward}
use Rattle.model.specs.Programs.{arity_of}
use Rattle.model.proofs.Cases.{none_some, some_same}
use Rattle.model.proofs.Membership.{no_is_not_yes}
use Rattle.guard_prep.specs.Prepared.{prepared}
use Rattle.cert_types.specs.cert_rules.AcceptsPlain.{IsRule}
use Rattle.cert_types.specs.cert_rules.Nodes.{Member}
use Rattle.cert_types.specs.cert_rules.Worked.{entered_member, doubled_member, doubled}
use Rattle.cert_types.specs.cert_rules.WorkedSettings.{enter, doubling}
use Rattle.cert_types.specs.cert_program.Setting.{setting_of}
use Rattle.local_size.specs.LocalAnswers.{HasBound}
use Rattle.rvg_components.specs.Flows.{Locals, live_result_variables}
use Rattle.rvg_components.specs.Listing.{HasFlow, AreComponents}
use Rattle.bound_fixpoint.specs.Components.{IsDead}
use Rattle.bound_fixpoint.specs.Keys.{IsPlace}
use Rattle.time_bounds.specs.ProgramRules.{IsEmptyRule}
use Rattle.time_bounds.specs.ProgramSearches.{searches_of_program}
use Rattle.time_bounds.specs.ProgramSizes.{AreLive, IsLocalOf, AreLocals}
use Rattle.time_bounds.specs.SizeWhys.{IsComponentOf}
use Rattle.worked_reasons.specs.Programs.{doubling_rule, two_components}
use Rattle.worked_reasons.proofs.DoubleRuns.{entered_side_bounds, doubled_side_bounds}
use Rattle.worked_reasons.proofs.RulesWithPoints.{one_point, not_empty}
use Rattle.worked_reasons.proofs.SquareFlows.{both_live}
use Rattle.worked_reasons.proofs.TwoPlaces.{LeadOnward, both_listed, two_listed}

-- the local bounds of the places after both rules
abbrev pub double_locals : Locals
double_locals zero i = HasBound entered_member.local
double_locals (suc zero) i = HasBound entered_member.local
double_locals (suc (suc t)) i = HasBound doubled_member.local

-- a value flows from the place at one position into that at another
abbrev Flow : ℕ → ℕ → Type 0
Flow = HasFlow (setting_of doubling.program) double_locals (live_result_variables doubling.program both_live)

-- no value flows into the first place
first_stays : (a : ℕ) → Flow a 0 → ⊥
first_stays zero h = no_is_not_yes false refl h.flow
first_stays (suc zero) h = no_is_not_yes false refl h.flow
first_stays (suc (suc a)) h = let low : suc (suc a) < 2 = h.from in omega (arith, low)

-- values flow from the second place into itself alone
second_stays : (b : ℕ) → Flow 1 b → b ≡ 1
second_stays zero h = absurd (first_stays 1 h)
second_stays (suc zero) h = refl
second_stays (suc (suc b)) h = let low : suc (suc b) < 2 = h.to in absurd (omega (arith, low))

lead : LeadOnward Flow
lead = record { within = λ a b h. h.from; back = λ a h. absurd (first_stays a h); stays = second_stays }

apart : AreComponents (setting_of doubling.program) both_live double_locals two_components
apart = record { positions = both_listed; listing = two_listed Flow lead; result_variables = refl }

-- a property of both rules is one of each
of_rules : (P : ℕ → Type 0) → P 1 → P 2 → (t : ℕ) → IsRule doubling.program t → P t
of_rules P first second zero h = absurd (none_some h.rule h.numbered)
of_rules P first second (suc zero) h = first
of_rules P first second (suc (suc zero)) h = second
of_rules P first second (suc (suc (suc t))) h = absurd (none_some h.rule h.numbered)

first_rule : IsRule doubling.program 1
first_rule = record { rule = enter; numbered = refl }

second_rule : IsRule doubling.program 2
second_rule = record { rule = doubling_rule; numbered = refl }

-- the first rule leaves the start symbol, and leads to the source of the second one
first_alive : IsDead doubling.program (λ u. false) 1 → ⊥
first_alive (inl empty) = no_is_not_yes false refl empty
first_alive (inr unreached) = unreached enter refl (Here refl)

second_alive : IsDead doubling.program (λ u. false) 2 → ⊥
second_alive (inl empty) = no_is_not_yes false refl empty
second_alive (inr unreached) =
    unreached doubling_rule refl
    (Onward (Here refl) (record { number = 1; rule = enter; numbered = refl; allowed = refl; source = refl; target = refl }))

live : AreLive doubling.program 10 both_live
live = record { is_empty = λ t. false; empty = empty; live = each }
  where
    empty : (t : ℕ) → IsRule doubling.program t → (false ≡ true) ↔ IsEmptyRule doubling.program 10 t
    empty t h = (
      (λ f. absurd (no_is_not_yes false refl f)),
      λ none. absurd (of_rules (λ u. IsEmptyRule doubling.program 10 u → ⊥)
          (not_empty doubling.program 10 1 enter refl (one_point (prepared enter).rows refl))
          (not_empty doubling.program 10 2 doubling_rule refl (one_point (prepared doubling_rule).rows refl)) t h none),
    )

    each : (t : ℕ) → (both_live t ≡ true) ↔ (IsRule doubling.program t × (¬ (IsDead doubling.program (λ u. false) t)))
    each zero = ((λ f. absurd (no_is_not_yes false refl f)), λ h. absurd (none_some h.0.rule h.0.numbered))
    each (suc zero) = ((λ f. (first_rule, first_alive)), λ h. refl)
    each (suc (suc zero)) = ((λ f. (second_rule, second_alive)), λ h. refl)
    each (suc (suc (suc t))) = ((λ f. absurd (no_is_not_yes false refl f)), λ h. absurd (none_some h.0.rule h.0.numbered))

-- both rules lead to l, which has one place
one_place : (i found : ℕ) → Some 1 ≡ Some found → 1 ≤ i → i ≤ arity_of doubling.program found → i ≡ 1
one_place i found same least last =
    let most : i ≤ 1 = subst (λ (s : ℕ). i ≤ arity_of doubling.program s) (sym (some_same 1 found same)) last in
    omega (arith, least, most)

place_after : (t i : ℕ) → both_live t ≡ true → IsPlace doubling.program t i → i ≡ 1
place_after zero i f h = absurd (no_is_not_yes false refl f)
place_after (suc zero) i f h = one_place i h.symbol h.target h.least h.last
place_after (suc (suc zero)) i f h = one_place i h.symbol h.target h.least h.last
place_after (suc (suc (suc t))) i f h = absurd (no_is_not_yes false refl f)

first_local : IsLocalOf doubling.program 10 1 1 (HasBound entered_member.local)
first_local = record {
  rule = enter;
  numbered = refl;
  place = record { symbol = 1; target = refl; least = omega arith; last = omega arith };
  local = inr entered_side_bounds;
}

pub second_local : IsLocalOf doubling.program 10 2 1 (HasBound doubled_member.local)
second_local = record {
  rule = doubling_rule;
  numbered = refl;
  place = record { symbol = 1; target = refl; least = omega arith; last = omega arith };
  local = inr doubled_side_bounds;
}

locals : AreLocals doubling.program 10 both_live double_locals
locals zero i f h = absurd (no_is_not_yes false refl f)
locals (suc zero) i f h =
    subst (λ (j : ℕ). IsLocalOf doubling.program 10 1 j (HasBound entered_member.local)) (sym (place_after 1 i f h))
    first_local
locals (suc (suc zero)) i f h =
    subst (λ (j : ℕ). IsLocalOf doubling.program 10 2 j (HasBound doubled_member.local)) (sym (place_after 2 i f h))
    second_local
locals (suc (suc (suc t))) i f h = absurd (no_is_not_yes false refl f)

-- a member has this local bound
abbrev IsBoundOf : Member → Type 0
IsBoundOf m = IsLocalOf doubling.program 10 m.result_variable.rule m.result_variable.place (HasBound m.local)

pub double_components : (searches_of_program doubling.program 10).AreComponents two_components
double_components = (both_live, live, (double_locals, locals, apart))

-- the place that doubles is a component by itself
pub doubled_alone : IsComponentOf doubling.program 10 2 1 doubled
doubled_alone = record {
  components = two_components;
  are_components = double_components;
  among = inr (inl refl);
  inside = refl;
  bounds = All-cons IsBoundOf doubled_member [] second_local (All-nil IsBoundOf);
}
