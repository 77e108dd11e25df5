-- The component of the program k(A) -> k(A), within 10 pivots, and that nothing grows in it.
use Rattle.std.proofs.Common.{◌≡◌, inl, inr, ℕ, zero, suc, ◌<◌, ◌≤◌, ◌↔◌, Bool, true, false, List, [], ◌∷◌, map, refl, sym}
use Rattle.std.proofs.Common.{◌||◌, ap, subst, arith, All}
use Rattle.std.proofs.lemmas.List.Elements.{All-head}
use Rattle.model.specs.Paths.{Here}
use Rattle.model.specs.Programs.{arity_of}
use Rattle.model.proofs.Cases.{none_some, some_same}
use Rattle.model.proofs.Membership.{no_is_not_yes}
use Rattle.guard_prep.specs.Prepared.{prepared}
use Rattle.cert_types.specs.cert_rules.AcceptsPlain.{IsRule}
use Rattle.cert_types.specs.cert_rules.ComposedSizes.{flows, multiplies, adds}
use Rattle.cert_types.specs.cert_rules.Nodes.{ResultVariable, Member, LocalBound}
use Rattle.cert_types.specs.cert_rules.Worked.{entered_member}
use Rattle.cert_types.specs.cert_program.Setting.{setting_of}
use Rattle.cert_types.specs.cert_program.WorkedGaps.{looping_rule, looping}
use Rattle.rank_search.proofs.rule_questions.OneEmptyAnswer.{empties-one}
use Rattle.local_size.specs.LocalAnswers.{HasBound, HasSideBounds}
use Rattle.local_size.proofs.OneLocal.{locals-one}
use Rattle.rvg_components.specs.Flows.{Locals, live_result_variables}
use Rattle.rvg_components.specs.Listing.{HasFlow, AreComponents}
use Rattle.bound_fixpoint.specs.Components.{IsDead, IsOneOf}
use Rattle.bound_fixpoint.specs.Keys.{IsPlace, key, over}
use Rattle.cert_types.specs.cert_program.bound_table.InForce.{rewritten}
use Rattle.cert_types.specs.cert_program.bound_table.Rewriting.{simplified, passes_until_same, at_node, parts_passed}
use Rattle.time_bounds.specs.ProgramRules.{IsEmptyRule}
use Rattle.time_bounds.specs.ProgramSearches.{searches_of_program}
use Rattle.time_bounds.specs.ProgramSizes.{AreLive, IsLocalOf, AreLocals}
use Rattle.time_bounds.specs.SizeWhys.{IsComponentOf, GrowsUntimed}
use Rattle.time_bounds.specs.WorkedReports.{staying_said}
use Rattle.time_bounds.proofs.OneProgram.{program_searches_one}
use Rattle.time_bounds.proofs.OneSizes.{local_one}
use Rattle.worked_reasons.proofs.DoubleRuns.{entered_side_bounds}
use Rattle.worked_reasons.proofs.OnePlace.{one_listed, one_is_listed}
use Rattle.worked_reasons.proofs.RulesWithPoints.{one_point, not_empty}

-- the new value of the rule has the side bounds of the rule that enters l
loop_side_bounds : HasSideBounds (prepared looping_rule) 1 10 entered_member.local
loop_side_bounds = entered_side_bounds

-- only rule 1 is live
abbrev pub one_live : ℕ → Bool
one_live zero = false
one_live (suc zero) = true
one_live (suc (suc t)) = false

abbrev loop_locals : Locals
loop_locals t i = HasBound entered_member.local

abbrev Flow : ℕ → ℕ → Type 0
Flow = HasFlow (setting_of looping) loop_locals (live_result_variables looping one_live)

within : (a b : ℕ) → Flow a b → a ≡ 0
within zero b h = refl
within (suc a) b h = let low : suc a < 1 = h.from in absurd (omega (arith, low))

abbrev one_component : List (List ResultVariable)
one_component = (key 1 1 ∷ []) ∷ []

alone : AreComponents (setting_of looping) one_live loop_locals one_component
alone = record { positions = one_listed; listing = one_is_listed Flow within; result_variables = refl }

the_rule : IsRule looping 1
the_rule = record { rule = looping_rule; numbered = refl }

alive : IsDead looping (λ u. false) 1 → ⊥
alive (inl empty) = no_is_not_yes false refl empty
alive (inr unreached) = unreached looping_rule refl (Here refl)

live : AreLive looping 10 one_live
live = record { is_empty = λ t. false; empty = empty; live = each }
  where
    not_any : (t : ℕ) → IsRule looping t → IsEmptyRule looping 10 t → ⊥
    not_any zero h none = none_some h.rule h.numbered
    not_any (suc zero) h none =
        not_empty looping 10 1 looping_rule refl (one_point (prepared looping_rule).rows refl) none
    not_any (suc (suc t)) h none = none_some h.rule h.numbered

    empty : (t : ℕ) → IsRule looping t → (false ≡ true) ↔ IsEmptyRule looping 10 t
    empty t h = ((λ f. absurd (no_is_not_yes false refl f)), λ none. absurd (not_any t h none))

    each : (t : ℕ) → (one_live t ≡ true) ↔ (IsRule looping t × (¬ (IsDead looping (λ u. false) t)))
    each zero = ((λ f. absurd (no_is_not_yes false refl f)), λ h. absurd (none_some h.0.rule h.0.numbered))
    each (suc zero) = ((λ f. (the_rule, alive)), λ h. refl)
    each (suc (suc t)) = ((λ f. absurd (no_is_not_yes false refl f)), λ h. absurd (none_some h.0.rule h.0.numbered))

-- the only place after rule 1 is place 1
one_place : (i : ℕ) → IsPlace looping 1 i → i ≡ 1
one_place i place =
    let last : i ≤ 1 = subst (λ (a : ℕ). i ≤ arity_of looping a) (sym (some_same 0 place.symbol place.target)) place.last in
    omega (arith, place.least, last)

the_local : IsLocalOf looping 10 1 1 (HasBound entered_member.local)
the_local = record {
  rule = looping_rule;
  numbered = refl;
  place = record { symbol = 0; target = refl; least = omega arith; last = omega arith };
  local = inr loop_side_bounds;
}

locals : AreLocals looping 10 one_live loop_locals
locals zero i f h = absurd (no_is_not_yes false refl f)
locals (suc zero) i f h =
    subst (λ (j : ℕ). IsLocalOf looping 10 1 j (HasBound entered_member.local)) (sym (one_place i h)) the_local
locals (suc (suc t)) i f h = absurd (no_is_not_yes false refl f)

are_components : (searches_of_program looping 10).AreComponents one_component
are_components = (one_live, live, (loop_locals, locals, alone))

-- a member has this local bound
abbrev IsBoundOf : Member → Type 0
IsBoundOf m = IsLocalOf looping 10 m.result_variable.rule m.result_variable.place (HasBound m.local)

-- the place has no other local bound
local_is : (l : LocalBound) → IsLocalOf looping 10 1 1 (HasBound l) → l ≡ entered_member.local
local_is l h =
    let same : HasBound l ≡ HasBound entered_member.local =
    local_one looping 10 empties-one locals-one 1 1 (HasBound l) (HasBound entered_member.local) h the_local in
    cc

-- the component has this member alone
members_are : (members : List Member) → key 1 1 ∷ [] ≡ map (λ m. m.result_variable) members
    → All IsBoundOf members → members ≡ entered_member ∷ []
members_are [] e bound = absurd (let none : ⊥ = cc in none)
members_are (m ∷ n ∷ members) e bound = absurd (let none : ⊥ = cc in none)
members_are (m ∷ []) e bound =
    let same : key 1 1 ≡ m.result_variable = cc in
    let at : IsLocalOf looping 10 1 1 (HasBound m.local) =
    subst (λ (k : ResultVariable). IsLocalOf looping 10 k.rule k.place (HasBound m.local)) (sym same) (All-head IsBoundOf m [] bound) in
    ap (λ (n : Member). n ∷ []) (together m same (local_is m.local at))
  where
    together : (n : Member) → key 1 1 ≡ n.result_variable → n.local ≡ entered_member.local → n ≡ entered_member
    together n s l = λ i. record { result_variable = sym s i; local = l i }

loop_members : (members : List Member) → IsComponentOf looping 10 1 1 members → members ≡ entered_member ∷ []
loop_members members h = go is_one_of
  where
    is_one_of : IsOneOf one_component (map (λ m. m.result_variable) members)
    is_one_of =
        subst (λ (cs : List (List ResultVariable)). IsOneOf cs (map (λ m. m.result_variable) members))
        ((program_searches_one.each looping 10).components _ _ h.are_components are_components) h.among

    go : IsOneOf one_component (map (λ m. m.result_variable) members) → members ≡ entered_member ∷ []
    go (inl e) = members_are members e h.bounds
    go (inr none) = absurd none

-- the member keeps its value: the rule neither multiplies nor adds
pub grows_nowhere : GrowsUntimed looping 10 staying_said 1 1 1 → ⊥
unfolding rewritten simplified passes_until_same at_node parts_passed
grows_nowhere h =
    no_is_not_yes false refl
    (subst
    (λ (ms : List Member). (multiplies (flows (setting_of looping) ms (over staying_said).size) 1
    || adds (setting_of looping) (flows (setting_of looping) ms (over staying_said).size) 1) ≡ true)
    (loop_members h.members h.component) h.grows)
