-- Which members the component of the place that doubles has, within 10 pivots: that place alone.
use Rattle.std.proofs.Common.{◌≡◌, inl, inr, true, false, List, [], ◌∷◌, map, refl, sym, subst, ap, All}
use Rattle.std.proofs.lemmas.List.Elements.{All-head}
use Rattle.model.specs.Entries.{is_in}
use Rattle.model.proofs.Membership.{no_is_not_yes}
use Rattle.cert_types.specs.cert_rules.ComposedSizes.{rules_of}
use Rattle.cert_types.specs.cert_rules.Nodes.{ResultVariable, Member, LocalBound}
use Rattle.cert_types.specs.cert_rules.WorkedSettings.{doubling}
use Rattle.cert_types.specs.cert_program.Setting.{setting_of}
use Rattle.local_size.specs.LocalAnswers.{HasBound}
use Rattle.bound_fixpoint.specs.Components.{IsOneOf}
use Rattle.bound_fixpoint.specs.Keys.{key, has_key}
use Rattle.time_bounds.specs.ProgramSizes.{IsLocalOf}
use Rattle.time_bounds.specs.SizeWhys.{IsComponentOf}
use Rattle.time_bounds.proofs.OneProgram.{program_searches_one}
use Rattle.cert_types.specs.cert_rules.Worked.{doubled_member, doubled}
use Rattle.rank_search.proofs.rule_questions.OneEmptyAnswer.{empties-one}
use Rattle.local_size.proofs.OneLocal.{locals-one}
use Rattle.time_bounds.proofs.OneSizes.{local_one}
use Rattle.worked_reasons.specs.Programs.{two_components}
use Rattle.worked_reasons.proofs.DoubleComponents.{double_components, second_local}

-- the component of the place that doubles has that place alone
doubled_result_variables : (members : List Member) → IsComponentOf doubling.program 10 2 1 members
    → key 2 1 ∷ [] ≡ map (λ m. m.result_variable) members
doubled_result_variables members h = go is_one_of
  where
    is_one_of : IsOneOf two_components (map (λ m. m.result_variable) members)
    is_one_of =
        subst (λ (cs : List (List ResultVariable)). IsOneOf cs (map (λ m. m.result_variable) members))
        ((program_searches_one.each doubling.program 10).components _ _ h.are_components double_components) h.among

    go : IsOneOf two_components (map (λ m. m.result_variable) members) → key 2 1 ∷ [] ≡ map (λ m. m.result_variable) members
    go (inl e) = absurd (no_is_not_yes false refl (subst (λ (ks : List ResultVariable). has_key ks 2 1 ≡ true) (sym e) h.inside))
    go (inr (inl e)) = e
    go (inr (inr none)) = absurd none

-- the first rule isn't one of the component's rules
no_first_rule : (members : List Member) → key 2 1 ∷ [] ≡ map (λ m. m.result_variable) members
    → is_in 1 (rules_of (setting_of doubling.program) members) ≡ true → ⊥
no_first_rule [] e u = let none : ⊥ = cc in none
no_first_rule (m ∷ n ∷ members) e u = let none : ⊥ = cc in none
no_first_rule (m ∷ []) e u =
    let same : key 2 1 ≡ m.result_variable = cc in
    no_is_not_yes false refl
    (subst
    (λ (k : ResultVariable). is_in 1 (rules_of (setting_of doubling.program) (record { result_variable = k; local = m.local } ∷ [])) ≡ true)
    (sym same) u)

pub not_used : (members : List Member) → IsComponentOf doubling.program 10 2 1 members
    → is_in 1 (rules_of (setting_of doubling.program) members) ≡ true → ⊥
not_used members h = no_first_rule members (doubled_result_variables members h)

-- the local bound of the place is the only answer for it
one_member : (members : List Member) → key 2 1 ∷ [] ≡ map (λ m. m.result_variable) members
    → All (λ (m : Member). IsLocalOf doubling.program 10 m.result_variable.rule m.result_variable.place (HasBound m.local)) members
    → members ≡ doubled
one_member [] e bounds = absurd (let none : ⊥ = cc in none)
one_member (m ∷ n ∷ members) e bounds = absurd (let none : ⊥ = cc in none)
one_member (m ∷ []) e bounds =
    let same : key 2 1 ≡ m.result_variable = cc in
    let bound : IsLocalOf doubling.program 10 2 1 (HasBound m.local) =
    subst (λ (k : ResultVariable). IsLocalOf doubling.program 10 k.rule k.place (HasBound m.local)) (sym same)
    (All-head (λ (n : Member). IsLocalOf doubling.program 10 n.result_variable.rule n.result_variable.place (HasBound n.local)) m [] bounds) in
    ap (λ (n : Member). n ∷ []) (together m same (local_is m.local bound))
  where
    local_is : (l : LocalBound) → IsLocalOf doubling.program 10 2 1 (HasBound l) → l ≡ doubled_member.local
    local_is l h =
        let same : HasBound l ≡ HasBound doubled_member.local =
        local_one doubling.program 10 empties-one locals-one 2 1 (HasBound l) (HasBound doubled_member.local) h second_local in
        cc

    together : (n : Member) → key 2 1 ≡ n.result_variable → n.local ≡ doubled_member.local → n ≡ doubled_member
    together n s l = λ i. record { result_variable = sym s i; local = l i }

pub doubled_members : (members : List Member) → IsComponentOf doubling.program 10 2 1 members → members ≡ doubled
doubled_members members h = one_member members (doubled_result_variables members h) h.bounds
