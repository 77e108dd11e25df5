-- The component of the program that multiplies its arguments, within no pivots, and that there is no other.
use Rattle.std.proofs.Common.{◌≡◌, inl, inr, ℕ, zero, suc, ◌≤◌, ◌↔◌, true, false, List, [], ◌∷◌, map, refl}
use Rattle.std.proofs.Common.{sym, subst, arith, All}
use Rattle.std.proofs.lemmas.List.Elements.{All-nil, All-cons, All-head, All-tail}
use Rattle.model.specs.Paths.{Here}
use Rattle.model.specs.Programs.{arity_of}
use Rattle.model.proofs.Cases.{none_some, some_same}
use Rattle.model.proofs.Membership.{no_is_not_yes}
use Rattle.its_model.specs.linear_forms.Causes.{budget}
use Rattle.its_model.specs.linear_forms.Questions.{program_of_question}
use Rattle.guard_prep.specs.Prepared.{prepared}
use Rattle.guard_prep.specs.Tightening.{divisor_of}
use Rattle.simplex_core.specs.Tableau.{first_tableau, equation, cost, pivot}
use Rattle.simplex_core.specs.HitsLimit.{HitsLimit}
use Rattle.cert_types.specs.declared.answer.GuardFeasibility.TheVariants as empties
use Rattle.cert_types.specs.declared.answer.Question.TheVariants as asked
use Rattle.cert_types.specs.cert_rules.AcceptsPlain.{IsRule}
use Rattle.cert_types.specs.cert_rules.Nodes.{ResultVariable, Member, LocalBound}
use Rattle.cert_types.specs.cert_program.Setting.{setting_of}
use Rattle.rank_search.specs.rule_questions.EmptyAnswers.{empty_program}
use Rattle.local_size.specs.LocalAnswers.{HasBound, both_polynomial}
use Rattle.local_size.specs.Places.{is_polynomial_at}
use Rattle.rvg_components.specs.Flows.{Locals, live_result_variables}
use Rattle.rvg_components.specs.Listing.{HasFlow, AreComponents}
use Rattle.bound_fixpoint.specs.Components.{IsDead, IsOneOf}
use Rattle.bound_fixpoint.specs.Keys.{IsPlace, key, has_key}
use Rattle.bound_fixpoint.specs.Searches.{EmptyHitLimit}
use Rattle.bound_fixpoint.proofs.Cases.{either}
use Rattle.time_bounds.specs.ProgramRules.{IsEmptinessOf, IsEmptyRule}
use Rattle.time_bounds.specs.ProgramSearches.{searches_of_program}
use Rattle.time_bounds.specs.ProgramSizes.{AreLive, IsLocalOf, AreLocals}
use Rattle.time_bounds.specs.SizeWhys.{IsComponentOf}
use Rattle.time_bounds.proofs.FreeValue.{of_rule}
use Rattle.time_bounds.proofs.OneProgram.{program_searches_one}
use Rattle.worked_reasons.specs.Programs.{limit_hit_at, product_rule, products, both_products}
use Rattle.worked_reasons.proofs.LoopComponents.{one_live}
use Rattle.worked_reasons.proofs.Runs.{budget_run}
use Rattle.worked_reasons.proofs.TwoTogether.{LeadBoth, pair_listed, pair_is_listed}

-- with no pivot allowed the question whether the rule has a point hits a limit
point_hits_limit : HitsLimit (empty_program (prepared product_rule)) 0 (budget 0)
unfolding program_of_question first_tableau equation cost pivot divisor_of
point_hits_limit = budget_run (empty_program (prepared product_rule)) 0 refl refl

emptiness_hits_limit : IsEmptinessOf products 0 1 (EmptyHitLimit (limit_hit_at 0 (asked.Empty 1)))
emptiness_hits_limit = (product_rule, refl, (empties.OutOfLimits (limit_hit_at 0 (asked.Empty 1)), refl, (refl, point_hits_limit)))

not_empty : IsEmptyRule products 0 1 → ⊥
not_empty h =
    let same = (program_searches_one.each products 0).empties 1 _ _ h.1 emptiness_hits_limit in
    (let none : ⊥ = cc in none)

the_rule : IsRule products 1
the_rule = record { rule = product_rule; numbered = refl }

alive : IsDead products (λ u. false) 1 → ⊥
alive (inl empty) = no_is_not_yes false refl empty
alive (inr unreached) = unreached product_rule refl (Here refl)

live : AreLive products 0 one_live
live = record { is_empty = λ t. false; empty = empty; live = each }
  where
    not_any : (t : ℕ) → IsRule products t → IsEmptyRule products 0 t → ⊥
    not_any zero h none = none_some h.rule h.numbered
    not_any (suc zero) h none = not_empty none
    not_any (suc (suc t)) h none = none_some h.rule h.numbered

    empty : (t : ℕ) → IsRule products t → (false ≡ true) ↔ IsEmptyRule products 0 t
    empty t h = ((λ f. absurd (no_is_not_yes false refl f)), λ none. absurd (not_any t h none))

    each : (t : ℕ) → (one_live t ≡ true) ↔ (IsRule products t × (¬ (IsDead products (λ u. false) t)))
    each zero = ((λ f. absurd (no_is_not_yes false refl f)), λ h. absurd (none_some h.0.rule h.0.numbered))
    each (suc zero) = ((λ f. (the_rule, alive)), λ h. refl)
    each (suc (suc t)) = ((λ f. absurd (no_is_not_yes false refl f)), λ h. absurd (none_some h.0.rule h.0.numbered))

-- the update bounds each place after the rule
place_local : (i : ℕ) → IsPlace products 1 i → is_polynomial_at (prepared product_rule) i ≡ true
    → IsLocalOf products 0 1 i (HasBound both_polynomial)
place_local i place polynomial = record {
  rule = product_rule;
  numbered = refl;
  place = place;
  local = inl (polynomial, refl);
}

first_local : IsLocalOf products 0 1 1 (HasBound both_polynomial)
first_local = place_local 1 (record { symbol = 0; target = refl; least = omega arith; last = omega arith }) refl

second_local : IsLocalOf products 0 1 2 (HasBound both_polynomial)
second_local = place_local 2 (record { symbol = 0; target = refl; least = omega arith; last = omega arith }) refl

abbrev product_locals : Locals
product_locals t i = HasBound both_polynomial

-- the places after the rule are places 1 and 2, each with its local bound
locals_at : (i : ℕ) → IsPlace products 1 i → IsLocalOf products 0 1 i (HasBound both_polynomial)
locals_at zero h = absurd (let least : 1 ≤ 0 = h.least in omega (arith, least))
locals_at (suc zero) h = first_local
locals_at (suc (suc zero)) h = second_local
locals_at (suc (suc (suc i))) h = absurd (beyond last)
  where
    last : suc (suc (suc i)) ≤ 2
    last =
        subst (λ (a : ℕ). suc (suc (suc i)) ≤ arity_of products a) (sym (some_same 0 h.symbol h.target)) h.last

    beyond : suc (suc (suc i)) ≤ 2 → ⊥
    beyond l = omega (arith, l)

locals : AreLocals products 0 one_live product_locals
locals zero i f h = absurd (no_is_not_yes false refl f)
locals (suc zero) i f h = locals_at i h
locals (suc (suc t)) i f h = absurd (no_is_not_yes false refl f)

-- values flow from each place into both
abbrev Flow : ℕ → ℕ → Type 0
Flow = HasFlow (setting_of products) product_locals (live_result_variables products one_live)

lead : LeadBoth Flow
lead = record {
  within = λ a b h. h.from;
  onward = record { from = omega arith; to = omega arith; flow = refl };
  back = record { from = omega arith; to = omega arith; flow = refl };
}

abbrev pair : List (List ResultVariable)
pair = (key 1 1 ∷ key 1 2 ∷ []) ∷ []

together : AreComponents (setting_of products) one_live product_locals pair
together = record { positions = pair_listed; listing = pair_is_listed Flow lead; result_variables = refl }

are_components : (searches_of_program products 0).AreComponents pair
are_components = (one_live, live, (product_locals, locals, together))

-- a member has this local bound
abbrev IsBoundOf : Member → Type 0
IsBoundOf m = IsLocalOf products 0 m.result_variable.rule m.result_variable.place (HasBound m.local)

pub component : (i : ℕ) → has_key (key 1 1 ∷ key 1 2 ∷ []) 1 i ≡ true → IsComponentOf products 0 1 i both_products
component i inside = record {
  components = pair;
  are_components = are_components;
  among = inl refl;
  inside = inside;
  bounds = All-cons IsBoundOf (record { result_variable = key 1 1; local = both_polynomial })
      (record { result_variable = key 1 2; local = both_polynomial } ∷ []) first_local
      (All-cons IsBoundOf (record { result_variable = key 1 2; local = both_polynomial }) [] second_local (All-nil IsBoundOf));
}

-- the updates are polynomials, so there is no other local bound
local_is : (i : ℕ) (l : LocalBound) → is_polynomial_at (prepared product_rule) i ≡ true
    → IsLocalOf products 0 1 i (HasBound l) → l ≡ both_polynomial
local_is i l polynomial h =
    either h.local (λ whole. whole.1)
    (λ side_bounds. absurd (no_is_not_yes (is_polynomial_at (prepared product_rule) i)
    (of_rule (λ r. is_polynomial_at (prepared r) i ≡ false) product_rule h.rule h.numbered side_bounds.asked)
    polynomial))

-- a member at a place is that place with the product
member_is : (i : ℕ) (m : Member) → is_polynomial_at (prepared product_rule) i ≡ true → key 1 i ≡ m.result_variable → IsBoundOf m
    → m ≡ record { result_variable = key 1 i; local = both_polynomial }
member_is i m polynomial same bound = with_local (local_is i m.local polynomial at_place)
  where
    at_place : IsLocalOf products 0 1 i (HasBound m.local)
    at_place = subst (λ (k : ResultVariable). IsLocalOf products 0 k.rule k.place (HasBound m.local)) (sym same) bound

    with_local : m.local ≡ both_polynomial → m ≡ record { result_variable = key 1 i; local = both_polynomial }
    with_local l = λ n. record { result_variable = sym same n; local = l n }

members_are : (members : List Member) → key 1 1 ∷ key 1 2 ∷ [] ≡ map (λ m. m.result_variable) members → All IsBoundOf members
    → members ≡ both_products
members_are [] e bounds = absurd (let none : ⊥ = cc in none)
members_are (m ∷ []) e bounds = absurd (let none : ⊥ = cc in none)
members_are (m ∷ n ∷ l ∷ members) e bounds = absurd (let none : ⊥ = cc in none)
members_are (m ∷ n ∷ []) e bounds =
    let first : key 1 1 ≡ m.result_variable = cc in
    let second : key 1 2 ≡ n.result_variable = cc in
    both m n (member_is 1 m refl first (All-head IsBoundOf m (n ∷ []) bounds))
    (member_is 2 n refl second (All-head IsBoundOf n [] (All-tail IsBoundOf m (n ∷ []) bounds)))
  where
    both : (a b : Member) → a ≡ record { result_variable = key 1 1; local = both_polynomial }
        → b ≡ record { result_variable = key 1 2; local = both_polynomial } → a ∷ b ∷ [] ≡ both_products
    both a b e f = λ i. e i ∷ f i ∷ []

pub no_other : (i : ℕ) (members : List Member) → IsComponentOf products 0 1 i members → members ≡ both_products
no_other i members h = go is_one_of
  where
    is_one_of : IsOneOf pair (map (λ m. m.result_variable) members)
    is_one_of =
        subst (λ (cs : List (List ResultVariable)). IsOneOf cs (map (λ m. m.result_variable) members))
        ((program_searches_one.each products 0).components _ _ h.are_components are_components) h.among

    go : IsOneOf pair (map (λ m. m.result_variable) members) → members ≡ both_products
    go (inl e) = members_are members e h.bounds
    go (inr none) = absurd none
