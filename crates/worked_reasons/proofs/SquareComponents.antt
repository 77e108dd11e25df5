-- The components of the program that squares, within no pivots: which they are, and that there are no others.
use Rattle.std.proofs.Common.{◌≡◌, inl, inr, ℕ, zero, suc, ◌≤◌, ◌↔◌, true, false, List, [], ◌∷◌, map, Some, refl}
use Rattle.std.proofs.Common.{sym, ◌∙◌, ap, subst, arith, All}
use Rattle.std.proofs.lemmas.List.Elements.{All-nil, All-cons, All-head}
use Rattle.model.specs.Paths.{Here}
use Rattle.model.specs.Programs.{arity_of, rule_at}
use Rattle.model.proofs.Cases.{none_some, some_same}
use Rattle.model.proofs.Membership.{no_is_not_yes}
use Rattle.guard_prep.specs.Prepared.{prepared}
use Rattle.cert_types.specs.declared.answer.GuardFeasibility.TheVariants as empties
use Rattle.cert_types.specs.declared.answer.Question.TheVariants as asked
use Rattle.cert_types.specs.cert_rules.AcceptsPlain.{IsRule}
use Rattle.cert_types.specs.cert_rules.Nodes.{ResultVariable, Member, LocalBound}
use Rattle.local_size.specs.LocalAnswers.{HasBound, both_polynomial}
use Rattle.local_size.specs.Places.{is_polynomial_at}
use Rattle.bound_fixpoint.specs.Components.{IsDead, IsOneOf}
use Rattle.bound_fixpoint.specs.Keys.{IsPlace, key, has_key}
use Rattle.bound_fixpoint.specs.Searches.{EmptyHitLimit}
use Rattle.bound_fixpoint.proofs.Cases.{either}
use Rattle.time_bounds.specs.ProgramRules.{IsEmptinessOf, IsEmptyRule}
use Rattle.time_bounds.specs.ProgramSearches.{searches_of_program}
use Rattle.time_bounds.specs.ProgramSizes.{AreLive, IsLocalOf, AreLocals}
use Rattle.time_bounds.specs.SizeWhys.{IsComponentOf}
use Rattle.time_bounds.proofs.FreeValue.{of_rule}
use Rattle.time_bounds.proofs.OneProgram.{program_searches_one}
use Rattle.worked_reasons.specs.Programs.{limit_hit_at, squaring_to, squares, square_after, two_components}
use Rattle.worked_reasons.specs.Squares.{ComponentsOfSquares}
use Rattle.worked_reasons.proofs.SquareFlows.{both_live, square_locals, squares_apart}
use Rattle.worked_reasons.proofs.HitsLimit.{point_hits_limit}

-- with no pivot allowed the questions whether the rules have a point hit a limit
emptiness_hits_limit : (t target : ℕ) → rule_at squares t ≡ Some (squaring_to target)
    → IsEmptinessOf squares 0 t (EmptyHitLimit (limit_hit_at 0 (asked.Empty t)))
emptiness_hits_limit t target e =
    (squaring_to target, e, (empties.OutOfLimits (limit_hit_at 0 (asked.Empty t)), refl, (refl, point_hits_limit target)))

not_empty : (t target : ℕ) → rule_at squares t ≡ Some (squaring_to target) → IsEmptyRule squares 0 t → ⊥
not_empty t target e h =
    let same = (program_searches_one.each squares 0).empties t _ _ h.1 (emptiness_hits_limit t target e) in
    (let none : ⊥ = cc in none)

-- a property of both rules is one of each
of_rules : (P : ℕ → Type 0) → P 1 → P 2 → (t : ℕ) → IsRule squares t → P t
of_rules P one two zero h = absurd (none_some h.rule h.numbered)
of_rules P one two (suc zero) h = one
of_rules P one two (suc (suc zero)) h = two
of_rules P one two (suc (suc (suc t))) h = absurd (none_some h.rule h.numbered)

first_rule : IsRule squares 1
first_rule = record { rule = squaring_to 0; numbered = refl }

second_rule : IsRule squares 2
second_rule = record { rule = squaring_to 1; numbered = refl }

-- both rules leave the start symbol, so they aren't dead
not_dead : (t target : ℕ) → rule_at squares t ≡ Some (squaring_to target) → IsDead squares (λ u. false) t → ⊥
not_dead t target e (inl empty) = no_is_not_yes false refl empty
not_dead t target e (inr unreached) = unreached (squaring_to target) e (Here refl)

live : AreLive squares 0 both_live
live = record { is_empty = λ t. false; empty = empty; live = each }
  where
    empty : (t : ℕ) → IsRule squares t → (false ≡ true) ↔ IsEmptyRule squares 0 t
    empty t h = (
      (λ e. absurd (no_is_not_yes false refl e)),
      λ none. absurd (of_rules (λ u. IsEmptyRule squares 0 u → ⊥) (not_empty 1 0 refl) (not_empty 2 1 refl) t h none),
    )

    each : (t : ℕ) → (both_live t ≡ true) ↔ (IsRule squares t × (¬ (IsDead squares (λ u. false) t)))
    each zero = ((λ e. absurd (no_is_not_yes false refl e)), λ h. absurd (none_some h.0.rule h.0.numbered))
    each (suc zero) = ((λ e. (first_rule, not_dead 1 0 refl)), λ h. refl)
    each (suc (suc zero)) = ((λ e. (second_rule, not_dead 2 1 refl)), λ h. refl)
    each (suc (suc (suc t))) = ((λ e. absurd (no_is_not_yes false refl e)), λ h. absurd (none_some h.0.rule h.0.numbered))

-- a place after a rule that leads to a symbol with one place is the first one
one_place : (symbol i : ℕ) → arity_of squares symbol ≡ 1 → (found : ℕ) → Some symbol ≡ Some found → 1 ≤ i
    → i ≤ arity_of squares found → i ≡ 1
one_place symbol i arity found same least last =
    let most : i ≤ 1 = subst (λ (a : ℕ). i ≤ a) arity
    (subst (λ (s : ℕ). i ≤ arity_of squares s) (sym (some_same symbol found same)) last) in
    omega (arith, least, most)

-- the only place after a rule
place_after : (t i : ℕ) → both_live t ≡ true → IsPlace squares t i → i ≡ 1
place_after zero i e h = absurd (no_is_not_yes false refl e)
place_after (suc zero) i e h = one_place 0 i refl h.symbol h.target h.least h.last
place_after (suc (suc zero)) i e h = one_place 1 i refl h.symbol h.target h.least h.last
place_after (suc (suc (suc t))) i e h = absurd (no_is_not_yes false refl e)

-- the update bounds the place after each rule
local_after : (t target : ℕ) → rule_at squares t ≡ Some (squaring_to target) → IsPlace squares t 1
    → IsLocalOf squares 0 t 1 (HasBound both_polynomial)
local_after t target e place = record {
  rule = squaring_to target;
  numbered = e;
  place = place;
  local = inl (refl, refl);
}

first_place : IsPlace squares 1 1
first_place = record { symbol = 0; target = refl; least = omega arith; last = omega arith }

second_place : IsPlace squares 2 1
second_place = record { symbol = 1; target = refl; least = omega arith; last = omega arith }

first_local : IsLocalOf squares 0 1 1 (HasBound both_polynomial)
first_local = local_after 1 0 refl first_place

second_local : IsLocalOf squares 0 2 1 (HasBound both_polynomial)
second_local = local_after 2 1 refl second_place

locals : AreLocals squares 0 both_live square_locals
locals t i e h =
    subst (λ (j : ℕ). IsLocalOf squares 0 t j (HasBound both_polynomial)) (sym (place_after t i e h)) (at_one t e)
  where
    at_one : (t : ℕ) → both_live t ≡ true → IsLocalOf squares 0 t 1 (HasBound both_polynomial)
    at_one zero e = absurd (no_is_not_yes false refl e)
    at_one (suc zero) e = first_local
    at_one (suc (suc zero)) e = second_local
    at_one (suc (suc (suc t))) e = absurd (no_is_not_yes false refl e)

are_components : (searches_of_program squares 0).AreComponents two_components
are_components = (both_live, live, (square_locals, locals, squares_apart))

-- a member has this local bound
abbrev IsBoundOf : Member → Type 0
IsBoundOf m = IsLocalOf squares 0 m.result_variable.rule m.result_variable.place (HasBound m.local)

-- the updates of both rules are polynomials, so there is no other local bound
local_is : (t target : ℕ) (l : LocalBound) → rule_at squares t ≡ Some (squaring_to target)
    → IsLocalOf squares 0 t 1 (HasBound l) → l ≡ both_polynomial
local_is t target l e h =
    either h.local (λ whole. whole.1)
    (λ side_bounds. absurd (no_is_not_yes true
    (of_rule (λ r. is_polynomial_at (prepared r) 1 ≡ false) (squaring_to target) h.rule (sym e ∙ h.numbered) side_bounds.asked)
    refl))

-- members at one of these places alone
members_at : (t target : ℕ) (members : List Member) → rule_at squares t ≡ Some (squaring_to target)
    → key t 1 ∷ [] ≡ map (λ m. m.result_variable) members → All IsBoundOf members → members ≡ square_after t ∷ []
members_at t target [] e result_variables bounds = absurd (let none : ⊥ = cc in none)
members_at t target (m ∷ n ∷ members) e result_variables bounds = absurd (let none : ⊥ = cc in none)
members_at t target (m ∷ []) e result_variables bounds =
    let same : key t 1 ≡ m.result_variable = cc in
    let bound : IsLocalOf squares 0 t 1 (HasBound m.local) =
    subst (λ (k : ResultVariable). IsLocalOf squares 0 k.rule k.place (HasBound m.local)) (sym same)
    (All-head IsBoundOf m [] bounds) in
    ap (λ (n : Member). n ∷ []) (together m same (local_is t target m.local e bound))
  where
    together : (n : Member) → key t 1 ≡ n.result_variable → n.local ≡ both_polynomial → n ≡ square_after t
    together n s l = λ i. record { result_variable = sym s i; local = l i }

-- the members of a component of a place are one of the two
one_of_two : (t i : ℕ) (members : List Member) → IsComponentOf squares 0 t i members
    → IsOneOf two_components (map (λ m. m.result_variable) members)
one_of_two t i members h =
    subst (λ (cs : List (List ResultVariable)). IsOneOf cs (map (λ m. m.result_variable) members))
    ((program_searches_one.each squares 0).components _ _ h.are_components are_components) h.among

first_alone : (members : List Member) → IsComponentOf squares 0 1 1 members → members ≡ square_after 1 ∷ []
first_alone members h = go (one_of_two 1 1 members h)
  where
    go : IsOneOf two_components (map (λ m. m.result_variable) members) → members ≡ square_after 1 ∷ []
    go (inl e) = members_at 1 0 members refl e h.bounds
    go (inr (inl e)) = absurd (no_is_not_yes false refl (subst (λ (ks : List ResultVariable). has_key ks 1 1 ≡ true) (sym e) h.inside))
    go (inr (inr none)) = absurd none

second_alone : (members : List Member) → IsComponentOf squares 0 2 1 members → members ≡ square_after 2 ∷ []
second_alone members h = go (one_of_two 2 1 members h)
  where
    go : IsOneOf two_components (map (λ m. m.result_variable) members) → members ≡ square_after 2 ∷ []
    go (inl e) = absurd (no_is_not_yes false refl (subst (λ (ks : List ResultVariable). has_key ks 2 1 ≡ true) (sym e) h.inside))
    go (inr (inl e)) = members_at 2 1 members refl e h.bounds
    go (inr (inr none)) = absurd none

-- the place after a rule is a component by itself
by_itself : (t : ℕ) → IsOneOf two_components (key t 1 ∷ []) → has_key (key t 1 ∷ []) t 1 ≡ true
    → IsLocalOf squares 0 t 1 (HasBound both_polynomial) → IsComponentOf squares 0 t 1 (square_after t ∷ [])
by_itself t among inside bound = record {
  components = two_components;
  are_components = are_components;
  among = among;
  inside = inside;
  bounds = All-cons IsBoundOf (square_after t) [] bound (All-nil IsBoundOf);
}

pub components : ComponentsOfSquares
components = record {
  first = by_itself 1 (inl refl) refl first_local;
  second = by_itself 2 (inr (inl refl)) refl second_local;
  no_other_first = first_alone;
  no_other_second = second_alone;
}
