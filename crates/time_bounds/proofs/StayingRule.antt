-- A rule k(A) -> k(A), alone in its program, has no time, as its gap shows.
use Rattle.std.proofs.Common.{◌≡◌, inl, inr, ℕ, zero, suc, ◌≤◌, true, false, [], ◌∷◌, None, refl, sym, subst, arith}
use Rattle.std.specs.List.{Contains}
use Rattle.model.specs.Bounds.{Input}
use Rattle.model.specs.Entries.{is_in}
use Rattle.model.specs.Paths.{IsInSet, LeadsBackTo}
use Rattle.model.specs.Programs.{arity_of}
use Rattle.model.proofs.Cases.{none_some, some_none, some_same}
use Rattle.model.proofs.Membership.{is_in-cases, no_is_not_yes}
use Rattle.outcome.specs.Reports.{NoFunction}
use Rattle.cert_types.specs.cert_rules.Gaps.{SymbolPlace}
use Rattle.cert_types.specs.cert_program.WorkedGaps.{looping}
use Rattle.cert_types.proofs.cert_program.WorkedGaps.{gaps_of_programs}
use Rattle.bound_fixpoint.specs.Keys.{IsPlace, is_untimed}
use Rattle.bound_fixpoint.specs.Sets.{IsSetOfRule, IsShut, AreShutOf}
use Rattle.bound_fixpoint.proofs.Cases.{either}
use Rattle.time_bounds.specs.TimeWhys.{HasNoTime}
use Rattle.time_bounds.specs.WorkedReports.{staying_gap, staying_said}

-- the set of the rule is the rule alone
staying_set : IsSetOfRule looping staying_said 1 (1 ∷ [])
staying_set = record { ascending = tt; members = λ e. (onward e, back e) }
  where
    onward : (e : ℕ) → is_in e (1 ∷ []) ≡ true → IsInSet looping (is_untimed staying_said) 1 e
    onward e m = either (is_in-cases e 1 [] m) (λ same. inl same) (λ later. absurd (no_is_not_yes false refl later))

    leading : (e : ℕ) → LeadsBackTo looping (is_untimed staying_said) 1 e → is_in e (1 ∷ []) ≡ true
    leading zero h = absurd (no_is_not_yes false refl h.untimed)
    leading (suc zero) h = refl
    leading (suc (suc k)) h = absurd (none_some h.from h.leads)

    back : (e : ℕ) → IsInSet looping (is_untimed staying_said) 1 e → is_in e (1 ∷ []) ≡ true
    back e (inl same) = subst (λ (n : ℕ). is_in n (1 ∷ []) ≡ true) (sym same) refl
    back e (inr h) = leading e h

-- no place is shut for the rule: the virtual entry has a size at its only place
pub none_shut : (s : SymbolPlace) → IsShut looping staying_said (1 ∷ []) s → ⊥
none_shut s h = at_entry h.entry (either (is_in-cases h.entry 0 [] h.enters) (λ e. e)
    (λ later. absurd (no_is_not_yes false refl later))) h.place h.missing
  where
    at_one : (i : ℕ) → i ≡ 1 → staying_said 0 i ≡ None → ⊥
    at_one i e m = some_none (Input 0) (subst (λ (n : ℕ). staying_said 0 n ≡ None) e m)

    one_place : (i : ℕ) → IsPlace looping 0 i → i ≡ 1
    one_place i place =
        let last : i ≤ 1 = subst (λ (a : ℕ). i ≤ arity_of looping a) (sym (some_same 0 place.symbol place.target)) place.last in
        omega (arith, place.least, last)

    at_entry : (e : ℕ) → e ≡ 0 → IsPlace looping e s.place → staying_said e s.place ≡ None → ⊥
    at_entry e same place m =
        at_one s.place (one_place s.place (subst (λ (n : ℕ). IsPlace looping n s.place) same place))
        (subst (λ (n : ℕ). staying_said n s.place ≡ None) same m)

staying_shut : AreShutOf looping staying_said (1 ∷ []) []
staying_shut = record {
  order = tt;
  places = λ s. ((λ m. absurd (nothing s m)), λ h. absurd (none_shut s h));
}
  where
    nothing : (s : SymbolPlace) → Contains [] s → ⊥
    nothing s (n, low, same) = omega (arith, low)

-- the gap of the rule shows that it has no time
pub staying_so : HasNoTime looping 10 staying_said 1 (NoFunction staying_gap)
staying_so = record {
  rule = refl;
  sought = record { is_set = staying_set; are_shut = staying_shut };
  none = gaps_of_programs.looping_unranked;
  shown = gaps_of_programs.looping_holds;
}
