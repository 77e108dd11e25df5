-- The sets over which functions are searched, and the shut places, for two rules k(A) -> k(A).
use Rattle.std.proofs.Common.{◌≡◌, inl, inr, ℕ, zero, suc, ◌≤◌, true, false, [], ◌∷◌, Some, None, refl, sym, ◌∙◌}
use Rattle.std.proofs.Common.{subst, arith}
use Rattle.std.specs.List.{Contains}
use Rattle.model.specs.Bounds.{Input}
use Rattle.model.specs.Entries.{is_in}
use Rattle.model.specs.Paths.{IsInSet, LeadsBackTo, Here, target_of}
use Rattle.model.specs.Programs.{arity_of}
use Rattle.model.proofs.Cases.{none_some, some_none, some_same}
use Rattle.model.proofs.Membership.{is_in-cases, no_is_not_yes}
use Rattle.cert_types.specs.cert_rules.Gaps.{SymbolPlace}
use Rattle.cert_types.proofs.cert_rules.CheckLists.{of_one, of_two}
use Rattle.cert_types.specs.cert_program.WorkedGaps.{first_place}
use Rattle.bound_fixpoint.specs.Keys.{Bounds, IsPlace, is_untimed}
use Rattle.bound_fixpoint.specs.Sets.{IsSetOfRule, IsShut, AreShutOf}
use Rattle.bound_fixpoint.proofs.Cases.{either}
use Rattle.bound_fixpoint.proofs.ListMembers.{contains-cases, contains-none}
use Rattle.time_bounds.specs.WorkedTimeWhys.{twice, second_said, unsized_said, both_said, SetsAreSought}

-- if rule 2 has a time, the set of rule 1 is rule 1 alone
alone_set : (b : Bounds) → is_untimed b 0 ≡ false → is_untimed b 2 ≡ false → IsSetOfRule twice b 1 (1 ∷ [])
alone_set b entry second = record { ascending = tt; members = λ e. (onward e, back e) }
  where
    onward : (e : ℕ) → is_in e (1 ∷ []) ≡ true → IsInSet twice (is_untimed b) 1 e
    onward e m = either (is_in-cases e 1 [] m) (λ same. inl same) (λ later. absurd (no_is_not_yes false refl later))

    leading : (e : ℕ) → LeadsBackTo twice (is_untimed b) 1 e → is_in e (1 ∷ []) ≡ true
    leading zero h = absurd (no_is_not_yes (is_untimed b 0) entry h.untimed)
    leading (suc zero) h = refl
    leading (suc (suc zero)) h = absurd (no_is_not_yes (is_untimed b 2) second h.untimed)
    leading (suc (suc (suc k))) h = absurd (none_some h.from h.leads)

    back : (e : ℕ) → IsInSet twice (is_untimed b) 1 e → is_in e (1 ∷ []) ≡ true
    back e (inl same) = subst (λ (n : ℕ). is_in n (1 ∷ []) ≡ true) (sym same) refl
    back e (inr h) = leading e h

-- if rule 2 has no time, it leads back to rule 1
second_leads : IsInSet twice (is_untimed both_said) 1 2
second_leads = inr record { untimed = refl; from = 0; leads = refl; to = 0; leaves = refl; path = Here refl }

both_set : IsSetOfRule twice both_said 1 (1 ∷ 2 ∷ [])
both_set = record { ascending = (omega arith, tt); members = λ e. (onward e, back e) }
  where
    onward : (e : ℕ) → is_in e (1 ∷ 2 ∷ []) ≡ true → IsInSet twice (is_untimed both_said) 1 e
    onward e m = of_two (λ n. IsInSet twice (is_untimed both_said) 1 n) 1 2 (inl refl) second_leads e m

    leading : (e : ℕ) → LeadsBackTo twice (is_untimed both_said) 1 e → is_in e (1 ∷ 2 ∷ []) ≡ true
    leading zero h = absurd (no_is_not_yes false refl h.untimed)
    leading (suc zero) h = refl
    leading (suc (suc zero)) h = refl
    leading (suc (suc (suc k))) h = absurd (none_some h.from h.leads)

    back : (e : ℕ) → IsInSet twice (is_untimed both_said) 1 e → is_in e (1 ∷ 2 ∷ []) ≡ true
    back e (inl same) = subst (λ (n : ℕ). is_in n (1 ∷ 2 ∷ []) ≡ true) (sym same) refl
    back e (inr h) = leading e h

-- an entry that leads to the only symbol has one place
one_place : (e i : ℕ) → target_of twice e ≡ Some 0 → IsPlace twice e i → i ≡ 1
one_place e i t place =
    let same : 0 ≡ place.symbol = some_same 0 place.symbol (sym t ∙ place.target) in
    let last : i ≤ 1 = subst (λ (a : ℕ). i ≤ arity_of twice a) (sym same) place.last in
    omega (arith, place.least, last)

-- an entry with a size at its only place shuts nothing
keeps_open : (b : Bounds) (e : ℕ) (s : SymbolPlace) → target_of twice e ≡ Some 0 → b e 1 ≡ Some (Input 0)
    → IsPlace twice e s.place → b e s.place ≡ None → ⊥
keeps_open b e s t known place missing =
    some_none (Input 0) (sym known ∙ subst (λ (i : ℕ). b e i ≡ None) (one_place e s.place t place) missing)

-- if both entries have sizes, no place is shut for rule 1
none_shut : (s : SymbolPlace) → IsShut twice second_said (1 ∷ []) s → ⊥
none_shut s h =
    of_two (λ e. IsPlace twice e s.place → second_said e s.place ≡ None → ⊥) 0 2 (keeps_open second_said 0 s refl refl)
    (keeps_open second_said 2 s refl refl) h.entry h.enters h.place h.missing

second_open : AreShutOf twice second_said (1 ∷ []) []
second_open = record {
  order = tt;
  places = λ s. ((λ m. absurd (contains-none s m)), λ h. absurd (none_shut s h));
}

-- if neither rule has a time, the virtual entry is the only entry, and no place is shut
none_shut_both : (s : SymbolPlace) → IsShut twice both_said (1 ∷ 2 ∷ []) s → ⊥
none_shut_both s h =
    of_one (λ e. IsPlace twice e s.place → both_said e s.place ≡ None → ⊥) 0 (keeps_open both_said 0 s refl refl) h.entry
    h.enters h.place h.missing

both_open : AreShutOf twice both_said (1 ∷ 2 ∷ []) []
both_open = record {
  order = tt;
  places = λ s. ((λ m. absurd (contains-none s m)), λ h. absurd (none_shut_both s h));
}

-- if rule 2 has no size, its place is shut, and no other
shut_place : IsShut twice unsized_said (1 ∷ []) first_place
shut_place = record {
  entry = 2;
  enters = refl;
  leads = refl;
  place = record { symbol = 0; target = refl; least = omega arith; last = omega arith };
  missing = refl;
}

only_shut : (s : SymbolPlace) → IsShut twice unsized_said (1 ∷ []) s → first_place ≡ s
only_shut s h =
    of_two (λ e. target_of twice e ≡ Some s.symbol → IsPlace twice e s.place → first_place ≡ s) 0 2 (so 0 refl) (so 2 refl)
    h.entry h.enters h.leads h.place
  where
    so : (e : ℕ) → target_of twice e ≡ Some 0 → target_of twice e ≡ Some s.symbol → IsPlace twice e s.place
        → first_place ≡ s
    so e t leads place =
        let symbol : 0 ≡ s.symbol = some_same 0 s.symbol (sym t ∙ leads) in
        let at : 1 ≡ s.place = sym (one_place e s.place t place) in
        λ i. record { symbol = symbol i; place = at i }

second_shut : AreShutOf twice unsized_said (1 ∷ []) (first_place ∷ [])
second_shut = record {
  order = tt;
  places = λ s. (
    (λ m. either (contains-cases s first_place [] m)
        (λ e. subst (λ (q : SymbolPlace). IsShut twice unsized_said (1 ∷ []) q) e shut_place)
        (λ later. absurd (contains-none s later))),
    λ h. subst (λ (q : SymbolPlace). Contains (first_place ∷ []) q) (only_shut s h) (zero, omega arith, refl),
  );
}

-- if rule 2 has a time, it isn't in the set of rule 1
two_alone : (is_in 2 (1 ∷ 2 ∷ []) ≡ true → IsInSet twice (is_untimed second_said) 1 2) → ⊥
two_alone h = either (h refl) (λ e. let same : ◌≡◌ {A = ℕ} 2 1 = e in omega (arith, same))
    (λ back. no_is_not_yes false refl back.untimed)

-- the worked values of these sets hold
pub sets : SetsAreSought
sets = record {
  alone = record { is_set = alone_set second_said refl refl; are_shut = second_open };
  not_both = λ h. two_alone (h.is_set.members 2).0;
  not_shut = λ h. none_shut first_place ((h.are_shut.places first_place).0 (zero, omega arith, refl));
  shut = record { is_set = alone_set unsized_said refl refl; are_shut = second_shut };
  not_open = λ h. contains-none first_place ((h.are_shut.places first_place).1 shut_place);
  both = record { is_set = both_set; are_shut = both_open };
  not_alone = λ h. no_is_not_yes false refl ((h.is_set.members 2).1 second_leads);
}
