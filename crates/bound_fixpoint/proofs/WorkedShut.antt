-- Worked values: which places are shut for the rule sets of the program that counts down.
use Rattle.std.proofs.Common.{◌≡◌, ◌⊎◌, inl, inr, ℕ, ◌≤◌, true, List, [], ◌∷◌, Some, None, refl, sym, ◌∙◌, ap}
use Rattle.std.proofs.Common.{subst, arith}
use Rattle.std.specs.List.{Contains}
use Rattle.rule_questions.specs.model.Programs.{arity_of}
use Rattle.rule_questions.specs.model.Bounds.{Bound, Input}
use Rattle.rule_questions.specs.model.Entries.{is_in}
use Rattle.rule_questions.specs.model.Paths.{target_of}
use Rattle.rule_questions.proofs.model.Cases.{some_none, some_same}
use Rattle.rule_questions.proofs.model.Membership.{is_in-cases}
use Rattle.rule_questions.specs.cert_rules.Gaps.{SymbolPlace}
use Rattle.rule_questions.specs.cert_rules.WorkedSettings.{counting}
use Rattle.rule_questions.specs.cert_rules.Worked.{entered_size}
use Rattle.bound_fixpoint.specs.Keys.{Bounds, IsPlace}
use Rattle.bound_fixpoint.specs.Sets.{PlaceIsBefore, IsShut, AreShutOf}
use Rattle.bound_fixpoint.specs.WorkedSets.{nothing_known, once_known, entered_known, place, ShutOfCounting}
use Rattle.bound_fixpoint.proofs.Cases.{false_true}
use Rattle.bound_fixpoint.proofs.ListMembers.{contains-cases, contains-none, contains-first}

-- the targets of rules 0, 1 and 2 have one place, place 1
pub entry_place : (i : ℕ) → IsPlace counting.program 0 i → i ≡ 1
entry_place i h =
    let symbol = some_same 0 h.symbol h.target in
    let last : i ≤ 1 = subst (λ (a : ℕ). i ≤ arity_of counting.program a) (sym symbol) h.last in
    omega (arith, h.least, last)

pub place_of_l : (i : ℕ) → IsPlace counting.program 1 i → i ≡ 1
place_of_l i h =
    let symbol = some_same 1 h.symbol h.target in
    let last : i ≤ 1 = subst (λ (a : ℕ). i ≤ arity_of counting.program a) (sym symbol) h.last in
    omega (arith, h.least, last)

pub place_after_2 : (i : ℕ) → IsPlace counting.program 2 i → i ≡ 1
place_after_2 i h =
    let symbol = some_same 1 h.symbol h.target in
    let last : i ≤ 1 = subst (λ (a : ℕ). i ≤ arity_of counting.program a) (sym symbol) h.last in
    omega (arith, h.least, last)

-- if the only rule into the set has a size at its target's only place, no place is shut
entry_open : (bs : Bounds) (set : List ℕ) (entry : ℕ) (b : Bound) → bs entry 1 ≡ Some b
    → ((i : ℕ) → IsPlace counting.program entry i → i ≡ 1)
    → ((e : ℕ) → is_in e (entry ∷ []) ≡ true → e ≡ entry) → (s : SymbolPlace)
    → ((h : IsShut counting.program bs set s) → is_in h.entry (entry ∷ []) ≡ true) → IsShut counting.program bs set s
    → ⊥
entry_open bs set entry b known only lone s enters h =
    let same = lone h.entry (enters h) in
    let there = subst (λ (n : ℕ). IsPlace counting.program n s.place) same h.place in
    let missing = subst (λ (n : ℕ). bs n s.place ≡ None) same h.missing in
    some_none b (sym known ∙ subst (λ (i : ℕ). bs entry i ≡ None) (only s.place there) missing)

-- a member of a list of one number is that number
pub lone_number : (n e : ℕ) → is_in e (n ∷ []) ≡ true → e ≡ n
lone_number n e m = go (is_in-cases e n [] m)
  where
    go : (e ≡ n) ⊎ (is_in e [] ≡ true) → e ≡ n
    go (inl same) = same
    go (inr x) = absurd (false_true x)

-- for the set {1, 2}, and for {1}, no place is shut, since the virtual entry has a size at place 1
pub none_shut : (bs : Bounds) → bs 0 1 ≡ Some (Input 0) → (s : SymbolPlace)
    → IsShut counting.program bs (1 ∷ 2 ∷ []) s → ⊥
none_shut bs known s h =
    entry_open bs (1 ∷ 2 ∷ []) 0 (Input 0) known entry_place (lone_number 0) s (λ k. k.enters) h

pub none_shut_first : (bs : Bounds) → bs 0 1 ≡ Some (Input 0) → (s : SymbolPlace)
    → IsShut counting.program bs (1 ∷ []) s → ⊥
none_shut_first bs known s h =
    entry_open bs (1 ∷ []) 0 (Input 0) known entry_place (lone_number 0) s (λ k. k.enters) h

-- for {2} no place is shut if the size after rule 1 is known
pub none_shut_alone : (bs : Bounds) (b : Bound) → bs 1 1 ≡ Some b → (s : SymbolPlace)
    → IsShut counting.program bs (2 ∷ []) s → ⊥
none_shut_alone bs b known s h =
    entry_open bs (2 ∷ []) 1 b known place_of_l (lone_number 1) s (λ k. k.enters) h

-- where no place is shut, the list of shut places is empty
pub open_places : (bs : Bounds) (set : List ℕ) → ((s : SymbolPlace) → IsShut counting.program bs set s → ⊥)
    → AreShutOf counting.program bs set []
open_places bs set none = record {
  order = tt;
  places = λ s. (λ c. absurd (contains-none s c), λ h. absurd (none s h));
}

-- into the set {2} leads only rule 1, so only the place of its target l can be shut
alone_shut : (bs : Bounds) (s : SymbolPlace) → IsShut counting.program bs (2 ∷ []) s → place 1 1 ≡ s
alone_shut bs s h =
    let same = lone_number 1 h.entry h.enters in
    let leads = subst (λ (n : ℕ). target_of counting.program n ≡ Some s.symbol) same h.leads in
    let there = subst (λ (n : ℕ). IsPlace counting.program n s.place) same h.place in
    ap (λ (n : ℕ). place n 1) (some_same 1 s.symbol leads)
    ∙ ap (λ (n : ℕ). place s.symbol n) (sym (place_of_l s.place there))

is_shut : (bs : Bounds) → bs 1 1 ≡ None → IsShut counting.program bs (2 ∷ []) (place 1 1)
is_shut bs missing = record {
  entry = 1;
  enters = refl;
  leads = refl;
  place = record { symbol = 1; target = refl; least = omega arith; last = omega arith };
  missing = missing;
}

only : (s : SymbolPlace) → Contains (place 1 1 ∷ []) s → place 1 1 ≡ s
only s c = go (contains-cases s (place 1 1) [] c)
  where
    go : (place 1 1 ≡ s) ⊎ Contains [] s → place 1 1 ≡ s
    go (inl e) = e
    go (inr n) = absurd (contains-none s n)

-- where no size is known after rule 1, that place is shut for rule 2
pub one_shut : (bs : Bounds) → bs 1 1 ≡ None → AreShutOf counting.program bs (2 ∷ []) (place 1 1 ∷ [])
one_shut bs missing = record {
  order = tt;
  places = λ s. (
    λ c. subst (λ (z : SymbolPlace). IsShut counting.program bs (2 ∷ []) z) (only s c) (is_shut bs missing),
    λ h. subst (λ (z : SymbolPlace). Contains (place 1 1 ∷ []) z) (alone_shut bs s h) (contains-first (place 1 1) []),
  );
}

symbols_differ : place 1 1 ≡ place 0 1 → ⊥
symbols_differ e = let symbols : ◌≡◌ {A = ℕ} 1 0 = ap (λ (s : SymbolPlace). s.symbol) e in omega (arith, symbols)

twice : PlaceIsBefore (place 1 1) (place 1 1) → ⊥
twice (inl h) = omega (arith, h)
twice (inr h) = let low = h.1 in omega (arith, low)

pub shut-worked : ShutOfCounting
shut-worked = record {
  alone = one_shut once_known refl;
  not_none = λ a. contains-none (place 1 1) ((a.places (place 1 1)).1 (is_shut once_known refl));
  not_entered = λ a. symbols_differ (alone_shut once_known (place 0 1)
      ((a.places (place 0 1)).0 (contains-first (place 0 1) (place 1 1 ∷ []))));
  not_twice = λ a. twice a.order.0;
  sized = open_places entered_known (2 ∷ []) (none_shut_alone entered_known entered_size refl);
  both = open_places nothing_known (1 ∷ 2 ∷ []) (none_shut nothing_known refl);
}
