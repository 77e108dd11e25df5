-- Each rule has its set, and each set its shut places.
use Rattle.std.proofs.Common.{◌≡◌, inl, inr, ℕ, zero, suc, ◌+◌, ◌<◌, ◌≤◌, ◌==◌, ◌&&◌, ◌||◌, Bool}
use Rattle.std.proofs.Common.{true, false, List, [], ◌∷◌, ◌++◌, length, filter, map, Option, Some, None, refl}
use Rattle.std.proofs.Common.{sym, ◌∙◌, ap, subst, arith, slice_get}
use Rattle.std.specs.List.{list_any, range_with_len, Contains}
use Rattle.std.proofs.lemmas.Bool.{and_parts, or_left, or_right}
use Rattle.rule_questions.specs.model.Programs.{Program, Symbol, arity_of}
use Rattle.rule_questions.specs.model.Entries.{is_in, entries}
use Rattle.rule_questions.specs.model.Paths.{HasPath, LeadsBackTo, IsInSet, source_of, target_of, source_in}
use Rattle.rule_questions.specs.model.Paths.{same_symbol}
use Rattle.rule_questions.proofs.model.Membership.{same_number, same_number-sound, no_is_not_yes, is_in-cases, is_in-filter}
use Rattle.rule_questions.proofs.model.Membership.{filter-in}
use Rattle.rule_questions.proofs.model.Membership.{list_any-from, list_any-sound, is_in-numbers}
use Rattle.rule_questions.proofs.model.Membership.{slice_get-below}
use Rattle.rule_questions.specs.cert_rules.Gaps.{SymbolPlace}
use Rattle.rule_questions.specs.cert_rules.Known.{IsKnown}
use Rattle.rule_questions.specs.cert_rules.Numbers.{IsAscending}
use Rattle.rule_questions.specs.cert_rules.AcceptsPlain.{IsRule, places_at}
use Rattle.bound_fixpoint.specs.Keys.{Bounds, rule_numbers, lacks, is_untimed}
use Rattle.bound_fixpoint.specs.Sets.{IsSetOfRule, IsShut, PlaceIsBefore, ArePlacesInOrder, AreShutOf}
use Rattle.bound_fixpoint.proofs.Cases.{either, some_same, by_cases, lacks_none}
use Rattle.bound_fixpoint.proofs.RuleNumbers.{rule_in, place_in, in_places}
use Rattle.bound_fixpoint.proofs.EntryBounds.{one_symbol}
use Rattle.bound_fixpoint.proofs.AcceptedRanks.{leading_rule}
use Rattle.bound_fixpoint.proofs.ListMembers.{contains-cases, contains-none, contains-first, contains-later}
use Rattle.bound_fixpoint.proofs.ListMembers.{contains-left, contains-right, contains-either}
use Rattle.bound_fixpoint.proofs.OneOrder.{IsChain, chain-append}
use Rattle.bound_fixpoint.proofs.PathTests.{passes_at, paths_decided}

-- a number before all of an ascending list
ascending_cons : (x : ℕ) (xs : List ℕ) → ((y : ℕ) → is_in y xs ≡ true → x < y) → IsAscending xs → IsAscending (x ∷ xs)
ascending_cons x [] h k = tt
ascending_cons x (y ∷ xs) h k = (h y (or_left (y == y) (is_in y xs) (same_number y)), k)

-- numbers of a range are at least the first
from_first : (n a x : ℕ) → is_in x (range_with_len a n) ≡ true → a ≤ x
from_first zero a x m = absurd (no_is_not_yes false refl m)
from_first (suc n) a x m =
    either (is_in-cases x a (range_with_len (a + 1) n) m) (λ e. omega (arith, e))
    (λ l. omega (arith, from_first n (a + 1) x l))

-- a range that is filtered ascends
pub filtered_ascends : (test : ℕ → Bool) (n a : ℕ) → IsAscending (filter test (range_with_len a n))
filtered_ascends test zero a = tt
filtered_ascends test (suc n) a = go (test a) refl (filtered_ascends test n (a + 1))
  where
    above : (y : ℕ) → is_in y (filter test (range_with_len (a + 1) n)) ≡ true → a < y
    above y m = omega (arith, from_first n (a + 1) y (filter-in test (range_with_len (a + 1) n) y m).0)

    go : (v : Bool) → test a ≡ v → IsAscending (filter test (range_with_len (a + 1) n)) → IsAscending
        (filter test (range_with_len a (suc n)))
    go true e h = rw e (ascending_cons a (filter test (range_with_len (a + 1) n)) above h)
    go false e h = rw e h

module _ (p : Program) (bs : Bounds) where
  -- the set of a rule
  module _ (begun : IsKnown (bs 0 0)) (t : ℕ) (rule : IsRule p t) where
    source : source_of p t ≡ Some rule.rule.source
    source = ap source_in rule.numbered

    abbrev leads_there : ℕ → Bool
    leads_there from = (paths_decided p (is_untimed bs) from).0 rule.rule.source

    abbrev leads_back : ℕ → Bool
    leads_back e = (e == t) || (is_untimed bs e && passes_at leads_there (target_of p e))

    to_member : (e : ℕ) → is_in e (filter leads_back (rule_numbers p)) ≡ true → IsInSet p (is_untimed bs) t e
    to_member e m =
        by_cases (e == t) (λ same. inl (same_number-sound e t same)) (λ other. inr
        (by (rw other at (filter-in leads_back (rule_numbers p) e m).1)))
      where
        on : (o : Option ℕ) → target_of p e ≡ o → is_untimed bs e ≡ true → passes_at leads_there o ≡ true
            → LeadsBackTo p (is_untimed bs) t e
        on None x u h = absurd (no_is_not_yes false refl h)
        on (Some from) x u h = record {
          untimed = u;
          from = from;
          leads = x;
          to = rule.rule.source;
          leaves = source;
          path = ((paths_decided p (is_untimed bs) from).1 rule.rule.source).0 h;
        }

        by : (is_untimed bs e && passes_at leads_there (target_of p e)) ≡ true → LeadsBackTo p (is_untimed bs) t e
        by h = let both = and_parts (is_untimed bs e) (passes_at leads_there (target_of p e)) h in on
            (target_of p e) refl both.0 both.1

    from_member : (e : ℕ) → IsInSet p (is_untimed bs) t e → is_in e (filter leads_back (rule_numbers p)) ≡ true
    from_member e (inl same) =
        subst (λ (n : ℕ). is_in n (filter leads_back (rule_numbers p)) ≡ true) (sym same)
        (is_in-filter leads_back (rule_numbers p) t (rule_in p t rule.rule rule.numbered)
        (or_left (t == t) (is_untimed bs t && passes_at leads_there (target_of p t)) (same_number t)))
    from_member e (inr h) =
        let member = leading_rule p e h.from h.leads not_entry in
        is_in-filter leads_back (rule_numbers p) e (rule_in p e member.rule member.numbered)
        (or_right (e == t) (is_untimed bs e && passes_at leads_there (target_of p e))
        (rw (h.untimed, h.leads, there) refl))
      where
        not_entry : e ≡ 0 → ⊥
        not_entry z =
            let zero_untimed : is_untimed bs 0 ≡ true = subst (λ (n : ℕ). is_untimed bs n ≡ true) z h.untimed in
            no_is_not_yes (is_untimed bs 0) (ap lacks begun.1) zero_untimed

        to_source : h.to ≡ rule.rule.source
        to_source = some_same h.to rule.rule.source (sym h.leaves ∙ source)

        there : leads_there h.from ≡ true
        there = ((paths_decided p (is_untimed bs) h.from).1 rule.rule.source).1
            (subst (λ (n : ℕ). HasPath p (is_untimed bs) h.from n) to_source h.path)

    pub set_there : (set : List ℕ) × IsSetOfRule p bs t set
    set_there = (
      filter leads_back (rule_numbers p),
      record {
        ascending = filtered_ascends leads_back (length p.rules) 1;
        members = λ e. (to_member e, from_member e);
      },
    )

  -- the shut places of a set
  module _ (set : List ℕ) where
    abbrev is_open : ℕ → ℕ → Bool
    is_open a i = list_any (λ e. same_symbol (Some a) (target_of p e) && lacks (bs e i)) (entries p set)

    abbrev shut_at : ℕ → List ℕ
    shut_at a = filter (is_open a) (range_with_len 1 (arity_of p a))

    abbrev place : ℕ → ℕ → SymbolPlace
    place a i = record { symbol = a; place = i }

    abbrev shut_of_all : List ℕ → List SymbolPlace
    shut_of_all [] = []
    shut_of_all (a ∷ symbols) = map (place a) (shut_at a) ++ shut_of_all symbols

    in_places_of : (a : ℕ) (is : List ℕ) (s : SymbolPlace) → Contains (map (place a) is) s → (s.symbol ≡ a) ×
        (is_in s.place is ≡ true)
    in_places_of a [] s c = absurd (contains-none s c)
    in_places_of a (i ∷ is) s c =
        either (contains-cases s (place a i) (map (place a) is) c)
        (λ e. (
          sym (ap (λ (x : SymbolPlace). x.symbol) e),
          or_left (s.place == i) (is_in s.place is)
              (subst (λ (n : ℕ). (n == i) ≡ true) (ap (λ (x : SymbolPlace). x.place) e) (same_number i)),
        ))
        (λ m. let rest = in_places_of a is s m in (rest.0, or_right (s.place == i) (is_in s.place is) rest.1))

    place_among : (a i : ℕ) (is : List ℕ) → is_in i is ≡ true → Contains (map (place a) is) (place a i)
    place_among a i [] m = absurd (no_is_not_yes false refl m)
    place_among a i (k ∷ is) m =
        either (is_in-cases i k is m)
        (λ e. subst (λ (n : ℕ). Contains (map (place a) (k ∷ is)) (place a n)) (sym e)
        (contains-first (place a k) (map (place a) is)))
        (λ l. contains-later (place a i) (place a k) (map (place a) is) (place_among a i is l))

    in_all : (symbols : List ℕ) (s : SymbolPlace) → Contains (shut_of_all symbols) s → (is_in s.symbol symbols ≡ true) ×
        (is_in s.place (shut_at s.symbol) ≡ true)
    in_all [] s c = absurd (contains-none s c)
    in_all (a ∷ symbols) s c =
        either (contains-either s (map (place a) (shut_at a)) (shut_of_all symbols) c)
        (λ m. let here = in_places_of a (shut_at a) s m in (
          or_left (s.symbol == a) (is_in s.symbol symbols) (subst (λ (n : ℕ). (s.symbol == n) ≡ true) here.0
              (same_number s.symbol)),
          subst (λ (n : ℕ). is_in s.place (shut_at n) ≡ true) (sym here.0) here.1,
        ))
        (λ m. let rest = in_all symbols s m in (or_right (s.symbol == a) (is_in s.symbol symbols) rest.0, rest.1))

    all_among : (symbols : List ℕ) (a i : ℕ) → is_in a symbols ≡ true → is_in i (shut_at a) ≡ true → Contains
        (shut_of_all symbols) (place a i)
    all_among [] a i m h = absurd (no_is_not_yes false refl m)
    all_among (x ∷ symbols) a i m h =
        either (is_in-cases a x symbols m)
        (λ e. contains-left (place a i) (map (place x) (shut_at x)) (shut_of_all symbols)
        (subst (λ (n : ℕ). Contains (map (place n) (shut_at n)) (place a i)) e (place_among a i (shut_at a) h)))
        (λ l. contains-right (place a i) (map (place x) (shut_at x)) (shut_of_all symbols) (all_among symbols a i l h))

    -- the places of a symbol are in order
    places_chain : (a : ℕ) (is : List ℕ) → IsAscending is → IsChain PlaceIsBefore (map (place a) is)
    places_chain a [] h = tt
    places_chain a (i ∷ []) h = tt
    places_chain a (i ∷ k ∷ is) h = (inr (refl, h.0), places_chain a (k ∷ is) h.1)

    all_chain : (n a : ℕ) → IsChain PlaceIsBefore (shut_of_all (range_with_len a n))
    all_chain zero a = tt
    all_chain (suc n) a =
        chain-append PlaceIsBefore (map (place a) (shut_at a)) (shut_of_all (range_with_len (a + 1) n))
        (places_chain a (shut_at a) (filtered_ascends (is_open a) (arity_of p a) 1)) (all_chain n (a + 1)) before
      where
        before : (s r : SymbolPlace) → Contains (map (place a) (shut_at a)) s → Contains
            (shut_of_all (range_with_len (a + 1) n)) r → PlaceIsBefore s r
        before s r c d =
            let low = (in_places_of a (shut_at a) s c).0 in
            let high = from_first n (a + 1) r.symbol (in_all (range_with_len (a + 1) n) r d).0 in
            inl (omega (arith, low, high))

    to_shut : (s : SymbolPlace) → Contains (shut_of_all (range_with_len 0 (length p.symbols))) s → IsShut p bs set s
    to_shut s c = by (list_any-sound (λ e. same_symbol (Some s.symbol) (target_of p e) && lacks (bs e s.place))
        (entries p set) passes.1)
      where
        passes : (is_in s.place (range_with_len 1 (arity_of p s.symbol)) ≡ true) × (is_open s.symbol s.place ≡ true)
        passes =
            filter-in (is_open s.symbol) (range_with_len 1 (arity_of p s.symbol)) s.place
            (in_all (range_with_len 0 (length p.symbols)) s c).1

        by : ((e : ℕ) × (is_in e (entries p set) ≡ true) ×
            ((same_symbol (Some s.symbol) (target_of p e) && lacks (bs e s.place)) ≡ true))
            → IsShut p bs set s
        by (e, m, h) =
            let both = and_parts (same_symbol (Some s.symbol) (target_of p e)) (lacks (bs e s.place)) h in
            let there = one_symbol (Some s.symbol) (target_of p e) both.0 in
            let same = some_same s.symbol there.0 there.1 in
            let leads : target_of p e ≡ Some s.symbol = there.2 ∙ ap (λ (n : ℕ). Some n) (sym same) in
            let member : is_in s.place (places_at p (target_of p e)) ≡ true =
            subst (λ (o : Option ℕ). is_in s.place (places_at p o) ≡ true) (sym leads) passes.0 in
            record {
              entry = e;
              enters = m;
              leads = leads;
              place = in_places p e s.place member;
              missing = lacks_none
                  (bs e s.place) both.1;
            }

    from_shut : (s : SymbolPlace) → IsShut p bs set s → Contains (shut_of_all (range_with_len 0 (length p.symbols))) s
    from_shut s h =
        all_among (range_with_len 0 (length p.symbols)) s.symbol s.place
        (is_in-numbers (length p.symbols) s.symbol within)
        (is_in-filter (is_open s.symbol) (range_with_len 1 (arity_of p s.symbol)) s.place among
        (list_any-from (λ e. same_symbol (Some s.symbol) (target_of p e) && lacks (bs e s.place))
        (entries p set) h.entry h.enters
        (rw (h.leads, h.missing, same_number s.symbol) refl)))
      where
        symbol : h.place.symbol ≡ s.symbol
        symbol = some_same h.place.symbol s.symbol (sym h.place.target ∙ h.leads)

        among : is_in s.place (range_with_len 1 (arity_of p s.symbol)) ≡ true
        among = subst (λ (o : Option ℕ). is_in s.place (places_at p o) ≡ true) h.leads
            (place_in p h.entry s.place h.place)

        within : s.symbol < length p.symbols
        within = go (slice_get p.symbols s.symbol) refl
          where
            go : (o : Option Symbol) → slice_get p.symbols s.symbol ≡ o → s.symbol < length p.symbols
            go (Some x) e = slice_get-below p.symbols s.symbol x e
            go None e =
                let nothing : arity_of p s.symbol ≡ 0 = rw e refl in
                let last : s.place ≤ 0 = subst (λ (n : ℕ). s.place ≤ n)
                (ap (arity_of p) symbol ∙ nothing) h.place.last in
                absurd (omega (arith, last, h.place.least))

    chain_order : (xs : List SymbolPlace) → IsChain PlaceIsBefore xs → ArePlacesInOrder xs
    chain_order [] h = tt
    chain_order (x ∷ []) h = tt
    chain_order (x ∷ y ∷ xs) h = (h.0, chain_order (y ∷ xs) h.1)

    pub shut_there : (shut : List SymbolPlace) × AreShutOf p bs set shut
    shut_there = (
      shut_of_all (range_with_len 0 (length p.symbols)),
      record {
        order = chain_order (shut_of_all (range_with_len 0 (length p.symbols))) (all_chain (length p.symbols) 0);
        places = λ s. (to_shut s, from_shut s);
      },
    )
