-- The shut places of a set, symbol by symbol, are all of them, in order.
use Rattle.std.proofs.Common.{◌≡◌, ◌⊎◌, ◌≢◌, ◌==◌, ◌||◌, inl, inr, ℕ, zero, suc, ◌+◌, ◌<◌, ◌≤◌, Bool, true, false, cond}
use Rattle.std.proofs.Common.{List, [], ◌∷◌, ◌++◌, length, map, filter, Contains, Option, Some, None, refl, sym, ◌∙◌}
use Rattle.std.proofs.Common.{ap, subst, arith}
use Rattle.std.specs.Prelude.{⊤, slice_get}
use Rattle.std.specs.List.{range_with_len}
use Rattle.std.proofs.lemmas.List.Elements.{Contains-append_left, Contains-append_right, Contains-append_cases}
use Rattle.std.proofs.lemmas.Bool.{or_left, or_right}
use Rattle.std.proofs.lemmas.Bool.Decides.{eqb_tells}
use Rattle.model.specs.Programs.{Program, Symbol, arity_in, arity_of}
use Rattle.model.specs.Entries.{is_in, entries}
use Rattle.model.specs.Paths.{target_of, same_symbol}
use Rattle.model.proofs.Membership.{is_in-cases, slice_get-below, same_number-sound, same_number, no_is_not_yes, is_in-filter}
use Rattle.model.proofs.Membership.{filter-in, list_any-from, list_any-sound}
use Rattle.cert_types.specs.cert_rules.Gaps.{SymbolPlace}
use Rattle.cert_types.specs.cert_rules.Known.{Table}
use Rattle.bound_fixpoint.specs.Keys.{Bounds, lacks, over}
use Rattle.bound_fixpoint.specs.Sets.{IsShut, PlaceIsBefore, ArePlacesInOrder, AreShutOf}
use Rattle.size_bounds.specs.declared.table.Table as code
use Rattle.size_bounds.specs.Tables.{table_of}
use Rattle.size_bounds.specs.Tables.{bounds_in}
use Rattle.time_bounds.proofs.TablesOver.{table_over, place_size}
use Rattle.time_bounds.specs.Shutting.{lacks_any, at_place, shut_at, into, shut_from}
pub use Rattle.bound_fixpoint.proofs.Cases.{lacks_none as lacking_is_none}

-- the first element of a list, if there is one, has a property
abbrev Head : (SymbolPlace → Type 0) → List SymbolPlace → Type 0
Head P [] = ⊤
Head P (s ∷ rest) = P s

head_weaker : (P Q : SymbolPlace → Type 0) → ((s : SymbolPlace) → P s → Q s) → (xs : List SymbolPlace) → Head P xs → Head Q xs
head_weaker P Q h [] k = tt
head_weaker P Q h (s ∷ rest) k = h s k

in_order : (s : SymbolPlace) (rest : List SymbolPlace) → ArePlacesInOrder rest → Head (PlaceIsBefore s) rest → ArePlacesInOrder (s ∷ rest)
in_order s [] h k = tt
in_order s (q ∷ rest) h k = (k, h)

-- the place is of a later symbol, or of this one from place i on
abbrev IsAfter : ℕ → ℕ → SymbolPlace → Type 0
IsAfter a i q = (a < q.symbol) ⊎ ((a ≡ q.symbol) × (i ≤ q.place))

after_weaker : (a i : ℕ) (q : SymbolPlace) → IsAfter a (i + 1) q → IsAfter a i q
after_weaker a i q (inl l) = inl l
after_weaker a i q (inr h) = inr (h.0, omega (arith, h.1))

stands : (a i : ℕ) (q : SymbolPlace) → IsAfter a (i + 1) q → PlaceIsBefore (record { symbol = a; place = i }) q
stands a i q (inl l) = inl l
stands a i q (inr h) = inr (h.0, omega (arith, h.1))

-- a list is in order, and its first element has a property
record Ordered (P : SymbolPlace → Type 0) (xs : List SymbolPlace) : Type 0 where
  pub order : ArePlacesInOrder xs
  pub head : Head P xs

-- the shut places of a symbol, before those of later symbols, are in order
block : (tab : Table) (rules : List ℕ) (a i n : ℕ) (rest : List SymbolPlace) → Ordered (λ q. a < q.symbol) rest
    → Ordered (IsAfter a i) (map (at_place a) (filter (lacks_any tab rules) (range_with_len i n)) ++ rest)
block tab rules a i zero rest h = record {
  order = h.order;
  head = head_weaker (λ q. a < q.symbol) (IsAfter a i) (λ q l. inl l) rest h.head;
}
block tab rules a i (suc n) rest h = go (lacks_any tab rules i) (block tab rules a (i + 1) n rest h)
  where
    go : (v : Bool) → Ordered (IsAfter a (i + 1)) (map (at_place a) (filter (lacks_any tab rules) (range_with_len (i + 1) n)) ++ rest)
        → Ordered (IsAfter a i)
        (map (at_place a) (cond v (i ∷ filter (lacks_any tab rules) (range_with_len (i + 1) n)) (filter (lacks_any tab rules) (range_with_len (i + 1) n))) ++ rest)
    go true k = record {
      order = in_order (at_place a i) (map (at_place a) (filter (lacks_any tab rules) (range_with_len (i + 1) n)) ++ rest) k.order
          (head_weaker (IsAfter a (i + 1)) (PlaceIsBefore (at_place a i)) (stands a i)
          (map (at_place a) (filter (lacks_any tab rules) (range_with_len (i + 1) n)) ++ rest) k.head);
      head = inr (refl, omega arith);
    }
    go false k = record {
      order = k.order;
      head = head_weaker (IsAfter a (i + 1)) (IsAfter a i) (after_weaker a i)
          (map (at_place a) (filter (lacks_any tab rules) (range_with_len (i + 1) n)) ++ rest) k.head;
    }

-- a number of a range is between its ends
pub in_range : (a n i : ℕ) → is_in i (range_with_len a n) ≡ true → (a ≤ i) × (i < a + n)
in_range a zero i h = absurd (no_is_not_yes false refl h)
in_range a (suc n) i h = go (is_in-cases i a (range_with_len (a + 1) n) h) (λ m. in_range (a + 1) n i m)
  where
    go : (i ≡ a) ⊎ (is_in i (range_with_len (a + 1) n) ≡ true) → (is_in i (range_with_len (a + 1) n) ≡ true → (a + 1 ≤ i) × (i < a + 1 + n))
        → (a ≤ i) × (i < a + suc n)
    go (inl e) ih = (omega (arith, e), omega (arith, e))
    go (inr m) ih = let r = ih m in (omega (arith, r.0), omega (arith, r.1))

-- a number from the first of a range up to its end is in it
pub range_in : (a n i : ℕ) → a ≤ i → i < a + n → is_in i (range_with_len a n) ≡ true
range_in a zero i low high = absurd (omega (arith, low, high))
range_in a (suc n) i low high = go (eqb_tells i a) (λ l. range_in (a + 1) n i l (omega (arith, high)))
  where
    go : ((i == a) ≡ true) × (i ≡ a) ⊎ ((i == a) ≡ false) × (i ≢ a) → (a + 1 ≤ i → is_in i (range_with_len (a + 1) n) ≡ true)
        → ((i == a) || is_in i (range_with_len (a + 1) n)) ≡ true
    go (inl e) ih = or_left (i == a) (is_in i (range_with_len (a + 1) n)) e.0
    go (inr e) ih = or_right (i == a) (is_in i (range_with_len (a + 1) n)) (ih (let d = e.1 in omega arith))

-- each place of a list of numbers is of this symbol and has one of these numbers
mapped-sound : (a : ℕ) (is : List ℕ) (s : SymbolPlace) → Contains (map (at_place a) is) s → (a ≡ s.symbol) × (is_in s.place is ≡ true)
mapped-sound a [] s (k, low, e) = absurd (omega (arith, low))
mapped-sound a (i ∷ is) s (zero, low, e) = (
  ap (λ (q : SymbolPlace). q.symbol) e,
  or_left (s.place == i) (is_in s.place is) (subst (λ (n : ℕ). (n == i) ≡ true) (ap (λ (q : SymbolPlace). q.place) e) (same_number i)),
)
mapped-sound a (i ∷ is) s (suc k, low, e) =
    let rest = mapped-sound a is s (k, omega (arith, low), e) in (rest.0, or_right (s.place == i) (is_in s.place is) rest.1)

mapped_listed : (a : ℕ) (is : List ℕ) (i : ℕ) → is_in i is ≡ true → Contains (map (at_place a) is) (at_place a i)
mapped_listed a [] i h = absurd (no_is_not_yes false refl h)
mapped_listed a (j ∷ is) i h = go (is_in-cases i j is h) (λ m. mapped_listed a is i m)
  where
    later : Contains (map (at_place a) is) (at_place a i) → Contains (map (at_place a) (j ∷ is)) (at_place a i)
    later (k, low, e) = (suc k, omega (arith, low), e)

    go : (i ≡ j) ⊎ (is_in i is ≡ true) → (is_in i is ≡ true → Contains (map (at_place a) is) (at_place a i))
        → Contains (map (at_place a) (j ∷ is)) (at_place a i)
    go (inl e) ih = (zero, omega arith, ap (at_place a) (sym e))
    go (inr m) ih = later (ih m)

-- if the test of equality succeeds, two symbols are the same
same_symbol-sound : (o : Option ℕ) (a : ℕ) → same_symbol o (Some a) ≡ true → o ≡ Some a
same_symbol-sound None a h = absurd (no_is_not_yes false refl h)
same_symbol-sound (Some b) a h = ap Some (same_number-sound b a h)

same_there : (o : Option ℕ) (a : ℕ) → o ≡ Some a → same_symbol o (Some a) ≡ true
same_there o a e = ap (λ (q : Option ℕ). same_symbol q (Some a)) e ∙ same_number a

-- a symbol with a place is one of the program
within_symbols : (p : Program) (a i : ℕ) → 1 ≤ i → i ≤ arity_of p a → a < length p.symbols
within_symbols p a i low high = go (slice_get p.symbols a) refl
  where
    go : (o : Option Symbol) → slice_get p.symbols a ≡ o → a < length p.symbols
    go None k = absurd (omega (arith, low, high, ap arity_in k))
    go (Some s) k = slice_get-below p.symbols a s k

module _ (p : Program) (tab : Table) (es : List ℕ) where
  all_ordered : (a n : ℕ) → Ordered (λ q. a ≤ q.symbol) (shut_from p tab es a n)
  all_ordered a zero = record { order = tt; head = tt }
  all_ordered a (suc n) = go (all_ordered (a + 1) n)
    where
      from : (q : SymbolPlace) → IsAfter a 1 q → a ≤ q.symbol
      from q (inl l) = omega (arith, l)
      from q (inr h) = omega (arith, h.0)

      go : Ordered (λ q. a + 1 ≤ q.symbol) (shut_from p tab es (a + 1) n) → Ordered (λ q. a ≤ q.symbol) (shut_from p tab es a (suc n))
      go r =
          let rest : Ordered (λ q. a < q.symbol) (shut_from p tab es (a + 1) n) = record {
            order = r.order;
            head = head_weaker (λ q. a + 1 ≤ q.symbol) (λ q. a < q.symbol) (λ q l. omega (arith, l)) (shut_from p tab es (a + 1) n) r.head;
          } in
          let here = block tab (into p es a) a 1 (arity_of p a) (shut_from p tab es (a + 1) n) rest in
          record { order = here.order; head = head_weaker (IsAfter a 1) (λ q. a ≤ q.symbol) from (shut_from p tab es a (suc n)) here.head }

  -- a place is among those that are listed
  record Listed (a n : ℕ) (s : SymbolPlace) : Type 0 where
    pub low : a ≤ s.symbol
    pub high : s.symbol < a + n
    pub place : is_in s.place (range_with_len 1 (arity_of p s.symbol)) ≡ true
    pub lacking : lacks_any tab (into p es s.symbol) s.place ≡ true

  listed_of_contained : (a n : ℕ) (s : SymbolPlace) → Contains (shut_from p tab es a n) s → Listed a n s
  listed_of_contained a zero s (k, low, e) = absurd (omega (arith, low))
  listed_of_contained a (suc n) s h =
      go (Contains-append_cases (shut_at tab (into p es a) a (arity_of p a)) (shut_from p tab es (a + 1) n) s h) (λ m. listed_of_contained (a + 1) n s m)
    where
      go : Contains (shut_at tab (into p es a) a (arity_of p a)) s ⊎ Contains (shut_from p tab es (a + 1) n) s
          → (Contains (shut_from p tab es (a + 1) n) s → Listed (a + 1) n s) → Listed a (suc n) s
      go (inr m) ih = let r = ih m in record {
        low = omega (arith, r.low);
        high = omega (arith, r.high);
        place = r.place;
        lacking = r.lacking;
      }
      go (inl m) ih =
          let t = mapped-sound a (filter (lacks_any tab (into p es a)) (range_with_len 1 (arity_of p a))) s m in
          let f = filter-in (lacks_any tab (into p es a)) (range_with_len 1 (arity_of p a)) s.place t.1 in record {
            low = omega (arith, t.0);
            high = omega (arith, t.0);
            place = subst (λ (b : ℕ). is_in s.place (range_with_len 1 (arity_of p b)) ≡ true) t.0 f.0;
            lacking = subst (λ (b : ℕ). lacks_any tab (into p es b) s.place ≡ true) t.0 f.1;
          }

  contained_of_listed : (a n : ℕ) (s : SymbolPlace) → Listed a n s → Contains (shut_from p tab es a n) s
  contained_of_listed a zero s h = absurd (omega (arith, h.low, h.high))
  contained_of_listed a (suc n) s h = go (eqb_tells a s.symbol) (λ g. contained_of_listed (a + 1) n s g)
    where
      go : ((a == s.symbol) ≡ true) × (a ≡ s.symbol) ⊎ ((a == s.symbol) ≡ false) × (a ≢ s.symbol)
          → (Listed (a + 1) n s → Contains (shut_from p tab es (a + 1) n) s) → Contains (shut_from p tab es a (suc n)) s
      go (inl e) ih =
          Contains-append_left (shut_at tab (into p es a) a (arity_of p a)) (shut_from p tab es (a + 1) n) s
          (subst (λ (b : ℕ). Contains (shut_at tab (into p es b) b (arity_of p b)) s) (sym e.1)
          (mapped_listed s.symbol (filter (lacks_any tab (into p es s.symbol)) (range_with_len 1 (arity_of p s.symbol))) s.place
          (is_in-filter (lacks_any tab (into p es s.symbol)) (range_with_len 1 (arity_of p s.symbol)) s.place h.place h.lacking)))
      go (inr e) ih =
          Contains-append_right (shut_at tab (into p es a) a (arity_of p a)) (shut_from p tab es (a + 1) n) s
          (ih (record {
            low = (let d = e.1 in let l = h.low in omega arith);
            high = omega (arith, h.high);
            place = h.place;
            lacking = h.lacking;
          }))

-- the list has the shut places of the set, in order
pub are_shut : (p : Program) (b : Bounds) (set : List ℕ)
    → AreShutOf p b set (shut_from p (over b) (entries p set) 0 (length p.symbols))
are_shut p b set = record {
  order = (all_ordered p (over b) (entries p set) 0 (length p.symbols)).order;
  places = λ s. (λ h. told s (listed_of_contained p (over b) (entries p set) 0 (length p.symbols) s h), λ h. listed s h);
}
  where
    told : (s : SymbolPlace) → Listed p (over b) (entries p set) 0 (length p.symbols) s → IsShut p b set s
    told s h =
        let some = list_any-sound (λ e. lacks ((over b).size e s.place)) (into p (entries p set) s.symbol) h.lacking in
        let among = filter-in (λ e. same_symbol (target_of p e) (Some s.symbol)) (entries p set) some.0 some.1 in
        let leads = same_symbol-sound (target_of p some.0) s.symbol among.1 in
        let range = in_range 1 (arity_of p s.symbol) s.place h.place in record {
          entry = some.0;
          enters = among.0;
          leads = leads;
          place = record { symbol = s.symbol; target = leads; least = range.0; last = omega (arith, range.1) };
          missing = sym (place_size b some.0 s.place range.0) ∙ lacking_is_none ((over b).size some.0 s.place) some.2;
        }

    listed : (s : SymbolPlace) → IsShut p b set s → Contains (shut_from p (over b) (entries p set) 0 (length p.symbols)) s
    listed s h =
        let same : s.symbol ≡ h.place.symbol = some_same s.symbol h.place.symbol (sym h.leads ∙ h.place.target) in
        let last : s.place ≤ arity_of p s.symbol = subst (λ (a : ℕ). s.place ≤ arity_of p a) (sym same) h.place.last in
        contained_of_listed p (over b) (entries p set) 0 (length p.symbols) s (record {
          low = omega arith;
          high = omega (arith, within_symbols p s.symbol s.place h.place.least last);
          place = range_in 1 (arity_of p s.symbol) s.place h.place.least (omega (arith, last));
          lacking = list_any-from (λ e. lacks ((over b).size e s.place)) (into p (entries p set) s.symbol) h.entry
              (is_in-filter (λ e. same_symbol (target_of p e) (Some s.symbol)) (entries p set) h.entry h.enters (same_there (target_of p h.entry) s.symbol h.leads))
              (ap lacks (place_size b h.entry s.place h.place.least ∙ h.missing));
        })
      where
        some_same : (a b : ℕ) → Some a ≡ Some b → a ≡ b
        some_same a b e = cc

-- the list made of the set's entries has the shut places of the set
pub shut_right : (p : Program) (tab : code.Table) (set es : List ℕ) (shut : List SymbolPlace) (n : ℕ)
    → n ≡ length p.symbols → es ≡ entries p set → shut ≡ shut_from p (table_of tab) es 0 n
    → AreShutOf p (bounds_in tab) set shut
shut_right p tab set es shut n long e h =
    subst (λ (xs : List SymbolPlace). AreShutOf p (bounds_in tab) set xs)
    (sym (h ∙ (ap (λ (ys : List ℕ). shut_from p (table_of tab) ys 0 n) e
    ∙ (ap (λ (m : ℕ). shut_from p (table_of tab) (entries p set) 0 m) long
    ∙ ap (λ (x : Table). shut_from p x (entries p set) 0 (length p.symbols)) (table_over tab)))))
    (are_shut p (bounds_in tab) set)
