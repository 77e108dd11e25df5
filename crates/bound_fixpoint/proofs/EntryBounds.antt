-- The entries of the set of a rule have times, and sizes at each place that isn't shut.
use Rattle.std.proofs.Common.{◌≡◌, ◌≢◌, ◌⊎◌, inl, inr, ℕ, zero, suc, ◌<◌, ◌≤◌, ◌&&◌, Bool, not, true, false, List}
use Rattle.std.proofs.Common.{[], ◌∷◌, length, Option, Some, None, refl, sym, ap, subst, arith, slice_get, All}
use Rattle.std.specs.Prelude.{ℤ, pos}
use Rattle.std.specs.List.{Contains}
use Rattle.std.specs.Prelude.{nat_eq}
use Rattle.std.proofs.lemmas.Bool.{and_parts, or_left, or_right}
use Rattle.rule_questions.specs.model.Programs.{Program, Rule, arity_of}
use Rattle.rule_questions.specs.model.Bounds.{Bound}
use Rattle.rule_questions.specs.model.Paths.{Here, Onward, HasEdge, IsInSet, source_of, target_of, source_in, target_in}
use Rattle.rule_questions.specs.model.Paths.{same_symbol, entry_and_rules}
use Rattle.rule_questions.specs.linear_forms.Forms.{at}
use Rattle.rule_questions.specs.cert_rules.Nodes.{SymbolForm}
use Rattle.rule_questions.specs.model.Entries.{is_in, entries, enters, is_left_by}
use Rattle.rule_questions.specs.cert_rules.Known.{IsKnown}
use Rattle.rule_questions.specs.cert_rules.Composed.{rank_form}
use Rattle.rule_questions.specs.cert_rules.AcceptsRank.{HasFormShape}
use Rattle.rule_questions.proofs.model.Membership.{same_number, same_number-sound, no_is_not_yes, filter-in, list_any-sound}
use Rattle.rule_questions.specs.cert_rules.Gaps.{SymbolPlace}
use Rattle.bound_fixpoint.specs.Keys.{Bounds, lacks, is_untimed, IsPlace}
use Rattle.bound_fixpoint.specs.Sets.{IsSetOfRule, IsShut, AreShutOf}
use Rattle.rule_questions.specs.cert_rules.Gaps.{is_shut}
use Rattle.rule_questions.proofs.model.PathLaws.{Path-then as path_then}
use Rattle.rule_questions.proofs.cert_rules.RankSoundness.{rank_form-long as form_long}

-- two symbols that are the same are one
pub one_symbol : (x y : Option ℕ) → same_symbol x y ≡ true → (a : ℕ) × (x ≡ Some a) × (y ≡ Some a)
one_symbol None y h = absurd (no_is_not_yes false refl h)
one_symbol (Some a) None h = absurd (no_is_not_yes false refl h)
one_symbol (Some a) (Some b) h = (a, refl, ap (λ (c : ℕ). Some c) (sym (same_number-sound a b h)))

-- an untimed rule between two symbols is an edge
pub edge_by : (p : Program) (f : ℕ → Bool) (m a b : ℕ) → f m ≡ true → source_of p m ≡ Some a → target_of p m ≡ Some b
    → HasEdge p f a b
edge_by p f zero a b u s t = absurd (none s)
  where
    none : None ≡ Some a → ⊥
    none e = cc
edge_by p f (suc m) a b u s t = go (slice_get p.rules m) refl s t
  where
    go : (o : Option Rule) → slice_get p.rules m ≡ o → source_in (slice_get p.rules m) ≡ Some a → target_in
        (slice_get p.rules m) ≡ Some b
        → HasEdge p f a b
    go None e x y = absurd (none (rw e at x))
      where
        none : None ≡ Some a → ⊥
        none e = cc
    go (Some r) e x y =
        let from : Some r.source ≡ Some a = rw e at x in
        let to : Some r.target ≡ Some b = rw e at y in
        record { number = suc m; rule = r; numbered = e; allowed = u; source = cc (from); target = cc (to) }

-- an untimed rule that leads to where a rule of the set comes from is in the set
would_be_in : (p : Program) (f : ℕ → Bool) (t e m a : ℕ) → f e ≡ true → target_of p e ≡ Some a → source_of p m ≡ Some a
    → IsInSet p f t m → IsInSet p f t e
would_be_in p f t e m a u leads leaves (inl same) = inr (record {
  untimed = u;
  from = a;
  leads = leads;
  to = a;
  leaves = subst (λ (n : ℕ). source_of p n ≡ Some a) same leaves;
  path = Here refl;
})
would_be_in p f t e m a u leads leaves (inr h) = inr (record {
  untimed = u;
  from = a;
  leads = leads;
  to = h.to;
  leaves = h.leaves;
  path = path_then (HasEdge p f) a h.from h.to (Onward (Here refl)
      (edge_by p f m a h.from h.untimed leaves h.leads)) h.path;
})

-- an entry is outside the set and leads to where a rule of it comes from
pub entry_parts : (p : Program) (set : List ℕ) (e : ℕ) → is_in e (entries p set) ≡ true
    → (not (is_in e set) ≡ true) × ((m : ℕ) × (is_in m set ≡ true) ×
    ((a : ℕ) × (target_of p e ≡ Some a) × (source_of p m ≡ Some a)))
entry_parts p set e h =
    let both = and_parts (not (is_in e set)) (is_left_by p set (target_of p e))
    (filter-in (enters p set) (entry_and_rules p) e h).1 in
    let some = list_any-sound (λ m. same_symbol (target_of p e) (source_of p m)) set both.1 in
    (both.0, (some.0, some.1, one_symbol (target_of p e) (source_of p some.0) some.2))

-- each entry of the set of a rule has a time
pub entry_timed : (p : Program) (b : Bounds) (t : ℕ) (set : List ℕ) → IsSetOfRule p b t set → (e : ℕ) → is_in e
    (entries p set) ≡ true
    → IsKnown (b e 0)
entry_timed p b t set is e h = go (b e 0) refl
  where
    go : (o : Option Bound) → b e 0 ≡ o → IsKnown (b e 0)
    go (Some bound) k = (bound, k)
    go None k =
        let parts = entry_parts p set e h in
        let untimed : is_untimed b e ≡ true = ap lacks k in
        let inside = (is.members e).1
        (would_be_in p (is_untimed b) t e parts.1.0 parts.1.2.0 untimed parts.1.2.1 parts.1.2.2
        ((is.members parts.1.0).0 parts.1.1)) in
        absurd (no_is_not_yes (not (is_in e set)) (ap not inside) parts.0)

-- past the end of a list every coefficient is 0
at_end : (cs : List ℤ) (j : ℕ) → length cs ≤ j → at cs j ≡ pos 0
at_end [] j h = refl
at_end (c ∷ cs) zero h = absurd (omega arith)
at_end (c ∷ cs) (suc j) h = at_end cs j (omega arith)

-- a place that a function reads after an entry is a place of the symbol that the entry leads to
pub read_is_place : (p : Program) (set : List ℕ) (forms : List SymbolForm) → All (HasFormShape p) forms
    → (e : ℕ) → is_in e (entries p set) ≡ true → (j : ℕ) → at (rank_form forms (target_of p e)).coefs j ≢ pos 0
    → IsPlace p e (suc j)
read_is_place p set forms shape e h j reads = record {
  symbol = leads.0;
  target = leads.1;
  least = omega arith;
  last = within;
}
  where
    leads : (a : ℕ) × (target_of p e ≡ Some a) × (source_of p (entry_parts p set e h).1.0 ≡ Some a)
    leads = (entry_parts p set e h).1.2

    reads_there : at (rank_form forms (Some leads.0)).coefs j ≢ pos 0
    reads_there = subst (λ (o : Option ℕ). at (rank_form forms o).coefs j ≢ pos 0) leads.1 reads

    order : (n k : ℕ) → (k < n) ⊎ (n ≤ k)
    order n k = grind arith

    small : (j < length (rank_form forms (Some leads.0)).coefs) ⊎ (length (rank_form forms (Some leads.0)).coefs ≤ j)
        → suc j ≤ arity_of p leads.0
    small (inl low) = omega (arith, low, form_long p forms shape leads.0)
    small (inr high) = absurd (reads_there (at_end (rank_form forms (Some leads.0)).coefs j high))

    within : suc j ≤ arity_of p leads.0
    within = small (order (length (rank_form forms (Some leads.0)).coefs) j)

-- the test says of a place in the list of shut ones that it is shut
pub shut-worked : (shut : List SymbolPlace) (a i : ℕ) → Contains shut (record { symbol = a; place = i })
    → is_shut shut a i ≡ true
shut-worked [] a i (k, low, e) = absurd (omega (arith, low))
shut-worked (s ∷ shut) a i (zero, low, e) =
    let symbol : s.symbol ≡ a = ap (λ (c : SymbolPlace). c.symbol) e in
    let place : s.place ≡ i = ap (λ (c : SymbolPlace). c.place) e in
    let symbols : nat_eq s.symbol a ≡ true = subst (λ (n : ℕ). nat_eq s.symbol n ≡ true) symbol
    (same_number s.symbol) in
    let places : nat_eq s.place i ≡ true = subst (λ (n : ℕ). nat_eq s.place n ≡ true) place (same_number s.place) in
    or_left (nat_eq s.symbol a && nat_eq s.place i) (is_shut shut a i) (rw (symbols, places) refl)
shut-worked (s ∷ shut) a i (suc k, low, e) =
    or_right (nat_eq s.symbol a && nat_eq s.place i) (is_shut shut a i) (shut-worked shut a i (k, omega (arith, low), e))

-- each entry has a size at each place that is read by a function with coefficient 0 at the shut places
pub entry_sized : (p : Program) (b : Bounds) (set : List ℕ) (shut : List SymbolPlace) → AreShutOf p b set shut
    → (forms : List SymbolForm) → All (HasFormShape p) forms
    → ((a j : ℕ) → is_shut shut a (suc j) ≡ true → at (rank_form forms (Some a)).coefs j ≡ pos 0)
    → (e : ℕ) → is_in e (entries p set) ≡ true → (j : ℕ) → at (rank_form forms (target_of p e)).coefs j ≢ pos 0
    → IsKnown (b e (suc j))
entry_sized p b set shut are forms shape fits e h j reads = go (b e (suc j)) refl
  where
    is_place : IsPlace p e (suc j)
    is_place = read_is_place p set forms shape e h j reads

    go : (o : Option Bound) → b e (suc j) ≡ o → IsKnown (b e (suc j))
    go (Some bound) k = (bound, k)
    go None k =
        let place : SymbolPlace = record { symbol = is_place.symbol; place = suc j } in
        let shut_there : IsShut p b set place = record {
          entry = e;
          enters = h;
          leads = is_place.target;
          place = is_place;
          missing = k;
        } in
        let there = fits is_place.symbol j (shut-worked shut is_place.symbol (suc j) ((are.places place).1 shut_there)) in
        absurd (reads (subst (λ (o : Option ℕ). at (rank_form forms o).coefs j ≡ pos 0) (sym is_place.target) there))
