-- The table of the bounds known initially has those of the virtual entry, and no others.
use Rattle.std.proofs.Common.{◌≡◌, ℕ, zero, suc, ◌+◌, ◌<◌, ◌≤◌, Bool, true, false, cond, List, []}
use Rattle.std.proofs.Common.{◌∷◌, ◌++◌, length, map, replicate, Option, Some, None, refl, sym, ◌∙◌, ap, arith}
use Rattle.std.specs.Prelude.{nat_lt}
use Rattle.std.specs.List.{range_with_len}
use Rattle.std.proofs.lemmas.Bool.Decides.{nat_tests}
use Rattle.std.proofs.lemmas.List.{length-map, length-replicate, map-append}
use Rattle.std.proofs.lemmas.List.FromFn.{length-range_with_len}
use Rattle.model.specs.Bounds.{Bound, Input}
use Rattle.model.specs.Programs.{Program, Rule, arity_of}
use Rattle.its_model.specs.Valid.{IsValid}
use Rattle.bound_fixpoint.proofs.Cases.{by_cases}
use Rattle.bound_fixpoint.specs.Keys.{start_bounds}
use Rattle.bound_fixpoint.specs.Derivations as plain
use Rattle.outcome.specs.declared.entry.Stored.{Stored}
use Rattle.size_bounds.specs.declared.table.Table.{Table}
use Rattle.size_bounds.specs.Tables.{entry_at, row_at, bound_stored, lemma_stored, number_at, stored_in}
use Rattle.bound_derivations.specs.declared.derivation.Derivation.{Derivation}
use Rattle.bound_derivations.specs.Books.{AreDerivedBounds}
use Rattle.size_bounds.specs.Tables.{bounds_in}
use Rattle.bound_derivations.specs.ByKey.{rows_of}
use Rattle.bound_derivations.specs.Views.{derivations_of}
use Rattle.bound_derivations.proofs.Room.{missing_few}
use Rattle.bound_derivations.specs.Starting.{start_row, empty_rows, IsStartRow, AreStartTimes, AreFirstRows, AreStartSizes}

-- one copy more of an element
pub same_more : {A : Type 0} (x : A) (n : ℕ) → replicate (n + 1) x ≡ replicate n x ++ x ∷ []
same_more x n = ap (λ (k : ℕ). replicate k x) (let next : n + 1 ≡ suc n = omega arith in next) ∙ go n
  where
    go : (n : ℕ) → replicate (suc n) x ≡ replicate n x ++ x ∷ []
    go zero = refl
    go (suc n) = ap (λ (xs : List _). x ∷ xs) (go n)

-- times with an unknown one more
pub times_more : (n : ℕ) (times more : List (Option Stored)) → AreStartTimes n times → more ≡ times ++ None ∷ []
    → AreStartTimes (n + 1) more
times_more n times more h e = record {
  first = h.first;
  is = e ∙ (ap (λ (ts : List (Option Stored)). ts ++ None ∷ []) h.is
      ∙ ap (λ (ts : List (Option Stored)). h.first ∷ ts) (sym (same_more None n)));
  bound = h.bound;
  number = h.number;
}

range_more : (n a j : ℕ) → a + n ≡ j → range_with_len a (suc n) ≡ range_with_len a n ++ j ∷ []
range_more zero a j e = let same : a ≡ j = omega (arith, e) in ap (λ (x : ℕ). x ∷ []) same
range_more (suc n) a j e = ap (λ (xs : List ℕ). a ∷ xs) (range_more n (a + 1) j (omega (arith, e)))

-- sizes with that of one start argument more
pub arguments_more : (n : ℕ) (sizes more : List (Option Stored)) (s : Stored) → IsStartRow n sizes
    → more ≡ sizes ++ Some s ∷ [] → bound_stored (Some s) ≡ Some (Input n) → s.lemma ≡ 0 → IsStartRow (n + 1) more
arguments_more n sizes more s h e bound number = record {
  bounds = ap (map bound_stored) e ∙ (map-append bound_stored sizes (Some s ∷ [])
      ∙ (ap (λ (o : Option Bound). map bound_stored sizes ++ o ∷ []) bound
      ∙ (ap (λ (os : List (Option Bound)). os ++ Some (Input n) ∷ []) h.bounds ∙ sym next)));
  numbers = ap (map lemma_stored) e ∙ (map-append lemma_stored sizes (Some s ∷ [])
      ∙ (ap (λ (k : ℕ). map lemma_stored sizes ++ k ∷ []) number
      ∙ (ap (λ (ks : List ℕ). ks ++ 0 ∷ []) h.numbers ∙ sym (same_more 0 n))));
}
  where
    next : start_row (n + 1) ≡ start_row n ++ Some (Input n) ∷ []
    next =
        ap start_row (let one : n + 1 ≡ suc n = omega arith in one)
        ∙ (ap (map (λ i. Some (Input i))) (range_more n 0 n (omega arith))
        ∙ map-append (λ i. Some (Input i)) (range_with_len 0 n) (n ∷ []))

-- rows with that of one rule more
pub rows_more : (p : Program) (rules : List Rule) (r : Rule) (rows more : List (List (Option Stored)))
    (row : List (Option Stored)) → AreFirstRows p rules rows → more ≡ rows ++ row ∷ []
    → row ≡ replicate (arity_of p r.target) None → AreFirstRows p (rules ++ r ∷ []) more
rows_more p rules r rows more row h e is = record {
  first = h.first;
  is = e ∙ (ap (λ (x : List (Option Stored)). rows ++ x ∷ []) is
      ∙ (ap (λ (rs : List (List (Option Stored))). rs ++ replicate (arity_of p r.target) None ∷ []) h.is
      ∙ ap (λ (rs : List (List (Option Stored))). h.first ∷ rs)
      (sym (map-append (λ (q : Rule). replicate (arity_of p q.target) None) rules (r ∷ [])))));
  row = h.row;
}

-- each of this many empty positions is empty
empty_at : (n i : ℕ) → entry_at {A = Stored} (replicate n None) i ≡ None
empty_at zero i = refl
empty_at (suc n) zero = refl
empty_at (suc n) (suc i) = empty_at n i

-- nothing is stored after rules
empty_rows_at : (p : Program) (rules : List Rule) (t i : ℕ) → entry_at (row_at (empty_rows p rules) t) i ≡ None
empty_rows_at p [] t i = refl
empty_rows_at p (r ∷ rules) zero i = empty_at (arity_of p r.target) i
empty_rows_at p (r ∷ rules) (suc t) i = empty_rows_at p rules t i

-- the bound at a position of a list
bound_at : (os : List (Option Stored)) (i : ℕ) → bound_stored (entry_at os i) ≡ entry_at (map bound_stored os) i
bound_at [] i = refl
bound_at (o ∷ os) zero = refl
bound_at (o ∷ os) (suc i) = bound_at os i

shift : (i n : ℕ) → nat_lt i n ≡ nat_lt (suc i) (suc n)
shift i n = by_cases (nat_lt i n) yes no
  where
    yes : nat_lt i n ≡ true → nat_lt i n ≡ nat_lt (suc i) (suc n)
    yes m =
        let low : i < n = grind (arith, nat_tests) in
        let more : nat_lt (suc i) (suc n) ≡ true = grind (arith, nat_tests) in
        m ∙ sym more

    no : nat_lt i n ≡ false → nat_lt i n ≡ nat_lt (suc i) (suc n)
    no m =
        let high : n ≤ i = grind (arith, nat_tests) in
        let more : nat_lt (suc i) (suc n) ≡ false = grind (arith, nat_tests) in
        m ∙ sym more

-- the size of a start argument
argument_at : (k n i : ℕ) → entry_at (map (λ j. Some (Input j)) (range_with_len k n)) i
    ≡ cond (nat_lt i n) (Some (Input (k + i))) None
argument_at k zero i =
    let no : nat_lt i 0 ≡ false = grind (arith, nat_tests) in
    ap (λ (v : Bool). cond v (Some (Input (k + i))) None) (sym no)
argument_at k (suc n) zero =
    let yes : nat_lt 0 (suc n) ≡ true = grind (arith, nat_tests) in
    let e : k ≡ k + 0 = omega arith in
    ap (λ (j : ℕ). Some (Input j)) e ∙ ap (λ (v : Bool). cond v (Some (Input (k + 0))) None) (sym yes)
argument_at k (suc n) (suc i) =
    let e : (k + 1) + i ≡ k + suc i = omega arith in
    argument_at (k + 1) n i
    ∙ (ap (λ (j : ℕ). cond (nat_lt i n) (Some (Input j)) None) e
    ∙ ap (λ (v : Bool). cond v (Some (Input (k + suc i))) None) (shift i n))

-- if all numbers are 0, the number at each position is
zero_at : (os : List (Option Stored)) (n i : ℕ) → map lemma_stored os ≡ replicate n 0 → lemma_stored (entry_at os i) ≡ 0
zero_at [] n i e = refl
zero_at (o ∷ os) zero i e = absurd (let f : ⊥ = cc in f)
zero_at (o ∷ os) (suc n) zero e = let h : lemma_stored o ≡ 0 = cc in h
zero_at (o ∷ os) (suc n) (suc i) e = let h : map lemma_stored os ≡ replicate n 0 = cc in zero_at os n i h

rows_long : (p : Program) (rules : List Rule) → map (λ (row : List (Option Stored)). length row) (empty_rows p rules)
    ≡ map (λ (r : Rule). arity_of p r.target) rules
rows_long p [] = refl
rows_long p (r ∷ rules) =
    ap (λ (n : ℕ). n ∷ map (λ (row : List (Option Stored)). length row) (empty_rows p rules))
    (length-replicate (arity_of p r.target) None)
    ∙ ap (λ (ns : List ℕ). arity_of p r.target ∷ ns) (rows_long p rules)

start_long : (n : ℕ) (os : List (Option Stored)) → IsStartRow n os → length os ≡ n
start_long n os h =
    sym (length-map os bound_stored)
    ∙ (ap length h.bounds ∙ (length-map (range_with_len 0 n) (λ i. Some (Input i)) ∙ length-range_with_len 0 n))

-- the initial table is the index of the empty list
pub started : (p : Program) (tab : Table) (derivations : List Derivation) → IsValid p
    → AreStartTimes (length p.rules) tab.times.items → AreStartSizes p (rows_of tab) → derivations ≡ [] → AreDerivedBounds p tab derivations
started p tab derivations valid times sizes none = record {
  bounds = λ t i. bounds t i ∙ (first t i ∙ ap (λ (fs : List Derivation). plain.bounds_of p (derivations_of fs) t i) (sym none));
  numbers = λ t i. numbers t i ∙ (zeros t i ∙ ap (λ (fs : List Derivation). plain.number_in (derivations_of fs) t i) (sym none));
  keys = record {
    times = ap length times.is ∙ ap (λ (n : ℕ). suc n) (length-replicate (length p.rules) None);
    rows = ap (map (λ (row : List (Option Stored)). length row)) sizes.is
        ∙ (ap (λ (n : ℕ). n ∷ map (λ (row : List (Option Stored)). length row) (empty_rows p p.rules))
        (start_long (arity_of p p.start) sizes.first sizes.row)
        ∙ ap (λ (ns : List ℕ). arity_of p p.start ∷ ns) (rows_long p p.rules));
  };
  few =
      let long = ap length none in
      let few = missing_few p valid (plain.bounds_of p (derivations_of derivations)) in
      omega (arith, long, few);
}
  where
    time_at : (t : ℕ) → stored_in tab t 0 ≡ entry_at (times.first ∷ replicate (length p.rules) None) t
    time_at t = ap (λ (os : List (Option Stored)). entry_at os t) times.is

    size_at : (t i : ℕ) → stored_in tab t (suc i) ≡ entry_at (row_at (sizes.first ∷ empty_rows p p.rules) t) i
    size_at t i = ap (λ (rs : List (List (Option Stored))). entry_at (row_at rs t) i) sizes.is

    rule_at_none : (t i : ℕ) → stored_in tab (suc t) i ≡ None
    rule_at_none t zero = time_at (suc t) ∙ empty_at (length p.rules) t
    rule_at_none t (suc i) = size_at (suc t) i ∙ empty_rows_at p p.rules t i

    bounds : (t i : ℕ) → bounds_in tab t i ≡ start_bounds p t i
    bounds zero zero = ap bound_stored (time_at 0) ∙ times.bound
    bounds zero (suc i) =
        ap bound_stored (size_at 0 i)
        ∙ (bound_at sizes.first i
        ∙ (ap (λ (os : List (Option Bound)). entry_at os i) sizes.row.bounds
        ∙ (argument_at 0 (arity_of p p.start) i
        ∙ ap (λ (j : ℕ). cond (nat_lt i (arity_of p p.start)) (Some (Input j)) None)
        (let same : 0 + i ≡ i = omega arith in same))))
    bounds (suc t) i = ap bound_stored (rule_at_none t i)

    alone : (o : Option Bound) → o ≡ plain.first_of o None
    alone None = refl
    alone (Some b) = refl

    first : (t i : ℕ) → start_bounds p t i ≡ plain.bounds_of p [] t i
    first t i = alone (start_bounds p t i)

    numbers : (t i : ℕ) → number_at tab t i ≡ 0
    numbers zero zero = ap lemma_stored (time_at 0) ∙ times.number
    numbers zero (suc i) =
        ap lemma_stored (size_at 0 i) ∙ zero_at sizes.first (arity_of p p.start) i sizes.row.numbers
    numbers (suc t) i = ap lemma_stored (rule_at_none t i)

    zeros : (t i : ℕ) → 0 ≡ plain.number_in [] t i
    zeros zero i = refl
    zeros (suc t) i = refl
