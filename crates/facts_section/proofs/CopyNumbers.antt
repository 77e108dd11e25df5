-- The copy of a symbol is at the position of its number: that of the start symbol first, and the others in order.
use Rattle.std.proofs.Common.{◌≡◌, ◌⊎◌, inl, inr, ℕ, zero, suc, ◌+◌, ◌<◌, ◌≤◌, Bool, true, false, List, [], ◌∷◌, map, filter}
use Rattle.std.proofs.Common.{length, Option, Some, refl, sym, ◌∙◌, ap, arith, if◌then◌else◌}
use Rattle.std.specs.Prelude.{cond, nat_eq, nat_lt, not, option_map, slice_get, ⊤}
use Rattle.std.specs.List.{range_with_len}
use Rattle.std.proofs.Math.Arith.{lt_of_le-ne}
use Rattle.std.proofs.lemmas.Bool.{eqb-true, eqb-false}
use Rattle.std.proofs.lemmas.Option.{slice_get-map}
use Rattle.refined_programs.specs.model.Programs.{Program}
use Rattle.refined_programs.specs.refinement.Sections.{Copy}
use Rattle.refined_programs.specs.Annotated as annotated
use Rattle.refined_programs.proofs.refinement.model.Cases.{none_some, some_same}
use Rattle.location_facts.specs.declared.fact.LocFact.{LocFact}
use Rattle.facts_section.specs.Copies.{copy_at, copy_number, fact_copies, is_other_copy}
use Rattle.facts_section.specs.Counted.{form_copies, form_copy_at, is_other_form_copy}
use Rattle.facts_section.proofs.CopyLists.{if_same, number_before_start, number_after_start}

-- a symbol is another one than the start symbol
abbrev pub is_not_start : Program → ℕ → Bool
is_not_start p s = not (nat_eq s p.start)

-- the symbols in the order of their copies
abbrev pub symbols_of : Program → List ℕ
symbols_of p = p.start ∷ filter (is_not_start p) (range_with_len 0 (length p.symbols))

-- the copies are those of these symbols
copies-of_symbols : (p : Program) (kept : List LocFact) (ss : List ℕ)
    → filter (is_other_copy p) (map (copy_at p kept) ss) ≡ map (copy_at p kept) (filter (is_not_start p) ss)
copies-of_symbols p kept [] = refl
copies-of_symbols p kept (s ∷ ss) = go (nat_eq s p.start) (copies-of_symbols p kept ss)
  where
    go : (v : Bool) → filter (is_other_copy p) (map (copy_at p kept) ss) ≡ map (copy_at p kept) (filter (is_not_start p) ss)
        → cond (not v) (copy_at p kept s ∷ filter (is_other_copy p) (map (copy_at p kept) ss))
        (filter (is_other_copy p) (map (copy_at p kept) ss))
        ≡ map (copy_at p kept) (cond (not v) (s ∷ filter (is_not_start p) ss) (filter (is_not_start p) ss))
    go true ih = ih
    go false ih = ap (λ (cs : List Copy). copy_at p kept s ∷ cs) ih

pub copies-by_symbol : (p : Program) (kept : List LocFact) → fact_copies p kept ≡ map (copy_at p kept) (symbols_of p)
copies-by_symbol p kept =
    ap (λ (cs : List Copy). copy_at p kept p.start ∷ cs) (copies-of_symbols p kept (range_with_len 0 (length p.symbols)))

-- and so are those with forms as their facts
forms-of_symbols : (p : Program) (kept : List LocFact) (ss : List ℕ)
    → filter (is_other_form_copy p) (map (form_copy_at p kept) ss) ≡ map (form_copy_at p kept) (filter (is_not_start p) ss)
forms-of_symbols p kept [] = refl
forms-of_symbols p kept (s ∷ ss) = go (nat_eq s p.start) (forms-of_symbols p kept ss)
  where
    go : (v : Bool) → filter (is_other_form_copy p) (map (form_copy_at p kept) ss)
        ≡ map (form_copy_at p kept) (filter (is_not_start p) ss)
        → cond (not v) (form_copy_at p kept s ∷ filter (is_other_form_copy p) (map (form_copy_at p kept) ss))
        (filter (is_other_form_copy p) (map (form_copy_at p kept) ss))
        ≡ map (form_copy_at p kept) (cond (not v) (s ∷ filter (is_not_start p) ss) (filter (is_not_start p) ss))
    go true ih = ih
    go false ih = ap (λ (cs : List annotated.Copy). form_copy_at p kept s ∷ cs) ih

pub forms-by_symbol : (p : Program) (kept : List LocFact)
    → form_copies p kept ≡ map (form_copy_at p kept) (symbols_of p)
forms-by_symbol p kept =
    ap (λ (cs : List annotated.Copy). form_copy_at p kept p.start ∷ cs)
    (forms-of_symbols p kept (range_with_len 0 (length p.symbols)))

-- the copies of symbols have the numbers from k on
abbrev pub AreNumbered : Program → ℕ → List ℕ → Type 0
AreNumbered p k [] = ⊤
AreNumbered p k (s ∷ ss) = (copy_number p s ≡ k) × AreNumbered p (suc k) ss

-- k is the number of the first copy of the symbols from a on: a + 1 up to the start symbol, and a after it
abbrev IsFirstNumber : Program → ℕ → ℕ → Type 0
IsFirstNumber p a k = ((a ≤ p.start) × (k ≡ suc a)) ⊎ ((p.start < a) × (k ≡ a))

numbered-from : (p : Program) (m a k : ℕ) → IsFirstNumber p a k
    → AreNumbered p k (filter (is_not_start p) (range_with_len a m))
numbered-from p zero a k begins = tt
numbered-from p (suc m) a k begins =
    go (nat_eq a p.start) refl begins (numbered-from p m (a + 1) k) (numbered-from p m (a + 1) (suc k))
  where
    go : (v : Bool) → nat_eq a p.start ≡ v → IsFirstNumber p a k
        → (IsFirstNumber p (a + 1) k → AreNumbered p k (filter (is_not_start p) (range_with_len (a + 1) m)))
        → (IsFirstNumber p (a + 1) (suc k) → AreNumbered p (suc k) (filter (is_not_start p) (range_with_len (a + 1) m)))
        → AreNumbered p k (cond (not v) (a ∷ filter (is_not_start p) (range_with_len (a + 1) m))
        (filter (is_not_start p) (range_with_len (a + 1) m)))
    go true e (inl (low, number)) skip more =
        let same = eqb-true a p.start e in skip (inr (omega (arith, same), omega (arith, number)))
    go true e (inr (high, number)) skip more =
        let same = eqb-true a p.start e in absurd (omega (arith, same, high))
    go false e (inl (low, number)) skip more =
        let less : a < p.start = lt_of_le-ne low (eqb-false a p.start e) in
        let next : a + 1 ≡ suc a = omega arith in (
          sym (number_before_start p a (eqb-false a p.start e) less) ∙ (next ∙ sym number),
          more (inl (omega (arith, less), omega (arith, number))),
        )
    go false e (inr (high, number)) skip more = (
      sym (number_after_start p a (eqb-false a p.start e) (λ less. omega (arith, less, high))) ∙ sym number,
      more (inr (omega (arith, high), omega (arith, number))),
    )

-- the copies have the numbers from 0 on
pub all-numbered : (p : Program) → AreNumbered p 0 (symbols_of p)
all-numbered p = (
  sym (if_same p.start p.start 0 (if nat_lt p.start p.start then suc p.start else p.start) refl),
  numbered-from p (length p.symbols) 0 1 (inl (omega arith, refl)),
)

-- so the copy of a symbol at a position has the number of that position
pub number-at : (p : Program) (k : ℕ) (ss : List ℕ) (i s : ℕ) → AreNumbered p k ss → slice_get ss i ≡ Some s
    → copy_number p s ≡ k + i
number-at p k [] i s numbered e = absurd (none_some s e)
number-at p k (a ∷ ss) zero s numbered e =
    let same : a ≡ s = some_same a s e in
    let here : copy_number p s ≡ k = ap (copy_number p) (sym same) ∙ numbered.0 in
    omega (arith, here)
number-at p k (a ∷ ss) (suc i) s numbered e =
    let later = number-at p (suc k) ss i s numbered.1 e in omega (arith, later)

-- a symbol that isn't the start symbol has a position in their list
position-among : (p : Program) (m a s : ℕ) → (s ≡ p.start → ⊥) → a ≤ s → s < a + m
    → (i : ℕ) × (slice_get (filter (is_not_start p) (range_with_len a m)) i ≡ Some s)
position-among p zero a s other low high = absurd (omega (arith, low, high))
position-among p (suc m) a s other low high =
    go (nat_eq a p.start) refl (nat_eq a s) refl (λ l. position-among p m (a + 1) s other l (omega (arith, high)))
  where
    above : nat_eq a s ≡ false → a + 1 ≤ s
    above f = let less : a < s = lt_of_le-ne low (eqb-false a s f) in omega (arith, less)

    go : (v : Bool) → nat_eq a p.start ≡ v → (w : Bool) → nat_eq a s ≡ w
        → (a + 1 ≤ s → (i : ℕ) × (slice_get (filter (is_not_start p) (range_with_len (a + 1) m)) i ≡ Some s))
        → (i : ℕ) × (slice_get (cond (not v) (a ∷ filter (is_not_start p) (range_with_len (a + 1) m))
        (filter (is_not_start p) (range_with_len (a + 1) m))) i ≡ Some s)
    go true e true h later = absurd (other (sym (eqb-true a s h) ∙ eqb-true a p.start e))
    go true e false h later = later (above h)
    go false e true h later = (0, ap (λ (x : ℕ). Some x) (eqb-true a s h))
    go false e false h later = let found = later (above h) in (suc found.0, found.1)

-- and so does each symbol of a program
pub position-of : (p : Program) (s : ℕ) → s < length p.symbols → (i : ℕ) × (slice_get (symbols_of p) i ≡ Some s)
position-of p s less = go (nat_eq s p.start) refl
  where
    go : (v : Bool) → nat_eq s p.start ≡ v → (i : ℕ) × (slice_get (symbols_of p) i ≡ Some s)
    go true e = (0, ap (λ (x : ℕ). Some x) (sym (eqb-true s p.start e)))
    go false e =
        let found = position-among p (length p.symbols) 0 s (eqb-false s p.start e) (omega arith) (omega (arith, less)) in
        (suc found.0, found.1)

-- the copy with the number of a symbol's copy is that copy
pub copy-at_number : (p : Program) (kept : List LocFact) (s : ℕ) → s < length p.symbols
    → slice_get (fact_copies p kept) (copy_number p s) ≡ Some (copy_at p kept s)
copy-at_number p kept s less =
    let found = position-of p s less in
    let number : copy_number p s ≡ found.0 = (let e = number-at p 0 (symbols_of p) found.0 s (all-numbered p) found.1 in
    omega (arith, e)) in
    ap (λ (cs : List Copy). slice_get cs (copy_number p s)) (copies-by_symbol p kept)
    ∙ (ap (λ (i : ℕ). slice_get (map (copy_at p kept) (symbols_of p)) i) number
    ∙ (slice_get-map (copy_at p kept) (symbols_of p) found.0 ∙ ap (λ (o : Option ℕ). option_map (copy_at p kept) o) found.1))
