-- The atoms of facts: which they are, that they hold if the facts do, and that they can be expanded.
use Rattle.std.proofs.Common.{◌≡◌, ◌⊎◌, inl, inr, ℕ, zero, suc, ◌≤◌, ◌&&◌, ap, arith, refl, sym, ◌∙◌, subst}
use Rattle.std.proofs.Common.{List, [], ◌∷◌, ◌++◌, length, get_or, Bool, true, false, Option, Some, None, if◌then◌else◌}
use Rattle.std.specs.Prelude.{ℤ, pos, neg_ℤ, ◌-ℤ◌, ◌≤ℤ◌, nat_eq, int_lt}
use Rattle.std.specs.List.{All, Contains, range_with_len}
use Rattle.std.proofs.lemmas.Int.{ints}
use Rattle.std.proofs.lemmas.Bool.{eqb-true, and_parts}
use Rattle.std.proofs.lemmas.List.{get_or_append_left}
use Rattle.std.proofs.lemmas.List.Elements.{All-nil, All-cons, All-append}
use Rattle.poly_terms.specs.model.Programs.{Atom, AtomHolds}
use Rattle.poly_terms.specs.model.Runs.{Config, place_value}
use Rattle.poly_terms.specs.model.Terms.{value}
use Rattle.poly_terms.proofs.model.Cases.{none_some}
use Rattle.location_facts.specs.declared.fact.LocFact.{LocFact}
use Rattle.location_facts.specs.Rows.{facts_at}
use Rattle.location_facts.specs.Strengthening.{difference_term, fact_atom, greater, greatest_least, atom_by}
use Rattle.location_facts.specs.Strengthening.{atoms_with_plus, atoms_with, strongest_atoms}

-- a list has a fact with these places and this least
pub record HasFact (facts : List LocFact) (i j : ℕ) (least : ℤ) : Type 0 where
  pub fact : LocFact
  pub member : Contains facts fact
  pub plus : fact.plus ≡ i
  pub minus : fact.minus ≡ j
  pub is_least : fact.least ≡ least

-- a fact of the tail is a fact of the list
later : (f : LocFact) (facts : List LocFact) (i j : ℕ) (k : ℤ) → HasFact facts i j k → HasFact (f ∷ facts) i j k
later f facts i j k h = record {
  fact = h.fact;
  member = (suc h.member.0, (let l = h.member.1 in omega (arith, l)), h.member.2);
  plus = h.plus;
  minus = h.minus;
  is_least = h.is_least;
}

-- two numbers that are equal as optional ones are equal
same-number : (a b : ℤ) → Some a ≡ Some b → a ≡ b
same-number a b e = cc

-- the greater of two numbers is one of them
greater-one : (a k : ℤ) (best : Option ℤ) → Some (greater a best) ≡ Some k → (best ≡ Some k) ⊎ (a ≡ k)
greater-one a k None e = inr (same-number a k e)
greater-one a k (Some b) e = go (int_lt a b) e
  where
    go : (v : Bool) → Some (if v then b else a) ≡ Some k → (Some b ≡ Some k) ⊎ (a ≡ k)
    go true e = inl e
    go false e = inr (same-number a k e)

-- a greatest least is the least of a fact, or the earlier one
greatest-one : (i j : ℕ) (k : ℤ) (best : Option ℤ) (facts : List LocFact) → greatest_least i j best facts ≡ Some k
    → (best ≡ Some k) ⊎ HasFact facts i j k
greatest-one i j k best [] e = inl e
greatest-one i j k best (f ∷ facts) e =
    go (nat_eq f.plus i && nat_eq f.minus j) refl
    (greatest-one i j k (if nat_eq f.plus i && nat_eq f.minus j then Some (greater f.least best) else best) facts e)
  where
    own : nat_eq f.plus i && nat_eq f.minus j ≡ true → f.least ≡ k → HasFact (f ∷ facts) i j k
    own test is = record {
      fact = f;
      member = (0, omega arith, refl);
      plus = eqb-true f.plus i (and_parts (nat_eq f.plus i) (nat_eq f.minus j) test).0;
      minus = eqb-true f.minus j (and_parts (nat_eq f.plus i) (nat_eq f.minus j) test).1;
      is_least = is;
    }

    first : nat_eq f.plus i && nat_eq f.minus j ≡ true → (best ≡ Some k) ⊎ (f.least ≡ k)
        → (best ≡ Some k) ⊎ HasFact (f ∷ facts) i j k
    first test (inl h) = inl h
    first test (inr h) = inr (own test h)

    go : (v : Bool) → nat_eq f.plus i && nat_eq f.minus j ≡ v
        → ((if v then Some (greater f.least best) else best) ≡ Some k) ⊎ HasFact facts i j k
        → (best ≡ Some k) ⊎ HasFact (f ∷ facts) i j k
    go v test (inr h) = inr (later f facts i j k h)
    go true test (inl h) = first test (greater-one f.least k best h)
    go false test (inl h) = inl h

-- the greatest least of facts is the least of one of them
pub greatest-is : (i j : ℕ) (k : ℤ) (facts : List LocFact) → greatest_least i j None facts ≡ Some k
    → HasFact facts i j k
greatest-is i j k facts e = go (greatest-one i j k None facts e)
  where
    go : (◌≡◌ {A = Option ℤ} None (Some k)) ⊎ HasFact facts i j k → HasFact facts i j k
    go (inl none) = absurd (none_some k none)
    go (inr h) = h

-- a property of the atom of each fact holds of all atoms
module _ (P : Atom → Type 0) (facts : List LocFact)
    (each : (i j : ℕ) (k : ℤ) → HasFact facts i j k → P (fact_atom i j k))
  where
    atom-all : (i j : ℕ) (o : Option ℤ) → greatest_least i j None facts ≡ o → All P (atom_by i j o)
    atom-all i j None e = All-nil P
    atom-all i j (Some k) e = All-cons P (fact_atom i j k) [] (each i j k (greatest-is i j k facts e)) (All-nil P)

    plus-all : (i : ℕ) (js : List ℕ) → All P (atoms_with_plus facts i js)
    plus-all i [] = All-nil P
    plus-all i (j ∷ js) =
        All-append P (atom_by i j (greatest_least i j None facts)) (atoms_with_plus facts i js)
        (atom-all i j (greatest_least i j None facts) refl) (plus-all i js)

    with-all : (places : List ℕ) → All P (atoms_with facts places)
    with-all [] = All-nil P
    with-all (i ∷ places) =
        All-append P (atoms_with_plus facts i (range_with_len 0 9)) (atoms_with facts places)
        (plus-all i (range_with_len 0 9)) (with-all places)

    pub strongest-all : All P (strongest_atoms facts)
    strongest-all = with-all (range_with_len 0 9)

-- the value of a difference at the values of a configuration, whatever values follow
pub difference-value : (c : Config) (free : List ℤ) (i j : ℕ) → i ≤ length c.values → j ≤ length c.values
    → value (difference_term i j) (c.values ++ free) ≡ place_value c i -ℤ place_value c j
difference-value c free zero zero l m = omega (arith, ints)
difference-value c free zero (suc j) l m =
    ap (λ (x : ℤ). neg_ℤ x) (get_or_append_left c.values free (pos 0) j (omega (arith, m)))
    ∙ negated (get_or c.values j (pos 0))
  where
    negated : (x : ℤ) → neg_ℤ x ≡ pos 0 -ℤ x
    negated x = omega (arith, ints)
difference-value c free (suc i) zero l m =
    get_or_append_left c.values free (pos 0) i (omega (arith, l)) ∙ unchanged (get_or c.values i (pos 0))
  where
    unchanged : (x : ℤ) → x ≡ x -ℤ pos 0
    unchanged x = omega (arith, ints)
difference-value c free (suc i) (suc j) l m =
    ap (λ (x : ℤ). x -ℤ get_or (c.values ++ free) j (pos 0))
    (get_or_append_left c.values free (pos 0) i (omega (arith, l)))
    ∙ ap (λ (x : ℤ). get_or c.values i (pos 0) -ℤ x)
    (get_or_append_left c.values free (pos 0) j (omega (arith, m)))

-- the atom of a fact holds if the fact is satisfied
pub atom-holds : (c : Config) (free : List ℤ) (i j : ℕ) (k : ℤ) → i ≤ length c.values → j ≤ length c.values
    → k ≤ℤ (place_value c i -ℤ place_value c j) → AtomHolds (c.values ++ free) (fact_atom i j k)
atom-holds c free i j k l m h = subst (λ (x : ℤ). k ≤ℤ x) (sym (difference-value c free i j l m)) h

-- a fact of a symbol's list is a fact of the whole list, about the symbol
pub fact-of-symbol : (s : ℕ) (kept : List LocFact) (f : LocFact) → Contains (facts_at s kept) f
    → Contains kept f × (f.symbol ≡ s)
fact-of-symbol s [] f (i, low, e) = absurd (omega (arith, low))
fact-of-symbol s (g ∷ kept) f member = go (nat_eq g.symbol s) refl member (fact-of-symbol s kept f)
  where
    behind : Contains kept f × (f.symbol ≡ s) → Contains (g ∷ kept) f × (f.symbol ≡ s)
    behind ((i, low, e), same) = ((suc i, omega (arith, low), e), same)

    go : (v : Bool) → nat_eq g.symbol s ≡ v
        → Contains (if v then g ∷ facts_at s kept else facts_at s kept) f
        → (Contains (facts_at s kept) f → Contains kept f × (f.symbol ≡ s)) → Contains (g ∷ kept) f × (f.symbol ≡ s)
    go false test member ih = behind (ih member)
    go true test (zero, low, e) ih = (
      (0, omega arith, e),
      ap (λ (x : LocFact). x.symbol) (sym e) ∙ eqb-true g.symbol s test,
    )
    go true test (suc i, low, e) ih = behind (ih (i, omega (arith, low), e))
