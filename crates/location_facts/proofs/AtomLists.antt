-- The atoms of facts, as loops build them.
use Rattle.std.proofs.Common.{◌≡◌, ℕ, zero, suc, ◌+◌, ◌-◌, ◌<◌, ◌&&◌, refl, sym, ap, ◌∙◌, arith, List, [], ◌∷◌, ◌++◌}
use Rattle.std.proofs.Common.{length, map, take, drop, get_or, Option, Some, None, if◌then◌else◌, append_assoc}
use Rattle.std.specs.Prelude.{ℤ, nat_eq}
use Rattle.std.specs.List.{range_with_len}
use Rattle.std.proofs.lemmas.List.{drop_more, take-map, map-append, append-nil}
use Rattle.poly_terms.specs.model.Programs.{Atom}
use Rattle.poly_terms.specs.model.Terms.{Variable, Negation, Subtraction}
use Rattle.cert_types.proofs.Numbers.{numbers-more}
use Rattle.location_facts.specs.declared.fact.LocFact.{LocFact}
use Rattle.location_facts.specs.Strengthening.{difference_term, greater, greatest_least, atom_by, atoms_with_plus}
use Rattle.location_facts.specs.Strengthening.{atoms_with}

-- appended atoms, as many as are taken
pub joined-taken : {A B : Type 0} (f : A → B) (base added whole : List A) (n : ℕ) (first more : List B)
    → map f base ≡ first → map f added ≡ more → whole ≡ base ++ take n added → map f whole ≡ first ++ take n more
joined-taken {A} {B} f base added whole n first more e g h =
    ap (map f) h
    ∙ (map-append f base (take n added)
    ∙ (ap (λ (xs : List B). xs ++ map f (take n added)) e
    ∙ ap (λ (xs : List B). first ++ xs) (sym (take-map f n added) ∙ ap (take n) g)))

module _ (facts : List LocFact) where
  -- the atoms of appended lists of places
  minus-joined : (i : ℕ) (js ks : List ℕ)
      → atoms_with_plus facts i (js ++ ks) ≡ atoms_with_plus facts i js ++ atoms_with_plus facts i ks
  minus-joined i [] ks = refl
  minus-joined i (j ∷ js) ks =
      ap (λ (xs : List Atom). atom_by i j (greatest_least i j None facts) ++ xs) (minus-joined i js ks)
      ∙ sym (append_assoc (atom_by i j (greatest_least i j None facts)) (atoms_with_plus facts i js)
      (atoms_with_plus facts i ks))

  plus-joined : (js ks : List ℕ) → atoms_with facts (js ++ ks) ≡ atoms_with facts js ++ atoms_with facts ks
  plus-joined [] ks = refl
  plus-joined (j ∷ js) ks =
      ap (λ (xs : List Atom). atoms_with_plus facts j (range_with_len 0 9) ++ xs) (plus-joined js ks)
      ∙ sym (append_assoc (atoms_with_plus facts j (range_with_len 0 9)) (atoms_with facts js) (atoms_with facts ks))

  -- after one more place
  pub minus-pushed : (i n : ℕ) (base old new : List Atom) (o : Option ℤ)
      → old ≡ base ++ atoms_with_plus facts i (range_with_len 0 n) → o ≡ greatest_least i n None facts
      → new ≡ old ++ atom_by i n o → new ≡ base ++ atoms_with_plus facts i (range_with_len 0 (n + 1))
  minus-pushed i n base old new o e g h =
      h
      ∙ (ap (λ (xs : List Atom). xs ++ atom_by i n o) e
      ∙ (ap (λ (x : Option ℤ). (base ++ atoms_with_plus facts i (range_with_len 0 n)) ++ atom_by i n x) g
      ∙ (append_assoc base (atoms_with_plus facts i (range_with_len 0 n))
      (atom_by i n (greatest_least i n None facts))
      ∙ ap (λ (xs : List Atom). base ++ xs) (sym one-more))))
    where
      one-more : atoms_with_plus facts i (range_with_len 0 (n + 1))
          ≡ atoms_with_plus facts i (range_with_len 0 n) ++ atom_by i n (greatest_least i n None facts)
      one-more =
          ap (atoms_with_plus facts i) (numbers-more 0 n)
          ∙ (minus-joined i (range_with_len 0 n) ((0 + n) ∷ [])
          ∙ (ap (λ (m : ℕ). atoms_with_plus facts i (range_with_len 0 n) ++ atoms_with_plus facts i (m ∷ []))
          (let z : 0 + n ≡ n = omega arith in z)
          ∙ ap (λ (xs : List Atom). atoms_with_plus facts i (range_with_len 0 n) ++ xs)
          (append-nil (atom_by i n (greatest_least i n None facts)))))

  pub plus-pushed : (n : ℕ) (old new : List Atom) → old ≡ atoms_with facts (range_with_len 0 n)
      → new ≡ old ++ atoms_with_plus facts n (range_with_len 0 9) → new ≡ atoms_with facts (range_with_len 0 (n + 1))
  plus-pushed n old new e h =
      h
      ∙ (ap (λ (xs : List Atom). xs ++ atoms_with_plus facts n (range_with_len 0 9)) e ∙ sym one-more)
    where
      one-more : atoms_with facts (range_with_len 0 (n + 1))
          ≡ atoms_with facts (range_with_len 0 n) ++ atoms_with_plus facts n (range_with_len 0 9)
      one-more =
          ap (atoms_with facts) (numbers-more 0 n)
          ∙ (plus-joined (range_with_len 0 n) ((0 + n) ∷ [])
          ∙ (ap (λ (m : ℕ). atoms_with facts (range_with_len 0 n) ++ atoms_with facts (m ∷ []))
          (let z : 0 + n ≡ n = omega arith in z)
          ∙ ap (λ (xs : List Atom). atoms_with facts (range_with_len 0 n) ++ xs)
          (append-nil (atoms_with_plus facts n (range_with_len 0 9)))))

  -- the best least so far, and that of the next fact
  pub best-next : (i j : ℕ) (best : Option ℤ) (n : ℕ) (d : LocFact) → n < length facts
      → greatest_least i j best (drop n facts)
      ≡ greatest_least i j (if nat_eq (get_or facts n d).plus i && nat_eq (get_or facts n d).minus j
      then Some (greater (get_or facts n d).least best) else best) (drop (n + 1) facts)
  best-next i j best n d l = ap (greatest_least i j best) (drop_more facts n d l)

-- the difference of two places, depending on which of them is 0
pub no_places : (j : ℕ) → j ≡ 0 → difference_term 0 0 ≡ difference_term 0 j
no_places j e = ap (difference_term 0) (sym e)

pub minus_alone : (j : ℕ) → (j ≡ 0 → ⊥) → Negation (Variable (j - 1)) ≡ difference_term 0 j
minus_alone zero n = absurd (n refl)
minus_alone (suc j) n = ap (λ (i : ℕ). Negation (Variable i)) (let e : suc j - 1 ≡ j = omega arith in e)

pub plus_alone : (i j : ℕ) → (i ≡ 0 → ⊥) → j ≡ 0 → Variable (i - 1) ≡ difference_term i j
plus_alone zero j n e = absurd (n refl)
plus_alone (suc i) j n e =
    ap Variable (let k : suc i - 1 ≡ i = omega arith in k) ∙ ap (difference_term (suc i)) (sym e)

pub both_places : (i j : ℕ) → (i ≡ 0 → ⊥) → (j ≡ 0 → ⊥)
    → Subtraction (Variable (i - 1)) (Variable (j - 1)) ≡ difference_term i j
both_places zero j n m = absurd (n refl)
both_places (suc i) zero n m = absurd (m refl)
both_places (suc i) (suc j) n m =
    ap (λ (k : ℕ). Subtraction (Variable k) (Variable (suc j - 1))) (let e : suc i - 1 ≡ i = omega arith in e)
    ∙ ap (λ (k : ℕ). Subtraction (Variable i) (Variable k)) (let e : suc j - 1 ≡ j = omega arith in e)
