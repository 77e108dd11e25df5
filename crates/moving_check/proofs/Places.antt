-- Values before and after a turn, place by place, and the first place at which a test fails.
use Rattle.std.proofs.Common.{◌≡◌, ◌≢◌, ◌⊎◌, inl, inr, if◌then◌else◌, Bool, true, false, ℕ, zero, suc, ◌+◌, ◌≤◌, ◌<◌, List, [], ◌∷◌, length, drop, get_or}
use Rattle.std.proofs.Common.{◌++◌, min, append_assoc, ℤ, pos, ◌-ℤ◌, Option, Some, None, refl, sym, ◌∙◌, ap, subst, arith}
use Rattle.std.proofs.lemmas.List.{drop_more, length-drop, get_or_default}
use Rattle.its_model.specs.poly_terms.Checked.{fits}
use Rattle.its_model.proofs.poly_terms.model.Cases.{some_same, none_some, some_none}
use Rattle.affine_turns.specs.declared.affine.Affine.{Affine}
use Rattle.affine_turns.specs.Affine.{within, with_both, between}
use Rattle.moving_check.specs.Findings.{integer_at, first_wide, first_change}

-- the affine values from place i on, if the value before the turn there is x
between-next : (x : ℤ) (bs cs : List ℤ) (i : ℕ)
    → between (x ∷ bs) (drop i cs) ≡ record { first = x; slope = get_or cs i x -ℤ x } ∷ between bs (drop (i + 1) cs)
between-next x bs [] zero = refl
between-next x bs [] (suc i) =
    let on : suc i + 1 ≡ suc (i + 1) = omega arith in
    ap (λ (n : ℕ). record { first = x; slope = x -ℤ x } ∷ between bs (drop n [])) (sym on)
between-next x bs (c ∷ cs) zero = refl
between-next x bs (c ∷ cs) (suc i) =
    let on : suc i + 1 ≡ suc (i + 1) = omega arith in
    between-next x bs cs i
    ∙ ap (λ (n : ℕ). record { first = x; slope = get_or cs i x -ℤ x } ∷ between bs (drop n (c ∷ cs))) (sym on)

pub between-drop : (bs cs : List ℤ) (i : ℕ) (x y : ℤ) → i < length bs → x ≡ get_or bs i x → y ≡ get_or cs i x
    → between (drop i bs) (drop i cs) ≡ record { first = x; slope = y -ℤ x } ∷ between (drop (i + 1) bs) (drop (i + 1) cs)
between-drop bs cs i x y low here there =
    let rest : drop i bs ≡ x ∷ drop (i + 1) bs =
    drop_more bs i x low ∙ ap (λ (z : ℤ). z ∷ drop (i + 1) bs) (sym here) in
    ap (λ (zs : List ℤ). between zs (drop i cs)) rest
    ∙ (between-next x (drop (i + 1) bs) cs i
    ∙ ap (λ (z : ℤ). record { first = x; slope = z -ℤ x } ∷ between (drop (i + 1) bs) (drop (i + 1) cs)) (sym there))

-- a slope that fits isn't the first wide one; a slope that doesn't fit is
pub wide-next : (n : ℕ) (a : Affine) (env whole : List Affine) (o : Option ℕ) → fits a.slope ≡ true → whole ≡ a ∷ env
    → first_wide n whole ≡ o → first_wide (suc n) env ≡ o
wide-next n a env whole o fit e h =
    sym (ap (first_wide n) e ∙ ap (λ (b : Bool). if b then first_wide (suc n) env else Some n) fit) ∙ h

pub wide-here : (n : ℕ) (a : Affine) (env whole : List Affine) (o : Option ℕ) → fits a.slope ≡ false → whole ≡ a ∷ env
    → first_wide n whole ≡ o → o ≡ Some n
wide-here n a env whole o wide e h =
    sym h ∙ (ap (first_wide n) e ∙ ap (λ (b : Bool). if b then first_wide (suc n) env else Some n) wide)

-- if there is an affine value, its slope fits and it has these two numbers; if there is none, the slope doesn't fit
integer-there : (x d : ℤ) (a : Affine) → with_both (Some x) (within d) ≡ Some a
    → (fits d ≡ true) × (record { first = x; slope = d } ≡ a)
integer-there x d a e = go (fits d) refl e
  where
    go : (b : Bool) → fits d ≡ b → with_both (Some x) (if b then Some d else None) ≡ Some a
        → (b ≡ true) × (record { first = x; slope = d } ≡ a)
    go true is h = (refl, some_same (record { first = x; slope = d }) a h)
    go false is h = absurd (none_some a h)

integer-missing : (x d : ℤ) → with_both (Some x) (within d) ≡ None → fits d ≡ false
integer-missing x d e = go (fits d) e
  where
    go : (b : Bool) → with_both (Some x) (if b then Some d else None) ≡ None → b ≡ false
    go true h = absurd (some_none (record { first = x; slope = d }) h)
    go false h = refl

-- the affine values from place i on, if the one at i fits
at_place-there : (bs cs : List ℤ) (i : ℕ) (a : Affine) → i < length bs → integer_at bs cs i ≡ Some a
    → (fits a.slope ≡ true) × (between (drop i bs) (drop i cs) ≡ a ∷ between (drop (i + 1) bs) (drop (i + 1) cs))
at_place-there bs cs i a low e =
    let x = get_or bs i (pos 0) in
    let there = integer-there x (get_or cs i x -ℤ x) a e in (
      sym (ap (λ (b : Affine). fits b.slope) there.1) ∙ there.0,
      between-drop bs cs i x (get_or cs i x) low (get_or_default bs i (pos 0) x low) refl
          ∙ ap (λ (b : Affine). b ∷ between (drop (i + 1) bs) (drop (i + 1) cs)) there.1,
    )

-- the affine values so far, and their first wide slope, with one more place
pub values-next : (bs cs : List ℤ) (i : ℕ) (a : Affine) (old new whole : List Affine) → i < length bs
    → integer_at bs cs i ≡ Some a → new ≡ old ++ a ∷ [] → old ++ between (drop i bs) (drop i cs) ≡ whole
    → new ++ between (drop (i + 1) bs) (drop (i + 1) cs) ≡ whole
values-next bs cs i a old new whole low e pushed h =
    let rest = between (drop (i + 1) bs) (drop (i + 1) cs) in
    ap (λ (xs : List Affine). xs ++ rest) pushed
    ∙ (append_assoc old (a ∷ []) rest
    ∙ (ap (λ (xs : List Affine). old ++ xs) (sym (at_place-there bs cs i a low e).1) ∙ h))

pub fitting-next : (bs cs : List ℤ) (i : ℕ) (a : Affine) (o : Option ℕ) → i < length bs → integer_at bs cs i ≡ Some a
    → first_wide (suc i) (between (drop i bs) (drop i cs)) ≡ o
    → first_wide (suc (i + 1)) (between (drop (i + 1) bs) (drop (i + 1) cs)) ≡ o
fitting-next bs cs i a o low e h =
    let rest = between (drop (i + 1) bs) (drop (i + 1) cs) in
    let there = at_place-there bs cs i a low e in
    let on : suc (i + 1) ≡ suc (suc i) = omega arith in
    ap (λ (n : ℕ). first_wide n rest) on
    ∙ wide-next (suc i) a rest (between (drop i bs) (drop i cs)) o there.0 there.1 h

-- the first place whose slope doesn't fit
pub wide-found : (bs cs : List ℤ) (i : ℕ) (o : Option ℕ) → i < length bs → integer_at bs cs i ≡ None
    → first_wide (suc i) (between (drop i bs) (drop i cs)) ≡ o → o ≡ Some (i + 1)
wide-found bs cs i o low e h =
    let x = get_or bs i (pos 0) in
    let rest = between (drop (i + 1) bs) (drop (i + 1) cs) in
    let on : suc i ≡ i + 1 = omega arith in
    wide-here (suc i) (record { first = x; slope = get_or cs i x -ℤ x }) rest (between (drop i bs) (drop i cs)) o
    (integer-missing x (get_or cs i x -ℤ x) e)
    (between-drop bs cs i x (get_or cs i x) low (get_or_default bs i (pos 0) x low) refl) h
    ∙ ap (λ (n : ℕ). Some n) on

-- if all places that both lists have are compared, the first change is where one list ends
pub change-end : (n : ℕ) (env behind : List Affine) → length env ≢ length behind → length env ≡ 0 ⊎ length behind ≡ 0
    → first_change n env behind ≡ Some n
change-end n [] [] other one = absurd (other refl)
change-end n [] (b ∷ behind) other one = refl
change-end n (a ∷ env) [] other one = refl
change-end n (a ∷ env) (b ∷ behind) other (inl e) = absurd (omega (arith, e))
change-end n (a ∷ env) (b ∷ behind) other (inr e) = absurd (omega (arith, e))

pub no-change_end : (n : ℕ) (env behind : List Affine) → length env ≡ 0 → length behind ≡ 0
    → first_change n env behind ≡ None
no-change_end n [] [] e f = refl
no-change_end n [] (b ∷ behind) e f = absurd (omega (arith, f))
no-change_end n (a ∷ env) behind e f = absurd (omega (arith, e))

-- the first change of lists of different lengths, which agree at the places that both have, is right after the places
-- that both have
pub change-found : (env behind : List Affine) (i both : ℕ) → both ≡ min (length env) (length behind) → both ≤ i → i ≤ both
    → length env ≢ length behind → first_change (suc i) (drop i env) (drop i behind) ≡ first_change 1 env behind
    → Some (both + 1) ≡ first_change 1 env behind
change-found env behind i both least from to other same =
    let here : both + 1 ≡ suc i = omega (arith, from, to) in
    ap (λ (n : ℕ). Some n) here
    ∙ (sym (change-end (suc i) (drop i env) (drop i behind) apart one_ends) ∙ same)
  where
    lesser : (m n : ℕ) → (m ≤ n) ⊎ (n ≤ m)
    lesser zero n = inl (omega arith)
    lesser (suc m) zero = inr (omega arith)
    lesser (suc m) (suc n) = elim (lesser m n) [ inl l ↦ inl (omega (arith, l)) | inr l ↦ inr (omega (arith, l)) ]

    apart : length (drop i env) ≢ length (drop i behind)
    apart e =
        other (omega (arith, e, length-drop i env, length-drop i behind, least, from, to))

    one_ends : (length (drop i env) ≡ 0) ⊎ (length (drop i behind) ≡ 0)
    one_ends = elim (lesser (length env) (length behind)) [
      | inl l ↦ inl (omega (arith, l, length-drop i env, least, from, to))
      | inr l ↦ inr (omega (arith, l, length-drop i behind, least, from, to))
    ]
