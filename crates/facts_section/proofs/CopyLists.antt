-- Lists as loops make them: of coefficients, of the copies of symbols, and of their branches.
use Rattle.std.proofs.Common.{◌≡◌, ℕ, ◌+◌, Bool, true, false, List, [], ◌∷◌, ◌++◌, map, filter}
use Rattle.std.proofs.Common.{◌<◌, ◌≤◌, ◌||◌, refl, sym, ◌∙◌, ap, arith, if◌then◌else◌, eq-eqb}
use Rattle.std.specs.Prelude.{ℤ, nat_eq, nat_lt, nat_le, not, cond, suc}
use Rattle.std.specs.List.{list_any, range_with_len}
use Rattle.std.proofs.lemmas.Bool.{eqb-true, ltb-true, lt-ltb, leb-true, le-leb}
use Rattle.std.proofs.lemmas.List.Folds.{list_any-append}
use Rattle.std.proofs.lemmas.List.FromFn.{map-range_with_len_more, filter_of_map_range_with_len_more}
use Rattle.refined_programs.specs.model.Programs.{Program}
use Rattle.refined_programs.specs.refinement.Sections.{Branch, Copy}
use Rattle.refined_programs.specs.Annotated as annotated
use Rattle.location_facts.specs.declared.fact.LocFact.{LocFact}
use Rattle.facts_section.specs.Copies.{branches_of, coefficient, copy_number, fact_copies, section_of_facts}
use Rattle.facts_section.specs.Counted.{form_copy_at, is_other_form_copy}

-- a choice by whether two numbers are the same, if they are
pub if_same : {A : Type 0} (s t : ℕ) (x y : A) → s ≡ t → x ≡ (if nat_eq s t then x else y)
if_same s t x y e = rw (eq-eqb s t e) refl

-- and if they aren't
pub if_other : {A : Type 0} (s t : ℕ) (x y : A) → (s ≡ t → ⊥) → y ≡ (if nat_eq s t then x else y)
if_other {A} s t x y other = go (nat_eq s t) refl
  where
    go : (v : Bool) → nat_eq s t ≡ v → y ≡ (if nat_eq s t then x else y)
    go true e = absurd (other (eqb-true s t e))
    go false e = rw e refl

-- a choice by whether a number is below another one, if it is
if_less : {A : Type 0} (s t : ℕ) (x y : A) → s < t → x ≡ (if nat_lt s t then x else y)
if_less s t x y less = rw (lt-ltb s t less) refl

-- and if it isn't
if_not_less : {A : Type 0} (s t : ℕ) (x y : A) → (s < t → ⊥) → y ≡ (if nat_lt s t then x else y)
if_not_less {A} s t x y other = go (nat_lt s t) refl
  where
    go : (v : Bool) → nat_lt s t ≡ v → y ≡ (if nat_lt s t then x else y)
    go true e = absurd (other (ltb-true s t e))
    go false e = rw e refl

-- a choice by whether a number is at most another one, if it is
pub if_at_most : {A : Type 0} (m n : ℕ) (x y : A) → m ≤ n → x ≡ (if nat_le m n then x else y)
if_at_most m n x y most = rw (le-leb m n most) refl

-- and if it isn't
pub if_above : {A : Type 0} (m n : ℕ) (x y : A) → (m ≤ n → ⊥) → y ≡ (if nat_le m n then x else y)
if_above {A} m n x y more = go (nat_le m n) refl
  where
    go : (v : Bool) → nat_le m n ≡ v → y ≡ (if nat_le m n then x else y)
    go true e = absurd (more (leb-true m n e))
    go false e = rw e refl

-- the number of the copy of a symbol before the start symbol
pub number_before_start : (p : Program) (s : ℕ) → (s ≡ p.start → ⊥) → s < p.start → s + 1 ≡ copy_number p s
number_before_start p s other less =
    let next : s + 1 ≡ suc s = omega arith in
    next
    ∙ (if_less s p.start (suc s) s less ∙ if_other s p.start 0 (if nat_lt s p.start then suc s else s) other)

-- and of one after it
pub number_after_start : (p : Program) (s : ℕ) → (s ≡ p.start → ⊥) → (s < p.start → ⊥) → s ≡ copy_number p s
number_after_start p s other not_less =
    if_not_less s p.start (suc s) s not_less ∙ if_other s p.start 0 (if nat_lt s p.start then suc s else s) other

-- an element of two lists joined passes a test if one of the first or of the second does
pub any_of_both : {A : Type 0} (test : A → Bool) (xs ys : List A) (a b v : Bool) → a ≡ list_any test xs
    → b ≡ list_any test ys → v ≡ (a || b) → v ≡ list_any test (xs ++ ys)
any_of_both test xs ys a b v e f g = g ∙ rw e (rw f (sym (list_any-append test xs ys)))

-- the copies and the branches of facts are their section
pub section_by_parts : (p : Program) (kept : List LocFact) (copies : List Copy) (branches : List Branch)
    → copies ≡ fact_copies p kept → branches ≡ branches_of p copies
    → section_of_facts p kept ≡ record { copies = copies; branches = branches }
section_by_parts p kept copies branches e f = rw f (rw e refl)

-- one more coefficient
pub coefficient_pushed : (f : LocFact) (n : ℕ) (z : ℤ) (old new : List ℤ)
    → old ≡ map (coefficient f) (range_with_len 1 n) → z ≡ coefficient f (n + 1) → new ≡ old ++ z ∷ []
    → new ≡ map (coefficient f) (range_with_len 1 (n + 1))
coefficient_pushed f n z old new e at pushed =
    pushed
    ∙ (ap (λ (zs : List ℤ). zs ++ z ∷ []) e
    ∙ (ap (λ (x : ℤ). map (coefficient f) (range_with_len 1 n) ++ x ∷ []) at
    ∙ sym (map-range_with_len_more (coefficient f) 1 n (n + 1) (omega arith))))

-- the copy of one more symbol, unless it is the start symbol
pub copy_pushed_unless_start : (p : Program) (kept : List LocFact) (n : ℕ) (first : annotated.Copy) (old new : List annotated.Copy)
    → old ≡ first ∷ filter (is_other_form_copy p) (map (form_copy_at p kept) (range_with_len 0 n))
    → new ≡ old ++ (if nat_eq n p.start then [] else form_copy_at p kept n ∷ [])
    → new ≡ first ∷ filter (is_other_form_copy p) (map (form_copy_at p kept) (range_with_len 0 (n + 1)))
copy_pushed_unless_start p kept n first old new e pushed =
    pushed
    ∙ (ap (λ (cs : List annotated.Copy). cs ++ (if nat_eq n p.start then [] else form_copy_at p kept n ∷ [])) e
    ∙ (ap (λ (cs : List annotated.Copy). first ∷ (filter (is_other_form_copy p)
    (map (form_copy_at p kept) (range_with_len 0 n)) ++ cs))
    (chosen (nat_eq n p.start))
    ∙ ap (λ (cs : List annotated.Copy). first ∷ cs)
    (sym (filter_of_map_range_with_len_more (is_other_form_copy p) (form_copy_at p kept) 0 n n (omega arith)))))
  where
    chosen : (v : Bool)
        → (if v then [] else form_copy_at p kept n ∷ []) ≡ cond (not v) (form_copy_at p kept n ∷ []) []
    chosen true = refl
    chosen false = refl
