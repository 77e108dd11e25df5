-- The kinds of forms in their order, and the places of their arguments.
use Rattle.std.proofs.Common.{◌≡◌, ℕ, zero, suc, ◌+◌, ◌<◌, ◌≤◌, refl, sym, ap, ◌∙◌, subst, arith, cond}
use Rattle.std.proofs.Common.{Bool, true, false, not, List, [], ◌∷◌, ◌++◌, map, filter, append_assoc, length}
use Rattle.std.specs.Prelude.{◌==◌, nat_eq}
use Rattle.std.specs.List.{All, range_with_len}
use Rattle.std.proofs.lemmas.Bool.{true≢false, eq-eqb, eqb-true, eqb-false}
use Rattle.std.proofs.lemmas.List.{map-append, append-nil}
use Rattle.cert_types.specs.rule_forms.Kinds as plain
use Rattle.cert_types.specs.rule_forms.Kinds.{Number, Argument, Affine, Plus, Minus, arguments, kinds_at, kinds_for}
use Rattle.cert_types.specs.rule_forms.Questions.{IsKindOf}
use Rattle.simplex_core.proofs.linear_forms.SolutionLaws.{length-map}
use Rattle.simplex_core.proofs.linear_forms.ColumnLaws.{get_or-map}
use Rattle.cert_types.proofs.Numbers.{numbers-more}
use Rattle.rule_questions.proofs.Filters.{filter-pushed, filter-passed}
use Rattle.local_size.specs.declared.kinds.Kind.{Kind}
use Rattle.local_size.specs.Asking.{kind_of, own_places, other_places}
use Rattle.local_size.proofs.KindsAsked.{kinds-fit}

-- the arguments at appended lists of places
pub arguments-append : (xs ys : List ℕ) → arguments (xs ++ ys) ≡ arguments xs ++ arguments ys
arguments-append [] ys = refl
arguments-append (x ∷ xs) ys =
    ap (λ (ks : List plain.Kind). Argument x Plus ∷ Argument x Minus ∷ ks) (arguments-append xs ys)

-- a range from b on doesn't contain a number below b
before-none : (p b n : ℕ) → p < b → filter (λ j. j == p) (range_with_len b n) ≡ []
before-none p b zero l = refl
before-none p b (suc n) l = go (nat_eq b p) refl (before-none p (b + 1) n (omega (arith, l)))
  where
    go : (v : Bool) → nat_eq b p ≡ v → filter (λ j. j == p) (range_with_len (b + 1) n) ≡ []
        → cond v (b ∷ filter (λ j. j == p) (range_with_len (b + 1) n))
        (filter (λ j. j == p) (range_with_len (b + 1) n)) ≡ []
    go true e rest = absurd (let f = eqb-true b p e in omega (arith, f, l))
    go false e rest = rest

behind-none : (p b n : ℕ) → b + n ≤ p → filter (λ j. j == p) (range_with_len b n) ≡ []
behind-none p b zero l = refl
behind-none p b (suc n) l = go (nat_eq b p) refl (behind-none p (b + 1) n (omega (arith, l)))
  where
    go : (v : Bool) → nat_eq b p ≡ v → filter (λ j. j == p) (range_with_len (b + 1) n) ≡ []
        → cond v (b ∷ filter (λ j. j == p) (range_with_len (b + 1) n))
        (filter (λ j. j == p) (range_with_len (b + 1) n)) ≡ []
    go true e rest = absurd (let f = eqb-true b p e in omega (arith, f, l))
    go false e rest = rest

-- filtering a range for one of its numbers gives that number
among-one : (p b n : ℕ) → b ≤ p → p < b + n → filter (λ j. j == p) (range_with_len b n) ≡ p ∷ []
among-one p b zero l m = absurd (omega (arith, l, m))
among-one p b (suc n) l m = go (nat_eq b p) refl (among-one p (b + 1) n)
  where
    go : (v : Bool) → nat_eq b p ≡ v
        → (b + 1 ≤ p → p < b + 1 + n → filter (λ j. j == p) (range_with_len (b + 1) n) ≡ p ∷ [])
        → cond v (b ∷ filter (λ j. j == p) (range_with_len (b + 1) n))
        (filter (λ j. j == p) (range_with_len (b + 1) n)) ≡ p ∷ []
    go true e ih =
        let f : b ≡ p = eqb-true b p e in
        ap (λ (xs : List ℕ). b ∷ xs) (before-none p (b + 1) n (omega (arith, f))) ∙ ap (λ (k : ℕ). k ∷ []) f
    go false e ih = ih (less b p l (eqb-false b p e)) (omega (arith, m))
      where
        less : (a c : ℕ) → a ≤ c → (a ≡ c → ⊥) → a + 1 ≤ c
        less a c k f = omega (arith, k, f)

-- a place of a left argument is its own place
pub own-there : (left place : ℕ) → 1 ≤ place → place ≤ left → own_places left place ≡ place ∷ []
own-there left place l m = among-one place 1 left l (omega (arith, m))

-- a place past the left arguments has no argument of its own
pub own-missing : (left place : ℕ) → left < place → own_places left place ≡ []
own-missing left place l = behind-none place 1 left (omega (arith, l))

-- the next of the other places is appended
pub other-pushed : (n place : ℕ) → ¬ (n + 1 ≡ place) → other_places (n + 1) place ≡ other_places n place ++ (n + 1) ∷ []
other-pushed n place h =
    filter-pushed (λ j. not (j == place)) 1 n (n + 1) (omega arith) (differ (nat_eq (n + 1) place) refl)
  where
    differ : (v : Bool) → nat_eq (n + 1) place ≡ v → not v ≡ true
    differ true e = absurd (h (eqb-true (n + 1) place e))
    differ false e = refl

-- if the next place is the place itself, the other places are unchanged
pub other-passed : (n place : ℕ) → n + 1 ≡ place → other_places (n + 1) place ≡ other_places n place
other-passed n place h =
    filter-passed (λ j. not (j == place)) 1 n (n + 1) (omega arith) (ap not (eq-eqb (n + 1) place h))

-- the arguments at the other places so far, and at one more
pub others-pushed : (first : List plain.Kind) (n place : ℕ) (old new : List Kind) → ¬ (n + 1 ≡ place)
    → map kind_of old ≡ first ++ arguments (other_places n place)
    → map kind_of new ≡ map kind_of old ++ arguments ((n + 1) ∷ [])
    → map kind_of new ≡ first ++ arguments (other_places (n + 1) place)
others-pushed first n place old new h kept e =
    e ∙ (ap (λ (ks : List plain.Kind). ks ++ arguments ((n + 1) ∷ [])) kept
    ∙ (append_assoc first (arguments (other_places n place)) (arguments ((n + 1) ∷ []))
    ∙ ap (λ (ks : List plain.Kind). first ++ ks)
    (sym (arguments-append (other_places n place) ((n + 1) ∷ []))
    ∙ ap arguments (sym (other-pushed n place h)))))

-- if the next place is the place itself, no argument is pushed
pub others-passed : (first : List plain.Kind) (n place : ℕ) (old : List Kind) → n + 1 ≡ place
    → map kind_of old ≡ first ++ arguments (other_places n place)
    → map kind_of old ≡ first ++ arguments (other_places (n + 1) place)
others-passed first n place old h kept =
    kept ∙ ap (λ (ps : List ℕ). first ++ arguments ps) (sym (other-passed n place h))

-- the kinds together are all kinds, in order
pub kinds-together : (left place : ℕ) (first own others all : List Kind) (one last : Kind) → first ≡ [] ++ one ∷ []
    → kind_of one ≡ Number
    → map kind_of own ≡ map kind_of first ++ arguments (own_places left place)
    → map kind_of others ≡ map kind_of own ++ arguments (other_places left place)
    → all ≡ others ++ last ∷ [] → kind_of last ≡ Affine → map kind_of all ≡ kinds_at left place
kinds-together left place first own others all one last e f g h i j =
    ap (map kind_of) i
    ∙ (map-append kind_of others (last ∷ [])
    ∙ (ap (λ (k : plain.Kind). map kind_of others ++ k ∷ []) j
    ∙ (ap (λ (ks : List plain.Kind). ks ++ Affine ∷ []) (h ∙ ap (λ (ks : List plain.Kind). ks ++ arguments
    (other_places left place)) (g ∙ ap (λ (ks : List plain.Kind). ks ++ arguments (own_places left place))
    (ap (map kind_of) e ∙ ap (λ (k : plain.Kind). k ∷ []) f)))
    ∙ ap (λ (ks : List plain.Kind). Number ∷ (ks ++ Affine ∷ []))
    (sym (arguments-append (own_places left place) (other_places left place))))))

-- each kind of the code is one of the rule
pub kinds-allowed : (nonlinear : Bool) (left place : ℕ) (kinds : List Kind) → map kind_of kinds ≡ kinds_for nonlinear left place
    → All (λ k. IsKindOf left (kind_of k)) kinds
kinds-allowed nonlinear left place kinds e k d l =
    subst (IsKindOf left) (get_or-map kind_of kinds k (kind_of d) d l)
    (subst (All (IsKindOf left)) (sym e) (kinds-fit nonlinear left place) k (kind_of d)
    (let m = length-map kind_of kinds in omega (arith, l, m)))

-- there is at least one kind
pub kinds-some : (nonlinear : Bool) (left place : ℕ) (kinds : List Kind) → map kind_of kinds ≡ kinds_for nonlinear left place
    → 1 ≤ length kinds
kinds-some true left place kinds e =
    let m = length-map kind_of kinds in
    let f = ap (λ (ks : List plain.Kind). length ks) e in omega (arith, m, f)
kinds-some false left place kinds e =
    let m = length-map kind_of kinds in
    let f = ap (λ (ks : List plain.Kind). length ks) e in omega (arith, m, f)

-- the argument at the place itself is pushed, if it is a left argument
pub own-pushed : (left place : ℕ) (old new : List plain.Kind) → 1 ≤ place → place ≤ left
    → new ≡ old ++ arguments (place ∷ []) → new ≡ old ++ arguments (own_places left place)
own-pushed left place old new l m e =
    e ∙ ap (λ (ps : List ℕ). old ++ arguments ps) (sym (own-there left place l m))

-- if the place is past the left arguments, no argument of its own is pushed
pub own-passed : (left place : ℕ) (old : List plain.Kind) → left < place
    → old ≡ old ++ arguments (own_places left place)
own-passed left place old l =
    sym (append-nil old) ∙ ap (λ (ps : List ℕ). old ++ arguments ps) (sym (own-missing left place l))

-- one more place is pushed
pub places-pushed : (n : ℕ) (old new : List ℕ) (x : ℕ) → old ≡ range_with_len 1 n → new ≡ old ++ x ∷ [] → x ≡ n + 1
    → new ≡ range_with_len 1 (n + 1)
places-pushed n old new x e f g =
    f ∙ (ap (λ (xs : List ℕ). xs ++ x ∷ []) e
    ∙ (ap (λ (y : ℕ). range_with_len 1 n ++ y ∷ []) (let h : x ≡ 1 + n = omega (arith, g) in h)
    ∙ sym (numbers-more 1 n)))

-- a list that isn't empty has a first kind
pub some-left : (kinds : List Kind) → nat_eq (length kinds) 0 ≡ false → 1 ≤ length kinds
some-left [] e = absurd (true≢false e)
some-left (k ∷ kinds) e = omega arith
