-- Polynomials of degree at most 1 as affine forms.
use Rattle.std.proofs.Common.{◌≡◌, ◌≢◌, ℕ, zero, suc, ◌+◌, ◌<◌, ◌≤◌, List, [], ◌∷◌, length, get_or, take, set}
use Rattle.std.proofs.Common.{replicate, map, ◌⊎◌, inl, inr, Bool, true, false, refl, ap, sym, ◌∙◌, subst, arith}
use Rattle.std.proofs.Common.{if◌then◌else◌}
use Rattle.std.specs.Prelude.{ℤ, pos, ◌+ℤ◌, ◌*ℤ◌}
use Rattle.std.specs.List.{range_with_len}
use Rattle.std.specs.declared.cmp.Ordering.{Ordering}
use Rattle.std.specs.declared.cmp.Ordering.TheVariants.{Less, Equal, Greater}
use Rattle.std.specs.Ordering.{is_eq}
use Rattle.std.proofs.lemmas.Int.{ints}
use Rattle.std.proofs.lemmas.Bool.{cases_eq}
use Rattle.std.proofs.lemmas.Cmp.{nat_list_cmp_total, tied_itself}
use Rattle.std.proofs.lemmas.Map.Lookups.{exact_bytes}
use Rattle.std.proofs.lemmas.List.{length-map, same_lists, take_all, length-set, get_or-set_same, get_or-set_other}
use Rattle.std.proofs.lemmas.List.{length-replicate, get_or-replicate}
use Rattle.std.proofs.lemmas.List.FromFn.{get_or-map-range_with_len}
use Rattle.linear_forms.proofs.int_laws.RingLaws.{add-mul_ℤ}
use Rattle.model.specs.Polynomials.{Monomial, Polynomial, product_value, polynomial_value, degree_of}
use Rattle.linear_forms.specs.Forms.{Form, at, list_dot}
use Rattle.poly_terms.specs.Expanding.{order}
use Rattle.poly_terms.specs.Ordered.{IsBefore, IsAscending}
use Rattle.poly_terms.specs.AffineForms.{coefficient, linear_form, with_coefficient, AreVariablesBelow, HasVariablesBelow}
use Rattle.poly_terms.specs.AffineForms.{HasValueOf}
use Rattle.poly_terms.proofs.OrderLaws.{order-back}

-- a list of variables is in the order `Equal` to itself
order-self : (vs : List ℕ) → order vs vs ≡ Equal
order-self vs = tied_itself nat_list_cmp_total vs

-- a coefficient of the first k + 1 monomials
pub coefficient-more : (vs : List ℕ) (ms : Polynomial) (k : ℕ) (d : Monomial) → k < length ms
    → coefficient vs (take (k + 1) ms)
    ≡ (if is_eq (order vs (get_or ms k d).vars) then coefficient vs (take k ms) +ℤ (get_or ms k d).coef else coefficient vs (take k ms))
coefficient-more vs ms k d l = ap (λ (n : ℕ). coefficient vs (take n ms)) (let e : k + 1 ≡ suc k = omega arith in e) ∙ next ms k l
  where
    first : (b : Bool) (x : ℤ) → (if b then x +ℤ pos 0 else pos 0) ≡ (if b then pos 0 +ℤ x else pos 0)
    first true x = omega (arith, ints)
    first false x = refl

    push : (b c : Bool) (x y z : ℤ)
        → (if b then x +ℤ (if c then y +ℤ z else y) else (if c then y +ℤ z else y)) ≡ (if c then (if b then x +ℤ y else y) +ℤ z else (if b then x +ℤ y else y))
    push true true x y z = omega (arith, ints)
    push true false x y z = refl
    push false true x y z = refl
    push false false x y z = refl

    next : (ms : Polynomial) (k : ℕ) → k < length ms
        → coefficient vs (take (suc k) ms)
        ≡ (if is_eq (order vs (get_or ms k d).vars) then coefficient vs (take k ms) +ℤ (get_or ms k d).coef else coefficient vs (take k ms))
    next [] k l = absurd (omega arith)
    next (m ∷ ms) zero l = first (is_eq (order vs m.vars)) m.coef
    next (m ∷ ms) (suc k) l =
        ap (λ (c : ℤ). if is_eq (order vs m.vars) then m.coef +ℤ c else c) (next ms k (omega arith))
        ∙ push (is_eq (order vs m.vars)) (is_eq (order vs (get_or ms k d).vars)) m.coef (coefficient vs (take k ms)) (get_or ms k d).coef

-- in an ascending polynomial no earlier monomial has the variables of a later one
pub coefficient-apart : (ms : Polynomial) (k : ℕ) (d : Monomial) → IsAscending ms → k < length ms → coefficient (get_or ms k d).vars (take k ms) ≡ pos 0
coefficient-apart [] k d a l = absurd (omega arith)
coefficient-apart (m ∷ ms) zero d a l = refl
coefficient-apart (m ∷ ms) (suc k) d a l =
    ap (λ (o : Ordering). if is_eq o then m.coef +ℤ coefficient (get_or ms k d).vars (take k ms) else coefficient (get_or ms k d).vars (take k ms))
    (order-back m.vars (get_or ms k d).vars (before ms k a.0 (omega arith)))
    ∙ coefficient-apart ms k d a.1 (omega arith)
  where
    before : (ns : Polynomial) (j : ℕ) → IsBefore m.vars ns → j < length ns → order m.vars (get_or ns j d).vars ≡ Less
    before [] j b l = absurd (omega arith)
    before (n ∷ ns) zero b l = b.0
    before (n ∷ ns) (suc j) b l = before ns j b.1 (omega arith)

-- a monomial has at most the degree
pub degree-at : (ms : Polynomial) (k : ℕ) (d : Monomial) → k < length ms → length (get_or ms k d).vars ≤ degree_of ms
degree-at [] k d l = absurd (omega arith)
degree-at (m ∷ ms) zero d l = omega arith
degree-at (m ∷ ms) (suc k) d l = omega (arith, degree-at ms k d (omega arith))

-- the degree of the first k + 1 monomials
pub degree-more : (ms : Polynomial) (k n : ℕ) (d : Monomial) → k < length ms → degree_of (take k ms) ≤ n → length (get_or ms k d).vars ≤ n
    → degree_of (take (k + 1) ms) ≤ n
degree-more ms k n d l a b = subst (λ (j : ℕ). degree_of (take j ms) ≤ n) (let e : suc k ≡ k + 1 = omega arith in e) (next ms k l a b)
  where
    next : (ms : Polynomial) (k : ℕ) → k < length ms → degree_of (take k ms) ≤ n → length (get_or ms k d).vars ≤ n → degree_of (take (suc k) ms) ≤ n
    next [] k l a b = absurd (omega arith)
    next (m ∷ ms) zero l a b = omega arith
    next (m ∷ ms) (suc k) l a b = omega (arith, next ms k (omega arith) (omega arith) b)

-- the variables of a monomial are below the width
pub below-at : (w : ℕ) (ms : Polynomial) (k : ℕ) (d : Monomial) → HasVariablesBelow w ms → k < length ms → AreVariablesBelow w (get_or ms k d).vars
below-at w [] k d h l = absurd (omega arith)
below-at w (m ∷ ms) zero d h l = h.0
below-at w (m ∷ ms) (suc k) d h l = below-at w ms k d h.1 (omega arith)

-- numbers that are the coefficients of the variables are those of the linear form
pub coefs-are : (w : ℕ) (p : Polynomial) (xs : List ℤ) → length xs ≡ w → ((i : ℕ) → i < w → get_or xs i (pos 0) ≡ coefficient (i ∷ []) p)
    → xs ≡ (linear_form w p).coefs
coefs-are w p xs l h =
    same_lists xs (linear_form w p).coefs (l ∙ sym (length-map (range_with_len 0 w) (λ (i : ℕ). coefficient (i ∷ []) p) ∙ range-length 0 w)) each
  where
    range-length : (a n : ℕ) → length (range_with_len a n) ≡ n
    range-length a zero = refl
    range-length a (suc n) = ap suc (range-length (a + 1) n)

    each : (k : ℕ) (d : ℤ) → k < length xs → get_or xs k d ≡ get_or (map (λ (i : ℕ). coefficient (i ∷ []) p) (range_with_len 0 w)) k d
    each k d m =
        any_default xs k d (pos 0) m
        ∙ (h k (omega arith) ∙ sym (get_or-map-range_with_len (λ (i : ℕ). coefficient (i ∷ []) p) 0 w k k d (omega arith) (omega arith)))
      where
        any_default : (ys : List ℤ) (j : ℕ) (d e : ℤ) → j < length ys → get_or ys j d ≡ get_or ys j e
        any_default [] j d e l = absurd (omega arith)
        any_default (y ∷ ys) zero d e l = refl
        any_default (y ∷ ys) (suc j) d e l = any_default ys j d e (omega arith)

-- the form's numbers are the coefficients of the first k monomials, whose degree is at most 1
pub record IsFormOf (w : ℕ) (ms : Polynomial) (k : ℕ) (f : Form) : Type 0 where
  pub width : length f.coefs ≡ w
  pub coefs : (i : ℕ) → i < w → get_or f.coefs i (pos 0) ≡ coefficient (i ∷ []) (take k ms)
  pub constant : f.constant ≡ coefficient [] (take k ms)
  pub degree : degree_of (take k ms) ≤ 1

-- a form of zeros is that of the first 0 monomials
pub form-of-none : (w : ℕ) (ms : Polynomial) (f : Form) → f.coefs ≡ replicate w (pos 0) → f.constant ≡ pos 0 → IsFormOf w ms 0 f
form-of-none w ms f e g = record {
  width = ap length e ∙ length-replicate w (pos 0);
  coefs = λ i l. ap (λ (xs : List ℤ). get_or xs i (pos 0)) e ∙ get_or-replicate w i (pos 0) (pos 0) l;
  constant = g;
  degree = omega arith;
}

-- lists of one variable are equal in order if the variables are equal
one-equal : (i j : ℕ) → i ≡ j → is_eq (order (i ∷ []) (j ∷ [])) ≡ true
one-equal i j e = ap is_eq (subst (λ (k : ℕ). order (i ∷ []) (k ∷ []) ≡ Equal) e (order-self (i ∷ [])))

one-other : (i j : ℕ) → i ≢ j → is_eq (order (i ∷ []) (j ∷ [])) ≡ false
one-other i j ne = go (order (i ∷ []) (j ∷ [])) refl
  where
    go : (o : Ordering) → order (i ∷ []) (j ∷ []) ≡ o → is_eq o ≡ false
    go Less e = refl
    go Equal e = absurd (ne (let h : ◌≡◌ {A = List ℕ} (i ∷ []) (j ∷ []) = exact_bytes (i ∷ []) (j ∷ []) e in cc))
    go Greater e = refl

-- after one more monomial is written, the form is that of the first k + 1
pub form-of-more : (w : ℕ) (ms : Polynomial) (k : ℕ) (m : Monomial) (f : Form) → IsAscending ms → HasVariablesBelow w ms → k < length ms → get_or ms k m ≡ m
    → length m.vars ≤ 1 → IsFormOf w ms k f → IsFormOf w ms (k + 1) (with_coefficient f m.vars m.coef)
form-of-more w ms k m f a b l e s h = go m.vars refl
  where
    more : (vs : List ℕ) → coefficient vs (take (k + 1) ms)
        ≡ (if is_eq (order vs m.vars) then coefficient vs (take k ms) +ℤ m.coef else coefficient vs (take k ms))
    more vs = coefficient-more vs ms k m l
        ∙ ap (λ (n : Monomial). if is_eq (order vs n.vars) then coefficient vs (take k ms) +ℤ n.coef else coefficient vs (take k ms)) e

    apart : coefficient m.vars (take k ms) ≡ pos 0
    apart = subst (λ (n : Monomial). coefficient n.vars (take k ms) ≡ pos 0) e (coefficient-apart ms k m a l)

    low : degree_of (take (k + 1) ms) ≤ 1
    low = degree-more ms k 1 m l h.degree (subst (λ (n : Monomial). length n.vars ≤ 1) (sym e) s)

    below : AreVariablesBelow w m.vars
    below = subst (λ (n : Monomial). AreVariablesBelow w n.vars) e (below-at w ms k m b l)

    alone : (z : ℤ) → z ≡ pos 0 +ℤ z
    alone z = omega (arith, ints)

    -- the coefficient of the monomial's own variables, and those of others
    here : (vs : List ℕ) → is_eq (order vs m.vars) ≡ true → vs ≡ m.vars → m.coef ≡ coefficient vs (take (k + 1) ms)
    here vs t v = sym (more vs ∙ (ap (λ (c : Bool). if c then coefficient vs (take k ms) +ℤ m.coef else coefficient vs (take k ms)) t
        ∙ (ap (λ (z : ℤ). z +ℤ m.coef) (ap (λ (us : List ℕ). coefficient us (take k ms)) v ∙ apart) ∙ sym (alone m.coef))))

    other : (vs : List ℕ) → is_eq (order vs m.vars) ≡ false → coefficient vs (take k ms) ≡ coefficient vs (take (k + 1) ms)
    other vs t = sym (more vs ∙ ap (λ (c : Bool). if c then coefficient vs (take k ms) +ℤ m.coef else coefficient vs (take k ms)) t)

    test : (vs us : List ℕ) (c : Bool) → m.vars ≡ us → is_eq (order vs us) ≡ c → is_eq (order vs m.vars) ≡ c
    test vs us c v t = ap (λ (ws : List ℕ). is_eq (order vs ws)) v ∙ t

    go : (us : List ℕ) → m.vars ≡ us → IsFormOf w ms (k + 1) (with_coefficient f us m.coef)
    go [] v = record {
      width = h.width;
      coefs = λ i n. h.coefs i n ∙ other (i ∷ []) (test (i ∷ []) [] false v refl);
      constant = here [] (test [] [] true v refl) (sym v);
      degree = low;
    }
    go (j ∷ us) v = record {
      width = length-set f.coefs j m.coef ∙ h.width;
      coefs = λ i n. at_position i n (cases_eq i j);
      constant = h.constant ∙ other [] (test [] (j ∷ us) false v refl);
      degree = low;
    }
      where
        nothing : us ≡ []
        nothing = empty us (omega (arith, s, ap length v))
          where
            empty : (vs : List ℕ) → length vs ≡ 0 → vs ≡ []
            empty [] g = refl
            empty (u ∷ vs) g = absurd (omega (arith, g))

        one : m.vars ≡ j ∷ []
        one = v ∙ ap (λ (vs : List ℕ). j ∷ vs) nothing

        inside : j < length f.coefs
        inside = omega (arith, (subst (AreVariablesBelow w) v below).0, h.width)

        at_position : (i : ℕ) → i < w → (i ≡ j) ⊎ (i ≢ j) → get_or (set f.coefs j m.coef) i (pos 0) ≡ coefficient (i ∷ []) (take (k + 1) ms)
        at_position i n (inl p) =
            ap (λ (x : ℕ). get_or (set f.coefs j m.coef) x (pos 0)) p
            ∙ (get_or-set_same f.coefs j m.coef (pos 0) inside
            ∙ here (i ∷ []) (test (i ∷ []) (j ∷ []) true one (one-equal i j p)) (ap (λ (x : ℕ). x ∷ []) p ∙ sym one))
        at_position i n (inr p) =
            get_or-set_other f.coefs j i m.coef (pos 0) p
            ∙ (h.coefs i n ∙ other (i ∷ []) (test (i ∷ []) (j ∷ []) false one (one-other i j p)))

-- the form of all monomials is the linear form
pub form-of-all : (w : ℕ) (ms : Polynomial) (k : ℕ) (f : Form) → length ms ≤ k → IsFormOf w ms k f → f ≡ linear_form w ms
form-of-all w ms k f l h =
    let all = take_all k ms l in
    λ j. record {
      coefs = coefs-are w ms f.coefs h.width (λ i n. h.coefs i n ∙ ap (coefficient (i ∷ [])) all) j;
      constant = (h.constant ∙ ap (coefficient []) all) j;
    }

-- the degree of all monomials is at most 1
pub degree-of-all : (w : ℕ) (ms : Polynomial) (k : ℕ) (f : Form) → length ms ≤ k → IsFormOf w ms k f → degree_of ms ≤ 1
degree-of-all w ms k f l h = subst (λ (p : Polynomial). degree_of p ≤ 1) (take_all k ms l) h.degree

-- one coefficient at a variable outside the range doesn't change the sum
dot-none : (a n b : ℕ) (x : ℤ) (c : ℕ → ℤ) (z : ℕ → ℤ) → b < a
    → list_dot (map (λ (i : ℕ). if is_eq (order (i ∷ []) (b ∷ [])) then x +ℤ c i else c i) (range_with_len a n)) z
    ≡ list_dot (map c (range_with_len a n)) z
dot-none a zero b x c z l = refl
dot-none a (suc n) b x c z l =
    (λ i. first i *ℤ z 0 +ℤ dot-none (a + 1) n b x c (λ (k : ℕ). z (suc k)) (omega arith) i)
  where
    first : (if is_eq (order (a ∷ []) (b ∷ [])) then x +ℤ c a else c a) ≡ c a
    first = ap (λ (t : Bool). if t then x +ℤ c a else c a) (one-other a b (λ e. omega (arith, e)))

-- one coefficient at a variable in the range adds its product to the sum
dot-one : (a n b j : ℕ) (x : ℤ) (c : ℕ → ℤ) (z : ℕ → ℤ) → b ≡ a + j → j < n
    → list_dot (map (λ (i : ℕ). if is_eq (order (i ∷ []) (b ∷ [])) then x +ℤ c i else c i) (range_with_len a n)) z
    ≡ x *ℤ z j +ℤ list_dot (map c (range_with_len a n)) z
dot-one a zero b j x c z e l = absurd (omega arith)
dot-one a (suc n) b zero x c z e l =
    (λ i. first i *ℤ z 0 +ℤ dot-none (a + 1) n b x c (λ (k : ℕ). z (suc k)) (omega arith) i)
    ∙ regroup x (c a) (z 0) (list_dot (map c (range_with_len (a + 1) n)) (λ (k : ℕ). z (suc k)))
  where
    first : (if is_eq (order (a ∷ []) (b ∷ [])) then x +ℤ c a else c a) ≡ x +ℤ c a
    first = ap (λ (t : Bool). if t then x +ℤ c a else c a) (one-equal a b (omega (arith, e)))

    regroup : (x y w r : ℤ) → (x +ℤ y) *ℤ w +ℤ r ≡ x *ℤ w +ℤ (y *ℤ w +ℤ r)
    regroup x y w r = omega (arith, ints, add-mul_ℤ x y w)
dot-one a (suc n) b (suc j) x c z e l =
    (λ i. first i *ℤ z 0 +ℤ dot-one (a + 1) n b j x c (λ (k : ℕ). z (suc k)) (omega (arith, e)) (omega arith) i)
    ∙ regroup (c a *ℤ z 0) (x *ℤ z (suc j)) (list_dot (map c (range_with_len (a + 1) n)) (λ (k : ℕ). z (suc k)))
  where
    first : (if is_eq (order (a ∷ []) (b ∷ [])) then x +ℤ c a else c a) ≡ c a
    first = ap (λ (t : Bool). if t then x +ℤ c a else c a) (one-other a b (λ f. omega (arith, e, f)))

    regroup : (u v r : ℤ) → u +ℤ (v +ℤ r) ≡ v +ℤ (u +ℤ r)
    regroup u v r = omega (arith, ints)

-- the linear form has the polynomial's value
pub linear_form-value : (w : ℕ) (p : Polynomial) → HasVariablesBelow w p → degree_of p ≤ 1 → HasValueOf p (linear_form w p)
linear_form-value w p b d = record { each = λ env. whole p env b d }
  where
    zeros : (a n : ℕ) (z : ℕ → ℤ) → list_dot (map (λ (i : ℕ). pos 0) (range_with_len a n)) z ≡ pos 0
    zeros a zero z = refl
    zeros a (suc n) z = nothing (z 0) _ (zeros (a + 1) n (λ (k : ℕ). z (suc k)))
      where
        nothing : (x y : ℤ) → y ≡ pos 0 → pos 0 *ℤ x +ℤ y ≡ pos 0
        nothing x y e = omega (arith, ints, e)

    whole : (p : Polynomial) (env : List ℤ) → HasVariablesBelow w p → degree_of p ≤ 1
        → list_dot (map (λ (i : ℕ). coefficient (i ∷ []) p) (range_with_len 0 w)) (at env) +ℤ coefficient [] p *ℤ pos 1 ≡ polynomial_value p env
    whole [] env b d = none _ (zeros 0 w (at env))
      where
        none : (x : ℤ) → x ≡ pos 0 → x +ℤ pos 0 *ℤ pos 1 ≡ pos 0
        none x e = omega (arith, ints, e)
    whole (m ∷ p) env b d = go m.vars refl (whole p env b.1 (omega arith))
      where
        constant : (x y r v : ℤ) → r +ℤ y *ℤ pos 1 ≡ v → r +ℤ (x +ℤ y) *ℤ pos 1 ≡ x *ℤ pos 1 +ℤ v
        constant x y r v e = omega (arith, ints, e)

        linear : (x y z r s v : ℤ) → s ≡ x *ℤ z +ℤ r → r +ℤ y *ℤ pos 1 ≡ v → s +ℤ y *ℤ pos 1 ≡ x *ℤ (z *ℤ pos 1) +ℤ v
        linear x y z r s v e f = omega (arith, ints, e, f, ap (λ (u : ℤ). x *ℤ u) (one z))
          where
            one : (u : ℤ) → u *ℤ pos 1 ≡ u
            one u = omega (arith, ints)

        go : (vs : List ℕ) → m.vars ≡ vs
            → list_dot (map (λ (i : ℕ). coefficient (i ∷ []) p) (range_with_len 0 w)) (at env) +ℤ coefficient [] p *ℤ pos 1 ≡ polynomial_value p env
            → list_dot (map (λ (i : ℕ). if is_eq (order (i ∷ []) m.vars) then m.coef +ℤ coefficient (i ∷ []) p else coefficient (i ∷ []) p) (range_with_len 0 w)) (at env)
            +ℤ (if is_eq (order [] m.vars) then m.coef +ℤ coefficient [] p else coefficient [] p) *ℤ pos 1
            ≡ m.coef *ℤ product_value m.vars env +ℤ polynomial_value p env
        go [] v ih =
            ap (λ (vs : List ℕ). list_dot (map (λ (i : ℕ). if is_eq (order (i ∷ []) vs) then m.coef +ℤ coefficient (i ∷ []) p else coefficient (i ∷ []) p) (range_with_len 0 w)) (at env)
            +ℤ (if is_eq (order [] vs) then m.coef +ℤ coefficient [] p else coefficient [] p) *ℤ pos 1) v
            ∙ (constant m.coef (coefficient [] p) _ _ ih
            ∙ sym (ap (λ (vs : List ℕ). m.coef *ℤ product_value vs env +ℤ polynomial_value p env) v))
        go (j ∷ []) v ih =
            ap (λ (vs : List ℕ). list_dot (map (λ (i : ℕ). if is_eq (order (i ∷ []) vs) then m.coef +ℤ coefficient (i ∷ []) p else coefficient (i ∷ []) p) (range_with_len 0 w)) (at env)
            +ℤ (if is_eq (order [] vs) then m.coef +ℤ coefficient [] p else coefficient [] p) *ℤ pos 1) v
            ∙ (linear m.coef (coefficient [] p) (at env j) _ _ _
            (dot-one 0 w j j m.coef (λ (i : ℕ). coefficient (i ∷ []) p) (at env) (omega arith) (subst (AreVariablesBelow w) v b.0).0) ih
            ∙ sym (ap (λ (vs : List ℕ). m.coef *ℤ product_value vs env +ℤ polynomial_value p env) v))
        go (j ∷ k ∷ vs) v ih = absurd (omega (arith, d, ap length v))
