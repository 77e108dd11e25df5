-- Forms column by column: forms with the same entries, and how large these are.
use Rattle.std.proofs.Common.{◌≡◌, ℕ, zero, suc, ◌+◌, ◌<◌, ◌≤◌, List, [], ◌∷◌, ◌++◌, length, refl, sym, ap, ◌∙◌, subst}
use Rattle.std.proofs.Common.{arith, ◌⊎◌, inl, inr, to_z, of_z, ◌↔◌, Bool}
use Rattle.std.specs.Prelude.{ℤ, pos, negsuc, ◌+ℤ◌, ◌-ℤ◌, ◌*ℤ◌, ◌≤ℤ◌, unsigned_abs, nat_abs}
use Rattle.std.specs.Int.{w64, w128}
use Rattle.std.specs.Bool.{IsTrue}
use Rattle.std.proofs.lemmas.Bool.{cases_lt as order}
use Rattle.std.proofs.lemmas.Int.{ints, to_z-of_z, fits_signed_from_abs}
use Rattle.std.proofs.lemmas.List.{length-append}
use Rattle.std.proofs.lemmas.List.Elements.{All-get_or}
use Rattle.farkas_cert.specs.Sizes.{HasRowNumbers, row_limit}
use Rattle.poly_terms.specs.linear_forms.Certificates.{Implies, combined_constant}
use Rattle.poly_terms.specs.linear_forms.Combinations.{form_sum, form_times, less}
use Rattle.poly_terms.specs.linear_forms.Forms.{Form, at}
use Rattle.poly_terms.specs.linear_forms.Limits.{certificate_limit}
use Rattle.poly_terms.proofs.linear_forms.CombinationLaws.{at-sum, at-times}
use Rattle.cert_types.specs.cert_rules.Limits.{IsFormInLimit}
use Rattle.cert_context.specs.declared.columns.Column.{Column}
use Rattle.cert_context.specs.declared.columns.Column.TheVariants as column
use Rattle.cert_context.specs.Columns.{number_in, IsAlike, HasColumns}

-- if a form is implied, so is each form with the same entries
pub alike-implies : (rows : List Form) (ms : List ℕ) (f g : Form) → IsAlike f g → Implies rows ms f → Implies rows ms g
alike-implies rows ms f g h k = record {
  long = k.long;
  coefs = λ u. sym (h.coefs u) ∙ k.coefs u;
  constant = subst (λ (c : ℤ). combined_constant ms rows ≤ℤ c) h.constant k.constant;
}

pub alike-back : (f g : Form) → IsAlike f g → IsAlike g f
alike-back f g h = record { coefs = λ u. sym (h.coefs u); constant = sym h.constant }

-- the entry of a sum is the sum of the entries
pub sum-column : (c : Column) (f g : Form) → number_in c (form_sum f g) ≡ number_in c f +ℤ number_in c g
sum-column (column.Unknown u) f g = at-sum f.coefs g.coefs u
sum-column column.Constant f g = refl

pub times-column : (c : Column) (k : ℤ) (f : Form) → number_in c (form_times k f) ≡ k *ℤ number_in c f
times-column (column.Unknown u) k f = at-times k f.coefs u
times-column column.Constant k f = refl

-- the entry of a difference is the difference of the entries
pub less-column : (c : Column) (f g : Form) → number_in c (less f g) ≡ number_in c f -ℤ number_in c g
less-column c f g = regroup _ _ _ _ (sum-column c f (form_times (negsuc 0) g)) (times-column c (negsuc 0) g)
  where
    regroup : (s a b g : ℤ) → s ≡ a +ℤ b → b ≡ negsuc 0 *ℤ g → s ≡ a -ℤ g
    regroup s a b g e d = omega (arith, ints, e, d)

-- the entries of no columns are the empty list
pub columns-none : (f : ℕ → ℤ) (xs : List ℤ) → xs ≡ [] → HasColumns f 0 xs
columns-none f xs e = record { long = ap length e; each = λ u l. absurd (omega (arith, l)) }

at-before : (xs : List ℤ) (x : ℤ) (u : ℕ) → u < length xs → at (xs ++ x ∷ []) u ≡ at xs u
at-before [] x u l = absurd (omega (arith, l))
at-before (y ∷ xs) x zero l = refl
at-before (y ∷ xs) x (suc u) l = at-before xs x u (omega (arith, l))

at-last : (xs : List ℤ) (x : ℤ) → at (xs ++ x ∷ []) (length xs) ≡ x
at-last [] x = refl
at-last (y ∷ xs) x = at-last xs x

-- the entries of one more column are one more entry at the end
pub columns-more : (f : ℕ → ℤ) (n : ℕ) (xs ys : List ℤ) (x : ℤ) → HasColumns f n xs → ys ≡ xs ++ x ∷ [] → x ≡ f n
    → HasColumns f (n + 1) ys
columns-more f n xs ys x h e k = record {
  long = omega (arith, ap length e, length-append xs (x ∷ []), h.long);
  each = λ u l. ap (λ (zs : List ℤ). at zs u) e ∙ go u l (order u n);
}
  where
    go : (u : ℕ) → u < n + 1 → (u < n) ⊎ (n ≤ u) → at (xs ++ x ∷ []) u ≡ f u
    go u l (inl m) = at-before xs x u (omega (arith, m, h.long)) ∙ h.each u m
    go u l (inr m) =
        let same : u ≡ length xs = omega (arith, l, m, h.long) in
        ap (at (xs ++ x ∷ [])) same ∙ (at-last xs x ∙ (k ∙ ap f (let z : n ≡ u = omega (arith, l, m) in z)))

-- past its end a list has the coefficient 0
pub at-past : (xs : List ℤ) (u : ℕ) → length xs ≤ u → at xs u ≡ pos 0
at-past [] u l = refl
at-past (x ∷ xs) zero l = absurd (omega (arith, l))
at-past (x ∷ xs) (suc u) l = at-past xs u (omega (arith, l))

-- the entries of a row are small, also those that aren't listed
pub number-small : (c : Column) (f : Form) → HasRowNumbers f → unsigned_abs (number_in c f) < row_limit
number-small (column.Unknown u) f h = go (order u (length f.coefs))
  where
    go : (u < length f.coefs) ⊎ (length f.coefs ≤ u) → unsigned_abs (at f.coefs u) < row_limit
    go (inl l) = All-get_or (λ (x : ℤ). unsigned_abs x < row_limit) f.coefs u (pos 0) l h.coefs
    go (inr l) = omega (arith, ap unsigned_abs (at-past f.coefs u l))
number-small column.Constant f h = h.constant

-- the entries of a form within the limit are within it
pub form-small : (c : Column) (f : Form) → IsFormInLimit f → unsigned_abs (number_in c f) ≤ certificate_limit
form-small (column.Unknown u) f h = go (order u (length f.coefs))
  where
    go : (u < length f.coefs) ⊎ (length f.coefs ≤ u) → unsigned_abs (at f.coefs u) ≤ certificate_limit
    go (inl l) = omega (arith, ints, All-get_or (λ (x : ℤ). nat_abs x ≤ certificate_limit) f.coefs u (pos 0) l h.coefs)
    go (inr l) = omega (arith, ap unsigned_abs (at-past f.coefs u l))
form-small column.Constant f h = omega (arith, ints, h.constant)

-- a coefficient within the limit is unchanged by reading it in 64 and then in 128 bits
pub coef-read : (b r : ℤ) → nat_abs b ≤ certificate_limit → r ≡ to_z w64 (of_z w64 b) → to_z w128 (of_z w128 r) ≡ b
coef-read b r h e =
    let same : r ≡ b = e ∙ to_z-of_z w64 b (fits_signed_from_abs w64 b (omega (arith, ints, h))) in
    to_z-of_z w128 r (fits_signed_from_abs w128 r (omega (arith, ints, h, ap unsigned_abs same))) ∙ same

-- a test that decides whether a form is implied decides it for each form with the same entries
pub by-alike : (rows : List Form) (ms : List ℕ) (f g : Form) (b : Bool) → IsTrue b ↔ Implies rows ms f → IsAlike f g
    → IsTrue b ↔ Implies rows ms g
by-alike rows ms f g b h a =
    (λ e. alike-implies rows ms f g a (h.0 e), λ k. h.1 (alike-implies rows ms g f (alike-back f g a) k))
