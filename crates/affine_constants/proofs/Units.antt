-- What agrees at the first unit points, and what an affine expression reads.
use Rattle.std.proofs.Common.{◌≡◌, ℕ, zero, suc, ◌<◌, Bool, true, false, ◌&&◌, ◌||◌, ◌⊎◌, inl, inr, refl, ap, sym, ◌∙◌, subst}
use Rattle.std.proofs.Common.{arith}
use Rattle.std.specs.Prelude.{ℤ, ⊤}
use Rattle.std.proofs.lemmas.Bool.{and_parts, ltb-true}
use Rattle.poly_terms.proofs.int_laws.SumLaws.{last_or_before}
use Rattle.poly_terms.specs.model.Terms.{Term, Literal, Variable, Negation, Addition, Subtraction, Multiplication}
use Rattle.poly_terms.specs.model.Terms.{Exponentiation}
use Rattle.poly_terms.specs.Checked.{value_within, ReadsBelow}
use Rattle.affine_constants.specs.Constants.{is_literal, is_affine, unit, is_value, agrees_at_units}

-- a literal reads no variable
literal-reads : (n : ℕ) (d : Term) → is_literal d ≡ true → ReadsBelow n d
literal-reads n (Literal z) l = tt
literal-reads n (Variable i) l = cc
literal-reads n (Negation e) l = cc
literal-reads n (Addition d e) l = cc
literal-reads n (Subtraction d e) l = cc
literal-reads n (Multiplication d e) l = cc
literal-reads n (Exponentiation e k) l = cc

-- an affine expression over n variables reads these alone
pub affine-reads : (n : ℕ) (t : Term) → is_affine n t ≡ true → ReadsBelow n t
affine-reads n (Literal z) a = tt
affine-reads n (Variable i) a = ltb-true i n a
affine-reads n (Negation e) a = affine-reads n e a
affine-reads n (Addition d e) a =
    let both = and_parts (is_affine n d) (is_affine n e) a in (affine-reads n d both.0, affine-reads n e both.1)
affine-reads n (Subtraction d e) a =
    let both = and_parts (is_affine n d) (is_affine n e) a in (affine-reads n d both.0, affine-reads n e both.1)
affine-reads n (Multiplication d e) a =
    go (is_literal d && is_affine n e) refl a (λ h. affine-reads n d h) (λ h. affine-reads n e h)
  where
    go : (b : Bool) → (is_literal d && is_affine n e) ≡ b → (b || (is_literal e && is_affine n d)) ≡ true
        → (is_affine n d ≡ true → ReadsBelow n d) → (is_affine n e ≡ true → ReadsBelow n e)
        → ReadsBelow n d × ReadsBelow n e
    go true is h of_d of_e =
        let both = and_parts (is_literal d) (is_affine n e) is in (literal-reads n d both.0, of_e both.1)
    go false is h of_d of_e =
        let both = and_parts (is_literal e) (is_affine n d) h in (of_d both.1, literal-reads n e both.0)
affine-reads n (Exponentiation e k) a = absurd (wrong a)
  where
    wrong : false ≡ true → ⊥
    wrong h = cc

-- where the value at one unit point isn't z, it isn't z at all
pub agrees-stops : (n : ℕ) (t : Term) (z : ℤ) (i k : ℕ) → i < k → is_value z (value_within t (unit n i)) ≡ false
    → agrees_at_units n t z k ≡ false
agrees-stops n t z i zero l e = absurd (omega arith)
agrees-stops n t z i (suc k) l e = go (last_or_before k i l) (λ m. agrees-stops n t z i k m e)
  where
    not_last : (b : Bool) → (b && false) ≡ false
    not_last true = refl
    not_last false = refl

    go : (i ≡ k) ⊎ (i < k) → (i < k → agrees_at_units n t z k ≡ false) → agrees_at_units n t z (suc k) ≡ false
    go (inl same) before =
        ap (λ (j : ℕ). agrees_at_units n t z k && is_value z (value_within t (unit n j))) (sym same)
        ∙ (ap (λ (b : Bool). agrees_at_units n t z k && b) e ∙ not_last (agrees_at_units n t z k))
    go (inr m) before = ap (λ (b : Bool). b && is_value z (value_within t (unit n k))) (before m)
