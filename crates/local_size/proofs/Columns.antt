-- The numbers of an integer solution are within the limit.
use Rattle.std.proofs.Common.{◌≡◌, ◌⊎◌, ℕ, suc, ◌+◌, ◌<◌, ◌≤◌, ap, arith, sym, ◌∙◌, subst, inl, inr, Bool, true, false}
use Rattle.std.proofs.Common.{List, length, nat_eq, if◌then◌else◌}
use Rattle.std.specs.Prelude.{ℤ, pos, negsuc, nat_abs, ◌-ℤ◌, ◌*ℤ◌, neg_ℤ, ◌≤ℤ◌}
use Rattle.std.proofs.lemmas.Int.{ints}
use Rattle.std.proofs.lemmas.Bool.{cases_lt}
use Rattle.std.proofs.lemmas.List.{get_or_past, length-replicate}
use Rattle.std.proofs.lemmas.List.Elements.{All-replicate}
use Rattle.simplex_core.specs.linear_forms.Forms.{Form, at}
use Rattle.simplex_core.specs.linear_forms.Limits.{certificate_limit}
use Rattle.simplex_core.specs.linear_forms.LinearProgram.{LinearProgram}
use Rattle.simplex_core.specs.linear_forms.Questions.{double}
use Rattle.simplex_core.specs.linear_forms.QuestionLaws.{after, parameters_of, multipliers_of}
use Rattle.simplex_core.proofs.linear_forms.ListLaws.{after-is, length-listed}
use Rattle.simplex_core.proofs.linear_forms.SolutionLaws.{All-listed}
use Rattle.cert_types.specs.rule_forms.Kinds.{Kind, Number, Argument, Affine, Sign, Plus, Minus, unit_of}
use Rattle.cert_types.specs.rule_forms.Questions.{form_of}
use Rattle.simplex_core.specs.HitsLimit.{IsScaledSolution}
use Rattle.cert_types.specs.cert_rules.Limits.{IsInLimit, IsFormInLimit, AreInLimit}
use Rattle.rule_questions.proofs.Lists.{multipliers-listed}
pub use Rattle.simplex_core.proofs.linear_forms.SolutionLaws.{length-multipliers as multipliers-long}

-- 0 is within the limit
zero-small : IsInLimit (nat_abs (pos 0))
zero-small = let k : 0 ≤ certificate_limit = omega arith in k

-- a denominator, negated or not, has the same absolute value
unit-same : (d : ℕ) (sign : Sign) → nat_abs (pos d *ℤ unit_of sign) ≡ d
unit-same d Plus = ap nat_abs (once (pos d))
  where
    once : (x : ℤ) → x *ℤ pos 1 ≡ x
    once x = omega (arith, ints)
unit-same d Minus = ap nat_abs (turned (pos d)) ∙ size d
  where
    turned : (x : ℤ) → x *ℤ negsuc 0 ≡ neg_ℤ x
    turned x = omega (arith, ints)

    size : (n : ℕ) → nat_abs (neg_ℤ (pos n)) ≡ n
    size n = omega (arith, ints)

-- the form of a kind has a coefficient for each left argument
pub form-long : (left : ℕ) (kind : Kind) (v : ℕ → ℤ) (d : ℤ) → length (form_of left kind v d).coefs ≡ left
form-long left Number v d = length-replicate left (pos 0)
form-long left (Argument place sign) v d =
    length-listed left (λ u. if nat_eq (suc u) place then d *ℤ unit_of sign else pos 0)
form-long left Affine v d = length-listed left v

-- the form's numbers are within the limit if the parameters and the denominator are
pub form-small : (left : ℕ) (kind : Kind) (v : ℕ → ℤ) (d : ℕ) → ((k : ℕ) → IsInLimit (nat_abs (v k))) → IsInLimit d
    → IsFormInLimit (form_of left kind v (pos d))
form-small left Number v d h l = record {
  coefs = All-replicate (λ c. IsInLimit (nat_abs c)) left (pos 0) zero-small;
  constant = h 0;
}
form-small left (Argument place sign) v d h l = record {
  coefs = All-listed (λ c. IsInLimit (nat_abs c)) left
      (λ u. if nat_eq (suc u) place then pos d *ℤ unit_of sign else pos 0) (λ u k. go (nat_eq (suc u) place));
  constant = zero-small;
}
  where
    go : (b : Bool) → IsInLimit (nat_abs (if b then pos d *ℤ unit_of sign else pos 0))
    go true = subst IsInLimit (sym (unit-same d sign)) l
    go false = zero-small
form-small left Affine v d h l = record {
  coefs = All-listed (λ c. IsInLimit (nat_abs c)) left v (λ u k. h u);
  constant = h left;
}

module _ (p : LinearProgram) (pivots : ℕ) (numbers : List ℤ) (den : ℕ)
    (s : IsScaledSolution p pivots numbers den) where
  -- each column is within the limit
  column-small : (j : ℕ) → IsInLimit (nat_abs (at numbers j))
  column-small j = go (cases_lt j (length numbers))
    where
      go : (j < length numbers) ⊎ (length numbers ≤ j) → IsInLimit (nat_abs (at numbers j))
      go (inl l) = s.within.each j l
      go (inr l) = subst (λ (z : ℤ). IsInLimit (nat_abs z)) (sym (get_or_past numbers j (pos 0) l)) zero-small

  -- each number is at least 0
  column-nonneg : (j : ℕ) → pos 0 ≤ℤ at numbers j
  column-nonneg j = go (cases_lt j (length numbers))
    where
      go : (j < length numbers) ⊎ (length numbers ≤ j) → pos 0 ≤ℤ at numbers j
      go (inl l) = s.solution.nonnegative j (subst (λ (m : ℕ). j < m) s.columns l)
      go (inr l) = subst (λ (z : ℤ). pos 0 ≤ℤ z) (sym (get_or_past numbers j (pos 0) l))
          (let k : pos 0 ≤ℤ pos 0 = omega (arith, ints) in k)

  -- the parameters among the numbers are within the limit
  pub parameter-small : (k : ℕ) → IsInLimit (nat_abs (parameters_of (at numbers) k))
  parameter-small k =
      apart (at numbers (double k)) (at numbers (suc (double k))) certificate_limit (column-nonneg (double k))
      (column-nonneg (suc (double k)))
      (column-small (double k)) (column-small (suc (double k)))
    where
      apart : (x y : ℤ) (l : ℕ) → pos 0 ≤ℤ x → pos 0 ≤ℤ y → nat_abs x ≤ l → nat_abs y ≤ l → nat_abs (x -ℤ y) ≤ l
      apart (pos u) (pos v) l g h i j = omega (arith, ints, i, j)
      apart (pos u) (negsuc v) l g h i j = absurd (omega (arith, ints, h))
      apart (negsuc u) y l g h i j = absurd (omega (arith, ints, g))

  -- the multipliers of rows, from the first of their columns on, are within the limit
  pub multipliers-small : (n : ℕ) (rows : List Form) → AreInLimit (multipliers_of (after n (at numbers)) rows)
  multipliers-small n rows =
      subst AreInLimit (sym (multipliers-listed rows (after n (at numbers))))
      (All-listed IsInLimit (length rows) (λ j. nat_abs (after n (at numbers) j))
      (λ j l. subst (λ (z : ℤ). IsInLimit (nat_abs z)) (sym (after-is n (at numbers) j)) (column-small (n + j))))
