-- Tightening of rows over the integers.
use Rattle.std.specs.Prelude.{ℕ, zero, suc, ◌%◌, Bool, true, ◌&&◌, nat_eq, if◌then◌else◌, List, [], ◌∷◌, map, ℤ}
use Rattle.std.specs.Prelude.{pos, negsuc, nat_abs, int_le, int_div}
use Rattle.std.specs.Int.{int_div_euclid}
use Rattle.poly_terms.specs.linear_forms.Forms.{Form}
use Rattle.poly_terms.specs.linear_forms.Sizes.{total_size}

-- a number divides all coefficients
abbrev pub divides_all : ℕ → List ℤ → Bool
divides_all d [] = true
divides_all d (a ∷ coefs) = nat_eq (nat_abs a % d) 0 && divides_all d coefs

-- the greatest number up to n that divides all coefficients; 0 if n is 0
abbrev pub divisor_upto : ℕ → List ℤ → ℕ
divisor_upto zero coefs = 0
divisor_upto (suc n) coefs = if divides_all (suc n) coefs then suc n else divisor_upto n coefs

-- the greatest common divisor of coefficients; 0 if all are 0; no common divisor exceeds their sum of absolute values
unfoldable pub divisor_of : List ℤ → ℕ
divisor_of coefs = divisor_upto (total_size coefs) coefs

-- a row divided by the greatest common divisor g of its coefficients, with its constant rounded down; a row without
-- coefficients is dropped if it always holds, and else becomes -1 >= 0
abbrev pub tightened_by : ℕ → Form → List Form
tightened_by zero f = if int_le (pos 0) f.constant then [] else record { coefs = f.coefs; constant = negsuc 0 } ∷ []
tightened_by (suc k) f =
    record {
      coefs = map (λ a. int_div a (pos (suc k))) f.coefs;
      constant = int_div_euclid f.constant (pos (suc k));
    } ∷ []

-- the tightened row, or none if it always holds; it has the same integer solutions
abbrev pub tightened : Form → List Form
tightened f = tightened_by (divisor_of f.coefs) f
