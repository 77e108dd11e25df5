-- Sums of products in two limbs.
use Rattle.std.specs.Prelude.{ℕ, ◌*◌, ◌≤◌, List, [], ◌∷◌, map, Option, Some, None, ℤ, pos, ◌+ℤ◌, ◌*ℤ◌, nat_abs, ⊤, Vec}
use Rattle.std.specs.declared.cmp.Ordering.{Ordering}
use Rattle.poly_terms.specs.Expanding.{order}
use Rattle.std.specs.declared.alloc.Global.{Global}
use Rattle.model.specs.Polynomials as plain
use Rattle.poly_terms.specs.declared.wide.Wide.{Wide}

-- the weight of the upper limb: 2^64
abbrev pub base : ℕ
base = 18446744073709551616

-- the integer that two limbs represent
abbrev pub wide_value : Wide → ℤ
wide_value w = w.high *ℤ pos base +ℤ w.low

-- both limbs are at most n times 2^64 in absolute value
pub record IsWithin (n : ℕ) (w : Wide) : Type 0 where
  pub high : nat_abs w.high ≤ n * base
  pub low : nat_abs w.low ≤ n * base

-- a list of variables with a sum as a monomial
abbrev pub entry_of : Vec ℕ Global × Wide → plain.Monomial
entry_of e = record { coef = wide_value e.1; vars = e.0.items }

-- lists of variables with their sums as monomials
abbrev pub entries_of : List (Vec ℕ Global × Wide) → plain.Polynomial
entries_of es = map entry_of es

-- all sums are within n
abbrev pub AreWithin : ℕ → List (Vec ℕ Global × Wide) → Type 0
AreWithin n [] = ⊤
AreWithin n (e ∷ es) = IsWithin n e.1 × AreWithin n es

-- the order of keys
abbrev pub key_order : Vec ℕ Global → Vec ℕ Global → Ordering
key_order k l = order k.items l.items

-- the sum so far for a list of variables, or 0 if there is none
abbrev pub sum_at : Option Wide → ℤ
sum_at None = pos 0
sum_at (Some w) = wide_value w
