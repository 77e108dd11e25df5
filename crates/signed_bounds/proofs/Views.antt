-- The view of each kind of signed bound: its plain expression.
use Rattle.std.proofs.Common.{◌≡◌, ℕ, rules}
use Rattle.std.specs.declared.vec.Vec.{Vec}
use Rattle.std.specs.declared.boxed.Box.{Box}
use Rattle.std.specs.declared.alloc.Global.{Global}
use Rattle.poly_terms.specs.declared.poly.Poly.{Poly}
use Rattle.poly_terms.specs.Views.{poly_of}
use Rattle.signed_bounds.specs.Bounds as plain
use Rattle.signed_bounds.specs.Bounds.{Constant, PositivePart, SumOf, ProductOf, MaximumOf, MinimumOf, PowerOf}
use Rattle.signed_bounds.specs.declared.signed.Signed.{Signed, Const, Part, Sum, Prod, Max, Min, Quotient, Root, Power}
use Rattle.signed_bounds.specs.declared.signed.Signed.{the_lemmas}
use Rattle.signed_bounds.specs.Views.{signed_of, signeds_of, parts_of}

-- a constant is viewed as a constant
pub signed_of-Const : (c : ℕ) → signed_of (Const c) ≡ Constant c
signed_of-Const c = search (rules, the_lemmas)

-- the positive part of a polynomial is viewed as that of the plain polynomial
pub signed_of-Part : (p : Poly) → signed_of (Part p) ≡ PositivePart (poly_of p)
signed_of-Part p = search (rules, the_lemmas)

-- a sum is viewed as the sum of its parts
pub signed_of-Sum : (v : Vec Signed Global) → signed_of (Sum v) ≡ SumOf (parts_of (signeds_of v.items))
signed_of-Sum v = search (rules, the_lemmas)

-- a product is viewed as the product of its parts
pub signed_of-Prod : (v : Vec Signed Global) → signed_of (Prod v) ≡ ProductOf (parts_of (signeds_of v.items))
signed_of-Prod v = search (rules, the_lemmas)

-- a maximum is viewed as the maximum of its parts
pub signed_of-Max : (v : Vec Signed Global) → signed_of (Max v) ≡ MaximumOf (parts_of (signeds_of v.items))
signed_of-Max v = search (rules, the_lemmas)

-- a minimum is viewed as the minimum of its first part and the others
pub signed_of-Min : (b : Box Signed Global) (v : Vec Signed Global)
    → signed_of (Min b v) ≡ MinimumOf (signed_of b.value) (parts_of (signeds_of v.items))
signed_of-Min b v = search (rules, the_lemmas)

-- a quotient is viewed as a quotient by the same divisor
pub signed_of-Quotient : (b : Box Signed Global) (d : ℕ) → signed_of (Quotient b d) ≡ plain.Quotient (signed_of b.value) d
signed_of-Quotient b d = search (rules, the_lemmas)

-- a root is viewed as a root
pub signed_of-Root : (b : Box Signed Global) → signed_of (Root b) ≡ plain.Root (signed_of b.value)
signed_of-Root b = search (rules, the_lemmas)

-- a power is viewed as a power with the same base
pub signed_of-Power : (c : ℕ) (e : Box Signed Global) → signed_of (Power c e) ≡ PowerOf c (signed_of e.value)
signed_of-Power c e = search (rules, the_lemmas)

-- rewrites the view of a bound, for each kind
pub ruleset seen = (signed_of-Const, signed_of-Part, signed_of-Sum, signed_of-Prod, signed_of-Max, signed_of-Min, signed_of-Quotient, signed_of-Root, signed_of-Power)
