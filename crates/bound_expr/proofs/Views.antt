-- The view of each kind of bound: the plain expression that it stands for.
use Rattle.std.proofs.Common.{◌≡◌, ℕ, rules}
use Rattle.std.specs.declared.vec.Vec.{Vec}
use Rattle.std.specs.declared.boxed.Box.{Box}
use Rattle.std.specs.declared.alloc.Global.{Global}
use Rattle.model.specs.Bounds.{Constant, Input, SumOf, ProductOf, MaximumOf, PowerOf}
use Rattle.bound_expr.specs.declared.bound.Bound.{Bound, Const, Var, Sum, Prod, Max, Power, the_lemmas}
use Rattle.bound_expr.specs.Views.{bound_of, bounds_of, parts_of}

-- a constant is viewed as a constant
pub bound_of-Const : (c : ℕ) → bound_of (Const c) ≡ Constant c
bound_of-Const c = search (rules, the_lemmas)

-- a variable is viewed as an input
pub bound_of-Var : (i : ℕ) → bound_of (Var i) ≡ Input i
bound_of-Var i = search (rules, the_lemmas)

-- a sum is viewed as the sum of its parts
pub bound_of-Sum : (v : Vec Bound Global) → bound_of (Sum v) ≡ SumOf (parts_of (bounds_of v.items))
bound_of-Sum v = search (rules, the_lemmas)

-- a product is viewed as the product of its parts
pub bound_of-Prod : (v : Vec Bound Global) → bound_of (Prod v) ≡ ProductOf (parts_of (bounds_of v.items))
bound_of-Prod v = search (rules, the_lemmas)

-- a maximum is viewed as the maximum of its parts
pub bound_of-Max : (v : Vec Bound Global) → bound_of (Max v) ≡ MaximumOf (parts_of (bounds_of v.items))
bound_of-Max v = search (rules, the_lemmas)

-- a power is viewed as a power with the same base
pub bound_of-Power : (c : ℕ) (e : Box Bound Global) → bound_of (Power c e) ≡ PowerOf c (bound_of e.value)
bound_of-Power c e = search (rules, the_lemmas)

-- rewrites the view of a bound, for each kind
pub ruleset seen = (bound_of-Const, bound_of-Var, bound_of-Sum, bound_of-Prod, bound_of-Max, bound_of-Power)
