-- Tidy parts of a node, and nodes that are tidy except for themselves.
use Rattle.std.proofs.Common.{ℕ, ◌≤◌, List, [], ◌∷◌, sym, subst, arith}
use Rattle.bound_expr.specs.model.Bounds.{Bound, Constant, Input, SumOf, ProductOf, MaximumOf, PowerOf, Parts, NoParts}
use Rattle.bound_expr.specs.model.Bounds.{Part}
use Rattle.bound_expr.specs.Views.{parts_of, list_of}
use Rattle.bound_expr.specs.Limits.{constant_limit}
use Rattle.bound_expr.specs.Tidy.{part_count, IsNoSum, IsNoProduct, IsNoMaximum, EachPart, IsTidy, AreTidy}
use Rattle.bound_expr.proofs.PartLists.{list_of-parts_of}
use Rattle.bound_table.specs.declared.kinds.Kind.{Kind}
use Rattle.bound_table.specs.declared.kinds.Kind.TheVariants.{AsSum, AsProd, AsMax}
use Rattle.bound_table.specs.Kinds.{whole}
use Rattle.bound_table.specs.Terms.{factors_of}
use Rattle.bound_table.specs.Folding.{parts_of_kind}
use Rattle.bound_table.specs.Likes.{times}
use Rattle.bound_table.proofs.Each.{Each, IsFilled, Each-after_constant}
use Rattle.bound_table.proofs.PartFacts.{IsKept}

-- the bound is not of the kind
abbrev pub IsNoKind : Kind → Bound → Type 0
IsNoKind AsSum b = IsNoSum b
IsNoKind AsProd b = IsNoProduct b
IsNoKind AsMax b = IsNoMaximum b

-- a tidy part of a node of the kind
abbrev pub IsTidyPart : Kind → Bound → Type 0
IsTidyPart k b = IsTidy b × IsNoKind k b

-- the list of the parts of a tidy node consists of tidy bounds that are not of its kind
pub each-part : (P : Bound → Type 0) (ps : Parts) → EachPart P ps → AreTidy ps → Each (λ p. IsTidy p × P p) (list_of ps)
each-part P NoParts each tidy = tt
each-part P (Part p ps) each tidy = ((tidy.0, each.0), each-part P ps each.1 tidy.1)

-- the parts made from a list of tidy bounds are tidy
pub parts-tidy : (P : Bound → Type 0) (ps : List Bound) → Each (λ p. IsTidy p × P p) ps
    → EachPart P (parts_of ps) × AreTidy (parts_of ps)
parts-tidy P [] each = (tt, tt)
parts-tidy P (p ∷ ps) each = let rest = parts-tidy P ps each.1 in ((each.0.1, rest.0), (each.0.0, rest.1))

-- the factors of a tidy part are tidy, and none is a product
pub factors-tidy : (p : Bound) → IsTidy p → Each (λ f. IsTidy f × IsNoProduct f) (factors_of p)
factors-tidy (Constant c) tidy = tt
factors-tidy (Input i) tidy = ((tidy, tt), tt)
factors-tidy (SumOf ps) tidy = ((tidy, tt), tt)
factors-tidy (ProductOf ps) tidy =
    Each-after_constant (λ f. IsTidy f × IsNoProduct f) (list_of ps) (each-part IsNoProduct ps tidy.0.1 tidy.1)
factors-tidy (MaximumOf ps) tidy = ((tidy, tt), tt)
factors-tidy (PowerOf c e) tidy = ((tidy, tt), tt)

-- a list that is not empty makes at least one part
count-filled : (fs : List Bound) → IsFilled fs → 1 ≤ part_count (parts_of fs)
count-filled [] filled = absurd filled
count-filled (f ∷ fs) filled = omega arith

-- a constant times tidy factors is tidy
pub times-tidy : (c : ℕ) (fs : List Bound) → c ≤ constant_limit → IsFilled fs → Each (λ f. IsTidy f × IsNoProduct f) fs
    → IsTidy (times c fs)
times-tidy c fs small filled each =
    let both = parts-tidy IsNoProduct fs each in
    ((omega (arith, count-filled fs filled), (tt, both.0)), (small, both.1))

-- a part of another kind is its own only part
pub no_kind-spread : (k : Kind) (p : Bound) → IsTidyPart k p → Each (IsTidyPart k) (parts_of_kind k p)
no_kind-spread AsSum (SumOf ps) tidy = absurd tidy.1
no_kind-spread AsProd (ProductOf ps) tidy = absurd tidy.1
no_kind-spread AsMax (MaximumOf ps) tidy = absurd tidy.1
no_kind-spread k p tidy = (tidy, tt)

-- a small constant is a tidy part
pub constant-part : (k : Kind) (c : ℕ) → c ≤ constant_limit → IsTidyPart k (Constant c)
constant-part AsSum c small = (small, tt)
constant-part AsProd c small = (small, tt)
constant-part AsMax c small = (small, tt)

-- each case keeps tidy parts
pub tidy_parts-kept : (k : Kind) → IsKept k (IsTidyPart k)
tidy_parts-kept k = record {
  constant = constant-part k;
  inner = no_kind-spread k;
  product = λ sum c p small filled tidy.
      (times-tidy c (factors_of p) small filled (factors-tidy p tidy.0), subst (λ (j : Kind). IsNoKind j (times c (factors_of p))) (sym sum) tt);
}

-- all but the node itself is tidy, and no part is of its own kind
abbrev pub IsNearlyTidy : Bound → Type 0
IsNearlyTidy (Constant c) = c ≤ constant_limit
IsNearlyTidy (Input i) = Unit {0}
IsNearlyTidy (SumOf ps) = Each (IsTidyPart AsSum) (list_of ps)
IsNearlyTidy (ProductOf ps) = Each (IsTidyPart AsProd) (list_of ps)
IsNearlyTidy (MaximumOf ps) = Each (IsTidyPart AsMax) (list_of ps)
IsNearlyTidy (PowerOf c e) = (2 ≤ c) × IsTidy e

-- a tidy bound is nearly tidy
pub tidy-nearly : (b : Bound) → IsTidy b → IsNearlyTidy b
tidy-nearly (Constant c) tidy = tidy
tidy-nearly (Input i) tidy = tt
tidy-nearly (SumOf ps) tidy = each-part IsNoSum ps tidy.0.1 tidy.1
tidy-nearly (ProductOf ps) tidy = each-part IsNoProduct ps tidy.0.1 tidy.1
tidy-nearly (MaximumOf ps) tidy = each-part IsNoMaximum ps tidy.0.1 tidy.1
tidy-nearly (PowerOf c e) tidy = tidy

-- a node of tidy parts is nearly tidy
pub whole-nearly : (k : Kind) (ps : List Bound) → Each (IsTidyPart k) ps → IsNearlyTidy (whole k ps)
whole-nearly AsSum ps each = subst (Each (IsTidyPart AsSum)) (sym (list_of-parts_of ps)) each
whole-nearly AsProd ps each = subst (Each (IsTidyPart AsProd)) (sym (list_of-parts_of ps)) each
whole-nearly AsMax ps each = subst (Each (IsTidyPart AsMax)) (sym (list_of-parts_of ps)) each

-- a node of at least two tidy parts is tidy
pub whole-tidy : (k : Kind) (p q : Bound) (ps : List Bound) → Each (IsTidyPart k) (p ∷ q ∷ ps)
    → IsTidy (whole k (p ∷ q ∷ ps))
whole-tidy AsSum p q ps each = let both = parts-tidy IsNoSum (p ∷ q ∷ ps) each in ((omega arith, both.0), both.1)
whole-tidy AsProd p q ps each = let both = parts-tidy IsNoProduct (p ∷ q ∷ ps) each in ((omega arith, both.0), both.1)
whole-tidy AsMax p q ps each = let both = parts-tidy IsNoMaximum (p ∷ q ∷ ps) each in ((omega arith, both.0), both.1)

-- the parts of the kind of a tidy bound are tidy parts of a node of the kind
pub tidy-spread : (k : Kind) (p : Bound) → IsTidy p → Each (IsTidyPart k) (parts_of_kind k p)
tidy-spread AsSum (SumOf ps) tidy = each-part IsNoSum ps tidy.0.1 tidy.1
tidy-spread AsProd (ProductOf ps) tidy = each-part IsNoProduct ps tidy.0.1 tidy.1
tidy-spread AsMax (MaximumOf ps) tidy = each-part IsNoMaximum ps tidy.0.1 tidy.1
tidy-spread AsSum (Constant c) tidy = ((tidy, tt), tt)
tidy-spread AsSum (Input i) tidy = ((tidy, tt), tt)
tidy-spread AsSum (ProductOf ps) tidy = ((tidy, tt), tt)
tidy-spread AsSum (MaximumOf ps) tidy = ((tidy, tt), tt)
tidy-spread AsSum (PowerOf c e) tidy = ((tidy, tt), tt)
tidy-spread AsProd (Constant c) tidy = ((tidy, tt), tt)
tidy-spread AsProd (Input i) tidy = ((tidy, tt), tt)
tidy-spread AsProd (SumOf ps) tidy = ((tidy, tt), tt)
tidy-spread AsProd (MaximumOf ps) tidy = ((tidy, tt), tt)
tidy-spread AsProd (PowerOf c e) tidy = ((tidy, tt), tt)
tidy-spread AsMax (Constant c) tidy = ((tidy, tt), tt)
tidy-spread AsMax (Input i) tidy = ((tidy, tt), tt)
tidy-spread AsMax (SumOf ps) tidy = ((tidy, tt), tt)
tidy-spread AsMax (ProductOf ps) tidy = ((tidy, tt), tt)
tidy-spread AsMax (PowerOf c e) tidy = ((tidy, tt), tt)
