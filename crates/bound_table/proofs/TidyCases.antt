-- A table that begins with Flat and ends with Few makes bounds tidy: after Flat every part is tidy and none is of the
-- node's own kind, each case keeps that, and Few makes the node itself tidy.
use Rattle.std.proofs.Common.{◌≡◌, ℕ, zero, suc, ◌≤◌, Bool, true, false, cond, List, [], ◌∷◌, ◌++◌, sym, ◌∙◌}
use Rattle.std.proofs.Common.{subst, arith}
use Rattle.std.specs.List.{list_any}
use Rattle.bound_expr.specs.model.Bounds.{Bound, Constant, Input, SumOf, ProductOf, MaximumOf, PowerOf, Parts, NoParts}
use Rattle.bound_expr.specs.model.Bounds.{Part}
use Rattle.bound_expr.specs.Views.{list_of}
use Rattle.bound_expr.specs.Limits.{constant_limit}
use Rattle.bound_expr.specs.Numbers.{HasTidyNumbers, HaveTidyNumbers}
use Rattle.bound_expr.specs.Tidy.{IsTidy}
use Rattle.bound_expr.proofs.Nodes.{IsTidy-numbers}
use Rattle.bound_table.specs.declared.kinds.Case.{Case}
use Rattle.bound_table.specs.declared.kinds.Case.TheVariants.{Flat, FoldConst, ZeroProduct, Neutral, PowerConst}
use Rattle.bound_table.specs.declared.kinds.Case.TheVariants.{PowerShift, PowerMerge, Distribute, Order, Like}
use Rattle.bound_table.specs.declared.kinds.Case.TheVariants.{Dominate, Few}
use Rattle.bound_table.specs.declared.kinds.Kind.{Kind}
use Rattle.bound_table.specs.declared.kinds.Kind.TheVariants.{AsSum, AsProd, AsMax}
use Rattle.bound_table.specs.Kinds.{whole, is_zero}
use Rattle.bound_table.specs.Folding.{parts_of_kind, spliced, folded, zeroed, without_neutral, simple}
use Rattle.bound_table.specs.Sorting.{sorted}
use Rattle.bound_table.specs.Likes.{likes_joined}
use Rattle.bound_table.specs.Dominance.{dominant}
use Rattle.bound_table.specs.Powers.{powers_merged}
use Rattle.bound_table.specs.Rewriting.{at_parts, at_node, at_node_all, parts_passed, one_pass_each, one_pass}
use Rattle.bound_table.specs.Rewriting.{simplified}
use Rattle.bound_table.proofs.Passes.{passes, simplified-is}
use Rattle.bound_table.specs.Laws.{IsTidying}
use Rattle.bound_table.proofs.Each.{Each, Each-append}
use Rattle.bound_table.proofs.NumberFacts.{unit-small}
use Rattle.bound_table.proofs.PartFacts.{Each-spliced, Each-folded, Each-without_neutral, Each-sorted}
use Rattle.bound_table.proofs.PartFacts.{Each-likes_joined, Each-dominant}
use Rattle.bound_table.proofs.TidyParts.{IsTidyPart, no_kind-spread, constant-part}
use Rattle.bound_table.proofs.TidyParts.{tidy_parts-kept, IsNearlyTidy, tidy-nearly, whole-nearly, whole-tidy}
use Rattle.bound_table.proofs.TidyParts.{tidy-spread}
use Rattle.bound_table.proofs.TidyPowers.{at_power-nearly, powers_merged-tidy}
use Rattle.bound_table.proofs.TidyDistribution.{distributed-nearly}

-- making a node simple makes it tidy
simple-tidy : (k : Kind) (ps : List Bound) → Each (IsTidyPart k) ps → IsTidy (simple k ps)
simple-tidy k [] each = unit-small k
simple-tidy k (p ∷ []) each = each.0.0
simple-tidy k (p ∷ q ∷ ps) each = whole-tidy k p q ps each

-- a product that may become 0 is nearly tidy
zeroed-nearly : (k : Kind) (ps : List Bound) → Each (IsTidyPart k) ps → IsNearlyTidy (zeroed k ps)
zeroed-nearly AsSum ps each = whole-nearly AsSum ps each
zeroed-nearly AsMax ps each = whole-nearly AsMax ps each
zeroed-nearly AsProd ps each = go (list_any is_zero ps)
  where
    go : (b : Bool) → IsNearlyTidy (cond b (Constant 0) (whole AsProd ps))
    go true = omega arith
    go false = whole-nearly AsProd ps each

-- the result of a case at tidy parts is nearly tidy
at_parts-nearly : (c : Case) (k : Kind) (ps : List Bound) → Each (IsTidyPart k) ps → IsNearlyTidy (at_parts c k ps)
at_parts-nearly Flat k ps each =
    whole-nearly k (spliced k ps) (Each-spliced k (IsTidyPart k) ps (no_kind-spread k) each)
at_parts-nearly FoldConst k ps each =
    whole-nearly k (folded k ps) (Each-folded k (IsTidyPart k) ps (constant-part k) each)
at_parts-nearly ZeroProduct k ps each = zeroed-nearly k ps each
at_parts-nearly Neutral k ps each =
    whole-nearly k (without_neutral k ps) (Each-without_neutral k (IsTidyPart k) ps each)
at_parts-nearly PowerConst k ps each = whole-nearly k ps each
at_parts-nearly PowerShift k ps each = whole-nearly k ps each
at_parts-nearly PowerMerge k ps each = whole-nearly k (powers_merged k ps) (powers_merged-tidy k ps each)
at_parts-nearly Distribute k ps each = distributed-nearly k ps each
at_parts-nearly Order k ps each = whole-nearly k (sorted k ps) (Each-sorted k (IsTidyPart k) ps each)
at_parts-nearly Like k ps each =
    whole-nearly k (likes_joined k ps) (Each-likes_joined k (IsTidyPart k) (tidy_parts-kept k) ps each)
at_parts-nearly Dominate k ps each = whole-nearly k (dominant k ps) (Each-dominant k (IsTidyPart k) ps each)
at_parts-nearly Few k ps each = tidy-nearly (simple k ps) (simple-tidy k ps each)

-- each case keeps a node nearly tidy
at_node-nearly : (c : Case) (b : Bound) → IsNearlyTidy b → IsNearlyTidy (at_node c b)
unfolding at_node
at_node-nearly c (Constant n) near = near
at_node-nearly c (Input i) near = tt
at_node-nearly c (SumOf ps) near = at_parts-nearly c AsSum (list_of ps) near
at_node-nearly c (ProductOf ps) near = at_parts-nearly c AsProd (list_of ps) near
at_node-nearly c (MaximumOf ps) near = at_parts-nearly c AsMax (list_of ps) near
at_node-nearly c (PowerOf n e) near = at_power-nearly c n e near

-- the case Few makes a nearly tidy node tidy
few-tidy : (b : Bound) → IsNearlyTidy b → IsTidy (at_node Few b)
unfolding at_node
few-tidy (Constant n) near = near
few-tidy (Input i) near = tt
few-tidy (SumOf ps) near = simple-tidy AsSum (list_of ps) near
few-tidy (ProductOf ps) near = simple-tidy AsProd (list_of ps) near
few-tidy (MaximumOf ps) near = simple-tidy AsMax (list_of ps) near
few-tidy (PowerOf n e) near = near

-- all parts of the bound are tidy
abbrev HasTidyParts : Bound → Type 0
HasTidyParts (Constant c) = c ≤ constant_limit
HasTidyParts (Input i) = Unit {0}
HasTidyParts (SumOf ps) = Each IsTidy (list_of ps)
HasTidyParts (ProductOf ps) = Each IsTidy (list_of ps)
HasTidyParts (MaximumOf ps) = Each IsTidy (list_of ps)
HasTidyParts (PowerOf c e) = (2 ≤ c) × IsTidy e

-- splicing tidy parts leaves no part of the node's own kind
spliced-tidy : (k : Kind) (ps : List Bound) → Each IsTidy ps → Each (IsTidyPart k) (spliced k ps)
spliced-tidy k [] each = tt
spliced-tidy k (p ∷ ps) each =
    Each-append (IsTidyPart k) (parts_of_kind k p) (spliced k ps) (tidy-spread k p each.0) (spliced-tidy k ps each.1)

-- the case Flat makes a node of tidy parts nearly tidy
flat-nearly : (b : Bound) → HasTidyParts b → IsNearlyTidy (at_node Flat b)
unfolding at_node
flat-nearly (Constant n) has = has
flat-nearly (Input i) has = tt
flat-nearly (SumOf ps) has = whole-nearly AsSum (spliced AsSum (list_of ps)) (spliced-tidy AsSum (list_of ps) has)
flat-nearly (ProductOf ps) has =
    whole-nearly AsProd (spliced AsProd (list_of ps)) (spliced-tidy AsProd (list_of ps) has)
flat-nearly (MaximumOf ps) has = whole-nearly AsMax (spliced AsMax (list_of ps)) (spliced-tidy AsMax (list_of ps) has)
flat-nearly (PowerOf n e) has = has

-- cases after which Few comes make a nearly tidy node tidy
ended-tidy : (cs : List Case) (b : Bound) → IsNearlyTidy b → IsTidy (at_node_all (cs ++ Few ∷ []) b)
ended-tidy [] b near = few-tidy b near
ended-tidy (c ∷ cs) b near = ended-tidy cs (at_node c b) (at_node-nearly c b near)

-- a table that begins with `Flat` and ends with `Few` makes a node of tidy parts tidy
at_node_all-tidy : (cs : List Case) → IsTidying cs → (b : Bound) → HasTidyParts b → IsTidy (at_node_all cs b)
at_node_all-tidy cs tidying b has =
    subst (λ (ds : List Case). IsTidy (at_node_all ds b)) (sym tidying.is)
    (ended-tidy tidying.between (at_node Flat b) (flat-nearly b has))

-- passing through the parts, and a whole pass, make them tidy
mutual
  unfolding parts_passed

  parts_passed-tidy : (cs : List Case) → IsTidying cs → (b : Bound) → HasTidyNumbers b
      → HasTidyParts (parts_passed cs b)
  parts_passed-tidy cs tidying (Constant n) has = has
  parts_passed-tidy cs tidying (Input i) has = tt
  parts_passed-tidy cs tidying (SumOf ps) has = one_pass_each-tidy cs tidying ps has.1
  parts_passed-tidy cs tidying (ProductOf ps) has = one_pass_each-tidy cs tidying ps has.1
  parts_passed-tidy cs tidying (MaximumOf ps) has = one_pass_each-tidy cs tidying ps has.1
  parts_passed-tidy cs tidying (PowerOf n e) has =
      (has.0, at_node_all-tidy cs tidying (parts_passed cs e) (parts_passed-tidy cs tidying e has.1))

  one_pass_each-tidy : (cs : List Case) → IsTidying cs → (ps : Parts) → HaveTidyNumbers ps
      → Each IsTidy (list_of (one_pass_each cs ps))
  one_pass_each-tidy cs tidying NoParts has = tt
  one_pass_each-tidy cs tidying (Part p ps) has = (
    at_node_all-tidy cs tidying (parts_passed cs p) (parts_passed-tidy cs tidying p has.0),
    one_pass_each-tidy cs tidying ps has.1,
  )

-- a pass makes a bound tidy
one_pass-tidy : (cs : List Case) → IsTidying cs → (b : Bound) → HasTidyNumbers b → IsTidy (one_pass cs b)
one_pass-tidy cs tidying b has = at_node_all-tidy cs tidying (parts_passed cs b) (parts_passed-tidy cs tidying b has)

-- further passes keep a bound tidy
passes-tidy : (n : ℕ) (cs : List Case) → IsTidying cs → (b : Bound) → IsTidy b → IsTidy (passes n cs b)
unfolding passes
passes-tidy zero cs tidying b tidy = tidy
passes-tidy (suc n) cs tidying b tidy =
    passes-tidy n cs tidying (one_pass cs b) (one_pass-tidy cs tidying b (IsTidy-numbers b tidy))

-- at least one pass makes a bound tidy
passes-made_tidy : (n : ℕ) (cs : List Case) → IsTidying cs → (b : Bound) → 1 ≤ n → HasTidyNumbers b
    → IsTidy (passes n cs b)
unfolding passes
passes-made_tidy zero cs tidying b some has = absurd (omega arith)
passes-made_tidy (suc n) cs tidying b some has =
    passes-tidy n cs tidying (one_pass cs b) (one_pass-tidy cs tidying b has)

-- the outcome of a rewriting is tidy
pub simplified-tidy : (cs : List Case) (b outcome : Bound) → outcome ≡ simplified cs b → IsTidying cs → HasTidyNumbers b
    → IsTidy outcome
simplified-tidy cs b outcome is tidying has =
    subst IsTidy (sym (is ∙ simplified-is cs b)) (passes-made_tidy 16 cs tidying b (omega arith) has)
