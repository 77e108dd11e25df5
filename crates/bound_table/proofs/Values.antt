-- A rewriting keeps the value.
use Rattle.std.proofs.Common.{◌≡◌, ℕ, zero, suc, ◌*◌, ◌^◌, List, [], ◌∷◌, refl, ap, sym, ◌∙◌}
use Rattle.std.proofs.Common.{arith}
use Rattle.bound_expr.specs.model.Bounds.{Bound, Constant, Input, SumOf, ProductOf, MaximumOf, PowerOf, Parts, NoParts}
use Rattle.bound_expr.specs.model.Bounds.{Part, val}
use Rattle.bound_expr.specs.model.Bounds.{val_sum, val_product, val_maximum, IsBasedFrom, IsBased, AreBased}
use Rattle.bound_expr.specs.Views.{list_of}
use Rattle.bound_expr.proofs.PartLists.{parts_of-list_of}
use Rattle.bound_table.specs.declared.kinds.Case.{Case}
use Rattle.bound_table.specs.declared.kinds.Case.TheVariants.{Flat, FoldConst, ZeroProduct, Neutral, PowerConst}
use Rattle.bound_table.specs.declared.kinds.Case.TheVariants.{PowerShift, PowerMerge, Distribute, Order, Like}
use Rattle.bound_table.specs.declared.kinds.Case.TheVariants.{Dominate, Few}
use Rattle.bound_table.specs.declared.kinds.Kind.{Kind}
use Rattle.bound_table.specs.declared.kinds.Kind.TheVariants.{AsSum, AsProd, AsMax}
use Rattle.bound_table.specs.Folding.{spliced, folded, without_neutral}
use Rattle.bound_table.specs.Sorting.{sorted}
use Rattle.bound_table.specs.Likes.{likes_joined}
use Rattle.bound_table.specs.Dominance.{dominant}
use Rattle.bound_table.specs.Powers.{powers_merged}
use Rattle.bound_table.specs.Rewriting.{at_parts, at_power, at_node, at_node_all, parts_passed, one_pass_each, one_pass}
use Rattle.bound_table.specs.Rewriting.{simplified}
use Rattle.bound_table.proofs.Passes.{passes, simplified-is}
use Rattle.bound_table.specs.Laws.{HasValueOf}
use Rattle.bound_table.proofs.Each.{Each, Each-list_of}
use Rattle.bound_table.proofs.NumberFacts.{at_node-based, at_node_all-based, parts_passed-based}
use Rattle.bound_table.proofs.Products.{parts_at}
use Rattle.bound_table.proofs.CaseValues.{val-whole, parts_at-spliced, parts_at-folded, val-zeroed}
use Rattle.bound_table.proofs.CaseValues.{parts_at-without_neutral, parts_at-sorted, val-simple}
use Rattle.bound_table.proofs.LikeValues.{parts_at-likes_joined, parts_at-dominant}
use Rattle.bound_table.proofs.PowerValues.{val-evaluated, val-shifted, parts_at-powers_merged}
use Rattle.bound_table.proofs.DistributionValues.{val-distributed}

-- each case keeps the value of the parts
at_parts-val : (c : Case) (k : Kind) (ps : List Bound) (m : List ℕ) → Each IsBased ps
    → val (at_parts c k ps) m ≡ parts_at k ps m
at_parts-val Flat k ps m based = val-whole k (spliced k ps) m ∙ parts_at-spliced k ps m
at_parts-val FoldConst k ps m based = val-whole k (folded k ps) m ∙ parts_at-folded k ps m
at_parts-val ZeroProduct k ps m based = val-zeroed k ps m
at_parts-val Neutral k ps m based = val-whole k (without_neutral k ps) m ∙ parts_at-without_neutral k ps m
at_parts-val PowerConst k ps m based = val-whole k ps m
at_parts-val PowerShift k ps m based = val-whole k ps m
at_parts-val PowerMerge k ps m based = val-whole k (powers_merged k ps) m ∙ parts_at-powers_merged k ps m
at_parts-val Distribute k ps m based = val-distributed k ps m
at_parts-val Order k ps m based = val-whole k (sorted k ps) m ∙ parts_at-sorted k ps m
at_parts-val Like k ps m based = val-whole k (likes_joined k ps) m ∙ parts_at-likes_joined k ps m
at_parts-val Dominate k ps m based = val-whole k (dominant k ps) m ∙ parts_at-dominant k ps m based
at_parts-val Few k ps m based = val-simple k ps m

-- each case keeps the value of a power
at_power-val : (c : Case) (n : ℕ) (e : Bound) (m : List ℕ) → val (at_power c n e) m ≡ n ^ val e m
at_power-val Flat n e m = refl
at_power-val FoldConst n e m = refl
at_power-val ZeroProduct n e m = refl
at_power-val Neutral n e m = refl
at_power-val PowerConst n e m = val-evaluated n e m
at_power-val PowerShift n e m = val-shifted n e m
at_power-val PowerMerge n e m = refl
at_power-val Distribute n e m = refl
at_power-val Order n e m = refl
at_power-val Like n e m = refl
at_power-val Dominate n e m = refl
at_power-val Few n e m = refl

-- each case keeps the value of a node
at_node-val : (c : Case) (b : Bound) (m : List ℕ) → IsBased b → val (at_node c b) m ≡ val b m
unfolding at_node
at_node-val c (Constant n) m based = refl
at_node-val c (Input i) m based = refl
at_node-val c (SumOf ps) m based =
    at_parts-val c AsSum (list_of ps) m (Each-list_of (IsBasedFrom 1) ps based.1)
    ∙ sym (val-whole AsSum (list_of ps) m) ∙ ap (λ (qs : Parts). val_sum qs m) (parts_of-list_of ps)
at_node-val c (ProductOf ps) m based =
    at_parts-val c AsProd (list_of ps) m (Each-list_of (IsBasedFrom 1) ps based.1)
    ∙ sym (val-whole AsProd (list_of ps) m) ∙ ap (λ (qs : Parts). val_product qs m) (parts_of-list_of ps)
at_node-val c (MaximumOf ps) m based =
    at_parts-val c AsMax (list_of ps) m (Each-list_of (IsBasedFrom 1) ps based.1)
    ∙ sym (val-whole AsMax (list_of ps) m) ∙ ap (λ (qs : Parts). val_maximum qs m) (parts_of-list_of ps)
at_node-val c (PowerOf n e) m based = at_power-val c n e m

-- all cases keep the value of a node
at_node_all-val : (cs : List Case) (b : Bound) (m : List ℕ) → IsBased b → val (at_node_all cs b) m ≡ val b m
at_node_all-val [] b m based = refl
at_node_all-val (c ∷ cs) b m based =
    at_node_all-val cs (at_node c b) m (at_node-based c b based) ∙ at_node-val c b m based

-- a pass keeps the value of a bound if passing through its parts does
one_pass-val : (cs : List Case) (b : Bound) (m : List ℕ) → IsBased b → val (parts_passed cs b) m ≡ val b m
    → val (one_pass cs b) m ≡ val b m
one_pass-val cs b m based parts = at_node_all-val cs (parts_passed cs b) m (parts_passed-based cs b based) ∙ parts

-- passing through the parts keeps the value
mutual
  unfolding parts_passed

  parts_passed-val : (cs : List Case) (b : Bound) (m : List ℕ) → IsBased b → val (parts_passed cs b) m ≡ val b m
  parts_passed-val cs (Constant n) m based = refl
  parts_passed-val cs (Input i) m based = refl
  parts_passed-val cs (SumOf ps) m based = one_pass_each-sum cs ps m based.1
  parts_passed-val cs (ProductOf ps) m based = one_pass_each-product cs ps m based.1
  parts_passed-val cs (MaximumOf ps) m based = one_pass_each-maximum cs ps m based.1
  parts_passed-val cs (PowerOf n e) m based =
      ap (λ (v : ℕ). n ^ v) (one_pass-val cs e m based.1 (parts_passed-val cs e m based.1))

  one_pass_each-sum : (cs : List Case) (ps : Parts) (m : List ℕ) → AreBased ps
      → val_sum (one_pass_each cs ps) m ≡ val_sum ps m
  one_pass_each-sum cs NoParts m based = refl
  one_pass_each-sum cs (Part p ps) m based =
      omega (arith, one_pass-val cs p m based.0 (parts_passed-val cs p m based.0), one_pass_each-sum cs ps m based.1)

  one_pass_each-product : (cs : List Case) (ps : Parts) (m : List ℕ) → AreBased ps
      → val_product (one_pass_each cs ps) m ≡ val_product ps m
  one_pass_each-product cs NoParts m based = refl
  one_pass_each-product cs (Part p ps) m based =
      ap (λ (v : ℕ). v * val_product (one_pass_each cs ps) m)
      (one_pass-val cs p m based.0 (parts_passed-val cs p m based.0))
      ∙ ap (λ (v : ℕ). val p m * v) (one_pass_each-product cs ps m based.1)

  one_pass_each-maximum : (cs : List Case) (ps : Parts) (m : List ℕ) → AreBased ps
      → val_maximum (one_pass_each cs ps) m ≡ val_maximum ps m
  one_pass_each-maximum cs NoParts m based = refl
  one_pass_each-maximum cs (Part p ps) m based =
      omega (arith, one_pass-val cs p m based.0 (parts_passed-val cs p m based.0), one_pass_each-maximum cs ps m based.1)

-- passes keep the value of the bound
passes-val : (n : ℕ) (cs : List Case) (b : Bound) (m : List ℕ) → IsBased b → val (passes n cs b) m ≡ val b m
unfolding passes
passes-val zero cs b m based = refl
passes-val (suc n) cs b m based =
    passes-val n cs (one_pass cs b) m (at_node_all-based cs (parts_passed cs b) (parts_passed-based cs b based))
    ∙ one_pass-val cs b m based (parts_passed-val cs b m based)

-- a rewriting has the value of the bound where its bases are at least 1
pub simplified-value : (cs : List Case) (b outcome : Bound) → outcome ≡ simplified cs b → IsBased b
    → HasValueOf outcome b
simplified-value cs b outcome is based =
    record { each = λ m. ap (λ (r : Bound). val r m) (is ∙ simplified-is cs b) ∙ passes-val 16 cs b m based }
