-- Rewriting keeps the properties of a bound's numbers, node by node.
use Rattle.std.proofs.Common.{◌≡◌, ℕ, zero, suc, ◌≤◌, Bool, true, false, cond, Option, Some, None}
use Rattle.std.proofs.Common.{List, [], ◌∷◌, ◌++◌, refl, sym, ◌∙◌, subst, arith}
use Rattle.std.specs.List.{list_any}
use Rattle.bound_expr.specs.model.Bounds.{Bound, Constant, Input, SumOf, ProductOf, MaximumOf, PowerOf, Parts, NoParts}
use Rattle.bound_expr.specs.model.Bounds.{Part}
use Rattle.bound_expr.specs.model.Bounds.{EachNode, EachNodeOfAll, IsBasedFrom, IsBased}
use Rattle.bound_expr.specs.Limits.{constant_limit}
use Rattle.bound_expr.specs.Numbers.{IsSmallConstant, IsTidyNumber, IsInputBelow}
use Rattle.bound_expr.specs.Views.{parts_of, list_of}
use Rattle.bound_expr.proofs.Nodes.{IsOfNumbers, bases-of_numbers, constants-of_numbers, tidy-of_numbers}
use Rattle.bound_expr.proofs.Nodes.{inputs-of_numbers}
use Rattle.bound_table.specs.declared.kinds.Case.{Case}
use Rattle.bound_table.specs.declared.kinds.Case.TheVariants.{Flat, FoldConst, ZeroProduct, Neutral, PowerConst}
use Rattle.bound_table.specs.declared.kinds.Case.TheVariants.{PowerShift, PowerMerge, Distribute, Order, Like}
use Rattle.bound_table.specs.declared.kinds.Case.TheVariants.{Dominate, Few}
use Rattle.bound_table.specs.declared.kinds.Kind.{Kind}
use Rattle.bound_table.specs.declared.kinds.Kind.TheVariants.{AsSum, AsProd, AsMax}
use Rattle.bound_table.specs.Kinds.{whole, unit_of, is_zero}
use Rattle.bound_table.specs.Terms.{factors_of}
use Rattle.bound_table.specs.Folding.{parts_of_kind, spliced, folded, zeroed, without_neutral, simple}
use Rattle.bound_table.specs.Sorting.{sorted}
use Rattle.bound_table.specs.Likes.{times, likes_joined}
use Rattle.bound_table.specs.Dominance.{dominant}
use Rattle.bound_table.specs.Laws.{ReadsNoMore, KeepsNumbers}
use Rattle.bound_table.specs.Runs.{runs_of}
use Rattle.bound_table.specs.Powers.{number_of_power, number_or_power, evaluated, but_first_constant, sum_or_single}
use Rattle.bound_table.specs.Powers.{number_taken, exponent_left, times_power_left, shifted, have_one_base}
use Rattle.bound_table.specs.Powers.{exponent_of, exponents_of, powers_list, powers_merged}
use Rattle.bound_table.specs.Distribution.{before_sum, parts_of_sum, after_sum, product_or_single, each_in_place}
use Rattle.bound_table.specs.Distribution.{multiplied_out, is_multiplied_out, distributed}
use Rattle.bound_table.specs.Rewriting.{at_parts, at_power, at_node, at_node_all, parts_passed, one_pass_each, one_pass}
use Rattle.bound_table.specs.Rewriting.{simplified}
use Rattle.bound_table.proofs.Each.{Each, Each-append, Each-list_of, Each-parts_of, Each-factors_of}
use Rattle.bound_table.proofs.Kept.{Each-but_first_constant, Each-exponents_of, Each-before_sum, Each-parts_of_sum}
use Rattle.bound_table.proofs.Kept.{Each-after_sum}
use Rattle.bound_table.proofs.PowerValues.{number_of_power-some, number_taken-some}
use Rattle.bound_table.proofs.PartFacts.{IsKept, Each-spliced, Each-folded, Each-without_neutral, Each-sorted}
use Rattle.bound_table.proofs.PartFacts.{AreTogether, runs_of-good, Each-all_runs_joined}
use Rattle.bound_table.proofs.PartFacts.{Each-likes_joined, Each-dominant}
use Rattle.bound_table.proofs.Passes.{passes, simplified-is}

-- the unit of a kind is a small constant
pub unit-small : (k : Kind) → unit_of k ≤ constant_limit
unit-small AsSum = omega arith
unit-small AsProd = omega arith
unit-small AsMax = omega arith

-- laws for a property of numbers that holds of every constant within the limit
module _ (F : Bound → Type 0) (of : IsOfNumbers F) (constant : (c : ℕ) → c ≤ constant_limit → F (Constant c)) where
  -- if each part has the property in all its nodes, the node of these parts has it
  whole-each : (k : Kind) (ps : List Bound) → Each (EachNode F) ps → EachNode F (whole k ps)
  whole-each AsSum ps each = (of.sum (parts_of ps), Each-parts_of F ps each)
  whole-each AsProd ps each = (of.product (parts_of ps), Each-parts_of F ps each)
  whole-each AsMax ps each = (of.maximum (parts_of ps), Each-parts_of F ps each)

  -- if a part has the property in all its nodes, so do its own parts of the kind
  spread-each : (k : Kind) (p : Bound) → EachNode F p → Each (EachNode F) (parts_of_kind k p)
  spread-each AsSum (SumOf ps) each = Each-list_of F ps each.1
  spread-each AsProd (ProductOf ps) each = Each-list_of F ps each.1
  spread-each AsMax (MaximumOf ps) each = Each-list_of F ps each.1
  spread-each k p each = (each, tt)

  -- a constant times the factors of a part with the property has the property
  times-each : (c : ℕ) (p : Bound) → c ≤ constant_limit → EachNode F p → EachNode F (times c (factors_of p))
  times-each c p small each = (
    of.product (parts_of (Constant c ∷ factors_of p)),
    (constant c small, Each-parts_of F (factors_of p) (Each-factors_of F p each)),
  )

  -- each case keeps the property
  numbers-kept : (k : Kind) → IsKept k (EachNode F)
  numbers-kept k = record {
    constant = constant;
    inner = λ p each. spread-each k p each;
    product = λ sum c p small filled each. times-each c p small each;
  }

  -- the case Few keeps the property of each node
  simple-each : (k : Kind) (ps : List Bound) → Each (EachNode F) ps → EachNode F (simple k ps)
  simple-each k [] each = constant (unit_of k) (unit-small k)
  simple-each k (p ∷ []) each = each.0
  simple-each k (p ∷ q ∷ ps) each = whole-each k (p ∷ q ∷ ps) each

  -- the case ZeroProduct keeps the property of each node
  zeroed-each : (k : Kind) (ps : List Bound) → Each (EachNode F) ps → EachNode F (zeroed k ps)
  zeroed-each AsSum ps each = whole-each AsSum ps each
  zeroed-each AsMax ps each = whole-each AsMax ps each
  zeroed-each AsProd ps each = go (list_any is_zero ps)
    where
      go : (b : Bool) → EachNode F (cond b (Constant 0) (whole AsProd ps))
      go true = of.zero
      go false = whole-each AsProd ps each

  -- parts with the property, as a sum or a single one, have it
  sum_or_single-each : (ps : List Bound) → Each (EachNode F) ps → EachNode F (sum_or_single ps)
  sum_or_single-each [] each = whole-each AsSum [] each
  sum_or_single-each (p ∷ []) each = each.0
  sum_or_single-each (p ∷ q ∷ ps) each = whole-each AsSum (p ∷ q ∷ ps) each

  -- the remaining exponent has the property
  exponent_left-each : (e : Bound) → EachNode F e → EachNode F (exponent_left e)
  exponent_left-each (SumOf ps) each =
      sum_or_single-each (but_first_constant (list_of ps))
      (Each-but_first_constant (EachNode F) (list_of ps) (Each-list_of F ps each.1))
  exponent_left-each (Constant c) each = each
  exponent_left-each (Input i) each = each
  exponent_left-each (ProductOf ps) each = each
  exponent_left-each (MaximumOf ps) each = each
  exponent_left-each (PowerOf c e) each = each

  -- the case PowerConst keeps the property of each node
  evaluated-each : (n : ℕ) (e : Bound) → EachNode F (PowerOf n e) → EachNode F (evaluated n e)
  evaluated-each n e each = go (number_of_power n e) refl
    where
      go : (o : Option ℕ) → number_of_power n e ≡ o → EachNode F (number_or_power n e o)
      go None is = each
      go (Some v) is = constant v (number_of_power-some n e v [] is).1

  -- the case PowerShift keeps the property of each node
  shifted-each : (n : ℕ) (e : Bound) → EachNode F (PowerOf n e) → EachNode F (shifted n e)
  shifted-each n e each = go (number_taken n e) refl (exponent_left-each e each.1)
    where
      go : (o : Option ℕ) → number_taken n e ≡ o → EachNode F (exponent_left e)
          → EachNode F (times_power_left n e o)
      go None is left = each
      go (Some v) is left =
          whole-each AsProd (Constant v ∷ PowerOf n (exponent_left e) ∷ [])
          (constant v (number_taken-some n e v [] is).1, ((of.power n e (exponent_left e) each.0, left), tt))

  -- the result of a case at a power
  at_power-each : (c : Case) (n : ℕ) (e : Bound) → EachNode F (PowerOf n e) → EachNode F (at_power c n e)
  at_power-each Flat n e each = each
  at_power-each FoldConst n e each = each
  at_power-each ZeroProduct n e each = each
  at_power-each Neutral n e each = each
  at_power-each PowerConst n e each = evaluated-each n e each
  at_power-each PowerShift n e each = shifted-each n e each
  at_power-each PowerMerge n e each = each
  at_power-each Distribute n e each = each
  at_power-each Order n e each = each
  at_power-each Like n e each = each
  at_power-each Dominate n e each = each
  at_power-each Few n e each = each

  -- the parts of the exponent of a power with the property have it
  exponent-each : (p : Bound) → EachNode F p → Each (EachNode F) (exponent_of p)
  exponent-each (PowerOf c e) each = spread-each AsSum e each.1
  exponent-each (Constant c) each = tt
  exponent-each (Input i) each = tt
  exponent-each (SumOf ps) each = tt
  exponent-each (ProductOf ps) each = tt
  exponent-each (MaximumOf ps) each = tt

  -- powers of one base that are merged keep the property
  one_power-each : (p : Bound) (ps : List Bound) → Each (EachNode F) (p ∷ ps) → AreTogether have_one_base p ps
      → Each (EachNode F) (powers_list (p ∷ ps))
  one_power-each p [] each together = each
  one_power-each (PowerOf c e) (q ∷ qs) each together =
      let exponents = exponents_of (PowerOf c e ∷ q ∷ qs) in (
        (
          of.power c e (SumOf (parts_of exponents)) each.0.0,
          whole-each AsSum exponents
              (Each-exponents_of (EachNode F) (EachNode F) exponent-each (PowerOf c e ∷ q ∷ qs) each),
        ),
        tt,
      )
  one_power-each (Constant c) (q ∷ qs) each together = each
  one_power-each (Input i) (q ∷ qs) each together = each
  one_power-each (SumOf ps) (q ∷ qs) each together = each
  one_power-each (ProductOf ps) (q ∷ qs) each together = each
  one_power-each (MaximumOf ps) (q ∷ qs) each together = each

  -- the case PowerMerge keeps the property of each node
  powers_merged-each : (k : Kind) (ps : List Bound) → Each (EachNode F) ps → Each (EachNode F) (powers_merged k ps)
  powers_merged-each AsProd ps each =
      Each-all_runs_joined have_one_base powers_list (EachNode F) one_power-each (runs_of have_one_base ps)
      (runs_of-good have_one_base (EachNode F) ps each)
  powers_merged-each AsSum ps each = each
  powers_merged-each AsMax ps each = each

  -- factors with the property, as a product or a single one, have it
  product_or_single-each : (fs : List Bound) → Each (EachNode F) fs → EachNode F (product_or_single fs)
  product_or_single-each [] each = whole-each AsProd [] each
  product_or_single-each (f ∷ []) each = each.0
  product_or_single-each (f ∷ g ∷ fs) each = whole-each AsProd (f ∷ g ∷ fs) each

  -- each product with a part in place of the sum keeps the property
  in_place-each : (before after ps : List Bound) → Each (EachNode F) before → Each (EachNode F) after
      → Each (EachNode F) ps → Each (EachNode F) (each_in_place before after ps)
  in_place-each before after [] b a each = tt
  in_place-each before after (p ∷ ps) b a each = (
    product_or_single-each (before ++ (parts_of_kind AsProd p ++ after))
        (Each-append (EachNode F) before (parts_of_kind AsProd p ++ after) b
        (Each-append (EachNode F) (parts_of_kind AsProd p) after (spread-each AsProd p each.0) a)),
    in_place-each before after ps b a each.1,
  )

  -- the case Distribute keeps the property of each node
  distributed-each : (k : Kind) (ps : List Bound) → Each (EachNode F) ps → EachNode F (distributed k ps)
  distributed-each AsSum ps each = whole-each AsSum ps each
  distributed-each AsMax ps each = whole-each AsMax ps each
  distributed-each AsProd ps each = go (is_multiplied_out ps)
    where
      go : (b : Bool) → EachNode F (cond b (multiplied_out ps) (whole AsProd ps))
      go true =
          whole-each AsSum (each_in_place (before_sum ps) (after_sum ps) (parts_of_sum ps))
          (in_place-each (before_sum ps) (after_sum ps) (parts_of_sum ps) (Each-before_sum (EachNode F) ps each)
          (Each-after_sum (EachNode F) ps each)
          (Each-parts_of_sum (EachNode F) (EachNode F) (λ qs all. Each-list_of F qs all.1) ps each))
      go false = whole-each AsProd ps each

  -- each case keeps the property at a node with parts
  at_parts-each : (c : Case) (k : Kind) (ps : List Bound) → Each (EachNode F) ps → EachNode F (at_parts c k ps)
  at_parts-each Flat k ps each = whole-each k (spliced k ps) (Each-spliced k (EachNode F) ps (spread-each k) each)
  at_parts-each FoldConst k ps each = whole-each k (folded k ps) (Each-folded k (EachNode F) ps constant each)
  at_parts-each ZeroProduct k ps each = zeroed-each k ps each
  at_parts-each Neutral k ps each = whole-each k (without_neutral k ps) (Each-without_neutral k (EachNode F) ps each)
  at_parts-each PowerConst k ps each = whole-each k ps each
  at_parts-each PowerShift k ps each = whole-each k ps each
  at_parts-each PowerMerge k ps each = whole-each k (powers_merged k ps) (powers_merged-each k ps each)
  at_parts-each Distribute k ps each = distributed-each k ps each
  at_parts-each Order k ps each = whole-each k (sorted k ps) (Each-sorted k (EachNode F) ps each)
  at_parts-each Like k ps each =
      whole-each k (likes_joined k ps) (Each-likes_joined k (EachNode F) (numbers-kept k) ps each)
  at_parts-each Dominate k ps each = whole-each k (dominant k ps) (Each-dominant k (EachNode F) ps each)
  at_parts-each Few k ps each = simple-each k ps each

  -- each case keeps the property at a node
  at_node-each : (c : Case) (b : Bound) → EachNode F b → EachNode F (at_node c b)
  unfolding at_node
  at_node-each c (Constant n) each = each
  at_node-each c (Input i) each = each
  at_node-each c (SumOf ps) each = at_parts-each c AsSum (list_of ps) (Each-list_of F ps each.1)
  at_node-each c (ProductOf ps) each = at_parts-each c AsProd (list_of ps) (Each-list_of F ps each.1)
  at_node-each c (MaximumOf ps) each = at_parts-each c AsMax (list_of ps) (Each-list_of F ps each.1)
  at_node-each c (PowerOf n e) each = at_power-each c n e each

  -- all cases, one after the other, keep the property at a node
  at_node_all-each : (cs : List Case) (b : Bound) → EachNode F b → EachNode F (at_node_all cs b)
  at_node_all-each [] b each = each
  at_node_all-each (c ∷ cs) b each = at_node_all-each cs (at_node c b) (at_node-each c b each)

  -- passing through the parts keeps the property
  mutual
    unfolding parts_passed

    parts_passed-each : (cs : List Case) (b : Bound) → EachNode F b → EachNode F (parts_passed cs b)
    parts_passed-each cs (Constant n) each = each
    parts_passed-each cs (Input i) each = each
    parts_passed-each cs (SumOf ps) each = (of.sum (one_pass_each cs ps), one_pass_each-each cs ps each.1)
    parts_passed-each cs (ProductOf ps) each = (of.product (one_pass_each cs ps), one_pass_each-each cs ps each.1)
    parts_passed-each cs (MaximumOf ps) each = (of.maximum (one_pass_each cs ps), one_pass_each-each cs ps each.1)
    parts_passed-each cs (PowerOf n e) each =
        (of.power n e (one_pass cs e) each.0, at_node_all-each cs (parts_passed cs e) (parts_passed-each cs e each.1))

    one_pass_each-each : (cs : List Case) (ps : Parts) → EachNodeOfAll F ps → EachNodeOfAll F (one_pass_each cs ps)
    one_pass_each-each cs NoParts each = tt
    one_pass_each-each cs (Part p ps) each =
        (at_node_all-each cs (parts_passed cs p) (parts_passed-each cs p each.0), one_pass_each-each cs ps each.1)

  -- passes keep the property
  passes-each : (n : ℕ) (cs : List Case) (b : Bound) → EachNode F b → EachNode F (passes n cs b)
  unfolding passes
  passes-each zero cs b each = each
  passes-each (suc n) cs b each =
      passes-each n cs (one_pass cs b) (at_node_all-each cs (parts_passed cs b) (parts_passed-each cs b each))

  -- a rewritten bound has the property
  pub simplified-each : (cs : List Case) (b outcome : Bound) → outcome ≡ simplified cs b → EachNode F b
      → EachNode F outcome
  simplified-each cs b outcome is each = subst (EachNode F) (sym (is ∙ simplified-is cs b)) (passes-each 16 cs b each)

-- each case keeps bases of at least 1
pub at_node-based : (c : Case) (b : Bound) → IsBased b → IsBased (at_node c b)
at_node-based = at_node-each (IsBasedFrom 1) (bases-of_numbers 1) (λ c small. tt)

-- all cases, one after the other, keep bases of at least 1
pub at_node_all-based : (cs : List Case) (b : Bound) → IsBased b → IsBased (at_node_all cs b)
at_node_all-based = at_node_all-each (IsBasedFrom 1) (bases-of_numbers 1) (λ c small. tt)

-- a pass through the parts keeps bases of at least 1
pub parts_passed-based : (cs : List Case) (b : Bound) → IsBased b → IsBased (parts_passed cs b)
parts_passed-based = parts_passed-each (IsBasedFrom 1) (bases-of_numbers 1) (λ c small. tt)

-- a rewriting reads no more inputs
pub simplified-reads : (cs : List Case) (b outcome : Bound) → outcome ≡ simplified cs b → ReadsNoMore outcome b
simplified-reads cs b outcome is = record {
  each = λ n reads. simplified-each (IsInputBelow n) (inputs-of_numbers n) (λ c small. tt) cs b outcome is reads;
}

-- rewriting keeps the properties of bases and constants
pub simplified-numbers : (cs : List Case) (b outcome : Bound) → outcome ≡ simplified cs b → KeepsNumbers outcome b
simplified-numbers cs b outcome is = record {
  bases = λ n has. simplified-each (IsBasedFrom n) (bases-of_numbers n) (λ c small. tt) cs b outcome is has;
  constants = λ has. simplified-each IsSmallConstant constants-of_numbers (λ c small. small) cs b outcome is has;
  numbers = λ has. simplified-each IsTidyNumber tidy-of_numbers (λ c small. small) cs b outcome is has;
}
