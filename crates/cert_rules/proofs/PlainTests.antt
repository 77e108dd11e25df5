-- The tests of nodes without an arithmetic certificate decide acceptance.
use Rattle.std.proofs.Common.{◌≡◌, ℕ, zero, suc, ◌&&◌, Bool, List, [], ◌∷◌, length, Option, Some, None, refl, is_some}
use Rattle.std.specs.Bool.{Decides}
use Rattle.std.proofs.lemmas.Bool.Decides.{Decides-ltb, Decides-and, Decides-like}
use Rattle.run_counting.specs.model.Programs.{Program, Rule, rule_at, arity_of}
use Rattle.run_counting.specs.model.Bounds.{Bound, Constant, Input, SumOf, ProductOf, MaximumOf, PowerOf, Parts}
use Rattle.run_counting.specs.model.Bounds.{NoParts, Part}
use Rattle.run_counting.specs.model.Bounds.{EachNode, EachNodeOfAll}
use Rattle.run_counting.specs.model.Facts.{Fact, Time, Size, Cost}
use Rattle.bound_expr.specs.Limits.{constant_limit}
use Rattle.bound_expr.specs.Numbers.{IsInputBelow, IsTidyNumber}
use Rattle.cert_rules.specs.Setting.{Setting}
use Rattle.cert_rules.specs.AcceptsPlain.{IsRule, AcceptsCite, HasEmptyShape, IsOneTime, IsZeroTime}
use Rattle.cert_rules.specs.AcceptsPlain.{HasWeakenShape}
use Rattle.cert_rules.specs.AcceptsPlain.{IsWeaker}
use Rattle.cert_rules.specs.PlainTests.{is_rule, is_earlier, is_one_time, is_zero_time, each_node, each_node_of_all}
use Rattle.cert_rules.specs.PlainTests.{is_input_below, is_tidy_number, has_weaken_shape, is_weaker}
use Rattle.cert_rules.specs.NumberTests.{are_multipliers}
use Rattle.cert_rules.proofs.NumberTests.{decides-yes, decides-no, decides-le, decides-multipliers}

-- the test whether a number is that of a rule is right
pub decides-rule : (p : Program) (t : ℕ) → Decides (is_rule p t) (IsRule p t)
decides-rule p t = go (rule_at p t) refl
  where
    go : (o : Option Rule) → rule_at p t ≡ o → Decides (is_some o) (IsRule p t)
    go (Some r) e = decides-yes (record { rule = r; numbered = e })
    go None e = decides-no (λ h. no h.rule (rw e at h.numbered))
      where
        no : (r : Rule) → None ≡ Some r → ⊥
        no r k = cc

-- whether a lemma that is cited is an earlier one is decided
pub decides-earlier : (past : List (List Fact)) (n : ℕ) → Decides (is_earlier past n) (AcceptsCite past n)
decides-earlier past n =
    Decides-like (is_earlier past n) (λ h. record { least = h.0; earlier = h.1 }) (λ h. (h.least, h.earlier))
    (Decides-and _ _ (decides-le 1 n) (decides-le n (length past)))

-- whether an empty node has a rule, and a multiplier for each of its rows, is decided
pub decides-empty_shape : (s : Setting) (t : ℕ) (ms : List ℕ)
    → Decides (is_rule s.program t && are_multipliers s t ms) (HasEmptyShape s t ms)
decides-empty_shape s t ms =
    Decides-like _ (λ h. record { rule = h.0; one_each = h.1 }) (λ h. (h.rule, h.one_each))
    (Decides-and _ _ (decides-rule s.program t) (decides-multipliers s t ms))

-- the test whether there is exactly one fact, a time, is right
pub decides-one_time : (facts : List Fact) → Decides (is_one_time facts) (IsOneTime facts)
decides-one_time [] = decides-no (λ h. h)
decides-one_time (Size t i b ∷ facts) = decides-no (λ h. h)
decides-one_time (Cost t b ∷ facts) = decides-no (λ h. h)
decides-one_time (Time zero b ∷ facts) = decides-no (λ h. h)
decides-one_time (Time (suc t) b ∷ []) = decides-yes tt
decides-one_time (Time (suc t) b ∷ f ∷ facts) = decides-no (λ h. h)

-- whether the first fact is a time that is 0 is decided
pub decides-zero_time : (facts : List Fact) → Decides (is_zero_time facts) (IsZeroTime facts)
decides-zero_time [] = decides-no (λ h. h)
decides-zero_time (Size t i b ∷ facts) = decides-no (λ h. h)
decides-zero_time (Cost t b ∷ facts) = decides-no (λ h. h)
decides-zero_time (Time t b ∷ facts) = ((λ e. e), (λ e. e))

-- laws for a test of bounds: applied at each node, it decides whether each node has the property
module _ (p : Bound → Bool) (P : Bound → Type 0) (each : (b : Bound) → Decides (p b) (P b)) where
  mutual
    decides-nodes : (b : Bound) → Decides (each_node p b) (EachNode P b)
    decides-nodes (Constant c) = each (Constant c)
    decides-nodes (Input i) = each (Input i)
    decides-nodes (SumOf bs) = Decides-and (p (SumOf bs)) (each_node_of_all p bs) (each (SumOf bs)) (decides-parts bs)
    decides-nodes (ProductOf bs) =
        Decides-and (p (ProductOf bs)) (each_node_of_all p bs) (each (ProductOf bs)) (decides-parts bs)
    decides-nodes (MaximumOf bs) =
        Decides-and (p (MaximumOf bs)) (each_node_of_all p bs) (each (MaximumOf bs)) (decides-parts bs)
    decides-nodes (PowerOf c e) =
        Decides-and (p (PowerOf c e)) (each_node p e) (each (PowerOf c e)) (decides-nodes e)

    decides-parts : (bs : Parts) → Decides (each_node_of_all p bs) (EachNodeOfAll P bs)
    decides-parts NoParts = decides-yes tt
    decides-parts (Part b bs) =
        Decides-and (each_node p b) (each_node_of_all p bs) (decides-nodes b) (decides-parts bs)

decides-input : (n : ℕ) (b : Bound) → Decides (is_input_below n b) (IsInputBelow n b)
decides-input n (Input i) = Decides-ltb i n
decides-input n (Constant c) = decides-yes tt
decides-input n (SumOf bs) = decides-yes tt
decides-input n (ProductOf bs) = decides-yes tt
decides-input n (MaximumOf bs) = decides-yes tt
decides-input n (PowerOf c e) = decides-yes tt

decides-tidy : (b : Bound) → Decides (is_tidy_number b) (IsTidyNumber b)
decides-tidy (Constant c) = decides-le c constant_limit
decides-tidy (PowerOf c e) = decides-le 2 c
decides-tidy (Input i) = decides-yes tt
decides-tidy (SumOf bs) = decides-yes tt
decides-tidy (ProductOf bs) = decides-yes tt
decides-tidy (MaximumOf bs) = decides-yes tt

-- whether a bound may be written as a weaker one, by its inputs and numbers, is decided
pub decides-weaken_shape : (p : Program) (b : Bound) → Decides (has_weaken_shape p b) (HasWeakenShape p b)
decides-weaken_shape p b =
    Decides-like (has_weaken_shape p b) (λ h. record { inputs = h.0; numbers = h.1 }) (λ h. (h.inputs, h.numbers))
    (Decides-and _ _
    (decides-nodes (is_input_below (arity_of p p.start)) (IsInputBelow (arity_of p p.start))
    (decides-input (arity_of p p.start)) b)
    (decides-nodes is_tidy_number IsTidyNumber decides-tidy b))

-- whether the only fact of a child is below a bound is decided
pub decides-weaker : (s : Setting) (facts : List Fact) (b : Bound) → Decides (is_weaker s facts b) (IsWeaker s facts b)
decides-weaker s [] b = decides-no (λ h. h)
decides-weaker s (Time t a ∷ []) b = ((λ e. e), (λ e. e))
decides-weaker s (Size t i a ∷ []) b = ((λ e. e), (λ e. e))
decides-weaker s (Cost t a ∷ []) b = ((λ e. e), (λ e. e))
decides-weaker s (Time t a ∷ f ∷ facts) b = decides-no (λ h. h)
decides-weaker s (Size t i a ∷ f ∷ facts) b = decides-no (λ h. h)
decides-weaker s (Cost t a ∷ f ∷ facts) b = decides-no (λ h. h)
