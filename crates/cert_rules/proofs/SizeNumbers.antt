-- Properties of the numbers of known bounds carry over to the sizes that are composed of them.
use Rattle.std.proofs.Common.{◌≡◌, ℕ, zero, suc, ◌<◌, ◌≤◌, Bool, true, false, cond, List, [], ◌∷◌}
use Rattle.std.proofs.Common.{Option, Some, None, refl, arith, All}
use Rattle.std.specs.Prelude.{nat_abs}
use Rattle.std.specs.List.{AllByRecursion}
use Rattle.std.proofs.lemmas.Bool.{ltb-true}
use Rattle.std.proofs.lemmas.List.Elements.{recursion_from_All}
use Rattle.run_counting.specs.model.Polynomials.{Monomial, Polynomial}
use Rattle.run_counting.specs.model.Bounds.{Bound, Constant, SumOf, ProductOf, MaximumOf, PowerOf, Parts, Part, EachNode}
use Rattle.run_counting.specs.model.Bounds.{EachNodeOfAll}
use Rattle.run_counting.specs.model.Paths.{pre}
use Rattle.bound_expr.specs.Limits.{constant_limit}
use Rattle.cert_rules.specs.Nodes.{ResultVariable, SideBound, Linear, Poly, Member}
use Rattle.cert_rules.specs.Known.{known}
use Rattle.cert_rules.specs.Setting.{Setting, costs_of}
use Rattle.cert_rules.specs.Composed.{sizes_after}
use Rattle.cert_rules.specs.ComposedSizes.{monomial_bound, monomial_parts, polynomial_bound, composed_side_bound}
use Rattle.cert_rules.specs.ComposedSizes.{poly_at}
use Rattle.cert_rules.specs.ComposedSizes.{spread_part, spread_of, is_member, offset_of, Flow, flows_from}
use Rattle.cert_rules.specs.ComposedSizes.{flows_into, flows, offsets, is_outer, is_inner}
use Rattle.cert_rules.specs.ComposedSizes.{factor_of, rules_of, multiplies, adds, growth_parts}
use Rattle.cert_rules.specs.ComposedSizes.{addition_parts}
use Rattle.cert_rules.specs.ComposedSizes.{loop_bound, cycle_of}
use Rattle.cert_rules.specs.AcceptsSizes.{HasSideBoundShape, HasMemberShape, left_of}
use Rattle.cert_rules.specs.AcceptsCosts.{cost_of}
use Rattle.cert_rules.specs.Printable.{HasSmallCoefficients}
use Rattle.cert_rules.proofs.CheckLists.{each-append}
use Rattle.cert_rules.proofs.ComposedNumbers.{known-each, parts_for-each, rest_bound-each, form_bound-each}

-- laws for a property of the nodes of a bound that small constants, sums, products, maxima, and powers to a base of at
-- least 2 have
module _ (F : Bound → Type 0) (constant : (c : ℕ) → c ≤ constant_limit → F (Constant c))
    (sum : (bs : Parts) → F (SumOf bs)) (product : (bs : Parts) → F (ProductOf bs)) where
  -- a monomial as a bound has the property if the sizes have
  monomial-each : (m : Monomial) (sizes : ℕ → Bound) → nat_abs m.coef ≤ constant_limit
      → ((j : ℕ) → EachNode F (sizes j)) → EachNode F (monomial_bound sizes m)
  monomial-each m sizes low h = (
    product _,
    (constant (nat_abs m.coef) low, parts_for-each F constant sum product sizes h m.vars),
  )

  monomials-each : (q : Polynomial) (sizes : ℕ → Bound) → HasSmallCoefficients q
      → ((j : ℕ) → EachNode F (sizes j)) → EachNodeOfAll F (monomial_parts q sizes)
  monomials-each [] sizes low h = tt
  monomials-each (m ∷ q) sizes low h = (monomial-each m sizes low.0 h, monomials-each q sizes low.1 h)

  module _ (o : Option Polynomial) (few : (q : Polynomial) → o ≡ Some q → HasSmallCoefficients q) where
    polynomial-each : (sizes : ℕ → Bound) → ((j : ℕ) → EachNode F (sizes j)) → EachNode F (polynomial_bound o sizes)
    polynomial-each sizes h = go o few
      where
        go : (p : Option Polynomial) → ((q : Polynomial) → p ≡ Some q → HasSmallCoefficients q)
            → EachNode F (polynomial_bound p sizes)
        go None low = constant 0 (omega arith)
        go (Some q) low = (sum _, monomials-each q sizes (low q refl) h)

    -- a side bound as a bound has the property if the sizes have
    pub side_bound-each : (s : Setting) (t left : ℕ) (side_bound : SideBound) (sizes : ℕ → Bound) → HasSideBoundShape s t left side_bound
        → ((j : ℕ) → EachNode F (sizes j)) → EachNode F (composed_side_bound o side_bound sizes)
    side_bound-each s t left (Linear den form multipliers) sizes shape h =
        form_bound-each F constant sum product form den sizes shape.limit shape.den_limit h
    side_bound-each s t left Poly sizes shape h = polynomial-each sizes h

    -- the offset of a side bound has the property if the sizes have
    pub offset-each : (s : Setting) (t left : ℕ) (side_bound : SideBound) (inside : ℕ → Bool) (sizes : ℕ → Bound)
        → HasSideBoundShape s t left side_bound → ((j : ℕ) → EachNode F (sizes j)) → EachNode F (offset_of o side_bound inside sizes)
    offset-each s t left (Linear den form multipliers) inside sizes shape h =
        rest_bound-each F constant sum product form den inside sizes shape.limit shape.den_limit h
    offset-each s t left Poly inside sizes shape h = polynomial-each sizes h

-- laws for such a property, and a setting whose updates have small coefficients
module _ (F : Bound → Type 0) (constant : (c : ℕ) → c ≤ constant_limit → F (Constant c))
    (sum : (bs : Parts) → F (SumOf bs)) (product : (bs : Parts) → F (ProductOf bs))
    (maximum : (bs : Parts) → F (MaximumOf bs)) (power : (c : ℕ) (e : Bound) → 2 ≤ c → F (PowerOf c e)) (s : Setting)
    (few : (t i : ℕ) (q : Polynomial) → s.poly t i ≡ Some q → HasSmallCoefficients q) where
  result_variable-few : (m : ResultVariable) (q : Polynomial) → poly_at s m ≡ Some q → HasSmallCoefficients q
  result_variable-few m q e = by m.place e
    where
      by : (i : ℕ) → poly_at s (record { rule = m.rule; place = i }) ≡ Some q → HasSmallCoefficients q
      by zero k = absurd (none k)
        where
          none : None ≡ Some q → ⊥
          none x = cc
      by (suc i) k = few m.rule i q k

  -- the side bound of a result variable, as a bound, has the property
  at_result_variable-each : (m : ResultVariable) (side_bound : SideBound) (sizes : ℕ → Bound) → HasSideBoundShape s m.rule (left_of s.program m.rule) side_bound
      → ((j : ℕ) → EachNode F (sizes j)) → EachNode F (composed_side_bound (poly_at s m) side_bound sizes)
  at_result_variable-each m side_bound sizes shape h =
      side_bound-each F constant sum product (poly_at s m) (result_variable-few m) s m.rule (left_of s.program m.rule) side_bound sizes shape h

  -- the offset of the side bound of a result variable has the property
  adds-each : (m : ResultVariable) (side_bound : SideBound) (inside : ℕ → Bool) (sizes : ℕ → Bound)
      → HasSideBoundShape s m.rule (left_of s.program m.rule) side_bound → ((j : ℕ) → EachNode F (sizes j))
      → EachNode F (offset_of (poly_at s m) side_bound inside sizes)
  adds-each m side_bound inside sizes shape h =
      offset-each F constant sum product (poly_at s m) (result_variable-few m) s m.rule (left_of s.program m.rule) side_bound inside sizes
      shape h

  module _ (time : ℕ → Option Bound) (size : ℕ → ℕ → Option Bound)
      (times : (t : ℕ) (b : Bound) → time t ≡ Some b → EachNode F b)
      (sizes : (t i : ℕ) (b : Bound) → size t i ≡ Some b → EachNode F b) where
    time-each : (t : ℕ) → EachNode F (known (time t))
    time-each t = known-each F constant sum product (time t) (times t)

    after-each : (e j : ℕ) → EachNode F (sizes_after size e j)
    after-each e j = known-each F constant sum product (size e (suc j)) (sizes e (suc j))

    -- the size of a place that doesn't loop has the property
    pub spread-each : (m : Member) → HasMemberShape s m → EachNode F (spread_of s m size)
    spread-each m shape =
        (maximum _, parts_for-each F constant sum product (spread_part s m size) part (pre s.program m.result_variable.rule))
      where
        part : (e : ℕ) → EachNode F (spread_part s m size e)
        part e = (
          maximum _,
          (
            at_result_variable-each m.result_variable m.local.up (sizes_after size e) shape.up (after-each e),
            (at_result_variable-each m.result_variable m.local.low (sizes_after size e) shape.low (after-each e), tt),
          ),
        )

    -- the cost of all steps by a rule has the property
    pub cost-each : (t : ℕ) (side_bound : SideBound) → ((q : Polynomial) → s.cost_poly t ≡ Some q → HasSmallCoefficients q)
        → HasSideBoundShape (costs_of s) t (left_of s.program t) side_bound → EachNode F (cost_of s t side_bound time size)
    cost-each t side_bound few_costs shape = (
      product _,
      (
        time-each t,
        (
          (
            maximum _,
            parts_for-each F constant sum product (λ e. composed_side_bound (s.cost_poly t) side_bound (sizes_after size e))
                (λ e.
                side_bound-each F constant sum product (s.cost_poly t) few_costs (costs_of s) t (left_of s.program t) side_bound
                (sizes_after size e) shape (after-each e)) (pre s.program t),
          ),
          tt,
        ),
      ),
    )

    -- the offset of this flow has the property
    abbrev HasOffset : Flow → Type 0
    HasOffset f = EachNode F f.offset

    module _ (members : List Member) where
      from-each : (m : Member) → HasMemberShape s m → (es : List ℕ)
          → AllByRecursion HasOffset (flows_from s members size m es)
      from-each m shape [] = tt
      from-each m shape (e ∷ es) = (
        adds-each m.result_variable m.local.up (is_member members e) (sizes_after size e) shape.up (after-each e),
        (
          adds-each m.result_variable m.local.low (is_member members e) (sizes_after size e) shape.low (after-each e),
          from-each m shape es,
        ),
      )

      into-each : (ms : List Member) → AllByRecursion (HasMemberShape s) ms
          → AllByRecursion HasOffset (flows_into s members size ms)
      into-each [] shapes = tt
      into-each (m ∷ ms) shapes =
          each-append HasOffset (flows_from s members size m (pre s.program m.result_variable.rule)) (flows_into s members size ms)
          (from-each m shapes.0 (pre s.program m.result_variable.rule)) (into-each ms shapes.1)

    offsets-each : (test : Flow → Bool) (fs : List Flow) → AllByRecursion HasOffset fs
        → EachNodeOfAll F (offsets test fs)
    offsets-each test [] h = tt
    offsets-each test (f ∷ fs) h = go (test f) (offsets-each test fs h.1)
      where
        go : (v : Bool) → EachNodeOfAll F (offsets test fs)
            → EachNodeOfAll F (cond v (Part f.offset (offsets test fs)) (offsets test fs))
        go true rest = (h.0, rest)
        go false rest = rest

    -- laws for flows whose offsets have the property
    module _ (fs : List Flow) (each : AllByRecursion HasOffset fs) where
      growth-each : (ts : List ℕ) (last : Bound) → EachNode F last → EachNodeOfAll F (growth_parts fs time ts last)
      growth-each [] last h = (h, tt)
      growth-each (t ∷ ts) last h = go (multiplies fs t) refl (growth-each ts last h)
        where
          go : (v : Bool) → multiplies fs t ≡ v → EachNodeOfAll F (growth_parts fs time ts last)
              → EachNodeOfAll F (growth_parts fs time (t ∷ ts) last)
          go true e rest =
              let base : 1 < factor_of fs t = ltb-true 1 (factor_of fs t) e in
              rw e ((power (factor_of fs t) (known (time t)) (omega (arith, base)), time-each t), rest)
          go false e rest = rw e rest

      additions-each : (ts : List ℕ) → EachNodeOfAll F (addition_parts s fs time ts)
      additions-each [] = tt
      additions-each (t ∷ ts) = go (adds s fs t) refl (additions-each ts)
        where
          go : (v : Bool) → adds s fs t ≡ v → EachNodeOfAll F (addition_parts s fs time ts)
              → EachNodeOfAll F (addition_parts s fs time (t ∷ ts))
          go true e rest =
              rw e ((product _, (time-each t, ((maximum _, offsets-each (is_inner t) fs each), tt))), rest)
          go false e rest = rw e rest

      loop-each : (ts : List ℕ) → EachNode F (loop_bound s fs time ts)
      loop-each ts = (
        product _,
        growth-each ts _ (sum _, ((maximum _, offsets-each is_outer fs each), additions-each ts)),
      )

    pub cycle-each : (members : List Member) → All (HasMemberShape s) members → EachNode F (cycle_of s members time size)
    cycle-each members shapes =
        loop-each (flows s members size)
        (into-each members members (recursion_from_All (HasMemberShape s) members shapes)) (rules_of s members)
