-- A composed bound is unchanged over a table that has grown, if each bound that it reads was known.
use Rattle.std.proofs.Common.{◌≡◌, ℕ, zero, suc, ◌||◌, not, Bool, true, false, List, [], ◌∷◌, ◌++◌, ℤ, nat_abs, filter}
use Rattle.std.proofs.Common.{Option, Some, None, refl, sym, ◌∙◌, ap}
use Rattle.std.specs.List.{AllByRecursion, list_any}
use Rattle.std.proofs.lemmas.Bool.{or_left, or_right}
use Rattle.its_model.specs.int_laws.NormalForm.{is_zero}
use Rattle.model.specs.Bounds.{Bound, Constant, SumOf, ProductOf, MaximumOf, PowerOf, Parts, Part}
use Rattle.model.specs.Entries.{is_in}
use Rattle.model.specs.Paths.{pre}
use Rattle.model.specs.Polynomials.{Polynomial}
use Rattle.model.proofs.Membership.{is_in-filter}
use Rattle.its_model.specs.linear_forms.Forms.{at}
use Rattle.cert_types.specs.rule_forms.Bounds.{height}
use Rattle.cert_types.specs.cert_rules.Nodes.{SideBound, Linear, Poly, Member}
use Rattle.cert_types.specs.cert_rules.Known.{IsKnown, Table, known}
use Rattle.cert_types.specs.cert_rules.Numbers.{rounded_up}
use Rattle.cert_types.specs.cert_rules.Composed.{both_parts, parts_for, place_parts, no_place, sizes_after}
use Rattle.cert_types.specs.cert_rules.ComposedSizes.{monomial_parts, polynomial_bound, composed_side_bound, has_variable, reads}
use Rattle.cert_types.specs.cert_rules.ComposedSizes.{poly_at}
use Rattle.cert_types.specs.cert_rules.ComposedSizes.{spread_part, is_member, slope_of, offset_of, Flow, flow}
use Rattle.cert_types.specs.cert_rules.ComposedSizes.{flows_from}
use Rattle.cert_types.specs.cert_rules.ComposedSizes.{flows_into, flows, factor_of, addition_of, base_of, rules_of}
use Rattle.cert_types.specs.cert_rules.ComposedSizes.{multiplies}
use Rattle.cert_types.specs.cert_rules.ComposedSizes.{adds, growth_parts, addition_parts, loop_bound}
use Rattle.cert_types.specs.cert_rules.AcceptsSizes.{SideBoundHasSizes, HasSizesAfter, HasSizesBefore, IsStraightSideBound}
use Rattle.cert_types.specs.cert_rules.AcceptsSizes.{IsStraight}
use Rattle.cert_types.specs.cert_rules.AcceptsSizes.{spread_size, cycle_size}
use Rattle.cert_types.specs.cert_rules.Setting.{Setting}
use Rattle.cert_types.proofs.cert_rules.CheckLists.{each-in, in-each}
use Rattle.bound_fixpoint.specs.Keys.{Bounds, over, size_by}
use Rattle.time_bounds.specs.EarlierAnswers.{HasGrown}

-- all times and sizes that were known in the old table are known in the new one, with the same bounds
pub record TableHasGrown (old new : Table) : Type 0 where
  pub times : (t : ℕ) (b : Bound) → old.time t ≡ Some b → new.time t ≡ Some b
  pub sizes : (t i : ℕ) (b : Bound) → old.size t i ≡ Some b → new.size t i ≡ Some b

-- tables have grown if their bounds have
pub table_grown : (old new : Bounds) → HasGrown old new → TableHasGrown (over old) (over new)
table_grown old new h = record { times = λ t b e. h.each t 0 b e; sizes = sizes }
  where
    sizes : (t i : ℕ) (b : Bound) → size_by old t i ≡ Some b → size_by new t i ≡ Some b
    sizes t zero b e = absurd (let f : ⊥ = cc in f)
    sizes t (suc i) b e = h.each t (suc i) b e

-- the parts of places agree where the bounds of those agree that have a coefficient and aren't left out
place_parts-agree : (cs : List ℤ) (den : ℕ) (left_out : ℕ → Bool) (a b : ℕ → Bound)
    → ((j : ℕ) → not (is_zero (at cs j)) ≡ true → left_out j ≡ false → a j ≡ b j)
    → place_parts cs den left_out a ≡ place_parts cs den left_out b
place_parts-agree [] den left_out a b h = refl
place_parts-agree (c ∷ cs) den left_out a b h =
    go (is_zero c) (left_out 0) refl refl
    (place_parts-agree cs den (λ j. left_out (suc j)) (λ j. a (suc j)) (λ j. b (suc j)) (λ j r n. h (suc j) r n))
  where
    go : (v w : Bool) → is_zero c ≡ v → left_out 0 ≡ w
        → place_parts cs den (λ j. left_out (suc j)) (λ j. a (suc j)) ≡ place_parts cs den (λ j. left_out (suc j)) (λ j. b (suc j))
        → place_parts (c ∷ cs) den left_out a ≡ place_parts (c ∷ cs) den left_out b
    go true w e f ih = rw e ih
    go false true e f ih = rw (e, f) ih
    go false false e f ih =
        let here : a 0 ≡ b 0 = h 0 (ap not e) f in
        rw (e, f) (λ i. Part (ProductOf (both_parts (Constant (rounded_up (nat_abs c) den)) (here i))) (ih i))

-- the parts of numbers agree where those of each do
parts_for-agree : (a b : ℕ → Bound) (ns : List ℕ) → AllByRecursion (λ n. a n ≡ b n) ns → parts_for a ns ≡ parts_for b ns
parts_for-agree a b [] h = refl
parts_for-agree a b (n ∷ ns) h = λ i. Part (h.0 i) (parts_for-agree a b ns h.1 i)

-- a polynomial's bounds agree where those of its variables do
monomials-agree : (q : Polynomial) (a b : ℕ → Bound) → ((j : ℕ) → list_any (λ m. is_in j m.vars) q ≡ true → a j ≡ b j)
    → monomial_parts q a ≡ monomial_parts q b
monomials-agree [] a b h = refl
monomials-agree (m ∷ ms) a b h =
    let vars = parts_for-agree a b m.vars
    (in-each (λ n. a n ≡ b n) m.vars (λ j k. h j (or_left (is_in j m.vars) (list_any (λ n. is_in j n.vars) ms) k))) in
    let rest = monomials-agree ms a b (λ j k. h j (or_right (is_in j m.vars) (list_any (λ n. is_in j n.vars) ms) k)) in
    λ i. Part (ProductOf (Part (Constant (nat_abs m.coef)) (vars i))) (rest i)

polynomial-agrees : (o : Option Polynomial) (a b : ℕ → Bound) → ((j : ℕ) → has_variable o j ≡ true → a j ≡ b j)
    → polynomial_bound o a ≡ polynomial_bound o b
polynomial-agrees None a b h = refl
polynomial-agrees (Some q) a b h = ap SumOf (monomials-agree q a b h)

-- the bounds of a side bound agree if those of the places that it reads do
side_bound-agrees : (o : Option Polynomial) (side_bound : SideBound) (a b : ℕ → Bound) → ((j : ℕ) → reads o side_bound j ≡ true → a j ≡ b j)
    → composed_side_bound o side_bound a ≡ composed_side_bound o side_bound b
side_bound-agrees o (Linear den form multipliers) a b h =
    let places = place_parts-agree form.coefs den no_place a b (λ j r n. h j r) in
    λ i. SumOf (Part (Constant (rounded_up (height form.constant) den)) (places i))
side_bound-agrees o Poly a b h = polynomial-agrees o a b h

module _ (s : Setting) (old new : Table) (grown : TableHasGrown old new) where
  -- a known size, and a known time, is unchanged
  size-stays : (e j : ℕ) → IsKnown (old.size e (suc j)) → sizes_after old.size e j ≡ sizes_after new.size e j
  size-stays e j k = ap known (k.1 ∙ sym (grown.sizes e (suc j) k.0 k.1))

  time-stays : (t : ℕ) → IsKnown (old.time t) → known (old.time t) ≡ known (new.time t)
  time-stays t k = ap known (k.1 ∙ sym (grown.times t k.0 k.1))

  -- the size of a place that doesn't loop is unchanged
  pub spread-stays : (m : Member) → HasSizesBefore s old [] m → spread_size s old m ≡ spread_size s new m
  spread-stays m h =
      ap MaximumOf (parts_for-agree (spread_part s m old.size) (spread_part s m new.size) (pre s.program m.result_variable.rule)
      (in-each (λ e. spread_part s m old.size e ≡ spread_part s m new.size e) (pre s.program m.result_variable.rule)
      (λ e k. part e (h e k))))
    where
      part : (e : ℕ) → HasSizesAfter s old [] m e → spread_part s m old.size e ≡ spread_part s m new.size e
      part e k =
          let up = side_bound-agrees (poly_at s m.result_variable) m.local.up (sizes_after old.size e) (sizes_after new.size e)
          (λ j r. size-stays e j (k.up j r refl)) in
          let low = side_bound-agrees (poly_at s m.result_variable) m.local.low (sizes_after old.size e) (sizes_after new.size e)
          (λ j r. size-stays e j (k.low j r refl)) in
          λ i. MaximumOf (both_parts (up i) (low i))

  module _ (members : List Member) where
    -- neither side bound of a member is nonlinear after a rule
    abbrev pub AreStraight : Member → ℕ → Type 0
    AreStraight m e = IsStraightSideBound s members m e m.local.up × IsStraightSideBound s members m e m.local.low

    -- what a side bound adds, and what flows by it, is unchanged
    offset-stays : (m : Member) (side_bound : SideBound) (e : ℕ) → SideBoundHasSizes s old members m.result_variable side_bound e → IsStraightSideBound s members m e side_bound
        → offset_of (poly_at s m.result_variable) side_bound (is_member members e) (sizes_after old.size e)
        ≡ offset_of (poly_at s m.result_variable) side_bound (is_member members e) (sizes_after new.size e)
    offset-stays m (Linear den form multipliers) e h k =
        let places = place_parts-agree form.coefs den (is_member members e) (sizes_after old.size e) (sizes_after new.size e)
        (λ j r n. size-stays e j (h j r n)) in
        λ i. SumOf (Part (Constant (rounded_up (height form.constant) den)) (places i))
    offset-stays m Poly e h k =
        polynomial-agrees (poly_at s m.result_variable) (sizes_after old.size e) (sizes_after new.size e)
        (λ j r. size-stays e j (h j r (k j r)))

    flow-stays : (m : Member) (side_bound : SideBound) (e : ℕ) → SideBoundHasSizes s old members m.result_variable side_bound e → IsStraightSideBound s members m e side_bound
        → flow s members old.size m side_bound e ≡ flow s members new.size m side_bound e
    flow-stays m side_bound e h k =
        let offset = offset-stays m side_bound e h k in
        λ i. record { rule = m.result_variable.rule; slope = slope_of side_bound (is_member members e); offset = offset i }

    from-stays : (m : Member) (es : List ℕ) → AllByRecursion (HasSizesAfter s old members m) es → AllByRecursion (AreStraight m) es
        → flows_from s members old.size m es ≡ flows_from s members new.size m es
    from-stays m [] h k = refl
    from-stays m (e ∷ es) h k =
        let up = flow-stays m m.local.up e h.0.up k.0.0 in
        let low = flow-stays m m.local.low e h.0.low k.0.1 in
        let rest = from-stays m es h.1 k.1 in
        λ i. up i ∷ low i ∷ rest i

    -- what flows into members is unchanged
    pub into-stays : (ms : List Member) → AllByRecursion (HasSizesBefore s old members) ms → AllByRecursion (IsStraight s members) ms
        → flows_into s members old.size ms ≡ flows_into s members new.size ms
    into-stays [] h k = refl
    into-stays (m ∷ ms) h k =
        let es = pre s.program m.result_variable.rule in
        let here = from-stays m es (in-each (HasSizesAfter s old members m) es h.0)
        (in-each (AreStraight m) es (λ e l. (k.0.up e l, k.0.low e l))) in
        let rest = into-stays ms h.1 k.1 in
        λ i. here i ++ rest i

  -- a rule that multiplies or adds has a time
  abbrev HasItsTime : List Flow → ℕ → Type 0
  HasItsTime fs t = (multiplies fs t || adds s fs t) ≡ true → IsKnown (old.time t)

  growth-stays : (fs : List Flow) (ts : List ℕ) (last : Bound) → AllByRecursion (HasItsTime fs) ts
      → growth_parts fs old.time ts last ≡ growth_parts fs new.time ts last
  growth-stays fs [] last h = refl
  growth-stays fs (t ∷ ts) last h = go (multiplies fs t) refl (growth-stays fs ts last h.1)
    where
      go : (v : Bool) → multiplies fs t ≡ v → growth_parts fs old.time ts last ≡ growth_parts fs new.time ts last
          → growth_parts fs old.time (t ∷ ts) last ≡ growth_parts fs new.time (t ∷ ts) last
      go true e ih =
          let time = time-stays t (h.0 (or_left (multiplies fs t) (adds s fs t) e)) in
          rw e (λ i. Part (PowerOf (factor_of fs t) (time i)) (ih i))
      go false e ih = rw e ih

  additions-stay : (fs : List Flow) (ts : List ℕ) → AllByRecursion (HasItsTime fs) ts
      → addition_parts s fs old.time ts ≡ addition_parts s fs new.time ts
  additions-stay fs [] h = refl
  additions-stay fs (t ∷ ts) h = go (adds s fs t) refl (additions-stay fs ts h.1)
    where
      go : (v : Bool) → adds s fs t ≡ v → addition_parts s fs old.time ts ≡ addition_parts s fs new.time ts
          → addition_parts s fs old.time (t ∷ ts) ≡ addition_parts s fs new.time (t ∷ ts)
      go true e ih =
          let time = time-stays t (h.0 (or_right (multiplies fs t) (adds s fs t) e)) in
          rw e (λ i. Part (ProductOf (both_parts (time i) (addition_of fs t))) (ih i))
      go false e ih = rw e ih

  -- the size of the members of a loop is unchanged
  pub cycle-stays : (ms : List Member) → flows s ms old.size ≡ flows s ms new.size
      → AllByRecursion (λ t. IsKnown (old.time t))
      (filter (λ t. multiplies (flows s ms old.size) t || adds s (flows s ms old.size) t) (rules_of s ms))
      → cycle_size s old ms ≡ cycle_size s new ms
  cycle-stays ms same h =
      (λ i. loop_with (additions i)) ∙ (grown_with ∙ ap (λ (fs : List Flow). loop_bound s fs new.time (rules_of s ms)) same)
    where
      fs : List Flow
      fs = flows s ms old.size

      premises : ℕ → Bool
      premises t = multiplies fs t || adds s fs t

      timed : AllByRecursion (HasItsTime fs) (rules_of s ms)
      timed = in-each (HasItsTime fs) (rules_of s ms)
          (λ t i k. each-in (λ u. IsKnown (old.time u)) (filter premises (rules_of s ms)) h t (is_in-filter premises (rules_of s ms) t i k))

      additions : addition_parts s fs old.time (rules_of s ms) ≡ addition_parts s fs new.time (rules_of s ms)
      additions = additions-stay fs (rules_of s ms) timed

      loop_with : Parts → Bound
      loop_with parts = ProductOf (growth_parts fs old.time (rules_of s ms) (SumOf (Part (base_of fs) parts)))

      grown_with : loop_with (addition_parts s fs new.time (rules_of s ms)) ≡ loop_bound s fs new.time (rules_of s ms)
      grown_with = ap ProductOf (growth-stays fs (rules_of s ms) (SumOf (Part (base_of fs) (addition_parts s fs new.time (rules_of s ms)))) timed)
