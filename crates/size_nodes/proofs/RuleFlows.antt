-- The flows of a loop are ordered by rules, and the flows of one rule decide its growth.
use Rattle.std.proofs.Common.{◌≡◌, ℕ, zero, suc, ◌+◌, ◌≤◌, ◌==◌, ◌&&◌, not, max, Bool, true, false, cond, List, [], ◌∷◌, ◌++◌}
use Rattle.std.proofs.Common.{length, map, take, drop, get_or, Option, refl, sym, ap, subst, ◌∙◌, arith}
use Rattle.std.specs.Prelude.{⊤}
use Rattle.std.specs.List.{AllAdjacentBelow, AllWithin}
use Rattle.std.specs.List.Sorted.{IsNonDecreasingBy}
use Rattle.std.proofs.lemmas.Bool.Decides.{nat_tests}
use Rattle.std.proofs.lemmas.List.Sorted.{IsNonDecreasingBy-from_all_adjacent}
use Rattle.model.specs.Bounds as plain
use Rattle.model.specs.Bounds.{MaximumOf, Parts, Part}
use Rattle.bound_table.specs.InForce.{rewritten}
use Rattle.model.specs.Paths.{pre}
use Rattle.cert_types.specs.cert_rules.AcceptsSizes.{AreAscending}
use Rattle.cert_types.specs.cert_rules.ComposedSizes as flows
use Rattle.cert_types.specs.cert_rules.ComposedSizes.{factor_of, flows_from, flows_into, is_inner, offsets}
use Rattle.cert_types.specs.cert_rules.Known.{is_zero_bound}
use Rattle.cert_types.specs.cert_rules.Nodes.{Member}
use Rattle.cert_types.specs.cert_rules.Setting.{Setting}
use Rattle.size_nodes.specs.declared.flow.Flow.{Flow}
use Rattle.size_nodes.specs.Flows.{flow_of}
use Rattle.size_nodes.specs.Growths.{Growth, growth_by_flows}
use Rattle.size_nodes.proofs.MembersAfter.{no-greater}

-- flows that are ordered by rules, the first of which is at least t
abbrev ComeFrom : ℕ → List flows.Flow → Type 0
ComeFrom t [] = ⊤
ComeFrom t (f ∷ fs) = (t ≤ f.rule) × ComeFrom f.rule fs

-- flows of rules from t on are flows of rules from any lesser one on
come-weaker : (s t : ℕ) (fs : List flows.Flow) → s ≤ t → ComeFrom t fs → ComeFrom s fs
come-weaker s t [] l h = tt
come-weaker s t (f ∷ fs) l h = (omega (arith, l, h.0), h.1)

module _ (s : Setting) (members : List Member) (size : ℕ → ℕ → Option plain.Bound) where
  -- flows into a member can be put before flows that come from the member's rule or a later one
  come-block : (m : Member) (es : List ℕ) (rest : List flows.Flow) → ComeFrom m.result_variable.rule rest
      → ComeFrom m.result_variable.rule (flows_from s members size m es ++ rest)
  come-block m [] rest h = h
  come-block m (e ∷ es) rest h =
      let same : m.result_variable.rule ≤ m.result_variable.rule = omega arith in (same, (same, come-block m es rest h))

  -- the flows into ascending members come in the order of rules
  come-all : (t : ℕ) (m : Member) (ms : List Member) → t ≤ m.result_variable.rule → AreAscending (m ∷ ms)
      → ComeFrom t (flows_into s members size (m ∷ ms))
  come-all t m [] l h =
      come-weaker t m.result_variable.rule (flows_into s members size (m ∷ [])) l
      (come-block m (pre s.program m.result_variable.rule) [] tt)
  come-all t m (n ∷ ms) l h =
      come-weaker t m.result_variable.rule (flows_into s members size (m ∷ n ∷ ms)) l
      (come-block m (pre s.program m.result_variable.rule) (flows_into s members size (n ∷ ms))
      (come-all m.result_variable.rule n ms (no-greater m.result_variable n.result_variable h.0) h.1))

  come-flows : (ms : List Member) → AreAscending ms → ComeFrom 0 (flows_into s members size ms)
  come-flows [] h = tt
  come-flows (m ∷ ms) h = come-all 0 m ms (omega arith) h

-- flows of the code whose neighbours are ordered come in the order of rules
come-adjacent : (t : ℕ) (fs : List Flow) → ComeFrom t (map flow_of fs)
    → AllAdjacentBelow (λ (x y : Flow). x.rule ≤ y.rule) fs (length fs)
come-adjacent t [] h k d l = absurd (omega (arith, l))
come-adjacent t (f ∷ []) h k d l = absurd (omega (arith, l))
come-adjacent t (f ∷ g ∷ fs) h zero d l = h.1.0
come-adjacent t (f ∷ g ∷ fs) h (suc k) d l =
    subst (λ (i : ℕ). (get_or (g ∷ fs) k d).rule ≤ (get_or (f ∷ g ∷ fs) i d).rule)
    (let e : suc (k + 1) ≡ suc k + 1 = omega arith in e)
    (come-adjacent f.rule (g ∷ fs) h.1 k d (omega (arith, l)))

-- the flows of a loop are ordered by rules
pub flows-ascend : (s : Setting) (members : List Member) (size : ℕ → ℕ → Option plain.Bound) (fs : List Flow)
    → AreAscending members → map flow_of fs ≡ flows.flows s members size → IsNonDecreasingBy (λ f. f.rule) fs
flows-ascend s members size fs h e =
    IsNonDecreasingBy-from_all_adjacent (λ f. f.rule) fs
    (come-adjacent 0 fs (subst (ComeFrom 0) (sym e) (come-flows s members size members h)))

-- a flow of another rule counts neither for the factor nor for the addition of a rule
module _ (t : ℕ) where
  other : (a : ℕ) → ¬ (a ≡ t) → (a == t) ≡ false
  other a n = go (a == t) refl
    where
      go : (w : Bool) → (a == t) ≡ w → w ≡ false
      go true e = absurd (n (grind (arith, nat_tests)))
      go false e = refl

  abbrev IsOther : Flow → Type 0
  IsOther f = ¬ (f.rule ≡ t)

  factor-other : (f : Flow) (fs : List flows.Flow) → IsOther f → factor_of fs t ≡ factor_of (flow_of f ∷ fs) t
  factor-other f fs n =
      ap (λ (v : Bool). cond v (max f.slope (factor_of fs t)) (factor_of fs t)) (sym (other f.rule n))

  offsets-other : (f : Flow) (fs : List flows.Flow) → IsOther f
      → offsets (is_inner t) fs ≡ offsets (is_inner t) (flow_of f ∷ fs)
  offsets-other f fs n =
      ap (λ (v : Bool). cond (v && not (f.slope == 0)) (Part (flow_of f).offset (offsets (is_inner t) fs)) (offsets (is_inner t) fs))
      (sym (other f.rule n))

  -- a function of flows that ignores a flow of another rule at the front
  module _ {A : Type 0} (read : List flows.Flow → A)
      (passed : (f : Flow) (fs : List flows.Flow) → IsOther f → read fs ≡ read (flow_of f ∷ fs))
      (kept : (f : Flow) (xs ys : List flows.Flow) → read xs ≡ read ys → read (flow_of f ∷ xs) ≡ read (flow_of f ∷ ys)) where
    -- such a function ignores the flows of other rules before a position
    read-drop : (fs : List Flow) (i : ℕ) → AllWithin IsOther fs 0 i → read (map flow_of (drop i fs)) ≡ read (map flow_of fs)
    read-drop [] zero h = refl
    read-drop [] (suc i) h = refl
    read-drop (f ∷ fs) zero h = refl
    read-drop (f ∷ fs) (suc i) h =
        read-drop fs i (λ k d l m. h (suc k) d (omega arith) (omega (arith, m)))
        ∙ passed f (map flow_of fs) (h zero f (omega arith) (omega arith))

    read-none : (fs : List Flow) → AllWithin IsOther fs 0 (length fs) → read [] ≡ read (map flow_of fs)
    read-none [] h = refl
    read-none (f ∷ fs) h =
        read-none fs (λ k d l m. h (suc k) d (omega arith) (omega (arith, m)))
        ∙ passed f (map flow_of fs) (h zero f (omega arith) (omega arith))

    -- such a function ignores the flows of other rules from a position on
    read-take : (fs : List Flow) (i : ℕ) → AllWithin IsOther fs i (length fs) → read (map flow_of (take i fs)) ≡ read (map flow_of fs)
    read-take [] zero h = refl
    read-take [] (suc i) h = refl
    read-take (f ∷ fs) zero h = read-none (f ∷ fs) h
    read-take (f ∷ fs) (suc i) h =
        kept f (map flow_of (take i fs)) (map flow_of fs)
        (read-take fs i (λ k d l m. h (suc k) d (omega (arith, l)) (omega (arith, m))))

  factor-kept : (f : Flow) (xs ys : List flows.Flow) → factor_of xs t ≡ factor_of ys t
      → factor_of (flow_of f ∷ xs) t ≡ factor_of (flow_of f ∷ ys) t
  factor-kept f xs ys e = ap (λ (n : ℕ). cond (f.rule == t) (max f.slope n) n) e

  offsets-kept : (f : Flow) (xs ys : List flows.Flow) → offsets (is_inner t) xs ≡ offsets (is_inner t) ys
      → offsets (is_inner t) (flow_of f ∷ xs) ≡ offsets (is_inner t) (flow_of f ∷ ys)
  offsets-kept f xs ys e =
      ap (λ (ps : Parts). cond (is_inner t (flow_of f)) (Part (flow_of f).offset ps) ps) e

  -- the growth by a rule, from its factor and the offsets of its flows
  abbrev made : ℕ → Parts → Growth
  made n ps = record {
    rule = t;
    factor = n;
    addition = MaximumOf ps;
    adds = not (is_zero_bound (rewritten (MaximumOf ps)));
  }

  same-growth : (xs ys : List flows.Flow) → factor_of xs t ≡ factor_of ys t
      → offsets (is_inner t) xs ≡ offsets (is_inner t) ys → growth_by_flows xs t ≡ growth_by_flows ys t
  same-growth xs ys e f = λ i. made (e i) (f i)

  -- flows of other rules before a position, or from one on, don't change the growth by the rule
  pub growth-drop : (fs : List Flow) (i : ℕ) → AllWithin IsOther fs 0 i
      → growth_by_flows (map flow_of (drop i fs)) t ≡ growth_by_flows (map flow_of fs) t
  growth-drop fs i h =
      same-growth (map flow_of (drop i fs)) (map flow_of fs)
      (read-drop (λ gs. factor_of gs t) factor-other factor-kept fs i h)
      (read-drop (offsets (is_inner t)) offsets-other offsets-kept fs i h)

  pub growth-take : (fs : List Flow) (i : ℕ) → AllWithin IsOther fs i (length fs)
      → growth_by_flows (map flow_of (take i fs)) t ≡ growth_by_flows (map flow_of fs) t
  growth-take fs i h =
      same-growth (map flow_of (take i fs)) (map flow_of fs)
      (read-take (λ gs. factor_of gs t) factor-other factor-kept fs i h)
      (read-take (offsets (is_inner t)) offsets-other offsets-kept fs i h)
