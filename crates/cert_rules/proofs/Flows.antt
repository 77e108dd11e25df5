-- The flows of a loop: each value is within the base, or within its rule's factor and addition.
use Rattle.std.proofs.Common.{◌≡◌, ◌⊎◌, inl, inr, ℕ, suc, ◌+◌, ◌*◌, ◌≤◌, ◌==◌, ◌&&◌, not, max, Bool, true, false, List}
use Rattle.std.proofs.Common.{[], ◌∷◌, ◌++◌, Option, refl, sym, ap, ◌∙◌, subst, arith, All, mul-le-mul}
use Rattle.std.specs.List.{list_any}
use Rattle.std.proofs.lemmas.Bool.{and_from, and_parts, or_left, or_right, not_from_false}
use Rattle.std.proofs.lemmas.List.Elements.{All-head, All-tail}
use Rattle.run_counting.specs.model.Bounds.{Bound, val, val_maximum}
use Rattle.cert_rules.specs.Nodes.{Member}
use Rattle.run_counting.specs.model.Entries.{is_in}
use Rattle.run_counting.specs.model.Paths.{pre}
use Rattle.cert_rules.specs.Setting.{Setting}
use Rattle.cert_rules.specs.ComposedSizes.{is_member, Flow, flow, flows_from, flows_into, is_outer, is_inner, offsets}
use Rattle.cert_rules.specs.ComposedSizes.{base_of, addition_of, factor_of}
use Rattle.run_counting.proofs.model.Membership.{is_in-cases, same_number, same_number-sound, no_is_not_yes}

-- the element is in the list
abbrev pub IsAmong : {X : Type 0} → X → List X → Type 0
IsAmong x [] = ⊥
IsAmong x (y ∷ ys) = (x ≡ y) ⊎ IsAmong x ys

-- if all elements have a property, each element in the list has it
pub all-among : {X : Type 0} (P : X → Type 0) (xs : List X) (x : X) → All P xs → IsAmong x xs → P x
all-among P [] x h k = absurd k
all-among P (y ∷ ys) x h (inl e) = subst P (sym e) (All-head P y ys h)
all-among P (y ∷ ys) x h (inr k) = all-among P ys x (All-tail P y ys h) k

-- an element of a list is an element of the list with another appended
among-left : {X : Type 0} (xs ys : List X) (x : X) → IsAmong x xs → IsAmong x (xs ++ ys)
among-left [] ys x h = absurd h
among-left (y ∷ xs) ys x (inl e) = inl e
among-left (y ∷ xs) ys x (inr k) = inr (among-left xs ys x k)

among-right : {X : Type 0} (xs ys : List X) (x : X) → IsAmong x ys → IsAmong x (xs ++ ys)
among-right [] ys x h = h
among-right (y ∷ xs) ys x h = inr (among-right xs ys x h)

-- a place that the test finds among the members after rule t is the place of a member
pub found_member : (members : List Member) (t j : ℕ) → is_member members t j ≡ true
    → (m : Member) × IsAmong m members × (m.result_variable.rule ≡ t) × (m.result_variable.place ≡ suc j)
found_member [] t j h = absurd (no_is_not_yes false refl h)
found_member (m ∷ ms) t j h = go ((m.result_variable.rule == t) && (m.result_variable.place == suc j)) refl (λ k. found_member ms t j k)
  where
    go : (v : Bool) → ((m.result_variable.rule == t) && (m.result_variable.place == suc j)) ≡ v
        → (is_member ms t j ≡ true → (n : Member) × IsAmong n ms × (n.result_variable.rule ≡ t) × (n.result_variable.place ≡ suc j))
        → (n : Member) × IsAmong n (m ∷ ms) × (n.result_variable.rule ≡ t) × (n.result_variable.place ≡ suc j)
    go true e ih = let parts =
        and_parts (m.result_variable.rule == t) (m.result_variable.place == suc j) e in
        (m, inl refl, same_number-sound m.result_variable.rule t parts.0, same_number-sound m.result_variable.place (suc j) parts.1)
    go false e ih = let n = ih (rw e at h) in (n.0, inr n.1, n.2, n.3)

-- the test `is_member` finds the place of each member
pub member-complete : (members : List Member) (m : Member) (j : ℕ) → IsAmong m members → m.result_variable.place ≡ suc j
    → is_member members m.result_variable.rule j ≡ true
member-complete [] m j h e = absurd h
member-complete (n ∷ ns) m j (inl same) e =
    or_left ((n.result_variable.rule == m.result_variable.rule) && (n.result_variable.place == suc j)) (is_member ns m.result_variable.rule j)
    (subst (λ (x : Member). ((x.result_variable.rule == m.result_variable.rule) && (x.result_variable.place == suc j)) ≡ true) same
    (and_from (m.result_variable.rule == m.result_variable.rule) (m.result_variable.place == suc j) (same_number m.result_variable.rule)
    (subst (λ (i : ℕ). (i == suc j) ≡ true) (sym e) (same_number (suc j)))))
member-complete (n ∷ ns) m j (inr k) e =
    or_right ((n.result_variable.rule == m.result_variable.rule) && (n.result_variable.place == suc j)) (is_member ns m.result_variable.rule j)
    (member-complete ns m j k e)

-- the rule of a member is one of the members' rules
pub rule-complete : (members : List Member) (m : Member) → IsAmong m members
    → list_any (λ (n : Member). n.result_variable.rule == m.result_variable.rule) members ≡ true
rule-complete [] m h = absurd h
rule-complete (n ∷ ns) m (inl same) =
    or_left (n.result_variable.rule == m.result_variable.rule) (list_any (λ (o : Member). o.result_variable.rule == m.result_variable.rule) ns)
    (subst (λ (x : Member). (x.result_variable.rule == m.result_variable.rule) ≡ true) same (same_number m.result_variable.rule))
rule-complete (n ∷ ns) m (inr k) =
    or_right (n.result_variable.rule == m.result_variable.rule) (list_any (λ (o : Member). o.result_variable.rule == m.result_variable.rule) ns) (rule-complete ns m k)

module _ (s : Setting) (members : List Member) (size : ℕ → ℕ → Option Bound) where
  -- both flows into a member from a listed rule are listed
  flows_from-among : (m : Member) (es : List ℕ) (e : ℕ) → is_in e es ≡ true
      → IsAmong (flow s members size m m.local.up e) (flows_from s members size m es) × IsAmong
      (flow s members size m m.local.low e) (flows_from s members size m es)
  flows_from-among m [] e h = absurd (no_is_not_yes false refl h)
  flows_from-among m (x ∷ es) e h = go (is_in-cases e x es h) (λ k. flows_from-among m es e k)
    where
      go : (e ≡ x) ⊎ (is_in e es ≡ true)
          → (is_in e es ≡ true → IsAmong (flow s members size m m.local.up e)
          (flows_from s members size m es) × IsAmong (flow s members size m m.local.low e)
          (flows_from s members size m es))
          → IsAmong (flow s members size m m.local.up e) (flows_from s members size m (x ∷ es)) × IsAmong
          (flow s members size m m.local.low e) (flows_from s members size m (x ∷ es))
      go (inl same) ih = (
        inl (ap (λ (n : ℕ). flow s members size m m.local.up n) same),
        inr
            (inl (ap (λ (n : ℕ). flow s members size m m.local.low n) same)),
      )
      go (inr k) ih = let both = ih k in (inr (inr both.0), inr (inr both.1))

  -- the flows into a member are among all flows
  pub flows_into-among : (ms : List Member) (m : Member) (e : ℕ) → IsAmong m ms
      → is_in e (pre s.program m.result_variable.rule) ≡ true
      → IsAmong (flow s members size m m.local.up e) (flows_into s members size ms) × IsAmong
      (flow s members size m m.local.low e) (flows_into s members size ms)
  flows_into-among [] m e h k = absurd h
  flows_into-among (n ∷ ns) m e (inl same) k =
      let both = flows_from-among m (pre s.program m.result_variable.rule) e k in
      let here : List Flow = flows_from s members size m (pre s.program m.result_variable.rule) in (
        subst (λ (x : Member). IsAmong (flow s members size m m.local.up e)
            (flows_from s members size x (pre s.program x.result_variable.rule) ++ flows_into s members size ns)) same
            (among-left here (flows_into s members size ns) (flow s members size m m.local.up e) both.0),
        subst (λ (x : Member). IsAmong (flow s members size m m.local.low e)
            (flows_from s members size x (pre s.program x.result_variable.rule) ++ flows_into s members size ns)) same
            (among-left here (flows_into s members size ns) (flow s members size m m.local.low e) both.1),
      )
  flows_into-among (n ∷ ns) m e (inr j) k =
      let both = flows_into-among ns m e j k in
      let here : List Flow = flows_from s members size n (pre s.program n.result_variable.rule) in (
        among-right here (flows_into s members size ns) (flow s members size m m.local.up e) both.0,
        among-right here
            (flows_into s members size ns) (flow s members size m m.local.low e) both.1,
      )

-- an offset that passes a test is at most the maximum of the offsets that pass it
offset-at_most : (test : Flow → Bool) (fs : List Flow) (f : Flow) (m : List ℕ) → IsAmong f fs → test f ≡ true
    → val f.offset m ≤ val_maximum (offsets test fs) m
offset-at_most test [] f m h k = absurd h
offset-at_most test (g ∷ fs) f m (inl e) k =
    rw (ap test (sym e) ∙ k) (omega (arith, ap (λ (x : Flow). val x.offset m) e))
offset-at_most test (g ∷ fs) f m (inr j) k = go (test g) refl (offset-at_most test fs f m j k)
  where
    go : (v : Bool) → test g ≡ v → val f.offset m ≤ val_maximum (offsets test fs) m
        → val f.offset m ≤ val_maximum (offsets test (g ∷ fs)) m
    go true e ih = rw e (omega (arith, ih))
    go false e ih = rw e ih

-- a factor is at least 1
pub factor-least : (fs : List Flow) (t : ℕ) → 1 ≤ factor_of fs t
factor-least [] t = omega arith
factor-least (f ∷ fs) t = go (f.rule == t) refl (factor-least fs t)
  where
    go : (v : Bool) → (f.rule == t) ≡ v → 1 ≤ factor_of fs t → 1 ≤ factor_of (f ∷ fs) t
    go true e ih = rw e (omega (arith, ih))
    go false e ih = rw e ih

-- a slope is at most the factor of its rule
slope-at_most : (fs : List Flow) (f : Flow) → IsAmong f fs → f.slope ≤ factor_of fs f.rule
slope-at_most [] f h = absurd h
slope-at_most (g ∷ fs) f (inl e) =
    rw (subst (λ (x : Flow). (x.rule == f.rule) ≡ true) e (same_number f.rule))
    (omega (arith, ap (λ (x : Flow). x.slope) e))
slope-at_most (g ∷ fs) f (inr k) = go (g.rule == f.rule) refl (slope-at_most fs f k)
  where
    go : (v : Bool) → (g.rule == f.rule) ≡ v → f.slope ≤ factor_of fs f.rule → f.slope ≤ factor_of (g ∷ fs) f.rule
    go true e ih = rw e (omega (arith, ih))
    go false e ih = rw e ih

-- a flow is within the base, or within its rule's factor times g, plus its rule's addition
pub flow-covered : (fs : List Flow) (f : Flow) (m : List ℕ) (g : ℕ) → IsAmong f fs
    → f.slope * g + val f.offset m ≤ max (val (base_of fs) m) (factor_of fs f.rule * g + val (addition_of fs f.rule) m)
flow-covered fs f m g h = go (is_outer f) refl
  where
    go : (v : Bool) → is_outer f ≡ v
        → f.slope * g + val f.offset m ≤ max (val (base_of fs) m)
        (factor_of fs f.rule * g + val (addition_of fs f.rule) m)
    go true e =
        let none : f.slope * g ≡ 0 * g = ap (λ (n : ℕ). n * g) (same_number-sound f.slope 0 e) in
        omega (arith, none, offset-at_most is_outer fs f m h e)
    go false e =
        let inner : is_inner f.rule f ≡ true =
        and_from (f.rule == f.rule) (not (is_outer f)) (same_number f.rule) (not_from_false (is_outer f) e) in
        let slope : f.slope * g ≤ factor_of fs f.rule * g = mul-le-mul (slope-at_most fs f h) (omega arith) in
        omega (arith, slope, offset-at_most (is_inner f.rule) fs f m h inner)
