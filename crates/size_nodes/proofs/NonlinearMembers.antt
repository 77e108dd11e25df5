-- The checks that no polynomial side bound reads a member, and the first member of which one does.
use Rattle.std.proofs.Common.{◌≡◌, inl, inr, ℕ, ◌+◌, ◌<◌, ◌||◌, cond, length, map, get_or, drop, Bool, true, false}
use Rattle.std.proofs.Common.{List, [], ◌∷◌, Option, Some, None, refl, sym, ap, ◌∙◌, subst}
use Rattle.std.specs.List.{list_any}
use Rattle.std.proofs.lemmas.Bool.{or_left, or_right, or_parts as neither}
use Rattle.std.proofs.lemmas.List.{drop_more}
use Rattle.model.specs.Entries.{is_in}
use Rattle.model.specs.Paths.{pre}
use Rattle.model.specs.Polynomials.{Polynomial}
use Rattle.model.proofs.Membership.{no_is_not_yes, list_any-from, list_any-sound}
use Rattle.cert_types.specs.cert_rules.Nodes.{ResultVariable, SideBound, Linear, Poly, Member}
use Rattle.cert_types.specs.cert_rules.ComposedSizes.{poly_at, has_variable, is_member}
use Rattle.cert_types.specs.cert_rules.AcceptsSizes.{IsStraightSideBound}
use Rattle.cert_types.specs.cert_rules.Reasons.{Reason, Nonlinear, Check, AllPass, IsFirstAmong}
use Rattle.cert_types.specs.cert_rules.Checks.{straight_from, straight_into}
use Rattle.cert_types.specs.cert_rules.Setting.{Setting}
use Rattle.cert_types.specs.declared.side_bound.Member as code
use Rattle.cert_types.specs.Views.{member_of, result_variable_of}
use Rattle.size_nodes.specs.NonlinearSideBounds.{is_nonlinear_side_bound, is_nonlinear_over, is_nonlinear_by, first_nonlinear}

-- if the second test fails, the first one decides
pub other-decides : (u v w : Bool) → v ≡ false → u ≡ w → u ≡ (v || w)
other-decides u true w h e = absurd (no_is_not_yes true h refl)
other-decides u false w h e = e

-- if none of the monomials reads a member, no variable of a member occurs in them
none-reads : (members : List Member) (e : ℕ) (q : Polynomial)
    → list_any (λ m. list_any (is_member members e) m.vars) q ≡ false → (j : ℕ)
    → list_any (λ m. is_in j m.vars) q ≡ true → is_member members e j ≡ false
none-reads members e [] h j k = absurd (no_is_not_yes false refl k)
none-reads members e (m ∷ q) h j k =
    go (is_in j m.vars) refl k (neither (list_any (is_member members e) m.vars) _ h) (none-reads members e q)
  where
    go : (v : Bool) → is_in j m.vars ≡ v → (v || list_any (λ n. is_in j n.vars) q) ≡ true
        → (list_any (is_member members e) m.vars ≡ false)
        × (list_any (λ n. list_any (is_member members e) n.vars) q ≡ false)
        → (list_any (λ n. list_any (is_member members e) n.vars) q ≡ false → (i : ℕ)
        → list_any (λ n. is_in i n.vars) q ≡ true → is_member members e i ≡ false)
        → is_member members e j ≡ false
    go true f l none later = by (is_member members e j) refl
      where
        by : (v : Bool) → is_member members e j ≡ v → is_member members e j ≡ false
        by true d = absurd (no_is_not_yes _ none.0 (list_any-from (is_member members e) m.vars j f d))
        by false d = d
    go false f l none later = later none.1 j l

-- if one of the monomials reads a member, a variable of these monomials is a member
one-reads : (members : List Member) (e : ℕ) (q : Polynomial)
    → list_any (λ m. list_any (is_member members e) m.vars) q ≡ true
    → (j : ℕ) × (list_any (λ m. is_in j m.vars) q ≡ true) × (is_member members e j ≡ true)
one-reads members e [] h = absurd (no_is_not_yes false refl h)
one-reads members e (m ∷ q) h = go (list_any (is_member members e) m.vars) refl h (one-reads members e q)
  where
    go : (v : Bool) → list_any (is_member members e) m.vars ≡ v
        → (v || list_any (λ n. list_any (is_member members e) n.vars) q) ≡ true
        → (list_any (λ n. list_any (is_member members e) n.vars) q ≡ true
        → (j : ℕ) × (list_any (λ n. is_in j n.vars) q ≡ true) × (is_member members e j ≡ true))
        → (j : ℕ) × (list_any (λ n. is_in j n.vars) (m ∷ q) ≡ true) × (is_member members e j ≡ true)
    go true f l later =
        let (j, is_here, inside) = list_any-sound (is_member members e) m.vars f in
        (j, or_left (is_in j m.vars) (list_any (λ n. is_in j n.vars) q) is_here, inside)
    go false f l later =
        let (j, is_there, inside) = later l in
        (j, or_right (is_in j m.vars) (list_any (λ n. is_in j n.vars) q) is_there, inside)

-- two lists of members that have the same places after a rule agree on whether a side bound is nonlinear
pub same-nonlinear : (o : Option Polynomial) (xs ys : List Member) (side_bound : SideBound) (e : ℕ) → is_member xs e ≡ is_member ys e
    → is_nonlinear_side_bound o xs side_bound e ≡ is_nonlinear_side_bound o ys side_bound e
same-nonlinear o xs ys (Linear den form multipliers) e h = refl
same-nonlinear None xs ys Poly e h = refl
same-nonlinear (Some q) xs ys Poly e h = λ i. list_any (λ m. list_any (h i) m.vars) q

module _ (s : Setting) (members : List Member) where
  -- a side bound is straight exactly if it isn't nonlinear
  straight-side_bound : (o : Option Polynomial) (m : Member) (side_bound : SideBound) (e : ℕ) → poly_at s m.result_variable ≡ o
      → is_nonlinear_side_bound o members side_bound e ≡ false → IsStraightSideBound s members m e side_bound
  straight-side_bound o m (Linear den form multipliers) e d h = tt
  straight-side_bound None m Poly e d h =
      λ j r. absurd (no_is_not_yes false refl (subst (λ (q : Option Polynomial). has_variable q j ≡ true) d r))
  straight-side_bound (Some q) m Poly e d h =
      λ j r. none-reads members e q h j (subst (λ (q : Option Polynomial). has_variable q j ≡ true) d r)

  nonlinear-side_bound : (o : Option Polynomial) (m : Member) (side_bound : SideBound) (e : ℕ) → poly_at s m.result_variable ≡ o
      → is_nonlinear_side_bound o members side_bound e ≡ true → ¬ (IsStraightSideBound s members m e side_bound)
  nonlinear-side_bound o m (Linear den form multipliers) e d h k = no_is_not_yes false refl h
  nonlinear-side_bound None m Poly e d h k = no_is_not_yes false refl h
  nonlinear-side_bound (Some q) m Poly e d h k =
      let (j, is_there, inside) = one-reads members e q h in
      no_is_not_yes (is_member members e j)
      (k j (subst (λ (q : Option Polynomial). has_variable q j ≡ true) (sym d) is_there)) inside

  module _ (m : Member) (rest : List Check) where
    -- the test of both side bounds after these rules
    abbrev is_nonlinear : List ℕ → Bool
    is_nonlinear es = is_nonlinear_over (poly_at s m.result_variable) members m.local es

    abbrev side_bound_nonlinear : SideBound → ℕ → Bool
    side_bound_nonlinear side_bound e = is_nonlinear_side_bound (poly_at s m.result_variable) members side_bound e

    -- if the test fails, the checks pass
    pub from-first : (es : List ℕ) → is_nonlinear es ≡ false → (r : Reason) → IsFirstAmong rest r
        → IsFirstAmong (straight_from s members m es rest) r
    from-first [] h r k = k
    from-first (e ∷ es) h r k =
        let both = neither (side_bound_nonlinear m.local.up e || side_bound_nonlinear m.local.low e) (is_nonlinear es) h in
        let side_bounds = neither (side_bound_nonlinear m.local.up e) (side_bound_nonlinear m.local.low e) both.0 in
        inr (
          straight-side_bound (poly_at s m.result_variable) m m.local.up e refl side_bounds.0,
          inr (straight-side_bound (poly_at s m.result_variable) m m.local.low e refl side_bounds.1, from-first es both.1 r k),
        )

    pub from-passes : (es : List ℕ) → is_nonlinear es ≡ false → AllPass rest → AllPass (straight_from s members m es rest)
    from-passes [] h k = k
    from-passes (e ∷ es) h k =
        let both = neither (side_bound_nonlinear m.local.up e || side_bound_nonlinear m.local.low e) (is_nonlinear es) h in
        let side_bounds = neither (side_bound_nonlinear m.local.up e) (side_bound_nonlinear m.local.low e) both.0 in (
          straight-side_bound (poly_at s m.result_variable) m m.local.up e refl side_bounds.0,
          (straight-side_bound (poly_at s m.result_variable) m m.local.low e refl side_bounds.1, from-passes es both.1 k),
        )

    -- if the test is true, the first check that fails is of this member
    pub from-nonlinear : (es : List ℕ) → is_nonlinear es ≡ true
        → IsFirstAmong (straight_from s members m es rest) (Nonlinear m.result_variable.rule m.result_variable.place)
    from-nonlinear [] h = absurd (no_is_not_yes false refl h)
    from-nonlinear (e ∷ es) h = go (side_bound_nonlinear m.local.up e) refl (side_bound_nonlinear m.local.low e) refl h (from-nonlinear es)
      where
        go : (v : Bool) → side_bound_nonlinear m.local.up e ≡ v → (w : Bool) → side_bound_nonlinear m.local.low e ≡ w
            → ((v || w) || is_nonlinear es) ≡ true
            → (is_nonlinear es ≡ true → IsFirstAmong (straight_from s members m es rest) (Nonlinear m.result_variable.rule m.result_variable.place))
            → IsFirstAmong (straight_from s members m (e ∷ es) rest) (Nonlinear m.result_variable.rule m.result_variable.place)
        go true a w b l later = inl (nonlinear-side_bound (poly_at s m.result_variable) m m.local.up e refl a, refl)
        go false a true b l later = inr (
          straight-side_bound (poly_at s m.result_variable) m m.local.up e refl a,
          inl (nonlinear-side_bound (poly_at s m.result_variable) m m.local.low e refl b, refl),
        )
        go false a false b l later = inr (
          straight-side_bound (poly_at s m.result_variable) m m.local.up e refl a,
          inr (straight-side_bound (poly_at s m.result_variable) m m.local.low e refl b, later l),
        )

  module _ (rest : List Check) where
    -- if no member is nonlinear, the checks pass
    pub straight-first : (ms : List Member) → first_nonlinear s members ms ≡ None → (r : Reason) → IsFirstAmong rest r
        → IsFirstAmong (straight_into s members ms rest) r
    straight-first [] h r k = k
    straight-first (m ∷ ms) h r k = go (is_nonlinear_by s members m) refl h (straight-first ms)
      where
        go : (v : Bool) → is_nonlinear_by s members m ≡ v → first_nonlinear s members (m ∷ ms) ≡ None
            → (first_nonlinear s members ms ≡ None → (r : Reason) → IsFirstAmong rest r
            → IsFirstAmong (straight_into s members ms rest) r)
            → IsFirstAmong (straight_into s members (m ∷ ms) rest) r
        go true e l later = absurd (some-none m.result_variable (rw e at l))
          where
            some-none : (x : ResultVariable) → Some x ≡ None → ⊥
            some-none x d = cc
        go false e l later = from-first m (straight_into s members ms rest) (pre s.program m.result_variable.rule) e r (later (rw e at l) r k)

    pub straight-passes : (ms : List Member) → first_nonlinear s members ms ≡ None → AllPass rest
        → AllPass (straight_into s members ms rest)
    straight-passes [] h k = k
    straight-passes (m ∷ ms) h k = go (is_nonlinear_by s members m) refl h (straight-passes ms)
      where
        go : (v : Bool) → is_nonlinear_by s members m ≡ v → first_nonlinear s members (m ∷ ms) ≡ None
            → (first_nonlinear s members ms ≡ None → AllPass rest → AllPass (straight_into s members ms rest))
            → AllPass (straight_into s members (m ∷ ms) rest)
        go true e l later = absurd (some-none m.result_variable (rw e at l))
          where
            some-none : (x : ResultVariable) → Some x ≡ None → ⊥
            some-none x d = cc
        go false e l later = from-passes m (straight_into s members ms rest) (pre s.program m.result_variable.rule) e (later (rw e at l) k)

    -- the first nonlinear member is that of the first check that fails
    pub nonlinear-first : (ms : List Member) (result_variable : ResultVariable) → first_nonlinear s members ms ≡ Some result_variable
        → IsFirstAmong (straight_into s members ms rest) (Nonlinear result_variable.rule result_variable.place)
    nonlinear-first [] result_variable h = absurd (none-some result_variable h)
      where
        none-some : (x : ResultVariable) → None ≡ Some x → ⊥
        none-some x d = cc
    nonlinear-first (m ∷ ms) result_variable h = go (is_nonlinear_by s members m) refl h (nonlinear-first ms result_variable)
      where
        go : (v : Bool) → is_nonlinear_by s members m ≡ v → first_nonlinear s members (m ∷ ms) ≡ Some result_variable
            → (first_nonlinear s members ms ≡ Some result_variable
            → IsFirstAmong (straight_into s members ms rest) (Nonlinear result_variable.rule result_variable.place))
            → IsFirstAmong (straight_into s members (m ∷ ms) rest) (Nonlinear result_variable.rule result_variable.place)
        go true e l later =
            subst (λ (x : ResultVariable). IsFirstAmong (straight_into s members (m ∷ ms) rest) (Nonlinear x.rule x.place))
            (same m.result_variable result_variable (rw e at l))
            (from-nonlinear m (straight_into s members ms rest) (pre s.program m.result_variable.rule) e)
          where
            same : (x y : ResultVariable) → Some x ≡ Some y → x ≡ y
            same x y d = cc
        go false e l later =
            from-first m (straight_into s members ms rest) (pre s.program m.result_variable.rule) e (Nonlinear result_variable.rule result_variable.place)
            (later (rw e at l))

  -- the first nonlinear member among the remaining ones, by whether the first of them is nonlinear
  module _ (ms : List code.Member) (i : ℕ) (m : code.Member) (low : i < length ms) (e : m ≡ get_or ms i m) where
    left : first_nonlinear s members (map member_of (drop i ms))
        ≡ cond (is_nonlinear_by s members (member_of m)) (Some (result_variable_of m.result_variable))
        (first_nonlinear s members (map member_of (drop (i + 1) ms)))
    left = ap (λ (ns : List code.Member). first_nonlinear s members (map member_of ns)) (drop_more ms i m low)
        ∙ ap (λ (n : code.Member). first_nonlinear s members (map member_of (n ∷ drop (i + 1) ms))) (sym e)

    pub nonlinear-here : is_nonlinear_by s members (member_of m) ≡ true
        → first_nonlinear s members (map member_of (drop i ms)) ≡ first_nonlinear s members (map member_of ms)
        → Some (result_variable_of m.result_variable) ≡ first_nonlinear s members (map member_of ms)
    nonlinear-here h kept =
        sym (ap (λ (v : Bool). cond v (Some (result_variable_of m.result_variable)) (first_nonlinear s members (map member_of (drop (i + 1) ms)))) h)
        ∙ (sym left ∙ kept)

    pub nonlinear-later : is_nonlinear_by s members (member_of m) ≡ false
        → first_nonlinear s members (map member_of (drop i ms)) ≡ first_nonlinear s members (map member_of ms)
        → first_nonlinear s members (map member_of (drop (i + 1) ms)) ≡ first_nonlinear s members (map member_of ms)
    nonlinear-later h kept =
        sym (ap (λ (v : Bool). cond v (Some (result_variable_of m.result_variable)) (first_nonlinear s members (map member_of (drop (i + 1) ms)))) h)
        ∙ (sym left ∙ kept)
