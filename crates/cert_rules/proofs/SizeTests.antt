-- The tests of spreads and loops decide acceptance.
use Rattle.std.proofs.Common.{◌≡◌, ℕ, ◌≤◌, ◌==◌, ◌&&◌, ◌||◌, not, Bool, true, false, List, [], ◌∷◌, length, Option}
use Rattle.std.proofs.Common.{Some, None, refl, sym, subst, nat_le, nat_lt}
use Rattle.std.specs.Bool.{Decides}
use Rattle.std.specs.List.{list_all}
use Rattle.std.proofs.lemmas.Bool.{or_left, or_right}
use Rattle.std.proofs.lemmas.Bool.Decides.{Decides-eqb, Decides-ltb, Decides-and, Decides-or, Decides-like}
use Rattle.run_counting.specs.model.Programs.{Program, Rule, rule_at, arity_of}
use Rattle.run_counting.specs.model.Paths.{pre}
use Rattle.run_counting.specs.model.Polynomials.{Monomial, Polynomial}
use Rattle.run_counting.specs.model.Entries.{is_in}
use Rattle.run_counting.proofs.model.Membership.{no_is_not_yes}
use Rattle.cert_rules.specs.Nodes.{ResultVariable, SideBound, Linear, Poly, Member}
use Rattle.cert_rules.specs.Known.{Table}
use Rattle.cert_rules.specs.Setting.{Setting}
use Rattle.cert_rules.specs.ComposedSizes.{poly_at, has_variable, is_member}
use Rattle.cert_rules.specs.AcceptsSizes.{IsResultVariable, HasSideBoundShape, left_of, HasMemberShape, Side, Up, Low}
use Rattle.cert_rules.specs.AcceptsSizes.{ReadsLeft}
use Rattle.cert_rules.specs.AcceptsSizes.{AcceptsSideBound, IsPolynomialUpdate, ComesBefore, AreAscending}
use Rattle.cert_rules.specs.AcceptsSizes.{HasCycleShape}
use Rattle.cert_rules.specs.AcceptsSizes.{IsStraightSideBound, spread_size, cycle_size}
use Rattle.cert_rules.specs.Reasons.{Check}
use Rattle.cert_rules.specs.Checks.{check_up, check_low, needed_into, needed_times, straight_from}
use Rattle.cert_rules.specs.Checks.{straight_into}
use Rattle.cert_rules.specs.Checks.{spread_checks, cycle_checks}
use Rattle.cert_rules.specs.Tests.{Test}
use Rattle.cert_rules.specs.SizeTests.{is_place_after, has_side_bound_shape, has_member_shape, is_over_left, accepts_side_bound}
use Rattle.cert_rules.specs.SizeTests.{test_up, test_low, is_before, are_ascending, has_cycle_shape, avoids}
use Rattle.cert_rules.specs.SizeTests.{is_straight, straight_after, all_straight, spread_tests, cycle_tests}
use Rattle.cert_rules.proofs.TestLists.{AllDecide, each-decides}
use Rattle.cert_rules.proofs.NumberTests.{decides-yes, decides-no, decides-le, decides-not, decides-all}
use Rattle.cert_rules.proofs.NumberTests.{decides-each, decides-limit, decides-form, decides-multipliers}
use Rattle.cert_rules.proofs.NumberTests.{decides-implies}
use Rattle.cert_rules.proofs.RankTests.{small-last, times-decide, sizes-decide}

-- the test whether this is a place after a rule is right
decides-result_variable : (p : Program) (result_variable : ResultVariable)
    → Decides (is_place_after p (rule_at p result_variable.rule) result_variable.place) (IsResultVariable p result_variable)
decides-result_variable p result_variable = go (rule_at p result_variable.rule) refl
  where
    go : (o : Option Rule) → rule_at p result_variable.rule ≡ o → Decides (is_place_after p o result_variable.place) (IsResultVariable p result_variable)
    go None e = decides-no (λ h. no h.rule (rw e at h.numbered))
      where
        no : (r : Rule) → None ≡ Some r → ⊥
        no r k = cc
    go (Some r) e =
        Decides-like (nat_le 1 result_variable.place && nat_le result_variable.place (arity_of p r.target))
        (λ h. record { rule = r; numbered = e; least = h.0; most = h.1 })
        (λ h. (
          h.least,
          subst (λ (q : Rule). result_variable.place ≤ arity_of p q.target) (same h.rule (rw e at h.numbered)) h.most,
        ))
        (Decides-and _ _ (decides-le 1 result_variable.place) (decides-le result_variable.place (arity_of p r.target)))
      where
        same : (q : Rule) → Some r ≡ Some q → q ≡ r
        same q k = sym (back k)
          where
            back : Some r ≡ Some q → r ≡ q
            back l = cc

-- whether a side bound has its shape is decided
pub decides-side_bound_shape : (s : Setting) (t left : ℕ) (side_bound : SideBound) → Decides (has_side_bound_shape s t left side_bound) (HasSideBoundShape s t left side_bound)
decides-side_bound_shape s t left Poly = decides-yes tt
decides-side_bound_shape s t left (Linear den form ms) =
    Decides-like (has_side_bound_shape s t left (Linear den form ms))
    (λ h. record { over = h.0.0.0.0; den_limit = h.0.0.0.1; long = h.0.0.1; limit = h.0.1; one_each = h.1 })
    (λ h. ((((h.over, h.den_limit), h.long), h.limit), h.one_each))
    (Decides-and _ _
    (Decides-and _ _
    (Decides-and _ _ (Decides-and _ _ (decides-le 1 den) (decides-limit den)) (Decides-eqb (length form.coefs) left))
    (decides-form form))
    (decides-multipliers s t ms))

-- whether a member has its shape is decided
pub decides-member_shape : (s : Setting) (m : Member) → Decides (has_member_shape s m) (HasMemberShape s m)
decides-member_shape s m =
    Decides-like (has_member_shape s m)
    (λ h. record { at = h.0.0; up = h.0.1; low = h.1 })
    (λ h. ((h.at, h.up), h.low))
    (Decides-and _ _
    (Decides-and _ _ (decides-result_variable s.program m.result_variable)
    (decides-side_bound_shape s m.result_variable.rule (left_of s.program m.result_variable.rule) m.local.up))
    (decides-side_bound_shape s m.result_variable.rule (left_of s.program m.result_variable.rule) m.local.low))

-- whether an update is a polynomial over left variables alone is decided
pub decides-polynomial : (s : Setting) (result_variable : ResultVariable)
    → Decides (is_over_left (left_of s.program result_variable.rule) (poly_at s result_variable)) (IsPolynomialUpdate s result_variable)
decides-polynomial s result_variable = go (poly_at s result_variable) refl
  where
    go : (o : Option Polynomial) → poly_at s result_variable ≡ o
        → Decides (is_over_left (left_of s.program result_variable.rule) o) (IsPolynomialUpdate s result_variable)
    go None e = decides-no (λ h. no h.polynomial (rw e at h.nonlinear))
      where
        no : (q : Polynomial) → None ≡ Some q → ⊥
        no q k = cc
    go (Some q) e =
        Decides-like (is_over_left (left_of s.program result_variable.rule) (Some q))
        (λ h. record { polynomial = q; nonlinear = e; left_alone = h })
        (λ h. subst (ReadsLeft (left_of s.program result_variable.rule)) (same h.polynomial (rw e at h.nonlinear)) h.left_alone)
        (decides-all _ _ (λ m. decides-all _ _ (λ v. Decides-ltb v (left_of s.program result_variable.rule)) m.vars) q)
      where
        same : (x : Polynomial) → Some q ≡ Some x → x ≡ q
        same x k = sym (back k)
          where
            back : Some q ≡ Some x → q ≡ x
            back l = cc

-- whether a side bound is accepted is decided
pub decides-side_bound : (s : Setting) (result_variable : ResultVariable) (side : Side) (side_bound : SideBound)
    → Decides (accepts_side_bound s result_variable side side_bound) (AcceptsSideBound s result_variable side side_bound)
decides-side_bound s result_variable side (Linear den form ms) = decides-implies _ ms _
decides-side_bound s result_variable side Poly = decides-polynomial s result_variable

-- the test whether one result variable comes before another is right
decides-before : (a b : ResultVariable) → Decides (is_before a b) (ComesBefore a b)
decides-before a b =
    Decides-or (nat_lt a.rule b.rule) _ (Decides-ltb a.rule b.rule)
    (Decides-and (a.rule == b.rule) _ (Decides-eqb a.rule b.rule) (Decides-ltb a.place b.place))

decides-members : (ms : List Member) → Decides (are_ascending ms) (AreAscending ms)
decides-members [] = decides-yes tt
decides-members (m ∷ []) = decides-yes tt
decides-members (m ∷ n ∷ rest) =
    Decides-and (is_before m.result_variable n.result_variable) _ (decides-before m.result_variable n.result_variable) (decides-members (n ∷ rest))

-- whether the members of a loop have their shape is decided
pub decides-cycle_shape : (s : Setting) (ms : List Member) → Decides (has_cycle_shape s ms) (HasCycleShape s ms)
decides-cycle_shape s ms =
    Decides-like (has_cycle_shape s ms)
    (λ h. record { some = h.0.0; ascending = h.0.1; each = h.1 })
    (λ h. ((h.some, h.ascending), h.each))
    (Decides-and _ _
    (Decides-and _ _ (decides-le 1 (length ms)) (decides-members ms))
    (decides-all (has_member_shape s) (HasMemberShape s) (decides-member_shape s) ms))

-- laws for the test whether no variable of a polynomial is a member
module _ (members : List Member) (e : ℕ) where
  abbrev Avoids : Option Polynomial → Type 0
  Avoids o = (j : ℕ) → has_variable o j ≡ true → is_member members e j ≡ false

  abbrev has_no_member : Monomial → Bool
  has_no_member m = list_all (λ j. not (is_member members e j)) m.vars

  decides-variables : (vars : List ℕ)
      → Decides (list_all (λ j. not (is_member members e j)) vars)
      ((j : ℕ) → is_in j vars ≡ true → is_member members e j ≡ false)
  decides-variables vars =
      decides-each (λ j. not (is_member members e j)) (λ j. is_member members e j ≡ false)
      (λ j. decides-not (is_member members e j)) vars

  decides-monomials : (q : Polynomial) → Decides (list_all has_no_member q) (Avoids (Some q))
  decides-monomials [] = decides-yes (λ j h. absurd (no_is_not_yes false refl h))
  decides-monomials (m ∷ q) =
      Decides-like (has_no_member m && list_all has_no_member q)
      (λ h j k. go h.0 h.1 j (is_in j m.vars) refl k)
      (λ h. (
        (λ j k. h j (or_left (is_in j m.vars) (has_variable (Some q) j) k)),
        (λ j k. h j (or_right (is_in j m.vars) (has_variable (Some q) j) k)),
      ))
      (Decides-and (has_no_member m) (list_all has_no_member q) (decides-variables m.vars) (decides-monomials q))
    where
      go : ((j : ℕ) → is_in j m.vars ≡ true → is_member members e j ≡ false) → Avoids (Some q) → (j : ℕ) (v : Bool)
          → is_in j m.vars ≡ v → (v || has_variable (Some q) j) ≡ true → is_member members e j ≡ false
      go first rest j true i k = first j i
      go first rest j false i k = rest j k

  decides-avoids : (o : Option Polynomial) → Decides (avoids members e o) (Avoids o)
  decides-avoids None = decides-yes (λ j h. absurd (no_is_not_yes false refl h))
  decides-avoids (Some q) = decides-monomials q

decides-straight : (s : Setting) (members : List Member) (m : Member) (e : ℕ) (side_bound : SideBound)
    → Decides (is_straight s members m e side_bound) (IsStraightSideBound s members m e side_bound)
decides-straight s members m e (Linear den form ms) = decides-yes tt
decides-straight s members m e Poly = decides-avoids members e (poly_at s m.result_variable)

-- laws for the tests whether the side bounds of members are straight
module _ (s : Setting) (members : List Member) where
  after-decide : (m : Member) (es : List ℕ) (cs : List Check) (ts : List Test) → AllDecide cs ts
      → AllDecide (straight_from s members m es cs) (straight_after s members m es ts)
  after-decide m [] cs ts h = h
  after-decide m (e ∷ es) cs ts h = (
    refl,
    (
      decides-straight s members m e m.local.up,
      (refl, (decides-straight s members m e m.local.low, after-decide m es cs ts h)),
    ),
  )

  straight-decide : (ms : List Member) (cs : List Check) (ts : List Test) → AllDecide cs ts
      → AllDecide (straight_into s members ms cs) (all_straight s members ms ts)
  straight-decide [] cs ts h = h
  straight-decide (m ∷ ms) cs ts h =
      after-decide m (pre s.program m.result_variable.rule) (straight_into s members ms cs) (all_straight s members ms ts)
      (straight-decide ms cs ts h)

-- the tests of a spread decide its checks
pub spread-decides : (s : Setting) (table : Table) (m : Member) → AllDecide (spread_checks s table m) (spread_tests s table m)
spread-decides s table m = (
  refl,
  (
    decides-member_shape s m,
    (
      refl,
      (
        decides-side_bound s m.result_variable Up m.local.up,
        (
          refl,
          (
            decides-side_bound s m.result_variable Low m.local.low,
            sizes-decide s table (needed_into s [] (m ∷ [])) _ _ (small-last s table (spread_size s table m)),
          ),
        ),
      ),
    ),
  ),
)

-- the tests of a loop decide its checks
pub cycle-decides : (s : Setting) (table : Table) (ms : List Member) → AllDecide (cycle_checks s table ms) (cycle_tests s table ms)
cycle-decides s table ms = (
  refl,
  (
    decides-cycle_shape s ms,
    each-decides (check_up s) (test_up s) _ _ (λ m. refl) (λ m. decides-side_bound s m.result_variable Up m.local.up)
        (each-decides (check_low s) (test_low s) _ _ (λ m. refl) (λ m. decides-side_bound s m.result_variable Low m.local.low)
        (sizes-decide s table (needed_into s ms ms) _ _
        (straight-decide s ms ms _ _
        (times-decide s table (needed_times s table ms) _ _
        (small-last s table (cycle_size s table ms)))))
        ms)
        ms,
  ),
)
