-- The checks of spreads and loops pass exactly if they are accepted.
use Rattle.std.proofs.Common.{◌≡◌, ℕ, suc, ◌<◌, ◌&&◌, ◌||◌, not, Bool, true, false, List, [], ◌∷◌, Option, refl, subst}
use Rattle.std.proofs.Common.{All}
use Rattle.std.specs.List.{AllByRecursion, list_any}
use Rattle.std.proofs.lemmas.Bool.{and_parts, and_from, not_from_false}
use Rattle.std.proofs.lemmas.List.Elements.{All-from_recursion, recursion_from_All}
use Rattle.run_counting.specs.model.Paths.{pre}
use Rattle.run_counting.specs.model.Polynomials.{Monomial, Polynomial}
use Rattle.rule_forms.specs.linear_forms.Forms.{at}
use Rattle.cert_rules.specs.Nodes.{ResultVariable, SideBound, Linear, Poly, Member}
use Rattle.run_counting.specs.model.Entries.{is_in}
use Rattle.cert_rules.specs.Known.{IsKnown, Table}
use Rattle.cert_rules.specs.Setting.{Setting}
use Rattle.cert_rules.specs.ComposedSizes.{poly_at, reads, has_variable, is_member, rules_of, flows, multiplies, adds}
use Rattle.cert_rules.specs.AcceptsSizes.{Side, Up, Low, HasSideBoundShape, HasMemberShape, AcceptsSideBound, AcceptsUp}
use Rattle.cert_rules.specs.AcceptsSizes.{AcceptsLow, left_of, SideBoundHasSizes, HasSizesAfter, HasSizesBefore}
use Rattle.cert_rules.specs.AcceptsSizes.{IsStraightSideBound, IsStraight, AcceptsSpread, AcceptsCycle}
use Rattle.cert_rules.specs.Reasons.{Check, AllPass}
use Rattle.cert_rules.specs.Checks.{needed_by, needed_from, needed_into, spread_checks, straight_from, straight_into}
use Rattle.cert_rules.specs.Checks.{needed_times, cycle_checks}
use Rattle.run_counting.proofs.model.Membership.{no_is_not_yes, is_in-filter, filter-in}
use Rattle.cert_rules.proofs.CheckLists.{each_passes, passes_each, each-in, in-each}
use Rattle.cert_rules.proofs.CheckLists.{each-append, append-each, map-each, each-map, below-each, each-below}
use Rattle.cert_rules.proofs.FirstReasons.{HasSize, listed_coefficient, not_zero-sound}

-- a variable that is among those of monomials with left variables alone is a left one
variable-left : (left : ℕ) (vars : List ℕ) → AllByRecursion (λ v. v < left) vars → (j : ℕ) → is_in j vars ≡ true → j < left
variable-left left vars h j k = each-in (λ v. v < left) vars h j k

polynomial-left : (left : ℕ) (q : Polynomial) → AllByRecursion (λ (m : Monomial). All (λ v. v < left) m.vars) q → (j : ℕ)
    → list_any (λ m. is_in j m.vars) q ≡ true → j < left
polynomial-left left [] h j k = absurd (no_is_not_yes false refl k)
polynomial-left left (m ∷ q) h j k = go (is_in j m.vars) refl k (polynomial-left left q h.1 j)
  where
    go : (v : Bool) → is_in j m.vars ≡ v → (v || list_any (λ n. is_in j n.vars) q) ≡ true
        → (list_any (λ n. is_in j n.vars) q ≡ true → j < left) → j < left
    go true e l later = variable-left left m.vars (recursion_from_All (λ v. v < left) m.vars h.0) j e
    go false e l later = later l

-- an accepted side bound reads left places alone
pub reads-left : (s : Setting) (result_variable : ResultVariable) (side : Side) (side_bound : SideBound)
    → HasSideBoundShape s result_variable.rule (left_of s.program result_variable.rule) side_bound → AcceptsSideBound s result_variable side side_bound → (j : ℕ)
    → reads (poly_at s result_variable) side_bound j ≡ true → j < left_of s.program result_variable.rule
reads-left s result_variable side (Linear den form ms) shape ok j r =
    subst (λ n. j < n) shape.long (listed_coefficient form.coefs j (not_zero-sound (at form.coefs j) r))
reads-left s result_variable side Poly shape ok j r =
    polynomial-left (left_of s.program result_variable.rule) ok.polynomial
    (recursion_from_All _ ok.polynomial ok.left_alone) j
    (subst (λ (o : Option Polynomial). has_variable o j ≡ true) ok.nonlinear r)

module _ (s : Setting) (table : Table) (members : List Member) where
  -- the test that a place of the rule before is read and is no member
  abbrev is_needed : Member → SideBound → ℕ → ℕ → Bool
  is_needed m side_bound e j = reads (poly_at s m.result_variable) side_bound j && not (is_member members e j)

  needed-told : (m : Member) (side_bound : SideBound) (e j : ℕ) → reads (poly_at s m.result_variable) side_bound j ≡ true → is_member members e j ≡ false
      → is_needed m side_bound e j ≡ true
  needed-told m side_bound e j r n = and_from (reads (poly_at s m.result_variable) side_bound j) (not (is_member members e j)) r
      (not_from_false (is_member members e j) n)

  told-needed : (m : Member) (side_bound : SideBound) (e j : ℕ) → is_needed m side_bound e j ≡ true
      → (reads (poly_at s m.result_variable) side_bound j ≡ true) × (is_member members e j ≡ false)
  told-needed m side_bound e j h =
      let k = and_parts (reads (poly_at s m.result_variable) side_bound j) (not (is_member members e j)) h in
      (k.0, go (is_member members e j) refl k.1)
    where
      go : (v : Bool) → is_member members e j ≡ v → not v ≡ true → v ≡ false
      go true e k = absurd (no_is_not_yes false refl k)
      go false e k = refl

  -- an accepted side bound has its sizes exactly if those that it needs are known
  side_bound-known : (m : Member) (side : Side) (side_bound : SideBound) → HasSideBoundShape s m.result_variable.rule (left_of s.program m.result_variable.rule) side_bound
      → AcceptsSideBound s m.result_variable side side_bound → (e : ℕ) → AllByRecursion (HasSize table) (needed_by s members m side_bound e)
      → SideBoundHasSizes s table members m.result_variable side_bound e
  side_bound-known m side side_bound shape ok e h j r n =
      below-each (λ i. IsKnown (table.size e (suc i))) (is_needed m side_bound e) (left_of s.program m.result_variable.rule)
      (map-each (HasSize table) (λ i. record { rule = e; place = suc i }) _ h)
      j (reads-left s m.result_variable side side_bound shape ok j r) (needed-told m side_bound e j r n)

  known-side_bound : (m : Member) (side_bound : SideBound) (e : ℕ) → SideBoundHasSizes s table members m.result_variable side_bound e
      → AllByRecursion (HasSize table) (needed_by s members m side_bound e)
  known-side_bound m side_bound e h =
      each-map (HasSize table) (λ i. record { rule = e; place = suc i }) _
      (each-below (λ i. IsKnown (table.size e (suc i))) (is_needed m side_bound e) (left_of s.program m.result_variable.rule)
      (λ j k. let t = told-needed m side_bound e j k in h j t.0 t.1))

  -- both side bounds of a member have their sizes after these rules, exactly if those needed are known
  member-known : (m : Member) → HasMemberShape s m → AcceptsUp s m → AcceptsLow s m → (es : List ℕ)
      → AllByRecursion (HasSize table) (needed_from s members m es)
      → AllByRecursion (HasSizesAfter s table members m) es
  member-known m shape up low [] h = tt
  member-known m shape up low (e ∷ es) h =
      let a = append-each (HasSize table) (needed_by s members m m.local.up e) _ h in
      let b = append-each (HasSize table) (needed_by s members m m.local.low e) _ a.1 in (
        record {
          up = side_bound-known m Up m.local.up shape.up up e a.0;
          low = side_bound-known m Low m.local.low shape.low low e b.0;
        },
        member-known m shape up low es b.1,
      )

  known-member : (m : Member) (es : List ℕ) → AllByRecursion (HasSizesAfter s table members m) es
      → AllByRecursion (HasSize table) (needed_from s members m es)
  known-member m [] h = tt
  known-member m (e ∷ es) h =
      each-append (HasSize table) (needed_by s members m m.local.up e) _ (known-side_bound m m.local.up e h.0.up)
      (each-append (HasSize table) (needed_by s members m m.local.low e) _ (known-side_bound m m.local.low e h.0.low)
      (known-member m es h.1))

  -- the sizes that these members need are known, if their side bounds have their sizes
  pub members-known : (ms : List Member) → AllByRecursion (HasMemberShape s) ms → AllByRecursion (AcceptsUp s) ms
      → AllByRecursion (AcceptsLow s) ms → AllByRecursion (HasSize table) (needed_into s members ms)
      → AllByRecursion (HasSizesBefore s table members) ms
  members-known [] shape up low h = tt
  members-known (m ∷ ms) shape up low h =
      let a = append-each (HasSize table) (needed_from s members m (pre s.program m.result_variable.rule)) _ h in (
        each-in (HasSizesAfter s table members m) (pre s.program m.result_variable.rule)
            (member-known m shape.0 up.0 low.0 (pre s.program m.result_variable.rule) a.0),
        members-known ms shape.1 up.1 low.1 a.1,
      )

  -- if side bounds have their sizes before each member, all sizes that the members need are known
  pub known-members : (ms : List Member) → AllByRecursion (HasSizesBefore s table members) ms
      → AllByRecursion (HasSize table) (needed_into s members ms)
  known-members [] h = tt
  known-members (m ∷ ms) h =
      each-append (HasSize table) (needed_from s members m (pre s.program m.result_variable.rule)) _
      (known-member m (pre s.program m.result_variable.rule)
      (in-each (HasSizesAfter s table members m) (pre s.program m.result_variable.rule) h.0))
      (known-members ms h.1)

  -- no polynomial side bound of a member reads a member, after these rules
  abbrev AreStraight : Member → ℕ → Type 0
  AreStraight m e = IsStraightSideBound s members m e m.local.up × IsStraightSideBound s members m e m.local.low

  from-straight : (m : Member) (es : List ℕ) (rest : List Check) → AllPass (straight_from s members m es rest)
      → AllByRecursion (AreStraight m) es × AllPass rest
  from-straight m [] rest h = (tt, h)
  from-straight m (e ∷ es) rest h = let k = from-straight m es rest h.1.1 in (((h.0, h.1.0), k.0), k.1)

  straight-from : (m : Member) (es : List ℕ) (rest : List Check) → AllByRecursion (AreStraight m) es → AllPass rest
      → AllPass (straight_from s members m es rest)
  straight-from m [] rest h k = k
  straight-from m (e ∷ es) rest h k = (h.0.0, (h.0.1, straight-from m es rest h.1 k))

  into-straight : (ms : List Member) (rest : List Check) → AllPass (straight_into s members ms rest)
      → AllByRecursion (IsStraight s members) ms × AllPass rest
  into-straight [] rest h = (tt, h)
  into-straight (m ∷ ms) rest h =
      let k = from-straight m (pre s.program m.result_variable.rule) (straight_into s members ms rest) h in
      let l = into-straight ms rest k.1 in (
        (
          record {
            up = λ e i. (each-in (AreStraight m) (pre s.program m.result_variable.rule) k.0 e i).0;
            low = λ e i. (each-in (AreStraight m) (pre s.program m.result_variable.rule) k.0 e i).1;
          },
          l.0,
        ),
        l.1,
      )

  straight-into : (ms : List Member) (rest : List Check) → AllByRecursion (IsStraight s members) ms → AllPass rest
      → AllPass (straight_into s members ms rest)
  straight-into [] rest h k = k
  straight-into (m ∷ ms) rest h k =
      straight-from m (pre s.program m.result_variable.rule) (straight_into s members ms rest)
      (in-each (AreStraight m) (pre s.program m.result_variable.rule) (λ e i. (h.0.up e i, h.0.low e i)))
      (straight-into ms rest h.1 k)

  -- the loop needs the time of rule t: the rule multiplies or adds
  abbrev needs_time : ℕ → Bool
  needs_time t = multiplies (flows s members table.size) t || adds s (flows s members table.size) t

  -- all checks of an accepted loop pass
  pub cycle-passes : AcceptsCycle s table members → AllPass (cycle_checks s table members)
  cycle-passes h = (
    h.shape,
    passes_each _ _ members (recursion_from_All (AcceptsUp s) members h.up)
        (passes_each _ _ members (recursion_from_All (AcceptsLow s) members h.low)
        (passes_each _ _ (needed_into s members members)
        (known-members members (recursion_from_All (HasSizesBefore s table members) members h.sizes))
        (straight-into members _ (recursion_from_All (IsStraight s members) members h.straight)
        (passes_each _ _ (needed_times s table members)
        (in-each (λ t. IsKnown (table.time t)) (needed_times s table members)
        (λ t i. let k = filter-in needs_time (rules_of s members) t i in h.times t k.0 k.1))
        (h.small, tt))))),
  )

  -- a loop whose checks all pass is accepted
  pub passes-cycle : AllPass (cycle_checks s table members) → AcceptsCycle s table members
  passes-cycle h =
      let up = each_passes _ _ members h.1 in
      let low = each_passes _ _ members up.1 in
      let sizes = each_passes _ _ (needed_into s members members) low.1 in
      let straight = into-straight members _ sizes.1 in
      let times = each_passes _ _ (needed_times s table members) straight.1 in record {
        shape = h.0;
        up = All-from_recursion (AcceptsUp s) members up.0;
        low = All-from_recursion (AcceptsLow s) members low.0;
        sizes = All-from_recursion (HasSizesBefore s table members) members
            (members-known members (recursion_from_All (HasMemberShape s) members h.0.each) up.0 low.0 sizes.0);
        straight = All-from_recursion (IsStraight s members) members straight.0;
        times = λ t i k. each-in (λ u. IsKnown (table.time u)) (needed_times s table members) times.0 t
            (is_in-filter needs_time (rules_of s members) t i k);
        small = times.1.0;
      }

-- laws for a spread: its checks pass exactly if it is accepted
module _ (s : Setting) (table : Table) (m : Member) where
  -- all checks of an accepted spread pass
  pub spread-passes : AcceptsSpread s table m → AllPass (spread_checks s table m)
  spread-passes h = (
    h.shape,
    (
      h.up,
      (
        h.low,
        passes_each _ _ (needed_into s [] (m ∷ [])) (known-members s table [] (m ∷ []) (h.sizes, tt))
            (h.small, tt),
      ),
    ),
  )

  -- a spread whose checks all pass is accepted
  pub passes-spread : AllPass (spread_checks s table m) → AcceptsSpread s table m
  passes-spread h =
      let sizes = each_passes _ _ (needed_into s [] (m ∷ [])) h.1.1.1 in record {
        shape = h.0;
        up = h.1.0;
        low = h.1.1.0;
        sizes = (members-known s table [] (m ∷ []) (h.0, tt) (h.1.0, tt) (h.1.1.0, tt) sizes.0).0;
        small = sizes.1.0;
      }
