-- The set of an untimed rule, listed rule by rule.
use Rattle.std.proofs.Common.{◌≡◌, ◌↔◌, ◌⊎◌, inl, inr, ℕ, zero, suc, ◌+◌, ◌<◌, ◌≤◌, List, [], ◌∷◌, length, map}
use Rattle.std.proofs.Common.{Contains, Option, Some, None, Bool, true, false, get_or, refl, sym, ◌∙◌, ap, subst, arith}
use Rattle.std.specs.Prelude.{slice_get}
use Rattle.std.specs.List.{All}
use Rattle.std.specs.List.Sorted.{IsStrictlyIncreasing}
use Rattle.std.proofs.lemmas.Bool.{cases_lt}
use Rattle.std.proofs.lemmas.Option.{slice_get_within, slice_get-get_or, get_or_from_slice_get}
use Rattle.std.proofs.lemmas.List.{get_or-map, length-map, get_or_past}
use Rattle.std.proofs.lemmas.List.Elements.{All-nil, All-cons, All-weaker}
use Rattle.model.specs.Programs.{Program, Rule, rule_at}
use Rattle.model.specs.Paths.{Path, HasEdge, IsInSet, target_in, target_of, source_of}
use Rattle.its_graph.specs.Links.{ends_of, is_member, members_from}
use Rattle.its_graph.specs.Graphs.{flagged}
use Rattle.its_graph.proofs.Elements.{Contains-cons_cases, Contains-first, Contains-later, none_in_empty, Decided, decided}
use Rattle.its_graph.proofs.PairLists.{Pair}
use Rattle.its_graph.proofs.Membership.{increasing-cons}

-- A number is that of a member among the rules of these links.
pub record MemberBy (untimed seen : List Bool) (rule t : ℕ) (links : List Pair) (e : ℕ) : Type 0 where
  pub position : ℕ
  pub within : position < length links
  pub number : e ≡ t + position
  pub member : is_member untimed seen rule e (get_or links position (0, 0)) ≡ true

-- Each listed number is that of a member.
pub members-from : (untimed seen : List Bool) (rule t : ℕ) (links : List Pair) (e : ℕ) → Contains (members_from untimed seen rule t links) e → MemberBy untimed seen rule t links e
members-from untimed seen rule t [] e h = absurd (none_in_empty e h)
members-from untimed seen rule t (l ∷ links) e h = go (is_member untimed seen rule t l) refl (λ later. more (members-from untimed seen rule (suc t) links e later))
  where
    more : MemberBy untimed seen rule (suc t) links e → MemberBy untimed seen rule t (l ∷ links) e
    more m = record { position = suc m.position; within = omega (arith, m.within); number = omega (arith, m.number); member = m.member }

    go : (v : Bool) → is_member untimed seen rule t l ≡ v → (Contains (members_from untimed seen rule (suc t) links) e → MemberBy untimed seen rule t (l ∷ links) e) → MemberBy untimed seen rule t (l ∷ links) e
    go false is ih = ih (rw is at h)
    go true is ih = first (Contains-cons_cases t (members_from untimed seen rule (suc t) links) e (rw is at h))
      where
        first : (e ≡ t) ⊎ Contains (members_from untimed seen rule (suc t) links) e → MemberBy untimed seen rule t (l ∷ links) e
        first (inr later) = ih later
        first (inl same) = record { position = 0; within = omega arith; number = omega (arith, same); member = subst (λ (x : ℕ). is_member untimed seen rule x l ≡ true) (sym same) is }

-- Each member is listed.
pub members-listed : (untimed seen : List Bool) (rule t : ℕ) (links : List Pair) (k : ℕ) → k < length links → is_member untimed seen rule (t + k) (get_or links k (0, 0)) ≡ true → Contains (members_from untimed seen rule t links) (t + k)
members-listed untimed seen rule t [] k low is = absurd (omega arith)
members-listed untimed seen rule t (l ∷ links) zero low is =
    let here : t + 0 ≡ t = omega arith in
    let flag : is_member untimed seen rule t l ≡ true = subst (λ (x : ℕ). is_member untimed seen rule x l ≡ true) here is in
    subst (λ (x : ℕ). Contains (members_from untimed seen rule t (l ∷ links)) x) (sym here) (rw flag (Contains-first t (members_from untimed seen rule (suc t) links)))
members-listed untimed seen rule t (l ∷ links) (suc k) low is =
    let moved : t + suc k ≡ suc t + k = omega arith in
    let rest = members-listed untimed seen rule (suc t) links k (omega arith) (subst (λ (x : ℕ). is_member untimed seen rule x (get_or links k (0, 0)) ≡ true) moved is) in
    subst (λ (x : ℕ). Contains (members_from untimed seen rule t (l ∷ links)) x) (sym moved) (go (is_member untimed seen rule t l) refl rest)
  where
    go : (v : Bool) → is_member untimed seen rule t l ≡ v → Contains (members_from untimed seen rule (suc t) links) (suc t + k) → Contains (members_from untimed seen rule t (l ∷ links)) (suc t + k)
    go true e h = rw e (Contains-later t (members_from untimed seen rule (suc t) links) (suc t + k) h)
    go false e h = rw e h

-- The list of members ascends.
pub members-ascending : (untimed seen : List Bool) (rule t : ℕ) (links : List Pair) → IsStrictlyIncreasing (members_from untimed seen rule t links) × All (λ y. t ≤ y) (members_from untimed seen rule t links)
members-ascending untimed seen rule t [] = (λ j low. absurd (omega (arith, low)), All-nil (λ (y : ℕ). t ≤ y))
members-ascending untimed seen rule t (l ∷ links) = go (is_member untimed seen rule t l) refl (members-ascending untimed seen rule (suc t) links)
  where
    go : (v : Bool) → is_member untimed seen rule t l ≡ v → IsStrictlyIncreasing (members_from untimed seen rule (suc t) links) × All (λ y. suc t ≤ y) (members_from untimed seen rule (suc t) links)
        → IsStrictlyIncreasing (members_from untimed seen rule t (l ∷ links)) × All (λ y. t ≤ y) (members_from untimed seen rule t (l ∷ links))
    go false e (up, above) = rw e (up, All-weaker (λ (y : ℕ). suc t ≤ y) (λ (y : ℕ). t ≤ y) (λ y h. omega (arith, h)) (members_from untimed seen rule (suc t) links) above)
    go true e (up, above) = rw e (
      increasing-cons t (members_from untimed seen rule (suc t) links) (All-weaker (λ (y : ℕ). suc t ≤ y) (λ (y : ℕ). t < y) (λ y h. omega (arith, h)) (members_from untimed seen rule (suc t) links) above) up,
      All-cons (λ (y : ℕ). t ≤ y) t (members_from untimed seen rule (suc t) links) (omega arith) (All-weaker (λ (y : ℕ). suc t ≤ y) (λ (y : ℕ). t ≤ y) (λ y h. omega (arith, h)) (members_from untimed seen rule (suc t) links) above),
    )

-- A rule is in the set of another exactly if the test is true.
pub in-set : (p : Program) (untimed seen : List Bool) (rule source : ℕ) → get_or untimed 0 false ≡ false → source_of p rule ≡ Some source
    → ((b : ℕ) → (get_or seen b false ≡ true) ↔ Path (HasEdge p (flagged untimed)) b source) → get_or untimed rule false ≡ true → (own : Rule) → rule_at p rule ≡ Some own
    → (e : ℕ) → Contains (members_from untimed seen rule 1 (map ends_of p.rules)) e ↔ IsInSet p (flagged untimed) rule e
in-set p untimed seen rule source entry leaves reach is_untimed own numbered e =
    (λ h. from (members-from untimed seen rule 1 (map ends_of p.rules) e h), λ h. into h)
  where
    from : MemberBy untimed seen rule 1 (map ends_of p.rules) e → IsInSet p (flagged untimed) rule e
    from m = go (decided e rule) (get_or untimed e false) refl (get_or seen (get_or (map ends_of p.rules) m.position (0, 0)).1 false) refl m.member
      where
        in_rules : m.position < length p.rules
        in_rules = omega (arith, m.within, length-map p.rules ends_of)

        go : Decided e rule → (u : Bool) → get_or untimed e false ≡ u → (v : Bool) → get_or seen (get_or (map ends_of p.rules) m.position (0, 0)).1 false ≡ v
            → is_member untimed seen rule e (get_or (map ends_of p.rules) m.position (0, 0)) ≡ true → IsInSet p (flagged untimed) rule e
        go (inl (t, same)) u eu v ev h = inl same
        go (inr (t, other)) false eu v ev h = absurd (different (rw eu at (rw t at h)))
          where
            different : false ≡ true → ⊥
            different x = cc
        go (inr (t, other)) true eu false ev h = absurd (different (rw ev at (rw eu at (rw t at h))))
          where
            different : false ≡ true → ⊥
            different x = cc
        go (inr (t, other)) true eu true ev h =
            let no_rule : Rule = own in
            let target : (get_or (map ends_of p.rules) m.position (0, 0)).1 ≡ (get_or p.rules m.position no_rule).target = ap (λ (x : Pair). x.1) (get_or-map ends_of p.rules m.position no_rule (0, 0) in_rules) in
            inr (record {
              untimed = eu;
              from = (get_or p.rules m.position no_rule).target;
              leads = ap (target_of p) (m.number ∙ next m.position) ∙ ap target_in (slice_get-get_or p.rules m.position no_rule in_rules);
              to = source;
              leaves = leaves;
              path = subst (λ (x : ℕ). Path (HasEdge p (flagged untimed)) x source) target ((reach (get_or (map ends_of p.rules) m.position (0, 0)).1).0 ev);
            })
          where
            next : (k : ℕ) → 1 + k ≡ suc k
            next k = omega arith

    -- A rule that passes the test is listed.
    listed : (t : ℕ) (r : Rule) → rule_at p t ≡ Some r → is_member untimed seen rule t (ends_of r) ≡ true → Contains (members_from untimed seen rule 1 (map ends_of p.rules)) t
    listed zero r h is = absurd (none_some h)
      where
        none_some : None ≡ Some r → ⊥
        none_some x = cc
    listed (suc t) r h is =
        let low : t < length p.rules = slice_get_within p.rules t r h in
        let next : 1 + t ≡ suc t = omega arith in
        let link : get_or (map ends_of p.rules) t (0, 0) ≡ ends_of r = get_or-map ends_of p.rules t r (0, 0) low ∙ ap ends_of (get_or_from_slice_get p.rules t r r h) in
        subst (λ (x : ℕ). Contains (members_from untimed seen rule 1 (map ends_of p.rules)) x) next
        (members-listed untimed seen rule 1 (map ends_of p.rules) t (omega (arith, length-map p.rules ends_of))
        (subst (λ (x : ℕ). is_member untimed seen rule x (get_or (map ends_of p.rules) t (0, 0)) ≡ true) (sym next) (subst (λ (l : Pair). is_member untimed seen rule (suc t) l ≡ true) (sym link) is)))

    into : IsInSet p (flagged untimed) rule e → Contains (members_from untimed seen rule 1 (map ends_of p.rules)) e
    into (inl same) = subst (λ (x : ℕ). Contains (members_from untimed seen rule 1 (map ends_of p.rules)) x) (sym same) (listed rule own numbered (itself (decided rule rule)))
      where
        itself : Decided rule rule → is_member untimed seen rule rule (ends_of own) ≡ true
        itself (inl (t, same)) = rw t refl
        itself (inr (t, other)) = absurd (other refl)
    into (inr m) = back e m.untimed m.leads
      where
        -- An untimed rule whose target leads to the source of the rule is listed.
        back : (t : ℕ) → get_or untimed t false ≡ true → target_of p t ≡ Some m.from → Contains (members_from untimed seen rule 1 (map ends_of p.rules)) t
        back zero u leads = absurd (different (sym entry ∙ u))
          where
            different : false ≡ true → ⊥
            different x = cc
        back (suc t) u leads = with_rule (slice_get p.rules t) refl
          where
            with_rule : (o : Option Rule) → slice_get p.rules t ≡ o → Contains (members_from untimed seen rule 1 (map ends_of p.rules)) (suc t)
            with_rule None h = absurd (none_some (sym (ap target_in h) ∙ leads))
              where
                none_some : None ≡ Some m.from → ⊥
                none_some x = cc
            with_rule (Some r) h = listed (suc t) r h (passes (decided (suc t) rule))
              where
                target : r.target ≡ m.from
                target = some_same (sym (ap target_in h) ∙ leads)
                  where
                    some_same : Some r.target ≡ Some m.from → r.target ≡ m.from
                    some_same x = cc

                to : m.to ≡ source
                to = some_same (sym m.leaves ∙ leaves)
                  where
                    some_same : Some m.to ≡ Some source → m.to ≡ source
                    some_same x = cc

                seen_there : get_or seen r.target false ≡ true
                seen_there = (reach r.target).1 (subst (λ (x : ℕ). Path (HasEdge p (flagged untimed)) x source) (sym target) (subst (λ (x : ℕ). Path (HasEdge p (flagged untimed)) m.from x) to m.path))

                passes : Decided (suc t) rule → is_member untimed seen rule (suc t) (ends_of r) ≡ true
                passes (inl (test, same)) = rw test refl
                passes (inr (test, other)) = rw test (rw u seen_there)

-- A number whose flag is true is that of a rule.
pub is_rule : (flags : List Bool) (n t : ℕ) → length flags ≡ n + 1 → get_or flags 0 false ≡ false → get_or flags t false ≡ true → (0 < t) × (t ≤ n)
is_rule flags n zero size entry h = absurd (different (sym entry ∙ h))
  where
    different : false ≡ true → ⊥
    different x = cc
is_rule flags n (suc t) size entry h = go (cases_lt (suc t) (length flags))
  where
    go : (suc t < length flags) ⊎ (length flags ≤ suc t) → (0 < suc t) × (suc t ≤ n)
    go (inl low) = (omega arith, omega (arith, size))
    go (inr high) = absurd (different (sym (get_or_past flags (suc t) false high) ∙ h))
      where
        different : false ≡ true → ⊥
        different x = cc
