-- The sizes that members need are those of places from which one of them takes its value, and which aren't members.
use Rattle.std.proofs.Common.{◌≡◌, ℕ, zero, suc, ◌-◌, ◌≤◌, ◌==◌, ◌&&◌, ◌||◌, not, Bool, true, false, List, []}
use Rattle.std.proofs.Common.{◌∷◌, ◌++◌, map, Option, Some, None, refl, sym, ◌∙◌, ap, subst, arith}
use Rattle.std.specs.List.{AllByRecursion, Contains, list_any}
use Rattle.std.proofs.lemmas.Bool.{and_parts, and_from, not-true, or_left, or_right}
use Rattle.model.specs.Bounds.{Bound}
use Rattle.model.specs.Entries.{is_in}
use Rattle.model.specs.Paths.{pre}
use Rattle.cert_types.specs.cert_rules.AcceptsSizes.{left_of}
use Rattle.cert_types.specs.cert_rules.Checks.{needed_by, needed_from, needed_into}
use Rattle.cert_types.specs.cert_rules.ComposedSizes.{poly_at, reads, is_member}
use Rattle.cert_types.specs.cert_rules.Known.{IsKnown}
use Rattle.cert_types.specs.cert_rules.Nodes.{ResultVariable, SideBound, Member}
use Rattle.cert_types.specs.cert_rules.Setting.{Setting}
use Rattle.cert_types.proofs.cert_rules.CheckLists.{in-each, each-append, each-map, each-below}
use Rattle.bound_fixpoint.specs.Keys.{Bounds, has_key, size_by}
use Rattle.bound_fixpoint.specs.Loops.{reads_member, do_loop}
use Rattle.bound_fixpoint.proofs.Cases.{either}
use Rattle.bound_fixpoint.proofs.Keys.{has_key-cases, has_key-none}
use Rattle.time_bounds.specs.SizeWhys.{TakesFrom}

-- a place from 1 on is one more than its number from 0
one_less : (j : ℕ) → j ≡ suc j - 1
one_less j = omega arith

module _ (s : Setting) (inside all : List Member) where
  -- one of all these members takes its value from the place, which isn't one of those inside
  pub record IsNeeded (m : ResultVariable) : Type 0 where
    pub member : Member
    pub among : Contains all member
    pub takes : TakesFrom s member m
    pub outside : is_member inside m.rule (m.place - 1) ≡ false

  module _ (n : Member) (among : Contains all n) (e : ℕ) (before : is_in e (pre s.program n.result_variable.rule) ≡ true) where
    -- a place that one of a member's side bounds reads, and which isn't inside, is needed
    read_needed : (side_bound : SideBound) (j : ℕ)
        → (reads (poly_at s n.result_variable) side_bound j ≡ true
        → (reads (poly_at s n.result_variable) n.local.up j || reads (poly_at s n.result_variable) n.local.low j) ≡ true)
        → (reads (poly_at s n.result_variable) side_bound j && not (is_member inside e j)) ≡ true
        → IsNeeded (record { rule = e; place = suc j })
    read_needed side_bound j either_side_bound h =
        let both = and_parts (reads (poly_at s n.result_variable) side_bound j) (not (is_member inside e j)) h in
        record {
          member = n;
          among = among;
          takes = record {
            place = omega arith;
            before = before;
            reads = subst (λ (i : ℕ). (reads (poly_at s n.result_variable) n.local.up i || reads (poly_at s n.result_variable) n.local.low i) ≡ true)
                (one_less j) (either_side_bound both.0);
          };
          outside = subst (λ (i : ℕ). is_member inside e i ≡ false) (one_less j) (not-true (is_member inside e j) both.1);
        }

    side_bound_needed : (side_bound : SideBound)
        → ((j : ℕ) → reads (poly_at s n.result_variable) side_bound j ≡ true
        → (reads (poly_at s n.result_variable) n.local.up j || reads (poly_at s n.result_variable) n.local.low j) ≡ true)
        → AllByRecursion IsNeeded (needed_by s inside n side_bound e)
    side_bound_needed side_bound either_side_bound =
        each-map IsNeeded (λ (j : ℕ). record { rule = e; place = suc j }) _
        (each-below (λ j. IsNeeded (record { rule = e; place = suc j }))
        (λ j. reads (poly_at s n.result_variable) side_bound j && not (is_member inside e j)) (left_of s.program n.result_variable.rule)
        (λ j k. read_needed side_bound j (either_side_bound j) k))

  -- the same after each rule that can come before
  from_needed : (n : Member) → Contains all n → (es : List ℕ)
      → AllByRecursion (λ e. is_in e (pre s.program n.result_variable.rule) ≡ true) es
      → AllByRecursion IsNeeded (needed_from s inside n es)
  from_needed n among [] h = tt
  from_needed n among (e ∷ es) h =
      each-append IsNeeded (needed_by s inside n n.local.up e)
      (needed_by s inside n n.local.low e ++ needed_from s inside n es)
      (side_bound_needed n among e h.0 n.local.up
      (λ j k. or_left (reads (poly_at s n.result_variable) n.local.up j) (reads (poly_at s n.result_variable) n.local.low j) k))
      (each-append IsNeeded (needed_by s inside n n.local.low e) (needed_from s inside n es)
      (side_bound_needed n among e h.0 n.local.low
      (λ j k. or_right (reads (poly_at s n.result_variable) n.local.up j) (reads (poly_at s n.result_variable) n.local.low j) k))
      (from_needed n among es h.1))

  -- the same for each of these members
  pub into_needed : (ms : List Member) → AllByRecursion (Contains all) ms
      → AllByRecursion IsNeeded (needed_into s inside ms)
  into_needed [] h = tt
  into_needed (n ∷ ms) h =
      each-append IsNeeded (needed_from s inside n (pre s.program n.result_variable.rule)) (needed_into s inside ms)
      (from_needed n h.0 (pre s.program n.result_variable.rule)
      (in-each (λ e. is_in e (pre s.program n.result_variable.rule) ≡ true) (pre s.program n.result_variable.rule) (λ e k. k)))
      (into_needed ms h.1)

-- a place is a key of members where it is a member
members_keys : (ms : List Member) (e j : ℕ) → has_key (map (λ m. m.result_variable) ms) e (suc j) ≡ is_member ms e j
members_keys [] e j = refl
members_keys (m ∷ ms) e j = ap (λ (v : Bool). ((m.result_variable.rule == e) && (m.result_variable.place == suc j)) || v) (members_keys ms e j)

pub outside_keys : (ms : List Member) (e i : ℕ) → 1 ≤ i → is_member ms e (i - 1) ≡ false
    → has_key (map (λ m. m.result_variable) ms) e i ≡ false
outside_keys ms e zero l h = absurd (omega (arith, l))
outside_keys ms e (suc j) l h =
    members_keys ms e j ∙ subst (λ (n : ℕ). is_member ms e n ≡ false) (sym (one_less j)) h

-- if a single member doesn't loop, it takes its value from other places
pub outside_alone : (s : Setting) (n : Member) (m : ResultVariable) → do_loop s (n ∷ []) ≡ false → TakesFrom s n m
    → has_key (map (λ k. k.result_variable) (n ∷ [])) m.rule m.place ≡ false
outside_alone s n m alone takes = go (has_key (n.result_variable ∷ []) m.rule m.place) refl
  where
    looping : n.result_variable ≡ m → reads_member s n n ≡ true
    looping e =
        and_from (is_in n.result_variable.rule (pre s.program n.result_variable.rule))
        (reads (poly_at s n.result_variable) n.local.up (n.result_variable.place - 1) || reads (poly_at s n.result_variable) n.local.low (n.result_variable.place - 1))
        (subst (λ (k : ResultVariable). is_in k.rule (pre s.program n.result_variable.rule) ≡ true) (sym e) takes.before)
        (subst (λ (k : ResultVariable). (reads (poly_at s n.result_variable) n.local.up (k.place - 1)
        || reads (poly_at s n.result_variable) n.local.low (k.place - 1)) ≡ true) (sym e) takes.reads)

    loops : n.result_variable ≡ m → do_loop s (n ∷ []) ≡ true
    loops e = or_left (list_any (λ k. reads_member s n k) (n ∷ [])) false (or_left (reads_member s n n) false (looping e))

    clash : do_loop s (n ∷ []) ≡ true → ⊥
    clash e = let f : true ≡ false = sym e ∙ alone in (let none : ⊥ = cc in none)

    go : (v : Bool) → has_key (n.result_variable ∷ []) m.rule m.place ≡ v → has_key (n.result_variable ∷ []) m.rule m.place ≡ false
    go false e = e
    go true e =
        absurd (either (has_key-cases n.result_variable [] m.rule m.place e) (λ same. clash (loops same))
        (λ later. has_key-none m.rule m.place later))

-- a size that isn't known is missing
pub size_missing : (b : Bounds) (t i : ℕ) → 1 ≤ i → (IsKnown (size_by b t i) → ⊥) → b t i ≡ None
size_missing b t zero l fails = absurd (omega (arith, l))
size_missing b t (suc i) l fails = go (b t (suc i)) refl
  where
    go : (o : Option Bound) → b t (suc i) ≡ o → b t (suc i) ≡ None
    go None e = e
    go (Some c) e = absurd (fails (c, e))

-- a time that isn't known is missing
pub time_missing : (b : Bounds) (t : ℕ) → (IsKnown (b t 0) → ⊥) → b t 0 ≡ None
time_missing b t fails = go (b t 0) refl
  where
    go : (o : Option Bound) → b t 0 ≡ o → b t 0 ≡ None
    go None e = e
    go (Some c) e = absurd (fails (c, e))
