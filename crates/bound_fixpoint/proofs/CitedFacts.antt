-- The premises of nodes by the numbers of lemmas: all cited facts are accepted, and they are those that the lemmas
-- with these numbers state.
use Rattle.std.proofs.Common.{◌≡◌, ◌≢◌, ◌⊎◌, inl, inr, ℕ, ◌==◌, Bool, not, true, false, List, [], ◌∷◌, filter, refl}
use Rattle.std.proofs.Common.{sym, ap, subst, All}
use Rattle.std.specs.List.{Contains}
use Rattle.std.proofs.lemmas.Bool.{or_left, or_right}
use Rattle.std.proofs.lemmas.Bool.Decides.{eqb_tells}
use Rattle.std.proofs.lemmas.List.Elements.{All-nil, All-append}
use Rattle.rule_questions.specs.model.Facts.{Fact}
use Rattle.rule_questions.specs.model.Entries.{is_in}
use Rattle.rule_questions.proofs.model.Membership.{is_in-cases, is_in-filter, filter-in, no_is_not_yes}
use Rattle.rule_questions.specs.cert_rules.AcceptsPlain.{start_facts}
use Rattle.rule_questions.specs.cert_rules.Acceptance.{facts_of_lemma, joined_facts, AllAccepted}
use Rattle.rule_questions.specs.cert_rules.Setting.{Setting}
use Rattle.bound_fixpoint.specs.Needs.{once, cites, uses_from}
use Rattle.bound_fixpoint.proofs.Cases.{either}
use Rattle.bound_fixpoint.proofs.ListMembers.{contains-left, contains-right}
use Rattle.bound_fixpoint.proofs.FactLists.{IsNumbered}

-- a number that isn't 0 passes the test for that, and no other does
is_other : (n : ℕ) → n ≢ 0 → not (n == 0) ≡ true
is_other n h = go (eqb_tells n 0)
  where
    go : ((n == 0) ≡ true) × (n ≡ 0) ⊎ ((n == 0) ≡ false) × (n ≢ 0) → not (n == 0) ≡ true
    go (inl (t, e)) = absurd (h e)
    go (inr (t, e)) = ap not t

-- a number that passes that test isn't 0
pub other_is : (n : ℕ) → not (n == 0) ≡ true → n ≢ 0
other_is n h e = no_is_not_yes (not (n == 0)) (ap not (subst (λ (m : ℕ). (m == 0) ≡ true) (sym e) refl)) h

-- an element is in a list of which each number is taken once
pub in-once : (ns : List ℕ) (n : ℕ) → is_in n ns ≡ true → is_in n (once ns) ≡ true
in-once [] n h = h
in-once (m ∷ ns) n h = go (eqb_tells n m) (is_in-cases n m ns h) (in-once ns n)
  where
    go : ((n == m) ≡ true) × (n ≡ m) ⊎ ((n == m) ≡ false) × (n ≢ m) → (n ≡ m) ⊎ (is_in n ns ≡ true)
        → (is_in n ns ≡ true → is_in n (once ns) ≡ true) → is_in n (once (m ∷ ns)) ≡ true
    go (inl (t, e)) cases ih = or_left (n == m) (is_in n (filter (λ k. not (k == m)) (once ns))) t
    go (inr (t, e)) (inl same) ih = absurd (e same)
    go (inr (t, e)) (inr later) ih =
        or_right (n == m) (is_in n (filter (λ k. not (k == m)) (once ns)))
        (is_in-filter (λ k. not (k == m)) (once ns) n (ih later) (ap not t))

-- a number in a list without repetitions is in the list itself
pub once-in : (ns : List ℕ) (n : ℕ) → is_in n (once ns) ≡ true → is_in n ns ≡ true
once-in [] n h = h
once-in (m ∷ ns) n h = go (is_in-cases n m (filter (λ k. not (k == m)) (once ns)) h) (eqb_tells n m) (once-in ns n)
  where
    go : (n ≡ m) ⊎ (is_in n (filter (λ k. not (k == m)) (once ns)) ≡ true)
        → ((n == m) ≡ true) × (n ≡ m) ⊎ ((n == m) ≡ false) × (n ≢ m)
        → (is_in n (once ns) ≡ true → is_in n ns ≡ true) → is_in n (m ∷ ns) ≡ true
    go (inl e) (inl (t, same)) ih = or_left (n == m) (is_in n ns) t
    go (inl e) (inr (t, other)) ih = absurd (other e)
    go (inr later) by_cases ih = or_right (n == m) (is_in n ns) (ih ((filter-in (λ k. not (k == m)) (once ns) n later).0))

module _ (s : Setting) (past : List (List Fact)) where
  -- a cited fact is stated
  pub cites-state : (ns : List ℕ) (n : ℕ) (f : Fact) → is_in n ns ≡ true → Contains (facts_of_lemma past n) f
      → Contains (joined_facts s past (cites ns)) f
  cites-state [] n f m h = absurd (no_is_not_yes false refl m)
  cites-state (k ∷ ns) n f m h =
      either (is_in-cases n k ns m)
      (λ e. contains-left f (facts_of_lemma past k) (joined_facts s past (cites ns))
      (subst (λ (x : ℕ). Contains (facts_of_lemma past x) f) e h))
      (λ later. contains-right f (facts_of_lemma past k) (joined_facts s past (cites ns)) (cites-state ns n f later h))

  -- citing earlier lemmas is accepted
  pub cites-accepted : (ns : List ℕ) → ((n : ℕ) → is_in n ns ≡ true → IsNumbered past n) → AllAccepted s past (cites ns)
  cites-accepted [] h = tt
  cites-accepted (k ∷ ns) h =
      let here = h k (first_in k ns) in (
        record { least = here.least; earlier = here.earlier },
        cites-accepted ns
            (λ n m. h n (or_right (n == k) (is_in n ns) m)),
      )
    where
      first_in : (x : ℕ) (xs : List ℕ) → is_in x (x ∷ xs) ≡ true
      first_in x xs = go (eqb_tells x x)
        where
          go : ((x == x) ≡ true) × (x ≡ x) ⊎ ((x == x) ≡ false) × (x ≢ x) → is_in x (x ∷ xs) ≡ true
          go (inl (t, e)) = or_left (x == x) (is_in x xs) t
          go (inr (t, e)) = absurd (e refl)

  -- a property of all facts of each cited lemma is one of all facts that citing them states
  pub cites-all : (P : Fact → Type 0) (ns : List ℕ) → ((n : ℕ) → All P (facts_of_lemma past n))
      → All P (joined_facts s past (cites ns))
  cites-all P [] h = All-nil P
  cites-all P (k ∷ ns) h = All-append P (facts_of_lemma past k) (joined_facts s past (cites ns)) (h k)
      (cites-all P ns h)

  -- with the virtual entry among the cited lemmas, a cited fact is stated
  pub uses-state : (ns : List ℕ) (n : ℕ) (f : Fact) → is_in n ns ≡ true → (n ≡ 0 → Contains (start_facts s.program) f)
      → (n ≢ 0 → Contains (facts_of_lemma past n) f) → Contains (joined_facts s past (uses_from ns)) f
  uses-state ns n f m from_start from_lemma = go (is_in 0 ns) refl (eqb_tells n 0)
    where
      cited : n ≢ 0 → Contains (joined_facts s past (cites (once (filter (λ k. not (k == 0)) ns)))) f
      cited other =
          cites-state (once (filter (λ k. not (k == 0)) ns)) n f
          (in-once (filter (λ k. not (k == 0)) ns) n (is_in-filter (λ k. not (k == 0)) ns n m (is_other n other)))
          (from_lemma other)

      go : (v : Bool) → is_in 0 ns ≡ v → ((n == 0) ≡ true) × (n ≡ 0) ⊎ ((n == 0) ≡ false) × (n ≢ 0)
          → Contains (joined_facts s past (uses_from ns)) f
      go true e (inl (t, z)) =
          rw e (contains-left f (start_facts s.program) (joined_facts s past
          (cites (once (filter (λ k. not (k == 0)) ns)))) (from_start z))
      go true e (inr (t, other)) =
          rw e (contains-right f (start_facts s.program) (joined_facts s past
          (cites (once (filter (λ k. not (k == 0)) ns)))) (cited other))
      go false e (inl (t, z)) = absurd (no_is_not_yes (is_in 0 ns) e (subst (λ (x : ℕ). is_in x ns ≡ true) z m))
      go false e (inr (t, other)) = rw e (cited other)

  -- citing lemmas is accepted if each number but 0 is that of an earlier lemma
  pub uses-accepted : (ns : List ℕ) → ((n : ℕ) → is_in n ns ≡ true → n ≢ 0 → IsNumbered past n) → AllAccepted s past
      (uses_from ns)
  uses-accepted ns h = go (is_in 0 ns) refl
    where
      each : (n : ℕ) → is_in n (once (filter (λ k. not (k == 0)) ns)) ≡ true → IsNumbered past n
      each n m =
          let kept = filter-in (λ k. not (k == 0)) ns n (once-in (filter (λ k. not (k == 0)) ns) n m) in
          h n kept.0 (other_is n kept.1)

      go : (v : Bool) → is_in 0 ns ≡ v → AllAccepted s past (uses_from ns)
      go true e = rw e (tt, cites-accepted (once (filter (λ k. not (k == 0)) ns)) each)
      go false e = rw e (cites-accepted (once (filter (λ k. not (k == 0)) ns)) each)

  -- a property of all facts of the virtual entry and of each lemma is one of all facts that citing them states
  pub uses-all : (P : Fact → Type 0) (ns : List ℕ) → All P (start_facts s.program) →
      ((n : ℕ) → All P (facts_of_lemma past n))
      → All P (joined_facts s past (uses_from ns))
  uses-all P ns start h = go (is_in 0 ns) refl
    where
      go : (v : Bool) → is_in 0 ns ≡ v → All P (joined_facts s past (uses_from ns))
      go true e =
          rw e (All-append P (start_facts s.program) (joined_facts s past
          (cites (once (filter (λ k. not (k == 0)) ns)))) start
          (cites-all P (once (filter (λ k. not (k == 0)) ns)) h))
      go false e = rw e (cites-all P (once (filter (λ k. not (k == 0)) ns)) h)
