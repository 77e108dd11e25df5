-- A node that cites lemmas by numbers states the same after further lemmas.
use Rattle.std.proofs.Common.{◌≡◌, ◌≢◌, ℕ, zero, suc, ◌==◌, Bool, true, false, not, List, [], ◌∷◌, ◌++◌, filter, refl}
use Rattle.std.proofs.Common.{ap, sym, subst, ◌∙◌, arith}
use Rattle.std.specs.List.{Contains}
use Rattle.std.proofs.lemmas.Bool.{or_left, or_right}
use Rattle.std.proofs.lemmas.List.{length-append}
use Rattle.model.specs.Entries.{is_in}
use Rattle.model.specs.Facts.{Fact}
use Rattle.model.proofs.Membership.{filter-in, same_number}
use Rattle.cert_types.specs.cert_rules.Acceptance.{facts_of, facts_of_lemma, joined_facts, AcceptsFrom, facts_from}
use Rattle.cert_types.specs.cert_rules.AcceptsPlain.{start_facts}
use Rattle.cert_types.specs.cert_rules.Nodes.{Proof}
use Rattle.cert_types.specs.cert_rules.Setting.{Setting}
use Rattle.bound_fixpoint.specs.Needs.{cites, once, uses_from}
use Rattle.bound_fixpoint.proofs.CitedFacts.{once-in, other_is}
use Rattle.bound_fixpoint.proofs.FactLists.{IsNumbered, stating_numbered}

-- an earlier lemma is one among further lemmas
pub numbered-before : (past more : List (List Fact)) (n : ℕ) → IsNumbered past n → IsNumbered (past ++ more) n
numbered-before past more n h = record { least = h.least; earlier = omega (arith, h.earlier, length-append past more) }

-- an earlier lemma states the same facts among further lemmas
lemma-before : (past more : List (List Fact)) (n : ℕ) → IsNumbered past n
    → facts_of_lemma (past ++ more) n ≡ facts_of_lemma past n
lemma-before past more zero h = absurd (omega (arith, h.least))
lemma-before [] more (suc n) h = absurd (omega (arith, h.earlier))
lemma-before (facts ∷ past) more (suc zero) h = refl
lemma-before (facts ∷ past) more (suc (suc n)) h =
    lemma-before past more (suc n) (record { least = omega arith; earlier = omega (arith, h.earlier) })

-- a fact of a lemma is one of it among further lemmas
pub contains-before : (past more : List (List Fact)) (n : ℕ) (f : Fact) → Contains (facts_of_lemma past n) f
    → Contains (facts_of_lemma (past ++ more) n) f
contains-before past more n f h =
    subst (λ (facts : List Fact). Contains facts f) (sym (lemma-before past more n (stating_numbered past n f h))) h

module _ (s : Setting) (past more : List (List Fact)) where
  -- citing earlier lemmas states the same facts among further lemmas
  cites-before : (ns : List ℕ) → ((n : ℕ) → is_in n ns ≡ true → IsNumbered past n)
      → joined_facts s (past ++ more) (cites ns) ≡ joined_facts s past (cites ns)
  cites-before [] h = refl
  cites-before (n ∷ ns) h =
      ap (λ (facts : List Fact). facts ++ joined_facts s (past ++ more) (cites ns))
      (lemma-before past more n (h n (or_left (n == n) (is_in n ns) (same_number n))))
      ∙ ap (λ (facts : List Fact). facts_of_lemma past n ++ facts)
      (cites-before ns (λ m k. h m (or_right (m == n) (is_in m ns) k)))

  -- citing the virtual entry and earlier lemmas states the same facts among further lemmas
  pub uses-before : (ns : List ℕ) → ((n : ℕ) → is_in n ns ≡ true → n ≢ 0 → IsNumbered past n)
      → joined_facts s (past ++ more) (uses_from ns) ≡ joined_facts s past (uses_from ns)
  uses-before ns h = go (is_in 0 ns) refl
    where
      each : (n : ℕ) → is_in n (once (filter (λ k. not (k == 0)) ns)) ≡ true → IsNumbered past n
      each n m =
          let kept = filter-in (λ k. not (k == 0)) ns n (once-in (filter (λ k. not (k == 0)) ns) n m) in
          h n kept.0 (other_is n kept.1)

      same : joined_facts s (past ++ more) (cites (once (filter (λ k. not (k == 0)) ns)))
          ≡ joined_facts s past (cites (once (filter (λ k. not (k == 0)) ns)))
      same = cites-before (once (filter (λ k. not (k == 0)) ns)) each

      go : (v : Bool) → is_in 0 ns ≡ v → joined_facts s (past ++ more) (uses_from ns)
          ≡ joined_facts s past (uses_from ns)
      go true e = rw e (ap (λ (facts : List Fact). start_facts s.program ++ facts) same)
      go false e = rw e same

module _ (s : Setting) where
  -- the facts of appended lists of lemmas
  pub facts-append : (past : List (List Fact)) (xs ys : List Proof)
      → facts_from s past (xs ++ ys) ≡ facts_from s (facts_from s past xs) ys
  facts-append past [] ys = refl
  facts-append past (x ∷ xs) ys = facts-append (past ++ facts_of s past x ∷ []) xs ys

  -- lemmas that are accepted, with others that are accepted after them, are accepted together
  pub accepts-append : (past : List (List Fact)) (xs ys : List Proof) → AcceptsFrom s past xs
      → AcceptsFrom s (facts_from s past xs) ys → AcceptsFrom s past (xs ++ ys)
  accepts-append past [] ys h k = k
  accepts-append past (x ∷ xs) ys h k = (h.0, accepts-append (past ++ facts_of s past x ∷ []) xs ys h.1 k)
