-- Where lemmas are refused is computed: so they are accepted exactly if no node of theirs is refused, and at most one is.
use Rattle.std.proofs.Common.{◌≡◌, ℕ, suc, ◌+◌, true, false, List, [], ◌∷◌, ◌++◌, length, Option, Some, None, is_none}
use Rattle.std.proofs.Common.{refl, ◌∙◌, ap, arith}
use Rattle.run_counting.specs.model.Facts.{Fact}
use Rattle.run_counting.proofs.model.Membership.{no_is_not_yes}
use Rattle.cert_rules.specs.Nodes.{Proof}
use Rattle.cert_rules.specs.Numbering.{nodes_of}
use Rattle.cert_rules.specs.Setting.{Setting}
use Rattle.cert_rules.specs.Acceptance.{facts_of, AcceptsNode, Accepts, AcceptsFrom, facts_from, AcceptsLemmas}
use Rattle.cert_rules.specs.Acceptance.{facts_of_lemmas}
use Rattle.cert_rules.specs.Reasons.{Reason}
use Rattle.cert_rules.specs.Checks.{IsFirstReason}
use Rattle.cert_rules.specs.Deciding.{Refused, At, first_reason, numbered, refused_node, refused_lemma, accepts}
use Rattle.cert_rules.specs.Refusals.{FailsFirst, IsRefusedAt}
use Rattle.cert_rules.specs.ReasonLaws.{LemmasAreDecided}
use Rattle.cert_rules.specs.RefusalLaws.{RefusalsAreInLine}
use Rattle.cert_rules.proofs.Deciding.{first-reasons-decided}
use Rattle.cert_rules.proofs.FirstFailures.{passed-none, none-passed, computed-fails, first-computed, one-computed}
use Rattle.cert_rules.proofs.FirstFailures.{none-computed}
use Rattle.cert_rules.proofs.Numbering.{accepted-nodes, nodes-accepted}

-- a test that nothing is there says so
nothing_there : {A : Type 0} (o : Option A) → is_none o ≡ true → o ≡ None
nothing_there None e = refl
nothing_there (Some x) e = absurd (no_is_not_yes false refl e)

module _ (s : Setting) where
  -- a node of this lemma is the first that isn't accepted after lemmas with these facts
  abbrev FailsAt : List (List Fact) → Proof → ℕ → Reason → Type 0
  FailsAt past proof node r = FailsFirst (AcceptsNode s past) (IsFirstReason s past) (nodes_of proof) node r

  -- a lemma is accepted exactly if no node is computed, and the node that is computed is the first to fail
  node-none : (past : List (List Fact)) (proof : Proof) → Accepts s past proof → refused_node s past proof ≡ None
  node-none past proof h =
      passed-none (AcceptsNode s past) (IsFirstReason s past) (first_reason s past) (first-reasons-decided.none s past)
      (first-reasons-decided.some s past) (nodes_of proof) 1 (accepted-nodes s past proof h)

  none-node : (past : List (List Fact)) (proof : Proof) → refused_node s past proof ≡ None → Accepts s past proof
  none-node past proof e =
      nodes-accepted s past proof
      (none-passed (AcceptsNode s past) (IsFirstReason s past) (first_reason s past) (first-reasons-decided.none s past)
      (first-reasons-decided.some s past) (nodes_of proof) 1 e)

  fails-node : (past : List (List Fact)) (proof : Proof) (i : ℕ) (r : Reason) → refused_node s past proof ≡ Some (At i r)
      → FailsAt past proof i r
  fails-node past proof i r =
      computed-fails (AcceptsNode s past) (IsFirstReason s past) (first_reason s past) (first-reasons-decided.none s past)
      (first-reasons-decided.some s past) (nodes_of proof) i r

  node-fails : (past : List (List Fact)) (proof : Proof) (i : ℕ) (r : Reason) → FailsAt past proof i r
      → refused_node s past proof ≡ Some (At i r)
  node-fails past proof i r =
      first-computed (AcceptsNode s past) (IsFirstReason s past) (first_reason s past) (first-reasons-decided.none s past)
      (first-reasons-decided.some s past) (nodes_of proof) i r

  -- the facts of the lemmas before, with those of one more lemma
  abbrev after : List (List Fact) → Proof → List (List Fact)
  after past proof = past ++ facts_of s past proof ∷ []

  -- lemmas are accepted exactly if none is computed
  lemma-none : (past : List (List Fact)) (proofs : List Proof) (n : ℕ) → AcceptsFrom s past proofs
      → refused_lemma s past n proofs ≡ None
  lemma-none past [] n h = refl
  lemma-none past (p ∷ proofs) n h =
      ap (λ (o : Option (Refused Reason)). numbered n o (refused_lemma s (after past p) (suc n) proofs)) (node-none past p h.0)
      ∙ lemma-none (after past p) proofs (suc n) h.1

  none-lemma : (past : List (List Fact)) (proofs : List Proof) (n : ℕ) → refused_lemma s past n proofs ≡ None
      → AcceptsFrom s past proofs
  none-lemma past [] n e = tt
  none-lemma past (p ∷ proofs) n e = go (refused_node s past p) refl e (none-lemma (after past p) proofs (suc n))
    where
      go : (o : Option (Refused Reason)) → refused_node s past p ≡ o
          → numbered n o (refused_lemma s (after past p) (suc n) proofs) ≡ None
          → (refused_lemma s (after past p) (suc n) proofs ≡ None → AcceptsFrom s (after past p) proofs)
          → AcceptsFrom s past (p ∷ proofs)
      go None w k later = (none-node past p w, later k)
      go (Some x) w k later = absurd (none-computed _ (At n x) k refl)

  -- a cut of a list of lemmas at this number, before a lemma that fails after accepted ones
  record IsCut (past : List (List Fact)) (proofs : List Proof) (number node : ℕ) (r : Reason) : Type 0 where
    before : List Proof
    proof : Proof
    behind : List Proof
    whole : proofs ≡ before ++ proof ∷ behind
    count : number ≡ suc (length before)
    accepted : AcceptsFrom s past before
    first : FailsAt (facts_from s past before) proof node r

  -- the lemma that is computed is at such a cut
  cut-computed : (past : List (List Fact)) (proofs : List Proof) (n m i : ℕ) (r : Reason)
      → refused_lemma s past (suc n) proofs ≡ Some (At m (At i r)) → (k : ℕ) × (m ≡ n + k) × IsCut past proofs k i r
  cut-computed past [] n m i r e = absurd (none-computed _ (At m (At i r)) refl e)
  cut-computed past (p ∷ proofs) n m i r e =
      go (refused_node s past p) refl e (cut-computed (after past p) proofs (suc n) m i r)
    where
      go : (o : Option (Refused Reason)) → refused_node s past p ≡ o
          → numbered (suc n) o (refused_lemma s (after past p) (suc (suc n)) proofs) ≡ Some (At m (At i r))
          → (refused_lemma s (after past p) (suc (suc n)) proofs ≡ Some (At m (At i r))
          → (k : ℕ) × (m ≡ suc n + k) × IsCut (after past p) proofs k i r)
          → (k : ℕ) × (m ≡ n + k) × IsCut past (p ∷ proofs) k i r
      go None w k later =
          let l = later k in (
            suc l.0,
            omega (arith, l.1),
            record {
              before = p ∷ l.2.before;
              proof = l.2.proof;
              behind = l.2.behind;
              whole = ap (λ (ps : List Proof). p ∷ ps) l.2.whole;
              count = ap (λ (j : ℕ). suc j) l.2.count;
              accepted = (none-node past p w, l.2.accepted);
              first = l.2.first;
            },
          )
      go (Some x) w k later = (
        1,
        omega (arith, number k),
        record {
          before = [];
          proof = p;
          behind = proofs;
          whole = refl;
          count = refl;
          accepted = tt;
          first = fails-node past p i r (w ∙ ap Some (same k));
        },
      )
        where
          number : Some (At (suc n) x) ≡ Some (At m (At i r)) → suc n ≡ m
          number l = cc

          same : Some (At (suc n) x) ≡ Some (At m (At i r)) → x ≡ At i r
          same l = cc

  -- the lemma that fails after accepted ones is computed
  computed-cut : (past : List (List Fact)) (before : List Proof) (p : Proof) (behind : List Proof) (n i : ℕ) (r : Reason)
      → AcceptsFrom s past before → FailsAt (facts_from s past before) p i r
      → refused_lemma s past n (before ++ p ∷ behind) ≡ Some (At (n + length before) (At i r))
  computed-cut past [] p behind n i r h f =
      ap (λ (o : Option (Refused Reason)). numbered n o (refused_lemma s (after past p) (suc n) behind)) (node-fails past p i r f)
      ∙ ap (λ (m : ℕ). Some (At m (At i r))) (omega arith)
  computed-cut past (q ∷ before) p behind n i r h f =
      ap (λ (o : Option (Refused Reason)). numbered n o (refused_lemma s (after past q) (suc n) (before ++ p ∷ behind)))
      (node-none past q h.0)
      ∙ (computed-cut (after past q) before p behind (suc n) i r h.1 f ∙ ap (λ (m : ℕ). Some (At m (At i r))) (omega arith))

-- lemmas are refused where that is computed
pub computed-refused : (s : Setting) (proofs : List Proof) (l i : ℕ) (r : Reason)
    → refused_lemma s [] 1 proofs ≡ Some (At l (At i r)) → IsRefusedAt s proofs l i r
unfolding AcceptsLemmas facts_of_lemmas
computed-refused s proofs l i r e =
    let k = cut-computed s [] proofs 0 l i r e in record {
      before = k.2.before;
      proof = k.2.proof;
      behind = k.2.behind;
      whole = k.2.whole;
      number = omega (arith, k.1, k.2.count);
      accepted = k.2.accepted;
      first = k.2.first;
    }

-- where lemmas are refused is computed
pub refused-computed : (s : Setting) (proofs : List Proof) (l i : ℕ) (r : Reason) → IsRefusedAt s proofs l i r
    → refused_lemma s [] 1 proofs ≡ Some (At l (At i r))
unfolding AcceptsLemmas facts_of_lemmas
refused-computed s proofs l i r h =
    ap (refused_lemma s [] 1) h.whole
    ∙ (computed-cut s [] h.before h.proof h.behind 1 i r h.accepted h.first
    ∙ ap (λ (m : ℕ). Some (At m (At i r))) (omega (arith, h.number)))

-- lemmas are accepted exactly if no refusal is computed
pub accepted-computed : (s : Setting) (proofs : List Proof) → AcceptsLemmas s proofs → refused_lemma s [] 1 proofs ≡ None
unfolding AcceptsLemmas
accepted-computed s proofs h = lemma-none s [] proofs 1 h

pub computed-accepted : (s : Setting) (proofs : List Proof) → refused_lemma s [] 1 proofs ≡ None → AcceptsLemmas s proofs
unfolding AcceptsLemmas
computed-accepted s proofs e = none-lemma s [] proofs 1 e

-- the computed test of a list of lemmas says yes exactly if all are accepted
pub lemmas-decided : LemmasAreDecided
lemmas-decided = record {
  each = λ s proofs. (
    (λ e. computed-accepted s proofs (nothing_there (refused_lemma s [] 1 proofs) e)),
    (λ h. ap is_none (accepted-computed s proofs h)),
  );
}

-- a lemma of which the test says yes is accepted, and one of which it says no isn't
pub accepted : (s : Setting) (past : List (List Fact)) (proof : Proof) → accepts s past proof ≡ true → Accepts s past proof
accepted s past proof e = none-node s past proof (nothing_there (refused_node s past proof) e)

pub refused : (s : Setting) (past : List (List Fact)) (proof : Proof) → accepts s past proof ≡ false
    → ¬ (Accepts s past proof)
refused s past proof e h = no_is_not_yes (accepts s past proof) e (ap is_none (node-none s past proof h))

-- refusals agree with acceptance
pub refusals-in-line : RefusalsAreInLine
refusals-in-line = record {
  none = λ s proofs. (
    (λ h. record {
      none = λ l i r k. none-computed _ (At l (At i r)) (accepted-computed s proofs h) (refused-computed s proofs l i r k);
    }),
    (λ h. go s proofs (refused_lemma s [] 1 proofs) refl h.none),
  );
  one = λ s proofs l m i j q r h k.
      let same = one-computed _ l m (At i q) (At j r) (refused-computed s proofs l i q h) (refused-computed s proofs m j r k) in
      (same.0, node i j q r same.1, reason i j q r same.1);
}
  where
    go : (s : Setting) (proofs : List Proof) (o : Option (Refused (Refused Reason))) → refused_lemma s [] 1 proofs ≡ o
        → ((l i : ℕ) (r : Reason) → ¬ (IsRefusedAt s proofs l i r)) → AcceptsLemmas s proofs
    go s proofs None e h = computed-accepted s proofs e
    go s proofs (Some (At l (At i r))) e h = absurd (h l i r (computed-refused s proofs l i r e))

    node : (i j : ℕ) (q r : Reason) → At i q ≡ At j r → i ≡ j
    node i j q r e = cc

    reason : (i j : ℕ) (q r : Reason) → At i q ≡ At j r → q ≡ r
    reason i j q r e = cc
