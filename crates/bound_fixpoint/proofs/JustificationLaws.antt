-- The laws of nodes, and of justified derivations.
use Rattle.std.proofs.Common.{◌≡◌, ◌⊎◌, inl, inr, ℕ, zero, suc, true, List, [], ◌∷◌, ◌++◌, Some, None, sym, ◌∙◌}
use Rattle.std.proofs.Common.{ap, subst}
use Rattle.std.proofs.lemmas.List.{append_assoc}
use Rattle.std.specs.List.{Contains}
use Rattle.rule_questions.specs.model.Bounds.{Bound, IsBased}
use Rattle.rule_questions.specs.model.Facts.{Fact, Holds}
use Rattle.rule_questions.specs.cert_rules.Nodes.{ResultVariable}
use Rattle.rule_questions.specs.cert_rules.Setting.{Setting, IsFaithful}
use Rattle.rule_questions.specs.cert_rules.AcceptsPlain.{IsRule, start_facts}
use Rattle.rule_questions.specs.cert_rules.Acceptance.{facts_of_lemma, AcceptsLemmas, facts_of_lemmas}
use Rattle.rule_questions.specs.cert_rules.Laws.{HasBasedBound}
use Rattle.rule_questions.proofs.cert_rules.Soundness.{accepted_facts_hold, accepted_bounds_are_based}
use Rattle.rule_questions.proofs.cert_rules.GoodFacts.{IsGood}
use Rattle.rule_questions.proofs.cert_rules.Weaker.{start-good}
use Rattle.bound_fixpoint.specs.Keys.{has_key, at_key, place_fact, start_bounds}
use Rattle.bound_fixpoint.specs.Derivations.{Derivation, bound_found, bounds_of, number_in}
use Rattle.bound_fixpoint.specs.Needs.{lemmas_of}
use Rattle.bound_fixpoint.specs.Justification.{AreJustifiedAfter, AreJustified}
use Rattle.bound_fixpoint.specs.Stated.{SayBounds}
use Rattle.bound_fixpoint.specs.Laws.{NodesAreAccepted, JustifiedDerivationsHaveLemmas, DerivationsAreNumbered, JustifiedDerivationsHold}
use Rattle.bound_fixpoint.proofs.Cases.{either, none_some}
use Rattle.bound_fixpoint.proofs.ListMembers.{contains-cases, contains-none, contained-all}
use Rattle.bound_fixpoint.proofs.Keys.{has_key-all}
use Rattle.bound_fixpoint.proofs.DerivationLists.{first_of-cases, bounds_of-new, found-here}
use Rattle.bound_fixpoint.proofs.FactLists.{lemma-all}
use Rattle.bound_fixpoint.proofs.NodeLemmas.{node_lemma, node_states}
use Rattle.bound_fixpoint.proofs.StartFacts.{start_stated}
use Rattle.bound_fixpoint.proofs.DerivationFacts.{facts_of_derivations}
use Rattle.bound_fixpoint.proofs.JustifiedLemmas.{found_stated, derivations_say, all_have_lemmas}

-- the lemma of a node is accepted after all lemmas that say what is known, and states the bound that the node composes
pub nodes_accepted : NodesAreAccepted
nodes_accepted = record { accepted = node_lemma; states = node_states }

-- the lemmas of justified derivations are accepted
accepted : (s : Setting) (fs : List Derivation) → AreJustified s fs → AcceptsLemmas s (lemmas_of fs)
unfolding AcceptsLemmas
accepted s fs h = (all_have_lemmas s fs h).accepted

-- each lemma states the facts of its derivation
states : (s : Setting) (fs : List Derivation) → AreJustified s fs → facts_of_lemmas s (lemmas_of fs) ≡ facts_of_derivations fs
unfolding facts_of_lemmas
states s fs h = (all_have_lemmas s fs h).facts

-- justified derivations have lemmas
pub have_lemmas : JustifiedDerivationsHaveLemmas
have_lemmas = record { accepted = accepted; stated = states }

-- a bound that was found is a fact of the lemma whose number its key has
numbered : (s : Setting) (fs : List Derivation) → AreJustified s fs → (t i : ℕ) (b : Bound) → bound_found fs t i ≡ Some b
    → Contains (facts_of_lemma (facts_of_lemmas s (lemmas_of fs)) (number_in fs t i)) (place_fact t i b)
numbered s fs h t i b e =
    subst (λ (past : List (List Fact)). Contains (facts_of_lemma past (number_in fs t i)) (place_fact t i b))
    (sym (states s fs h)) (found_stated s fs (all_have_lemmas s fs h).sound t i b e)

-- a known bound of a rule was derived
of_rule : (s : Setting) (fs : List Derivation) (t i : ℕ) (b : Bound) → IsRule s.program t
    → bounds_of s.program fs t i ≡ Some b
    → bound_found fs t i ≡ Some b
of_rule s fs zero i b rule e = absurd (none_some rule.rule rule.numbered)
of_rule s fs (suc t) i b rule e = e

-- only the derivation that is justified after earlier ones states the bounds of its keys
alone_after : (s : Setting) (earlier fs : List Derivation) → AreJustifiedAfter s earlier fs → (f : Derivation) → Contains fs f → (t i : ℕ)
    → has_key f.keys t i ≡ true → bounds_of s.program (earlier ++ fs) t i ≡ Some f.bound
alone_after s earlier [] h f m t i k = absurd (contains-none f m)
alone_after s earlier (g ∷ fs) h f m t i k =
    either (contains-cases f g fs m) here (λ n. later (alone_after s (earlier ++ g ∷ []) fs h.1 f n t i k))
  where
    here : g ≡ f → bounds_of s.program (earlier ++ g ∷ fs) t i ≡ Some f.bound
    here e =
        let mine = subst (λ (x : Derivation). has_key x.keys t i ≡ true) (sym e) k in
        bounds_of-new s.program earlier (g ∷ fs) t i
        (has_key-all (λ (x : ResultVariable). at_key (bounds_of s.program earlier) x ≡ None) g.keys t i h.0.fresh mine)
        ∙ (found-here g fs t i mine ∙ ap (λ (x : Derivation). Some x.bound) e)

    later : bounds_of s.program ((earlier ++ g ∷ []) ++ fs) t i ≡ Some f.bound
        → bounds_of s.program (earlier ++ g ∷ fs) t i ≡ Some f.bound
    later rest =
        subst (λ (xs : List Derivation). bounds_of s.program xs t i ≡ Some f.bound) (append_assoc earlier (g ∷ []) fs) rest

-- the lemmas of justified derivations state all known bounds
say : (s : Setting) (fs : List Derivation) → AreJustified s fs
    → SayBounds s (facts_of_lemmas s (lemmas_of fs)) (number_in fs) (bounds_of s.program fs) (bounds_of s.program fs)
say s fs h =
    subst (λ (past : List (List Fact)). SayBounds s past (number_in fs) (bounds_of s.program fs)
    (bounds_of s.program fs)) (sym (states s fs h)) (derivations_say s fs (all_have_lemmas s fs h).sound)

-- a known bound of a rule has a number, and exactly one derivation states it
pub are_numbered : DerivationsAreNumbered
are_numbered = record {
  each = λ s fs h t i b rule e. numbered s fs h t i b (of_rule s fs t i b rule e);
  alone = λ s fs h f m t i k. alone_after s [] fs h.each f m t i k;
  say = say;
}

-- a known bound holds: it is one of the virtual entry, or a derived one
holds : (s : Setting) → IsFaithful s → (fs : List Derivation) → AreJustified s fs → (t i : ℕ) (b : Bound)
    → bounds_of s.program fs t i ≡ Some b → Holds s.program (place_fact t i b)
holds s faithful fs h t i b e = go (first_of-cases (start_bounds s.program t i) (bound_found fs t i) b e)
  where
    go : (start_bounds s.program t i ≡ Some b) ⊎ ((start_bounds s.program t i ≡ None) × (bound_found fs t i ≡ Some b))
        → Holds s.program (place_fact t i b)
    go (inl first) =
        (contained-all (IsGood s.program) (start_facts s.program) (place_fact t i b) (start-good s.program)
        (start_stated s.program t i b first).1).holds
    go (inr later) =
        contained-all (Holds s.program) (facts_of_lemma (facts_of_lemmas s (lemmas_of fs)) (number_in fs t i))
        (place_fact t i b)
        (lemma-all (Holds s.program) (facts_of_lemmas s (lemmas_of fs))
        (accepted_facts_hold.each s faithful (lemmas_of fs) (accepted s fs h)) (number_in fs t i))
        (numbered s fs h t i b later.1)

-- the bounds of justified derivations hold
pub hold : JustifiedDerivationsHold
hold = record { each = holds }

-- a known time of a rule has bases of at least 1
pub time_based : (s : Setting) → IsFaithful s → (fs : List Derivation) → AreJustified s fs → (t : ℕ) (b : Bound) → IsRule s.program t
    → bounds_of s.program fs t 0 ≡ Some b → IsBased b
time_based s faithful fs h t b rule e =
    contained-all HasBasedBound (facts_of_lemma (facts_of_lemmas s (lemmas_of fs)) (number_in fs t 0)) (place_fact t 0 b)
    (lemma-all HasBasedBound (facts_of_lemmas s (lemmas_of fs))
    (accepted_bounds_are_based.each s faithful (lemmas_of fs) (accepted s fs h)) (number_in fs t 0))
    (are_numbered.each s fs h t 0 b rule e)
