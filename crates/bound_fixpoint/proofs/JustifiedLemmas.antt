-- The lemmas of justified derivations are accepted, and each states the facts of its derivation: by induction over the
-- derivations, each of which is justified over bounds that earlier ones give.
use Rattle.std.proofs.Common.{◌≡◌, ◌⊎◌, inl, inr, ℕ, zero, suc, true, List, [], ◌∷◌, ◌++◌, map, Some, None, refl, sym}
use Rattle.std.proofs.Common.{◌∙◌, ap, subst, All}
use Rattle.std.specs.List.{Contains}
use Rattle.std.proofs.lemmas.List.{append_assoc, append-nil, map-append}
use Rattle.std.proofs.lemmas.List.Elements.{All-nil, All-push, All-weaker, All-map, All-contains_itself}
use Rattle.rule_questions.specs.model.Bounds.{Bound}
use Rattle.rule_questions.specs.model.Facts.{Fact, Time, Size, Cost}
use Rattle.rule_questions.specs.cert_rules.Nodes.{ResultVariable}
use Rattle.rule_questions.specs.cert_rules.Setting.{Setting}
use Rattle.rule_questions.specs.cert_rules.AcceptsPlain.{IsRule}
use Rattle.rule_questions.specs.cert_rules.Acceptance.{facts_of, facts_of_lemma, Accepts, AcceptsFrom, facts_from}
use Rattle.bound_fixpoint.specs.Keys.{Bounds, at_key, has_key, place_fact, fact_at, start_bounds}
use Rattle.bound_fixpoint.specs.Derivations.{Derivation, bound_found, keys_of, bounds_of, number_from, number_in, facts_of_derivation}
use Rattle.bound_fixpoint.specs.Needs.{lemma_by}
use Rattle.bound_fixpoint.specs.Justification.{IsJustified, IsJustifiedAfter, AreJustifiedAfter, AreJustified}
use Rattle.bound_fixpoint.proofs.Cases.{either, none_some}
use Rattle.bound_fixpoint.proofs.ListMembers.{contains-either, contains-cases, contains-none, contained-all}
use Rattle.bound_fixpoint.proofs.Keys.{contained-has_key}
use Rattle.bound_fixpoint.proofs.DerivationLists.{first_of-some, first_of-cases, bounds_of-kept, bounds_of-new, found-here}
use Rattle.bound_fixpoint.proofs.DerivationLists.{found-append, number_in-kept}
use Rattle.bound_fixpoint.specs.Stated.{IsFactOf, AreFactsOf, IsStatedBy, SayBounds}
use Rattle.bound_fixpoint.proofs.FactLists.{place_fact_of}
use Rattle.bound_fixpoint.proofs.NodeLemmas.{facts_with, node_lemma, node_states}
use Rattle.bound_fixpoint.proofs.StartFacts.{start_stated, start_known}
use Rattle.bound_fixpoint.proofs.JustifiedKeys.{IsKeyOf, justified_key}
use Rattle.bound_fixpoint.proofs.DerivationFacts.{facts_of_derivations, derivation_states, derivation_states_alone, found_lemma}

-- the properties of justified derivations: their keys are those of rules, and the facts that they state are known
-- after them
pub record AreSound (s : Setting) (fs : List Derivation) : Type 0 where
  pub keys : (f : Derivation) → Contains fs f → (t i : ℕ) → has_key f.keys t i ≡ true → IsKeyOf s.program f.keys t i
  pub known : All (AreFactsOf (bounds_of s.program fs)) (facts_of_derivations fs)

-- the empty list has these properties
none_sound : (s : Setting) → AreSound s []
none_sound s = record {
  keys = λ f h. absurd (contains-none f h);
  known = All-nil (AreFactsOf (bounds_of s.program []));
}

-- a fact of known bounds is one where these are kept
fact_kept : (b all : Bounds) → ((t i : ℕ) (c : Bound) → b t i ≡ Some c → all t i ≡ Some c) → (f : Fact) → IsFactOf b f
    → IsFactOf all f
fact_kept b all keeps (Time t c) h = keeps t 0 c h
fact_kept b all keeps (Size t zero c) h = absurd (none_some c h)
fact_kept b all keeps (Size t (suc i) c) h = keeps t (suc i) c h
fact_kept b all keeps (Cost t c) h = absurd h

module _ (s : Setting) where
  -- a bound of sound derivations is that of a rule
  pub found_rule : (fs : List Derivation) → AreSound s fs → (t i : ℕ) (c : Bound) → bound_found fs t i ≡ Some c
      → IsRule s.program t
  found_rule fs sound t i c e =
      let at = found_lemma fs t i c e in
      (sound.keys at.0 at.1 t i at.2).rule

  -- the number of a key of a rule
  rule_number : (fs : List Derivation) (t i : ℕ) → IsRule s.program t → number_in fs t i ≡ number_from 0 fs t i
  rule_number fs zero i rule = absurd (none_some rule.rule rule.numbered)
  rule_number fs (suc t) i rule = refl

  -- a bound of sound derivations is a fact of the lemma with its key's number
  pub found_stated : (fs : List Derivation) → AreSound s fs → (t i : ℕ) (c : Bound) → bound_found fs t i ≡ Some c
      → Contains (facts_of_lemma (facts_of_derivations fs) (number_in fs t i)) (place_fact t i c)
  found_stated fs sound t i c e =
      let at = found_lemma fs t i c e in
      let lemma = ap (facts_of_lemma (facts_of_derivations fs)) (rule_number fs t i (found_rule fs sound t i c e)) ∙ at.4 in
      subst (λ (facts : List Fact). Contains facts (place_fact t i c)) (sym lemma)
      (subst (λ (x : Bound). Contains (facts_of_derivation at.0) (place_fact t i x)) at.3 (derivation_states at.0 t i at.2))

  -- the lemma of a rule's time states nothing else
  pub found_alone : (fs : List Derivation) → AreSound s fs → (t : ℕ) (c : Bound) → bound_found fs t 0 ≡ Some c
      → facts_of_lemma (facts_of_derivations fs) (number_in fs t 0) ≡ Time t c ∷ []
  found_alone fs sound t c e =
      let at = found_lemma fs t 0 c e in
      let lemma = ap (facts_of_lemma (facts_of_derivations fs)) (rule_number fs t 0 (found_rule fs sound t 0 c e)) ∙ at.4 in
      lemma ∙ (derivation_states_alone at.0 t ((sound.keys at.0 at.1 t 0 at.2).alone refl)
      ∙ ap (λ (x : Bound). Time t x ∷ []) at.3)

  -- known bounds after earlier derivations are stated by their lemmas, by the numbers in a list that begins with them
  module _ (before between earlier more : List Derivation) (begins : before ++ between ≡ earlier)
      (sound : AreSound s earlier) where
    -- the number of the lemma of a key in that list
    abbrev number : ℕ → ℕ → ℕ
    number = number_in (earlier ++ more)

    -- a bound known after a prefix stays known
    keeps : (t i : ℕ) (c : Bound) → bounds_of s.program before t i ≡ Some c → bounds_of s.program earlier t i ≡ Some c
    keeps t i c e =
        subst (λ (fs : List Derivation). bounds_of s.program fs t i ≡ Some c) begins
        (bounds_of-kept s.program before between t i c e)

    -- a derived bound of a prefix stays derived
    found_kept : (t i : ℕ) (c : Bound) → bound_found before t i ≡ Some c → bound_found earlier t i ≡ Some c
    found_kept t i c e =
        subst (λ (fs : List Derivation). bound_found fs t i ≡ Some c) begins
        (found-append before between t i ∙ first_of-some (bound_found before t i) (bound_found between t i) c e)

    -- a bound known after a prefix is stated
    stated : (t i : ℕ) (c : Bound) → bounds_of s.program before t i ≡ Some c
        → IsStatedBy s (facts_of_derivations earlier) number t i c
    stated t i c e = go (first_of-cases (start_bounds s.program t i) (bound_found before t i) c e)
      where
        go : (start_bounds s.program t i ≡ Some c)
            ⊎ ((start_bounds s.program t i ≡ None) × (bound_found before t i ≡ Some c))
            → IsStatedBy s (facts_of_derivations earlier) number t i c
        go (inl first) =
            let at = start_stated s.program t i c first in
            inl (subst (λ (n : ℕ). number n i ≡ 0) (sym at.0) refl, at.1)
        go (inr later) =
            let there = found_kept t i c later.1 in
            inr (subst (λ (n : ℕ). Contains (facts_of_lemma (facts_of_derivations earlier) n) (place_fact t i c))
            (sym (number_in-kept earlier more t i c there)) (found_stated earlier sound t i c there))

    -- the lemma of a rule's time states nothing else
    alone : (t : ℕ) (c : Bound) → IsRule s.program t → bounds_of s.program before t 0 ≡ Some c
        → facts_of_lemma (facts_of_derivations earlier) (number t 0) ≡ Time t c ∷ []
    alone zero c rule e = absurd (none_some rule.rule rule.numbered)
    alone (suc t) c rule e =
        let there = found_kept (suc t) 0 c e in
        ap (facts_of_lemma (facts_of_derivations earlier)) (number_in-kept earlier more (suc t) 0 c there)
        ∙ found_alone earlier sound (suc t) c there

    -- the lemmas state the known bounds
    earlier_say : SayBounds s (facts_of_derivations earlier) number (bounds_of s.program before) (bounds_of s.program earlier)
    earlier_say = record {
      keeps = keeps;
      are = sound.known;
      start = start_known s.program (bounds_of s.program earlier) (record {
        each = λ t i c e. first_of-some (start_bounds s.program t i) (bound_found earlier t i) c e;
      });
      stated = stated;
      alone = alone;
    }

    -- the lemma of a derivation that is justified after them
    module _ (f : Derivation) (stands : IsJustified s (bounds_of s.program before) f) where
      -- this lemma is accepted
      derivation_lemma : Accepts s (facts_of_derivations earlier) (lemma_by number f.node f.premises)
      derivation_lemma =
          node_lemma s (facts_of_derivations earlier) number (bounds_of s.program before) (bounds_of s.program earlier)
          earlier_say f.node f.premises stands.accepted stands.premises stands.known

      -- this lemma states the facts of the derivation
      lemma_states : facts_of s (facts_of_derivations earlier) (lemma_by number f.node f.premises) ≡ facts_of_derivation f
      lemma_states =
          node_states s (facts_of_derivations earlier) number (bounds_of s.program before) (bounds_of s.program earlier)
          earlier_say f.node f.premises stands.accepted stands.premises stands.known
          ∙ (ap (λ (c : Bound). facts_with c (keys_of s.program f.node)) (sym stands.bound)
          ∙ ap (facts_with f.bound) (sym stands.keys))

  -- sound derivations stay sound with one more that is justified after them
  module _ (earlier : List Derivation) (sound : AreSound s earlier) (f : Derivation) (after : IsJustifiedAfter s earlier f) where
    -- the bounds known after all of them
    abbrev new_bounds : Bounds
    new_bounds = bounds_of s.program (earlier ++ f ∷ [])

    -- the keys of the further derivation are those of rules
    own_keys : (g : Derivation) → Contains (f ∷ []) g → (t i : ℕ) → has_key g.keys t i ≡ true → IsKeyOf s.program g.keys t i
    own_keys g m =
        either (contains-cases g f [] m)
        (λ e. subst (λ (x : Derivation). (t i : ℕ) → has_key x.keys t i ≡ true → IsKeyOf s.program x.keys t i) e
        (justified_key s (bounds_of s.program after.before) f after.stands))
        (λ none. absurd (contains-none g none))

    -- each of its facts is known, since none of its keys had a bound
    own_fact : (k : ResultVariable) → Contains f.keys k → IsFactOf new_bounds (fact_at k f.bound)
    own_fact k m =
        place_fact_of new_bounds k.rule k.place f.bound
        (bounds_of-new s.program earlier (f ∷ []) k.rule k.place
        (contained-all (λ x. at_key (bounds_of s.program earlier) x ≡ None) f.keys k after.fresh m)
        ∙ found-here f [] k.rule k.place (contained-has_key f.keys k m))

    -- the facts of the new derivation are known
    own_known : AreFactsOf new_bounds (facts_of_derivation f)
    own_known =
        All-map (IsFactOf new_bounds) (λ k. fact_at k f.bound) f.keys
        (All-weaker (Contains f.keys) (λ k. IsFactOf new_bounds (fact_at k f.bound)) own_fact f.keys
        (All-contains_itself f.keys))

    -- the facts of the earlier derivations are still known
    still_known : All (AreFactsOf new_bounds) (facts_of_derivations earlier)
    still_known =
        All-weaker (AreFactsOf (bounds_of s.program earlier)) (AreFactsOf new_bounds)
        (λ facts h. All-weaker (IsFactOf (bounds_of s.program earlier)) (IsFactOf new_bounds)
        (fact_kept (bounds_of s.program earlier) new_bounds (bounds_of-kept s.program earlier (f ∷ []))) facts h)
        (facts_of_derivations earlier) sound.known

    -- the earlier derivations with the further one are sound
    one_more : AreSound s (earlier ++ f ∷ [])
    one_more = record {
      keys = λ g m. either (contains-either g earlier (f ∷ []) m) (sound.keys g) (own_keys g);
      known = subst (All (AreFactsOf new_bounds)) (sym (map-append facts_of_derivation earlier (f ∷ [])))
          (All-push (AreFactsOf new_bounds) (facts_of_derivations earlier) (facts_of_derivation f) still_known own_known);
    }

  -- the lemmas of sound derivations state the known bounds
  pub derivations_say : (fs : List Derivation) → AreSound s fs
      → SayBounds s (facts_of_derivations fs) (number_in fs) (bounds_of s.program fs) (bounds_of s.program fs)
  derivations_say fs sound =
      subst (λ (gs : List Derivation). SayBounds s (facts_of_derivations fs) (number_in gs) (bounds_of s.program fs)
      (bounds_of s.program fs)) (append-nil fs) (earlier_say fs [] fs [] (append-nil fs) sound)

  -- the lemmas of derivations that are justified after earlier ones
  pub record HaveLemmas (fs earlier rest : List Derivation) : Type 0 where
    pub accepted : AcceptsFrom s (facts_of_derivations earlier) (map (λ f. lemma_by (number_in fs) f.node f.premises) rest)
    pub facts : facts_from s (facts_of_derivations earlier) (map (λ f. lemma_by (number_in fs) f.node f.premises) rest)
        ≡ facts_of_derivations fs
    pub sound : AreSound s fs

  -- derivations that are justified after sound ones have lemmas
  have_lemmas : (fs earlier rest : List Derivation) → earlier ++ rest ≡ fs → AreSound s earlier → AreJustifiedAfter s earlier rest
      → HaveLemmas fs earlier rest
  have_lemmas fs earlier [] whole sound h =
      let same : earlier ≡ fs = sym (append-nil earlier) ∙ whole in
      record { accepted = tt; facts = ap facts_of_derivations same; sound = subst (AreSound s) same sound }
  have_lemmas fs earlier (f ∷ rest) whole sound h =
      onward (have_lemmas fs (earlier ++ f ∷ []) rest (append_assoc earlier (f ∷ []) rest ∙ whole)
      (one_more earlier sound f h.0) h.1)
    where
      accepted_first : Accepts s (facts_of_derivations earlier) (lemma_by (number_in fs) f.node f.premises)
      accepted_first =
          subst (λ (gs : List Derivation). Accepts s (facts_of_derivations earlier) (lemma_by (number_in gs) f.node f.premises)) whole
          (derivation_lemma h.0.before h.0.begins.between earlier (f ∷ rest) h.0.begins.same sound f h.0.stands)

      states_first : facts_of s (facts_of_derivations earlier) (lemma_by (number_in fs) f.node f.premises) ≡ facts_of_derivation f
      states_first =
          subst (λ (gs : List Derivation). facts_of s (facts_of_derivations earlier) (lemma_by (number_in gs) f.node f.premises)
          ≡ facts_of_derivation f) whole
          (lemma_states h.0.before h.0.begins.between earlier (f ∷ rest) h.0.begins.same sound f h.0.stands)

      past : facts_of_derivations (earlier ++ f ∷ [])
          ≡ facts_of_derivations earlier ++ facts_of s (facts_of_derivations earlier) (lemma_by (number_in fs) f.node f.premises) ∷ []
      past =
          map-append facts_of_derivation earlier (f ∷ [])
          ∙ ap (λ (facts : List Fact). facts_of_derivations earlier ++ facts ∷ []) (sym states_first)

      onward : HaveLemmas fs (earlier ++ f ∷ []) rest → HaveLemmas fs earlier (f ∷ rest)
      onward later = record {
        accepted = (
          accepted_first,
          subst (λ (facts : List (List Fact)). AcceptsFrom s facts
              (map (λ g. lemma_by (number_in fs) g.node g.premises) rest)) past later.accepted,
        );
        facts =
            ap (λ (facts : List (List Fact)). facts_from s facts
            (map (λ g. lemma_by (number_in fs) g.node g.premises) rest)) (sym past)
            ∙ later.facts;
        sound = later.sound;
      }

  -- all derivations of a justified list have lemmas
  pub all_have_lemmas : (fs : List Derivation) → AreJustified s fs → HaveLemmas fs [] fs
  all_have_lemmas fs h = have_lemmas fs [] fs refl (none_sound s) h.each
