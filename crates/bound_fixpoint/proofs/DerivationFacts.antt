-- The facts of derivations by number: a derived bound is a fact of the lemma with its key's number.
use Rattle.std.proofs.Common.{◌≡◌, ℕ, suc, ◌+◌, true, false, List, [], ◌∷◌, map, Some, refl, sym, ◌∙◌}
use Rattle.std.proofs.Common.{ap, arith}
use Rattle.std.specs.List.{Contains}
use Rattle.rule_questions.specs.model.Bounds.{Bound}
use Rattle.rule_questions.specs.model.Facts.{Fact, Time}
use Rattle.rule_questions.specs.cert_rules.Nodes.{ResultVariable}
use Rattle.rule_questions.specs.cert_rules.Acceptance.{facts_of_lemma}
use Rattle.bound_fixpoint.specs.Keys.{key, time_key, has_key, place_fact, fact_at}
use Rattle.bound_fixpoint.specs.Derivations.{Derivation, bound_found, number_from, facts_of_derivation}
use Rattle.bound_fixpoint.proofs.Cases.{by_cases, none_some, some_same}
use Rattle.bound_fixpoint.proofs.ListMembers.{contains-first, contains-later, contains-map}
use Rattle.bound_fixpoint.proofs.Keys.{has_key-contained}
use Rattle.bound_fixpoint.proofs.DerivationLists.{found-here, found-later}

-- the facts of these derivations, one list for each
abbrev pub facts_of_derivations : List Derivation → List (List Fact)
facts_of_derivations fs = map facts_of_derivation fs

-- a derivation states its bound at each of its keys
pub derivation_states : (f : Derivation) (t i : ℕ) → has_key f.keys t i ≡ true
    → Contains (facts_of_derivation f) (place_fact t i f.bound)
derivation_states f t i m =
    contains-map (λ (k : ResultVariable). fact_at k f.bound) (key t i) f.keys (has_key-contained f.keys t i m)

-- a derivation whose only key is the time of a rule states this time and nothing else
pub derivation_states_alone : (f : Derivation) (t : ℕ) → f.keys ≡ time_key t ∷ [] → facts_of_derivation f ≡ Time t f.bound ∷ []
derivation_states_alone f t e = ap (map (λ (k : ResultVariable). fact_at k f.bound)) e

-- the derivation of a key, by its number
pub record IsAtNumber (n : ℕ) (fs : List Derivation) (t i : ℕ) (c : Bound) (m : ℕ) : Type 0 where
  pub derivation : Derivation
  pub among : Contains fs derivation
  pub has : has_key derivation.keys t i ≡ true
  pub bound : derivation.bound ≡ c
  pub place : ℕ
  pub number : m ≡ suc (n + place)
  pub lemma : facts_of_lemma (facts_of_derivations fs) (suc place) ≡ facts_of_derivation derivation

-- a derived key has the number of a derivation with this key
pub at_number : (n : ℕ) (fs : List Derivation) (t i : ℕ) (c : Bound) → bound_found fs t i ≡ Some c
    → IsAtNumber n fs t i c (number_from n fs t i)
at_number n [] t i c e = absurd (none_some c e)
at_number n (f ∷ fs) t i c e =
    by_cases (has_key f.keys t i) here (λ m. later m (at_number (suc n) fs t i c (sym (found-later f fs t i m) ∙ e)))
  where
    here : has_key f.keys t i ≡ true → IsAtNumber n (f ∷ fs) t i c (number_from n (f ∷ fs) t i)
    here m = record {
      derivation = f;
      among = contains-first f fs;
      has = m;
      bound = some_same f.bound c (sym (found-here f fs t i m) ∙ e);
      place = 0;
      number = rw m (omega arith);
      lemma = refl;
    }

    later : has_key f.keys t i ≡ false → IsAtNumber (suc n) fs t i c (number_from (suc n) fs t i)
        → IsAtNumber n (f ∷ fs) t i c (number_from n (f ∷ fs) t i)
    later m rest = record {
      derivation = rest.derivation;
      among = contains-later rest.derivation f fs rest.among;
      has = rest.has;
      bound = rest.bound;
      place = suc rest.place;
      number = rw m (omega (arith, rest.number));
      lemma = rest.lemma;
    }

-- the lemma with the number of a derived key states all facts of a derivation with this key
pub found_lemma : (fs : List Derivation) (t i : ℕ) (c : Bound) → bound_found fs t i ≡ Some c
    → (f : Derivation) × Contains fs f × (has_key f.keys t i ≡ true) × (f.bound ≡ c)
    × (facts_of_lemma (facts_of_derivations fs) (number_from 0 fs t i) ≡ facts_of_derivation f)
found_lemma fs t i c e =
    let at = at_number 0 fs t i c e in
    let number : number_from 0 fs t i ≡ suc at.place = omega (arith, at.number) in
    (at.derivation, at.among, at.has, at.bound, ap (facts_of_lemma (facts_of_derivations fs)) number ∙ at.lemma)
