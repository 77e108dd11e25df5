-- The cited facts of a lemma by the numbers of its premises: they are accepted, and state the known bound at each
-- premise.
use Rattle.std.proofs.Common.{◌≡◌, ◌≢◌, inl, inr, ℕ, zero, suc, true, List, map, Some, sym, ◌∙◌, subst}
use Rattle.std.proofs.Common.{All}
use Rattle.std.specs.List.{Contains}
use Rattle.rule_questions.specs.model.Bounds.{Bound}
use Rattle.rule_questions.specs.model.Facts.{Fact}
use Rattle.rule_questions.specs.model.Entries.{is_in}
use Rattle.rule_questions.proofs.model.Membership.{contains-is_in, is_in-contained}
use Rattle.rule_questions.specs.cert_rules.Nodes.{ResultVariable}
use Rattle.rule_questions.specs.cert_rules.Known.{IsKnown, time_in, size_in}
use Rattle.rule_questions.specs.cert_rules.Setting.{Setting}
use Rattle.rule_questions.specs.cert_rules.AcceptsPlain.{start_facts}
use Rattle.rule_questions.specs.cert_rules.Acceptance.{facts_of_lemma, joined_facts, AllAccepted}
use Rattle.bound_fixpoint.specs.Keys.{Bounds, key, at_key, has_key, place_fact, size_by}
use Rattle.bound_fixpoint.specs.Needs.{uses_for}
use Rattle.bound_fixpoint.specs.Stated.{IsFactOf, AreFactsOf, IsStatedBy, SayBounds}
use Rattle.bound_fixpoint.proofs.ListMembers.{contains-none, contains-map, map-contains, contained-all}
use Rattle.bound_fixpoint.proofs.Keys.{has_key-contained}
use Rattle.bound_fixpoint.proofs.FactLists.{IsNumbered, same_time, same_size, no_size}
use Rattle.bound_fixpoint.proofs.FactLists.{stating_numbered}
use Rattle.bound_fixpoint.proofs.FactLists.{lemma-all}
use Rattle.bound_fixpoint.proofs.CitedFacts.{uses-state, uses-accepted, uses-all}

module _ (s : Setting) (past : List (List Fact)) (number : ℕ → ℕ → ℕ) (b all : Bounds)
    (say : SayBounds s past number b all) (premises : List ResultVariable) (known : All (λ k. IsKnown (at_key b k)) premises) where
  -- the number of the lemma that states the bound of a key
  abbrev number_of : ResultVariable → ℕ
  number_of k = number k.rule k.place

  -- the number of each premise is that of an earlier lemma, or it is a bound of the virtual entry
  pub premises_numbered : (n : ℕ) → is_in n (map number_of premises) ≡ true → n ≢ 0 → IsNumbered past n
  premises_numbered n m other =
      let k = map-contains number_of n premises (contains-is_in (map number_of premises) n m) in
      let here = contained-all (λ x. IsKnown (at_key b x)) premises k.0 known k.1 in
      subst (λ (x : ℕ). IsNumbered past x) k.2
      (at k.0 here.0 (λ z. other (sym k.2 ∙ z)) (say.stated k.0.rule k.0.place here.0 here.1))
    where
      at : (k : ResultVariable) (c : Bound) → number_of k ≢ 0 → IsStatedBy s past number k.rule k.place c
          → IsNumbered past (number_of k)
      at k c other (inl first) = absurd (other first.0)
      at k c other (inr there) = stating_numbered past (number_of k) (place_fact k.rule k.place c) there

  -- all cited lemmas are accepted
  pub premises_accepted : AllAccepted s past (uses_for number premises)
  premises_accepted = uses-accepted s past (map number_of premises) premises_numbered

  -- the cited lemmas state only known bounds
  joined_of : AreFactsOf all (joined_facts s past (uses_for number premises))
  joined_of =
      uses-all s past (IsFactOf all) (map number_of premises) say.start
      (λ n. lemma-all (IsFactOf all) past say.are n)

  -- each premise is stated
  pub need_stated : (t i : ℕ) → has_key premises t i ≡ true
      → (c : Bound) × (b t i ≡ Some c) × Contains (joined_facts s past (uses_for number premises)) (place_fact t i c)
  need_stated t i m = (here.0, here.1, there)
    where
      here : IsKnown (b t i)
      here = contained-all (λ x. IsKnown (at_key b x)) premises (key t i) known (has_key-contained premises t i m)

      from_start : number t i ≡ 0 → IsStatedBy s past number t i here.0
          → Contains (start_facts s.program) (place_fact t i here.0)
      from_start z (inl first) = first.1
      from_start z (inr lemma) =
          absurd (contains-none (place_fact t i here.0)
          (subst (λ (n : ℕ). Contains (facts_of_lemma past n) (place_fact t i here.0)) z lemma))

      from_lemma : number t i ≢ 0 → IsStatedBy s past number t i here.0
          → Contains (facts_of_lemma past (number t i)) (place_fact t i here.0)
      from_lemma other (inl first) = absurd (other first.0)
      from_lemma other (inr lemma) = lemma

      there : Contains (joined_facts s past (uses_for number premises)) (place_fact t i here.0)
      there =
          uses-state s past (map number_of premises) (number t i) (place_fact t i here.0)
          (is_in-contained (map number_of premises) (number t i)
          (contains-map number_of (key t i) premises (has_key-contained premises t i m)))
          (λ z. from_start z (say.stated t i here.0 here.1)) (λ other. from_lemma other (say.stated t i here.0 here.1))

  -- the time at each key of a premise is looked up as it is known
  pub needed_time : (t : ℕ) → has_key premises t 0 ≡ true → time_in (joined_facts s past (uses_for number premises)) t ≡ b t 0
  needed_time t m =
      let h = need_stated t 0 m in
      same_time all (joined_facts s past (uses_for number premises)) joined_of t h.0 h.2
      ∙ (say.keeps t 0 h.0 h.1 ∙ sym h.1)

  -- the size at each key of a premise is looked up as it is known
  pub needed_size : (t i : ℕ) → has_key premises t i ≡ true
      → size_in (joined_facts s past (uses_for number premises)) t i ≡ size_by b t i
  needed_size t zero m = no_size all (joined_facts s past (uses_for number premises)) joined_of t
  needed_size t (suc i) m =
      let h = need_stated t (suc i) m in
      same_size all (joined_facts s past (uses_for number premises)) joined_of t (suc i) h.0 h.2
      ∙ (say.keeps t (suc i) h.0 h.1 ∙ sym h.1)
