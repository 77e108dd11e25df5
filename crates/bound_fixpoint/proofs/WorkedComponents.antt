-- The components of the places of the program that counts down.
use Rattle.std.proofs.Common.{◌≡◌, inl, inr, ℕ, suc, zero, ◌==◌, ◌&&◌, ◌||◌, Bool, not, true, false, List, []}
use Rattle.std.proofs.Common.{◌∷◌, Some, None, refl, sym, ap, subst, arith}
use Rattle.std.proofs.lemmas.Bool.{and_parts}
use Rattle.std.proofs.lemmas.List.Elements.{All-nil, All-cons, All-head}
use Rattle.rule_questions.specs.model.Programs.{Rule}
use Rattle.rule_questions.specs.model.Paths.{Here, Onward, IsReached}
use Rattle.rule_questions.proofs.model.Membership.{same_number-sound, no_is_not_yes}
use Rattle.rule_questions.specs.cert_rules.Gaps.{SymbolPlace}
use Rattle.rule_questions.specs.cert_rules.Nodes.{ResultVariable}
use Rattle.rule_questions.specs.cert_rules.AcceptsPlain.{IsRule}
use Rattle.rule_questions.specs.cert_rules.AcceptsSizes.{ComesBefore}
use Rattle.rule_questions.specs.cert_rules.WorkedSettings.{counting, enter, count_down}
use Rattle.bound_fixpoint.specs.Keys.{IsPlace, key, has_key}
use Rattle.bound_fixpoint.specs.Searches.{searches_of, NoPoint, Ranking}
use Rattle.bound_fixpoint.specs.Components.{IsDead, AreResultVariablesAscending, IsCovered, AreComponentsOf}
use Rattle.bound_fixpoint.specs.WorkedRounds.{answers_with, alone, turned}
use Rattle.bound_fixpoint.proofs.Cases.{false_true, by_cases}
use Rattle.bound_fixpoint.proofs.WorkedShut.{place_of_l, place_after_2}

pub rule_1 : IsRule counting.program 1
rule_1 = record { rule = enter; numbered = refl }

pub rule_2 : IsRule counting.program 2
rule_2 = record { rule = count_down; numbered = refl }

-- the program has rules 1 and 2 alone
pub no_rule_0 : IsRule counting.program 0 → ⊥
no_rule_0 h = none h.rule h.numbered
  where
    none : (r : Rule) → None ≡ Some r → ⊥
    none r e = cc

pub no_rule_3 : (t : ℕ) → IsRule counting.program (suc (suc (suc t))) → ⊥
no_rule_3 t h = none h.rule h.numbered
  where
    none : (r : Rule) → None ≡ Some r → ⊥
    none r e = cc

-- both rules are reached
reached_1 : IsReached counting.program (λ e. true) 1
reached_1 = Onward (Here refl)
    (record { number = 1; rule = enter; numbered = refl; allowed = refl; source = refl; target = refl })

pub alive : (t : ℕ) → IsRule counting.program t → IsDead counting.program (λ e. false) t → ⊥
alive t rule (inl e) = false_true e
alive zero rule (inr u) = no_rule_0 rule
alive (suc zero) rule (inr u) = u enter refl (Here refl)
alive (suc (suc zero)) rule (inr u) = u count_down refl reached_1
alive (suc (suc (suc t))) rule (inr u) = no_rule_3 t rule

-- a key among a single key is that key
pub lone-sound : (m : ResultVariable) (t i : ℕ) → has_key (m ∷ []) t i ≡ true → (m.rule ≡ t) × (m.place ≡ i)
lone-sound m t i h = go ((m.rule == t) && (m.place == i)) refl h
  where
    go : (v : Bool) → ((m.rule == t) && (m.place == i)) ≡ v → (v || false) ≡ true → (m.rule ≡ t) × (m.place ≡ i)
    go true e k = let both = and_parts (m.rule == t) (m.place == i) e in
        (same_number-sound m.rule t both.0, same_number-sound m.place i both.1)
    go false e k = absurd (false_true k)

place_1 : IsPlace counting.program 1 1
place_1 = record { symbol = 1; target = refl; least = omega arith; last = omega arith }

place_2 : IsPlace counting.program 2 1
place_2 = record { symbol = 1; target = refl; least = omega arith; last = omega arith }

abbrev IsLivePlace : ℕ → ℕ → Type 0
IsLivePlace t i = IsRule counting.program t × (¬ (IsDead counting.program (λ e. false) t))
    × IsPlace counting.program t i

after_1 : (t i : ℕ) → has_key (key 1 1 ∷ []) t i ≡ true → IsLivePlace t i
after_1 t i m =
    let same = lone-sound (key 1 1) t i m in
    subst (λ (n : ℕ). IsLivePlace n i) same.0
    (rule_1, alive 1 rule_1, subst (λ (n : ℕ). IsPlace counting.program 1 n) same.1 place_1)

after_2 : (t i : ℕ) → has_key (key 2 1 ∷ []) t i ≡ true → IsLivePlace t i
after_2 t i m =
    let same = lone-sound (key 2 1) t i m in
    subst (λ (n : ℕ). IsLivePlace n i) same.0
    (rule_2, alive 2 rule_2, subst (λ (n : ℕ). IsPlace counting.program 2 n) same.1 place_2)

-- the places of live rules are the two covered ones
pub covered_place : (t i : ℕ) → IsCovered alone t i → IsLivePlace t i
covered_place t i (inl m) = after_1 t i m
covered_place t i (inr (inl m)) = after_2 t i m
covered_place t i (inr (inr x)) = absurd x

pub is_covered : (t i : ℕ) → IsRule counting.program t → IsPlace counting.program t i → IsCovered alone t i
is_covered zero i rule place = absurd (no_rule_0 rule)
is_covered (suc zero) i rule place = inl (subst (λ (n : ℕ). has_key (key 1 1 ∷ []) 1 n ≡ true)
    (sym (place_of_l i place)) refl)
is_covered (suc (suc zero)) i rule place = inr (inl
    (subst (λ (n : ℕ). has_key (key 2 1 ∷ []) 2 n ≡ true) (sym (place_after_2 i place)) refl))
is_covered (suc (suc (suc t))) i rule place = absurd (no_rule_3 t rule)

-- the two components, in the other order, cover the same places
turned_alone : (t i : ℕ) → IsCovered turned t i → IsCovered alone t i
turned_alone t i (inl m) = inr (inl m)
turned_alone t i (inr (inl m)) = inl m
turned_alone t i (inr (inr x)) = absurd x

alone_turned : (t i : ℕ) → IsCovered alone t i → IsCovered turned t i
alone_turned t i (inl m) = inr (inl m)
alone_turned t i (inr (inl m)) = inl m
alone_turned t i (inr (inr x)) = absurd x

apart : (t i : ℕ) → has_key (key 1 1 ∷ []) t i ≡ true → IsCovered ((key 2 1 ∷ []) ∷ []) t i → ⊥
apart t i m (inl k) = omega (arith, (lone-sound (key 1 1) t i m).0, (lone-sound (key 2 1) t i k).0)
apart t i m (inr x) = x

apart_turned : (t i : ℕ) → has_key (key 2 1 ∷ []) t i ≡ true → IsCovered ((key 1 1 ∷ []) ∷ []) t i → ⊥
apart_turned t i m (inl k) = omega (arith, (lone-sound (key 2 1) t i m).0, (lone-sound (key 1 1) t i k).0)
apart_turned t i m (inr x) = x

module _ (rank : List ℕ → ℕ → List SymbolPlace → Ranking) (cs : List (List ResultVariable)) where
  not_empty : (t : ℕ) (m : List ℕ) → (answers_with rank cs).empty t ≡ NoPoint m → ⊥
  not_empty t m e = cc

  -- each place of a live rule is in one of the two components
  pub components : AreComponentsOf (searches_of (answers_with rank cs)) counting.program alone
  components = record {
    is_empty = λ t. false;
    empty = λ t rule. (λ e. absurd (false_true e), λ h. absurd (not_empty t h.multipliers h.shown));
    ascending = All-cons AreResultVariablesAscending (key 1 1 ∷ []) ((key 2 1 ∷ []) ∷ []) tt
        (All-cons AreResultVariablesAscending (key 2 1 ∷ []) [] tt (All-nil AreResultVariablesAscending));
    apart = (apart, (λ t i m x. x, tt));
    live = λ t i. (covered_place t i, λ h. is_covered t i h.0 h.2);
  }

  pub components_turned : AreComponentsOf (searches_of (answers_with rank cs)) counting.program turned
  components_turned = record {
    is_empty = λ t. false;
    empty = λ t rule. (λ e. absurd (false_true e), λ h. absurd (not_empty t h.multipliers h.shown));
    ascending = All-cons AreResultVariablesAscending (key 2 1 ∷ []) ((key 1 1 ∷ []) ∷ []) tt
        (All-cons AreResultVariablesAscending (key 1 1 ∷ []) [] tt (All-nil AreResultVariablesAscending));
    apart = (apart_turned, (λ t i m x. x, tt));
    live = λ t i. (
      λ c. covered_place t i (turned_alone t i c),
      λ h. alone_turned t i (is_covered t i h.0 h.2),
    );
  }

  -- a list of components that lacks a place isn't right, nor is one that has a place twice
  pub not_lacking : AreComponentsOf (searches_of (answers_with rank cs)) counting.program ((key 1 1 ∷ []) ∷ []) → ⊥
  not_lacking h = by ((h.live 2 1).1 (rule_2, not_dead, place_2))
    where
      no_empty : (t : ℕ) → IsRule counting.program t → h.is_empty t ≡ false
      no_empty t rule =
          by_cases (h.is_empty t)
          (λ e. absurd (not_empty t ((h.empty t rule).0 e).multipliers ((h.empty t rule).0 e).shown))
          (λ e. e)

      way_to_l : IsReached counting.program (λ e. not (h.is_empty e)) 1
      way_to_l = Onward (Here refl) (record {
        number = 1;
        rule = enter;
        numbered = refl;
        allowed = ap not (no_empty 1 rule_1);
        source = refl;
        target = refl;
      })

      not_dead : ¬ (IsDead counting.program h.is_empty 2)
      not_dead (inl e) = no_is_not_yes (h.is_empty 2) (no_empty 2 rule_2) e
      not_dead (inr u) = u count_down refl way_to_l

      by : IsCovered ((key 1 1 ∷ []) ∷ []) 2 1 → ⊥
      by (inl m) = false_true m
      by (inr x) = x

  pub not_twice : AreComponentsOf (searches_of (answers_with rank cs)) counting.program
      ((key 1 1 ∷ []) ∷ (key 1 1 ∷ []) ∷ (key 2 1 ∷ []) ∷ []) → ⊥
  not_twice h = h.apart.0 1 1 refl (inl refl)

  -- a component with descending members isn't right, nor is one with a place after the virtual entry
  pub not_descending : AreComponentsOf (searches_of (answers_with rank cs)) counting.program
      ((key 2 1 ∷ key 1 1 ∷ []) ∷ []) → ⊥
  not_descending h = turned_round (All-head AreResultVariablesAscending (key 2 1 ∷ key 1 1 ∷ []) [] h.ascending).0
    where
      turned_round : ComesBefore (key 2 1) (key 1 1) → ⊥
      turned_round (inl l) = omega (arith, l)
      turned_round (inr l) = let same = l.0 in omega (arith, same)

  pub not_of_entry : AreComponentsOf (searches_of (answers_with rank cs)) counting.program
      ((key 0 1 ∷ []) ∷ (key 1 1 ∷ []) ∷ (key 2 1 ∷ []) ∷ []) → ⊥
  not_of_entry h = no_rule_0 ((h.live 0 1).0 (inl refl)).0
