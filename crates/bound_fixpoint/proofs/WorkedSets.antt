-- The sets of the rules of the program that counts down.
use Rattle.std.proofs.Common.{◌≡◌, ℕ, zero, suc, ◌⊎◌, inl, inr, Bool, true, false, [], ◌∷◌, Some, None, refl, sym, ◌∙◌}
use Rattle.std.proofs.Common.{ap, subst, arith}
use Rattle.rule_questions.specs.model.Programs.{Rule, rule_at}
use Rattle.rule_questions.specs.model.Paths.{Here, Onward, HasEdge, HasPath, IsInSet, LeadsBackTo, target_of}
use Rattle.rule_questions.specs.model.Entries.{is_in}
use Rattle.rule_questions.specs.cert_rules.WorkedSettings.{counting, enter, count_down}
use Rattle.bound_fixpoint.specs.Keys.{Bounds, is_untimed}
use Rattle.bound_fixpoint.specs.Sets.{IsSetOfRule}
use Rattle.bound_fixpoint.specs.WorkedSets.{nothing_known, once_known, SetsOfCounting}
use Rattle.bound_fixpoint.proofs.Cases.{false_true, some_same}

-- no edge leads to where the program begins
no_edge : (f : ℕ → Bool) (a b : ℕ) → HasEdge counting.program f a b → b ≡ 0 → ⊥
no_edge f a b h e = go h.number h.rule h.numbered h.target
  where
    go : (t : ℕ) (r : Rule) → rule_at counting.program t ≡ Some r → r.target ≡ b → ⊥
    go zero r n t = none n
      where
        none : None ≡ Some r → ⊥
        none x = cc
    go (suc zero) r n t = let same : enter ≡ r = cc in omega (arith, ap (λ (q : Rule). q.target) same, t, e)
    go (suc (suc zero)) r n t = let same : count_down ≡ r = cc in omega (arith, ap (λ (q : Rule). q.target) same, t, e)
    go (suc (suc (suc k))) r n t = none n
      where
        none : None ≡ Some r → ⊥
        none x = cc

-- a path that ends at 0 begins there
only_there : (f : ℕ → Bool) (a b : ℕ) → HasPath counting.program f a b → b ≡ 0 → a ≡ 0
only_there f a b (Here e) z = e ∙ z
only_there f a b (Onward {b = x} p edge) z = absurd (no_edge f x b edge z)

-- a rule that leads back is rule 1 or rule 2, where the virtual entry is timed
leads_back : (bs : Bounds) (t e : ℕ) → is_untimed bs 0 ≡ false → LeadsBackTo counting.program (is_untimed bs) t e
    → (e ≡ 1) ⊎ (e ≡ 2)
leads_back bs t e entry h = go e h.untimed h.leads
  where
    go : (n : ℕ) → is_untimed bs n ≡ true → target_of counting.program n ≡ Some h.from → (n ≡ 1) ⊎ (n ≡ 2)
    go zero u l = absurd (false_true (sym entry ∙ u))
    go (suc zero) u l = inl refl
    go (suc (suc zero)) u l = inr refl
    go (suc (suc (suc k))) u l = absurd (none l)
      where
        none : None ≡ Some h.from → ⊥
        none x = cc

-- the set of rule 1 is rule 1
first_member : (e : ℕ) → IsInSet counting.program (is_untimed nothing_known) 1 e → is_in e (1 ∷ []) ≡ true
first_member e (inl same) = subst (λ (n : ℕ). is_in n (1 ∷ []) ≡ true) (sym same) refl
first_member e (inr h) =
    let to = some_same 0 h.to h.leaves in
    let from = only_there (is_untimed nothing_known) h.from h.to h.path (sym to) in
    absurd (go e h.leads (leads_back nothing_known 1 e refl h) from)
  where
    go : (n : ℕ) → target_of counting.program n ≡ Some h.from → (n ≡ 1) ⊎ (n ≡ 2) → h.from ≡ 0 → ⊥
    go n l (inl one) z = omega (arith, some_same 1 h.from (ap (target_of counting.program) (sym one) ∙ l), z)
    go n l (inr two) z = omega (arith, some_same 1 h.from (ap (target_of counting.program) (sym two) ∙ l), z)

in_first : (e : ℕ) → is_in e (1 ∷ []) ≡ true → e ≡ 1
in_first zero h = absurd (false_true h)
in_first (suc zero) h = refl
in_first (suc (suc n)) h = grind arith

pub first : IsSetOfRule counting.program nothing_known 1 (1 ∷ [])
first = record {
  ascending = tt;
  members = λ e. (λ h. inl (in_first e h), λ h. first_member e h);
}

-- the set of rule 2 is both rules, and with a time of rule 1 rule 2 alone
in_both : (e : ℕ) → is_in e (1 ∷ 2 ∷ []) ≡ true → (e ≡ 1) ⊎ (e ≡ 2)
in_both zero h = absurd (false_true h)
in_both (suc zero) h = inl refl
in_both (suc (suc zero)) h = inr refl
in_both (suc (suc (suc n))) h = grind arith

second_member : (e : ℕ) → IsInSet counting.program (is_untimed nothing_known) 2 e → is_in e (1 ∷ 2 ∷ []) ≡ true
second_member e (inl same) = subst (λ (n : ℕ). is_in n (1 ∷ 2 ∷ []) ≡ true) (sym same) refl
second_member e (inr h) = go (leads_back nothing_known 2 e refl h)
  where
    go : (e ≡ 1) ⊎ (e ≡ 2) → is_in e (1 ∷ 2 ∷ []) ≡ true
    go (inl one) = subst (λ (n : ℕ). is_in n (1 ∷ 2 ∷ []) ≡ true) (sym one) refl
    go (inr two) = subst (λ (n : ℕ). is_in n (1 ∷ 2 ∷ []) ≡ true) (sym two) refl

one_leads_back : IsInSet counting.program (is_untimed nothing_known) 2 1
one_leads_back = inr (record { untimed = refl; from = 1; leads = refl; to = 1; leaves = refl; path = Here refl })

both : (e : ℕ) → (e ≡ 1) ⊎ (e ≡ 2) → IsInSet counting.program (is_untimed nothing_known) 2 e
both e (inl one) = subst (λ (n : ℕ). IsInSet counting.program (is_untimed nothing_known) 2 n) (sym one) one_leads_back
both e (inr two) = inl two

pub second : IsSetOfRule counting.program nothing_known 2 (1 ∷ 2 ∷ [])
second = record {
  ascending = (omega arith, tt);
  members = λ e. (λ h. both e (in_both e h), λ h. second_member e h);
}

in_second : (e : ℕ) → is_in e (2 ∷ []) ≡ true → e ≡ 2
in_second zero h = absurd (false_true h)
in_second (suc zero) h = absurd (false_true h)
in_second (suc (suc zero)) h = refl
in_second (suc (suc (suc n))) h = grind arith

-- if rule 1 and the virtual entry have times, the set of rule 2 is rule 2 alone
module _ (bs : Bounds) (entry : is_untimed bs 0 ≡ false) (once : is_untimed bs 1 ≡ false) where
  alone_member : (e : ℕ) → IsInSet counting.program (is_untimed bs) 2 e → is_in e (2 ∷ []) ≡ true
  alone_member e (inl same) = subst (λ (n : ℕ). is_in n (2 ∷ []) ≡ true) (sym same) refl
  alone_member e (inr h) = go (leads_back bs 2 e entry h)
    where
      go : (e ≡ 1) ⊎ (e ≡ 2) → is_in e (2 ∷ []) ≡ true
      go (inl one) = absurd (false_true (sym once ∙ (ap (is_untimed bs) (sym one) ∙ h.untimed)))
      go (inr two) = subst (λ (n : ℕ). is_in n (2 ∷ []) ≡ true) (sym two) refl

  pub alone_set : IsSetOfRule counting.program bs 2 (2 ∷ [])
  alone_set = record {
    ascending = tt;
    members = λ e. (λ h. inl (in_second e h), λ h. alone_member e h);
  }

-- these lists are the sets of the rules, and other lists aren't
pub sets_worked : SetsOfCounting
sets_worked = record {
  first = first;
  second = second;
  alone = alone_set once_known refl refl;
  not_alone = λ s. false_true ((s.members 1).1 one_leads_back);
  without_itself = λ s. false_true ((s.members 2).1 (inl refl));
  descending = λ s. omega (arith, s.ascending.0);
}
