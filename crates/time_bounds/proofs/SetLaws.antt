-- The set of a rule that the graph gives is that of the rounds, and is valid for a rank question.
use Rattle.std.proofs.Common.{◌≡◌, ◌↔◌, ◌⊎◌, inl, inr, ℕ, zero, suc, ◌+◌, ◌<◌, ◌≤◌, Bool, true, false, List, [], ◌∷◌}
use Rattle.std.proofs.Common.{length, get_or, Contains, Option, Some, None, refl, sym, ◌∙◌, ap, subst, arith}
use Rattle.std.specs.Prelude.{slice_get, slice_index_or}
use Rattle.std.specs.List.Sorted.{IsStrictlyIncreasing}
use Rattle.std.proofs.lemmas.List.Elements.{Contains-get_or}
use Rattle.model.specs.Programs.{Program, Rule, rule_at}
use Rattle.model.specs.Entries.{is_in}
use Rattle.model.specs.Paths.{HasEdge, IsInSet, target_in, target_of}
use Rattle.model.proofs.Membership.{contains-is_in, is_in-contained, no_is_not_yes, slice_get-below}
use Rattle.its_graph.specs.Graphs.{flagged}
use Rattle.its_graph.proofs.Routes.{path-map}
use Rattle.cert_types.specs.cert_rules.AcceptsPlain.{IsRule}
use Rattle.cert_types.specs.cert_rules.Numbers.{IsAscending}
use Rattle.cert_types.specs.declared.answer.GuardFeasibility.{GuardFeasibility}
use Rattle.rank_search.specs.rule_questions.EmptyAnswers.{SaysEmpty}
use Rattle.rank_search.specs.RankAnswers.{IsRuleSet, MayAllRun}
use Rattle.rank_search.specs.rule_questions.RuleAnswers.{answer_for}
use Rattle.bound_fixpoint.specs.Keys.{Bounds, is_untimed}
use Rattle.bound_fixpoint.specs.Sets.{IsSetOfRule}
use Rattle.its_graph.proofs.SetMembers.{is_rule}
use Rattle.size_bounds.specs.declared.table.Table as code
use Rattle.size_bounds.specs.Tables.{bounds_in}
use Rattle.time_bounds.specs.Questions.{AreUntimed}
use Rattle.bound_fixpoint.proofs.RuleNumbers.{rule_numbered as rule_there}
use Rattle.model.proofs.Cases.{none_some}

-- numbers that increase ascend
pub ascending : (xs : List ℕ) → IsStrictlyIncreasing xs → IsAscending xs
ascending [] h = tt
ascending (x ∷ []) h = tt
ascending (x ∷ y ∷ rest) h = (h 0 (omega arith), ascending (y ∷ rest) later)
  where
    later : IsStrictlyIncreasing (y ∷ rest)
    later k l =
        let next : suc k + 1 ≡ suc (k + 1) = omega arith in
        subst (λ (j : ℕ). get_or (y ∷ rest) k 0 < get_or (x ∷ y ∷ rest) j 0) next (h (suc k) (omega (arith, l)))

-- the number of a rule is at most the number of rules
pub rule_within : (p : Program) (t : ℕ) (r : Rule) → rule_at p t ≡ Some r → t ≤ length p.rules
rule_within p zero r e = omega arith
rule_within p (suc t) r e = omega (arith, slice_get-below p.rules t r e)

-- a number with a target is that of the virtual entry or of a rule
pub leading : (p : Program) (t a : ℕ) → target_of p t ≡ Some a → (t ≡ 0) ⊎ IsRule p t
leading p zero a e = inl refl
leading p (suc t) a e = go (slice_get p.rules t) refl
  where
    go : (o : Option Rule) → slice_get p.rules t ≡ o → (suc t ≡ 0) ⊎ IsRule p (suc t)
    go None k = absurd (none_some a (sym (ap target_in k) ∙ e))
    go (Some r) k = inr (record { rule = r; numbered = k })

leading_within : (p : Program) (t : ℕ) → (t ≡ 0) ⊎ IsRule p t → t ≤ length p.rules
leading_within p t (inl e) = omega (arith, e)
leading_within p t (inr r) = rule_within p t r.rule r.numbered

-- sets by tests that agree at the program's numbers are the same
pub in_set : (p : Program) (f g : ℕ → Bool) → ((t : ℕ) → t ≤ length p.rules → f t ≡ g t) → (t e : ℕ) → IsInSet p f t e → IsInSet p g t e
in_set p f g h t e (inl same) = inl same
in_set p f g h t e (inr l) =
    inr (record {
      untimed = sym (h e (leading_within p e (leading p e l.from l.leads))) ∙ l.untimed;
      from = l.from;
      leads = l.leads;
      to = l.to;
      leaves = l.leaves;
      path = path-map (HasEdge p f) (HasEdge p g) edge l.from l.to l.path;
    })
  where
    edge : (a b : ℕ) → HasEdge p f a b → HasEdge p g a b
    edge a b x = record {
      number = x.number;
      rule = x.rule;
      numbered = x.numbered;
      allowed = sym (h x.number (rule_within p x.number x.rule x.numbered)) ∙ x.allowed;
      source = x.source;
      target = x.target;
    }

-- the set that the graph gives is that of the rule
pub set_of_rule : (p : Program) (tab : Bounds) (flags : List Bool) (t : ℕ) (set : List ℕ)
    → ((u : ℕ) → u ≤ length p.rules → slice_index_or flags u false ≡ is_untimed tab u)
    → IsStrictlyIncreasing set → ((e : ℕ) → Contains set e ↔ IsInSet p (flagged flags) t e) → IsSetOfRule p tab t set
set_of_rule p tab flags t set agree up members = record {
  ascending = ascending set up;
  members = λ e. (
    λ h. in_set p (flagged flags) (is_untimed tab) agree t e ((members e).0 (contains-is_in set e h)),
    λ h. is_in-contained set e ((members e).1 (in_set p (is_untimed tab) (flagged flags) (λ u l. sym (agree u l)) t e h)),
  );
}

-- the members of the set are rules without a time
pub member_untimed : (p : Program) (tab : Bounds) (t : ℕ) → is_untimed tab t ≡ true → (e : ℕ) → IsInSet p (is_untimed tab) t e
    → is_untimed tab e ≡ true
member_untimed p tab t untimed e (inl same) = ap (is_untimed tab) same ∙ untimed
member_untimed p tab t untimed e (inr l) = l.untimed

-- if the virtual entry has a time, each member of the set of a rule is a rule
pub member_rule : (p : Program) (tab : Bounds) (t : ℕ) → is_untimed tab 0 ≡ false → IsRule p t → (e : ℕ) → IsInSet p (is_untimed tab) t e
    → IsRule p e
member_rule p tab t start rule e (inl same) = subst (IsRule p) (sym same) rule
member_rule p tab t start rule e (inr l) = go (leading p e l.from l.leads)
  where
    go : (e ≡ 0) ⊎ IsRule p e → IsRule p e
    go (inl zero_is) = absurd (no_is_not_yes (is_untimed tab e) (ap (is_untimed tab) zero_is ∙ start) l.untimed)
    go (inr r) = r

-- the element at a position is in the list
pub element_in : (xs : List ℕ) (k d : ℕ) → k < length xs → is_in (get_or xs k d) xs ≡ true
element_in xs k d l = is_in-contained xs (get_or xs k d) (Contains-get_or xs k d l)

-- the set of the rule is valid for a rank question
pub rule_set : (p : Program) (tab : Bounds) (t : ℕ) (set : List ℕ) → is_untimed tab 0 ≡ false → IsRule p t → IsSetOfRule p tab t set
    → IsRuleSet p set t
rule_set p tab t set start rule h = record {
  ascending = h.ascending;
  rules = λ k d l. member_rule p tab t start rule (get_or set k d) ((h.members (get_or set k d)).0 (element_in set k d l));
  inside = (h.members t).1 (inl refl);
}

-- if each rule that is known to be infeasible has a time, no rule of a set is known to be infeasible
pub may_all_run : (p : Program) (tab : Bounds) (t : ℕ) (set : List ℕ) (empties : List GuardFeasibility) → is_untimed tab t ≡ true
    → IsSetOfRule p tab t set
    → ((u : ℕ) (a : GuardFeasibility) → answer_for empties u ≡ Some a → SaysEmpty a → is_untimed tab u ≡ false)
    → MayAllRun set empties
may_all_run p tab t set empties untimed h timed = record {
  each = λ k d l a found says.
      no_is_not_yes (is_untimed tab (get_or set k d)) (timed (get_or set k d) a found says)
      (member_untimed p tab t untimed (get_or set k d) ((h.members (get_or set k d)).0 (element_in set k d l)));
}

-- a rule without a time, by its flag
pub record IsOpenRule (p : Program) (tab : Bounds) (t : ℕ) : Type 0 where
  pub start : is_untimed tab 0 ≡ false
  pub rule : IsRule p t
  pub untimed : is_untimed tab t ≡ true

-- if the virtual entry has a time, a rule whose flag is set has none
pub open_rule : (p : Program) (tab : code.Table) (flags : List Bool) (t : ℕ) → AreUntimed p tab flags
    → is_untimed (bounds_in tab) 0 ≡ false → get_or flags t false ≡ true → IsOpenRule p (bounds_in tab) t
open_rule p tab flags t h start flag =
    go t (is_rule flags (length p.rules) t (omega (arith, h.one_each)) (h.each 0 (omega arith) ∙ start) flag) flag
  where
    go : (t : ℕ) → (0 < t) × (t ≤ length p.rules) → get_or flags t false ≡ true → IsOpenRule p (bounds_in tab) t
    go zero r flag = absurd (omega (arith, r.0))
    go (suc i) r flag = record {
      start = start;
      rule = rule_there p i (omega (arith, r.1));
      untimed = sym (h.each (suc i) r.1) ∙ flag;
    }
