-- The results of answers about the program that counts down, and which answers are right.
use Rattle.std.proofs.Common.{◌≡◌, inl, inr, ℕ, true, List, [], ◌∷◌, map, Option, Some}
use Rattle.std.proofs.Common.{None}
use Rattle.std.proofs.Common.{refl, sym, ◌∙◌, ap, subst, arith}
use Rattle.std.proofs.lemmas.List.Elements.{All-head}
use Rattle.rule_questions.specs.model.Bounds.{Bound, Constant}
use Rattle.rule_questions.proofs.model.Cases.{none_some, some_none}
use Rattle.rule_questions.proofs.model.Membership.{no_is_not_yes}
use Rattle.rule_questions.specs.cert_rules.Nodes.{ResultVariable, Member}
use Rattle.rule_questions.specs.cert_rules.Checks.{cycle_checks}
use Rattle.rule_questions.specs.cert_rules.Reasons.{Reason, Shape, IsFirstAmong}
use Rattle.rule_questions.specs.cert_rules.Reasons as reasons
use Rattle.rule_questions.specs.cert_rules.AcceptsSizes.{HasSizesBefore}
use Rattle.rule_questions.specs.cert_rules.WorkedSettings.{counting}
use Rattle.rule_questions.specs.cert_rules.Worked.{once_time, entered_member, entered_size, looped_member}
use Rattle.outcome.specs.Reports.{NoSize, TimeLarge, SizeUnbounded, SizeHitLimit, SizeMissing, SizeNonlinear, SizeUntimed}
use Rattle.outcome.specs.Reports.{SizeLarge}
use Rattle.rule_questions.proofs.cert_rules.TestedNodes.{first-cycle}
use Rattle.bound_fixpoint.specs.Keys.{Bounds, key, time_key, has_key, over}
use Rattle.bound_fixpoint.specs.Derivations.{Node, EmptyBy, UnreachedBy, NeverBy, RankBy, SpreadBy, CycleBy, bounds_of}
use Rattle.bound_fixpoint.specs.Searches.{SizeOutcome, SizedBy, Unsized, OfTime, OfSize}
use Rattle.bound_fixpoint.specs.Answers.{Found, Lacks}
use Rattle.bound_fixpoint.specs.Right.{IsSizingOf, IsRightSizing, IsReasonFor, FailsTogether, IsFirstCause}
use Rattle.bound_fixpoint.specs.Laws.{AreUniform}
use Rattle.bound_fixpoint.specs.WorkedDerivations.{seven}
use Rattle.bound_fixpoint.specs.WorkedSets.{nothing_known, once_known}
use Rattle.bound_fixpoint.specs.WorkedAnswers.{AnswersAreWorkedOut, RightSizesAreWorkedOut, MissingIsWorkedOut}
use Rattle.bound_fixpoint.proofs.Cases.{either, false_true}
use Rattle.bound_fixpoint.proofs.Keys.{has_key-cases, has_key-none}
use Rattle.bound_fixpoint.proofs.WorkedJustification.{entered_ok, looped_ok}

pub answers_worked : AnswersAreWorkedOut
answers_worked = record {
  asked = refl;
  time_asked = refl;
  known_not_asked = refl;
  nothing_asked = refl;
  found = (record { before = refl; after = refl }, refl, refl, refl);
  not_other_bound = λ h. other h.3;
  not_other_premises = λ h. premises h.2;
  not_lacking = λ n h. h.0 (record { before = refl; after = refl });
  large = (λ h. no_is_not_yes true h.after refl, refl);
  not_small = λ h. no_is_not_yes true h.0.after refl;
  not_other_count = λ h. counts h.1;
  sized = refl;
  not_sized_so = λ h. sizes h;
  unsized = refl;
  not_for_another = λ h. rules h;
}
  where
    other : Constant 1 ≡ once_time → ⊥
    other e = cc

    premises : [] ≡ time_key 0 ∷ [] → ⊥
    premises e = cc

    counts : OfTime (TimeLarge 200) ≡ OfTime (TimeLarge 201) → ⊥
    counts e = let n : ◌≡◌ {A = ℕ} 200 201 = cc in omega (arith, n)

    sizes : Found (SpreadBy entered_member) (key 0 1 ∷ key 0 1 ∷ []) (Constant 7)
        ≡ Found (SpreadBy entered_member) (key 0 1 ∷ key 0 1 ∷ []) entered_size → ⊥
    sizes e = cc

    rules : Lacks (OfSize (SizeUntimed 2)) ≡ Lacks (OfSize (SizeUntimed 1)) → ⊥
    rules e = let n : ◌≡◌ {A = ℕ} 2 1 = cc in omega (arith, n)

-- no node states the size of no places
no_sizing : (b : Bounds) (node : Node) → IsSizingOf counting b [] node → ⊥
no_sizing b (EmptyBy t m) h = h.accepted
no_sizing b (UnreachedBy t) h = h.accepted
no_sizing b (NeverBy t) h = h.accepted
no_sizing b (RankBy n) h = h.accepted
no_sizing b (SpreadBy m) h = none h.same
  where
    none : {x : ResultVariable} {xs : List ResultVariable} → [] ≡ x ∷ xs → ⊥
    none e = cc
no_sizing b (CycleBy []) h = let some = h.accepted.0.shape.some in omega (arith, some)
no_sizing b (CycleBy (m ∷ ms)) h = none h.same
  where
    none : {x : ResultVariable} {xs : List ResultVariable} → [] ≡ x ∷ xs → ⊥
    none e = cc

-- the checks of a loop node without members fail at its shape, which is no reason
no_shape : (why : NoSize) → IsReasonFor why Shape → ⊥
no_shape (SizeHitLimit t) h = h
no_shape (SizeUnbounded side ray kept) h = h
no_shape (SizeMissing m) h = other h
  where
    other : Shape ≡ reasons.MissingSize m.rule m.place → ⊥
    other e = cc
no_shape (SizeNonlinear m) h = other h
  where
    other : Shape ≡ reasons.Nonlinear m.rule m.place → ⊥
    other e = cc
no_shape (SizeUntimed t) h = other h
  where
    other : Shape ≡ reasons.MissingTime t → ⊥
    other e = cc
no_shape (SizeLarge n) h = other h
  where
    other : Shape ≡ reasons.Large n → ⊥
    other e = cc

no_cause : (b : Bounds) (why : NoSize) → IsFirstCause counting b [] why → ⊥
no_cause b why (r, is, inl f) = none f.only
  where
    none : {x : ResultVariable} {xs : List ResultVariable} → [] ≡ x ∷ xs → ⊥
    none e = cc
no_cause b why (r, is, inr f) = go f.all f.result_variables f.first
  where
    go : (ms : List Member) → [] ≡ map (λ m. m.result_variable) ms → IsFirstAmong (cycle_checks counting (over b) ms) r → ⊥
    go [] e (inl fails) = no_shape why (subst (λ (x : Reason). IsReasonFor why x) (sym fails.1) is)
    go [] e (inr passes) = let some = passes.0.some in omega (arith, some)
    go (m ∷ ms) e first = let none : ⊥ = cc in none

no_answer : (b : Bounds) (answer : SizeOutcome) → IsRightSizing counting b [] answer → ⊥
no_answer b (SizedBy node) h = no_sizing b node h
no_answer b (Unsized (SizeHitLimit t)) h = has_key-none h.0.rule h.0.place h.1
no_answer b (Unsized (SizeUnbounded side ray kept)) h = has_key-none h.0.rule h.0.place h.1
no_answer b (Unsized (SizeMissing m)) h = no_cause b (SizeMissing m) h
no_answer b (Unsized (SizeNonlinear m)) h = no_cause b (SizeNonlinear m) h
no_answer b (Unsized (SizeUntimed t)) h = no_cause b (SizeUntimed t) h
no_answer b (Unsized (SizeLarge n)) h = no_cause b (SizeLarge n) h

abbrev rule_of_keys : List ResultVariable → ℕ
rule_of_keys [] = 0
rule_of_keys (k ∷ keys) = k.rule

-- if only the time of rule 1 is known, the size after rule 1 is a missing premise of the loop node
too_early : IsSizingOf counting once_known (key 2 1 ∷ []) (CycleBy (looped_member ∷ [])) → ⊥
too_early h =
    let sizes = All-head (HasSizesBefore counting (over once_known) (looped_member ∷ [])) looped_member []
    h.accepted.0.sizes in
    let size = (sizes 1 refl).up 0 refl refl in
    none_some size.0 size.1

lacks_size : FailsTogether counting once_known (key 2 1 ∷ []) (reasons.MissingSize 1 1)
lacks_size = record {
  all = looped_member ∷ [];
  result_variables = refl;
  loop = refl;
  first = first-cycle counting (over once_known) (looped_member ∷ []) (reasons.MissingSize 1 1) refl;
}

pub right_sizes : RightSizesAreWorkedOut
right_sizes = record {
  size = record { same = refl; accepted = (entered_ok, refl) };
  loop = record { same = refl; accepted = (looped_ok, refl) };
  not_of_another = λ h. let n : ◌≡◌ {A = ℕ} 2 1 = ap rule_of_keys h.same in omega (arith, n);
  not_too_early = too_early;
  no_time = λ h. h.accepted;
  reason = (reasons.MissingSize 1 1, refl, inr lacks_size);
  not_a_loop = λ h. false_true h.accepted.1;
  of_nothing = no_answer;
}

-- a property of both places is one of each
of_both : (P : ℕ → ℕ → Type 0) → P 1 1 → P 2 1 → (t i : ℕ) → has_key (key 1 1 ∷ key 2 1 ∷ []) t i ≡ true → P t i
of_both P a b t i m =
    either (has_key-cases (key 1 1) (key 2 1 ∷ []) t i m) (λ e. subst (λ (k : ResultVariable). P k.rule k.place) e a)
    (λ l. either (has_key-cases (key 2 1) [] t i l) (λ e. subst (λ (k : ResultVariable). P k.rule k.place) e b)
    (λ n. absurd (has_key-none t i n)))

-- if both places have this bound, or both have none, they are uniform
uniform_by : (bs : Bounds) (o : Option Bound) → bs 1 1 ≡ o → bs 2 1 ≡ o → AreUniform bs (key 1 1 ∷ key 2 1 ∷ [])
uniform_by bs o a b t i u j m n =
    of_both (λ v k. bs v k ≡ o) a b t i m ∙ sym (of_both (λ v k. bs v k ≡ o) a b u j n)

pub missing_worked : MissingIsWorkedOut
missing_worked = record {
  at_first = refl;
  with_time = refl;
  with_size = refl;
  same = uniform_by (bounds_of counting.program (seven (key 1 1 ∷ key 2 1 ∷ []) ∷ [])) (Some (Constant 7)) refl refl;
  none = uniform_by nothing_known None refl refl;
  not_one_alone = λ h. some_none entered_size (h 1 1 2 1 refl refl);
}
