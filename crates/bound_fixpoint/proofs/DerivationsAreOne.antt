-- If answers are unique, so is the last list of derivations, and so is the reason of each missing bound.
use Rattle.std.proofs.Common.{◌≡◌, ◌⊎◌, inl, inr, ℕ, zero, suc, true, List, [], ◌∷◌, ◌++◌, refl, sym, ◌∙◌, ap}
use Rattle.std.proofs.Common.{subst, arith}
use Rattle.rule_questions.specs.cert_rules.Nodes.{ResultVariable}
use Rattle.rule_questions.specs.cert_rules.Setting.{Setting}
use Rattle.bound_fixpoint.specs.Keys.{has_key}
use Rattle.bound_fixpoint.specs.Derivations.{Derivation, bounds_of}
use Rattle.bound_fixpoint.specs.Searches.{Searches, Answers, searches_of, NoBound}
use Rattle.bound_fixpoint.specs.Answers.{Target, TimeOf, SizesOf, Lacks, AnswersTarget}
use Rattle.bound_fixpoint.specs.Components.{AreApart, IsOneOf}
use Rattle.bound_fixpoint.specs.Beginning.{AreFirst}
use Rattle.bound_fixpoint.specs.Rounds.{IsRound, IsMade, Begun, Made, IsLast, IsAskedFor, IsNoBound}
use Rattle.bound_fixpoint.specs.Right.{AreOne}
use Rattle.bound_fixpoint.specs.Laws.{LastDerivationsAreOne}
use Rattle.bound_fixpoint.proofs.UniformComponents.{member_covered}
use Rattle.bound_fixpoint.proofs.FirstIsOne.{first_one}
use Rattle.bound_fixpoint.proofs.RoundIsOne.{answer_is_one, round_one}
use Rattle.bound_fixpoint.proofs.LastIsOne.{IsAfter, after_last, last_after_one}

-- searches that are functions have one answer to each question
pub answers_one : (a : Answers) → AreOne (searches_of a)
answers_one a = record {
  empties = λ t x y h k. sym h ∙ k;
  ranks = λ set t shut x y h k. sym h ∙ k;
  components = λ cs ds h k. sym h ∙ k;
  sizes = λ b keys x y h k. sym h ∙ k;
}

-- appending the empty list changes nothing
pub append-none : (fs : List Derivation) → fs ++ [] ≡ fs
append-none [] = refl
append-none (f ∷ fs) = ap (λ (gs : List Derivation). f ∷ gs) (append-none fs)

-- a place is a member of one component alone
component_one : (cs : List (List ResultVariable)) → AreApart cs → (c d : List ResultVariable) (t i : ℕ) → IsOneOf cs c → has_key c t i
    ≡ true → IsOneOf cs d → has_key d t i ≡ true → c ≡ d
component_one [] apart c d t i h m k n = absurd h
component_one (x ∷ cs) apart c d t i (inl e) m (inl f) n = sym e ∙ f
component_one (x ∷ cs) apart c d t i (inl e) m (inr k) n =
    absurd (apart.0 t i (subst (λ (y : List ResultVariable). has_key y t i ≡ true) (sym e) m) (member_covered cs d t i k n))
component_one (x ∷ cs) apart c d t i (inr h) m (inl f) n =
    absurd (apart.0 t i (subst (λ (y : List ResultVariable). has_key y t i ≡ true) (sym f) n) (member_covered cs c t i h m))
component_one (x ∷ cs) apart c d t i (inr h) m (inr k) n = component_one cs apart.1 c d t i h m k n

lacks_one : (v w : NoBound) → Lacks v ≡ Lacks w → v ≡ w
lacks_one v w e = cc

module _ (q : Searches) (one : AreOne q) (s : Setting) where
  -- derivations with those of a further round
  abbrev Follows : List Derivation → List Derivation → Type 0
  Follows old new = (more : List Derivation) × IsRound q s old more × (new ≡ old ++ more)

  next_one : (old x y : List Derivation) → Follows old x → Follows old y → x ≡ y
  next_one old x y h k =
      h.2 ∙ (ap (λ (fs : List Derivation). old ++ fs) (round_one q one s old h.0 k.0 h.1 k.1) ∙ sym k.2)

  begin_one : (x y : List Derivation) → AreFirst q s.program x → AreFirst q s.program y → x ≡ y
  begin_one x y h k = first_one q one s.program x y h k

  -- derivations made by rounds are those after some number of rounds
  made_after : (fs : List Derivation) → IsMade q s fs
      → (n : ℕ) × IsAfter (AreFirst q s.program) Follows begin_one next_one n fs
  made_after fs (Begun h) = (0, h)
  made_after fs (Made {fs = old} {more = more} m r) =
      let before = made_after old m in (suc before.0, (old, before.1, (more, r, refl)))

  -- if the first round leads to the last derivations, any derivations are the initial or the last ones
  pub made_of_two : (first last : List Derivation) → AreFirst q s.program first → IsRound q s first last → IsRound q s
      (first ++ last) [] → (fs : List Derivation) → IsMade q s fs → (fs ≡ first) ⊎ (fs ≡ first ++ last)
  made_of_two first last begins round closed fs made =
      let after = made_after fs made in by after.0 after.1
    where
      by : (n : ℕ) → IsAfter (AreFirst q s.program) Follows begin_one next_one n fs
          → (fs ≡ first) ⊎ (fs ≡ first ++ last)
      by zero h = inl (begin_one fs first h begins)
      by (suc n) h =
          inr (after_last (AreFirst q s.program) Follows begin_one next_one 1 (first ++ last)
          (first, begins, (last, round, refl)) ([], closed, sym (append-none (first ++ last))) n (suc n)
          (omega arith) fs h)

  -- the last list of derivations is unique
  pub last_one : (x y : List Derivation) → IsLast q s x → IsLast q s y → x ≡ y
  last_one x y h k =
      let a = made_after x h.made in
      let b = made_after y k.made in
      last_after_one (AreFirst q s.program) Follows begin_one next_one a.0 b.0 x y a.1
      ([], h.closed, sym (append-none x)) b.1 ([], k.closed, sym (append-none y))

  -- where a key can be queried in one way only, there is one reason why its bound is missing
  reason_by : (fs : List Derivation) (t i : ℕ) → ((x y : Target) → IsAskedFor q s t i x → IsAskedFor q s t i y → x ≡ y)
      → (v w : NoBound) → IsNoBound q s fs t i v → IsNoBound q s fs t i w → v ≡ w
  reason_by fs t i target v w h k =
      let same = target h.target k.target h.asked k.asked in
      lacks_one v w (answer_is_one q one s (bounds_of s.program fs) k.target (Lacks v) (Lacks w)
      (subst (λ (g : Target). AnswersTarget q s (bounds_of s.program fs) g (Lacks v)) same h.is_answer) k.is_answer)

  -- a time can be queried in one way only
  one_time : (t : ℕ) (x y : Target) → IsAskedFor q s t 0 x → IsAskedFor q s t 0 y → x ≡ y
  one_time t (TimeOf u) (TimeOf w) a b = ap (λ (v : ℕ). TimeOf v) (a.1 ∙ sym b.1)
  one_time t (TimeOf u) (SizesOf keys) a b = absurd b
  one_time t (SizesOf keys) y a b = absurd a

  -- the reason of a missing time is unique
  pub time_reason : (fs : List Derivation) (t : ℕ) (v w : NoBound) → IsNoBound q s fs t 0 v → IsNoBound q s fs t 0 w
      → v ≡ w
  time_reason fs t v w h k = reason_by fs t 0 (one_time t) v w h k

  module _ (cs : List (List ResultVariable)) (are : q.AreComponents cs) (apart : AreApart cs) where
    -- a component of the searches is one of these
    of_these : (ds : List (List ResultVariable)) (keys : List ResultVariable) → q.AreComponents ds → IsOneOf ds keys → IsOneOf cs keys
    of_these ds keys h is = subst (λ (es : List (List ResultVariable)). IsOneOf es keys) (one.components ds cs h are) is

    -- where no place is a member of two components, a key can be queried in one way only
    one_target : (t i : ℕ) (x y : Target) → IsAskedFor q s t i x → IsAskedFor q s t i y → x ≡ y
    one_target t zero x y a b = one_time t x y a b
    one_target t (suc i) (TimeOf u) y a b = absurd a
    one_target t (suc i) (SizesOf keys) (TimeOf w) a b = absurd b
    one_target t (suc i) (SizesOf keys) (SizesOf others) a b =
        ap (λ (ks : List ResultVariable). SizesOf ks)
        (component_one cs apart keys others t (suc i) (of_these a.0 keys a.1 a.2) a.3 (of_these b.0 others b.1 b.2) b.3)

    -- the reason of a missing bound is unique
    pub reason_one : (fs : List Derivation) (t i : ℕ) (v w : NoBound) → IsNoBound q s fs t i v → IsNoBound q s fs t i w
        → v ≡ w
    reason_one fs t i v w h k = reason_by fs t i (one_target t i) v w h k

-- rounds make one last list of derivations; a missing bound has one reason, if components are disjoint in the case of
-- a size
pub last_derivations_one : LastDerivationsAreOne
last_derivations_one = record {
  last = λ a s x y h k. last_one (searches_of a) (answers_one a) s x y h k;
  time = λ a s fs t v w h k. time_reason (searches_of a) (answers_one a) s fs t v w h k;
  size = λ a s apart fs t i v w h k. reason_one (searches_of a) (answers_one a) s a.components refl apart fs t i v w
      h k;
}
