-- Facts of known bounds: what is looked up among them, and the lemmas that state them by their numbers.
use Rattle.std.proofs.Common.{◌≡◌, ◌⊎◌, inl, inr, ℕ, zero, suc, ◌≤◌, ◌==◌, ◌&&◌, true, false, List, [], ◌∷◌}
use Rattle.std.proofs.Common.{length, Some, None, refl, sym, ap, subst, arith, All}
use Rattle.std.specs.List.{Contains}
use Rattle.std.proofs.lemmas.Bool.{and_parts, and_from}
use Rattle.std.proofs.lemmas.List.Elements.{All-nil, All-head, All-tail}
use Rattle.rule_questions.specs.model.Bounds.{Bound, Constant}
use Rattle.rule_questions.specs.model.Facts.{Fact, Time, Size, Cost}
use Rattle.rule_questions.proofs.model.Membership.{same_number, same_number-sound, no_is_not_yes}
use Rattle.rule_questions.specs.cert_rules.Known.{time_in, size_in, is_zero_bound, has_zero_time}
use Rattle.rule_questions.specs.cert_rules.Acceptance.{facts_of_lemma}
use Rattle.bound_fixpoint.specs.Keys.{Bounds, place_fact, size_by}
use Rattle.bound_fixpoint.specs.Stated.{IsFactOf, AreFactsOf}
use Rattle.bound_fixpoint.proofs.Cases.{by_cases, none_some}
use Rattle.bound_fixpoint.proofs.ListMembers.{contains-cases, contains-none}

-- the fact of a known bound at a place is one
pub place_fact_of : (b : Bounds) (t i : ℕ) (c : Bound) → b t i ≡ Some c → IsFactOf b (place_fact t i c)
place_fact_of b t zero c e = e
place_fact_of b t (suc i) c e = e

-- an element other than the first one is in the rest
passed : (x y : Fact) (ys : List Fact) → (y ≡ x → ⊥) → Contains (y ∷ ys) x → Contains ys x
passed x y ys other h = go (contains-cases x y ys h)
  where
    go : (y ≡ x) ⊎ Contains ys x → Contains ys x
    go (inl e) = absurd (other e)
    go (inr m) = m

-- a size isn't a time
size_time : (u i t : ℕ) (c d : Bound) → Size u i c ≡ Time t d → ⊥
size_time u i t c d e = cc

-- a time isn't a size
time_size : (u t i : ℕ) (c d : Bound) → Time u c ≡ Size t i d → ⊥
time_size u t i c d e = cc

-- two times that are the same are of one rule
time_rule : (u t : ℕ) (c d : Bound) → Time u c ≡ Time t d → u ≡ t
time_rule u t c d e = cc

-- equal times have equal bounds
time_bound : (u t : ℕ) (c d : Bound) → Time u c ≡ Time t d → c ≡ d
time_bound u t c d e = cc

-- two sizes that are the same are after one rule
size_rule : (u j t i : ℕ) (c d : Bound) → Size u j c ≡ Size t i d → u ≡ t
size_rule u j t i c d e = cc

-- equal sizes have equal places
size_place : (u j t i : ℕ) (c d : Bound) → Size u j c ≡ Size t i d → j ≡ i
size_place u j t i c d e = cc

-- two times of different rules aren't the same
other_time : (u t : ℕ) (c d : Bound) → (u == t) ≡ false → Time u c ≡ Time t d → ⊥
other_time u t c d n e =
    no_is_not_yes (u == t) n (subst (λ (m : ℕ). (u == m) ≡ true) (time_rule u t c d e) (same_number u))

-- sizes at different places differ
other_size : (u j t i : ℕ) (c d : Bound) → ((u == t) && (j == i)) ≡ false → Size u j c ≡ Size t i d → ⊥
other_size u j t i c d n e =
    no_is_not_yes ((u == t) && (j == i)) n
    (and_from (u == t) (j == i)
    (subst (λ (m : ℕ). (u == m) ≡ true) (size_rule u j t i c d e) (same_number u))
    (subst (λ (m : ℕ). (j == m) ≡ true) (size_place u j t i c d e) (same_number j)))

-- among facts of known bounds a time that is stated is looked up as it is known
pub same_time : (b : Bounds) (facts : List Fact) → AreFactsOf b facts → (t : ℕ) (c : Bound) → Contains facts (Time t c)
    → time_in facts t ≡ b t 0
same_time b [] are t c h = absurd (contains-none (Time t c) h)
same_time b (Size u i d ∷ facts) are t c h =
    same_time b facts (All-tail (IsFactOf b) (Size u i d) facts are) t c
    (passed (Time t c) (Size u i d) facts (size_time u i t d c) h)
same_time b (Cost u d ∷ facts) are t c h = absurd (All-head (IsFactOf b) (Cost u d) facts are)
same_time b (Time u d ∷ facts) are t c h =
    by_cases (u == t) here
    (λ e. later e (same_time b facts (All-tail (IsFactOf b) (Time u d) facts are) t c
    (passed (Time t c) (Time u d) facts (other_time u t d c e) h)))
  where
    here : (u == t) ≡ true → time_in (Time u d ∷ facts) t ≡ b t 0
    here e =
        rw e (sym (subst (λ (n : ℕ). b n 0 ≡ Some d) (same_number-sound u t e)
        (All-head (IsFactOf b) (Time u d) facts are)))

    later : (u == t) ≡ false → time_in facts t ≡ b t 0 → time_in (Time u d ∷ facts) t ≡ b t 0
    later e ih = rw e ih

-- a size is looked up among the facts as it is known
pub same_size : (b : Bounds) (facts : List Fact) → AreFactsOf b facts → (t i : ℕ) (c : Bound)
    → Contains facts (Size t i c) → size_in facts t i ≡ size_by b t i
same_size b [] are t i c h = absurd (contains-none (Size t i c) h)
same_size b (Time u d ∷ facts) are t i c h =
    same_size b facts (All-tail (IsFactOf b) (Time u d) facts are) t i c
    (passed (Size t i c) (Time u d) facts (time_size u t i d c) h)
same_size b (Cost u d ∷ facts) are t i c h = absurd (All-head (IsFactOf b) (Cost u d) facts are)
same_size b (Size u j d ∷ facts) are t i c h =
    by_cases ((u == t) && (j == i)) here
    (λ e. later e (same_size b facts (All-tail (IsFactOf b) (Size u j d) facts are) t i c
    (passed (Size t i c) (Size u j d) facts (other_size u j t i d c e) h)))
  where
    here : ((u == t) && (j == i)) ≡ true → size_in (Size u j d ∷ facts) t i ≡ size_by b t i
    here e =
        let both = and_parts (u == t) (j == i) e in
        rw e (sym (subst (λ (n : ℕ). size_by b n i ≡ Some d) (same_number-sound u t both.0)
        (subst (λ (n : ℕ). size_by b u n ≡ Some d) (same_number-sound j i both.1)
        (All-head (IsFactOf b) (Size u j d) facts are))))

    later : ((u == t) && (j == i)) ≡ false → size_in facts t i ≡ size_by b t i
        → size_in (Size u j d ∷ facts) t i ≡ size_by b t i
    later e ih = rw e ih

-- no size is looked up at place 0
pub no_size : (b : Bounds) (facts : List Fact) → AreFactsOf b facts → (t : ℕ) → size_in facts t 0 ≡ None
no_size b [] are t = refl
no_size b (Time u d ∷ facts) are t = no_size b facts (All-tail (IsFactOf b) (Time u d) facts are) t
no_size b (Cost u d ∷ facts) are t = no_size b facts (All-tail (IsFactOf b) (Cost u d) facts are) t
no_size b (Size u zero d ∷ facts) are t = absurd (none_some d (All-head (IsFactOf b) (Size u 0 d) facts are))
no_size b (Size u (suc j) d ∷ facts) are t =
    later (no_size b facts (All-tail (IsFactOf b) (Size u (suc j) d) facts are) t)
  where
    other : ((u == t) && (suc j == 0)) ≡ false
    other =
        by_cases ((u == t) && (suc j == 0))
        (λ e. absurd (omega (arith, same_number-sound (suc j) 0 (and_parts (u == t) (suc j == 0) e).1))) (λ e. e)

    later : size_in facts t 0 ≡ None → size_in (Size u (suc j) d ∷ facts) t 0 ≡ None
    later ih = rw other ih

-- a time of 0 that is stated says that the rule never runs
pub zero_said : (facts : List Fact) (t : ℕ) → Contains facts (Time t (Constant 0)) → has_zero_time facts t ≡ true
zero_said [] t h = absurd (contains-none (Time t (Constant 0)) h)
zero_said (Size u i d ∷ facts) t h =
    zero_said facts t (passed (Time t (Constant 0)) (Size u i d) facts (size_time u i t d (Constant 0)) h)
zero_said (Cost u d ∷ facts) t h = zero_said facts t (passed (Time t (Constant 0)) (Cost u d) facts other h)
  where
    other : Cost u d ≡ Time t (Constant 0) → ⊥
    other e = cc
zero_said (Time u d ∷ facts) t h =
    by_cases ((u == t) && is_zero_bound d) here
    (λ e. later e (zero_said facts t (passed (Time t (Constant 0)) (Time u d) facts (other e) h)))
  where
    here : ((u == t) && is_zero_bound d) ≡ true → has_zero_time (Time u d ∷ facts) t ≡ true
    here e = rw e refl

    later : ((u == t) && is_zero_bound d) ≡ false → has_zero_time facts t ≡ true
        → has_zero_time (Time u d ∷ facts) t ≡ true
    later e ih = rw e ih

    other : ((u == t) && is_zero_bound d) ≡ false → Time u d ≡ Time t (Constant 0) → ⊥
    other n e =
        no_is_not_yes ((u == t) && is_zero_bound d) n
        (and_from (u == t) (is_zero_bound d)
        (subst (λ (m : ℕ). (u == m) ≡ true) (time_rule u t d (Constant 0) e) (same_number u))
        (ap is_zero_bound (time_bound u t d (Constant 0) e)))

-- a lemma that states something has a number from 1 up to the number of lemmas
pub record IsNumbered (past : List (List Fact)) (n : ℕ) : Type 0 where
  pub least : 1 ≤ n
  pub earlier : n ≤ length past

-- a lemma that states a fact has a number from 1 up to how many lemmas there are
pub stating_numbered : (past : List (List Fact)) (n : ℕ) (f : Fact) → Contains (facts_of_lemma past n) f
    → IsNumbered past n
stating_numbered past zero f h = absurd (contains-none f h)
stating_numbered [] (suc n) f h = absurd (contains-none f h)
stating_numbered (facts ∷ past) (suc zero) f h = record { least = omega arith; earlier = omega arith }
stating_numbered (facts ∷ past) (suc (suc n)) f h =
    let rest = stating_numbered past (suc n) f h in
    record { least = omega arith; earlier = omega (arith, rest.earlier) }

-- a property of all facts of all lemmas is one of those of each
pub lemma-all : (P : Fact → Type 0) (past : List (List Fact)) → All (All P) past → (n : ℕ)
    → All P (facts_of_lemma past n)
lemma-all P past h zero = All-nil P
lemma-all P [] h (suc n) = All-nil P
lemma-all P (facts ∷ past) h (suc zero) = All-head (All P) facts past h
lemma-all P (facts ∷ past) h (suc (suc n)) = lemma-all P past (All-tail (All P) facts past h) (suc n)
