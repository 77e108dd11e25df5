-- Statuses and infeasible rules, for one more at a time.
use Rattle.std.proofs.Common.{◌≡◌, ℕ, zero, suc, ◌+◌, ◌<◌, Bool, true, false, cond, List, [], ◌∷◌, ◌++◌, length, take}
use Rattle.std.proofs.Common.{filter, refl, sym, ◌∙◌, ap, arith}
use Rattle.std.specs.Prelude.{slice_index_or}
use Rattle.std.specs.List.{range_with_len}
use Rattle.std.proofs.lemmas.List.{take_more, length-take-le}
use Rattle.std.proofs.lemmas.Option.{slice_get_read}
use Rattle.its_model.specs.declared.program.Rule.{Rule}
use Rattle.cert_types.specs.declared.answer.GuardFeasibility.{GuardFeasibility}
use Rattle.rank_search.specs.rule_questions.RuleAnswers.{answer_for}
use Rattle.time_bounds.specs.declared.rule_statuses.RuleStatus.{RuleStatus}
use Rattle.time_bounds.specs.RuleStatuses.{says_empty, is_said_empty, rule_status_of, rule_statuses_by}

rule_statuses-append : (seen : List Bool) (xs : List GuardFeasibility) (ys : List Rule) (a : GuardFeasibility) (r : Rule) → length xs ≡ length ys
    → rule_statuses_by seen (xs ++ a ∷ []) (ys ++ r ∷ []) ≡ rule_statuses_by seen xs ys ++ rule_status_of a (slice_index_or seen r.source false) ∷ []
rule_statuses-append seen [] [] a r e = refl
rule_statuses-append seen [] (y ∷ ys) a r e = absurd (omega (arith, e))
rule_statuses-append seen (x ∷ xs) [] a r e = absurd (omega (arith, e))
rule_statuses-append seen (x ∷ xs) (y ∷ ys) a r e =
    ap (λ (fs : List RuleStatus). rule_status_of x (slice_index_or seen y.source false) ∷ fs)
    (rule_statuses-append seen xs ys a r (let z : length xs ≡ length ys = omega (arith, e) in z))

-- the status of the next rule
pub rule_statuses-more : (seen : List Bool) (xs : List GuardFeasibility) (ys : List Rule) (i : ℕ) (a : GuardFeasibility) (r : Rule) → length xs ≡ length ys
    → i < length ys → a ≡ slice_index_or xs i a → r ≡ slice_index_or ys i r
    → rule_statuses_by seen (take (i + 1) xs) (take (i + 1) ys)
    ≡ rule_statuses_by seen (take i xs) (take i ys) ++ rule_status_of a (slice_index_or seen r.source false) ∷ []
rule_statuses-more seen xs ys i a r e low at_a at_r =
    ap (λ (zs : List GuardFeasibility). rule_statuses_by seen zs (take (i + 1) ys))
    (take_more xs i a (omega (arith, low, e)) ∙ ap (λ (b : GuardFeasibility). take i xs ++ b ∷ []) (sym at_a))
    ∙ (ap (λ (zs : List Rule). rule_statuses_by seen (take i xs ++ a ∷ []) zs)
    (take_more ys i r low ∙ ap (λ (b : Rule). take i ys ++ b ∷ []) (sym at_r))
    ∙ rule_statuses-append seen (take i xs) (take i ys) a r
    (length-take-le i xs (omega (arith, low, e)) ∙ sym (length-take-le i ys (omega (arith, low)))))

-- a range with one number more, filtered: the number is kept if it passes the test, and else isn't
filter-append : (test : ℕ → Bool) (xs : List ℕ) (x : ℕ) (v : Bool) → test x ≡ v → filter test (xs ++ x ∷ []) ≡ filter test xs ++ cond v (x ∷ []) []
filter-append test [] x true e = rw e refl
filter-append test [] x false e = rw e refl
filter-append test (y ∷ xs) x v e = go (test y) refl (filter-append test xs x v e)
  where
    go : (w : Bool) → test y ≡ w → filter test (xs ++ x ∷ []) ≡ filter test xs ++ cond v (x ∷ []) []
        → filter test (y ∷ (xs ++ x ∷ [])) ≡ filter test (y ∷ xs) ++ cond v (x ∷ []) []
    go true k h = rw k (ap (λ (zs : List ℕ). y ∷ zs) h)
    go false k h = rw k h

-- a range with one number more ends with that number
pub range-more : (n a j : ℕ) → a + n ≡ j → range_with_len a (suc n) ≡ range_with_len a n ++ j ∷ []
range-more zero a j e = let same : a ≡ j = omega (arith, e) in ap (λ (x : ℕ). x ∷ []) same
range-more (suc n) a j e = ap (λ (xs : List ℕ). a ∷ xs) (range-more n (a + 1) j (omega (arith, e)))

-- the next number of those from 1 on is kept exactly if it passes the test
pub kept-more : (test : ℕ → Bool) (i : ℕ) (v : Bool) → test (i + 1) ≡ v
    → filter test (range_with_len 1 (i + 1)) ≡ filter test (range_with_len 1 i) ++ cond v ((i + 1) ∷ []) []
kept-more test i v e =
    let next : i + 1 ≡ suc i = omega arith in
    ap (λ (n : ℕ). filter test (range_with_len 1 n)) next
    ∙ (ap (filter test) (range-more i 1 (i + 1) (omega arith)) ∙ filter-append test (range_with_len 1 i) (i + 1) v e)

-- the answer that was read is that for the rule
pub answer-read : (xs : List GuardFeasibility) (i : ℕ) (a : GuardFeasibility) → i < length xs → a ≡ slice_index_or xs i a
    → is_said_empty (answer_for xs (i + 1)) ≡ says_empty a
answer-read xs i a low at_a =
    let next : i + 1 ≡ suc i = omega arith in
    ap (λ (n : ℕ). is_said_empty (answer_for xs n)) next
    ∙ ap is_said_empty (slice_get_read xs (length xs) i a refl low at_a)
