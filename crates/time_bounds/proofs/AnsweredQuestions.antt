-- Questions that are kept of rules.
use Rattle.std.proofs.Common.{◌≡◌, ℕ, zero, suc, ◌+◌, ◌<◌, List, [], ◌∷◌, length, replicate, get_or}
use Rattle.std.proofs.Common.{Option, Some, None, subst, arith}
use Rattle.std.specs.Prelude.{IfSome}
use Rattle.model.specs.Programs.{Program}
use Rattle.cert_types.specs.declared.answer.GuardFeasibility.{GuardFeasibility}
use Rattle.time_bounds.specs.declared.asking.AnsweredRankQuestion.{AnsweredRankQuestion}
use Rattle.time_bounds.specs.Questions.{AnswersQuestion, AreAnsweredFrom}

-- if nothing was queried, no question is kept
pub none_kept : (p : Program) (pivots : ℕ) (empties : List GuardFeasibility) (k n : ℕ) → AreAnsweredFrom p pivots empties k (replicate n None)
none_kept p pivots empties k zero = tt
none_kept p pivots empties k (suc n) = none_kept p pivots empties (suc k) n

-- a question that is kept of a rule, by what was kept of all
pub kept_at : (p : Program) (pivots : ℕ) (empties : List GuardFeasibility) (k : ℕ) (kept : List (Option AnsweredRankQuestion)) (i : ℕ) (a : AnsweredRankQuestion)
    → AreAnsweredFrom p pivots empties k kept → i < length kept → Some a ≡ get_or kept i (Some a) → AnswersQuestion p pivots empties (k + i) a
kept_at p pivots empties k [] i a h l e = absurd (omega (arith, l))
kept_at p pivots empties k (None ∷ kept) zero a h l e = absurd (let f : ⊥ = cc in f)
kept_at p pivots empties k (Some b ∷ kept) zero a h l e =
    let same : b ≡ a = cc in
    subst (λ (n : ℕ). AnswersQuestion p pivots empties n a) (let z : k ≡ k + 0 = omega arith in z)
    (subst (λ (x : AnsweredRankQuestion). AnswersQuestion p pivots empties k x) same h.0)
kept_at p pivots empties k (None ∷ kept) (suc i) a h l e =
    subst (λ (n : ℕ). AnswersQuestion p pivots empties n a) (let z : suc k + i ≡ k + suc i = omega arith in z)
    (kept_at p pivots empties (suc k) kept i a h (omega (arith, l)) e)
kept_at p pivots empties k (Some b ∷ kept) (suc i) a h l e =
    subst (λ (n : ℕ). AnswersQuestion p pivots empties n a) (let z : suc k + i ≡ k + suc i = omega arith in z)
    (kept_at p pivots empties (suc k) kept i a h.1 (omega (arith, l)) e)

-- the same for whatever was kept of a rule
pub kept_read : (p : Program) (pivots : ℕ) (empties : List GuardFeasibility) (kept : List (Option AnsweredRankQuestion)) (i t : ℕ) (o : Option AnsweredRankQuestion)
    → AreAnsweredFrom p pivots empties 1 kept → i < length kept → o ≡ get_or kept i o → t ≡ i + 1
    → IfSome o (λ a. AnswersQuestion p pivots empties t a)
kept_read p pivots empties kept i t None h l e same = tt
kept_read p pivots empties kept i t (Some a) h l e same =
    subst (λ (n : ℕ). AnswersQuestion p pivots empties n a) (let z : 1 + i ≡ t = omega (arith, same) in z)
    (kept_at p pivots empties 1 kept i a h l e)
