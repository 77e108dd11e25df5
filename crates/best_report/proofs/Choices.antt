-- Of two bounds that hold the chosen one holds, and it is no worse than that of the analysis.
use Rattle.std.proofs.Common.{◌≡◌, ◌<◌, ◌≤◌, ◌⊎◌, inl, inr, ℕ, min, List, [], ◌∷◌, Option, Some, None, refl, sym}
use Rattle.std.proofs.Common.{subst, option_map, Result, Ok, Err, arith}
use Rattle.std.specs.Prelude.{ℤ, pos, ◌≤ℤ◌, IfOk, IfSome, IsSome}
use Rattle.std.proofs.lemmas.Bool.{cases_lt}
use Rattle.its_model.specs.model.Programs.{Program}
use Rattle.its_model.specs.model.Runs.{place_value}
use Rattle.its_model.specs.model.Bounds.{Bound}
use Rattle.signed_bounds.specs.Bounds.{Signed}
use Rattle.signed_bounds.specs.Inputs.{signed_of_bound, SignedBoundsKeepValues}
use Rattle.signed_bounds.specs.declared.signed.Signed as code
use Rattle.signed_bounds.specs.Views.{signed_of}
use Rattle.signed_values.specs.Comparing.{IsAtMostAt}
use Rattle.program_claims.specs.Claims.{Stated, HoldsOf}
use Rattle.outcome.specs.Reports.{Report}
use Rattle.outcome.specs.Holding.{ReportHolds}
use Rattle.best_report.specs.declared.subject.Subject.{Subject}
use Rattle.best_report.specs.declared.subject.Subject.TheVariants as subjects
use Rattle.best_report.specs.Subjects.{stated_by}
use Rattle.best_report.specs.Statements.{first_on}
use Rattle.best_report.specs.Lines.{Line, LineHolds}
use Rattle.best_report.specs.Choices.{least_of, IsOneOrMinimum, IsChosen, IsLeastWithinLimits, IsAtMostStatedOrOverLimit, IsAtMostStated, IsNoWorse}
use Rattle.best_report.specs.Reports.{analysis_bound, signed_analysis_bound, KeepsBound, IsNoWorseLine}
use Rattle.best_report.specs.Reports.{IsChosenOn, IsLineAtMostStated}
use Rattle.best_report.proofs.AnalysisBounds.{found-holds}

-- a bound is at most itself at all lists, and a minimum at most the bound of the analysis
pub itself : (starts : List (List ℤ)) (b : Signed) → IsAtMostAt starts b b
itself [] b = tt
itself (x ∷ xs) b = (omega arith, itself xs b)

pub least-below : (starts : List (List ℤ)) (found stated : Signed) → IsAtMostAt starts (least_of found stated) found
least-below [] found stated = tt
least-below (x ∷ xs) found stated = (omega arith, least-below xs found stated)

-- and at most the stated one
pub least-below-stated : (starts : List (List ℤ)) (found stated : Signed) → IsAtMostAt starts (least_of found stated) stated
least-below-stated [] found stated = tt
least-below-stated (x ∷ xs) found stated = (omega arith, least-below-stated xs found stated)

-- the minimum within the limits is at most the bound of the analysis
least-no_worse : (starts : List (List ℤ)) (found stated b : Signed) → IsLeastWithinLimits found stated b
    → IsAtMostAt starts b found
least-no_worse starts found stated b (inl e) =
    subst (λ (c : Signed). IsAtMostAt starts c found) (sym e) (least-below starts found stated)
least-no_worse starts found stated b (inr (over, e)) =
    subst (λ (c : Signed). IsAtMostAt starts c found) (sym e) (itself starts found)

-- and at most the stated one, unless it passes the limits
least-at_most_stated : (starts : List (List ℤ)) (found stated b : Signed) → IsLeastWithinLimits found stated b
    → IsAtMostStatedOrOverLimit starts found stated b
least-at_most_stated starts found stated b (inl e) =
    inl (subst (λ (c : Signed). IsAtMostAt starts c stated) (sym e) (least-below-stated starts found stated))
least-at_most_stated starts found stated b (inr (over, e)) = inr (over, inl e)

-- it is the minimum, or the bound of the analysis
least-one : (found stated b : Signed) → IsLeastWithinLimits found stated b → IsOneOrMinimum found stated b
least-one found stated b (inl e) = inr (inr e)
least-one found stated b (inr (over, e)) = inl e

-- a bound that is the stated one is at most that
pub stated-below : (starts : List (List ℤ)) (stated b : Signed) → b ≡ stated → IsAtMostAt starts b stated
stated-below starts stated b e =
    subst (λ (c : Signed). IsAtMostAt starts c stated) (sym e) (itself starts stated)

-- the same where there may be no memory for the bound
module _ {E : Type 0} (starts : List (List ℤ)) (found stated : Signed) (o : Result code.Signed E) where
  if-ok : (P Q : Signed → Type 0) → ((b : Signed) → P b → Q b) → IfOk o (λ b. P (signed_of b))
      → IfOk o (λ b. Q (signed_of b))
  if-ok P Q f h = go o h
    where
      go : (r : Result code.Signed E) → IfOk r (λ b. P (signed_of b)) → IfOk r (λ b. Q (signed_of b))
      go (Ok b) k = f (signed_of b) k
      go (Err e) k = tt

  pub ok-least-no_worse : IfOk o (λ b. IsLeastWithinLimits found stated (signed_of b))
      → IfOk o (λ b. IsAtMostAt starts (signed_of b) found)
  ok-least-no_worse =
      if-ok (IsLeastWithinLimits found stated) (λ b. IsAtMostAt starts b found) (least-no_worse starts found stated)

  pub ok-least-at_most_stated : IfOk o (λ b. IsLeastWithinLimits found stated (signed_of b))
      → IfOk o (λ b. IsAtMostStatedOrOverLimit starts found stated (signed_of b))
  ok-least-at_most_stated =
      if-ok (IsLeastWithinLimits found stated) (IsAtMostStatedOrOverLimit starts found stated) (least-at_most_stated starts found stated)

  pub ok-least-one : IfOk o (λ b. IsLeastWithinLimits found stated (signed_of b))
      → IfOk o (λ b. IsOneOrMinimum found stated (signed_of b))
  ok-least-one = if-ok (IsLeastWithinLimits found stated) (IsOneOrMinimum found stated) (least-one found stated)

  pub ok-stated-at_most_stated : IfOk o (λ b. signed_of b ≡ stated) → IfOk o (λ b. IsAtMostStatedOrOverLimit starts found stated (signed_of b))
  ok-stated-at_most_stated =
      if-ok (λ b. b ≡ stated) (IsAtMostStatedOrOverLimit starts found stated) (λ b e. inl (stated-below starts stated b e))

-- a number, and an integer, that is at most two numbers is at most the lesser
both : (a n m : ℕ) → a ≤ n → a ≤ m → a ≤ min m n
both a n m h k = omega arith

both_ℤ : (z : ℤ) (n m : ℕ) → z ≤ℤ pos n → z ≤ℤ pos m → z ≤ℤ pos (min m n)
both_ℤ z n m h k = go (cases_lt n m)
  where
    go : (n < m) ⊎ (m ≤ n) → z ≤ℤ pos (min m n)
    go (inl l) =
        let e : min m n ≡ n = omega arith in subst (λ (v : ℕ). z ≤ℤ pos v) (sym e) h
    go (inr l) =
        let e : min m n ≡ m = omega arith in subst (λ (v : ℕ). z ≤ℤ pos v) (sym e) k

module _ (p : Program) where
  -- the minimum of two bounds that hold on a subject holds
  least-holds : (s : Subject) (found stated : Signed) → HoldsOf p (stated_by s found) → HoldsOf p (stated_by s stated)
      → HoldsOf p (stated_by s (least_of found stated))
  least-holds (subjects.Time t) found stated f g = record {
    each = λ start steps c run. both _ _ _ (g.each start steps c run) (f.each start steps c run);
  }
  least-holds (subjects.Cost t) found stated f g = record {
    each = λ start steps c run. both _ _ _ (g.each start steps c run) (f.each start steps c run);
  }
  least-holds subjects.Total found stated f g = record {
    each = λ start steps c run. both _ _ _ (g.each start steps c run) (f.each start steps c run);
  }
  least-holds (subjects.Above t i) found stated f g = record {
    each = λ start steps c run last.
        both_ℤ (place_value c i) _ _ (g.each start steps c run last) (f.each start steps c run last);
  }
  least-holds (subjects.Below t i) found stated f g = record {
    each = λ start steps c run last. both_ℤ _ _ _ (g.each start steps c run last) (f.each start steps c run last);
  }

  -- one of two bounds that hold, or their minimum, holds
  one-holds : (s : Subject) (found stated b : Signed) → HoldsOf p (stated_by s found) → HoldsOf p (stated_by s stated)
      → IsOneOrMinimum found stated b → HoldsOf p (stated_by s b)
  one-holds s found stated b f g (inl e) = subst (λ (c : Signed). HoldsOf p (stated_by s c)) (sym e) f
  one-holds s found stated b f g (inr (inl e)) = subst (λ (c : Signed). HoldsOf p (stated_by s c)) (sym e) g
  one-holds s found stated b f g (inr (inr e)) =
      subst (λ (c : Signed). HoldsOf p (stated_by s c)) (sym e) (least-holds s found stated f g)

  -- the chosen bound holds if the bound of the analysis and the stated one hold
  pub chosen-holds : (s : Subject) (found stated b : Option Signed) → IfSome found (λ c. HoldsOf p (stated_by s c))
      → IfSome stated (λ c. HoldsOf p (stated_by s c)) → IsChosen found stated b
      → IfSome b (λ c. HoldsOf p (stated_by s c))
  chosen-holds s None stated b f g e =
      subst (λ (o : Option Signed). IfSome o (λ c. HoldsOf p (stated_by s c))) (sym e) g
  chosen-holds s (Some found) None b f g e =
      subst (λ (o : Option Signed). IfSome o (λ c. HoldsOf p (stated_by s c))) (sym e) f
  chosen-holds s (Some found) (Some stated) b f g (c, e, is) =
      subst (λ (o : Option Signed). IfSome o (λ c. HoldsOf p (stated_by s c))) (sym e)
      (one-holds s found stated c f g is)

-- a line with the chosen bound holds
pub line-holds : (keep : SignedBoundsKeepValues) (p : Program) (r : Report) (s : Subject) (l : Line)
    (found stated b : Option Signed) → ReportHolds p r → found ≡ signed_analysis_bound r s
    → IfSome stated (λ c. HoldsOf p (stated_by s c)) → IsChosen found stated b → l.subject ≡ s → l.bound ≡ b
    → LineHolds p l
line-holds keep p r s l found stated b h is_found g is_chosen is_subject is_bound =
    subst (λ (t : Subject). IfSome l.bound (λ c. HoldsOf p (stated_by t c))) (sym is_subject)
    (subst (λ (o : Option Signed). IfSome o (λ c. HoldsOf p (stated_by s c))) (sym is_bound)
    (chosen-holds p s found stated b
    (subst (λ (o : Option Signed). IfSome o (λ c. HoldsOf p (stated_by s c))) (sym is_found) (found-holds keep p r s h))
    g is_chosen))

-- some bound is chosen if the analysis has one
chosen-keeps : (found stated b : Option Signed) → IsChosen found stated b → IsSome found → IsSome b
chosen-keeps None stated b e h = cc
chosen-keeps (Some found) None b e h = subst (λ (o : Option Signed). IsSome o) (sym e) h
chosen-keeps (Some found) (Some stated) b (c, e, is) h = subst (λ (o : Option Signed). IsSome o) (sym e) refl

is_some-map : (o : Option Bound) → IsSome o → IsSome (option_map signed_of_bound o)
is_some-map None h = h
is_some-map (Some b) h = refl

-- a line with the chosen bound keeps the bound of the analysis
pub line-keeps : (r : Report) (s : Subject) (l : Line) (found stated b : Option Signed)
    → found ≡ signed_analysis_bound r s → IsChosen found stated b → l.subject ≡ s → l.bound ≡ b → KeepsBound r l
line-keeps r s l found stated b is_found is_chosen is_subject is_bound has =
    let at : IsSome (analysis_bound r s) = subst (λ (t : Subject). IsSome (analysis_bound r t)) is_subject has in
    let has_found : IsSome found =
    subst (λ (o : Option Signed). IsSome o) (sym is_found) (is_some-map (analysis_bound r s) at) in
    subst (λ (o : Option Signed). IsSome o) (sym is_bound) (chosen-keeps found stated b is_chosen has_found)

-- and it is no worse than that
pub line-no_worse : (r : Report) (s : Subject) (l : Line) (found b : Option Signed) (starts compared : List (List ℤ))
    → found ≡ signed_analysis_bound r s → starts ≡ compared → IsNoWorse starts found b → l.subject ≡ s → l.bound ≡ b
    → IsNoWorseLine compared r l
line-no_worse r s l found b starts compared is_found are_compared no_worse is_subject is_bound =
    subst (λ (t : Subject). IsNoWorse compared (signed_analysis_bound r t) l.bound) (sym is_subject)
    (subst (λ (o : Option Signed). IsNoWorse compared (signed_analysis_bound r s) o) (sym is_bound)
    (subst (λ (o : Option Signed). IsNoWorse compared o b) is_found
    (subst (λ (xs : List (List ℤ)). IsNoWorse xs found b) are_compared no_worse)))

-- it is the one that is chosen of the bound of the analysis and of the first statement
pub line-chosen : (r : Report) (stated : List Stated) (s : Subject) (l : Line) (found known b : Option Signed)
    → found ≡ signed_analysis_bound r s → known ≡ first_on stated s → IsChosen found known b → l.subject ≡ s
    → l.bound ≡ b → IsChosenOn r stated l.subject l.bound
line-chosen r stated s l found known b is_found is_known chosen is_subject is_bound =
    subst (λ (t : Subject). IsChosen (signed_analysis_bound r t) (first_on stated t) l.bound) (sym is_subject)
    (subst (λ (o : Option Signed). IsChosen (signed_analysis_bound r s) (first_on stated s) o) (sym is_bound)
    (subst (λ (o : Option Signed). IsChosen (signed_analysis_bound r s) o b) is_known
    (subst (λ (o : Option Signed). IsChosen o known b) is_found chosen)))

-- and it is at most the first statement, unless the minimum passes the limits
pub line-at_most_stated : (r : Report) (stated : List Stated) (s : Subject) (l : Line) (found known b : Option Signed)
    (starts compared : List (List ℤ)) → found ≡ signed_analysis_bound r s → known ≡ first_on stated s → starts ≡ compared
    → IsAtMostStated starts found known b → l.subject ≡ s → l.bound ≡ b → IsLineAtMostStated compared r stated l
line-at_most_stated r stated s l found known b starts compared is_found is_known are_compared at_most_stated is_subject is_bound =
    subst (λ (t : Subject). IsAtMostStated compared (signed_analysis_bound r t) (first_on stated t) l.bound) (sym is_subject)
    (subst (λ (o : Option Signed). IsAtMostStated compared (signed_analysis_bound r s) (first_on stated s) o) (sym is_bound)
    (subst (λ (o : Option Signed). IsAtMostStated compared (signed_analysis_bound r s) o b) is_known
    (subst (λ (o : Option Signed). IsAtMostStated compared o known b) is_found
    (subst (λ (xs : List (List ℤ)). IsAtMostStated xs found known b) are_compared at_most_stated))))
