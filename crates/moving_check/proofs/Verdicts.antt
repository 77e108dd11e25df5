-- A lasso has at most one right verdict, and a right result gives it.
use Rattle.std.proofs.Common.{◌≡◌, ◌≤◌, length, Ok, Err, Option, Some, None, refl, sym, ◌∙◌, ap, subst}
use Rattle.std.specs.Prelude.{Result, IfSome}
use Rattle.its_model.specs.model.Programs.{Program}
use Rattle.its_model.specs.model.Runs.{Config}
use Rattle.its_model.proofs.poly_terms.model.RunLaws.{same_end}
use Rattle.run_replay.specs.ReplayLaws.{ReplaysAreDecided}
use Rattle.run_replay.specs.Replays.{RunsInRange}
use Rattle.lasso_check.specs.Lassos.{Lasso, stem_back, both_back}
use Rattle.moving_check.specs.declared.error.MovingError.{MovingError}
use Rattle.moving_check.specs.declared.moving.Moving as told
use Rattle.moving_check.specs.Findings.{Finding, Moves, Verdict, Bad, Found, found_between, IsFound, HasVerdict}
use Rattle.moving_check.specs.Answers.{moving_of, verdict_in, Finds, FindsOnly}
use Rattle.moving_check.specs.Laws.{LassosHaveOneVerdict}

-- a lasso has at most one right verdict
pub verdict-unique : ReplaysAreDecided → (p : Program) (l : Lasso) (v w : Verdict) → HasVerdict p l v → HasVerdict p l w → v ≡ w
verdict-unique law p l (Bad a) (Bad b) h k = ap Bad (law.one_bad p l.start (both_back l) a b h k)
verdict-unique law p l (Bad a) (Found f) h k = absurd (law.none_bad p l.start (both_back l) a (k.behind, k.whole) h)
verdict-unique law p l (Found f) (Bad b) h k = absurd (law.none_bad p l.start (both_back l) b (h.behind, h.whole) k)
verdict-unique law p l (Found f) (Found g) h k =
    let before : h.before ≡ k.before = same_end p l.start (stem_back l) h.before k.before h.stem.run k.stem.run in
    let behind : h.behind ≡ k.behind = same_end p l.start (both_back l) h.behind k.behind h.whole.run k.whole.run in
    ap Found (sym h.found
    ∙ (ap (λ (c : Config). found_between p l c h.behind) before
    ∙ (ap (λ (c : Config). found_between p l k.before c) behind ∙ k.found)))

pub one_verdict : ReplaysAreDecided → LassosHaveOneVerdict
one_verdict law = record { one = λ p l v w h k. verdict-unique law p l v w h k }

-- a right result gives the right verdict and no other one
pub found_only : LassosHaveOneVerdict → (p : Program) (l : Lasso) (v : Verdict) → HasVerdict p l v
    → (result : Result told.Moving MovingError) → Finds p l result → FindsOnly v result
found_only law p l v h (Ok m) k = law.one p l (Found (Moves (moving_of m))) v k h
found_only law p l v h (Err e) k = go (verdict_in e) k
  where
    go : (o : Option Verdict) → IfSome o (HasVerdict p l) → IfSome o (λ w. w ≡ v)
    go None k = tt
    go (Some w) k = law.one p l w v k h

-- findings whose verdicts are equal are equal
same_finding : (f g : Finding) → Found f ≡ Found g → f ≡ g
same_finding f g e = cc

-- a result is right if it gives the finding between the configurations to which the stem and both parts lead
pub finds_between : (p : Program) (l : Lasso) (b c : Config) → RunsInRange p l.start (stem_back l) b
    → RunsInRange p l.start (both_back l) c → 1 ≤ length l.turn → (result : Result told.Moving MovingError)
    → FindsOnly (Found (found_between p l b c)) result → Finds p l result
finds_between p l b c stem whole some (Ok m) h = record {
  before = b;
  behind = c;
  stem = stem;
  whole = whole;
  nonempty = some;
  found = sym (same_finding (Moves (moving_of m)) (found_between p l b c) h);
}
finds_between p l b c stem whole some (Err e) h = go (verdict_in e) h
  where
    go : (o : Option Verdict) → IfSome o (λ w. w ≡ Found (found_between p l b c)) → IfSome o (HasVerdict p l)
    go None k = tt
    go (Some w) k =
        subst (HasVerdict p l) (sym k)
        (record { before = b; behind = c; stem = stem; whole = whole; nonempty = some; found = refl })
