-- Verdicts on claims: accepted, or why not.
use Rattle.std.specs.Prelude.{Option, Some, None}

-- Why a claim isn't accepted: there is no such rule; the rule has no written cost; there is no such place; the symbol
-- has no copy; one of its copies has no fact that implies the claim; a cited lemma doesn't exist or states something
-- else, or the lemmas are too few or too many; or the stated bound may be too low.
pub data ClaimReason : Type 0 where
  NoRule : ClaimReason
  NoCost : ClaimReason
  NoPlace : ClaimReason
  NoCopy : ClaimReason
  NoFact : ClaimReason
  BadLemma : ClaimReason
  LowBound : ClaimReason

-- a verdict: the accepted value, or the reason why nothing is accepted
pub data Verdict (A : Type 0) : Type 0 where
  Accepted : A → Verdict A
  Refused : ClaimReason → Verdict A

-- the verdict with a function applied to the accepted value
abbrev pub verdict_map : {A B : Type 0} → (A → B) → Verdict A → Verdict B
verdict_map f (Accepted x) = Accepted (f x)
verdict_map f (Refused reason) = Refused reason

-- the value, if there is one, as accepted, else the reason
abbrev pub verdict_or : {A : Type 0} → ClaimReason → Option A → Verdict A
verdict_or reason None = Refused reason
verdict_or reason (Some x) = Accepted x
