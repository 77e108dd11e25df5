-- The bounds that lemmas give for a sum of charges.
use Rattle.std.specs.Prelude.{ℕ, zero, suc, if◌then◌else◌, List, [], ◌∷◌, Option, Some, None}
use Rattle.potentials.specs.Sums.{Charge}
use Rattle.signed_bounds.specs.Bounds.{Signed, Constant, SumOf, SignedParts, NoParts}
use Rattle.signed_bounds.specs.Safe.{expands_to_squares}
use Rattle.signed_bounds.specs.Within.{within}
use Rattle.potential_nodes.specs.Facts.{SignedFact, sum_bound, is_never}
use Rattle.potential_nodes.specs.PlainPeaks.{joined_part}
use Rattle.program_claims.specs.Claims.{Support, ByOne, ByEach}
use Rattle.program_claims.specs.Verdicts.{Verdict, Accepted, Refused, BadLemma, LowBound, verdict_or}

-- The bound on the sum of a charge that the cited lemma gives. The charge of a rule that never occurs needs no lemma;
-- its number is then 0.
abbrev pub charge_bound : List SignedFact → Charge → ℕ → Option Signed
charge_bound facts c zero = if is_never facts c.rule then Some (Constant 0) else None
charge_bound facts c (suc n) = sum_bound facts (c ∷ []) (suc n)

-- the bounds on the sums of these charges, one lemma for each
abbrev pub charge_bounds : List SignedFact → List Charge → List ℕ → Option SignedParts
charge_bounds facts [] [] = Some NoParts
charge_bounds facts [] (n ∷ ns) = None
charge_bounds facts (c ∷ cs) [] = None
charge_bounds facts (c ∷ cs) (n ∷ ns) = joined_part (charge_bound facts c n) (charge_bounds facts cs ns)

-- the stated bound is accepted if there are bounds on all parts and their sum is at most the stated one
abbrev pub parts_bound : Signed → Option SignedParts → Verdict Signed
parts_bound bound None = Refused BadLemma
parts_bound bound (Some parts) =
    if within expands_to_squares 1 (SumOf parts) bound then Accepted bound else Refused LowBound

-- the bound on the sum of these charges, by one lemma on all of them, or by one for each
abbrev pub charges_bound : List SignedFact → List Charge → Support → Verdict Signed
charges_bound facts charges (ByOne n) = verdict_or BadLemma (sum_bound facts charges n)
charges_bound facts charges (ByEach ns bound) = parts_bound bound (charge_bounds facts charges ns)
