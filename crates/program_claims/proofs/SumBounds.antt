-- The bounds that lemmas give for a sum of charges hold.
use Rattle.std.proofs.Common.{◌≡◌, ◌≢◌, ◌⊎◌, inl, inr, ◌≤◌, ◌+◌, ℕ, zero, suc, ◌==◌, Bool, true, false, List, [], ◌∷◌}
use Rattle.std.proofs.Common.{Option, Some, None, refl, sym, ap, ◌∙◌, subst, arith}
use Rattle.std.specs.Prelude.{ℤ, if◌then◌else◌}
use Rattle.std.proofs.lemmas.Bool.Decides.{eqb_tells}
use Rattle.model.specs.Programs.{Program}
use Rattle.model.specs.Runs.{Config, Step, IsRun}
use Rattle.model.proofs.Cases.{none_some, some_same}
use Rattle.signed_bounds.specs.Bounds.{Signed, Constant, SumOf, SignedParts, Part, signed_val}
use Rattle.signed_bounds.specs.Safe.{IsSafe, expands_to_squares}
use Rattle.signed_bounds.specs.Within.{within, WithinHolds}
use Rattle.potentials.specs.Sums.{Charge, charges, weighed, HoldsSum}
use Rattle.potentials.proofs.SumLaws.{zero-sum}
use Rattle.potential_nodes.specs.Facts.{SignedFact, AllSignedHold, sum_bound, is_never}
use Rattle.potential_nodes.specs.PlainPeaks.{joined_part}
use Rattle.potential_nodes.proofs.BoundLaws.{within-above}
use Rattle.potential_nodes.proofs.FactLaws.{sum_bound-holds, never-steps}
use Rattle.program_claims.specs.Claims.{Support, ByOne, ByEach}
use Rattle.program_claims.specs.Verdicts.{Accepted, Refused, BadLemma, LowBound, verdict_or}
use Rattle.program_claims.specs.Sums.{charge_bound, charge_bounds, parts_bound, charges_bound}
use Rattle.program_claims.proofs.VerdictLaws.{refused_accepted, accepted_same}

-- the sum of a charge and others is the sum of that charge and the sum of the others
weighed-cons : (q : Program) (c : Charge) (cs : List Charge) (start : List ℤ) (steps : List Step)
    → weighed q (charges (c ∷ cs)) start steps
    ≡ weighed q (charges (c ∷ [])) start steps + weighed q (charges cs) start steps
weighed-cons q c cs start [] = refl
weighed-cons q c cs start (s ∷ earlier) = let others = weighed-cons q c cs start earlier in omega (arith, others)

module _ (q : Program) (facts : List SignedFact) (hold : AllSignedHold q facts) where
  -- the charge of a rule that never occurs sums up to 0
  never-charged : (c : Charge) → is_never facts c.rule ≡ true → (start : List ℤ) (steps : List Step) (d : Config)
      → IsRun q start steps d → weighed q (charges (c ∷ [])) start steps ≡ 0
  never-charged c never start [] d run = refl
  never-charged c never start (s ∷ earlier) d (b, run, step) =
      go (eqb_tells c.rule s.rule) (never-charged c never start earlier b run)
    where
      go : ((c.rule == s.rule) ≡ true) × (c.rule ≡ s.rule) ⊎ ((c.rule == s.rule) ≡ false) × (c.rule ≢ s.rule)
          → weighed q (charges (c ∷ [])) start earlier ≡ 0 → weighed q (charges (c ∷ [])) start (s ∷ earlier) ≡ 0
      go (inl (test, same)) ih =
          absurd (never-steps q c.rule facts hold never start b s d (record { earlier = earlier; run = run; step = step }) (sym same))
      go (inr (test, other)) ih = rw test (omega (arith, ih))

  -- the bound that a lemma gives for the sum of a charge holds
  charge_bound-holds : (c : Charge) (n : ℕ) (b : Signed) → charge_bound facts c n ≡ Some b
      → HoldsSum q (charges (c ∷ [])) (signed_val b)
  charge_bound-holds c zero b h = go (is_never facts c.rule) refl h
    where
      go : (v : Bool) → is_never facts c.rule ≡ v → (if v then Some (Constant 0) else None) ≡ Some b
          → HoldsSum q (charges (c ∷ [])) (signed_val b)
      go true e k = record {
        each = λ start steps d run. let none = never-charged c e start steps d run in omega (arith, none);
      }
      go false e k = absurd (none_some b k)
  charge_bound-holds c (suc n) b h = sum_bound-holds q facts hold (c ∷ []) (suc n) b h

  -- the bounds that lemmas give for the sums of charges hold
  charge_bounds-hold : (cs : List Charge) (ns : List ℕ) (parts : SignedParts) → charge_bounds facts cs ns ≡ Some parts
      → (start : List ℤ) (steps : List Step) (d : Config) → IsRun q start steps d
      → weighed q (charges cs) start steps ≤ signed_val (SumOf parts) start
  charge_bounds-hold [] [] parts h start steps d run =
      let none = (zero-sum q (charges []) (λ u env. refl)).each start steps d run in omega (arith, none)
  charge_bounds-hold [] (n ∷ ns) parts h start steps d run = absurd (none_some parts h)
  charge_bounds-hold (c ∷ cs) [] parts h start steps d run = absurd (none_some parts h)
  charge_bounds-hold (c ∷ cs) (n ∷ ns) parts h start steps d run =
      go (charge_bound facts c n) refl (charge_bounds facts cs ns) refl h
      (λ ps e. charge_bounds-hold cs ns ps e start steps d run)
    where
      go : (o : Option Signed) → charge_bound facts c n ≡ o → (o' : Option SignedParts) → charge_bounds facts cs ns ≡ o'
          → joined_part o o' ≡ Some parts → ((ps : SignedParts) → charge_bounds facts cs ns ≡ Some ps
          → weighed q (charges cs) start steps ≤ signed_val (SumOf ps) start)
          → weighed q (charges (c ∷ cs)) start steps ≤ signed_val (SumOf parts) start
      go None e None e' k ih = absurd (none_some parts k)
      go None e (Some ps) e' k ih = absurd (none_some parts k)
      go (Some b) e None e' k ih = absurd (none_some parts k)
      go (Some b) e (Some ps) e' k ih =
          let here = (charge_bound-holds c n b e).each start steps d run in
          let others = ih ps e' in
          let both = weighed-cons q c cs start steps in
          subst (λ (x : SignedParts). weighed q (charges (c ∷ cs)) start steps ≤ signed_val (SumOf x) start)
          (some_same (Part b ps) parts k) (omega (arith, here, others, both))

  -- an accepted bound on the sum of charges holds
  pub charges_bound-holds : WithinHolds → IsSafe expands_to_squares → (cs : List Charge) (support : Support) (b : Signed)
      → charges_bound facts cs support ≡ Accepted b → HoldsSum q (charges cs) (signed_val b)
  charges_bound-holds within_holds safe cs (ByOne n) b h = go (sum_bound facts cs n) refl h
    where
      go : (o : Option Signed) → sum_bound facts cs n ≡ o → verdict_or BadLemma o ≡ Accepted b
          → HoldsSum q (charges cs) (signed_val b)
      go None e k = absurd (refused_accepted BadLemma b k)
      go (Some b') e k = sum_bound-holds q facts hold cs n b (e ∙ ap Some (accepted_same b' b k))
  charges_bound-holds within_holds safe cs (ByEach ns bound) b h = go (charge_bounds facts cs ns) refl h
    where
      decide : (parts : SignedParts) → charge_bounds facts cs ns ≡ Some parts → (v : Bool)
          → within expands_to_squares 1 (SumOf parts) bound ≡ v
          → (if v then Accepted bound else Refused LowBound) ≡ Accepted b → HoldsSum q (charges cs) (signed_val b)
      decide parts e true low k = record {
        each = λ start steps d run.
            let all = charge_bounds-hold cs ns parts e start steps d run in
            let most = within-above within_holds expands_to_squares safe (SumOf parts) bound low start in
            let same = ap (λ (x : Signed). signed_val x start) (accepted_same bound b k) in
            omega (arith, all, most, same);
      }
      decide parts e false low k = absurd (refused_accepted LowBound b k)

      go : (o : Option SignedParts) → charge_bounds facts cs ns ≡ o → parts_bound bound o ≡ Accepted b
          → HoldsSum q (charges cs) (signed_val b)
      go None e k = absurd (refused_accepted BadLemma b k)
      go (Some parts) e k = decide parts e (within expands_to_squares 1 (SumOf parts) bound) refl k
