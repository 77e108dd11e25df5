-- The only test that fails gives the only check that does.
use Rattle.std.proofs.Common.{◌≡◌, inl, inr, ℕ, Bool, true, false, cond, List, [], ◌∷◌, refl, ◌∙◌}
use Rattle.run_counting.specs.model.Programs.{Program}
use Rattle.run_counting.proofs.model.Membership.{no_is_not_yes}
use Rattle.rule_forms.specs.linear_forms.RuleQuestions.{RuleForms}
use Rattle.cert_rules.specs.Gaps.{Gap}
use Rattle.cert_rules.specs.GapChecks.{GapFault, gap_checks}
use Rattle.cert_rules.specs.Reasons.{CheckOf, AllPass}
use Rattle.cert_rules.specs.Tests.{TestOf, failing}
use Rattle.cert_rules.specs.GapTests.{gap_tests}
use Rattle.cert_rules.specs.WorkedGaps.{FailsAlone}
use Rattle.cert_rules.proofs.TestLists.{AllDecide}
use Rattle.cert_rules.proofs.GapTests.{gap-decides}

-- if no test is among those that fail, all checks pass
none-failing : {R : Type 0} (cs : List (CheckOf R)) (ts : List (TestOf R)) → AllDecide cs ts → failing ts ≡ [] → AllPass cs
none-failing [] [] h e = tt
none-failing [] (t ∷ ts) h e = absurd h
none-failing (c ∷ cs) [] h e = absurd h
none-failing (c ∷ cs) (t ∷ ts) h e = go t.passes refl (none-failing cs ts h.1.1) e
  where
    go : (v : Bool) → t.passes ≡ v → (failing ts ≡ [] → AllPass cs) → cond v (failing ts) (t.reason ∷ failing ts) ≡ []
        → AllPass (c ∷ cs)
    go true p later k = (h.1.0.0 p, later k)
    go false p later k = absurd (some_none k)
      where
        some_none : t.reason ∷ failing ts ≡ [] → ⊥
        some_none l = cc

-- the reason of the only test that fails is that of the only check that does
pub failing-alone : {R : Type 0} (cs : List (CheckOf R)) (ts : List (TestOf R)) → AllDecide cs ts → (r : R)
    → failing ts ≡ r ∷ [] → FailsAlone cs r
failing-alone [] [] h r e = none_some e
  where
    none_some : [] ≡ r ∷ [] → ⊥
    none_some k = cc
failing-alone [] (t ∷ ts) h r e = absurd h
failing-alone (c ∷ cs) [] h r e = absurd h
failing-alone (c ∷ cs) (t ∷ ts) h r e = go t.passes refl (failing-alone cs ts h.1.1 r) e
  where
    go : (v : Bool) → t.passes ≡ v → (failing ts ≡ r ∷ [] → FailsAlone cs r)
        → cond v (failing ts) (t.reason ∷ failing ts) ≡ r ∷ [] → FailsAlone (c ∷ cs) r
    go true p later k = inr (h.1.0.0 p, later k)
    go false p later k =
        inl ((λ x. no_is_not_yes t.passes p (h.1.0.1 x)), h.0 ∙ first k, none-failing cs ts h.1.1 (rest k))
      where
        first : t.reason ∷ failing ts ≡ r ∷ [] → t.reason ≡ r
        first l = cc

        rest : t.reason ∷ failing ts ≡ r ∷ [] → failing ts ≡ []
        rest l = cc

-- the reason of the only test of a gap that fails is its only fault
pub only-fault : (p : Program) (rule : ℕ → RuleForms) (g : Gap) (x : GapFault) → failing (gap_tests p rule g) ≡ x ∷ []
    → FailsAlone (gap_checks p rule g) x
only-fault p rule g x = failing-alone (gap_checks p rule g) (gap_tests p rule g) (gap-decides p rule g) x
