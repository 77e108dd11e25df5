-- Tests that decide checks, one by one, give the first reason.
use Rattle.std.proofs.Common.{◌≡◌, inl, inr, Bool, true, false, cond, List, [], ◌∷◌, Option, Some, None, refl, sym, ap}
use Rattle.std.proofs.Common.{◌∙◌}
use Rattle.std.specs.Bool.{Decides}
use Rattle.run_counting.proofs.model.Membership.{no_is_not_yes}
use Rattle.cert_rules.specs.Reasons.{CheckOf, for_each, AllPass, IsFirstAmong}
use Rattle.cert_rules.specs.Tests.{TestOf, first_failing}

-- each test decides its check, and has its reason
abbrev pub AllDecide : {R : Type 0} → List (CheckOf R) → List (TestOf R) → Type 0
AllDecide [] [] = Unit {0}
AllDecide [] (t ∷ ts) = ⊥
AllDecide (c ∷ cs) [] = ⊥
AllDecide (c ∷ cs) (t ∷ ts) = (c.reason ≡ t.reason) × (Decides t.passes c.holds × AllDecide cs ts)

-- a reason that the tests give is the first among the checks
pub first-sound : {R : Type 0} (cs : List (CheckOf R)) (ts : List (TestOf R)) → AllDecide cs ts → (r : R) → first_failing ts ≡ Some r
    → IsFirstAmong cs r
first-sound [] [] h r e = none_some e
  where
    none_some : None ≡ Some r → ⊥
    none_some k = cc
first-sound [] (t ∷ ts) h r e = absurd h
first-sound (c ∷ cs) [] h r e = absurd h
first-sound (c ∷ cs) (t ∷ ts) h r e = go t.passes refl (first-sound cs ts h.1.1 r) e
  where
    go : (v : Bool) → t.passes ≡ v → (first_failing ts ≡ Some r → IsFirstAmong cs r)
        → cond v (first_failing ts) (Some t.reason) ≡ Some r → IsFirstAmong (c ∷ cs) r
    go true p later k = inr (h.1.0.0 p, later k)
    go false p later k = inl ((λ x. no_is_not_yes t.passes p (h.1.0.1 x)), h.0 ∙ same k)
      where
        same : Some t.reason ≡ Some r → t.reason ≡ r
        same l = cc

-- the first reason among the checks is the one that the tests give
pub first-complete : {R : Type 0} (cs : List (CheckOf R)) (ts : List (TestOf R)) → AllDecide cs ts → (r : R) → IsFirstAmong cs r
    → first_failing ts ≡ Some r
first-complete [] [] h r k = absurd k
first-complete [] (t ∷ ts) h r k = absurd h
first-complete (c ∷ cs) [] h r k = absurd h
first-complete (c ∷ cs) (t ∷ ts) h r k = go t.passes refl (first-complete cs ts h.1.1 r) k
  where
    go : (v : Bool) → t.passes ≡ v → (IsFirstAmong cs r → first_failing ts ≡ Some r) → IsFirstAmong (c ∷ cs) r
        → cond v (first_failing ts) (Some t.reason) ≡ Some r
    go true p later (inl l) = absurd (l.0 (h.1.0.0 p))
    go true p later (inr l) = later l.1
    go false p later (inl l) = ap Some (sym h.0 ∙ l.1)
    go false p later (inr l) = absurd (no_is_not_yes t.passes p (h.1.0.1 l.0))

-- if no test fails, all checks pass
pub none-passes : {R : Type 0} (cs : List (CheckOf R)) (ts : List (TestOf R)) → AllDecide cs ts → first_failing ts ≡ None
    → AllPass cs
none-passes [] [] h e = tt
none-passes [] (t ∷ ts) h e = absurd h
none-passes (c ∷ cs) [] h e = absurd h
none-passes (c ∷ cs) (t ∷ ts) h e = go t.passes refl (none-passes cs ts h.1.1) e
  where
    go : (v : Bool) → t.passes ≡ v → (first_failing ts ≡ None → AllPass cs)
        → cond v (first_failing ts) (Some t.reason) ≡ None → AllPass (c ∷ cs)
    go true p later k = (h.1.0.0 p, later k)
    go false p later k = absurd (some_none k)
      where
        some_none : Some t.reason ≡ None → ⊥
        some_none l = cc

-- if all checks pass, no test fails
pub passes-none : {R : Type 0} (cs : List (CheckOf R)) (ts : List (TestOf R)) → AllDecide cs ts → AllPass cs
    → first_failing ts ≡ None
passes-none [] [] h k = refl
passes-none [] (t ∷ ts) h k = absurd h
passes-none (c ∷ cs) [] h k = absurd h
passes-none (c ∷ cs) (t ∷ ts) h k =
    ap (λ (v : Bool). cond v (first_failing ts) (Some t.reason)) (h.1.0.1 k.0) ∙ passes-none cs ts h.1.1 k.1

-- if no reason is the first, all checks pass
pub faultless-passes : {R : Type 0} (cs : List (CheckOf R)) (ts : List (TestOf R)) → AllDecide cs ts
    → ((r : R) → ¬ (IsFirstAmong cs r)) → AllPass cs
faultless-passes {R = R} cs ts h n = go (first_failing ts) refl
  where
    go : (o : Option R) → first_failing ts ≡ o → AllPass cs
    go None e = none-passes cs ts h e
    go (Some r) e = absurd (n r (first-sound cs ts h r e))

-- laws for tests of each element of a list
module _ {X R : Type 0} (f : X → CheckOf R) (g : X → TestOf R) (cs : List (CheckOf R)) (ts : List (TestOf R)) where
  -- tests for each element, with the reasons of its checks, decide them, before further ones that decide
  pub each-decides : ((x : X) → (f x).reason ≡ (g x).reason) → ((x : X) → Decides (g x).passes (f x).holds)
      → AllDecide cs ts → (xs : List X) → AllDecide (for_each f xs cs) (for_each g xs ts)
  each-decides same decides rest [] = rest
  each-decides same decides rest (x ∷ xs) = (same x, (decides x, each-decides same decides rest xs))
