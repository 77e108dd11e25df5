-- Tests in stages that decide checks in stages give the first fault.
use Rattle.std.proofs.Common.{◌≡◌, inl, inr, ℕ, suc, List, [], ◌∷◌, Option, Some, None, refl, sym, ap, ◌∙◌}
use Rattle.std.specs.Bool.{Decides}
use Rattle.section_checks.proofs.refined_programs.refinement.model.Cases.{none_some}
use Rattle.cert_rules.specs.Reasons.{CheckOf}
use Rattle.cert_rules.specs.Tests.{first_failing}
use Rattle.cert_rules.proofs.TestLists.{AllDecide, first-sound, first-complete, none-passes, passes-none}
use Rattle.section_checks.specs.Faults.{Fault, AllStagesPass, IsFirstInStages, numbered}
use Rattle.section_decide.specs.Deciding.{Test, numbered_tests, or_then, first_in_stages}

-- each test of each stage decides its check
abbrev pub AllStagesDecide : List (List (CheckOf Fault)) → List (List Test) → Type 0
AllStagesDecide [] [] = Unit {0}
AllStagesDecide [] (ts ∷ tests) = ⊥
AllStagesDecide (cs ∷ checks) [] = ⊥
AllStagesDecide (cs ∷ checks) (ts ∷ tests) = AllDecide cs ts × AllStagesDecide checks tests

-- a fault that the tests give is the first among the checks
pub first-in-stages : (checks : List (List (CheckOf Fault))) (tests : List (List Test)) → AllStagesDecide checks tests
    → (fault : Fault) → first_in_stages tests ≡ Some fault → IsFirstInStages checks fault
first-in-stages [] [] h fault e = absurd (none_some fault e)
first-in-stages [] (ts ∷ tests) h fault e = absurd h
first-in-stages (cs ∷ checks) [] h fault e = absurd h
first-in-stages (cs ∷ checks) (ts ∷ tests) h fault e =
    go (first_failing ts) refl (first-in-stages checks tests h.1 fault) e
  where
    go : (o : Option Fault) → first_failing ts ≡ o
        → (first_in_stages tests ≡ Some fault → IsFirstInStages checks fault)
        → or_then o (first_in_stages tests) ≡ Some fault → IsFirstInStages (cs ∷ checks) fault
    go (Some found) f later k = inl (first-sound cs ts h.0 fault (f ∙ k))
    go None f later k = inr (none-passes cs ts h.0 f, later k)

-- the first fault among the checks is the one that the tests give
pub stages-first : (checks : List (List (CheckOf Fault))) (tests : List (List Test)) → AllStagesDecide checks tests
    → (fault : Fault) → IsFirstInStages checks fault → first_in_stages tests ≡ Some fault
stages-first [] [] h fault k = absurd k
stages-first [] (ts ∷ tests) h fault k = absurd h
stages-first (cs ∷ checks) [] h fault k = absurd h
stages-first (cs ∷ checks) (ts ∷ tests) h fault (inl k) =
    ap (λ (o : Option Fault). or_then o (first_in_stages tests)) (first-complete cs ts h.0 fault k)
stages-first (cs ∷ checks) (ts ∷ tests) h fault (inr (before, k)) =
    ap (λ (o : Option Fault). or_then o (first_in_stages tests)) (passes-none cs ts h.0 before)
    ∙ stages-first checks tests h.1 fault k

-- if the tests give no fault, all checks pass
pub stages-pass : (checks : List (List (CheckOf Fault))) (tests : List (List Test)) → AllStagesDecide checks tests
    → first_in_stages tests ≡ None → AllStagesPass checks
stages-pass [] [] h e = tt
stages-pass [] (ts ∷ tests) h e = absurd h
stages-pass (cs ∷ checks) [] h e = absurd h
stages-pass (cs ∷ checks) (ts ∷ tests) h e = go (first_failing ts) refl (stages-pass checks tests h.1) e
  where
    go : (o : Option Fault) → first_failing ts ≡ o → (first_in_stages tests ≡ None → AllStagesPass checks)
        → or_then o (first_in_stages tests) ≡ None → AllStagesPass (cs ∷ checks)
    go (Some found) f later k = absurd (none_some found (sym k))
    go None f later k = (none-passes cs ts h.0 f, later k)

-- if all checks pass, the tests give no fault
pub stages-none : (checks : List (List (CheckOf Fault))) (tests : List (List Test)) → AllStagesDecide checks tests
    → AllStagesPass checks → first_in_stages tests ≡ None
stages-none [] [] h k = refl
stages-none [] (ts ∷ tests) h k = absurd h
stages-none (cs ∷ checks) [] h k = absurd h
stages-none (cs ∷ checks) (ts ∷ tests) h k =
    ap (λ (o : Option Fault). or_then o (first_in_stages tests)) (passes-none cs ts h.0 k.0)
    ∙ stages-none checks tests h.1 k.1

-- laws for tests of the elements of a list, which decide the checks of these elements
module _ {A : Type 0} (f : ℕ → A → CheckOf Fault) (g : ℕ → A → Test) (same : (k : ℕ) (x : A) → (f k x).reason ≡ (g k x).reason)
    (decides : (k : ℕ) (x : A) → Decides (g k x).passes (f k x).holds) where
  pub numbered-decide : (k : ℕ) (xs : List A) → AllDecide (numbered f k xs) (numbered_tests g k xs)
  numbered-decide k [] = tt
  numbered-decide k (x ∷ xs) = (same k x, (decides k x, numbered-decide (suc k) xs))
