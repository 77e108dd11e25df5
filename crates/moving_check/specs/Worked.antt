-- Worked values: lassos whose turns are meant to move on, and their texts, right and wrong ones.
use Rattle.std.specs.Prelude.{◌≡◌, ℕ, true, false, List, [], ◌∷◌, ℤ, pos, negsuc, codes}
use Rattle.its_model.specs.model.Terms.{Term, Variable, Addition}
use Rattle.its_model.specs.Steps.{AtomFails}
use Rattle.lassos.specs.Worked.{looping_by, plus_one, less_one, squared}
use Rattle.lasso_check.specs.WorkedChecks.{along, circling}
use Rattle.affine_turns.specs.Turns.{AtomStops, NonlinearPlace}
use Rattle.moving_check.specs.Findings.{Moves, LeavesSymbol, StopsAt, ChangesAt, Verdict, Bad, Found, HasVerdict}
use Rattle.moving_check.specs.Texts.{exchanged, is_moving_form, moving_text}

-- a turn that moves on by these differences, with these rules, at a cost of 1
abbrev pub by : List ℤ → List ℕ → Verdict
by differences rules = Found (Moves (record { differences = differences; rules = rules; cost = 1 }))

-- this is the right verdict on the loop with this update, entered by rule 1 with this value of A, whose turn is by rule
-- 2
abbrev pub FoundOf : Term → ℤ → Verdict → Type 0
FoundOf update z v = HasVerdict (looping_by update) (along z (1 ∷ []) (2 ∷ [])) v

pub record MovingLassosAreFound : Type 0 where
  -- if A increases by 1, the turn moves on by 1, and no other verdict is right
  pub grows : FoundOf plus_one (pos 1) (by (pos 1 ∷ []) (2 ∷ []))
  pub not_by_2 : ¬ (FoundOf plus_one (pos 1) (by (pos 2 ∷ []) (2 ∷ [])))
  pub not_of_stem : ¬ (FoundOf plus_one (pos 1) (by (pos 1 ∷ []) (1 ∷ 2 ∷ [])))
  pub not_changing : ¬ (FoundOf plus_one (pos 1) (Found (ChangesAt 1)))
  -- if A doesn't change, the turn moves on by 0
  pub stays : FoundOf (Variable 0) (pos 1) (by (pos 0 ∷ []) (2 ∷ []))
  -- if A decreases, its guard may cease to hold
  pub falls : FoundOf less_one (pos 3) (Found (StopsAt (record { number = 2; stop = AtomStops 1 })))
  pub not_falling : ¬ (FoundOf less_one (pos 3) (by (negsuc 0 ∷ []) (2 ∷ [])))
  -- a square isn't found to change by the same amount, and a double changes by another amount the next time
  pub bends : FoundOf squared (pos 2) (Found (StopsAt (record { number = 2; stop = NonlinearPlace 1 })))
  pub doubles : FoundOf (Addition (Variable 0) (Variable 0)) (pos 1) (Found (ChangesAt 1))
  -- a bad step is reported first, and then another symbol
  pub fails : FoundOf plus_one (pos 0) (Bad (record { number = 2; fault = AtomFails 1 }))
  pub leaves : HasVerdict circling (along (pos 5) (1 ∷ []) (2 ∷ [])) (Found LeavesSymbol)

pub record FormsAreExchanged : Type 0 where
  pub second : moving_text (along (pos 1) (1 ∷ []) (2 ∷ [])) ≡ codes "koat-lasso 2\nstart 1\nstep 1\nloop\nstep 2\nend\n"
  pub first : exchanged (codes "koat-lasso 1\nstart 2\n") ≡ codes "koat-lasso 2\nstart 2\n"
  pub third : exchanged (codes "koat-lasso 3\n") ≡ codes "koat-lasso 3\n"
  pub short : exchanged (codes "koat-lasso ") ≡ codes "koat-lasso "
  pub of_second : is_moving_form (codes "koat-lasso 2") ≡ true
  pub of_first : is_moving_form (codes "koat-lasso 1\n") ≡ false
  pub of_short : is_moving_form (codes "koat-lasso ") ≡ false
