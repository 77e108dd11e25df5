-- A turn that is found to move on does so, and its rules occur without end.
use Rattle.std.proofs.Common.{◌≡◌, if◌then◌else◌, Bool, true, false, ℕ, suc, ◌≤◌, List, [], ◌∷◌, ◌++◌, length, ℤ, Option, Some, None}
use Rattle.std.proofs.Common.{refl, sym, ◌∙◌, ap, subst, arith, nat_eq}
use Rattle.std.specs.List.{All}
use Rattle.std.specs.Ordering.{int_eq}
use Rattle.std.proofs.lemmas.Bool.Decides.{Decides-eqb, Decides-int_eq}
use Rattle.std.proofs.lemmas.List.{length-reverse, reverse-append}
use Rattle.its_model.specs.model.Programs.{Program}
use Rattle.its_model.specs.model.Runs.{Config, Step, IsRun}
use Rattle.its_model.specs.model.Bounds.{Bound}
use Rattle.its_model.specs.model.Facts.{HoldsTime}
use Rattle.its_model.proofs.poly_terms.model.Cases.{some_none}
use Rattle.lassos.specs.Lassos.{Endless, IsUsed, GoesOnFor}
use Rattle.lassos.specs.Laws.{LassosAreEndless, EndlessRulesHaveNoTime}
use Rattle.lasso_check.specs.Lassos.{Lasso, stem_back, turn_back, both_back}
use Rattle.lasso_check.specs.Checks.{rules_of_turn}
use Rattle.lasso_check.proofs.Endlessness.{all_used}
use Rattle.affine_turns.specs.declared.affine.Affine.{Affine}
use Rattle.affine_turns.specs.Affine.{slopes, between}
use Rattle.affine_turns.specs.Turns.{StopAt, affine_after, first_stop_along}
use Rattle.affine_turns.specs.Laws.{SeenTurnsGoOn}
use Rattle.moving_check.specs.Findings.{Moving, Finding, Moves, LeavesSymbol, PassesAt, StopsAt, ChangesAt, first_wide}
use Rattle.moving_check.specs.Findings.{first_change, at_place, at_stop, moving_from, found_of, found_between, IsFound}
use Rattle.moving_check.specs.Laws.{MovingTurnsAreEndless}

-- if the finding is that a turn moves on, then no place was found
no_place : (o : Option ℕ) (found : ℕ → Finding) (rest : Finding) (m : Moving) → ((n : ℕ) → found n ≡ Moves m → ⊥)
    → at_place o found rest ≡ Moves m → (o ≡ None) × (rest ≡ Moves m)
no_place None found rest m other e = (refl, e)
no_place (Some n) found rest m other e = absurd (other n e)

-- if the finding is that a turn moves on, then no step failed the test
no_stop : (o : Option StopAt) (n : ℕ) (rest : Finding) (m : Moving) → at_stop o n rest ≡ Moves m
    → (o ≡ None) × (rest ≡ Moves m)
no_stop None n rest m e = (refl, e)
no_stop (Some s) n rest m e = cc

-- if the finding between two configurations is that the turn moves on, they have the same symbol
same_symbol : (p : Program) (l : Lasso) (b c : Config) (m : Moving) → found_between p l b c ≡ Moves m
    → (b.at ≡ c.at) × (found_of p l b.values (between b.values c.values) ≡ Moves m)
same_symbol p l b c m e = go (nat_eq b.at c.at) refl e
  where
    go : (t : Bool) → nat_eq b.at c.at ≡ t
        → (if t then found_of p l b.values (between b.values c.values) else LeavesSymbol) ≡ Moves m
        → (b.at ≡ c.at) × (found_of p l b.values (between b.values c.values) ≡ Moves m)
    go true is h = ((Decides-eqb b.at c.at).0 is, h)
    go false is h = cc

-- affine values without a first change have the same slopes
same_slopes : (n : ℕ) (env behind : List Affine) → first_change n env behind ≡ None → slopes behind ≡ slopes env
same_slopes n [] [] e = refl
same_slopes n [] (b ∷ behind) e = absurd (some_none n e)
same_slopes n (a ∷ env) [] e = absurd (some_none n e)
same_slopes n (a ∷ env) (b ∷ behind) e = go (int_eq a.slope b.slope) refl e (same_slopes (suc n) env behind)
  where
    go : (t : Bool) → int_eq a.slope b.slope ≡ t → (if t then first_change (suc n) env behind else Some n) ≡ None
        → (first_change (suc n) env behind ≡ None → slopes behind ≡ slopes env) → slopes (b ∷ behind) ≡ slopes (a ∷ env)
    go true is h rest =
        ap (λ (z : ℤ). z ∷ slopes behind) (sym ((Decides-int_eq a.slope b.slope).0 is))
        ∙ ap (λ (zs : List ℤ). a.slope ∷ zs) (rest h)
    go false is h rest = absurd (some_none n h)

-- equal findings of turns that move on have equal results
same_moving : (m n : Moving) → Moves m ≡ Moves n → m ≡ n
same_moving m n e = cc

-- what holds of a turn whose finding is that it moves on: the tests that it passed
record MovesFrom (p : Program) (l : Lasso) (values : List ℤ) (env : List Affine) (m : Moving) : Type 0 where
  no_stops : first_stop_along p env (turn_back l) ≡ None
  again : slopes (affine_after p env (turn_back l)) ≡ slopes env
  told : moving_from p l values env ≡ m

moves_from : (p : Program) (l : Lasso) (values : List ℤ) (env : List Affine) (m : Moving)
    → found_of p l values env ≡ Moves m → MovesFrom p l values env m
moves_from p l values env m e =
    let behind = affine_after p env (turn_back l) in
    let last = at_place (first_change 1 env behind) ChangesAt (Moves (moving_from p l values env)) in
    let one =
    no_place (first_wide 1 env) PassesAt (at_stop (first_stop_along p env (turn_back l)) (length l.stem) last) m
    (λ n f. cc) e in
    let two = no_stop (first_stop_along p env (turn_back l)) (length l.stem) last m one.1 in
    let three = no_place (first_change 1 env behind) ChangesAt (Moves (moving_from p l values env)) m (λ n f. cc) two.1 in
    record {
      no_stops = two.0;
      again = same_slopes 1 env behind three.0;
      told = same_moving (moving_from p l values env) m three.1;
    }

-- a turn whose finding is that it moves on does so by the reported differences
goes_on : SeenTurnsGoOn → (p : Program) (l : Lasso) (m : Moving) → (h : IsFound p l (Moves m))
    → GoesOnFor p l.start (stem_back l) (turn_back l) h.before m.differences × (rules_of_turn p l ≡ m.rules)
goes_on seen p l m h =
    let here = same_symbol p l h.before h.behind m h.found in
    let env = between h.before.values h.behind.values in
    let moves = moves_from p l h.before.values env m here.1 in (
      subst (GoesOnFor p l.start (stem_back l) (turn_back l) h.before)
          (ap (λ (n : Moving). n.differences) moves.told)
          (seen.each p l.start (stem_back l) (turn_back l) h.before h.behind h.stem.run
          (subst (λ (ss : List Step). IsRun p l.start ss h.behind) (reverse-append l.stem l.turn) h.whole.run)
          (omega (arith, h.nonempty, length-reverse l.turn)) here.0 moves.no_stops moves.again),
      ap (λ (n : Moving). n.rules) moves.told,
    )

pub moving_endless : SeenTurnsGoOn → LassosAreEndless → EndlessRulesHaveNoTime → MovingTurnsAreEndless
moving_endless seen endless no_time = record {
  goes_on = λ p l m h. (h.before, (goes_on seen p l m h).0);
  endless = λ p l m h. each p l m h (λ u. Endless p l.start u) (λ u used. occurs p l m h u used);
  no_time = λ p l m h. each p l m h (λ u. (bound : Bound) → ¬ (HoldsTime p u bound))
      (λ u used. no_time.each p l.start u (occurs p l m h u used));
}
  where
    occurs : (p : Program) (l : Lasso) (m : Moving) → IsFound p l (Moves m) → (u : ℕ) → IsUsed u (turn_back l) → Endless p l.start u
    occurs p l m h u used =
        endless.on p l.start (stem_back l) (turn_back l) h.before m.differences (goes_on seen p l m h).0 u used

    each : (p : Program) (l : Lasso) (m : Moving) → IsFound p l (Moves m) → (P : ℕ → Type 0)
        → ((u : ℕ) → IsUsed u (turn_back l) → P u) → All P m.rules
    each p l m h P give =
        subst (All P) (goes_on seen p l m h).1 (all_used (turn_back l) P give 1 (length p.rules) (omega arith))
