-- Proofs of the worked values of lassos whose turns are meant to move on, and of their texts.
use Rattle.std.proofs.Common.{◌≡◌, ℕ, List, [], ◌∷◌, length, get_or, ℤ, pos, negsuc, None, refl, ap, arith}
use Rattle.std.specs.Fmt.{digits}
use Rattle.std.proofs.lemmas.Int.{ints}
use Rattle.its_model.specs.model.Terms.{Term, Variable, Addition, value}
use Rattle.its_model.specs.model.Worked.{by_rule, one_value}
use Rattle.its_model.specs.Steps.{AtomFails}
use Rattle.lassos.specs.Worked.{looping_by, plus_one, less_one, squared}
use Rattle.lasso_check.specs.WorkedChecks.{along, circling}
use Rattle.lasso_check.proofs.WorkedChecks.{entered, looped, by_entering, by_leaving, bad_behind}
use Rattle.run_replay.specs.ReplayLaws.{ReplaysAreDecided}
use Rattle.run_replay.specs.Replays.{replay_fault}
use Rattle.run_replay.proofs.ReplayFaults.{ReplayStepsHaveNoFault}
use Rattle.affine_turns.specs.Turns.{AtomStops, NonlinearPlace}
use Rattle.moving_check.specs.Findings.{Moving, Finding, Moves, StopsAt, ChangesAt, Verdict, Found, found_between, IsFound}
use Rattle.moving_check.specs.Worked.{by, FoundOf, MovingLassosAreFound, FormsAreExchanged}
use Rattle.moving_check.proofs.Verdicts.{verdict-unique}

-- findings with different differences or rules are different
other_differences : (ds es : List ℤ) (rs ss : List ℕ) → (ds ≡ es → ⊥) → by ds rs ≡ by es ss → ⊥
other_differences ds es rs ss ne e =
    let same : ◌≡◌ {A = Moving} (record { differences = ds; rules = rs; cost = 1 }) (record { differences = es; rules = ss; cost = 1 }) = cc in
    ne (ap (λ (m : Moving). m.differences) same)

other_rules : (ds es : List ℤ) (rs ss : List ℕ) → (rs ≡ ss → ⊥) → by ds rs ≡ by es ss → ⊥
other_rules ds es rs ss ne e =
    let same : ◌≡◌ {A = Moving} (record { differences = ds; rules = rs; cost = 1 }) (record { differences = es; rules = ss; cost = 1 }) = cc in
    ne (ap (λ (m : Moving). m.rules) same)

moves_not_changes : (ds : List ℤ) (rs : List ℕ) (n : ℕ) → by ds rs ≡ Found (ChangesAt n) → ⊥
moves_not_changes ds rs n e = cc

stops_not_moves : (n m : ℕ) (ds : List ℤ) (rs : List ℕ)
    → Found (StopsAt (record { number = n; stop = AtomStops m })) ≡ by ds rs → ⊥
stops_not_moves n m ds rs e = cc

module _ (law : ReplayStepsHaveNoFault) (decided : ReplaysAreDecided) where
  -- the verdict of a loop whose two steps are good is its finding
  found : (u : Term) (z : ℤ) (f : Finding) → replay_fault (looping_by u) (one_value 0 z) (by_rule 1) ≡ None
      → replay_fault (looping_by u) (one_value 1 z) (by_rule 2) ≡ None
      → found_between (looping_by u) (along z (1 ∷ []) (2 ∷ [])) (one_value 1 z) (one_value 1 (value u (z ∷ []))) ≡ f
      → FoundOf u z (Found f)
  found u z f first second is = record {
    before = one_value 1 z;
    behind = one_value 1 (value u (z ∷ []));
    stem = entered law decided u z first;
    whole = looped law decided u z first second;
    nonempty = omega arith;
    found = is;
  }

  grows : FoundOf plus_one (pos 1) (by (pos 1 ∷ []) (2 ∷ []))
  grows = found plus_one (pos 1) _ refl refl refl

  only_grows : (v : Verdict) → FoundOf plus_one (pos 1) v → by (pos 1 ∷ []) (2 ∷ []) ≡ v
  only_grows v h =
      verdict-unique decided (looping_by plus_one) (along (pos 1) (1 ∷ []) (2 ∷ [])) (by (pos 1 ∷ []) (2 ∷ [])) v grows h

  falls : FoundOf less_one (pos 3) (Found (StopsAt (record { number = 2; stop = AtomStops 1 })))
  falls = found less_one (pos 3) _ refl refl refl

  pub lassos_found : MovingLassosAreFound
  lassos_found = record {
    grows = grows;
    not_by_2 = λ h. other_differences (pos 1 ∷ []) (pos 2 ∷ []) (2 ∷ []) (2 ∷ [])
        (λ e. omega (arith, ints, ap (λ (zs : List ℤ). get_or zs 0 (pos 0)) e)) (only_grows (by (pos 2 ∷ []) (2 ∷ [])) h);
    not_of_stem = λ h. other_rules (pos 1 ∷ []) (pos 1 ∷ []) (2 ∷ []) (1 ∷ 2 ∷ []) (λ e. omega (arith, ap length e))
        (only_grows (by (pos 1 ∷ []) (1 ∷ 2 ∷ [])) h);
    not_changing = λ h. moves_not_changes (pos 1 ∷ []) (2 ∷ []) 1 (only_grows (Found (ChangesAt 1)) h);
    stays = found (Variable 0) (pos 1) _ refl refl refl;
    falls = falls;
    not_falling = λ h. stops_not_moves 2 1 (negsuc 0 ∷ []) (2 ∷ [])
        (verdict-unique decided (looping_by less_one) (along (pos 3) (1 ∷ []) (2 ∷ []))
        (Found (StopsAt (record { number = 2; stop = AtomStops 1 }))) (by (negsuc 0 ∷ []) (2 ∷ [])) falls h);
    bends = found squared (pos 2) _ refl refl refl;
    doubles = found (Addition (Variable 0) (Variable 0)) (pos 1) _ refl refl refl;
    fails = bad_behind law decided (looping_by plus_one) (pos 0) [] 2 (by_rule 1 ∷ []) (one_value 1 (pos 0)) (AtomFails 1)
        (entered law decided plus_one (pos 0) refl) refl;
    leaves = record {
      before = one_value 1 (pos 5);
      behind = one_value 2 (pos 5);
      stem = by_entering law decided (pos 5) refl;
      whole = by_leaving law decided (pos 5) _ refl (by_entering law decided (pos 5) refl);
      nonempty = omega arith;
      found = refl;
    };
  }

pub forms_exchanged : FormsAreExchanged
unfolding digits
forms_exchanged = record {
  second = refl;
  first = refl;
  third = refl;
  short = refl;
  of_second = refl;
  of_first = refl;
  of_short = refl;
}
