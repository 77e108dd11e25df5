-- Proofs of the worked bounds: each holds on all runs, or some run exceeds it.
use Rattle.std.proofs.Common.{◌≡◌, ℕ, zero, suc, ◌≤◌, ◌⊎◌, inl, inr, List, [], ◌∷◌, length, ℤ, pos, negsuc, nat_abs}
use Rattle.std.proofs.Common.{Some, None, refl, sym, ap, subst, arith}
use Rattle.std.specs.Prelude.{slice_index}
use Rattle.std.proofs.lemmas.Int.{ints}
use Rattle.model.specs.Programs.{Rule, rule_at}
use Rattle.model.specs.Runs.{Config, Step, Leads, IsStep, IsRun, count, place_value, sizes_of_start}
use Rattle.model.specs.Worked.{by_rule, two_values}
use Rattle.model.specs.WorkedRuns.{entering, countdown, entry_alone, both}
use Rattle.model.specs.WorkedFacts.{StepsAndPlacesAreCounted, TimesHold, LengthsHold, SizesHold}
use Rattle.model.proofs.RunLaws.{entry_once, one_if_same-same}
use Rattle.model.proofs.WorkedRuns.{enters_at, entered, looped}
use Rattle.model.proofs.CountdownRuns.{value_at, looks, two_starts, sizes_of_two, first_once, loop_nine, loop_start}
use Rattle.model.proofs.CountdownRuns.{ten_steps, third_never, begun_sizes, entered_sizes, looped_sizes}

-- the worked values of counts and places hold
pub counted : StepsAndPlacesAreCounted
counted = record { apart = refl; between = refl; none = refl; entry_of_none = refl; entry_of_three = refl; last_of_three = refl; last_of_two = refl; place_0 = refl; place_3 = refl }

-- a step of the program of the first rule alone is by that rule, and leads from l0 to l1
pub alone_step : (b : Config) (s : Step) (c : Config) → IsStep entry_alone b s c → (s.rule ≡ 1) × (b.at ≡ 0) × (c.at ≡ 1)
alone_step b s c h = go s.rule h.rule h.numbered h.leads
  where
    go : (t : ℕ) (r : Rule) → rule_at entry_alone t ≡ Some r → Leads r b s.free c → (t ≡ 1) × (b.at ≡ 0) × (c.at ≡ 1)
    go zero r e l = absurd (none_some e)
      where
        none_some : None ≡ Some r → ⊥
        none_some x = cc
    go (suc zero) r e l = let same : entering ≡ r = cc in let k = subst (λ (q : Rule). Leads q b s.free c) (sym same) l in (refl, k.source, k.target)
    go (suc (suc t)) r e l = absurd (none_some e)
      where
        none_some : None ≡ Some r → ⊥
        none_some x = cc

-- a run of this program has no step, or one by its rule
alone_looks : (start : List ℤ) (steps : List Step) (c : Config) → IsRun entry_alone start steps c
    → (c.at ≡ 0) × (length steps ≡ 0) × (count 1 steps ≡ 0) ⊎ (c.at ≡ 1) × (length steps ≡ 1) × (count 1 steps ≡ 1)
alone_looks start [] c run = inl (run.at, refl, refl)
alone_looks start (s ∷ earlier) c (b, run, step) = go (alone_looks start earlier b run) (alone_step b s c step)
  where
    go : (b.at ≡ 0) × (length earlier ≡ 0) × (count 1 earlier ≡ 0) ⊎ (b.at ≡ 1) × (length earlier ≡ 1) × (count 1 earlier ≡ 1)
        → (s.rule ≡ 1) × (b.at ≡ 0) × (c.at ≡ 1)
        → (c.at ≡ 0) × (length (s ∷ earlier) ≡ 0) × (count 1 (s ∷ earlier) ≡ 0) ⊎ (c.at ≡ 1) × (length (s ∷ earlier) ≡ 1) × (count 1 (s ∷ earlier) ≡ 1)
    go (inl (at, len, one)) (e, source, target) = inr (target, omega (arith, len), omega (arith, one, one_if_same-same s.rule 1 e))
    go (inr (at, len, one)) (e, source, target) = absurd (omega (arith, at, source))

-- a run of this program has at most one step
pub alone_one : (start : List ℤ) (steps : List Step) (c : Config) → IsRun entry_alone start steps c
    → (length steps ≤ 1) × (count 1 steps ≤ 1)
alone_one start steps c run = go (alone_looks start steps c run)
  where
    go : (c.at ≡ 0) × (length steps ≡ 0) × (count 1 steps ≡ 0) ⊎ (c.at ≡ 1) × (length steps ≡ 1) × (count 1 steps ≡ 1)
        → (length steps ≤ 1) × (count 1 steps ≤ 1)
    go (inl (at, len, one)) = (omega (arith, len), omega (arith, one))
    go (inr (at, len, one)) = (omega (arith, len), omega (arith, one))

-- a run of this program with one step
pub alone_run : IsRun entry_alone (both (pos 3) (pos 7)) (by_rule 1 ∷ []) (two_values 1 (pos 3) (pos 7))
alone_run = (two_values 0 (pos 3) (pos 7), record { places = refl; at = refl; values = refl }, record { rule = entering; numbered = refl; leads = enters_at (pos 3) (pos 7) })

-- this many steps by rule 2, after one by rule 1
abbrev loops : ℕ → List Step
loops zero = by_rule 1 ∷ []
loops (suc n) = by_rule 2 ∷ loops n

-- the run from l0(9, 0) by rule 1 and once by rule 2
one_loop : IsRun countdown (both (pos 9) (pos 0)) (loops 1) (two_values 1 (pos 8) (negsuc 8))
one_loop = looped (both (pos 9) (pos 0)) (loops 0) (pos 9) (pos 0) (pos 8) (negsuc 8) (omega (arith, ints)) (omega (arith, ints)) refl (entered (pos 9) (pos 0))

-- the run from l0(9, 0) by rule 1 and four times by rule 2
four_loops : IsRun countdown (both (pos 9) (pos 0)) (loops 4) (two_values 1 (pos 5) (negsuc 5))
four_loops =
    let start : List ℤ = both (pos 9) (pos 0) in
    let two = looped start (loops 1) (pos 8) (negsuc 8) (pos 7) (negsuc 7) (omega (arith, ints)) (omega (arith, ints)) refl one_loop in
    let three = looped start (loops 2) (pos 7) (negsuc 7) (pos 6) (negsuc 6) (omega (arith, ints)) (omega (arith, ints)) refl two in
    looped start (loops 3) (pos 6) (negsuc 6) (pos 5) (negsuc 5) (omega (arith, ints)) (omega (arith, ints)) refl three

-- the run from l0(9, 0) by rule 1 and nine times by rule 2, which is as often as possible
nine_loops : IsRun countdown (both (pos 9) (pos 0)) (loops 9) (two_values 1 (pos 0) (negsuc 0))
nine_loops =
    let start : List ℤ = both (pos 9) (pos 0) in
    let five = looped start (loops 4) (pos 5) (negsuc 5) (pos 4) (negsuc 4) (omega (arith, ints)) (omega (arith, ints)) refl four_loops in
    let six = looped start (loops 5) (pos 4) (negsuc 4) (pos 3) (negsuc 3) (omega (arith, ints)) (omega (arith, ints)) refl five in
    let seven = looped start (loops 6) (pos 3) (negsuc 3) (pos 2) (negsuc 2) (omega (arith, ints)) (omega (arith, ints)) refl six in
    let eight = looped start (loops 7) (pos 2) (negsuc 2) (pos 1) (negsuc 1) (omega (arith, ints)) (omega (arith, ints)) refl seven in
    looped start (loops 8) (pos 1) (negsuc 1) (pos 0) (negsuc 0) (omega (arith, ints)) (omega (arith, ints)) refl eight

-- the run from l0(1, 0) by rule 1 and once by rule 2
short_loop : IsRun countdown (both (pos 1) (pos 0)) (loops 1) (two_values 1 (pos 0) (negsuc 0))
short_loop = looped (both (pos 1) (pos 0)) (loops 0) (pos 1) (pos 0) (pos 0) (negsuc 0) (omega (arith, ints)) (omega (arith, ints)) refl (entered (pos 1) (pos 0))

-- a run without a step
begun : (a b : ℤ) → IsRun countdown (both a b) [] (two_values 0 a b)
begun a b = record { places = refl; at = refl; values = refl }

-- the bounds on how often rules occur hold, and those that are too small don't
pub times_hold : TimesHold
times_hold = record {
  entry = record { each = λ start steps c run. omega (arith, entry_once countdown start steps c run) };
  first = record { each = λ start steps c run. first_once start steps c (looks start steps c run) };
  loop = record { each = λ start steps c run. loop_nine start steps c (looks start steps c run) };
  loop_by_start = record { each = λ start steps c run. omega (arith, loop_start start steps c (looks start steps c run), (sizes_of_two start (two_starts start steps c run)).0) };
  past_the_rules = record { each = λ start steps c run. omega (arith, third_never start steps c run) };
  entry_never = λ h. omega (arith, h.each (both (pos 3) (pos 7)) [] (two_values 0 (pos 3) (pos 7)) (begun (pos 3) (pos 7)));
  first_never = λ h. omega (arith, h.each (both (pos 3) (pos 7)) (by_rule 1 ∷ []) (two_values 1 (pos 3) (pos 7)) (entered (pos 3) (pos 7)));
  loop_less = λ h. omega (arith, h.each (both (pos 9) (pos 0)) (loops 9) (two_values 1 (pos 0) (negsuc 0)) nine_loops);
  loop_by_other = λ h. omega (arith, h.each (both (pos 1) (pos 0)) (loops 1) (two_values 1 (pos 0) (negsuc 0)) short_loop);
  alone = record { each = λ start steps c run. (alone_one start steps c run).1 };
  alone_never = λ h. omega (arith, h.each (both (pos 3) (pos 7)) (by_rule 1 ∷ []) (two_values 1 (pos 3) (pos 7)) alone_run);
}

-- the bounds on the number of steps hold, and those that are too small don't
pub lengths_hold : LengthsHold
lengths_hold = record {
  all = record { each = λ start steps c run. ten_steps start steps c (looks start steps c run) };
  less = λ h. omega (arith, h.each (both (pos 9) (pos 0)) (loops 9) (two_values 1 (pos 0) (negsuc 0)) nine_loops);
  alone = record { each = λ start steps c run. (alone_one start steps c run).0 };
  alone_less = λ h. omega (arith, h.each (both (pos 3) (pos 7)) (by_rule 1 ∷ []) (two_values 1 (pos 3) (pos 7)) alone_run);
}

-- the absolute values of the start values bound those of the places that have these values
at_start : (start : List ℤ) (c : Config) → length start ≡ 2
    → (place_value c 1 ≡ value_at start 0) × (place_value c 2 ≡ value_at start 1)
    → (nat_abs (place_value c 1) ≤ slice_index (sizes_of_start start) 0) × (nat_abs (place_value c 2) ≤ slice_index (sizes_of_start start) 1)
at_start start c two (first, second) =
    let sizes = sizes_of_two start two in
    (omega (arith, ap nat_abs first, sizes.0), omega (arith, ap nat_abs second, sizes.1))

-- the bounds on the absolute values at places hold, and those that are too small don't
pub sizes_hold : SizesHold
sizes_hold = record {
  entry_first = record { each = λ start steps c run last. (at_start start c (two_starts start steps c run) (begun_sizes start steps c (looks start steps c run) last)).0 };
  entry_second = record { each = λ start steps c run last. (at_start start c (two_starts start steps c run) (begun_sizes start steps c (looks start steps c run) last)).1 };
  first_first = record { each = λ start steps c run last. (at_start start c (two_starts start steps c run) (entered_sizes start steps c (looks start steps c run) last)).0 };
  first_second = record { each = λ start steps c run last. (at_start start c (two_starts start steps c run) (entered_sizes start steps c (looks start steps c run) last)).1 };
  loop_first = record { each = λ start steps c run last. (looped_sizes start steps c (looks start steps c run) last).0 };
  loop_second = record { each = λ start steps c run last. (looped_sizes start steps c (looks start steps c run) last).1 };
  loop_first_less = λ h. omega (arith, ints, h.each (both (pos 9) (pos 0)) (loops 1) (two_values 1 (pos 8) (negsuc 8)) one_loop refl);
  loop_second_less = λ h. omega (arith, ints, h.each (both (pos 9) (pos 0)) (loops 1) (two_values 1 (pos 8) (negsuc 8)) one_loop refl);
  first_by_other = λ h. omega (arith, ints, h.each (both (pos 1) (pos 0)) (loops 0) (two_values 1 (pos 1) (pos 0)) (entered (pos 1) (pos 0)) refl);
  second_by_other = λ h. omega (arith, ints, h.each (both (pos 0) (pos 1)) (loops 0) (two_values 1 (pos 0) (pos 1)) (entered (pos 0) (pos 1)) refl);
  entry_less = λ h. omega (arith, ints, h.each (both (negsuc 4) (pos 0)) [] (two_values 0 (negsuc 4) (pos 0)) (begun (negsuc 4) (pos 0)) refl);
  entry_by_other = λ h. omega (arith, ints, h.each (both (pos 0) (pos 1)) [] (two_values 0 (pos 0) (pos 1)) (begun (pos 0) (pos 1)) refl);
}
