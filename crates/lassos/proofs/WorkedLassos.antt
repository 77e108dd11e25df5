-- The worked lassos are lassos, and the others aren't.
use Rattle.std.proofs.Common.{◌≡◌, ◌⊎◌, inl, inr, ℕ, zero, suc, ◌≤◌, ◌≤ℤ◌, ◌++◌, List, [], ◌∷◌, ℤ, pos, negsuc, Some}
use Rattle.std.proofs.Common.{refl, sym, ◌∙◌, ap, subst, arith}
use Rattle.std.proofs.lemmas.Int.{ints}
use Rattle.std.proofs.lemmas.List.Elements.{All-nil, All-cons, All-head}
use Rattle.int_laws.proofs.RingLaws.{mul-zero_ℤ}
use Rattle.model.specs.Terms.{Term, Variable, Literal, value}
use Rattle.model.specs.Programs.{Rule, AtLeast, Compare, rule_at, AtomHolds}
use Rattle.model.specs.Runs.{Config, Step, Leads, IsStep, IsRun, count, one_if_same}
use Rattle.model.specs.Worked.{by_rule, one_value}
use Rattle.model.proofs.Cases.{some_same, none_some}
use Rattle.model.proofs.RunLaws.{one_if_same-same, one_if_same-other, same_end}
use Rattle.lassos.specs.Lassos.{HasSlope, GoesRound, GoesOnFor, GuardStaysTrue, moved_config, Endless}
use Rattle.lassos.specs.Worked.{one_place_rule, positive, looping_by, plus_one, less_one, stem_step, turn_step}
use Rattle.lassos.specs.Worked.{LassosAreFound, SlopesAreFound}
use Rattle.lassos.proofs.Laws.{lassos_are_endless}

-- the start configuration, and the run by the first rule
begins : (update : Term) (z : ℤ) → IsRun (looping_by update) (z ∷ []) stem_step (one_value 1 z)
begins update z = (
  one_value 0 z,
  record { places = refl; at = refl; values = refl },
  record {
    rule = one_place_rule 0 1 (Variable 0) [];
    numbered = refl;
    leads = record {
      source = refl;
      left = refl;
      free_ones = refl;
      guard = All-nil (AtomHolds (z ∷ []));
      target = refl;
      values = refl;
    };
  },
)

-- A + 1 increases by the same amount as A
plus_one_slope : (z d : ℤ) → HasSlope plus_one (z ∷ []) (d ∷ []) d
plus_one_slope z d = record { each = λ n. omega (arith, ints) }

variable_slope : (z d : ℤ) → HasSlope (Variable 0) (z ∷ []) (d ∷ []) d
variable_slope z d = record { each = λ n. refl }

constant_slope : (c z d : ℤ) → HasSlope (Literal c) (z ∷ []) (d ∷ []) (pos 0)
constant_slope c z d = record { each = λ n. omega (arith, ints, mul-zero_ℤ (pos n) (pos 0) refl) }

-- the second rule leads on if A is at least 1
turn_leads : (update : Term) (z : ℤ) → pos 1 ≤ℤ z
    → Leads (one_place_rule 1 1 update positive) (one_value 1 z) [] (one_value 1 (value update (z ∷ [])))
turn_leads update z low = record {
  source = refl;
  left = refl;
  free_ones = refl;
  guard = All-cons (AtomHolds (z ∷ [])) (Compare (Variable 0) AtLeast (Literal (pos 1))) [] low (All-nil (AtomHolds (z ∷ [])));
  target = refl;
  values = refl;
}

turn_from : (update : Term) (z : ℤ) → pos 1 ≤ℤ z
    → IsStep (looping_by update) (one_value 1 z) (by_rule 2) (one_value 1 (value update (z ∷ [])))
turn_from update z low =
    record { rule = one_place_rule 1 1 update positive; numbered = refl; leads = turn_leads update z low }

-- the second rule leads to no other configuration
turn_shows : (update : Term) (z : ℤ) (b c : Config) → b ≡ one_value 1 z → IsStep (looping_by update) b (by_rule 2) c
    → (pos 1 ≤ℤ z) × (c.values ≡ value update (z ∷ []) ∷ [])
turn_shows update z b c from step =
    by_rule_2 (subst (λ (r : Rule). Leads r (one_value 1 z) [] c)
    (sym (some_same (one_place_rule 1 1 update positive) step.rule step.numbered))
    (subst (λ (x : Config). Leads step.rule x [] c) from step.leads))
  where
    by_rule_2 : Leads (one_place_rule 1 1 update positive) (one_value 1 z) [] c
        → (pos 1 ≤ℤ z) × (c.values ≡ value update (z ∷ []) ∷ [])
    by_rule_2 leads =
        (All-head (AtomHolds (z ∷ [])) (Compare (Variable 0) AtLeast (Literal (pos 1))) [] leads.guard, leads.values)

-- a run by the first rule ends at l1 with the start value
stem_end : (update : Term) (z : ℤ) (c : Config) → IsRun (looping_by update) (z ∷ []) stem_step c → c ≡ one_value 1 z
stem_end update z c run = same_end (looping_by update) (z ∷ []) stem_step c (one_value 1 z) run (begins update z)

abbrev first_value : List ℤ → ℤ
first_value [] = pos 0
first_value (z ∷ zs) = z

not_round_from_0 : (c : Config) → ¬ (GoesRound (looping_by (Variable 0)) (pos 0 ∷ []) stem_step turn_step c)
not_round_from_0 c h =
    let (b, run, step) = h.whole in
    omega (arith, ints, (turn_shows (Variable 0) (pos 0) b c (stem_end (Variable 0) (pos 0) b run) step).0)

not_round_down : (c : Config) → ¬ (GoesRound (looping_by less_one) (pos 3 ∷ []) stem_step turn_step c)
not_round_down c h =
    let (b, run, step) = h.whole in
    let shown = turn_shows less_one (pos 3) b c (stem_end less_one (pos 3) b run) step in
    let stays : c.values ≡ pos 3 ∷ [] = ap (λ (x : Config). x.values) (stem_end less_one (pos 3) c h.begins) in
    omega (arith, ints, ap first_value (sym stays ∙ shown.1))

growing : GoesOnFor (looping_by plus_one) (pos 1 ∷ []) stem_step turn_step (one_value 1 (pos 1)) (pos 1 ∷ [])
growing = record {
  begins = begins plus_one (pos 1);
  turn_moves = (
    one_value 1 (pos 1),
    pos 1 ∷ [],
    (refl, refl),
    record {
      rule = one_place_rule 1 1 plus_one positive;
      numbered = refl;
      leads = turn_leads plus_one (pos 1) (omega (arith, ints));
      places = refl;
      guard = (
        (
          omega (arith, ints),
          pos 1,
          pos 0,
          variable_slope (pos 1) (pos 1),
          constant_slope (pos 1) (pos 1) (pos 1),
          omega (arith, ints),
        ),
        tt,
      );
      updates = (plus_one_slope (pos 1) (pos 1), tt);
    },
  );
  nonempty = omega arith;
}

not_growing_by_2 : ¬ (GoesOnFor (looping_by plus_one) (pos 1 ∷ []) stem_step turn_step (one_value 1 (pos 1)) (pos 2 ∷ []))
not_growing_by_2 h =
    let (b, bs, (from, moves), step) = h.turn_moves in
    let shown = turn_shows plus_one (pos 1) b (moved_config (one_value 1 (pos 1)) (pos 2 ∷ []) 1) from
    (record { rule = step.rule; numbered = step.numbered; leads = step.leads }) in
    omega (arith, ints, ap first_value shown.1)

not_growing_down : ¬ (GoesOnFor (looping_by less_one) (pos 3 ∷ []) stem_step turn_step (one_value 1 (pos 3)) (negsuc 0 ∷ []))
not_growing_down h =
    let (b, bs, (from, moves), step) = h.turn_moves in
    by_guard (subst (λ (r : Rule). GuardStaysTrue (pos 3 ∷ []) (negsuc 0 ∷ []) r.guard)
    (sym (some_same (one_place_rule 1 1 less_one positive) step.rule step.numbered))
    (subst (λ (ds : List ℤ). GuardStaysTrue (pos 3 ∷ []) ds step.rule.guard) moves
    (subst (λ (x : Config). GuardStaysTrue (x.values ++ []) bs step.rule.guard) from step.guard)))
  where
    by_guard : GuardStaysTrue (pos 3 ∷ []) (negsuc 0 ∷ []) positive → ⊥
    by_guard ((holds, k, l, left, right, keeps), later) = omega (arith, ints, left.each 1, right.each 1, keeps)

-- the first rule occurs at most once, and a run with a step is at l1
occurs_once : (start : List ℤ) (steps : List Step) (c : Config) → IsRun (looping_by plus_one) start steps c
    → (c.at ≡ 0) × (count 1 steps ≡ 0) ⊎ (c.at ≡ 1) × (count 1 steps ≤ 1)
occurs_once start [] c run = inl (run.at, refl)
occurs_once start (s ∷ earlier) c (b, run, step) =
    by_number s.rule step.rule refl step.numbered step.leads (occurs_once start earlier b run)
  where
    by_number : (t : ℕ) (r : Rule) → s.rule ≡ t → rule_at (looping_by plus_one) t ≡ Some r → Leads r b s.free c
        → (b.at ≡ 0) × (count 1 earlier ≡ 0) ⊎ (b.at ≡ 1) × (count 1 earlier ≤ 1)
        → (c.at ≡ 0) × (count 1 (s ∷ earlier) ≡ 0) ⊎ (c.at ≡ 1) × (count 1 (s ∷ earlier) ≤ 1)
    by_number zero r e there leads before = absurd (none_some r there)
    by_number (suc zero) r e there leads before =
        by_entry (subst (λ (q : Rule). Leads q b s.free c) (sym (some_same (one_place_rule 0 1 (Variable 0) []) r there)) leads) before
      where
        by_entry : Leads (one_place_rule 0 1 (Variable 0) []) b s.free c
            → (b.at ≡ 0) × (count 1 earlier ≡ 0) ⊎ (b.at ≡ 1) × (count 1 earlier ≤ 1)
            → (c.at ≡ 0) × (count 1 (s ∷ earlier) ≡ 0) ⊎ (c.at ≡ 1) × (count 1 (s ∷ earlier) ≤ 1)
        by_entry entry (inl (at, none)) = inr (entry.target, omega (arith, none, one_if_same-same s.rule 1 e))
        by_entry entry (inr (at, most)) = absurd (omega (arith, at, entry.source))
    by_number (suc (suc zero)) r e there leads before =
        by_loop (subst (λ (q : Rule). Leads q b s.free c) (sym (some_same (one_place_rule 1 1 plus_one positive) r there)) leads) before
      where
        other : one_if_same s.rule 1 ≡ 0
        other = one_if_same-other s.rule 1 (λ same. omega (arith, same, e))

        by_loop : Leads (one_place_rule 1 1 plus_one positive) b s.free c
            → (b.at ≡ 0) × (count 1 earlier ≡ 0) ⊎ (b.at ≡ 1) × (count 1 earlier ≤ 1)
            → (c.at ≡ 0) × (count 1 (s ∷ earlier) ≡ 0) ⊎ (c.at ≡ 1) × (count 1 (s ∷ earlier) ≤ 1)
        by_loop loop (inl (at, none)) = absurd (omega (arith, at, loop.source))
        by_loop loop (inr (at, most)) = inr (loop.target, omega (arith, most, other))
    by_number (suc (suc (suc t))) r e there leads before = absurd (none_some r there)

not_twice : ¬ (Endless (looping_by plus_one) (pos 1 ∷ []) 1)
not_twice endless =
    let run = endless.each 2 in by_case run.0 run.1 (occurs_once (pos 1 ∷ []) run.0 run.1 run.2) run.3
  where
    by_case : (steps : List Step) (c : Config) → (c.at ≡ 0) × (count 1 steps ≡ 0) ⊎ (c.at ≡ 1) × (count 1 steps ≤ 1)
        → 2 ≤ count 1 steps → ⊥
    by_case steps c (inl (at, none)) twice = omega (arith, none, twice)
    by_case steps c (inr (at, most)) twice = omega (arith, most, twice)

pub slopes_are_found : SlopesAreFound
slopes_are_found = record {
  linear = plus_one_slope (pos 5) (pos 2);
  not_3 = λ h. omega (arith, ints, h.each 1);
  constant = constant_slope (pos 7) (pos 5) (pos 2);
  square = λ k h. omega (arith, ints, h.each 1, h.each 2);
  two_values = refl;
  missing = refl;
}

pub lassos_are_found : LassosAreFound
lassos_are_found = record {
  stays = record {
    begins = begins (Variable 0) (pos 1);
    whole = (one_value 1 (pos 1), begins (Variable 0) (pos 1), turn_from (Variable 0) (pos 1) (omega (arith, ints)));
    nonempty = omega arith;
  };
  not_from_0 = not_round_from_0;
  no_turn = λ c h. omega (arith, h.nonempty);
  not_falling = not_round_down;
  grows = growing;
  not_by_2 = not_growing_by_2;
  not_down = not_growing_down;
  endless = lassos_are_endless.on (looping_by plus_one) (pos 1 ∷ []) stem_step turn_step (one_value 1 (pos 1)) (pos 1 ∷ [])
      growing 2 (inl refl);
  once = not_twice;
}
