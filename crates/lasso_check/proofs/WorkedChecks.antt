-- Proofs of the worked values of verdicts on lassos.
use Rattle.std.proofs.Common.{◌≡◌, ℕ, suc, List, [], ◌∷◌, ◌++◌, length, map, get_or, ℤ, pos, negsuc, Some, None}
use Rattle.std.proofs.Common.{refl, sym, ap, arith}
use Rattle.std.proofs.lemmas.Int.{ints}
use Rattle.its_model.specs.model.Terms.{Term, Variable, value}
use Rattle.its_model.specs.model.Programs.{Program, Rule, rule_at}
use Rattle.its_model.specs.model.Runs.{Config, Step}
use Rattle.its_model.specs.model.Worked.{by_rule, one_value, two_values}
use Rattle.its_model.specs.Steps.{StepFault, OtherRule, AtomFails, PastRange}
use Rattle.run_replay.specs.ReplayLaws.{ReplaysAreDecided}
use Rattle.run_replay.specs.Replays.{replay_fault, RunsInRange, BadStep, IsFirstBadStep}
use Rattle.run_replay.proofs.ReplayFaults.{ReplayStepsHaveNoFault}
use Rattle.run_replay.proofs.ReplayRuns.{next_runs}
use Rattle.lassos.specs.Worked.{one_place_rule, positive, looping_by, less_one, squared}
use Rattle.lasso_check.specs.Checks.{Turn, Verdict, OpenAt}
use Rattle.lasso_check.specs.CheckAnswers.{HasVerdict}
use Rattle.lasso_check.specs.WorkedChecks.{along, round, bad, entering, leaving, returning, falling, circling, Stays, Fails}
use Rattle.lasso_check.specs.WorkedChecks.{RoundsAreFound, OpenTurnsAreFound, BadTurnsAreFound, ChecksAreWorkedOut}
use Rattle.lasso_check.proofs.Verdicts.{verdict-unique}

-- the configuration to which a rule without free variables leads
abbrev after : Rule → Config → Config
after r c = record { at = r.target; values = map (λ u. value u (c.values ++ [])) r.updates }

-- verdicts with different rules, costs, numbers or faults are different
other_rules : (rs ss : List ℕ) (m n : ℕ) → (rs ≡ ss → ⊥) → round rs m ≡ round ss n → ⊥
other_rules rs ss m n ne e =
    let same : ◌≡◌ {A = Turn} (record { rules = rs; cost = m }) (record { rules = ss; cost = n }) = cc in
    ne (ap (λ (t : Turn). t.rules) same)

other_cost : (rs ss : List ℕ) (m n : ℕ) → (m ≡ n → ⊥) → round rs m ≡ round ss n → ⊥
other_cost rs ss m n ne e =
    let same : ◌≡◌ {A = Turn} (record { rules = rs; cost = m }) (record { rules = ss; cost = n }) = cc in
    ne (ap (λ (t : Turn). t.cost) same)

other_number : (m n : ℕ) (f g : StepFault) → (m ≡ n → ⊥) → bad m f ≡ bad n g → ⊥
other_number m n f g ne e =
    let same : ◌≡◌ {A = BadStep} (record { number = m; fault = f }) (record { number = n; fault = g }) = cc in
    ne (ap (λ (b : BadStep). b.number) same)

other_place : (i j : ℕ) → (i ≡ j → ⊥) → OpenAt i ≡ OpenAt j → ⊥
other_place i j ne e = let same : i ≡ j = cc in ne same

round_not_bad : (rs : List ℕ) (m n : ℕ) (f : StepFault) → round rs m ≡ bad n f → ⊥
round_not_bad rs m n f e = cc

round_not_open : (rs : List ℕ) (m i : ℕ) → round rs m ≡ OpenAt i → ⊥
round_not_open rs m i e = cc

bad_not_open : (n : ℕ) (f : StepFault) (i : ℕ) → bad n f ≡ OpenAt i → ⊥
bad_not_open n f i e = cc

module _ (law : ReplayStepsHaveNoFault) (decided : ReplaysAreDecided) where
  -- a run in range, longer by one step that has no fault
  more : (p : Program) (z : ℤ) (earlier : List Step) (t : ℕ) (r : Rule) (c : Config) → RunsInRange p (z ∷ []) earlier c
      → rule_at p t ≡ Some r → length c.values ≡ r.left → replay_fault p c (by_rule t) ≡ None
      → RunsInRange p (z ∷ []) (by_rule t ∷ earlier) (after r c)
  more p z earlier t r c h e left none =
      next_runs law p (z ∷ []) earlier c (by_rule t) (after r c) h (law.step p c (by_rule t) r e left none) none

  -- the first step with a fault after a run in range is the first bad step, whatever steps follow
  pub bad_behind : (p : Program) (z : ℤ) (later : List Step) (t : ℕ) (earlier : List Step) (c : Config) (f : StepFault)
      → RunsInRange p (z ∷ []) earlier c → replay_fault p c (by_rule t) ≡ Some f
      → IsFirstBadStep p (z ∷ []) (later ++ by_rule t ∷ earlier) (record { number = suc (length earlier); fault = f })
  bad_behind p z later t earlier c f h e = record {
    later = later;
    step = by_rule t;
    earlier = earlier;
    order = refl;
    number = refl;
    end = c;
    runs = h;
    fault = e;
  }

  -- the runs of loops: by rule 1, and then by rule 2
  pub entered : (u : Term) (z : ℤ) → replay_fault (looping_by u) (one_value 0 z) (by_rule 1) ≡ None
      → RunsInRange (looping_by u) (z ∷ []) (by_rule 1 ∷ []) (one_value 1 z)
  entered u z none =
      more (looping_by u) z [] 1 (one_place_rule 0 1 (Variable 0) []) (one_value 0 z)
      (record { run = record { places = refl; at = refl; values = refl }; fit = tt }) refl refl none

  pub looped : (u : Term) (z : ℤ) → replay_fault (looping_by u) (one_value 0 z) (by_rule 1) ≡ None
      → replay_fault (looping_by u) (one_value 1 z) (by_rule 2) ≡ None
      → RunsInRange (looping_by u) (z ∷ []) (by_rule 2 ∷ by_rule 1 ∷ []) (one_value 1 (value u (z ∷ [])))
  looped u z first second =
      more (looping_by u) z (by_rule 1 ∷ []) 2 (one_place_rule 1 1 u positive) (one_value 1 z) (entered u z first) refl refl second

  -- the program with a cycle: its first configuration, and its runs by some rules
  begun : (z : ℤ) → RunsInRange circling (z ∷ []) [] (one_value 0 z)
  begun z = record { run = record { places = refl; at = refl; values = refl }; fit = tt }

  pub by_entering : (z : ℤ) → replay_fault circling (one_value 0 z) (by_rule 1) ≡ None
      → RunsInRange circling (z ∷ []) (by_rule 1 ∷ []) (one_value 1 z)
  by_entering z none = more circling z [] 1 entering (one_value 0 z) (begun z) refl refl none

  pub by_leaving : (z : ℤ) (earlier : List Step) → replay_fault circling (one_value 1 z) (by_rule 2) ≡ None
      → RunsInRange circling (z ∷ []) earlier (one_value 1 z)
      → RunsInRange circling (z ∷ []) (by_rule 2 ∷ earlier) (one_value 2 z)
  by_leaving z earlier none h = more circling z earlier 2 leaving (one_value 1 z) h refl refl none

  by_returning : (z : ℤ) (earlier : List Step) → replay_fault circling (one_value 2 z) (by_rule 3) ≡ None
      → RunsInRange circling (z ∷ []) earlier (one_value 2 z)
      → RunsInRange circling (z ∷ []) (by_rule 3 ∷ earlier) (one_value 1 z)
  by_returning z earlier none h = more circling z earlier 3 returning (one_value 2 z) h refl refl none

  -- turns that lead back
  stays : Stays (round (2 ∷ []) 1)
  stays = record {
    round = record {
      at = one_value 1 (pos 1);
      stem = entered (Variable 0) (pos 1) refl;
      whole = looped (Variable 0) (pos 1) refl refl;
      nonempty = omega arith;
    };
    rules = refl;
    charged = 1;
    costs = refl;
    cost = refl;
  }

  only_stays : (v : Verdict) → Stays v → round (2 ∷ []) 1 ≡ v
  only_stays v h =
      verdict-unique decided (looping_by (Variable 0)) (along (pos 1) (1 ∷ []) (2 ∷ [])) (round (2 ∷ []) 1) v stays h

  rounds_found : RoundsAreFound
  rounds_found = record {
    stays = stays;
    not_of_stem = λ h. other_rules (2 ∷ []) (1 ∷ 2 ∷ []) 1 1 (λ e. omega (arith, ap length e)) (only_stays (round (1 ∷ 2 ∷ []) 1) h);
    no_rule = λ h. other_rules (2 ∷ []) [] 1 1 (λ e. omega (arith, ap length e)) (only_stays (round [] 1) h);
    not_of_both = λ h. other_cost (2 ∷ []) (2 ∷ []) 1 2 (λ e. omega (arith, e)) (only_stays (round (2 ∷ []) 2) h);
    not_bad = λ h. round_not_bad (2 ∷ []) 1 2 (AtomFails 1) (only_stays (bad 2 (AtomFails 1)) h);
    not_open = λ h. round_not_open (2 ∷ []) 1 1 (only_stays (OpenAt 1) h);
    ascending = record {
      round = record {
        at = one_value 2 (pos 5);
        stem = by_leaving (pos 5) _ refl (by_entering (pos 5) refl);
        whole = by_leaving (pos 5) _ refl (by_returning (pos 5) _ refl (by_leaving (pos 5) _ refl (by_entering (pos 5) refl)));
        nonempty = omega arith;
      };
      rules = refl;
      charged = 6;
      costs = refl;
      cost = refl;
    };
    twice = record {
      round = record {
        at = one_value 1 (negsuc 4);
        stem = by_entering (negsuc 4) refl;
        whole = by_returning (negsuc 4) _ refl (by_leaving (negsuc 4) _ refl
            (by_returning (negsuc 4) _ refl (by_leaving (negsuc 4) _ refl (by_entering (negsuc 4) refl))));
        nonempty = omega arith;
      };
      rules = refl;
      charged = 2;
      costs = refl;
      cost = refl;
    };
  }

  -- turns that lead elsewhere
  falls : HasVerdict (looping_by less_one) (along (pos 3) (1 ∷ []) (2 ∷ [])) (OpenAt 1)
  falls = record {
    before = one_value 1 (pos 3);
    behind = one_value 1 (pos 2);
    stem = entered less_one (pos 3) refl;
    whole = looped less_one (pos 3) refl refl;
    first = (refl, refl, λ e. omega (arith, ints, e));
  }

  only_falls : (v : Verdict) → HasVerdict (looping_by less_one) (along (pos 3) (1 ∷ []) (2 ∷ [])) v → OpenAt 1 ≡ v
  only_falls v h = verdict-unique decided (looping_by less_one) (along (pos 3) (1 ∷ []) (2 ∷ [])) (OpenAt 1) v falls h

  leads_away : HasVerdict circling (along (pos 5) (1 ∷ []) (4 ∷ 2 ∷ [])) (OpenAt 0)
  leads_away = record {
    before = one_value 1 (pos 5);
    behind = one_value 2 (pos 4);
    stem = by_entering (pos 5) refl;
    whole = more circling (pos 5) _ 2 leaving (one_value 1 (pos 4))
        (more circling (pos 5) _ 4 falling (one_value 1 (pos 5)) (by_entering (pos 5) refl) refl refl refl) refl refl refl;
    first = λ e. omega (arith, e);
  }

  opens_found : OpenTurnsAreFound
  opens_found = record {
    falls = falls;
    not_symbol = λ h. other_place 1 0 (λ e. omega (arith, e)) (only_falls (OpenAt 0) h);
    not_round = λ h. round_not_open (2 ∷ []) 1 1 (sym (only_falls (round (2 ∷ []) 1) h));
    symbol = leads_away;
    not_value = λ h. other_place 0 1 (λ e. omega (arith, e))
        (verdict-unique decided circling (along (pos 5) (1 ∷ []) (4 ∷ 2 ∷ [])) (OpenAt 0) (OpenAt 1) leads_away h);
    first_place = (refl, refl, λ e. omega (arith, ints, e));
    not_second = λ h. omega (arith, ints, ap (λ (vs : List ℤ). get_or vs 0 (pos 0)) h.1);
    second_place = (refl, refl, λ e. omega (arith, ints, e));
    not_first = λ h. h.2 refl;
  }

  -- bad steps
  fails : Fails (bad 2 (AtomFails 1))
  fails = bad_behind (looping_by (Variable 0)) (pos 0) [] 2 (by_rule 1 ∷ []) (one_value 1 (pos 0)) (AtomFails 1)
      (entered (Variable 0) (pos 0) refl) refl

  only_fails : (v : Verdict) → Fails v → bad 2 (AtomFails 1) ≡ v
  only_fails v h =
      verdict-unique decided (looping_by (Variable 0)) (along (pos 0) (1 ∷ []) (2 ∷ [])) (bad 2 (AtomFails 1)) v fails h

  bads_found : BadTurnsAreFound
  bads_found = record {
    guard = fails;
    not_first = λ h. other_number 2 1 (AtomFails 1) (AtomFails 1) (λ e. omega (arith, e)) (only_fails (bad 1 (AtomFails 1)) h);
    not_round = λ h. round_not_bad (2 ∷ []) 1 2 (AtomFails 1) (sym (only_fails (round (2 ∷ []) 1) h));
    not_open = λ h. bad_not_open 2 (AtomFails 1) 1 (only_fails (OpenAt 1) h);
    in_turn = bad_behind circling (pos 5) [] 2 (by_rule 2 ∷ by_rule 1 ∷ []) (one_value 2 (pos 5)) OtherRule
        (by_leaving (pos 5) _ refl (by_entering (pos 5) refl)) refl;
    in_stem = bad_behind circling (pos 5) (by_rule 1 ∷ []) 2 [] (one_value 0 (pos 5)) OtherRule (begun (pos 5)) refl;
    past_range = bad_behind (looping_by squared) (pos 18446744073709551616) [] 2 (by_rule 1 ∷ [])
        (one_value 1 (pos 18446744073709551616)) PastRange (entered squared (pos 18446744073709551616) refl) refl;
  }

  pub checks_worked : ChecksAreWorkedOut
  checks_worked = record { rounds = rounds_found; opens = opens_found; bads = bads_found }
