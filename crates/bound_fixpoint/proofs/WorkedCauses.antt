-- Which reasons of places and which gaps are right, on small programs.
use Rattle.std.proofs.Common.{◌≡◌, inl, inr, ℕ, zero, suc, ◌<◌, Bool, true, false, List, [], ◌∷◌, length, map, None}
use Rattle.std.proofs.Common.{refl, sym, ap, subst, arith}
use Rattle.std.specs.Prelude.{ℤ, pos, ◌≤ℤ◌}
use Rattle.std.proofs.lemmas.Int.{ints}
use Rattle.std.proofs.lemmas.Bool.{false_from_ne_true}
use Rattle.std.proofs.lemmas.List.Elements.{All-nil}
use Rattle.rule_questions.proofs.model.Cases.{none_some}
use Rattle.rule_questions.proofs.model.Membership.{no_is_not_yes}
use Rattle.rule_questions.specs.linear_forms.Forms.{at, form_value}
use Rattle.rule_questions.specs.cert_rules.Nodes.{ResultVariable, Member, LocalBound}
use Rattle.rule_questions.specs.cert_rules.Gaps.{ScaledPoint}
use Rattle.rule_questions.specs.cert_rules.Reasons.{Reason, Check, Shape, SideBoundUp, SideBoundLow, Large, for_each, IsFirstAmong}
use Rattle.rule_questions.specs.cert_rules.Reasons as reasons
use Rattle.rule_questions.specs.cert_rules.Checks.{check_size, check_time, check_small, needed_into, needed_times}
use Rattle.rule_questions.specs.cert_rules.Checks.{straight_into}
use Rattle.rule_questions.specs.cert_rules.Checks.{spread_checks, cycle_checks, large_nodes}
use Rattle.rule_questions.specs.cert_rules.ComposedSizes.{reads}
use Rattle.rule_questions.specs.cert_rules.AcceptsSizes.{left_of}
use Rattle.rule_questions.specs.cert_rules.AcceptsSizes.{spread_size, cycle_size, Side, Up, Low}
use Rattle.rule_questions.specs.cert_rules.WorkedSettings.{counting, guessing, doubling}
use Rattle.rule_questions.specs.cert_rules.Worked.{doubled}
use Rattle.rule_questions.specs.cert_rules.WorkedSizes.{squaring, nonlinear_member}
use Rattle.rule_questions.proofs.cert_rules.SizeTests.{decides-polynomial}
use Rattle.rule_questions.proofs.cert_rules.TestedNodes.{first-cycle}
use Rattle.bound_fixpoint.specs.Keys.{Bounds, key, has_key, over}
use Rattle.bound_fixpoint.specs.Searches.{Unsized}
use Rattle.outcome.specs.Reports.{SizeUnbounded, SizeMissing}
use Rattle.bound_fixpoint.specs.Loops.{do_loop}
use Rattle.bound_fixpoint.specs.Right.{IsUnboundedAt, IsRightSizing, FailsTogether}
use Rattle.bound_fixpoint.specs.WorkedSets.{nothing_known, entered_known}
use Rattle.bound_fixpoint.specs.WorkedCauses.{sizes_alone, origin, RightCausesAreWorkedOut, WrongGapsAreWorkedOut}
use Rattle.bound_fixpoint.proofs.Cases.{either, true_false}
use Rattle.bound_fixpoint.proofs.Keys.{has_key-first, has_key-later, has_key-cases, has_key-none}

-- checks without this reason, before a check with it, are passed
passed_by : {A : Type 0} (r : Reason) (f : A → Check) (xs : List A) (rest : List Check)
    → ((x : A) → (f x).reason ≡ r → ⊥) → IsFirstAmong (for_each f xs rest) r → IsFirstAmong rest r
passed_by r f [] rest other h = h
passed_by r f (x ∷ xs) rest other (inl fails) = absurd (other x fails.1)
passed_by r f (x ∷ xs) rest other (inr passes) = passed_by r f xs rest other passes.1

-- a missing size names its place
size-sound : (k : ResultVariable) (t i : ℕ) (xs : List ResultVariable) → reasons.MissingSize k.rule k.place ≡ reasons.MissingSize t i
    → has_key (k ∷ xs) t i ≡ true
size-sound k t i xs e =
    let rule : k.rule ≡ t = cc in
    let place : k.place ≡ i = cc in
    subst (λ (n : ℕ). has_key (k ∷ xs) t n ≡ true) place
    (subst (λ (n : ℕ). has_key (k ∷ xs) n k.place ≡ true) rule (has_key-first k xs))

-- checks of other sizes don't fail at this one
sizes_passed : (b : Bounds) (t i : ℕ) (xs : List ResultVariable) (rest : List Check) → has_key xs t i ≡ false
    → IsFirstAmong (for_each (check_size (over b)) xs rest) (reasons.MissingSize t i)
    → IsFirstAmong rest (reasons.MissingSize t i)
sizes_passed b t i [] rest none h = h
sizes_passed b t i (k ∷ xs) rest none (inl fails) =
    absurd (no_is_not_yes (has_key (k ∷ xs) t i) none (size-sound k t i xs fails.1))
sizes_passed b t i (k ∷ xs) rest none (inr passes) =
    sizes_passed b t i xs rest
    (false_from_ne_true (has_key xs t i) (λ m. no_is_not_yes (has_key (k ∷ xs) t i) none (has_key-later k xs t i m)))
    passes.1

-- other reasons than a missing size
shape_other : (t i : ℕ) → Shape ≡ reasons.MissingSize t i → ⊥
shape_other t i e = cc

up_other : (u j t i : ℕ) → SideBoundUp u j ≡ reasons.MissingSize t i → ⊥
up_other u j t i e = cc

low_other : (u j t i : ℕ) → SideBoundLow u j ≡ reasons.MissingSize t i → ⊥
low_other u j t i e = cc

nonlinear_other : (u j t i : ℕ) → reasons.Nonlinear u j ≡ reasons.MissingSize t i → ⊥
nonlinear_other u j t i e = cc

time_other : (u t i : ℕ) → reasons.MissingTime u ≡ reasons.MissingSize t i → ⊥
time_other u t i e = cc

large_other : (n t i : ℕ) → Large n ≡ reasons.MissingSize t i → ⊥
large_other n t i e = cc

-- the place after rule 2, with these side bounds
abbrev looped_by : LocalBound → Member
looped_by l = record { result_variable = key 2 1; local = l }

-- a member that doesn't loop doesn't need its own size
premises_alone : (l : LocalBound) → do_loop counting (looped_by l ∷ []) ≡ false
    → has_key (needed_into counting [] (looped_by l ∷ [])) 2 1 ≡ false
premises_alone l h = go (reads None l.up 0) (reads None l.low 0) refl refl
  where
    go : (u v : Bool) → reads None l.up 0 ≡ u → reads None l.low 0 ≡ v
        → has_key (needed_into counting [] (looped_by l ∷ [])) 2 1 ≡ false
    go true v a c = absurd (true_false (rw a at h))
    go false true a c = let first : do_loop counting (looped_by l ∷ []) ≡ true = rw a (rw c refl) in
        absurd (no_is_not_yes (do_loop counting (looped_by l ∷ [])) h first)
    go false false a c = rw a (rw c refl)

-- the premises of a loop node don't have the place of the loop
premises_together : (l : LocalBound) → has_key (needed_into counting (looped_by l ∷ []) (looped_by l ∷ [])) 2 1 ≡ false
premises_together l = go (reads None l.up 0) (reads None l.low 0) refl refl
  where
    go : (u v : Bool) → reads None l.up 0 ≡ u → reads None l.low 0 ≡ v
        → has_key (needed_into counting (looped_by l ∷ []) (looped_by l ∷ [])) 2 1 ≡ false
    go true true a c = rw a (rw c refl)
    go true false a c = rw a (rw c refl)
    go false true a c = rw a (rw c refl)
    go false false a c = rw a (rw c refl)

abbrev Fails : List Check → Type 0
Fails cs = IsFirstAmong cs (reasons.MissingSize 2 1)

-- a spread node's first missing size isn't its own
spread_other : (l : LocalBound) → do_loop counting (looped_by l ∷ []) ≡ false
    → Fails (spread_checks counting (over entered_known) (looped_by l)) → ⊥
spread_other l out (inl fails) = shape_other 2 1 fails.1
spread_other l out (inr (shape, inl fails)) = up_other 2 1 2 1 fails.1
spread_other l out (inr (shape, inr (up, inl fails))) = low_other 2 1 2 1 fails.1
spread_other l out (inr (shape, inr (up, inr (low, rest)))) =
    last (sizes_passed entered_known 2 1 (needed_into counting [] (looped_by l ∷ []))
    (check_small counting (spread_size counting (over entered_known) (looped_by l)) ∷ []) (premises_alone l out) rest)
  where
    last : Fails (check_small counting (spread_size counting (over entered_known) (looped_by l)) ∷ []) → ⊥
    last (inl fails) =
        large_other (large_nodes counting.rewrite (spread_size counting (over entered_known) (looped_by l))) 2 1 fails.1
    last (inr none) = none.1

-- the last checks of a loop node: those of its times, and then that its size is small
abbrev ends_of : LocalBound → List Check
ends_of l = check_small counting (cycle_size counting (over entered_known) (looped_by l ∷ [])) ∷ []

abbrev times_of : LocalBound → List Check
times_of l =
    for_each (check_time (over entered_known)) (needed_times counting (over entered_known) (looped_by l ∷ []))
    (ends_of l)

-- a loop node's first missing size isn't its own
cycle_other : (l : LocalBound) → Fails (cycle_checks counting (over entered_known) (looped_by l ∷ [])) → ⊥
cycle_other l (inl fails) = shape_other 2 1 fails.1
cycle_other l (inr (shape, inl fails)) = up_other 2 1 2 1 fails.1
cycle_other l (inr (shape, inr (up, inl fails))) = low_other 2 1 2 1 fails.1
cycle_other l (inr (shape, inr (up, inr (low, rest)))) =
    straight (sizes_passed entered_known 2 1 (needed_into counting (looped_by l ∷ []) (looped_by l ∷ []))
    (straight_into counting (looped_by l ∷ []) (looped_by l ∷ []) (times_of l)) (premises_together l) rest)
  where
    last : Fails (ends_of l) → ⊥
    last (inl fails) =
        large_other (large_nodes counting.rewrite (cycle_size counting (over entered_known) (looped_by l ∷ []))) 2 1
        fails.1
    last (inr none) = none.1

    times : Fails (times_of l) → ⊥
    times h =
        last (passed_by (reasons.MissingSize 2 1) (check_time (over entered_known))
        (needed_times counting (over entered_known) (looped_by l ∷ [])) (ends_of l) (λ t. time_other t 2 1) h)

    straight : Fails (straight_into counting (looped_by l ∷ []) (looped_by l ∷ []) (times_of l)) → ⊥
    straight (inl fails) = nonlinear_other 2 1 2 1 fails.1
    straight (inr (a, inl fails)) = nonlinear_other 2 1 2 1 fails.1
    straight (inr (a, inr (b, inl fails))) = nonlinear_other 2 1 2 1 fails.1
    straight (inr (a, inr (b, inr (c, inl fails)))) = nonlinear_other 2 1 2 1 fails.1
    straight (inr (a, inr (b, inr (c, inr (d, rest))))) = times rest

-- a result variable isn't the reason for its own missing size
own_alone : (m : Member) → key 2 1 ∷ [] ≡ m.result_variable ∷ [] → do_loop counting (m ∷ []) ≡ false
    → Fails (spread_checks counting (over entered_known) m) → ⊥
own_alone m only out first =
    let result_variable : key 2 1 ≡ m.result_variable = cc in
    spread_other m.local
    (subst (λ (k : ResultVariable). do_loop counting (record { result_variable = k; local = m.local } ∷ []) ≡ false) (sym result_variable) out)
    (subst (λ (k : ResultVariable). Fails (spread_checks counting (over entered_known) (record { result_variable = k; local = m.local })))
    (sym result_variable) first)

own_together : (ms : List Member) → key 2 1 ∷ [] ≡ map (λ m. m.result_variable) ms
    → Fails (cycle_checks counting (over entered_known) ms) → ⊥
own_together [] result_variables first = let n : ◌≡◌ {A = ℕ} 1 0 = ap length result_variables in omega (arith, n)
own_together (m ∷ n ∷ ms) result_variables first = none (ap length result_variables)
  where
    none : 1 ≡ suc (suc (length (map (λ (x : Member). x.result_variable) ms))) → ⊥
    none e = omega (arith, e)
own_together (m ∷ []) result_variables first =
    let result_variable : key 2 1 ≡ m.result_variable = cc in
    cycle_other m.local
    (subst (λ (k : ResultVariable). Fails (cycle_checks counting (over entered_known)
    (record { result_variable = k; local = m.local } ∷ []))) (sym result_variable) first)

its_own : IsRightSizing counting entered_known (key 2 1 ∷ []) (Unsized (SizeMissing (key 2 1))) → ⊥
its_own (r, is, inl f) =
    own_alone f.member f.only f.alone
    (subst (λ (x : Reason). IsFirstAmong (spread_checks counting (over entered_known) f.member) x) is f.first)
its_own (r, is, inr f) =
    own_together f.all f.result_variables
    (subst (λ (x : Reason). IsFirstAmong (cycle_checks counting (over entered_known) f.all) x) is f.first)

-- the new value of the free variable is unbounded upwards
guessed : IsUnboundedAt guessing (key 1 1) Up (pos 0 ∷ pos 1 ∷ []) (origin 1)
guessed = record {
  asked = λ h. none_some h.polynomial h.nonlinear;
  along = record { each = All-nil (λ r. pos 0 ≤ℤ form_value r (at (pos 0 ∷ pos 1 ∷ [])) (pos 0)) };
  still = still;
  moves = omega (arith, ints);
  point = record {
    denominator = omega (arith, ints);
    meets = record { each = All-nil (λ r. pos 0 ≤ℤ form_value r (at []) (pos 1)) };
  };
}
  where
    still : (j : ℕ) → j < left_of guessing.program 1 → at (pos 0 ∷ pos 1 ∷ []) j ≡ pos 0
    still zero low = refl
    still (suc j) low = let none : suc j < 1 = low in absurd (omega (arith, none))

-- a property of the only place in the list is one of any place found in it
of_only : (P : ResultVariable → Type 0) (k : ResultVariable) (t i : ℕ) → has_key (k ∷ []) t i ≡ true → P (key t i) → P k
of_only P k t i m h =
    either (has_key-cases k [] t i m) (λ e. subst P (sym e) h) (λ n. absurd (has_key-none t i n))

unbounded_at : (side : Side) (ray : List ℤ) (kept : ScaledPoint)
    → IsRightSizing guessing nothing_known (key 1 1 ∷ []) (Unsized (SizeUnbounded side ray kept))
    → IsUnboundedAt guessing (key 1 1) side ray kept
unbounded_at side ray kept h =
    of_only (λ (k : ResultVariable). IsUnboundedAt guessing k side ray kept) (key 1 1) h.0.rule h.0.place h.1 h.2

-- a loop that doubles multiplies by its rule, and one that squares reads itself by a polynomial
untimed : FailsTogether doubling sizes_alone (key 2 1 ∷ []) (reasons.MissingTime 2)
untimed = record {
  all = doubled;
  result_variables = refl;
  loop = refl;
  first = first-cycle doubling (over sizes_alone) doubled (reasons.MissingTime 2) refl;
}

nonlinear : FailsTogether squaring sizes_alone (key 2 1 ∷ []) (reasons.Nonlinear 2 1)
nonlinear = record {
  all = nonlinear_member 2 ∷ [];
  result_variables = refl;
  loop = refl;
  first = first-cycle squaring (over sizes_alone) (nonlinear_member 2 ∷ []) (reasons.Nonlinear 2 1) refl;
}

pub causes_worked : RightCausesAreWorkedOut
causes_worked = record {
  not_its_own = its_own;
  unbounded = (key 1 1, refl, guessed);
  not_low = λ h. let down = (unbounded_at Low (pos 0 ∷ pos 1 ∷ []) (origin 1) h).moves in omega (arith, ints, down);
  not_moving = λ h. let e : pos 1 ≡ pos 0 = (unbounded_at Up (pos 1 ∷ pos 1 ∷ []) (origin 1) h).still 0 (omega arith) in
      omega (arith, ints, e);
  no_denominator = λ h. let some = (unbounded_at Up (pos 0 ∷ pos 1 ∷ []) (origin 0) h).point.denominator in
      omega (arith, ints, some);
  not_square = λ side ray kept h. (of_only (λ (k : ResultVariable). IsUnboundedAt squaring k side ray kept) (key 2 1) h.0.rule
      h.0.place h.1 h.2).asked
      ((decides-polynomial squaring (key 2 1)).0 refl);
  untimed = (reasons.MissingTime 2, refl, inr untimed);
  nonlinear = (reasons.Nonlinear 2 1, refl, inr nonlinear);
}

pub gaps_worked : WrongGapsAreWorkedOut
gaps_worked = record {
  other_set = λ h. let n : ◌≡◌ {A = ℕ} 1 2 = ap length h.0.same_set in omega (arith, n);
  without_points = λ h. let n : ◌≡◌ {A = ℕ} 0 1 = h.0.holds.shape.one_move in omega (arith, n);
}
