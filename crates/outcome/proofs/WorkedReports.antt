-- Which worked reports hold: by the facts of the program that counts down.
use Rattle.std.proofs.Common.{◌≡◌, ℕ, zero, suc, [], ◌∷◌, Some, None, refl, subst, arith}
use Rattle.farkas_cert.specs.model.Bounds.{Bound, Constant, Input}
use Rattle.farkas_cert.specs.model.Facts.{HoldsTime, HoldsSize, HoldsCost, HoldsTotal}
use Rattle.farkas_cert.specs.model.WorkedRuns.{countdown}
use Rattle.farkas_cert.proofs.model.WorkedFacts.{times_hold, sizes_hold}
use Rattle.farkas_cert.proofs.model.WorkedTotals.{totals_hold}
use Rattle.outcome.specs.Reports.{NoTime, TimeLarge, Timed, Untimed}
use Rattle.outcome.specs.Reports.{NoSize, SizeUntimed, SizeLarge, Sized, Unsized, Costed}
use Rattle.outcome.specs.Holding.{numbered_entry, place_entry}
use Rattle.outcome.specs.WorkedReports.{EntriesAreFound, two_sizes, two_times}
use Rattle.outcome.specs.WorkedReports.{right_sizes, no_sizes, no_costs, ReportsHold, ReasonsHold}

-- entries are found as was worked out
pub entries_found : EntriesAreFound
entries_found = record {
  entry_0 = refl;
  entry_1 = refl;
  entry_2 = refl;
  entry_3 = refl;
  entry_4 = refl;
  place_0 = refl;
  place_1 = refl;
  place_2 = refl;
  place_3 = refl;
  no_places = refl;
  no_rule = refl;
}

-- a missing entry is no time
no_time : (b : Bound) → None ≡ Some (Timed b) → ⊥
no_time b e = cc

-- a reason isn't a time
reason_time : (w : NoTime) (b : Bound) → Some (Untimed w) ≡ Some (Timed b) → ⊥
reason_time w b e = cc

-- equal times have equal bounds
same_time : (a b : Bound) → Some (Timed a) ≡ Some (Timed b) → a ≡ b
same_time a b e = cc

-- a missing entry is no size
no_size : (b : Bound) → None ≡ Some (Sized b) → ⊥
no_size b e = cc

-- a reason isn't a size
reason_size : (w : NoSize) (b : Bound) → Some (Unsized w) ≡ Some (Sized b) → ⊥
reason_size w b e = cc

-- equal sizes have equal bounds
same_size : (a b : Bound) → Some (Sized a) ≡ Some (Sized b) → a ≡ b
same_size a b e = cc

-- both times hold if their bounds do
pub times_of_two : (a c : Bound) → HoldsTime countdown 1 a → HoldsTime countdown 2 c
    → (t : ℕ) (b : Bound) → numbered_entry (two_times a c) t ≡ Some (Timed b) → HoldsTime countdown t b
times_of_two a c one two zero b e = absurd (no_time b e)
times_of_two a c one two (suc zero) b e = subst (λ (d : Bound). HoldsTime countdown 1 d) (same_time a b e) one
times_of_two a c one two (suc (suc zero)) b e = subst (λ (d : Bound). HoldsTime countdown 2 d) (same_time c b e) two
times_of_two a c one two (suc (suc (suc t))) b e = absurd (no_time b e)

-- the sizes of both places hold
places_of_two : (rule : ℕ) (a c : Bound) → HoldsSize countdown rule 1 a → HoldsSize countdown rule 2 c
    → (i : ℕ) (b : Bound) → place_entry (Some (two_sizes a c)) i ≡ Some (Sized b) → HoldsSize countdown rule i b
places_of_two rule a c one two zero b e = absurd (no_size b e)
places_of_two rule a c one two (suc zero) b e =
    subst (λ (d : Bound). HoldsSize countdown rule 1 d) (same_size a b e) one
places_of_two rule a c one two (suc (suc zero)) b e =
    subst (λ (d : Bound). HoldsSize countdown rule 2 d) (same_size c b e) two
places_of_two rule a c one two (suc (suc (suc i))) b e = absurd (no_size b e)

-- each of the right sizes holds
pub right_sizes_hold : (t i : ℕ) (b : Bound) → place_entry (numbered_entry right_sizes t) i ≡ Some (Sized b)
    → HoldsSize countdown t i b
right_sizes_hold zero i b e = absurd (no_size b e)
right_sizes_hold (suc zero) i b e =
    places_of_two 1 (Input 0) (Input 1) sizes_hold.first_first sizes_hold.first_second i b e
right_sizes_hold (suc (suc zero)) i b e =
    places_of_two 2 (Constant 8) (Constant 9) sizes_hold.loop_first sizes_hold.loop_second i b e
right_sizes_hold (suc (suc (suc t))) i b e = absurd (no_size b e)

-- a rule without a cost has no bound on one, and neither of two such rules has
no_cost : (b : Bound) → Some None ≡ Some (Some (Costed b)) → ⊥
no_cost b e = cc

pub no_entry_cost : (b : Bound) → None ≡ Some (Some (Costed b)) → ⊥
no_entry_cost b e = cc

none_costed : (t : ℕ) (b : Bound) → numbered_entry no_costs t ≡ Some (Some (Costed b)) → HoldsCost countdown t b
none_costed zero b e = absurd (no_entry_cost b e)
none_costed (suc zero) b e = absurd (no_cost b e)
none_costed (suc (suc zero)) b e = absurd (no_cost b e)
none_costed (suc (suc (suc t))) b e = absurd (no_entry_cost b e)

-- a missing total is no bound
pub no_total : (b : Bound) → None ≡ Some b → ⊥
no_total b e = cc

-- equal totals have equal bounds
pub same_total : (a b : Bound) → Some a ≡ Some b → a ≡ b
same_total a b e = cc

-- the right report holds, and with a wrong bound it doesn't
pub reports_hold : ReportsHold
reports_hold = record {
  whole = record {
    times = times_of_two (Constant 1) (Constant 9) times_hold.first times_hold.loop;
    costs = none_costed;
    total = λ b e. subst (λ (d : Bound). HoldsTotal countdown d) (same_total (Constant 10) b e) totals_hold.plain;
    sizes = right_sizes_hold;
  };
  first_time_less = λ h. times_hold.first_never (h.times 1 (Constant 0) refl);
  second_time_less = λ h. times_hold.loop_less (h.times 2 (Constant 8) refl);
  time_of_other_rule = λ h. never_once (h.times 2 (Constant 1) refl);
  times_swapped = λ h. never_once (h.times 2 (Constant 1) refl);
  total_less = λ h. totals_hold.plain_less (h.total (Constant 9) refl);
  first_size_less = λ h. sizes_hold.loop_first_less (h.sizes 2 1 (Constant 7) refl);
  second_size_less = λ h. sizes_hold.loop_second_less (h.sizes 2 2 (Constant 8) refl);
  sizes_swapped = λ h. sizes_hold.first_by_other (h.sizes 1 1 (Input 1) refl);
}
  where
    never_once : HoldsTime countdown 2 (Constant 1) → ⊥
    never_once h = times_hold.loop_less (record { each = λ start steps c run. omega (arith, h.each start steps c run) })

-- two reasons in place of times give no time
untimed : (v w : NoTime) (t : ℕ) (b : Bound) → numbered_entry (Untimed v ∷ Untimed w ∷ []) t ≡ Some (Timed b) → ⊥
untimed v w zero b e = no_time b e
untimed v w (suc zero) b e = reason_time v b e
untimed v w (suc (suc zero)) b e = reason_time w b e
untimed v w (suc (suc (suc t))) b e = no_time b e

-- two reasons in place of sizes give no size
unsized : (v w : NoSize) (i : ℕ) (b : Bound) → place_entry (Some (Unsized v ∷ Unsized w ∷ [])) i ≡ Some (Sized b) → ⊥
unsized v w zero b e = no_size b e
unsized v w (suc zero) b e = reason_size v b e
unsized v w (suc (suc zero)) b e = reason_size w b e
unsized v w (suc (suc (suc i))) b e = no_size b e

-- no size is among the reasons of both rules
none_sized : (t i : ℕ) (b : Bound) → place_entry (numbered_entry no_sizes t) i ≡ Some (Sized b) → ⊥
none_sized zero i b e = no_size b e
none_sized (suc zero) i b e = unsized (SizeUntimed 1) (SizeUntimed 1) i b e
none_sized (suc (suc zero)) i b e = unsized (SizeUntimed 2) (SizeLarge 5000) i b e
none_sized (suc (suc (suc t))) i b e = no_size b e

-- a lone time holds where its bound does
lone_time : (t : ℕ) (b : Bound)
    → numbered_entry (Untimed (TimeLarge 5000) ∷ Timed (Constant 9) ∷ []) t ≡ Some (Timed b) → HoldsTime countdown t b
lone_time zero b e = absurd (no_time b e)
lone_time (suc zero) b e = absurd (reason_time (TimeLarge 5000) b e)
lone_time (suc (suc zero)) b e =
    subst (λ (d : Bound). HoldsTime countdown 2 d) (same_time (Constant 9) b e) times_hold.loop
lone_time (suc (suc (suc t))) b e = absurd (no_time b e)

-- reports of reasons hold, and a wrong bound among them doesn't
pub reasons_hold : ReasonsHold
reasons_hold = record {
  all_missing = record {
    times = λ t b e. absurd (untimed (TimeLarge 5000) (TimeLarge 5000) t b e);
    costs = none_costed;
    total = λ b e. absurd (no_total b e);
    sizes = λ t i b e. absurd (none_sized t i b e);
  };
  no_entries = record {
    times = λ t b e. absurd (no_entry t b e);
    costs = none_costed;
    total = λ b e. absurd (no_total b e);
    sizes = λ t i b e. absurd (no_places t i b e);
  };
  one_time = record {
    times = lone_time;
    costs = none_costed;
    total = λ b e. absurd (no_total b e);
    sizes = λ t i b e. absurd (none_sized t i b e);
  };
  one_time_less = λ h. times_hold.loop_less (h.times 2 (Constant 8) refl);
  one_total_less = λ h. totals_hold.plain_less (h.total (Constant 9) refl);
  one_size_less = λ h. sizes_hold.loop_second_less (h.sizes 2 2 (Constant 8) refl);
}
  where
    no_entry : (t : ℕ) (b : Bound) → numbered_entry [] t ≡ Some (Timed b) → ⊥
    no_entry zero b e = no_time b e
    no_entry (suc t) b e = no_time b e

    no_places : (t i : ℕ) (b : Bound) → place_entry (numbered_entry [] t) i ≡ Some (Sized b) → ⊥
    no_places zero i b e = no_size b e
    no_places (suc t) i b e = no_size b e
