-- The toy plan is lawful, and has the worked answers.
use Rattle.std.proofs.Common.{◌≡◌, ◌≤◌, ◌<◌, ℕ, List, [], ◌∷◌, ◌++◌, length, Option, Some, None, refl, sym, ◌∙◌, ap}
use Rattle.std.proofs.Common.{subst}
use Rattle.std.proofs.Common.{arith, get_or, inl, inr, codes, min, ◌+◌, ◌-◌, ◌^◌, ◌⊎◌}
use Rattle.std.proofs.Math.Nat.{min-eq_left}
use Rattle.std.proofs.lemmas.List.{append_cancel_left}
use Rattle.std.specs.Prelude.{IsSomeAnd}
use Rattle.std.specs.Cmp.Lexicographic.{slice_cmp, nat_list_cmp_total}
use Rattle.std.specs.Ordering.{nat_cmp}
use Rattle.std.specs.FinMap.{get, empty, get-insert, get-empty}
use Rattle.outside_io.specs.Counts.{Rose, one_more}
use Rattle.outside_io.specs.Files.{Files}
use Rattle.call_plans.specs.declared.status.Status.{Status}
use Rattle.call_plans.specs.declared.status.Status.TheVariants.{Done, Unknown, ReadFault, ProgramRefused, NotAccepted}
use Rattle.call_plans.specs.OnFiles.{Unread, OverLimit, Bad, WithoutText, WithMeaning}
use Rattle.call_plans.specs.OnFiles.{read_fault_text}
use Rattle.call_plans.specs.Plans.{Cases, End, Case, HasRow, HasCase, IsAnswerByPlan}
use Rattle.call_plans.specs.Meanings.{Wrote, WroteRefusal, MayMiss}
use Rattle.call_plans.specs.Endings.{Lacking, TooLong, Nothing, Represented, EndsOn, FailsOnlyIfLacking}
use Rattle.call_plans.specs.Lawful.{IsDecided, IsLawful}
use Rattle.call_plans.specs.Worked.{counts, small_plan, with_bytes, with_another, shelf_with, HasAnswer, wrote}
use Rattle.call_plans.specs.Worked.{PlansAreWorkedOut, StatusesHaveMeanings, PlansEnd}
use Rattle.call_plans.proofs.Faults.{fails_if_lacking_without_rise}
use Rattle.call_plans.proofs.OneEnding.{answer_unique, ends_unique}

-- the file `f` of these contents
pub has : (bytes : List ℕ) → get (with_bytes bytes) (codes "f") ≡ Some bytes
has bytes = get-insert nat_list_cmp_total empty (codes "f") bytes (codes "f")

pub lacks : get with_another (codes "f") ≡ None
lacks = get-insert nat_list_cmp_total empty (codes "g") (codes "n") (codes "f")
    ∙ get-empty (slice_cmp nat_cmp) (codes "f")

has_one : (bytes others : List ℕ) → get (with_bytes bytes) (codes "f") ≡ Some others → bytes ≡ others
has_one bytes others e = let f : Some bytes ≡ Some others = sym (has bytes) ∙ e in cc

never_lacks : (bytes : List ℕ) → ¬ (get (with_bytes bytes) (codes "f") ≡ None)
never_lacks bytes e = let f : ◌≡◌ {A = Option (List ℕ)} (Some bytes) None = sym (has bytes) ∙ e in cc

never_more : (bytes : List ℕ) → length bytes ≤ 3
    → ¬ (IsSomeAnd (get (with_bytes bytes) (codes "f")) (λ others. 3 < length others))
never_more bytes few more =
    let long : 3 < length bytes =
    subst (λ (o : Option (List ℕ)). IsSomeAnd o (λ others. 3 < length others)) (has bytes) more in
    omega (arith, few, long)

-- no count of faults has risen
pub no_rise : ¬ (Rose 2 2)
no_rise (inl more) = omega (arith, more)
no_rise (inr most) = omega (arith, most)

fails_if_lacking : (files : Files) (taken : ℕ) (s : Status) → FailsOnlyIfLacking (shelf_with files taken) s
fails_if_lacking files taken s = fails_if_lacking_without_rise (shelf_with files taken) no_rise s

-- the rest after an `n` is unique
rest_one : (rest others : List ℕ) → ◌≡◌ {A = List ℕ} (110 ∷ rest) (110 ∷ others) → rest ≡ others
rest_one rest others e = cc

-- the toy kind is decided
pub counts_decided : IsDecided counts
counts_decided = record {
  one = λ bytes a b h k. h.1.1 ∙ (ap length (rest_one h.0 k.0 (sym h.1.0 ∙ k.1.0)) ∙ sym k.1.1);
  one_refusal = λ bytes x y h k. h.1 ∙ sym k.1;
  apart = λ bytes a x stands refused. refused.0 stands.0 stands.1.0;
}

-- the rows of the toy table
abbrev rows_after_first : ℕ → Cases
rows_after_first n = Case Unknown (0 < n) (λ text. (0 < n) × (text ≡ codes "some")) End

abbrev table : ℕ → Cases
table n = Case Done (n ≡ 0) (λ text. (n ≡ 0) × (text ≡ codes "none")) (rows_after_first n)

done_alone : (n : ℕ) (s : Status) → n ≡ 0 → ¬ (HasCase (rows_after_first n) s)
done_alone n s zero_is (inl h) = let more : 0 < n = h.1 in omega (arith, zero_is, more)
done_alone n s zero_is (inr never) = never

toy_lawful : IsLawful small_plan
toy_lawful = (
  counts_decided,
  λ bytes n stands. (
    record { one = λ x y a b. a.1 ∙ sym b.1; comes = λ x a. a.0; alone = done_alone n },
    (record { one = λ x y a b. a.1 ∙ sym b.1; comes = λ x a. a.0; alone = λ s h never. never }, tt),
  ),
)

-- equal disclosed counts are equal numbers
pub some_one : (a b : ℕ) → ◌≡◌ {A = Option ℕ} (Some a) (Some b) → a ≡ b
some_one a b e = cc

-- each file has this answer
lacking : HasAnswer with_another 0 ReadFault read_fault_text
lacking = WithoutText refl (Unread (record { fault = inr lacks; result_is = refl; ends = refl }))

long : HasAnswer (with_bytes (codes "nnnn")) 0 ProgramRefused (codes "long")
long = WithoutText refl (OverLimit (record {
  over = record {
    disclosed = subst (λ (o : Option (List ℕ)). IsSomeAnd o (λ bytes. 3 < length bytes)) (sym (has (codes "nnnn")))
        (omega arith);
    undisclosed = tt;
  };
  result_is = refl;
  ends = refl;
}))

pub not_n : (rest : List ℕ) → ¬ (◌≡◌ {A = List ℕ} (codes "m") (110 ∷ rest))
not_n rest e = omega (arith, ap (λ (bytes : List ℕ). get_or bytes 0 0) e)

bad : HasAnswer (with_bytes (codes "m")) 1 ProgramRefused (codes "bad")
bad = WithoutText refl (Bad (record {
  bytes = codes "m";
  fetched = record { held = has (codes "m"); taken = refl; within = omega arith };
  refused = (not_n, refl);
  ends = refl;
}))

none : HasAnswer (with_bytes (codes "n")) 1 Done (codes "none")
none = WithMeaning 0 (record {
  bytes = codes "n";
  held = has (codes "n");
  taken = λ last. refl;
  within = omega arith;
  stands = ([], (refl, refl));
}) (refl, inl (refl, (refl, refl)))

some : HasAnswer (with_bytes (codes "nop")) 3 Unknown (codes "some")
some = WithMeaning 2 (record {
  bytes = codes "nop";
  held = has (codes "nop");
  taken = λ last. refl;
  within = omega arith;
  stands = (codes "op", (refl, refl));
}) (refl, inr (inl (refl, (omega arith, refl))))

-- each file has one answer
one : (files : Files) (taken : ℕ) (s t : Status) (x y : List ℕ) → HasAnswer files taken s x → HasAnswer files taken t y
    → (s ≡ t) × (x ≡ y)
one files taken s t x y a b =
    answer_unique (shelf_with files taken) files (Some 3) small_plan refl toy_lawful s t x y
    (fails_if_lacking files taken s)
    (fails_if_lacking files taken t) a b

unknown_not_done : ¬ (Unknown ≡ Done)
unknown_not_done e = cc

-- as many bytes are read as the file has
read_all : (bytes : List ℕ) (taken : ℕ) → length bytes ≤ 3 → ¬ (taken ≡ length bytes) → (s : Status) (x : List ℕ)
    → ¬ (HasAnswer (with_bytes bytes) taken s x)
read_all bytes taken few other s x (WithoutText counted (Unread h)) = absurd (unread h.fault)
  where
    unread : ¬ (Rose 2 2 ⊎ (get (with_bytes bytes) (codes "f") ≡ None))
    unread (inl rose) = no_rise rose
    unread (inr none_there) = never_lacks bytes none_there
read_all bytes taken few other s x (WithoutText counted (OverLimit h)) = absurd (never_more bytes few h.over.disclosed)
read_all bytes taken few other s x (WithoutText counted (Bad h)) =
    other (h.fetched.taken ∙ ap length (sym (has_one bytes h.bytes h.fetched.held)))
read_all bytes taken few other s x (WithMeaning n gives on) =
    other (gives.taken tt ∙ ap length (sym (has_one bytes gives.bytes gives.held)))

-- a count that is one more than another
next_one : (before : ℕ) → before < 10 → ◌≡◌ {A = Option ℕ} (Some 4) (one_more (Some before)) → 4 ≡ before + 1
next_one before few e =
    let is : 4 ≡ min (before + 1) (2 ^ 64 - 1) = some_one 4 (min (before + 1) (2 ^ 64 - 1)) e in
    is ∙ min-eq_left (omega (arith, few))

-- one fetch is counted
fetched_one : (files : Files) (taken before : ℕ) (s : Status) (x : List ℕ) → before < 10
    → IsAnswerByPlan (shelf_with files taken) (Some before) small_plan s x → 4 ≡ before + 1
fetched_one files taken before s x few (WithoutText counted h) = next_one before few counted
fetched_one files taken before s x few (WithMeaning n gives on) = next_one before few on.0

pub worked : PlansAreWorkedOut
worked = record {
  lacking = lacking;
  long = long;
  bad = bad;
  none = none;
  some = some;
  only_fault = λ s x h. (one with_another 0 s ReadFault x read_fault_text h lacking).0;
  only_bad = λ s x h. (one (with_bytes (codes "m")) 1 s ProgramRefused x (codes "bad") h bad).1;
  only_none = λ s x h. (one (with_bytes (codes "n")) 1 s Done x (codes "none") h none).0;
  only_some = λ x h. unknown_not_done (one (with_bytes (codes "nop")) 3 Unknown Done (codes "some") x some h).0;
  bytes_read = λ s x h. read_all (codes "n") 2 (omega arith) (λ e. omega (arith, e)) s x h;
  fetched_twice = λ s x h. let e = fetched_one (with_bytes (codes "n")) 1 2 s x (omega arith) h in omega (arith, e);
  fetched_never = λ s x h. let e = fetched_one (with_bytes (codes "n")) 1 4 s x (omega arith) h in omega (arith, e);
}

-- the answers of a table with `Done`, and with the status of no row
row_of_done : (n : ℕ) (x : List ℕ) → HasRow (table n) Done x → (n ≡ 0) × (x ≡ codes "none")
row_of_done n x (inl h) = h.1
row_of_done n x (inr (inl h)) = let e : Done ≡ Unknown = h.0 in cc
row_of_done n x (inr (inr never)) = absurd never

no_row_of_not_accepted : (n : ℕ) (x : List ℕ) → ¬ (HasRow (table n) NotAccepted x)
no_row_of_not_accepted n x (inl h) = let e : NotAccepted ≡ Done = h.0 in cc
no_row_of_not_accepted n x (inr (inl h)) = let e : NotAccepted ≡ Unknown = h.0 in cc
no_row_of_not_accepted n x (inr (inr never)) = never

-- a list of no length is empty
no_length : (rest : List ℕ) → length rest ≡ 0 → rest ≡ []
no_length [] e = refl
no_length (b ∷ rest) e = absurd (omega (arith, e))

-- with `Done` the text of the row was written, whole, and the file stands for 0
wrote_done : (bytes written : List ℕ) (taken : ℕ) → Wrote (shelf_with (with_bytes bytes) taken) (wrote written)
    small_plan Done
    → (bytes ≡ 110 ∷ []) × (written ≡ codes "none")
wrote_done bytes written taken (n, (gives, (x, (told, appended)))) =
    let is = row_of_done n x told in
    let rest = gives.stands.0 in
    let empty_rest : length rest ≡ 0 = sym gives.stands.1.1 ∙ is.0 in (
      has_one bytes gives.bytes gives.held
          ∙ (gives.stands.1.0 ∙ ap (λ (r : List ℕ). 110 ∷ r) (no_length rest empty_rest)),
      append_cancel_left (codes "old ") written x appended ∙ is.1,
    )

not_refused : ¬ (WroteRefusal (shelf_with (with_bytes (codes "n")) 1) (wrote (codes "bad")) small_plan ProgramRefused)
not_refused (inl (x, (inl over, appended))) = never_more (codes "n") (omega arith) over.over.disclosed
not_refused (inl (x, (inr h, appended))) = h.refused.0 [] (sym (has_one (codes "n") h.bytes h.fetched.held))
not_refused (inr (n, (gives, never))) = never

not_missed : ¬ (MayMiss (shelf_with (with_bytes (codes "n")) 1) small_plan)
not_missed (inl (inl rose)) = no_rise rose
not_missed (inl (inr none_there)) = never_lacks (codes "n") none_there
not_missed (inr (n, (gives, never))) = never

pub meanings : StatusesHaveMeanings
meanings = record {
  done = (
    0,
    (
      record {
        bytes = codes "n";
        held = has (codes "n");
        taken = λ last. refl;
        within = omega arith;
        stands = ([], (refl, refl));
      },
      (codes "none", (inl (refl, (refl, refl)), refl)),
    ),
  );
  in_part = λ h. let e = (wrote_done (codes "n") (codes "non") 1 h).1 in omega (arith, ap length e);
  nothing = λ h. let e = (wrote_done (codes "n") [] 1 h).1 in omega (arith, ap length e);
  other_file = λ h. let e = (wrote_done (codes "no") (codes "none") 2 h).0 in omega (arith, ap length e);
  no_row = λ (n, (gives, (x, (told, appended)))). no_row_of_not_accepted n x told;
  refused = inl (
    codes "bad",
    (
      inr (record {
        bytes = codes "m";
        fetched = record { held = has (codes "m"); taken = refl; within = omega arith };
        refused = (not_n, refl);
        ends = refl;
      }),
      refl,
    ),
  );
  refused_good = not_refused;
  missed = inl (inr lacks);
  not_missed = not_missed;
}

-- how a call ends on these files
ends_lacking : EndsOn with_another small_plan ReadFault
ends_lacking = Lacking lacks refl

ends_bad : EndsOn (with_bytes (codes "m")) small_plan ProgramRefused
ends_bad = Nothing (codes "m") (has (codes "m")) (omega arith) (λ n h. not_n h.0 h.1.0) refl

ends_none : EndsOn (with_bytes (codes "n")) small_plan Done
ends_none = Represented (codes "n") (has (codes "n")) (omega arith) 0 ([], (refl, refl)) (inl (refl, refl))

ends_some : EndsOn (with_bytes (codes "nop")) small_plan Unknown
ends_some = Represented (codes "nop") (has (codes "nop")) (omega arith) 2 (codes "op", (refl, refl))
    (inr (inl (refl, omega arith)))

pub endings : PlansEnd
endings = record {
  lacking = ends_lacking;
  long = TooLong (codes "nnnn") (has (codes "nnnn")) (omega arith) refl;
  bad = ends_bad;
  none = ends_none;
  some = ends_some;
  only_fault = λ h. let e = ends_unique with_another small_plan ReadFault Done toy_lawful ends_lacking h in cc;
  only_refused = λ h. let e = ends_unique (with_bytes (codes "m")) small_plan ProgramRefused Done toy_lawful ends_bad
      h in cc;
  only_done = λ h. let e = ends_unique (with_bytes (codes "n")) small_plan Done Unknown toy_lawful ends_none h in cc;
  only_known = λ h. let e = ends_unique (with_bytes (codes "nop")) small_plan Unknown Done toy_lawful ends_some h in cc;
}
