-- The plan that reads two files has the worked answers.
use Rattle.std.proofs.Common.{◌≡◌, ◌≤◌, ◌<◌, ℕ, List, [], ◌∷◌, ◌++◌, length, Option, Some, None, refl, sym, ◌∙◌, ap}
use Rattle.std.proofs.Common.{subst}
use Rattle.std.proofs.Common.{arith, get_or, inl, inr, codes, ◌+◌, ◌⊎◌}
use Rattle.std.proofs.lemmas.List.{append_cancel_left}
use Rattle.std.specs.Prelude.{◌≢◌, ⊤, IsSomeAnd}
use Rattle.std.specs.Cmp.Lexicographic.{slice_cmp, nat_list_cmp_total}
use Rattle.std.specs.Ordering.{nat_cmp}
use Rattle.std.specs.FinMap.{get, empty, insert, get-insert, get-empty}
use Rattle.outside_io.specs.Counts.{Rose, one_more}
use Rattle.outside_io.specs.Files.{Files}
use Rattle.call_plans.specs.declared.status.Status.{Status}
use Rattle.call_plans.specs.declared.status.Status.TheVariants.{Done, Unknown, ReadFault, ProgramRefused}
use Rattle.call_plans.specs.Gives.{Gives}
use Rattle.call_plans.specs.OnFiles.{IsNoText, Unread, OverLimit, Bad, WithoutText, WithMeaning}
use Rattle.call_plans.specs.OnFiles.{read_fault_text}
use Rattle.call_plans.specs.Plans.{Cases, End, Case, HasRow, HasCase}
use Rattle.call_plans.specs.Meanings.{Wrote, WroteRefusal, MayMiss}
use Rattle.call_plans.specs.Endings.{Lacking, TooLong, Nothing, Represented, EndsOn}
use Rattle.call_plans.specs.Lawful.{IsLawful}
use Rattle.call_plans.specs.Worked.{counts, with_bytes, with_another, wrote}
use Rattle.call_plans.specs.WorkedPairs.{pair, with_both, shelf_after, HasAnswer}
use Rattle.call_plans.specs.WorkedPairs.{PairsAreWorkedOut, PairStatusesHaveMeanings, PairsEnd}
use Rattle.call_plans.proofs.OneEnding.{ends_unique}
use Rattle.call_plans.proofs.Worked.{counts_decided, has, lacks, no_rise, not_n, some_one}

-- both files of these contents, and the files that the contents with one file lack
has_first : (f g : List ℕ) → get (with_both f g) (codes "f") ≡ Some f
has_first f g = get-insert nat_list_cmp_total (insert empty (codes "g") g) (codes "f") f (codes "f")

has_second : (f g : List ℕ) → get (with_both f g) (codes "g") ≡ Some g
has_second f g =
    get-insert nat_list_cmp_total (insert empty (codes "g") g) (codes "f") f (codes "g")
    ∙ get-insert nat_list_cmp_total empty (codes "g") g (codes "g")

lacks_second : (f : List ℕ) → get (with_bytes f) (codes "g") ≡ None
lacks_second f =
    get-insert nat_list_cmp_total empty (codes "f") f (codes "g") ∙ get-empty (slice_cmp nat_cmp) (codes "g")

-- a file that exists, of at most three bytes
module _ (files : Files) (fetches taken : ℕ) (file bytes : List ℕ) (there : get files file ≡ Some bytes)
    (few : length bytes ≤ 3) where
  same_bytes : (others : List ℕ) → get files file ≡ Some others → bytes ≡ others
  same_bytes others e = let both : Some bytes ≡ Some others = sym there ∙ e in cc

  -- the fetch of the file can't fail
  never_missed : ¬ (Rose 2 2 ⊎ (get files file ≡ None))
  never_missed (inl rose) = no_rise rose
  never_missed (inr none) = let e : ◌≡◌ {A = Option (List ℕ)} (Some bytes) None = sym there ∙ none in cc

  never_long : ¬ (IsSomeAnd (get files file) (λ others. 3 < length others))
  never_long more =
      let long : 3 < length bytes =
      subst (λ (o : Option (List ℕ)). IsSomeAnd o (λ others. 3 < length others)) there more in
      omega (arith, few, long)

  -- if the file has no text of the kind, it doesn't begin with `n`, and is refused as bad
  refused_as_bad : (s : Status) (x : List ℕ) → IsNoText counts (shelf_after files fetches taken) file s x
      → ((rest : List ℕ) → ¬ (bytes ≡ 110 ∷ rest)) × ((s ≡ ProgramRefused) × (x ≡ codes "bad"))
  refused_as_bad s x (Unread h) = absurd (never_missed h.fault)
  refused_as_bad s x (OverLimit h) = absurd (never_long h.over.disclosed)
  refused_as_bad s x (Bad h) =
      (λ rest e. h.refused.0 rest (sym (same_bytes h.bytes h.fetched.held) ∙ e), (h.ends, h.refused.1))

  -- if the file has a text of the kind, it means the number of the bytes after an `n`
  gives_number : (Last : Type 0) (n : ℕ) → Gives counts (shelf_after files fetches taken) file Last n
      → (rest : List ℕ) × ((bytes ≡ 110 ∷ rest) × (n ≡ length rest))
  gives_number Last n gives =
      (gives.stands.0, (same_bytes gives.bytes gives.held ∙ gives.stands.1.0, gives.stands.1.1))

  -- as many bytes are taken as the last file has
  takes_all : (Last : Type 0) (n : ℕ) → Last → Gives counts (shelf_after files fetches taken) file Last n
      → taken ≡ length bytes
  takes_all Last n last gives = gives.taken last ∙ ap length (sym (same_bytes gives.bytes gives.held))

-- the number that `n` and other bytes mean
number_is : (bytes : List ℕ) (k n : ℕ) → length bytes ≡ k + 1
    → (rest : List ℕ) × ((bytes ≡ 110 ∷ rest) × (n ≡ length rest))
    → n ≡ k
number_is bytes k n long (rest, (is, number)) =
    let all : length bytes ≡ length (110 ∷ rest) = ap length is in omega (arith, long, number, all)

-- how many fetches are counted
one_fetch : (fetches : ℕ) → ◌≡◌ {A = Option ℕ} (Some (3 + fetches)) (one_more (Some 3)) → fetches ≡ 1
one_fetch fetches e = let is : 3 + fetches ≡ 4 = some_one (3 + fetches) 4 e in omega (arith, is)

two_fetches : (fetches : ℕ) → ◌≡◌ {A = Option ℕ} (Some (3 + fetches)) (one_more (one_more (Some 3))) → fetches ≡ 2
two_fetches fetches e = let is : 3 + fetches ≡ 5 = some_one (3 + fetches) 5 e in omega (arith, is)

-- the rows of the table
abbrev rows_after_first : ℕ → ℕ → Cases
rows_after_first m n = Case Unknown (m ≢ n) (λ text. (m ≢ n) × (text ≡ codes "other")) End

abbrev table : ℕ → ℕ → Cases
table m n = Case Done (m ≡ n) (λ text. (m ≡ n) × (text ≡ codes "same")) (rows_after_first m n)

done_alone : (m n : ℕ) (s : Status) → m ≡ n → ¬ (HasCase (rows_after_first m n) s)
done_alone m n s same (inl h) = h.1 same
done_alone m n s same (inr never) = never

pair_lawful : IsLawful pair
pair_lawful = (
  counts_decided,
  λ bytes m stands. (
    counts_decided,
    λ others n second. (
      record { one = λ x y a b. a.1 ∙ sym b.1; comes = λ x a. a.0; alone = done_alone m n },
      (record { one = λ x y a b. a.1 ∙ sym b.1; comes = λ x a. a.0; alone = λ s h never. never }, tt),
    ),
  ),
)

-- the answers of the table for equal and for different numbers
row_of_equal : (m n : ℕ) (s : Status) (x : List ℕ) → m ≡ n → HasRow (table m n) s x → (s ≡ Done) × (x ≡ codes "same")
row_of_equal m n s x same (inl h) = (h.0, h.1.1)
row_of_equal m n s x same (inr (inl h)) = absurd (h.1.0 same)
row_of_equal m n s x same (inr (inr never)) = absurd never

row_of_different : (m n : ℕ) (s : Status) (x : List ℕ) → m ≢ n → HasRow (table m n) s x
    → (s ≡ Unknown) × (x ≡ codes "other")
row_of_different m n s x other (inl h) = absurd (other h.1.0)
row_of_different m n s x other (inr (inl h)) = (h.0, h.1.1)
row_of_different m n s x other (inr (inr never)) = absurd never

-- the meaning of a file
number_of : (files : Files) (fetches taken : ℕ) (file rest : List ℕ) (Last : Type 0)
    → get files file ≡ Some (110 ∷ rest) → length rest ≤ 2 → (Last → taken ≡ length (110 ∷ rest))
    → Gives counts (shelf_after files fetches taken) file Last (length rest)
number_of files fetches taken file rest Last there few all = record {
  bytes = 110 ∷ rest;
  held = there;
  taken = all;
  within = omega (arith, few);
  stands = (rest, (refl, refl));
}

-- the file `m` has no meaning
no_number : (files : Files) (fetches : ℕ) (file : List ℕ) → get files file ≡ Some (codes "m")
    → IsNoText counts (shelf_after files fetches 1) file ProgramRefused (codes "bad")
no_number files fetches file there = Bad (record {
  bytes = codes "m";
  fetched = record { held = there; taken = refl; within = omega arith };
  refused = (not_n, refl);
  ends = refl;
})

-- each pair of files has this answer
first_lacking : HasAnswer with_another 1 0 ReadFault read_fault_text
first_lacking = WithoutText refl (Unread (record { fault = inr lacks; result_is = refl; ends = refl }))

first_bad : HasAnswer (with_both (codes "m") (codes "n")) 1 1 ProgramRefused (codes "bad")
first_bad = WithoutText refl
    (no_number (with_both (codes "m") (codes "n")) 1 (codes "f") (has_first (codes "m") (codes "n")))

first_bad_second_lacking : HasAnswer (with_bytes (codes "m")) 1 1 ProgramRefused (codes "bad")
first_bad_second_lacking = WithoutText refl (no_number (with_bytes (codes "m")) 1 (codes "f") (has (codes "m")))

second_lacking : HasAnswer (with_bytes (codes "no")) 2 0 ReadFault read_fault_text
second_lacking =
    WithMeaning 1 (number_of (with_bytes (codes "no")) 2 0 (codes "f") (codes "o") ⊥ (has (codes "no")) (omega arith)
    (λ never. absurd never))
    (WithoutText refl (Unread (record { fault = inr (lacks_second (codes "no")); result_is = refl; ends = refl })))

second_long : HasAnswer (with_both (codes "no") (codes "nnnn")) 2 0 ProgramRefused (codes "long")
second_long =
    WithMeaning 1 (number_of (with_both (codes "no") (codes "nnnn")) 2 0 (codes "f") (codes "o") ⊥
    (has_first (codes "no") (codes "nnnn"))
    (omega arith) (λ never. absurd never))
    (WithoutText refl (OverLimit (record {
      over = record {
        disclosed = subst (λ (o : Option (List ℕ)). IsSomeAnd o (λ bytes. 3 < length bytes))
            (sym (has_second (codes "no") (codes "nnnn"))) (omega arith);
        undisclosed = tt;
      };
      result_is = refl;
      ends = refl;
    })))

second_bad : HasAnswer (with_both (codes "no") (codes "m")) 2 1 ProgramRefused (codes "bad")
second_bad =
    WithMeaning 1 (number_of (with_both (codes "no") (codes "m")) 2 1 (codes "f") (codes "o") ⊥
    (has_first (codes "no") (codes "m"))
    (omega arith) (λ never. absurd never))
    (WithoutText refl (no_number (with_both (codes "no") (codes "m")) 2 (codes "g")
    (has_second (codes "no") (codes "m"))))

same : HasAnswer (with_both (codes "no") (codes "nn")) 2 2 Done (codes "same")
same =
    WithMeaning 1 (number_of (with_both (codes "no") (codes "nn")) 2 2 (codes "f") (codes "o") ⊥
    (has_first (codes "no") (codes "nn"))
    (omega arith) (λ never. absurd never))
    (WithMeaning 1 (number_of (with_both (codes "no") (codes "nn")) 2 2 (codes "g") (codes "n") ⊤
    (has_second (codes "no") (codes "nn"))
    (omega arith) (λ last. refl))
    (refl, inl (refl, (refl, refl))))

one_not_zero : ◌≡◌ {A = ℕ} 1 0 → ⊥
one_not_zero e = omega (arith, e)

other : HasAnswer (with_both (codes "no") (codes "n")) 2 1 Unknown (codes "other")
other =
    WithMeaning 1 (number_of (with_both (codes "no") (codes "n")) 2 1 (codes "f") (codes "o") ⊥
    (has_first (codes "no") (codes "n"))
    (omega arith) (λ never. absurd never))
    (WithMeaning 0 (number_of (with_both (codes "no") (codes "n")) 2 1 (codes "g") [] ⊤
    (has_second (codes "no") (codes "n"))
    (omega arith) (λ last. refl))
    (refl, inr (inl (refl, (one_not_zero, refl)))))

-- each pair of files has one answer
only_bad : (fetches taken : ℕ) (s : Status) (x : List ℕ) → HasAnswer (with_bytes (codes "m")) fetches taken s x
    → (fetches ≡ 1) × ((s ≡ ProgramRefused) × (x ≡ codes "bad"))
only_bad fetches taken s x (WithoutText counted h) = (
  one_fetch fetches counted,
  (refused_as_bad (with_bytes (codes "m")) fetches taken (codes "f") (codes "m") (has (codes "m")) (omega arith) s x
      h).1,
)
only_bad fetches taken s x (WithMeaning m gives h) =
    let is = gives_number (with_bytes (codes "m")) fetches taken (codes "f") (codes "m") (has (codes "m")) (omega arith)
    ⊥ m gives in
    absurd (not_n is.0 is.1.0)

-- a first file `no` gives its number
first_number : (files : Files) (fetches taken : ℕ) (s : Status) (x : List ℕ) → get files (codes "f") ≡ Some (codes "no")
    → ¬ (IsNoText counts (shelf_after files fetches taken) (codes "f") s x)
first_number files fetches taken s x there h =
    (refused_as_bad files fetches taken (codes "f") (codes "no") there (omega arith) s x h).0 (codes "o") refl

only_second : (fetches taken : ℕ) (s : Status) (x : List ℕ) → HasAnswer (with_bytes (codes "no")) fetches taken s x
    → (fetches ≡ 2) × (s ≡ ReadFault)
only_second fetches taken s x (WithoutText counted h) =
    absurd (first_number (with_bytes (codes "no")) fetches taken s x (has (codes "no")) h)
only_second fetches taken s x (WithMeaning m first (WithoutText counted (Unread h))) =
    (two_fetches fetches counted, h.ends)
only_second fetches taken s x (WithMeaning m first (WithoutText counted (OverLimit h))) =
    absurd (subst (λ (o : Option (List ℕ)). IsSomeAnd o (λ bytes. 3 < length bytes)) (lacks_second (codes "no"))
    h.over.disclosed)
only_second fetches taken s x (WithMeaning m first (WithoutText counted (Bad h))) =
    let e : ◌≡◌ {A = Option (List ℕ)} None (Some h.bytes) = sym (lacks_second (codes "no"))
    ∙ h.fetched.held in absurd cc
only_second fetches taken s x (WithMeaning m first (WithMeaning n second h)) =
    let e : ◌≡◌ {A = Option (List ℕ)} None (Some second.bytes) = sym (lacks_second (codes "no"))
    ∙ second.held in absurd cc

-- after `no`, a second file of some bytes is compared with it
module _ (rest : List ℕ) (few : length rest ≤ 2) (fetches taken : ℕ) (s : Status) (x : List ℕ) where
  abbrev both : Files
  both = with_both (codes "no") (110 ∷ rest)

  compared : HasAnswer both fetches taken s x → (fetches ≡ 2)
      × ((taken ≡ length rest + 1) × HasRow (table 1 (length rest)) s x)
  compared (WithoutText counted h) = absurd (first_number both fetches taken s x (has_first (codes "no") (110 ∷ rest))
      h)
  compared (WithMeaning m first (WithoutText counted h)) =
      absurd ((refused_as_bad both fetches taken (codes "g") (110 ∷ rest) (has_second (codes "no") (110 ∷ rest))
      (omega (arith, few)) s x h).0 rest refl)
  compared (WithMeaning m first (WithMeaning n second h)) =
      let one : m ≡ 1 =
      number_is (codes "no") 1 m refl
      (gives_number both fetches taken (codes "f") (codes "no") (has_first (codes "no") (110 ∷ rest)) (omega arith) ⊥ m
      first) in
      let there = has_second (codes "no") (110 ∷ rest) in
      let two : n ≡ length rest =
      number_is (110 ∷ rest) (length rest) n (omega arith)
      (gives_number both fetches taken (codes "g") (110 ∷ rest) there (omega (arith, few)) ⊤ n second) in
      let all = takes_all both fetches taken (codes "g") (110 ∷ rest) there (omega (arith, few)) ⊤ n tt second in (
        two_fetches fetches h.0,
        (
          omega (arith, all),
          subst (λ (k : ℕ). HasRow (table 1 k) s x) two (subst (λ (k : ℕ). HasRow (table k n) s x) one h.1),
        ),
      )

pub worked_pairs : PairsAreWorkedOut
worked_pairs = record {
  first_lacking = first_lacking;
  first_bad = first_bad;
  first_bad_second_lacking = first_bad_second_lacking;
  second_lacking = second_lacking;
  second_long = second_long;
  second_bad = second_bad;
  same = same;
  other = other;
  only_bad = only_bad;
  only_second = only_second;
  only_same = λ fetches taken s x h.
      let is = compared (codes "n") (omega arith) fetches taken s x h in
      (is.0, (is.1.0, row_of_equal 1 1 s x refl is.1.1));
  only_other = λ fetches taken s x h.
      let is = compared [] (omega arith) fetches taken s x h in
      (is.0, (is.1.0, row_of_different 1 0 s x one_not_zero is.1.1));
}

-- with `Done` both files stand for the same number
not_same : ¬ (Wrote (shelf_after (with_both (codes "no") (codes "n")) 2 1) (wrote (codes "same")) pair Done)
not_same (m, (first, (n, (second, (x, (told, appended)))))) =
    let files = with_both (codes "no") (codes "n") in
    let one : m ≡ 1 =
    number_is (codes "no") 1 m refl
    (gives_number files 2 1 (codes "f") (codes "no") (has_first (codes "no") (codes "n")) (omega arith) ⊥ m first) in
    let two : n ≡ 0 =
    number_is (codes "n") 0 n refl
    (gives_number files 2 1 (codes "g") (codes "n") (has_second (codes "no") (codes "n")) (omega arith) ⊤ n second) in
    let differ : m ≢ n = λ same_number. omega (arith, one, two, same_number) in
    let e : Done ≡ Unknown = (row_of_different m n Done x differ told).0 in
    cc

not_refused : ¬ (WroteRefusal (shelf_after (with_both (codes "no") (codes "n")) 2 1) (wrote (codes "bad")) pair
    ProgramRefused)
not_refused (inl (x, (inl over, appended))) =
    never_long (with_both (codes "no") (codes "n")) 2 1 (codes "f") (codes "no") (has_first (codes "no") (codes "n"))
    (omega arith) over.over.disclosed
not_refused (inl (x, (inr h, appended))) =
    first_number (with_both (codes "no") (codes "n")) 2 1 ProgramRefused x (has_first (codes "no") (codes "n")) (Bad h)
not_refused (inr (m, (first, inl (x, (inl over, appended))))) =
    never_long (with_both (codes "no") (codes "n")) 2 1 (codes "g") (codes "n") (has_second (codes "no") (codes "n"))
    (omega arith) over.over.disclosed
not_refused (inr (m, (first, inl (x, (inr h, appended))))) =
    (refused_as_bad (with_both (codes "no") (codes "n")) 2 1 (codes "g") (codes "n")
    (has_second (codes "no") (codes "n"))
    (omega arith) ProgramRefused x (Bad h)).0 [] refl
not_refused (inr (m, (first, inr (n, (second, never))))) = never

not_reached : ¬ (MayMiss (shelf_after (with_bytes (codes "m")) 1 1) pair)
not_reached (inl fault) =
    never_missed (with_bytes (codes "m")) 1 1 (codes "f") (codes "m") (has (codes "m")) (omega arith) fault
not_reached (inr (m, (first, more))) =
    let is = gives_number (with_bytes (codes "m")) 1 1 (codes "f") (codes "m") (has (codes "m")) (omega arith) ⊥ m
    first in
    not_n is.0 is.1.0

pub pair_meanings : PairStatusesHaveMeanings
pair_meanings = record {
  done = (
    1,
    (
      number_of (with_both (codes "no") (codes "nn")) 2 2 (codes "f") (codes "o") ⊥
          (has_first (codes "no") (codes "nn"))
          (omega arith) (λ never. absurd never),
      (
        1,
        (
          number_of (with_both (codes "no") (codes "nn")) 2 2 (codes "g") (codes "n") ⊤
              (has_second (codes "no") (codes "nn")) (omega arith) (λ last. refl),
          (codes "same", (inl (refl, (refl, refl)), refl)),
        ),
      ),
    ),
  );
  other_file = not_same;
  refused = inr (
    1,
    (
      number_of (with_both (codes "no") (codes "m")) 2 1 (codes "f") (codes "o") ⊥ (has_first (codes "no") (codes "m"))
          (omega arith) (λ never. absurd never),
      inl (
        codes "bad",
        (
          inr (record {
            bytes = codes "m";
            fetched = record { held = has_second (codes "no") (codes "m"); taken = refl; within = omega arith };
            refused = (not_n, refl);
            ends = refl;
          }),
          refl,
        ),
      ),
    ),
  );
  refused_first = inl (
    codes "bad",
    (
      inr (record {
        bytes = codes "m";
        fetched = record { held = has_first (codes "m") (codes "n"); taken = refl; within = omega arith };
        refused = (not_n, refl);
        ends = refl;
      }),
      refl,
    ),
  );
  refused_good = not_refused;
  missed = inr (
    1,
    (
      number_of (with_bytes (codes "no")) 2 0 (codes "f") (codes "o") ⊥ (has (codes "no")) (omega arith)
          (λ never. absurd never),
      inl (inr (lacks_second (codes "no"))),
    ),
  );
  not_reached = not_reached;
}

-- how a call ends on these files
ends_hidden : EndsOn (with_bytes (codes "m")) pair ProgramRefused
ends_hidden = Nothing (codes "m") (has (codes "m")) (omega arith) (λ n h. not_n h.0 h.1.0) refl

ends_same : EndsOn (with_both (codes "no") (codes "nn")) pair Done
ends_same =
    Represented (codes "no") (has_first (codes "no") (codes "nn")) (omega arith) 1 (codes "o", (refl, refl))
    (Represented (codes "nn") (has_second (codes "no") (codes "nn")) (omega arith) 1 (codes "n", (refl, refl))
    (inl (refl, refl)))

ends_other : EndsOn (with_both (codes "no") (codes "n")) pair Unknown
ends_other =
    Represented (codes "no") (has_first (codes "no") (codes "n")) (omega arith) 1 (codes "o", (refl, refl))
    (Represented (codes "n") (has_second (codes "no") (codes "n")) (omega arith) 0 ([], (refl, refl))
    (inr (inl (refl, one_not_zero))))

pub pair_endings : PairsEnd
pair_endings = record {
  hidden = ends_hidden;
  lacking = Represented (codes "no") (has (codes "no")) (omega arith) 1 (codes "o", (refl, refl))
      (Lacking (lacks_second (codes "no")) refl);
  bad = Represented (codes "no") (has_first (codes "no") (codes "m")) (omega arith) 1 (codes "o", (refl, refl))
      (Nothing (codes "m") (has_second (codes "no") (codes "m")) (omega arith) (λ n h. not_n h.0 h.1.0) refl);
  same = ends_same;
  other = ends_other;
  only_hidden = λ h. let e = ends_unique (with_bytes (codes "m")) pair ProgramRefused ReadFault pair_lawful ends_hidden
      h in cc;
  only_same = λ h.
      let e = ends_unique (with_both (codes "no") (codes "nn")) pair Done Unknown pair_lawful ends_same h in cc;
  only_other = λ h.
      let e = ends_unique (with_both (codes "no") (codes "n")) pair Unknown Done pair_lawful ends_other h in cc;
}
