-- The entry of each size is the size that is known, or the reason why it is missing.
use Rattle.std.proofs.Common.{◌≡◌, ◌⊎◌, inl, inr, ℕ, zero, suc, ◌≤◌, ◌==◌, ◌&&◌, ◌||◌, Bool, true, false, List, [], ◌∷◌}
use Rattle.std.proofs.Common.{length, map, Option, Some, None, refl, sym, ◌∙◌, ap, subst}
use Rattle.std.specs.List.{list_any}
use Rattle.std.proofs.lemmas.Bool.{and_parts, and_from, or_left}
use Rattle.model.specs.Programs.{Program}
use Rattle.model.specs.Bounds.{Bound}
use Rattle.model.proofs.Membership.{same_number, same_number-sound, no_is_not_yes}
use Rattle.bound_expr.specs.Views.{bound_of}
use Rattle.outcome.specs.Reports.{NoSize, Size, Sized, Unsized}
use Rattle.outcome.specs.declared.entry.Stored.{Stored}
use Rattle.cert_types.specs.cert_rules.Nodes.{ResultVariable}
use Rattle.bound_fixpoint.specs.Keys.{has_key}
use Rattle.bound_fixpoint.specs.Derivations.{bounds_of}
use Rattle.bound_fixpoint.specs.Searches as searches
use Rattle.bound_fixpoint.specs.Searches.{Searches}
use Rattle.bound_fixpoint.specs.Answers.{SizesOf, are_open}
use Rattle.bound_fixpoint.specs.Components.{IsCovered, IsOneOf}
use Rattle.bound_fixpoint.proofs.ReasonsExist.{open_by}
use Rattle.bound_derivations.specs.declared.derivation.Derivation.{Derivation}
use Rattle.bound_derivations.specs.Books.{AreDerivedBounds}
use Rattle.bound_derivations.specs.ByKey.{put_place, rows_of}
use Rattle.bound_derivations.specs.Views.{derivations_of}
use Rattle.size_bounds.specs.declared.table.Table.{Table}
use Rattle.size_bounds.specs.Tables.{entry_at, row_at, bound_stored}
use Rattle.time_bounds.specs.declared.candidates.Candidate.{Candidate}
use Rattle.time_bounds.specs.declared.sizing.ComponentAttempt.{ComponentAttempt}
use Rattle.time_bounds.specs.declared.sizing.ComponentAttempt.TheVariants as attempts
use Rattle.time_bounds.specs.ProgramSearches.{searches_of_program}
use Rattle.time_bounds.specs.Candidates.{result_variables_in, AreCandidatesOf}
use Rattle.time_bounds.specs.Analysis.{IsSizeOf}
use Rattle.time_bounds.specs.Attempts.{LacksSize, IsAttempt, AreAttempts, is_sized, why_of}
use Rattle.time_bounds.specs.SizeSaid.{placed, said_stored, said_table, put_result_variables, put_why, put_whys}
use Rattle.time_bounds.proofs.CandidateComponents.{are_components}
use Rattle.time_bounds.proofs.PlacedLaws.{Wrote, place_known, place_cases, place_here, place_long, row_long}
use Rattle.model.proofs.Cases.{none_some, some_same}

-- the entry at a place of mapped rows
entry_mapped : {A B : Type 0} (f : Option A → Option B) (row : List (Option A)) (i : ℕ) → f None ≡ None → entry_at (map f row) i ≡ f (entry_at row i)
entry_mapped f [] i e = sym e
entry_mapped f (o ∷ row) zero e = refl
entry_mapped f (o ∷ row) (suc i) e = entry_mapped f row i e

placed_mapped : {A B : Type 0} (f : Option A → Option B) (rows : List (List (Option A))) (t i : ℕ) → f None ≡ None
    → placed (map (λ row. map f row) rows) t i ≡ f (placed rows t i)
placed_mapped f rows t zero e = sym e
placed_mapped f [] t (suc i) e = sym e
placed_mapped f (row ∷ rows) zero (suc i) e = entry_mapped f row i e
placed_mapped f (row ∷ rows) (suc t) (suc i) e = placed_mapped f rows t (suc i) e

-- the entry by the table alone
said_at : (tab : Table) (t i : ℕ) → placed (said_table tab) t i ≡ said_stored (placed (rows_of tab) t i)
said_at tab t i = placed_mapped said_stored (rows_of tab) t i refl

by_bound : (o : Option Stored) (b : Bound) → bound_stored o ≡ Some b → said_stored o ≡ Some (Sized b)
by_bound None b e = absurd (none_some b e)
by_bound (Some s) b e = ap (λ (c : Bound). Some (Sized c)) (some_same (bound_of s.bound) b e)

bound_by : (o : Option Stored) (x : Size) → said_stored o ≡ Some x → (b : Bound) × (bound_stored o ≡ Some b) × (x ≡ Sized b)
bound_by None x e = absurd (none_some x e)
bound_by (Some s) x e = (bound_of s.bound, refl, sym (some_same (Sized (bound_of s.bound)) x e))

-- elements at places stay when values are written at some places
result_variables_known : {A : Type 0} (rows : List (List (Option A))) (result_variables : List ResultVariable) (a : A) (t i : ℕ) (b : A) → placed rows t i ≡ Some b
    → placed (put_result_variables rows result_variables a) t i ≡ Some b
result_variables_known rows [] a t i b e = e
result_variables_known rows (m ∷ result_variables) a t i b e =
    result_variables_known (put_place rows m.rule m.place a) result_variables a t i b (place_known rows m.rule m.place t i a b e)

why_known : (rows : List (List (Option Size))) (result_variables : List ResultVariable) (o : Option NoSize) (t i : ℕ) (b : Size) → placed rows t i ≡ Some b
    → placed (put_why rows result_variables o) t i ≡ Some b
why_known rows result_variables None t i b e = e
why_known rows result_variables (Some why) t i b e = result_variables_known rows result_variables (Unsized why) t i b e

whys_known : (rows : List (List (Option Size))) (cs : List Candidate) (xs : List ComponentAttempt) (t i : ℕ) (b : Size) → placed rows t i ≡ Some b
    → placed (put_whys rows cs xs) t i ≡ Some b
whys_known rows [] xs t i b e = e
whys_known rows (c ∷ cs) [] t i b e = e
whys_known rows (c ∷ cs) (x ∷ xs) t i b e =
    whys_known (put_why rows (result_variables_in c) (why_of c x)) cs xs t i b (why_known rows (result_variables_in c) (why_of c x) t i b e)

-- the rows keep their lengths when values are written
result_variables_long : {A : Type 0} (rows : List (List (Option A))) (result_variables : List ResultVariable) (a : A)
    → map (λ (row : List (Option A)). length row) (put_result_variables rows result_variables a) ≡ map (λ (row : List (Option A)). length row) rows
result_variables_long rows [] a = refl
result_variables_long rows (m ∷ result_variables) a = result_variables_long (put_place rows m.rule m.place a) result_variables a ∙ place_long rows m.rule m.place a

-- the rows keep their lengths when reasons are written
pub whys_long : (rows : List (List (Option Size))) (cs : List Candidate) (xs : List ComponentAttempt)
    → map (λ (row : List (Option Size)). length row) (put_whys rows cs xs) ≡ map (λ (row : List (Option Size)). length row) rows
whys_long rows [] xs = refl
whys_long rows (c ∷ cs) [] = refl
whys_long rows (c ∷ cs) (x ∷ xs) = whys_long (put_why rows (result_variables_in c) (why_of c x)) cs xs ∙ one (why_of c x)
  where
    one : (o : Option NoSize) → map (λ (row : List (Option Size)). length row) (put_why rows (result_variables_in c) o) ≡ map (λ (row : List (Option Size)). length row) rows
    one None = refl
    one (Some why) = result_variables_long rows (result_variables_in c) (Unsized why)

-- the element at a place was written there, at one of these places, which had none
record Given {A : Type 0} (rows : List (List (Option A))) (result_variables : List ResultVariable) (t i : ℕ) (a b : A) : Type 0 where
  pub member : has_key result_variables t i ≡ true
  pub none : placed rows t i ≡ None
  pub value : b ≡ a

result_variables_cases : {A : Type 0} (rows : List (List (Option A))) (result_variables : List ResultVariable) (a : A) (t i : ℕ) (b : A) → placed (put_result_variables rows result_variables a) t i ≡ Some b
    → (placed rows t i ≡ Some b) ⊎ Given rows result_variables t i a b
result_variables_cases rows [] a t i b e = inl e
result_variables_cases {A} rows (m ∷ result_variables) a t i b e = go (result_variables_cases (put_place rows m.rule m.place a) result_variables a t i b e)
  where
    later : (v w : Bool) → w ≡ true → (v || w) ≡ true
    later true w h = refl
    later false w h = h

    none_before : (o : Option A) → placed rows t i ≡ o → placed (put_place rows m.rule m.place a) t i ≡ None → placed rows t i ≡ None
    none_before None q h = q
    none_before (Some c) q h = absurd (none_some c (sym h ∙ place_known rows m.rule m.place t i a c q))

    first : (placed rows t i ≡ Some b) ⊎ Wrote rows m.rule m.place t i a b → (placed rows t i ≡ Some b) ⊎ Given rows (m ∷ result_variables) t i a b
    first (inl h) = inl h
    first (inr w) = inr record {
      member = or_left ((m.rule == t) && (m.place == i)) (has_key result_variables t i)
          (and_from (m.rule == t) (m.place == i) (subst (λ (n : ℕ). (m.rule == n) ≡ true) w.rule (same_number m.rule))
          (subst (λ (n : ℕ). (m.place == n) ≡ true) w.place (same_number m.place)));
      none = w.none;
      value = w.value;
    }

    go : (placed (put_place rows m.rule m.place a) t i ≡ Some b) ⊎ Given (put_place rows m.rule m.place a) result_variables t i a b
        → (placed rows t i ≡ Some b) ⊎ Given rows (m ∷ result_variables) t i a b
    go (inl h) = first (place_cases rows m.rule m.place t i a b h)
    go (inr g) = inr record {
      member = later ((m.rule == t) && (m.place == i)) (has_key result_variables t i) g.member;
      none = none_before (placed rows t i) refl g.none;
      value = g.value;
    }

module _ (p : Program) (pivots : ℕ) (tab : Table) (derivations : List Derivation) (derived : AreDerivedBounds p tab derivations) (all : List Candidate)
    (found : AreCandidatesOf p pivots all) where
  abbrev q : Searches
  q = searches_of_program p pivots

  -- the elements are right entries of sizes, and each size that is known has its entry
  pub record IsFair (rows : List (List (Option Size))) : Type 0 where
    pub said : (t i : ℕ) (x : Size) → placed rows t (suc i) ≡ Some x → IsSizeOf q p (derivations_of derivations) t (suc i) x
    pub known : (t i : ℕ) (b : Bound) → bounds_of p (derivations_of derivations) t (suc i) ≡ Some b → placed rows t (suc i) ≡ Some (Sized b)

  table_fair : IsFair (said_table tab)
  table_fair = record {
    said = λ t i x e.
        let h = bound_by (placed (rows_of tab) t (suc i)) x (sym (said_at tab t (suc i)) ∙ e) in
        subst (λ (y : Size). IsSizeOf q p (derivations_of derivations) t (suc i) y) (sym h.2) (sym (derived.bounds t (suc i)) ∙ h.1);
    known = λ t i b e. said_at tab t (suc i) ∙ by_bound (placed (rows_of tab) t (suc i)) b (derived.bounds t (suc i) ∙ e);
  }

  one_fair : (rows : List (List (Option Size))) (c : Candidate) (x : ComponentAttempt) → IsOneOf (map result_variables_in all) (result_variables_in c)
      → IsAttempt p pivots (bounds_of p (derivations_of derivations)) c x → IsFair rows → IsFair (put_why rows (result_variables_in c) (why_of c x))
  one_fair rows c x listed attempt fair = go x attempt
    where
      same_why : (v w : NoSize) → Some v ≡ Some w → v ≡ w
      same_why v w e = cc

      lacking : (x : ComponentAttempt) → LacksSize p pivots (bounds_of p (derivations_of derivations)) c x → (o : Option NoSize) → why_of c x ≡ o
          → IsFair (put_why rows (result_variables_in c) o)
      lacking x h None e = fair
      lacking x h (Some why) e = record {
        said = λ t i y k. case t i y (result_variables_cases rows (result_variables_in c) (Unsized why) t (suc i) y k);
        known = λ t i b k. result_variables_known rows (result_variables_in c) (Unsized why) t (suc i) (Sized b) (fair.known t i b k);
      }
        where
          missing : (t i : ℕ) (o : Option Bound) → bounds_of p (derivations_of derivations) t (suc i) ≡ o → placed rows t (suc i) ≡ None
              → bounds_of p (derivations_of derivations) t (suc i) ≡ None
          missing t i None k n = k
          missing t i (Some b) k n = absurd (none_some (Sized b) (sym n ∙ fair.known t i b k))

          case : (t i : ℕ) (y : Size) → (placed rows t (suc i) ≡ Some y) ⊎ Given rows (result_variables_in c) t (suc i) (Unsized why) y
              → IsSizeOf q p (derivations_of derivations) t (suc i) y
          case t i y (inl k) = fair.said t i y k
          case t i y (inr g) =
              subst (λ (s : Size). IsSizeOf q p (derivations_of derivations) t (suc i) s) (sym g.value) record {
                missing = missing t i (bounds_of p (derivations_of derivations) t (suc i)) refl g.none;
                target = SizesOf (result_variables_in c);
                asked = (map result_variables_in all, are_components p pivots all found, listed, g.member);
                is_answer = record {
                  answer = searches.Unsized why;
                  answered = subst (λ (w : NoSize). q.Sizes (bounds_of p (derivations_of derivations)) (result_variables_in c) (searches.Unsized w))
                      (same_why h.why why (sym h.says ∙ e)) h.answered;
                  is_answer = refl;
                };
              }

      go : (x : ComponentAttempt) → IsAttempt p pivots (bounds_of p (derivations_of derivations)) c x → IsFair (put_why rows (result_variables_in c) (why_of c x))
      go attempts.Known h = fair
      go attempts.Found h = fair
      go attempts.HasNoSideBound h = lacking attempts.HasNoSideBound h (why_of c attempts.HasNoSideBound) refl
      go (attempts.Failed a) h = lacking (attempts.Failed a) h (why_of c (attempts.Failed a)) refl

  all_fair : (rows : List (List (Option Size))) (cs : List Candidate) (xs : List ComponentAttempt)
      → ((c : List ResultVariable) → IsOneOf (map result_variables_in cs) c → IsOneOf (map result_variables_in all) c)
      → AreAttempts p pivots (bounds_of p (derivations_of derivations)) cs xs → IsFair rows → IsFair (put_whys rows cs xs)
  all_fair rows [] [] among h fair = fair
  all_fair rows [] (x ∷ xs) among h fair = absurd h
  all_fair rows (c ∷ cs) [] among h fair = absurd h
  all_fair rows (c ∷ cs) (x ∷ xs) among h fair =
      all_fair (put_why rows (result_variables_in c) (why_of c x)) cs xs (λ d m. among d (inr m)) h.1
      (one_fair rows c x (among (result_variables_in c) (inl refl)) h.0 fair)

  -- all entries are right after the last reason is written
  pub said_fair : (xs : List ComponentAttempt) → AreAttempts p pivots (bounds_of p (derivations_of derivations)) all xs → IsFair (put_whys (said_table tab) all xs)
  said_fair xs h = all_fair (said_table tab) all xs (λ c m. m) h table_fair

  -- after the reason of a component is written, each of its members without a size has an entry
  here_there : (rows : List (List (Option Size))) (result_variables : List ResultVariable) (a : Size) (t i : ℕ) → has_key result_variables t i ≡ true → 1 ≤ i → i ≤ length (row_at rows t)
      → (x : Size) × (placed (put_result_variables rows result_variables a) t i ≡ Some x)
  here_there rows [] a t i m l k = absurd (no_is_not_yes false refl m)
  here_there rows (s ∷ result_variables) a t i m l k = go ((s.rule == t) && (s.place == i)) refl m (λ n. here_there (put_place rows s.rule s.place a) result_variables a t i n l within)
    where
      within : i ≤ length (row_at (put_place rows s.rule s.place a) t)
      within = subst (λ (n : ℕ). i ≤ n) (sym (row_long (put_place rows s.rule s.place a) rows t (place_long rows s.rule s.place a))) k

      stands : (o : Option Size) → placed rows t i ≡ o → s.rule ≡ t → s.place ≡ i → (x : Size) × (placed (put_result_variables rows (s ∷ result_variables) a) t i ≡ Some x)
      stands (Some b) q e f = (b, result_variables_known rows (s ∷ result_variables) a t i b q)
      stands None q e f = (
        a,
        result_variables_known (put_place rows s.rule s.place a) result_variables a t i a
            (ap (λ (n : ℕ). placed (put_place rows n s.place a) t i) e ∙ (ap (λ (n : ℕ). placed (put_place rows t n a) t i) f ∙ place_here rows t i a l k q)),
      )

      go : (v : Bool) → ((s.rule == t) && (s.place == i)) ≡ v → (v || has_key result_variables t i) ≡ true
          → (has_key result_variables t i ≡ true → (x : Size) × (placed (put_result_variables rows (s ∷ result_variables) a) t i ≡ Some x))
          → (x : Size) × (placed (put_result_variables rows (s ∷ result_variables) a) t i ≡ Some x)
      go true e w later =
          let both = and_parts (s.rule == t) (s.place == i) e in
          stands (placed rows t i) refl (same_number-sound s.rule t both.0) (same_number-sound s.place i both.1)
      go false e w later = later w

  -- if no size was found, each member without a size has an entry after reasons are written
  pub listed_there : (rows : List (List (Option Size))) (cs : List Candidate) (xs : List ComponentAttempt) (t i : ℕ) → AreAttempts p pivots (bounds_of p (derivations_of derivations)) cs xs
      → list_any is_sized xs ≡ false → IsCovered (map result_variables_in cs) t i → bounds_of p (derivations_of derivations) t i ≡ None → 1 ≤ i → i ≤ length (row_at rows t)
      → (x : Size) × (placed (put_whys rows cs xs) t i ≡ Some x)
  listed_there rows [] xs t i h n listed none l k = absurd listed
  listed_there rows (c ∷ cs) [] t i h n listed none l k = absurd h
  listed_there rows (c ∷ cs) (x ∷ xs) t i h n listed none l k =
      go listed (λ m f q. listed_there (put_why rows (result_variables_in c) (why_of c x)) cs xs t i h.1 f m none l q)
    where
      parts : (v w : Bool) → (v || w) ≡ false → (v ≡ false) × (w ≡ false)
      parts true w e = absurd (no_is_not_yes true e refl)
      parts false w e = (refl, e)

      both : (is_sized x ≡ false) × (list_any is_sized xs ≡ false)
      both = parts (is_sized x) (list_any is_sized xs) n

      says : (x : ComponentAttempt) → IsAttempt p pivots (bounds_of p (derivations_of derivations)) c x → is_sized x ≡ false → are_open (bounds_of p (derivations_of derivations)) (result_variables_in c) ≡ true
          → (why : NoSize) × (why_of c x ≡ Some why)
      says attempts.Known a s u = absurd (no_is_not_yes (are_open (bounds_of p (derivations_of derivations)) (result_variables_in c)) a u)
      says attempts.Found a s u = absurd (no_is_not_yes true s refl)
      says attempts.HasNoSideBound a s u = (a.why, a.says)
      says (attempts.Failed y) a s u = (a.why, a.says)

      long : length (row_at (put_why rows (result_variables_in c) (why_of c x)) t) ≡ length (row_at rows t)
      long = row_long (put_why rows (result_variables_in c) (why_of c x)) rows t (by (why_of c x))
        where
          by : (o : Option NoSize) → map (λ (row : List (Option Size)). length row) (put_why rows (result_variables_in c) o) ≡ map (λ (row : List (Option Size)). length row) rows
          by None = refl
          by (Some why) = result_variables_long rows (result_variables_in c) (Unsized why)

      go : (has_key (result_variables_in c) t i ≡ true) ⊎ IsCovered (map result_variables_in cs) t i
          → (IsCovered (map result_variables_in cs) t i → list_any is_sized xs ≡ false → i ≤ length (row_at (put_why rows (result_variables_in c) (why_of c x)) t)
          → (y : Size) × (placed (put_whys (put_why rows (result_variables_in c) (why_of c x)) cs xs) t i ≡ Some y))
          → (y : Size) × (placed (put_whys rows (c ∷ cs) (x ∷ xs)) t i ≡ Some y)
      go (inl m) later =
          let w = says x h.0 both.0 (open_by (bounds_of p (derivations_of derivations)) (result_variables_in c) t i m none) in
          let r = here_there rows (result_variables_in c) (Unsized w.0) t i m l k in (
            r.0,
            whys_known (put_why rows (result_variables_in c) (why_of c x)) cs xs t i r.0
                (subst (λ (o : Option NoSize). placed (put_why rows (result_variables_in c) o) t i ≡ Some r.0) (sym w.1) r.1),
          )
      go (inr m) later = later m both.1 (subst (λ (n : ℕ). i ≤ n) (sym long) k)
