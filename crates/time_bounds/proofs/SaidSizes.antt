-- Each place after a rule has an entry, and all entries are right.
use Rattle.std.proofs.Common.{◌≡◌, ℕ, zero, suc, ◌+◌, ◌<◌, ◌≤◌, false, List, [], ◌∷◌, length, map, Vec, cond, Bool, true}
use Rattle.std.proofs.Common.{Option, Some, None, refl, sym, ◌∙◌, ap, subst, arith}
use Rattle.std.specs.Prelude.{nat_lt}
use Rattle.std.specs.List.{All, list_any}
use Rattle.std.specs.declared.alloc.Global.{Global}
use Rattle.std.proofs.lemmas.List.{length-map}
use Rattle.std.proofs.lemmas.List.Elements.{All-cons, All-nil}
use Rattle.model.specs.Programs.{Program, Rule, arity_of}
use Rattle.model.specs.Bounds.{Bound, Input}
use Rattle.model.specs.Paths.{target_in}
use Rattle.outcome.specs.Reports.{Size, Sized}
use Rattle.outcome.specs.Views.{size_of}
use Rattle.outcome.specs.declared.entry.SizeEntry.{SizeEntry}
use Rattle.outcome.specs.declared.entry.Stored.{Stored}
use Rattle.cert_types.specs.cert_rules.AcceptsPlain.{IsRule}
use Rattle.cert_types.specs.cert_program.Setting.{setting_of}
use Rattle.bound_fixpoint.specs.Keys.{IsPlace}
use Rattle.bound_fixpoint.specs.Components.{AreComponentsOf}
use Rattle.bound_fixpoint.specs.Derivations as plain
use Rattle.bound_fixpoint.specs.Derivations.{bounds_of, bound_found, first_of}
use Rattle.bound_fixpoint.specs.Rounds.{IsMade}
use Rattle.bound_fixpoint.specs.Searches.{Searches}
use Rattle.bound_fixpoint.proofs.DeadPlaces.{missing_live}
use Rattle.bound_derivations.specs.declared.derivation.Derivation.{Derivation}
use Rattle.bound_derivations.specs.Books.{AreDerivedBounds}
use Rattle.bound_derivations.specs.ByKey.{rows_of}
use Rattle.bound_derivations.specs.Views.{derivations_of}
use Rattle.bound_derivations.proofs.IndexStays.{arity_at, long_at, place_within}
use Rattle.size_bounds.specs.declared.table.Table.{Table}
use Rattle.size_bounds.specs.Tables.{entry_at, row_at}
use Rattle.time_bounds.specs.declared.candidates.Candidate.{Candidate}
use Rattle.time_bounds.specs.declared.sizing.ComponentAttempt.{ComponentAttempt}
use Rattle.time_bounds.specs.Analysis.{IsSizeOf, AreSizesOf, AreSizeRowsOf}
use Rattle.time_bounds.specs.ProgramSearches.{searches_of_program}
use Rattle.time_bounds.specs.Candidates.{result_variables_in, AreCandidatesOf}
use Rattle.time_bounds.specs.Attempts.{AreAttempts, is_sized}
use Rattle.time_bounds.specs.SizeSaid.{placed, said_stored, said_table, put_whys, AreThere}
use Rattle.time_bounds.proofs.CandidateComponents.{live_components}
use Rattle.time_bounds.proofs.PlacedLaws.{row_long}
use Rattle.time_bounds.proofs.RuleNumbers.{rule_there}
use Rattle.time_bounds.proofs.SizeReasons.{said_fair, listed_there, whys_long}
use Rattle.model.proofs.Cases.{none_some}

-- a row has an entry at each position, if each position is filled
row_there : (row : List (Option Size)) → ((i : ℕ) → i < length row → (x : Size) × (entry_at row i ≡ Some x)) → AreThere row
row_there [] f = tt
row_there (Some x ∷ row) f = row_there row (λ i l. f (suc i) (omega (arith, l)))
row_there (None ∷ row) f = let h = f 0 (omega arith) in absurd (none_some h.0 h.1)

rows_there : (rows : List (List (Option Size)))
    → ((t i : ℕ) → t < length rows → 1 ≤ i → i ≤ length (row_at rows t) → (x : Size) × (placed rows t i ≡ Some x)) → All AreThere rows
rows_there [] f = All-nil AreThere
rows_there (row ∷ rows) f =
    All-cons AreThere row rows (row_there row (λ i l. f 0 (suc i) (omega arith) (omega arith) (omega (arith, l))))
    (rows_there rows (λ t i l m n. f (suc t) i (omega (arith, l)) m n))

said_long : (rows : List (List (Option Stored)))
    → map (λ (row : List (Option Size)). length row) (map (λ row. map said_stored row) rows) ≡ map (λ (row : List (Option Stored)). length row) rows
said_long [] = refl
said_long (row ∷ rows) = ap (λ (n : ℕ). n ∷ map (λ (r : List (Option Size)). length r) (map (λ row. map said_stored row) rows)) (length-map row said_stored)
    ∙ ap (λ (ns : List ℕ). length row ∷ ns) (said_long rows)

-- the entries that exist, row by row
row_said : (q : Searches) (p : Program) (fs : List plain.Derivation) (t i : ℕ) (es : List SizeEntry)
    → ((j : ℕ) (x : Size) → entry_at (map (λ e. Some (size_of e)) es) j ≡ Some x → IsSizeOf q p fs t (i + j) x)
    → AreSizesOf q p fs t i (map size_of es)
row_said q p fs t i [] f = tt
row_said q p fs t i (e ∷ es) f = (
  subst (λ (n : ℕ). IsSizeOf q p fs t n (size_of e)) (let h : i + 0 ≡ i = omega arith in h) (f 0 (size_of e) refl),
  row_said q p fs t (suc i) es
      (λ j x k. subst (λ (n : ℕ). IsSizeOf q p fs t n x) (let h : i + suc j ≡ suc i + j = omega arith in h) (f (suc j) x k)),
)

-- rows of which each entry is right for its place are right rule by rule
pub rows_said : (q : Searches) (p : Program) (fs : List plain.Derivation) (k : ℕ) (rows : List (Vec SizeEntry Global))
    → ((t i : ℕ) (x : Size) → placed (map (λ row. map (λ e. Some (size_of e)) row.items) rows) t (suc i) ≡ Some x
    → IsSizeOf q p fs (k + t) (suc i) x)
    → AreSizeRowsOf q p fs k (map (λ places. map size_of places.items) rows)
rows_said q p fs k [] f = tt
rows_said q p fs k (row ∷ rows) f = (
  row_said q p fs k 1 row.items
      (λ j x e. subst (λ (n : ℕ). IsSizeOf q p fs n (1 + j) x) (let h : k + 0 ≡ k = omega arith in h)
      (subst (λ (n : ℕ). IsSizeOf q p fs (k + 0) n x) (let h : suc j ≡ 1 + j = omega arith in h) (f 0 j x e))),
  rows_said q p fs (suc k) rows
      (λ t i x e. subst (λ (n : ℕ). IsSizeOf q p fs n (suc i) x) (let h : k + suc t ≡ suc k + t = omega arith in h) (f (suc t) i x e)),
)

module _ (p : Program) (pivots : ℕ) (tab : Table) (derivations : List Derivation) (derived : AreDerivedBounds p tab derivations) (all : List Candidate)
    (found : AreCandidatesOf p pivots all) (made : IsMade (searches_of_program p pivots) (setting_of p) (derivations_of derivations)) (xs : List ComponentAttempt)
    (attempts : AreAttempts p pivots (bounds_of p (derivations_of derivations)) all xs) (nothing : list_any is_sized xs ≡ false) where
  abbrev said : List (List (Option Size))
  said = put_whys (said_table tab) all xs

  lengths : map (λ (row : List (Option Size)). length row) said ≡ map (λ (row : List (Option Stored)). length row) (rows_of tab)
  lengths = whys_long (said_table tab) all xs ∙ said_long (rows_of tab)

  long : (t : ℕ) → length (row_at said t) ≡ length (row_at (rows_of tab) t)
  long t = row_long said (rows_of tab) t lengths

  comps : AreComponentsOf (searches_of_program p pivots) p (map result_variables_in all)
  comps = live_components p pivots all found

  at_rule : (t i : ℕ) → IsRule p t → IsPlace p t (suc i) → (x : Size) × (placed said t (suc i) ≡ Some x)
  at_rule t i rule place = go (bounds_of p (derivations_of derivations) t (suc i)) refl
    where
      go : (o : Option Bound) → bounds_of p (derivations_of derivations) t (suc i) ≡ o → (x : Size) × (placed said t (suc i) ≡ Some x)
      go (Some b) e = (Sized b, (said_fair p pivots tab derivations derived all found xs attempts).known t i b e)
      go None e =
          listed_there p pivots tab derivations derived all found (said_table tab) all xs t (suc i) attempts nothing
          ((comps.live t (suc i)).1 (
            rule,
            missing_live (searches_of_program p pivots) (setting_of p) (map result_variables_in all) comps (derivations_of derivations) made t (suc i) rule place e,
            place,
          )) e place.least
          (subst (λ (n : ℕ). suc i ≤ n) (sym (row_long (said_table tab) (rows_of tab) t (said_long (rows_of tab))))
          (place_within p tab t (suc i) derived.keys rule place))

  at_start : (i : ℕ) → i < arity_of p p.start → (x : Size) × (placed said 0 (suc i) ≡ Some x)
  at_start i low = (
    Sized (Input i),
    (said_fair p pivots tab derivations derived all found xs attempts).known 0 i (Input i)
        (ap (λ (o : Option Bound). first_of o (bound_found (derivations_of derivations) 0 (suc i))) (inside (nat_lt i (arity_of p p.start)) refl)),
  )
    where
      inside : (v : Bool) → nat_lt i (arity_of p p.start) ≡ v → cond v (Some (Input i)) None ≡ Some (Input i)
      inside true e = refl
      inside false e = absurd (let f : ⊥ = grind (arith, low, e) in f)

  -- there is a row of entries for the virtual entry and for each rule
  pub many : length (put_whys (said_table tab) all xs) ≡ suc (length p.rules)
  many =
      sym (length-map said (λ (row : List (Option Size)). length row))
      ∙ (ap (λ (ns : List ℕ). length ns) (lengths ∙ derived.keys.rows)
      ∙ ap (λ (n : ℕ). suc n) (length-map p.rules (λ (r : Rule). arity_of p r.target)))

  each_there : (t i : ℕ) → t < length said → 1 ≤ i → i ≤ length (row_at said t) → (x : Size) × (placed said t i ≡ Some x)
  each_there t zero l least most = absurd (omega (arith, least))
  each_there zero (suc i) l least most =
      let within : length (row_at said 0) ≡ arity_of p p.start = long 0 ∙ long_at (rows_of tab) _ 0 derived.keys.rows in
      at_start i (omega (arith, within, most))
  each_there (suc t) (suc i) l least most =
      let rule = rule_there p t (omega (arith, l, many)) in
      at_rule (suc t) i rule record {
        symbol = rule.rule.target;
        target = ap target_in rule.numbered;
        least = least;
        last =
            subst (λ (n : ℕ). suc i ≤ n)
            (long (suc t) ∙ (long_at (rows_of tab) _ (suc t) derived.keys.rows ∙ arity_at p p.rules t rule.rule rule.numbered)) most;
      }

  -- each place has an entry
  pub all_there : All AreThere said
  all_there = rows_there said each_there

  -- the entry at a place is that of its size
  pub said_right : (t i : ℕ) (x : Size) → placed said t (suc i) ≡ Some x
      → IsSizeOf (searches_of_program p pivots) p (derivations_of derivations) t (suc i) x
  said_right = (said_fair p pivots tab derivations derived all found xs attempts).said

  -- there are as many entries as places
  pub said_places : map (λ (row : List (Option Size)). length row) said ≡ arity_of p p.start ∷ map (λ (r : Rule). arity_of p r.target) p.rules
  said_places = lengths ∙ derived.keys.rows
