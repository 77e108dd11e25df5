-- The last derivations, with the entries of times and sizes, are the program's analysis.
use Rattle.std.proofs.Common.{◌≡◌, ℕ, suc, ◌+◌, true, false, List, [], ◌∷◌, length, map, Vec, Option, Some, None, refl, sym}
use Rattle.std.proofs.Common.{◌∙◌, ap, subst, arith}
use Rattle.std.specs.List.{list_any, remove}
use Rattle.std.specs.Option.{option_map}
use Rattle.std.specs.declared.alloc.Global.{Global}
use Rattle.std.proofs.lemmas.List.{length-map}
use Rattle.model.specs.Bounds.{Bound}
use Rattle.model.specs.Programs.{Program, Rule, arity_of}
use Rattle.model.proofs.Membership.{no_is_not_yes}
use Rattle.bound_expr.specs.Views.{bound_of}
use Rattle.outcome.specs.Reports.{Size}
use Rattle.outcome.specs.Views.{time_of, cost_of, size_of, report_of}
use Rattle.outcome.specs.declared.entry.SizeEntry.{SizeEntry}
use Rattle.outcome.specs.declared.outcome_of.Outcome.{Outcome}
use Rattle.cert_types.specs.cert_program.Setting.{setting_of}
use Rattle.bound_fixpoint.specs.Answers.{are_open}
use Rattle.bound_fixpoint.specs.Derivations.{bounds_of}
use Rattle.bound_fixpoint.specs.Keys.{Bounds}
use Rattle.bound_fixpoint.specs.Rounds.{IsLast}
use Rattle.bound_derivations.specs.declared.derivation.Derivation.{Derivation}
use Rattle.bound_derivations.specs.Books.{AreDerivedBounds}
use Rattle.bound_derivations.specs.Views.{derivations_of}
use Rattle.size_bounds.specs.declared.table.Table.{Table}
use Rattle.time_bounds.specs.declared.candidates.Candidate.{Candidate}
use Rattle.time_bounds.specs.declared.sizing.ComponentAttempt.{ComponentAttempt}
use Rattle.time_bounds.specs.declared.sizing.ComponentAttempt.TheVariants as attempts
use Rattle.time_bounds.specs.ProgramSearches.{searches_of_program}
use Rattle.time_bounds.specs.Totals.{spendings_by, total_of}
use Rattle.time_bounds.specs.Analysis.{IsSizeOf, AreSizeRowsOf, AreCostsOver}
use Rattle.time_bounds.specs.Attempts.{IsAttempt, AreAttempts, is_sized}
use Rattle.time_bounds.specs.Candidates.{result_variables_in, AreCandidatesOf}
use Rattle.time_bounds.specs.SizeSaid.{placed, said_table, put_whys}
use Rattle.time_bounds.specs.EarlierAnswers.{HasGrown, WasAttempt, WereAttempts}
use Rattle.time_bounds.specs.TimesSaid.{AreTimesOver}
use Rattle.time_bounds.proofs.AnalysisOfDerivations.{IsAnalysisWith, analysis_of}
use Rattle.time_bounds.proofs.SaidSizes.{rows_said, said_right, said_places, many}
use Rattle.model.proofs.Cases.{none_some}

-- if bounds grow to others, and these to the first, they are the same
same_between : (b c : Bounds) → HasGrown b c → HasGrown c b → c ≡ b
same_between b c up down = λ j t i. go t i (b t i) refl j
  where
    missing : (t i : ℕ) → b t i ≡ None → (o : Option Bound) → c t i ≡ o → c t i ≡ b t i
    missing t i e None k = k ∙ sym e
    missing t i e (Some x) k = absurd (none_some x (sym e ∙ down.each t i x k))

    go : (t i : ℕ) (o : Option Bound) → b t i ≡ o → c t i ≡ b t i
    go t i (Some x) e = up.each t i x e ∙ sym e
    go t i None e = missing t i e (c t i) refl

-- attempts at components between the same bounds are attempts over them
pub at_last : (p : Program) (pivots : ℕ) (b : Bounds) (cs : List Candidate) (xs : List ComponentAttempt) → WereAttempts p pivots b b cs xs
    → length xs ≡ length cs → AreAttempts p pivots b cs xs
at_last p pivots b [] [] h long = tt
at_last p pivots b [] (x ∷ xs) h long = absurd h
at_last p pivots b (c ∷ cs) [] h long = absurd (omega (arith, long))
at_last p pivots b (c ∷ cs) (x ∷ xs) h long = (
  subst (λ (d : Bounds). IsAttempt p pivots d c x) (same_between b h.0.between h.0.after h.0.before) h.0.attempt,
  at_last p pivots b cs xs h.1 (omega (arith, long)),
)

-- no size was found by these attempts
pub none_sized : (p : Program) (pivots : ℕ) (b : Bounds) (cs : List Candidate) (xs : List ComponentAttempt) → WereAttempts p pivots b b cs xs
    → length xs ≡ length cs → list_any is_sized xs ≡ false
none_sized p pivots b [] [] h long = refl
none_sized p pivots b [] (x ∷ xs) h long = absurd h
none_sized p pivots b (c ∷ cs) [] h long = absurd (omega (arith, long))
none_sized p pivots b (c ∷ cs) (x ∷ xs) h long =
    one x h.0 (none_sized p pivots b cs xs h.1 (omega (arith, long)))
  where
    one : (x : ComponentAttempt) → WasAttempt p pivots b b c x → list_any is_sized xs ≡ false → list_any is_sized (x ∷ xs) ≡ false
    one attempts.Known was rest = rest
    one attempts.Found was rest =
        let same = same_between b was.between was.after was.before in
        absurd (no_is_not_yes (are_open b (result_variables_in c)) (was.found refl)
        (subst (λ (d : Bounds). are_open d (result_variables_in c) ≡ true) same was.attempt))
    one attempts.HasNoSideBound was rest = rest
    one (attempts.Failed a) was rest = rest

-- the lengths of the rows of entries
rows_lengths : (rows : List (Vec SizeEntry Global))
    → map (λ (xs : List Size). length xs) (map (λ places. map size_of places.items) rows)
    ≡ map (λ (row : List (Option Size)). length row) (map (λ row. map (λ e. Some (size_of e)) row.items) rows)
rows_lengths [] = refl
rows_lengths (row ∷ rows) =
    ap (λ (n : ℕ). n ∷ map (λ (xs : List Size). length xs) (map (λ places. map size_of places.items) rows))
    (length-map row.items size_of ∙ sym (length-map row.items (λ e. Some (size_of e))))
    ∙ ap (λ (ns : List ℕ). length (map (λ e. Some (size_of e)) row.items) ∷ ns) (rows_lengths rows)

module _ (p : Program) (pivots : ℕ) (cs : List Candidate) (tab : Table) (derivations : List Derivation) (xs : List ComponentAttempt) (o : Outcome)
    (derived : AreDerivedBounds p tab derivations) (found : AreCandidatesOf p pivots cs)
    (last : IsLast (searches_of_program p pivots) (setting_of p) (derivations_of derivations))
    (tried : AreAttempts p pivots (bounds_of p (derivations_of derivations)) cs xs) (nothing : list_any is_sized xs ≡ false) where
  -- the rows of entries after that of the virtual entry are the program's analysis
  pub whole_analysis : (first : Vec SizeEntry Global) (rows : List (Vec SizeEntry Global))
      → map (λ row. map (λ e. Some (size_of e)) row.items) (first ∷ rows) ≡ put_whys (said_table tab) cs xs → o.sizes.items ≡ rows
      → length o.times.items ≡ length p.rules
      → AreTimesOver (searches_of_program p pivots) p (bounds_of p (derivations_of derivations)) 1 (map (time_of o.gaps.items) o.times.items)
      → length o.costs.items ≡ length p.rules
      → AreCostsOver p pivots (bounds_of p (derivations_of derivations)) 1 (map (option_map cost_of) o.costs.items)
      → option_map bound_of o.total ≡ total_of (spendings_by o.times.items o.costs.items)
      → IsAnalysisWith p pivots (derivations_of derivations) (report_of o)
  whole_analysis first rows told same long said each costs total =
      analysis_of p pivots (derivations_of derivations) o last long said each costs total
      (ap (λ (rs : List (Vec SizeEntry Global)). map (λ (ys : List Size). length ys) (map (λ places. map size_of places.items) rs)) same
      ∙ (rows_lengths rows ∙ lengths))
      (subst (λ (rs : List (Vec SizeEntry Global)). AreSizeRowsOf (searches_of_program p pivots) p (derivations_of derivations) 1
      (map (λ places. map size_of places.items) rs)) (sym same)
      (rows_said (searches_of_program p pivots) p (derivations_of derivations) 1 rows (λ t i x e.
      subst (λ (n : ℕ). IsSizeOf (searches_of_program p pivots) p (derivations_of derivations) n (suc i) x) (let z : suc t ≡ 1 + t = omega arith in z)
      (said_right p pivots tab derivations derived cs found last.made xs tried nothing (suc t) i x
      (ap (λ (rs : List (List (Option Size))). placed rs (suc t) (suc i)) (sym told) ∙ e)))))
    where
      lengths : map (λ (row : List (Option Size)). length row) (map (λ row. map (λ e. Some (size_of e)) row.items) rows)
          ≡ map (λ (r : Rule). arity_of p r.target) p.rules
      lengths =
          let all : length (map (λ e. Some (size_of e)) first.items)
          ∷ map (λ (row : List (Option Size)). length row) (map (λ row. map (λ e. Some (size_of e)) row.items) rows)
          ≡ arity_of p p.start ∷ map (λ (r : Rule). arity_of p r.target) p.rules =
          ap (λ (rs : List (List (Option Size))). map (λ (row : List (Option Size)). length row) rs) told
          ∙ said_places p pivots tab derivations derived cs found last.made xs tried nothing in
          cc

  -- all rows of entries, with the first one removed, are the program's analysis
  pub removed_analysis : (sizes : List (Vec SizeEntry Global))
      → map (λ row. map (λ e. Some (size_of e)) row.items) sizes ≡ put_whys (said_table tab) cs xs → o.sizes.items ≡ remove sizes 0
      → length o.times.items ≡ length p.rules
      → AreTimesOver (searches_of_program p pivots) p (bounds_of p (derivations_of derivations)) 1 (map (time_of o.gaps.items) o.times.items)
      → length o.costs.items ≡ length p.rules
      → AreCostsOver p pivots (bounds_of p (derivations_of derivations)) 1 (map (option_map cost_of) o.costs.items)
      → option_map bound_of o.total ≡ total_of (spendings_by o.times.items o.costs.items)
      → IsAnalysisWith p pivots (derivations_of derivations) (report_of o)
  removed_analysis [] told same long said each costs total = absurd (no_rows told)
    where
      no_rows : [] ≡ put_whys (said_table tab) cs xs → ⊥
      no_rows e =
          let few = many p pivots tab derivations derived cs found last.made xs tried nothing in
          let none = ap (λ (rs : List (List (Option Size))). length rs) e in
          omega (arith, few, none)
  removed_analysis (first ∷ rows) told same long said each costs total =
      whole_analysis first rows told same long said each costs total
