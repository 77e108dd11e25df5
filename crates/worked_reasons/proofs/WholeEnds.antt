-- The ends of sequences of integers, followed by computation: a dual or a solution; at these no limit is exceeded.
use Rattle.std.proofs.Common.{◌≡◌, ◌≢◌, inl, inr, ℕ, zero, suc, ◌<◌, ◌≤◌, ◌==◌, ◌&&◌, ◌||◌, not, Bool, true, false}
use Rattle.std.proofs.Common.{List, [], ◌∷◌, length, Option, Some, None, refl, sym, ◌∙◌, ap, subst, arith}
use Rattle.std.specs.Prelude.{ℤ, pos, ◌*ℤ◌, unsigned_abs, nat_lt, slice_get, slice_index}
use Rattle.std.specs.Int.{◌∣◌}
use Rattle.std.proofs.Math.Nat.{one-dvd, dvd_refl}
use Rattle.std.proofs.lemmas.Int.{ints}
use Rattle.std.proofs.lemmas.Bool.{ltb-true, not-true}
use Rattle.frac128.specs.declared.frac.Frac.{Frac}
use Rattle.frac128.proofs.LowestTerms.{whole_is_lowest}
use Rattle.model.proofs.Cases.{some_same}
use Rattle.model.proofs.Membership.{no_is_not_yes, same_number, same_number-sound, slice_get-below}
use Rattle.int_laws.specs.NormalForm.{is_zero}
use Rattle.int_laws.proofs.ZeroLaws.{is_zero-true}
use Rattle.its_model.specs.linear_forms.Causes.{Cause, range, budget, wide, scale}
use Rattle.its_model.specs.linear_forms.Forms.{at}
use Rattle.its_model.specs.linear_forms.Limits.{certificate_limit, point_limit}
use Rattle.its_model.specs.linear_forms.LinearProgram.{LinearProgram}
use Rattle.simplex_core.specs.Bland.{is_infeasible, entering, dual_of}
use Rattle.simplex_core.specs.Outcome.{IsBasicValue, EndsInfeasibly}
use Rattle.simplex_core.specs.Problem.{table_size, widest}
use Rattle.simplex_core.specs.Scaling.{AreOver, AreScaled, AreWithin}
use Rattle.simplex_core.specs.Search.{every, some}
use Rattle.simplex_core.specs.Sizes.{number_limit}
use Rattle.simplex_core.specs.Tableau.{Tableau, unknowns, cost_row}
use Rattle.simplex_core.specs.HitsLimit.{IsScaledSolution, IsScaledDual, HitsLimit}
use Rattle.simplex_core.proofs.Ends.{optimum-ends, infeasibility-ends}
use Rattle.simplex_core.proofs.OneAnswer.{optimal-stops, infeasible-stops, optimal-same, infeasible-same, ends-apart}
use Rattle.simplex_core.proofs.OneAnswer.{range-apart, budget-apart, optimal-last, infeasible-last}
use Rattle.simplex_core.proofs.OneWholeAnswer.{over-same, scaled-once}
use Rattle.simplex_core.proofs.Searches.{every-each, some-one}
use Rattle.simplex_core.proofs.WholeAnswers.{solution-given, dual-given}
use Rattle.worked_reasons.proofs.Runs.{passes_both, are_same, same-sound, tableau_after, IsWholeRun, is_whole_run, whole_run}
use Rattle.worked_reasons.proofs.Runs.{run_whole, run_comes, run_scale}

-- whether all numbers are below the limit, as fractions
abbrev pub are_low : List ℤ → Bool
are_low [] = true
are_low (z ∷ zs) = nat_lt (unsigned_abs z) number_limit && are_low zs

abbrev pub whole : (z : ℤ) → unsigned_abs z < number_limit → Frac
whole z low = record {
  num = z;
  den = pos 1;
  narrow = omega (arith, low);
  positive = omega (arith, ints);
  lowest = whole_is_lowest z;
}

abbrev wholes : (zs : List ℤ) → are_low zs ≡ true → List Frac
wholes [] h = []
wholes (z ∷ zs) h =
    let both = passes_both (nat_lt (unsigned_abs z) number_limit) (are_low zs) h in
    whole z (ltb-true (unsigned_abs z) number_limit both.0) ∷ wholes zs both.1

wholes-long : (zs : List ℤ) (h : are_low zs ≡ true) → length (wholes zs h) ≡ length zs
wholes-long [] h = refl
wholes-long (z ∷ zs) h =
    ap suc (wholes-long zs (passes_both (nat_lt (unsigned_abs z) number_limit) (are_low zs) h).1)

wholes-at : (zs : List ℤ) (h : are_low zs ≡ true) (j : ℕ) (f : Frac) → slice_get (wholes zs h) j ≡ Some f
    → (f.num ≡ at zs j) × (f.den ≡ pos 1)
wholes-at [] h j f e = absurd (let none : ⊥ = cc in none)
wholes-at (z ∷ zs) h zero f e =
    let same : whole z (ltb-true (unsigned_abs z) number_limit
    (passes_both (nat_lt (unsigned_abs z) number_limit) (are_low zs) h).0) ≡ f = some_same _ f e in
    (sym (ap (λ (g : Frac). g.num) same), sym (ap (λ (g : Frac). g.den) same))
wholes-at (z ∷ zs) h (suc j) f e =
    wholes-at zs (passes_both (nat_lt (unsigned_abs z) number_limit) (are_low zs) h).1 j f e

-- all these numbers are below the limit
low_at : (zs : List ℤ) → are_low zs ≡ true → (j : ℕ) → unsigned_abs (at zs j) < number_limit
low_at [] h j = zero_low
  where
    zero_low : unsigned_abs (pos 0) < number_limit
    zero_low = omega (arith, ints)
low_at (z ∷ zs) h zero =
    ltb-true (unsigned_abs z) number_limit (passes_both (nat_lt (unsigned_abs z) number_limit) (are_low zs) h).0
low_at (z ∷ zs) h (suc j) = low_at zs (passes_both (nat_lt (unsigned_abs z) number_limit) (are_low zs) h).1 j

-- the fractions are the numbers over 1
wholes_scaled : (zs : List ℤ) (h : are_low zs ≡ true) → AreScaled (wholes zs h) zs 1
wholes_scaled zs h = record {
  lengths = sym (wholes-long zs h);
  over = record {
    positive = omega arith;
    each = λ j f low e.
        let is = wholes-at zs h j f e in
        subst (λ (d : ℤ). at zs j *ℤ d ≡ f.num *ℤ pos 1) (sym is.1)
        (subst (λ (n : ℤ). at zs j *ℤ pos 1 ≡ n *ℤ pos 1) (sym is.0) refl);
  };
  least = record {
    positive = omega arith;
    common = record {
      each = λ j f low e.
          subst (λ (d : ℤ). unsigned_abs d ∣ 1) (sym (wholes-at zs h j f e).1) (dvd_refl 1);
    };
    least = λ k common. one-dvd k;
  };
}

-- the run ends as infeasible, with this dual
pub record IsDualRun (p : LinearProgram) (allowed k : ℕ) (zs : List ℤ) : Type 0 where
  pub run : IsWholeRun p allowed k
  pub infeasible : is_infeasible p (tableau_after p k) ≡ true
  pub long : length zs ≡ p.rows
  pub low : are_low zs ≡ true
  pub read : every p.rows (λ j. are_same (dual_of p (tableau_after p k) j) (at zs j)) ≡ true

-- whether the run ends as infeasible with this dual
abbrev pub is_dual_run : LinearProgram → ℕ → ℕ → List ℤ → Bool
is_dual_run p allowed k zs =
    is_whole_run p allowed k
    && (is_infeasible p (tableau_after p k)
    && ((length zs == p.rows)
    && (are_low zs && every p.rows (λ j. are_same (dual_of p (tableau_after p k) j) (at zs j)))))

dual_parts : (p : LinearProgram) (allowed k : ℕ) (zs : List ℤ) → is_dual_run p allowed k zs ≡ true
    → IsDualRun p allowed k zs
dual_parts p allowed k zs h =
    let a = passes_both _ _ h in
    let b = passes_both _ _ a.1 in
    let c = passes_both _ _ b.1 in
    let d = passes_both _ _ c.1 in
    record {
      run = whole_run p allowed k a.0;
      infeasible = b.0;
      long = same_number-sound (length zs) p.rows c.0;
      low = d.0;
      read = d.1;
    }

dual_given : (p : LinearProgram) (allowed k : ℕ) (zs : List ℤ) → IsDualRun p allowed k zs → IsScaledDual p allowed zs 1
dual_given p allowed k zs r =
    dual-given p allowed k (wholes zs r.low) zs 1 r.run.fits
    (infeasibility-ends p (tableau_after p k) allowed k (wholes zs r.low) (run_comes p allowed k r.run) r.run.within
    (run_whole p allowed k r.run k (omega arith)) r.infeasible (record { length_is = wholes-long zs r.low ∙ r.long; each = each }))
    (wholes_scaled zs r.low) (record { each = λ j l. within_limit j (low_at zs r.low j) })
  where
    within_limit : (j : ℕ) → unsigned_abs (at zs j) < number_limit → unsigned_abs (at zs j) ≤ point_limit
    within_limit j l = omega (arith, l)

    below : (j : ℕ) (f : Frac) → slice_get (wholes zs r.low) j ≡ Some f → j < p.rows
    below j f e = subst (λ (n : ℕ). j < n) (wholes-long zs r.low ∙ r.long) (slice_get-below (wholes zs r.low) j f e)

    each : (j : ℕ) (f : Frac) → slice_get (wholes zs r.low) j ≡ Some f
        → f.num *ℤ (tableau_after p k).scale (cost_row p 0) ≡ dual_of p (tableau_after p k) j *ℤ f.den
    each j f e =
        let is = wholes-at zs r.low j f e in
        let one = run_scale p allowed k r.run (cost_row p 0) (omega arith) in
        let same = same-sound (dual_of p (tableau_after p k) j) (at zs j)
        (every-each p.rows (λ l. are_same (dual_of p (tableau_after p k) l) (at zs l)) r.read j (below j f e)) in
        subst (λ (s : ℤ). f.num *ℤ s ≡ dual_of p (tableau_after p k) j *ℤ f.den) (sym one)
        (subst (λ (d : ℤ). f.num *ℤ pos 1 ≡ dual_of p (tableau_after p k) j *ℤ d) (sym is.1)
        (subst (λ (n : ℤ). n *ℤ pos 1 ≡ dual_of p (tableau_after p k) j *ℤ pos 1) (sym is.0)
        (subst (λ (n : ℤ). at zs j *ℤ pos 1 ≡ n *ℤ pos 1) (sym same) refl)))

-- the dual is the answer of the linear program
pub dual_run : (p : LinearProgram) (allowed k : ℕ) (zs : List ℤ) → is_dual_run p allowed k zs ≡ true
    → IsScaledDual p allowed zs 1
dual_run p allowed k zs h = dual_given p allowed k zs (dual_parts p allowed k zs h)

-- whether there is no number
abbrev pub is_none : Option ℕ → Bool
is_none None = true
is_none (Some c) = false

none_there : (o : Option ℕ) → is_none o ≡ true → o ≡ None
none_there None e = refl
none_there (Some c) e = absurd (no_is_not_yes false refl e)

-- whether a number is that of the basic solution: the one of the row that is solved for the column, or 0 if there is
-- none
abbrev pub is_solved_for : LinearProgram → Tableau → ℕ → ℤ → ℕ → Bool
is_solved_for p t j z i = (t.basis i == j) && are_same (t.entry i (unknowns p)) z

abbrev pub is_basic : LinearProgram → Tableau → ℕ → ℤ → Bool
is_basic p t j z = some p.rows (is_solved_for p t j z) || (is_zero z && every p.rows (λ i. not (t.basis i == j)))

-- the run ends as optimal, with this solution
pub record IsSolutionRun (p : LinearProgram) (allowed k : ℕ) (zs : List ℤ) (basis : List ℕ) : Type 0 where
  pub run : IsWholeRun p allowed k
  pub feasible : is_infeasible p (tableau_after p k) ≡ false
  pub done : is_none (entering p (tableau_after p k)) ≡ true
  pub long : length zs ≡ p.columns
  pub low : are_low zs ≡ true
  pub read : every p.columns (λ j. is_basic p (tableau_after p k) j (at zs j)) ≡ true
  pub basis_long : length basis ≡ p.rows
  pub basis_read : every p.rows (λ i. slice_index basis i == (tableau_after p k).basis i) ≡ true

-- whether the run ends as optimal with this solution
abbrev pub is_solution_run : LinearProgram → ℕ → ℕ → List ℤ → List ℕ → Bool
is_solution_run p allowed k zs basis =
    is_whole_run p allowed k
    && (not (is_infeasible p (tableau_after p k))
    && (is_none (entering p (tableau_after p k))
    && ((length zs == p.columns)
    && (are_low zs
    && (every p.columns (λ j. is_basic p (tableau_after p k) j (at zs j))
    && ((length basis == p.rows)
    && every p.rows (λ i. slice_index basis i == (tableau_after p k).basis i)))))))

solution_parts : (p : LinearProgram) (allowed k : ℕ) (zs : List ℤ) (basis : List ℕ)
    → is_solution_run p allowed k zs basis ≡ true → IsSolutionRun p allowed k zs basis
solution_parts p allowed k zs basis h =
    let a = passes_both _ _ h in
    let b = passes_both _ _ a.1 in
    let c = passes_both _ _ b.1 in
    let d = passes_both _ _ c.1 in
    let e = passes_both _ _ d.1 in
    let f = passes_both _ _ e.1 in
    let g = passes_both _ _ f.1 in
    record {
      run = whole_run p allowed k a.0;
      feasible = not-true (is_infeasible p (tableau_after p k)) b.0;
      done = c.0;
      long = same_number-sound (length zs) p.columns d.0;
      low = e.0;
      read = f.0;
      basis_long = same_number-sound (length basis) p.rows g.0;
      basis_read = g.1;
    }

-- the number of the basic solution has this value
solved-sound : (p : LinearProgram) (t : Tableau) (j : ℕ) (f : Frac) → f.den ≡ pos 1
    → ((i : ℕ) → i < p.rows → t.scale i ≡ pos 1) → is_basic p t j f.num ≡ true → IsBasicValue p t j f
solved-sound p t j f one over h =
    go (some p.rows (is_solved_for p t j f.num)) (is_zero f.num && every p.rows (λ i. not (t.basis i == j))) refl refl h
  where
    solved : some p.rows (is_solved_for p t j f.num) ≡ true → IsBasicValue p t j f
    solved s =
        let found = some-one p.rows (is_solved_for p t j f.num) s in
        let both = passes_both (t.basis found.0 == j) (are_same (t.entry found.0 (unknowns p)) f.num) found.2 in
        let same = same-sound (t.entry found.0 (unknowns p)) f.num both.1 in
        inl (
          found.0,
          found.1,
          same_number-sound (t.basis found.0) j both.0,
          subst (λ (s : ℤ). f.num *ℤ s ≡ t.entry found.0 (unknowns p) *ℤ f.den) (sym (over found.0 found.1))
              (subst (λ (d : ℤ). f.num *ℤ pos 1 ≡ t.entry found.0 (unknowns p) *ℤ d) (sym one)
              (subst (λ (n : ℤ). f.num *ℤ pos 1 ≡ n *ℤ pos 1) (sym same) refl)),
        )

    other : (i : ℕ) → not (t.basis i == j) ≡ true → t.basis i ≢ j
    other i n e = no_is_not_yes true (subst (λ (k : ℕ). not (t.basis i == k) ≡ true → true ≡ false) e (self (t.basis i)) n) refl
      where
        self : (k : ℕ) → not (k == k) ≡ true → true ≡ false
        self k m = absurd (no_is_not_yes false refl (subst (λ (b : Bool). not b ≡ true) (same_number k) m))

    nothing : (is_zero f.num && every p.rows (λ i. not (t.basis i == j))) ≡ true → IsBasicValue p t j f
    nothing n =
        let both = passes_both (is_zero f.num) (every p.rows (λ i. not (t.basis i == j))) n in
        inr (
          is_zero-true f.num both.0,
          λ i low. other i (every-each p.rows (λ l. not (t.basis l == j)) both.1 i low),
        )

    go : (a b : Bool) → some p.rows (is_solved_for p t j f.num) ≡ a
        → (is_zero f.num && every p.rows (λ i. not (t.basis i == j))) ≡ b → (a || b) ≡ true → IsBasicValue p t j f
    go true b ea eb e = solved ea
    go false true ea eb e = nothing eb
    go false false ea eb e = absurd (no_is_not_yes false refl e)

solution_given : (p : LinearProgram) (allowed k : ℕ) (zs : List ℤ) (basis : List ℕ)
    → IsSolutionRun p allowed k zs basis → IsScaledSolution p allowed zs 1
solution_given p allowed k zs basis r =
    solution-given p allowed k (wholes zs r.low) basis zs 1 r.run.fits
    (optimum-ends p (tableau_after p k) allowed k (wholes zs r.low) basis (run_comes p allowed k r.run) r.run.within
    (run_whole p allowed k r.run k (omega arith)) r.feasible
    (none_there (entering p (tableau_after p k)) r.done)
    (record { length_is = wholes-long zs r.low ∙ r.long; each = each })
    (record {
      length_is = r.basis_long;
      each = λ i low. same_number-sound (slice_index basis i) ((tableau_after p k).basis i)
          (every-each p.rows (λ l. slice_index basis l == (tableau_after p k).basis l) r.basis_read i low);
    })) (wholes_scaled zs r.low) (record { each = λ j l. within_limit j (low_at zs r.low j) }) (omega arith)
  where
    within_limit : (j : ℕ) → unsigned_abs (at zs j) < number_limit → unsigned_abs (at zs j) ≤ certificate_limit
    within_limit j l = omega (arith, l)

    below : (j : ℕ) (f : Frac) → slice_get (wholes zs r.low) j ≡ Some f → j < p.columns
    below j f e = subst (λ (n : ℕ). j < n) (wholes-long zs r.low ∙ r.long) (slice_get-below (wholes zs r.low) j f e)

    each : (j : ℕ) (f : Frac) → slice_get (wholes zs r.low) j ≡ Some f → IsBasicValue p (tableau_after p k) j f
    each j f e =
        let is = wholes-at zs r.low j f e in
        solved-sound p (tableau_after p k) j f is.1 (λ i low. run_scale p allowed k r.run i (omega (arith, low)))
        (subst (λ (z : ℤ). is_basic p (tableau_after p k) j z ≡ true) (sym is.0)
        (every-each p.columns (λ l. is_basic p (tableau_after p k) l (at zs l)) r.read j (below j f e)))

-- the solution is the answer of the linear program
pub solution_run : (p : LinearProgram) (allowed k : ℕ) (zs : List ℤ) (basis : List ℕ)
    → is_solution_run p allowed k zs basis ≡ true → IsScaledSolution p allowed zs 1
solution_run p allowed k zs basis h = solution_given p allowed k zs basis (solution_parts p allowed k zs basis h)

-- a run that ends as infeasible with fractions that small integers represent exceeds no limit
pub infeasible_hits_no_limit : (p : LinearProgram) (allowed k : ℕ) (fs : List Frac) (zs : List ℤ) (den : ℕ)
    → table_size p ≤ widest → EndsInfeasibly p allowed fs k → AreOver fs (length fs) zs den
    → AreWithin point_limit (length fs) zs → (c : Cause) → ¬ (HitsLimit p allowed c)
infeasible_hits_no_limit p allowed k fs zs den fits ends over within (range m) t =
    range-apart p allowed k m ends.last ends.in_range (infeasible-stops p allowed k fs ends) t.1
infeasible_hits_no_limit p allowed k fs zs den fits ends over within (budget m) t =
    budget-apart p allowed k ends.last (infeasible-last p ends.last ends.infeasible)
    (infeasible-stops p allowed k fs ends) t.2
infeasible_hits_no_limit p allowed k fs zs den fits ends over within (wide n) t = let low = t.0 in omega (arith, low, fits)
infeasible_hits_no_limit p allowed k fs zs den fits ends over within scale (w, inl t) =
    ends-apart p allowed t.k k t.at t.basis fs t.ends ends
infeasible_hits_no_limit p allowed k fs zs den fits ends over within scale (w, inr t) =
    let same = (infeasible-same p allowed k t.k fs t.dual ends t.ends).0 in
    t.exceeds zs den (over-same fs t.dual zs den same over)
    (record { each = λ j l. within.each j (let a = same.lengths in omega (arith, l, a)) })

-- a linear program whose answer is a dual exceeds no limit
pub dual_hits_no_limit : (p : LinearProgram) (allowed : ℕ) (zs : List ℤ) (den : ℕ) → IsScaledDual p allowed zs den
    → (c : Cause) → ¬ (HitsLimit p allowed c)
dual_hits_no_limit p allowed zs den s =
    infeasible_hits_no_limit p allowed s.k s.dual zs den s.fits s.ends s.scaled.over
    (record { each = λ j l. s.within.each j (let b = s.scaled.lengths in omega (arith, l, b)) })

-- a linear program whose answer is a solution exceeds no limit
pub solution_hits_no_limit : (p : LinearProgram) (allowed : ℕ) (zs : List ℤ) (den : ℕ) → IsScaledSolution p allowed zs den
    → (c : Cause) → ¬ (HitsLimit p allowed c)
solution_hits_no_limit p allowed zs den s (range m) t =
    range-apart p allowed s.k m s.ends.last s.ends.in_range (optimal-stops p allowed s.k s.point s.basis s.ends) t.1
solution_hits_no_limit p allowed zs den s (budget m) t =
    budget-apart p allowed s.k s.ends.last (optimal-last p s.ends.last s.ends.feasible s.ends.done)
    (optimal-stops p allowed s.k s.point s.basis s.ends) t.2
solution_hits_no_limit p allowed zs den s (wide n) t = let low = t.0 in let fits = s.fits in omega (arith, low, fits)
solution_hits_no_limit p allowed zs den s scale (w, inr t) =
    ends-apart p allowed s.k t.k s.point s.basis t.dual s.ends t.ends
solution_hits_no_limit p allowed zs den s scale (w, inl t) =
    let same = (optimal-same p allowed s.k t.k s.point t.at s.basis t.basis s.ends t.ends).0 in
    t.exceeds zs den (over-same s.point t.at zs den same s.scaled.over) (record {
      each = λ j l. s.within.each j (let a = same.lengths in let b = s.scaled.lengths in omega (arith, l, a, b));
    }) s.den_within

-- the solution of a linear program is unique
pub solutions_same : (p : LinearProgram) (allowed : ℕ) (xs ys : List ℤ) (d e : ℕ) → IsScaledSolution p allowed xs d
    → IsScaledSolution p allowed ys e → (xs ≡ ys) × (d ≡ e)
solutions_same p allowed xs ys d e s t =
    scaled-once s.point t.point xs ys d e (optimal-same p allowed s.k t.k s.point t.point s.basis t.basis s.ends t.ends).0
    s.scaled t.scaled

-- the dual of a linear program is unique
pub duals_same : (p : LinearProgram) (allowed : ℕ) (xs ys : List ℤ) (d e : ℕ) → IsScaledDual p allowed xs d
    → IsScaledDual p allowed ys e → (xs ≡ ys) × (d ≡ e)
duals_same p allowed xs ys d e s t =
    scaled-once s.dual t.dual xs ys d e (infeasible-same p allowed s.k t.k s.dual t.dual s.ends t.ends).0 s.scaled t.scaled

-- a linear program hasn't both a solution and a dual
pub never_both : (p : LinearProgram) (allowed : ℕ) (xs ys : List ℤ) (d e : ℕ) → IsScaledSolution p allowed xs d
    → IsScaledDual p allowed ys e → ⊥
never_both p allowed xs ys d e s t = ends-apart p allowed s.k t.k s.point s.basis t.dual s.ends t.ends
