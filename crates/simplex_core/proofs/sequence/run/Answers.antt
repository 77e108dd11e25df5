use Rattle.std.proofs.Common.{◌≡◌, arith, sym, ◌∙◌, subst, refl, Some, None, true, false}
use Rattle.std.specs.Prelude.{ℕ}
use Rattle.simplex_core.specs.Problem.{program_of}
use Rattle.simplex_core.specs.Tableau.{pivot}
use Rattle.simplex_core.specs.Bland.{is_infeasible, entering}
use Rattle.simplex_core.specs.Outcome.{ExceedsPivotLimit}
use Rattle.simplex_core.proofs.Rounds.{entering-candidate, budget-hits_limit, advanced}
use Rattle.simplex_core.proofs.Ends.{optimum-ends, infeasibility-ends}
use Rattle.simplex_core.proofs.ProgramFields.{sides-read}
use Rattle.simplex_core.proofs.sequence.run.Goals as goal

pub dual-requires : goal.dual-requires
dual-requires g c =
    let p = program_of c.args.problem.now in
    let inv = c.pivoting.invariant in
    record {
      p = p;
      t = inv.last;
      shown = inv.shows;
      in_range = c.if-not-is_in_range.ensures.each p inv.last inv.shows;
      sides = sides-read c.args.problem.now c.as_slice.result.now c.requires.right c.as_slice.ensures.value;
    }

pub returns-then-is_infeasible : goal.returns-then-is_infeasible
returns-then-is_infeasible g c =
    let p = program_of c.args.problem.now in
    let inv = c.pivoting.invariant in
    let ends : is_infeasible p inv.last ≡ true = sym (c.is_infeasible.ensures p inv.last inv.shows) ∙ c.if-is_infeasible.true in
    let sides = sides-read c.args.problem.now c.as_slice.result.now c.requires.right c.as_slice.ensures.value in
    infeasibility-ends p inv.last c.args.pivots c.pivoting.made c.in_ok-dual.dual.items inv.reached inv.within (c.if-not-is_in_range.ensures.each p inv.last inv.shows) ends
    (c.in_ok-dual.ensures.each p inv.last inv.shows sides)

pub returns-in_default : goal.returns-in_default
returns-in_default g c =
    let p = program_of c.args.problem.now in
    let inv = c.pivoting.invariant in
    let feasible : is_infeasible p inv.last ≡ false = sym (c.is_infeasible.ensures p inv.last inv.shows) ∙ c.if-is_infeasible.false in
    let done : entering p inv.last ≡ None = sym (c.entering.ensures p inv.last inv.shows) ∙ c.in_default.is in
    optimum-ends p inv.last c.args.pivots c.pivoting.made c.in_ok-at.at.items c.in_ok-basis.basis.items inv.reached inv.within
    (c.if-not-is_in_range.ensures.each p inv.last inv.shows) feasible done
    (c.in_ok-at.ensures.each p inv.last inv.shows) (c.in_ok-basis.ensures.each p inv.last inv.shows)

pub returns-then-made-pivots : goal.returns-then-made-pivots
returns-then-made-pivots g c =
    let p = program_of c.args.problem.now in
    let inv = c.pivoting.invariant in
    let feasible : is_infeasible p inv.last ≡ false = sym (c.is_infeasible.ensures p inv.last inv.shows) ∙ c.if-is_infeasible.false in
    let enters : entering p inv.last ≡ Some c.in-Some.column = sym (c.entering.ensures p inv.last inv.shows) ∙ c.in-Some.is in
    let all : c.pivoting.made ≡ c.args.pivots = omega arith in (
      refl,
      subst (λ (k : ℕ). ExceedsPivotLimit p k) all
          (budget-hits_limit p inv.last c.pivoting.made c.in-Some.column c.requires.costs inv.reached (c.if-not-is_in_range.ensures.each p inv.last inv.shows) feasible enters),
    )

pub advance-requires : goal.advance-requires
advance-requires g c =
    let p = program_of c.args.problem.now in
    let inv = c.pivoting.invariant in
    let enters : entering p inv.last ≡ Some c.in-Some.column = sym (c.entering.ensures p inv.last inv.shows) ∙ c.in-Some.is in
    let found = entering-candidate p inv.last c.pivoting.made c.in-Some.column c.requires.costs inv.reached enters in
    record {
      p = p;
      t = inv.last;
      shown = inv.shows;
      in_range = c.if-not-is_in_range.ensures.each p inv.last inv.shows;
      column = found.column;
      row = found.row;
      within = found.within;
      candidate = found.candidate;
    }

pub pivoting-preserved : goal.pivoting-preserved
pivoting-preserved g c =
    let p = program_of c.args.problem.now in
    let inv = c.pivoting.invariant in
    let feasible : is_infeasible p inv.last ≡ false = sym (c.is_infeasible.ensures p inv.last inv.shows) ∙ c.if-is_infeasible.false in
    let enters : entering p inv.last ≡ Some c.in-Some.column = sym (c.entering.ensures p inv.last inv.shows) ∙ c.in-Some.is in
    let step = c.in-Ok.ensures in
    record {
      within = let w = inv.within in omega arith;
      last = pivot inv.last step.row c.in-Some.column;
      shows = step.pivoted p inv.last inv.shows;
      reached = advanced p inv.last c.pivoting.made c.in-Some.column step.row inv.reached (c.if-not-is_in_range.ensures.each p inv.last inv.shows) feasible enters
          (step.best p inv.last inv.shows);
    }
