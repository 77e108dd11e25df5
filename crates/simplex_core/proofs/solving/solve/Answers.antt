use Rattle.std.proofs.Common.{rules, ◌≡◌, ℕ, ◌+◌, ◌*◌, ap, sym, ◌∙◌, arith, refl}
use Rattle.simplex_core.specs.Problem.{program_of}
use Rattle.simplex_core.specs.Tableau.{first_tableau}
use Rattle.simplex_core.proofs.Large.{size-is}
use Rattle.simplex_core.proofs.AnswerCases.{answer}
use Rattle.simplex_core.proofs.solving.solve.Goals as goal

pub returns-then-entries-gt-WIDEST : goal.returns-then-entries-gt-WIDEST
returns-then-entries-gt-WIDEST c =
    let q = c.args.problem.now in
    let rows : c.from-rows.result ≡ q.rows = search rules in
    let cols : c.from.result ≡ q.cols = search rules in
    let size = ap (λ (r : ℕ). r * (c.from.result + r + 1)) rows ∙ (ap (λ (n : ℕ). q.rows * (n + q.rows + 1)) cols ∙ sym (size-is q)) in
    (omega (arith, size), size)

pub returns-then-not-has_small_numbers : goal.returns-then-not-has_small_numbers
returns-then-not-has_small_numbers c =
    let q = c.args.problem.now in
    let rows : c.from-rows.result ≡ q.rows = search rules in
    let cols : c.from.result ≡ q.cols = search rules in
    let size = ap (λ (r : ℕ). r * (c.from.result + r + 1)) rows ∙ (ap (λ (n : ℕ). q.rows * (n + q.rows + 1)) cols ∙ sym (size-is q)) in (
      omega (arith, size),
      record {
        within = omega arith;
        last = first_tableau (program_of q);
        reached = record { is = refl; before = λ i u l _. absurd (omega arith) };
        out = c.if-not-has_small_numbers.ensures;
      },
    )

pub returns : goal.returns
returns c =
    let q = c.args.problem.now in
    let rows : c.from-rows.result ≡ q.rows = search rules in
    let cols : c.from.result ≡ q.cols = search rules in
    let size = ap (λ (r : ℕ). r * (c.from.result + r + 1)) rows ∙ (ap (λ (n : ℕ). q.rows * (n + q.rows + 1)) cols ∙ sym (size-is q)) in
    answer (program_of q) c.args.pivots c.follow.result (omega (arith, size)) c.follow.ensures
