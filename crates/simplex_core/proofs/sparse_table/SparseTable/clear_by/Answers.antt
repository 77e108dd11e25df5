use Rattle.std.proofs.Common.{◌≡◌, ap, sym, ◌∙◌, subst, arith}
use Rattle.std.specs.Prelude.{pos}
use Rattle.std.proofs.lemmas.Int.{ints}
use Rattle.frac128.specs.declared.frac.Frac.{Frac}
use Rattle.simplex_core.specs.Cells.{IsLessMultiple}
use Rattle.simplex_core.proofs.CellLaws.{less_no_multiple}
use Rattle.simplex_core.proofs.sparse_table.SparseTable.clear_by.Goals as goal

pub returns-then-factor-eq0-clause-cleared : goal.returns-then-factor-eq0-clause-cleared
returns-then-factor-eq0-clause-cleared c apart =
    record {
      each = λ j f factor b g inside is_f is_factor is_b is_g.
          let read = c.at-factor.ensures in
          let at_factor : c.at-factor.result ≡ factor = cc in
          let same : f ≡ g = cc in
          let none : c.at-factor.result.num ≡ pos 0 = omega (arith, ints) in
          subst (λ (h : Frac). IsLessMultiple f factor b h) same (less_no_multiple f factor b (ap (λ (h : Frac). h.num) (sym at_factor) ∙ none));
    }
