use Rattle.std.proofs.Common.{◌≡◌, length, take, Some}
use Rattle.std.specs.List.{list_any}
use Rattle.its_model.specs.Views.{program_of}
use Rattle.poly_terms.specs.model.Paths.{same_symbol, target_of}
use Rattle.rank_search.specs.Marks.{AreMarks}
use Rattle.rank_search.proofs.symbols.entered.Given as goal

-- the symbols to which the entries so far lead are marked
abbrev pub invariant-loop-entry : goal.invariant-loop-entry
invariant-loop-entry l = record {
  one_each : length l.marks.items ≡ length l.p.symbols.items;
  marks : AreMarks
      (λ a. list_any (λ e. same_symbol (Some a) (target_of (program_of l.p) e)) (take l.entry-index l.entry-items))
      l.marks.items;
}
