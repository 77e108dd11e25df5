-- Laws of printing: the text written so far, and the text still to write.
use Rattle.std.proofs.Common.{◌≡◌, ℕ, ◌≤◌, List, ◌++◌, length, drop, subst, ◌∙◌}
use Rattle.std.specs.Prelude.{Result, Ok, Err, OnOk}
use Rattle.std.specs.declared.alloc.AllocError.{AllocError}
use Rattle.std.proofs.lemmas.List.{drop_all}
use Rattle.text_core.specs.model.Programs.{Name}
use Rattle.bound_expr.specs.declared.bound.Bound.{Bound}
use Rattle.bound_expr.specs.Views.{bounds_of, parts_of}
use Rattle.bound_text.specs.Pieces.{Piece, bytes_of}
use Rattle.bound_text.specs.Writing.{Before, factors_then, ended_then}
use Rattle.bound_text.specs.Printing.{Writes, WritesAll}

-- after the last factor only the run before is left to write
pub factors_ended : (names : List Name) (old mid new : List ℕ) (all : List Piece → List Piece) (before : Before) (factors : List Bound) (k : ℕ) (r : Result (Unit {0}) AllocError)
    → length factors ≤ k → Writes names old mid all (factors_then before (parts_of (bounds_of (drop k factors)))) → OnOk r (WritesAll names mid new (ended_then before))
    → OnOk r (WritesAll names old new all)
factors_ended names old mid new all before factors k (Err e) h w ended = tt
factors_ended names old mid new all before factors k (Ok u) h w ended = record {
  each = λ rest.
      ended.each rest
      ∙ subst (λ (bs : List Bound). mid ++ bytes_of names (factors_then before (parts_of (bounds_of bs)) rest) ≡ old ++ bytes_of names (all rest)) (drop_all k factors h) (w.each rest);
}
