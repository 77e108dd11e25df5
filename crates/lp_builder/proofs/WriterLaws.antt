-- Writing numbers part by part.
use Rattle.std.proofs.Common.{◌≡◌, ℕ, ◌+◌, ap, arith, sym, ◌∙◌, List, ◌++◌, length, length-append, append_assoc}
use Rattle.std.specs.Prelude.{ℤ}
use Rattle.simplex_core.specs.declared.problem.Entry.{Entry}
use Rattle.lp_builder.specs.declared.writer.EntryWriter.{EntryWriter}
use Rattle.lp_builder.specs.Entries.{sparse, Writes}
use Rattle.lp_builder.proofs.Entries.{sparse-append}

-- numbers written after others make one list
pub writes-more : (a b c : EntryWriter) (xs ys : List ℤ) → Writes a b xs → Writes b c ys → Writes a c (xs ++ ys)
writes-more a b c xs ys w v = record {
  row = v.row ∙ w.row;
  col = added _ _ _ _ _ w.col v.col (length-append xs ys);
  entries = v.entries
      ∙ (ap (λ (es : List Entry). es ++ sparse b.row b.col ys) w.entries
      ∙ (ap (λ (k : ℕ). (a.entries.items ++ sparse a.row a.col xs) ++ sparse k b.col ys) w.row
      ∙ (ap (λ (k : ℕ). (a.entries.items ++ sparse a.row a.col xs) ++ sparse a.row k ys) w.col
      ∙ (append_assoc a.entries.items (sparse a.row a.col xs) (sparse a.row (a.col + length xs) ys)
      ∙ ap (λ (es : List Entry). a.entries.items ++ es) (sym (sparse-append a.row a.col xs ys))))));
}
  where
    added : (p q r x y : ℕ) {n : ℕ} → q ≡ p + x → r ≡ q + y → n ≡ x + y → r ≡ p + n
    added p q r x y e f g = omega (arith, e, f, g)
