-- The line of a claim on one side of a place.
use Rattle.std.proofs.Common.{◌≡◌, ℕ, List, ◌++◌, codes, ap, sym, ◌∙◌}
use Rattle.std.specs.Prelude.{Result, Ok, Err, OnOk}
use Rattle.std.specs.declared.alloc.AllocError.{AllocError}
use Rattle.std.proofs.lemmas.List.{append_assoc}
use Rattle.signed_bounds.specs.Bounds.{Signed}
use Rattle.potential_writer.specs.Claims.{side_text}

-- a line that is written in two parts
pub side_written : (r : Result (Unit {0}) AllocError) (new old mid cited items line head : List ℕ) (rule place : ℕ) (b : Signed)
    → line ≡ head ++ (side_text rule place items b ++ codes "\n") → cited ≡ items → mid ≡ old ++ head
    → OnOk r (new ≡ mid ++ (side_text rule place cited b ++ codes "\n")) → OnOk r (new ≡ old ++ line)
side_written (Err e) new old mid cited items line head rule place b whole same first second = tt
side_written (Ok u) new old mid cited items line head rule place b whole same first second =
    second
    ∙ (ap (λ (xs : List ℕ). xs ++ (side_text rule place cited b ++ codes "\n")) first
    ∙ (append_assoc old head (side_text rule place cited b ++ codes "\n")
    ∙ (ap (λ (ns : List ℕ). old ++ (head ++ (side_text rule place ns b ++ codes "\n"))) same
    ∙ ap (λ (xs : List ℕ). old ++ xs) (sym whole))))
