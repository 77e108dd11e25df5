-- How disclosed bytes grow in several turns.
use Rattle.std.proofs.Common.{◌≡◌, ℕ, ◌+◌, ◌-◌, ◌∙◌, ap, sym, subst, arith, List, ◌++◌, length, take, drop, length-drop}
use Rattle.std.proofs.Common.{append_assoc, Option, None, Some}
use Rattle.std.proofs.Math.Seq.{take-add}
use Rattle.std.proofs.lemmas.List.{take_all}
use Rattle.std.specs.Io.KnownBytes.{Appends}

-- bytes appended in two turns are appended in one
Appends-then : (old middle new : Option (List ℕ)) (done piece : List ℕ)
    → Appends old middle done → Appends middle new piece → Appends old new (done ++ piece)
Appends-then None middle new done piece first second = tt
Appends-then (Some old) None new done piece first second = absurd first
Appends-then (Some old) (Some middle) None done piece first second = absurd second
Appends-then (Some old) (Some middle) (Some new) done piece first second =
    second ∙ ap (λ xs. xs ++ piece) first ∙ append_assoc old done piece

-- the next bytes of a piece, appended after those before them
pub Appends-more : (old middle new : Option (List ℕ)) (piece : List ℕ) (written count : ℕ)
    → Appends old middle (take written piece)
    → Appends middle new (take count (take (length piece - written) (drop written piece)))
    → Appends old new (take (written + count) piece)
Appends-more old middle new piece written count first second =
    let left = drop written piece in
    let whole : take (length piece - written) left ≡ left = take_all _ _ (omega (arith, length-drop written piece)) in
    let joined : take written piece ++ take count (take (length piece - written) left) ≡ take (written + count) piece =
    ap (λ xs. take written piece ++ take count xs) whole ∙ sym (take-add written count piece) in
    subst (λ xs. Appends old new xs) joined (Appends-then old middle new _ _ first second)
