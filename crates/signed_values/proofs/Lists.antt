-- The lists of start values for one more argument.
use Rattle.std.proofs.Common.{◌≡◌, ◌∙◌, ◌+◌, ◌++◌, ℕ, List, ◌∷◌, sym, ap, add-one}
use Rattle.std.specs.Prelude.{ℤ, pos, replicate}
use Rattle.signed_values.specs.Starts.{starts_of_argument, starts_of_arguments}

pub start_with-next : (arguments argument : ℕ) (old new : List (List ℤ))
    → new ≡ old ++ starts_of_argument arguments argument
    → old ≡ replicate arguments (pos 20) ∷ replicate arguments (pos 1) ∷ starts_of_arguments arguments argument
    → new ≡ replicate arguments (pos 20) ∷ replicate arguments (pos 1) ∷ starts_of_arguments arguments (argument + 1)
start_with-next arguments argument old new more is =
    more ∙ ap (λ (xs : List (List ℤ)). xs ++ starts_of_argument arguments argument) is
    ∙ sym (ap (λ (n : ℕ). replicate arguments (pos 20) ∷ replicate arguments (pos 1) ∷ starts_of_arguments arguments n)
    (add-one argument))
