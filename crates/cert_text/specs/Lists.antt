-- Lists of a proof file: in square brackets, with separators between their elements.
use Rattle.std.specs.Prelude.{ℕ, List, [], ◌∷◌, ◌++◌, ℤ, map, codes, decimal}
use Rattle.std.specs.Fmt.{signed_decimal}

-- words with a separator before each
abbrev pub each_behind : List ℕ → List (List ℕ) → List ℕ
each_behind separator [] = []
each_behind separator (word ∷ words) = separator ++ (word ++ each_behind separator words)

-- words with a separator between them
abbrev pub joined : List ℕ → List (List ℕ) → List ℕ
joined separator [] = []
joined separator (word ∷ words) = word ++ each_behind separator words

-- a text in square brackets
abbrev pub bracketed : List ℕ → List ℕ
bracketed text = codes "[" ++ (text ++ codes "]")

-- words in square brackets with a semicolon and a blank between them
abbrev pub listed : List (List ℕ) → List ℕ
listed words = bracketed (joined (codes "; ") words)

-- natural numbers in square brackets, with a blank between them
abbrev pub numbers_text : List ℕ → List ℕ
numbers_text ns = bracketed (joined (codes " ") (map decimal ns))

-- numbers with a blank after each
abbrev pub each_before : List ℤ → List ℕ
each_before [] = []
each_before (z ∷ zs) = signed_decimal z ++ (codes " " ++ each_before zs)

-- integers and a last word in square brackets, with a blank between them
abbrev pub ending_in : List ℤ → List ℕ → List ℕ
ending_in zs last = bracketed (each_before zs ++ last)
