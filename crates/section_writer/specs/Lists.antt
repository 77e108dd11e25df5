-- Lists in a text: in square brackets, with separators between their elements.
use Rattle.std.specs.Prelude.{ℕ, List, [], ◌∷◌, ◌++◌, ℤ, map, codes, decimal}
use Rattle.std.specs.Fmt.{signed_decimal}

-- a separator before each word
abbrev pub each_behind : List ℕ → List (List ℕ) → List ℕ
each_behind separator [] = []
each_behind separator (word ∷ words) = separator ++ (word ++ each_behind separator words)

-- words with a separator between them
abbrev pub separated : List ℕ → List (List ℕ) → List ℕ
separated separator [] = []
separated separator (word ∷ words) = word ++ each_behind separator words

-- between square brackets
abbrev pub bracketed : List ℕ → List ℕ
bracketed text = codes "[" ++ (text ++ codes "]")

-- words in square brackets with a semicolon and a blank between them
abbrev pub word_list : List (List ℕ) → List ℕ
word_list words = bracketed (separated (codes "; ") words)

-- natural numbers in square brackets, with a blank between them
abbrev pub number_list : List ℕ → List ℕ
number_list ns = bracketed (separated (codes " ") (map decimal ns))

-- numbers with a blank after each
abbrev pub each_before : List ℤ → List ℕ
each_before [] = []
each_before (z ∷ zs) = signed_decimal z ++ (codes " " ++ each_before zs)
