-- Lines of bytes, and the words that they begin with.
use Rattle.std.specs.Prelude.{ℕ, suc, Bool, ◌==◌, if◌then◌else◌, List, [], ◌∷◌}
use Rattle.text_core.specs.Prefixes.{prefix}
use Rattle.text_core.specs.Names.{continues_name, is_same}

-- a byte put in front of the first line; without lines, a line of its own
abbrev pub with_first : ℕ → List (List ℕ) → List (List ℕ)
with_first b [] = (b ∷ []) ∷ []
with_first b (line ∷ lines) = (b ∷ line) ∷ lines

-- the lines of bytes, each with the line feed that ends it; the last line may lack it
abbrev pub lines_of : List ℕ → List (List ℕ)
lines_of [] = []
lines_of (b ∷ bytes) = if b == 10 then (b ∷ []) ∷ lines_of bytes else with_first b (lines_of bytes)

-- the number of bytes of the first line
abbrev pub first_line_length : List ℕ → ℕ
first_line_length [] = 0
first_line_length (b ∷ bytes) = if b == 10 then 1 else suc (first_line_length bytes)

-- the word that a line begins with: the longest run of bytes by which a name can continue
abbrev pub first_word : List ℕ → List ℕ
first_word line = prefix continues_name line

-- whether a line begins with a word
abbrev pub begins_with_word : List ℕ → List ℕ → Bool
begins_with_word word line = is_same (first_word line) word
