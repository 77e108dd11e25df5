-- Names of symbols and variables, and positions among names.
use Rattle.std.specs.Prelude.{ℕ, Bool, ◌||◌, ◌==◌, List, [], ◌∷◌, nat_eq, IsTrue, IsFalse, ⊤}
use Rattle.std.specs.List.{list_all, list_any, position_or_len}
use Rattle.std.specs.Cmp.Lexicographic.{pointwise}
use Rattle.std.specs.Char.{is_ascii_alphabetic, is_ascii_digit}
use Rattle.model.specs.Programs.{Name}
use Rattle.text_core.specs.declared.name.Name as code

-- a name of the code as its bytes
abbrev pub name_of : code.Name → Name
name_of n = n.bytes.items

-- a name begins with a letter, `_` or `$`
abbrev pub begins_name : ℕ → Bool
begins_name b = is_ascii_alphabetic b || (b == 95) || (b == 36)

-- a name continues with letters, digits, `_`, `$`, `'` and `.`
abbrev pub continues_name : ℕ → Bool
continues_name b = begins_name b || is_ascii_digit b || (b == 39) || (b == 46)

-- the bytes are those of a name
abbrev pub IsName : List ℕ → Type 0
IsName [] = ⊥
IsName (b ∷ bytes) = IsTrue (begins_name b) × IsTrue (list_all continues_name bytes)

-- whether two names have the same bytes
abbrev pub is_same : Name → Name → Bool
is_same = pointwise nat_eq

-- a name is in a list of names
abbrev pub is_among : Name → List Name → Bool
is_among name names = list_any (is_same name) names

-- the position of a name in a list, counted from 0, or the list's length if it isn't in it
abbrev pub position_of : Name → List Name → ℕ
position_of name names = position_or_len (is_same name) names

-- no name occurs twice
abbrev pub AreDistinct : List Name → Type 0
AreDistinct [] = ⊤
AreDistinct (name ∷ names) = IsFalse (is_among name names) × AreDistinct names

-- each item is a name, and no name occurs twice
abbrev pub AreNames : List Name → Type 0
AreNames [] = ⊤
AreNames (name ∷ names) = IsName name × IsFalse (is_among name names) × AreNames names
