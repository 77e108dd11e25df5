-- The shut places of a set, symbol by symbol.
use Rattle.std.specs.Prelude.{ℕ, zero, suc, ◌+◌, Bool, cond, List, [], ◌∷◌, ◌++◌, map, filter, Option, Some}
use Rattle.std.specs.Prelude.{None, slice_set}
use Rattle.std.specs.List.{list_any, range_with_len}
use Rattle.model.specs.Programs.{Program, arity_of}
use Rattle.model.specs.Paths.{target_of, same_symbol}
use Rattle.cert_types.specs.cert_rules.Gaps.{SymbolPlace}
use Rattle.cert_types.specs.cert_rules.Known.{Table}
use Rattle.bound_fixpoint.specs.Keys.{lacks}

-- the place has no size after one of these rules
abbrev pub lacks_any : Table → List ℕ → ℕ → Bool
lacks_any tab rules i = list_any (λ e. lacks (tab.size e i)) rules

-- a place of a symbol
abbrev pub at_place : ℕ → ℕ → SymbolPlace
at_place a i = record { symbol = a; place = i }

-- a place, if it has no size after one of these rules
abbrev pub place_if : Table → List ℕ → ℕ → ℕ → List SymbolPlace
place_if tab rules a i = cond (lacks_any tab rules i) (at_place a i ∷ []) []

-- among the first n places of a symbol those that have no size after one of these rules
abbrev pub shut_at : Table → List ℕ → ℕ → ℕ → List SymbolPlace
shut_at tab rules a arity = map (at_place a) (filter (lacks_any tab rules) (range_with_len 1 arity))

-- the entries among these rules that lead to a symbol
abbrev pub into : Program → List ℕ → ℕ → List ℕ
into p es a = filter (λ e. same_symbol (target_of p e) (Some a)) es

-- the places of a symbol that have no size after one of these entries that lead to it
abbrev pub shut_by : Program → Table → List ℕ → ℕ → List SymbolPlace
shut_by p tab es a = shut_at tab (into p es a) a (arity_of p a)

-- the shut places of this many symbols, from symbol a on
abbrev pub shut_from : Program → Table → List ℕ → ℕ → ℕ → List SymbolPlace
shut_from p tab es a zero = []
shut_from p tab es a (suc n) = shut_by p tab es a ++ shut_from p tab es (a + 1) n

-- the number of a symbol, where one of these entries leads to it
abbrev pub mark_of : Program → List ℕ → ℕ → Option ℕ
mark_of p es a = cond (list_any (λ e. same_symbol (target_of p e) (Some a)) es) (Some a) None

-- the marks of the first n symbols
abbrev pub marks_of : Program → List ℕ → ℕ → List (Option ℕ)
marks_of p es n = map (mark_of p es) (range_with_len 0 n)

-- a mark is put at the symbol of this number, if there is one
abbrev pub put_mark : List (Option ℕ) → Option ℕ → List (Option ℕ)
put_mark marks None = marks
put_mark marks (Some a) = slice_set marks a (Some a)

-- the shut places of the symbol of this number, where there is one
abbrev pub shut_marked : Program → Table → List ℕ → Option ℕ → List SymbolPlace
shut_marked p tab es None = []
shut_marked p tab es (Some a) = shut_by p tab es a
