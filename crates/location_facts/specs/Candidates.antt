-- The candidate facts at the symbols of a program, and their order.
use Rattle.std.specs.Prelude.{◌≢◌, ℕ, suc, ◌+◌, ◌*◌, ◌<◌, ◌≤◌, min, nat_abs, nat_eq, if◌then◌else◌, List, [], ◌∷◌}
use Rattle.std.specs.Prelude.{◌++◌, map, length, pos, negsuc, ◌+ℤ◌, ◌≤ℤ◌}
use Rattle.std.specs.List.{range_with_len}
use Rattle.poly_terms.specs.model.Programs.{Program, arity_of}
use Rattle.location_facts.specs.declared.fact.LocFact.{LocFact}

-- the last place that facts of a symbol can use: the symbol's last one, but at most the eighth
abbrev pub last_place : Program → ℕ → ℕ
last_place p s = min (arity_of p s) 8

-- a fact is a candidate: its symbol isn't the start symbol, its places are at most the last one and differ, and its
-- least is -1, 0 or 1
pub record IsCandidate (p : Program) (f : LocFact) : Type 0 where
  pub symbol : f.symbol < length p.symbols
  pub not_start : f.symbol ≢ p.start
  pub plus : f.plus ≤ last_place p f.symbol
  pub minus : f.minus ≤ last_place p f.symbol
  pub different : f.plus ≢ f.minus
  pub low : negsuc 0 ≤ℤ f.least
  pub high : f.least ≤ℤ pos 1

-- the number of a fact in the order by symbol, plus, minus and least: there are 9 places and 3 leasts
abbrev pub order_number : LocFact → ℕ
order_number f = ((f.symbol * 9 + f.plus) * 9 + f.minus) * 3 + nat_abs (f.least +ℤ pos 1)

-- the facts with a symbol and two places, by least
abbrev pub with_places : ℕ → ℕ → ℕ → List LocFact
with_places s i j =
    map (λ k. record { symbol = s; plus = i; minus = j; least = k }) (negsuc 0 ∷ pos 0 ∷ pos 1 ∷ [])

-- the facts of a symbol with this plus, and a minus among these places other than plus
abbrev pub with_plus : ℕ → ℕ → List ℕ → List LocFact
with_plus s i [] = []
with_plus s i (j ∷ js) = (if nat_eq i j then [] else with_places s i j) ++ with_plus s i js

-- the facts of a symbol with a plus among the first places, and a minus among the second ones
abbrev pub with_symbol : ℕ → List ℕ → List ℕ → List LocFact
with_symbol s [] js = []
with_symbol s (i ∷ places) js = with_plus s i js ++ with_symbol s places js

-- the candidate facts at a symbol: none at the start symbol
abbrev pub candidates_at : Program → ℕ → List LocFact
candidates_at p s =
    let places = range_with_len 0 (suc (last_place p s)) in
    if nat_eq s p.start then [] else with_symbol s places places

-- the candidate facts at these symbols
abbrev pub candidates_among : Program → List ℕ → List LocFact
candidates_among p [] = []
candidates_among p (s ∷ symbols) = candidates_at p s ++ candidates_among p symbols

-- the candidate facts: by symbol, then by plus, then by minus, then by least
abbrev pub candidates : Program → List LocFact
candidates p = candidates_among p (range_with_len 0 (length p.symbols))
