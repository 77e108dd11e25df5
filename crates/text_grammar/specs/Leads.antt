-- The lead of symbols at a class of pieces: the entries of an LL(1) table.
use Rattle.std.specs.Prelude.{ℕ, zero, suc, ◌==◌, if◌then◌else◌, List, [], ◌∷◌, ◌++◌, map, slice_index_or}
use Rattle.text_grammar.specs.declared.symbol.Symbol.{Symbol}
use Rattle.text_grammar.specs.declared.symbol.Symbol.TheVariants.{Piece, Made, Mark}
use Rattle.text_grammar.specs.Grammars.{Grammar}

-- the effect of a piece of the class, after some marks: the piece is matched and these symbols are expected next; or
-- all expected symbols derive only marks; or the piece can't follow
pub data Lead : Type 0 where
  Matches : List ℕ → List Symbol → Lead
  Passes : List ℕ → Lead
  Stuck : Lead

-- the lead after some more marks
abbrev pub behind : List ℕ → Lead → Lead
behind ms (Matches ns rest) = Matches (ms ++ ns) rest
behind ms (Passes ns) = Passes (ms ++ ns)
behind ms Stuck = Stuck

-- the lead of symbols that are followed by others, which have a lead of their own
abbrev pub before : Lead → List Symbol → Lead → Lead
before (Matches ms body) rest l = Matches ms (body ++ rest)
before (Passes ms) rest l = behind ms l
before Stuck rest l = Stuck

-- the lead of nonterminal n in a row of the table
abbrev pub entry : List Lead → ℕ → Lead
entry row n = slice_index_or row n Stuck

-- the lead of symbols at a class, by the row of the class
abbrev pub lead : ℕ → List Lead → List Symbol → Lead
lead c row [] = Passes []
lead c row (Piece d ∷ rest) = if d == c then Matches [] rest else Stuck
lead c row (Mark m ∷ rest) = behind (m ∷ []) (lead c row rest)
lead c row (Made n ∷ rest) = before (entry row n) rest (lead c row rest)

-- the better of two leads: one that matches, else one that passes, else stuck
abbrev pub better : Lead → Lead → Lead
better (Matches ms rest) l = Matches ms rest
better (Passes ms) (Matches ns rest) = Matches ns rest
better (Passes ms) (Passes ns) = Passes ms
better (Passes ms) Stuck = Passes ms
better Stuck l = l

-- the lead of a nonterminal with these alternatives
abbrev pub lead_among : ℕ → List Lead → List (List Symbol) → Lead
lead_among c row [] = Stuck
lead_among c row (body ∷ bodies) = better (lead c row body) (lead_among c row bodies)

-- the row of a class after this many rounds: each round computes the leads of the rules from the row before it
abbrev pub row_after : List (List (List Symbol)) → ℕ → ℕ → List Lead
row_after rules c zero = []
row_after rules c (suc n) = map (lead_among c (row_after rules c n)) rules

-- the row of a class, after the grammar's number of rounds
abbrev pub row_of : {P : Type 0} → Grammar P → ℕ → List Lead
row_of g c = row_after g.rules c g.rounds
