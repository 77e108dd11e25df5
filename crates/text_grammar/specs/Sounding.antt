-- The test whether a grammar can be parsed with one piece of lookahead (LL(1)).
use Rattle.std.specs.Prelude.{ℕ, zero, suc, Bool, true, false, not, ◌&&◌, ◌||◌, ◌==◌, nat_lt, List, [], ◌∷◌, map}
use Rattle.std.specs.Prelude.{slice_index_or}
use Rattle.std.specs.List.{list_all, list_any}
use Rattle.text_grammar.specs.declared.symbol.Symbol.{Symbol}
use Rattle.text_grammar.specs.declared.symbol.Symbol.TheVariants.{Piece, Made, Mark}
use Rattle.text_grammar.specs.Grammars.{Grammar}
use Rattle.text_grammar.specs.Leads.{Lead, Matches, Passes, Stuck, entry, lead, row_of}

-- a test holds of each element with its position, counted from 0
abbrev pub each : {X : Type 0} → (ℕ → X → Bool) → List X → Bool
each test [] = true
each test (x ∷ xs) = test 0 x && each (λ n. test (suc n)) xs

-- a test holds of each number below a limit
abbrev pub each_below : ℕ → (ℕ → Bool) → Bool
each_below zero test = true
each_below (suc n) test = test n && each_below n test

-- two symbols are equal; two lists of numbers; two lists of symbols; two leads
abbrev pub is_same_symbol : Symbol → Symbol → Bool
is_same_symbol (Piece c) (Piece d) = c == d
is_same_symbol (Made n) (Made m) = n == m
is_same_symbol (Mark n) (Mark m) = n == m
is_same_symbol s t = false

abbrev pub are_same : {X : Type 0} → (X → X → Bool) → List X → List X → Bool
are_same same [] [] = true
are_same same (x ∷ xs) (y ∷ ys) = same x y && are_same same xs ys
are_same same xs ys = false

abbrev pub is_same_number : ℕ → ℕ → Bool
is_same_number m n = m == n

abbrev pub is_same_lead : Lead → Lead → Bool
is_same_lead (Matches ms xs) (Matches ns ys) = are_same is_same_number ms ns && are_same is_same_symbol xs ys
is_same_lead (Passes ms) (Passes ns) = are_same is_same_number ms ns
is_same_lead Stuck Stuck = true
is_same_lead l k = false

-- a lead matches; a lead passes
abbrev pub matches : Lead → Bool
matches (Matches ms rest) = true
matches (Passes ms) = false
matches Stuck = false

abbrev pub passes : Lead → Bool
passes (Passes ms) = true
passes (Matches ms rest) = false
passes Stuck = false

-- a nonterminal is flagged
abbrev pub is_flagged : List Bool → ℕ → Bool
is_flagged flags n = slice_index_or flags n false

-- a piece of the class can follow a nonterminal within a body, or follow the body
abbrev pub comes_behind : ℕ → List Lead → List Bool → ℕ → ℕ → List Symbol → Bool
comes_behind c row flags n m [] = false
comes_behind c row flags n m (Made k ∷ rest) =
    (k == m) && (matches (lead c row rest) || (passes (lead c row rest) && is_flagged flags n))
    || comes_behind c row flags n m rest
comes_behind c row flags n m (Piece d ∷ rest) = comes_behind c row flags n m rest
comes_behind c row flags n m (Mark k ∷ rest) = comes_behind c row flags n m rest

-- the numbers of the elements of a list, counted from this one on
abbrev pub numbered : {X : Type 0} → ℕ → List X → List ℕ
numbered n [] = []
numbered n (x ∷ xs) = n ∷ numbered (suc n) xs

-- some body of some rule, with the number of its nonterminal, passes a test
abbrev pub some_body : (ℕ → List Symbol → Bool) → ℕ → List (List (List Symbol)) → Bool
some_body test n [] = false
some_body test n (bodies ∷ rules) = list_any (test n) bodies || some_body test (suc n) rules

-- flags the nonterminals that a piece of the class can follow, as far as this many rounds find them; the end of the
-- text counts as one more class, and follows the text
abbrev pub follows_after : {P : Type 0} → Grammar P → ℕ → ℕ → List Bool
follows_after g c zero = map (λ n. (c == g.classes) && (n == 0)) (numbered 0 g.rules)
follows_after g c (suc k) =
    let flags = follows_after g c k in
    let row = row_of g c in
    map (λ m. is_flagged flags m || some_body (λ n. comes_behind c row flags n m) 0 g.rules) (numbered 0 g.rules)

abbrev pub follows : {P : Type 0} → Grammar P → ℕ → List Bool
follows g c = follows_after g c g.rounds

-- an alternative agrees with its nonterminal's entry: if it matches it is the entry, and so it is if it passes and the
-- class can follow the nonterminal
abbrev pub is_entry : Lead → Lead → Bool → Bool
is_entry (Matches ms rest) e follow = is_same_lead (Matches ms rest) e
is_entry (Passes ms) e follow = not follow || is_same_lead (Passes ms) e
is_entry Stuck e follow = true

-- each nonterminal within a body that the class can follow is flagged
abbrev pub has_follows : ℕ → List Lead → List Bool → Bool → List Symbol → Bool
has_follows c row flags follow [] = true
has_follows c row flags follow (Made m ∷ rest) =
    (not (matches (lead c row rest) || (passes (lead c row rest) && follow)) || is_flagged flags m)
    && has_follows c row flags follow rest
has_follows c row flags follow (Piece d ∷ rest) = has_follows c row flags follow rest
has_follows c row flags follow (Mark m ∷ rest) = has_follows c row flags follow rest

-- symbols can be completed: they are existing classes, marks, and flagged nonterminals
abbrev pub is_completed : ℕ → List Bool → List Symbol → Bool
is_completed classes flags [] = true
is_completed classes flags (Piece c ∷ rest) = nat_lt c classes && is_completed classes flags rest
is_completed classes flags (Made n ∷ rest) = is_flagged flags n && is_completed classes flags rest
is_completed classes flags (Mark m ∷ rest) = is_completed classes flags rest

-- flags the nonterminals that can derive a list of pieces, as far as this many rounds find them
abbrev pub completed_after : ℕ → List (List (List Symbol)) → ℕ → List Bool
completed_after classes rules zero = []
completed_after classes rules (suc k) = map (list_any (is_completed classes (completed_after classes rules k))) rules

module _ {P : Type 0} (g : Grammar P) where
  abbrev pub completed : List Bool
  completed = completed_after g.classes g.rules g.rounds

  -- an entry's symbols can be completed
  abbrev pub is_completed_lead : Lead → Bool
  is_completed_lead (Matches ms rest) = is_completed g.classes completed rest
  is_completed_lead (Passes ms) = true
  is_completed_lead Stuck = true

  -- each alternative agrees with the entries of a class and with the pieces that can follow its nonterminal
  abbrev pub agrees_by : ℕ → List Lead → List Bool → Bool
  agrees_by c row flags =
      each (λ n bodies. list_all (λ body. is_entry (lead c row body) (entry row n) (is_flagged flags n)
      && has_follows c row flags (is_flagged flags n) body) bodies) g.rules
      && list_all is_completed_lead row

  abbrev pub agrees : ℕ → Bool
  agrees c = agrees_by c (row_of g c) (follows g c)

  -- the grammar can be parsed: at each class, and at the end, its alternatives agree; the end can follow the text; the
  -- text can be completed; and the sample piece of each class belongs to it
  abbrev pub is_readable : Bool
  is_readable =
      each_below (suc g.classes) agrees && is_flagged (follows g g.classes) 0 && is_flagged completed 0
      && each_below g.classes (λ c. g.class_of (g.sample c) == c)
