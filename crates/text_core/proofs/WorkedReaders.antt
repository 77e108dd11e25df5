-- The worked values of the order of faults, of where faults are shown, of limits and of laws.
use Rattle.std.proofs.Common.{◌≡◌, ℕ, ◌-◌, ◌<◌, ◌≤◌, nat_lt, Bool, true, false, List, [], ◌∷◌, Option, Some, None, refl}
use Rattle.std.proofs.Common.{sym, ap, subst, ◌∙◌, inl, inr, arith}
use Rattle.std.specs.Prelude.{if◌then◌else◌}
use Rattle.text_core.specs.Tokens.{Token, pieces}
use Rattle.text_core.specs.Readers.{Fault, walk}
use Rattle.text_core.specs.Faults.{Among, next_at}
use Rattle.text_core.specs.Stopping.{last_at, IsBehind}
use Rattle.text_core.specs.Rows.{Piece, Number, Comma, Wrong, Row, One, More, row_then, ParserState, Begins, Behind, Open}
use Rattle.text_core.specs.Rows.{Kind, Syntax, TooLarge, TooMany, count, step, finish, large_at, large_next}
use Rattle.text_core.specs.Rows.{many_behind, shown}
use Rattle.text_core.specs.WorkedReaders.{LawsAreWorkedOut, fault, OrderIsWorked, PlacesAreWorkedOut, HasSmallNumbers, HasReadSmall}
use Rattle.text_core.specs.WorkedReaders.{LeadsWithin, LimitsAreWorkedOut, WorkedReaders}
use Rattle.text_core.proofs.Walks.{walk-none}
use Rattle.text_core.proofs.Stopping.{last_before}
use Rattle.model.proofs.Cases.{none_some}
use Rattle.std.proofs.lemmas.Bool.{ltb-false as lt_false, le-ltb as false_lt}

-- no row begins with a comma
no_comma_first : (row : Row) (rest more : List Piece) → row_then row rest ≡ Comma ∷ more → ⊥
no_comma_first (One n) rest more e = cc
no_comma_first (More row n) rest more e = no_comma_first row (Comma ∷ Number n ∷ rest) more e

-- a row of one number has no comma
one_number_alone : Number 1 ∷ [] ≡ Number 1 ∷ Comma ∷ [] → ⊥
one_number_alone e = cc

-- two of the kinds differ
syntax_is_not_large : Syntax ≡ TooLarge → ⊥
syntax_is_not_large e = cc

-- each law fails for some reader while the others hold
laws_worked : LawsAreWorkedOut
laws_worked = record {
  leads_nowhere = λ l. let b = l.goes_on (Comma ∷ []) Begins refl in no_comma_first b.0 [] b.1 b.2;
  ends_wrongly = λ l. one_number_alone (l.ends (Comma ∷ Number 1 ∷ []) (Open (One 1)) (One 1) refl refl);
  never_ends = λ l. let r = l.reads (One 1) (Number 1 ∷ []) refl in none_some (One 1) r.2;
  one_number = λ l. syntax_is_not_large (l.differ Syntax TooLarge refl);
}

-- the worked values of the order of faults hold
order_worked : OrderIsWorked
order_worked = record {
  earlier = record { position = omega arith; kind = λ e. absurd (omega (arith, e)) };
  lesser_kind = record { position = omega arith; kind = λ e. omega arith };
  itself = record { position = omega arith; kind = λ e. omega arith };
  later = λ h. let p = h.position in omega (arith, p);
  greater_kind = λ h. let k = h.kind refl in omega (arith, k);
}

-- the fault of a large number is at the number's own position
large_there : (x : Fault Kind) (p : Piece) (at : ℕ) → Among x (large_at p at) → x.at ≡ at
large_there x (Number n) at h = go (nat_lt 9 n) h
  where
    go : (b : Bool) → Among x (if b then fault TooLarge at ∷ [] else []) → x.at ≡ at
    go true (inl e) = ap (λ (y : Fault Kind). y.at) e
    go true (inr a) = absurd a
    go false a = absurd a
large_there x Comma at h = absurd h
large_there x Wrong at h = absurd h

-- the fault of a large number is at the next token
next_large : (n : ℕ) (rest : List (Token Piece)) (x : Fault Kind) → Among x (large_next rest) → x.at ≡ next_at n rest
next_large n [] x a = absurd a
next_large n (t ∷ rest) x a = large_there x t.piece t.at a

-- the fault of too many numbers is at the last byte of the last token
many_there : (n : ℕ) (done : List (Token Piece)) (row : Row) (rest : List (Token Piece)) (x : Fault Kind)
    → IsBehind done (next_at n rest) → Among x (many_behind done (Behind row) rest) → last_at done ≤ x.at
many_there n [] row rest x behind a = absurd a
many_there n (t ∷ done) row (u ∷ rest) x behind a = absurd a
many_there n (t ∷ done) row [] x behind a = go (nat_lt 3 (count row)) a
  where
    go : (b : Bool) → Among x (if b then fault TooMany (t.upto - 1) ∷ [] else []) → t.at ≤ x.at
    go true (inl e) =
        let here : x.at ≡ t.upto - 1 = ap (λ (y : Fault Kind). y.at) e in
        let low : t.at < t.upto = behind.0 in
        omega (arith, here, low)
    go true (inr a) = absurd a
    go false a = absurd a

-- no fault that a state of the reader of rows shows is before the last token
shown_behind : (n : ℕ) (done : List (Token Piece)) (f : ParserState) (rest : List (Token Piece)) (x : Fault Kind)
    → IsBehind done (next_at n rest) → Among x (shown n done f rest) → last_at done ≤ x.at
shown_behind n done Begins rest x behind a =
    let there = next_large n rest x a in
    let low = last_before done (next_at n rest) behind in
    omega (arith, there, low)
shown_behind n done (Behind row) rest x behind a = many_there n done row rest x behind a
shown_behind n done (Open row) rest x behind a =
    let there = next_large n rest x a in
    let low = last_before done (next_at n rest) behind in
    omega (arith, there, low)

-- the worked values of where faults are shown hold
places_worked : PlacesAreWorkedOut
places_worked = record {
  rows_behind = record { each = shown_behind };
  rows_not_next = λ s.
      let e : ◌≡◌ {A = ℕ} 0 1 = s.each 1 (record { piece = Number 4; at = 0; upto = 1 } ∷ [])
      (Behind (More (More (More (One 1) 2) 3) 4)) [] (fault TooMany 0) (inl refl) in
      omega (arith, e);
  large_next_alone = record { each = λ n done f rest x a. next_large n rest x a };
  before_the_last = λ s.
      let e : 1 ≤ 0 = s.each 2 (record { piece = Number 4; at = 1; upto = 2 } ∷ []) (Behind (One 4)) []
      (fault TooMany 0) (omega arith, omega arith) (inl refl) in
      omega (arith, e);
}

-- a number that shows no fault is small
unshown_small : (m at : ℕ) → large_at (Number m) at ≡ [] → m ≤ 9
unshown_small m at h = go (nat_lt 9 m) refl h
  where
    go : (b : Bool) → nat_lt 9 m ≡ b → (if b then fault TooLarge at ∷ [] else []) ≡ [] → m ≤ 9
    go true e k = absurd (something k)
      where
        something : fault TooLarge at ∷ [] ≡ [] → ⊥
        something c = cc
    go false e k = lt_false 9 m e

-- a step from a state that shows no fault preserves small numbers
begun : (p : Piece) (at : ℕ) (g : ParserState) (ps : List Piece) → large_at p at ≡ [] → step Begins p ≡ Some g
    → HasReadSmall g ps
begun (Number m) at g ps none e = subst (λ (h : ParserState). HasReadSmall h ps) (same e) (unshown_small m at none)
  where
    same : Some (Behind (One m)) ≡ Some g → Behind (One m) ≡ g
    same k = cc
begun Comma at g ps none e = absurd (none_some g e)
begun Wrong at g ps none e = absurd (none_some g e)

opened : (row : Row) (p : Piece) (at : ℕ) (g : ParserState) (ps : List Piece) → HasSmallNumbers row → large_at p at ≡ []
    → step (Open row) p ≡ Some g → HasReadSmall g ps
opened row (Number m) at g ps small none e =
    subst (λ (h : ParserState). HasReadSmall h ps) (same e) (small, unshown_small m at none)
  where
    same : Some (Behind (More row m)) ≡ Some g → Behind (More row m) ≡ g
    same k = cc
opened row Comma at g ps small none e = absurd (none_some g e)
opened row Wrong at g ps small none e = absurd (none_some g e)

followed : (row : Row) (p : Piece) (g : ParserState) (ps : List Piece) → HasSmallNumbers row → step (Behind row) p ≡ Some g
    → HasReadSmall g ps
followed row Comma g ps small e = subst (λ (h : ParserState). HasReadSmall h ps) (same e) small
  where
    same : Some (Open row) ≡ Some g → Open row ≡ g
    same k = cc
followed row (Number m) g ps small e = absurd (none_some g e)
followed row Wrong g ps small e = absurd (none_some g e)

small_on : (n : ℕ) (done : List (Token Piece)) (f g : ParserState) (t : Token Piece) (rest : List (Token Piece))
    → HasReadSmall f (t.piece ∷ pieces rest) → shown n done f (t ∷ rest) ≡ [] → step f t.piece ≡ Some g
    → HasReadSmall g (pieces rest)
small_on n done Begins g t rest small none e = begun t.piece t.at g (pieces rest) none e
small_on n done (Behind row) g t rest small none e = followed row t.piece g (pieces rest) small e
small_on n done (Open row) g t rest small none e = opened row t.piece t.at g (pieces rest) small none e

-- a text that ends in a state with small numbers gives a row of small numbers
small_end : (f : ParserState) (row : Row) → HasReadSmall f [] → finish f ≡ Some row → HasSmallNumbers row
small_end Begins row small e = absurd (none_some row e)
small_end (Behind r) row small e = subst HasSmallNumbers (same e) small
  where
    same : Some r ≡ Some row → r ≡ row
    same k = cc
small_end (Open r) row small e = absurd (none_some row e)

-- a state in which a row of small numbers ends has small numbers
end_small : (f : ParserState) (row : Row) → finish f ≡ Some row → HasSmallNumbers row → HasReadSmall f []
end_small Begins row e small = tt
end_small (Behind r) row e small = subst HasSmallNumbers (same e) small
  where
    same : Some r ≡ Some row → row ≡ r
    same k = cc
end_small (Open r) row e small = absurd (none_some row e)

-- if the numbers are small after a step, they were small before it
small_back : (f g : ParserState) (p : Piece) → step f p ≡ Some g → HasReadSmall g [] → HasReadSmall f []
small_back Begins g p e small = tt
small_back (Behind row) g Comma e small = subst (λ (h : ParserState). HasReadSmall h []) (same e) small
  where
    same : Some (Open row) ≡ Some g → g ≡ Open row
    same k = cc
small_back (Behind row) g (Number m) e small = absurd (none_some g e)
small_back (Behind row) g Wrong e small = absurd (none_some g e)
small_back (Open row) g (Number m) e small = (subst (λ (h : ParserState). HasReadSmall h []) (same e) small).0
  where
    same : Some (Behind (More row m)) ≡ Some g → g ≡ Behind (More row m)
    same k = cc
small_back (Open row) g Comma e small = absurd (none_some g e)
small_back (Open row) g Wrong e small = absurd (none_some g e)

-- if the numbers are small after a walk, they were small before it
walk_small : (ps : List Piece) (f g : ParserState) → walk step (Some f) ps ≡ Some g → HasReadSmall g [] → HasReadSmall f []
walk_small [] f g w small = subst (λ (h : ParserState). HasReadSmall h []) (same w) small
  where
    same : Some f ≡ Some g → g ≡ f
    same k = cc
walk_small (p ∷ ps) f g w small = go (step f p) refl w (λ k v. walk_small ps k g v small)
  where
    go : (o : Option ParserState) → step f p ≡ o → walk step o ps ≡ Some g
        → ((k : ParserState) → walk step (Some k) ps ≡ Some g → HasReadSmall k []) → HasReadSmall f []
    go None e v ih = absurd (none_some g (sym (walk-none step ps) ∙ v))
    go (Some k) e v ih = small_back f k p e (ih k v)

-- the next number is small, if the pieces lead to a row within the limits
next_small : (m : ℕ) (ps : List Piece) → LeadsWithin Begins (Number m ∷ ps) → m ≤ 9
next_small m ps h =
    walk_small ps (Behind (One m)) h.front h.walked (end_small h.front h.row h.ended h.within.0)

open_small : (row : Row) (m : ℕ) (ps : List Piece) → LeadsWithin (Open row) (Number m ∷ ps) → m ≤ 9
open_small row m ps h =
    (walk_small ps (Behind (More row m)) h.front h.walked (end_small h.front h.row h.ended h.within.0)).1

-- a small number shows no fault
small_unshown : (m at : ℕ) → m ≤ 9 → large_at (Number m) at ≡ []
small_unshown m at l = ap (λ (b : Bool). if b then fault TooLarge at ∷ [] else []) (false_lt 9 m l)

-- no fault is shown at the first number of a row within the limits
begins_nothing : (rest : List (Token Piece)) → LeadsWithin Begins (pieces rest) → large_next rest ≡ []
begins_nothing [] h = refl
begins_nothing (t ∷ rest) h = go t.piece t.at h
  where
    go : (p : Piece) (at : ℕ) → LeadsWithin Begins (p ∷ pieces rest) → large_at p at ≡ []
    go (Number m) at k = small_unshown m at (next_small m (pieces rest) k)
    go Comma at k = refl
    go Wrong at k = refl

open_nothing : (row : Row) (rest : List (Token Piece)) → LeadsWithin (Open row) (pieces rest) → large_next rest ≡ []
open_nothing row [] h = refl
open_nothing row (t ∷ rest) h = go t.piece t.at h
  where
    go : (p : Piece) (at : ℕ) → LeadsWithin (Open row) (p ∷ pieces rest) → large_at p at ≡ []
    go (Number m) at k = small_unshown m at (open_small row m (pieces rest) k)
    go Comma at k = refl
    go Wrong at k = refl

-- after a row within the limits no fault of too many numbers is shown
behind_nothing : (done : List (Token Piece)) (row : Row) (rest : List (Token Piece)) → LeadsWithin (Behind row) (pieces rest)
    → many_behind done (Behind row) rest ≡ []
behind_nothing [] row rest h = refl
behind_nothing (t ∷ done) row (u ∷ rest) h = refl
behind_nothing (t ∷ done) row [] h =
    ap (λ (b : Bool). if b then fault TooMany (t.upto - 1) ∷ [] else []) (false_lt 3 (count row) few)
  where
    same : Some (Behind row) ≡ Some h.front → h.front ≡ Behind row
    same k = cc

    its_row : Some row ≡ Some h.row → h.row ≡ row
    its_row k = cc

    few : count row ≤ 3
    few = subst (λ (r : Row). count r ≤ 3) (its_row (sym (ap finish (same h.walked)) ∙ h.ended)) h.within.1

nothing_shown : (n : ℕ) (done : List (Token Piece)) (f : ParserState) (rest : List (Token Piece)) → LeadsWithin f (pieces rest)
    → shown n done f rest ≡ []
nothing_shown n done Begins rest h = begins_nothing rest h
nothing_shown n done (Behind row) rest h = behind_nothing done row rest h
nothing_shown n done (Open row) rest h = open_nothing row rest h

-- the list with the fault of a large number isn't empty
large_is_shown : fault TooLarge 0 ∷ [] ≡ [] → ⊥
large_is_shown e = cc

-- the worked values of limits hold
limits_worked : LimitsAreWorkedOut
limits_worked = record {
  small_numbers = record {
    begins = λ ps. tt;
    goes_on = λ n done f g t rest e small none s. small_on n done f g t rest small none s;
    ends = λ done f t e small fin. small_end f t small fin;
  };
  unkept_numbers = λ k.
      let e : 12 ≤ 9 = k.ends (Number 12 ∷ []) (Behind (One 12)) (One 12) refl tt refl in omega (arith, e);
  unkept_count = λ k.
      let e : 4 ≤ 3 = k.ends (Number 4 ∷ Comma ∷ Number 3 ∷ Comma ∷ Number 2 ∷ Comma ∷ Number 1 ∷ [])
      (Behind (More (More (More (One 1) 2) 3) 4)) (More (More (More (One 1) 2) 3) 4) refl
      (((omega arith, omega arith), omega arith), omega arith) refl in
      omega (arith, e);
  shows_nothing = record {
    ends = λ done f t e fin within.
        record { row = t; front = f; walked = refl; ended = fin; within = within };
    goes_back = λ done f g p ps e s small. record {
      row = small.row;
      front = small.front;
      walked = ap (λ (o : Option ParserState). walk step o ps) s ∙ small.walked;
      ended = small.ended;
      within = small.within;
    };
    nothing = λ n done f rest e small. nothing_shown n done f rest small;
  };
  any_state = λ s.
      large_is_shown (s.nothing 2 [] Begins (record { piece = Number 12; at = 0; upto = 2 } ∷ []) refl tt);
  no_state = λ s. s.ends (Number 1 ∷ []) (Behind (One 1)) (One 1) refl refl (omega arith, omega arith);
}

pub worked_readers : WorkedReaders
worked_readers = record { laws = laws_worked; order = order_worked; places = places_worked; limits = limits_worked }
