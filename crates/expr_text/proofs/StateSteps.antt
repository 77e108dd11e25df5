-- The effect of each piece on an expression's state: one more piece, and one more variable if it is a new name.
use Rattle.std.proofs.Common.{◌≡◌, ℕ, zero, suc, Bool, true, false, not, if◌then◌else◌, ◌&&◌, ◌||◌, ◌==◌, is_some, List}
use Rattle.std.proofs.Common.{[], ◌∷◌, length, codes, Option, Some, None, refl, ap, sym, subst, arith}
use Rattle.std.specs.Prelude.{⊤}
use Rattle.std.proofs.lemmas.Bool.Decides.{nat_tests}
use Rattle.its_model.specs.model.Programs.{Name}
use Rattle.its_model.specs.text_core.Names.{is_same}
use Rattle.expr_text.specs.Pieces.{Piece, Word, Digits, Open, Close, Plus, Minus, Times, Caret, Related, Joining}
use Rattle.expr_text.specs.Trees.{Sum, Factor, Plain, Raised, Negated, Base, Number, Named, Bracketed, sum_behind}
use Rattle.expr_text.specs.Trees.{base_behind}
use Rattle.expr_text.specs.Terms.{with_name, with_sum, with_product, with_factor}
use Rattle.expr_text.specs.GrammarStates.{Summed, NoSum, PlusAfter, MinusAfter, Factored, NoProduct, TimesAfter, Level}
use Rattle.expr_text.specs.GrammarStates.{Operand, Wanted, BaseRead, CaretRead, ExponentRead, GrammarState, beginning, negated}
use Rattle.expr_text.specs.GrammarStates.{product_with, sum_with, product_made, sum_made}
use Rattle.expr_text.specs.Steps.{closed, step_behind, step_from, step, finish_from, finish}
use Rattle.expr_text.specs.Guards.{Capitals, Smalls, Atom, Always, Compared}
use Rattle.expr_text.specs.GuardGrammarStates.{truth_named, truth_in, truth_of}
use Rattle.expr_text.specs.StateNames.{with_summed, with_factored, with_level, with_outer, names_with_state, truth_worded}
use Rattle.expr_text.specs.StateNames.{token_count, operates, begins_expression}
use Rattle.expr_text.proofs.StepLaws.{Adds, step_adds, IsWritten, finish_written}

-- each piece that is accepted increases the count of pieces by one
pub token_more : (e f : GrammarState) (p : Piece) → step e p ≡ Some f → token_count f ≡ suc (token_count e)
token_more e f p same = ap length (subst (λ o. Adds (λ q. q) [] e p o) same (step_adds (λ q. q) e p []))

-- an expression has as many pieces as were counted in the state that it ends
pub token_ended : (e : GrammarState) (s : Sum) → finish e ≡ Some s → length (sum_behind (λ p. p) s []) ≡ token_count e
token_ended e s same = ap length (subst (λ o. IsWritten (λ p. p) [] e o) same (finish_written (λ p. p) e []))

-- a state without tokens is the beginning
base_there : (b : Base) (before : List Piece) → ¬ (length (base_behind (λ p. p) b before) ≡ 0)
base_there (Number ds) before h = omega (arith, h)
base_there (Named n) before h = omega (arith, h)
base_there (Bracketed s) before h = omega (arith, h)

nothing_in : (outer : List Level) (sum : Summed) (product : Factored) (n : ℕ) (operand : Operand)
    → token_count
    (record { outer = outer; level = record { sum = sum; product = product; minuses = n }; operand = operand }) ≡ 0
    → record { outer = outer; level = record { sum = sum; product = product; minuses = n }; operand = operand }
    ≡ beginning
nothing_in [] NoSum NoProduct zero Wanted h = refl
nothing_in (l ∷ outer) NoSum NoProduct zero Wanted h = absurd (omega (arith, h))
nothing_in outer (PlusAfter s) NoProduct zero Wanted h = absurd (omega (arith, h))
nothing_in outer (MinusAfter s) NoProduct zero Wanted h = absurd (omega (arith, h))
nothing_in outer sum (TimesAfter p) zero Wanted h = absurd (omega (arith, h))
nothing_in outer sum factors (suc n) Wanted h = absurd (omega (arith, h))
nothing_in outer sum factors n (BaseRead b) h = absurd (base_there b _ h)
nothing_in outer sum factors n (CaretRead b) h = absurd (omega (arith, h))
nothing_in outer sum factors n (ExponentRead b ds) h = absurd (omega (arith, h))

-- a state in which no piece has been read is the beginning
pub nothing_read : (e : GrammarState) → token_count e ≡ 0 → e ≡ beginning
nothing_read e h = nothing_in e.outer e.level.sum e.level.product e.level.minuses e.operand h

-- an expression that ends has at least one piece
pub ended_there : (e : GrammarState) (s : Sum) → finish e ≡ Some s → ¬ (token_count e ≡ 0)
ended_there e s same h = none (subst (λ f. finish f ≡ Some s) (nothing_read e h) same)
  where
    none : None ≡ Some s → ⊥
    none k = cc

-- an expression can begin with each piece that is accepted at the beginning
begins_from : (p : Piece) (f : GrammarState) → step beginning p ≡ Some f → begins_expression p ≡ true
begins_from (Word n) f same = refl
begins_from (Digits ds) f same = refl
begins_from Open f same = refl
begins_from Minus f same = refl
begins_from Close f same = cc
begins_from Plus f same = cc
begins_from Times f same = cc
begins_from Caret f same = cc
begins_from (Related sign) f same = cc
begins_from (Joining joint) f same = cc

-- an expression can begin with the first piece that is accepted
pub first_begins : (e f : GrammarState) (p : Piece) → token_count e ≡ 0 → step e p ≡ Some f → begins_expression p ≡ true
first_begins e f p h same = begins_from p f (subst (λ g. step g p ≡ Some f) (nothing_read e h) same)

-- `-` signs change neither the variables after a factor, nor those after its product and after its sum
negated_names : (names : List Name) (n : ℕ) (f : Factor) → with_factor names (negated n f) ≡ with_factor names f
negated_names names zero f = refl
negated_names names (suc n) f = negated_names names n (Negated f)

product_names : (names : List Name) (p : Factored) (n : ℕ) (f : Factor)
    → with_product names (product_with p (negated n f)) ≡ with_factor (with_factored names p) f
product_names names NoProduct n f = negated_names names n f
product_names names (TimesAfter p) n f = negated_names (with_product names p) n f

sum_names : (names : List Name) (l : Level) (f : Factor)
    → with_sum names (sum_made l f) ≡ with_factor (with_level names l) f
sum_names names l f = go l.sum
  where
    go : (s : Summed)
        → with_sum names (sum_with s (product_made l f)) ≡ with_factor (with_factored (with_summed names s) l.product) f
    go NoSum = product_names names l.product l.minuses f
    go (PlusAfter s) = product_names (with_sum names s) l.product l.minuses f
    go (MinusAfter s) = product_names (with_sum names s) l.product l.minuses f

-- the variables known once one more piece is read
abbrev pub with_piece : List Name → Piece → List Name
with_piece names (Word name) = with_name names name
with_piece names (Digits ds) = names
with_piece names Open = names
with_piece names Close = names
with_piece names Plus = names
with_piece names Minus = names
with_piece names Times = names
with_piece names Caret = names
with_piece names (Related sign) = names
with_piece names (Joining joint) = names

abbrev NamesAdd : List Name → List Name → Piece → Option GrammarState → Type 0
NamesAdd names read p None = ⊤
NamesAdd names read p (Some f) = names_with_state names f ≡ with_piece read p

module _ (names : List Name) where
  closed_names : (outer : List Level) (level : Level) (f : Factor)
      → NamesAdd names (with_factor (with_level (with_outer names outer) level) f) Close
      (closed outer (sum_made level f))
  closed_names [] level f = tt
  closed_names (l ∷ outer) level f = sum_names (with_outer names (l ∷ outer)) level f

  behind_names : (outer : List Level) (level : Level) (f : Factor) (p : Piece)
      → NamesAdd names (with_factor (with_level (with_outer names outer) level) f) p (step_behind outer level f p)
  behind_names outer level f Times =
      product_names (with_summed (with_outer names outer) level.sum) level.product level.minuses f
  behind_names outer level f Plus = sum_names (with_outer names outer) level f
  behind_names outer level f Minus = sum_names (with_outer names outer) level f
  behind_names outer level f Close = closed_names outer level f
  behind_names outer level f (Word n) = tt
  behind_names outer level f (Digits ds) = tt
  behind_names outer level f Open = tt
  behind_names outer level f Caret = tt
  behind_names outer level f (Related sign) = tt
  behind_names outer level f (Joining joint) = tt

  names_from : (outer : List Level) (level : Level) (operand : Operand) (p : Piece)
      → NamesAdd names (names_with_state names (record { outer = outer; level = level; operand = operand })) p
      (step_from outer level operand p)
  names_from outer level Wanted (Digits ds) = refl
  names_from outer level Wanted (Word n) = refl
  names_from outer level Wanted Open = refl
  names_from outer level Wanted Minus = refl
  names_from outer level Wanted Close = tt
  names_from outer level Wanted Plus = tt
  names_from outer level Wanted Times = tt
  names_from outer level Wanted Caret = tt
  names_from outer level Wanted (Related sign) = tt
  names_from outer level Wanted (Joining joint) = tt
  names_from outer level (BaseRead b) Caret = refl
  names_from outer level (BaseRead b) (Word n) = tt
  names_from outer level (BaseRead b) (Digits ds) = tt
  names_from outer level (BaseRead b) Open = tt
  names_from outer level (BaseRead b) Close = behind_names outer level (Plain b) Close
  names_from outer level (BaseRead b) Plus = behind_names outer level (Plain b) Plus
  names_from outer level (BaseRead b) Minus = behind_names outer level (Plain b) Minus
  names_from outer level (BaseRead b) Times = behind_names outer level (Plain b) Times
  names_from outer level (BaseRead b) (Related sign) = tt
  names_from outer level (BaseRead b) (Joining joint) = tt
  names_from outer level (CaretRead b) (Digits ds) = refl
  names_from outer level (CaretRead b) (Word n) = tt
  names_from outer level (CaretRead b) Open = tt
  names_from outer level (CaretRead b) Close = tt
  names_from outer level (CaretRead b) Plus = tt
  names_from outer level (CaretRead b) Minus = tt
  names_from outer level (CaretRead b) Times = tt
  names_from outer level (CaretRead b) Caret = tt
  names_from outer level (CaretRead b) (Related sign) = tt
  names_from outer level (CaretRead b) (Joining joint) = tt
  names_from outer level (ExponentRead b ds) p = behind_names outer level (Raised b ds) p

  -- a piece that is accepted adds no variable but its name, if that is new
  pub names_more : (e f : GrammarState) (p : Piece) → step e p ≡ Some f
      → names_with_state names f ≡ with_piece (names_with_state names e) p
  names_more e f p same =
      subst (λ o. NamesAdd names (names_with_state names e) p o) same (names_from e.outer e.level e.operand p)

  -- if an expression ends here, its variables are those of the state
  abbrev EndsNamed : List Name → Option Sum → Type 0
  EndsNamed read None = ⊤
  EndsNamed read (Some s) = with_sum names s ≡ read

  ended_from : (outer : List Level) (level : Level) (operand : Operand)
      → EndsNamed (names_with_state names (record { outer = outer; level = level; operand = operand }))
      (finish_from outer level operand)
  ended_from [] level Wanted = tt
  ended_from [] level (BaseRead b) = sum_names names level (Plain b)
  ended_from [] level (CaretRead b) = tt
  ended_from [] level (ExponentRead b ds) = sum_names names level (Raised b ds)
  ended_from (l ∷ outer) level operand = tt

  -- the variables of an expression are those of the state that it ends
  pub names_ended : (e : GrammarState) (s : Sum) → finish e ≡ Some s → with_sum names s ≡ names_with_state names e
  names_ended e s same = subst (λ o. EndsNamed (names_with_state names e) o) same (ended_from e.outer e.level e.operand)

-- an operand that isn't a name is no atom by itself
abbrev NoName : Operand → Type 0
NoName Wanted = ⊤
NoName (BaseRead (Number ds)) = ⊤
NoName (BaseRead (Named n)) = ⊥
NoName (BaseRead (Bracketed s)) = ⊤
NoName (CaretRead b) = ⊤
NoName (ExponentRead b ds) = ⊤

no_truth : (outer : List Level) (sum : Summed) (product : Factored) (n : ℕ) (operand : Operand) → NoName operand
    → is_some (truth_in outer (record { sum = sum; product = product; minuses = n }) operand) ≡ false
no_truth [] NoSum NoProduct zero (BaseRead (Named name)) h = absurd h
no_truth [] NoSum NoProduct zero (BaseRead (Number ds)) h = refl
no_truth [] NoSum NoProduct zero (BaseRead (Bracketed s)) h = refl
no_truth [] NoSum NoProduct zero Wanted h = refl
no_truth [] NoSum NoProduct zero (CaretRead b) h = refl
no_truth [] NoSum NoProduct zero (ExponentRead b ds) h = refl
no_truth [] NoSum NoProduct (suc n) operand h = refl
no_truth [] NoSum (TimesAfter q) n operand h = refl
no_truth [] (PlusAfter s) factors n operand h = refl
no_truth [] (MinusAfter s) factors n operand h = refl
no_truth (l ∷ outer) sum factors n operand h = refl

named_truth : (name : Name) → is_some (truth_named name) ≡ truth_worded name
named_truth name = go (is_same name (codes "TRUE")) (is_same name (codes "true"))
  where
    go : (a b : Bool)
        → is_some (if a then Some (Always Capitals) else if b then Some (Always Smalls) else None) ≡ a || b
    go true b = refl
    go false true = refl
    go false false = refl

-- the piece is the word of the atom that always holds, as the first piece of the expression
abbrev pub begins_truth : GrammarState → Piece → Bool
begins_truth e (Word name) = (token_count e == 0) && truth_worded name
begins_truth e (Digits ds) = false
begins_truth e Open = false
begins_truth e Close = false
begins_truth e Plus = false
begins_truth e Minus = false
begins_truth e Times = false
begins_truth e Caret = false
begins_truth e (Related sign) = false
begins_truth e (Joining joint) = false

some_count : (p : Piece) (ps : List Piece) → (length (p ∷ ps) == 0) ≡ false
some_count p ps = grind (arith, nat_tests)

word_truth : (outer : List Level) (sum : Summed) (product : Factored) (n : ℕ) (name : Name)
    → is_some (truth_in outer (record { sum = sum; product = product; minuses = n }) (BaseRead (Named name)))
    ≡ begins_truth
    (record { outer = outer; level = record { sum = sum; product = product; minuses = n }; operand = Wanted })
    (Word name)
word_truth [] NoSum NoProduct zero name = named_truth name
word_truth [] NoSum NoProduct (suc n) name = ap (λ v. v && truth_worded name) (sym (some_count Minus _))
word_truth [] NoSum (TimesAfter q) zero name = ap (λ v. v && truth_worded name) (sym (some_count Times _))
word_truth [] NoSum (TimesAfter q) (suc n) name = ap (λ v. v && truth_worded name) (sym (some_count Minus _))
word_truth [] (PlusAfter s) NoProduct zero name = ap (λ v. v && truth_worded name) (sym (some_count Plus _))
word_truth [] (PlusAfter s) (TimesAfter q) zero name = ap (λ v. v && truth_worded name) (sym (some_count Times _))
word_truth [] (PlusAfter s) factors (suc n) name = ap (λ v. v && truth_worded name) (sym (some_count Minus _))
word_truth [] (MinusAfter s) NoProduct zero name = ap (λ v. v && truth_worded name) (sym (some_count Minus _))
word_truth [] (MinusAfter s) (TimesAfter q) zero name = ap (λ v. v && truth_worded name) (sym (some_count Times _))
word_truth [] (MinusAfter s) factors (suc n) name = ap (λ v. v && truth_worded name) (sym (some_count Minus _))
word_truth (l ∷ outer) NoSum NoProduct zero name = ap (λ v. v && truth_worded name) (sym (some_count Open _))
word_truth (l ∷ outer) (PlusAfter s) NoProduct zero name = ap (λ v. v && truth_worded name) (sym (some_count Plus _))
word_truth (l ∷ outer) (MinusAfter s) NoProduct zero name = ap (λ v. v && truth_worded name) (sym (some_count Minus _))
word_truth (l ∷ outer) sum (TimesAfter q) zero name = ap (λ v. v && truth_worded name) (sym (some_count Times _))
word_truth (l ∷ outer) sum factors (suc n) name = ap (λ v. v && truth_worded name) (sym (some_count Minus _))

abbrev StepsTruth : GrammarState → Piece → Option GrammarState → Type 0
StepsTruth e p None = ⊤
StepsTruth e p (Some f) = is_some (truth_of f) ≡ begins_truth e p

module _ (e : GrammarState) where
  closed_truth : (outer : List Level) (s : Sum) → StepsTruth e Close (closed outer s)
  closed_truth [] s = tt
  closed_truth (l ∷ outer) s = no_truth outer l.sum l.product l.minuses (BaseRead (Bracketed s)) tt

  behind_truth : (outer : List Level) (level : Level) (f : Factor) (p : Piece)
      → StepsTruth e p (step_behind outer level f p)
  behind_truth outer level f Times = no_truth outer level.sum (TimesAfter (product_made level f)) 0 Wanted tt
  behind_truth outer level f Plus = no_truth outer (PlusAfter (sum_made level f)) NoProduct 0 Wanted tt
  behind_truth outer level f Minus = no_truth outer (MinusAfter (sum_made level f)) NoProduct 0 Wanted tt
  behind_truth outer level f Close = closed_truth outer (sum_made level f)
  behind_truth outer level f (Word n) = tt
  behind_truth outer level f (Digits ds) = tt
  behind_truth outer level f Open = tt
  behind_truth outer level f Caret = tt
  behind_truth outer level f (Related sign) = tt
  behind_truth outer level f (Joining joint) = tt

truth_from : (outer : List Level) (level : Level) (operand : Operand) (p : Piece)
    → StepsTruth (record { outer = outer; level = level; operand = operand }) p (step_from outer level operand p)
truth_from outer level Wanted (Digits ds) =
    no_truth outer level.sum level.product level.minuses (BaseRead (Number ds)) tt
truth_from outer level Wanted (Word n) = word_truth outer level.sum level.product level.minuses n
truth_from outer level Wanted Open = refl
truth_from outer level Wanted Minus = no_truth outer level.sum level.product (suc level.minuses) Wanted tt
truth_from outer level Wanted Close = tt
truth_from outer level Wanted Plus = tt
truth_from outer level Wanted Times = tt
truth_from outer level Wanted Caret = tt
truth_from outer level Wanted (Related sign) = tt
truth_from outer level Wanted (Joining joint) = tt
truth_from outer level (BaseRead b) Caret = no_truth outer level.sum level.product level.minuses (CaretRead b) tt
truth_from outer level (BaseRead b) (Word n) = tt
truth_from outer level (BaseRead b) (Digits ds) = tt
truth_from outer level (BaseRead b) Open = tt
truth_from outer level (BaseRead b) Close =
    behind_truth (record { outer = outer; level = level; operand = BaseRead b }) outer level (Plain b) Close
truth_from outer level (BaseRead b) Plus =
    behind_truth (record { outer = outer; level = level; operand = BaseRead b }) outer level (Plain b) Plus
truth_from outer level (BaseRead b) Minus =
    behind_truth (record { outer = outer; level = level; operand = BaseRead b }) outer level (Plain b) Minus
truth_from outer level (BaseRead b) Times =
    behind_truth (record { outer = outer; level = level; operand = BaseRead b }) outer level (Plain b) Times
truth_from outer level (BaseRead b) (Related sign) = tt
truth_from outer level (BaseRead b) (Joining joint) = tt
truth_from outer level (CaretRead b) (Digits ds) =
    no_truth outer level.sum level.product level.minuses (ExponentRead b ds) tt
truth_from outer level (CaretRead b) (Word n) = tt
truth_from outer level (CaretRead b) Open = tt
truth_from outer level (CaretRead b) Close = tt
truth_from outer level (CaretRead b) Plus = tt
truth_from outer level (CaretRead b) Minus = tt
truth_from outer level (CaretRead b) Times = tt
truth_from outer level (CaretRead b) Caret = tt
truth_from outer level (CaretRead b) (Related sign) = tt
truth_from outer level (CaretRead b) (Joining joint) = tt
truth_from outer level (ExponentRead b ds) p =
    behind_truth (record { outer = outer; level = level; operand = ExponentRead b ds }) outer level (Raised b ds) p

-- the state is the atom that always holds exactly if its only piece is the word of that atom
pub truth_more : (e f : GrammarState) (p : Piece) → step e p ≡ Some f → is_some (truth_of f) ≡ begins_truth e p
truth_more e f p same = subst (λ o. StepsTruth e p o) same (truth_from e.outer e.level e.operand p)

-- a conjunction with a test that fails fails
and_false : (v : Bool) → (v && false) ≡ false
and_false true = refl
and_false false = refl

goes_from : (outer : List Level) (sum : Summed) (product : Factored) (n : ℕ) (operand : Operand) (p : Piece) (f : GrammarState)
    → step_from outer (record { sum = sum; product = product; minuses = n }) operand p ≡ Some f
    → (is_some (truth_in outer (record { sum = sum; product = product; minuses = n }) operand) && not (operates p))
    ≡ false
goes_from [] NoSum NoProduct zero (BaseRead (Named name)) Plus f same = and_false _
goes_from [] NoSum NoProduct zero (BaseRead (Named name)) Minus f same = and_false _
goes_from [] NoSum NoProduct zero (BaseRead (Named name)) Times f same = and_false _
goes_from [] NoSum NoProduct zero (BaseRead (Named name)) Caret f same = and_false _
goes_from [] NoSum NoProduct zero (BaseRead (Named name)) (Related sign) f same = and_false _
goes_from [] NoSum NoProduct zero (BaseRead (Named name)) (Word n) f same = cc
goes_from [] NoSum NoProduct zero (BaseRead (Named name)) (Digits ds) f same = cc
goes_from [] NoSum NoProduct zero (BaseRead (Named name)) Open f same = cc
goes_from [] NoSum NoProduct zero (BaseRead (Named name)) Close f same = cc
goes_from [] NoSum NoProduct zero (BaseRead (Named name)) (Joining joint) f same = cc
goes_from [] NoSum NoProduct zero (BaseRead (Number ds)) p f same = refl
goes_from [] NoSum NoProduct zero (BaseRead (Bracketed s)) p f same = refl
goes_from [] NoSum NoProduct zero Wanted p f same = refl
goes_from [] NoSum NoProduct zero (CaretRead b) p f same = refl
goes_from [] NoSum NoProduct zero (ExponentRead b ds) p f same = refl
goes_from [] NoSum NoProduct (suc n) operand p f same = refl
goes_from [] NoSum (TimesAfter q) n operand p f same = refl
goes_from [] (PlusAfter s) factors n operand p f same = refl
goes_from [] (MinusAfter s) factors n operand p f same = refl
goes_from (l ∷ outer) sum factors n operand p f same = refl

-- only an operator continues the word of the atom that always holds
pub truth_goes_on : (e f : GrammarState) (p : Piece) → step e p ≡ Some f → (is_some (truth_of e) && not (operates p)) ≡ false
truth_goes_on e f p same = goes_from e.outer e.level.sum e.level.product e.level.minuses e.operand p f same

-- the atom that always holds has a single piece
abbrev pub IsAlways : Atom → Type 0
IsAlways (Always t) = ⊤
IsAlways (Compared l sign r) = ⊥

abbrev OfTruth : Option Atom → Type 0
OfTruth None = ⊤
OfTruth (Some a) = IsAlways a

named_always : (name : Name) → OfTruth (truth_named name)
named_always name = go (is_same name (codes "TRUE")) (is_same name (codes "true"))
  where
    go : (a b : Bool) → OfTruth (if a then Some (Always Capitals) else if b then Some (Always Smalls) else None)
    go true b = tt
    go false true = tt
    go false false = tt

truth_tokens : (outer : List Level) (sum : Summed) (product : Factored) (n : ℕ) (operand : Operand) (a : Atom)
    → truth_in outer (record { sum = sum; product = product; minuses = n }) operand ≡ Some a
    → (token_count
    (record { outer = outer; level = record { sum = sum; product = product; minuses = n }; operand = operand })
    ≡ 1) × IsAlways a
truth_tokens [] NoSum NoProduct zero (BaseRead (Named name)) a same = (refl, subst OfTruth same (named_always name))
truth_tokens [] NoSum NoProduct zero (BaseRead (Number ds)) a same = cc
truth_tokens [] NoSum NoProduct zero (BaseRead (Bracketed s)) a same = cc
truth_tokens [] NoSum NoProduct zero Wanted a same = cc
truth_tokens [] NoSum NoProduct zero (CaretRead b) a same = cc
truth_tokens [] NoSum NoProduct zero (ExponentRead b ds) a same = cc
truth_tokens [] NoSum NoProduct (suc n) operand a same = cc
truth_tokens [] NoSum (TimesAfter q) n operand a same = cc
truth_tokens [] (PlusAfter s) factors n operand a same = cc
truth_tokens [] (MinusAfter s) factors n operand a same = cc
truth_tokens (l ∷ outer) sum factors n operand a same = cc

-- a state that is an atom by itself has one piece, and the atom is the one that always holds
pub truth_is_one : (e : GrammarState) (a : Atom) → truth_of e ≡ Some a → (token_count e ≡ 1) × IsAlways a
truth_is_one e a same = truth_tokens e.outer e.level.sum e.level.product e.level.minuses e.operand a same
