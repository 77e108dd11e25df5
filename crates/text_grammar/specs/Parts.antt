-- The parts of a printed text: pieces, marks, and values that are printed as a whole by their own events, such as
-- numbers.
use Rattle.std.specs.Prelude.{◌≡◌, ℕ, List, [], ◌∷◌, ◌++◌, Option, Some, None, ⊤}
use Rattle.text_grammar.specs.declared.symbol.Symbol.{Symbol}
use Rattle.text_grammar.specs.declared.symbol.Symbol.TheVariants.{Piece, Made, Mark}
use Rattle.text_grammar.specs.Grammars.{Grammar, Event, Read, Did, Derives, alternatives}
use Rattle.text_grammar.specs.Folds.{Fold, after, Passes}

-- a part of a printed text: a piece, a mark, or a value that is printed as a whole by its own events
pub data Part (P A : Type 0) : Type 0 where
  Says : P → Part P A
  Does : ℕ → Part P A
  Puts : A → Part P A

-- how values are printed as a whole: the events of each, its pieces, when it has no fault (`Fine`), and the state after
-- it (`put`)
pub record Wholes (P S A : Type 0) : Type 1 where
  pub events : A → List (Event P)
  pub text : A → List P
  pub Fine : S → A → Type 0
  pub put : A → S → S

module _ {P S T K A : Type 0} (f : Fold P S T K) (a : Wholes P S A) where
  -- the events of parts; their pieces
  abbrev pub events_of : List (Part P A) → List (Event P)
  events_of [] = []
  events_of (Says p ∷ xs) = Read p ∷ events_of xs
  events_of (Does m ∷ xs) = Did m ∷ events_of xs
  events_of (Puts z ∷ xs) = a.events z ++ events_of xs

  abbrev pub spelled : List (Part P A) → List P
  spelled [] = []
  spelled (Says p ∷ xs) = p ∷ spelled xs
  spelled (Does m ∷ xs) = spelled xs
  spelled (Puts z ∷ xs) = a.text z ++ spelled xs

  -- the state after the parts, from state s
  abbrev pub come : S → List (Part P A) → S
  come s [] = s
  come s (Says p ∷ xs) = come (f.read p s) xs
  come s (Does m ∷ xs) = come (f.done m s) xs
  come s (Puts z ∷ xs) = come (a.put z s) xs

  -- reading the parts from state s meets no fault
  abbrev pub Stand : S → List (Part P A) → Type 0
  Stand s [] = ⊤
  Stand s (Says p ∷ xs) = (f.reported_fault s p ≡ None) × Stand (f.read p s) xs
  Stand s (Does m ∷ xs) = Stand (f.done m s) xs
  Stand s (Puts z ∷ xs) = a.Fine s z × Stand (a.put z s) xs

-- V n are the values of nonterminal n, `parts` prints them, and `only c` is the piece of class c if it has exactly one
module _ {P A : Type 0} (g : Grammar P) (only : ℕ → Option P) (V : ℕ → Type 0) (parts : (n : ℕ) → V n → List (Part P A))
  where
    -- a piece of class c, unless the class has only one, followed by the rest
    abbrev pub Chosen : Option P → ℕ → Type 0 → Type 0
    Chosen (Some p) c rest = rest
    Chosen None c rest = (p : P) × (g.class_of p ≡ c) × rest

    -- the values of the symbols of a body
    abbrev pub Values : List Symbol → Type 0
    Values [] = ⊤
    Values (Piece c ∷ ss) = Chosen (only c) c (Values ss)
    Values (Mark m ∷ ss) = Values ss
    Values (Made n ∷ ss) = V n × Values ss

    abbrev pub chosen_parts : {R : Type 0} → (o : Option P) → (c : ℕ) → (R → List (Part P A)) → Chosen o c R
        → List (Part P A)
    chosen_parts (Some p) c more vs = Says p ∷ more vs
    chosen_parts None c more (p, k, vs) = Says p ∷ more vs

    -- the parts of the symbols of a body with these values
    abbrev pub body_parts : (ss : List Symbol) → Values ss → List (Part P A)
    body_parts [] u = []
    body_parts (Piece c ∷ ss) vs = chosen_parts (only c) c (body_parts ss) vs
    body_parts (Mark m ∷ ss) vs = Does m ∷ body_parts ss vs
    body_parts (Made n ∷ []) (v, u) = parts n v
    body_parts (Made n ∷ s ∷ ss) (v, vs) = parts n v ++ body_parts (s ∷ ss) vs

    -- `Holds` of the values that follow the piece
    abbrev pub chosen_in : {R : Type 0} → (o : Option P) → (c : ℕ) → (R → Type 0) → Chosen o c R → Type 0
    chosen_in (Some p) c Holds vs = Holds vs
    chosen_in None c Holds (p, k, vs) = Holds vs

module _ {P : Type 0} (g : Grammar P) (only : ℕ → Option P) where
  -- if `only c` is a piece, it is the one piece of class c
  pub record IsOnly : Type 0 where
    pub one : (c : ℕ) (p q : P) → only c ≡ Some p → g.class_of q ≡ c → q ≡ p
    pub its : (c : ℕ) (p : P) → only c ≡ Some p → g.class_of p ≡ c

module _ {P S T K A : Type 0} (f : Fold P S T K) (a : Wholes P S A) where
  -- the events of a value that is printed as a whole and has no fault show no fault, and lead to the state after it
  pub record IsPut : Type 0 where
    pub each : (s : S) (z : A) → a.Fine s z → Passes f s (a.events z) × (after f s (a.events z) ≡ a.put z s)

  -- the parts spell the pieces ps, and reading them from state s meets no fault and ends in state t
  pub record ComesTo (s t : S) (ps : List P) (xs : List (Part P A)) : Type 0 where
    pub spells : spelled f a xs ≡ ps
    pub stands : Stand f a s xs
    pub comes : come f a s xs ≡ t

  module _ (g : Grammar P) (only : ℕ → Option P) (V : ℕ → Type 0) (parts : (n : ℕ) → V n → List (Part P A)) where
    -- values of the symbols of an alternative give a value of its nonterminal, with the same pieces and the same end
    -- state
    abbrev pub Gives : ℕ → List Symbol → Type 0
    Gives n body = (vs : Values g only V parts body) (s t : S) (ps : List P)
        → ComesTo s t ps (body_parts g only V parts body vs) → (v : V n) × ComesTo s t ps (parts n v)

    abbrev pub AllGive : ℕ → List (List Symbol) → Type 0
    AllGive n [] = ⊤
    AllGive n (body ∷ bodies) = Gives n body × AllGive n bodies

    -- each alternative of each nonterminal gives values
    pub record AreMade : Type 0 where
      pub each : (n : ℕ) → AllGive n (alternatives g.rules n)

    -- values of the symbols of each of these alternatives are printed by the same parts as some value of the
    -- nonterminal
    abbrev pub AllMake : ℕ → List (List Symbol) → Type 0
    AllMake n [] = ⊤
    AllMake n (body ∷ bodies) = ((vs : Values g only V parts body) → (v : V n)
        × (parts n v ≡ body_parts g only V parts body vs)) × AllMake n bodies

    -- events of nonterminal n that show no fault from a state come from a value of n, with the same pieces and the same
    -- end state
    abbrev pub StandsFor : ℕ → List (Event P) → List P → Type 0
    StandsFor n es ps = (s : S) → Passes f s es → (v : V n) × ComesTo s (after f s es) ps (parts n v)

    -- a value's events are derived from its nonterminal
    abbrev pub Derived : (n : ℕ) → V n → Type 0
    Derived n v = Derives g (Made n ∷ []) (events_of f a (parts n v)) (spelled f a (parts n v))

    -- the values of symbols are derived
    abbrev pub AreDerived : (ss : List Symbol) → Values g only V parts ss → Type 0
    AreDerived [] u = ⊤
    AreDerived (Piece c ∷ ss) vs = chosen_in g only V parts (only c) c (AreDerived ss) vs
    AreDerived (Mark m ∷ ss) vs = AreDerived ss vs
    AreDerived (Made n ∷ ss) (v, vs) = Derived n v × AreDerived ss vs
