-- Each lead is right about the derivations of its symbols.
use Rattle.std.proofs.Common.{◌≡◌, ℕ, zero, suc, Bool, true, false, cond, List, [], ◌∷◌, ◌++◌, refl, ap, sym, subst}
use Rattle.std.proofs.Common.{◌∙◌, inl, inr, append_assoc}
use Rattle.std.specs.Prelude.{⊤, ◌==◌}
use Rattle.std.proofs.lemmas.Bool.{eqb-true}
use Rattle.std.proofs.Math.ListN.{get_or-map}
use Rattle.text_core.specs.Faults.{Among}
use Rattle.text_grammar.specs.declared.symbol.Symbol.{Symbol}
use Rattle.text_grammar.specs.declared.symbol.Symbol.TheVariants.{Piece, Made, Mark}
use Rattle.text_grammar.specs.Grammars.{Grammar, Event, Read, Derives, piece, mark, made, alternatives}
use Rattle.text_grammar.specs.Leads.{Lead, Matches, Passes, Stuck, behind, before, entry, lead, better, lead_among}
use Rattle.text_grammar.specs.Leads.{row_after}
use Rattle.text_grammar.specs.Texts.{marked}
use Rattle.text_grammar.proofs.Events.{marked-append}

-- a lead after no marks is unchanged
pub behind-nothing : (l : Lead) → behind [] l ≡ l
behind-nothing (Matches ms rest) = refl
behind-nothing (Passes ms) = refl
behind-nothing Stuck = refl

-- a lead after appended marks is the lead after each part
pub behind-append : (ms ns : List ℕ) (l : Lead) → behind ms (behind ns l) ≡ behind (ms ++ ns) l
behind-append ms ns (Matches ks rest) = ap (λ ls. Matches ls rest) (sym (append_assoc ms ns ks))
behind-append ms ns (Passes ks) = ap Passes (sym (append_assoc ms ns ks))
behind-append ms ns Stuck = refl

-- marks before symbols, which come before others, can be taken out
pub behind-before : (ms : List ℕ) (l : Lead) (rest : List Symbol) (k : Lead) → behind ms (before l rest k) ≡ before (behind ms l) rest k
behind-before ms (Matches ns body) rest k = refl
behind-before ms (Passes ns) rest k = behind-append ms ns k
behind-before ms Stuck rest k = refl

-- the lead of three parts doesn't depend on their grouping
pub before-before : (l : Lead) (xs ys : List Symbol) (k j : Lead) → before l (xs ++ ys) (before k ys j) ≡ before (before l xs k) ys j
before-before (Matches ms body) xs ys k j = ap (Matches ms) (sym (append_assoc body xs ys))
before-before (Passes ms) xs ys k j = behind-before ms k ys j
before-before Stuck xs ys k j = refl

-- the lead of appended symbols is that of the first part followed by the second
pub lead-append : (c : ℕ) (row : List Lead) (xs ys : List Symbol) → lead c row (xs ++ ys) ≡ before (lead c row xs) ys (lead c row ys)
lead-append c row [] ys = sym (behind-nothing (lead c row ys))
lead-append c row (Piece d ∷ xs) ys = go (d == c)
  where
    go : (v : Bool) → cond v (Matches [] (xs ++ ys)) Stuck ≡ before (cond v (Matches [] xs) Stuck) ys (lead c row ys)
    go true = refl
    go false = refl
lead-append c row (Mark m ∷ xs) ys = ap (behind (m ∷ [])) (lead-append c row xs ys) ∙ behind-before (m ∷ []) (lead c row xs) ys (lead c row ys)
lead-append c row (Made n ∷ xs) ys =
    ap (before (entry row n) (xs ++ ys)) (lead-append c row xs ys) ∙ before-before (entry row n) xs ys (lead c row xs) (lead c row ys)

module _ {P : Type 0} (g : Grammar P) where
  -- a lead is right about the derivations of symbols: if it matches, they derive its marks, a piece of the class and
  -- what its remaining symbols derive; if it passes, they derive its marks and no piece
  abbrev pub Says : ℕ → Lead → List Symbol → Type 0
  Says c (Matches ms body) ss = (p : P) → g.class_of p ≡ c → (rest : List Symbol) (es : List (Event P)) (ps : List P) → Derives g (body ++ rest) es ps → Derives g (ss ++ rest) (marked ms (Read p ∷ es)) (p ∷ ps)
  Says c (Passes ms) ss = (rest : List Symbol) (es : List (Event P)) (ps : List P) → Derives g rest es ps → Derives g (ss ++ rest) (marked ms es) ps
  Says c Stuck ss = ⊤

  -- if a lead is right about symbols, the lead after a mark is right about the mark and the symbols
  behind_says : (c m : ℕ) (l : Lead) (ss : List Symbol) → Says c l ss → Says c (behind (m ∷ []) l) (Mark m ∷ ss)
  behind_says c m (Matches ms body) ss h = λ p k rest es ps d. mark m (h p k rest es ps d)
  behind_says c m (Passes ms) ss h = λ rest es ps d. mark m (h rest es ps d)
  behind_says c m Stuck ss h = tt

  -- if leads are right about a nonterminal and about symbols, their combination is right about both together
  before_says : (c n : ℕ) (l : Lead) (ss : List Symbol) (k : Lead) → Says c l (Made n ∷ []) → Says c k ss → Says c (before l ss k) (Made n ∷ ss)
  before_says c n (Matches ms body) ss k h i = λ p e rest es ps d. h p e (ss ++ rest) es ps (subst (λ (xs : List Symbol). Derives g xs es ps) (append_assoc body ss rest) d)
  before_says c n (Passes ms) ss (Matches ns body) h i = λ p e rest es ps d.
      subst (λ (fs : List (Event P)). Derives g (Made n ∷ (ss ++ rest)) fs (p ∷ ps)) (sym (marked-append ms ns (Read p ∷ es)))
      (h (ss ++ rest) (marked ns (Read p ∷ es)) (p ∷ ps) (i p e rest es ps d))
  before_says c n (Passes ms) ss (Passes ns) h i = λ rest es ps d.
      subst (λ (fs : List (Event P)). Derives g (Made n ∷ (ss ++ rest)) fs ps) (sym (marked-append ms ns es)) (h (ss ++ rest) (marked ns es) ps (i rest es ps d))
  before_says c n (Passes ms) ss Stuck h i = tt
  before_says c n Stuck ss k h i = tt

  -- if a row is right about the nonterminals, a lead is right about symbols
  pub lead_says : (c : ℕ) (row : List Lead) → ((n : ℕ) → Says c (entry row n) (Made n ∷ [])) → (ss : List Symbol) → Says c (lead c row ss) ss
  lead_says c row h [] = λ rest es ps d. d
  lead_says c row h (Piece k ∷ ss) = go (k == c) refl
    where
      go : (v : Bool) → (k == c) ≡ v → Says c (cond v (Matches [] ss) Stuck) (Piece k ∷ ss)
      go true e = λ p f rest es ps d. subst (λ (j : ℕ). Derives g (Piece j ∷ (ss ++ rest)) (Read p ∷ es) (p ∷ ps)) (f ∙ sym (eqb-true k c e)) (piece p d)
      go false e = tt
  lead_says c row h (Mark m ∷ ss) = behind_says c m (lead c row ss) ss (lead_says c row h ss)
  lead_says c row h (Made n ∷ ss) = before_says c n (entry row n) ss (lead c row ss) (h n) (lead_says c row h ss)

  -- if two leads are right, so is the better one
  better_says : (c : ℕ) (l k : Lead) (ss : List Symbol) → Says c l ss → Says c k ss → Says c (better l k) ss
  better_says c (Matches ms rest) k ss h i = h
  better_says c (Passes ms) (Matches ns rest) ss h i = i
  better_says c (Passes ms) (Passes ns) ss h i = h
  better_says c (Passes ms) Stuck ss h i = h
  better_says c Stuck k ss h i = i

  -- a lead that is right about an alternative is right about its nonterminal
  made_says : (c n : ℕ) (l : Lead) (body : List Symbol) → Among body (alternatives g.rules n) → Says c l body → Says c l (Made n ∷ [])
  made_says c n (Matches ms rest) body a h = λ p e more es ps d. made n body a (h p e more es ps d)
  made_says c n (Passes ms) body a h = λ more es ps d. made n body a (h more es ps d)
  made_says c n Stuck body a h = tt

  -- the lead among alternatives is right about their nonterminal
  among_says : (c n : ℕ) (row : List Lead) → ((n : ℕ) → Says c (entry row n) (Made n ∷ [])) → (bodies : List (List Symbol)) → ((body : List Symbol) → Among body bodies → Among body (alternatives g.rules n))
      → Says c (lead_among c row bodies) (Made n ∷ [])
  among_says c n row h [] a = tt
  among_says c n row h (body ∷ bodies) a =
      better_says c (lead c row body) (lead_among c row bodies) (Made n ∷ []) (made_says c n (lead c row body) body (a body (inl refl)) (lead_says c row h body))
      (among_says c n row h bodies (λ b i. a b (inr i)))

  -- the row after this many rounds is right about the nonterminals
  pub row_says : (c k n : ℕ) → Says c (entry (row_after g.rules c k) n) (Made n ∷ [])
  row_says c zero n = tt
  row_says c (suc k) n =
      subst (λ (l : Lead). Says c l (Made n ∷ [])) (sym (get_or-map (lead_among c (row_after g.rules c k)) g.rules n []))
      (among_says c n (row_after g.rules c k) (row_says c k) (alternatives g.rules n) (λ b a. a))
