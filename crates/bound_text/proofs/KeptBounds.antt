-- The conditions on the tree so far that the checks of pieces ensure: constants, bases and variables in range.
use Rattle.std.proofs.Common.{◌≡◌, ℕ, zero, suc, ◌^◌, ◌<◌, nat_le, true, false, ◌&&◌, List, [], ◌∷◌, Some, refl, ap}
use Rattle.std.proofs.Common.{sym, subst, ◌∙◌, arith}
use Rattle.std.specs.Prelude.{⊤}
use Rattle.std.proofs.lemmas.Bool.Decides.{nat_tests}
use Rattle.text_core.specs.model.Bounds.{Bound, Constant, Input, SumOf, ProductOf, MaximumOf, PowerOf, Parts, NoParts}
use Rattle.text_core.specs.model.Bounds.{Part}
use Rattle.bound_expr.specs.Substitution.{ReadsBelow, AllReadBelow}
use Rattle.bound_expr.specs.Tidy.{IsTidy, AreTidy}
use Rattle.bound_text.specs.Shapes.{with_part, IsShaped, AreShaped}
use Rattle.bound_text.specs.Texts.{HasShortBases, HaveShortBases}
use Rattle.bound_text.specs.Pieces.{Piece, Variable, Number, Maximum, Open, Close, Times, Caret, Plus, Blank, Comma}
use Rattle.bound_text.specs.Pieces.{Wrong}
use Rattle.bound_text.specs.ParserStates.{Bracket, Arguments, Exponent, Factor, Outer, Whole, Inside, Position, ParserState, Begins}
use Rattle.bound_text.specs.ParserStates.{RunCaret, PowerCaret, ItemRead, BlankRead, PlusRead, CommaRead, last, term_of}
use Rattle.bound_text.specs.ParserStates.{bound_of_parts}
use Rattle.bound_text.specs.Steps.{with_copies, state_at_position, can_close, item_of}
use Rattle.bound_text.specs.Checks.{begins, is_large_base, is_large_number, has_large_base}
use Rattle.bound_text.proofs.PartLaws.{last-with_part}
use Rattle.bound_text.proofs.JoiningLaws.{as_one-with_part}
use Rattle.bound_text.proofs.StepCases.{Leads, of_variable, of_number, of_maximum, of_sum, of_run, of_power}
use Rattle.bound_text.proofs.StepCases.{of_power_of, of_exponent, of_times, of_base, of_caret, of_blank, of_comma}
use Rattle.bound_text.proofs.StepCases.{of_close, of_plus, of_term, of_argument}

-- the conditions on bounds and on lists of parts
abbrev mutual
  -- the checks keep large constants, large bases and unlisted variables out of a bound
  pub Kept : ℕ → Bound → Type 0
  Kept n (Constant c) = c < 2 ^ 127
  Kept n (Input i) = i < n
  Kept n (SumOf bs) = AllKept n bs
  Kept n (ProductOf bs) = AllKept n bs
  Kept n (MaximumOf bs) = AllKept n bs
  Kept n (PowerOf c e) = (c < 2 ^ 64) × Kept n e

  -- the conditions hold of each of several parts
  pub AllKept : ℕ → Parts → Type 0
  AllKept n NoParts = ⊤
  AllKept n (Part b bs) = Kept n b × AllKept n bs

-- the conditions hold of a bracket
abbrev pub KeptBracket : ℕ → Bracket → Type 0
KeptBracket n (Arguments bs) = AllKept n bs
KeptBracket n (Exponent c) = c < 2 ^ 64
KeptBracket n Factor = ⊤

-- the conditions hold of the part around a bound
abbrev pub KeptOuter : ℕ → Outer → Type 0
KeptOuter n Whole = ⊤
KeptOuter n (Inside bracket ts fs outer) = KeptBracket n bracket × AllKept n ts × AllKept n fs × KeptOuter n outer

-- the conditions hold of a position
abbrev pub KeptPosition : ℕ → Position → Type 0
KeptPosition n (RunCaret i) = i < n
KeptPosition n (PowerCaret c) = c < 2 ^ 64
KeptPosition n Begins = ⊤
KeptPosition n ItemRead = ⊤
KeptPosition n BlankRead = ⊤
KeptPosition n PlusRead = ⊤
KeptPosition n CommaRead = ⊤

pub record KeptState (n : ℕ) (f : ParserState) : Type 0 where
  pub outer : KeptOuter n f.outer
  pub terms : AllKept n f.terms
  pub factors : AllKept n f.factors
  pub position : KeptPosition n f.position

-- the conditions on a piece that passes the checks
abbrev pub KeptPiece : ℕ → Piece → Type 0
KeptPiece n (Variable i) = i < n
KeptPiece n (Number c) = c < 2 ^ 127
KeptPiece n Maximum = ⊤
KeptPiece n Open = ⊤
KeptPiece n Close = ⊤
KeptPiece n Times = ⊤
KeptPiece n Caret = ⊤
KeptPiece n Plus = ⊤
KeptPiece n Blank = ⊤
KeptPiece n Comma = ⊤
KeptPiece n Wrong = ⊥

-- each of the pieces meets the conditions
abbrev pub AllPiecesKept : ℕ → List Piece → Type 0
AllPiecesKept n [] = ⊤
AllPiecesKept n (p ∷ ps) = KeptPiece n p × AllPiecesKept n ps

-- parts with one more that meets the conditions meet them
pub kept-more : (n : ℕ) (bs : Parts) (b : Bound) → AllKept n bs → Kept n b → AllKept n (with_part bs b)
kept-more n NoParts b all here = (here, tt)
kept-more n (Part c cs) b all here = (all.0, kept-more n cs b all.1 here)

-- if parts with one more meet the conditions, so do the parts and that one
pub kept-less : (n : ℕ) (bs : Parts) (b : Bound) → AllKept n (with_part bs b) → AllKept n bs × Kept n b
kept-less n NoParts b all = (tt, all.0)
kept-less n (Part c cs) b all = let t = kept-less n cs b all.1 in ((all.0, t.0), t.1)

-- factors with copies of a listed variable after them meet the conditions
kept-copies : (n k i : ℕ) (fs : Parts) → i < n → AllKept n fs → AllKept n (with_copies k i fs)
kept-copies n zero i fs h all = all
kept-copies n (suc k) i fs h all = kept-more n (with_copies k i fs) (Input i) (kept-copies n k i fs h all) h

-- factors that meet the conditions make a term that does
kept_term : (n : ℕ) (fs : Parts) → AllKept n fs → Kept n (term_of fs)
kept_term n NoParts all = tt
kept_term n (Part b NoParts) all = all.0
kept_term n (Part b (Part c cs)) all = all

-- terms and factors that meet the conditions make a bound that does
pub kept_bound : (n : ℕ) (ts fs : Parts) → AllKept n ts → AllKept n fs → Kept n (bound_of_parts ts fs)
kept_bound n NoParts fs terms factors = kept_term n fs factors
kept_bound n (Part c cs) fs terms factors = subst (Kept n) (sym (as_one-with_part c cs (term_of fs))) (kept-more n (Part c cs) (term_of fs) terms (kept_term n fs factors))

-- a bracket and a bound that meet the conditions make an item that does
kept_item : (n : ℕ) (bracket : Bracket) (b : Bound) → KeptBracket n bracket → Kept n b → Kept n (item_of bracket b)
kept_item n (Arguments bs) b all here = kept-more n bs b all here
kept_item n (Exponent c) b all here = (all, here)
kept_item n Factor b all here = here

-- a state meets the conditions if its parts do
pub kept_state : (n : ℕ) (o : Outer) (ts fs : Parts) (position : Position) → KeptOuter n o → AllKept n ts → AllKept n fs → KeptPosition n position → KeptState n (state_at_position o ts fs position)
kept_state n o ts fs position a b c d = record { outer = a; terms = b; factors = c; position = d }

-- a base that passes the check is below 2^64
not_large : (c : ℕ) (fs : Parts) → is_large_number (last (with_part fs (Constant c))) ≡ false → c < 2 ^ 64
not_large c fs h = let e : nat_le (2 ^ 64) c ≡ false = sym (ap is_large_number (last-with_part fs (Constant c))) ∙ h in grind (arith, nat_tests)

-- a piece that passes the checks leads from a state that meets the conditions to one that does
pub keeps : (n : ℕ) (f g : ParserState) (piece : Piece) → Leads f piece g → KeptState n f → KeptPiece n piece → has_large_base f piece ≡ false → KeptState n g
keeps n f g piece (of_variable o ts fs i) k p h = kept_state n o ts (with_part fs (Input i)) ItemRead k.outer k.terms (kept-more n fs (Input i) k.factors p) tt
keeps n f g piece (of_number o ts fs c) k p h = kept_state n o ts (with_part fs (Constant c)) ItemRead k.outer k.terms (kept-more n fs (Constant c) k.factors p) tt
keeps n f g piece (of_maximum o ts fs) k p h = kept_state n (Inside (Arguments NoParts) ts fs o) NoParts NoParts Begins (tt, k.terms, k.factors, k.outer) tt tt tt
keeps n f g piece (of_sum o ts fs) k p h = kept_state n (Inside Factor ts fs o) NoParts NoParts Begins (tt, k.terms, k.factors, k.outer) tt tt tt
keeps n f g piece (of_run o ts fs i m) k p h = kept_state n o ts (with_copies (suc (suc m)) i fs) ItemRead k.outer k.terms (kept-copies n (suc (suc m)) i fs k.position k.factors) tt
keeps n f g piece (of_power o ts fs c m) k p h = kept_state n o ts (with_part fs (PowerOf c (Constant m))) ItemRead k.outer k.terms (kept-more n fs (PowerOf c (Constant m)) k.factors (k.position, p)) tt
keeps n f g piece (of_power_of o ts fs c i) k p h = kept_state n o ts (with_part fs (PowerOf c (Input i))) ItemRead k.outer k.terms (kept-more n fs (PowerOf c (Input i)) k.factors (k.position, p)) tt
keeps n f g piece (of_exponent o ts fs c) k p h = kept_state n (Inside (Exponent c) ts fs o) NoParts NoParts Begins (k.position, k.terms, k.factors, k.outer) tt tt tt
keeps n f g piece (of_times o ts fs e) k p h = kept_state n o ts fs Begins k.outer k.terms k.factors tt
keeps n f g piece (of_base o ts fs c) k p h = kept_state n o ts fs (PowerCaret c) k.outer k.terms (kept-less n fs (Constant c) k.factors).0 (not_large c fs h)
keeps n f g piece (of_caret o ts fs i) k p h = let t = kept-less n fs (Input i) k.factors in kept_state n o ts fs (RunCaret i) k.outer k.terms t.0 t.1
keeps n f g piece (of_blank o ts fs e) k p h = kept_state n o ts fs BlankRead k.outer k.terms k.factors tt
keeps n f g piece (of_comma o ts fs e) k p h = kept_state n o ts fs CommaRead k.outer k.terms k.factors tt
keeps n f g piece (of_close bracket o ts' fs' ts fs e c) k p h =
    kept_state n o ts' (with_part fs' (item_of bracket (bound_of_parts ts fs))) ItemRead k.outer.3 k.outer.1
    (kept-more n fs' (item_of bracket (bound_of_parts ts fs)) k.outer.2 (kept_item n bracket (bound_of_parts ts fs) k.outer.0 (kept_bound n ts fs k.terms k.factors))) tt
keeps n f g piece (of_plus o ts fs) k p h = kept_state n o ts fs PlusRead k.outer k.terms k.factors tt
keeps n f g piece (of_term o ts fs e) k p h = kept_state n o (with_part ts (term_of fs)) NoParts Begins k.outer (kept-more n ts (term_of fs) k.terms (kept_term n fs k.factors)) tt tt
keeps n f g piece (of_argument o bs ts' fs' ts fs e) k p h =
    kept_state n (Inside (Arguments (with_part bs (bound_of_parts ts fs))) ts' fs' o) NoParts NoParts Begins
    (kept-more n bs (bound_of_parts ts fs) k.outer.0 (kept_bound n ts fs k.terms k.factors), k.outer.1, k.outer.2, k.outer.3) tt tt tt

-- if the last factor of a product is a base that is too large, it was a number that began an item
no_number : (b : Bound) (fs : Parts) → is_large_number (Some b) ≡ false → is_large_number (last (with_part fs b)) ≡ false
no_number b fs h = ap is_large_number (last-with_part fs b) ∙ h

-- the item of a bracket is no base that is too large
item_no_number : (bracket : Bracket) (b : Bound) → can_close bracket b ≡ true → is_large_number (Some (item_of bracket b)) ≡ false
item_no_number (Arguments bs) b h = refl
item_no_number (Exponent c) b h = refl
item_no_number Factor (SumOf bs) h = refl
item_no_number Factor (Constant c) h = cc
item_no_number Factor (Input i) h = cc
item_no_number Factor (ProductOf bs) h = cc
item_no_number Factor (MaximumOf bs) h = cc
item_no_number Factor (PowerOf c e) h = cc

-- after a piece that isn't a base that is too large, no such base comes before a `^`
pub large_after : (f g : ParserState) (piece : Piece) → Leads f piece g → begins f.position && is_large_base piece ≡ false → has_large_base g Caret ≡ false
large_after f g piece (of_variable o ts fs i) h = no_number (Input i) fs refl
large_after f g piece (of_number o ts fs c) h = no_number (Constant c) fs h
large_after f g piece (of_maximum o ts fs) h = refl
large_after f g piece (of_sum o ts fs) h = refl
large_after f g piece (of_run o ts fs i m) h = no_number (Input i) (with_copies (suc m) i fs) refl
large_after f g piece (of_power o ts fs c m) h = no_number (PowerOf c (Constant m)) fs refl
large_after f g piece (of_power_of o ts fs c i) h = no_number (PowerOf c (Input i)) fs refl
large_after f g piece (of_exponent o ts fs c) h = refl
large_after f g piece (of_times o ts fs e) h = refl
large_after f g piece (of_base o ts fs c) h = refl
large_after f g piece (of_caret o ts fs i) h = refl
large_after f g piece (of_blank o ts fs e) h = refl
large_after f g piece (of_comma o ts fs e) h = refl
large_after f g piece (of_close bracket o ts' fs' ts fs e c) h = no_number (item_of bracket (bound_of_parts ts fs)) fs' (item_no_number bracket (bound_of_parts ts fs) c)
large_after f g piece (of_plus o ts fs) h = refl
large_after f g piece (of_term o ts fs e) h = refl
large_after f g piece (of_argument o bs ts' fs' ts fs e) h = refl

-- from the conditions to being tidy, for a bound and for parts
mutual
  -- a bound with the shape of a text that meets the conditions is tidy, reads listed variables alone, and has short
  -- bases
  pub kept_tidy : (n : ℕ) (b : Bound) → IsShaped b → Kept n b → IsTidy b × ReadsBelow n b × HasShortBases b
  kept_tidy n (Constant c) shaped kept = (omega (arith, kept), tt, tt)
  kept_tidy n (Input i) shaped kept = (tt, kept, tt)
  kept_tidy n (SumOf bs) shaped kept = let t = all_tidy n bs shaped.2 kept in (((shaped.0, shaped.1), t.0), (tt, t.1), t.2)
  kept_tidy n (ProductOf bs) shaped kept = let t = all_tidy n bs shaped.2 kept in (((shaped.0, shaped.1), t.0), (tt, t.1), t.2)
  kept_tidy n (MaximumOf bs) shaped kept = let t = all_tidy n bs shaped.2 kept in (((shaped.0, shaped.1), t.0), (tt, t.1), t.2)
  kept_tidy n (PowerOf c e) shaped kept = let t = kept_tidy n e shaped.1 kept.1 in ((shaped.0, t.0), (tt, t.1), (kept.0, t.2))

  -- parts with the shape of a text that meet the conditions are tidy, read listed variables alone, and have short bases
  all_tidy : (n : ℕ) (bs : Parts) → AreShaped bs → AllKept n bs → AreTidy bs × AllReadBelow n bs × HaveShortBases bs
  all_tidy n NoParts shaped kept = (tt, tt, tt)
  all_tidy n (Part b bs) shaped kept =
      let t = kept_tidy n b shaped.0 kept.0 in
      let u = all_tidy n bs shaped.1 kept.1 in
      ((t.0, u.0), (t.1, u.1), (t.2, u.2))

-- from being tidy to the conditions, for a bound and for parts
mutual
  -- a tidy bound that reads listed variables alone, with short bases, has the shape of a text and meets the conditions
  pub tidy_kept : (n : ℕ) (b : Bound) → IsTidy b → ReadsBelow n b → HasShortBases b → IsShaped b × Kept n b
  tidy_kept n (Constant c) tidy listed short = (tt, omega (arith, tidy))
  tidy_kept n (Input i) tidy listed short = (tt, listed)
  tidy_kept n (SumOf bs) tidy listed short = let t = all_kept n bs tidy.1 listed.1 short in ((tidy.0.0, tidy.0.1, t.0), t.1)
  tidy_kept n (ProductOf bs) tidy listed short = let t = all_kept n bs tidy.1 listed.1 short in ((tidy.0.0, tidy.0.1, t.0), t.1)
  tidy_kept n (MaximumOf bs) tidy listed short = let t = all_kept n bs tidy.1 listed.1 short in ((tidy.0.0, tidy.0.1, t.0), t.1)
  tidy_kept n (PowerOf c e) tidy listed short = let t = tidy_kept n e tidy.1 listed.1 short.1 in ((tidy.0, t.0), (short.0, t.1))

  -- tidy parts that read listed variables alone, with short bases, have the shape of a text and meet the conditions
  all_kept : (n : ℕ) (bs : Parts) → AreTidy bs → AllReadBelow n bs → HaveShortBases bs → AreShaped bs × AllKept n bs
  all_kept n NoParts tidy listed short = (tt, tt)
  all_kept n (Part b bs) tidy listed short =
      let t = tidy_kept n b tidy.0 listed.0 short.0 in
      let u = all_kept n bs tidy.1 listed.1 short.1 in
      ((t.0, u.0), (t.1, u.1))
