-- How tokens of while programs spell the expressions and atoms of programs.
use Rattle.std.specs.Prelude.{◌≡◌, ℕ, if◌then◌else◌, List, [], ◌∷◌, ◌++◌, codes, map, Option, Some, None}
use Rattle.text_core.specs.Names.{is_same}
use Rattle.text_core.specs.Readers.{onto}
use Rattle.expr_text.specs.Pieces as programs
use Rattle.expr_text.specs.Pieces.{Word, Digits, Open, Close, Plus, Minus, Times, Caret, Sign, AtLeastSign}
use Rattle.expr_text.specs.Pieces.{MoreThanSign, AtMostSign, LessThanSign, EqualSign, DoubleEqualSign}
use Rattle.expr_text.specs.Pieces.{Joint, Ampersands, Wedge}
use Rattle.expr_text.specs.Trees.{Sum, sum_behind}
use Rattle.expr_text.specs.Guards.{Truth, Capitals, Smalls, Atom, Always, Compared, Atoms, First, Joined}
use Rattle.while_text.specs.declared.piece.Sort.{Sort}
use Rattle.while_text.specs.declared.piece.Sort.TheVariants as sorts
use Rattle.while_text.specs.declared.piece.Piece.{Piece}
use Rattle.while_text.specs.Drafts.{bytes_of}

-- The token of a program's expression that a token with these bytes is; keywords and `TRUE` are none, since they aren't
-- names in while programs.
abbrev pub spelled_by : Sort → List ℕ → Option programs.Piece
spelled_by sorts.Name bytes = Some (Word bytes)
spelled_by (sorts.Number n) bytes = Some (Digits bytes)
spelled_by sorts.Open bytes = Some Open
spelled_by sorts.Close bytes = Some Close
spelled_by sorts.Plus bytes = Some Plus
spelled_by sorts.Minus bytes = Some Minus
spelled_by sorts.Times bytes = Some Times
spelled_by sorts.Caret bytes = Some Caret
spelled_by _ bytes = None

-- The token of a program's expression that a token of a text is.
abbrev pub spelled : List ℕ → Piece → Option programs.Piece
spelled text p = spelled_by p.sort (bytes_of text p)

-- The tokens of a text spell an expression: one by one, they are the tokens of its written form in programs.
abbrev pub SpellSum : List ℕ → Sum → List Piece → Type 0
SpellSum text s ps = map (spelled text) ps ≡ onto (sum_behind Some s []) []

-- The sign of a relation; equality has two signs.
abbrev pub sign_by : Sort → List ℕ → Option Sign
sign_by sorts.AtLeast bytes = Some AtLeastSign
sign_by sorts.MoreThan bytes = Some MoreThanSign
sign_by sorts.AtMost bytes = Some AtMostSign
sign_by sorts.LessThan bytes = Some LessThanSign
sign_by sorts.Equal bytes = Some (if is_same bytes (codes "==") then DoubleEqualSign else EqualSign)
sign_by _ bytes = None

-- The sign between atoms, `&&` or `/\`.
abbrev pub joint_by : Sort → List ℕ → Option Joint
joint_by sorts.Joint bytes = Some (if is_same bytes (codes "&&") then Ampersands else Wedge)
joint_by _ bytes = None

-- The word of the atom that always holds, `TRUE` or `true`.
abbrev pub truth_by : Sort → List ℕ → Option Truth
truth_by sorts.Truth bytes = Some (if is_same bytes (codes "TRUE") then Capitals else Smalls)
truth_by _ bytes = None

abbrev pub sign_of : List ℕ → Piece → Option Sign
sign_of text p = sign_by p.sort (bytes_of text p)

abbrev pub joint_of : List ℕ → Piece → Option Joint
joint_of text p = joint_by p.sort (bytes_of text p)

abbrev pub truth_of : List ℕ → Piece → Option Truth
truth_of text p = truth_by p.sort (bytes_of text p)

-- The tokens of a text spell an atom: its word, or its left side, its relation and its right side.
abbrev pub SpellAtom : List ℕ → Atom → List Piece → Type 0
SpellAtom text (Always truth) ps = (p : Piece) × (ps ≡ p ∷ []) × (truth_of text p ≡ Some truth)
SpellAtom text (Compared l sign r) ps =
    (ls : List Piece) × (p : Piece) × (rs : List Piece) × (ps ≡ ls ++ p ∷ rs) × SpellSum text l ls
    × (sign_of text p ≡ Some sign) × SpellSum text r rs

-- The tokens of a text spell atoms: the first ones, the sign after them, and the last one.
abbrev pub SpellAtoms : List ℕ → Atoms → List Piece → Type 0
SpellAtoms text (First a) ps = SpellAtom text a ps
SpellAtoms text (Joined atoms joint a) ps =
    (before : List Piece) × (p : Piece) × (last : List Piece) × (ps ≡ before ++ p ∷ last)
    × SpellAtoms text atoms before × (joint_of text p ≡ Some joint) × SpellAtom text a last
