-- The levels of the parts of a bound that has been read, piece by piece, and how a piece changes them: it adds its own
-- level, and if with it a node begins to count that is above the current term, each part of that term is one level
-- deeper.
use Rattle.std.specs.Prelude.{ℕ, zero, suc, ◌+◌, Bool, true, false, if◌then◌else◌, not, ◌&&◌, ◌||◌, is_some}
use Rattle.std.specs.Prelude.{List, [], ◌∷◌, ◌++◌, length, map, min, ◌^◌, ◌-◌, Option, Some, None}
use Rattle.std.specs.Option.{option_map}
use Rattle.its_model.specs.model.Bounds.{Parts}
use Rattle.bound_text.specs.Pieces.{Piece, Open, Times, Blank}
use Rattle.bound_text.specs.Writing.{plus_between}
use Rattle.bound_text.specs.ParserStates.{Outer, Whole, Inside, ParserState, levels_above, sum_node, sum_at}
use Rattle.bound_text.specs.Inside.{Marks, outer_marks, each_marks, level_behind}
use Rattle.cert_lexer.specs.Bounds.{is_deep}
use Rattle.cert_lexer.specs.declared.levels.OpenPart.{OpenPart}
use Rattle.cert_lexer.specs.declared.outline.Shape.{Shape}
use Rattle.cert_lexer.specs.declared.outline.Shape.TheVariants as shape
use Rattle.cert_lexer.specs.declared.outline.Opening.{Opening}
use Rattle.cert_lexer.specs.declared.outline.Opening.TheVariants as opening
use Rattle.cert_lexer.specs.declared.outline.Frame.{Frame}
use Rattle.cert_lexer.specs.declared.outline.Stage.{Stage}
use Rattle.cert_lexer.specs.declared.outline.Stage.TheVariants as stage
use Rattle.cert_lexer.specs.declared.outline.Innermost.{Innermost}
use Rattle.cert_lexer.specs.declared.outline.Change.{Change}
use Rattle.cert_lexer.specs.declared.outline.Change.TheVariants as change

-- marks, each raised by one level
abbrev pub raised : Marks → Marks
raised marks = map (option_map suc) marks

-- the marks from a piece on raised by one level
abbrev pub raised_from : ℕ → Marks → Marks
raised_from zero marks = raised marks
raised_from (suc n) [] = []
raised_from (suc n) (mark ∷ marks) = mark ∷ raised_from n marks

-- the marks of the pieces before the current term of a bound in brackets
abbrev pub before_term : Outer → ℕ → Parts → Marks
before_term outer sum ts = outer_marks outer (each_marks plus_between (level_behind (levels_above outer) sum 0) ts [])

-- the unfinished bounds around the innermost one, the innermost first
abbrev pub open_parts_around : Outer → List OpenPart
open_parts_around Whole = []
open_parts_around (Inside bracket ts fs outer) =
    record { above = levels_above outer; start = length (before_term outer (sum_node outer ts) ts) }
    ∷ open_parts_around outer

-- the unfinished bounds of a state, the innermost first
abbrev pub open_parts_of : ParserState → List OpenPart
open_parts_of f =
    record {
      above = levels_above f.outer;
      start = length (before_term f.outer (sum_at f.position f.outer f.terms) f.terms);
    }
    ∷ open_parts_around f.outer

-- 1 if a test passes, else 0
abbrev pub node_if : Bool → ℕ
node_if counts = if counts then 1 else 0

-- whether the innermost bracket is that of a sum as a factor, which counts as the sum's node
abbrev pub is_factor_frame : Option Frame → Bool
is_factor_frame None = false
is_factor_frame (Some frame) = is_factor frame.opening
  where
    is_factor : Opening → Bool
    is_factor (opening.Maximum some) = false
    is_factor opening.Exponent = false
    is_factor opening.Factor = true

-- whether factors count as a product: more than one, or a lone sum in brackets, which begins one
abbrev pub is_product : Option Shape → Option Shape → Bool
is_product (Some before) last = true
is_product None (Some shape.Sum) = true
is_product None last = false

-- the level of a factor of the current term inside this many levels, with the product's node or without it
abbrev pub factor_level : ℕ → Option Frame → Innermost → Bool → ℕ
factor_level above round i product =
    suc (above + node_if (not (is_factor_frame round) && i.terms) + node_if product)

-- the level of the item that comes next
abbrev pub item_level : ℕ → Option Frame → Innermost → ℕ
item_level above round i = factor_level above round i (is_some i.last)

-- the mark of a piece, by the part of the bound that was read last
abbrev pub mark_at : Stage → ℕ → Option Frame → Innermost → Piece → Option ℕ
mark_at stage.Begins above round i Open = Some (factor_level above round i true)
mark_at stage.Begins above round i piece = Some (item_level above round i)
mark_at stage.Power above round i Open = None
mark_at stage.Power above round i piece = Some (suc (item_level above round i))
mark_at s above round i piece = None

abbrev pub mark_of : ℕ → Option Frame → Innermost → Piece → Option ℕ
mark_of above round i piece = mark_at i.stage above round i piece

-- whether, with this piece, a node begins to count above the current term: that of a product with its first `*`, or
-- with the number of a run that begins the term; that of a sum with its first ` + `
abbrev pub raises_at : Stage → Option Frame → Innermost → Piece → Bool
raises_at stage.Item round i Times = not (is_product i.before i.last)
raises_at stage.Item round i Blank = not (is_factor_frame round) && not i.terms
raises_at (stage.Run v) round i piece = not (is_some i.last)
raises_at s round i piece = false

abbrev pub raises : Option Frame → Innermost → Piece → Bool
raises round i piece = raises_at i.stage round i piece

-- the number of levels above a bound in a bracket that opens
abbrev pub above_in : Opening → ℕ → Option Frame → Innermost → ℕ
above_in opening.Factor above round i = factor_level above round i true
above_in (opening.Maximum some) above round i = item_level above round i
above_in opening.Exponent above round i = item_level above round i

-- the innermost of the unfinished bounds
abbrev pub first_open_part : List OpenPart → OpenPart
first_open_part [] = record { above = 0; start = 0 }
first_open_part (b ∷ bs) = b

-- the unfinished bounds where a term of the innermost one begins at this piece
abbrev pub term_begins : ℕ → List OpenPart → List OpenPart
term_begins at [] = []
term_begins at (b ∷ bs) = record b { start = at } ∷ bs

-- the unfinished bounds and one in a bracket that opens
abbrev pub open_parts_inside : Opening → ℕ → Option Frame → Innermost → List OpenPart → List OpenPart
open_parts_inside belongs next round i bs =
    record { above = above_in belongs (first_open_part bs).above round i; start = next } ∷ bs

-- the unfinished bounds after a change, where the next piece has this number
abbrev pub open_parts_after : Change → ℕ → Option Frame → Innermost → List OpenPart → List OpenPart
open_parts_after change.Keep next round i bs = bs
open_parts_after change.Term next round i bs = term_begins next bs
open_parts_after (change.Open frame) next round i bs = open_parts_inside frame.opening next round i bs
open_parts_after change.Close next round i [] = []
open_parts_after change.Close next round i (b ∷ bs) = bs
open_parts_after change.Argue next round i bs = term_begins next bs

-- whether a bracket opens
abbrev pub opens : Change → Bool
opens change.Keep = false
opens change.Term = false
opens (change.Open frame) = true
opens change.Close = false
opens change.Argue = false

-- the marks after a piece, if the innermost bound is this one
abbrev pub marks_behind : OpenPart → Option Frame → Innermost → Piece → Marks → Marks
marks_behind b round i piece marks =
    (if raises round i piece then raised_from b.start marks else marks) ++ mark_of b.above round i piece ∷ []

abbrev pub marks_taken : List OpenPart → Option Frame → Innermost → Piece → Marks → Marks
marks_taken bs round i piece marks = marks_behind (first_open_part bs) round i piece marks

-- whether some mark is deeper than the limit; and the marks before the first such one
abbrev pub has_deep : Marks → Bool
has_deep [] = false
has_deep (mark ∷ marks) = is_deep mark || has_deep marks

abbrev pub shallow : Marks → Marks
shallow [] = []
shallow (mark ∷ marks) = if is_deep mark then [] else mark ∷ shallow marks

-- a number as the code counts it, up to 2^64-1
abbrev pub capped : ℕ → ℕ
capped n = min n (2 ^ 64 - 1)
