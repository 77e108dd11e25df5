-- The reader of lines satisfies the laws of a reader, because its inner reader does.
use Rattle.std.proofs.Common.{◌≡◌, List, [], ◌∷◌, ◌++◌, map, Option, Some, None, refl, ap, sym, subst, ◌∙◌}
use Rattle.std.specs.Prelude.{⊤}
use Rattle.text_core.specs.Readers.{onto, next, walk, reached, IsBeginning}
use Rattle.text_core.specs.Laws.{Laws}
use Rattle.text_core.specs.Inner as Inner
use Rattle.text_core.specs.Inner.{IsInto, IsInside, step_by}
use Rattle.text_core.specs.Rows as row
use Rattle.text_core.specs.Lines.{Piece, In, Semicolon, ParserState, InLine, lines_then, Writes, inner_of, row_inside, step}
use Rattle.text_core.specs.Lines.{finish, lines}
use Rattle.text_core.proofs.RowLaws.{row_laws}
use Rattle.text_core.proofs.InnerLaws.{begins_inside, stays_inside, ends_inside, completes_inside, tree-walk}

-- each outer piece of a row is the outer piece of its inner one
row_into : IsInto row_inside
row_into = record { there = λ p. refl; back = back }
  where
    back : (q : Piece) (p : row.Piece) → inner_of q ≡ Some p → In p ≡ q
    back (In o) p e = let same : o ≡ p = cc in ap In (sym same)
    back Semicolon p e = cc

-- a state that pieces reach: the pieces are whole lines, followed by pieces that lead the reader of rows to f
pub record Stands (done : List Piece) (earlier : List row.Row) (f : row.ParserState) : Type 0 where
  pub before : List Piece
  pub lines : (rest : List Piece) → onto before rest ≡ lines_then earlier rest
  pub inside : IsInside row.rows row_inside before done f

abbrev Known : List Piece → Option ParserState → Type 0
Known done None = ⊤
Known done (Some (InLine earlier f)) = Stands done earlier f

-- the invariant holds after a piece of a row, and after the semicolon that ends a line
step_known : (done : List Piece) (earlier : List row.Row) (f : row.ParserState) (q : Piece) → Stands done earlier f → Known (q ∷ done) (step (InLine earlier f) q)
step_known done earlier f (In p) s = go (row.step f p) refl
  where
    nowhere : (o : Option row.Row) → Known (In p ∷ done) (Inner.step_behind row.rows row_inside earlier o (In p))
    nowhere None = tt
    nowhere (Some r) = tt

    go : (o : Option row.ParserState) → row.step f p ≡ o → Known (In p ∷ done) (step_by row.rows row_inside earlier f o (In p))
    go None e = nowhere (row.finish f)
    go (Some g) e = record { before = s.before; lines = s.lines; inside = stays_inside row.rows row_laws row_inside row_into s.before done f g (In p) s.inside e }
step_known done earlier f Semicolon s = go (row.finish f) refl
  where
    go : (o : Option row.Row) → row.finish f ≡ o → Known (Semicolon ∷ done) (Inner.step_behind row.rows row_inside earlier o Semicolon)
    go None e = tt
    go (Some r) e =
        let read = ends_inside row.rows row_laws row_inside row_into s.before done f r s.inside e in
        record {
          before = Semicolon ∷ done;
          lines = λ rest. read.text (Semicolon ∷ rest) ∙ (s.lines (map In read.inner ++ Semicolon ∷ rest) ∙ ap (λ ps. lines_then earlier (map In ps ++ Semicolon ∷ rest)) (sym read.writes));
          inside = begins_inside row.rows row_laws row_inside row_into (Semicolon ∷ done);
        }

next_known : (done : List Piece) (q : Piece) (o : Option ParserState) → Known done o → Known (q ∷ done) (next step o q)
next_known done q None h = tt
next_known done q (Some (InLine earlier f)) h = step_known done earlier f q h

reached_known : (done : List Piece) → Known done (reached lines done)
reached_known [] = record { before = []; lines = λ rest. refl; inside = begins_inside row.rows row_laws row_inside row_into [] }
reached_known (q ∷ done) = next_known done q (reached lines done) (reached_known done)

-- no piece leads the reader of rows back to its beginning
never_begins : (f : row.ParserState) (p : row.Piece) → row.step f p ≡ Some row.Begins → ⊥
never_begins row.Begins (row.Number n) e = cc
never_begins row.Begins row.Comma e = cc
never_begins row.Begins row.Wrong e = cc
never_begins (row.Behind r) (row.Number n) e = cc
never_begins (row.Behind r) row.Comma e = cc
never_begins (row.Behind r) row.Wrong e = cc
never_begins (row.Open r) (row.Number n) e = cc
never_begins (row.Open r) row.Comma e = cc
never_begins (row.Open r) row.Wrong e = cc

nothing_read : (inner : List row.Piece) → reached row.rows inner ≡ Some row.Begins → inner ≡ []
nothing_read [] e = refl
nothing_read (p ∷ inner) e = go (reached row.rows inner) e
  where
    go : (o : Option row.ParserState) → next row.step o p ≡ Some row.Begins → p ∷ inner ≡ []
    go None e = cc
    go (Some f) e = absurd (never_begins f p e)

-- in a state in which a text can end, the pieces read are those of the lines
ends_known : (done : List Piece) (f : ParserState) (t : List row.Row) → Known done (Some f) → finish f ≡ Some t → Writes t (onto done [])
ends_known done (InLine earlier row.Begins) t s e =
    let same : earlier ≡ t = cc in
    let whole : done ≡ s.before = s.inside.pieces ∙ ap (λ inner. map In inner ++ s.before) (nothing_read s.inside.inner s.inside.led) in
    ap (λ (u : List row.Row). lines_then u []) (sym same) ∙ (sym (s.lines []) ∙ ap (λ qs. onto qs []) (sym whole))
ends_known done (InLine earlier (row.Behind r)) t s e = cc
ends_known done (InLine earlier (row.Open r)) t s e = cc

-- each state can be completed: its row is completed, and then its line ended
goes_on_known : (done : List Piece) (f : ParserState) → Known done (Some f) → IsBeginning lines done
goes_on_known done (InLine earlier f) s =
    let c = completes_inside row.rows row_laws row_inside row_into s.before done f s.inside in (
      c.tree ∷ earlier,
      map In c.more ++ Semicolon ∷ [],
      ap (λ ps. lines_then earlier (map In ps ++ Semicolon ∷ [])) c.writes ∙ (sym (s.lines (map In c.inner ++ Semicolon ∷ [])) ∙ sym (c.text (Semicolon ∷ []))),
    )

-- the pieces of lines lead to the state after them
lines_read : (t : List row.Row) (rest : List Piece) → walk step (Some (InLine [] row.Begins)) (lines_then t rest) ≡ walk step (Some (InLine t row.Begins)) rest
lines_read [] rest = refl
lines_read (r ∷ earlier) rest =
    lines_read earlier (map In (row.row_then r []) ++ Semicolon ∷ rest)
    ∙ tree-walk row.rows row_laws row_inside row_into step (λ c f q. refl) earlier r (row.row_then r []) Semicolon rest refl (λ f e. refl)

-- the reader of lines satisfies the laws
pub line_laws : Laws lines
line_laws = record {
  goes_on = λ done f e. goes_on_known done f (subst (Known done) e (reached_known done));
  ends = λ done f t e fin. ends_known done f t (subst (Known done) e (reached_known done)) fin;
  reads = λ t ps w. (InLine t row.Begins, ap (walk step (Some (InLine [] row.Begins))) (sym w) ∙ lines_read t [], refl);
  differ = row_laws.differ;
}
