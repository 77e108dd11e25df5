-- Appending a piece to packed pieces, and taking the first one off.
use Rattle.std.proofs.Common.{◌≡◌, suc, ◌+◌, Bool, true, false, cond, List, [], ◌∷◌, ◌++◌, length}
use Rattle.std.proofs.Common.{refl, ap, sym, ◌∙◌, arith}
use Rattle.cert_lexer.specs.declared.inner.Inner.{Inner}
use Rattle.cert_lexer.specs.declared.marks.Mark.{Mark}
use Rattle.cert_lexer.specs.declared.marks.Mark.TheVariants as mark
use Rattle.cert_lexer.specs.declared.marks.Short.{Short}
use Rattle.cert_lexer.specs.declared.marks.Source.{Source}
use Rattle.cert_lexer.specs.declared.marks.Source.TheVariants as source
use Rattle.cert_lexer.specs.Packing.{longs_at, longs_behind, longs_taken, next_at, short_inner, shorts_at, shorts_behind}
use Rattle.cert_lexer.specs.Packing.{shorts_taken, mark_source, unpacked}

-- after one more mark, the piece found for it is the last
one_pushed : (ms : List Mark) (es : List Short) (el : List Inner) (m : Mark)
    → ((ss : List Short) (ls : List Inner) → shorts_taken ms ≡ length ss → longs_taken ms ≡ length ls
    → unpacked (ms ++ m ∷ []) (ss ++ es) (ls ++ el) ≡ unpacked ms ss ls ++ next_at (mark_source m) es el ∷ [])
    → (s : Source) (ss : List Short) (ls : List Inner) → shorts_at s + shorts_taken ms ≡ length ss
    → longs_at s + longs_taken ms ≡ length ls
    → next_at s (ss ++ es) (ls ++ el) ∷ unpacked (ms ++ m ∷ []) (shorts_behind s (ss ++ es)) (longs_behind s (ls ++ el))
    ≡ next_at s ss ls ∷ (unpacked ms (shorts_behind s ss) (longs_behind s ls) ++ next_at (mark_source m) es el ∷ [])
one_pushed ms es el m ih (source.Known x) ss ls e f =
    ap (λ (xs : List Inner). x ∷ xs) (ih ss ls (omega (arith, e)) (omega (arith, f)))
one_pushed ms es el m ih source.Shorts [] ls e f = absurd (omega (arith, e))
one_pushed ms es el m ih source.Shorts (s ∷ ss) ls e f =
    ap (λ (xs : List Inner). short_inner s ∷ xs) (ih ss ls (omega (arith, e)) (omega (arith, f)))
one_pushed ms es el m ih source.Longs ss [] e f = absurd (omega (arith, f))
one_pushed ms es el m ih source.Longs ss (l ∷ ls) e f =
    ap (λ (xs : List Inner). l ∷ xs) (ih ss ls (omega (arith, e)) (omega (arith, f)))

-- the pieces with one more mark, and with the short or the long piece that it takes
pub unpacked_push : (ms : List Mark) (es : List Short) (el : List Inner) (m : Mark) (ss : List Short) (ls : List Inner)
    → shorts_taken ms ≡ length ss → longs_taken ms ≡ length ls
    → unpacked (ms ++ m ∷ []) (ss ++ es) (ls ++ el) ≡ unpacked ms ss ls ++ next_at (mark_source m) es el ∷ []
unpacked_push [] es el m [] [] e f = refl
unpacked_push [] es el m (s ∷ ss) ls e f = absurd (omega (arith, e))
unpacked_push [] es el m [] (l ∷ ls) e f = absurd (omega (arith, f))
unpacked_push (x ∷ ms) es el m ss ls e f =
    one_pushed ms es el m (λ ss ls e f. unpacked_push ms es el m ss ls e f) (mark_source x) ss ls e f

-- the number of short and of long pieces that marks take, with one more mark
pub shorts_more : (ms : List Mark) (m : Mark) → shorts_taken (ms ++ m ∷ []) ≡ shorts_taken ms + shorts_at (mark_source m)
shorts_more [] m = omega arith
shorts_more (x ∷ ms) m = let ih = shorts_more ms m in omega (arith, ih)

pub longs_more : (ms : List Mark) (m : Mark) → longs_taken (ms ++ m ∷ []) ≡ longs_taken ms + longs_at (mark_source m)
longs_more [] m = omega arith
longs_more (x ∷ ms) m = let ih = longs_more ms m in omega (arith, ih)

-- there are as many pieces as marks
pub unpacked_length : (ms : List Mark) (ss : List Short) (ls : List Inner) → length (unpacked ms ss ls) ≡ length ms
unpacked_length [] ss ls = refl
unpacked_length (m ∷ ms) ss ls = ap suc (unpacked_length ms (shorts_behind (mark_source m) ss) (longs_behind (mark_source m) ls))

-- appending the empty list changes nothing
append_none : {X : Type 0} (xs : List X) → xs ++ [] ≡ xs
append_none [] = refl
append_none (x ∷ xs) = ap (λ (ys : List _). x ∷ ys) (append_none xs)

-- appending a piece that its mark determines
pub known_pushed : (ms : List Mark) (ss : List Short) (ls : List Inner) (m : Mark) (x : Inner) → mark_source m ≡ source.Known x
    → shorts_taken ms ≡ length ss → longs_taken ms ≡ length ls → unpacked (ms ++ m ∷ []) ss ls ≡ unpacked ms ss ls ++ x ∷ []
known_pushed ms ss ls m x k e f =
    ap (λ (ts : List Short). unpacked (ms ++ m ∷ []) ts ls) (sym (append_none ss))
    ∙ ap (unpacked (ms ++ m ∷ []) (ss ++ [])) (sym (append_none ls))
    ∙ unpacked_push ms [] [] m ss ls e f
    ∙ ap (λ (w : Source). unpacked ms ss ls ++ next_at w [] [] ∷ []) k

-- appending a short piece
pub short_pushed : (ms : List Mark) (ss : List Short) (ls : List Inner) (s : Short)
    → shorts_taken ms ≡ length ss → longs_taken ms ≡ length ls
    → unpacked (ms ++ mark.Short ∷ []) (ss ++ s ∷ []) ls ≡ unpacked ms ss ls ++ short_inner s ∷ []
short_pushed ms ss ls s e f =
    ap (unpacked (ms ++ mark.Short ∷ []) (ss ++ s ∷ [])) (sym (append_none ls))
    ∙ unpacked_push ms (s ∷ []) [] mark.Short ss ls e f

-- appending a long piece
pub long_pushed : (ms : List Mark) (ss : List Short) (ls : List Inner) (l : Inner)
    → shorts_taken ms ≡ length ss → longs_taken ms ≡ length ls
    → unpacked (ms ++ mark.Long ∷ []) ss (ls ++ l ∷ []) ≡ unpacked ms ss ls ++ l ∷ []
long_pushed ms ss ls l e f =
    ap (λ (ts : List Short). unpacked (ms ++ mark.Long ∷ []) ts (ls ++ l ∷ [])) (sym (append_none ss))
    ∙ unpacked_push ms [] (l ∷ []) mark.Long ss ls e f

-- a mark that determines its piece takes neither a short nor a long piece, whether there was memory for it or not
pub known_taken : (ok : Bool) (ms new : List Mark) (m : Mark) (x : Inner) → mark_source m ≡ source.Known x
    → new ≡ cond ok (ms ++ m ∷ []) ms → (shorts_taken new ≡ shorts_taken ms) × (longs_taken new ≡ longs_taken ms)
known_taken false ms new m x k e = (ap shorts_taken e, ap longs_taken e)
known_taken true ms new m x k e =
    let a = ap shorts_taken e in
    let b = ap longs_taken e in
    let c = shorts_more ms m in
    let d = longs_more ms m in
    let i = ap shorts_at k in
    let j = ap longs_at k in
    (omega (arith, a, c, i), omega (arith, b, d, j))

-- the mark of a short piece takes one short piece, and that of a long piece one long piece
pub short_taken : (ms : List Mark)
    → (shorts_taken (ms ++ mark.Short ∷ []) ≡ shorts_taken ms + 1) × (longs_taken (ms ++ mark.Short ∷ []) ≡ longs_taken ms)
short_taken ms = let c = shorts_more ms mark.Short in let d = longs_more ms mark.Short in (omega (arith, c), omega (arith, d))

pub long_taken : (ms : List Mark)
    → (shorts_taken (ms ++ mark.Long ∷ []) ≡ shorts_taken ms) × (longs_taken (ms ++ mark.Long ∷ []) ≡ longs_taken ms + 1)
long_taken ms = let c = shorts_more ms mark.Long in let d = longs_more ms mark.Long in (omega (arith, c), omega (arith, d))
