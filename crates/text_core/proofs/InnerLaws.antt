-- The laws of an inner reader inside an outer one, in both directions: a piece that the inner reader accepts is
-- accepted by the outer one, and while the outer reader is inside, the inner one has read the pieces since its text
-- began.
use Rattle.std.proofs.Common.{◌≡◌, List, [], ◌∷◌, ◌++◌, map, Option, Some, None, refl, ap, sym, ◌∙◌}
use Rattle.text_core.specs.Readers.{Reader, onto, next, walk}
use Rattle.text_core.specs.Laws.{Laws}
use Rattle.text_core.specs.Inner.{Inside, IsInto, inner_step, step_behind, step_by, step_inside, IsInside}
use Rattle.text_core.proofs.Walks.{inner-walk}

-- reversing an appended list onto a rest can be done in two steps
onto-two : {X : Type 0} (done before rest : List X) → onto (done ++ before) rest ≡ onto before (onto done rest)
onto-two [] before rest = refl
onto-two (x ∷ done) before rest = onto-two done before (x ∷ rest)

-- reversing onto a rest commutes with embedding inner pieces
onto-map : {P Q : Type 0} (into : P → Q) (done ps : List P) (rest : List Q) → onto (map into done) (map into ps ++ rest) ≡ map into (onto done ps) ++ rest
onto-map into [] ps rest = refl
onto-map into (p ∷ done) ps rest = onto-map into done (p ∷ ps) rest

module _ {P T F K Q G C : Type 0} (r : Reader P T F K) (laws : Laws r) (i : Inside P T F Q G C) (is : IsInto i) where
  -- in a state inside, the text consists of the pieces before the inner text, the inner ones read so far, and the
  -- others
  text_inside : (before done : List Q) (f : F) (s : IsInside r i before done f) (ps : List P) (rest : List Q) → onto done (map i.into ps ++ rest) ≡ onto before (map i.into (onto s.inner ps) ++ rest)
  text_inside before done f s ps rest =
      ap (λ qs. onto qs (map i.into ps ++ rest)) s.pieces
      ∙ (onto-two (map i.into s.inner) before (map i.into ps ++ rest) ∙ ap (onto before) (onto-map i.into s.inner ps rest))

  -- at its beginning the inner reader is inside
  pub begins_inside : (before : List Q) → IsInside r i before before r.beginning
  begins_inside before = record { inner = []; pieces = refl; led = refl }

  -- after a piece that the inner reader accepts, the outer one is still inside
  pub stays_inside : (before done : List Q) (f g : F) (q : Q) → IsInside r i before done f → inner_step r i f (i.inner_of q) ≡ Some g → IsInside r i before (q ∷ done) g
  stays_inside before done f g q s e = go (i.inner_of q) refl e
    where
      go : (o : Option P) → i.inner_of q ≡ o → inner_step r i f o ≡ Some g → IsInside r i before (q ∷ done) g
      go None k e = cc
      go (Some p) k e = record {
        inner = p ∷ s.inner;
        pieces = ap (λ (x : Q). x ∷ done) (sym (is.back q p k)) ∙ ap (λ qs. i.into p ∷ qs) s.pieces;
        led = ap (λ (o : Option F). next r.step o p) s.led ∙ e;
      }

  -- the pieces since the inner text began are those of this tree
  pub record IsRead (before done : List Q) (t : T) : Type 0 where
    pub inner : List P
    pub writes : r.Writes t inner
    pub text : (rest : List Q) → onto done rest ≡ onto before (map i.into inner ++ rest)

  -- where the inner text can end, the pieces since it began are those of its tree
  pub ends_inside : (before done : List Q) (f : F) (t : T) → IsInside r i before done f → r.finish f ≡ Some t → IsRead before done t
  ends_inside before done f t s e = record { inner = onto s.inner []; writes = laws.ends s.inner f t s.led e; text = λ rest. text_inside before done f s [] rest }

  -- some inner pieces complete the inner text
  pub record Completes (before done : List Q) : Type 0 where
    pub tree : T
    pub more : List P
    pub inner : List P
    pub writes : r.Writes tree inner
    pub text : (rest : List Q) → onto done (map i.into more ++ rest) ≡ onto before (map i.into inner ++ rest)

  -- from every state inside, some inner pieces complete the inner text
  pub completes_inside : (before done : List Q) (f : F) → IsInside r i before done f → Completes before done
  completes_inside before done f s =
      let b = laws.goes_on s.inner f s.led in
      record { tree = b.0; more = b.1; inner = onto s.inner b.1; writes = b.2; text = λ rest. text_inside before done f s b.1 rest }

  -- an outer reader whose steps inside are those of the inner one
  module _ (outer : G → Q → Option G) (follows : (c : C) (f : F) (q : Q) → outer (i.inside c f) q ≡ step_inside r i c f q) where
    -- a piece that the inner reader accepts is accepted by the outer one, with the same inner state
    pub step_on : (c : C) (f g : F) (p : P) → r.step f p ≡ Some g → outer (i.inside c f) (i.into p) ≡ Some (i.inside c g)
    step_on c f g p e =
        follows c f (i.into p)
        ∙ (ap (λ (o : Option P). step_by r i c f (inner_step r i f o) (i.into p)) (is.there p) ∙ ap (λ (o : Option F). step_by r i c f o (i.into p)) e)

    -- pieces that lead the inner reader from one state to another lead the outer one correspondingly, whatever follows
    pub inside-walk : (c : C) (ps : List P) (rest : List Q) (f g : F) → walk r.step (Some f) ps ≡ Some g
        → walk outer (Some (i.inside c f)) (map i.into ps ++ rest) ≡ walk outer (Some (i.inside c g)) rest
    inside-walk c = inner-walk r.step outer (i.inside c) i.into (step_on c)

    -- at a piece that the inner reader rejects in a state that can end, the outer reader continues after the inner
    -- tree
    pub step_off : (c : C) (f : F) (t : T) (q : Q) → inner_step r i f (i.inner_of q) ≡ None → r.finish f ≡ Some t → outer (i.inside c f) q ≡ i.behind c t q
    step_off c f t q none e = follows c f q ∙ (ap (λ (o : Option F). step_by r i c f o q) none ∙ ap (λ (o : Option T). step_behind r i c o q) e)

    -- the pieces of a tree, and one more that can't continue its text, lead the outer reader past the inner text
    pub tree-walk : (c : C) (t : T) (ps : List P) (q : Q) (rest : List Q) → r.Writes t ps → ((f : F) → r.finish f ≡ Some t → inner_step r i f (i.inner_of q) ≡ None)
        → walk outer (Some (i.inside c r.beginning)) (map i.into ps ++ q ∷ rest) ≡ walk outer (i.behind c t q) rest
    tree-walk c t ps q rest w stops =
        let x = laws.reads t ps w in
        inside-walk c ps (q ∷ rest) r.beginning x.0 x.1 ∙ ap (λ (o : Option G). walk outer o rest) (step_off c x.0 t q (stops x.0 x.2) x.2)
