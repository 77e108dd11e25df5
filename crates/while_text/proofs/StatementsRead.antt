-- What the tokens of statements and of blocks do to the statements that have been read.
use Rattle.std.proofs.Common.{◌≡◌, ℕ, zero, suc, Bool, true, ◌&&◌, ◌≤◌, List, [], ◌∷◌, ◌++◌, Option, Some, refl}
use Rattle.std.proofs.Common.{sym, ap, subst, ◌∙◌, arith}
use Rattle.std.specs.Prelude.{nat_le}
use Rattle.std.proofs.lemmas.Bool.{leb-true}
use Rattle.text_grammar.specs.declared.symbol.Symbol.{Symbol}
use Rattle.text_grammar.specs.declared.symbol.Symbol.TheVariants as symbol
use Rattle.text_grammar.specs.Grammars.{Event, Read}
use Rattle.text_grammar.proofs.Induction.{StandsAlong}
use Rattle.text_grammar.proofs.Tests.{both}
use Rattle.while_text.specs.while_model.Statements.{Statements, Skip}
use Rattle.while_text.specs.while_tree.Views.{Statement, Plain, Branch, joined}
use Rattle.while_text.specs.declared.block.Opener.{Opener}
use Rattle.while_text.specs.declared.block.Opener.TheVariants as openers
use Rattle.while_text.specs.declared.phase.Phase.TheVariants as phases
use Rattle.while_text.specs.declared.piece.Sort.{Sort}
use Rattle.while_text.specs.declared.piece.Sort.TheVariants as sorts
use Rattle.while_text.specs.declared.piece.Piece.{Piece}
use Rattle.while_text.specs.Courses.{Course, is_in_test}
use Rattle.while_text.specs.Courses.{after_input}
use Rattle.while_text.specs.Drafts.{Block, InSecond, Draft, last_of, before_last, with_block, block_opens}
use Rattle.while_text.specs.Drafts.{before_of, statement_of, draft_after}
use Rattle.while_text.specs.Drafts.{made_of_input, assignment, begins_test, block_closes, second_of}
use Rattle.while_text.specs.Grammar.{while_grammar, class_of_sort}
use Rattle.while_text.specs.Reading.{State}
use Rattle.while_text.proofs.GrammarStates.{last_append, before_append}
use Rattle.while_text.proofs.SilentReading.{after_all, sound_after}
use Rattle.while_text.proofs.InnerTokens.{AllInner, IsSome, SameShape, Tested, Valued, after_append}
use Rattle.while_text.proofs.InnerTokens.{all_inner-append, is_inner, not_block, outside, outside_shape}
use Rattle.while_text.proofs.InnerTokens.{same_shape, shape_then, some_append, tested, valued}

module _ (text : List ℕ) where
  -- The second state is after statements of the first one's block: the blocks are the same, and a block with a
  -- statement keeps one.
  pub record Goes (s t : State) : Type 0 where
    pub phase : t.course.phase ≡ phases.Statements
    pub blocks : t.draft.blocks ≡ s.draft.blocks
    pub opener : t.draft.opener ≡ openers.Second
    pub grows : IsSome s.draft.body → IsSome t.draft.body

  -- The second state is after a block has been read: its statement is appended to those before it.
  pub record Closes (s : State) (block : Block) (t : State) : Type 0 where
    pub phase : t.course.phase ≡ phases.Statements
    pub blocks : t.draft.blocks ≡ s.draft.blocks
    pub opener : t.draft.opener ≡ openers.Second
    pub statements : Statements
    pub body : t.draft.body ≡ before_of block ++ statement_of block statements ∷ []

  -- Statements may begin in the state.
  pub record IsOpen (s : State) : Type 0 where
    pub phase : s.course.phase ≡ phases.Statements
    pub opener : s.draft.opener ≡ openers.Second

  -- What the events of each nonterminal do to the state.
  abbrev pub Stands : ℕ → List (Event Piece) → List Piece → Type 0
  Stands zero es ps = (s : State) → s.course.phase ≡ phases.Inputs → s.draft.opener ≡ openers.Second
      → IsSome (after_all text s es).draft.body
  Stands (suc zero) es ps = (s : State) → s.course.phase ≡ phases.Inputs → s.draft.opener ≡ openers.Second
      → IsOpen (after_all text s es)
  Stands (suc (suc zero)) es ps = (s : State) → IsOpen s → Goes s (after_all text s es)
  Stands (suc (suc (suc zero))) es ps = (s : State) → IsOpen s
      → Goes s (after_all text s es) × IsSome (after_all text s es).draft.body
  Stands (suc (suc (suc (suc zero)))) es ps = AllInner es
  Stands (suc (suc (suc (suc (suc zero))))) es ps = (s : State) → IsOpen s → IsSome s.draft.body
      → (test : _) (block other : Statements) → last_of s.draft.body ≡ Some (Branch test block other)
      → Goes s (after_all text s es)
  Stands (suc (suc (suc (suc (suc (suc zero)))))) es ps = (s : State) (block : Block)
      → block_opens s.draft.opener s.draft ≡ with_block block s.draft → Closes s block (after_all text s es)
  Stands n es ps = AllInner es

  -- The symbols derive only tokens of such classes: they are such tokens, or nonterminals of values and tests.
  abbrev pub are_inner : List Symbol → Bool
  are_inner [] = true
  are_inner (symbol.Piece c ∷ rest) = is_inner c && are_inner rest
  are_inner (symbol.Mark m ∷ rest) = are_inner rest
  are_inner (symbol.Made n ∷ rest) = nat_le 7 n && are_inner rest

  pub inner_stands : (n : ℕ) → 7 ≤ n → (es : List (Event Piece)) (ps : List Piece) → Stands n es ps → AllInner es
  inner_stands zero h es ps k = absurd (omega (arith, h))
  inner_stands (suc zero) h es ps k = absurd (omega (arith, h))
  inner_stands (suc (suc zero)) h es ps k = absurd (omega (arith, h))
  inner_stands (suc (suc (suc zero))) h es ps k = absurd (omega (arith, h))
  inner_stands (suc (suc (suc (suc zero)))) h es ps k = absurd (omega (arith, h))
  inner_stands (suc (suc (suc (suc (suc zero))))) h es ps k = absurd (omega (arith, h))
  inner_stands (suc (suc (suc (suc (suc (suc zero)))))) h es ps k = absurd (omega (arith, h))
  inner_stands (suc (suc (suc (suc (suc (suc (suc n))))))) h es ps k = k

  pub along_inner : (body : List Symbol) → are_inner body ≡ true → (es : List (Event Piece)) (ps : List Piece)
      → StandsAlong while_grammar Stands body es ps → AllInner es
  along_inner [] h es ps (e, f) = subst AllInner (sym e) tt
  along_inner (symbol.Piece c ∷ rest) h es ps (p, fs, qs, k, e, f, w) =
      let b = both (is_inner c) (are_inner rest) h in
      subst AllInner (sym e) (ap is_inner k ∙ b.0, along_inner rest b.1 fs qs w)
  along_inner (symbol.Mark m ∷ rest) h es ps (fs, e, w) = subst AllInner (sym e) (along_inner rest h fs ps w)
  along_inner (symbol.Made n ∷ rest) h es ps (ds, fs, os, qs, k, e, f, w) =
      let b = both (nat_le 7 n) (are_inner rest) h in
      subst AllInner (sym e) (all_inner-append ds fs (inner_stands n (leb-true 7 n b.0) ds os k)
      (along_inner rest b.1 fs qs w))

  -- A `;` after a value appends an assignment.
  pub assigned : (p : Piece) (s : State) → p.sort ≡ sorts.Semicolon → s.course.phase ≡ phases.Value
      → s.draft.opener ≡ openers.Second
      → IsOpen (sound_after text p s) × IsSome (sound_after text p s).draft.body
      × ((sound_after text p s).draft.blocks ≡ s.draft.blocks)
  assigned p s e v o = (record { phase = rw (e, v) refl; opener = rw (e, v) o }, some, rw (e, v) refl)
    where
      body : (sound_after text p s).draft.body ≡ s.draft.body ++ assignment s.draft ∷ []
      body = rw (e, v) refl

      some : IsSome (sound_after text p s).draft.body
      some = subst IsSome (sym body) (some_append s.draft.body (assignment s.draft))

  -- The tokens of an assignment append a statement.
  pub reads_assignment : (p q r : Piece) (ds : List (Event Piece)) (s : State) → p.sort ≡ sorts.Name
      → q.sort ≡ sorts.Becomes → r.sort ≡ sorts.Semicolon → AllInner ds → IsOpen s
      → Goes s (after_all text s (Read p ∷ Read q ∷ (ds ++ Read r ∷ [])))
      × IsSome (after_all text s (Read p ∷ Read q ∷ (ds ++ Read r ∷ []))).draft.body
  reads_assignment p q r ds s e f g inner ready =
      subst (λ (t : State). Goes s t × IsSome t.draft.body) (sym (after_append text two ds (Read r ∷ [])))
      (record { phase = done.0.phase; blocks = done.2 ∙ three.shape.blocks ∙ shape.blocks; opener = done.0.opener; grows = λ h. done.1 }, done.1)
    where
      one : State
      one = sound_after text p s

      named : one.course.phase ≡ phases.Assignment
      named = rw (e, ready.phase) refl

      two : State
      two = sound_after text q one

      value : two.course.phase ≡ phases.Value
      value = rw (f, named) refl

      shape_one : SameShape one.draft s.draft
      shape_one = record { blocks = rw (e, ready.phase) refl; body = rw (e, ready.phase) refl; opener = rw (e, ready.phase) refl }

      shape_two : SameShape two.draft one.draft
      shape_two = record { blocks = rw (f, named) refl; body = rw (f, named) refl; opener = rw (f, named) refl }

      shape : SameShape two.draft s.draft
      shape = shape_then two.draft one.draft s.draft shape_two shape_one

      three : Valued two (after_all text two ds)
      three = valued text ds two inner value

      done : IsOpen (sound_after text r (after_all text two ds)) × IsSome (sound_after text r (after_all text two ds)).draft.body
          × ((sound_after text r (after_all text two ds)).draft.blocks ≡ (after_all text two ds).draft.blocks)
      done = assigned r (after_all text two ds) g three.phase (three.shape.opener ∙ shape.opener ∙ ready.opener)

  -- The tokens `skip;` append a statement.
  pub reads_skip : (p q : Piece) (s : State) → p.sort ≡ sorts.Skip → q.sort ≡ sorts.Semicolon → IsOpen s
      → Goes s (after_all text s (Read p ∷ Read q ∷ [])) × IsSome (after_all text s (Read p ∷ Read q ∷ [])).draft.body
  reads_skip p q s e f ready =
      (record { phase = rw (f, phase) phase; blocks = rw (f, phase) blocks; opener = rw (f, phase) opener; grows = λ h. some }, some)
    where
      phase : (sound_after text p s).course.phase ≡ phases.Statements
      phase = rw (e, ready.phase) refl

      blocks : (sound_after text p s).draft.blocks ≡ s.draft.blocks
      blocks = rw (e, ready.phase) refl

      opener : (sound_after text p s).draft.opener ≡ openers.Second
      opener = rw (e, ready.phase) ready.opener

      body : (sound_after text p s).draft.body ≡ s.draft.body ++ Plain Skip ∷ []
      body = rw (e, ready.phase) refl

      same : (sound_after text q (sound_after text p s)).draft.body ≡ (sound_after text p s).draft.body
      same = rw (f, phase) refl

      some : IsSome (sound_after text q (sound_after text p s)).draft.body
      some = subst IsSome (sym (same ∙ body)) (some_append s.draft.body (Plain Skip))

  -- The tokens of a block close it again.
  pub reads_block : (p q : Piece) (ds : List (Event Piece)) (s : State) (block : Block) → p.sort ≡ sorts.BlockOpen
      → q.sort ≡ sorts.BlockClose → ((t : State) → IsOpen t → Goes t (after_all text t ds))
      → block_opens s.draft.opener s.draft ≡ with_block block s.draft
      → Closes s block (after_all text s (Read p ∷ (ds ++ Read q ∷ [])))
  reads_block p q ds s block e f inside opens =
      subst (Closes s block) (sym (after_append text one ds (Read q ∷ []))) (record {
        phase = rw (f, went.phase) went.phase;
        blocks = blocks;
        opener = opener;
        statements = joined two.draft.body;
        body = body;
      })
    where
      one : State
      one = sound_after text p s

      draft : one.draft ≡ with_block block s.draft
      draft = rw e opens

      went : Goes one (after_all text one ds)
      went = inside one (record { phase = rw e refl; opener = ap (λ (d : Draft). d.opener) draft })

      two : State
      two = after_all text one ds

      open_blocks : two.draft.blocks ≡ s.draft.blocks ++ block ∷ []
      open_blocks = went.blocks ∙ ap (λ (d : Draft). d.blocks) draft

      shut : (sound_after text q two).draft ≡ block_closes (Some block) two.draft
      shut =
          (let a : (sound_after text q two).draft ≡ block_closes (last_of two.draft.blocks) two.draft =
          rw (f, went.phase) refl in a)
          ∙ ap (λ (o : Option Block). block_closes o two.draft) (ap last_of open_blocks ∙ last_append s.draft.blocks block)

      blocks : (sound_after text q two).draft.blocks ≡ s.draft.blocks
      blocks = ap (λ (d : Draft). d.blocks) shut ∙ ap before_last open_blocks ∙ before_append s.draft.blocks block

      opener : (sound_after text q two).draft.opener ≡ openers.Second
      opener = ap (λ (d : Draft). d.opener) shut ∙ went.opener

      body : (sound_after text q two).draft.body ≡ before_of block ++ statement_of block (joined two.draft.body) ∷ []
      body = ap (λ (d : Draft). d.body) shut

  -- A statement with a test is read up to the end of its block, which `block` gives for a draft.
  pub record ReadsTest (opener : Opener) (s : State) (es : List (Event Piece)) (block : Draft → Block) : Type 0 where
    pub phase : (after_all text s es).course.phase ≡ phases.Statements
    pub blocks : (after_all text s es).draft.blocks ≡ s.draft.blocks
    pub second : (after_all text s es).draft.opener ≡ openers.Second
    pub draft : Draft
    pub statements : Statements
    pub body : (after_all text s es).draft.body ≡ s.draft.body ++ statement_of (block draft) statements ∷ []

  -- The first word, the test and the block of a loop, or of a branch up to its first block, are read.
  pub reads_test : (opener : Opener) (p : Piece) (ds fs : List (Event Piece)) (s : State)
      → (sound_after text p s).course.phase ≡ phases.Test
      → (sound_after text p s).draft ≡ begins_test opener p.at s.draft → AllInner ds
      → ((t : State) (block : Block) → block_opens t.draft.opener t.draft ≡ with_block block t.draft
      → Closes t block (after_all text t fs)) → (block : Draft → Block)
      → ((d : Draft) → block_opens opener d ≡ with_block (block d) d) → ((d : Draft) → before_of (block d) ≡ d.body)
      → ReadsTest opener s (Read p ∷ (ds ++ fs)) block
  reads_test opener p ds fs s phase draft inner closes block opens before = record {
    phase = ap (λ (t : State). t.course.phase) parted ∙ w.phase;
    blocks = ap (λ (t : State). t.draft.blocks) parted ∙ w.blocks ∙ tests.shape.blocks
        ∙ ap (λ (d : Draft). d.blocks) draft;
    second = ap (λ (t : State). t.draft.opener) parted ∙ w.opener;
    draft = two.draft;
    statements = w.statements;
    body = ap (λ (t : State). t.draft.body) parted ∙ w.body
        ∙ ap (λ (ss : List Statement). ss ++ statement_of (block two.draft) w.statements ∷ [])
        (before two.draft ∙ tests.shape.body ∙ ap (λ (d : Draft). d.body) draft);
  }
    where
      one : State
      one = sound_after text p s

      tests : Tested one (after_all text one ds)
      tests = tested text ds one inner (ap is_in_test phase)

      two : State
      two = after_all text one ds

      parted : after_all text one (ds ++ fs) ≡ after_all text two fs
      parted = after_append text one ds fs

      kind : two.draft.opener ≡ opener
      kind = tests.shape.opener ∙ ap (λ (d : Draft). d.opener) draft

      w : Closes two (block two.draft) (after_all text two fs)
      w = closes two (block two.draft) (ap (λ (o : Opener). block_opens o two.draft) kind ∙ opens two.draft)

  -- A token among the inputs that is neither `;` nor `{` keeps the state among the inputs.
  pub input_course : (sort : Sort) (c : Course) → is_inner (class_of_sort sort) ≡ true → c.phase ≡ phases.Inputs
      → (after_input sort c).phase ≡ phases.Inputs
  input_course sorts.Input c h v = v
  input_course sorts.Skip c h v = v
  input_course sorts.While c h v = v
  input_course sorts.If c h v = v
  input_course sorts.Else c h v = v
  input_course sorts.Truth c h v = v
  input_course sorts.Name c h v = v
  input_course (sorts.Number n) c h v = v
  input_course sorts.Becomes c h v = v
  input_course sorts.Question c h v = v
  input_course sorts.Semicolon c h v = cc
  input_course sorts.Comma c h v = v
  input_course sorts.Open c h v = v
  input_course sorts.Close c h v = v
  input_course sorts.BlockOpen c h v = v
  input_course sorts.BlockClose c h v = v
  input_course sorts.Joint c h v = v
  input_course sorts.AtLeast c h v = v
  input_course sorts.MoreThan c h v = v
  input_course sorts.AtMost c h v = v
  input_course sorts.LessThan c h v = v
  input_course sorts.Equal c h v = v
  input_course sorts.Plus c h v = v
  input_course sorts.Minus c h v = v
  input_course sorts.Times c h v = v
  input_course sorts.Caret c h v = v
  input_course sorts.Strange c h v = v
  input_course sorts.Wrong c h v = v

  pub input_shape : (sort : Sort) (p : Piece) (d : Draft) → SameShape (made_of_input text p sort d) d
  input_shape sorts.Name p d = record { blocks = refl; body = refl; opener = refl }
  input_shape sort p d = same_shape d

  -- The inputs are being read.
  pub record IsListing (s : State) : Type 0 where
    pub phase : s.course.phase ≡ phases.Inputs
    pub opener : s.draft.opener ≡ openers.Second

  pub listed : (p : Piece) (s : State) → is_inner (class_of_sort p.sort) ≡ true → IsListing s
      → IsListing (sound_after text p s)
  listed p s a l = record {
    phase = outside p s.course phases.Inputs (not_block p.sort a) l.phase (input_course p.sort s.course a l.phase);
    opener = shape.opener ∙ l.opener;
  }
    where
      shape : SameShape (draft_after text p s.course s.draft) s.draft
      shape = outside_shape text p s.course s.draft phases.Inputs (not_block p.sort a) l.phase
          (input_shape p.sort p s.draft)

  -- After the `;` that ends the inputs, statements may begin.
  pub inputs_end : (p : Piece) (s : State) → p.sort ≡ sorts.Semicolon → IsListing s → IsOpen (sound_after text p s)
  inputs_end p s e l = record { phase = rw (e, l.phase) refl; opener = rw (e, l.phase) l.opener }

  -- Statements followed by statements are statements.
  pub goes_then : (s t u : State) → Goes s t → Goes t u → Goes s u
  goes_then s t u h k = record {
    phase = k.phase;
    blocks = k.blocks ∙ h.blocks;
    opener = k.opener;
    grows = λ some. k.grows (h.grows some);
  }

  pub is_open : (s t : State) → Goes s t → IsOpen t
  is_open s t h = record { phase = h.phase; opener = h.opener }

  -- The word `else` and the second block are read.
  pub reads_other : (p : Piece) (ds : List (Event Piece)) (s : State) → p.sort ≡ sorts.Else → IsOpen s
      → (test : _) (block other : Statements) → last_of s.draft.body ≡ Some (Branch test block other)
      → ((t : State) (block : Block) → block_opens t.draft.opener t.draft ≡ with_block block t.draft
      → Closes t block (after_all text t ds)) → Goes s (after_all text s (Read p ∷ ds))
  reads_other p ds s e ready test block other last closes = record {
    phase = w.phase;
    blocks = w.blocks ∙ shape.blocks;
    opener = w.opener;
    grows = λ some. subst IsSome (sym w.body) (some_append (before_last one.draft.body) _);
  }
    where
      one : State
      one = sound_after text p s

      shape : SameShape one.draft s.draft
      shape = record { blocks = rw (e, ready.phase) refl; body = rw (e, ready.phase) refl; opener = rw (e, ready.phase) refl }

      opens : block_opens one.draft.opener one.draft ≡ with_block (InSecond test block (before_last one.draft.body)) one.draft
      opens =
          ap (λ (o : Opener). block_opens o one.draft) (shape.opener ∙ ready.opener)
          ∙ ap (λ (o : Option Statement). second_of o one.draft) (ap last_of shape.body ∙ last)

      w : Closes one (InSecond test block (before_last one.draft.body)) (after_all text one ds)
      w = closes one (InSecond test block (before_last one.draft.body)) opens
