-- Tests and the blocks after them are read as they are written.
use Rattle.std.proofs.Common.{◌≡◌, ℕ, ◌≤◌, List, [], ◌∷◌, ◌++◌, length, Option, refl, sym, ap, subst, ◌∙◌}
use Rattle.std.proofs.Common.{append_assoc}
use Rattle.std.specs.Prelude.{pos}
use Rattle.expr_text.specs.Guards.{atoms_terms}
use Rattle.while_text.specs.model.Programs.{Name, Atom}
use Rattle.while_text.specs.model.Terms.{Literal}
use Rattle.while_text.specs.while_model.Statements.{Statements, Nothing, Simple, While, If}
use Rattle.while_text.specs.while_tree.Views.{Statement, Plain, Loop, Branch, joined}
use Rattle.while_text.specs.declared.block.Opener.{Opener}
use Rattle.while_text.specs.declared.phase.Phase.TheVariants as phases
use Rattle.while_text.specs.declared.phase.Standing.TheVariants.{Sound}
use Rattle.while_text.specs.declared.piece.Piece.{Piece}
use Rattle.while_text.specs.declared.piece.Sort.TheVariants as sorts
use Rattle.while_text.specs.Courses.{Course, expression_begins, statement_begins}
use Rattle.while_text.specs.Drafts.{Draft, Block, InSecond, no_state, begins_test}
use Rattle.while_text.specs.Drafts.{with_block}
use Rattle.while_text.specs.Drafts.{block_opens, last_of, before_last, second_of}
use Rattle.while_text.specs.Reading.{State, read}
use Rattle.while_text.proofs.GrammarStates.{last_append, before_append}
use Rattle.while_laws.specs.SpelledPrograms.{SpellTest}
use Rattle.while_laws.specs.Values.{read_all, follower_by, BeginsExpression}
use Rattle.while_laws.proofs.ProgramTokens as token
use Rattle.while_laws.proofs.ProgramTokens.{Taken, taken, Takes}
use Rattle.while_laws.proofs.Quiet.{quiet, quiet_before, read_append}
use Rattle.while_laws.proofs.StatementsRead.{IsReady, Reads, reads_then, Closes, Heads}
use Rattle.while_laws.proofs.StatementsRead.{block_reads}
use Rattle.while_laws.proofs.TestsRead.{IsTail, tail_behind, sound_first, ReadsAtoms, atoms_read}

module _ (text : List ℕ) (names : List Name) (few : length names ≤ 32) where
  -- A first word, `(`, a test and `)` are read.
  test_reads : (kind : Opener) (word opening closing : Piece) (tests after : List Piece) (test : List Atom) (s : State)
      → Takes text word s.course s.draft (statement_begins phases.Test word.at s.course)
      (begins_test kind word.at s.draft)
      → opening.sort ≡ sorts.Open → SpellTest text names test tests → closing.sort ≡ sorts.Close
      → IsTail text (tests ++ closing ∷ after) → IsReady text names few s
      → (read_all text s (word ∷ opening ∷ (tests ++ closing ∷ []))).standing ≡ Sound
      → Heads text names few s kind test word.at (read_all text s (word ∷ opening ∷ (tests ++ closing ∷ [])))
  test_reads kind word opening closing tests after test s takes b (atoms, spells, is) c i ready h =
      subst (Heads text names few s kind test word.at) (sym (read_append text tests (closing ∷ []) two)) (record {
        opener = ap (λ (d : Draft). d.opener) fourth.draft_is ∙ w.keeps.opener ∙ ap (λ (d : Draft). d.opener) draft;
        test = ap (λ (d : Draft). d.test) fourth.draft_is ∙ w.test
            ∙ ap (λ (x : List Atom). x ++ atoms_terms two.draft.names atoms) (ap (λ (d : Draft). d.test) draft)
            ∙ ap (λ (ns : List Name). atoms_terms ns atoms) named ∙ sym is;
        left = ap (λ (d : Draft). d.left) fourth.draft_is ∙ w.keeps.left ∙ left;
        names_are = ap (λ (d : Draft). d.names) fourth.draft_is ∙ w.keeps.names ∙ named;
        blocks = ap (λ (d : Draft). d.blocks) fourth.draft_is ∙ w.keeps.blocks ∙ ap (λ (d : Draft). d.blocks) draft;
        body = ap (λ (d : Draft). d.body) fourth.draft_is ∙ w.keeps.body ∙ ap (λ (d : Draft). d.body) draft;
        positions = ap (λ (d : Draft). d.positions) fourth.draft_is ∙ w.keeps.positions
            ∙ ap (λ (d : Draft). d.positions) draft;
      })
    where
      one : State
      one = read text word s

      two : State
      two = read text opening one

      three : State
      three = read_all text two tests

      last : (read text closing three).standing ≡ Sound
      last = ap (λ (x : State). x.standing) (sym (read_append text tests (closing ∷ []) two)) ∙ h

      sound_three : three.standing ≡ Sound
      sound_three = (quiet text closing three last).before

      sound_two : two.standing ≡ Sound
      sound_two = quiet_before text tests two sound_three

      first : Taken text word s (statement_begins phases.Test word.at s.course) (begins_test kind word.at s.draft)
      first = taken text word s (statement_begins phases.Test word.at s.course) (begins_test kind word.at s.draft)
          (quiet text opening one sound_two).before takes

      second : Taken text opening one (expression_begins phases.Left one.course)
          (record one.draft { grammar_state = no_state })
      second = taken text opening one (expression_begins phases.Left one.course)
          (record one.draft { grammar_state = no_state })
          sound_two (token.begins_atoms text opening one.course one.draft b
          (ap (λ (x : Course). x.phase) first.course_is))

      draft : two.draft ≡ record (begins_test kind word.at s.draft) { grammar_state = no_state }
      draft = second.draft_is ∙ ap (λ (d : Draft). record d { grammar_state = no_state }) first.draft_is

      named : two.draft.names ≡ names
      named = ap (λ (d : Draft). d.names) draft ∙ ready.names_are

      left : two.draft.left ≡ Literal (pos 0)
      left = ap (λ (d : Draft). d.left) draft ∙ ready.left

      begins : BeginsExpression phases.Left two
      begins = record {
        standing = sound_two;
        phase_is = ap (λ (x : Course). x.phase) second.course_is;
        tokens_are = ap (λ (x : Course). x.tokens) second.course_is;
        depth_is = ap (λ (x : Course). x.depth) second.course_is;
        raised_is = ap (λ (x : Course). x.raised) second.course_is;
        state_is_represented = ap (λ (d : Draft). d.grammar_state) draft;
        inputs = subst (λ (ns : List Name). length ns ≤ 32) (sym named) few;
      }

      w : ReadsAtoms two three (atoms_terms two.draft.names atoms)
      w = atoms_read text atoms tests after closing two spells i (ap follower_by c) begins left sound_three

      fourth : Taken text closing three three.course three.draft
      fourth = taken text closing three three.course three.draft last
          (token.ends_atoms text closing three.course three.draft c w.phase)

  -- A test and its block are read.
  tested_reads : (kind : Opener) (make : List Atom → List Statement → Block) (s h t : State) (test : List Atom)
      (at : ℕ) (begin end : Piece) (body : List Piece) (statements : List Statement) (inner : List ℕ)
      → ((d : Draft) → block_opens kind d ≡ with_block (make d.test d.body) d) → Heads text names few s kind test at h
      → begin.sort ≡ sorts.BlockOpen → end.sort ≡ sorts.BlockClose
      → ((u : State) → IsReady text names few u → (read_all text u body).standing ≡ Sound
      → Reads text names few u statements inner (read_all text u body))
      → (read_all text h (begin ∷ (body ++ end ∷ []))).standing ≡ Sound
      → t ≡ read_all text h (begin ∷ (body ++ end ∷ []))
      → Closes text names few s (make test s.draft.body) statements (at ∷ inner) t
  tested_reads kind make s h t test at begin end body statements inner opens w a b within sound is =
      subst (Closes text names few s (make test s.draft.body) statements (at ∷ inner)) (sym is) (record {
        ready = k.ready;
        blocks = k.blocks ∙ w.blocks;
        body = k.body;
        positions = k.positions ∙ ap (λ (x : List ℕ). x ++ inner) w.positions ∙ append_assoc s.draft.positions (at ∷ [])
            inner;
      })
    where
      opened : block_opens h.draft.opener h.draft ≡ with_block (make test s.draft.body) h.draft
      opened =
          ap (λ (x : Opener). block_opens x h.draft) w.opener ∙ opens h.draft
          ∙ ap (λ (x : List Atom). with_block (make x h.draft.body) h.draft) w.test
          ∙ ap (λ (x : List Statement). with_block (make test x) h.draft) w.body

      k : Closes text names few h (make test s.draft.body) statements inner
          (read_all text h (begin ∷ (body ++ end ∷ [])))
      k = block_reads text names few begin end body statements inner h (make test s.draft.body) a b within opened w.left
          w.names_are sound

  -- `else` and a second block are read after a branch that has none yet.
  pub else_reads : (second begin end : Piece) (others : List Piece) (s m : State) (test : List Atom)
      (block : Statements)
      (statements : List Statement) (at outer : List ℕ) → second.sort ≡ sorts.Else → begin.sort ≡ sorts.BlockOpen
      → end.sort ≡ sorts.BlockClose
      → ((u : State) → IsReady text names few u → (read_all text u others).standing ≡ Sound
      → Reads text names few u statements outer (read_all text u others))
      → Reads text names few s (Branch test block Nothing ∷ []) at m
      → (read_all text m (second ∷ begin ∷ (others ++ end ∷ []))).standing ≡ Sound
      → Reads text names few s (Branch test block (joined statements) ∷ []) (at ++ outer)
      (read_all text m (second ∷ begin ∷ (others ++ end ∷ [])))
  else_reads second begin end others s m test block statements at outer a b e within w h = record {
    ready = k.ready;
    blocks = k.blocks ∙ ap (λ (d : Draft). d.blocks) word.draft_is ∙ w.blocks;
    body = k.body;
    positions = k.positions ∙ ap (λ (x : List ℕ). x ++ outer) (ap (λ (d : Draft). d.positions) word.draft_is
        ∙ w.positions)
        ∙ append_assoc s.draft.positions at outer;
  }
    where
      u : State
      u = read text second m

      sound : u.standing ≡ Sound
      sound = quiet_before text (begin ∷ (others ++ end ∷ [])) u h

      word : Taken text second m m.course m.draft
      word = taken text second m m.course m.draft sound (token.takes_else text second m.course m.draft a w.ready.phase)

      body : u.draft.body ≡ s.draft.body ++ Branch test block Nothing ∷ []
      body = ap (λ (d : Draft). d.body) word.draft_is ∙ w.body

      reopens : second_of (last_of u.draft.body) u.draft
          ≡ with_block (InSecond test block (before_last u.draft.body)) u.draft
      reopens = ap (λ (o : Option Statement). second_of o u.draft)
          (ap last_of body ∙ last_append s.draft.body (Branch test block Nothing))

      opened : block_opens u.draft.opener u.draft ≡ with_block (InSecond test block s.draft.body) u.draft
      opened =
          ap (λ (x : Opener). block_opens x u.draft) (ap (λ (d : Draft). d.opener) word.draft_is ∙ w.ready.opener)
          ∙ reopens
          ∙ ap (λ (x : List Statement). with_block (InSecond test block x) u.draft)
          (ap before_last body ∙ before_append s.draft.body (Branch test block Nothing))

      k : Closes text names few u (InSecond test block s.draft.body) statements outer
          (read_all text u (begin ∷ (others ++ end ∷ [])))
      k = block_reads text names few begin end others statements outer u (InSecond test block s.draft.body) b e within
          opened
          (ap (λ (d : Draft). d.left) word.draft_is ∙ w.ready.left)
          (ap (λ (d : Draft). d.names) word.draft_is ∙ w.ready.names_are) h

  -- The statements of a program as a list, and that joining the list gives the program.
  abbrev pub parts : Statements → List Statement
  parts Nothing = []
  parts (Simple action rest) = Plain action ∷ parts rest
  parts (While test block rest) = Loop test block ∷ parts rest
  parts (If test block other rest) = Branch test block other ∷ parts rest

  pub joined_parts : (program : Statements) → joined (parts program) ≡ program
  joined_parts Nothing = refl
  joined_parts (Simple action rest) = ap (Simple action) (joined_parts rest)
  joined_parts (While test block rest) = ap (While test block) (joined_parts rest)
  joined_parts (If test block other rest) = ap (If test block other) (joined_parts rest)

  -- These tokens are read as these statements, whatever tokens follow.
  abbrev pub AreRead : List Statement → List ℕ → List Piece → Type 0
  AreRead statements at ps =
      (after : List Piece) → IsTail text (ps ++ after) → (s : State) → IsReady text names few s
      → (read_all text s ps).standing ≡ Sound → Reads text names few s statements at (read_all text s ps)

  -- The tokens of a statement are read, and then those of the statements after it.
  pub then_read : (first rest : List Statement) (at more : List ℕ) (one others ps : List Piece) → ps ≡ one ++ others
      → AreRead first at one → AreRead rest more others → AreRead (first ++ rest) (at ++ more) ps
  then_read first rest at more one others ps e h k after i s ready sound =
      subst (λ (x : List Piece). Reads text names few s (first ++ rest) (at ++ more) (read_all text s x)) (sym e)
      (subst (Reads text names few s (first ++ rest) (at ++ more)) (sym (read_append text one others s))
      (reads_then text names few s (read_all text s one) (read_all text (read_all text s one) others) first rest at more
      before (k after (tail_behind text one (others ++ after) tail) (read_all text s one) before.ready
      (ap (λ (x : State). x.standing) (sym (read_append text one others s)) ∙ whole))))
    where
      whole : (read_all text s (one ++ others)).standing ≡ Sound
      whole = subst (λ (x : List Piece). (read_all text s x).standing ≡ Sound) e sound

      tail : IsTail text (one ++ (others ++ after))
      tail = subst (IsTail text) (ap (λ (x : List Piece). x ++ after) e ∙ append_assoc one others after) i

      before : Reads text names few s first at (read_all text s one)
      before = h (others ++ after) tail s ready (sound_first text one others s whole)

  -- The tokens of a block are read inside a statement.
  inside_tail : (opening begin end : Piece) (tests body after : List Piece)
      → IsTail text ((tests ++ opening ∷ begin ∷ (body ++ end ∷ [])) ++ after) → IsTail text (body ++ end ∷ after)
  inside_tail opening begin end tests body after i =
      subst (IsTail text) (append_assoc body (end ∷ []) after)
      (tail_behind text (opening ∷ begin ∷ []) ((body ++ end ∷ []) ++ after)
      (tail_behind text tests (opening ∷ begin ∷ ((body ++ end ∷ []) ++ after))
      (subst (IsTail text) (append_assoc tests (opening ∷ begin ∷ (body ++ end ∷ [])) after) i)))

  -- A first word, a test and a block are read, and the block is closed.
  pub closes : (kind : Opener) (make : List Atom → List Statement → Block) (word opening closing begin end : Piece)
      (tests body after : List Piece) (test : List Atom) (statements : List Statement) (inner : List ℕ) (s : State)
      → ((d : Draft) → block_opens kind d ≡ with_block (make d.test d.body) d)
      → Takes text word s.course s.draft (statement_begins phases.Test word.at s.course)
      (begins_test kind word.at s.draft)
      → opening.sort ≡ sorts.Open → SpellTest text names test tests → closing.sort ≡ sorts.Close
      → begin.sort ≡ sorts.BlockOpen → end.sort ≡ sorts.BlockClose → AreRead statements inner body
      → IsTail text ((word ∷ opening ∷ (tests ++ closing ∷ begin ∷ (body ++ end ∷ []))) ++ after)
      → IsReady text names few s
      → (read_all text s (word ∷ opening ∷ (tests ++ closing ∷ begin ∷ (body ++ end ∷ [])))).standing ≡ Sound
      → Closes text names few s (make test s.draft.body) statements (word.at ∷ inner)
      (read_all text s (word ∷ opening ∷ (tests ++ closing ∷ begin ∷ (body ++ end ∷ []))))
  closes kind make word opening closing begin end tests body after test statements inner s opens takes b v c o e within
      i ready h =
      tested_reads kind make s m (read_all text s (word ∷ opening ∷ (tests ++ closing ∷ begin ∷ (body ++ end ∷ []))))
      test word.at
      begin end body statements inner opens
      (test_reads kind word opening closing tests (begin ∷ ((body ++ end ∷ []) ++ after)) test s takes b v c tail ready
      (sound_first text (word ∷ opening ∷ (tests ++ closing ∷ [])) (begin ∷ (body ++ end ∷ [])) s whole)) o e
      (λ u r k. within (end ∷ after) (inside_tail closing begin end tests body after behind) u r k)
      (ap (λ (x : State). x.standing) (sym (read_append text (word ∷ opening ∷ (tests ++ closing ∷ []))
      (begin ∷ (body ++ end ∷ [])) s)) ∙ whole)
      (ap (read_all text s) parted ∙ read_append text (word ∷ opening ∷ (tests ++ closing ∷ []))
      (begin ∷ (body ++ end ∷ [])) s)
    where
      m : State
      m = read_all text s (word ∷ opening ∷ (tests ++ closing ∷ []))

      parted : word ∷ opening ∷ (tests ++ closing ∷ begin ∷ (body ++ end ∷ []))
          ≡ (word ∷ opening ∷ (tests ++ closing ∷ [])) ++ (begin ∷ (body ++ end ∷ []))
      parted = ap (λ (x : List Piece). word ∷ opening ∷ x)
          (sym (append_assoc tests (closing ∷ []) (begin ∷ (body ++ end ∷ []))))

      whole : (read_all text s ((word ∷ opening ∷ (tests ++ closing ∷ [])) ++ (begin ∷ (body ++ end ∷ [])))).standing
          ≡ Sound
      whole = subst (λ (x : List Piece). (read_all text s x).standing ≡ Sound) parted h

      behind : IsTail text ((tests ++ closing ∷ begin ∷ (body ++ end ∷ [])) ++ after)
      behind = tail_behind text (word ∷ opening ∷ []) ((tests ++ closing ∷ begin ∷ (body ++ end ∷ [])) ++ after) i

      tail : IsTail text (tests ++ closing ∷ begin ∷ ((body ++ end ∷ []) ++ after))
      tail = subst (IsTail text) (append_assoc tests (closing ∷ begin ∷ (body ++ end ∷ [])) after) behind
