-- Loops and branches, statements, and programs are read as they are written.
use Rattle.std.proofs.Common.{◌≡◌, ℕ, ◌≤◌, List, [], ◌∷◌, ◌++◌, length, refl, sym, ap, subst, ◌∙◌}
use Rattle.std.proofs.Common.{append_assoc, append-nil}
use Rattle.text_core.specs.Tokens.{pieces}
use Rattle.while_text.specs.model.Programs.{Name, Atom}
use Rattle.while_text.specs.while_model.Statements.{Statements, Nothing}
use Rattle.while_text.specs.while_tree.Views.{Statement, Loop, Branch, joined}
use Rattle.while_text.specs.declared.block.Opener.TheVariants as openers
use Rattle.while_text.specs.declared.phase.Phase.TheVariants as phases
use Rattle.while_text.specs.declared.phase.Standing.TheVariants.{Sound}
use Rattle.while_text.specs.declared.piece.Piece.{Piece}
use Rattle.while_text.specs.declared.piece.Sort.TheVariants as sorts
use Rattle.while_text.specs.Courses.{Course}
use Rattle.while_text.specs.Drafts.{Draft, Block, InLoop, InFirst, bytes_of}
use Rattle.while_text.specs.Drafts.{before_of, statement_of}
use Rattle.while_text.specs.Lexing.{tokens}
use Rattle.while_text.specs.Reading.{State, Source, begun, read, source_in}
use Rattle.while_laws.specs.SpelledPrograms as spelled
use Rattle.while_laws.specs.SpelledPrograms.{SpellNames, one_name, name_more, SpellTest, SpellStatements, SpellProgram}
use Rattle.while_laws.specs.Values.{read_all}
use Rattle.while_laws.proofs.BlocksRead.{parts, joined_parts, AreRead, then_read, closes, else_reads}
use Rattle.while_laws.proofs.ProgramTokens as token
use Rattle.while_laws.proofs.ProgramTokens.{Taken, taken, Takes}
use Rattle.while_laws.proofs.Quiet.{quiet, quiet_before, read_append}
use Rattle.while_laws.proofs.StatementsRead.{Reads, reads_none, Closes, assignment_reads}
use Rattle.while_laws.proofs.StatementsRead.{choice_reads, skip_reads}
use Rattle.while_laws.proofs.TestsRead.{IsTail, tail_behind, sound_first}

module _ (text : List ℕ) (names : List Name) (few : length names ≤ 32) where
  -- A block that is closed gives its statement.
  closed_reads : (block : Block) (statement : Statement) (statements : List Statement) (at : List ℕ) (s t : State)
      → before_of block ≡ s.draft.body → statement_of block (joined statements) ≡ statement
      → Closes text names few s block statements at t → Reads text names few s (statement ∷ []) at t
  closed_reads block statement statements at s t e f w = record {
    ready = w.ready;
    blocks = w.blocks;
    body = w.body ∙ ap (λ (x : List Statement). x ++ statement_of block (joined statements) ∷ []) e
        ∙ ap (λ (x : Statement). s.draft.body ++ x ∷ []) f;
    positions = w.positions;
  }

  loop_read : (word opening closing begin end : Piece) (tests body : List Piece) (test : List Atom) (block : Statements)
      (inner : List ℕ) → word.sort ≡ sorts.While → opening.sort ≡ sorts.Open → SpellTest text names test tests
      → closing.sort ≡ sorts.Close → begin.sort ≡ sorts.BlockOpen
      → AreRead text names few (parts text names few block) inner body
      → end.sort ≡ sorts.BlockClose
      → AreRead text names few (Loop test block ∷ []) (word.at ∷ inner)
      (word ∷ opening ∷ (tests ++ closing ∷ begin ∷ (body ++ end ∷ [])))
  loop_read word opening closing begin end tests body test block inner a b v c o within e after i s ready h =
      closed_reads (InLoop test s.draft.body) (Loop test block) (parts text names few block) (word.at ∷ inner) s
      (read_all text s (word ∷ opening ∷ (tests ++ closing ∷ begin ∷ (body ++ end ∷ [])))) refl
      (ap (Loop test) (joined_parts text names few block))
      (closes text names few openers.Loop (λ x y. InLoop x y) word opening closing begin end tests body after test
      (parts text names few block) inner s
      (λ d. refl) (token.begins_loop text word s.course s.draft a ready.phase) b v c o e within i ready h)

  branch_read : (word opening closing begin end : Piece) (tests body : List Piece) (test : List Atom)
      (block : Statements)
      (inner : List ℕ) → word.sort ≡ sorts.If → opening.sort ≡ sorts.Open → SpellTest text names test tests
      → closing.sort ≡ sorts.Close → begin.sort ≡ sorts.BlockOpen
      → AreRead text names few (parts text names few block) inner body
      → end.sort ≡ sorts.BlockClose
      → AreRead text names few (Branch test block Nothing ∷ []) (word.at ∷ inner)
      (word ∷ opening ∷ (tests ++ closing ∷ begin ∷ (body ++ end ∷ [])))
  branch_read word opening closing begin end tests body test block inner a b v c o within e after i s ready h =
      closed_reads (InFirst test s.draft.body) (Branch test block Nothing) (parts text names few block)
      (word.at ∷ inner) s
      (read_all text s (word ∷ opening ∷ (tests ++ closing ∷ begin ∷ (body ++ end ∷ [])))) refl
      (ap (λ (x : Statements). Branch test x Nothing) (joined_parts text names few block))
      (closes text names few openers.First (λ x y. InFirst x y) word opening closing begin end tests body after test
      (parts text names few block) inner s
      (λ d. refl) (token.begins_branch text word s.course s.draft a ready.phase) b v c o e within i ready h)

  branch_else_read : (first : List Piece) (second begin end : Piece) (others : List Piece) (test : List Atom)
      (block other : Statements) (at outer : List ℕ) → AreRead text names few (Branch test block Nothing ∷ []) at first
      → second.sort ≡ sorts.Else → begin.sort ≡ sorts.BlockOpen
      → AreRead text names few (parts text names few other) outer others
      → end.sort ≡ sorts.BlockClose
      → AreRead text names few (Branch test block other ∷ []) (at ++ outer)
      (first ++ second ∷ begin ∷ (others ++ end ∷ []))
  branch_else_read first second begin end others test block other at outer one a o within e after i s ready h =
      subst (λ (x : Statements). Reads text names few s (Branch test block x ∷ []) (at ++ outer)
      (read_all text s (first ++ second ∷ begin ∷ (others ++ end ∷ [])))) (joined_parts text names few other)
      (subst (Reads text names few s (Branch test block (joined (parts text names few other)) ∷ []) (at ++ outer))
      (sym (read_append text first (second ∷ begin ∷ (others ++ end ∷ [])) s))
      (else_reads text names few second begin end others s (read_all text s first) test block
      (parts text names few other) at outer a o e
      (λ u r k. within (end ∷ after) tail u r k)
      (one ((second ∷ begin ∷ (others ++ end ∷ [])) ++ after) whole s ready
      (sound_first text first (second ∷ begin ∷ (others ++ end ∷ [])) s h))
      (ap (λ (x : State). x.standing) (sym (read_append text first (second ∷ begin ∷ (others ++ end ∷ [])) s)) ∙ h)))
    where
      whole : IsTail text (first ++ ((second ∷ begin ∷ (others ++ end ∷ [])) ++ after))
      whole = subst (IsTail text) (append_assoc first (second ∷ begin ∷ (others ++ end ∷ [])) after) i

      tail : IsTail text (others ++ end ∷ after)
      tail = subst (IsTail text) (append_assoc others (end ∷ []) after)
          (tail_behind text (second ∷ begin ∷ []) ((others ++ end ∷ []) ++ after)
          (tail_behind text first ((second ∷ begin ∷ (others ++ end ∷ [])) ++ after) whole))

  -- The tokens of a test and a block, separated from those after them.
  block_parted : (word opening closing begin end : Piece) (tests body ps : List Piece)
      → word ∷ opening ∷ (tests ++ closing ∷ begin ∷ (body ++ end ∷ ps))
      ≡ (word ∷ opening ∷ (tests ++ closing ∷ begin ∷ (body ++ end ∷ []))) ++ ps
  block_parted word opening closing begin end tests body ps =
      ap (λ (x : List Piece). word ∷ opening ∷ x)
      (ap (λ (x : List Piece). tests ++ closing ∷ begin ∷ x) (sym (append_assoc body (end ∷ []) ps))
      ∙ sym (append_assoc tests (closing ∷ begin ∷ (body ++ end ∷ [])) ps))

  -- Tokens that spell statements are read as these statements.
  pub statements_read : {program : Statements} {at : List ℕ} {ps : List Piece}
      → SpellStatements text names program at ps → AreRead text names few (parts text names few program) at ps
  statements_read spelled.nothing = λ after i s ready h. reads_none text names few s ready
  statements_read (spelled.assignment name becomes end value e {rest} {at} {ps} a b v c w) =
      then_read text names few (_ ∷ []) (parts text names few rest) (name.at ∷ []) at
      (name ∷ becomes ∷ (value ++ end ∷ [])) ps _
      (ap (λ (x : List Piece). name ∷ becomes ∷ x) (sym (append_assoc value (end ∷ []) ps)))
      (λ after i s ready h. assignment_reads text names few name becomes end value after e s a b v c
      (subst (IsTail text) (append_assoc value (end ∷ []) after)
      (tail_behind text (name ∷ becomes ∷ []) ((value ++ end ∷ []) ++ after) i)) ready h) (statements_read w)
  statements_read (spelled.choice name becomes any end {rest} {at} {ps} a b q c w) =
      then_read text names few (_ ∷ []) (parts text names few rest) (name.at ∷ []) at (name ∷ becomes ∷ any ∷ end ∷ [])
      ps _ refl
      (λ after i s ready h. choice_reads text names few name becomes any end s a b q c ready h) (statements_read w)
  statements_read (spelled.skip word end {rest} {at} {ps} a b w) =
      then_read text names few (_ ∷ []) (parts text names few rest) (word.at ∷ []) at (word ∷ end ∷ []) ps _ refl
      (λ after i s ready h. skip_reads text names few word end s a b ready h) (statements_read w)
  statements_read (spelled.loop word opening closing begin end tests body {test} {block} {rest} {inner} {at} {ps} a b v
      c o u e w) =
      then_read text names few (_ ∷ []) (parts text names few rest) (word.at ∷ inner) at
      (word ∷ opening ∷ (tests ++ closing ∷ begin ∷ (body ++ end ∷ []))) ps _
      (block_parted word opening closing begin end tests body ps)
      (loop_read word opening closing begin end tests body test block inner a b v c o (statements_read u) e)
      (statements_read w)
  statements_read (spelled.branch word opening closing begin end tests body {test} {block} {rest} {inner} {at} {ps} a b
      v c o u e w) =
      then_read text names few (_ ∷ []) (parts text names few rest) (word.at ∷ inner) at
      (word ∷ opening ∷ (tests ++ closing ∷ begin ∷ (body ++ end ∷ []))) ps _
      (block_parted word opening closing begin end tests body ps)
      (branch_read word opening closing begin end tests body test block inner a b v c o (statements_read u) e)
      (statements_read w)
  statements_read (spelled.branch_else word opening closing begin end second begin_other end_other tests body others
      {test} {block} {other} {rest} {inner} {outer} {at} {ps} a b v c o u e d p q f w) =
      subst (λ (x : List ℕ). AreRead text names few (Branch test block other ∷ parts text names few rest) x
      (word ∷ opening ∷ (tests ++ closing ∷ begin ∷ (body ++ end ∷ second ∷ begin_other ∷ (others ++ end_other ∷ ps)))))
      (append_assoc (word.at ∷ inner) outer at)
      (then_read text names few (_ ∷ []) (parts text names few rest) ((word.at ∷ inner) ++ outer) at
      ((word ∷ opening ∷ (tests ++ closing ∷ begin ∷ (body ++ end ∷ []))) ++ second ∷ begin_other
      ∷ (others ++ end_other ∷ [])) ps _
      (block_parted word opening closing begin end tests body (second ∷ begin_other ∷ (others ++ end_other ∷ ps))
      ∙ ap (λ (x : List Piece). (word ∷ opening ∷ (tests ++ closing ∷ begin ∷ (body ++ end ∷ []))) ++ second
      ∷ begin_other ∷ x)
      (sym (append_assoc others (end_other ∷ []) ps))
      ∙ sym (append_assoc (word ∷ opening ∷ (tests ++ closing ∷ begin ∷ (body ++ end ∷ [])))
      (second ∷ begin_other ∷ (others ++ end_other ∷ [])) ps))
      (branch_else_read (word ∷ opening ∷ (tests ++ closing ∷ begin ∷ (body ++ end ∷ []))) second begin_other end_other
      others
      test block other (word.at ∷ inner) outer
      (branch_read word opening closing begin end tests body test block inner a b v c o (statements_read u) e) d p
      (statements_read q) f) (statements_read w))

module _ (text : List ℕ) where
  -- Names are read as the names of inputs.
  record ReadsNames (s : State) (names : List Name) (t : State) : Type 0 where
    pub phase : t.course.phase ≡ phases.Statements
    pub draft : t.draft ≡ record s.draft { names = s.draft.names ++ names }
    pub few : length t.draft.names ≤ 32

  -- A name and `,` are read before other names.
  name_then : (t : State) (name comma : Piece) (names : List Name) (s : State) → name.sort ≡ sorts.Name
      → comma.sort ≡ sorts.Comma → s.course.phase ≡ phases.Inputs
      → (read text comma (read text name s)).standing ≡ Sound
      → ((read text comma (read text name s)).course.phase ≡ phases.Inputs
      → ReadsNames (read text comma (read text name s)) names t)
      → ReadsNames s (bytes_of text name ∷ names) t
  name_then t name comma names s a b phase sound rest = record {
    phase = others.phase;
    draft = others.draft ∙ ap (λ (d : Draft). record d { names = d.names ++ names }) draft
        ∙ ap (λ (ns : List Name). record s.draft { names = ns }) (append_assoc s.draft.names (bytes_of text name ∷ [])
        names);
    few = others.few;
  }
    where
      one : State
      one = read text name s

      first : Taken text name s s.course (record s.draft { names = s.draft.names ++ bytes_of text name ∷ [] })
      first = taken text name s s.course (record s.draft { names = s.draft.names ++ bytes_of text name ∷ [] })
          (quiet text comma one sound).before (token.takes_name text name s.course s.draft a phase)

      inputs : one.course.phase ≡ phases.Inputs
      inputs = ap (λ (c : Course). c.phase) first.course_is ∙ phase

      second : Taken text comma one one.course one.draft
      second = taken text comma one one.course one.draft sound
          (token.takes_comma text comma one.course one.draft b inputs)

      draft : (read text comma one).draft ≡ record s.draft { names = s.draft.names ++ bytes_of text name ∷ [] }
      draft = second.draft_is ∙ first.draft_is

      others : ReadsNames (read text comma one) names t
      others = rest (ap (λ (c : Course). c.phase) second.course_is ∙ inputs)

  names_read : {names : List Name} {ps : List Piece} → SpellNames text names ps → (s : State)
      → s.course.phase ≡ phases.Inputs → (read_all text s ps).standing ≡ Sound
      → ReadsNames s names (read_all text s ps)
  names_read (one_name name end a b) s phase h = record {
    phase = ap (λ (c : Course). c.phase) second.course_is;
    draft = draft;
    few = subst (λ (ns : List Name). length ns ≤ 32) (sym (ap (λ (d : Draft). d.names) draft))
        (token.few_inputs text name s a phase sound);
  }
    where
      one : State
      one = read text name s

      sound : one.standing ≡ Sound
      sound = (quiet text end one h).before

      first : Taken text name s s.course (record s.draft { names = s.draft.names ++ bytes_of text name ∷ [] })
      first = taken text name s s.course (record s.draft { names = s.draft.names ++ bytes_of text name ∷ [] }) sound
          (token.takes_name text name s.course s.draft a phase)

      second : Taken text end one (record one.course { phase = phases.Statements }) one.draft
      second = taken text end one (record one.course { phase = phases.Statements }) one.draft h
          (token.ends_inputs text end one.course one.draft b (ap (λ (c : Course). c.phase) first.course_is ∙ phase))

      draft : (read text end one).draft ≡ record s.draft { names = s.draft.names ++ bytes_of text name ∷ [] }
      draft = second.draft_is ∙ first.draft_is
  names_read (name_more name comma {names} {ps} a b w) s phase h =
      name_then (read_all text s (name ∷ comma ∷ ps)) name comma names s a b phase
      (quiet_before text ps (read text comma (read text name s)) h)
      (λ e. names_read w (read text comma (read text name s)) e h)

  -- Tokens that spell a program are read as that program.
  pub program_read : (source : Source) (ps : List Piece) → SpellProgram text source ps → ps ≡ pieces (tokens text)
      → (read_all text begun ps).standing ≡ Sound → source_in (read_all text begun ps).draft ≡ source
  program_read source ps w e h =
      subst (λ (x : List Piece). source_in (read_all text begun x).draft ≡ source) (sym w.whole)
      (ap (λ (x : State). source_in x.draft) (read_append text w.inputs w.statements one)
      ∙ ap (λ (x : List Name). record { names = x; program = joined t.draft.body; at = t.draft.positions })
      (k.ready.names_are ∙ named)
      ∙ ap (λ (x : List Statement). record { names = source.names; program = joined x; at = t.draft.positions })
      (k.body ∙ ap (λ (d : Draft). d.body ++ parts text two.draft.names inputs.few source.program) draft)
      ∙ ap (λ (x : Statements). record { names = source.names; program = x; at = t.draft.positions })
      (joined_parts text two.draft.names inputs.few source.program)
      ∙ ap (λ (x : List ℕ). record { names = source.names; program = source.program; at = x })
      (k.positions ∙ ap (λ (d : Draft). d.positions ++ source.at) draft))
    where
      one : State
      one = read text w.word begun

      two : State
      two = read_all text one w.inputs

      t : State
      t = read_all text two w.statements

      whole : (read_all text one (w.inputs ++ w.statements)).standing ≡ Sound
      whole = subst (λ (x : List Piece). (read_all text begun x).standing ≡ Sound) w.whole h

      sound : t.standing ≡ Sound
      sound = ap (λ (x : State). x.standing) (sym (read_append text w.inputs w.statements one)) ∙ whole

      sound_two : two.standing ≡ Sound
      sound_two = quiet_before text w.statements two sound

      first : Taken text w.word begun begun.course begun.draft
      first = taken text w.word begun begun.course begun.draft (quiet_before text w.inputs one sound_two)
          (token.takes_input text w.word begun.course begun.draft w.word_is refl)

      inputs : ReadsNames one source.names two
      inputs = names_read w.names one (ap (λ (c : Course). c.phase) first.course_is) sound_two

      draft : two.draft ≡ record begun.draft { names = source.names }
      draft = inputs.draft ∙ ap (λ (d : Draft). record d { names = d.names ++ source.names }) first.draft_is

      named : two.draft.names ≡ source.names
      named = ap (λ (d : Draft). d.names) draft

      tail : IsTail text (w.statements ++ [])
      tail = (
        w.word ∷ w.inputs,
        sym e ∙ w.whole ∙ ap (λ (x : List Piece). w.word ∷ (w.inputs ++ x))
            (sym (append-nil w.statements)),
      )

      k : Reads text two.draft.names inputs.few two (parts text two.draft.names inputs.few source.program) source.at t
      k = statements_read text two.draft.names inputs.few
          (subst (λ (ns : List Name). SpellStatements text ns source.program source.at w.statements) (sym named)
          w.program) []
          tail two (record {
            phase = inputs.phase;
            opener = ap (λ (d : Draft). d.opener) draft;
            left = ap (λ (d : Draft). d.left) draft;
            names_are = refl;
          }) sound
