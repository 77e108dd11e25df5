-- Single statements and blocks are read as they are written.
use Rattle.std.proofs.Common.{◌≡◌, ℕ, ◌≤◌, Bool, true, false, cond, List, [], ◌∷◌, ◌++◌, length, Option, refl}
use Rattle.std.proofs.Common.{sym, ap}
use Rattle.std.proofs.Common.{subst, ◌∙◌, append_assoc, append-nil}
use Rattle.std.specs.Prelude.{pos}
use Rattle.text_core.specs.Names.{position_of}
use Rattle.expr_text.specs.Terms.{sum_term}
use Rattle.expr_text.specs.Trees.{Sum}
use Rattle.while_text.specs.model.Programs.{Name, Atom}
use Rattle.while_text.specs.model.Terms.{Literal}
use Rattle.while_text.specs.while_model.Statements.{Action, Assign, Choose, Skip}
use Rattle.while_text.specs.while_tree.Views.{Statement, Plain, joined}
use Rattle.while_text.specs.declared.block.Opener.{Opener}
use Rattle.while_text.specs.declared.block.Opener.TheVariants as openers
use Rattle.while_text.specs.declared.phase.Phase.TheVariants as phases
use Rattle.while_text.specs.declared.phase.Standing.TheVariants.{Sound}
use Rattle.while_text.specs.declared.piece.Piece.{Piece}
use Rattle.while_text.specs.declared.piece.Sort.TheVariants as sorts
use Rattle.while_text.specs.Courses.{Course, expression_begins, statement_begins}
use Rattle.while_text.specs.Drafts.{Draft, Block, bytes_of, number_of, no_state}
use Rattle.while_text.specs.Drafts.{with_statement, begins_at, with_block, block_opens, block_closes}
use Rattle.while_text.specs.Drafts.{closed}
use Rattle.while_text.specs.Drafts.{last_of, before_last, before_of, statement_of, assignment_ends}
use Rattle.while_text.specs.Reading.{State, read}
use Rattle.while_text.proofs.GrammarStates.{last_append, before_append}
use Rattle.while_laws.specs.Spelled.{SpellSum}
use Rattle.while_laws.specs.Values.{read_all, follower_by, BeginsExpression}
use Rattle.while_laws.proofs.ProgramTokens as token
use Rattle.while_laws.proofs.ProgramTokens.{Taken, taken, Takes}
use Rattle.while_laws.proofs.Quiet.{quiet, quiet_before, read_append}
use Rattle.while_laws.proofs.ReadAlike.{value_read}
use Rattle.while_laws.proofs.TestsRead.{IsTail, in_tail, value_goes_on}

module _ (text : List ℕ) (names : List Name) (few : length names ≤ 32) where
  -- Statements may begin in the state.
  pub record IsReady (s : State) : Type 0 where
    pub phase : s.course.phase ≡ phases.Statements
    pub opener : s.draft.opener ≡ openers.Second
    pub left : s.draft.left ≡ Literal (pos 0)
    pub names_are : s.draft.names ≡ names

  -- These statements, at these positions, are read between the two states.
  pub record Reads (s : State) (statements : List Statement) (at : List ℕ) (t : State) : Type 0 where
    pub ready : IsReady t
    pub blocks : t.draft.blocks ≡ s.draft.blocks
    pub body : t.draft.body ≡ s.draft.body ++ statements
    pub positions : t.draft.positions ≡ s.draft.positions ++ at

  -- No statements are read without a token, and statements after others.
  pub reads_none : (s : State) → IsReady s → Reads s [] [] s
  reads_none s ready = record {
    ready = ready;
    blocks = refl;
    body = sym (append-nil s.draft.body);
    positions = sym (append-nil s.draft.positions);
  }

  pub reads_then : (s m t : State) (first rest : List Statement) (at more : List ℕ) → Reads s first at m
      → Reads m rest more t → Reads s (first ++ rest) (at ++ more) t
  reads_then s m t first rest at more h k = record {
    ready = k.ready;
    blocks = k.blocks ∙ h.blocks;
    body = k.body ∙ ap (λ (x : List Statement). x ++ rest) h.body ∙ append_assoc s.draft.body first rest;
    positions = k.positions ∙ ap (λ (x : List ℕ). x ++ more) h.positions ∙ append_assoc s.draft.positions at more;
  }

  -- A name and `:=` are read.
  record Assigns (s : State) (name : Piece) (t : State) : Type 0 where
    pub begins : BeginsExpression phases.Value t
    pub opener : t.draft.opener ≡ openers.Second
    pub left : t.draft.left ≡ Literal (pos 0)
    pub names_are : t.draft.names ≡ names
    pub blocks : t.draft.blocks ≡ s.draft.blocks
    pub body : t.draft.body ≡ s.draft.body
    pub positions : t.draft.positions ≡ s.draft.positions ++ name.at ∷ []
    pub chosen : t.draft.chosen ≡ false
    pub variable : t.draft.variable ≡ position_of (bytes_of text name) names

  assigns : (name becomes : Piece) (s : State) → name.sort ≡ sorts.Name → becomes.sort ≡ sorts.Becomes → IsReady s
      → (read text becomes (read text name s)).standing ≡ Sound → Assigns s name (read text becomes (read text name s))
  assigns name becomes s a b ready h = record {
    begins = record {
      standing = h;
      phase_is = ap (λ (c : Course). c.phase) second.course_is;
      tokens_are = ap (λ (c : Course). c.tokens) second.course_is;
      depth_is = ap (λ (c : Course). c.depth) second.course_is;
      raised_is = ap (λ (c : Course). c.raised) second.course_is;
      state_is_represented = ap (λ (d : Draft). d.grammar_state) second.draft_is;
      inputs = subst (λ (ns : List Name). length ns ≤ 32) (sym named) few;
    };
    opener = ap (λ (d : Draft). d.opener) second.draft_is ∙ ap (λ (d : Draft). d.opener) first.draft_is ∙ ready.opener;
    left = ap (λ (d : Draft). d.left) second.draft_is ∙ ap (λ (d : Draft). d.left) first.draft_is ∙ ready.left;
    names_are = named;
    blocks = ap (λ (d : Draft). d.blocks) second.draft_is ∙ ap (λ (d : Draft). d.blocks) first.draft_is;
    body = ap (λ (d : Draft). d.body) second.draft_is ∙ ap (λ (d : Draft). d.body) first.draft_is;
    positions = ap (λ (d : Draft). d.positions) second.draft_is ∙ ap (λ (d : Draft). d.positions) first.draft_is;
    chosen = ap (λ (d : Draft). d.chosen) second.draft_is;
    variable = ap (λ (d : Draft). d.variable) second.draft_is ∙ ap (λ (d : Draft). d.variable) first.draft_is
        ∙ numbered;
  }
    where
      one : State
      one = read text name s

      sound : one.standing ≡ Sound
      sound = (quiet text becomes one h).before

      first : Taken text name s (statement_begins phases.Assignment name.at s.course)
          (record (begins_at name.at s.draft) { variable = number_of s.draft.names (bytes_of text name) })
      first = taken text name s (statement_begins phases.Assignment name.at s.course)
          (record (begins_at name.at s.draft) { variable = number_of s.draft.names (bytes_of text name) }) sound
          (token.begins_assignment text name s.course s.draft a ready.phase)

      second : Taken text becomes one (expression_begins phases.Value one.course)
          (record one.draft { grammar_state = no_state; chosen = false })
      second = taken text becomes one (expression_begins phases.Value one.course)
          (record one.draft { grammar_state = no_state; chosen = false }) h
          (token.begins_value text becomes one.course one.draft b (ap (λ (c : Course). c.phase) first.course_is))

      named : (read text becomes one).draft.names ≡ names
      named = ap (λ (d : Draft). d.names) second.draft_is ∙ ap (λ (d : Draft). d.names) first.draft_is ∙ ready.names_are

      numbered : number_of s.draft.names (bytes_of text name) ≡ position_of (bytes_of text name) names
      numbered =
          token.assigned_number text name s a ready.phase
          (subst (λ (ns : List Name). length ns ≤ 32) (sym ready.names_are) few) sound
          ∙ ap (λ (ns : List Name). position_of (bytes_of text name) ns) ready.names_are

  -- The `;` of an assignment is read.
  ended : (name end : Piece) (action : Action) (s two t : State) → Assigns s name two → end.sort ≡ sorts.Semicolon
      → t.course.phase ≡ phases.Value → (read text end t).standing ≡ Sound → t.draft.opener ≡ two.draft.opener
      → t.draft.left ≡ two.draft.left → t.draft.names ≡ two.draft.names → t.draft.blocks ≡ two.draft.blocks
      → t.draft.body ≡ two.draft.body → t.draft.positions ≡ two.draft.positions
      → cond t.draft.chosen (Choose t.draft.variable) (Assign t.draft.variable t.draft.value) ≡ action
      → Reads s (Plain action ∷ []) (name.at ∷ []) (read text end t)
  ended name end action s two t w e phase h opener left named blocks body positions is = record {
    ready = record {
      phase = ap (λ (c : Course). c.phase) k.course_is;
      opener = ap (λ (d : Draft). d.opener) k.draft_is ∙ opener ∙ w.opener;
      left = ap (λ (d : Draft). d.left) k.draft_is ∙ left ∙ w.left;
      names_are = ap (λ (d : Draft). d.names) k.draft_is ∙ named ∙ w.names_are;
    };
    blocks = ap (λ (d : Draft). d.blocks) k.draft_is ∙ blocks ∙ w.blocks;
    body = ap (λ (d : Draft). d.body) k.draft_is ∙ ap (λ (x : Action). t.draft.body ++ Plain x ∷ []) is
        ∙ ap (λ (x : List Statement). x ++ Plain action ∷ []) (body ∙ w.body);
    positions = ap (λ (d : Draft). d.positions) k.draft_is ∙ positions ∙ w.positions;
  }
    where
      k : Taken text end t (record t.course { phase = phases.Statements }) (assignment_ends t.draft)
      k = taken text end t (record t.course { phase = phases.Statements }) (assignment_ends t.draft) h
          (token.ends_value text end t.course t.draft e phase)

  -- `x := e;` is read.
  pub assignment_reads : (name becomes end : Piece) (value after : List Piece) (e : Sum) (s : State)
      → name.sort ≡ sorts.Name → becomes.sort ≡ sorts.Becomes → SpellSum text e value → end.sort ≡ sorts.Semicolon
      → IsTail text (value ++ end ∷ after) → IsReady s
      → (read_all text s (name ∷ becomes ∷ (value ++ end ∷ []))).standing ≡ Sound
      → Reads s (Plain (Assign (position_of (bytes_of text name) names) (sum_term names e)) ∷ []) (name.at ∷ [])
      (read_all text s (name ∷ becomes ∷ (value ++ end ∷ [])))
  assignment_reads name becomes end value after e s a b v c i ready h =
      subst (Reads s (Plain (Assign (position_of (bytes_of text name) names) (sum_term names e)) ∷ []) (name.at ∷ []))
      (sym (read_append text value (end ∷ []) two))
      (ended name end (Assign (position_of (bytes_of text name) names) (sum_term names e)) s two three w c
      (value_goes_on text e value two v w.begins.phase_is) last (ap (λ (d : Draft). d.opener) made)
      (ap (λ (d : Draft). d.left) made) (ap (λ (d : Draft). d.names) made) (ap (λ (d : Draft). d.blocks) made)
      (ap (λ (d : Draft). d.body) made) (ap (λ (d : Draft). d.positions) made)
      (ap (λ (d : Draft). cond d.chosen (Choose d.variable) (Assign d.variable d.value)) made
      ∙ ap (λ (x : Bool). cond x (Choose two.draft.variable) (Assign two.draft.variable (sum_term two.draft.names e)))
      w.chosen
      ∙ ap (λ (x : ℕ). Assign x (sum_term two.draft.names e)) w.variable
      ∙ ap (λ (ns : List Name). Assign (position_of (bytes_of text name) names) (sum_term ns e)) w.names_are))
    where
      two : State
      two = read text becomes (read text name s)

      three : State
      three = read_all text two value

      last : (read text end three).standing ≡ Sound
      last = ap (λ (x : State). x.standing) (sym (read_append text value (end ∷ []) two)) ∙ h

      sound : three.standing ≡ Sound
      sound = (quiet text end three last).before

      w : Assigns s name two
      w = assigns name becomes s a b ready (quiet_before text value two sound)

      made : three.draft ≡ record two.draft { value = sum_term two.draft.names e; grammar_state = no_state }
      made = value_read text e value end two v (in_tail text value after end i (ap follower_by c)) w.begins sound

  -- `x := ?;` is read.
  pub choice_reads : (name becomes any end : Piece) (s : State) → name.sort ≡ sorts.Name
      → becomes.sort ≡ sorts.Becomes → any.sort ≡ sorts.Question → end.sort ≡ sorts.Semicolon → IsReady s
      → (read_all text s (name ∷ becomes ∷ any ∷ end ∷ [])).standing ≡ Sound
      → Reads s (Plain (Choose (position_of (bytes_of text name) names)) ∷ []) (name.at ∷ [])
      (read_all text s (name ∷ becomes ∷ any ∷ end ∷ []))
  choice_reads name becomes any end s a b q c ready h =
      ended name end (Choose (position_of (bytes_of text name) names)) s two three w c
      (ap (λ (x : Course). x.phase) k.course_is ∙ w.begins.phase_is) h (ap (λ (d : Draft). d.opener) k.draft_is)
      (ap (λ (d : Draft). d.left) k.draft_is) (ap (λ (d : Draft). d.names) k.draft_is)
      (ap (λ (d : Draft). d.blocks) k.draft_is) (ap (λ (d : Draft). d.body) k.draft_is)
      (ap (λ (d : Draft). d.positions) k.draft_is)
      (ap (λ (d : Draft). cond d.chosen (Choose d.variable) (Assign d.variable d.value)) k.draft_is
      ∙ ap (λ (x : ℕ). Choose x) w.variable)
    where
      two : State
      two = read text becomes (read text name s)

      three : State
      three = read text any two

      sound : three.standing ≡ Sound
      sound = (quiet text end three h).before

      w : Assigns s name two
      w = assigns name becomes s a b ready (quiet text any two sound).before

      k : Taken text any two two.course (record two.draft { chosen = true })
      k = taken text any two two.course (record two.draft { chosen = true }) sound
          (token.takes_any text any two.course two.draft q w.begins.phase_is)

  -- The tokens `skip;` append a statement.
  pub skip_reads : (word end : Piece) (s : State) → word.sort ≡ sorts.Skip → end.sort ≡ sorts.Semicolon → IsReady s
      → (read_all text s (word ∷ end ∷ [])).standing ≡ Sound
      → Reads s (Plain Skip ∷ []) (word.at ∷ []) (read_all text s (word ∷ end ∷ []))
  skip_reads word end s a b ready h = record {
    ready = record {
      phase = ap (λ (c : Course). c.phase) second.course_is ∙ phase;
      opener = ap (λ (d : Draft). d.opener) draft ∙ ready.opener;
      left = ap (λ (d : Draft). d.left) draft ∙ ready.left;
      names_are = ap (λ (d : Draft). d.names) draft ∙ ready.names_are;
    };
    blocks = ap (λ (d : Draft). d.blocks) draft;
    body = ap (λ (d : Draft). d.body) draft;
    positions = ap (λ (d : Draft). d.positions) draft;
  }
    where
      one : State
      one = read text word s

      first : Taken text word s (statement_begins phases.Statements word.at s.course)
          (with_statement (Plain Skip) (begins_at word.at s.draft))
      first = taken text word s (statement_begins phases.Statements word.at s.course)
          (with_statement (Plain Skip) (begins_at word.at s.draft)) (quiet text end one h).before
          (token.takes_skip text word s.course s.draft a ready.phase)

      phase : one.course.phase ≡ phases.Statements
      phase = ap (λ (c : Course). c.phase) first.course_is

      second : Taken text end one one.course one.draft
      second = taken text end one one.course one.draft h (token.ends_skip text end one.course one.draft b phase)

      draft : (read text end one).draft ≡ with_statement (Plain Skip) (begins_at word.at s.draft)
      draft = second.draft_is ∙ first.draft_is

  -- The second state is after a block has been read: its statement is appended to those before it.
  pub record Closes (s : State) (block : Block) (statements : List Statement) (at : List ℕ) (t : State) : Type 0 where
    pub ready : IsReady t
    pub blocks : t.draft.blocks ≡ s.draft.blocks
    pub body : t.draft.body ≡ before_of block ++ statement_of block (joined statements) ∷ []
    pub positions : t.draft.positions ≡ s.draft.positions ++ at

  -- `{ statements }` is read.
  pub block_reads : (begin end : Piece) (inside : List Piece) (statements : List Statement) (at : List ℕ) (s : State)
      (block : Block) → begin.sort ≡ sorts.BlockOpen → end.sort ≡ sorts.BlockClose
      → ((t : State) → IsReady t → (read_all text t inside).standing ≡ Sound
      → Reads t statements at (read_all text t inside))
      → block_opens s.draft.opener s.draft ≡ with_block block s.draft → s.draft.left ≡ Literal (pos 0)
      → s.draft.names ≡ names → (read_all text s (begin ∷ (inside ++ end ∷ []))).standing ≡ Sound
      → Closes s block statements at (read_all text s (begin ∷ (inside ++ end ∷ [])))
  block_reads begin end inside statements at s block a b within opens left named h =
      subst (Closes s block statements at) (sym (read_append text inside (end ∷ []) one)) (record {
        ready = record {
          phase = ap (λ (c : Course). c.phase) third.course_is ∙ w.ready.phase;
          opener = ap (λ (d : Draft). d.opener) draft ∙ w.ready.opener;
          left = ap (λ (d : Draft). d.left) draft ∙ w.ready.left;
          names_are = ap (λ (d : Draft). d.names) draft ∙ w.ready.names_are;
        };
        blocks = ap (λ (d : Draft). d.blocks) draft ∙ ap before_last open_blocks ∙ before_append s.draft.blocks block;
        body = ap (λ (d : Draft). d.body) draft
            ∙ ap (λ (x : List Statement). before_of block ++ statement_of block (joined x) ∷ []) open_body;
        positions = ap (λ (d : Draft). d.positions) draft ∙ w.positions
            ∙ ap (λ (x : List ℕ). x ++ at) (ap (λ (d : Draft). d.positions) open_draft);
      })
    where
      one : State
      one = read text begin s

      two : State
      two = read_all text one inside

      last : (read text end two).standing ≡ Sound
      last = ap (λ (x : State). x.standing) (sym (read_append text inside (end ∷ []) one)) ∙ h

      sound : two.standing ≡ Sound
      sound = (quiet text end two last).before

      first : Taken text begin s (record s.course { phase = phases.Statements }) (block_opens s.draft.opener s.draft)
      first = taken text begin s (record s.course { phase = phases.Statements }) (block_opens s.draft.opener s.draft)
          (quiet_before text inside one sound) (token.begins_block text begin s.course s.draft a)

      open_draft : one.draft ≡ with_block block s.draft
      open_draft = first.draft_is ∙ opens

      w : Reads one statements at two
      w = within one (record {
        phase = ap (λ (c : Course). c.phase) first.course_is;
        opener = ap (λ (d : Draft). d.opener) open_draft;
        left = ap (λ (d : Draft). d.left) open_draft ∙ left;
        names_are = ap (λ (d : Draft). d.names) open_draft ∙ named;
      }) sound

      open_blocks : two.draft.blocks ≡ s.draft.blocks ++ block ∷ []
      open_blocks = w.blocks ∙ ap (λ (d : Draft). d.blocks) open_draft

      open_body : two.draft.body ≡ statements
      open_body = w.body ∙ ap (λ (x : List Statement). x ++ statements) (ap (λ (d : Draft). d.body) open_draft)

      third : Taken text end two two.course (block_closes (last_of two.draft.blocks) two.draft)
      third = taken text end two two.course (block_closes (last_of two.draft.blocks) two.draft) last
          (token.ends_block text end two.course two.draft b w.ready.phase)

      draft : (read text end two).draft ≡ closed block (record two.draft { blocks = before_last two.draft.blocks })
      draft = third.draft_is ∙ ap (λ (o : Option Block). block_closes o two.draft)
          (ap last_of open_blocks ∙ last_append s.draft.blocks block)

  -- The first word of a statement with a test, and its test, are read.
  pub record Heads (s : State) (kind : Opener) (atoms : List Atom) (at : ℕ) (t : State) : Type 0 where
    pub opener : t.draft.opener ≡ kind
    pub test : t.draft.test ≡ atoms
    pub left : t.draft.left ≡ Literal (pos 0)
    pub names_are : t.draft.names ≡ names
    pub blocks : t.draft.blocks ≡ s.draft.blocks
    pub body : t.draft.body ≡ s.draft.body
    pub positions : t.draft.positions ≡ s.draft.positions ++ at ∷ []
