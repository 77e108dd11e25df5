-- The effect of each token outside of expressions that is read without a fault.
use Rattle.std.proofs.Common.{◌≡◌, ℕ, ◌≤◌, Bool, true, false, not, ◌&&◌, List, [], ◌∷◌, ◌++◌, length, refl, sym, ap}
use Rattle.std.proofs.Common.{◌∙◌}
use Rattle.std.proofs.Common.{arith, length-append}
use Rattle.std.specs.Prelude.{nat_le}
use Rattle.text_core.specs.Names.{is_among, position_of}
use Rattle.while_text.specs.model.Limits.{place_limit}
use Rattle.while_text.specs.while_model.Statements.{Skip}
use Rattle.while_text.specs.while_tree.Views.{Plain}
use Rattle.while_text.specs.declared.block.Opener.TheVariants as openers
use Rattle.while_text.specs.declared.phase.Phase.{Phase}
use Rattle.while_text.specs.declared.phase.Phase.TheVariants as phases
use Rattle.while_text.specs.declared.phase.Standing.TheVariants.{Sound}
use Rattle.while_text.specs.declared.piece.Piece.{Piece}
use Rattle.while_text.specs.declared.piece.Sort.{Sort}
use Rattle.while_text.specs.declared.piece.Sort.TheVariants as sorts
use Rattle.while_text.specs.Courses.{Course, course_after, expression_begins, statement_begins}
use Rattle.while_text.specs.Drafts.{Draft, bytes_of, number_of, no_state, draft_after, with_statement, begins_at}
use Rattle.while_text.specs.Drafts.{begins_test, block_opens, block_closes, last_of, assignment_ends}
use Rattle.while_text.specs.Faults.{is_name, is_inputs}
use Rattle.while_text.specs.Reading.{State, read}
use Rattle.while_text.proofs.ReadableDrafts.{clear}
use Rattle.while_laws.proofs.StatesMade.{known_number}
use Rattle.while_laws.proofs.Quiet.{quiet, known_by, few_by}

module _ (text : List ℕ) where
  -- The place in the text after a token, and the draft after it.
  abbrev pub Takes : Piece → Course → Draft → Course → Draft → Type 0
  Takes p c d course draft = (course_after p c ≡ course) × (draft_after text p c d ≡ draft)

  -- The state after a token without a fault is the one that the token leads to.
  pub record Taken (p : Piece) (s : State) (course : Course) (draft : Draft) : Type 0 where
    pub course_is : (read text p s).course ≡ course
    pub draft_is : (read text p s).draft ≡ draft

  pub taken : (p : Piece) (s : State) (course : Course) (draft : Draft) → (read text p s).standing ≡ Sound
      → Takes p s.course s.draft course draft → Taken p s course draft
  taken p s course draft h w = record {
    course_is = w.0;
    draft_is = ap (λ (x : State). x.draft) (quiet text p s h).after ∙ w.1;
  }

  module _ (p : Piece) (c : Course) (d : Draft) where
    -- Tokens among the inputs.
    pub takes_input : p.sort ≡ sorts.Input → c.phase ≡ phases.Inputs → Takes p c d c d
    takes_input e f = (rw (e, f) refl, rw (e, f) refl)

    pub takes_name : p.sort ≡ sorts.Name → c.phase ≡ phases.Inputs
        → Takes p c d c (record d { names = d.names ++ bytes_of text p ∷ [] })
    takes_name e f = (rw (e, f) refl, rw (e, f) refl)

    pub takes_comma : p.sort ≡ sorts.Comma → c.phase ≡ phases.Inputs → Takes p c d c d
    takes_comma e f = (rw (e, f) refl, rw (e, f) refl)

    pub ends_inputs : p.sort ≡ sorts.Semicolon → c.phase ≡ phases.Inputs
        → Takes p c d (record c { phase = phases.Statements }) d
    ends_inputs e f = (rw (e, f) refl, rw (e, f) refl)

    -- Tokens where a statement may begin, or a block may end.
    pub begins_assignment : p.sort ≡ sorts.Name → c.phase ≡ phases.Statements
        → Takes p c d (statement_begins phases.Assignment p.at c)
        (record (begins_at p.at d) { variable = number_of d.names (bytes_of text p) })
    begins_assignment e f = (rw (e, f) refl, rw (e, f) refl)

    pub takes_skip : p.sort ≡ sorts.Skip → c.phase ≡ phases.Statements
        → Takes p c d (statement_begins phases.Statements p.at c) (with_statement (Plain Skip) (begins_at p.at d))
    takes_skip e f = (rw (e, f) refl, rw (e, f) refl)

    pub ends_skip : p.sort ≡ sorts.Semicolon → c.phase ≡ phases.Statements → Takes p c d c d
    ends_skip e f = (rw (e, f) refl, rw (e, f) refl)

    pub begins_loop : p.sort ≡ sorts.While → c.phase ≡ phases.Statements
        → Takes p c d (statement_begins phases.Test p.at c) (begins_test openers.Loop p.at d)
    begins_loop e f = (rw (e, f) refl, rw (e, f) refl)

    pub begins_branch : p.sort ≡ sorts.If → c.phase ≡ phases.Statements
        → Takes p c d (statement_begins phases.Test p.at c) (begins_test openers.First p.at d)
    begins_branch e f = (rw (e, f) refl, rw (e, f) refl)

    pub takes_else : p.sort ≡ sorts.Else → c.phase ≡ phases.Statements → Takes p c d c d
    takes_else e f = (rw (e, f) refl, rw (e, f) refl)

    pub begins_block : p.sort ≡ sorts.BlockOpen → Takes p c d (record c { phase = phases.Statements })
        (block_opens d.opener d)
    begins_block e = (rw e refl, rw e refl)

    pub ends_block : p.sort ≡ sorts.BlockClose → c.phase ≡ phases.Statements
        → Takes p c d c (block_closes (last_of d.blocks) d)
    ends_block e f = (rw (e, f) refl, rw (e, f) refl)

    -- Tokens of an assignment.
    pub begins_value : p.sort ≡ sorts.Becomes → c.phase ≡ phases.Assignment
        → Takes p c d (expression_begins phases.Value c) (record d { grammar_state = no_state; chosen = false })
    begins_value e f = (rw (e, f) refl, rw (e, f) refl)

    pub takes_any : p.sort ≡ sorts.Question → c.phase ≡ phases.Value → Takes p c d c (record d { chosen = true })
    takes_any e f = (rw (e, f) refl, rw (e, f) refl)

    pub ends_value : p.sort ≡ sorts.Semicolon → c.phase ≡ phases.Value
        → Takes p c d (record c { phase = phases.Statements }) (assignment_ends d)
    ends_value e f = (rw (e, f) refl, rw (e, f) refl)

    -- Tokens of a test.
    pub begins_atoms : p.sort ≡ sorts.Open → c.phase ≡ phases.Test
        → Takes p c d (expression_begins phases.Left c) (record d { grammar_state = no_state })
    begins_atoms e f = (rw (e, f) refl, rw (e, f) refl)

    pub joins_atoms : p.sort ≡ sorts.Joint → c.phase ≡ phases.Test
        → Takes p c d (expression_begins phases.Left c) (record d { grammar_state = no_state })
    joins_atoms e f = (rw (e, f) refl, rw (e, f) refl)

    pub ends_atoms : p.sort ≡ sorts.Close → c.phase ≡ phases.Test → Takes p c d c d
    ends_atoms e f = (rw (e, f) refl, rw (e, f) refl)

  -- The number of a variable that is assigned is its position among the inputs.
  pub assigned_number : (p : Piece) (s : State) → p.sort ≡ sorts.Name → s.course.phase ≡ phases.Statements
      → length s.draft.names ≤ 32 → (read text p s).standing ≡ Sound
      → number_of s.draft.names (bytes_of text p) ≡ position_of (bytes_of text p) s.draft.names
  assigned_number p s e f few h =
      known_number s.draft.names (bytes_of text p) few (known_by sorts.Name (bytes_of text p) s.draft.names known)
    where
      among : Bool
      among = is_among (bytes_of text p) s.draft.names

      known : (true && true && not (is_among (bytes_of text p) s.draft.names)) ≡ false
      known =
          sym (ap (λ (x : Sort). is_name x && not (is_inputs s.course.phase) && not among) e
          ∙ ap (λ (x : Phase). true && not (is_inputs x) && not among) f)
          ∙ (clear text p s.course s.draft (quiet text p s h).none.first).unknown

  -- There are at most 32 inputs after the name of an input.
  pub few_inputs : (p : Piece) (s : State) → p.sort ≡ sorts.Name → s.course.phase ≡ phases.Inputs
      → (read text p s).standing ≡ Sound → length (s.draft.names ++ bytes_of text p ∷ []) ≤ 32
  few_inputs p s e f h =
      let low = few_by place_limit (length s.draft.names) few in
      let more = length-append s.draft.names (bytes_of text p ∷ []) in
      omega (arith, low, more)
    where
      few : nat_le place_limit (length s.draft.names) ≡ false
      few =
          sym (ap (λ (x : Sort). is_inputs s.course.phase && is_name x && nat_le place_limit (length s.draft.names)) e
          ∙ ap (λ (x : Phase). is_inputs x && true && nat_le place_limit (length s.draft.names)) f)
          ∙ (clear text p s.course s.draft (quiet text p s h).none.first).inputs
