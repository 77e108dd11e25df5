-- The value of an assignment, and a test, are read as they are written.
use Rattle.std.proofs.Common.{◌≡◌, ℕ, ◌≤◌, List, [], ◌∷◌, ◌++◌, length, map, Some, refl, sym, ap, subst, ◌∙◌}
use Rattle.std.proofs.Common.{cond}
use Rattle.std.proofs.Common.{append_assoc, Bool}
use Rattle.std.specs.Prelude.{pos}
use Rattle.text_core.specs.Tokens.{pieces}
use Rattle.expr_text.specs.GrammarStates.{GrammarState, beginning}
use Rattle.expr_text.specs.Guards.{Atom, Atoms, First, Joined, atom_term, atoms_terms}
use Rattle.expr_text.specs.Pieces.{Joint}
use Rattle.expr_text.specs.Trees.{Sum}
use Rattle.expr_text.proofs.Reading.{behind_sum}
use Rattle.while_text.specs.model.Programs as plain
use Rattle.while_text.specs.model.Programs.{Name}
use Rattle.while_text.specs.model.Terms.{Literal}
use Rattle.while_text.specs.declared.phase.Phase.{Phase}
use Rattle.while_text.specs.declared.phase.Phase.TheVariants as phases
use Rattle.while_text.specs.declared.phase.Standing.TheVariants.{Sound}
use Rattle.while_text.specs.declared.piece.Follower.TheVariants as followers
use Rattle.while_text.specs.declared.piece.Piece.{Piece}
use Rattle.while_text.specs.declared.piece.Sort.{Sort}
use Rattle.while_text.specs.declared.piece.Sort.TheVariants as sorts
use Rattle.while_text.specs.Courses.{Course, after_phase, after_value, course_after, expression_begins}
use Rattle.while_text.specs.Drafts.{Draft, bytes_of, no_state}
use Rattle.while_text.specs.Lexing.{tokens}
use Rattle.while_text.specs.Reading.{State, read}
use Rattle.while_laws.specs.Spelled.{spelled, SpellSum, SpellAtom, SpellAtoms, joint_by}
use Rattle.while_laws.specs.Values.{read_all, follower_by, AreIn, BeginsExpression}
use Rattle.while_laws.proofs.ProgramTokens.{Taken, taken, joins_atoms}
use Rattle.while_laws.proofs.Quiet.{quiet_before, read_append}
use Rattle.while_laws.proofs.ReadAlike.{ReadsAtom, atom_read}
use Rattle.while_laws.proofs.Runs.{far, Leads, leads, spelled_far}
use Rattle.while_laws.proofs.Sorts.{agrees, by_sort}

-- The tokens are the last ones of the text.
abbrev pub IsTail : List ℕ → List Piece → Type 0
IsTail text ps = (before : List Piece) × (pieces (tokens text) ≡ before ++ ps)

pub tail_behind : (text : List ℕ) (qs ps : List Piece) → IsTail text (qs ++ ps) → IsTail text ps
tail_behind text qs ps (before, e) = (before ++ qs, e ∙ sym (append_assoc before qs ps))

-- Tokens are followed by one that continues no expression.
pub in_tail : (text : List ℕ) (ps after : List Piece) (next : Piece) → IsTail text (ps ++ next ∷ after)
    → follower_by next.sort ≡ followers.Other → AreIn text ps next
in_tail text ps after next (before, e) f = record { before = before; after = after; whole = e; ends = f }

-- Tokens that are read without a fault had none among the first of them.
pub sound_first : (text : List ℕ) (ps qs : List Piece) (s : State) → (read_all text s (ps ++ qs)).standing ≡ Sound
    → (read_all text s ps).standing ≡ Sound
sound_first text ps qs s h =
    quiet_before text qs (read_all text s ps) (ap (λ (x : State). x.standing) (sym (read_append text ps qs s)) ∙ h)

-- While a value is read, the place in the text stays within it.
value_on : (text : List ℕ) (ps : List Piece) (e f : GrammarState) (s : State) → s.course.phase ≡ phases.Value
    → far (Some e) (map (spelled text) ps) ≡ Some f → (read_all text s ps).course.phase ≡ phases.Value
value_on text [] e f s v w = v
value_on text (p ∷ ps) e f s v w = value_on text ps l.middle f (read text p s) phase l.more
  where
    l : Leads e f (spelled text p) (map (spelled text) ps)
    l = leads e f (spelled text p) (map (spelled text) ps) w

    phase : (course_after p s.course).phase ≡ phases.Value
    phase =
        ap (λ (x : Bool). (cond x (record s.course { phase = phases.Statements })
        (after_phase s.course.phase p s.course)).phase)
        (agrees p.sort (bytes_of text p) l.piece l.is).no_block
        ∙ ap (λ (x : Phase). (after_phase x p s.course).phase) v
        ∙ by_sort (λ k y. (after_value k s.course).phase ≡ s.course.phase) (bytes_of text p) refl (λ n. refl) refl refl
        refl refl refl refl p.sort l.piece l.is ∙ v

pub value_goes_on : (text : List ℕ) (t : Sum) (ps : List Piece) (s : State) → SpellSum text t ps
    → s.course.phase ≡ phases.Value → (read_all text s ps).course.phase ≡ phases.Value
value_goes_on text t ps s h v = value_on text ps beginning (behind_sum [] t) s v (spelled_far text t ps h)

-- What reading a test leaves unchanged.
pub record Keeps (d e : Draft) : Type 0 where
  pub names : d.names ≡ e.names
  pub left : d.left ≡ e.left
  pub opener : d.opener ≡ e.opener
  pub blocks : d.blocks ≡ e.blocks
  pub body : d.body ≡ e.body
  pub positions : d.positions ≡ e.positions

pub keeps_then : (d e f : Draft) → Keeps d e → Keeps e f → Keeps d f
keeps_then d e f h k = record {
  names = h.names ∙ k.names;
  left = h.left ∙ k.left;
  opener = h.opener ∙ k.opener;
  blocks = h.blocks ∙ k.blocks;
  body = h.body ∙ k.body;
  positions = h.positions ∙ k.positions;
}

-- Drafts that differ in the test alone, or in the expression that is being read.
pub keeps_test : (d e : Draft) (test : List plain.Atom) → d ≡ record e { test = test } → Keeps d e
keeps_test d e test h = record {
  names = ap (λ (x : Draft). x.names) h;
  left = ap (λ (x : Draft). x.left) h;
  opener = ap (λ (x : Draft). x.opener) h;
  blocks = ap (λ (x : Draft). x.blocks) h;
  body = ap (λ (x : Draft). x.body) h;
  positions = ap (λ (x : Draft). x.positions) h;
}

pub keeps_front : (d e : Draft) → d ≡ record e { grammar_state = no_state } → Keeps d e
keeps_front d e h = record {
  names = ap (λ (x : Draft). x.names) h;
  left = ap (λ (x : Draft). x.left) h;
  opener = ap (λ (x : Draft). x.opener) h;
  blocks = ap (λ (x : Draft). x.blocks) h;
  body = ap (λ (x : Draft). x.body) h;
  positions = ap (λ (x : Draft). x.positions) h;
}

-- Atoms are read: they are appended to the test, which continues.
pub record ReadsAtoms (s t : State) (atoms : List plain.Atom) : Type 0 where
  pub phase : t.course.phase ≡ phases.Test
  pub test : t.draft.test ≡ s.draft.test ++ atoms
  pub keeps : Keeps t.draft s.draft

reads_atom : (s t : State) (a : plain.Atom) → ReadsAtom s t a → ReadsAtoms s t (a ∷ [])
reads_atom s t a w = record {
  phase = w.phase;
  test = ap (λ (x : Draft). x.test) w.draft;
  keeps = keeps_test t.draft s.draft (s.draft.test ++ a ∷ []) w.draft;
}

-- A sign between atoms is read.
joint_is : (sort : Sort) (bytes : List ℕ) (joint : Joint) → joint_by sort bytes ≡ Some joint → sort ≡ sorts.Joint
joint_is sorts.Joint bytes joint e = refl
joint_is sort bytes joint e = cc

module _ (text : List ℕ) where
  -- Atoms, and the sign after them, are read.
  record Joins (s t : State) (atoms : List plain.Atom) : Type 0 where
    pub begins : BeginsExpression phases.Left t
    pub test : t.draft.test ≡ s.draft.test ++ atoms
    pub keeps : Keeps t.draft s.draft

  joins : (s m : State) (p : Piece) (atoms : List plain.Atom) → ReadsAtoms s m atoms → p.sort ≡ sorts.Joint
      → length s.draft.names ≤ 32 → (read text p m).standing ≡ Sound → Joins s (read text p m) atoms
  joins s m p atoms w e few h = record {
    begins = record {
      standing = h;
      phase_is = ap (λ (c : Course). c.phase) k.course_is;
      tokens_are = ap (λ (c : Course). c.tokens) k.course_is;
      depth_is = ap (λ (c : Course). c.depth) k.course_is;
      raised_is = ap (λ (c : Course). c.raised) k.course_is;
      state_is_represented = ap (λ (d : Draft). d.grammar_state) k.draft_is;
      inputs = subst (λ (ns : List Name). length ns ≤ 32) (sym keeps.names) few;
    };
    test = ap (λ (d : Draft). d.test) k.draft_is ∙ w.test;
    keeps = keeps;
  }
    where
      k : Taken text p m (expression_begins phases.Left m.course) (record m.draft { grammar_state = no_state })
      k = taken text p m (expression_begins phases.Left m.course) (record m.draft { grammar_state = no_state }) h
          (joins_atoms text p m.course m.draft e w.phase)

      keeps : Keeps (read text p m).draft s.draft
      keeps = keeps_then (read text p m).draft m.draft s.draft (keeps_front (read text p m).draft m.draft k.draft_is)
          w.keeps

  -- Atoms, and another one after them, are read.
  joined_read : (before : List plain.Atom) (a : Atom) (p next : Piece) (last after : List Piece) (s m : State)
      → ReadsAtoms s m before → p.sort ≡ sorts.Joint → SpellAtom text a last → IsTail text (last ++ next ∷ after)
      → follower_by next.sort ≡ followers.Other → length s.draft.names ≤ 32 → s.draft.left ≡ Literal (pos 0)
      → (read_all text (read text p m) last).standing ≡ Sound
      → ReadsAtoms s (read_all text (read text p m) last) (before ++ atom_term s.draft.names a ∷ [])
  joined_read before a p next last after s m grammar_state sort one i stops few none sound =
      record { phase = w.phase; test = test; keeps = keeps }
    where
      n : State
      n = read text p m

      j : Joins s n before
      j = joins s m p before grammar_state sort few (quiet_before text last n sound)

      w : ReadsAtom n (read_all text n last) (atom_term n.draft.names a)
      w = atom_read text a last next n one (in_tail text last after next i stops) j.begins (j.keeps.left ∙ none) sound

      keeps : Keeps (read_all text n last).draft s.draft
      keeps = keeps_then (read_all text n last).draft n.draft s.draft
          (keeps_test (read_all text n last).draft n.draft (n.draft.test ++ atom_term n.draft.names a ∷ []) w.draft)
          j.keeps

      test : (read_all text n last).draft.test ≡ s.draft.test ++ (before ++ atom_term s.draft.names a ∷ [])
      test =
          ap (λ (d : Draft). d.test) w.draft
          ∙ ap (λ (x : List plain.Atom). x ++ atom_term n.draft.names a ∷ []) j.test
          ∙ ap (λ (x : List Name). (s.draft.test ++ before) ++ atom_term x a ∷ []) j.keeps.names
          ∙ append_assoc s.draft.test before (atom_term s.draft.names a ∷ [])

  -- The atoms of a test are read.
  pub atoms_read : (atoms : Atoms) (ps after : List Piece) (next : Piece) (s : State) → SpellAtoms text atoms ps
      → IsTail text (ps ++ next ∷ after) → follower_by next.sort ≡ followers.Other → BeginsExpression phases.Left s
      → s.draft.left ≡ Literal (pos 0) → (read_all text s ps).standing ≡ Sound
      → ReadsAtoms s (read_all text s ps) (atoms_terms s.draft.names atoms)
  atoms_read (First a) ps after next s w i stops v none h =
      reads_atom s (read_all text s ps) (atom_term s.draft.names a)
      (atom_read text a ps next s w (in_tail text ps after next i stops) v none h)
  atoms_read (Joined atoms joint a) ps after next s (before, p, last, e, first, is, one) i stops v none h =
      subst (λ (x : List Piece). ReadsAtoms s (read_all text s x) (atoms_terms s.draft.names (Joined atoms joint a)))
      (sym e)
      (subst (λ (x : State). ReadsAtoms s x (atoms_terms s.draft.names (Joined atoms joint a)))
      (sym (read_append text before (p ∷ last) s))
      (joined_read (atoms_terms s.draft.names atoms) a p next last after s (read_all text s before)
      (atoms_read atoms before (last ++ next ∷ after) p s first tail (ap follower_by sort) v none
      (sound_first text before (p ∷ last) s whole)) sort one
      (tail_behind text (p ∷ []) (last ++ next ∷ after) (tail_behind text before (p ∷ (last ++ next ∷ after)) tail))
      stops
      v.inputs none (ap (λ (x : State). x.standing) (sym (read_append text before (p ∷ last) s)) ∙ whole)))
    where
      whole : (read_all text s (before ++ p ∷ last)).standing ≡ Sound
      whole = subst (λ (x : List Piece). (read_all text s x).standing ≡ Sound) e h

      tail : IsTail text (before ++ p ∷ (last ++ next ∷ after))
      tail = subst (IsTail text) (ap (λ (x : List Piece). x ++ next ∷ after) e ∙ append_assoc before (p ∷ last)
          (next ∷ after)) i

      sort : p.sort ≡ sorts.Joint
      sort = joint_is p.sort (bytes_of text p) joint is
