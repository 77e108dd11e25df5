-- Reading all tokens of an expression: on a left side up to its last one, and elsewhere up to its end.
use Rattle.std.proofs.Common.{◌≡◌, ℕ, ◌≤◌, true, false, List, [], ◌∷◌, ◌++◌, length, map, Option, Some, None}
use Rattle.std.proofs.Common.{refl, sym, ap, subst, ◌∙◌}
use Rattle.text_core.specs.Readers.{onto}
use Rattle.expr_text.specs.Pieces as programs
use Rattle.expr_text.specs.Trees.{Sum, sum_behind}
use Rattle.expr_text.specs.GrammarStates.{GrammarState, beginning}
use Rattle.expr_text.specs.Steps.{step, finish}
use Rattle.expr_text.proofs.Reading.{behind_sum, sum_finish}
use Rattle.while_text.specs.model.Programs.{Relation}
use Rattle.while_text.specs.declared.phase.Phase.{Phase}
use Rattle.while_text.specs.declared.phase.Phase.TheVariants as phases
use Rattle.while_text.specs.declared.phase.Standing.TheVariants.{Sound}
use Rattle.while_text.specs.declared.piece.Piece.{Piece}
use Rattle.while_text.specs.declared.piece.Follower.{Follower}
use Rattle.while_text.specs.declared.piece.Follower.TheVariants as followers
use Rattle.while_text.specs.Courses.{is_last}
use Rattle.while_text.specs.Drafts.{Draft, bytes_of}
use Rattle.while_text.specs.Reading.{State, read}
use Rattle.while_text.proofs.SilentReading.{HasNone, sound_after}
use Rattle.while_laws.specs.Spelled.{spelled, SpellSum}
use Rattle.while_laws.specs.Values.{read_all, follower_by, AreIn, BeginsExpression}
use Rattle.while_laws.proofs.Along.{GoesOn, Along, along_more, last_is}
use Rattle.while_laws.proofs.StateFacts.{stops, stops_not, stops_there}
use Rattle.while_laws.proofs.OneSum.{onward, reach, sum_reached}
use Rattle.while_laws.proofs.Quiet.{IsQuiet, quiet, quiet_before, IsExpression}
use Rattle.while_laws.proofs.Sorts.{agrees}
use Rattle.while_laws.proofs.TokenFacts.{IsCounted, IsChain, chain_tail, chain_behind, tokens_chained}

-- The state of parsing after more tokens.
abbrev pub far : Option GrammarState → List (Option programs.Piece) → Option GrammarState
far o [] = o
far o (q ∷ qs) = far (onward o q) qs

far_none : (qs : List (Option programs.Piece)) → far None qs ≡ None
far_none [] = refl
far_none (q ∷ qs) = far_none qs

far_onto : (done rest : List (Option programs.Piece)) → far (Some beginning) (onto done rest) ≡ far (reach done) rest
far_onto [] rest = refl
far_onto (q ∷ done) rest = far_onto done (q ∷ rest)

-- Tokens that spell an expression lead from its beginning to a state in which it can end.
pub spelled_far : (text : List ℕ) (s : Sum) (ps : List Piece) → SpellSum text s ps
    → far (Some beginning) (map (spelled text) ps) ≡ Some (behind_sum [] s)
spelled_far text s ps h =
    ap (far (Some beginning)) h ∙ far_onto (sum_behind Some s []) [] ∙ sum_reached s

-- The first token leads to a state from which the others lead on.
pub record Leads (e f : GrammarState) (o : Option programs.Piece) (qs : List (Option programs.Piece)) : Type 0 where
  pub piece : programs.Piece
  pub middle : GrammarState
  pub is : o ≡ Some piece
  pub step_is : step e piece ≡ Some middle
  pub more : far (Some middle) qs ≡ Some f

pub leads : (e f : GrammarState) (o : Option programs.Piece) (qs : List (Option programs.Piece))
    → far (onward (Some e) o) qs ≡ Some f → Leads e f o qs
leads e f None qs h = absurd (nowhere (sym (far_none qs) ∙ h))
  where
    nowhere : None ≡ Some f → ⊥
    nowhere d = cc
leads e f (Some q) qs h = go (step e q) refl h
  where
    nowhere : None ≡ Some f → ⊥
    nowhere d = cc

    go : (o : Option GrammarState) → step e q ≡ o → far o qs ≡ Some f → Leads e f (Some q) qs
    go None k w = absurd (nowhere (sym (far_none qs) ∙ w))
    go (Some g) k w = record { piece = q; middle = g; is = refl; step_is = k; more = w }

-- The first token of a chain is counted.
head_counted : (text : List ℕ) (p : Piece) (ps : List Piece) → IsChain text (p ∷ ps) → IsCounted p.sort (bytes_of text p)
head_counted text p [] h = h
head_counted text p (q ∷ ps) h = h.0

module _ (text : List ℕ) (relation : Relation) (d : Draft) (few : length d.names ≤ 32) where
  -- The tokens of a left side keep the correspondence.
  pub left_run : (ps after : List Piece) (e f : GrammarState) (s : State) → Along text phases.Left relation d e s
      → far (Some e) (map (spelled text) ps) ≡ Some f → IsChain text (ps ++ after)
      → (read_all text s ps).standing ≡ Sound → Along text phases.Left relation d f (read_all text s ps)
  left_run [] after e f s a w c h = subst (λ (x : GrammarState). Along text phases.Left relation d x s) (same w) a
    where
      same : Some e ≡ Some f → e ≡ f
      same k = cc
  left_run (p ∷ ps) after e f s a w c h =
      left_run ps after l.middle f (read text p s) next l.more (chain_tail text p (ps ++ after) c) h
    where
      l : Leads e f (spelled text p) (map (spelled text) ps)
      l = leads e f (spelled text p) (map (spelled text) ps) w

      calm : IsQuiet text p s
      calm = quiet text p s (quiet_before text ps (read text p s) h)

      next : Along text phases.Left relation d l.middle (read text p s)
      next = subst (Along text phases.Left relation d l.middle) (sym calm.after)
          (along_more text phases.Left relation d e l.middle p l.piece s few a l.is l.step_is
          (head_counted text p (ps ++ after) c) (refl, refl) calm.none tt)

  -- The state after the last token of an expression.
  pub record Final (phase : Phase) (f : GrammarState) (s : State) : Type 0 where
    pub before : State
    pub grammar_state : GrammarState
    pub last : Piece
    pub piece : programs.Piece
    pub along : Along text phase relation d grammar_state before
    pub is : spelled text last ≡ Some piece
    pub step_is : step grammar_state piece ≡ Some f
    pub counts : IsCounted last.sort (bytes_of text last)
    pub none : HasNone text last before
    pub ends : is_last last before.course ≡ true
    pub made : s ≡ sound_after text last before

  module _ (phase : Phase) (expression : IsExpression phase) (goes : GoesOn phase false) (next : Piece)
      (stops_at : follower_by next.sort ≡ followers.Other) (t : Sum) where
    -- The tokens of an expression lead to the state after its last one.
    pub run : (ps after : List Piece) (p : Piece) (e f : GrammarState) (s : State) → Along text phase relation d e s
        → far (onward (Some e) (spelled text p)) (map (spelled text) ps) ≡ Some f → finish f ≡ Some t
        → IsChain text (p ∷ (ps ++ next ∷ after)) → (read_all text s (p ∷ ps)).standing ≡ Sound
        → Final phase f (read_all text s (p ∷ ps))
    run [] after p e f s a w ends c h = record {
      before = s;
      grammar_state = e;
      last = p;
      piece = l.piece;
      along = a;
      is = l.is;
      step_is = l.step_is ∙ l.more;
      counts = c.0;
      none = calm.none;
      ends = last_is text phase relation d e l.middle p l.piece s few a l.is l.step_is c.0 expression calm.none
          ∙ ap (λ (x : GrammarState). stops x p.follower) (same l.more) ∙ ap (λ (x : Follower). stops f x) (c.1 ∙ stops_at) ∙ stops_there f t ends;
      made = calm.after;
    }
      where
        l : Leads e f (spelled text p) []
        l = leads e f (spelled text p) [] w

        same : Some l.middle ≡ Some f → l.middle ≡ f
        same k = cc

        calm : IsQuiet text p s
        calm = quiet text p s h
    run (p2 ∷ ps) after p e f s a w ends c h =
        run ps after p2 l.middle f (read text p s) more l.more ends c.2 h
      where
        l : Leads e f (spelled text p) (spelled text p2 ∷ map (spelled text) ps)
        l = leads e f (spelled text p) (spelled text p2 ∷ map (spelled text) ps) w

        m : Leads l.middle f (spelled text p2) (map (spelled text) ps)
        m = leads l.middle f (spelled text p2) (map (spelled text) ps) l.more

        calm : IsQuiet text p s
        calm = quiet text p s (quiet_before text (p2 ∷ ps) (read text p s) h)

        on : is_last p s.course ≡ false
        on = last_is text phase relation d e l.middle p l.piece s few a l.is l.step_is c.0 expression calm.none
            ∙ ap (λ (x : Follower). stops l.middle x) (c.1 ∙ (agrees p2.sort (bytes_of text p2) m.piece m.is).follower_is)
            ∙ stops_not l.middle m.middle m.piece m.step_is

        more : Along text phase relation d l.middle (read text p s)
        more = subst (Along text phase relation d l.middle) (sym calm.after)
            (along_more text phase relation d e l.middle p l.piece s few a l.is l.step_is c.0 expression calm.none
            (subst (GoesOn phase) (sym on) goes))

-- Tokens that spell an expression aren't empty.
pub some_piece : (text : List ℕ) (t : Sum) (ps : List Piece) → far (Some beginning) (map (spelled text) ps) ≡ Some (behind_sum [] t)
    → (p : Piece) × (rest : List Piece) × (ps ≡ p ∷ rest)
some_piece text t [] w = absurd (nothing (ap ended w ∙ sum_finish t))
  where
    ended : Option GrammarState → Option Sum
    ended None = None
    ended (Some f) = finish f

    nothing : finish beginning ≡ Some t → ⊥
    nothing k = cc
some_piece text t (p ∷ rest) w = (p, rest, refl)

-- At the beginning of an expression, none of its tokens has been read.
pub begins_along : (text : List ℕ) (phase : Phase) (relation : Relation) (s : State) → BeginsExpression phase s
    → s.course.relation ≡ relation → Along text phase relation s.draft beginning s
begins_along text phase relation s b r = record {
  phase_is = b.phase_is;
  tokens_are = b.tokens_are;
  depth_is = b.depth_is;
  raised_is = b.raised_is;
  relation_is = r;
  names_are = refl;
  draft_is = ap (λ x. record s.draft { grammar_state = x }) b.state_is_represented;
}

-- The tokens of a text form a chain.
pub chain_in : (text : List ℕ) (ps : List Piece) (next : Piece) (i : AreIn text ps next) → IsChain text (ps ++ next ∷ i.after)
chain_in text ps next i =
    chain_behind text i.before (ps ++ next ∷ i.after) (subst (IsChain text) i.whole (tokens_chained text))
