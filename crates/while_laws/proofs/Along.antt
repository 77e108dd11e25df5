-- Reading an expression without a fault follows the parsing of expressions, token by token.
use Rattle.std.proofs.Common.{◌≡◌, ℕ, ◌<◌, ◌≤◌, Bool, false, cond, not, ◌&&◌, List, [], ◌∷◌, ◌++◌}
use Rattle.std.proofs.Common.{length, Some, refl, sym, ap, subst, ◌∙◌, arith}
use Rattle.std.specs.Prelude.{◌==◌, ⊤, pos}
use Rattle.expr_text.specs.Pieces as programs
use Rattle.expr_text.specs.GrammarStates.{GrammarState}
use Rattle.expr_text.specs.Steps.{step}
use Rattle.expr_text.specs.StateNames.{token_count, names_with_state}
use Rattle.expr_text.specs.TermGrammarStates as terms
use Rattle.expr_text.specs.TermGrammarStates.{terms_of_state}
use Rattle.expr_text.proofs.StateSteps.{token_more}
use Rattle.while_text.specs.model.Programs.{Relation}
use Rattle.while_text.specs.model.Terms.{Literal}
use Rattle.while_text.specs.declared.phase.Phase.{Phase}
use Rattle.while_text.specs.declared.phase.Phase.TheVariants as phases
use Rattle.while_text.specs.declared.piece.Piece.{Piece}
use Rattle.while_text.specs.Courses.{Course, goes_on, depth_after, is_last, opens_block}
use Rattle.while_text.specs.Courses.{after_value, after_left, after_phase, course_after, with_token as counted, plus}
use Rattle.while_text.specs.Courses.{negation_count}
use Rattle.while_text.specs.Drafts.{Draft, bytes_of, number_of, state_after, with_token, block_opens, made_in}
use Rattle.while_text.specs.Drafts.{made_of_value, made_of_value_token, made_of_left, made_of_left_side, draft_after}
use Rattle.while_text.specs.Drafts.{term_of, no_state, atom_of}
use Rattle.while_text.specs.Reading.{State}
use Rattle.while_text.proofs.SilentReading.{HasNone, sound_after}
use Rattle.while_laws.specs.Spelled.{spelled}
use Rattle.while_laws.proofs.StateFacts.{is_read, is_raised, stops, follows}
use Rattle.while_laws.proofs.StateFacts.{Follows, open_after, tokens_bound}
use Rattle.while_laws.proofs.StatesMade.{state_steps}
use Rattle.while_laws.proofs.Quiet.{IsExpression, IsWithin, within, written_by}
use Rattle.while_laws.proofs.Sorts.{IsKnown, Agree, agrees, by_sort}
use Rattle.while_laws.proofs.TokenFacts.{IsCounted}

-- An expression continues after a token: on a left side always, elsewhere if the token isn't its last one.
abbrev pub GoesOn : Phase → Bool → Type 0
GoesOn phases.Left last = ⊤
GoesOn phases.Value last = last ≡ false
GoesOn phases.Right last = last ≡ false
GoesOn phase last = ⊥

pub expression_phase : (phase : Phase) (last : Bool) → GoesOn phase last → IsExpression phase
expression_phase phases.Left last h = (refl, refl)
expression_phase phases.Value last h = (refl, refl)
expression_phase phases.Right last h = (refl, refl)
expression_phase phases.Inputs last h = absurd h
expression_phase phases.Statements last h = absurd h
expression_phase phases.Assignment last h = absurd h
expression_phase phases.Test last h = absurd h

module _ (text : List ℕ) (p : Piece) (q : programs.Piece) (is : spelled text p ≡ Some q) where
  -- A token of an expression that continues is counted, and the state of the expression takes it.
  token_counted : (phase : Phase) (c : Course) → c.phase ≡ phase → GoesOn phase (is_last p c)
      → course_after p c ≡ counted p.sort c
  token_counted phase c e h =
      ap (λ (v : Bool). cond v (record c { phase = phases.Statements }) (after_phase c.phase p c))
      (agrees p.sort (bytes_of text p) q is).no_block
      ∙ ap (λ (x : Phase). after_phase x p c) e ∙ go phase h
    where
      go : (x : Phase) → GoesOn x (is_last p c) → after_phase x p c ≡ counted p.sort c
      go phases.Left k =
          by_sort (λ s y. after_left s c ≡ counted s c) (bytes_of text p) refl (λ n. refl) refl refl refl refl refl refl
          p.sort q is
      go phases.Value k =
          by_sort (λ s y. after_value s c ≡ counted s c) (bytes_of text p) refl (λ n. refl) refl refl refl refl refl refl
          p.sort q is
      go phases.Right k =
          ap (λ (v : Bool). cond v (record (counted p.sort c) {
            phase = phases.Test;
            rules = plus c.rules (negation_count c.relation);
          }) (counted p.sort c)) k
      go phases.Inputs k = absurd k
      go phases.Statements k = absurd k
      go phases.Assignment k = absurd k
      go phases.Test k = absurd k

  token_read : (phase : Phase) (c : Course) (d : Draft) → c.phase ≡ phase → GoesOn phase (is_last p c)
      → draft_after text p c d ≡ record d { grammar_state = with_token text p d }
  token_read phase c d e h =
      ap (λ (v : Bool). cond v (block_opens d.opener d) (made_in c.phase text p c d)) block
      ∙ ap (λ (x : Phase). made_in x text p c d) e ∙ go phase h
    where
      block : opens_block p.sort ≡ false
      block = (agrees p.sort (bytes_of text p) q is).no_block

      go : (x : Phase) → GoesOn x (is_last p c) → made_in x text p c d ≡ record d { grammar_state = with_token text p d }
      go phases.Left k =
          by_sort (λ s y. made_of_left text p s d ≡ made_of_left_side text p d) (bytes_of text p) refl (λ n. refl) refl
          refl refl refl refl refl p.sort q is
          ∙ ap (λ (v : Bool). cond v (record d { left = term_of d.grammar_state; grammar_state = no_state })
          (record d { grammar_state = with_token text p d })) (agrees p.sort (bytes_of text p) q is).no_relation
      go phases.Value k =
          by_sort (λ s y. made_of_value text p c s d ≡ made_of_value_token text p c d) (bytes_of text p) refl (λ n. refl)
          refl refl refl refl refl refl p.sort q is
          ∙ ap (λ (v : Bool). cond v (record d { value = term_of (with_token text p d); grammar_state = no_state })
          (record d { grammar_state = with_token text p d })) k
      go phases.Right k =
          ap (λ (v : Bool). cond v (record d {
            test = d.test ++ atom_of text p c d ∷ [];
            left = Literal (pos 0);
            grammar_state = no_state;
          }) (record d { grammar_state = with_token text p d })) k
      go phases.Inputs k = absurd k
      go phases.Statements k = absurd k
      go phases.Assignment k = absurd k
      go phases.Test k = absurd k

module _ (text : List ℕ) (phase : Phase) (relation : Relation) (d : Draft) where
  -- The reader's state corresponds to a state of the written expression; everything but the inputs is kept.
  pub record Along (e : GrammarState) (s : State) : Type 0 where
    pub phase_is : s.course.phase ≡ phase
    pub tokens_are : s.course.tokens ≡ token_count e
    pub depth_is : s.course.depth ≡ length e.outer
    pub raised_is : s.course.raised ≡ is_raised e.operand
    pub relation_is : s.course.relation ≡ relation
    pub names_are : d.names ≡ names_with_state d.names e
    pub draft_is : s.draft ≡ record d { grammar_state = terms_of_state d.names e }

  module _ (e g : GrammarState) (p : Piece) (q : programs.Piece) (s : State) (few : length d.names ≤ 32)
      (along : Along e s) (is : spelled text p ≡ Some q) (leads : step e q ≡ Some g)
      (counts : IsCounted p.sort (bytes_of text p)) (expression : IsExpression phase) (none : HasNone text p s) where
    agree : Agree p.sort q
    agree = agrees p.sort (bytes_of text p) q is

    follow : Follows e.operand (length e.outer) q g
    follow = follows e g q leads

    limits : IsWithin text p s
    limits = within text p s none (subst IsExpression (sym along.phase_is) expression) agree.in_sums

    low : token_count e < 1024
    low = let t = limits.few in let n = along.tokens_are in omega (arith, t, n)

    -- The state of the expression after the token.
    made : (d.names ≡ names_with_state d.names g)
        × (state_after (number_of d.names (bytes_of text p)) p.sort (terms_of_state d.names e) ≡ terms_of_state d.names g)
    made = state_steps d.names e g p.sort (bytes_of text p) q few
        (let b = tokens_bound e in let l = low in omega (arith, b, l)) is
        (written_by p.sort (bytes_of text p) counts limits.small)
        (subst (λ (x : Draft). IsKnown x.names p.sort (bytes_of text p)) along.draft_is limits.known) leads along.names_are

    pub state_made : with_token text p s.draft ≡ terms_of_state d.names g
    state_made = ap (λ (x : Draft). with_token text p x) along.draft_is ∙ made.1

    depth_made : depth_after p.sort s.course.depth ≡ length g.outer
    depth_made =
        agree.depth_is s.course.depth (let b = tokens_bound e in let l = low in let n = along.depth_is in omega (arith, b, l, n))
        ∙ ap (λ (n : ℕ). open_after q n) along.depth_is ∙ sym follow.depth

    -- The token is the last one of the expression exactly if the written expression stops there.
    pub last_is : is_last p s.course ≡ stops g p.follower
    last_is =
        ap (λ (v : Bool). v && ((depth_after p.sort s.course.depth == 0) && not (goes_on s.course.raised p.follower)))
        (agree.ends_is ∙ sym follow.operand)
        ∙ ap (λ (n : ℕ). is_read g.operand && ((n == 0) && not (goes_on s.course.raised p.follower))) depth_made
        ∙ ap (λ (v : Bool). is_read g.operand && ((length g.outer == 0) && not (goes_on v p.follower)))
        (along.raised_is ∙ sym follow.exponent)

    -- If the expression continues, the reader's state corresponds to the written state after the token.
    pub along_more : GoesOn phase (is_last p s.course) → Along g (sound_after text p s)
    along_more h = record {
      phase_is = ap (λ (c : Course). c.phase) course ∙ along.phase_is;
      tokens_are = ap (λ (c : Course). c.tokens) course ∙ tokens;
      depth_is = ap (λ (c : Course). c.depth) course ∙ depth_made;
      raised_is = ap (λ (c : Course). c.raised) course ∙ agree.caret_is ∙ sym follow.raised;
      relation_is = ap (λ (c : Course). c.relation) course ∙ along.relation_is;
      names_are = made.0;
      draft_is = token_read text p q is phase s.course s.draft along.phase_is h
          ∙ ap (λ (x : terms.GrammarState). record s.draft { grammar_state = x }) state_made
          ∙ ap (λ (x : Draft). record x { grammar_state = terms_of_state d.names g }) along.draft_is;
    }
      where
        course : course_after p s.course ≡ counted p.sort s.course
        course = token_counted text p q is phase s.course along.phase_is h

        tokens : (counted p.sort s.course).tokens ≡ token_count g
        tokens =
            let l = low in let n = along.tokens_are in let m = token_more e g q leads in omega (arith, l, n, m)
