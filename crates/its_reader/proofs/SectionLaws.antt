-- The state after each piece outside rules, by tests of the piece.
use Rattle.its_model.specs.Views.{rule_of}
use Rattle.std.specs.Prelude.{◌≡◌, ℕ, ◌+◌, map, Bool, true, false, if◌then◌else◌, List, [], ◌∷◌, length, codes, Option}
use Rattle.std.specs.Prelude.{Some, None, refl}
use Rattle.std.proofs.Common.{sym, ap, subst, ◌∙◌, arith}
use Rattle.model.specs.Programs.{Name}
use Rattle.text_core.specs.Names.{is_same}
use Rattle.its_text.specs.expr_text.Pieces as inner
use Rattle.its_text.specs.Pieces.{Piece, In, Remark}
use Rattle.its_text.specs.Numbering.{rules_of}
use Rattle.its_text.specs.Written.{WrittenRule, Section, Goal, Start, Variables, Comment, pieces_behind}
use Rattle.its_text.specs.GrammarStates as grammar_states
use Rattle.its_text.specs.GrammarStates.{GrammarState, pieces_read}
use Rattle.its_text.specs.Answers.{at_index}
use Rattle.its_text.specs.StateFaults.{Tokens}
use Rattle.its_text.specs.Steps.{step}
use Rattle.its_reader.specs.Tests as tests
use Rattle.its_reader.specs.Standing.{KnowsBetween, KnowsSections, KnowsLast, KnowsRules, KnowsSymbols, IsFreshRule}
use Rattle.its_reader.specs.Standing.{Started, started_of}
use Rattle.its_reader.specs.Places.{InSections, LeadsTo}
use Rattle.its_reader.specs.StateSteps.{SectionLeads, StartLeads}
use Rattle.its_reader.specs.declared.parser_state.SectionState.{SectionState}
use Rattle.its_reader.specs.declared.draft.Draft.{Draft}
use Rattle.its_reader.specs.declared.parser_state.SectionState.TheVariants as sections
use Rattle.its_reader.specs.declared.parser_state.SourceState.TheVariants as lefts
use Rattle.its_reader.specs.declared.parser_state.ParserState.{ParserState}
use Rattle.its_reader.specs.declared.parser_state.ParserState.TheVariants as places

module _ (ts : Tokens) (next : Option Piece) where
  -- between sections only an opening bracket can follow
  pub between_leads : (p : Piece) (f : GrammarState) (d : Draft) → InSections ts sections.Between d f
      → LeadsTo ts next (step f p) (if tests.is_open_bracket p then Some (places.InSections sections.Opened) else None)
      d
  between_leads p f d k = rw k.1.0 (go p)
    where
      go : (p : Piece) → LeadsTo ts next (step (grammar_states.Between k.0) p)
          (if tests.is_open_bracket p then Some (places.InSections sections.Opened) else None) d
      go (In inner.Open) = (k.0, (refl, k.1.1))
      go (In _) = tt
      go _ = tt

  -- after `GOAL` only `COMPLEXITY` can follow
  pub goal_named_leads : (p : Piece) (f : GrammarState) (d : Draft) → InSections ts sections.GoalNamed d f
      → LeadsTo ts next (step f p)
      (if tests.is_word (codes "COMPLEXITY") p then Some (places.InSections sections.GoalRead) else None) d
  goal_named_leads p f d k = rw k.1.0 (go p)
    where
      word : (v : Bool) → LeadsTo ts next (if v then Some (grammar_states.GoalRead k.0) else None)
          (if v then Some (places.InSections sections.GoalRead) else None) d
      word true = (k.0, (refl, k.1.1))
      word false = tt

      go : (p : Piece) → LeadsTo ts next (step (grammar_states.GoalNamed k.0) p)
          (if tests.is_word (codes "COMPLEXITY") p then Some (places.InSections sections.GoalRead) else None) d
      go (In (inner.Word name)) = word (is_same name (codes "COMPLEXITY"))
      go (In _) = tt
      go _ = tt

  -- after `STARTTERM` only an opening bracket can follow
  pub start_named_leads : (p : Piece) (f : GrammarState) (d : Draft) → InSections ts sections.StartNamed d f
      → LeadsTo ts next (step f p)
      (if tests.is_open_bracket p then Some (places.InSections sections.StartOpened) else None) d
  start_named_leads p f d k = rw k.1.0 (go p)
    where
      go : (p : Piece) → LeadsTo ts next (step (grammar_states.StartNamed k.0) p)
          (if tests.is_open_bracket p then Some (places.InSections sections.StartOpened) else None) d
      go (In inner.Open) = (k.0, (refl, k.1.1))
      go (In _) = tt
      go _ = tt

  -- after that bracket only `FUNCTIONSYMBOLS` can follow
  pub start_opened_leads : (p : Piece) (f : GrammarState) (d : Draft) → InSections ts sections.StartOpened d f
      → LeadsTo ts next (step f p)
      (if tests.is_word (codes "FUNCTIONSYMBOLS") p then Some (places.InSections sections.StartListed) else None) d
  start_opened_leads p f d k = rw k.1.0 (go p)
    where
      word : (v : Bool) → LeadsTo ts next (if v then Some (grammar_states.StartListed k.0) else None)
          (if v then Some (places.InSections sections.StartListed) else None) d
      word true = (k.0, (refl, k.1.1))
      word false = tt

      go : (p : Piece) → LeadsTo ts next (step (grammar_states.StartOpened k.0) p)
          (if tests.is_word (codes "FUNCTIONSYMBOLS") p then Some (places.InSections sections.StartListed) else None) d
      go (In (inner.Word name)) = word (is_same name (codes "FUNCTIONSYMBOLS"))
      go (In _) = tt
      go _ = tt

  -- after the start symbol only a closing bracket can follow
  pub start_said_leads : (p : Piece) (f : GrammarState) (d : Draft) → InSections ts sections.StartRead d f
      → LeadsTo ts next (step f p)
      (if tests.is_close_bracket p then Some (places.InSections sections.StartClosed) else None) d
  start_said_leads p f d k = rw k.1.1.0 (go p)
    where
      go : (p : Piece) → LeadsTo ts next (step (grammar_states.StartRead k.0 k.1.0) p)
          (if tests.is_close_bracket p then Some (places.InSections sections.StartClosed) else None) d
      go (In inner.Close) = (k.0, (k.1.0, (refl, k.1.1.1)))
      go (In _) = tt
      go _ = tt

  -- after the bracket that closes there, only the bracket that closes the section can follow
  pub start_closed_leads : (p : Piece) (f : GrammarState) (d : Draft) → InSections ts sections.StartClosed d f
      → LeadsTo ts next (step f p)
      (if tests.is_close_bracket p then Some (places.InSections sections.Between) else None) d
  start_closed_leads p f d k = rw k.1.1.0 (go p)
    where
      go : (p : Piece) → LeadsTo ts next (step (grammar_states.StartClosed k.0 k.1.0) p)
          (if tests.is_close_bracket p then Some (places.InSections sections.Between) else None) d
      go (In inner.Close) = (Start k.1.0 ∷ k.0, (refl, k.1.1.1))
      go (In _) = tt
      go _ = tt

  -- a comment changes nothing that is known
  with_comment : (ss : List Section) (bytes : List ℕ) (d : Draft) → KnowsBetween ts ss d
      → KnowsBetween ts (Comment bytes ∷ ss) d
  with_comment ss bytes d k =
      record {
        sections = record {
          goal = k.sections.goal;
          variables = k.sections.variables;
          rules = k.sections.rules;
          start = k.sections.start;
        };
        last = k.last;
      }

  -- after `COMMENT` only the comment's text can follow, which ends the section
  pub comment_leads : (p : Piece) (f : GrammarState) (d : Draft) → InSections ts sections.CommentNamed d f
      → LeadsTo ts next (step f p) (if tests.is_comment p then Some (places.InSections sections.Between) else None) d
  comment_leads p f d k = rw k.1.0 (go p)
    where
      go : (p : Piece) → LeadsTo ts next (step (grammar_states.CommentNamed k.0) p)
          (if tests.is_comment p then Some (places.InSections sections.Between) else None) d
      go (Remark bytes) = (Comment bytes ∷ k.0, (refl, with_comment k.0 bytes d k.1.1))
      go (In _) = tt
      go _ = tt

  -- a closing bracket ends the section of a goal
  pub goal_ends : (p : Piece) (f : GrammarState) (old new : Draft) → InSections ts sections.GoalRead old f
      → tests.is_close_bracket p ≡ true
      → new ≡ record old { sections = record old.sections { goal = true } }
      → LeadsTo ts next (step f p) (Some (places.InSections sections.Between)) new
  goal_ends p f old new k h e = rw (k.1.0, e) (go p h)
    where
      go : (p : Piece) → tests.is_close_bracket p ≡ true → LeadsTo ts next (step (grammar_states.GoalRead k.0) p)
          (Some (places.InSections sections.Between)) (record old { sections = record old.sections { goal = true } })
      go (In inner.Close) h = (
        Goal ∷ k.0,
        (
          refl,
          record {
            sections =
                record {
                  goal = refl;
                  variables = k.1.1.sections.variables;
                  rules = k.1.1.sections.rules;
                  start =
                      k.1.1.sections.start;
                };
            last = last (rules_of k.0) k.1.1.last;
          },
        ),
      )
        where
          last : (o : Option (List WrittenRule)) → KnowsLast o old
              → KnowsLast o (record old { sections = record old.sections { goal = true } })
          last None h = tt
          last (Some rules) h = record { symbols = h.symbols; rules_are = h.rules_are }
      go (In _) h = cc
      go _ h = cc

  -- after `COMPLEXITY` only a closing bracket can follow
  pub goal_goes_on : (p : Piece) (f : GrammarState) (d : Draft) → InSections ts sections.GoalRead d f
      → tests.is_close_bracket p ≡ false → LeadsTo ts next (step f p) None d
  goal_goes_on p f d k h = rw k.1.0 (go p h)
    where
      go : (p : Piece) → tests.is_close_bracket p ≡ false → LeadsTo ts next (step (grammar_states.GoalRead k.0) p) None
          d
      go (In inner.Close) h = cc
      go (In _) h = tt
      go _ h = tt

  -- the knowledge of sections doesn't depend on the rest of the draft
  same_last : (o : Option (List WrittenRule)) (old new : Draft) → new.symbols ≡ old.symbols → new.rules ≡ old.rules
      → KnowsLast o old → KnowsLast o new
  same_last None old new a b h = tt
  same_last (Some rules) old new a b h = record {
    symbols = subst (KnowsSymbols _) (sym a) h.symbols;
    rules_are = ap (λ v. map rule_of v.items) b ∙ h.rules_are;
  }

  -- after `FUNCTIONSYMBOLS` a name is the start symbol
  pub start_ends : (p : Piece) (f : GrammarState) (old new : Draft) (s : Started)
      → InSections ts sections.StartListed old f → tests.word p ≡ Some s.name
      → s.at ≡ at_index ts (length (pieces_read f))
      → started_of new.sections.start ≡ Some s → new.sections.goal ≡ old.sections.goal
      → new.sections.variables ≡ old.sections.variables → new.sections.rules ≡ old.sections.rules
      → new.symbols ≡ old.symbols → new.rules ≡ old.rules → LeadsTo ts next (step f p)
      (Some (places.InSections sections.StartRead)) new
  start_ends p f old new s k h at e g v r a b = rw k.1.0 (go p h)
    where
      stands : s.at ≡ at_index ts (length (pieces_behind k.0) + 4)
      stands = at ∙ ap (λ (g : GrammarState). at_index ts (length (pieces_read g))) k.1.0
          ∙ ap (at_index ts) (omega arith)

      go : (p : Piece) → tests.word p ≡ Some s.name → LeadsTo ts next (step (grammar_states.StartListed k.0) p)
          (Some (places.InSections sections.StartRead)) new
      go (In (inner.Word name)) h = (
        k.0,
        (
          name,
          (
            refl,
            record {
              sections = record {
                goal = g ∙ k.1.1.sections.goal;
                variables = v ∙ k.1.1.sections.variables;
                rules = r ∙ k.1.1.sections.rules;
                start = e ∙ (let same : s.name ≡ name = cc in λ i. Some (record { name = same i; at = stands i }));
              };
              last = same_last (rules_of k.0) old new a b k.1.1.last;
            },
          ),
        ),
      )
      go (In _) h = cc
      go _ h = cc

  -- after `FUNCTIONSYMBOLS` only a name can follow
  pub start_goes_on : (p : Piece) (f : GrammarState) (d : Draft) → InSections ts sections.StartListed d f
      → tests.word p ≡ None → LeadsTo ts next (step f p) None d
  start_goes_on p f d k h = rw k.1.0 (go p h)
    where
      go : (p : Piece) → tests.word p ≡ None → LeadsTo ts next (step (grammar_states.StartListed k.0) p) None d
      go (In (inner.Word name)) h = cc
      go (In _) h = tt
      go _ h = tt

  -- a closing bracket ends the section of the variables
  pub variables_end : (p : Piece) (f : GrammarState) (old new : Draft) → InSections ts sections.Listing old f
      → tests.is_close_bracket p ≡ true
      → new ≡ record old { sections = record old.sections { variables = true } }
      → LeadsTo ts next (step f p) (Some (places.InSections sections.Between)) new
  variables_end p f old new k h e = rw (k.1.1.0, e) (go p h)
    where
      go : (p : Piece) → tests.is_close_bracket p ≡ true → LeadsTo ts next (step (grammar_states.Listing k.0 k.1.0) p)
          (Some (places.InSections sections.Between))
          (record old { sections = record old.sections { variables = true } })
      go (In inner.Close) h = (
        Variables k.1.0 ∷ k.0,
        (
          refl,
          record {
            sections = record {
              goal = k.1.1.1.sections.goal;
              variables = refl;
              rules = k.1.1.1.sections.rules;
              start =
                  k.1.1.1.sections.start;
            };
            last = same_last (rules_of k.0) old (record old { sections = record old.sections { variables = true } })
                refl refl k.1.1.1.last;
          },
        ),
      )
      go (In _) h = cc
      go _ h = cc

  -- a name is one more variable in the section of the variables
  pub variables_go_on : (p : Piece) (f : GrammarState) (d : Draft) (name : Name) → InSections ts sections.Listing d f
      → tests.word p ≡ Some name → LeadsTo ts next (step f p) (Some (places.InSections sections.Listing)) d
  variables_go_on p f d name k h = rw k.1.1.0 (go p h)
    where
      go : (p : Piece) → tests.word p ≡ Some name → LeadsTo ts next (step (grammar_states.Listing k.0 k.1.0) p)
          (Some (places.InSections sections.Listing)) d
      go (In (inner.Word n)) h = (k.0, (n ∷ k.1.0, (refl, k.1.1.1)))
      go (In _) h = cc
      go _ h = cc

  -- in a list of variables only a name and a closing bracket can follow
  pub variables_stop : (p : Piece) (f : GrammarState) (d : Draft) → InSections ts sections.Listing d f
      → tests.is_close_bracket p ≡ false → tests.word p ≡ None → LeadsTo ts next (step f p) None d
  variables_stop p f d k c h = rw k.1.1.0 (go p c h)
    where
      go : (p : Piece) → tests.is_close_bracket p ≡ false → tests.word p ≡ None
          → LeadsTo ts next (step (grammar_states.Listing k.0 k.1.0) p) None d
      go (In (inner.Word n)) c h = cc
      go (In inner.Close) c h = cc
      go (In _) c h = tt
      go _ c h = tt

  -- `GOAL` begins the section of a goal
  pub goal_begins : (p : Piece) (f : GrammarState) (d : Draft) → InSections ts sections.Opened d f
      → tests.is_word (codes "GOAL") p ≡ true → LeadsTo ts next (step f p) (Some (places.InSections sections.GoalNamed))
      d
  goal_begins p f d k h = rw k.1.0 (go p h)
    where
      go : (p : Piece) → tests.is_word (codes "GOAL") p ≡ true
          → LeadsTo ts next (step (grammar_states.Opened k.0) p) (Some (places.InSections sections.GoalNamed)) d
      go (In (inner.Word name)) h = rw h (k.0, (refl, k.1.1))
      go (In _) h = cc
      go _ h = cc

  -- `STARTTERM` begins the section of the start symbol
  pub start_begins : (p : Piece) (f : GrammarState) (d : Draft) → InSections ts sections.Opened d f
      → tests.is_word (codes "GOAL") p ≡ false → tests.is_word (codes "STARTTERM") p ≡ true
      → LeadsTo ts next (step f p) (Some (places.InSections sections.StartNamed)) d
  start_begins p f d k n h = rw k.1.0 (go p n h)
    where
      go : (p : Piece) → tests.is_word (codes "GOAL") p ≡ false → tests.is_word (codes "STARTTERM") p ≡ true
          → LeadsTo ts next (step (grammar_states.Opened k.0) p) (Some (places.InSections sections.StartNamed)) d
      go (In (inner.Word name)) n h = rw (n, h) (k.0, (refl, k.1.1))
      go (In _) n h = cc
      go _ n h = cc

  -- `VAR` begins the section of the variables
  pub variables_begin : (p : Piece) (f : GrammarState) (d : Draft) → InSections ts sections.Opened d f
      → tests.is_word (codes "GOAL") p ≡ false → tests.is_word (codes "STARTTERM") p ≡ false
      → tests.is_word (codes "VAR") p ≡ true → LeadsTo ts next (step f p) (Some (places.InSections sections.Listing)) d
  variables_begin p f d k n m h = rw k.1.0 (go p n m h)
    where
      go : (p : Piece) → tests.is_word (codes "GOAL") p ≡ false → tests.is_word (codes "STARTTERM") p ≡ false
          → tests.is_word (codes "VAR") p ≡ true → LeadsTo ts next (step (grammar_states.Opened k.0) p)
          (Some (places.InSections sections.Listing)) d
      go (In (inner.Word name)) n m h = rw (n, m, h) (k.0, ([], (refl, k.1.1)))
      go (In _) n m h = cc
      go _ n m h = cc

  -- `RULES` begins the section of the rules, with no rule and no part of one
  pub rules_begin : (p : Piece) (f : GrammarState) (old new : Draft) → InSections ts sections.Opened old f
      → tests.is_word (codes "GOAL") p ≡ false → tests.is_word (codes "STARTTERM") p ≡ false
      → tests.is_word (codes "VAR") p ≡ false → tests.is_word (codes "RULES") p ≡ true
      → new.sections ≡ old.sections → KnowsRules [] new → IsFreshRule new.rule
      → LeadsTo ts next (step f p) (Some (places.InLeft lefts.AfterRule)) new
  rules_begin p f old new k n m o h s r fresh = rw k.1.0 (go p n m o h)
    where
      go : (p : Piece) → tests.is_word (codes "GOAL") p ≡ false → tests.is_word (codes "STARTTERM") p ≡ false
          → tests.is_word (codes "VAR") p ≡ false → tests.is_word (codes "RULES") p ≡ true
          → LeadsTo ts next (step (grammar_states.Opened k.0) p) (Some (places.InLeft lefts.AfterRule)) new
      go (In (inner.Word name)) n m o h = rw (n, m, o, h) (
        record { sections = k.0; rules = [] },
        (refl, (record { sections = subst (KnowsSections ts k.0) (sym s) k.1.1.sections; rules = r }, fresh)),
      )
      go (In _) n m o h = cc
      go _ n m o h = cc

  -- of all other pieces, only `COMMENT` begins a section
  pub comment_begins : (p : Piece) (f : GrammarState) (d : Draft) → InSections ts sections.Opened d f
      → tests.is_word (codes "GOAL") p ≡ false → tests.is_word (codes "STARTTERM") p ≡ false
      → tests.is_word (codes "VAR") p ≡ false → tests.is_word (codes "RULES") p ≡ false
      → LeadsTo ts next (step f p)
      (if tests.is_word (codes "COMMENT") p then Some (places.InSections sections.CommentNamed) else None) d
  comment_begins p f d k n m o q = rw k.1.0 (go p n m o q)
    where
      word : (v : Bool) → LeadsTo ts next (if v then Some (grammar_states.CommentNamed k.0) else None)
          (if v then Some (places.InSections sections.CommentNamed) else None) d
      word true = (k.0, (refl, k.1.1))
      word false = tt

      go : (p : Piece) → tests.is_word (codes "GOAL") p ≡ false → tests.is_word (codes "STARTTERM") p ≡ false
          → tests.is_word (codes "VAR") p ≡ false → tests.is_word (codes "RULES") p ≡ false
          → LeadsTo ts next (step (grammar_states.Opened k.0) p)
          (if tests.is_word (codes "COMMENT") p then Some (places.InSections sections.CommentNamed) else None) d
      go (In (inner.Word name)) n m o q = rw (n, m, o, q) (word (is_same name (codes "COMMENT")))
      go (In _) n m o q = tt
      go _ n m o q = tt

-- between sections the code steps as the written state does
pub between_promise : (p : Piece) (d : Draft) (at : ℕ) (result : Option ParserState) (v : Bool)
    → v ≡ tests.is_open_bracket p → result ≡ (if v then Some (places.InSections sections.Opened) else None)
    → StartLeads sections.Between d p at result d
between_promise p d at result v e h = record { each = λ ts next f k a. rw (h, e) (between_leads ts next p f d k) }

-- after `GOAL` the code steps as the written state does
pub goal_promise : (p : Piece) (d : Draft) (at : ℕ) (result : Option ParserState) (v : Bool)
    → v ≡ tests.is_word (codes "COMPLEXITY") p → result
    ≡ (if v then Some (places.InSections sections.GoalRead) else None) → StartLeads sections.GoalNamed d p at result d
goal_promise p d at result v e h = record { each = λ ts next f k a. rw (h, e) (goal_named_leads ts next p f d k) }

-- after `STARTTERM` the code steps as the written state does
pub start_promise : (p : Piece) (d : Draft) (at : ℕ) (result : Option ParserState) (v : Bool)
    → v ≡ tests.is_open_bracket p → result ≡ (if v then Some (places.InSections sections.StartOpened) else None)
    → StartLeads sections.StartNamed d p at result d
start_promise p d at result v e h = record { each = λ ts next f k a. rw (h, e) (start_named_leads ts next p f d k) }

-- after the bracket that opens there the code steps as the written state does
pub symbols_promise : (p : Piece) (d : Draft) (at : ℕ) (result : Option ParserState) (v : Bool)
    → v ≡ tests.is_word (codes "FUNCTIONSYMBOLS") p → result
    ≡ (if v then Some (places.InSections sections.StartListed) else None)
    → StartLeads sections.StartOpened d p at result d
symbols_promise p d at result v e h = record { each = λ ts next f k a. rw (h, e) (start_opened_leads ts next p f d k) }

-- after the start symbol the code steps as the written state does
pub said_promise : (p : Piece) (d : Draft) (at : ℕ) (result : Option ParserState) (v : Bool)
    → v ≡ tests.is_close_bracket p → result ≡ (if v then Some (places.InSections sections.StartClosed) else None)
    → StartLeads sections.StartRead d p at result d
said_promise p d at result v e h = record { each = λ ts next f k a. rw (h, e) (start_said_leads ts next p f d k) }

-- after the bracket that closes there the code steps as the written state does
pub closed_promise : (p : Piece) (d : Draft) (at : ℕ) (result : Option ParserState) (v : Bool)
    → v ≡ tests.is_close_bracket p → result ≡ (if v then Some (places.InSections sections.Between) else None)
    → StartLeads sections.StartClosed d p at result d
closed_promise p d at result v e h = record { each = λ ts next f k a. rw (h, e) (start_closed_leads ts next p f d k) }

-- after `COMMENT` the code steps as the written state does
pub comment_promise : (p : Piece) (d : Draft) (at : ℕ) (result : Option ParserState) (v : Bool) → v ≡ tests.is_comment p
    → result ≡ (if v then Some (places.InSections sections.Between) else None)
    → StartLeads sections.CommentNamed d p at result d
comment_promise p d at result v e h = record { each = λ ts next f k a. rw (h, e) (comment_leads ts next p f d k) }

-- a step that doesn't depend on the piece's position holds at any position
pub wherever : (state : SectionState) (old new : Draft) (p : Piece) (at : ℕ) (result : Option ParserState)
    → SectionLeads state old p result new → StartLeads state old p at result new
wherever state old new p at result h = record { each = λ ts next f k a. h.each ts next f k }

-- at a keyword other than `GOAL`, `STARTTERM` and `VAR` the code steps as the written state does
pub last_promise : (p : Piece) (d : Draft) (result : Option ParserState) (v : Bool)
    → tests.is_word (codes "GOAL") p ≡ false → tests.is_word (codes "STARTTERM") p ≡ false
    → tests.is_word (codes "VAR") p ≡ false → tests.is_word (codes "RULES") p ≡ false
    → v ≡ tests.is_word (codes "COMMENT") p → result
    ≡ (if v then Some (places.InSections sections.CommentNamed) else None)
    → SectionLeads sections.Opened d p result d
last_promise p d result v n m o q e h =
    record { each = λ ts next f k. rw (h, e) (comment_begins ts next p f d k n m o q) }

-- a state outside rules that is equal to a known one satisfies the known state's contract
pub in_place : (state known : SectionState) (old new : Draft) (p : Piece) (at : ℕ) (result : Option ParserState)
    → state ≡ known → StartLeads known old p at result new → StartLeads state old p at result new
in_place state known old new p at result e h = subst (λ (q : SectionState). StartLeads q old p at result new) (sym e) h
