-- The state after each piece up to the end of a left term, by tests of the piece.
use Rattle.std.specs.Prelude.{◌≡◌, ℕ, Bool, true, false, not, ◌==◌, nat_lt, if◌then◌else◌, List, [], ◌∷◌, ◌++◌, map}
use Rattle.std.specs.Prelude.{length, Option, Some, None, option_map, refl}
use Rattle.std.proofs.Common.{sym, ap, subst, ◌∙◌, inl, inr, get_or}
use Rattle.std.proofs.lemmas.List.{length-reverse}
use Rattle.std.proofs.lemmas.Grind.{reverse_onto}
use Rattle.model.specs.Programs.{Name, Symbol}
use Rattle.its_model.specs.Views.{rule_of}
use Rattle.poly_terms.specs.Views.{term_of}
use Rattle.text_core.specs.Names.{is_among, position_of}
use Rattle.its_text.specs.expr_text.Pieces as inner
use Rattle.its_text.specs.expr_text.Terms.{with_name}
use Rattle.its_text.specs.expr_text.GrammarStates as expression
use Rattle.expr_reader.specs.Variables.{names_in}
use Rattle.its_text.specs.Pieces.{Piece, In, Comma, Arrow, CostOpen, open_bracket}
use Rattle.its_text.specs.Written.{LeftTerm, BehindMark}
use Rattle.its_text.specs.Numbering.{symbols_of, with_symbol, number_of, names_of}
use Rattle.its_text.specs.GrammarStates as grammar_states
use Rattle.its_text.specs.GrammarStates.{GrammarState, Ruling, Headed, ruling_with, section_of}
use Rattle.its_text.specs.StateFaults.{Tokens, other_arity}
use Rattle.its_text.specs.Steps.{step, left_closed}
use Rattle.its_reader.specs.Tests as tests
use Rattle.its_reader.specs.Standing.{KnowsSections, KnowsRuling, KnowsSource, KnowsLeft, KnowsSymbols, IsFreshRule}
use Rattle.its_reader.specs.Standing.{without_cost}
use Rattle.its_reader.specs.Places.{InLeft, IsSource, IsCosting, LeadsTo}
use Rattle.its_reader.specs.declared.parser_state.SourceState.{SourceState}
use Rattle.its_reader.specs.StateSteps.{GoTogether, Named, LeftLeads, RuleLeads, IsNew, StaysAround, AfterLeft}
use Rattle.its_reader.specs.declared.draft.Draft.{Draft}
use Rattle.its_reader.specs.declared.parser_state.SectionState.TheVariants as sections
use Rattle.its_reader.specs.declared.parser_state.SourceState.TheVariants as lefts
use Rattle.its_reader.specs.declared.parser_state.CostState.TheVariants as costs
use Rattle.its_reader.specs.declared.parser_state.TargetState.TheVariants as rights
use Rattle.its_reader.specs.declared.parser_state.ParserState.{ParserState}
use Rattle.its_reader.specs.declared.parser_state.ParserState.TheVariants as places
use Rattle.its_reader.proofs.SymbolTables.{symbols_with, arity_at, number_stays}
use Rattle.expr_reader.specs.Standing.{IsFresh, RepresentsExpression}
use Rattle.expr_reader.proofs.Standing.{fresh_stands}
use Rattle.expr_reader.specs.GuardRepresentation.{IsWanting}
use Rattle.its_text.specs.expr_text.GuardGrammarStates.{no_atoms}

-- two states that agree accept the same pieces
pub leads_together : (ts : Tokens) (next : Option Piece) (o : Option GrammarState) (r : Option ParserState) (d : Draft)
    → LeadsTo ts next o r d → GoTogether o r
leads_together ts next None None d h = tt
leads_together ts next None (Some state) d h = h
leads_together ts next (Some g) None d h = h
leads_together ts next (Some g) (Some state) d h = tt

module _ (ts : Tokens) (next : Option Piece) where
  -- after the source of a rule only an opening bracket can follow
  pub source_leads : (p : Piece) (f : GrammarState) (d : Draft) → InLeft ts (Some p) lefts.SourceNamed d f
      → LeadsTo ts next (step f p) (if tests.is_open_bracket p then Some (places.InLeft lefts.LeftOpened) else None) d
  source_leads p f d k = either k.1.1.0
    where
      go : (p : Piece) → LeadsTo ts next (step (grammar_states.SourceNamed k.0 k.1.0) p)
          (if tests.is_open_bracket p then Some (places.InLeft lefts.LeftOpened) else None) d
      go (In inner.Open) = (k.0, (k.1.0, (refl, k.1.1.1)))
      go (In _) = tt
      go _ = tt

      mark : (h : Headed) → k.0 ≡ ruling_with h (BehindMark None)
          → LeadsTo ts next (step (grammar_states.WordRead h k.1.0) open_bracket)
          (Some (places.InLeft lefts.LeftOpened)) d
      mark h e = (
        ruling_with h (BehindMark None),
        (k.1.0, (refl, subst (λ (r : Ruling). KnowsSource ts r k.1.0 [] d) e k.1.1.1)),
      )

      either : IsSource (Some p) k.0 k.1.0 f → LeadsTo ts next (step f p)
          (if tests.is_open_bracket p then Some (places.InLeft lefts.LeftOpened) else None) d
      either (inl e) = rw e (go p)
      either (inr (h, (e, (r, n)))) =
          let same : p ≡ open_bracket = cc in
          subst (λ (q : Piece). LeadsTo ts next (step f q)
          (if tests.is_open_bracket q then Some (places.InLeft lefts.LeftOpened) else None) d) (sym same)
          (rw e (mark h r))

  -- at the opening braces, no part of a cost has been read
  cost_begins : (r : Ruling) (t : LeftTerm) (d : Draft) → KnowsLeft ts (without_cost r t) d
      → IsCosting ts r t expression.beginning d
  cost_begins r t d k = record {
    led = k.led;
    symbols = k.symbols;
    updates = k.updates;
    guard = k.guard;
    expression = subst (λ (b : List Name). RepresentsExpression b expression.beginning (names_in d.rule.variables)
        d.rule.expression) k.names_are (fresh_stands (names_in d.rule.variables) d.rule.expression k.expression);
  }

  -- after a left term only an arrow can follow, with a cost or none
  pub closed_leads : (p : Piece) (f : GrammarState) (d : Draft) → InLeft ts (Some p) lefts.SourceClosed d f
      → LeadsTo ts next (step f p)
      (if tests.is_arrow p then Some (places.InRight rights.Arrowed) else if tests.is_cost_open p then Some
      (places.InCost costs.Costing) else None) d
  closed_leads p f d k = rw k.1.1.0 (go p)
    where
      go : (p : Piece) → LeadsTo ts next (step (grammar_states.SourceClosed k.0 k.1.0) p)
          (if tests.is_arrow p then Some (places.InRight rights.Arrowed) else if tests.is_cost_open p then Some
          (places.InCost costs.Costing) else None) d
      go Arrow = (without_cost k.0 k.1.0, (refl, k.1.1.1.0))
      go CostOpen = (k.0, (k.1.0, (expression.beginning, (refl, cost_begins k.0 k.1.0 d k.1.1.1.0))))
      go (In _) = tt
      go _ = tt

  -- after a left argument only a comma can follow, except for the bracket that closes
  pub parted_leads : (p : Piece) (f : GrammarState) (d : Draft) → InLeft ts (Some p) lefts.LeftRead d f
      → tests.is_close_bracket p ≡ false → LeadsTo ts next (step f p)
      (if tests.is_comma p then Some (places.InLeft lefts.LeftParted) else None) d
  parted_leads p f d k h = rw k.1.1.1.1.0 (go p h)
    where
      go : (p : Piece) → tests.is_close_bracket p ≡ false → LeadsTo ts next
          (step (grammar_states.LeftRead k.0 k.1.0 k.1.1.0 k.1.1.1.0) p)
          (if tests.is_comma p then Some (places.InLeft lefts.LeftParted) else None) d
      go Comma h = (k.0, (k.1.0, (k.1.1.0, (k.1.1.1.0, (refl, k.1.1.1.1.1)))))
      go (In inner.Close) h = cc
      go (In _) h = tt
      go _ h = tt

  -- one more left argument is known
  argument_known : (r : Ruling) (name a : Name) (earlier : List Name) (old new : Draft)
      → KnowsSource ts r name earlier old → StaysAround old new
      → names_in new.rule.variables ≡ with_name (names_in old.rule.variables) a
      → is_among a (names_in old.rule.variables) ≡ false → KnowsSource ts r name (a ∷ earlier) new
  argument_known r name a earlier old new k s n fresh = record {
    ruling = record {
      sections = subst (KnowsSections ts r.sections) (sym s.sections) k.ruling.sections;
      rules = record {
        symbols = subst (KnowsSymbols (symbols_of r.rules)) (sym s.symbols) k.ruling.rules.symbols;
        rules_are = ap (λ v. map rule_of v.items) s.rules ∙ k.ruling.rules.rules_are;
      };
    };
    name_is = ap (λ v. v.now) s.name ∙ k.name_is;
    arguments_are = n ∙ (ap (λ v. if v then names_in old.rule.variables else names_in old.rule.variables ++ a ∷ [])
        fresh ∙ (ap (λ ns. ns ++ a ∷ []) k.arguments_are ∙ sym (reverse_onto earlier a [])));
    updates = ap (λ v. v.items) s.updates ∙ k.updates;
    expression = subst (λ e. IsFresh e) (sym s.expression) k.expression;
    guard = subst (λ g. (before : List Name) → IsWanting before no_atoms before g) (sym s.guard) k.guard;
    cost = s.cost ∙ k.cost;
  }

  -- after the opening bracket a new name is the first left argument
  pub opened_named : (p : Piece) (f : GrammarState) (old new : Draft) (a : Name)
      → InLeft ts (Some p) lefts.LeftOpened old f → tests.word p ≡ Some a → StaysAround old new
      → names_in new.rule.variables ≡ with_name (names_in old.rule.variables) a
      → is_among a (names_in old.rule.variables) ≡ false → LeadsTo ts next (step f p)
      (Some (places.InLeft lefts.LeftRead)) new
  opened_named p f old new a k h s n fresh = rw k.1.1.0 (go p h)
    where
      go : (p : Piece) → tests.word p ≡ Some a → LeadsTo ts next (step (grammar_states.LeftOpened k.0 k.1.0) p)
          (Some (places.InLeft lefts.LeftRead)) new
      go (In (inner.Word b)) h = let same : b ≡ a = cc in (
        k.0,
        (
          k.1.0,
          (
            b,
            (
              [],
              (
                refl,
                subst (λ (c : Name). KnowsSource ts k.0 k.1.0 (c ∷ []) new) (sym same)
                    (argument_known k.0 k.1.0 a [] old new k.1.1.1 s n fresh),
              ),
            ),
          ),
        ),
      )
      go (In _) h = cc
      go _ h = cc

  -- after a comma a new name is the next left argument
  pub parted_named : (p : Piece) (f : GrammarState) (old new : Draft) (a : Name)
      → InLeft ts (Some p) lefts.LeftParted old f → tests.word p ≡ Some a → StaysAround old new
      → names_in new.rule.variables ≡ with_name (names_in old.rule.variables) a
      → is_among a (names_in old.rule.variables) ≡ false → LeadsTo ts next (step f p)
      (Some (places.InLeft lefts.LeftRead)) new
  parted_named p f old new a k h s n fresh = rw k.1.1.1.1.0 (go p h)
    where
      go : (p : Piece) → tests.word p ≡ Some a → LeadsTo ts next
          (step (grammar_states.LeftParted k.0 k.1.0 k.1.1.0 k.1.1.1.0) p) (Some (places.InLeft lefts.LeftRead)) new
      go (In (inner.Word b)) h = let same : b ≡ a = cc in (
        k.0,
        (
          k.1.0,
          (
            b,
            (
              k.1.1.0 ∷ k.1.1.1.0,
              (
                refl,
                subst (λ (c : Name). KnowsSource ts k.0 k.1.0 (c ∷ (k.1.1.0 ∷ k.1.1.1.0)) new) (sym same)
                    (argument_known k.0 k.1.0 a (k.1.1.0 ∷ k.1.1.1.0) old new k.1.1.1.1.1 s n fresh),
              ),
            ),
          ),
        ),
      )
      go (In _) h = cc
      go _ h = cc

  -- after a comma only a name can follow
  pub parted_stops : (p : Piece) (f : GrammarState) (d : Draft) → InLeft ts (Some p) lefts.LeftParted d f
      → tests.word p ≡ None → LeadsTo ts next (step f p) None d
  parted_stops p f d k h = rw k.1.1.1.1.0 (go p h)
    where
      go : (p : Piece) → tests.word p ≡ None → LeadsTo ts next
          (step (grammar_states.LeftParted k.0 k.1.0 k.1.1.0 k.1.1.1.0) p) None d
      go (In (inner.Word b)) h = cc
      go (In _) h = tt
      go _ h = tt

  -- after the opening bracket only a name and a closing bracket can follow
  pub opened_stops : (p : Piece) (f : GrammarState) (d : Draft) → InLeft ts (Some p) lefts.LeftOpened d f
      → tests.is_close_bracket p ≡ false → tests.word p ≡ None → LeadsTo ts next (step f p) None d
  opened_stops p f d k c h = rw k.1.1.0 (go p c h)
    where
      go : (p : Piece) → tests.is_close_bracket p ≡ false → tests.word p ≡ None
          → LeadsTo ts next (step (grammar_states.LeftOpened k.0 k.1.0) p) None d
      go (In (inner.Word b)) c h = cc
      go (In inner.Close) c h = cc
      go (In _) c h = tt
      go _ c h = tt

  -- the draft after a left term that has ended represents that term
  left_known : (r : Ruling) (name : Name) (arguments : List Name) (old new : Draft)
      → KnowsSource ts r name arguments old → AfterLeft old new
      → KnowsLeft ts (without_cost r (record { name = name; arguments = arguments })) new
  left_known r name arguments old new k h = record {
    led = record {
      sections = subst (KnowsSections ts r.sections) (sym h.stays.sections) k.ruling.sections;
      rules_are = ap (λ v. map rule_of v.items) h.stays.rules ∙ k.ruling.rules.rules_are;
      source_is = h.source ∙ (ap (λ n. position_of n (names_in old.symbols.names)) k.name_is
          ∙ (ap (position_of name) k.ruling.rules.symbols.names ∙ stays));
      left_is = h.left ∙ count;
      cost_is = ap (option_map term_of) (h.stays.cost ∙ k.cost);
    };
    symbols = symbols_with (symbols_of r.rules) name (length arguments) old.symbols new.symbols k.ruling.rules.symbols
        (h.numbered.names ∙ ap (with_name (names_in old.symbols.names)) k.name_is)
        (subst (λ (n : Name). new.symbols.arities.items
        ≡ (if nat_lt (position_of n (names_in old.symbols.names)) (length old.symbols.arities.items) then
        old.symbols.arities.items else old.symbols.arities.items ++ length arguments ∷ [])) k.name_is
        (subst (λ (m : ℕ). new.symbols.arities.items
        ≡ (if nat_lt (position_of old.rule.name.now (names_in old.symbols.names)) (length old.symbols.arities.items)
        then old.symbols.arities.items else old.symbols.arities.items ++ m ∷ [])) count h.numbered.arities));
    names_are = ap names_in h.stays.variables ∙ k.arguments_are;
    updates = ap (λ v. v.items) h.stays.updates ∙ k.updates;
    expression = subst (λ e. IsFresh e) (sym h.stays.expression) k.expression;
    guard = subst (λ g. (before : List Name) → IsWanting before no_atoms before g) (sym h.stays.guard) k.guard;
  }
    where
      count : length (names_in old.rule.variables) ≡ length arguments
      count = ap length k.arguments_are ∙ length-reverse arguments

      stays : position_of name (names_of (symbols_of r.rules))
          ≡ number_of (with_symbol (symbols_of r.rules) name (length arguments)) name
      stays = number_stays (symbols_of r.rules) name (length arguments)

  -- the code's test whether a left term has another number of arguments than its symbol has places
  left_differs : (r : Ruling) (name : Name) (arguments : List Name) (old new : Draft)
      → KnowsSource ts r name arguments old → (h : AfterLeft old new)
      → KnowsLeft ts (without_cost r (record { name = name; arguments = arguments })) new
      → new.rule.differs ≡ other_arity (with_symbol (symbols_of r.rules) name (length arguments)) name
      (length arguments)
  left_differs r name arguments old new k h left =
      h.differs
      ∙ (ap (λ n. not (get_or new.symbols.arities.items new.rule.source 0 == n))
      (ap length k.arguments_are ∙ length-reverse arguments)
      ∙ (ap (λ xs. not (get_or xs new.rule.source 0 == length arguments)) left.symbols.arities
      ∙ (ap (λ n. not (get_or (map (λ (x : Symbol). x.arity) (with_symbol (symbols_of r.rules) name (length arguments)))
      n 0 == length arguments)) left.led.source_is
      ∙ ap (λ n. not (n == length arguments))
      (arity_at (with_symbol (symbols_of r.rules) name (length arguments)) name))))

  left_ends : (r : Ruling) (name : Name) (arguments : List Name) (old new : Draft) → KnowsSource ts r name arguments old
      → AfterLeft old new
      → LeadsTo ts next (Some (left_closed r name arguments)) (Some (places.InLeft lefts.SourceClosed)) new
  left_ends r name arguments old new k h =
      let left = left_known r name arguments old new k h in (
        r,
        (
          record { name = name; arguments = arguments },
          (refl, (left, left_differs r name arguments old new k h left)),
        ),
      )

  -- a closing bracket right after the opening one ends a left term without arguments
  pub opened_ends : (p : Piece) (f : GrammarState) (old new : Draft) → InLeft ts (Some p) lefts.LeftOpened old f
      → tests.is_close_bracket p ≡ true → AfterLeft old new
      → LeadsTo ts next (step f p) (Some (places.InLeft lefts.SourceClosed)) new
  opened_ends p f old new k c h = rw k.1.1.0 (go p c)
    where
      go : (p : Piece) → tests.is_close_bracket p ≡ true → LeadsTo ts next
          (step (grammar_states.LeftOpened k.0 k.1.0) p) (Some (places.InLeft lefts.SourceClosed)) new
      go (In inner.Close) c = left_ends k.0 k.1.0 [] old new k.1.1.1 h
      go (In _) c = cc
      go _ c = cc

  -- a closing bracket after a left argument ends the left term
  pub read_ends : (p : Piece) (f : GrammarState) (old new : Draft) → InLeft ts (Some p) lefts.LeftRead old f
      → tests.is_close_bracket p ≡ true → AfterLeft old new
      → LeadsTo ts next (step f p) (Some (places.InLeft lefts.SourceClosed)) new
  read_ends p f old new k c h = rw k.1.1.1.1.0 (go p c)
    where
      go : (p : Piece) → tests.is_close_bracket p ≡ true → LeadsTo ts next
          (step (grammar_states.LeftRead k.0 k.1.0 k.1.1.0 k.1.1.1.0) p) (Some (places.InLeft lefts.SourceClosed)) new
      go (In inner.Close) c = left_ends k.0 k.1.0 (k.1.1.0 ∷ k.1.1.1.0) old new k.1.1.1.1.1 h
      go (In _) c = cc
      go _ c = cc

  -- between rules a name is the next rule's source
  pub ruled_named : (p : Piece) (r : Ruling) (old new : Draft) (name : Name) → KnowsRuling ts r old
      → IsFreshRule old.rule → tests.word p ≡ Some name → new.rule.name.now ≡ name
      → new.sections ≡ old.sections → new.rules ≡ old.rules → new.symbols ≡ old.symbols
      → new.rule.variables ≡ old.rule.variables → new.rule.updates ≡ old.rule.updates
      → new.rule.expression ≡ old.rule.expression → new.rule.guard ≡ old.rule.guard
      → new.rule.cost ≡ old.rule.cost → LeadsTo ts next (step (grammar_states.AfterRule r) p)
      (Some (places.InLeft lefts.SourceNamed)) new
  ruled_named p r old new name k fresh w e a b c v u x g y = go p w
    where
      go : (p : Piece) → tests.word p ≡ Some name → LeadsTo ts next (step (grammar_states.AfterRule r) p)
          (Some (places.InLeft lefts.SourceNamed)) new
      go (In (inner.Word n)) w = (
        r,
        (
          n,
          (
            inl refl,
            record {
              ruling = record {
                sections = subst (KnowsSections ts r.sections) (sym a) k.sections;
                rules = record {
                  symbols = subst (KnowsSymbols (symbols_of r.rules)) (sym c) k.rules.symbols;
                  rules_are = ap (λ v. map rule_of v.items) b ∙ k.rules.rules_are;
                };
              };
              name_is = (let same : name ≡ n = cc in e ∙ same);
              arguments_are = ap names_in v ∙ fresh.variables;
              updates = ap (λ v. v.items) u ∙ fresh.updates;
              expression = subst (λ e. IsFresh e) (sym x) fresh.expression;
              guard = subst (λ g. (before : List Name) → IsWanting before no_atoms before g) (sym g) fresh.guard;
              cost = y ∙ fresh.cost;
            },
          ),
        ),
      )
      go (In _) w = cc
      go _ w = cc

  -- a closing bracket ends the rules
  pub ruled_ends : (p : Piece) (r : Ruling) (old new : Draft) → KnowsRuling ts r old → tests.is_close_bracket p ≡ true
      → new ≡ record old { sections = record old.sections { rules = true } }
      → LeadsTo ts next (step (grammar_states.AfterRule r) p) (Some (places.InSections sections.Between)) new
  ruled_ends p r old new k c e = rw e (go p c)
    where
      go : (p : Piece) → tests.is_close_bracket p ≡ true → LeadsTo ts next (step (grammar_states.AfterRule r) p)
          (Some (places.InSections sections.Between)) (record old { sections = record old.sections { rules = true } })
      go (In inner.Close) c = (
        section_of r,
        (
          refl,
          record {
            sections = record {
              goal = k.sections.goal;
              variables = k.sections.variables;
              rules = refl;
              start =
                  k.sections.start;
            };
            last = record { symbols = k.rules.symbols; rules_are = k.rules.rules_are };
          },
        ),
      )
      go (In _) c = cc
      go _ c = cc

  -- between rules only a name and a closing bracket can follow
  pub ruled_stops : (p : Piece) (r : Ruling) (d : Draft) → tests.word p ≡ None → tests.is_close_bracket p ≡ false
      → LeadsTo ts next (step (grammar_states.AfterRule r) p) None d
  ruled_stops (In (inner.Word n)) r d w c = cc
  ruled_stops (In inner.Close) r d w c = cc
  ruled_stops (In _) r d w c = tt
  ruled_stops _ r d w c = tt

  -- a name is accepted wherever a left argument must follow
  opened_follows : (p : Piece) (f : GrammarState) (old : Draft) (a : Name) (state : ParserState)
      → InLeft ts (Some p) lefts.LeftOpened old f → tests.word p ≡ Some a → GoTogether (step f p) (Some state)
  opened_follows p f old a state k h = rw k.1.1.0 (go p h)
    where
      go : (p : Piece) → tests.word p ≡ Some a → GoTogether (step (grammar_states.LeftOpened k.0 k.1.0) p) (Some state)
      go (In (inner.Word b)) h = tt
      go (In _) h = cc
      go _ h = cc

  parted_follows : (p : Piece) (f : GrammarState) (old : Draft) (a : Name) (state : ParserState)
      → InLeft ts (Some p) lefts.LeftParted old f → tests.word p ≡ Some a → GoTogether (step f p) (Some state)
  parted_follows p f old a state k h = rw k.1.1.1.1.0 (go p h)
    where
      go : (p : Piece) → tests.word p ≡ Some a → GoTogether
          (step (grammar_states.LeftParted k.0 k.1.0 k.1.1.0 k.1.1.1.0) p) (Some state)
      go (In (inner.Word b)) h = tt
      go (In _) h = cc
      go _ h = cc

-- right after the opening bracket the code steps as the written state does
pub opened_promise : (p : Piece) (old new : Draft) (result : Option ParserState) → tests.is_close_bracket p ≡ false
    → Named (tests.word p) result old new → LeftLeads lefts.LeftOpened old p result new
opened_promise p old new result c h = go (tests.word p) refl h
  where
    go : (o : Option Name) → tests.word p ≡ o → Named o result old new → LeftLeads lefts.LeftOpened old p result new
    go None e h = rw (h.0, h.1) (record {
      together = λ ts f k. leads_together ts None _ _ old (opened_stops ts None p f old k c e);
      each = λ ts next f k fresh. opened_stops ts next p f old k c e;
    })
    go (Some a) e h = rw h.0 (record {
      together = λ ts f k. opened_follows ts None p f old a _ k e;
      each = λ ts next f k fresh. opened_named ts next p f old new a k e h.1.0 h.1.1
          (subst (IsNew (names_in old.rule.variables)) e fresh);
    })

-- after a comma between left arguments the code steps as the written state does
pub parted_promise : (p : Piece) (old new : Draft) (result : Option ParserState) → Named (tests.word p) result old new
    → LeftLeads lefts.LeftParted old p result new
parted_promise p old new result h = go (tests.word p) refl h
  where
    go : (o : Option Name) → tests.word p ≡ o → Named o result old new → LeftLeads lefts.LeftParted old p result new
    go None e h = rw (h.0, h.1) (record {
      together = λ ts f k. leads_together ts None _ _ old (parted_stops ts None p f old k e);
      each = λ ts next f k fresh. parted_stops ts next p f old k e;
    })
    go (Some a) e h = rw h.0 (record {
      together = λ ts f k. parted_follows ts None p f old a _ k e;
      each = λ ts next f k fresh. parted_named ts next p f old new a k e h.1.0 h.1.1
          (subst (IsNew (names_in old.rule.variables)) e fresh);
    })

-- a step that is right in each context satisfies the contract of its state
pub always : (state : SourceState) (p : Piece) (old new : Draft) (result : Option ParserState)
    → ((ts : Tokens) (next : Option Piece) (f : GrammarState) → InLeft ts (Some p) state old f
    → LeadsTo ts next (step f p) result new) → LeftLeads state old p result new
always state p old new result h = record {
  together = λ ts f k. leads_together ts None (step f p) result new (h ts None f k);
  each = λ ts next f k fresh. h ts next f k;
}

-- after a left argument, at a piece other than the closing bracket, the code steps as the written state does
pub read_promise : (p : Piece) (old : Draft) (result : Option ParserState) (v : Bool) → tests.is_close_bracket p ≡ false
    → v ≡ tests.is_comma p → result ≡ (if v then Some (places.InLeft lefts.LeftParted) else None)
    → LeftLeads lefts.LeftRead old p result old
read_promise p old result v c e h = always lefts.LeftRead p old old result
    (λ ts next f k. rw (h, e) (parted_leads ts next p f old k c))

-- after the source of a rule the code steps as the written state does
pub source_promise : (p : Piece) (old : Draft) (result : Option ParserState) (v : Bool) → v ≡ tests.is_open_bracket p
    → result ≡ (if v then Some (places.InLeft lefts.LeftOpened) else None)
    → LeftLeads lefts.SourceNamed old p result old
source_promise p old result v e h = always lefts.SourceNamed p old old result
    (λ ts next f k. rw (h, e) (source_leads ts next p f old k))

-- after a left term the code steps as the written state does
pub closed_promise : (p : Piece) (old : Draft) (result : Option ParserState)
    → result ≡ (if tests.is_arrow p then Some (places.InRight rights.Arrowed) else if tests.is_cost_open p then Some
    (places.InCost costs.Costing) else None)
    → LeftLeads lefts.SourceClosed old p result old
closed_promise p old result h = always lefts.SourceClosed p old old result
    (λ ts next f k. rw h (closed_leads ts next p f old k))

-- between rules the code steps as the written state does
pub ruled_promise : (p : Piece) (old new : Draft) (result : Option ParserState) → RuleLeads old p result new
    → LeftLeads lefts.AfterRule old p result new
ruled_promise p old new result h = always lefts.AfterRule p old new result
    (λ ts next f k. rw k.1.0 (h.each ts next k.0 k.1.1.0 k.1.1.1))

-- a state up to the end of a left term that is equal to a known one satisfies the known state's contract
pub in_left_state : (state known : SourceState) (old new : Draft) (p : Piece) (result : Option ParserState)
    → state ≡ known → LeftLeads known old p result new → LeftLeads state old p result new
in_left_state state known old new p result e h = subst (λ (q : SourceState). LeftLeads q old p result new) (sym e) h
