-- The state after each piece from the arrow to the end of a target, by tests of the piece.
use Rattle.std.specs.Prelude.{◌≡◌, ℕ, suc, ◌==◌, nat_lt, length, true, false, not, if◌then◌else◌, List, [], ◌∷◌, ◌++◌}
use Rattle.std.specs.Prelude.{map, codes, Option, Some, None, refl}
use Rattle.std.proofs.Common.{sym, ap, subst, ◌∙◌, get_or}
use Rattle.model.specs.Programs.{Name, Symbol}
use Rattle.poly_terms.specs.Views.{term_of}
use Rattle.text_core.specs.Names.{position_of}
use Rattle.its_text.specs.expr_text.Terms.{with_name}
use Rattle.expr_reader.proofs.Standing.{fresh_stands}
use Rattle.its_text.specs.Written.{RightTerm, Target, Marked, Bare}
use Rattle.its_text.specs.Numbering.{with_symbol, with_right, number_of, arrow_names, term_in}
use Rattle.its_text.specs.StateFaults.{other_arity}
use Rattle.its_text.specs.Steps.{right_closed}
use Rattle.its_reader.specs.Standing.{updates_of}
use Rattle.its_reader.specs.Places.{IsArgued, behind_wrap}
use Rattle.its_reader.specs.StateSteps.{AfterRight}
use Rattle.its_reader.proofs.ArrowLaws.{arrow_kept}
use Rattle.its_reader.proofs.SymbolTables.{symbols_with, arity_at, number_stays}
use Rattle.its_text.specs.expr_text.Pieces as inner
use Rattle.its_text.specs.expr_text.GuardGrammarStates.{no_atoms}
use Rattle.expr_reader.specs.Variables.{names_in}
use Rattle.expr_reader.specs.Standing.{IsFresh, IsModest, RepresentsExpression}
use Rattle.its_text.specs.expr_text.Trees.{Sum}
use Rattle.its_text.specs.expr_text.GrammarStates as expression
use Rattle.its_text.specs.expr_text.Steps as expression_steps
use Rattle.its_text.specs.expr_text.StateNames.{is_state, goes_on_with}
use Rattle.its_text.specs.StateNames.{names_with}
use Rattle.its_text.specs.StateFaults.{ends_expression}
use Rattle.its_text.specs.Steps.{argument_step}
use Rattle.its_reader.specs.Places.{IsArguing}
use Rattle.its_reader.specs.StateSteps.{GoesOn, Takes}
use Rattle.expr_reader.specs.GuardRepresentation.{IsWanting}
use Rattle.its_text.specs.Pieces.{Piece, In, Comma}
use Rattle.its_text.specs.GrammarStates as grammar_states
use Rattle.its_text.specs.GrammarStates.{GrammarState, ArrowRead, Aimed}
use Rattle.its_text.specs.StateFaults.{Tokens}
use Rattle.its_text.specs.StateNames.{symbols_behind}
use Rattle.its_text.specs.Steps.{step}
use Rattle.its_reader.specs.Tests as tests
use Rattle.its_reader.specs.Standing.{KnowsSymbols, KnowsLeft, KnowsAimed}
use Rattle.its_reader.specs.Places.{InRight, RightPartEnded, LeadsTo, wrap_of, IsAimed, IsHeaded}
use Rattle.its_reader.specs.StateSteps.{StaysBut}
use Rattle.its_reader.specs.declared.draft.Draft.{Draft}
use Rattle.its_reader.specs.declared.parser_state.Wrap.{Wrap}
use Rattle.its_reader.specs.declared.parser_state.Wrap.TheVariants as wraps
use Rattle.its_reader.specs.declared.parser_state.TargetState.TheVariants as rights
use Rattle.its_reader.specs.declared.parser_state.TailState.TheVariants as tails
use Rattle.its_reader.specs.declared.parser_state.ParserState.{ParserState}
use Rattle.its_reader.specs.declared.parser_state.ParserState.TheVariants as places

module _ (ts : Tokens) (next : Option Piece) where
  -- after `Com_1` only an opening bracket can follow
  pub com_named_leads : (p : Piece) (f : GrammarState) (d : Draft) → InRight ts (Some p) rights.ComNamed d f
      → LeadsTo ts next (step f p) (if tests.is_open_bracket p then Some (places.InRight rights.ComOpened) else None) d
  com_named_leads p f d k = rw k.1.0 (go p)
    where
      go : (p : Piece) → LeadsTo ts next (step (grammar_states.ComNamed k.0) p)
          (if tests.is_open_bracket p then Some (places.InRight rights.ComOpened) else None) d
      go (In inner.Open) = (k.0, (refl, k.1.1))
      go (In _) = tt
      go _ = tt

  -- after the target's name only an opening bracket can follow
  pub target_named_leads : (w : Wrap) (p : Piece) (f : GrammarState) (d : Draft)
      → InRight ts (Some p) (rights.TargetNamed w) d f → LeadsTo ts next (step f p)
      (if tests.is_open_bracket p then Some (places.InRight (rights.RightOpened w)) else None) d
  target_named_leads w p f d k = rw k.1.0 (go p)
    where
      go : (p : Piece) → LeadsTo ts next (step (grammar_states.TargetNamed k.0) p)
          (if tests.is_open_bracket p then Some (places.InRight (rights.RightOpened w)) else None) d
      go (In inner.Open) = (k.0, (refl, k.1.1))
      go (In _) = tt
      go _ = tt

  -- after the arrow `Com_1` leads to the state before its bracket
  pub com_leads : (p : Piece) (f : GrammarState) (d : Draft) → InRight ts (Some p) rights.Arrowed d f
      → tests.is_word (codes "Com_1") p ≡ true → LeadsTo ts next (step f p) (Some (places.InRight rights.ComNamed)) d
  com_leads p f d k h = rw k.1.0 (go p h)
    where
      go : (p : Piece) → tests.is_word (codes "Com_1") p ≡ true
          → LeadsTo ts next (step (grammar_states.Arrowed k.0) p) (Some (places.InRight rights.ComNamed)) d
      go (In (inner.Word name)) h = rw h (k.0, (refl, k.1.1))
      go (In _) h = cc
      go _ h = cc

  aimed_known : (l : ArrowRead) (w : Wrap) (name : Name) (old new : Draft) → KnowsLeft ts l old → StaysBut old new
      → new.rule.name.now ≡ name → IsAimed ts w (record { led = l; wrap = wrap_of w; name = name }) new
  aimed_known l w name old new k s n = record {
    wrap_is = refl;
    aimed = record {
      led = arrow_kept ts l old new k.led s.sections s.rules s.source s.left s.cost;
      symbols = subst (KnowsSymbols (symbols_behind l)) (sym s.symbols) k.symbols;
      name_is = n;
      updates_are = ap (λ v. map term_of v.items) s.updates ∙ ap (map term_of) k.updates;
      guard = subst (λ g. (before : List Name) → IsWanting before no_atoms before g) (sym s.guard) k.guard;
    };
    names_are = ap names_in s.variables ∙ k.names_are;
    expression = subst (λ e. IsFresh e) (sym s.expression) k.expression;
  }

  -- after the arrow any other name is that of the target
  pub bare_leads : (p : Piece) (f : GrammarState) (old new : Draft) (name : Name)
      → InRight ts (Some p) rights.Arrowed old f → tests.is_word (codes "Com_1") p ≡ false → tests.word p ≡ Some name
      → StaysBut old new → new.rule.name.now ≡ name
      → LeadsTo ts next (step f p) (Some (places.InRight (rights.TargetNamed wraps.Alone))) new
  bare_leads p f old new name k h w s n = rw k.1.0 (go p h w)
    where
      go : (p : Piece) → tests.is_word (codes "Com_1") p ≡ false → tests.word p ≡ Some name
          → LeadsTo ts next (step (grammar_states.Arrowed k.0) p)
          (Some (places.InRight (rights.TargetNamed wraps.Alone))) new
      go (In (inner.Word m)) h w = rw h (
        record { led = k.0; wrap = grammar_states.Alone; name = m },
        (refl, aimed_known k.0 wraps.Alone m old new k.1.1 s (let same : name ≡ m = cc in n ∙ same)),
      )
      go (In _) h w = cc
      go _ h w = cc

  -- after the arrow only a name can follow
  pub arrowed_stops : (p : Piece) (f : GrammarState) (d : Draft) → InRight ts (Some p) rights.Arrowed d f
      → tests.word p ≡ None → LeadsTo ts next (step f p) None d
  arrowed_stops p f d k w = rw k.1.0 (go p w)
    where
      go : (p : Piece) → tests.word p ≡ None → LeadsTo ts next (step (grammar_states.Arrowed k.0) p) None d
      go (In (inner.Word m)) w = cc
      go (In _) w = tt
      go _ w = tt

  -- within `Com_1` a name is that of the target
  pub within_leads : (p : Piece) (f : GrammarState) (old new : Draft) (name : Name)
      → InRight ts (Some p) rights.ComOpened old f → tests.word p ≡ Some name → StaysBut old new
      → new.rule.name.now ≡ name
      → LeadsTo ts next (step f p) (Some (places.InRight (rights.TargetNamed wraps.InCom))) new
  within_leads p f old new name k w s n = rw k.1.0 (go p w)
    where
      go : (p : Piece) → tests.word p ≡ Some name → LeadsTo ts next (step (grammar_states.ComOpened k.0) p)
          (Some (places.InRight (rights.TargetNamed wraps.InCom))) new
      go (In (inner.Word m)) w = (
        record { led = k.0; wrap = grammar_states.InCom; name = m },
        (refl, aimed_known k.0 wraps.InCom m old new k.1.1 s (let same : name ≡ m = cc in n ∙ same)),
      )
      go (In _) w = cc
      go _ w = cc

  -- within `Com_1` only a name can follow
  pub within_stops : (p : Piece) (f : GrammarState) (d : Draft) → InRight ts (Some p) rights.ComOpened d f
      → tests.word p ≡ None → LeadsTo ts next (step f p) None d
  within_stops p f d k w = rw k.1.0 (go p w)
    where
      go : (p : Piece) → tests.word p ≡ None → LeadsTo ts next (step (grammar_states.ComOpened k.0) p) None d
      go (In (inner.Word m)) w = cc
      go (In _) w = tt
      go _ w = tt

  -- if an argument continues, the rest of the draft is unchanged
  goes_on_known : (w : Wrap) (a : Aimed) (arguments : List Sum) (e more : expression.GrammarState) (p : inner.Piece)
      (old new : Draft) → a.wrap ≡ wrap_of w → KnowsAimed ts a arguments old
      → RepresentsExpression (names_with a.led arguments) e (names_in old.rule.variables) old.rule.expression
      → expression_steps.step e p ≡ Some more → IsModest p → GoesOn old p new → IsArguing ts w a arguments more new
  goes_on_known w a arguments e more p old new wrap k s led modest g = record {
    wrap_is = wrap;
    aimed = record {
      led = arrow_kept ts a.led old new k.led g.sections g.rules g.stays.source g.stays.left g.stays.cost;
      symbols = subst (KnowsSymbols (symbols_behind a.led)) (sym g.symbols) k.symbols;
      name_is = ap (λ v. v.now) g.stays.name ∙ k.name_is;
      updates_are = ap (λ v. map term_of v.items) g.stays.updates ∙ k.updates_are;
      guard = subst (λ g. (before : List Name) → IsWanting before no_atoms before g) (sym g.stays.guard) k.guard;
    };
    expression = g.leads.each (names_with a.led arguments) e more s led modest;
  }

  -- the state after a piece within an argument that doesn't end before it
  pub argument_leads : (w : Wrap) (a : Aimed) (arguments : List Sum) (e : expression.GrammarState) (p : inner.Piece)
      (old new : Draft) (result : Option ParserState) → a.wrap ≡ wrap_of w → KnowsAimed ts a arguments old
      → RepresentsExpression (names_with a.led arguments) e (names_in old.rule.variables) old.rule.expression
      → (ends_expression e (Some (In p)) ≡ true → expression_steps.finish e ≡ None) → IsModest p
      → Takes (goes_on_with e p) (places.InRight (rights.Arguing w)) old p result new
      → LeadsTo ts next (argument_step a arguments e (expression_steps.step e p) p) result new
  argument_leads w a arguments e p old new result wrap k s stops modest t = go (expression_steps.step e p) refl t
    where
      go : (o : Option expression.GrammarState) → expression_steps.step e p ≡ o
          → Takes (is_state o) (places.InRight (rights.Arguing w)) old p result new
          → LeadsTo ts next (argument_step a arguments e o p) result new
      go (Some more) h t = rw t.0
          (a, (arguments, (more, (refl, goes_on_known w a arguments e more p old new wrap k s h modest t.1))))
      go None h t =
          let none : expression_steps.finish e ≡ None = stops
          (ap (λ (o : Option expression.GrammarState). not (is_state o)) h) in
          rw (none, t.0) tt

-- the length of a list with one more element
length-push : {X : Type 0} (xs : List X) (x : X) → length (xs ++ x ∷ []) ≡ suc (length xs)
length-push [] x = refl
length-push (y ∷ xs) x = ap suc (length-push xs x)

-- there are as many updates as right arguments
pub updates_count : (names : List Name) (arguments : List Sum) → length (updates_of names arguments) ≡ length arguments
updates_count names [] = refl
updates_count names (s ∷ earlier) = length-push (updates_of names earlier) _ ∙ ap suc (updates_count names earlier)

-- a mapped list has as many elements
pub length-terms : {X Y : Type 0} (f : X → Y) (xs : List X) → length (map f xs) ≡ length xs
length-terms f [] = refl
length-terms f (x ∷ xs) = ap suc (length-terms f xs)

module _ (ts : Tokens) (next : Option Piece) where
  -- the draft after a right term that has ended represents the target
  headed_known : (a : Aimed) (arguments : List Sum) (target : Target) (old new : Draft)
      → term_in target ≡ record { name = a.name; arguments = arguments } → KnowsAimed ts a arguments old
      → names_in old.rule.variables ≡ names_with a.led arguments → IsFresh old.rule.expression → AfterRight old new
      → IsHeaded ts (record { led = a.led; target = target }) new
  headed_known a arguments target old new t k names fresh h = record {
    headed = record {
      led = arrow_kept ts a.led old new k.led h.stays.sections h.stays.rules h.source h.left h.stays.cost;
      symbols = subst (λ (r : RightTerm). KnowsSymbols (with_right (symbols_behind a.led) r) new.symbols) (sym t)
          symbols;
      target_is = h.target ∙ (ap (λ n. position_of n (names_in old.symbols.names)) k.name_is
          ∙ (ap (position_of a.name) k.symbols.names ∙ (number_stays (symbols_behind a.led) a.name (length arguments)
          ∙ ap (λ (r : RightTerm). number_of (with_right (symbols_behind a.led) r) r.name) (sym t))));
      updates_are = ap (λ v. map term_of v.items) h.stays.updates
          ∙ (k.updates_are ∙ ap (λ (r : RightTerm). updates_of (arrow_names a.led.left a.led.cost) r.arguments)
          (sym t));
    };
    names_are = ap names_in h.stays.variables ∙ (names ∙ ap (λ (r : RightTerm). names_with a.led r.arguments) (sym t));
    expression = subst (λ e. IsFresh e) (sym h.stays.expression) fresh;
    guard = subst (λ g. (before : List Name) → IsWanting before no_atoms before g) (sym h.stays.guard) k.guard;
  }
    where
      count : length old.rule.updates.items ≡ length arguments
      count = sym (length-terms term_of old.rule.updates.items)
          ∙ (ap length k.updates_are ∙ updates_count (arrow_names a.led.left a.led.cost) arguments)

      symbols : KnowsSymbols (with_symbol (symbols_behind a.led) a.name (length arguments)) new.symbols
      symbols = symbols_with (symbols_behind a.led) a.name (length arguments) old.symbols new.symbols k.symbols
          (h.numbered.names ∙ ap (with_name (names_in old.symbols.names)) k.name_is)
          (subst (λ (n : Name). new.symbols.arities.items
          ≡ (if nat_lt (position_of n (names_in old.symbols.names)) (length old.symbols.arities.items) then
          old.symbols.arities.items else old.symbols.arities.items ++ length arguments ∷ [])) k.name_is
          (subst (λ (m : ℕ). new.symbols.arities.items
          ≡ (if nat_lt (position_of old.rule.name.now (names_in old.symbols.names))
          (length old.symbols.arities.items) then old.symbols.arities.items else old.symbols.arities.items ++ m
          ∷ [])) count h.numbered.arities))

  -- the code's test whether a right term has another number of arguments than its symbol has places
  right_differs : (a : Aimed) (arguments : List Sum) (target : Target) (old new : Draft)
      → term_in target ≡ record { name = a.name; arguments = arguments } → KnowsAimed ts a arguments old
      → (h : AfterRight old new)
      → IsHeaded ts (record { led = a.led; target = target }) new
      → new.rule.differs ≡ other_arity (with_right (symbols_behind a.led) (term_in target)) (term_in target).name
      (length (term_in target).arguments)
  right_differs a arguments target old new t k h headed =
      h.differs
      ∙ (ap (λ n. not (get_or new.symbols.arities.items new.rule.target 0 == n)) count
      ∙ (ap (λ xs. not (get_or xs new.rule.target 0 == length (term_in target).arguments)) headed.headed.symbols.arities
      ∙ (ap (λ n. not (get_or (map (λ (x : Symbol). x.arity) (with_right (symbols_behind a.led) (term_in target))) n 0
      == length (term_in target).arguments)) headed.headed.target_is
      ∙ ap (λ n. not (n == length (term_in target).arguments))
      (arity_at (with_right (symbols_behind a.led) (term_in target)) (term_in target).name))))
    where
      count : length old.rule.updates.items ≡ length (term_in target).arguments
      count = sym (length-terms term_of old.rule.updates.items)
          ∙ (ap length k.updates_are
          ∙ (updates_count (arrow_names a.led.left a.led.cost) arguments
          ∙ ap (λ (r : RightTerm). length r.arguments) (sym t)))

  right_ends : (w : Wrap) (a : Aimed) (arguments : List Sum) (old new : Draft) → a.wrap ≡ wrap_of w
      → KnowsAimed ts a arguments old → names_in old.rule.variables ≡ names_with a.led arguments
      → IsFresh old.rule.expression
      → AfterRight old new → LeadsTo ts next (Some (right_closed a arguments)) (Some (behind_wrap w)) new
  right_ends wraps.InCom a arguments old new e k names fresh h =
      let headed = headed_known a arguments (Marked (record { name = a.name; arguments = arguments })) old new refl k
      names fresh h in
      rw e (
        a.led,
        (
          record { name = a.name; arguments = arguments },
          (
            refl,
            (
              headed,
              right_differs a arguments (Marked (record { name = a.name; arguments = arguments })) old new
                  refl k h headed,
            ),
          ),
        ),
      )
  right_ends wraps.Alone a arguments old new e k names fresh h =
      let headed = headed_known a arguments (Bare (record { name = a.name; arguments = arguments })) old new refl k
      names fresh h in
      rw e (
        record { led = a.led; target = Bare (record { name = a.name; arguments = arguments }) },
        (
          refl,
          (
            headed,
            right_differs a arguments (Bare (record { name = a.name; arguments = arguments })) old new
                refl k h headed,
          ),
        ),
      )

  -- a closing bracket right after the opening one ends a right term without arguments
  pub opened_right_ends : (w : Wrap) (p : Piece) (f : GrammarState) (old new : Draft)
      → RightPartEnded ts (Some p) (rights.RightOpened w) old f → tests.is_close_bracket p ≡ true → AfterRight old new
      → LeadsTo ts next (step f p) (Some (behind_wrap w)) new
  opened_right_ends w p f old new k c h = rw k.1.0 (go p c)
    where
      go : (p : Piece) → tests.is_close_bracket p ≡ true → LeadsTo ts next (step (grammar_states.RightOpened k.0) p)
          (Some (behind_wrap w)) new
      go (In inner.Close) c = right_ends w k.0 [] old new k.1.1.wrap_is k.1.1.aimed k.1.1.names_are k.1.1.expression h
      go (In _) c = cc
      go _ c = cc

  -- a closing bracket after an argument that has ended ends the right term
  pub argued_ends : (w : Wrap) (p : Piece) (f : GrammarState) (old new : Draft)
      → RightPartEnded ts (Some p) (rights.Argued w) old f → tests.is_close_bracket p ≡ true → AfterRight old new
      → LeadsTo ts next (step f p) (Some (behind_wrap w)) new
  argued_ends w p f old new k c h = rw k.1.1.1.1.0 (go p c k.1.1.1.1.1.ends)
    where
      known : IsArgued ts (Some p) w k.0 k.1.0 k.1.1.0 k.1.1.1.0 old
      known = k.1.1.1.1.1

      go : (p : Piece) → tests.is_close_bracket p ≡ true → ends_expression k.1.1.0 (Some p) ≡ true
          → LeadsTo ts next (step (grammar_states.Arguing k.0 k.1.0 k.1.1.0) p) (Some (behind_wrap w)) new
      go (In inner.Close) c ends = stopped (expression_steps.step k.1.1.0 inner.Close) ends
        where
          stopped : (o : Option expression.GrammarState) → not (is_state o) ≡ true
              → LeadsTo ts next (argument_step k.0 k.1.0 k.1.1.0 o inner.Close) (Some (behind_wrap w)) new
          stopped (Some more) n = cc
          stopped None n = rw known.finish_is
              (right_ends w k.0 (k.1.1.1.0 ∷ k.1.0) old new known.wrap_is known.aimed known.names_are known.expression
              h)
      go (In _) c ends = cc
      go _ c ends = cc

  -- a comma after an argument leads to the next one
  pub argued_parts : (w : Wrap) (p : Piece) (f : GrammarState) (d : Draft)
      → RightPartEnded ts (Some p) (rights.Argued w) d f → tests.is_close_bracket p ≡ false
      → LeadsTo ts next (step f p) (if tests.is_comma p then Some (places.InRight (rights.Arguing w)) else None) d
  argued_parts w p f d k c = rw k.1.1.1.1.0 (go p c k.1.1.1.1.1.ends)
    where
      known : IsArgued ts (Some p) w k.0 k.1.0 k.1.1.0 k.1.1.1.0 d
      known = k.1.1.1.1.1

      stopped : (q : inner.Piece) → tests.is_close_bracket (In q) ≡ false → (o : Option expression.GrammarState)
          → not (is_state o) ≡ true → LeadsTo ts next (argument_step k.0 k.1.0 k.1.1.0 o q) None d
      stopped q c (Some more) n = cc
      stopped inner.Close c None n = cc
      stopped q c None n = rw known.finish_is tt

      go : (p : Piece) → tests.is_close_bracket p ≡ false → ends_expression k.1.1.0 (Some p) ≡ true
          → LeadsTo ts next (step (grammar_states.Arguing k.0 k.1.0 k.1.1.0) p)
          (if tests.is_comma p then Some (places.InRight (rights.Arguing w)) else None) d
      go (In q) c ends = stopped q c (expression_steps.step k.1.1.0 q) ends
      go Comma c ends = rw known.finish_is (
        k.0,
        (
          k.1.1.1.0 ∷ k.1.0,
          (
            expression.beginning,
            (
              refl,
              record {
                wrap_is = known.wrap_is;
                aimed = known.aimed;
                expression = subst (λ (b : List Name). RepresentsExpression b expression.beginning
                    (names_in d.rule.variables) d.rule.expression) known.names_are
                    (fresh_stands (names_in d.rule.variables) d.rule.expression known.expression);
              },
            ),
          ),
        ),
      )
      go _ c ends = tt

  -- the bracket that closes `Com_1(` ends the target
  pub com_ends : (p : Piece) (f : GrammarState) (old new : Draft) → RightPartEnded ts (Some p) rights.TargetClosed old f
      → tests.is_close_bracket p ≡ true → new ≡ record old { rule = record old.rule { differs = false } }
      → LeadsTo ts next (step f p) (Some (places.InTail tails.Targeted)) new
  com_ends p f old new k c e = rw (k.1.1.0, e) (go p c)
    where
      known : IsHeaded ts (record { led = k.0; target = Marked k.1.0 }) old
      known = k.1.1.1.0

      go : (p : Piece) → tests.is_close_bracket p ≡ true → LeadsTo ts next
          (step (grammar_states.TargetClosed k.0 k.1.0) p) (Some (places.InTail tails.Targeted))
          (record old { rule = record old.rule { differs = false } })
      go (In inner.Close) c = (
        record { led = k.0; target = Marked k.1.0 },
        (
          refl,
          (
            record {
              headed = record {
                led = arrow_kept ts k.0 old (record old { rule = record old.rule { differs = false } }) known.headed.led
                    refl refl refl refl refl;
                symbols = known.headed.symbols;
                target_is = known.headed.target_is;
                updates_are = known.headed.updates_are;
              };
              names_are = known.names_are;
              expression = known.expression;
              guard = known.guard;
            },
            refl,
          ),
        ),
      )
      go (In _) c = cc
      go _ c = cc

  -- after the right term in `Com_1` only the closing bracket can follow
  pub com_stops : (p : Piece) (f : GrammarState) (d : Draft) → RightPartEnded ts (Some p) rights.TargetClosed d f
      → tests.is_close_bracket p ≡ false → LeadsTo ts next (step f p) None d
  com_stops p f d k c = rw k.1.1.0 (go p c)
    where
      go : (p : Piece) → tests.is_close_bracket p ≡ false → LeadsTo ts next
          (step (grammar_states.TargetClosed k.0 k.1.0) p) None d
      go (In inner.Close) c = cc
      go (In _) c = tt
      go _ c = tt
