-- An expression ends in the code exactly if the written one ends, and the fault at its last byte is found.
use Rattle.std.specs.Prelude.{◌≡◌, ℕ, Bool, true, false, not, ◌&&◌, if◌then◌else◌, is_some, List, [], Option, Some}
use Rattle.std.specs.Prelude.{None}
use Rattle.std.specs.Prelude.{refl}
use Rattle.std.proofs.Common.{sym, ap, ◌∙◌}
use Rattle.std.proofs.lemmas.Bool.{and_parts as both}
use Rattle.model.specs.Programs.{Name}
use Rattle.model.specs.Terms.{Term}
use Rattle.poly_terms.specs.Faults.{first_fault}
use Rattle.its_text.specs.expr_text.Trees.{Sum}
use Rattle.its_text.specs.expr_text.Terms.{with_sum, sum_term}
use Rattle.its_text.specs.expr_text.GrammarStates as expression
use Rattle.its_text.specs.expr_text.Steps as expression_steps
use Rattle.its_text.specs.expr_text.TermGrammarStates.{limited}
use Rattle.its_text.proofs.expr_text.LimitedFaults.{limited_fault}
use Rattle.expr_reader.specs.Standing.{RepresentsExpression, Ends}
use Rattle.expr_reader.specs.GuardParts.{can_end, goes_on}
use Rattle.expr_reader.specs.declared.expression.Expression.{Expression}
use Rattle.expr_reader.proofs.Endings.{goes_on_is, can_end_is, finished_names}
use Rattle.its_text.specs.Pieces.{Piece, In}
use Rattle.its_text.specs.StateFaults.{expansion_faults, argument_faults, ends_expression}
use Rattle.its_reader.specs.Tests.{inner_next}
use Rattle.its_reader.specs.PartEnds.{ends_in}

a_sum : (o : Option Sum) → is_some o ≡ true → (s : Sum) × (o ≡ Some s)
a_sum None h = cc
a_sum (Some s) h = (s, refl)

no_sum : (o : Option Sum) → is_some o ≡ false → o ≡ None
no_sum None h = refl
no_sum (Some s) h = cc

first_false : (a b : Bool) → a && b ≡ false → b ≡ true → a ≡ false
first_false true b e t = cc
first_false false b e t = refl

-- whether an expression ends before the next piece, by a test
abbrev pub EndsBy : Bool → expression.GrammarState → Option Piece → Type 0
EndsBy true e next = (s : Sum) × ((expression_steps.finish e ≡ Some s) × (ends_expression e next ≡ true))
EndsBy false e next = ends_expression e next ≡ true → expression_steps.finish e ≡ None

module _ (before : List Name) (e : expression.GrammarState) (names : List Name) (x : Expression)
    (k : RepresentsExpression before e names x) where
  -- the code's test agrees with the written expression
  ends_is : (next : Option Piece) → not (goes_on x (inner_next next)) ≡ ends_expression e next
  ends_is None = refl
  ends_is (Some (In p)) = ap not (goes_on_is before e names x p k)
  ends_is (Some _) = refl

  -- if the code's expression ends before the next piece, so does the written one
  pub ends_by : (next : Option Piece) (v : Bool) → ends_in x (inner_next next) ≡ v → EndsBy v e next
  ends_by next true t =
      let b = both (can_end x) (not (goes_on x (inner_next next))) t in
      let s = a_sum (expression_steps.finish e) (sym (can_end_is before e names x k) ∙ b.0) in
      (s.0, (s.1, sym (ends_is next) ∙ b.1))
  ends_by next false t = λ ends. no_sum (expression_steps.finish e)
      (sym (can_end_is before e names x k) ∙ first_false (can_end x) (not (goes_on x (inner_next next))) t
      (ends_is next ∙ ends))

  module _ (s : Sum) (finish : expression_steps.finish e ≡ Some s) where
    -- the variables once an expression has ended
    pub ended_names : names ≡ with_sum before s
    ended_names = k.names_are ∙ finished_names before e s finish

    -- the term of the code's expression is that of the written one
    pub made_is : (made : Term) → Ends x made → made ≡ limited (sum_term (with_sum before s) s)
    made_is made h = h.each before names e s k finish ∙ ap (λ ns. limited (sum_term ns s)) ended_names

    -- the fault that prevents its expansion is shown at its last byte
    pub ended_found : (at : ℕ) (next : Option Piece) (made : Term) → Ends x made → ends_expression e next ≡ true
        → expansion_faults at (first_fault made)
        ≡ (if ends_expression e next then argument_faults at before (expression_steps.finish e) else [])
    ended_found at next made h ends =
        ap (λ t. expansion_faults at (first_fault t)) (made_is made h)
        ∙ (ap (expansion_faults at) (limited_fault (sum_term (with_sum before s) s))
        ∙ (ap (argument_faults at before) (sym finish)
        ∙ ap (λ v. if v then argument_faults at before (expression_steps.finish e) else []) (sym ends)))

-- an expression that continues shows no fault
pub going_silent : (at : ℕ) (before : List Name) (e : expression.GrammarState) (next : Option Piece)
    → (ends_expression e next ≡ true → expression_steps.finish e ≡ None)
    → [] ≡ (if ends_expression e next then argument_faults at before (expression_steps.finish e) else [])
going_silent at before e next h = go (ends_expression e next) h
  where
    go : (v : Bool) → (v ≡ true → expression_steps.finish e ≡ None)
        → [] ≡ (if v then argument_faults at before (expression_steps.finish e) else [])
    go true h = ap (argument_faults at before) (sym (h refl))
    go false h = refl
