-- The code finds exactly the faults of a left term at the next token.
use Rattle.std.specs.Prelude.{◌≡◌, ℕ, suc, Bool, true, false, ◌&&◌, ◌||◌, nat_le, List, [], ◌∷◌, ◌++◌, map, length}
use Rattle.std.specs.Prelude.{reverse, Option, Some, None, refl}
use Rattle.std.proofs.Common.{sym, ap, ◌∙◌, append-nil, inl, inr}
use Rattle.std.proofs.lemmas.List.{length-reverse}
use Rattle.std.proofs.lemmas.Grind.{reverse_onto}
use Rattle.model.specs.Programs.{Name}
use Rattle.model.specs.Limits.{rule_limit, place_limit}
use Rattle.its_model.specs.Views.{rule_of}
use Rattle.text_core.specs.Names.{is_same, is_among}
use Rattle.its_text.specs.expr_text.Pieces as inner
use Rattle.expr_reader.specs.Variables.{names_in}
use Rattle.its_text.specs.Pieces.{Piece, In}
use Rattle.its_text.specs.Written.{WrittenRule}
use Rattle.its_text.specs.Kinds.{LeftNotVariable, LeftRepeated, Limit, TooManyRules, TooManyArguments, LongName}
use Rattle.its_text.specs.GrammarStates.{GrammarState}
use Rattle.its_text.specs.StateFaults.{Tokens, fault_if, long_name, is_word, is_operator, left_of, next_faults}
use Rattle.its_reader.specs.Tests as tests
use Rattle.its_reader.specs.Standing.{rules_so_far}
use Rattle.its_reader.specs.Places.{InLeft, IsSource}
use Rattle.its_reader.specs.FaultTests.{left_argument_name_faults, left_faults}
use Rattle.its_reader.specs.declared.parser_state.SourceState.{SourceState}
use Rattle.its_reader.specs.declared.parser_state.SourceState.TheVariants as lefts
use Rattle.its_reader.specs.declared.draft.RuleDraft.{RuleDraft}
use Rattle.its_reader.specs.declared.draft.Draft.{Draft}

-- the length of a list with one more element
pub length-push : {X : Type 0} (xs : List X) (x : X) → length (xs ++ x ∷ []) ≡ suc (length xs)
length-push [] x = refl
length-push (y ∷ xs) x = ap suc (length-push xs x)

-- a mapped list has as many elements
pub length-terms : {X Y : Type 0} (f : X → Y) (xs : List X) → length (map f xs) ≡ length xs
length-terms f [] = refl
length-terms f (x ∷ xs) = ap suc (length-terms f xs)

rules_counted : (rules : List WrittenRule) → length (rules_so_far rules) ≡ length rules
rules_counted [] = refl
rules_counted (r ∷ earlier) = length-push (rules_so_far earlier) _ ∙ ap suc (rules_counted earlier)

-- the code has as many rules as have been written so far
pub as_many_rules : (rules : List WrittenRule) (d : Draft) → map rule_of d.rules.items ≡ rules_so_far rules
    → length d.rules.items ≡ length rules
as_many_rules rules d e = sym (length-terms rule_of d.rules.items) ∙ (ap length e ∙ rules_counted rules)

-- a disjunction doesn't depend on the order of its parts
swapped : (a b : Bool) → a || b ≡ b || a
swapped true true = refl
swapped true false = refl
swapped false true = refl
swapped false false = refl

grouped : (a b c : Bool) → a || (b || c) ≡ (a || b) || c
grouped true b c = refl
grouped false b c = refl

among_push : (m n : Name) (names : List Name) → is_among m (names ++ n ∷ []) ≡ (is_among m names || is_same m n)
among_push m n [] = swapped (is_same m n) false
among_push m n (k ∷ names) = ap (λ v. is_same m k || v) (among_push m n names)
    ∙ grouped (is_same m k) (is_among m names) (is_same m n)

among_reverse : (m : Name) (names : List Name) → is_among m (reverse names) ≡ is_among m names
among_reverse m [] = refl
among_reverse m (n ∷ names) =
    ap (is_among m) (reverse_onto names n [])
    ∙ (among_push m n (reverse names)
    ∙ (ap (λ v. v || is_same m n) (among_reverse m names) ∙ swapped (is_among m names) (is_same m n)))

-- the code finds the faults of a left argument
argument_is : (at : ℕ) (arguments : List Name) (r : RuleDraft) (next behind : Option Piece)
    → names_in r.variables ≡ reverse arguments → left_of at (Some arguments) next behind
    ≡ left_argument_name_faults r at (tests.word_of next) behind
argument_is at arguments r None behind e = refl
argument_is at arguments r (Some (In (inner.Word name))) behind e =
    ap (λ v. fault_if (is_operator behind) LeftNotVariable at ++ fault_if v LeftRepeated at
    ++ fault_if (nat_le place_limit (length arguments)) (Limit TooManyArguments) at)
    (sym (ap (is_among name) e ∙ among_reverse name arguments))
    ∙ ap (λ n. fault_if (is_operator behind) LeftNotVariable at
    ++ fault_if (is_among name (names_in r.variables)) LeftRepeated at
    ++ fault_if (nat_le place_limit n) (Limit TooManyArguments) at)
    (sym (ap length e ∙ length-reverse arguments))
argument_is at arguments r (Some (In _)) behind e = refl
argument_is at arguments r (Some _) behind e = refl

module _ (ts : Tokens) (at : ℕ) (next behind : Option Piece) (d : Draft) (f : GrammarState) where
  wanted_shows : (arguments : List Name) → names_in d.rule.variables ≡ reverse arguments
      → left_of at (Some arguments) next behind ++ fault_if (long_name next) (Limit LongName) at
      ≡ left_argument_name_faults d.rule at (tests.word_of next) behind
      ++ fault_if (long_name next) (Limit LongName) at
  wanted_shows arguments e = ap (λ xs. xs ++ fault_if (long_name next) (Limit LongName) at)
      (argument_is at arguments d.rule next behind e)

  -- the faults that the grammar's state shows in a left term at the next token are those that the code finds
  pub left_next : (state : SourceState) → InLeft ts next state d f
      → next_faults at f next behind ≡ left_faults state d at next behind
  left_next lefts.AfterRule k = rw k.1.0 (simp append-nil
      (ap (λ n. fault_if (is_word next && nat_le rule_limit n) (Limit TooManyRules) at
      ++ fault_if (long_name next) (Limit LongName) at) (sym (as_many_rules k.0.rules d k.1.1.0.rules.rules_are))))
  left_next lefts.SourceNamed k = either k.1.1.0
    where
      either : IsSource next k.0 k.1.0 f → next_faults at f next behind ≡ fault_if (long_name next) (Limit LongName) at
      either (inl e) = rw e (simp append-nil)
      either (inr (h, (e, (r, n)))) = rw (e, n) refl
  left_next lefts.LeftOpened k = rw k.1.1.0 (simp append-nil (wanted_shows [] k.1.1.1.arguments_are))
  left_next lefts.LeftParted k = rw k.1.1.1.1.0
      (simp append-nil (wanted_shows (k.1.1.0 ∷ k.1.1.1.0) k.1.1.1.1.1.arguments_are))
  left_next lefts.LeftRead k = rw k.1.1.1.1.0 (simp append-nil)
  left_next lefts.SourceClosed k = rw k.1.1.0 (simp append-nil)
