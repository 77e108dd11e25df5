-- Keeping the first of several faults, one list after the other, keeps the first of all; and the tests of the code
-- agree with those of the written text.
use Rattle.std.specs.Prelude.{◌≡◌, ℕ, is_some, List, [], ◌∷◌, ◌++◌, Option, Some, None, refl}
use Rattle.std.proofs.Common.{sym, ap, ◌∙◌, append-nil}
use Rattle.model.specs.Programs.{Name}
use Rattle.text_core.specs.Readers.{Fault}
use Rattle.text_core.specs.Reading.{first_of, first_among}
use Rattle.its_text.specs.expr_text.Pieces as inner
use Rattle.its_text.specs.Kinds.{Kind, RepeatedSection, Limit, LongName}
use Rattle.its_text.specs.Pieces.{Piece, In}
use Rattle.its_text.specs.Grammar.{programs}
use Rattle.its_text.specs.Written.{Section, Goal, Start, Variables, Rules, Comment}
use Rattle.its_text.specs.GrammarStates as grammar_states
use Rattle.its_text.specs.GrammarStates.{GrammarState}
use Rattle.its_text.specs.StateFaults.{Tokens, FaultList, fault_if, long_name, next_faults, last_faults, has, is_start}
use Rattle.its_text.specs.StateFaults.{repeats, has_named}
use Rattle.its_reader.specs.Tests as tests
use Rattle.its_reader.specs.FaultTests.{is_long, has_word, repeats_in}
use Rattle.its_reader.specs.Standing.{KnowsSections, started, started_of}
use Rattle.its_reader.specs.Places.{InSections}
use Rattle.its_reader.specs.declared.draft.Draft.{Draft}
use Rattle.its_reader.specs.declared.draft.Sections.{Sections}
use Rattle.its_reader.specs.declared.draft.Start as code
use Rattle.its_reader.specs.declared.parser_state.SectionState.{SectionState}
use Rattle.its_reader.specs.declared.parser_state.SectionState.TheVariants as sections

-- the first fault of one list and then of another is the first of both lists
pub both_first_fault : (best : Option (Fault Kind)) (xs ys : FaultList)
    → first_among programs best (xs ++ ys) ≡ first_among programs (first_among programs best xs) ys
both_first_fault best [] ys = refl
both_first_fault best (x ∷ xs) ys = both_first_fault (Some (first_of programs best x)) xs ys

-- the first fault of three lists, taken one after the other, is the first of all
pub three_first_fault : (best one two three : Option (Fault Kind)) (xs ys zs : FaultList)
    → one ≡ first_among programs best xs → two ≡ first_among programs one ys → three ≡ first_among programs two zs
    → three ≡ first_among programs best (xs ++ ys ++ zs)
three_first_fault best one two three xs ys zs a b c =
    c ∙ (ap (λ o. first_among programs o zs)
    (b ∙ (ap (λ o. first_among programs o ys) a ∙ sym (both_first_fault best xs ys)))
    ∙ sym (both_first_fault best (xs ++ ys) zs))

-- the first fault of one more list after others is the first of all
pub one_more : (best one two : Option (Fault Kind)) (xs ys : FaultList) → one ≡ first_among programs best xs
    → two ≡ first_among programs one ys → two ≡ first_among programs best (xs ++ ys)
one_more best one two xs ys a b = b ∙ (ap (λ o. first_among programs o ys) a ∙ sym (both_first_fault best xs ys))

-- the first fault of four lists and one more, taken one after the other, is the first of all
pub four_first_fault : (best one two three four : Option (Fault Kind)) (xs ys zs ws : FaultList)
    → one ≡ first_among programs best xs → two ≡ first_among programs one ys → three ≡ first_among programs two zs
    → four ≡ first_among programs three ws
    → four ≡ first_among programs best (xs ++ ys ++ zs ++ ws)
four_first_fault best one two three four xs ys zs ws a b c d =
    one_more best three four (xs ++ ys ++ zs) ws (three_first_fault best one two three xs ys zs a b c) d

-- the first fault of a list after four others is the first of all five lists
pub one_more_behind : (best one two : Option (Fault Kind)) (xs ys zs ws vs : FaultList)
    → one ≡ first_among programs best (xs ++ ys ++ zs ++ ws) → two ≡ first_among programs one vs
    → two ≡ first_among programs best (xs ++ ys ++ zs ++ ws ++ vs)
one_more_behind best one two xs ys zs ws vs a b = one_more best one two (xs ++ ys ++ zs ++ ws) vs a b

-- the code's test for a name that is too long agrees with the written one
pub long_is : (o : Option Piece) → long_name o ≡ is_long (tests.word_of o)
long_is None = refl
long_is (Some (In (inner.Word name))) = refl
long_is (Some (In _)) = refl
long_is (Some _) = refl

start_is : (ts : Tokens) (ss : List Section) (o : Option code.Start) → started_of o ≡ started ts ss
    → is_some o ≡ has is_start ss
start_is ts ss o e = ends o ∙ (ap is_some e ∙ begins ss)
  where
    ends : (o : Option code.Start) → is_some o ≡ is_some (started_of o)
    ends None = refl
    ends (Some s) = refl

    begins : (ss : List Section) → is_some (started ts ss) ≡ has is_start ss
    begins [] = refl
    begins (Goal ∷ ss) = begins ss
    begins (Start name ∷ ss) = refl
    begins (Variables names ∷ ss) = begins ss
    begins (Rules rules ∷ ss) = begins ss
    begins (Comment bytes ∷ ss) = begins ss

word_is : (ts : Tokens) (ss : List Section) (s : Sections) → KnowsSections ts ss s → (name : Name)
    → has_named ss name ≡ has_word s name
word_is ts ss s k name = rw (k.goal, start_is ts ss s.start k.start, k.variables, k.rules) refl

repeats_is : (ts : Tokens) (ss : List Section) (s : Sections) → KnowsSections ts ss s → (next behind : Option Piece)
    → repeats ss next behind ≡ repeats_in sections.Between s next behind
repeats_is ts ss s k None behind = refl
repeats_is ts ss s k (Some (In inner.Open)) None = refl
repeats_is ts ss s k (Some (In inner.Open)) (Some (In (inner.Word name))) = word_is ts ss s k name
repeats_is ts ss s k (Some (In inner.Open)) (Some (In _)) = refl
repeats_is ts ss s k (Some (In inner.Open)) (Some _) = refl
repeats_is ts ss s k (Some (In _)) behind = refl
repeats_is ts ss s k (Some _) behind = refl

-- the faults of a state outside rules at the next token
module _ (ts : Tokens) (at : ℕ) (next behind : Option Piece) where
  between_shows : (ss : List Section) (s : Sections) → KnowsSections ts ss s
      → next_faults at (grammar_states.Between ss) next behind
      ≡ fault_if (repeats_in sections.Between s next behind) RepeatedSection at
      ++ fault_if (long_name next) (Limit LongName) at
  between_shows ss s k = simp append-nil
      (ap (λ v. fault_if v RepeatedSection at ++ fault_if (long_name next) (Limit LongName) at)
      (repeats_is ts ss s k next behind))

  -- at the next token a state outside rules shows a repeated section and a name that is too long
  pub section_shows : (state : SectionState) (d : Draft) (f : GrammarState) → InSections ts state d f
      → next_faults at f next behind ≡ fault_if (repeats_in state d.sections next behind) RepeatedSection at
      ++ fault_if (long_name next) (Limit LongName) at
  section_shows sections.Between d f k = rw k.1.0 (between_shows k.0 d.sections k.1.1.sections)
  section_shows sections.Opened d f k = rw k.1.0 (simp append-nil)
  section_shows sections.GoalNamed d f k = rw k.1.0 (simp append-nil)
  section_shows sections.GoalRead d f k = rw k.1.0 (simp append-nil)
  section_shows sections.StartNamed d f k = rw k.1.0 (simp append-nil)
  section_shows sections.StartOpened d f k = rw k.1.0 (simp append-nil)
  section_shows sections.StartListed d f k = rw k.1.0 (simp append-nil)
  section_shows sections.StartRead d f k = rw k.1.1.0 (simp append-nil)
  section_shows sections.StartClosed d f k = rw k.1.1.0 (simp append-nil)
  section_shows sections.Listing d f k = rw k.1.1.0 (simp append-nil)
  section_shows sections.CommentNamed d f k = rw k.1.0 (simp append-nil)

-- a state outside rules shows no fault at the last byte that was read
pub section_silent : (ts : Tokens) (at : ℕ) (next : Option Piece) (state : SectionState) (d : Draft) (f : GrammarState)
    → InSections ts state d f → last_faults at f next ≡ []
section_silent ts at next sections.Between d f k = rw k.1.0 refl
section_silent ts at next sections.Opened d f k = rw k.1.0 refl
section_silent ts at next sections.GoalNamed d f k = rw k.1.0 refl
section_silent ts at next sections.GoalRead d f k = rw k.1.0 refl
section_silent ts at next sections.StartNamed d f k = rw k.1.0 refl
section_silent ts at next sections.StartOpened d f k = rw k.1.0 refl
section_silent ts at next sections.StartListed d f k = rw k.1.0 refl
section_silent ts at next sections.StartRead d f k = rw k.1.1.0 refl
section_silent ts at next sections.StartClosed d f k = rw k.1.1.0 refl
section_silent ts at next sections.Listing d f k = rw k.1.1.0 refl
section_silent ts at next sections.CommentNamed d f k = rw k.1.0 refl
