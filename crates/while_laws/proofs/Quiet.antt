-- What is known of a token that is read without a fault.
use Rattle.std.proofs.Common.{◌≡◌, ℕ, ◌<◌, ◌≤◌, ◌+◌, Bool, true, false, not, ◌&&◌, ◌||◌, List, [], ◌∷◌, ◌++◌, min}
use Rattle.std.proofs.Common.{Option, Some, None, is_some, refl, sym, ap, ◌∙◌, arith}
use Rattle.std.specs.Prelude.{nat_le, nat_lt}
use Rattle.std.proofs.lemmas.Bool.Decides.{nat_tests}
use Rattle.text_core.specs.Names.{is_among}
use Rattle.expr_text.specs.Terms.{number_of}
use Rattle.while_text.specs.model.Limits.{coefficient_limit, token_limit}
use Rattle.while_text.specs.model.Programs.{Name}
use Rattle.while_text.specs.declared.kind.Kind.{Kind}
use Rattle.while_text.specs.declared.phase.Phase.{Phase}
use Rattle.while_text.specs.declared.phase.Standing.{Standing}
use Rattle.while_text.specs.declared.phase.Standing.TheVariants.{Sound, Faulty, Settled}
use Rattle.while_text.specs.declared.piece.Piece.{Piece}
use Rattle.while_text.specs.declared.piece.Sort.{Sort}
use Rattle.while_text.specs.declared.piece.Sort.TheVariants as sorts
use Rattle.while_text.specs.Courses.{course_after, is_in_test, is_in_expression}
use Rattle.while_text.specs.Drafts.{bytes_of}
use Rattle.while_text.specs.Faults.{fault_of_first, fault_of_last, fault_of_rules, fault_of_name, fault_of_token}
use Rattle.while_text.specs.Faults.{fault_of_count}
use Rattle.while_text.specs.Faults.{is_name, is_large, is_in_sums, is_inputs}
use Rattle.while_text.specs.Reading.{State, read, has_fault, standing_after}
use Rattle.while_text.proofs.ReadableDrafts.{or_none, when_none, clear}
use Rattle.while_text.proofs.SilentReading.{HasNone, sound_after, read_sound}
use Rattle.while_laws.specs.Values.{read_all}
use Rattle.while_laws.proofs.Sorts.{IsWritten, IsKnown}
use Rattle.while_laws.proofs.TokenFacts.{IsCounted}

-- There is no fault after a token only if there was none before it and it has none.
sound_before : (v : Standing) (fault in_test : Bool) → standing_after v fault in_test ≡ Sound
    → (v ≡ Sound) × (fault ≡ false)
sound_before Sound false in_test e = (refl, refl)
sound_before Sound true true e = cc
sound_before Sound true false e = cc
sound_before Faulty fault true e = cc
sound_before Faulty fault false e = cc
sound_before Settled fault in_test e = cc

no_fault : (a b c : Option Kind) → is_some a || (is_some b || is_some c) ≡ false → (a ≡ None) × (b ≡ None) × (c ≡ None)
no_fault None None None e = (refl, refl, refl)
no_fault None None (Some c) e = cc
no_fault None (Some b) c e = cc
no_fault (Some a) b c e = cc

pub record IsQuiet (text : List ℕ) (p : Piece) (s : State) : Type 0 where
  pub before : s.standing ≡ Sound
  pub none : HasNone text p s
  pub after : read text p s ≡ sound_after text p s

pub quiet : (text : List ℕ) (p : Piece) (s : State) → (read text p s).standing ≡ Sound → IsQuiet text p s
quiet text p s e =
    let b = sound_before s.standing (has_fault text p s) (is_in_test (course_after p s.course).phase) e in
    let f = no_fault (fault_of_first text p s.course s.draft) (fault_of_last text p s.course s.draft)
    (fault_of_rules p s.course) b.1 in
    let n : HasNone text p s = record { first = f.0; last = f.1; rules = f.2 } in
    record { before = b.0; none = n; after = read_sound text p s b.0 n }

-- If there is no fault after tokens, there was none before them.
pub quiet_before : (text : List ℕ) (ps : List Piece) (s : State) → (read_all text s ps).standing ≡ Sound
    → s.standing ≡ Sound
quiet_before text [] s e = e
quiet_before text (p ∷ ps) s e = (quiet text p s (quiet_before text ps (read text p s) e)).before

pub read_append : (text : List ℕ) (ps qs : List Piece) (s : State)
    → read_all text s (ps ++ qs) ≡ read_all text (read_all text s ps) qs
read_append text [] qs s = refl
read_append text (p ∷ ps) qs s = read_append text ps qs (read text p s)

-- Whether an expression is being read in this part of a text.
abbrev pub IsExpression : Phase → Type 0
IsExpression phase = (is_in_expression phase ≡ true) × (is_inputs phase ≡ false)

-- The limits that hold for a token of an expression without a fault.
pub record IsWithin (text : List ℕ) (p : Piece) (s : State) : Type 0 where
  pub small : is_large p.sort ≡ false
  pub few : s.course.tokens < token_limit
  pub known : IsKnown s.draft.names p.sort (bytes_of text p)

pub known_by : (sort : Sort) (bytes : List ℕ) (names : List Name)
    → (is_name sort && true && not (is_among bytes names)) ≡ false → IsKnown names sort bytes
known_by sorts.Name bytes names e = go (is_among bytes names) e
  where
    go : (v : Bool) → (true && true && not v) ≡ false → v ≡ true
    go true h = refl
    go false h = cc
known_by sort bytes names e = tt

pub few_by : (m n : ℕ) → nat_le m n ≡ false → n < m
few_by m n h = grind (arith, nat_tests, h)

pub within : (text : List ℕ) (p : Piece) (s : State) → HasNone text p s → IsExpression s.course.phase
    → is_in_sums p.sort ≡ true → IsWithin text p s
within text p s h (v, w) i =
    let a = or_none _ _ h.first in
    let b = or_none (fault_of_name text p s.course s.draft) _ a.1 in
    let e = or_none (fault_of_token p s.course s.draft) (fault_of_count p s.course s.draft) b.1 in
    let t = or_none _ _ e.0 in
    record {
      small = when_none _ _ a.0;
      few = few_by token_limit s.course.tokens (count (when_none _ _ t.0));
      known = known_by p.sort (bytes_of text p) s.draft.names (names (clear text p s.course s.draft h.first).unknown);
    }
  where
    count : ((is_in_expression s.course.phase && is_in_sums p.sort) && nat_le token_limit s.course.tokens) ≡ false
        → nat_le token_limit s.course.tokens ≡ false
    count k =
        sym (ap (λ (x : Bool). (x && is_in_sums p.sort) && nat_le token_limit s.course.tokens) v
        ∙ ap (λ (x : Bool). x && nat_le token_limit s.course.tokens) i) ∙ k

    names : (is_name p.sort && not (is_inputs s.course.phase) && not (is_among (bytes_of text p) s.draft.names)) ≡ false
        → (is_name p.sort && true && not (is_among (bytes_of text p) s.draft.names)) ≡ false
    names k =
        sym (ap (λ (x : Bool). is_name p.sort && not x && not (is_among (bytes_of text p) s.draft.names)) w) ∙ k

-- A number within the limit is the one that its digits write.
within_limit : (n m : ℕ) → n ≡ min m (coefficient_limit + 1) → nat_lt coefficient_limit n ≡ false
    → (n ≡ m) × (n ≤ coefficient_limit)
within_limit n m e h = let low = at_most coefficient_limit n h in (omega (arith, e, low), low)
  where
    at_most : (m n : ℕ) → nat_lt m n ≡ false → n ≤ m
    at_most m n k = grind (arith, nat_tests, k)

pub written_by : (sort : Sort) (bytes : List ℕ) → IsCounted sort bytes → is_large sort ≡ false → IsWritten sort bytes
written_by (sorts.Number n) bytes c h =
    let w = within_limit n (number_of bytes) c.0 h in (w.0, c.1, w.1)
written_by sort bytes c h = tt
