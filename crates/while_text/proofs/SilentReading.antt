-- A text whose tokens have no fault is read token by token, and everything in it is built.
use Rattle.std.proofs.Common.{◌≡◌, ℕ, ◌-◌, List, [], ◌∷◌, ◌++◌, Bool, false, Option, Some, None, refl, sym, ap, subst, ◌∙◌}
use Rattle.std.specs.Prelude.{is_some, ⊤}
use Rattle.text_grammar.specs.text_core.Tokens.{Token, pieces}
use Rattle.text_grammar.specs.text_core.Readers.{Fault, onto}
use Rattle.text_grammar.specs.Folds.{refusals}
use Rattle.text_grammar.specs.Grammars.{Event, Read, Did}
use Rattle.text_grammar.specs.Silence.{read_in}
use Rattle.text_grammar.specs.Texts.{IsSilent}
use Rattle.while_text.specs.declared.kind.Kind.{Kind}
use Rattle.while_text.specs.declared.phase.Standing.{Standing}
use Rattle.while_text.specs.declared.phase.Standing.TheVariants.{Sound, Faulty, Settled}
use Rattle.while_text.specs.declared.piece.Piece.{Piece}
use Rattle.while_text.specs.Courses.{Course, course_after, is_in_test}
use Rattle.while_text.specs.Drafts.{Draft, draft_after}
use Rattle.while_text.specs.Faults.{fault_of_first, fault_of_last, fault_of_rules}
use Rattle.while_text.specs.Reading.{State, state, read, faults_of, has_fault, standing_after, draft_made, while_text}

-- The token has no fault at all.
pub record HasNone (text : List ℕ) (p : Piece) (s : State) : Type 0 where
  pub first : fault_of_first text p s.course s.draft ≡ None
  pub last : fault_of_last text p s.course s.draft ≡ None
  pub rules : fault_of_rules p s.course ≡ None

-- If a token of a text without a fault reports none, it has none.
pub none_shown : (text : List ℕ) (s : State) (t : Token Piece) → faults_of Sound text s t ≡ []
    → HasNone text t.piece s
none_shown text s t h =
    let w = go (fault_of_first text t.piece s.course s.draft) (fault_of_last text t.piece s.course s.draft)
    (fault_of_rules t.piece s.course) t.at (t.upto - 1) s.course.at h in
    record { first = w.0; last = w.1; rules = w.2 }
  where
    go : (a b c : Option Kind) (i j k : ℕ) → refusals a i ++ (refusals b j ++ refusals c k) ≡ []
        → (a ≡ None) × (b ≡ None) × (c ≡ None)
    go None None None i j k e = (refl, refl, refl)
    go None None (Some c) i j k e = cc
    go None (Some b) c i j k e = cc
    go (Some a) b c i j k e = cc

-- A token without a fault leaves the text without one, and its effect is built.
abbrev pub sound_after : List ℕ → Piece → State → State
sound_after text p s = record {
  course = course_after p s.course;
  draft = draft_after text p s.course s.draft;
  standing = Sound;
}

pub read_sound : (text : List ℕ) (p : Piece) (s : State) → s.standing ≡ Sound → HasNone text p s
    → read text p s ≡ sound_after text p s
read_sound text p s e h = go s.standing e
  where
    silent : has_fault text p s ≡ false
    silent = rw (h.first, h.last, h.rules) refl

    go : (v : Standing) → v ≡ Sound → record {
      course = course_after p s.course;
      draft = draft_made v text p s.course s.draft;
      standing = standing_after v (has_fault text p s) (is_in_test (course_after p s.course).phase);
    } ≡ sound_after text p s
    go Sound f = ap (λ (b : Bool). record {
      course = course_after p s.course;
      draft = draft_after text p s.course s.draft;
      standing = standing_after Sound b (is_in_test (course_after p s.course).phase);
    }) silent
    go Faulty f = cc
    go Settled f = cc

-- The state after events without a fault, in order.
abbrev pub after_all : List ℕ → State → List (Event Piece) → State
after_all text s [] = s
after_all text s (Read p ∷ es) = after_all text (sound_after text p s) es
after_all text s (Did m ∷ es) = after_all text s es

-- The predicate holds of all tokens that are read.
abbrev pub AllPieces : (Piece → Type 0) → List Piece → Type 0
AllPieces Fine [] = ⊤
AllPieces Fine (p ∷ ps) = Fine p × AllPieces Fine ps

-- Along events without a fault, the state is `after_all`, and a property that each token keeps is kept.
pub silent_along : (text : List ℕ) (Fine : Piece → Type 0) (Good : State → Type 0)
    → ((p : Piece) (s : State) → Fine p → Good s → HasNone text p s → Good (sound_after text p s))
    → (es before : List (Event Piece)) (ts : List (Token Piece)) → read_in es ≡ pieces ts
    → AllPieces Fine (pieces ts) → IsSilent (while_text text) before es ts → (state text before).standing ≡ Sound
    → Good (state text before)
    → (state text (onto es before) ≡ after_all text (state text before) es) × Good (state text (onto es before))
silent_along text Fine Good keeps [] before ts e f h v g = (refl, g)
silent_along text Fine Good keeps (Did m ∷ es) before ts e f h v g =
    silent_along text Fine Good keeps es (Did m ∷ before) ts e f h v g
silent_along text Fine Good keeps (Read p ∷ es) before [] e f h v g = cc
silent_along text Fine Good keeps (Read p ∷ es) before (t ∷ ts) e (fine, f) (shows, h) v g =
    go (silent_along text Fine Good keeps es (Read p ∷ before) ts (tails e) f h sound good)
  where
    heads : p ∷ read_in es ≡ t.piece ∷ pieces ts → p ≡ t.piece
    heads d = cc

    tails : p ∷ read_in es ≡ t.piece ∷ pieces ts → read_in es ≡ pieces ts
    tails d = cc

    nothing : HasNone text p (state text before)
    nothing = subst (λ (q : Piece). HasNone text q (state text before)) (sym (heads e))
        (none_shown text (state text before) t
        (subst (λ (w : Standing). faults_of w text (state text before) t ≡ []) v shows))

    step : read text p (state text before) ≡ sound_after text p (state text before)
    step = read_sound text p (state text before) v nothing

    sound : (state text (Read p ∷ before)).standing ≡ Sound
    sound = ap (λ (s : State). s.standing) step

    good : Good (state text (Read p ∷ before))
    good = subst Good (sym step) (keeps p (state text before)
        (subst Fine (sym (heads e)) fine) g nothing)

    go : (state text (onto es (Read p ∷ before)) ≡ after_all text (state text (Read p ∷ before)) es)
        × Good (state text (onto es (Read p ∷ before)))
        → (state text (onto es (Read p ∷ before)) ≡ after_all text (sound_after text p (state text before)) es)
        × Good (state text (onto es (Read p ∷ before)))
    go (same, k) = (same ∙ ap (λ (s : State). after_all text s es) step, k)
