-- The tokens inside of values and tests, which leave the statements as they are.
use Rattle.std.proofs.Common.{◌≡◌, ℕ, Bool, true, false, cond, ◌&&◌, List, [], ◌∷◌, ◌++◌, refl}
use Rattle.std.proofs.Common.{sym, ap, subst, ◌∙◌, arith}
use Rattle.std.specs.Prelude.{⊤, not, ◌==◌}
use Rattle.text_grammar.specs.Grammars.{Event, Read, Did}
use Rattle.while_text.specs.while_model.Statements.{Statements, Skip}
use Rattle.while_text.specs.while_tree.Views.{Statement}
use Rattle.while_text.specs.declared.phase.Phase.{Phase}
use Rattle.while_text.specs.declared.phase.Phase.TheVariants as phases
use Rattle.while_text.specs.declared.piece.Sort.{Sort}
use Rattle.while_text.specs.declared.piece.Sort.TheVariants as sorts
use Rattle.while_text.specs.declared.piece.Piece.{Piece}
use Rattle.while_text.specs.Courses.{Course, is_relation, is_in_test, is_last, opens_block, course_after, after_phase}
use Rattle.while_text.specs.Courses.{after_left, after_right, after_test, after_value}
use Rattle.while_text.specs.Drafts.{Draft, block_opens}
use Rattle.while_text.specs.Drafts.{draft_after, made_in, made_of_left, made_of_right, made_of_test}
use Rattle.while_text.specs.Drafts.{made_of_value, made_of_left_side}
use Rattle.while_text.specs.Drafts.{no_state, term_of, with_token}
use Rattle.while_text.specs.Grammar.{class_of_sort}
use Rattle.while_text.specs.Reading.{State}
use Rattle.while_text.proofs.SilentReading.{after_all, sound_after}

-- Whether a class of tokens is neither `;` nor `{`.
abbrev pub is_inner : ℕ → Bool
is_inner c = not (c == 10) && not (c == 14)

-- All tokens that the events read have such classes.
abbrev pub AllInner : List (Event Piece) → Type 0
AllInner [] = ⊤
AllInner (Read p ∷ es) = (is_inner (class_of_sort p.sort) ≡ true) × AllInner es
AllInner (Did m ∷ es) = AllInner es

pub all_inner-append : (es fs : List (Event Piece)) → AllInner es → AllInner fs → AllInner (es ++ fs)
all_inner-append [] fs h k = k
all_inner-append (Read p ∷ es) fs (a, h) k = (a, all_inner-append es fs h k)
all_inner-append (Did m ∷ es) fs h k = all_inner-append es fs h k

-- The blocks, the statements and the kind of the next block are the same in both drafts.
pub record SameShape (d e : Draft) : Type 0 where
  pub blocks : d.blocks ≡ e.blocks
  pub body : d.body ≡ e.body
  pub opener : d.opener ≡ e.opener

pub same_shape : (d : Draft) → SameShape d d
same_shape d = record { blocks = refl; body = refl; opener = refl }

pub shape_then : (d e f : Draft) → SameShape d e → SameShape e f → SameShape d f
shape_then d e f h k = record { blocks = h.blocks ∙ k.blocks; body = h.body ∙ k.body; opener = h.opener ∙ k.opener }

-- A choice between two states in a test is in a test.
pub either_test : (v : Bool) (a b : Course) → is_in_test a.phase ≡ true → is_in_test b.phase ≡ true
    → is_in_test (cond v a b).phase ≡ true
either_test true a b h k = h
either_test false a b h k = k

pub either_shape : (v : Bool) (a b d : Draft) → SameShape a d → SameShape b d → SameShape (cond v a b) d
either_shape true a b d h k = h
either_shape false a b d h k = k

-- A token other than `{` keeps the shape in a test, and the test isn't left.
pub left_course : (sort : Sort) (c : Course) → is_in_test c.phase ≡ true → is_in_test (after_left sort c).phase ≡ true
left_course sorts.Input c t = t
left_course sorts.Skip c t = t
left_course sorts.While c t = t
left_course sorts.If c t = t
left_course sorts.Else c t = t
left_course sorts.Truth c t = refl
left_course sorts.Name c t = t
left_course (sorts.Number n) c t = t
left_course sorts.Becomes c t = t
left_course sorts.Question c t = t
left_course sorts.Semicolon c t = t
left_course sorts.Comma c t = t
left_course sorts.Open c t = t
left_course sorts.Close c t = t
left_course sorts.BlockOpen c t = t
left_course sorts.BlockClose c t = t
left_course sorts.Joint c t = t
left_course sorts.AtLeast c t = refl
left_course sorts.MoreThan c t = refl
left_course sorts.AtMost c t = refl
left_course sorts.LessThan c t = refl
left_course sorts.Equal c t = refl
left_course sorts.Plus c t = t
left_course sorts.Minus c t = t
left_course sorts.Times c t = t
left_course sorts.Caret c t = t
left_course sorts.Strange c t = t
left_course sorts.Wrong c t = t

pub left_side_shape : (text : List ℕ) (p : Piece) (d : Draft) → SameShape (made_of_left_side text p d) d
left_side_shape text p d =
    either_shape (is_relation p.sort) (record d { left = term_of d.grammar_state; grammar_state = no_state })
    (record d { grammar_state = with_token text p d }) d (record { blocks = refl; body = refl; opener = refl })
    (record { blocks = refl; body = refl; opener = refl })

pub left_shape : (sort : Sort) (text : List ℕ) (p : Piece) (d : Draft) → SameShape (made_of_left text p sort d) d
left_shape sorts.Truth text p d = record { blocks = refl; body = refl; opener = refl }
left_shape sort text p d = left_side_shape text p d

pub right_course : (p : Piece) (c : Course) → is_in_test c.phase ≡ true → is_in_test (after_right p c).phase ≡ true
right_course p c t = either_test (is_last p c) _ _ refl t

pub right_shape : (text : List ℕ) (p : Piece) (c : Course) (d : Draft) → SameShape (made_of_right text p c d) d
right_shape text p c d = either_shape (is_last p c) _ _ d (record { blocks = refl; body = refl; opener = refl })
    (record { blocks = refl; body = refl; opener = refl })

pub test_course : (sort : Sort) (c : Course) → is_in_test c.phase ≡ true → is_in_test (after_test sort c).phase ≡ true
test_course sorts.Open c t = refl
test_course sorts.Joint c t = refl
test_course sort c t = t

pub test_shape : (sort : Sort) (d : Draft) → SameShape (made_of_test sort d) d
test_shape sorts.Open d = record { blocks = refl; body = refl; opener = refl }
test_shape sorts.Joint d = record { blocks = refl; body = refl; opener = refl }
test_shape sort d = same_shape d

-- A token within a test leads to a state within a test, by the part of the test.
pub phase_course : (phase : Phase) (p : Piece) (c : Course) → is_in_test phase ≡ true → is_in_test c.phase ≡ true
    → is_in_test (after_phase phase p c).phase ≡ true
phase_course phases.Test p c h t = test_course p.sort c t
phase_course phases.Left p c h t = left_course p.sort c t
phase_course phases.Right p c h t = right_course p c t
phase_course phase p c h t = cc

pub phase_shape : (phase : Phase) (text : List ℕ) (p : Piece) (c : Course) (d : Draft) → is_in_test phase ≡ true
    → SameShape (made_in phase text p c d) d
phase_shape phases.Test text p c d h = test_shape p.sort d
phase_shape phases.Left text p c d h = left_shape p.sort text p d
phase_shape phases.Right text p c d h = right_shape text p c d
phase_shape phase text p c d h = cc

-- A token that is neither `;` nor `{` opens no block.
pub not_block : (sort : Sort) → is_inner (class_of_sort sort) ≡ true → opens_block sort ≡ false
not_block sorts.Input h = refl
not_block sorts.Skip h = refl
not_block sorts.While h = refl
not_block sorts.If h = refl
not_block sorts.Else h = refl
not_block sorts.Truth h = refl
not_block sorts.Name h = refl
not_block (sorts.Number n) h = refl
not_block sorts.Becomes h = refl
not_block sorts.Question h = refl
not_block sorts.Semicolon h = refl
not_block sorts.Comma h = refl
not_block sorts.Open h = refl
not_block sorts.Close h = refl
not_block sorts.BlockOpen h = cc
not_block sorts.BlockClose h = refl
not_block sorts.Joint h = refl
not_block sorts.AtLeast h = refl
not_block sorts.MoreThan h = refl
not_block sorts.AtMost h = refl
not_block sorts.LessThan h = refl
not_block sorts.Equal h = refl
not_block sorts.Plus h = refl
not_block sorts.Minus h = refl
not_block sorts.Times h = refl
not_block sorts.Caret h = refl
not_block sorts.Strange h = refl
not_block sorts.Wrong h = refl

pub inner_course : (p : Piece) (c : Course) → is_inner (class_of_sort p.sort) ≡ true → is_in_test c.phase ≡ true
    → is_in_test (course_after p c).phase ≡ true
inner_course p c h t = rw (not_block p.sort h) (phase_course c.phase p c t t)

pub inner_shape : (text : List ℕ) (p : Piece) (c : Course) (d : Draft) → is_inner (class_of_sort p.sort) ≡ true
    → is_in_test c.phase ≡ true → SameShape (draft_after text p c d) d
inner_shape text p c d h t = rw (not_block p.sort h) (phase_shape c.phase text p c d t)

-- Both states are within a test, and have the same shape.
pub record Tested (s t : State) : Type 0 where
  pub phase : is_in_test t.course.phase ≡ true
  pub shape : SameShape t.draft s.draft

pub tested : (text : List ℕ) (es : List (Event Piece)) (s : State) → AllInner es → is_in_test s.course.phase ≡ true
    → Tested s (after_all text s es)
tested text [] s h t = record { phase = t; shape = same_shape s.draft }
tested text (Did m ∷ es) s h t = tested text es s h t
tested text (Read p ∷ es) s (a, h) t =
    go (tested text es (sound_after text p s) h (inner_course p s.course a t))
  where
    go : Tested (sound_after text p s) (after_all text (sound_after text p s) es)
        → Tested s (after_all text (sound_after text p s) es)
    go w = record {
      phase = w.phase;
      shape = shape_then (after_all text (sound_after text p s) es).draft (sound_after text p s).draft s.draft w.shape
          (inner_shape text p s.course s.draft a t);
    }

-- A token of a value that is neither `;` nor `{` keeps the shape, and the value isn't left.
pub value_course : (sort : Sort) (c : Course) → is_inner (class_of_sort sort) ≡ true → c.phase ≡ phases.Value
    → (after_value sort c).phase ≡ phases.Value
value_course sorts.Input c h v = v
value_course sorts.Skip c h v = v
value_course sorts.While c h v = v
value_course sorts.If c h v = v
value_course sorts.Else c h v = v
value_course sorts.Truth c h v = v
value_course sorts.Name c h v = v
value_course (sorts.Number n) c h v = v
value_course sorts.Becomes c h v = v
value_course sorts.Question c h v = v
value_course sorts.Semicolon c h v = cc
value_course sorts.Comma c h v = v
value_course sorts.Open c h v = v
value_course sorts.Close c h v = v
value_course sorts.BlockOpen c h v = v
value_course sorts.BlockClose c h v = v
value_course sorts.Joint c h v = v
value_course sorts.AtLeast c h v = v
value_course sorts.MoreThan c h v = v
value_course sorts.AtMost c h v = v
value_course sorts.LessThan c h v = v
value_course sorts.Equal c h v = v
value_course sorts.Plus c h v = v
value_course sorts.Minus c h v = v
value_course sorts.Times c h v = v
value_course sorts.Caret c h v = v
value_course sorts.Strange c h v = v
value_course sorts.Wrong c h v = v

pub value_shape : (sort : Sort) (text : List ℕ) (p : Piece) (c : Course) (d : Draft) → is_inner (class_of_sort sort) ≡ true
    → SameShape (made_of_value text p c sort d) d
value_shape sorts.Question text p c d h = record { blocks = refl; body = refl; opener = refl }
value_shape sorts.Semicolon text p c d h = cc
value_shape sort text p c d h = either_shape (is_last p c) _ _ d (record { blocks = refl; body = refl; opener = refl })
    (record { blocks = refl; body = refl; opener = refl })

-- The state after a token that opens no block is that of the part being read.
pub outside : (p : Piece) (c : Course) (phase : Phase) → opens_block p.sort ≡ false → c.phase ≡ phase
    → (after_phase phase p c).phase ≡ phase → (course_after p c).phase ≡ phase
outside p c phase o e h =
    ap (λ (w : Bool). (cond w (record c { phase = phases.Statements }) (after_phase c.phase p c)).phase) o
    ∙ ap (λ (x : Phase). (after_phase x p c).phase) e ∙ h

pub outside_shape : (text : List ℕ) (p : Piece) (c : Course) (d : Draft) (phase : Phase) → opens_block p.sort ≡ false
    → c.phase ≡ phase → SameShape (made_in phase text p c d) d → SameShape (draft_after text p c d) d
outside_shape text p c d phase o e h =
    subst (λ (w : Bool). SameShape (cond w (block_opens d.opener d) (made_in c.phase text p c d)) d) (sym o)
    (subst (λ (x : Phase). SameShape (made_in x text p c d) d) (sym e) h)

pub record Valued (s t : State) : Type 0 where
  pub phase : t.course.phase ≡ phases.Value
  pub shape : SameShape t.draft s.draft

pub valued : (text : List ℕ) (es : List (Event Piece)) (s : State) → AllInner es → s.course.phase ≡ phases.Value
    → Valued s (after_all text s es)
valued text [] s h v = record { phase = v; shape = same_shape s.draft }
valued text (Did m ∷ es) s h v = valued text es s h v
valued text (Read p ∷ es) s (a, h) v = go (valued text es (sound_after text p s) h phase)
  where
    phase : (course_after p s.course).phase ≡ phases.Value
    phase = outside p s.course phases.Value (not_block p.sort a) v (value_course p.sort s.course a v)

    shape : SameShape (draft_after text p s.course s.draft) s.draft
    shape = outside_shape text p s.course s.draft phases.Value (not_block p.sort a) v
        (value_shape p.sort text p s.course s.draft a)

    go : Valued (sound_after text p s) (after_all text (sound_after text p s) es)
        → Valued s (after_all text (sound_after text p s) es)
    go w = record {
      phase = w.phase;
      shape = shape_then (after_all text (sound_after text p s) es).draft (sound_after text p s).draft s.draft w.shape
          shape;
    }

-- Events in two lists are read one list after the other.
pub after_append : (text : List ℕ) (s : State) (es fs : List (Event Piece))
    → after_all text s (es ++ fs) ≡ after_all text (after_all text s es) fs
after_append text s [] fs = refl
after_append text s (Read p ∷ es) fs = after_append text (sound_after text p s) es fs
after_append text s (Did m ∷ es) fs = after_append text s es fs

-- The list of statements isn't empty.
abbrev pub IsSome : List Statement → Type 0
IsSome [] = ⊥
IsSome (s ∷ ss) = ⊤

pub some_append : (ss : List Statement) (s : Statement) → IsSome (ss ++ s ∷ [])
some_append [] s = tt
some_append (t ∷ ss) s = tt

-- Each of some classes has only one sort.
pub sort_of_1 : (sort : Sort) → class_of_sort sort ≡ 1 → sort ≡ sorts.Skip
sort_of_1 sorts.Skip h = refl
sort_of_1 sort h = absurd (omega (arith, h))

pub sort_of_2 : (sort : Sort) → class_of_sort sort ≡ 2 → sort ≡ sorts.While
sort_of_2 sorts.While h = refl
sort_of_2 sort h = absurd (omega (arith, h))

pub sort_of_3 : (sort : Sort) → class_of_sort sort ≡ 3 → sort ≡ sorts.If
sort_of_3 sorts.If h = refl
sort_of_3 sort h = absurd (omega (arith, h))

pub sort_of_4 : (sort : Sort) → class_of_sort sort ≡ 4 → sort ≡ sorts.Else
sort_of_4 sorts.Else h = refl
sort_of_4 sort h = absurd (omega (arith, h))

pub sort_of_6 : (sort : Sort) → class_of_sort sort ≡ 6 → sort ≡ sorts.Name
sort_of_6 sorts.Name h = refl
sort_of_6 sort h = absurd (omega (arith, h))

pub sort_of_8 : (sort : Sort) → class_of_sort sort ≡ 8 → sort ≡ sorts.Becomes
sort_of_8 sorts.Becomes h = refl
sort_of_8 sort h = absurd (omega (arith, h))

pub sort_of_10 : (sort : Sort) → class_of_sort sort ≡ 10 → sort ≡ sorts.Semicolon
sort_of_10 sorts.Semicolon h = refl
sort_of_10 sort h = absurd (omega (arith, h))

pub sort_of_11 : (sort : Sort) → class_of_sort sort ≡ 11 → sort ≡ sorts.Comma
sort_of_11 sorts.Comma h = refl
sort_of_11 sort h = absurd (omega (arith, h))

pub sort_of_14 : (sort : Sort) → class_of_sort sort ≡ 14 → sort ≡ sorts.BlockOpen
sort_of_14 sorts.BlockOpen h = refl
sort_of_14 sort h = absurd (omega (arith, h))

pub sort_of_15 : (sort : Sort) → class_of_sort sort ≡ 15 → sort ≡ sorts.BlockClose
sort_of_15 sorts.BlockClose h = refl
sort_of_15 sort h = absurd (omega (arith, h))
