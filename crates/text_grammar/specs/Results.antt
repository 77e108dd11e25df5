-- How a result agrees with the answer to a text in bytes: each error is a refusal, or says that memory ran out.
use Rattle.std.specs.Prelude.{◌≡◌, ℕ, List, length, Result, Ok, Err, Option, Some, None, IfSome}
use Rattle.text_core.specs.Readers.{Fault}
use Rattle.text_core.specs.Faults.{IsFirst}
use Rattle.text_core.specs.Reading.{Answer, Parsed, Refused}
use Rattle.text_grammar.specs.Texts.{Text, reader}
use Rattle.text_grammar.specs.ByteTexts.{tokens}
use Rattle.text_grammar.specs.declared.token.Refusal.{Refusal}
use Rattle.text_grammar.specs.declared.token.Refusal.TheVariants.{Refuses, Memory}
use Rattle.text_grammar.specs.Marks.{refusal_of}

-- the refusal that reading reports; running out of memory is none
abbrev pub refused_in : {K : Type 0} → Refusal K → Option (Fault K)
refused_in (Refuses y) = Some (refusal_of y)
refused_in Memory = None

-- the tree that a result represents, and the refusal that an error reports; running out of memory is none
module _ {T K Made E : Type 0} (tree_in : Made → T) (refusal_in : E → Option (Fault K)) where
  -- a result agrees with the answer, or memory ran out
  abbrev pub AgreesWith : Answer T K → Result Made E → Type 0
  AgreesWith (Parsed t) (Ok made) = tree_in made ≡ t
  AgreesWith (Parsed t) (Err e) = refusal_in e ≡ None
  AgreesWith (Refused x) (Ok made) = ⊥
  AgreesWith (Refused x) (Err e) = IfSome (refusal_in e) (λ y. y ≡ x)

  -- a result is right: the intended tree, or exactly the first fault of the bytes, or memory ran out
  abbrev pub IsRight : Text ℕ T K → (T → Type 0) → List ℕ → Result Made E → Type 0
  IsRight x Meant bytes (Ok made) = Meant (tree_in made)
  IsRight x Meant bytes (Err e) = IfSome (refusal_in e) (IsFirst (reader x) (length bytes) (tokens bytes))

  -- the result is this tree, unless memory ran out
  abbrev pub Yields : T → Result Made E → Type 0
  Yields t (Ok made) = tree_in made ≡ t
  Yields t (Err e) = refusal_in e ≡ None
