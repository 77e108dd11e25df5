-- A result that agrees with the answer to a text in bytes is right, and the result of reading agrees with the answer.
use Rattle.std.proofs.Common.{◌≡◌, ℕ, List, length, Ok, Err, refl, sym, subst, ◌∙◌, Option, Some, None}
use Rattle.std.specs.Prelude.{Result, IfSome}
use Rattle.text_core.specs.Readers.{Fault}
use Rattle.text_core.specs.Faults.{IsFirst}
use Rattle.text_core.specs.Reading.{Answer, Parsed, Refused, answer}
use Rattle.text_core.specs.Reading as reading
use Rattle.text_core.proofs.FirstFaults.{answer_is}
use Rattle.text_grammar.specs.declared.token.Refusal.{Refusal}
use Rattle.text_grammar.specs.declared.token.Refusal.TheVariants.{Refuses, Memory}
use Rattle.text_grammar.specs.Texts.{Text, IsLawful, reader}
use Rattle.text_grammar.specs.ByteTexts.{tokens}
use Rattle.text_grammar.specs.Following.{Says}
use Rattle.text_grammar.specs.Results.{AgreesWith, IsRight, Yields, refused_in}
use Rattle.text_grammar.proofs.ReaderLaws.{reader_laws}

module _ {T K Made E : Type 0} (x : Text ℕ T K) (tree_in : Made → T) (refusal_in : E → Option (Fault K)) where
  -- a result that agrees with the answer is right, if each answered tree is the intended one
  pub agreeing_is_right : IsLawful x → (Meant : T → Type 0) (bytes : List ℕ)
      → ((t : T) → answer (reader x) (length bytes) (tokens bytes) ≡ Parsed t → Meant t) → (result : Result Made E)
      → AgreesWith tree_in refusal_in (answer (reader x) (length bytes) (tokens bytes)) result
      → IsRight tree_in refusal_in x Meant bytes result
  agreeing_is_right lawful Meant bytes meant result h =
      go (answer (reader x) (length bytes) (tokens bytes)) refl
      (answer_is (reader x) (reader_laws x lawful) (length bytes) (tokens bytes)) result h
    where
      first : (y : Fault K) → IsFirst (reader x) (length bytes) (tokens bytes) y → (o : Option (Fault K))
          → IfSome o (λ z. z ≡ y) → IfSome o (IsFirst (reader x) (length bytes) (tokens bytes))
      first y i None s = tt
      first y i (Some z) s = subst (IsFirst (reader x) (length bytes) (tokens bytes)) (sym s) i

      go : (a : Answer T K) → answer (reader x) (length bytes) (tokens bytes) ≡ a
          → reading.Answers (reader x) (length bytes) (tokens bytes) a → (result : Result Made E)
          → AgreesWith tree_in refusal_in a result → IsRight tree_in refusal_in x Meant bytes result
      go (Parsed t) e i (Ok made) s = subst Meant (sym s) (meant t e)
      go (Parsed t) e i (Err error) s =
          subst (λ (o : Option (Fault K)). IfSome o (IsFirst (reader x) (length bytes) (tokens bytes))) (sym s) tt
      go (Refused y) e i (Ok made) s = absurd s
      go (Refused y) e i (Err error) s = first y i (refusal_in error) s

  -- if a tree is answered, a result that agrees with the answer gives this tree
  pub agreeing_yields : (bytes : List ℕ) (t : T) → answer (reader x) (length bytes) (tokens bytes) ≡ Parsed t
      → (result : Result Made E) → AgreesWith tree_in refusal_in (answer (reader x) (length bytes) (tokens bytes)) result
      → Yields tree_in refusal_in t result
  agreeing_yields bytes t e result h =
      go result (subst (λ (a : Answer T K). AgreesWith tree_in refusal_in a result) e h)
    where
      go : (result : Result Made E) → AgreesWith tree_in refusal_in (Parsed t) result → Yields tree_in refusal_in t result
      go (Ok made) s = s
      go (Err error) s = s

-- a result that represents the tree of an answer agrees with it
pub says_then_agrees : {T K Made : Type 0} (tree_in : Made → T) (a : Answer T K) (result : Result Made (Refusal K))
    → Says (λ made t. tree_in made ≡ t) a result → AgreesWith tree_in refused_in a result
says_then_agrees tree_in (Parsed t) (Ok made) s = s
says_then_agrees tree_in (Parsed t) (Err (Refuses y)) s = absurd s
says_then_agrees tree_in (Parsed t) (Err Memory) s = refl
says_then_agrees tree_in (Refused z) (Ok made) s = absurd s
says_then_agrees tree_in (Refused z) (Err (Refuses y)) s = s
says_then_agrees tree_in (Refused z) (Err Memory) s = tt

-- an error agrees with an answer if another error with the same refusal does
pub error_agrees : {T K Made E F : Type 0} (tree_in : Made → T) (one : E → Option (Fault K)) (other : F → Option (Fault K))
    (a : Answer T K) (e : E) (f : F) → other f ≡ one e → AgreesWith tree_in one a (Err e) → AgreesWith tree_in other a (Err f)
error_agrees tree_in one other (Parsed t) e f same s = same ∙ s
error_agrees {K = K} tree_in one other (Refused x) e f same s =
    subst (λ (o : Option (Fault K)). IfSome o (λ y. y ≡ x)) (sym same) s

-- a tree that agrees with an answer does so whatever errors mean
pub tree_agrees : {T K Made E F : Type 0} (tree_in : Made → T) (one : E → Option (Fault K)) (other : F → Option (Fault K))
    (a : Answer T K) (made : Made) → AgreesWith tree_in one a (Ok made) → AgreesWith tree_in other a (Ok made)
tree_agrees tree_in one other (Parsed t) made s = s
tree_agrees tree_in one other (Refused x) made s = s
