-- An element taken from the end of a list, and the last elements of a draft's lists.
use Rattle.std.proofs.Common.{◌≡◌, Bool, true, false, List, [], ◌∷◌, ◌++◌, map, Option, Some, refl, ap, sym, ◌∙◌}
use Rattle.std.specs.Prelude.{Result, Ok, Err, IfOk}
use Rattle.std.proofs.lemmas.List.{map-append}
use Rattle.expr_text.specs.TermGrammarStates.{GrammarState, is_empty}
use Rattle.expr_reader.specs.StateSteps.{Closes}
use Rattle.while_text.specs.while_tree.Views.{Statement}
use Rattle.while_text.specs.Drafts.{Block, Draft, last_of, before_last, closed_by, closed, block_closes, reopened, second_of}
use Rattle.while_text.proofs.GrammarStates.{last_append, before_append, closes_is, stays_is}

-- The images of a list from whose end an element was taken.
pub map_popped : {X Y : Type 0} (f : X → Y) (old new : List X) (x : X) → old ≡ new ++ x ∷ []
    → map f old ≡ map f new ++ f x ∷ []
map_popped f old new x e = ap (λ xs. map f xs) e ∙ map-append f new (x ∷ [])

-- The innermost block closes.
pub closes_last : (d : Draft) (before : List Block) (block : Block) → d.blocks ≡ before ++ block ∷ []
    → block_closes (last_of d.blocks) d ≡ closed block (record d { blocks = before })
closes_last d before block e =
    ap (λ (o : Option Block). block_closes o d) (ap last_of e ∙ last_append before block)
    ∙ ap (λ (bs : List Block). closed block (record d { blocks = bs })) (ap before_last e ∙ before_append before block)

-- The last statement is opened again, if it is a branch.
pub second_last : (d : Draft) (before : List Statement) (s : Statement) → d.body ≡ before ++ s ∷ []
    → second_of (last_of d.body) d ≡ reopened s (record d { body = before })
second_last d before s e =
    ap (λ (o : Option Statement). second_of o d) (ap last_of e ∙ last_append before s)
    ∙ ap (λ (ss : List Statement). reopened s (record d { body = ss })) (ap before_last e ∙ before_append before s)

-- A closing bracket gives the front of the specification, whether one is open or not.
pub closed_either : (f g : GrammarState) → (is_empty f.outer ≡ false → Closes f g) → (is_empty f.outer ≡ true → g ≡ f)
    → g ≡ closed_by (last_of f.outer) f
closed_either f g closes stays = go (is_empty f.outer) refl
  where
    go : (v : Bool) → is_empty f.outer ≡ v → g ≡ closed_by (last_of f.outer) f
    go true e = stays e ∙ sym (stays_is f e)
    go false e = closes_is f g (closes e)

-- A property of a result that another implies holds of the result.
pub if_ok : {T E : Type 0} (P Q : T → Type 0) → ((x : T) → P x → Q x) → (r : Result T E) → IfOk r P → IfOk r Q
if_ok P Q f (Ok x) h = f x h
if_ok P Q f (Err e) h = tt
