-- Things that are read one after the other have one outcome.
use Rattle.std.proofs.Common.{◌≡◌, ◌∙◌, ap, sym, subst, inl, inr}
use Rattle.text_grammar.specs.Texts.{reader, IsLawful}
use Rattle.text_grammar.proofs.ReaderLaws.{reader_laws}
use Rattle.text_grammar.proofs.text_core.FirstFaults.{one_first_each}
use Rattle.refined_text.specs.Outcomes.{Refusal, Outcome, Gives, Refuses, IsJust, Then, PartText, text_refusal}
use Rattle.refined_text.specs.Outcomes.{TextReads}

-- there is at most one outcome with this property
abbrev pub IsOne : {T : Type 0} → (Outcome T → Type 0) → Type 0
IsOne {T} Reads = (a b : Outcome T) → Reads a → Reads b → a ≡ b

-- what is given, and what is refused, is one thing; and it isn't both
same_given : {T : Type 0} (x y : T) → ◌≡◌ {A = Outcome T} (Gives x) (Gives y) → x ≡ y
same_given x y e = cc

same_refusal : {T : Type 0} (r s : Refusal) → ◌≡◌ {A = Outcome T} (Refuses r) (Refuses s) → r ≡ s
same_refusal r s e = cc

given_or_refused : {T : Type 0} (x : T) (r : Refusal) → ◌≡◌ {A = Outcome T} (Gives x) (Refuses r) → ⊥
given_or_refused x r e = cc

-- just one thing is one outcome
pub just-one : {T : Type 0} (x : T) → IsOne (IsJust x)
just-one x (Gives y) (Gives z) h k = ap Gives (h ∙ sym k)
just-one x (Gives y) (Refuses r) h k = absurd k
just-one x (Refuses r) b h k = absurd h

-- a text has one outcome
pub text-one : {P T K : Type 0} (part : PartText P T K) → IsLawful part.grammar → IsOne (TextReads part)
text-one part lawful (Gives t) (Gives u) h k = ap Gives (k.only t h.written)
text-one part lawful (Gives t) (Refuses r) h (x, first, e) = absurd (h.faultless x first.is)
text-one part lawful (Refuses r) (Gives t) (x, first, e) h = absurd (h.faultless x first.is)
text-one part lawful (Refuses r) (Refuses s) (x, f, d) (y, g, e) =
    let one = (one_first_each (reader part.grammar) (reader_laws part.grammar lawful)).each part.size part.tokens x y f
    g in
    ap Refuses (d ∙ (ap (text_refusal part.kind_of part.begins) one ∙ sym e))

-- what comes next is the same behind the same thing
moved : {A B : Type 0} (Next : A → Outcome B → Type 0) (x y : A) (o : Outcome B) → x ≡ y → Next x o → Next y o
moved {A} Next x y o e h = subst (λ (z : A). Next z o) e h

-- what is read first has one outcome, and so has what comes next; then both together have one
pub then-one : {A B : Type 0} (First : Outcome A → Type 0) (Next : A → Outcome B → Type 0) → IsOne First
    → ((a : A) → First (Gives a) → IsOne (Next a)) → IsOne (Then First Next)
then-one First Next one next (Gives b) (Gives c) (x, f, h) (y, g, k) =
    next y g (Gives b) (Gives c) (moved Next x y (Gives b) (same_given x y (one (Gives x) (Gives y) f g)) h) k
then-one First Next one next (Gives b) (Refuses r) (x, f, h) (inl g) =
    absurd (given_or_refused x r (one (Gives x) (Refuses r) f g))
then-one First Next one next (Gives b) (Refuses r) (x, f, h) (inr (y, g, k)) =
    next y g (Gives b) (Refuses r) (moved Next x y (Gives b) (same_given x y (one (Gives x) (Gives y) f g)) h) k
then-one First Next one next (Refuses r) (Gives c) (inl f) (y, g, k) =
    absurd (given_or_refused y r (one (Gives y) (Refuses r) g f))
then-one First Next one next (Refuses r) (Gives c) (inr (x, f, h)) (y, g, k) =
    next y g (Refuses r) (Gives c) (moved Next x y (Refuses r) (same_given x y (one (Gives x) (Gives y) f g)) h) k
then-one First Next one next (Refuses r) (Refuses s) (inl f) (inl g) =
    ap Refuses (same_refusal r s (one (Refuses r) (Refuses s) f g))
then-one First Next one next (Refuses r) (Refuses s) (inl f) (inr (y, g, k)) =
    absurd (given_or_refused y r (one (Gives y) (Refuses r) g f))
then-one First Next one next (Refuses r) (Refuses s) (inr (x, f, h)) (inl g) =
    absurd (given_or_refused x s (one (Gives x) (Refuses s) f g))
then-one First Next one next (Refuses r) (Refuses s) (inr (x, f, h)) (inr (y, g, k)) =
    next y g (Refuses r) (Refuses s) (moved Next x y (Refuses r) (same_given x y (one (Gives x) (Gives y) f g)) h) k
