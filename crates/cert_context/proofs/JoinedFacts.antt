-- Facts of several premises, joined.
use Rattle.std.proofs.Common.{◌≡◌, ℕ, ◌+◌, ◌<◌, List, [], ◌∷◌, ◌++◌, length, map, take, get_or, refl, sym, ap, ◌∙◌}
use Rattle.std.proofs.Common.{All}
use Rattle.std.proofs.lemmas.List.{append-nil, append_assoc}
use Rattle.std.proofs.lemmas.List.Elements.{All-nil, All-head, All-tail, All-append}
use Rattle.model.specs.Facts.{Fact}
use Rattle.cert_context.specs.declared.stated_facts.StatedFacts.{StatedFacts}
use Rattle.cert_context.specs.declared.stated_facts.PremiseFacts.{PremiseFacts}
use Rattle.cert_context.specs.Statements.{all_facts, facts_by, joined_by}
use Rattle.cert_context.proofs.Cuts.{done-more}

-- the joined facts of two lists of lists are those of the first and then those of the second
facts-append : (fss gss : List (List Fact)) → all_facts (fss ++ gss) ≡ all_facts fss ++ all_facts gss
facts-append [] gss = refl
facts-append (fs ∷ fss) gss =
    ap (λ (hs : List Fact). fs ++ hs) (facts-append fss gss) ∙ sym (append_assoc fs (all_facts fss) (all_facts gss))

-- the joined facts of one more list are the joined facts and then those of that list
pub facts-push : (fss : List (List Fact)) (fs : List Fact) → all_facts (fss ++ fs ∷ []) ≡ all_facts fss ++ fs
facts-push fss fs = facts-append fss (fs ∷ []) ∙ ap (λ (hs : List Fact). all_facts fss ++ hs) (append-nil fs)

-- the joined facts of one more premise are the joined facts and then those of that premise
pub joined-more : (kept : StatedFacts) (uses : List PremiseFacts) (i : ℕ) (used : PremiseFacts) → i < length uses → used ≡ get_or uses i used
    → joined_by kept (take (i + 1) uses) ≡ joined_by kept (take i uses) ++ facts_by kept used
joined-more kept uses i used l e =
    ap all_facts (done-more (facts_by kept) uses i used l e) ∙ facts-push (map (facts_by kept) (take i uses)) (facts_by kept used)

-- a property of each fact of each list is one of each joined fact
pub all-joined : (P : Fact → Type 0) (fss : List (List Fact)) → All (All P) fss → All P (all_facts fss)
all-joined P [] h = All-nil P
all-joined P (fs ∷ fss) h =
    All-append P fs (all_facts fss) (All-head (All P) fs fss h) (all-joined P fss (All-tail (All P) fs fss h))
