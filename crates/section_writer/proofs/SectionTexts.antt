-- The text of a section within the limits is read as that section.
use Rattle.std.proofs.Common.{◌≡◌, ℕ, suc, ◌+◌, ◌<◌, ◌≤◌, ◌^◌, List, [], ◌∷◌, ◌++◌, length, map}
use Rattle.std.proofs.Common.{refl, ap, sym, subst, ◌∙◌, arith, inl, inr, append-nil, append_assoc, length-append, None}
use Rattle.std.specs.List.{AllByRecursion}
use Rattle.std.proofs.lemmas.List.{map-append}
use Rattle.its_model.specs.model.Programs.{Name, Program}
use Rattle.its_model.specs.Valid.{IsValid}
use Rattle.refined_programs.specs.Annotated.{Branch, Copy, Section}
use Rattle.text_grammar.specs.text_core.Names.{AreDistinct, AreNames}
use Rattle.text_grammar.specs.text_core.Reading.{Parsed, answer}
use Rattle.text_grammar.specs.text_core.Tokens.{pieces}
use Rattle.text_grammar.specs.declared.symbol.Symbol.{Symbol}
use Rattle.text_grammar.specs.declared.symbol.Symbol.TheVariants as item
use Rattle.text_grammar.specs.Grammars.{Derives}
use Rattle.text_grammar.specs.Texts.{reader}
use Rattle.text_grammar.proofs.FoldLaws.{derived_reads, passes_silent, state_after}
use Rattle.text_grammar.proofs.SilenceLaws.{parsed_where_silent}
use Rattle.section_text.specs.Drafts.{Draft, begun, no_cases}
use Rattle.section_text.specs.Faults.{branch_limit, copy_limit}
use Rattle.section_text.specs.Grammar.{section_grammar}
use Rattle.section_text.specs.Lexing.{tokens}
use Rattle.section_text.specs.Reading.{Progress, section_fold, section_in, sections_of}
use Rattle.section_text.proofs.Lawful.{lawful}
use Rattle.section_writer.specs.Limits.{IsBranchWithin, IsCopyWithin, IsSectionWithin}
use Rattle.section_writer.specs.RoundTrips.{IsReadAs, TextsAreReadBack}
use Rattle.section_writer.specs.Texts.{text_of}
use Rattle.section_writer.proofs.Along.{Along, Reads, becomes, cut_tokens, ends, makes, spelled_as}
use Rattle.section_writer.proofs.Following.{branches_then, copies_then, copy_then, text_then}
use Rattle.section_writer.proofs.LineTexts.{branch_line, copy_line}
use Rattle.section_writer.proofs.States.{Kept, Sure, copies_named, copy_names, lined, new_name, st, sure_of}

-- the draft between the lines of copies
abbrev between : Kept → List Copy → Kept
between k cs = record k { names = copy_names cs; copies = cs; branches = [] }

-- the names of copies with one more
names_more : (cs : List Copy) (c : Copy) → copy_names cs ++ c.name ∷ [] ≡ copy_names (cs ++ c ∷ [])
names_more cs c = sym (map-append (λ (c : Copy). c.name) cs (c ∷ []))

-- copies that were read, and those that are left
record AreLeft (p : Program) (all done left : List Copy) : Type 0 where
  pub parts : done ++ left ≡ all
  pub within : AllByRecursion (IsCopyWithin p) left
  pub distinct : AreDistinct (copy_names all)
  pub few : length all ≤ copy_limit

-- one of them is read
next_left : (p : Program) (all done : List Copy) (c : Copy) (left : List Copy) → AreLeft p all done (c ∷ left)
    → AreLeft p all (done ++ c ∷ []) left
next_left p all done c left h = record {
  parts = append_assoc done (c ∷ []) left ∙ h.parts;
  within = h.within.1;
  distinct = h.distinct;
  few = h.few;
}

module _ {p : Program} {text : List ℕ} {Q : Draft → Type 0} (sure : Sure p) (all : List Copy) where
  -- the next copy is read
  next_copy : {ss : List Symbol} {rest : List ℕ} (done left : List Copy) (c : Copy) → AreLeft p all done (c ∷ left)
      → (k : Kept) → ((j : Kept) → Along p text ss (st (lined (between j (done ++ c ∷ [])))) rest Q)
      → Along p text (item.Made 3 ∷ ss) (st (lined (between k done))) (copy_then p c rest) Q
  next_copy done left c h k more =
      let long = ap length h.parts in
      let both = length-append done (c ∷ left) in
      let few = h.few in
      let differ : AreDistinct (copy_names done ++ c.name ∷ copy_names left) =
      subst AreDistinct (ap copy_names (sym h.parts) ∙ map-append (λ (c : Copy). c.name) done (c ∷ left)) h.distinct in
      copy_line sure c h.within.0 (between k done) (omega (arith, long, both, few))
      (new_name (copy_names done) c.name (copy_names left) differ)
      (becomes (ap (λ (ns : List Name). st (lined (record k {
        over = c.over;
        names = ns;
        copies = done ++ c ∷ [];
        branches = [];
      }))) (names_more done c)) (more (record k { over = c.over })))

  -- the copies that are left
  copies_read : (left done : List Copy) → AreLeft p all done left → (k : Kept) {rest : List ℕ}
      → ((j : Kept) → Along p text (item.Made 2 ∷ []) (st (lined (between j all))) rest Q)
      → Along p text (item.Made 1 ∷ item.Made 2 ∷ []) (st (lined (between k done))) (copies_then p left rest) Q
  copies_read [] done h k more =
      makes 1 [] (inr (inl refl))
      (becomes (ap (λ (cs : List Copy). st (lined (between k cs))) (sym (append-nil done) ∙ h.parts)) (more k))
  copies_read (c ∷ left) done h k more =
      makes 1 (item.Made 3 ∷ item.Made 1 ∷ []) (inl refl)
      (next_copy done left c h k (λ j. copies_read left (done ++ c ∷ []) (next_left p all done c left h) j more))

  -- the branches that are left
  branches_read : AreNames (copy_names all) → length all ≤ copy_limit → (left done : List Branch)
      → AllByRecursion (IsBranchWithin p (length all)) left → length done + length left ≤ branch_limit → (k : Kept)
      → k.names ≡ copy_names all
      → ((j : Kept) → Q (st (lined (record j { copies = k.copies; branches = done ++ left }))))
      → Along p text (item.Made 2 ∷ []) (st (lined (record k { branches = done }))) (branches_then all left []) Q
  branches_read are few [] done within fewer k e more =
      makes 2 [] (inr (inl refl))
      (ends (subst (λ (bs : List Branch). Q (st (lined (record k { branches = bs })))) (append-nil done) (more k)))
  branches_read are few (b ∷ left) done within fewer k e more =
      let long = length-append done (b ∷ []) in
      makes 2 (item.Made 4 ∷ item.Made 2 ∷ []) (inl refl)
      (branch_line sure all are few b within.0 (record k { branches = done }) e (omega (arith, fewer))
      (λ t. branches_read are few left (done ++ b ∷ []) within.1 (omega (arith, long, fewer))
      (record k { source = b.source; rule = b.rule; target = t }) e
      (λ j. subst (λ (bs : List Branch). Q (st (lined (record j { copies = k.copies; branches = bs }))))
      (sym (append_assoc done (b ∷ []) left)) (more j))))

-- the draft before the first piece
abbrev nothing_read : Kept
nothing_read = record {
  coefs = [];
  constant = None;
  numbers = [];
  lists = [];
  name = [];
  over = 0;
  facts = [];
  names = [];
  copies = [];
  source = 0;
  rule = 0;
  target = 0;
  tests = [];
  cases = no_cases;
  branches = [];
}

-- a whole section is read along its text
whole : (p : Program) → Sure p → (text : List ℕ) (s : Section) → IsSectionWithin p s
    → Along p text (item.Made 0 ∷ []) begun (copies_then p s.copies (branches_then s.copies s.branches []))
    (λ d. section_in d ≡ s)
whole p sure text s h = go s.copies refl
  where
    are : AreNames (copy_names s.copies)
    are = copies_named p s.copies h.copies h.distinct

    go : (cs : List Copy) → s.copies ≡ cs
        → Along p text (item.Made 0 ∷ []) begun (copies_then p cs (branches_then s.copies s.branches []))
        (λ d. section_in d ≡ s)
    go [] e = absurd (let long = ap length e in let some = h.some in omega (arith, long, some))
    go (c ∷ cs) e =
        let left : AreLeft p s.copies [] (c ∷ cs) = record {
          parts = sym e;
          within = subst (AllByRecursion (IsCopyWithin p)) e h.copies;
          distinct = h.distinct;
          few = h.few_copies;
        } in
        makes 0 (item.Made 3 ∷ item.Made 1 ∷ item.Made 2 ∷ []) (inl refl)
        (next_copy sure s.copies [] cs c left nothing_read
        (λ j. copies_read sure s.copies cs (c ∷ []) (next_left p s.copies [] c cs left) j
        (λ i. branches_read sure s.copies are h.few_copies s.branches [] h.branches
        (let few = h.few_branches in omega (arith, few)) (between i s.copies) refl (λ k. refl))))

-- the section is the answer to its text
read_back : (p : Program) (s : Section) → IsValid p → length p.symbols < 2 ^ 32 → IsSectionWithin p s
    → IsReadAs p (text_of p s) s
read_back p s valid few h =
    let bytes : List ℕ = text_of p s in
    let a : Reads p bytes (item.Made 0 ∷ []) begun bytes (λ d. section_in d ≡ s) =
    (spelled_as (text_then p s) (whole p (sure_of p valid few) bytes s h)).onward [] refl in
    let same : pieces (tokens bytes) ≡ a.read = cut_tokens (length bytes) 0 a.read bytes a.cuts in
    let derived : Derives section_grammar (item.Made 0 ∷ []) a.events (pieces (tokens bytes)) =
    subst (Derives section_grammar (item.Made 0 ∷ []) a.events) (sym same) a.derives in
    (parsed_where_silent (sections_of p bytes) (lawful p bytes)).silent (length bytes) (tokens bytes) a.events derived
    (passes_silent (section_fold p bytes) section_grammar [] a.events (tokens bytes) (derived_reads section_grammar derived)
    a.passes)
    ∙ ap (λ (t : Progress). Parsed (section_in t.draft)) (state_after (section_fold p bytes) [] a.events ∙ a.comes)
    ∙ ap (λ (t : Section). Parsed t) a.holds

pub texts_are_read_back : TextsAreReadBack
texts_are_read_back = record { back = read_back }
