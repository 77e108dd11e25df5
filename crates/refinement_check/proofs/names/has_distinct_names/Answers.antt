use Rattle.std.proofs.Common.{◌≡◌, ◌+◌, ◌<◌, ◌≤◌, true, false, List, ◌∷◌, ◌++◌, length, get_or, map, drop, refl, sym, ◌∙◌, ap}
use Rattle.std.proofs.Common.{subst, append-nil}
use Rattle.std.proofs.lemmas.Bool.{false≢true}
use Rattle.std.proofs.lemmas.List.{drop_all}
use Rattle.text_core.specs.Names.{name_of, IsName, is_same, is_among}
use Rattle.refined_programs.specs.model.Programs.{Name}
use Rattle.refined_programs.specs.declared.section.SymbolCopy.{SymbolCopy}
use Rattle.refined_programs.specs.Annotated.{Copy}
use Rattle.refined_programs.specs.Views.{annotated_copy}
use Rattle.refinement_check.proofs.Verdicts.{more}
use Rattle.refinement_check.proofs.Naming.{names_of, named, unnamed, repeated, among-by, one-more}
use Rattle.refinement_check.proofs.names.has_distinct_names.Goals as goal

pub returns-then-not-is_name : goal.returns-then-not-is_name
returns-then-not-is_name c =
    let copies : List SymbolCopy = c.args.section.now.copies.items in
    let i = c.loop-copy.copy-index in
    let x = c.copy-item.result in
    let low : i < length copies =
    subst (λ (cs : List SymbolCopy). i < length cs) c.deref-copy-items.ensures.value c.loop-copy-test.true in
    let here : x ≡ get_or copies i x =
    c.copy-item.is ∙ ap (λ (cs : List SymbolCopy). get_or cs i x) c.deref-copy-items.ensures.value in
    let split : names_of (drop i copies) ≡ name_of x.name ∷ names_of (drop (i + 1) copies) =
    ap (map (λ (d : Copy). d.name)) (more annotated_copy copies i x low here) in
    let all : map (λ k. k.now) c.loop-copy.seen.keys ++ name_of x.name ∷ names_of (drop (i + 1) copies) ≡ names_of copies =
    ap (λ (ns : List Name). map (λ k. k.now) c.loop-copy.seen.keys ++ ns) (sym split) ∙ c.loop-copy.invariant.all in (
      λ e. absurd (false≢true e),
      λ h. absurd (unnamed c.args.section.now (map (λ k. k.now) c.loop-copy.seen.keys) (name_of x.name)
          (names_of (drop (i + 1) copies)) all
          (λ g. false≢true (sym c.if-not-is_name.true
          ∙ c.is_name.ensures.1 (subst IsName (sym c.as_slice-name.ensures.value) g))) h),
    )

pub returns-then-not-is_new : goal.returns-then-not-is_new
returns-then-not-is_new c =
    let copies : List SymbolCopy = c.args.section.now.copies.items in
    let i = c.loop-copy.copy-index in
    let x = c.copy-item.result in
    let low : i < length copies =
    subst (λ (cs : List SymbolCopy). i < length cs) c.deref-copy-items.ensures.value c.loop-copy-test.true in
    let here : x ≡ get_or copies i x =
    c.copy-item.is ∙ ap (λ (cs : List SymbolCopy). get_or cs i x) c.deref-copy-items.ensures.value in
    let split : names_of (drop i copies) ≡ name_of x.name ∷ names_of (drop (i + 1) copies) =
    ap (map (λ (d : Copy). d.name)) (more annotated_copy copies i x low here) in
    let all : map (λ k. k.now) c.loop-copy.seen.keys ++ name_of x.name ∷ names_of (drop (i + 1) copies) ≡ names_of copies =
    ap (λ (ns : List Name). map (λ k. k.now) c.loop-copy.seen.keys ++ ns) (sym split) ∙ c.loop-copy.invariant.all in (
      λ e. absurd (false≢true e),
      λ h. absurd (repeated c.args.section.now (map (λ k. k.now) c.loop-copy.seen.keys) (name_of x.name)
          (names_of (drop (i + 1) copies)) all
          (subst (λ (m : Name). is_among m (map (λ k. k.now) c.loop-copy.seen.keys) ≡ true) c.as_slice-name.ensures.value
          (among-by (λ k. k.now) (λ j. is_same c.as_slice-name.result.now j.now) c.as_slice-name.result.now
          c.loop-copy.seen.keys c.in_ok-is_new.is_new false (λ j. refl) c.in_ok-is_new.ensures.added
          c.if-not-is_new.true)) h),
    )

pub loop-copy-preserved : goal.loop-copy-preserved
loop-copy-preserved c =
    let copies : List SymbolCopy = c.args.section.now.copies.items in
    let i = c.loop-copy.copy-index in
    let x = c.copy-item.result in
    let low : i < length copies =
    subst (λ (cs : List SymbolCopy). i < length cs) c.deref-copy-items.ensures.value c.loop-copy-test.true in
    let here : x ≡ get_or copies i x =
    c.copy-item.is ∙ ap (λ (cs : List SymbolCopy). get_or cs i x) c.deref-copy-items.ensures.value in
    let split : names_of (drop i copies) ≡ name_of x.name ∷ names_of (drop (i + 1) copies) =
    ap (map (λ (d : Copy). d.name)) (more annotated_copy copies i x low here) in
    let m = one-more (λ k. k.now) (λ a b. is_same a.now b.now) c.loop-copy.seen.keys c.insert.new.self.keys
    c.as_slice-name.result (name_of x.name) (names_of (drop i copies)) (names_of (drop (i + 1) copies))
    (names_of copies) c.in_ok-is_new.is_new (λ j. refl) c.in_ok-is_new.ensures.keys c.in_ok-is_new.ensures.added
    c.if-not-is_new.false c.as_slice-name.ensures.value split c.loop-copy.invariant.all
    (subst IsName c.as_slice-name.ensures.value (c.is_name.ensures.0 c.if-not-is_name.false))
    c.loop-copy.invariant.names c.loop-copy.invariant.distinct in
    record { all = m.0; names = m.1; distinct = m.2 }

pub returns : goal.returns
returns c =
    let copies : List SymbolCopy = c.args.section.now.copies.items in
    let i = c.loop-copy.copy-index in
    let past : length copies ≤ i =
    subst (λ (cs : List SymbolCopy). length cs ≤ i) c.deref-copy-items.ensures.value c.loop-copy-test.false in
    let whole : map (λ k. k.now) c.loop-copy.seen.keys ≡ names_of copies =
    sym (append-nil _)
    ∙ (ap (λ (ns : List Name). map (λ k. k.now) c.loop-copy.seen.keys ++ ns) (sym (ap names_of (drop_all i copies past)))
    ∙ c.loop-copy.invariant.all) in (
      λ e. named c.args.section.now (map (λ k. k.now) c.loop-copy.seen.keys) whole c.loop-copy.invariant.names
          c.loop-copy.invariant.distinct,
      λ h. refl,
    )
