-- Tables by symbol, as loops build and read them.
use Rattle.std.proofs.Common.{◌≡◌, ◌≢◌, ◌⊎◌, inl, inr, ℕ, ◌+◌, ◌-◌, ◌^◌, ◌<◌, ◌≤◌, ap, arith, refl, sym, ◌∙◌, subst}
use Rattle.std.proofs.Common.{List, [], ◌∷◌, ◌++◌, length, length-append, length-take, length-set}
use Rattle.std.proofs.Common.{get_or, get_or-set_same, get_or-set_other, take, replicate}
use Rattle.std.proofs.Common.{cond, Bool, true, false, Some}
use Rattle.std.specs.Prelude.{slice_get, slice_set, nat_eq, Vec}
use Rattle.std.specs.declared.alloc.Global.{Global}
use Rattle.std.specs.List.{All}
use Rattle.std.proofs.lemmas.Bool.{cases_lt, eqb-true, eq-eqb}
use Rattle.std.proofs.lemmas.Grind.{get_or_default_zero}
use Rattle.std.proofs.lemmas.List.{length-replicate, get_or-replicate, take_all}
use Rattle.std.proofs.lemmas.List.Filters.{length-filter_more}
use Rattle.std.proofs.lemmas.List.Sums.{length-filter, count_by-le-length}
use Rattle.std.proofs.lemmas.Option.{slice_get_within}
use Rattle.poly_terms.specs.model.Programs.{Program}
use Rattle.poly_terms.proofs.model.Cases.{some_same}
use Rattle.location_facts.specs.declared.fact.LocFact.{LocFact}
use Rattle.location_facts.specs.Faults.{rules_into}
use Rattle.location_facts.specs.Rows.{facts_at}
use Rattle.location_facts.specs.Tables.{AreCounts}
use Rattle.location_facts.proofs.RoundSteps.{slice-last, slice-before}

-- a table of the symbols so far
abbrev pub EachInto : Program → List (Vec ℕ Global) → Type 0
EachInto p table = (s : ℕ) (rules : Vec ℕ Global) → slice_get table s ≡ Some rules → rules.items ≡ rules_into p s

-- after one more symbol
pub into-more : (p : Program) (old new : List (Vec ℕ Global)) (n : ℕ) (v : Vec ℕ Global) → length old ≡ n
    → EachInto p old → v.items ≡ rules_into p n → new ≡ old ++ v ∷ [] → EachInto p new
into-more p old new n v many each is made s w e =
    go (cases_lt s (length old))
  where
    there : slice_get (old ++ v ∷ []) s ≡ Some w
    there = subst (λ (vs : List (Vec ℕ Global)). slice_get vs s ≡ Some w) made e

    go : (s < length old) ⊎ (length old ≤ s) → w.items ≡ rules_into p s
    go (inl l) = each s w (sym (slice-before old (v ∷ []) s l) ∙ there)
    go (inr l) =
        let within = slice_get_within (old ++ v ∷ []) s w there in
        let here : s ≡ length old = let a = length-append old (v ∷ []) in omega (arith, a, within, l) in
        let same : v ≡ w = some_same v w
        (sym (slice-last old v) ∙ (ap (slice_get (old ++ v ∷ [])) (sym here) ∙ there)) in
        subst (λ (x : Vec ℕ Global). x.items ≡ rules_into p s) same (is ∙ ap (rules_into p) (sym (here ∙ many)))

-- the table is longer by one
pub into-longer : (old new : List (Vec ℕ Global)) (n : ℕ) (v : Vec ℕ Global) → length old ≡ n → new ≡ old ++ v ∷ []
    → length new ≡ n + 1
into-longer old new n v many made =
    let a = ap (λ (vs : List (Vec ℕ Global)). length vs) made in let b = length-append old (v ∷ []) in
    omega (arith, many, a, b)

-- no facts give counts of 0
pub counts-none : (n : ℕ) (facts : List LocFact) (counts : List ℕ) → counts ≡ replicate n 0
    → AreCounts n (take 0 facts) counts
counts-none n facts counts e = record {
  many = ap (λ (ns : List ℕ). length ns) e ∙ length-replicate n 0;
  each = λ s l. ap (λ (ns : List ℕ). get_or ns s 0) e ∙ get_or-replicate n s 0 0 l;
}

module _ (n i : ℕ) (facts : List LocFact) (d : LocFact) (l : i < length facts) where
  -- one more fact increases the count of its symbol by one
  counted : (s : ℕ) → length (facts_at s (take (i + 1) facts))
      ≡ length (facts_at s (take i facts)) + cond (nat_eq (get_or facts i d).symbol s) 1 0
  counted s = length-filter_more (λ (g : LocFact). nat_eq g.symbol s) facts i d l

  pub counts-more : (old new : List ℕ) → AreCounts n (take i facts) old
      → new ≡ slice_set old (get_or facts i d).symbol (get_or old (get_or facts i d).symbol 0 + 1)
      → AreCounts n (take (i + 1) facts) new
  counts-more old new are made = record {
    many = ap (λ (ns : List ℕ). length ns) made ∙ (length-set old own more ∙ are.many);
    each = λ s low. ap (λ (ns : List ℕ). get_or ns s 0) made ∙ go s low (nat_eq own s) refl;
  }
    where
      own : ℕ
      own = (get_or facts i d).symbol

      more : ℕ
      more = get_or old own 0 + 1

      go : (s : ℕ) → s < n → (v : Bool) → nat_eq own s ≡ v
          → get_or (slice_set old own more) s 0 ≡ length (facts_at s (take (i + 1) facts))
      go s low true h =
          let same : own ≡ s = eqb-true own s h in
          let one : cond {A = ℕ} (nat_eq own s) 1 0 ≡ 1 = ap (λ (b : Bool). cond {A = ℕ} b 1 0) h in
          let there : own < length old = let m = are.many in omega (arith, low, m, same) in
          let written : get_or (slice_set old own more) own 0 ≡ more = get_or-set_same old own more 0 there in
          let before : get_or old own 0 ≡ length (facts_at s (take i facts)) =
          ap (λ (k : ℕ). get_or old k 0) same ∙ are.each s low in
          ap (λ (k : ℕ). get_or (slice_set old own more) k 0) (sym same)
          ∙ (written ∙ omega (arith, before, counted s, one))
      go s low false h =
          let none : cond {A = ℕ} (nat_eq own s) 1 0 ≡ 0 = ap (λ (b : Bool). cond {A = ℕ} b 1 0) h in
          let other : s ≢ own = λ same. absurd (let no : ⊥ = cc (eq-eqb own s (sym same), h) in no) in
          get_or-set_other old own s more 0 other ∙ (are.each s low ∙ omega (arith, counted s, none))

-- a count is at most the number of facts
pub counts-few : (n i : ℕ) (facts : List LocFact) (counts : List ℕ) → i < length facts → length facts < 2 ^ 64
    → AreCounts n (take i facts) counts → All (λ count. count < 2 ^ 64 - 1) counts
counts-few n i facts counts l few are s d low =
    let there : s < n = let m = are.many in omega (arith, low, m) in
    let is = are.each s there in
    let counted = length-filter (λ (g : LocFact). nat_eq g.symbol s) (take i facts) in
    let most = count_by-le-length (λ (g : LocFact). nat_eq g.symbol s) (take i facts) in
    let passed = length-take i facts in
    let same = get_or_default_zero counts s d low in
    omega (arith, is, counted, most, passed, same, l, few)

-- after all facts, the counts are complete
pub counts-all : (n i : ℕ) (facts : List LocFact) (counts : List ℕ) → i ≡ length facts
    → AreCounts n (take i facts) counts → AreCounts n facts counts
counts-all n i facts counts e are =
    subst (λ (fs : List LocFact). AreCounts n fs counts) (take_all i facts (omega (arith, e))) are
