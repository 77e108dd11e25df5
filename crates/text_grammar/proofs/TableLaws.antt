-- Rounds and rows of tables.
use Rattle.std.proofs.Common.{◌≡◌, ℕ, zero, suc, ◌-◌, ◌<◌, ◌≤◌, Bool, true, false, List, [], ◌∷◌, ◌++◌, map, length, refl, ap, sym}
use Rattle.std.proofs.Common.{◌∙◌, inr, subst, arith, inl}
use Rattle.std.specs.Prelude.{Vec, ◌⊎◌, ◌≢◌, ◌==◌, slice_index_or, slice_set}
use Rattle.std.specs.Vec.{with_item}
use Rattle.std.specs.declared.alloc.Global.{Global}
use Rattle.std.proofs.Math.ListN as of_lists
use Rattle.std.proofs.lemmas.Bool.{eqb-true, eqb-false}
use Rattle.std.proofs.lemmas.List.{get_or-map, get_or-set_same, get_or-set_other, length-map, length-set, map-set}
use Rattle.text_grammar.specs.declared.symbol.Symbol.{Symbol}
use Rattle.text_grammar.specs.declared.entry.Entry as code
use Rattle.text_grammar.specs.declared.tables.Tables.{Tables}
use Rattle.text_grammar.specs.Grammars.{alternatives}
use Rattle.text_grammar.specs.Leads.{Lead, Matches, Passes, Stuck, better, entry, lead_among, row_after}
use Rattle.text_grammar.specs.Tabled.{IsSound, Remains, HasPut, kept_row, row_in}
use Rattle.text_grammar.specs.Views.{lead_of, leads_of}

-- `better` is associative
pub better-better : (l k j : Lead) → better (better l k) j ≡ better l (better k j)
better-better (Matches ms rest) k j = refl
better-better (Passes ms) (Matches ns rest) j = refl
better-better (Passes ms) (Passes ns) (Matches ks rest) = refl
better-better (Passes ms) (Passes ns) (Passes ks) = refl
better-better (Passes ms) (Passes ns) Stuck = refl
better-better (Passes ms) Stuck j = refl
better-better Stuck k j = refl

-- a lead is at least as good as `Stuck`
pub better-none : (l : Lead) → better l Stuck ≡ l
better-none (Matches ms rest) = refl
better-none (Passes ms) = refl
better-none Stuck = refl

-- one more `Stuck` at the end of a row changes no lead
pub entry-longer : (row : List Lead) (n : ℕ) → entry (row ++ Stuck ∷ []) n ≡ entry row n
entry-longer [] zero = refl
entry-longer [] (suc n) = refl
entry-longer (l ∷ row) zero = refl
entry-longer (l ∷ row) (suc n) = entry-longer row n

-- an entry after a round is computed from the alternatives by the row of the round before
pub entry-after : (rules : List (List (List Symbol))) (c k n : ℕ) → k ≢ 0 → entry (row_after rules c k) n ≡ lead_among c (row_after rules c (k - 1)) (alternatives rules n)
entry-after rules c k n h = ap (λ (j : ℕ). entry (row_after rules c j) n) (stepped k h) ∙ of_lists.get_or-map (lead_among c (row_after rules c (k - 1))) rules n []
  where
    stepped : (k : ℕ) → k ≢ 0 → k ≡ suc (k - 1)
    stepped k h = omega (arith, h)

-- replacing an entry of a row changes only that lead
pub entry_set : (was entries : List code.Entry) (n : ℕ) (e : code.Entry) → ((k : ℕ) → entry (leads_of entries) k ≡ entry (leads_of was) k) → n < length entries
    → HasPut (leads_of was) n (lead_of e) (leads_of (slice_set entries n e))
entry_set was entries n e same l = record {
  put = ap (λ r. entry r n) (map-set lead_of entries n e) ∙ get_or-set_same (leads_of entries) n (lead_of e) Stuck (let m = length-map entries lead_of in omega (arith, l, m));
  others = λ k h. ap (λ r. entry r k) (map-set lead_of entries n e) ∙ get_or-set_other (leads_of entries) n k (lead_of e) Stuck h ∙ same k;
}

-- the stored part of a class's row is the class's part of the table
pub row_stands : (t : Tables) (c : ℕ) (row : Vec code.Entry Global) → IsSound t → c ≤ t.end → row ≡ slice_index_or t.rows.items c row → leads_of row.items ≡ kept_row t c
row_stands t c row sound is-class is =
    ap (λ (r : Vec code.Entry Global). leads_of r.items) is
    ∙ sym (get_or-map (λ (r : Vec code.Entry Global). leads_of r.items) t.rows.items c row [] (let n = sound.counted in omega (arith, n, is-class)))

-- a table with another row for a class
module _ (t : Tables) (c : ℕ) (row : Vec code.Entry Global) (sound : IsSound t) (is-class : c ≤ t.end) where
  abbrev next : Tables
  next = record t { rows = with_item t.rows c row }

  row_there : kept_row next c ≡ leads_of row.items
  row_there =
      get_or-map (λ (r : Vec code.Entry Global). leads_of r.items) (slice_set t.rows.items c row) c row [] (let n = sound.counted in let m = length-set t.rows.items c row in omega (arith, n, m, is-class))
      ∙ ap (λ (r : Vec code.Entry Global). leads_of r.items) (get_or-set_same t.rows.items c row row (let n = sound.counted in omega (arith, n, is-class)))

  row_elsewhere : (k : ℕ) → k ≢ c → kept_row next k ≡ kept_row t k
  row_elsewhere k h =
      ap (λ rs. slice_index_or rs k []) (map-set (λ (r : Vec code.Entry Global). leads_of r.items) t.rows.items c row)
      ∙ get_or-set_other (map (λ (r : Vec code.Entry Global). leads_of r.items) t.rows.items) c k (leads_of row.items) [] h

  -- the lead that is stored in the row is that of the rules
  pub put_kept : (n : ℕ) (l : Lead) (old : List Lead) → HasPut old n l (leads_of row.items) → l ≡ entry (row_in t c) n → entry (kept_row next c) n ≡ entry (row_in t c) n
  put_kept n l old has is = ap (λ r. entry r n) row_there ∙ has.put ∙ is

  -- storing a lead of the rules keeps the table sound
  pub put_remains : (n : ℕ) (l : Lead) (old : List Lead) → old ≡ kept_row t c → HasPut old n l (leads_of row.items) → l ≡ entry (row_in t c) n → Remains t next
  put_remains n l old was has is = record {
    rules = refl;
    end = refl;
    rounds = refl;
    kept = λ k m h. on k m (k == c) refl (m == n) refl h;
    sound = record { counted = length-set t.rows.items c row ∙ sound.counted; entries = λ k m. go k m (k == c) refl (m == n) refl };
  }
    where
      right : {x : Lead} → (x ≡ Stuck) ⊎ (x ≡ entry (row_in t c) n) → x ≢ Stuck → x ≡ entry (row_in t c) n
      right (inl e) h = absurd (h e)
      right (inr e) h = e

      here : (m : ℕ) (v : Bool) → (m == n) ≡ v → (entry (kept_row next c) m ≡ Stuck) ⊎ (entry (kept_row next c) m ≡ entry (row_in t c) m)
      here m true e = inr (ap (λ r. entry r m) row_there ∙ ap (entry (leads_of row.items)) (eqb-true m n e) ∙ has.put ∙ is ∙ ap (entry (row_in t c)) (sym (eqb-true m n e)))
      here m false e =
          subst (λ (x : Lead). (x ≡ Stuck) ⊎ (x ≡ entry (row_in t c) m)) (sym (ap (λ r. entry r m) row_there ∙ has.others m (eqb-false m n e) ∙ ap (λ r. entry r m) was)) (sound.entries c m)

      on : (k m : ℕ) (v : Bool) → (k == c) ≡ v → (w : Bool) → (m == n) ≡ w → entry (kept_row t k) m ≢ Stuck → entry (kept_row next k) m ≡ entry (kept_row t k) m
      on k m true e true f h =
          ap (λ r. entry r m) (ap (kept_row next) (eqb-true k c e) ∙ row_there) ∙ ap (entry (leads_of row.items)) (eqb-true m n f) ∙ has.put ∙ is
          ∙ sym (ap (λ j. entry (kept_row t j) m) (eqb-true k c e) ∙ ap (entry (kept_row t c)) (eqb-true m n f) ∙ right (sound.entries c n) (λ s. h (ap (λ j. entry (kept_row t j) m) (eqb-true k c e) ∙ ap (entry (kept_row t c)) (eqb-true m n f) ∙ s)))
      on k m true e false f h =
          ap (λ r. entry r m) (ap (kept_row next) (eqb-true k c e) ∙ row_there) ∙ has.others m (eqb-false m n f) ∙ ap (λ r. entry r m) was
          ∙ sym (ap (λ j. entry (kept_row t j) m) (eqb-true k c e))
      on k m false e w f h = ap (λ r. entry r m) (row_elsewhere k (eqb-false k c e))

      go : (k m : ℕ) (v : Bool) → (k == c) ≡ v → (w : Bool) → (m == n) ≡ w → (entry (kept_row next k) m ≡ Stuck) ⊎ (entry (kept_row next k) m ≡ entry (row_in t k) m)
      go k m true e w f = subst (λ (j : ℕ). (entry (kept_row next j) m ≡ Stuck) ⊎ (entry (kept_row next j) m ≡ entry (row_in t j) m)) (sym (eqb-true k c e)) (here m w f)
      go k m false e w f = subst (λ (r : List Lead). (entry r m ≡ Stuck) ⊎ (entry r m ≡ entry (row_in t k) m)) (sym (row_elsewhere k (eqb-false k c e))) (sound.entries k m)
