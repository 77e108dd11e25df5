-- Entering forms by their symbols from the last to the first: each form replaces those after it.
use Rattle.std.proofs.Common.{◌≡◌, ℕ, ◌+◌, ◌<◌, ◌≤◌, ◌^◌, ◌==◌, Bool, true, false, cond, List, [], ◌∷◌, length, map, get_or, drop, All}
use Rattle.std.proofs.Common.{Option, Some, None, IfSome, refl, sym, ap, ◌∙◌, subst, arith}
use Rattle.std.proofs.lemmas.List.{drop_all}
use Rattle.std.proofs.lemmas.List.Elements.{All-head, All-tail}
use Rattle.std.specs.BTreeMap.{BTreeMap, get, is_at}
use Rattle.std.specs.Cmp.{unsigned_tied}
use Rattle.std.specs.Ordering.{nat_cmp}
use denote.Ref.{Bor}
use Rattle.linear_forms.specs.Forms as forms
use Rattle.cert_program.specs.cert_rules.Composed.{rank_form}
use Rattle.cert_types.specs.declared.rank.Form.{Form}
use Rattle.cert_types.specs.FormLookups.{HasForms}
use Rattle.cert_types.specs.Sizes.{form_found, IsShort}
use Rattle.cert_types.specs.Views.{form_of}
use Rattle.cert_types.proofs.Rules.{form-next}

-- after the last form no form is entered
pub forms-none : (fs : List Form) (i : ℕ) (empty : BTreeMap ℕ (Bor Form)) → length fs ≤ i
    → ((a : ℕ) → get nat_cmp empty a ≡ None) → HasForms (drop i fs) empty
forms-none fs i empty l h = record {
  each = λ a. ap form_found (h a) ∙ sym (ap (λ (gs : List Form). rank_form (map form_of gs) (Some a)) (drop_all i fs l));
}

-- a form that is entered is the first at its symbol among the forms from it on
pub forms-more : (fs : List Form) (i : ℕ) (r : Bor Form) (old new : BTreeMap ℕ (Bor Form)) → i < length fs
    → r.now ≡ get_or fs i r.now → HasForms (drop (i + 1) fs) old
    → ((a : ℕ) → get nat_cmp new a ≡ cond (is_at (nat_cmp r.now.symbol) a) (Some r) (get nat_cmp old a))
    → HasForms (drop i fs) new
forms-more fs i r old new l e h u = record {
  each = λ a.
      ap form_found (u a)
      ∙ (ap (λ (v : Bool). form_found (cond v (Some r) (get nat_cmp old a))) (unsigned_tied r.now.symbol a)
      ∙ (chosen (r.now.symbol == a) (get nat_cmp old a)
      ∙ (ap (λ (g : forms.Form). cond (r.now.symbol == a) (form_of r.now).form g) (h.each a)
      ∙ sym (form-next fs i r.now a l e))));
}
  where
    chosen : (v : Bool) (o : Option (Bor Form)) → form_found (cond v (Some r) o) ≡ cond v (form_of r.now).form (form_found o)
    chosen true o = refl
    chosen false o = refl

-- the first form at a symbol is short if all forms are
short-form : (fs : List Form) → All IsShort fs → (o : Option ℕ) → length (rank_form (map form_of fs) o).coefs < 2 ^ 31
short-form fs h None = omega arith
short-form [] h (Some a) = omega arith
short-form (f ∷ fs) h (Some a) = go (f.symbol == a) (All-head IsShort f fs h) (short-form fs (All-tail IsShort f fs h) (Some a))
  where
    go : (v : Bool) → IsShort f → length (rank_form (map form_of fs) (Some a)).coefs < 2 ^ 31
        → length (cond v (form_of f).form (rank_form (map form_of fs) (Some a))).coefs < 2 ^ 31
    go true k m = k
    go false k m = m

-- a form that was found is short
pub found-short : (fs : List Form) → All IsShort fs → (found : Option (Bor Form)) (o : Option ℕ)
    → form_found found ≡ rank_form (map form_of fs) o → IfSome found (λ f. IsShort f.now)
found-short fs h None o e = tt
found-short fs h (Some f) o e =
    subst (λ (g : forms.Form). length g.coefs < 2 ^ 31) (sym e) (short-form fs h o)
