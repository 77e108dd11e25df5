-- Parts that are joined element by element: the parts so far and those of the remaining elements are all parts.
use Rattle.std.proofs.Common.{◌≡◌, ℕ, ◌+◌, ◌<◌, ◌≤◌, max, Bool, true, false, cond, List, [], ◌∷◌, ◌++◌, length, map}
use Rattle.std.proofs.Common.{get_or, drop, refl, sym, ap, ◌∙◌, arith}
use Rattle.std.proofs.lemmas.List.{drop_more, drop_all}
use Rattle.model.specs.Bounds as plain
use Rattle.model.specs.Bounds.{Parts, NoParts, Part}
use Rattle.bound_expr.specs.declared.bound.Bound.{Bound}
use Rattle.bound_expr.specs.Views.{bound_of, bounds_of, parts_of}
use Rattle.cert_types.specs.cert_rules.ComposedSizes.{Flow, offsets, factor_of}
use Rattle.cert_types.specs.Sizes.{joined}
use Rattle.cert_types.proofs.Parts.{joined-nothing, joined_assoc, parts_of-more}
use Rattle.size_nodes.specs.Growths.{offset_part, all_joined}
use Rattle.cert_types.proofs.cert_rules.Flows.{factor-least}
pub use Rattle.std.proofs.lemmas.Bool.{lt-ltb as less_decided, le-ltb as not_less_decided}

module _ {A : Type 0} (f : A → Parts) (xs : List A) (i : ℕ) where
  -- the parts so far, with those of one more element
  pub parts_more : (x : A) (done more whole : Parts) → i < length xs → x ≡ get_or xs i x
      → joined done (all_joined f (drop i xs)) ≡ whole → more ≡ joined done (f x)
      → joined more (all_joined f (drop (i + 1) xs)) ≡ whole
  parts_more x done more whole low e kept em =
      ap (λ (ps : Parts). joined ps (all_joined f (drop (i + 1) xs))) em
      ∙ (joined_assoc done (f x) (all_joined f (drop (i + 1) xs))
      ∙ (ap (λ (y : A). joined done (joined (f y) (all_joined f (drop (i + 1) xs)))) e
      ∙ (ap (λ (ys : List A). joined done (all_joined f ys)) (sym (drop_more xs i x low)) ∙ kept)))

  -- if no element is left, the parts so far are all parts
  pub parts_done : (done whole : Parts) → length xs ≤ i → joined done (all_joined f (drop i xs)) ≡ whole → done ≡ whole
  parts_done done whole low kept =
      sym (joined-nothing done) ∙ (ap (λ (ys : List A). joined done (all_joined f ys)) (sym (drop_all i xs low)) ∙ kept)

-- the parts of the images of a list
pub joined-map : {A B : Type 0} (f : B → Parts) (g : A → B) (xs : List A)
    → all_joined (λ x. f (g x)) xs ≡ all_joined f (map g xs)
joined-map f g [] = refl
joined-map f g (x ∷ xs) = ap (joined (f (g x))) (joined-map f g xs)

-- the offsets of flows are the parts of each
pub offsets-joined : (test : Flow → Bool) (fs : List Flow) → all_joined (offset_part test) fs ≡ offsets test fs
offsets-joined test [] = refl
offsets-joined test (f ∷ fs) = go (test f) refl (offsets-joined test fs)
  where
    go : (v : Bool) → test f ≡ v → all_joined (offset_part test) fs ≡ offsets test fs
        → all_joined (offset_part test) (f ∷ fs) ≡ offsets test (f ∷ fs)
    go true e h = rw e (ap (Part f.offset) h)
    go false e h = rw e h

-- pushing a bound joins its part; pushing nothing joins no part
pub one_pushed : (xs new : List Bound) (x : Bound) (b : plain.Bound) → new ≡ xs ++ x ∷ [] → bound_of x ≡ b
    → parts_of (bounds_of new) ≡ joined (parts_of (bounds_of xs)) (Part b NoParts)
one_pushed xs new x b en ex =
    ap (λ (ys : List Bound). parts_of (bounds_of ys)) en
    ∙ (parts_of-more xs x ∙ ap (λ (c : plain.Bound). joined (parts_of (bounds_of xs)) (Part c NoParts)) ex)

-- if nothing is pushed, the parts are unchanged
pub none_pushed : (ps : Parts) → ps ≡ joined ps NoParts
none_pushed ps = sym (joined-nothing ps)

-- a part that a test chooses is pushed
pub pushed_where : (v : Bool) (xs new : List Bound) (x : Bound) (b : plain.Bound) → v ≡ true → new ≡ xs ++ x ∷ []
    → bound_of x ≡ b → parts_of (bounds_of new) ≡ joined (parts_of (bounds_of xs)) (cond v (Part b NoParts) NoParts)
pushed_where v xs new x b h en ex =
    one_pushed xs new x b en ex
    ∙ ap (λ (w : Bool). joined (parts_of (bounds_of xs)) (cond w (Part b NoParts) NoParts)) (sym h)

-- where a test fails no part is pushed
pub kept_where : (v : Bool) (ps : Parts) (b : plain.Bound) → v ≡ false → ps ≡ joined ps (cond v (Part b NoParts) NoParts)
kept_where v ps b h = none_pushed ps ∙ ap (λ (w : Bool). joined ps (cond w (Part b NoParts) NoParts)) (sym h)

-- a maximum that starts from 1 is the factor itself
pub factor-begun : (fs : List Flow) (t : ℕ) → max 1 (factor_of fs t) ≡ factor_of fs t
factor-begun fs t = omega (arith, factor-least fs t)
