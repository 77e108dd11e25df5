-- The token lists that the grammar of while programs derives as an expression or as atoms spell one of programs.
use Rattle.std.proofs.Common.{◌≡◌, ℕ, zero, suc, List, [], ◌∷◌, ◌++◌, map, Option, Some, refl, sym, ap, subst, ◌∙◌}
use Rattle.std.proofs.Common.{inl, inr, append_assoc, append-nil}
use Rattle.std.specs.Prelude.{⊤}
use Rattle.std.proofs.lemmas.List.{map-append}
use Rattle.text_grammar.specs.text_core.Faults.{Among}
use Rattle.text_grammar.specs.declared.symbol.Symbol.{Symbol}
use Rattle.text_grammar.specs.declared.symbol.Symbol.TheVariants as symbol
use Rattle.text_grammar.specs.Grammars.{Event, Derives, alternatives}
use Rattle.text_grammar.proofs.Induction.{StandsAlong, derived_stands}
use Rattle.expr_text.specs.Pieces as programs
use Rattle.expr_text.specs.Pieces.{Digits, Word, Open, Close, Plus, Minus, Times, Caret}
use Rattle.expr_text.specs.Trees.{Sum, Alone, Added, Subtracted, Product, Single, Multiplied, Factor, Plain, Raised}
use Rattle.expr_text.specs.Trees.{Negated, Base, Number, Named, Bracketed}
use Rattle.expr_text.specs.Guards.{Atom, Always, Compared, Atoms, First, Joined}
use Rattle.while_text.specs.declared.piece.Piece.{Piece}
use Rattle.while_text.specs.Drafts.{bytes_of}
use Rattle.while_text.specs.Grammar.{while_grammar}
use Rattle.while_laws.specs.Spelled.{spelled, SpellSum, SpellAtom, SpellAtoms}
use Rattle.while_laws.proofs.Rows.{sum_row, product_row, factor_row, base_row, sum_pieces}
use Rattle.while_laws.proofs.Classes.{name_spelled, number_spelled, open_spelled, close_spelled, plus_spelled}
use Rattle.while_laws.proofs.Classes.{minus_spelled, times_spelled, caret_spelled, relation_signed, joint_signed}
use Rattle.while_laws.proofs.Classes.{truth_worded}

-- Tokens in two parts, the second followed by nothing.
pub two_parts : (ps os qs us vs : List Piece) → ps ≡ os ++ qs → qs ≡ us ++ vs → vs ≡ [] → ps ≡ os ++ us
two_parts ps os qs us vs e f g =
    e ∙ ap (λ (x : List Piece). os ++ x) (f ∙ ap (λ (x : List Piece). us ++ x) g ∙ append-nil us)

module _ (text : List ℕ) where
  -- The tokens of programs' expressions that these tokens are.
  abbrev spell : List Piece → List (Option programs.Piece)
  spell ps = map (spelled text) ps

  -- The tokens are those of a part of an expression, or those of what continues one.
  abbrev pub SumIn : List Piece → Type 0
  SumIn ps = (s : Sum) × (spell ps ≡ sum_row s)

  abbrev MoreProducts : List Piece → Type 0
  MoreProducts ps = (before : Sum) → (s : Sum) × (sum_row before ++ spell ps ≡ sum_row s)

  abbrev ProductIn : List Piece → Type 0
  ProductIn ps = (p : Product) × (spell ps ≡ product_row p)

  abbrev MoreFactors : List Piece → Type 0
  MoreFactors ps = (before : Product) → (p : Product) × (product_row before ++ spell ps ≡ product_row p)

  abbrev FactorIn : List Piece → Type 0
  FactorIn ps = (f : Factor) × (spell ps ≡ factor_row f)

  abbrev ExponentIn : List Piece → Type 0
  ExponentIn ps = (b : Base) → (f : Factor) × (base_row b ++ spell ps ≡ factor_row f)

  abbrev BaseIn : List Piece → Type 0
  BaseIn ps = (b : Base) × (spell ps ≡ base_row b)

  -- The tokens are those of an atom or of atoms, or those of what continues atoms.
  abbrev AtomIn : List Piece → Type 0
  AtomIn ps = (a : Atom) × SpellAtom text a ps

  abbrev MoreAtoms : List Piece → Type 0
  MoreAtoms ps = (before : Atoms) (bs : List Piece) → SpellAtoms text before bs
      → (atoms : Atoms) × SpellAtoms text atoms (bs ++ ps)

  abbrev pub AtomsIn : List Piece → Type 0
  AtomsIn ps = (atoms : Atoms) × SpellAtoms text atoms ps

  -- What the events and tokens of each nonterminal spell.
  abbrev pub Spells : ℕ → List (Event Piece) → List Piece → Type 0
  Spells zero es ps = ⊤
  Spells (suc zero) es ps = ⊤
  Spells (suc (suc zero)) es ps = ⊤
  Spells (suc (suc (suc zero))) es ps = ⊤
  Spells (suc (suc (suc (suc zero)))) es ps = ⊤
  Spells (suc (suc (suc (suc (suc zero))))) es ps = ⊤
  Spells (suc (suc (suc (suc (suc (suc zero)))))) es ps = ⊤
  Spells (suc (suc (suc (suc (suc (suc (suc zero))))))) es ps = AtomsIn ps
  Spells (suc (suc (suc (suc (suc (suc (suc (suc zero)))))))) es ps = MoreAtoms ps
  Spells (suc (suc (suc (suc (suc (suc (suc (suc (suc zero))))))))) es ps = AtomIn ps
  Spells (suc (suc (suc (suc (suc (suc (suc (suc (suc (suc zero)))))))))) es ps = SumIn ps
  Spells (suc (suc (suc (suc (suc (suc (suc (suc (suc (suc (suc zero))))))))))) es ps = MoreProducts ps
  Spells (suc (suc (suc (suc (suc (suc (suc (suc (suc (suc (suc (suc zero)))))))))))) es ps = ProductIn ps
  Spells (suc (suc (suc (suc (suc (suc (suc (suc (suc (suc (suc (suc (suc zero))))))))))))) es ps = MoreFactors ps
  Spells (suc (suc (suc (suc (suc (suc (suc (suc (suc (suc (suc (suc (suc (suc zero)))))))))))))) es ps = FactorIn ps
  Spells (suc (suc (suc (suc (suc (suc (suc (suc (suc (suc (suc (suc (suc (suc (suc zero))))))))))))))) es ps = ExponentIn ps
  Spells (suc (suc (suc (suc (suc (suc (suc (suc (suc (suc (suc (suc (suc (suc (suc (suc zero)))))))))))))))) es ps = BaseIn ps
  Spells (suc (suc (suc (suc (suc (suc (suc (suc (suc (suc (suc (suc (suc (suc (suc (suc (suc n))))))))))))))))) es ps = ⊤

  abbrev Along : List Symbol → List (Event Piece) → List Piece → Type 0
  Along body es ps = StandsAlong while_grammar Spells body es ps

  -- Tokens in two parts are spelled part by part.
  spell_two : (ps os qs us vs : List Piece) → ps ≡ os ++ qs → qs ≡ us ++ vs → vs ≡ []
      → spell ps ≡ spell os ++ spell us
  spell_two ps os qs us vs e f g = ap spell (two_parts ps os qs us vs e f g) ∙ map-append (spelled text) os us

  -- A token and a part after it are spelled one after the other.
  spell_behind : (p : Piece) (q : programs.Piece) (ps qs os rs : List Piece) → spelled text p ≡ Some q → ps ≡ p ∷ qs
      → qs ≡ os ++ rs → rs ≡ [] → spell ps ≡ Some q ∷ spell os
  spell_behind p q ps qs os rs h e f g =
      ap spell (e ∙ ap (λ (x : List Piece). p ∷ x) (f ∙ ap (λ (x : List Piece). os ++ x) g ∙ append-nil os))
      ∙ ap (λ (x : Option programs.Piece). x ∷ spell os) h

  -- A single token is spelled alone.
  spell_alone : (p : Piece) (q : programs.Piece) (ps qs : List Piece) → spelled text p ≡ Some q → ps ≡ p ∷ qs
      → qs ≡ [] → spell ps ≡ Some q ∷ []
  spell_alone p q ps qs h e f =
      ap spell (e ∙ ap (λ (x : List Piece). p ∷ x) f) ∙ ap (λ (x : Option programs.Piece). x ∷ []) h

  -- A token and two parts after it are spelled one after the other.
  spell_three : (p : Piece) (q : programs.Piece) (ps qs os rs us vs : List Piece) → spelled text p ≡ Some q
      → ps ≡ p ∷ qs → qs ≡ os ++ rs → rs ≡ us ++ vs → vs ≡ [] → spell ps ≡ Some q ∷ (spell os ++ spell us)
  spell_three p q ps qs os rs us vs h e f g i =
      ap spell (e ∙ ap (λ (x : List Piece). p ∷ x) (two_parts qs os rs us vs f g i))
      ∙ ap (λ (x : Option programs.Piece). x ∷ spell (os ++ us)) h
      ∙ ap (λ (xs : List (Option programs.Piece)). Some q ∷ xs) (map-append (spelled text) os us)

  -- The alternatives of expressions and their parts spell them.
  sum_spelled : (es : List (Event Piece)) (ps : List Piece) → Along (symbol.Made 12 ∷ symbol.Made 11 ∷ []) es ps
      → SumIn ps
  sum_spelled es ps (ds, fs, os, qs, one, e, f, (cs, gs, us, vs, rest, e2, f2, (e3, f3))) =
      let more = rest (Alone one.0) in (
        more.0,
        spell_two ps os qs us vs f f2 f3 ∙ ap (λ (xs : List (Option programs.Piece)). xs ++ spell us) one.1 ∙ more.1,
      )

  plus_more : (es : List (Event Piece)) (ps : List Piece)
      → Along (symbol.Piece 18 ∷ symbol.Made 12 ∷ symbol.Made 11 ∷ []) es ps → MoreProducts ps
  plus_more es ps (p, fs, qs, k, e, f, (ds, gs, os, rs, one, e2, f2, (cs, hs, us, vs, rest, e3, f3, (e4, f4)))) before =
      let more = rest (Added before one.0) in (
        more.0,
        ap (λ (xs : List (Option programs.Piece)). sum_row before ++ xs)
            (spell_three p Plus ps qs os rs us vs (plus_spelled p.sort (bytes_of text p) k) f f2 f3 f4
            ∙ ap (λ (xs : List (Option programs.Piece)). Some Plus ∷ (xs ++ spell us)) one.1)
            ∙ sym (append_assoc (sum_row before) (Some Plus ∷ product_row one.0) (spell us)) ∙ more.1,
      )

  minus_more : (es : List (Event Piece)) (ps : List Piece)
      → Along (symbol.Piece 19 ∷ symbol.Made 12 ∷ symbol.Made 11 ∷ []) es ps → MoreProducts ps
  minus_more es ps (p, fs, qs, k, e, f, (ds, gs, os, rs, one, e2, f2, (cs, hs, us, vs, rest, e3, f3, (e4, f4)))) before =
      let more = rest (Subtracted before one.0) in (
        more.0,
        ap (λ (xs : List (Option programs.Piece)). sum_row before ++ xs)
            (spell_three p Minus ps qs os rs us vs (minus_spelled p.sort (bytes_of text p) k) f f2 f3 f4
            ∙ ap (λ (xs : List (Option programs.Piece)). Some Minus ∷ (xs ++ spell us)) one.1)
            ∙ sym (append_assoc (sum_row before) (Some Minus ∷ product_row one.0) (spell us)) ∙ more.1,
      )

  no_products : (es : List (Event Piece)) (ps : List Piece) → Along [] es ps → MoreProducts ps
  no_products es ps (e, f) before =
      (before, ap (λ (xs : List Piece). sum_row before ++ spell xs) f ∙ append-nil (sum_row before))

  product_spelled : (es : List (Event Piece)) (ps : List Piece) → Along (symbol.Made 14 ∷ symbol.Made 13 ∷ []) es ps
      → ProductIn ps
  product_spelled es ps (ds, fs, os, qs, one, e, f, (cs, gs, us, vs, rest, e2, f2, (e3, f3))) =
      let more = rest (Single one.0) in (
        more.0,
        spell_two ps os qs us vs f f2 f3 ∙ ap (λ (xs : List (Option programs.Piece)). xs ++ spell us) one.1 ∙ more.1,
      )

  times_more : (es : List (Event Piece)) (ps : List Piece)
      → Along (symbol.Piece 20 ∷ symbol.Made 14 ∷ symbol.Made 13 ∷ []) es ps → MoreFactors ps
  times_more es ps (p, fs, qs, k, e, f, (ds, gs, os, rs, one, e2, f2, (cs, hs, us, vs, rest, e3, f3, (e4, f4)))) before =
      let more = rest (Multiplied before one.0) in (
        more.0,
        ap (λ (xs : List (Option programs.Piece)). product_row before ++ xs)
            (spell_three p Times ps qs os rs us vs (times_spelled p.sort (bytes_of text p) k) f f2 f3 f4
            ∙ ap (λ (xs : List (Option programs.Piece)). Some Times ∷ (xs ++ spell us)) one.1)
            ∙ sym (append_assoc (product_row before) (Some Times ∷ factor_row one.0) (spell us)) ∙ more.1,
      )

  no_factors : (es : List (Event Piece)) (ps : List Piece) → Along [] es ps → MoreFactors ps
  no_factors es ps (e, f) before =
      (before, ap (λ (xs : List Piece). product_row before ++ spell xs) f ∙ append-nil (product_row before))

  negation_spelled : (es : List (Event Piece)) (ps : List Piece) → Along (symbol.Piece 19 ∷ symbol.Made 14 ∷ []) es ps
      → FactorIn ps
  negation_spelled es ps (p, fs, qs, k, e, f, (ds, gs, os, rs, one, e2, f2, (e3, f3))) = (
    Negated one.0,
    spell_behind p Minus ps qs os rs (minus_spelled p.sort (bytes_of text p) k) f f2 f3
        ∙ ap (λ (xs : List (Option programs.Piece)). Some Minus ∷ xs) one.1,
  )

  operand_spelled : (es : List (Event Piece)) (ps : List Piece) → Along (symbol.Made 16 ∷ symbol.Made 15 ∷ []) es ps
      → FactorIn ps
  operand_spelled es ps (ds, fs, os, qs, one, e, f, (cs, gs, us, vs, rest, e2, f2, (e3, f3))) =
      let more = rest one.0 in (
        more.0,
        spell_two ps os qs us vs f f2 f3 ∙ ap (λ (xs : List (Option programs.Piece)). xs ++ spell us) one.1 ∙ more.1,
      )

  exponent_spelled : (es : List (Event Piece)) (ps : List Piece) → Along (symbol.Piece 21 ∷ symbol.Piece 7 ∷ []) es ps
      → ExponentIn ps
  exponent_spelled es ps (p, fs, qs, k, e, f, (q, gs, rs, l, e2, f2, (e3, f3))) b = (
    Raised b (bytes_of text q),
    ap (λ (xs : List (Option programs.Piece)). base_row b ++ xs)
        (ap spell (f ∙ ap (λ (x : List Piece). p ∷ x) (f2 ∙ ap (λ (x : List Piece). q ∷ x) f3))
        ∙ ap (λ (x : Option programs.Piece). x ∷ spelled text q ∷ []) (caret_spelled p.sort (bytes_of text p) k)
        ∙ ap (λ (x : Option programs.Piece). Some Caret ∷ x ∷ []) (number_spelled q.sort (bytes_of text q) l)),
  )

  no_exponent : (es : List (Event Piece)) (ps : List Piece) → Along [] es ps → ExponentIn ps
  no_exponent es ps (e, f) b =
      (Plain b, ap (λ (xs : List Piece). base_row b ++ spell xs) f ∙ append-nil (base_row b))

  number_alone : (es : List (Event Piece)) (ps : List Piece) → Along (symbol.Piece 7 ∷ []) es ps → BaseIn ps
  number_alone es ps (p, fs, qs, k, e, f, (e2, f2)) = (
    Number (bytes_of text p),
    spell_alone p (Digits (bytes_of text p)) ps qs (number_spelled p.sort (bytes_of text p) k) f f2,
  )

  name_alone : (es : List (Event Piece)) (ps : List Piece) → Along (symbol.Piece 6 ∷ []) es ps → BaseIn ps
  name_alone es ps (p, fs, qs, k, e, f, (e2, f2)) = (
    Named (bytes_of text p),
    spell_alone p (Word (bytes_of text p)) ps qs (name_spelled p.sort (bytes_of text p) k) f f2,
  )

  bracket_spelled : (es : List (Event Piece)) (ps : List Piece)
      → Along (symbol.Piece 12 ∷ symbol.Made 10 ∷ symbol.Piece 13 ∷ []) es ps → BaseIn ps
  bracket_spelled es ps (p, fs, qs, k, e, f, (ds, gs, os, rs, inside, e2, f2, (q, hs, us, l, e3, f3, (e4, f4)))) = (
    Bracketed inside.0,
    ap spell (f ∙ ap (λ (x : List Piece). p ∷ x) (f2 ∙ ap (λ (x : List Piece). os ++ x) (f3
        ∙ ap (λ (x : List Piece). q ∷ x) f4)))
        ∙ ap (λ (x : Option programs.Piece). x ∷ spell (os ++ q ∷ [])) (open_spelled p.sort (bytes_of text p) k)
        ∙ ap (λ (xs : List (Option programs.Piece)). Some Open ∷ xs) (map-append (spelled text) os (q ∷ [])
        ∙ ap (λ (xs : List (Option programs.Piece)). xs ++ spelled text q ∷ []) inside.1
        ∙ ap (λ (x : Option programs.Piece). sum_row inside.0 ++ x ∷ []) (close_spelled q.sort (bytes_of text q) l)),
  )

  -- Tokens that are spelled in order spell the expression.
  pub in_order : (s : Sum) (ps : List Piece) → spell ps ≡ sum_row s → SpellSum text s ps
  in_order s ps e = e ∙ sym (sum_pieces s)

  -- The alternatives of atoms spell them.
  truth_spelled : (es : List (Event Piece)) (ps : List Piece) → Along (symbol.Piece 5 ∷ []) es ps → AtomIn ps
  truth_spelled es ps (p, fs, qs, k, e, f, (e2, f2)) =
      let truth = truth_worded p.sort (bytes_of text p) k in
      (Always truth.0, (p, f ∙ ap (λ (x : List Piece). p ∷ x) f2, truth.1))

  comparison_spelled : (es : List (Event Piece)) (ps : List Piece)
      → Along (symbol.Made 10 ∷ symbol.Piece 17 ∷ symbol.Made 10 ∷ []) es ps → AtomIn ps
  comparison_spelled es ps (
    ds,
    fs,
    os,
    qs,
    left,
    e,
    f,
    (p, gs, rs, k, e2, f2, (cs, hs, us, vs, right, e3, f3, (e4, f4))),
  ) =
      let sign = relation_signed p.sort (bytes_of text p) k in (
        Compared left.0 sign.0 right.0,
        (
          os,
          p,
          us,
          f ∙ ap (λ (x : List Piece). os ++ x) (f2 ∙ ap (λ (x : List Piece). p ∷ x) (f3
              ∙ ap (λ (x : List Piece). us ++ x) f4 ∙ append-nil us)),
          in_order left.0 os left.1,
          sign.1,
          in_order right.0 us right.1,
        ),
      )

  atoms_spelled : (es : List (Event Piece)) (ps : List Piece) → Along (symbol.Made 9 ∷ symbol.Made 8 ∷ []) es ps
      → AtomsIn ps
  atoms_spelled es ps (ds, fs, os, qs, one, e, f, (cs, gs, us, vs, rest, e2, f2, (e3, f3))) =
      let more = rest (First one.0) os one.1 in
      (more.0, subst (SpellAtoms text more.0) (sym (two_parts ps os qs us vs f f2 f3)) more.1)

  more_atoms_spelled : (es : List (Event Piece)) (ps : List Piece)
      → Along (symbol.Piece 16 ∷ symbol.Made 9 ∷ symbol.Made 8 ∷ []) es ps → MoreAtoms ps
  more_atoms_spelled es ps (
    p,
    fs,
    qs,
    k,
    e,
    f,
    (ds, gs, os, rs, one, e2, f2, (cs, hs, us, vs, rest, e3, f3, (e4, f4))),
  ) before bs h =
      let joint = joint_signed p.sort (bytes_of text p) k in
      let more = rest (Joined before joint.0 one.0) (bs ++ p ∷ os) (bs, p, os, refl, h, joint.1, one.1) in
      (more.0, subst (SpellAtoms text more.0) (append_assoc bs (p ∷ os) us ∙ sym (ap (λ (x : List Piece). bs ++ x) whole)) more.1)
    where
      whole : ps ≡ p ∷ (os ++ us)
      whole = f ∙ ap (λ (x : List Piece). p ∷ x) (two_parts qs os rs us vs f2 f3 f4)

  no_atoms_spelled : (es : List (Event Piece)) (ps : List Piece) → Along [] es ps → MoreAtoms ps
  no_atoms_spelled es ps (e, f) before bs h =
      (before, subst (SpellAtoms text before) (sym (ap (λ (x : List Piece). bs ++ x) f ∙ append-nil bs)) h)

  -- Each alternative spells what its nonterminal says.
  pub each : (n : ℕ) (body : List Symbol) → Among body (alternatives while_grammar.rules n) → (es : List (Event Piece))
      (ps : List Piece) → Along body es ps → Spells n es ps
  each zero body a es ps w = tt
  each (suc zero) body a es ps w = tt
  each (suc (suc zero)) body a es ps w = tt
  each (suc (suc (suc zero))) body a es ps w = tt
  each (suc (suc (suc (suc zero)))) body a es ps w = tt
  each (suc (suc (suc (suc (suc zero))))) body a es ps w = tt
  each (suc (suc (suc (suc (suc (suc zero)))))) body a es ps w = tt
  each (suc (suc (suc (suc (suc (suc (suc zero))))))) body (inl e) es ps w =
      atoms_spelled es ps (subst (λ (b : List Symbol). Along b es ps) e w)
  each (suc (suc (suc (suc (suc (suc (suc zero))))))) body (inr a) es ps w = absurd a
  each (suc (suc (suc (suc (suc (suc (suc (suc zero)))))))) body (inl e) es ps w =
      more_atoms_spelled es ps (subst (λ (b : List Symbol). Along b es ps) e w)
  each (suc (suc (suc (suc (suc (suc (suc (suc zero)))))))) body (inr (inl e)) es ps w =
      no_atoms_spelled es ps (subst (λ (b : List Symbol). Along b es ps) e w)
  each (suc (suc (suc (suc (suc (suc (suc (suc zero)))))))) body (inr (inr a)) es ps w = absurd a
  each (suc (suc (suc (suc (suc (suc (suc (suc (suc zero))))))))) body (inl e) es ps w =
      truth_spelled es ps (subst (λ (b : List Symbol). Along b es ps) e w)
  each (suc (suc (suc (suc (suc (suc (suc (suc (suc zero))))))))) body (inr (inl e)) es ps w =
      comparison_spelled es ps (subst (λ (b : List Symbol). Along b es ps) e w)
  each (suc (suc (suc (suc (suc (suc (suc (suc (suc zero))))))))) body (inr (inr a)) es ps w = absurd a
  each (suc (suc (suc (suc (suc (suc (suc (suc (suc (suc zero)))))))))) body (inl e) es ps w =
      sum_spelled es ps (subst (λ (b : List Symbol). Along b es ps) e w)
  each (suc (suc (suc (suc (suc (suc (suc (suc (suc (suc zero)))))))))) body (inr a) es ps w = absurd a
  each (suc (suc (suc (suc (suc (suc (suc (suc (suc (suc (suc zero))))))))))) body (inl e) es ps w =
      plus_more es ps (subst (λ (b : List Symbol). Along b es ps) e w)
  each (suc (suc (suc (suc (suc (suc (suc (suc (suc (suc (suc zero))))))))))) body (inr (inl e)) es ps w =
      minus_more es ps (subst (λ (b : List Symbol). Along b es ps) e w)
  each (suc (suc (suc (suc (suc (suc (suc (suc (suc (suc (suc zero))))))))))) body (inr (inr (inl e))) es ps w =
      no_products es ps (subst (λ (b : List Symbol). Along b es ps) e w)
  each (suc (suc (suc (suc (suc (suc (suc (suc (suc (suc (suc zero))))))))))) body (inr (inr (inr a))) es ps w = absurd a
  each (suc (suc (suc (suc (suc (suc (suc (suc (suc (suc (suc (suc zero)))))))))))) body (inl e) es ps w =
      product_spelled es ps (subst (λ (b : List Symbol). Along b es ps) e w)
  each (suc (suc (suc (suc (suc (suc (suc (suc (suc (suc (suc (suc zero)))))))))))) body (inr a) es ps w = absurd a
  each (suc (suc (suc (suc (suc (suc (suc (suc (suc (suc (suc (suc (suc zero))))))))))))) body (inl e) es ps w =
      times_more es ps (subst (λ (b : List Symbol). Along b es ps) e w)
  each (suc (suc (suc (suc (suc (suc (suc (suc (suc (suc (suc (suc (suc zero))))))))))))) body (inr (inl e)) es ps w =
      no_factors es ps (subst (λ (b : List Symbol). Along b es ps) e w)
  each (suc (suc (suc (suc (suc (suc (suc (suc (suc (suc (suc (suc (suc zero))))))))))))) body (inr (inr a)) es ps w = absurd a
  each (suc (suc (suc (suc (suc (suc (suc (suc (suc (suc (suc (suc (suc (suc zero)))))))))))))) body (inl e) es ps w =
      negation_spelled es ps (subst (λ (b : List Symbol). Along b es ps) e w)
  each (suc (suc (suc (suc (suc (suc (suc (suc (suc (suc (suc (suc (suc (suc zero)))))))))))))) body (inr (inl e)) es ps w =
      operand_spelled es ps (subst (λ (b : List Symbol). Along b es ps) e w)
  each (suc (suc (suc (suc (suc (suc (suc (suc (suc (suc (suc (suc (suc (suc zero)))))))))))))) body (inr (inr a)) es ps w = absurd a
  each (suc (suc (suc (suc (suc (suc (suc (suc (suc (suc (suc (suc (suc (suc (suc zero))))))))))))))) body (inl e) es ps w =
      exponent_spelled es ps (subst (λ (b : List Symbol). Along b es ps) e w)
  each (suc (suc (suc (suc (suc (suc (suc (suc (suc (suc (suc (suc (suc (suc (suc zero))))))))))))))) body (inr (inl e)) es ps w =
      no_exponent es ps (subst (λ (b : List Symbol). Along b es ps) e w)
  each (suc (suc (suc (suc (suc (suc (suc (suc (suc (suc (suc (suc (suc (suc (suc zero))))))))))))))) body (inr (inr a)) es ps w = absurd a
  each (suc (suc (suc (suc (suc (suc (suc (suc (suc (suc (suc (suc (suc (suc (suc (suc zero)))))))))))))))) body (inl e) es ps w =
      number_alone es ps (subst (λ (b : List Symbol). Along b es ps) e w)
  each (suc (suc (suc (suc (suc (suc (suc (suc (suc (suc (suc (suc (suc (suc (suc (suc zero)))))))))))))))) body (inr (inl e)) es ps w =
      name_alone es ps (subst (λ (b : List Symbol). Along b es ps) e w)
  each (suc (suc (suc (suc (suc (suc (suc (suc (suc (suc (suc (suc (suc (suc (suc (suc zero)))))))))))))))) body (inr (inr (inl e))) es ps w =
      bracket_spelled es ps (subst (λ (b : List Symbol). Along b es ps) e w)
  each (suc (suc (suc (suc (suc (suc (suc (suc (suc (suc (suc (suc (suc (suc (suc (suc zero)))))))))))))))) body (inr (inr (inr a))) es ps w = absurd a
  each (suc (suc (suc (suc (suc (suc (suc (suc (suc (suc (suc (suc (suc (suc (suc (suc (suc n))))))))))))))))) body a es ps w = tt

  -- Everything that is derived spells what its nonterminal says.
  pub derived_spells : (n : ℕ) (ps : List Piece) (es : List (Event Piece))
      → Derives while_grammar (symbol.Made n ∷ []) es ps → (os : List Piece) × (ds : List (Event Piece)) × Spells n ds os
      × (ps ≡ os)
  derived_spells n ps es d = go (derived_stands while_grammar Spells each d)
    where
      go : Along (symbol.Made n ∷ []) es ps → (os : List Piece) × (ds : List (Event Piece)) × Spells n ds os × (ps ≡ os)
      go (ds, fs, os, qs, w, e, f, (e2, f2)) = (os, ds, w, f ∙ ap (λ (x : List Piece). os ++ x) f2 ∙ append-nil os)

  -- The tokens derived as an expression, as an atom and as atoms spell these.
  pub sum_spells : (ps : List Piece) (es : List (Event Piece)) → Derives while_grammar (symbol.Made 10 ∷ []) es ps
      → (s : Sum) × SpellSum text s ps
  sum_spells ps es d = go (derived_spells 10 ps es d)
    where
      go : (os : List Piece) × (ds : List (Event Piece)) × SumIn os × (ps ≡ os) → (s : Sum) × SpellSum text s ps
      go (os, ds, w, e) = (w.0, subst (SpellSum text w.0) (sym e) (in_order w.0 os w.1))

  pub atom_spells : (ps : List Piece) (es : List (Event Piece)) → Derives while_grammar (symbol.Made 9 ∷ []) es ps
      → (a : Atom) × SpellAtom text a ps
  atom_spells ps es d = go (derived_spells 9 ps es d)
    where
      go : (os : List Piece) × (ds : List (Event Piece)) × AtomIn os × (ps ≡ os) → (a : Atom) × SpellAtom text a ps
      go (os, ds, w, e) = (w.0, subst (SpellAtom text w.0) (sym e) w.1)

  pub atoms_spell : (ps : List Piece) (es : List (Event Piece)) → Derives while_grammar (symbol.Made 7 ∷ []) es ps
      → (atoms : Atoms) × SpellAtoms text atoms ps
  atoms_spell ps es d = go (derived_spells 7 ps es d)
    where
      go : (os : List Piece) × (ds : List (Event Piece)) × AtomsIn os × (ps ≡ os)
          → (atoms : Atoms) × SpellAtoms text atoms ps
      go (os, ds, w, e) = (w.0, subst (SpellAtoms text w.0) (sym e) w.1)
