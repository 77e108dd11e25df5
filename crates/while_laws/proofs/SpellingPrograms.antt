-- The token lists that the grammar of while programs derives as a program spell one.
use Rattle.std.proofs.Common.{◌≡◌, ℕ, zero, suc, List, [], ◌∷◌, ◌++◌, refl, sym, ap, subst, ◌∙◌}
use Rattle.std.proofs.Common.{inl, inr, append_assoc, append-nil}
use Rattle.text_core.specs.Names.{position_of}
use Rattle.text_grammar.specs.text_core.Faults.{Among}
use Rattle.text_grammar.specs.declared.symbol.Symbol.{Symbol}
use Rattle.text_grammar.specs.declared.symbol.Symbol.TheVariants as symbol
use Rattle.text_grammar.specs.Grammars.{Event, Derives, alternatives}
use Rattle.text_grammar.proofs.Induction.{derived_stands}
use Rattle.expr_text.specs.Guards.{Atoms, atoms_terms}
use Rattle.expr_text.specs.Terms.{sum_term}
use Rattle.while_text.specs.model.Programs.{Name}
use Rattle.while_text.specs.while_model.Statements.{Assign, Choose, Skip, Statements, Nothing, Simple, While, If}
use Rattle.while_text.specs.while_model.Statements.{IsNonempty}
use Rattle.while_text.specs.declared.piece.Piece.{Piece}
use Rattle.while_text.specs.Drafts.{bytes_of}
use Rattle.while_text.specs.Grammar.{while_grammar}
use Rattle.while_text.specs.Reading.{Source}
use Rattle.while_text.proofs.InnerTokens.{sort_of_1, sort_of_2, sort_of_3, sort_of_4, sort_of_6, sort_of_8, sort_of_10}
use Rattle.while_text.proofs.InnerTokens.{sort_of_11, sort_of_14, sort_of_15}
use Rattle.while_laws.specs.Spelled.{SpellSum, SpellAtoms}
use Rattle.while_laws.specs.SpelledPrograms.{SpellNames, one_name, name_more, SpellTest, SpellStatements, SpellProgram}
use Rattle.while_laws.specs.SpelledPrograms.{nothing, assignment, choice, skip, loop, branch, branch_else}
use Rattle.while_laws.proofs.Spelling.{two_parts, in_order}
use Rattle.while_laws.proofs.SpelledSymbols.{sort_of_0, sort_of_9, sort_of_12, sort_of_13, StatementIn}
use Rattle.while_laws.proofs.SpelledSymbols.{IsBlock, ValueIn, OtherIn, Spells, Along, inner_each, inner_among}

module _ (text : List ℕ) where
  -- The alternatives of programs and their inputs.
  name_spelled : (es : List (Event Piece)) (ps : List Piece)
      → Along text (symbol.Piece 11 ∷ symbol.Piece 6 ∷ symbol.Made 1 ∷ []) es ps → Spells text 1 es ps
  name_spelled es ps (p, fs, qs, k, e, f, (q, gs, rs, l, e2, f2, (ds, hs, os, us, more, e3, f3, (e4, f4)))) name is =
      let w = more q (sort_of_6 q.sort l) in (
        bytes_of text name ∷ w.0,
        subst (λ (x : List Piece). SpellNames text (bytes_of text name ∷ w.0) (name ∷ x))
            (sym (f ∙ ap (λ (x : List Piece). p ∷ x) (f2 ∙ ap (λ (x : List Piece). q ∷ x)
            (f3 ∙ ap (λ (x : List Piece). os ++ x) f4 ∙ append-nil os))))
            (name_more name p is (sort_of_11 p.sort k) w.1),
      )

  names_end : (es : List (Event Piece)) (ps : List Piece) → Along text (symbol.Piece 10 ∷ []) es ps
      → Spells text 1 es ps
  names_end es ps (p, fs, qs, k, e, f, (e2, f2)) name is = (
    bytes_of text name ∷ [],
    subst (λ (x : List Piece). SpellNames text (bytes_of text name ∷ []) (name ∷ x))
        (sym (f ∙ ap (λ (x : List Piece). p ∷ x) f2)) (one_name name p is (sort_of_10 p.sort k)),
  )

  program_spelled : (es : List (Event Piece)) (ps : List Piece)
      → Along text (symbol.Piece 0 ∷ symbol.Piece 6 ∷ symbol.Made 1 ∷ symbol.Made 3 ∷ symbol.Made 2 ∷ []) es ps
      → Spells text 0 es ps
  program_spelled es ps (
    p,
    fs,
    qs,
    k,
    e,
    f,
    (
      q,
      gs,
      rs,
      l,
      e2,
      f2,
      (
        ds,
        hs,
        os,
        us,
        more,
        e3,
        f3,
        (cs, js, vs, ws, one, e4, f4, (bs, is, xs, ys, rest, e5, f5, (e6, f6))),
      ),
    ),
  ) =
      let inputs = more q (sort_of_6 q.sort l) in
      let others = rest inputs.0 in
      let all = one inputs.0 others.0 others.1 xs others.2 in (
        record { names = inputs.0; program = all.0; at = all.1 },
        record {
          word = p;
          inputs = q ∷ os;
          statements = vs ++ xs;
          whole = f ∙ ap (λ (x : List Piece). p ∷ x) (f2 ∙ ap (λ (x : List Piece). q ∷ x)
              (f3 ∙ ap (λ (x : List Piece). os ++ x) (two_parts us vs ws xs ys f4 f5 f6)));
          word_is = sort_of_0 p k;
          names = inputs.1;
          program = all.2;
          nonempty = all.3;
        },
      )

  -- The alternatives of statements.
  statements_spelled : (es : List (Event Piece)) (ps : List Piece)
      → Along text (symbol.Made 3 ∷ symbol.Made 2 ∷ []) es ps
      → Spells text 2 es ps
  statements_spelled es ps (ds, fs, os, qs, one, e, f, (cs, gs, us, vs, rest, e2, f2, (e3, f3))) names =
      let others = rest names in
      let all = one names others.0 others.1 us others.2 in
      (all.0, all.1, subst (SpellStatements text names all.0 all.1) (sym (two_parts ps os qs us vs f f2 f3)) all.2)

  none_spelled : (es : List (Event Piece)) (ps : List Piece) → Along text [] es ps → Spells text 2 es ps
  none_spelled es ps (e, f) names = (Nothing, [], subst (SpellStatements text names Nothing []) (sym f) nothing)

  assignment_spelled : (es : List (Event Piece)) (ps : List Piece)
      → Along text (symbol.Piece 6 ∷ symbol.Piece 8 ∷ symbol.Made 4 ∷ symbol.Piece 10 ∷ []) es ps → StatementIn text ps
  assignment_spelled es ps (
    p,
    fs,
    qs,
    k,
    e,
    f,
    (
      q,
      gs,
      rs,
      l,
      e2,
      f2,
      (
        ds,
        hs,
        os,
        us,
        value,
        e3,
        f3,
        (r, js, vs, m, e4, f4, (e5, f5)),
      ),
    ),
  ) names rest at more w = go value
    where
      whole : ps ++ more ≡ p ∷ q ∷ (os ++ r ∷ more)
      whole = ap (λ (x : List Piece). x ++ more) (f ∙ ap (λ (x : List Piece). p ∷ x)
          (f2 ∙ ap (λ (x : List Piece). q ∷ x)
          (f3 ∙ ap (λ (x : List Piece). os ++ x) (f4 ∙ ap (λ (x : List Piece). r ∷ x) f5))))
          ∙ ap (λ (x : List Piece). p ∷ q ∷ x) (append_assoc os (r ∷ []) more)

      go : ValueIn text os → (program : Statements) × (positions : List ℕ)
          × SpellStatements text names program positions (ps ++ more) × IsNonempty program
      go (inl (any, is, j)) = (
        Simple (Choose (position_of (bytes_of text p) names)) rest,
        p.at ∷ at,
        subst (SpellStatements text names (Simple (Choose (position_of (bytes_of text p) names)) rest) (p.at ∷ at))
            (sym (whole ∙ ap (λ (x : List Piece). p ∷ q ∷ (x ++ r ∷ more)) is))
            (choice p q any r (sort_of_6 p.sort k) (sort_of_8 q.sort l) j (sort_of_10 r.sort m) w),
        tt,
      )
      go (inr (s, h)) = (
        Simple (Assign (position_of (bytes_of text p) names) (sum_term names s)) rest,
        p.at ∷ at,
        subst (SpellStatements text names
            (Simple (Assign (position_of (bytes_of text p) names) (sum_term names s)) rest)
            (p.at ∷ at)) (sym whole)
            (assignment p q r os s (sort_of_6 p.sort k) (sort_of_8 q.sort l) h (sort_of_10 r.sort m) w),
        tt,
      )

  skip_spelled : (es : List (Event Piece)) (ps : List Piece) → Along text (symbol.Piece 1 ∷ symbol.Piece 10 ∷ []) es ps
      → StatementIn text ps
  skip_spelled es ps (p, fs, qs, k, e, f, (q, gs, rs, l, e2, f2, (e3, f3))) names rest at more w = (
    Simple Skip rest,
    p.at ∷ at,
    subst (SpellStatements text names (Simple Skip rest) (p.at ∷ at))
        (sym (ap (λ (x : List Piece). x ++ more) (f ∙ ap (λ (x : List Piece). p ∷ x)
        (f2 ∙ ap (λ (x : List Piece). q ∷ x) f3))))
        (skip p q (sort_of_1 p.sort k) (sort_of_10 q.sort l) w),
    tt,
  )

  -- Tokens that spell atoms spell their test.
  test_of : (names : List Name) (ps : List Piece) (atoms : Atoms) → SpellAtoms text atoms ps
      → SpellTest text names (atoms_terms names atoms) ps
  test_of names ps atoms h = (atoms, h, refl)

  loop_spelled : (es : List (Event Piece)) (ps : List Piece)
      → Along text (symbol.Piece 2 ∷ symbol.Piece 12 ∷ symbol.Made 7 ∷ symbol.Piece 13 ∷ symbol.Made 6 ∷ []) es ps
      → StatementIn text ps
  loop_spelled es ps (
    p,
    fs,
    qs,
    k,
    e,
    f,
    (
      q,
      gs,
      rs,
      l,
      e2,
      f2,
      (
        ds,
        hs,
        os,
        us,
        atoms,
        e3,
        f3,
        (r, js, vs, m, e4, f4, (cs, bs, ws, xs, block, e5, f5, (e6, f6))),
      ),
    ),
  ) names rest at more w = (
    While (atoms_terms names atoms.0) (block.inside names).0 rest,
    p.at ∷ ((block.inside names).1 ++ at),
    subst (SpellStatements text names (While (atoms_terms names atoms.0) (block.inside names).0 rest)
        (p.at ∷ ((block.inside names).1 ++ at))) (sym whole)
        (loop p q r block.begin block.end os block.body (sort_of_2 p.sort k) (sort_of_12 q l)
        (test_of names os atoms.0 atoms.1) (sort_of_13 r m) block.begin_is (block.inside names).2 block.end_is w),
    tt,
  )
    where
      whole : ps ++ more ≡ p ∷ q ∷ (os ++ r ∷ block.begin ∷ (block.body ++ block.end ∷ more))
      whole =
          ap (λ (x : List Piece). x ++ more) (f ∙ ap (λ (x : List Piece). p ∷ x) (f2 ∙ ap (λ (x : List Piece). q ∷ x)
          (f3 ∙ ap (λ (x : List Piece). os ++ x) (f4 ∙ ap (λ (x : List Piece). r ∷ x)
          (f5 ∙ ap (λ (x : List Piece). ws ++ x) f6 ∙ append-nil ws ∙ block.whole)))))
          ∙ ap (λ (x : List Piece). p ∷ q ∷ x) (append_assoc os (r ∷ block.begin ∷ (block.body ++ block.end ∷ [])) more
          ∙ ap (λ (x : List Piece). os ++ r ∷ block.begin ∷ x) (append_assoc block.body (block.end ∷ []) more))

  branch_spelled : (es : List (Event Piece)) (ps : List Piece)
      → Along text
      (symbol.Piece 3 ∷ symbol.Piece 12 ∷ symbol.Made 7 ∷ symbol.Piece 13 ∷ symbol.Made 6 ∷ symbol.Made 5 ∷ []) es ps
      → StatementIn text ps
  branch_spelled es ps (
    p,
    fs,
    qs,
    k,
    e,
    f,
    (
      q,
      gs,
      rs,
      l,
      e2,
      f2,
      (
        ds,
        hs,
        os,
        us,
        atoms,
        e3,
        f3,
        (r, js, vs, m, e4, f4, (cs, bs, ws, xs, block, e5, f5, (is, zs, ys, ts, other, e6, f6, (e7, f7)))),
      ),
    ),
  ) names rest at more w = go other
    where
      whole : ps ++ more ≡ p ∷ q ∷ (os ++ r ∷ block.begin ∷ (block.body ++ block.end ∷ (ys ++ more)))
      whole =
          ap (λ (x : List Piece). x ++ more) (f ∙ ap (λ (x : List Piece). p ∷ x) (f2 ∙ ap (λ (x : List Piece). q ∷ x)
          (f3 ∙ ap (λ (x : List Piece). os ++ x) (f4 ∙ ap (λ (x : List Piece). r ∷ x)
          (f5 ∙ ap (λ (x : List Piece). ws ++ x) (f6 ∙ ap (λ (x : List Piece). ys ++ x) f7 ∙ append-nil ys)
          ∙ ap (λ (x : List Piece). x ++ ys) block.whole)))))
          ∙ ap (λ (x : List Piece). p ∷ q ∷ x)
          (append_assoc os (r ∷ block.begin ∷ ((block.body ++ block.end ∷ []) ++ ys)) more
          ∙ ap (λ (x : List Piece). os ++ r ∷ block.begin ∷ x)
          (append_assoc (block.body ++ block.end ∷ []) ys more ∙ append_assoc block.body (block.end ∷ []) (ys ++ more)))

      go : OtherIn text ys → (program : Statements) × (positions : List ℕ)
          × SpellStatements text names program positions (ps ++ more) × IsNonempty program
      go (inl none) = (
        If (atoms_terms names atoms.0) (block.inside names).0 Nothing rest,
        p.at ∷ ((block.inside names).1 ++ at),
        subst (SpellStatements text names (If (atoms_terms names atoms.0) (block.inside names).0 Nothing rest)
            (p.at ∷ ((block.inside names).1 ++ at)))
            (sym (whole
            ∙ ap (λ (x : List Piece). p ∷ q ∷ (os ++ r ∷ block.begin ∷ (block.body ++ block.end ∷ (x ++ more)))) none))
            (branch p q r block.begin block.end os block.body (sort_of_3 p.sort k) (sort_of_12 q l)
            (test_of names os atoms.0 atoms.1) (sort_of_13 r m) block.begin_is (block.inside names).2 block.end_is w),
        tt,
      )
      go (inr (second, bs2, some, j, b)) = (
        If (atoms_terms names atoms.0) (block.inside names).0 (b.inside names).0 rest,
        p.at ∷ ((block.inside names).1 ++ ((b.inside names).1 ++ at)),
        subst (SpellStatements text names
            (If (atoms_terms names atoms.0) (block.inside names).0 (b.inside names).0 rest)
            (p.at ∷ ((block.inside names).1 ++ ((b.inside names).1 ++ at))))
            (sym (whole ∙ ap (λ (x : List Piece). p ∷ q ∷ (os ++ r ∷ block.begin ∷ (block.body ++ block.end ∷ x)))
            (ap (λ (x : List Piece). x ++ more) (some ∙ ap (λ (x : List Piece). second ∷ x) b.whole)
            ∙ ap (λ (x : List Piece). second ∷ b.begin ∷ x) (append_assoc b.body (b.end ∷ []) more))))
            (branch_else p q r block.begin block.end second b.begin b.end os block.body b.body (sort_of_3 p.sort k)
            (sort_of_12 q l) (test_of names os atoms.0 atoms.1) (sort_of_13 r m) block.begin_is (block.inside names).2
            block.end_is j b.begin_is (b.inside names).2 b.end_is w),
        tt,
      )

  -- The alternatives of values, second blocks and blocks.
  any_spelled : (es : List (Event Piece)) (ps : List Piece) → Along text (symbol.Piece 9 ∷ []) es ps → ValueIn text ps
  any_spelled es ps (p, fs, qs, k, e, f, (e2, f2)) = inl (p, f ∙ ap (λ (x : List Piece). p ∷ x) f2, sort_of_9 p k)

  sum_spelled : (es : List (Event Piece)) (ps : List Piece) → Along text (symbol.Made 10 ∷ []) es ps → ValueIn text ps
  sum_spelled es ps (ds, fs, os, qs, s, e, f, (e2, f2)) =
      inr (
        s.0,
        subst (SpellSum text s.0) (sym (f ∙ ap (λ (x : List Piece). os ++ x) f2 ∙ append-nil os))
            (in_order text s.0 os s.1),
      )

  other_spelled : (es : List (Event Piece)) (ps : List Piece) → Along text (symbol.Piece 4 ∷ symbol.Made 6 ∷ []) es ps
      → OtherIn text ps
  other_spelled es ps (p, fs, qs, k, e, f, (ds, gs, os, rs, block, e2, f2, (e3, f3))) =
      inr (
        p,
        os,
        f ∙ ap (λ (x : List Piece). p ∷ x) (f2 ∙ ap (λ (x : List Piece). os ++ x) f3 ∙ append-nil os),
        sort_of_4 p.sort k,
        block,
      )

  block_spelled : (es : List (Event Piece)) (ps : List Piece)
      → Along text (symbol.Piece 14 ∷ symbol.Made 2 ∷ symbol.Piece 15 ∷ []) es ps → IsBlock text ps
  block_spelled es ps (p, fs, qs, k, e, f, (ds, gs, os, rs, inside, e2, f2, (q, hs, us, l, e3, f3, (e4, f4)))) =
      record {
        begin = p;
        body = os;
        end = q;
        whole = f ∙ ap (λ (x : List Piece). p ∷ x) (f2 ∙ ap (λ (x : List Piece). os ++ x) (f3
            ∙ ap (λ (x : List Piece). q ∷ x) f4));
        begin_is = sort_of_14 p.sort k;
        end_is = sort_of_15 q.sort l;
        inside = inside;
      }

  -- Each alternative spells what its nonterminal says.
  each : (n : ℕ) (body : List Symbol) → Among body (alternatives while_grammar.rules n) → (es : List (Event Piece))
      (ps : List Piece) → Along text body es ps → Spells text n es ps
  each zero body (inl e) es ps w = program_spelled es ps (subst (λ (b : List Symbol). Along text b es ps) e w)
  each zero body (inr a) es ps w = absurd a
  each (suc zero) body (inl e) es ps w = name_spelled es ps (subst (λ (b : List Symbol). Along text b es ps) e w)
  each (suc zero) body (inr (inl e)) es ps w = names_end es ps (subst (λ (b : List Symbol). Along text b es ps) e w)
  each (suc zero) body (inr (inr a)) es ps w = absurd a
  each (suc (suc zero)) body (inl e) es ps w =
      statements_spelled es ps (subst (λ (b : List Symbol). Along text b es ps) e w)
  each (suc (suc zero)) body (inr (inl e)) es ps w =
      none_spelled es ps (subst (λ (b : List Symbol). Along text b es ps) e w)
  each (suc (suc zero)) body (inr (inr a)) es ps w = absurd a
  each (suc (suc (suc zero))) body (inl e) es ps w =
      assignment_spelled es ps (subst (λ (b : List Symbol). Along text b es ps) e w)
  each (suc (suc (suc zero))) body (inr (inl e)) es ps w =
      skip_spelled es ps (subst (λ (b : List Symbol). Along text b es ps) e w)
  each (suc (suc (suc zero))) body (inr (inr (inl e))) es ps w =
      loop_spelled es ps (subst (λ (b : List Symbol). Along text b es ps) e w)
  each (suc (suc (suc zero))) body (inr (inr (inr (inl e)))) es ps w =
      branch_spelled es ps (subst (λ (b : List Symbol). Along text b es ps) e w)
  each (suc (suc (suc zero))) body (inr (inr (inr (inr a)))) es ps w = absurd a
  each (suc (suc (suc (suc zero)))) body (inl e) es ps w =
      any_spelled es ps (subst (λ (b : List Symbol). Along text b es ps) e w)
  each (suc (suc (suc (suc zero)))) body (inr (inl e)) es ps w =
      sum_spelled es ps (subst (λ (b : List Symbol). Along text b es ps) e w)
  each (suc (suc (suc (suc zero)))) body (inr (inr a)) es ps w = absurd a
  each (suc (suc (suc (suc (suc zero))))) body (inl e) es ps w =
      other_spelled es ps (subst (λ (b : List Symbol). Along text b es ps) e w)
  each (suc (suc (suc (suc (suc zero))))) body (inr (inl e)) es ps w =
      inl (subst (λ (b : List Symbol). Along text b es ps) e w).1
  each (suc (suc (suc (suc (suc zero))))) body (inr (inr a)) es ps w = absurd a
  each (suc (suc (suc (suc (suc (suc zero)))))) body (inl e) es ps w =
      block_spelled es ps (subst (λ (b : List Symbol). Along text b es ps) e w)
  each (suc (suc (suc (suc (suc (suc zero)))))) body (inr a) es ps w = absurd a
  each (suc (suc (suc (suc (suc (suc (suc n))))))) body a es ps w =
      inner_each text (suc (suc (suc (suc (suc (suc (suc n))))))) body (inner_among text n body a) a es ps w

  -- All token lists that are derived as a program spell one.
  pub program_spells : (ps : List Piece) (es : List (Event Piece)) → Derives while_grammar (symbol.Made 0 ∷ []) es ps
      → (source : Source) × SpellProgram text source ps
  program_spells ps es d = go (derived_stands while_grammar (Spells text) each d)
    where
      go : Along text (symbol.Made 0 ∷ []) es ps → (source : Source) × SpellProgram text source ps
      go (ds, fs, os, qs, w, e, f, (e2, f2)) =
          (w.0, subst (SpellProgram text w.0) (sym (f ∙ ap (λ (x : List Piece). os ++ x) f2 ∙ append-nil os)) w.1)
