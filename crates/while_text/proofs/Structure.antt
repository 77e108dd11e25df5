-- The structure of a while program: whatever its expressions are, it has a statement, and each block that opens closes.
use Rattle.std.proofs.Common.{◌≡◌, ℕ, zero, suc, List, [], ◌∷◌, ◌++◌, refl}
use Rattle.std.proofs.Common.{sym, ap, subst, ◌∙◌, inl, inr, append_assoc}
use Rattle.text_grammar.specs.text_core.Faults.{Among}
use Rattle.text_grammar.specs.declared.symbol.Symbol.{Symbol}
use Rattle.text_grammar.specs.declared.symbol.Symbol.TheVariants as symbol
use Rattle.text_grammar.specs.Grammars.{Event, Read, Derives, alternatives}
use Rattle.text_grammar.proofs.Induction.{StandsAlong, derived_stands}
use Rattle.text_grammar.proofs.Tests.{all_among}
use Rattle.while_text.specs.while_tree.Views.{Loop, Branch, joined}
use Rattle.while_text.specs.declared.block.Opener.TheVariants as openers
use Rattle.while_text.specs.declared.phase.Phase.TheVariants as phases
use Rattle.while_text.specs.declared.piece.Piece.{Piece}
use Rattle.while_text.specs.Drafts.{InLoop, InFirst, last_of}
use Rattle.while_text.specs.Grammar.{while_grammar}
use Rattle.while_text.specs.Reading.{State}
use Rattle.while_text.proofs.GrammarStates.{last_append}
use Rattle.while_text.proofs.SilentReading.{after_all, sound_after}
use Rattle.while_text.proofs.InnerTokens.{AllInner, IsSome, after_append, all_inner-append, is_inner}
use Rattle.while_text.proofs.InnerTokens.{some_append, sort_of_1, sort_of_10, sort_of_14, sort_of_15, sort_of_2}
use Rattle.while_text.proofs.InnerTokens.{sort_of_3, sort_of_4, sort_of_6, sort_of_8}
use Rattle.while_text.proofs.StatementsRead.{Closes, Goes, IsListing, IsOpen, ReadsTest, Stands, along_inner}
use Rattle.while_text.proofs.StatementsRead.{are_inner, goes_then, inputs_end, is_open, listed}
use Rattle.while_text.proofs.StatementsRead.{reads_assignment, reads_block, reads_other, reads_skip, reads_test}

module _ (text : List ℕ) where
  -- What the events of the symbols of an alternative do to the state.
  abbrev Along : List Symbol → List (Event Piece) → List Piece → Type 0
  Along body es ps = StandsAlong while_grammar (Stands text) body es ps

  nothing_more : (es : List (Event Piece)) → es ++ [] ≡ es
  nothing_more [] = refl
  nothing_more (x ∷ es) = ap (λ (fs : List (Event Piece)). x ∷ fs) (nothing_more es)

  text_stands : (es : List (Event Piece)) (ps : List Piece)
      → Along (symbol.Piece 0 ∷ symbol.Piece 6 ∷ symbol.Made 1 ∷ symbol.Made 3 ∷ symbol.Made 2 ∷ []) es ps → Stands text 0 es ps
  text_stands es ps (
    p,
    fs,
    qs,
    k,
    e,
    f,
    (
      q,
      gs,
      rs,
      l,
      e2,
      f2,
      (
        ds,
        hs,
        os,
        us,
        more,
        e3,
        f3,
        (
          cs,
          js,
          vs,
          ws,
          one,
          e4,
          f4,
          (bs, ks, xs, ys, rest, e5, f5, (e6, f6)),
        ),
      ),
    ),
  ) s phase opener =
      subst (λ (t : State). IsSome t.draft.body) (sym whole) (after.grows first.1)
    where
      two : State
      two = sound_after text q (sound_after text p s)

      listing : IsListing text two
      listing = listed text q (sound_after text p s) (ap is_inner l)
          (listed text p s (ap is_inner k) (record { phase = phase; opener = opener }))

      three : State
      three = after_all text two ds

      ready : IsOpen text three
      ready = more two listing.phase listing.opener

      first : Goes text three (after_all text three cs) × IsSome (after_all text three cs).draft.body
      first = one three ready

      after : Goes text (after_all text three cs) (after_all text (after_all text three cs) bs)
      after = rest (after_all text three cs) (is_open text three (after_all text three cs) first.0)

      whole : after_all text s es ≡ after_all text (after_all text three cs) bs
      whole = ap (λ (x : List (Event Piece)). after_all text s x) (e ∙ ap (λ (x : List (Event Piece)). Read p ∷ x)
          (e2 ∙ ap (λ (x : List (Event Piece)). Read q ∷ x) (e3 ∙ ap (λ (x : List (Event Piece)). ds ++ x)
          (e4 ∙ ap (λ (x : List (Event Piece)). cs ++ x) (e5 ∙ ap (λ (x : List (Event Piece)). bs ++ x) e6
          ∙ nothing_more bs)))))
          ∙ after_append text two ds (cs ++ bs) ∙ after_append text three cs bs

  more_stands : (es : List (Event Piece)) (ps : List Piece)
      → Along (symbol.Piece 11 ∷ symbol.Piece 6 ∷ symbol.Made 1 ∷ []) es ps → Stands text 1 es ps
  more_stands es ps (p, fs, qs, k, e, f, (q, gs, rs, l, e2, f2, (ds, hs, os, us, more, e3, f3, (e4, f4)))) s phase opener =
      subst (IsOpen text) (sym whole) (more two listing.phase listing.opener)
    where
      two : State
      two = sound_after text q (sound_after text p s)

      listing : IsListing text two
      listing = listed text q (sound_after text p s) (ap is_inner l)
          (listed text p s (ap is_inner k) (record { phase = phase; opener = opener }))

      whole : after_all text s es ≡ after_all text two ds
      whole = ap (λ (x : List (Event Piece)). after_all text s x) (e ∙ ap (λ (x : List (Event Piece)). Read p ∷ x)
          (e2 ∙ ap (λ (x : List (Event Piece)). Read q ∷ x) (e3 ∙ ap (λ (x : List (Event Piece)). ds ++ x) e4
          ∙ nothing_more ds)))

  end_stands : (es : List (Event Piece)) (ps : List Piece) → Along (symbol.Piece 10 ∷ []) es ps → Stands text 1 es ps
  end_stands es ps (p, fs, qs, k, e, f, (e2, f2)) s phase opener =
      subst (λ (x : List (Event Piece)). IsOpen text (after_all text s x))
      (sym (e ∙ ap (λ (x : List (Event Piece)). Read p ∷ x) e2))
      (inputs_end text p s (sort_of_10 p.sort k) (record { phase = phase; opener = opener }))

  statements_stand : (es : List (Event Piece)) (ps : List Piece) → Along (symbol.Made 3 ∷ symbol.Made 2 ∷ []) es ps
      → Stands text 2 es ps
  statements_stand es ps (ds, fs, os, qs, one, e, f, (cs, gs, rs, us, rest, e2, f2, (e3, f3))) s ready =
      subst (Goes text s) (sym whole)
      (goes_then text s (after_all text s ds) (after_all text (after_all text s ds) cs) (one s ready).0
      (rest (after_all text s ds) (is_open text s (after_all text s ds) (one s ready).0)))
    where
      whole : after_all text s es ≡ after_all text (after_all text s ds) cs
      whole = ap (λ (x : List (Event Piece)). after_all text s x) (e ∙ ap (λ (x : List (Event Piece)). ds ++ x)
          (e2 ∙ ap (λ (x : List (Event Piece)). cs ++ x) e3 ∙ nothing_more cs)) ∙ after_append text s ds cs

  none_stand : (es : List (Event Piece)) (ps : List Piece) → Along [] es ps → Stands text 2 es ps
  none_stand es ps (e, f) s ready = subst (λ (x : List (Event Piece)). Goes text s (after_all text s x)) (sym e)
      (record { phase = ready.phase; blocks = refl; opener = ready.opener; grows = λ some. some })

  no_other_stands : (es : List (Event Piece)) (ps : List Piece) → Along [] es ps → Stands text 5 es ps
  no_other_stands es ps (e, f) s ready some test block other last =
      subst (λ (x : List (Event Piece)). Goes text s (after_all text s x)) (sym e)
      (record { phase = ready.phase; blocks = refl; opener = ready.opener; grows = λ h. h })

  other_stands : (es : List (Event Piece)) (ps : List Piece) → Along (symbol.Piece 4 ∷ symbol.Made 6 ∷ []) es ps
      → Stands text 5 es ps
  other_stands es ps (p, fs, qs, k, e, f, (ds, gs, os, rs, closes, e2, f2, (e3, f3))) s ready some test block other last =
      subst (λ (x : List (Event Piece)). Goes text s (after_all text s x))
      (sym (e ∙ ap (λ (x : List (Event Piece)). Read p ∷ x) (e2 ∙ ap (λ (x : List (Event Piece)). ds ++ x) e3
      ∙ nothing_more ds)))
      (reads_other text p ds s (sort_of_4 p.sort k) ready test block other last closes)

  block_stands : (es : List (Event Piece)) (ps : List Piece)
      → Along (symbol.Piece 14 ∷ symbol.Made 2 ∷ symbol.Piece 15 ∷ []) es ps → Stands text 6 es ps
  block_stands es ps (p, fs, qs, k, e, f, (ds, gs, os, rs, inside, e2, f2, (q, hs, us, l, e3, f3, (e4, f4)))) s block opens =
      subst (λ (x : List (Event Piece)). Closes text s block (after_all text s x))
      (sym (e ∙ ap (λ (x : List (Event Piece)). Read p ∷ x) (e2 ∙ ap (λ (x : List (Event Piece)). ds ++ x)
      (e3 ∙ ap (λ (x : List (Event Piece)). Read q ∷ x) e4))))
      (reads_block text p q ds s block (sort_of_14 p.sort k) (sort_of_15 q.sort l) inside opens)

  assignment_stands : (es : List (Event Piece)) (ps : List Piece)
      → Along (symbol.Piece 6 ∷ symbol.Piece 8 ∷ symbol.Made 4 ∷ symbol.Piece 10 ∷ []) es ps → Stands text 3 es ps
  assignment_stands es ps (
    p,
    fs,
    qs,
    k,
    e,
    f,
    (
      q,
      gs,
      rs,
      l,
      e2,
      f2,
      (
        ds,
        hs,
        os,
        us,
        inner,
        e3,
        f3,
        (r, js, vs, m, e4, f4, (e5, f5)),
      ),
    ),
  ) s ready =
      subst (λ (x : List (Event Piece)). Goes text s (after_all text s x) × IsSome (after_all text s x).draft.body)
      (sym (e ∙ ap (λ (x : List (Event Piece)). Read p ∷ x) (e2 ∙ ap (λ (x : List (Event Piece)). Read q ∷ x)
      (e3 ∙ ap (λ (x : List (Event Piece)). ds ++ x) (e4 ∙ ap (λ (x : List (Event Piece)). Read r ∷ x) e5)))))
      (reads_assignment text p q r ds s (sort_of_6 p.sort k) (sort_of_8 q.sort l) (sort_of_10 r.sort m) inner ready)

  skip_stands : (es : List (Event Piece)) (ps : List Piece) → Along (symbol.Piece 1 ∷ symbol.Piece 10 ∷ []) es ps
      → Stands text 3 es ps
  skip_stands es ps (p, fs, qs, k, e, f, (q, gs, rs, l, e2, f2, (e3, f3))) s ready =
      subst (λ (x : List (Event Piece)). Goes text s (after_all text s x) × IsSome (after_all text s x).draft.body)
      (sym (e ∙ ap (λ (x : List (Event Piece)). Read p ∷ x) (e2 ∙ ap (λ (x : List (Event Piece)). Read q ∷ x) e3)))
      (reads_skip text p q s (sort_of_1 p.sort k) (sort_of_10 q.sort l) ready)

  loop_stands : (es : List (Event Piece)) (ps : List Piece)
      → Along (symbol.Piece 2 ∷ symbol.Piece 12 ∷ symbol.Made 7 ∷ symbol.Piece 13 ∷ symbol.Made 6 ∷ []) es ps → Stands text 3 es ps
  loop_stands es ps (
    p,
    fs,
    qs,
    k,
    e,
    f,
    (
      q,
      gs,
      rs,
      l,
      e2,
      f2,
      (
        ds,
        hs,
        os,
        us,
        inner,
        e3,
        f3,
        (r, js, vs, m, e4, f4, (cs, bs, ws, xs, closes, e5, f5, (e6, f6))),
      ),
    ),
  ) s ready =
      subst (λ (x : List (Event Piece)). Goes text s (after_all text s x) × IsSome (after_all text s x).draft.body) (sym whole)
      (go (reads_test text openers.Loop p (Read q ∷ (ds ++ Read r ∷ [])) cs s (rw (sort_of_2 p.sort k, ready.phase) refl)
      (rw (sort_of_2 p.sort k, ready.phase) refl) tests closes (λ d. InLoop d.test d.body) (λ d. refl) (λ d. refl)))
    where
      tests : AllInner (Read q ∷ (ds ++ Read r ∷ []))
      tests = (ap is_inner l, all_inner-append ds (Read r ∷ []) inner (ap is_inner m, tt))

      whole : es ≡ Read p ∷ ((Read q ∷ (ds ++ Read r ∷ [])) ++ cs)
      whole = e ∙ ap (λ (x : List (Event Piece)). Read p ∷ x) (e2 ∙ ap (λ (x : List (Event Piece)). Read q ∷ x)
          (e3 ∙ ap (λ (x : List (Event Piece)). ds ++ x) (e4 ∙ ap (λ (x : List (Event Piece)). Read r ∷ x)
          (e5 ∙ ap (λ (x : List (Event Piece)). cs ++ x) e6 ∙ nothing_more cs)) ∙ sym (append_assoc ds (Read r ∷ []) cs)))

      go : ReadsTest text openers.Loop s (Read p ∷ ((Read q ∷ (ds ++ Read r ∷ [])) ++ cs)) (λ d. InLoop d.test d.body)
          → Goes text s (after_all text s (Read p ∷ ((Read q ∷ (ds ++ Read r ∷ [])) ++ cs)))
          × IsSome (after_all text s (Read p ∷ ((Read q ∷ (ds ++ Read r ∷ [])) ++ cs))).draft.body
      go w = (record { phase = w.phase; blocks = w.blocks; opener = w.second; grows = λ h. some }, some)
        where
          some : IsSome (after_all text s (Read p ∷ ((Read q ∷ (ds ++ Read r ∷ [])) ++ cs))).draft.body
          some = subst IsSome (sym w.body) (some_append s.draft.body _)

  branch_stands : (es : List (Event Piece)) (ps : List Piece)
      → Along (symbol.Piece 3 ∷ symbol.Piece 12 ∷ symbol.Made 7 ∷ symbol.Piece 13 ∷ symbol.Made 6 ∷ symbol.Made 5 ∷ []) es ps
      → Stands text 3 es ps
  branch_stands es ps (
    p,
    fs,
    qs,
    k,
    e,
    f,
    (
      q,
      gs,
      rs,
      l,
      e2,
      f2,
      (
        ds,
        hs,
        os,
        us,
        inner,
        e3,
        f3,
        (r, js, vs, m, e4, f4, (cs, bs, ws, xs, closes, e5, f5, (is, zs, ys, ts, other, e6, f6, (e7, f7)))),
      ),
    ),
  ) s ready =
      subst (λ (t : State). Goes text s t × IsSome t.draft.body) (sym (ap (λ (x : List (Event Piece)). after_all text s x) whole
      ∙ after_append text s (Read p ∷ ((Read q ∷ (ds ++ Read r ∷ [])) ++ cs)) is))
      (go (reads_test text openers.First p (Read q ∷ (ds ++ Read r ∷ [])) cs s (rw (sort_of_3 p.sort k, ready.phase) refl)
      (rw (sort_of_3 p.sort k, ready.phase) refl) tests closes (λ d. InFirst d.test d.body) (λ d. refl) (λ d. refl)))
    where
      tests : AllInner (Read q ∷ (ds ++ Read r ∷ []))
      tests = (ap is_inner l, all_inner-append ds (Read r ∷ []) inner (ap is_inner m, tt))

      whole : es ≡ (Read p ∷ ((Read q ∷ (ds ++ Read r ∷ [])) ++ cs)) ++ is
      whole = e ∙ ap (λ (x : List (Event Piece)). Read p ∷ x) (e2 ∙ ap (λ (x : List (Event Piece)). Read q ∷ x)
          (e3 ∙ ap (λ (x : List (Event Piece)). ds ++ x) (e4 ∙ ap (λ (x : List (Event Piece)). Read r ∷ x)
          (e5 ∙ ap (λ (x : List (Event Piece)). cs ++ x) (e6 ∙ ap (λ (x : List (Event Piece)). is ++ x) e7
          ∙ nothing_more is))) ∙ sym (append_assoc ds (Read r ∷ []) (cs ++ is))
          ∙ sym (append_assoc (ds ++ Read r ∷ []) cs is)))

      first : State
      first = after_all text s (Read p ∷ ((Read q ∷ (ds ++ Read r ∷ [])) ++ cs))

      go : ReadsTest text openers.First s (Read p ∷ ((Read q ∷ (ds ++ Read r ∷ [])) ++ cs)) (λ d. InFirst d.test d.body)
          → Goes text s (after_all text first is) × IsSome (after_all text first is).draft.body
      go w = (goes_then text s first (after_all text first is) one two, two.grows some)
        where
          some : IsSome first.draft.body
          some = subst IsSome (sym w.body) (some_append s.draft.body _)

          one : Goes text s first
          one = record { phase = w.phase; blocks = w.blocks; opener = w.second; grows = λ h. some }

          two : Goes text first (after_all text first is)
          two = other first (is_open text s first one) some w.draft.test w.statements (joined [])
              (ap last_of w.body ∙ last_append s.draft.body (Branch w.draft.test w.statements (joined [])))

  -- The events of each alternative do what its nonterminal says.
  each : (n : ℕ) (body : List Symbol) → Among body (alternatives while_grammar.rules n) → (es : List (Event Piece))
      (ps : List Piece) → Along body es ps → Stands text n es ps
  each zero body (inl e) es ps w = text_stands es ps (subst (λ (b : List Symbol). Along b es ps) e w)
  each zero body (inr a) es ps w = absurd a
  each (suc zero) body (inl e) es ps w = more_stands es ps (subst (λ (b : List Symbol). Along b es ps) e w)
  each (suc zero) body (inr (inl e)) es ps w = end_stands es ps (subst (λ (b : List Symbol). Along b es ps) e w)
  each (suc zero) body (inr (inr a)) es ps w = absurd a
  each (suc (suc zero)) body (inl e) es ps w = statements_stand es ps (subst (λ (b : List Symbol). Along b es ps) e w)
  each (suc (suc zero)) body (inr (inl e)) es ps w = none_stand es ps (subst (λ (b : List Symbol). Along b es ps) e w)
  each (suc (suc zero)) body (inr (inr a)) es ps w = absurd a
  each (suc (suc (suc zero))) body (inl e) es ps w =
      assignment_stands es ps (subst (λ (b : List Symbol). Along b es ps) e w)
  each (suc (suc (suc zero))) body (inr (inl e)) es ps w =
      skip_stands es ps (subst (λ (b : List Symbol). Along b es ps) e w)
  each (suc (suc (suc zero))) body (inr (inr (inl e))) es ps w =
      loop_stands es ps (subst (λ (b : List Symbol). Along b es ps) e w)
  each (suc (suc (suc zero))) body (inr (inr (inr (inl e)))) es ps w =
      branch_stands es ps (subst (λ (b : List Symbol). Along b es ps) e w)
  each (suc (suc (suc zero))) body (inr (inr (inr (inr a)))) es ps w = absurd a
  each (suc (suc (suc (suc zero)))) body a es ps w =
      along_inner text body (all_among (are_inner text) (alternatives while_grammar.rules 4) body refl a) es ps w
  each (suc (suc (suc (suc (suc zero))))) body (inl e) es ps w =
      other_stands es ps (subst (λ (b : List Symbol). Along b es ps) e w)
  each (suc (suc (suc (suc (suc zero))))) body (inr (inl e)) es ps w =
      no_other_stands es ps (subst (λ (b : List Symbol). Along b es ps) e w)
  each (suc (suc (suc (suc (suc zero))))) body (inr (inr a)) es ps w = absurd a
  each (suc (suc (suc (suc (suc (suc zero)))))) body (inl e) es ps w =
      block_stands es ps (subst (λ (b : List Symbol). Along b es ps) e w)
  each (suc (suc (suc (suc (suc (suc zero)))))) body (inr a) es ps w = absurd a
  each (suc (suc (suc (suc (suc (suc (suc zero))))))) body a es ps w =
      along_inner text body (all_among (are_inner text) (alternatives while_grammar.rules 7) body refl a) es ps w
  each (suc (suc (suc (suc (suc (suc (suc (suc zero)))))))) body a es ps w =
      along_inner text body (all_among (are_inner text) (alternatives while_grammar.rules 8) body refl a) es ps w
  each (suc (suc (suc (suc (suc (suc (suc (suc (suc zero))))))))) body a es ps w =
      along_inner text body (all_among (are_inner text) (alternatives while_grammar.rules 9) body refl a) es ps w
  each (suc (suc (suc (suc (suc (suc (suc (suc (suc (suc zero)))))))))) body a es ps w =
      along_inner text body (all_among (are_inner text) (alternatives while_grammar.rules 10) body refl a) es ps w
  each (suc (suc (suc (suc (suc (suc (suc (suc (suc (suc (suc zero))))))))))) body a es ps w =
      along_inner text body (all_among (are_inner text) (alternatives while_grammar.rules 11) body refl a) es ps w
  each (suc (suc (suc (suc (suc (suc (suc (suc (suc (suc (suc (suc zero)))))))))))) body a es ps w =
      along_inner text body (all_among (are_inner text) (alternatives while_grammar.rules 12) body refl a) es ps w
  each (suc (suc (suc (suc (suc (suc (suc (suc (suc (suc (suc (suc (suc zero))))))))))))) body a es ps w =
      along_inner text body (all_among (are_inner text) (alternatives while_grammar.rules 13) body refl a) es ps w
  each (suc (suc (suc (suc (suc (suc (suc (suc (suc (suc (suc (suc (suc (suc zero)))))))))))))) body a es ps w =
      along_inner text body (all_among (are_inner text) (alternatives while_grammar.rules 14) body refl a) es ps w
  each (suc (suc (suc (suc (suc (suc (suc (suc (suc (suc (suc (suc (suc (suc (suc zero))))))))))))))) body a es ps w =
      along_inner text body (all_among (are_inner text) (alternatives while_grammar.rules 15) body refl a) es ps w
  each (suc (suc (suc (suc (suc (suc (suc (suc (suc (suc (suc (suc (suc (suc (suc (suc zero)))))))))))))))) body a es ps w =
      along_inner text body (all_among (are_inner text) (alternatives while_grammar.rules 16) body refl a) es ps w
  each (suc (suc (suc (suc (suc (suc (suc (suc (suc (suc (suc (suc (suc (suc (suc (suc (suc n))))))))))))))))) body a es ps w = absurd a

  -- A text that is derived has a statement.
  pub has_statement : (es : List (Event Piece)) (ps : List Piece) → Derives while_grammar (symbol.Made 0 ∷ []) es ps
      → (s : State) → s.course.phase ≡ phases.Inputs → s.draft.opener ≡ openers.Second
      → IsSome (after_all text s es).draft.body
  has_statement es ps d s phase opener = go (derived_stands while_grammar (Stands text) each d)
    where
      go : Along (symbol.Made 0 ∷ []) es ps → IsSome (after_all text s es).draft.body
      go (ds, fs, os, qs, h, e, f, (e2, f2)) =
          subst (λ (x : List (Event Piece)). IsSome (after_all text s x).draft.body)
          (sym (e ∙ ap (λ (x : List (Event Piece)). ds ++ x) e2 ∙ nothing_more ds)) (h s phase opener)
