-- An answered tree is within the limits, and a tree within the limits is answered.
use Rattle.std.proofs.Common.{◌≡◌, ℕ, List, [], ◌∷◌, Option, Some, None, refl, ap, sym, subst, ◌∙◌, inl}
use Rattle.text_core.specs.Tokens.{Token, pieces}
use Rattle.text_core.specs.Readers.{Fault, Reader, onto, next, walk, reached, BreaksOff}
use Rattle.text_core.specs.Faults.{Among, FaultAt, shows, breaks}
use Rattle.text_core.specs.Reading.{Answer, Parsed, Refused, answer, Answers}
use Rattle.text_core.specs.Laws.{Laws}
use Rattle.text_core.specs.Limits.{ShowsNothing, KeepsLimits, ShowsNoLimit}
use Rattle.text_core.proofs.Walks.{walk-none, walk-onto, pieces-onto}
use Rattle.text_core.proofs.FirstFaults.{one_tree, answer_is}

-- a list without elements is empty
none_among : {X : Type 0} (xs : List X) → ((x : X) → ¬ Among x xs) → xs ≡ []
none_among [] h = refl
none_among (x ∷ xs) h = absurd (h x (inl refl))

module _ {P T F K : Type 0} (r : Reader P T F K) (laws : Laws r) (Within : T → Type 0) where
  -- a text without a fault leads through states that satisfy the invariant, and ends with a tree within the limits
  module _ (Kept : F → List P → Type 0) (keeps : KeepsLimits r Within Kept) where
    -- on a text without faults, tokens lead from a state that satisfies the invariant to another one
    kept_on : (rest done : List (Token P)) (n : ℕ) (f g : F) (t : T) → ((x : Fault K) → ¬ FaultAt r n (onto done rest) x) → reached r (pieces done) ≡ Some f → Kept f (pieces rest)
        → walk r.step (Some f) (pieces rest) ≡ Some g → r.finish g ≡ Some t → Within t
    kept_on [] done n f g t none e k w fin = keeps.ends (pieces done) f t e k (let same : f ≡ g = cc in ap r.finish same ∙ fin)
    kept_on (p ∷ rest) done n f g t none e k w fin = go (r.step f p.piece) refl w (λ h m l v. kept_on rest (p ∷ done) n h g t none m l v fin)
      where
        go : (o : Option F) → r.step f p.piece ≡ o → walk r.step o (pieces rest) ≡ Some g
            → ((h : F) → reached r (p.piece ∷ pieces done) ≡ Some h → Kept h (pieces rest) → walk r.step (Some h) (pieces rest) ≡ Some g → Within t) → Within t
        go None s v ih = let n = walk-none r.step (pieces rest) in cc
        go (Some h) s v ih =
            ih h (ap (λ (o : Option F). next r.step o p.piece) e ∙ s)
            (keeps.goes_on n done f h p rest e k (none_among (r.shown n done f (p ∷ rest)) (λ x a. none x (shows done (p ∷ rest) f refl e a))) s) v

    -- a tree that is answered is within the limits
    pub answered_within : (n : ℕ) (ts : List (Token P)) (t : T) → answer r n ts ≡ Parsed t → Within t
    answered_within n ts t e = go (answer_is r laws n ts)
      where
        go : Answers r n ts (answer r n ts) → Within t
        go h =
            let is = subst (Answers r n ts) e h in
            let x = laws.reads t (pieces ts) is.written in
            kept_on ts [] n r.beginning x.0 t is.faultless refl (keeps.begins (pieces ts)) x.1 x.2

  -- the text of a tree within the limits leads only through states that show no fault
  module _ (Small : F → List P → Type 0) (small : ShowsNoLimit r Within Small) where
    -- if a state after some pieces satisfies the invariant, so does the state before them
    small_back : (ps done : List P) (f g : F) (t : T) → reached r done ≡ Some f → walk r.step (Some f) ps ≡ Some g → r.finish g ≡ Some t → Within t → Small f ps
    small_back [] done f g t e w fin within = let same : f ≡ g = cc in small.ends done f t e (ap r.finish same ∙ fin) within
    small_back (p ∷ ps) done f g t e w fin within = go (r.step f p) refl w (λ h k v. small_back ps (p ∷ done) h g t k v fin within)
      where
        go : (o : Option F) → r.step f p ≡ o → walk r.step o ps ≡ Some g → ((h : F) → reached r (p ∷ done) ≡ Some h → walk r.step (Some h) ps ≡ Some g → Small h ps) → Small f (p ∷ ps)
        go None s v ih = let n = walk-none r.step ps in cc
        go (Some h) s v ih = small.goes_back done f h p ps e s (ih h (ap (λ (o : Option F). next r.step o p) e ∙ s) v)

    -- the text of a tree within the limits leads through states that show no fault
    nothing_shown : (n : ℕ) (done rest : List (Token P)) (f : F) (t : T) → r.Writes t (pieces (onto done rest)) → Within t → reached r (pieces done) ≡ Some f → ShowsNothing r n done f rest
    nothing_shown n done rest f t w within e =
        let x = laws.reads t (pieces (onto done rest)) w in
        small.nothing n done f rest e
        (small_back (pieces rest) (pieces done) f x.0 t e
        (sym (ap (λ (o : Option F). walk r.step o (pieces rest)) e) ∙ sym (walk-onto r (pieces done) (pieces rest)) ∙ ap (walk r.step (Some r.beginning)) (sym (pieces-onto done rest)) ∙ x.1)
        x.2 within)

    -- the text of a tree breaks off nowhere
    goes_on_whole : (done rest : List P) (t : T) → r.Writes t (onto done rest) → ¬ BreaksOff r done rest
    goes_on_whole done [] t w b = b.1 (t, w)
    goes_on_whole done (p ∷ rest) t w b = b.1 (t, rest, w)

    -- the text of a tree within the limits has no fault
    pub within_faultless : (n : ℕ) (ts : List (Token P)) (t : T) → r.Writes t (pieces ts) → Within t → (x : Fault K) → ¬ FaultAt r n ts x
    within_faultless n ts t w within x (shows done rest f is led a) =
        subst (Among x) (nothing_shown n done rest f t (subst (λ (us : List (Token P)). r.Writes t (pieces us)) (sym is) w) within led) a
    within_faultless n ts t w within x (breaks done rest f is led b e) =
        goes_on_whole (pieces done) (pieces rest) t (subst (r.Writes t) (pieces-onto done rest) (subst (λ (us : List (Token P)). r.Writes t (pieces us)) (sym is) w)) b

    -- a tree within the limits is answered
    pub within_answered : (n : ℕ) (ts : List (Token P)) (t : T) → r.Writes t (pieces ts) → Within t → answer r n ts ≡ Parsed t
    within_answered n ts t w within = go (answer r n ts) (answer_is r laws n ts)
      where
        go : (a : Answer T K) → Answers r n ts a → a ≡ Parsed t
        go (Parsed u) h = ap Parsed (one_tree r laws u t (pieces ts) h.written w)
        go (Refused x) h = absurd (within_faultless n ts t w within x h.is)
