-- A reader that satisfies its laws answers exactly the tree, or exactly the first fault.
use Rattle.std.proofs.Common.{◌≡◌, ℕ, List, [], ◌∷◌, Option, Some, None, refl, ap, sym, subst, ◌∙◌, inl, inr, arith}
use Rattle.std.specs.Prelude.{◌⊎◌}
use Rattle.text_core.specs.Tokens.{Token, pieces}
use Rattle.text_core.specs.Readers.{Fault, Reader, onto, next, walk, reached, IsBeginning, IsWhole, BreaksOff}
use Rattle.text_core.specs.Faults.{Among, stop_kind_at, FaultAt, shows, breaks, NotAfter}
use Rattle.text_core.specs.Reading.{Answer, Parsed, Refused, Stopped, Going, first_of, first_among, ended, further, run}
use Rattle.text_core.specs.Reading.{answer, Answers}
use Rattle.text_core.specs.Laws.{Laws, AnswersAll, OneTree, OneFirst}
use Rattle.text_core.proofs.Orders.{not_after_on, IsFirstOf, first_of_is, IsFirstAmong, first_among_is}
use Rattle.text_core.proofs.Walks.{walk-none, walk-onto, pieces-onto}

module _ {P T F K : Type 0} (r : Reader P T F K) where
  -- a fault in this state: the state shows it, or the remaining text breaks off here
  abbrev pub Here : ℕ → List (Token P) → F → List (Token P) → Fault K → Type 0
  Here n done f rest x = Among x (r.shown n done f rest) ⊎ (BreaksOff r (pieces done) (pieces rest) × (stop_kind_at r n f rest ≡ x))

  -- a fault at this point or later
  abbrev pub Ahead : ℕ → List (Token P) → Option F → List (Token P) → Fault K → Type 0
  Ahead n done None [] x = ⊥
  Ahead n done (Some f) [] x = Here n done f [] x
  Ahead n done None (p ∷ rest) x = ⊥
  Ahead n done (Some f) (p ∷ rest) x = Here n done f (p ∷ rest) x ⊎ Ahead n (p ∷ done) (r.step f p.piece) rest x

  -- a fault at this point is a fault of the text
  here_fault : (n : ℕ) (done : List (Token P)) (f : F) (rest : List (Token P)) (x : Fault K) → reached r (pieces done) ≡ Some f → Here n done f rest x → FaultAt r n (onto done rest) x
  here_fault n done f rest x e (inl a) = shows done rest f refl e a
  here_fault n done f rest x e (inr b) = breaks done rest f refl e b.0 b.1

  -- a later fault is a fault of the text, too
  pub ahead_fault : (rest : List (Token P)) (n : ℕ) (done : List (Token P)) (o : Option F) (x : Fault K) → reached r (pieces done) ≡ o → Ahead n done o rest x → FaultAt r n (onto done rest) x
  ahead_fault [] n done None x e h = absurd h
  ahead_fault [] n done (Some f) x e h = here_fault n done f [] x e h
  ahead_fault (p ∷ rest) n done None x e h = absurd h
  ahead_fault (p ∷ rest) n done (Some f) x e (inl h) = here_fault n done f (p ∷ rest) x e h
  ahead_fault (p ∷ rest) n done (Some f) x e (inr h) = ahead_fault rest n (p ∷ done) (r.step f p.piece) x (ap (λ (o : Option F). next r.step o p.piece) e) h

  -- a fault found from a state that the tokens reach is a fault of the whole token list
  fault_back : (done rest : List (Token P)) (n : ℕ) (x : Fault K) (o : Option F) → reached r (pieces done) ≡ o → Ahead n done o rest x → Ahead n [] (Some r.beginning) (onto done rest) x
  fault_back [] rest n x o e h = subst (λ (v : Option F). Ahead n [] v rest x) (sym e) h
  fault_back (p ∷ done) rest n x o e h = go (reached r (pieces done)) refl e (λ f w a. fault_back done (p ∷ rest) n x (Some f) w a)
    where
      go : (v : Option F) → reached r (pieces done) ≡ v → next r.step v p.piece ≡ o → ((f : F) → reached r (pieces done) ≡ Some f → Ahead n done (Some f) (p ∷ rest) x → Ahead n [] (Some r.beginning) (onto done (p ∷ rest)) x)
          → Ahead n [] (Some r.beginning) (onto done (p ∷ rest)) x
      go None w k ih = none o k h
        where
          none : (o : Option F) → None ≡ o → Ahead n (p ∷ done) o rest x → Ahead n [] (Some r.beginning) (onto done (p ∷ rest)) x
          none None k h = absurd (nowhere rest h)
            where
              nowhere : (rest : List (Token P)) → Ahead n (p ∷ done) None rest x → ⊥
              nowhere [] h = h
              nowhere (q ∷ rest) h = h
          none (Some g) k h = cc
      go (Some f) w k ih = ih f w (inr (subst (λ (v : Option F). Ahead n (p ∷ done) v rest x) (sym k) h))

  -- a fault at this point is a fault from here on
  here_ahead : (rest : List (Token P)) (n : ℕ) (done : List (Token P)) (f : F) (x : Fault K) → Here n done f rest x → Ahead n done (Some f) rest x
  here_ahead [] n done f x h = h
  here_ahead (p ∷ rest) n done f x h = inl h

  -- each fault of the text is found from its beginning on
  pub fault_ahead : (n : ℕ) (ts : List (Token P)) (x : Fault K) → FaultAt r n ts x → Ahead n [] (Some r.beginning) ts x
  fault_ahead n ts x (shows done rest f is led a) = subst (λ (us : List (Token P)). Ahead n [] (Some r.beginning) us x) is (fault_back done rest n x (Some f) led (here_ahead rest n done f x (inl a)))
  fault_ahead n ts x (breaks done rest f is led b e) = subst (λ (us : List (Token P)). Ahead n [] (Some r.beginning) us x) is (fault_back done rest n x (Some f) led (here_ahead rest n done f x (inr (b, e))))

  module _ (laws : Laws r) where
    -- each text denotes at most one tree
    pub one_tree : (a b : T) (ps : List P) → r.Writes a ps → r.Writes b ps → a ≡ b
    one_tree a b ps wa wb = let x = laws.reads a ps wa in let y = laws.reads b ps wb in go x.0 x.1 x.2 y.0 y.1 y.2
      where
        go : (f : F) → walk r.step (Some r.beginning) ps ≡ Some f → r.finish f ≡ Some a → (g : F) → walk r.step (Some r.beginning) ps ≡ Some g → r.finish g ≡ Some b → a ≡ b
        go f p q g s t = let same : f ≡ g = cc in let u : r.finish f ≡ r.finish g = ap r.finish same in cc

    -- of two faults, if neither comes before the other, they are equal
    pub same_first : (x y : Fault K) → NotAfter r x y → NotAfter r y x → x ≡ y
    same_first x y a b =
        let at : x.at ≡ y.at = (let p = a.position in let q = b.position in omega (arith, p, q)) in
        let kind : x.kind ≡ y.kind = laws.differ x.kind y.kind (let p = a.kind at in let q = b.kind (sym at) in omega (arith, p, q)) in
        λ i. record { kind = kind i; at = at i }

    -- no text begins with pieces that the reader rejects
    pub nowhere_begins : (done : List P) → reached r done ≡ None → ¬ IsBeginning r done
    nowhere_begins done e (t, more, w) =
        let x = laws.reads t (onto done more) w in
        let n : walk r.step (Some r.beginning) (onto done more) ≡ None = walk-onto r done more ∙ ap (λ (o : Option F). walk r.step o more) e ∙ walk-none r.step more in
        go x.0 x.1 n
      where
        go : (f : F) → walk r.step (Some r.beginning) (onto done more) ≡ Some f → walk r.step (Some r.beginning) (onto done more) ≡ None → ⊥
        go f a b = cc

    -- if a text is whole, it can end in the state that it reaches
    pub whole_ends : (done : List P) (f : F) → reached r done ≡ Some f → r.finish f ≡ None → ¬ IsWhole r done
    whole_ends done f e none (t, w) = let x = laws.reads t (onto done []) w in go x.0 (sym (walk-onto r done []) ∙ x.1) x.2
      where
        go : (g : F) → walk r.step (reached r done) [] ≡ Some g → r.finish g ≡ Some t → ⊥
        go g a b = let same : f ≡ g = cc in let u : r.finish f ≡ r.finish g = ap r.finish same in cc

    -- the text breaks off here if the step rejects the next piece
    pub breaks_here : (done : List P) (f : F) (p : P) (rest : List P) → reached r done ≡ Some f → r.step f p ≡ None → BreaksOff r done (p ∷ rest)
    breaks_here done f p rest e none = (laws.goes_on done f e, nowhere_begins (p ∷ done) (ap (λ (o : Option F). next r.step o p) e ∙ none))

    -- the text doesn't break off here if the step accepts the next piece
    pub goes_here : (done : List P) (f g : F) (p : P) (rest : List P) → reached r done ≡ Some f → r.step f p ≡ Some g → ¬ BreaksOff r done (p ∷ rest)
    goes_here done f g p rest e some b = b.1 (laws.goes_on (p ∷ done) g (ap (λ (o : Option F). next r.step o p) e ∙ some))

    -- the text breaks off at its end if it can't end in this state
    breaks_end : (done : List P) (f : F) → reached r done ≡ Some f → r.finish f ≡ None → BreaksOff r done []
    breaks_end done f e none = (laws.goes_on done f e, whole_ends done f e none)

    -- the text doesn't break off at its end if it can end in this state
    pub ends_here : (done : List P) (f : F) (t : T) → reached r done ≡ Some f → r.finish f ≡ Some t → ¬ BreaksOff r done []
    ends_here done f t e some b = b.1 (t, laws.ends done f t e some)

    -- the answer from here on: a tree if there is no fault so far and none to come, else the first of them
    abbrev pub IsRest : Option (Fault K) → (Fault K → Type 0) → List P → Answer T K → Type 0
    IsRest best Left ps (Parsed t) = (best ≡ None) × ((x : Fault K) → ¬ Left x) × r.Writes t ps
    IsRest best Left ps (Refused x) = ((best ≡ Some x) ⊎ Left x) × ((y : Fault K) → (best ≡ Some y) ⊎ Left y → NotAfter r x y)

    -- if the text breaks off here, the first of the shown faults and of the break is the first of all faults in this
    -- state
    broken_off : (n : ℕ) (done : List (Token P)) (f : F) (rest : List (Token P)) (best o : Option (Fault K)) (ps : List P) → IsFirstAmong r best (r.shown n done f rest) o
        → BreaksOff r (pieces done) (pieces rest) → IsRest best (Here n done f rest) ps (Refused (first_of r o (stop_kind_at r n f rest)))
    broken_off n done f rest best o ps h b = (one (first_of_is r o (stop_kind_at r n f rest)).one, least o h (first_of_is r o (stop_kind_at r n f rest)))
      where
        one : (o ≡ Some (first_of r o (stop_kind_at r n f rest))) ⊎ (first_of r o (stop_kind_at r n f rest) ≡ stop_kind_at r n f rest)
            → (best ≡ Some (first_of r o (stop_kind_at r n f rest))) ⊎ Here n done f rest (first_of r o (stop_kind_at r n f rest))
        one (inr e) = inr (inr (b, sym e))
        one (inl e) = shown (subst (IsFirstAmong r best (r.shown n done f rest)) e h).0
          where
            shown : (best ≡ Some (first_of r o (stop_kind_at r n f rest))) ⊎ Among (first_of r o (stop_kind_at r n f rest)) (r.shown n done f rest)
                → (best ≡ Some (first_of r o (stop_kind_at r n f rest))) ⊎ Here n done f rest (first_of r o (stop_kind_at r n f rest))
            shown (inl k) = inl k
            shown (inr k) = inr (inl k)

        least : (o : Option (Fault K)) → IsFirstAmong r best (r.shown n done f rest) o → IsFirstOf r o (stop_kind_at r n f rest) (first_of r o (stop_kind_at r n f rest))
            → (y : Fault K) → (best ≡ Some y) ⊎ Here n done f rest y → NotAfter r (first_of r o (stop_kind_at r n f rest)) y
        least None h g y (inl k) = let e = h.0 in cc
        least None h g y (inr (inl a)) = absurd (h.1 y a)
        least (Some x) h g y (inl k) = not_after_on r (first_of r (Some x) (stop_kind_at r n f rest)) x y (g.so_far x refl) (h.1 y (inl k))
        least (Some x) h g y (inr (inl a)) = not_after_on r (first_of r (Some x) (stop_kind_at r n f rest)) x y (g.so_far x refl) (h.1 y (inr a))
        least o h g y (inr (inr c)) = subst (NotAfter r (first_of r o (stop_kind_at r n f rest))) c.1 g.other

    -- once reading has stopped with a fault, that fault is the answer
    run-stopped : (rest : List (Token P)) (n : ℕ) (x : Fault K) → run r n (Stopped x) rest ≡ Refused x
    run-stopped [] n x = refl
    run-stopped (p ∷ rest) n x = refl

    -- no fault is to come once a piece has been rejected
    pub nowhere_ahead : (rest : List (Token P)) (n : ℕ) (done : List (Token P)) (x : Fault K) → ¬ Ahead n done None rest x
    nowhere_ahead [] n done x h = h
    nowhere_ahead (p ∷ rest) n done x h = h

    -- the answer at the end of the text
    rest_ended : (n : ℕ) (done : List (Token P)) (f : F) (best : Option (Fault K)) → reached r (pieces done) ≡ Some f
        → IsRest best (Here n done f []) (pieces (onto done [])) (ended r (first_among r best (r.shown n done f [])) (r.finish f) (stop_kind_at r n f []))
    rest_ended n done f best e = go (first_among r best (r.shown n done f [])) (first_among_is r (r.shown n done f []) best) (r.finish f) refl
      where
        whole : (x : Fault K) (t : T) → r.finish f ≡ Some t → ((y : Fault K) → ¬ Among y (r.shown n done f [])) → ¬ Here n done f [] x
        whole x t k h (inl a) = h x a
        whole x t k h (inr b) = ends_here (pieces done) f t e k b.0

        one : (x : Fault K) → (best ≡ Some x) ⊎ Among x (r.shown n done f []) → (best ≡ Some x) ⊎ Here n done f [] x
        one x (inl a) = inl a
        one x (inr a) = inr (inl a)

        least : (x : Fault K) (t : T) → r.finish f ≡ Some t → ((y : Fault K) → (best ≡ Some y) ⊎ Among y (r.shown n done f []) → NotAfter r x y) → (y : Fault K) → (best ≡ Some y) ⊎ Here n done f [] y → NotAfter r x y
        least x t k h y (inl a) = h y (inl a)
        least x t k h y (inr (inl a)) = h y (inr a)
        least x t k h y (inr (inr b)) = absurd (ends_here (pieces done) f t e k b.0)

        go : (o : Option (Fault K)) → IsFirstAmong r best (r.shown n done f []) o → (t : Option T) → r.finish f ≡ t
            → IsRest best (Here n done f []) (pieces (onto done [])) (ended r o t (stop_kind_at r n f []))
        go None h (Some t) k = (h.0, λ x. whole x t k h.1, subst (r.Writes t) (sym (pieces-onto done [])) (laws.ends (pieces done) f t e k))
        go (Some x) h (Some t) k = (one x h.0, least x t k h.1)
        go None h None k = broken_off n done f [] best None (pieces (onto done [])) h (breaks_end (pieces done) f e k)
        go (Some x) h None k = broken_off n done f [] best (Some x) (pieces (onto done [])) h (breaks_end (pieces done) f e k)

    -- reading from a state answers the tree if there is no fault so far and none to come, else the first fault
    pub run_is : (rest : List (Token P)) (n : ℕ) (done : List (Token P)) (f : F) (best : Option (Fault K)) → reached r (pieces done) ≡ Some f
        → IsRest best (Ahead n done (Some f) rest) (pieces (onto done rest)) (run r n (Going best done f) rest)
    run_is [] n done f best e = rest_ended n done f best e
    run_is (p ∷ rest) n done f best e =
        go (first_among r best (r.shown n done f (p ∷ rest))) (first_among_is r (r.shown n done f (p ∷ rest)) best) (r.step f p.piece) refl
        (λ g o k. run_is rest n (p ∷ done) g o k)
      where
        Left : Fault K → Type 0
        Left = Ahead n done (Some f) (p ∷ rest)

        broken : (ps : List P) (x : Fault K) → IsRest best (Here n done f (p ∷ rest)) ps (Refused x) → r.step f p.piece ≡ None → IsRest best (Ahead n done (Some f) (p ∷ rest)) ps (Refused x)
        broken ps x h k = (one h.0, least)
          where
            one : (best ≡ Some x) ⊎ Here n done f (p ∷ rest) x → (best ≡ Some x) ⊎ Ahead n done (Some f) (p ∷ rest) x
            one (inl a) = inl a
            one (inr a) = inr (inl a)

            least : (y : Fault K) → (best ≡ Some y) ⊎ Ahead n done (Some f) (p ∷ rest) y → NotAfter r x y
            least y (inl a) = h.1 y (inl a)
            least y (inr (inl a)) = h.1 y (inr a)
            least y (inr (inr a)) = absurd (nowhere_ahead rest n (p ∷ done) y (subst (λ (v : Option F). Ahead n (p ∷ done) v rest y) k a))

        led : (g : F) (o : Option (Fault K)) (a : Answer T K) → r.step f p.piece ≡ Some g → IsFirstAmong r best (r.shown n done f (p ∷ rest)) o
            → IsRest o (Ahead n (p ∷ done) (Some g) rest) (pieces (onto done (p ∷ rest))) a → IsRest best (Ahead n done (Some f) (p ∷ rest)) (pieces (onto done (p ∷ rest))) a
        led g o (Parsed t) k h i = (a.0, none, i.2)
          where
            a : IsFirstAmong r best (r.shown n done f (p ∷ rest)) None
            a = subst (IsFirstAmong r best (r.shown n done f (p ∷ rest))) i.0 h

            none : (x : Fault K) → ¬ Ahead n done (Some f) (p ∷ rest) x
            none x (inl (inl s)) = a.1 x s
            none x (inl (inr b)) = goes_here (pieces done) f g p.piece (pieces rest) e k b.0
            none x (inr s) = i.1 x (subst (λ (v : Option F). Ahead n (p ∷ done) v rest x) k s)
        led g o (Refused x) k h i = (one i.0, least o h i.1)
          where
            one : (o ≡ Some x) ⊎ Ahead n (p ∷ done) (Some g) rest x → (best ≡ Some x) ⊎ Ahead n done (Some f) (p ∷ rest) x
            one (inr s) = inr (inr (subst (λ (v : Option F). Ahead n (p ∷ done) v rest x) (sym k) s))
            one (inl s) = of (subst (IsFirstAmong r best (r.shown n done f (p ∷ rest))) s h).0
              where
                of : (best ≡ Some x) ⊎ Among x (r.shown n done f (p ∷ rest)) → (best ≡ Some x) ⊎ Ahead n done (Some f) (p ∷ rest) x
                of (inl m) = inl m
                of (inr m) = inr (inl (inl m))

            least : (o : Option (Fault K)) → IsFirstAmong r best (r.shown n done f (p ∷ rest)) o → ((y : Fault K) → (o ≡ Some y) ⊎ Ahead n (p ∷ done) (Some g) rest y → NotAfter r x y)
                → (y : Fault K) → (best ≡ Some y) ⊎ Ahead n done (Some f) (p ∷ rest) y → NotAfter r x y
            least None h i y (inl m) = let w = h.0 in cc
            least (Some z) h i y (inl m) = not_after_on r x z y (i z (inl refl)) (h.1 y (inl m))
            least None h i y (inr (inl (inl s))) = absurd (h.1 y s)
            least (Some z) h i y (inr (inl (inl s))) = not_after_on r x z y (i z (inl refl)) (h.1 y (inr s))
            least o h i y (inr (inl (inr b))) = absurd (goes_here (pieces done) f g p.piece (pieces rest) e k b.0)
            least o h i y (inr (inr s)) = i y (inr (subst (λ (v : Option F). Ahead n (p ∷ done) v rest y) k s))

        go : (o : Option (Fault K)) → IsFirstAmong r best (r.shown n done f (p ∷ rest)) o → (q : Option F) → r.step f p.piece ≡ q
            → ((g : F) (o : Option (Fault K)) → reached r (p.piece ∷ pieces done) ≡ Some g → IsRest o (Ahead n (p ∷ done) (Some g) rest) (pieces (onto done (p ∷ rest))) (run r n (Going o (p ∷ done) g) rest))
            → IsRest best (Ahead n done (Some f) (p ∷ rest)) (pieces (onto done (p ∷ rest))) (run r n (further r o done p q (stop_kind_at r n f (p ∷ rest))) rest)
        go o h None k ih =
            subst (IsRest best (Ahead n done (Some f) (p ∷ rest)) (pieces (onto done (p ∷ rest)))) (sym (run-stopped rest n (first_of r o (stop_kind_at r n f (p ∷ rest)))))
            (broken (pieces (onto done (p ∷ rest))) (first_of r o (stop_kind_at r n f (p ∷ rest)))
            (broken_off n done f (p ∷ rest) best o (pieces (onto done (p ∷ rest))) h (breaks_here (pieces done) f p.piece (pieces rest) e k)) k)
        go o h (Some g) k ih = led g o (run r n (Going o (p ∷ done) g) rest) k h (ih g o (ap (λ (v : Option F). next r.step v p.piece) e ∙ k))

    -- the answer is exactly the tree, or exactly the first fault
    pub answer_is : (n : ℕ) (ts : List (Token P)) → Answers r n ts (answer r n ts)
    answer_is n ts = go (answer r n ts) (run_is ts n [] r.beginning None refl)
      where
        go : (a : Answer T K) → IsRest None (Ahead n [] (Some r.beginning) ts) (pieces ts) a → Answers r n ts a
        go (Parsed t) h = record {
          written = h.2;
          faultless = λ x fault. h.1 x (fault_ahead n ts x fault);
          only = λ u w. one_tree u t (pieces ts) w h.2;
        }
        go (Refused x) h = record {
          is = is h.0;
          least = λ y fault. h.1 y (inr (fault_ahead n ts y fault));
        }
          where
            is : (None ≡ Some x) ⊎ Ahead n [] (Some r.beginning) ts x → FaultAt r n ts x
            is (inl e) = cc
            is (inr s) = ahead_fault ts n [] (Some r.beginning) x refl s

    -- a reader that satisfies its laws answers each text right
    pub answers_all : AnswersAll r
    answers_all = record { each = answer_is }

    pub one_tree_each : OneTree r
    one_tree_each = record { each = one_tree }

    pub one_first_each : OneFirst r
    one_first_each = record { each = λ n ts x y a b. same_first x y (a.least y b.is) (b.least x a.is) }
