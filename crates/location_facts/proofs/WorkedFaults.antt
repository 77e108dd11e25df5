-- The worked values of the first faults of facts of a small program hold.
use Rattle.std.proofs.Common.{◌≡◌, inl, inr, ℕ, zero, suc, ◌≤◌, arith, refl, sym, subst, List, [], ◌∷◌, length}
use Rattle.std.specs.Prelude.{ℤ, pos, negsuc, ◌+ℤ◌, ◌*ℤ◌, ◌≤ℤ◌, Vec}
use Rattle.std.specs.declared.alloc.Global.{Global}
use Rattle.std.specs.List.{All}
use Rattle.std.proofs.lemmas.Int.{ints}
use Rattle.std.proofs.lemmas.List.Elements.{All-nil, All-cons, All-head, All-tail}
use Rattle.poly_terms.specs.linear_forms.Certificates.{Implies, combined_coef}
use Rattle.poly_terms.specs.linear_forms.Forms.{Form, at}
use Rattle.poly_terms.specs.linear_forms.Limits.{certificate_limit}
use Rattle.farkas_cert.specs.Sizes.{AreWithinLimit}
use Rattle.cert_types.specs.guard_prep.Tightening.{divisor_of}
use Rattle.location_facts.specs.declared.fact.LocFact.{LocFact}
use Rattle.location_facts.specs.declared.fact.FactProof.{FactProof}
use Rattle.location_facts.specs.declared.fact.FactProof.TheVariants.{Implied}
use Rattle.location_facts.specs.Certificates.{IsWithinLimit}
use Rattle.location_facts.specs.Faults.{IsRight, AreRight, ShowsFact, ProofsShow}
use Rattle.location_facts.specs.Faults.{IsFirstFault, least_number}
use Rattle.location_facts.specs.Worked.{counting, natural, positive, fact, line}
use Rattle.location_facts.specs.WorkedFaults.{two_proofs, fault, ProvedIsWorkedOut, ShapesAreWorkedOut}
use Rattle.location_facts.specs.WorkedFaults.{UnshownIsWorkedOut}
use Rattle.location_facts.specs.WorkedFaults.{FaultsAreWorkedOut}
use Rattle.location_facts.proofs.FaultSteps.{right-none, right-more, shown-none, shown-more, proofs-none, proofs-more}
use Rattle.location_facts.proofs.WorkedFacts.{tried-one, one-follows, second-follows}

-- a number is within the limit
abbrev Few : ℕ → Type 0
Few m = m ≤ certificate_limit

-- two proofs with such numbers are within the limit
two-within : (v w : Vec ℕ Global) (a b : List ℕ) → v.items ≡ a → w.items ≡ b → AreWithinLimit a → AreWithinLimit b
    → All IsWithinLimit (two_proofs v w)
two-within v w a b e g h k =
    All-cons IsWithinLimit (Implied v 1) (Implied w 1 ∷ [])
    (subst AreWithinLimit (sym e) h, omega arith, omega arith)
    (All-cons IsWithinLimit (Implied w 1) [] (subst AreWithinLimit (sym g) k, omega arith, omega arith)
    (All-nil IsWithinLimit))

-- lists of one, two and three small numbers are within the limit
one-few : (m : ℕ) → m ≤ 1 → AreWithinLimit (m ∷ [])
one-few m l = All-cons Few m [] (omega (arith, l)) (All-nil Few)

two-few : (m n : ℕ) → m ≤ 1 → n ≤ 1 → AreWithinLimit (m ∷ n ∷ [])
two-few m n l h = All-cons Few m (n ∷ []) (omega (arith, l)) (one-few n h)

three-few : (m n k : ℕ) → m ≤ 1 → n ≤ 1 → k ≤ 1 → AreWithinLimit (m ∷ n ∷ k ∷ [])
three-few m n k l h g = All-cons Few m (n ∷ k ∷ []) (omega (arith, l)) (two-few n k h g)

-- A >= 0 and A >= 1 are right at l1 with two proofs within the limit
natural-right : (least : ℕ) (ps : List FactProof) → least ≤ 271 → length ps ≡ 2 → All IsWithinLimit ps
    → IsRight counting least natural ps
natural-right least ps l e h = record {
  candidate = tried-one (pos 0) (omega (arith, ints)) (omega (arith, ints));
  behind = l;
  one_each = e;
  numbers = h;
}

positive-right : (least : ℕ) (ps : List FactProof) → least ≤ 272 → length ps ≡ 2 → All IsWithinLimit ps
    → IsRight counting least positive ps
positive-right least ps l e h = record {
  candidate = tried-one (pos 1) (omega (arith, ints)) (omega (arith, ints));
  behind = l;
  one_each = e;
  numbers = h;
}

-- if the first fact of a list is right, the facts of the list up to it are
first-right : (f : LocFact) (kept : List LocFact) (ps : List FactProof) (proofs : List (List FactProof))
    → IsRight counting 0 f ps → AreRight counting (f ∷ kept) (ps ∷ proofs) 1
first-right f kept ps proofs h =
    right-more counting (f ∷ kept) (ps ∷ proofs) 0 f ps (right-none counting (f ∷ kept) (ps ∷ proofs))
    (record { fact = refl; listed = refl }) h

-- a fact of l1 about its first place is shown by two proofs
both-shown : (kept : List LocFact) (k : ℤ) (a b : FactProof) → ShowsFact counting kept (fact 1 1 0 k) 1 a
    → ShowsFact counting kept (fact 1 1 0 k) 2 b → ProofsShow counting kept (fact 1 1 0 k) (a ∷ b ∷ []) 2
both-shown kept k a b s t =
    proofs-more counting kept (fact 1 1 0 k) (a ∷ b ∷ []) 1 2 b (first-shown kept k a b s)
    (record { rule = refl; listed = refl }) t
  where
    first-shown : (kept : List LocFact) (k : ℤ) (a b : FactProof) → ShowsFact counting kept (fact 1 1 0 k) 1 a
        → ProofsShow counting kept (fact 1 1 0 k) (a ∷ b ∷ []) 1
    first-shown kept k a b s =
        proofs-more counting kept (fact 1 1 0 k) (a ∷ b ∷ []) 0 1 a
        (proofs-none counting kept (fact 1 1 0 k) (a ∷ b ∷ [])) (record { rule = refl; listed = refl }) s

-- the multipliers show the goal from the rows
abbrev Follows : List Form → Form → List ℕ → Type 0
Follows rows goal ms = Implies rows ms goal

-- 1 isn't 0
one-zero : pos 1 ≡ pos 0 → ⊥
one-zero e = omega (arith, ints, e)

-- with 1 the first rule shows A >= 0, and with 0 it doesn't
natural-first : (one : Vec ℕ Global) → one.items ≡ 1 ∷ [] → ShowsFact counting (natural ∷ []) natural 1 (Implied one 1)
unfolding divisor_of
natural-first one e =
    subst (Follows (line (pos 1) (negsuc 0) ∷ []) (line (pos 1) (pos 0))) (sym e) one-follows

natural-first-not : (none : Vec ℕ Global) → none.items ≡ 0 ∷ []
    → ShowsFact counting (natural ∷ []) natural 1 (Implied none 1) → ⊥
unfolding divisor_of
natural-first-not none e h =
    one-zero ((subst (Follows (line (pos 1) (negsuc 0) ∷ []) (line (pos 1) (pos 0))) e h).coefs 0)

-- with 1 and 0 the second rule shows A >= 0, and with 0 and 0, or with one multiplier, it doesn't
natural-second : (first : Vec ℕ Global) → first.items ≡ 1 ∷ 0 ∷ []
    → ShowsFact counting (natural ∷ []) natural 2 (Implied first 1)
unfolding divisor_of
natural-second first e =
    subst (Follows (line (pos 1) (negsuc 0) ∷ line (pos 1) (pos 0) ∷ []) (line (pos 1) (negsuc 0))) (sym e)
    second-follows

natural-second-not : (zeros : Vec ℕ Global) → zeros.items ≡ 0 ∷ 0 ∷ []
    → ShowsFact counting (natural ∷ []) natural 2 (Implied zeros 1) → ⊥
unfolding divisor_of
natural-second-not zeros e h =
    one-zero ((subst (Follows (line (pos 1) (negsuc 0) ∷ line (pos 1) (pos 0) ∷ []) (line (pos 1) (negsuc 0))) e
    h).coefs 0)

natural-second-short : (one : Vec ℕ Global) → one.items ≡ 1 ∷ []
    → ShowsFact counting (natural ∷ []) natural 2 (Implied one 1) → ⊥
unfolding divisor_of
natural-second-short one e h =
    let long : 1 ≡ 2 =
    (subst (Follows (line (pos 1) (negsuc 0) ∷ line (pos 1) (pos 0) ∷ []) (line (pos 1) (negsuc 0))) e h).long in
    omega (arith, long)

-- the worked value of a faultless proof holds
proved-worked : ProvedIsWorkedOut
proved-worked = record {
  nothing = record {
    one_each = refl;
    right = right-none counting [] [];
    shown = shown-none counting [] [];
  };
  natural_is = λ one first e g. record {
    one_each = refl;
    right = first-right natural [] (two_proofs one first) []
        (natural-right 0 (two_proofs one first) (omega arith) refl
        (two-within one first (1 ∷ []) (1 ∷ 0 ∷ []) e g (one-few 1 (omega arith))
        (two-few 1 0 (omega arith) (omega arith))));
    shown = shown-more counting (natural ∷ []) (two_proofs one first ∷ []) 0 natural (two_proofs one first)
        (shown-none counting (natural ∷ []) (two_proofs one first ∷ [])) (record { fact = refl; listed = refl })
        (both-shown (natural ∷ []) (pos 0) (Implied one 1) (Implied first 1) (natural-first one e)
        (natural-second first g));
  };
}

-- a first fact that is wrong is the first fault
first-wrong : (f : LocFact) (kept : List LocFact) (ps : List FactProof) (proofs : List (List FactProof))
    → length proofs ≡ length kept → (IsRight counting 0 f ps → ⊥)
    → IsFirstFault counting (f ∷ kept) (ps ∷ proofs) (fault 1 0)
first-wrong f kept ps proofs e wrong =
    inr (inl (record {
      one_each = omega (arith, e);
      position = 0;
      wrong = f;
      with_proofs = ps;
      stands = record { fact = refl; listed = refl };
      before = right-none counting (f ∷ kept) (ps ∷ proofs);
      is_wrong = wrong;
      fact = refl;
      rule = refl;
    }))

-- a second fact that is wrong, after a right one, is the first fault
second-wrong : (f g : LocFact) (ps qs : List FactProof) → IsRight counting 0 f ps
    → (IsRight counting (least_number (f ∷ g ∷ []) 1) g qs → ⊥)
    → IsFirstFault counting (f ∷ g ∷ []) (ps ∷ qs ∷ []) (fault 2 0)
second-wrong f g ps qs right wrong =
    inr (inl (record {
      one_each = refl;
      position = 1;
      wrong = g;
      with_proofs = qs;
      stands = record { fact = refl; listed = refl };
      before = first-right f (g ∷ []) ps (qs ∷ []) right;
      is_wrong = wrong;
      fact = refl;
      rule = refl;
    }))

shapes-worked : ShapesAreWorkedOut
shapes-worked = record {
  missing = inl (record { uneven = λ e. omega (arith, e); fact = refl; rule = refl });
  too_many = λ proofs. inl (record { uneven = λ e. omega (arith, e); fact = refl; rule = refl });
  one_proof = λ any. first-wrong natural [] (Implied any 1 ∷ []) [] refl
      (λ h. let e : 1 ≡ 2 = h.one_each in omega (arith, e));
  three_proofs = λ one any. first-wrong natural [] (Implied one 1 ∷ two_proofs one any) [] refl
      (λ h. let e : 3 ≡ 2 = h.one_each in omega (arith, e));
  no_denominator = λ one any. first-wrong natural [] (Implied one 0 ∷ Implied any 1 ∷ []) [] refl
      (λ h. let w : IsWithinLimit (Implied one 0) =
      All-head IsWithinLimit (Implied one 0) (Implied any 1 ∷ []) h.numbers in
      let l = w.1 in omega (arith, l));
  large_denominator = λ one any. first-wrong natural [] (Implied one 1 ∷ Implied any 72057594037927937 ∷ []) [] refl
      (λ h. let w : IsWithinLimit (Implied any 72057594037927937) =
      All-head IsWithinLimit (Implied any 72057594037927937) []
      (All-tail IsWithinLimit (Implied one 1) (Implied any 72057594037927937 ∷ []) h.numbers) in
      let l = w.2 in omega (arith, l));
  large_multiplier = λ more any e. first-wrong natural [] (two_proofs more any) [] refl
      (λ h. let w : IsWithinLimit (Implied more 1) =
      All-head IsWithinLimit (Implied more 1) (Implied any 1 ∷ []) h.numbers in
      too-large (subst AreWithinLimit e w.0));
  again = λ none first e g. second-wrong natural natural (two_proofs none first) (two_proofs none first)
      (natural-right 0 (two_proofs none first) (omega arith) refl (within none first e g))
      (λ h. let l : 272 ≤ 271 = h.behind in omega (arith, l));
  lesser = λ none first e g. second-wrong positive natural (two_proofs none first) (two_proofs none first)
      (positive-right 0 (two_proofs none first) (omega arith) refl (within none first e g))
      (λ h. let l : 273 ≤ 271 = h.behind in omega (arith, l));
  first_of_two = λ any. first-wrong natural (positive ∷ []) (Implied any 1 ∷ []) ((Implied any 1 ∷ []) ∷ []) refl
      (λ h. let e : 1 ≡ 2 = h.one_each in omega (arith, e));
  uneven_first = inl (record { uneven = λ e. omega (arith, e); fact = refl; rule = refl });
}
  where
    too-large : AreWithinLimit (72057594037927937 ∷ []) → ⊥
    too-large h =
        let l : 72057594037927937 ≤ certificate_limit = All-head Few 72057594037927937 [] h in omega (arith, l)

    within : (none first : Vec ℕ Global) → none.items ≡ 0 ∷ [] → first.items ≡ 1 ∷ 0 ∷ []
        → All IsWithinLimit (two_proofs none first)
    within none first e g =
        two-within none first (0 ∷ []) (1 ∷ 0 ∷ []) e g (one-few 0 (omega arith))
        (two-few 1 0 (omega arith) (omega arith))

-- a proof of A >= 0 by the first rule that doesn't show it is the first such proof; so is one by the second rule, after
-- one that does
first-unshown : (a b : Vec ℕ Global) → All IsWithinLimit (two_proofs a b)
    → (ShowsFact counting (natural ∷ []) natural 1 (Implied a 1) → ⊥)
    → IsFirstFault counting (natural ∷ []) (two_proofs a b ∷ []) (fault 1 1)
first-unshown a b within not =
    inr (inr (record {
      one_each = refl;
      right = first-right natural [] (two_proofs a b) [] (natural-right 0 (two_proofs a b) (omega arith) refl within);
      position = 0;
      unshown = natural;
      with_proofs = two_proofs a b;
      stands = record { fact = refl; listed = refl };
      before = shown-none counting (natural ∷ []) (two_proofs a b ∷ []);
      proof_position = 0;
      proof = Implied a 1;
      refutes_for = record { rule = refl; listed = refl };
      earlier = proofs-none counting (natural ∷ []) natural (two_proofs a b);
      shows_not = not;
      fact = refl;
    }))

second-unshown : (a b : Vec ℕ Global) → All IsWithinLimit (two_proofs a b)
    → ShowsFact counting (natural ∷ []) natural 1 (Implied a 1)
    → (ShowsFact counting (natural ∷ []) natural 2 (Implied b 1) → ⊥)
    → IsFirstFault counting (natural ∷ []) (two_proofs a b ∷ []) (fault 1 2)
second-unshown a b within shown not =
    inr (inr (record {
      one_each = refl;
      right = first-right natural [] (two_proofs a b) [] (natural-right 0 (two_proofs a b) (omega arith) refl within);
      position = 0;
      unshown = natural;
      with_proofs = two_proofs a b;
      stands = record { fact = refl; listed = refl };
      before = shown-none counting (natural ∷ []) (two_proofs a b ∷ []);
      proof_position = 1;
      proof = Implied b 1;
      refutes_for = record { rule = refl; listed = refl };
      earlier = proofs-more counting (natural ∷ []) natural (two_proofs a b) 0 1 (Implied a 1)
          (proofs-none counting (natural ∷ []) natural (two_proofs a b)) (record { rule = refl; listed = refl }) shown;
      shows_not = not;
      fact = refl;
    }))

-- the facts A >= 0 and A >= 1
abbrev two_facts : List LocFact
two_facts = natural ∷ positive ∷ []

-- under both facts the second rule has three rows
abbrev three_rows : List Form
three_rows = line (pos 1) (negsuc 0) ∷ line (pos 1) (pos 0) ∷ line (pos 1) (negsuc 0) ∷ []

natural-first-both : (one : Vec ℕ Global) → one.items ≡ 1 ∷ [] → ShowsFact counting two_facts natural 1 (Implied one 1)
unfolding divisor_of
natural-first-both one e =
    subst (Follows (line (pos 1) (negsuc 0) ∷ []) (line (pos 1) (pos 0))) (sym e) one-follows

positive-first-both : (one : Vec ℕ Global) → one.items ≡ 1 ∷ []
    → ShowsFact counting two_facts positive 1 (Implied one 1)
unfolding divisor_of
positive-first-both one e =
    subst (Follows (line (pos 1) (negsuc 0) ∷ []) (line (pos 1) (negsuc 0))) (sym e)
    (record { long = refl; coefs = same; constant = omega (arith, ints) })
  where
    same : (u : ℕ) → at (pos 1 ∷ []) u ≡ pos 1 *ℤ at (pos 1 ∷ []) u +ℤ pos 0
    same zero = refl
    same (suc u) = refl

natural-second-both : (first : Vec ℕ Global) → first.items ≡ 1 ∷ 0 ∷ 0 ∷ []
    → ShowsFact counting two_facts natural 2 (Implied first 1)
unfolding divisor_of
natural-second-both first e =
    subst (Follows three_rows (line (pos 1) (negsuc 0))) (sym e)
    (record { long = refl; coefs = same; constant = omega (arith, ints) })
  where
    same : (u : ℕ) → at (pos 1 ∷ []) u ≡ combined_coef (1 ∷ 0 ∷ 0 ∷ []) three_rows u
    same zero = refl
    same (suc u) = refl

positive-second-not : (first : Vec ℕ Global) → first.items ≡ 1 ∷ 0 ∷ 0 ∷ []
    → ShowsFact counting two_facts positive 2 (Implied first 1) → ⊥
unfolding divisor_of
positive-second-not first e h =
    let l : negsuc 0 ≤ℤ negsuc 1 = (subst (Follows three_rows (line (pos 1) (negsuc 1))) e h).constant in
    omega (arith, ints, l)

-- the second fact is the first with a proof that doesn't show it
second-fact : (one first : Vec ℕ Global) → one.items ≡ 1 ∷ [] → first.items ≡ 1 ∷ 0 ∷ 0 ∷ []
    → IsFirstFault counting two_facts (two_proofs one first ∷ two_proofs one first ∷ []) (fault 2 2)
second-fact one first e g =
    let within = two-within one first (1 ∷ []) (1 ∷ 0 ∷ 0 ∷ []) e g (one-few 1 (omega arith))
    (three-few 1 0 0 (omega arith) (omega arith) (omega arith)) in
    inr (inr (record {
      one_each = refl;
      right = right-more counting two_facts (two_proofs one first ∷ two_proofs one first ∷ []) 1 positive
          (two_proofs one first)
          (first-right natural (positive ∷ []) (two_proofs one first) ((two_proofs one first) ∷ [])
          (natural-right 0 (two_proofs one first) (omega arith) refl within))
          (record { fact = refl; listed = refl }) (positive-right 272 (two_proofs one first) (omega arith) refl within);
      position = 1;
      unshown = positive;
      with_proofs = two_proofs one first;
      stands = record { fact = refl; listed = refl };
      before = shown-more counting two_facts (two_proofs one first ∷ two_proofs one first ∷ []) 0 natural
          (two_proofs one first) (shown-none counting two_facts (two_proofs one first ∷ two_proofs one first ∷ []))
          (record { fact = refl; listed = refl })
          (both-shown two_facts (pos 0) (Implied one 1) (Implied first 1) (natural-first-both one e)
          (natural-second-both first g));
      proof_position = 1;
      proof = Implied first 1;
      refutes_for = record { rule = refl; listed = refl };
      earlier = proofs-more counting two_facts positive (two_proofs one first) 0 1 (Implied one 1)
          (proofs-none counting two_facts positive (two_proofs one first)) (record { rule = refl; listed = refl })
          (positive-first-both one e);
      shows_not = positive-second-not first g;
      fact = refl;
    }))

-- with 0, 0 and 0 the second rule doesn't show A >= 0 under both facts
natural-second-not-both : (zeros : Vec ℕ Global) → zeros.items ≡ 0 ∷ 0 ∷ 0 ∷ []
    → ShowsFact counting two_facts natural 2 (Implied zeros 1) → ⊥
unfolding divisor_of
natural-second-not-both zeros e h = one-zero ((subst (Follows three_rows (line (pos 1) (negsuc 0))) e h).coefs 0)

-- the first fact's second proof is the first one that is wrong, whatever the second fact's proofs are
by-fact : (one zeros none first : Vec ℕ Global) → one.items ≡ 1 ∷ [] → zeros.items ≡ 0 ∷ 0 ∷ 0 ∷ []
    → none.items ≡ 0 ∷ [] → first.items ≡ 1 ∷ 0 ∷ 0 ∷ []
    → IsFirstFault counting two_facts (two_proofs one zeros ∷ two_proofs none first ∷ []) (fault 1 2)
by-fact one zeros none first e g h k =
    let within-first = two-within one zeros (1 ∷ []) (0 ∷ 0 ∷ 0 ∷ []) e g (one-few 1 (omega arith))
    (three-few 0 0 0 (omega arith) (omega arith) (omega arith)) in
    let within-second = two-within none first (0 ∷ []) (1 ∷ 0 ∷ 0 ∷ []) h k (one-few 0 (omega arith))
    (three-few 1 0 0 (omega arith) (omega arith) (omega arith)) in
    inr (inr (record {
      one_each = refl;
      right = right-more counting two_facts (two_proofs one zeros ∷ two_proofs none first ∷ []) 1 positive
          (two_proofs none first)
          (first-right natural (positive ∷ []) (two_proofs one zeros) (two_proofs none first ∷ [])
          (natural-right 0 (two_proofs one zeros) (omega arith) refl within-first))
          (record { fact = refl; listed = refl })
          (positive-right 272 (two_proofs none first) (omega arith) refl within-second);
      position = 0;
      unshown = natural;
      with_proofs = two_proofs one zeros;
      stands = record { fact = refl; listed = refl };
      before = shown-none counting two_facts (two_proofs one zeros ∷ two_proofs none first ∷ []);
      proof_position = 1;
      proof = Implied zeros 1;
      refutes_for = record { rule = refl; listed = refl };
      earlier = proofs-more counting two_facts natural (two_proofs one zeros) 0 1 (Implied one 1)
          (proofs-none counting two_facts natural (two_proofs one zeros)) (record { rule = refl; listed = refl })
          (natural-first-both one e);
      shows_not = natural-second-not-both zeros g;
      fact = refl;
    }))

unshown-sound : UnshownIsWorkedOut
unshown-sound = record {
  first_rule = λ none any e g.
      first-unshown none any
      (two-within none any (0 ∷ []) (0 ∷ 0 ∷ []) e g (one-few 0 (omega arith))
      (two-few 0 0 (omega arith) (omega arith)))
      (natural-first-not none e);
  second_rule = λ one zeros e g.
      second-unshown one zeros
      (two-within one zeros (1 ∷ []) (0 ∷ 0 ∷ []) e g (one-few 1 (omega arith))
      (two-few 0 0 (omega arith) (omega arith)))
      (natural-first one e) (natural-second-not zeros g);
  too_short = λ one e.
      second-unshown one one
      (two-within one one (1 ∷ []) (1 ∷ []) e e (one-few 1 (omega arith)) (one-few 1 (omega arith)))
      (natural-first one e) (natural-second-short one e);
  second_fact = second-fact;
  by_fact = by-fact;
}

pub faults-are-worked-out : FaultsAreWorkedOut
faults-are-worked-out = record { proved = proved-worked; shapes = shapes-worked; unshown = unshown-sound }
