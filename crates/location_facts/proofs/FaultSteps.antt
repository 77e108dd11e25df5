-- Faults of facts and their proofs, one position after the other.
use Rattle.std.proofs.Common.{◌≡◌, ◌⊎◌, inl, inr, ℕ, suc, ◌+◌, ◌<◌, ◌≤◌, ap, arith, refl, sym, ◌∙◌, subst, List}
use Rattle.std.proofs.Common.{length, get_or, Option, Some, None, option_map}
use Rattle.std.specs.Prelude.{slice_get, Vec, MatchOption}
use Rattle.std.specs.declared.alloc.Global.{Global}
use Rattle.std.proofs.lemmas.Bool.{cases_lt}
use Rattle.std.proofs.lemmas.List.{length-map}
use Rattle.std.proofs.lemmas.Option.{slice_get-map}
use Rattle.poly_terms.specs.model.Programs.{Program}
use Rattle.poly_terms.proofs.model.Cases.{some_same}
use Rattle.location_facts.specs.declared.fact.LocFact.{LocFact}
use Rattle.location_facts.specs.declared.fact.LocFacts.{LocFacts}
use Rattle.location_facts.specs.declared.fact.FactProof.{FactProof}
use Rattle.location_facts.specs.declared.fact.FactFault.{FactFault}
use Rattle.location_facts.specs.Candidates.{order_number}
use Rattle.location_facts.specs.Faults.{number_in, least_number, IsFactAt, IsRight, AreRight, IsProofFor}
use Rattle.location_facts.specs.Faults.{ShowsFact, ProofsShow, AreShown, AreProved, IsFirstFault, proofs_of}
use Rattle.location_facts.specs.CombinedRows.{FindsWrong, FindsFactFault, IsUnshownBy}
use Rattle.location_facts.proofs.ShownRules.{read}

-- the fact and the proofs at a position of the code's lists
pub stands-at : (f : LocFacts) (i : ℕ) (fact : LocFact) (proofs : Vec FactProof Global)
    → slice_get f.kept.items i ≡ Some fact → slice_get f.proofs.items i ≡ Some proofs
    → IsFactAt f.kept.items (proofs_of f) i fact proofs.items
stands-at f i fact proofs e g = record {
  fact = e;
  listed =
      slice_get-map (λ (v : Vec FactProof Global). v.items) f.proofs.items i
      ∙ ap (λ (o : Option (Vec FactProof Global)). option_map (λ (v : Vec FactProof Global). v.items) o) g;
}

-- a position has one fact with its proofs
pub fact-same : (kept : List LocFact) (proofs : List (List FactProof)) (i : ℕ) (f g : LocFact) (ps qs : List FactProof)
    → IsFactAt kept proofs i f ps → IsFactAt kept proofs i g qs → (f ≡ g) × (ps ≡ qs)
fact-same kept proofs i f g ps qs h k =
    (some_same f g (sym h.fact ∙ k.fact), some_same ps qs (sym h.listed ∙ k.listed))

module _ (p : Program) (kept : List LocFact) (proofs : List (List FactProof)) where
  -- before the first position, all facts are right
  pub right-none : AreRight p kept proofs 0
  right-none i f ps l stands = absurd (omega (arith, l))

  -- after one more right fact
  pub right-more : (n : ℕ) (f : LocFact) (ps : List FactProof) → AreRight p kept proofs n
      → IsFactAt kept proofs n f ps → IsRight p (least_number kept n) f ps → AreRight p kept proofs (n + 1)
  right-more n f ps before stands right i g qs l at = go (cases_lt i n)
    where
      same : i ≡ n → IsRight p (least_number kept i) g qs
      same e =
          let at-n : IsFactAt kept proofs n g qs = subst (λ (k : ℕ). IsFactAt kept proofs k g qs) e at in
          let both = fact-same kept proofs n f g ps qs stands at-n in
          subst (λ (k : ℕ). IsRight p (least_number kept k) g qs) (sym e)
          (subst (λ (x : LocFact). IsRight p (least_number kept n) x qs) both.0
          (subst (λ (x : List FactProof). IsRight p (least_number kept n) f x) both.1 right))

      go : (i < n) ⊎ (n ≤ i) → IsRight p (least_number kept i) g qs
      go (inl m) = before i g qs m at
      go (inr m) = same (omega (arith, l, m))

  -- before the first position, all facts are shown
  pub shown-none : AreShown p kept proofs 0
  shown-none i f ps l stands = absurd (omega (arith, l))

  -- after one more fact that is shown
  pub shown-more : (n : ℕ) (f : LocFact) (ps : List FactProof) → AreShown p kept proofs n
      → IsFactAt kept proofs n f ps → ProofsShow p kept f ps (length ps) → AreShown p kept proofs (n + 1)
  shown-more n f ps before stands shown i g qs l at = go (cases_lt i n)
    where
      same : i ≡ n → ProofsShow p kept g qs (length qs)
      same e =
          let at-n : IsFactAt kept proofs n g qs = subst (λ (k : ℕ). IsFactAt kept proofs k g qs) e at in
          let both = fact-same kept proofs n f g ps qs stands at-n in
          subst (λ (x : LocFact). ProofsShow p kept x qs (length qs)) both.0
          (subst (λ (x : List FactProof). ProofsShow p kept f x (length x)) both.1 shown)

      go : (i < n) ⊎ (n ≤ i) → ProofsShow p kept g qs (length qs)
      go (inl m) = before i g qs m at
      go (inr m) = same (omega (arith, l, m))

module _ (p : Program) (kept : List LocFact) (f : LocFact) (ps : List FactProof) where
  -- before the first proof, all proofs show the fact
  pub proofs-none : ProofsShow p kept f ps 0
  proofs-none k t proof l for = absurd (omega (arith, l))

  -- after one more proof that shows the fact
  pub proofs-more : (n t : ℕ) (proof : FactProof) → ProofsShow p kept f ps n → IsProofFor p f ps n t proof
      → ShowsFact p kept f t proof → ProofsShow p kept f ps (n + 1)
  proofs-more n t proof before for shows k u other l at = go (cases_lt k n)
    where
      same : k ≡ n → ShowsFact p kept f u other
      same e =
          let at-n : IsProofFor p f ps n u other = subst (λ (m : ℕ). IsProofFor p f ps m u other) e at in
          subst (λ (x : ℕ). ShowsFact p kept f x other) (some_same t u (sym for.rule ∙ at-n.rule))
          (subst (λ (x : FactProof). ShowsFact p kept f t x) (some_same proof other (sym for.listed ∙ at-n.listed))
          shows)

      go : (k < n) ⊎ (n ≤ k) → ShowsFact p kept f u other
      go (inl m) = before k u other m at
      go (inr m) = same (omega (arith, l, m))

-- there are as many lists of proofs as in the code
pub proofs-many : (f : LocFacts) → length (proofs_of f) ≡ length f.proofs.items
proofs-many f = length-map f.proofs.items (λ (v : Vec FactProof Global). v.items)

-- uneven lists are the first fault
pub uneven-fault : (p : Program) (f : LocFacts) (x : FactFault) → (length f.proofs.items ≡ length f.kept.items → ⊥)
    → x.fact ≡ 0 → x.rule ≡ 0 → IsFirstFault p f.kept.items (proofs_of f) x
uneven-fault p f x n e g =
    inl (record { uneven = λ h. n (sym (proofs-many f) ∙ h); fact = e; rule = g })

-- if all facts and shapes are right, the answer about the proofs is the first fault, or that there is none
pub fault-sound : (p : Program) (f : LocFacts) (o : Option FactFault) → length f.proofs.items ≡ length f.kept.items
    → AreRight p f.kept.items (proofs_of f) (length f.kept.items) → FindsFactFault p f.kept.items (proofs_of f) o
    → MatchOption o (AreProved p f.kept.items (proofs_of f)) (IsFirstFault p f.kept.items (proofs_of f))
fault-sound p f None e right shown = record { one_each = proofs-many f ∙ e; right = right; shown = shown }
fault-sound p f (Some x) e right h = inr (inr h)

-- the first wrong fact is the first fault
pub wrong-fault : (p : Program) (kept : List LocFact) (proofs : List (List FactProof)) (n : ℕ)
    → FindsWrong p kept proofs (Some n) → IsFirstFault p kept proofs (record { fact = n; rule = 0 })
wrong-fault p kept proofs n h = inr (inl h)

-- a wrong fact after right ones is the first wrong one
pub wrong-sound : (p : Program) (f : LocFacts) (i n : ℕ) (fact : LocFact) (proofs : Vec FactProof Global)
    → length f.proofs.items ≡ length f.kept.items → slice_get f.kept.items i ≡ Some fact
    → slice_get f.proofs.items i ≡ Some proofs → AreRight p f.kept.items (proofs_of f) i
    → (IsRight p (least_number f.kept.items i) fact proofs.items → ⊥) → n ≡ i + 1
    → FindsWrong p f.kept.items (proofs_of f) (Some n)
wrong-sound p f i n fact proofs e g h before wrong k = record {
  one_each = proofs-many f ∙ e;
  position = i;
  wrong = fact;
  with_proofs = proofs.items;
  stands = stands-at f i fact proofs g h;
  before = before;
  is_wrong = wrong;
  fact = k;
  rule = refl;
}

-- a fact that isn't shown, after ones that are, is the first
pub unshown-sound : (p : Program) (f : LocFacts) (i t : ℕ) (x : FactFault) (fact : LocFact)
    (proofs : Vec FactProof Global)
    → length f.proofs.items ≡ length f.kept.items → AreRight p f.kept.items (proofs_of f) (length f.kept.items)
    → slice_get f.kept.items i ≡ Some fact → slice_get f.proofs.items i ≡ Some proofs
    → AreShown p f.kept.items (proofs_of f) i → IsUnshownBy p f.kept.items fact proofs.items t
    → x.fact ≡ i + 1 → x.rule ≡ t → FindsFactFault p f.kept.items (proofs_of f) (Some x)
unshown-sound p f i t x fact proofs e right g h before by k l = record {
  one_each = proofs-many f ∙ e;
  right = right;
  position = i;
  unshown = fact;
  with_proofs = proofs.items;
  stands = stands-at f i fact proofs g h;
  before = before;
  proof_position = by.position;
  proof = by.proof;
  refutes_for = subst (λ (n : ℕ). IsProofFor p fact proofs.items by.position n by.proof) (sym l) by.refutes_for;
  earlier = by.earlier;
  shows_not = λ s. by.shows_not (subst (λ (n : ℕ). ShowsFact p f.kept.items fact n by.proof) l s);
  fact = k;
}

-- the shape of the proofs of a right fact
pub right-at : (p : Program) (f : LocFacts) (i : ℕ) (fact : LocFact) (proofs : Vec FactProof Global)
    → i < length f.kept.items
    → AreRight p f.kept.items (proofs_of f) (length f.kept.items) → slice_get f.kept.items i ≡ Some fact
    → slice_get f.proofs.items i ≡ Some proofs → IsRight p (least_number f.kept.items i) fact proofs.items
right-at p f i fact proofs l right g h = right i fact proofs.items l (stands-at f i fact proofs g h)

-- the fact and the proofs that are read at a position
pub stands-read : (f : LocFacts) (i : ℕ) (fact : LocFact) (v : Vec FactProof Global) (ps : List FactProof)
    → i < length f.kept.items → length f.proofs.items ≡ length f.kept.items → fact ≡ get_or f.kept.items i fact
    → v ≡ get_or f.proofs.items i v → ps ≡ v.items → IsFactAt f.kept.items (proofs_of f) i fact ps
stands-read f i fact v ps l one_each e g h =
    subst (IsFactAt f.kept.items (proofs_of f) i fact) (sym h)
    (stands-at f i fact v (read f.kept.items i fact l e) (read f.proofs.items i v (omega (arith, l, one_each)) g))

-- after one more right fact that is read
pub right-next : (p : Program) (f : LocFacts) (i least : ℕ) (fact : LocFact) (v : Vec FactProof Global)
    (ps : List FactProof) → i < length f.kept.items → length f.proofs.items ≡ length f.kept.items
    → fact ≡ get_or f.kept.items i fact → v ≡ get_or f.proofs.items i v → ps ≡ v.items
    → AreRight p f.kept.items (proofs_of f) i → least ≡ least_number f.kept.items i → IsRight p least fact ps
    → AreRight p f.kept.items (proofs_of f) (i + 1)
right-next p f i least fact v ps l one_each e g h before k right =
    right-more p f.kept.items (proofs_of f) i fact ps before (stands-read f i fact v ps l one_each e g h)
    (subst (λ (n : ℕ). IsRight p n fact ps) k right)

-- the least number for the fact after one that is read
pub number-after : (f : LocFacts) (i : ℕ) (fact : LocFact) (n : ℕ) → i < length f.kept.items
    → fact ≡ get_or f.kept.items i fact → n ≡ order_number fact → n + 1 ≡ least_number f.kept.items (i + 1)
number-after f i fact n l e g =
    ap (λ (k : ℕ). k + 1) g ∙ next i fact (read f.kept.items i fact l e)
  where
    next : (i : ℕ) (fact : LocFact) → slice_get f.kept.items i ≡ Some fact
        → order_number fact + 1 ≡ least_number f.kept.items (i + 1)
    next i fact e =
        (let z : order_number fact + 1 ≡ suc (order_number fact) = omega arith in z)
        ∙ (ap (λ (o : Option LocFact). suc (number_in o)) (sym e)
        ∙ ap (least_number f.kept.items) (let y : suc i ≡ i + 1 = omega arith in y))

-- the shape of the proofs of a fact that is read, if all are right
pub shape-at : (p : Program) (f : LocFacts) (i : ℕ) (fact : LocFact) (v : Vec FactProof Global) (ps : List FactProof)
    → i < length f.kept.items → length f.proofs.items ≡ length f.kept.items → fact ≡ get_or f.kept.items i fact
    → v ≡ get_or f.proofs.items i v → ps ≡ v.items → AreRight p f.kept.items (proofs_of f) (length f.kept.items)
    → IsRight p (least_number f.kept.items i) fact ps
shape-at p f i fact v ps l one_each e g h right =
    right i fact ps l (stands-read f i fact v ps l one_each e g h)

-- after one more shown fact that is read
pub shown-next : (p : Program) (f : LocFacts) (i : ℕ) (fact : LocFact) (v : Vec FactProof Global) (ps : List FactProof)
    → i < length f.kept.items → length f.proofs.items ≡ length f.kept.items → fact ≡ get_or f.kept.items i fact
    → v ≡ get_or f.proofs.items i v → ps ≡ v.items → AreShown p f.kept.items (proofs_of f) i
    → ProofsShow p f.kept.items fact ps (length ps) → AreShown p f.kept.items (proofs_of f) (i + 1)
shown-next p f i fact v ps l one_each e g h before shown =
    shown-more p f.kept.items (proofs_of f) i fact ps before (stands-read f i fact v ps l one_each e g h) shown

-- a fact that is read and isn't shown, after ones that are, is the first
pub unshown-next : (p : Program) (f : LocFacts) (i t : ℕ) (x : FactFault) (fact : LocFact) (v : Vec FactProof Global)
    (ps : List FactProof) → i < length f.kept.items → length f.proofs.items ≡ length f.kept.items
    → fact ≡ get_or f.kept.items i fact → v ≡ get_or f.proofs.items i v → ps ≡ v.items
    → AreRight p f.kept.items (proofs_of f) (length f.kept.items) → AreShown p f.kept.items (proofs_of f) i
    → IsUnshownBy p f.kept.items fact ps t → x.fact ≡ i + 1 → x.rule ≡ t
    → FindsFactFault p f.kept.items (proofs_of f) (Some x)
unshown-next p f i t x fact v ps l one_each e g h right before by k m =
    unshown-sound p f i t x fact v one_each right (read f.kept.items i fact l e)
    (read f.proofs.items i v (omega (arith, l, one_each)) g) before
    (subst (λ (qs : List FactProof). IsUnshownBy p f.kept.items fact qs t) h by) k m
