-- Facts with faultless proofs hold by induction, so they hold on every run.
use Rattle.std.proofs.Common.{◌≡◌, ℕ, zero, suc, ◌<◌, ◌≤◌, ap, arith, refl, sym, ◌∙◌, subst, List, length}
use Rattle.std.proofs.Common.{Some, true, min, get_or}
use Rattle.std.specs.List.{All, Contains, range_with_len}
use Rattle.std.proofs.lemmas.List.FromFn.{length-range_with_len, get_or-range_with_len}
use Rattle.std.proofs.lemmas.Option.{slice_get_read, slice_get_within, get_or_from_slice_get, slice_get-get_or}
use Rattle.poly_terms.specs.model.Entries.{is_in}
use Rattle.poly_terms.specs.model.Paths.{target_of, same_symbol}
use Rattle.poly_terms.specs.model.Programs.{Program, Rule, rule_at, arity_of}
use Rattle.poly_terms.proofs.model.Cases.{none_some, slice_get-there}
use Rattle.poly_terms.proofs.model.Membership.{is_in-contained, is_in-filter, contains-is_in}
use Rattle.poly_terms.proofs.model.StepLaws.{target_of-rule, same_symbol-same}
use Rattle.location_facts.specs.declared.fact.LocFact.{LocFact}
use Rattle.location_facts.specs.declared.fact.FactProof.{FactProof}
use Rattle.location_facts.specs.Candidates.{IsCandidate}
use Rattle.location_facts.specs.Certificates.{IsWithinLimit, IsShownBy, AreInductive}
use Rattle.location_facts.specs.Faults.{rules_into, IsFactAt, IsRight, least_number, AreProved}
use Rattle.location_facts.specs.Laws.{ProvedFactsHold}
use Rattle.location_facts.proofs.Inductive.{inductive-hold}

-- the number of an existing rule is among those from 1 on
numbered : (p : Program) (t : ℕ) (r : Rule) → rule_at p t ≡ Some r → is_in t (range_with_len 1 (length p.rules)) ≡ true
numbered p zero r e = absurd (none_some r e)
numbered p (suc t) r e =
    is_in-contained (range_with_len 1 (length p.rules)) (suc t) (
      t,
      omega (arith, low, length-range_with_len 1 (length p.rules)),
      get_or-range_with_len 1 (length p.rules) t (suc t) low ∙ omega arith,
    )
  where
    low : t < length p.rules
    low = slice_get_within p.rules t r e

-- a rule that leads to a symbol is among those into it
pub into : (p : Program) (t : ℕ) (r : Rule) (s : ℕ) → rule_at p t ≡ Some r → r.target ≡ s → Contains (rules_into p s) t
into p t r s e same =
    contains-is_in (rules_into p s) t
    (is_in-filter (λ n. same_symbol (target_of p n) (Some s)) (range_with_len 1 (length p.rules)) t (numbered p t r e)
    (same_symbol-same (target_of p t) (Some s) s (target_of-rule p t r e ∙ ap Some same) refl))

module _ (p : Program) (kept : List LocFact) (proofs : List (List FactProof)) (h : AreProved p kept proofs) where
  -- the list of proofs of a fact, both of which are right
  record Right (f : LocFact) : Type 0 where
    position : ℕ
    low : position < length kept
    ps : List FactProof
    stands : IsFactAt kept proofs position f ps
    right : IsRight p (least_number kept position) f ps

  right-fact : (f : LocFact) → Contains kept f → Right f
  right-fact f (i, low, e) =
      let (ps, there) = slice_get-there proofs i (let l = h.one_each in omega (arith, low, l)) in
      let stands : IsFactAt kept proofs i f ps =
      record { fact = slice_get_read kept (length kept) i f refl low (sym e); listed = there } in
      record { position = i; low = low; ps = ps; stands = stands; right = h.right i f ps low stands }

  -- a fact is shown after each rule into its symbol
  shown-by : (f : LocFact) → Contains kept f → (t : ℕ) (r : Rule) → rule_at p t ≡ Some r → r.target ≡ f.symbol
      → IsShownBy p t kept f
  shown-by f member t r e same = go (into p t r f.symbol e same)
    where
      w : Right f
      w = right-fact f member

      go : Contains (rules_into p f.symbol) t → IsShownBy p t kept f
      go (k, low, is) =
          let l : k < length w.ps = (let n = w.right.one_each in omega (arith, low, n)) in
          let (proof, there) = slice_get-there w.ps k l in
          record {
            proof = proof;
            within = subst IsWithinLimit (get_or_from_slice_get w.ps k proof proof there) (w.right.numbers k proof l);
            shows = h.shown w.position f w.ps w.low w.stands k t proof l
                (record { rule = slice_get_read (rules_into p f.symbol) _ k t refl low (sym is); listed = there });
          }

  -- a place of a candidate is a place of its symbol
  in-arity : (i a : ℕ) → i ≤ min a 8 → i ≤ a
  in-arity i a l = omega (arith, l)

  pub proved-inductive : AreInductive p kept
  proved-inductive = record {
    not_start = λ f member. (right-fact f member).right.candidate.not_start;
    plus = λ f member. in-arity f.plus (arity_of p f.symbol) (right-fact f member).right.candidate.plus;
    minus = λ f member. in-arity f.minus (arity_of p f.symbol) (right-fact f member).right.candidate.minus;
    shown = shown-by;
  }

  -- the facts are candidates
  pub proved-tried : All (IsCandidate p) kept
  proved-tried k d l =
      let (ps, there) = slice_get-there proofs k (let e = h.one_each in omega (arith, l, e)) in
      (h.right k (get_or kept k d) ps l (record { fact = slice_get-get_or kept k d l; listed = there })).candidate

pub facts-hold : ProvedFactsHold
facts-hold = record {
  by_induction = proved-inductive;
  inductive = λ p kept valid h. inductive-hold p valid kept h;
  proved = λ p kept proofs valid h. record {
    candidates = proved-tried p kept proofs h;
    hold = inductive-hold p valid kept (proved-inductive p kept proofs h);
  };
}
