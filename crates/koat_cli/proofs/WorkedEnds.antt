-- What remains of the usage text after a fault of the sink.
use Rattle.std.proofs.Common.{◌≡◌, ℕ, zero, suc, ◌≤◌, ◌<◌, List, [], ◌++◌, length, take, get_or, Some, refl, ap, subst}
use Rattle.std.proofs.Common.{arith, codes, inl, inr}
use Rattle.std.proofs.lemmas.List.{length-take-le}
use Rattle.outside_io.specs.Counts.{Rose}
use Rattle.outside_io.specs.Putting.{AppendsPrefix}
use Rattle.call_plans.specs.declared.status.Status.{Status}
use Rattle.call_plans.specs.declared.status.Status.TheVariants.{Usage, ReadFault}
use Rattle.command_line.specs.Requests.{Request, HasRequest}
use Rattle.koat_cli.specs.Report.{usage_text}
use Rattle.koat_cli.specs.Answers.{IsAnswer, ToNothing, ToRequest}
use Rattle.koat_cli.specs.Ends.{WroteInPart}
use Rattle.koat_cli.specs.WorkedEnds.{without_words, after_shelf_fault, sink_use_leaving, SinkMayHold, FaultsLeaveFirstBytes}

-- the empty list of words has no request
none_asks : (request : Request) → HasRequest [] request → ⊥
none_asks request h = omega (arith, ap length h.command)

-- a call without words gets the usage text
usage : IsAnswer without_words Usage usage_text
usage = ToNothing none_asks (record { fetches = refl; result_is = refl; ends = refl })

-- a call without words gets no other text
only_text : (status : Status) (text : List ℕ) → IsAnswer without_words status text → text ≡ usage_text
only_text status text (ToNothing none h) = h.result_is
only_text status text (ToRequest request asked h) = absurd (none_asks request asked)

-- the bytes that remain of the usage text
left : (bytes : List ℕ) → SinkMayHold bytes → (k : ℕ) × (k ≤ length usage_text) × (bytes ≡ codes "old " ++ take k usage_text)
left bytes h =
    let same : h.text ≡ usage_text = only_text h.status h.text h.says in
    let prefix : AppendsPrefix (Some (codes "old ")) (Some bytes) usage_text = subst (λ (t : List ℕ). AppendsPrefix (Some (codes "old ")) (Some bytes) t) same h.appended in
    (prefix.count, prefix.within, prefix.appends)

-- the shelf of the call had no fault
no_fault : 0 < 0 → Usage ≡ ReadFault
no_fault h = absurd (no_less h)
  where
    no_less : 0 < 0 → ⊥
    no_less less = omega (arith, less)

-- each prefix of the usage text may remain
leaves : (k : ℕ) → k ≤ length usage_text → SinkMayHold (codes "old " ++ take k usage_text)
leaves k within = record {
  fault = inl (omega arith);
  status = Usage;
  after_shelf_fault = no_fault;
  text = usage_text;
  says = usage;
  appended = record { count = k; within = within; appends = refl };
}

-- the first byte after the earlier text, if there is one, is `u`, and the earlier text begins with `o`
first_bytes : (bytes : List ℕ) → SinkMayHold bytes → (get_or bytes 4 117 ≡ 117) × (get_or bytes 0 0 ≡ 111)
first_bytes bytes h = go (left bytes h)
  where
    go : (k : ℕ) × (k ≤ length usage_text) × (bytes ≡ codes "old " ++ take k usage_text)
        → (get_or bytes 4 117 ≡ 117) × (get_or bytes 0 0 ≡ 111)
    go (zero, within, e) = (ap (λ (bs : List ℕ). get_or bs 4 117) e, ap (λ (bs : List ℕ). get_or bs 0 0) e)
    go (suc k, within, e) = (ap (λ (bs : List ℕ). get_or bs 4 117) e, ap (λ (bs : List ℕ). get_or bs 0 0) e)

-- the sink has no more bytes than the old text and the usage text together
few_bytes : (bytes : List ℕ) → SinkMayHold bytes → length bytes ≤ 399
few_bytes bytes h = let l = left bytes h in omega (arith, ap length l.2, length-take-le l.0 usage_text l.1, l.1)

-- a count that stays at 3 hasn't risen
not_risen : ¬ (Rose 3 3)
not_risen (inl greater) = omega (arith, greater)
not_risen (inr at_the_end) = omega (arith, at_the_end)

-- after a fault of the shelf no text is written in part
no_text : (bytes : List ℕ) → ¬ (WroteInPart after_shelf_fault (sink_use_leaving 4 bytes))
no_text bytes h = of_read_fault (subst (λ (s : Status). IsAnswer after_shelf_fault s h.text) (h.after_shelf_fault (omega arith)) h.says)
  where
    of_read_fault : IsAnswer after_shelf_fault ReadFault h.text → ⊥
    of_read_fault (ToNothing none u) = let e : ReadFault ≡ Usage = u.ends in cc
    of_read_fault (ToRequest request asked u) = none_asks request asked

-- the worked values of faults hold
pub faults_leave : FaultsLeaveFirstBytes
faults_leave = record {
  none = leaves 0 (omega arith);
  some = leaves 3 (omega arith);
  all = leaves 395 (omega arith);
  other_text = λ h. omega (arith, (first_bytes (codes "old bou") h).0);
  last_bytes = λ h. omega (arith, (first_bytes (codes "old sage") h).0);
  earlier_bytes_replaced = λ h. omega (arith, (first_bytes (codes "usa") h).1);
  more = λ h. omega (arith, few_bytes (codes "old " ++ (usage_text ++ codes "u")) h);
  no_rise = λ bytes h. not_risen h.fault;
  no_end_after_shelf_fault = no_text;
}
