-- Gaps that entries name stay where one more is appended, and the entries stay right.
use Rattle.std.proofs.Common.{◌≡◌, inl, inr, ℕ, zero, suc, ◌+◌, ◌≤◌, List, [], ◌∷◌, ◌++◌}
use Rattle.std.proofs.Common.{length, map, All, refl, sym, ◌∙◌, ap, subst, arith}
use Rattle.cert_types.specs.AnswerViews.{gap_of}
use Rattle.std.proofs.lemmas.List.{length-append, length-map, map-append}
use Rattle.std.proofs.lemmas.List.Elements.{All-nil, All-cons, All-head, All-tail}
use Rattle.model.specs.Programs.{Program}
use Rattle.outcome.specs.Reports.{Time, Untimed, NoFunction}
use Rattle.outcome.specs.Views.{numbered_gap, time_of}
use Rattle.outcome.specs.Printing.{HasItsGap}
use Rattle.outcome.specs.declared.entry.TimeEntry.{TimeEntry}
use Rattle.outcome.specs.declared.entry.TimeEntry.TheVariants as entries
use Rattle.cert_types.specs.declared.gap.Gap.{Gap}
use Rattle.bound_fixpoint.specs.Keys.{Bounds}
use Rattle.bound_fixpoint.specs.Searches.{Searches}
use Rattle.time_bounds.specs.TriedRules.{IsGrown}
use Rattle.time_bounds.specs.TimesSaid.{IsTimeOver, AreTimesOver}
use Rattle.time_bounds.proofs.NumberedLists.{each_pushed}

-- a gap keeps its number when there is one more
pub gap_kept : (gaps more : List Gap) (n : ℕ) → 1 ≤ n → n ≤ length gaps → numbered_gap (gaps ++ more) n ≡ numbered_gap gaps n
gap_kept gaps more zero low high = absurd (omega (arith, low))
gap_kept [] more (suc n) low high = absurd (omega (arith, high))
gap_kept (g ∷ gaps) more (suc zero) low high = refl
gap_kept (g ∷ gaps) more (suc (suc n)) low high = gap_kept gaps more (suc n) (omega arith) (omega (arith, high))

-- the gap that is added has the last number
pub gap_added : (gaps : List Gap) (g : Gap) → numbered_gap (gaps ++ g ∷ []) (suc (length gaps)) ≡ numbered_gap (g ∷ []) 1
gap_added [] g = refl
gap_added (h ∷ gaps) g = gap_added gaps g

-- the entry of a time stays right when a gap is appended
pub entry_kept : (gaps more : List Gap) (e : TimeEntry) → HasItsGap (length gaps) e → time_of (gaps ++ more) e ≡ time_of gaps e
entry_kept gaps more (entries.Known s) h = refl
entry_kept gaps more (entries.Gap n) h = ap (λ g. Untimed (NoFunction g)) (gap_kept gaps more n h.0 h.1)
entry_kept gaps more (entries.OutOfLimits t) h = refl
entry_kept gaps more (entries.Large n) h = refl

-- an entry whose gap is one of this many has it among more
pub gap_weaker : (n m : ℕ) (e : TimeEntry) → n ≤ m → HasItsGap n e → HasItsGap m e
gap_weaker n m (entries.Known s) l h = tt
gap_weaker n m (entries.Gap g) l h = (h.0, omega (arith, l, h.1))
gap_weaker n m (entries.OutOfLimits t) l h = tt
gap_weaker n m (entries.Large k) l h = tt

-- where a list of gaps grows, the entries stay right, and each gap that is named still exists
grown_long : (gaps new : List Gap) → IsGrown gaps new → length gaps ≤ length new
grown_long gaps new (inl e) = omega (arith, ap (λ (gs : List Gap). length gs) e)
grown_long gaps new (inr h) = omega (arith, ap (λ (gs : List Gap). length gs) h.1, length-append gaps (h.0 ∷ []))

entry_grown : (gaps new : List Gap) (e : TimeEntry) → IsGrown gaps new → HasItsGap (length gaps) e → time_of new e ≡ time_of gaps e
entry_grown gaps new e (inl same) h = ap (λ (gs : List Gap). time_of gs e) same
entry_grown gaps new e (inr more) h = ap (λ (gs : List Gap). time_of gs e) more.1 ∙ entry_kept gaps (more.0 ∷ []) e h

entries_grown : (gaps new : List Gap) (times : List TimeEntry) → IsGrown gaps new → All (HasItsGap (length gaps)) times
    → map (time_of new) times ≡ map (time_of gaps) times
entries_grown gaps new [] g h = refl
entries_grown gaps new (e ∷ times) g h =
    ap (λ (x : Time). x ∷ map (time_of new) times) (entry_grown gaps new e g (All-head (HasItsGap (length gaps)) e times h))
    ∙ ap (λ (xs : List Time). time_of gaps e ∷ xs) (entries_grown gaps new times g (All-tail (HasItsGap (length gaps)) e times h))

-- where the list of gaps grows, the entries stay right, and the next rule's entry is appended
pub said_grown : (q : Searches) (p : Program) (b : Bounds) (gaps new : List Gap) (times : List TimeEntry) (x : TimeEntry) (t : ℕ)
    → IsGrown gaps new → All (HasItsGap (length gaps)) times → AreTimesOver q p b 1 (map (time_of gaps) times) → t ≡ 1 + length times
    → IsTimeOver q p b t (time_of new x) → AreTimesOver q p b 1 (map (time_of new) (times ++ x ∷ []))
said_grown q p b gaps new times x t g h said e is =
    subst (λ (xs : List Time). AreTimesOver q p b 1 xs) (sym (map-append (time_of new) times (x ∷ [])))
    (each_pushed (IsTimeOver q p b) 1 (map (time_of new) times) (time_of new x)
    (subst (λ (xs : List Time). AreTimesOver q p b 1 xs) (sym (entries_grown gaps new times g h)) said)
    (subst (λ (n : ℕ). IsTimeOver q p b n (time_of new x)) (e ∙ ap (λ (n : ℕ). 1 + n) (sym (length-map times (time_of new)))) is))

-- where the list of gaps grows, each entry still has its gap there, and so has one entry more
pub gaps_grown : (gaps new : List Gap) (times : List TimeEntry) (x : TimeEntry) → IsGrown gaps new → All (HasItsGap (length gaps)) times
    → HasItsGap (length new) x → All (HasItsGap (length new)) (times ++ x ∷ [])
gaps_grown gaps new times x g h last = go times h
  where
    go : (times : List TimeEntry) → All (HasItsGap (length gaps)) times → All (HasItsGap (length new)) (times ++ x ∷ [])
    go [] h = All-cons (HasItsGap (length new)) x [] last (All-nil (HasItsGap (length new)))
    go (e ∷ times) h =
        All-cons (HasItsGap (length new)) e (times ++ x ∷ [])
        (gap_weaker (length gaps) (length new) e (grown_long gaps new g) (All-head (HasItsGap (length gaps)) e times h))
        (go times (All-tail (HasItsGap (length gaps)) e times h))

-- there is one gap more at most
pub grown_few : (gaps new : List Gap) → IsGrown gaps new → length new ≤ length gaps + 1
grown_few gaps new (inl e) = omega (arith, ap (λ (gs : List Gap). length gs) e)
grown_few gaps new (inr h) = omega (arith, ap (λ (gs : List Gap). length gs) h.1, length-append gaps (h.0 ∷ []))

-- the gap that was added has the number of all gaps
pub gap_last : (old new : List Gap) (g : Gap) (n : ℕ) → new ≡ old ++ g ∷ [] → n ≡ length new → numbered_gap new n ≡ gap_of g
gap_last old new g n e h =
    ap (λ (gs : List Gap). numbered_gap gs n) e
    ∙ (ap (numbered_gap (old ++ g ∷ [])) (let z : n ≡ suc (length old) = omega (arith, h, ap (λ (gs : List Gap). length gs) e, length-append old (g ∷ [])) in z) ∙ gap_added old g)
