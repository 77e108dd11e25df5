-- Nodes that are accepted for a valid program are within the limits of proof files.
use Rattle.std.proofs.Common.{◌≡◌, ℕ, ◌<◌, ◌≤◌, ◌==◌, ◌||◌, Bool, true, cond, List, [], ◌∷◌, length, map, sym, ap, subst}
use Rattle.std.proofs.Common.{arith, All}
use Rattle.std.proofs.lemmas.Bool.{ne_eqb, or_right}
use Rattle.std.proofs.lemmas.List.{length-map}
use Rattle.std.proofs.lemmas.List.Elements.{All-nil, All-cons, All-head, All-tail}
use Rattle.its_model.specs.Valid.{IsValid}
use Rattle.model.specs.Entries.{is_in}
use Rattle.model.specs.Programs.{Program}
use Rattle.model.proofs.Membership.{same_number}
use Rattle.cert_types.specs.cert_rules.AcceptsPlain.{AreMultipliers}
use Rattle.cert_types.specs.cert_rules.AcceptsRank.{HasFormShape, HasRankShape, moves_of}
use Rattle.cert_types.specs.cert_rules.AcceptsSizes.{HasSideBoundShape, HasMemberShape}
use Rattle.cert_types.specs.cert_rules.Graph.{symbols_of}
use Rattle.cert_types.specs.cert_rules.Limits.{AreInLimit}
use Rattle.cert_types.specs.cert_rules.Nodes.{SideBound, Linear, Poly, Member, SymbolForm, RankNode}
use Rattle.cert_types.specs.cert_rules.Numbers.{IsAscending}
use Rattle.cert_types.specs.cert_rules.Setting.{Setting}
use Rattle.cert_types.proofs.cert_rules.GapPoints.{rest-ascends, first-least}
use Rattle.cert_text.specs.Spelled.{IsSideBoundWithin, IsMemberWithin, IsSymbolFormWithin, IsRankWithin}
use Rattle.analysis_certs.proofs.RulePlaces.{all-in, some-in, symbols-below, some-symbol}

-- a property of the multipliers of each rule of an ascending set is one of all multipliers
moves-all : (P : List ℕ → Type 0) (ts : List ℕ) (ms : List (List ℕ)) → IsAscending ts → length ms ≡ length ts
    → ((t : ℕ) → is_in t ts ≡ true → P (moves_of ts ms t)) → All P ms
moves-all P [] [] a l h = All-nil P
moves-all P [] (m ∷ ms) a l h = absurd (omega (arith, l))
moves-all P (u ∷ ts) [] a l h = All-nil P
moves-all P (u ∷ ts) (m ∷ ms) a l h = All-cons P m ms own (moves-all P ts ms (rest-ascends u ts a) (omega (arith, l)) others)
  where
    own : P m
    own = subst (λ (v : Bool). P (cond v m (moves_of ts ms u))) (same_number u)
        (h u (ap (λ (v : Bool). v || is_in u ts) (same_number u)))

    others : (t : ℕ) → is_in t ts ≡ true → P (moves_of ts ms t)
    others t i =
        subst (λ (v : Bool). P (cond v m (moves_of ts ms t)))
        (ne_eqb u t (λ e. omega (arith, e, first-least u ts a t i)))
        (h t (or_right (t == u) (is_in t ts) i))

-- forms of the right shape at existing symbols are within the limits
forms-all : (p : Program) (fs : List SymbolForm) → All (λ a. a < length p.symbols) (map (λ f. f.symbol) fs)
    → All (HasFormShape p) fs → All (IsSymbolFormWithin p) fs
forms-all p [] h k = All-nil (IsSymbolFormWithin p)
forms-all p (f ∷ fs) h k =
    All-cons (IsSymbolFormWithin p) f fs (record {
      symbol = All-head (λ a. a < length p.symbols) f.symbol (map (λ g. g.symbol) fs) h;
      form = (All-head (HasFormShape p) f fs k).limit;
    })
    (forms-all p fs (All-tail (λ a. a < length p.symbols) f.symbol (map (λ g. g.symbol) fs) h)
    (All-tail (HasFormShape p) f fs k))

module _ (s : Setting) where
  -- a side bound is within the limits
  pub side_bound-within : (t left : ℕ) (a : SideBound) → HasSideBoundShape s t left a → IsSideBoundWithin a
  side_bound-within t left (Linear den form multipliers) h = (h.den_limit, h.limit, h.one_each.limit)
  side_bound-within t left Poly h = tt

  -- a member is within the limits
  pub member-within : (m : Member) → HasMemberShape s m → IsMemberWithin s.program m
  member-within m h = record {
    result_variable = record {
      rule = h.at.rule;
      numbered = h.at.numbered;
      least = h.at.least;
      most = h.at.most;
    };
    local = record {
      up = side_bound-within m.result_variable.rule _ m.local.up h.up;
      low = side_bound-within m.result_variable.rule _ m.local.low h.low;
    };
  }

  -- a ranking node is within the limits
  pub rank-within : IsValid s.program → (node : RankNode) → HasRankShape s node → IsRankWithin s.program node
  rank-within valid node h = record {
    rule = h.rules node.rule h.inside;
    set = all-in _ node.set h.rules;
    den = h.den_limit;
    some_form = omega (arith, some, same, long);
    forms = forms-all s.program node.forms
        (subst (All (λ a. a < length s.program.symbols)) (sym h.symbols) (symbols-below s.program node.set)) h.forms;
    some_move = omega (arith, some-in node.rule node.set h.inside, h.one_each);
    moves = moves-all AreInLimit node.set node.moves h.ascending h.one_each (λ t m. (h.moves t m).limit);
    floor = h.floor.limit;
  }
    where
      some : 1 ≤ length (symbols_of s.program node.set)
      some = some-symbol s.program valid node.set node.rule h.inside (h.rules node.rule h.inside)

      same : length (map (λ f. f.symbol) node.forms) ≡ length (symbols_of s.program node.set)
      same = ap (λ (xs : List ℕ). length xs) h.symbols

      long : length (map (λ f. f.symbol) node.forms) ≡ length node.forms
      long = length-map node.forms (λ f. f.symbol)
