-- The parts of the shape of a ranking node, and the whole.
use Rattle.std.proofs.Common.{◌≡◌, ◌≢◌, ℕ, zero, suc, ◌+◌, ◌<◌, Bool, cond, List, [], ◌∷◌, length, map, take}
use Rattle.std.proofs.Common.{get_or, Vec, refl, sym, ap, ◌∙◌, subst, arith}
use Rattle.std.specs.declared.alloc.Global.{Global}
use Rattle.std.specs.List.{All, AllByRecursion}
use Rattle.std.proofs.Math.ListN.{get_or-map}
use Rattle.std.proofs.lemmas.Bool.{ne_eqb}
use Rattle.std.proofs.lemmas.List.{length-map}
use Rattle.std.proofs.lemmas.List.Elements.{All-more}
use Rattle.model.proofs.Membership.{same_number}
use Rattle.cert_types.specs.Views.{form_of, rank_of}
use Rattle.cert_types.specs.declared.rank.Form.{Form}
use Rattle.cert_types.specs.declared.rank.RankNode as code
use Rattle.cert_types.specs.cert_rules.AcceptsPlain.{IsRule, AreMultipliers}
use Rattle.cert_types.specs.cert_rules.AcceptsRank.{HasFormShape, HasRankShape, moves_of}
use Rattle.cert_types.specs.cert_rules.Graph.{symbols_of}
use Rattle.cert_types.specs.cert_rules.Nodes.{SymbolForm}
use Rattle.cert_types.specs.cert_rules.Numbers.{IsAscending}
use Rattle.cert_types.specs.cert_rules.Setting.{Setting}
use Rattle.gap_checks.proofs.GapFaults.{in-list}
use Rattle.gap_checks.proofs.GapPositions.{each-at}
use Rattle.cert_types.proofs.cert_rules.CheckLists.{each-in, in-each}
use Rattle.cert_types.proofs.cert_rules.GapPoints.{first-least, rest-ascends}
use Rattle.check_ranks.specs.RankShapes.{symbol_in, IsRankSet, HasRankNumbers}

-- if some form has another symbol than the one at its position, the symbols of the forms are not these
pub symbol-breaks : (fs : List Form) (ns : List ℕ) (i : ℕ) (f : Form) (n : ℕ) → i < length fs → f ≡ get_or fs i f
    → n ≡ get_or ns i n → i < length ns → f.symbol ≢ n → ¬ (map symbol_in fs ≡ ns)
symbol-breaks [] ns i f n l e k m d h = absurd (omega (arith, l))
symbol-breaks (g ∷ fs) [] i f n l e k m d h = absurd (omega (arith, m))
symbol-breaks (g ∷ fs) (o ∷ ns) zero f n l e k m d h = d (ap symbol_in e ∙ (heads (symbol_in g) o (map symbol_in fs) ns h ∙ sym k))
  where
    heads : (a b : ℕ) (xs ys : List ℕ) → a ∷ xs ≡ b ∷ ys → a ≡ b
    heads a b xs ys q = cc
symbol-breaks (g ∷ fs) (o ∷ ns) (suc i) f n l e k m d h =
    symbol-breaks fs ns i f n (omega (arith, l)) e k (omega (arith, m)) d (tails (symbol_in g) o (map symbol_in fs) ns h)
  where
    tails : (a b : ℕ) (xs ys : List ℕ) → a ∷ xs ≡ b ∷ ys → xs ≡ ys
    tails a b xs ys q = cc

-- the multipliers of a rule of an ascending set are those at its position
moves-at : (ts : List ℕ) (ms : List (List ℕ)) (i d : ℕ) (e : List ℕ) → IsAscending ts → length ms ≡ length ts
    → i < length ts → moves_of ts ms (get_or ts i d) ≡ get_or ms i e
moves-at [] ms i d e a l h = absurd (omega (arith, h))
moves-at (u ∷ ts) [] i d e a l h = absurd (omega (arith, l))
moves-at (u ∷ ts) (m ∷ ms) zero d e a l h = ap (λ (v : Bool). cond v m (moves_of ts ms u)) (same_number u)
moves-at (u ∷ ts) (m ∷ ms) (suc i) d e a l h =
    ap (λ (v : Bool). cond v m (moves_of ts ms (get_or ts i d)))
    (ne_eqb u (get_or ts i d) (λ k. omega (arith, k, first-least u ts a (get_or ts i d) (in-list ts i d (omega (arith, h))))))
    ∙ moves-at ts ms i d e (rest-ascends u ts a) (omega (arith, l)) (omega (arith, h))

module _ (set : List ℕ) (ms : List (Vec ℕ Global)) (i : ℕ) (m : Vec ℕ Global)
    (a : IsAscending set) (l : length ms ≡ length set) (h : i < length set) (e : m ≡ get_or ms i m) where
  -- the lists of multipliers, rule by rule
  abbrev lists : List (List ℕ)
  lists = map (λ (v : Vec ℕ Global). v.items) ms

  -- the multipliers of the rule at a position are those at that position
  pub moves-is : moves_of set (map (λ (v : Vec ℕ Global). v.items) ms) (get_or set i 0) ≡ m.items
  moves-is =
      moves-at set lists i 0 m.items a (length-map ms (λ (v : Vec ℕ Global). v.items) ∙ l) h
      ∙ (get_or-map (λ (v : Vec ℕ Global). v.items) ms i m ∙ ap (λ (v : Vec ℕ Global). v.items) (sym e))

  module _ (Q : ℕ → List ℕ → Type 0) where
    -- if the rule at the next position has its multipliers, one more rule has
    pub moves-more : All (λ t. Q t (moves_of set (map (λ (v : Vec ℕ Global). v.items) ms) t)) (take i set)
        → Q (get_or set i 0) m.items
        → All (λ t. Q t (moves_of set (map (λ (v : Vec ℕ Global). v.items) ms) t)) (take (i + 1) set)
    moves-more k q =
        All-more (λ t. Q t (moves_of set lists t)) set i 0 h k (subst (Q (get_or set i 0)) (sym moves-is) q)

    -- if the rule at a position hasn't its multipliers, not all rules have
    pub moves-break : ¬ (Q (get_or set i 0) m.items)
        → ¬ (AllByRecursion (λ t. Q t (moves_of set (map (λ (v : Vec ℕ Global). v.items) ms) t)) set)
    moves-break n all =
        n (subst (Q (get_or set i 0)) moves-is (each-at (λ t. Q t (moves_of set lists t)) set i 0 h all))

-- the symbols of plain forms are those of the code's forms
symbols-same : (fs : List Form) → map (λ (f : SymbolForm). f.symbol) (map form_of fs) ≡ map symbol_in fs
symbols-same [] = refl
symbols-same (f ∷ fs) = ap (λ (ns : List ℕ). symbol_in f ∷ ns) (symbols-same fs)

module _ (s : Setting) (n : code.RankNode) where
  -- if the shape is right, so is each part of it
  pub shape-set : HasRankShape s (rank_of n) → IsRankSet s.program (rank_of n)
  shape-set h = record { ascending = h.ascending; rules = in-each (IsRule s.program) n.set.items h.rules; inside = h.inside }

  pub shape-numbers : HasRankShape s (rank_of n) → HasRankNumbers s (rank_of n)
  shape-numbers h = record {
    den = h.den;
    den_limit = h.den_limit;
    moves = record {
      long = h.one_each;
      each = in-each (λ t. AreMultipliers s t (moves_of n.set.items (rank_of n).moves t)) n.set.items h.moves;
    };
    floor = h.floor;
  }

  pub shape-symbols : HasRankShape s (rank_of n) → map symbol_in n.forms.items ≡ symbols_of s.program n.set.items
  shape-symbols h = sym (symbols-same n.forms.items) ∙ h.symbols

  pub shape-forms : HasRankShape s (rank_of n) → All (HasFormShape s.program) (map form_of n.forms.items)
  shape-forms h = h.forms

  -- if each part of the shape is right, the shape is
  pub shape-whole : IsRankSet s.program (rank_of n) → HasRankNumbers s (rank_of n)
      → map symbol_in n.forms.items ≡ symbols_of s.program n.set.items
      → All (HasFormShape s.program) (map form_of n.forms.items) → HasRankShape s (rank_of n)
  shape-whole a b e f = record {
    ascending = a.ascending;
    rules = each-in (IsRule s.program) n.set.items a.rules;
    inside = a.inside;
    symbols = symbols-same n.forms.items ∙ e;
    forms = f;
    den = b.den;
    den_limit = b.den_limit;
    one_each = b.moves.long;
    moves = each-in (λ t. AreMultipliers s t (moves_of n.set.items (rank_of n).moves t)) n.set.items b.moves.each;
    floor = b.floor;
  }
