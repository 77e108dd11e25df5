-- One word more: what the remaining words give with the word before them.
use Rattle.std.proofs.Common.{◌≡◌, List, [], ◌∷◌, ◌++◌, Some, None, IsTrue, IsFalse, refl, sym, ◌∙◌, ap, subst, codes}
use Rattle.std.proofs.Common.{append_assoc, true, false}
use Rattle.std.proofs.lemmas.List.{append-nil, at_drop_more}
use Rattle.std.proofs.Math.ListN.{drop_of_length-le}
use Rattle.std.proofs.Common.{Bool, MatchBool, ℕ, ◌<◌, ◌≤◌, ◌+◌, String, Global, string_bytes, map, drop, length}
use Rattle.std.proofs.Common.{get_or}
use Rattle.command_line.specs.Lines.{Word, Words, is_plain, is_value, OptionThenValue, OptionWithValue, Positional}
use Rattle.command_line.specs.Lines.{AreWordsWith}
use Rattle.command_line.specs.Steps.{IsOther, AreValueThenWordsWith, State, CompletesTo, IsStateBefore, AcceptsWord}
use Rattle.command_line.specs.Steps.{Refuses}
use Rattle.command_line.specs.Steps.{state_of, values_in}
use Rattle.command_line.specs.Steps.{positionals_in, HasOnePositional, HasOneValue}
use Rattle.command_line.specs.declared.line.Next.{Next}
use Rattle.command_line.specs.declared.line.Next.TheVariants as nexts
use Rattle.command_line.specs.declared.line.Line.{Line}
use Rattle.command_line.proofs.Firsts.{end_first, option_then_value_first, option_with_value_first, plain_first}
use Rattle.command_line.proofs.Firsts.{other_first, gives_along}

-- a state of these parts
abbrev pub state : Next → Words → Words → State
state next values positionals = record { next = next; values = values; positionals = positionals }

-- a positional before other words
with_positional : (word : Word) (words values positionals : Words) → IsTrue (is_plain word)
    → AreWordsWith words values positionals
    → AreWordsWith (word ∷ words) values (word ∷ positionals)
with_positional word words values positionals is h = record {
  items = Positional word ∷ h.items;
  after_end = h.after_end;
  proper = (is, h.proper);
  spelled = ap (λ (ws : Words). word ∷ ws) h.spelled;
  has_values = h.has_values;
  has_positionals = ap (λ (ws : Words). word ∷ ws) h.has_positionals;
}

-- the option with its value in one word before other words
with_option_with_value : (value : Word) (words values positionals : Words) → IsTrue (is_value value)
    → AreWordsWith words values positionals
    → AreWordsWith ((codes "--pivots=" ++ value) ∷ words) (value ∷ values) positionals
with_option_with_value value words values positionals is h = record {
  items = OptionWithValue value ∷ h.items;
  after_end = h.after_end;
  proper = (is, h.proper);
  spelled = ap (λ (ws : Words). (codes "--pivots=" ++ value) ∷ ws) h.spelled;
  has_values = ap (λ (ws : Words). value ∷ ws) h.has_values;
  has_positionals = h.has_positionals;
}

-- the option and its value in two words before other words
with_option_then_value : (value : Word) (words values positionals : Words) → IsTrue (is_value value)
    → AreWordsWith words values positionals
    → AreWordsWith (codes "--pivots" ∷ value ∷ words) (value ∷ values) positionals
with_option_then_value value words values positionals is h = record {
  items = OptionThenValue value ∷ h.items;
  after_end = h.after_end;
  proper = (is, h.proper);
  spelled = ap (λ (ws : Words). codes "--pivots" ∷ value ∷ ws) h.spelled;
  has_values = ap (λ (ws : Words). value ∷ ws) h.has_values;
  has_positionals = h.has_positionals;
}

-- a positional is taken where any word is permitted
accepts_plain : (word : Word) (vs ps : Words) → IsTrue (is_plain word)
    → AcceptsWord (state nexts.Word vs ps) word (state nexts.Word vs (ps ++ word ∷ []))
accepts_plain word vs ps is = record {
  forth = λ left values positionals h. record {
    more_values = h.more_values;
    more_positionals = word ∷ h.more_positionals;
    gives = with_positional word left h.more_values h.more_positionals is h.gives;
    has_values = h.has_values;
    has_positionals = h.has_positionals ∙ append_assoc ps (word ∷ []) h.more_positionals;
  };
  back = λ left values positionals h.
      let one = plain_first word left h.more_values h.more_positionals is h.gives in
      record {
        more_values = h.more_values;
        more_positionals = one.0;
        gives = one.1;
        has_values = h.has_values;
        has_positionals = h.has_positionals
            ∙ (ap (λ (ws : Words). ps ++ ws) one.2 ∙ sym (append_assoc ps (word ∷ []) one.0));
      };
}

-- any word after `--` is taken
accepts_positional : (word : Word) (vs ps : Words) → AcceptsWord (state nexts.Positional vs ps) word
    (state nexts.Positional vs (ps ++ word ∷ []))
accepts_positional word vs ps = record {
  forth = λ left values positionals h. record {
    more_values = [];
    more_positionals = word ∷ left;
    gives = (refl, refl);
    has_values = h.has_values ∙ ap (λ (ws : Words). vs ++ ws) h.gives.0;
    has_positionals = h.has_positionals
        ∙ (ap (λ (ws : Words). (ps ++ word ∷ []) ++ ws) h.gives.1 ∙ append_assoc ps (word ∷ []) left);
  };
  back = λ left values positionals h. record {
    more_values = [];
    more_positionals = left;
    gives = (refl, refl);
    has_values = h.has_values ∙ ap (λ (ws : Words). vs ++ ws) h.gives.0;
    has_positionals = h.has_positionals
        ∙ (ap (λ (ws : Words). ps ++ ws) h.gives.1 ∙ sym (append_assoc ps (word ∷ []) left));
  };
}

-- `--` is taken
accepts_end : (vs ps : Words) → AcceptsWord (state nexts.Word vs ps) (codes "--") (state nexts.Positional vs ps)
accepts_end vs ps = record {
  forth = λ left values positionals h. record {
    more_values = h.more_values;
    more_positionals = h.more_positionals;
    gives = record {
      items = [];
      after_end = Some left;
      proper = tt;
      spelled = refl;
      has_values = h.gives.0;
      has_positionals = h.gives.1;
    };
    has_values = h.has_values;
    has_positionals = h.has_positionals;
  };
  back = λ left values positionals h. record {
    more_values = h.more_values;
    more_positionals = h.more_positionals;
    gives = end_first (codes "--") left h.more_values h.more_positionals refl h.gives;
    has_values = h.has_values;
    has_positionals = h.has_positionals;
  };
}

-- `--pivots` is taken
accepts_pivots : (vs ps : Words) → AcceptsWord (state nexts.Word vs ps) (codes "--pivots") (state nexts.Value vs ps)
accepts_pivots vs ps = record {
  forth = λ left values positionals h. record {
    more_values = h.more_values;
    more_positionals = h.more_positionals;
    gives = gives_along _ _ _ _ _ _ (ap (λ (ws : Words). codes "--pivots" ∷ ws) h.gives.first) h.gives.has_values refl
        (with_option_then_value h.gives.value h.gives.others h.gives.more h.more_positionals h.gives.proper
        h.gives.gives);
    has_values = h.has_values;
    has_positionals = h.has_positionals;
  };
  back = λ left values positionals h. record {
    more_values = h.more_values;
    more_positionals = h.more_positionals;
    gives = option_then_value_first (codes "--pivots") left h.more_values h.more_positionals refl h.gives;
    has_values = h.has_values;
    has_positionals = h.has_positionals;
  };
}

-- the value after `--pivots` is taken
accepts_value : (word : Word) (vs ps : Words) → IsTrue (is_value word)
    → AcceptsWord (state nexts.Value vs ps) word (state nexts.Word (vs ++ word ∷ []) ps)
accepts_value word vs ps is = record {
  forth = λ left values positionals h. record {
    more_values = word ∷ h.more_values;
    more_positionals = h.more_positionals;
    gives = record {
      value = word;
      others = left;
      more = h.more_values;
      first = refl;
      proper = is;
      gives = h.gives;
      has_values = refl;
    };
    has_values = h.has_values ∙ append_assoc vs (word ∷ []) h.more_values;
    has_positionals = h.has_positionals;
  };
  back = λ left values positionals h.
      let head : word ≡ h.gives.value = cc (h.gives.first) in
      let tail : left ≡ h.gives.others = cc (h.gives.first) in
      record {
        more_values = h.gives.more;
        more_positionals = h.more_positionals;
        gives = gives_along _ _ _ _ _ _ tail refl refl h.gives.gives;
        has_values = h.has_values
            ∙ (ap (λ (ws : Words). vs ++ ws) (h.gives.has_values ∙ ap (λ (w : Word). w ∷ h.gives.more) (sym head))
            ∙ sym (append_assoc vs (word ∷ []) h.gives.more));
        has_positionals = h.has_positionals;
      };
}

-- `--pivots=V` is taken
accepts_option_with_value : (value : Word) (vs ps : Words) → IsTrue (is_value value)
    → AcceptsWord (state nexts.Word vs ps) (codes "--pivots=" ++ value) (state nexts.Word (vs ++ value ∷ []) ps)
accepts_option_with_value value vs ps is = record {
  forth = λ left values positionals h. record {
    more_values = value ∷ h.more_values;
    more_positionals = h.more_positionals;
    gives = with_option_with_value value left h.more_values h.more_positionals is h.gives;
    has_values = h.has_values ∙ append_assoc vs (value ∷ []) h.more_values;
    has_positionals = h.has_positionals;
  };
  back = λ left values positionals h.
      let one = option_with_value_first (codes "--pivots=" ++ value) value left h.more_values h.more_positionals refl
      h.gives in
      record {
        more_values = one.0;
        more_positionals = h.more_positionals;
        gives = one.2;
        has_values = h.has_values ∙ (ap (λ (ws : Words). vs ++ ws) one.3 ∙ sym (append_assoc vs (value ∷ []) one.0));
        has_positionals = h.has_positionals;
      };
}

-- taking a word depends only on the state and the word
accepts_equal_words : (old a : State) (word w : Word) (new b : State) → old ≡ a → word ≡ w → new ≡ b → AcceptsWord a w b
    → AcceptsWord old word new
accepts_equal_words old a word w new b e f g h =
    subst (λ (s : State). AcceptsWord s word new) (sym e)
    (subst (λ (u : Word). AcceptsWord a u new) (sym f) (subst (λ (s : State). AcceptsWord a w s) (sym g) h))

-- the state of a line with one positional, or one value, more
with_one_positional : (old new : Line) (word : Word) → HasOnePositional old word new
    → state_of new ≡ state old.next (values_in old) (positionals_in old ++ word ∷ [])
with_one_positional old new word h = go new.next (values_in new) (positionals_in new) h.next h.values h.positionals
  where
    go : (n : Next) (vs ps : Words) → n ≡ old.next → vs ≡ values_in old → ps ≡ positionals_in old ++ word ∷ []
        → state n vs ps ≡ state old.next (values_in old) (positionals_in old ++ word ∷ [])
    go n vs ps e f g = cc

with_one_value : (old new : Line) (word : Word) → HasOneValue old word new
    → state_of new ≡ state nexts.Word (values_in old ++ word ∷ []) (positionals_in old)
with_one_value old new word h = go new.next (values_in new) (positionals_in new) h.next h.values h.positionals
  where
    go : (n : Next) (vs ps : Words) → n ≡ nexts.Word → vs ≡ values_in old ++ word ∷ [] → ps ≡ positionals_in old
        → state n vs ps ≡ state nexts.Word (values_in old ++ word ∷ []) (positionals_in old)
    go n vs ps e f g = cc

state_at : (old : Line) (n : Next) → old.next ≡ n → state_of old ≡ state n (values_in old) (positionals_in old)
state_at old n e = ap (λ (m : Next). state m (values_in old) (positionals_in old)) e

-- a line takes a positional where any word is permitted
pub plain_taken : (old new : Line) (word : Word) → old.next ≡ nexts.Word → IsTrue (is_plain word)
    → HasOnePositional old word new
    → AcceptsWord (state_of old) word (state_of new)
plain_taken old new word e is h =
    accepts_equal_words _ _ _ _ _ _ (state_at old nexts.Word e) refl
    (with_one_positional old new word h ∙ ap (λ (m : Next). state m (values_in old) (positionals_in old ++ word ∷ []))
    e)
    (accepts_plain word (values_in old) (positionals_in old) is)

-- after `--` any word is taken as a positional
pub positional_taken : (old new : Line) (word : Word) → old.next ≡ nexts.Positional → HasOnePositional old word new
    → AcceptsWord (state_of old) word (state_of new)
positional_taken old new word e h =
    accepts_equal_words _ _ _ _ _ _ (state_at old nexts.Positional e) refl
    (with_one_positional old new word h ∙ ap (λ (m : Next). state m (values_in old) (positionals_in old ++ word ∷ []))
    e)
    (accepts_positional word (values_in old) (positionals_in old))

-- `--` is accepted where any word is permitted, and only positionals follow it
pub end_taken : (old new : Line) (word : Word) → old.next ≡ nexts.Word → word ≡ codes "--"
    → state_of new ≡ state nexts.Positional (values_in old) (positionals_in old)
    → AcceptsWord (state_of old) word (state_of new)
end_taken old new word e f g =
    accepts_equal_words _ _ _ _ _ _ (state_at old nexts.Word e) f g (accepts_end (values_in old) (positionals_in old))

-- `--pivots` is accepted where any word is permitted, and its value comes next
pub pivots_taken : (old new : Line) (word : Word) → old.next ≡ nexts.Word → word ≡ codes "--pivots"
    → state_of new ≡ state nexts.Value (values_in old) (positionals_in old)
    → AcceptsWord (state_of old) word (state_of new)
pivots_taken old new word e f g =
    accepts_equal_words _ _ _ _ _ _ (state_at old nexts.Word e) f g
    (accepts_pivots (values_in old) (positionals_in old))

-- after `--pivots` a word that can be a value is taken as one
pub value_taken : (old new : Line) (word : Word) → old.next ≡ nexts.Value → IsTrue (is_value word)
    → HasOneValue old word new
    → AcceptsWord (state_of old) word (state_of new)
value_taken old new word e is h =
    accepts_equal_words _ _ _ _ _ _ (state_at old nexts.Value e) refl (with_one_value old new word h)
    (accepts_value word (values_in old) (positionals_in old) is)

-- `--pivots=` with what can be a value in the same word is taken as the option with that value
pub option_with_value_taken : (old new : Line) (word value : Word) → old.next ≡ nexts.Word
    → word ≡ codes "--pivots=" ++ value
    → IsTrue (is_value value) → HasOneValue old value new → AcceptsWord (state_of old) word (state_of new)
option_with_value_taken old new word value e f is h =
    accepts_equal_words _ _ _ _ _ _ (state_at old nexts.Word e) f (with_one_value old new value h)
    (accepts_option_with_value value (values_in old) (positionals_in old) is)

-- a word that can't be a value doesn't begin a value, whatever follows
no_value : (word : Word) → IsFalse (is_value word) → IsTrue (is_value word) → ⊥
no_value word f t = let e : false ≡ true = sym f ∙ t in cc

-- after `--pivots` a word that can't be a value is refused
pub value_refused : (old : Line) (word : Word) → old.next ≡ nexts.Value → IsFalse (is_value word)
    → Refuses (state_of old) word
value_refused old word e f = subst (λ (s : State). Refuses s word) (sym (state_at old nexts.Value e))
    (record { none = λ left values positionals h. go left h.more_values h.more_positionals h.gives })
  where
    go : (left values positionals : Words) → AreValueThenWordsWith (word ∷ left) values positionals → ⊥
    go left values positionals g =
        let head : word ≡ g.value = cc (g.first) in
        no_value word f (subst (λ (w : Word). IsTrue (is_value w)) (sym head) g.proper)

-- `--pivots=` is refused where the rest of the word can't be a value
pub option_with_value_refused : (old : Line) (word value : Word) → old.next ≡ nexts.Word
    → word ≡ codes "--pivots=" ++ value
    → IsFalse (is_value value) → Refuses (state_of old) word
option_with_value_refused old word value e f other = subst (λ (s : State). Refuses s word)
    (sym (state_at old nexts.Word e)) (record {
      none = λ left values positionals h. no_value value other
          ((option_with_value_first word value left h.more_values h.more_positionals f h.gives).1);
    })

-- a word with which no item can begin is refused
pub other_refused : (old : Line) (word : Word) → old.next ≡ nexts.Word → IsOther word → Refuses (state_of old) word
other_refused old word e o = subst (λ (s : State). Refuses s word) (sym (state_at old nexts.Word e)) (record {
  none = λ left values positionals h. other_first word left h.more_values h.more_positionals o h.gives;
})

-- taking a word leads from state to state
pub state_after_word : (all left : Words) (old : State) (word : Word) (new : State)
    → IsStateBefore all old (word ∷ left)
    → AcceptsWord old word new
    → IsStateBefore all new left
state_after_word all left old word new l t = record {
  forth = λ values positionals h. l.forth values positionals (t.forth left values positionals h);
  back = λ values positionals h. t.back left values positionals (l.back values positionals h);
}

-- at first nothing was read
state_before_words : (all : Words) → IsStateBefore all (state nexts.Word [] []) all
state_before_words all = record {
  forth = λ values positionals h. gives_along all all values h.more_values positionals h.more_positionals refl
      h.has_values h.has_positionals h.gives;
  back = λ values positionals h.
      record {
        more_values = values;
        more_positionals = positionals;
        gives = h;
        has_values = refl;
        has_positionals =
            refl;
      };
}

-- where no values and no positionals have been read, all words are still left
pub state_at_start : (all vs ps : Words) → vs ≡ [] → ps ≡ [] → IsStateBefore all (state nexts.Word vs ps) all
state_at_start all vs ps e f =
    subst (λ (ws : Words). IsStateBefore all (state nexts.Word ws ps) all) (sym e)
    (subst (λ (ws : Words). IsStateBefore all (state nexts.Word [] ws) all) (sym f) (state_before_words all))

-- if a word is refused, all words give nothing
pub refused_word_gives_nothing : (all left : Words) (old : State) (word : Word) → IsStateBefore all old (word ∷ left)
    → Refuses old word
    → (values positionals : Words) → ¬ (AreWordsWith all values positionals)
refused_word_gives_nothing all left old word l r values positionals h = r.none left values positionals
    (l.back values positionals h)

-- at the end any word could come next, or words after `--`; but not a value
pub state_at_end : (all : Words) (line : Line) → IsStateBefore all (state_of line) [] → line.next ≡ nexts.Word
    → AreWordsWith all (values_in line) (positionals_in line)
state_at_end all line l e =
    l.forth (values_in line) (positionals_in line)
    (subst (λ (s : State). CompletesTo s [] (values_in line) (positionals_in line))
    (sym (state_at line nexts.Word e))
    (record {
      more_values = [];
      more_positionals = [];
      gives = record {
        items = [];
        after_end = None;
        proper = tt;
        spelled = refl;
        has_values = refl;
        has_positionals =
            refl;
      };
      has_values = sym (append-nil (values_in line));
      has_positionals = sym (append-nil (positionals_in line));
    }))

-- where the words end after `--`, all of them give what was read
pub state_at_end_after_marker : (all : Words) (line : Line) → IsStateBefore all (state_of line) []
    → line.next ≡ nexts.Positional
    → AreWordsWith all (values_in line) (positionals_in line)
state_at_end_after_marker all line l e =
    l.forth (values_in line) (positionals_in line)
    (subst (λ (s : State). CompletesTo s [] (values_in line) (positionals_in line))
    (sym (state_at line nexts.Positional e))
    (record {
      more_values = [];
      more_positionals = [];
      gives = (refl, refl);
      has_values = sym (append-nil (values_in line));
      has_positionals = sym (append-nil (positionals_in line));
    }))

-- if the words end at an option without its value, they give nothing
pub state_lacking_value : (all : Words) (line : Line) → IsStateBefore all (state_of line) [] → line.next ≡ nexts.Value
    → (values positionals : Words) → ¬ (AreWordsWith all values positionals)
state_lacking_value all line l e values positionals h =
    go (subst (λ (s : State). CompletesTo s [] values positionals) (state_at line nexts.Value e)
    (l.back values positionals h))
  where
    go : CompletesTo (state nexts.Value (values_in line) (positionals_in line)) [] values positionals → ⊥
    go b = let e : [] ≡ b.gives.value ∷ b.gives.others = b.gives.first in cc

-- the remaining words begin with the next word
pub next_left : (all : Words) (words : List (String Global)) (i : ℕ) (d : String Global) (old : State) (word : Word)
    → i < length words
    → string_bytes (get_or words i d) ≡ word → IsStateBefore all old (map string_bytes (drop i words))
    → IsStateBefore all old (word ∷ map string_bytes (drop (i + 1) words))
next_left all words i d old word lt e l =
    subst (λ (ws : Words). IsStateBefore all old ws)
    (at_drop_more (map string_bytes) words i d lt ∙ ap (λ (w : Word). w ∷ map string_bytes (drop (i + 1) words)) e) l

-- no word is left
pub none_left : (all : Words) (words : List (String Global)) (i : ℕ) (old : State) → length words ≤ i
    → IsStateBefore all old (map string_bytes (drop i words)) → IsStateBefore all old []
none_left all words i old le l =
    subst (λ (ws : List (String Global)). IsStateBefore all old (map string_bytes ws)) (drop_of_length-le words le) l

-- if the returned flag says so, the word was taken
pub taken_here : (t : Bool) (old : State) (word : Word) (new : State) → t ≡ true
    → MatchBool t (AcceptsWord old word new) (Refuses old word)
    → AcceptsWord old word new
taken_here t old word new e h = subst (λ (b : Bool). MatchBool b (AcceptsWord old word new) (Refuses old word)) e h

-- a word that wasn't taken was refused
pub refused_here : (t : Bool) (old : State) (word : Word) (new : State) → t ≡ false
    → MatchBool t (AcceptsWord old word new) (Refuses old word)
    → Refuses old word
refused_here t old word new e h = subst (λ (b : Bool). MatchBool b (AcceptsWord old word new) (Refuses old word)) e h
