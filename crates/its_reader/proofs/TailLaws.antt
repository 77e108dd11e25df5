-- A whole rule is appended to the rules, and a guard ends exactly where the written one does.
use Rattle.std.specs.Prelude.{◌≡◌, ◌-◌, List, [], ◌∷◌, ◌++◌, length, Some, None}
use Rattle.std.proofs.Common.{sym, ap, subst, ◌∙◌, append-nil}
use Rattle.model.specs.Programs.{Name}
use Rattle.its_text.specs.expr_text.GrammarStates.{beginning}
use Rattle.its_text.specs.expr_text.Guards.{Atom, Always, Compared, Atoms, First, Joined, with_atom, with_atoms}
use Rattle.its_text.specs.expr_text.GuardGrammarStates.{LeftSide, Conjoined, NoAtoms, JointAfter, no_atoms}
use Rattle.its_text.specs.expr_text.Terms.{with_sum}
use Rattle.its_text.proofs.expr_text.Stability.{extended, sum_extends}
use Rattle.expr_reader.specs.Variables.{names_in}
use Rattle.expr_reader.specs.GuardRepresentation.{atoms_in, atoms_before}
use Rattle.expr_reader.specs.declared.guard.GuardReader.{GuardReader}
use Rattle.its_text.specs.Written.{Guard, NoGuard, BehindMark, InSquares}
use Rattle.its_text.specs.Numbering.{left_names, arrow_names, term_in, with_guard, rule_names, rule_numbered}
use Rattle.its_text.specs.GrammarStates.{Headed, rule_with, ruling_with}
use Rattle.its_text.specs.StateNames.{headed_names}
use Rattle.its_text.specs.StateFaults.{Tokens}
use Rattle.its_reader.specs.Standing.{KnowsSections, KnowsSymbols, KnowsRuling, limited_rule, rules_so_far}
use Rattle.its_reader.specs.Standing.{symbols_headed}
use Rattle.its_reader.specs.Places.{IsHeaded}
use Rattle.its_reader.specs.TailSteps.{rule_in, KnowsWhole, RuleEnds}
use Rattle.its_reader.specs.declared.draft.Draft.{Draft}
use Rattle.its_text.proofs.ValidRules.{sums_extends}
use Rattle.its_reader.proofs.Numbers.{GoesOn, updates_stay, cost_stays, source_stays}

-- the variables known after an atom continue those known before it
atom_goes_on : (names : List Name) (a : Atom) → GoesOn names (with_atom names a)
atom_goes_on names (Always t) = ([], sym (append-nil names))
atom_goes_on names (Compared l sign r) = extended names (with_sum names l) (with_sum (with_sum names l) r)
    (sum_extends names l) (sum_extends (with_sum names l) r)

atoms_go_on : (names : List Name) (atoms : Atoms) → GoesOn names (with_atoms names atoms)
atoms_go_on names (First a) = atom_goes_on names a
atoms_go_on names (Joined atoms joint a) = extended names (with_atoms names atoms)
    (with_atom (with_atoms names atoms) a) (atoms_go_on names atoms) (atom_goes_on (with_atoms names atoms) a)

guard_goes_on : (names : List Name) (guard : Guard) → GoesOn names (with_guard names guard)
guard_goes_on names NoGuard = ([], sym (append-nil names))
guard_goes_on names (BehindMark None) = ([], sym (append-nil names))
guard_goes_on names (BehindMark (Some atoms)) = atoms_go_on names atoms
guard_goes_on names (InSquares None) = ([], sym (append-nil names))
guard_goes_on names (InSquares (Some atoms)) = atoms_go_on names atoms

module _ (ts : Tokens) (h : Headed) (guard : Guard) where
  -- the variables of the whole rule continue those known once its arrow is read
  arrow_goes_on : GoesOn (arrow_names h.led.left h.led.cost) (rule_names (rule_with h guard))
  arrow_goes_on = extended (arrow_names h.led.left h.led.cost) (headed_names h) (rule_names (rule_with h guard))
      (sums_extends (arrow_names h.led.left h.led.cost) (term_in h.target).arguments)
      (guard_goes_on (headed_names h) guard)

  rule_is : (d : Draft) → KnowsWhole ts h guard d → rule_in d.rule
      ≡ limited_rule (rule_numbered (symbols_headed h) (rule_with h guard))
  rule_is d k = λ i. record {
    source = (k.headed.led.source_is ∙ source_stays (rule_with h guard) h.led.ruling.rules) i;
    target = k.headed.target_is i;
    left = k.headed.led.left_is i;
    free = (ap (λ n. length (names_in d.rule.variables) - n) k.headed.led.left_is
        ∙ ap (λ ns. length ns - length h.led.left.arguments) k.names_are) i;
    names = k.names_are i;
    updates = (k.headed.updates_are ∙ sym
        (updates_stay (arrow_names h.led.left h.led.cost) (term_in h.target).arguments (rule_names (rule_with h guard))
        (guard_goes_on (headed_names h) guard))) i;
    guard = k.atoms_are i;
    cost = (k.headed.led.cost_is ∙ sym
        (cost_stays (left_names h.led.left) h.led.cost (rule_names (rule_with h guard)) arrow_goes_on)) i;
  }

  -- after a whole rule has ended, the draft represents the rules with that rule added
  pub whole_rule : (old new : Draft) → KnowsWhole ts h guard old → RuleEnds old new
      → KnowsRuling ts (ruling_with h guard) new
  whole_rule old new k e = record {
    sections = subst (KnowsSections ts h.led.ruling.sections) (sym e.sections) k.headed.led.sections;
    rules = record {
      symbols = subst (KnowsSymbols (symbols_headed h)) (sym e.symbols) k.headed.symbols;
      rules_are = e.rules ∙ (ap (λ rs. rs ++ rule_in old.rule ∷ []) k.headed.led.rules_are
          ∙ ap (λ r. rules_so_far h.led.ruling.rules ++ r ∷ []) (rule_is old k));
    };
  }

-- at the beginning of a guard no atom has been read
nothing_before : (c : Conjoined) (ns : List Name) (r : GuardReader) → no_atoms ≡ LeftSide c beginning
    → atoms_in r ≡ atoms_before ns c → atoms_in r ≡ []
nothing_before NoAtoms ns r e a = a
nothing_before (JointAfter atoms joint) ns r e a = cc

module _ (ts : Tokens) (h : Headed) (d : Draft) (k : IsHeaded ts h d) where
  -- a rule without a guard has no atoms
  no_guard_known : atoms_in d.rule.guard ≡ []
  no_guard_known = let w = k.guard [] in nothing_before w.conjoined [] d.rule.guard w.state_is_represented w.atoms_are

  -- a rule whose target has been read is whole without a guard
  pub whole_bare : KnowsWhole ts h NoGuard d
  whole_bare = record { headed = k.headed; names_are = k.names_are; atoms_are = no_guard_known }

  -- a rule with nothing after `:|:` is whole
  pub whole_marked : KnowsWhole ts h (BehindMark None) d
  whole_marked = record { headed = k.headed; names_are = k.names_are; atoms_are = no_guard_known }

  -- a rule with nothing between `[` and `]` is whole
  pub whole_squared : KnowsWhole ts h (InSquares None) d
  whole_squared = record { headed = k.headed; names_are = k.names_are; atoms_are = no_guard_known }
