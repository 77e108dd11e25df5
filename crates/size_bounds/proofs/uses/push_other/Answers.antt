use Rattle.std.proofs.Common.{subst, sym}
use Rattle.cert_types.specs.NumberSets.{HasJust}
use Rattle.cert_types.proofs.NumberSets.{set_more}
use Rattle.size_bounds.proofs.uses.push_other.Goals as goal

pub returns-clause-seen : goal.returns-clause-seen
returns-clause-seen c =
    subst (HasJust c.insert.new.self) (sym c.in_ok-push.ensures.items)
    (set_more c.args.seen.now c.insert.new.self c.args.found.now.items c.args.lemma c.requires c.in_ok-is_new.ensures.updates.0)
