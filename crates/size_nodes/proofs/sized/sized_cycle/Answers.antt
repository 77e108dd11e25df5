use Rattle.std.proofs.Common.{List, map, sym, subst}
use Rattle.std.specs.Prelude.{IfOk}
use Rattle.model.specs.Programs.{Program}
use Rattle.cert_types.specs.cert_program.Setting.{setting_of}
use Rattle.cert_types.specs.declared.side_bound.Member.{Member}
use Rattle.cert_types.specs.Views.{member_of}
use Rattle.size_nodes.specs.Members.{AreMembersOfProgram}
use Rattle.size_nodes.specs.Sizings.{IsCycleSizing}
use Rattle.size_nodes.proofs.sized.sized_cycle.Goals as goal

pub sized_members-requires : goal.sized_members-requires
sized_members-requires g c = (
  c.requires.0,
  subst (λ (ms : List Member). AreMembersOfProgram c.requires.0 c.args.g.now c.args.prepared_rules.now (map member_of ms))
      (sym c.new-cycle.ensures) c.requires.1,
)

pub returns : goal.returns
returns g c =
    subst (λ (ms : List Member). IfOk c.sized_members.result (λ a. (p : Program)
    → AreMembersOfProgram p c.args.g.now c.args.prepared_rules.now (map member_of ms)
    → IsCycleSizing (setting_of p) (g.K.Known.table c.args.known.now) (map member_of ms) a))
    c.new-cycle.ensures c.sized_members.ensures
