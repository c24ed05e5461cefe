use Rattle.std.proofs.Common.{Option, Some, length, refl, ◌∙◌, ap}
use Rattle.std.proofs.lemmas.Option.{slice_get_read}
use Rattle.fuxi_master.specs.Seen.{core_of}
use Rattle.fuxi_master.proofs.TurnPackets.{app_there}
use Rattle.fuxi_master.proofs.state.Core.app.Goals as goal

pub unreachable-requires : goal.unreachable-requires
unreachable-requires c =
    let x = core_of c.args.self.now in
    let n = c.args.number in
    app_there x c.requires.core.near.kept n c.requires.peer
    (slice_get_read x.apps (length x.apps) n c.index.result.now refl (c.requires.core.near.kept.apps n c.requires.peer) c.index.ensures ∙ ap {A = Option _} (λ o. Some o) c.in-None.is)

pub returns-clause-there : goal.returns-clause-there
returns-clause-there c =
    let x = core_of c.args.self.now in
    let n = c.args.number in
    slice_get_read x.apps (length x.apps) n c.index.result.now refl (c.requires.core.near.kept.apps n c.requires.peer) c.index.ensures ∙ ap {A = Option _} (λ o. Some o) c.in-Some.is
