use Rattle.std.proofs.Common.{false, None, sym, subst}
use Rattle.node_core.specs.Roles.{IsTurn}
use Rattle.node_core.proofs.Served.{told_missed, told_unsent, told_dialed, told_cut_dialed}
use Rattle.node_core.proofs.rounds.round_of.Goals as goal

pub returns-in-Err-dial-clause-rounds : goal.returns-in-Err-dial-clause-rounds
returns-in-Err-dial-clause-rounds g c r s =
    let a = g.N.Door.told c.args.door.now in
    let b = g.N.Door.told c.dial.new.self in
    told_missed c.args.most c.args.addr.now r c.requires.first a b b b b false (g.C.Core.stands c.in-Ok.both.0) c.in-Err-dial.field-0 (c.in-Ok.ensures.stands r s) c.in-Err-dial.ensures.told

pub returns-in-Err-write-clause-rounds : goal.returns-in-Err-write-clause-rounds
returns-in-Err-write-clause-rounds g c r s =
    let a = g.N.Door.told c.args.door.now in
    let b = g.N.Door.told c.dial.new.self in
    let d = g.N.Door.told c.write.new.self in
    let made : IsTurn r None c.deref.result.now = subst (IsTurn r None) (sym c.deref.ensures.value) (c.in-Ok.ensures.bytes r s) in
    let e = g.N.Door.told c.shut.new.door in
    told_unsent c.args.most c.args.addr.now r c.requires.first a b d e e (g.C.Core.stands c.in-Ok.both.0) c.deref.result.now c.in-Err-write.field-0 (c.in-Ok.ensures.stands r s) made c.in-Ok-dial.ensures.told c.in-Err-write.ensures.told c.shut.ensures.told

pub returns-in-Err-listen-clause-breaks : goal.returns-in-Err-listen-clause-breaks
returns-in-Err-listen-clause-breaks g c r s =
    let a = g.N.Door.told c.args.door.now in
    let b = g.N.Door.told c.dial.new.self in
    let d = g.N.Door.told c.write.new.self in
    let e = g.N.Door.told c.listen.new.door in
    let made : IsTurn r None c.deref.result.now = subst (IsTurn r None) (sym c.deref.ensures.value) (c.in-Ok.ensures.bytes r s) in
    told_cut_dialed c.args.most c.args.addr.now r c.requires.first a b d e e c.deref.result.now made c.in-Ok-dial.ensures.told c.in-Ok-write.ensures.told c.in-Err-listen.ensures.broken

pub returns-clause-rounds : goal.returns-clause-rounds
returns-clause-rounds g c r s =
    let a = g.N.Door.told c.args.door.now in
    let b = g.N.Door.told c.dial.new.self in
    let d = g.N.Door.told c.write.new.self in
    let e = g.N.Door.told c.listen.new.door in
    let made : IsTurn r None c.deref.result.now = subst (IsTurn r None) (sym c.deref.ensures.value) (c.in-Ok.ensures.bytes r s) in
    let f = g.N.Door.told c.shut-2.new.door in
    told_dialed c.args.most c.args.addr.now r c.requires.first a b d e f (g.C.Core.stands c.in-Ok-listen.both.0) c.deref.result.now c.in-Ok.both.1.packets c.in-Ok-listen.both.1 c.line_of.result made (c.in-Ok.ensures.packets r s) c.line_of.ensures
    c.in-Ok-dial.ensures.told c.in-Ok-write.ensures.told (c.in-Ok-listen.ensures.listens r (c.in-Ok.ensures.stands r s)) c.shut-2.ensures.told
