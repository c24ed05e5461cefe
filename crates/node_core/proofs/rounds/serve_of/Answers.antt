use Rattle.std.proofs.Common.{true, sym, subst}
use Rattle.node_core.specs.Roles.{IsTurn}
use Rattle.node_core.proofs.Served.{told_missed, told_served, told_answered, told_unanswered, told_cut_served, told_cut_unanswered}
use Rattle.node_core.proofs.rounds.serve_of.Goals as goal

pub returns-in-Err-clause-rounds : goal.returns-in-Err-clause-rounds
returns-in-Err-clause-rounds g c r s =
    let a = g.N.Door.told c.args.door.now in
    let b = g.N.Door.told c.accept.new.self in
    told_missed c.args.most c.args.addr.now r c.requires.first a b b b b true (g.C.Core.stands c.args.core) c.in-Err.field-0 s c.in-Err.ensures.told

pub returns-in-Err-listen-clause-breaks : goal.returns-in-Err-listen-clause-breaks
returns-in-Err-listen-clause-breaks g c r s =
    let a = g.N.Door.told c.args.door.now in
    let b = g.N.Door.told c.accept.new.self in
    let d = g.N.Door.told c.listen.new.door in
    told_cut_served c.args.most c.args.addr.now r c.requires.first a b d d d c.in-Ok.ensures.told c.in-Err-listen.ensures.broken

pub returns-then-not-has_ended-clause-rounds : goal.returns-then-not-has_ended-clause-rounds
returns-then-not-has_ended-clause-rounds g c r s =
    let a = g.N.Door.told c.args.door.now in
    let b = g.N.Door.told c.accept.new.self in
    let d = g.N.Door.told c.listen.new.door in
    let e = g.N.Door.told c.shut.new.door in
    told_served c.args.most c.args.addr.now r c.requires.first a b d e e (g.C.Core.stands c.in-Ok-listen.both.0) 0 c.in-Ok-listen.both.1 c.line_of.result (sym c.if-not-has_ended.ensures) c.line_of.ensures c.in-Ok.ensures.told (c.in-Ok-listen.ensures.listens r s) c.shut.ensures.told

pub returns-in-Err-turn-clause-breaks : goal.returns-in-Err-turn-clause-breaks
returns-in-Err-turn-clause-breaks g c r s =
    let a = g.N.Door.told c.args.door.now in
    let b = g.N.Door.told c.accept.new.self in
    let d = g.N.Door.told c.listen.new.door in
    told_cut_unanswered c.args.most c.args.addr.now r c.requires.first a b d d d (g.C.Core.stands c.in-Ok-listen.both.0) c.in-Ok-listen.both.1 (sym c.if-not-has_ended.ensures) c.in-Ok.ensures.told (c.in-Ok-listen.ensures.listens r s)

pub returns-in-Err-write-clause-rounds : goal.returns-in-Err-write-clause-rounds
returns-in-Err-write-clause-rounds g c r s =
    let a = g.N.Door.told c.args.door.now in
    let b = g.N.Door.told c.accept.new.self in
    let d = g.N.Door.told c.listen.new.door in
    let e = g.N.Door.told c.write.new.self in
    let f = g.N.Door.told c.shut-in-Err-write.new.door in
    told_unanswered c.args.most c.args.addr.now r c.requires.first a b d e f (g.C.Core.stands c.in-Ok-listen.both.0) (g.C.Core.stands c.in-Ok-turn.both.0) c.deref.result.now c.in-Ok-listen.both.1 c.in-Err-write.field-0 (sym c.if-not-has_ended.ensures)
    c.in-Ok-turn.ensures.stands (λ q t. subst (IsTurn q c.in-Ok-listen.both.1.peer) (sym c.deref.ensures.value) (c.in-Ok-turn.ensures.bytes q t))
    c.in-Ok.ensures.told (c.in-Ok-listen.ensures.listens r s) c.in-Err-write.ensures.told c.shut-in-Err-write.ensures.told

pub returns-clause-rounds : goal.returns-clause-rounds
returns-clause-rounds g c r s =
    let a = g.N.Door.told c.args.door.now in
    let b = g.N.Door.told c.accept.new.self in
    let d = g.N.Door.told c.listen.new.door in
    let e = g.N.Door.told c.write.new.self in
    let f = g.N.Door.told c.shut-2.new.door in
    told_answered c.args.most c.args.addr.now r c.requires.first a b d e f (g.C.Core.stands c.in-Ok-listen.both.0) (g.C.Core.stands c.in-Ok-turn.both.0) c.deref.result.now c.in-Ok-turn.both.1.packets c.in-Ok-listen.both.1 (sym c.if-not-has_ended.ensures)
    c.in-Ok-turn.ensures.stands (λ q t. subst (IsTurn q c.in-Ok-listen.both.1.peer) (sym c.deref.ensures.value) (c.in-Ok-turn.ensures.bytes q t)) c.in-Ok-turn.ensures.packets
    c.in-Ok.ensures.told (c.in-Ok-listen.ensures.listens r s) c.in-Ok-write.ensures.told c.shut-2.ensures.told
