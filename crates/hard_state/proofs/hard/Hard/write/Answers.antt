use Rattle.std.proofs.Common.{◌≡◌, ◌+◌, length, Ok, Err, ◌∙◌, ap, rules, arith}
use Rattle.fuxi_io.specs.declared.outside.Failed.{Failed}
use Rattle.fuxi_io.specs.Disks.{WhereTold}
use Rattle.spec_roles.specs.HardState.{hard_after}
use Rattle.hard_state.specs.RecordBodies.{body_of}
use Rattle.hard_state.specs.declared.fault.HardFault.{HardFault}
use Rattle.hard_state.specs.declared.fault.HardFault.TheVariants.{DiskFault, OutOfMemory}
use Rattle.hard_state.specs.Gates.{Appends, appending_calls}
use Rattle.hard_state.specs.Moments.{writing_calls}
use Rattle.hard_state.specs.Checkpoints.{behind_gate}
use Rattle.hard_state.specs.HardFiles.{Kept, event_of}
use Rattle.hard_state.proofs.StandsWhileAppended.{length-behind}
use Rattle.hard_state.proofs.MomentsLemmas.{calls_same, all_made, some_made, none_made, nothing_made}
use Rattle.hard_state.proofs.Stops.{refused_where, failed_where, written_where, ready, at_same}
use Rattle.hard_state.proofs.hard.Hard.write.Goals as goal

pub returns-in-Err-clause-told : goal.returns-in-Err-clause-told
returns-in-Err-clause-told g c = refused_where HardFault _ _ c.in-Err.fault _

pub returns-in-Err-encode-clause-told : goal.returns-in-Err-encode-clause-told
returns-in-Err-encode-clause-told g c = refused_where HardFault _ _ OutOfMemory _

pub returns-in-Ok-append-clause-told : goal.returns-in-Ok-append-clause-told
returns-in-Ok-append-clause-told g c =
    let before = c.args.self.now in
    let body = body_of c.args.change in
    let r = ready before c.self.inside.state c.args.epoch c.args.change (ap (λ (k : Kept). k.value) c.self.view_is) c.requires.asked c.encode.ensures.back c.in-Ok.ensures.ok c.in-Ok.ensures.room in
    let bytes : c.deref.result.now ≡ behind_gate body = c.deref.ensures.value ∙ c.in-Ok-encode.ensures.bytes in
    let appends : WhereTold (Appends {E = Failed} before.gate (behind_gate body) (Ok (record {}))) (g.D.Disk.told c.args.disk.now) (g.D.Disk.told c.append.new.disk) =
    at_same {E = Failed} before.gate (behind_gate body) _ _ (Ok (record {})) _ _ (ap (λ (k : Kept). k.gate) c.self.view_is) bytes c.in-Ok-append.ensures.told in
    let made : length c.in-Ok-encode.bytes.items ≡ 5 + length body = ap length c.in-Ok-encode.ensures.bytes ∙ length-behind body in
    let size : c.len.result ≡ 5 + length body = search (rules, made) in
    written_where before (hard_after before.value c.args.epoch (event_of c.args.change)) _ body r.steps r.taken_as r.room (omega (arith, c.encode.ensures.body)) Failed HardFault _ _ _ _ _ _
    (c.make.ensures ∙ ap (λ (k : Kept). hard_after k.value c.args.epoch (event_of c.args.change)) c.self.view_is) (ap (λ n. c.self.inside.gate + n) size ∙ ap (λ (k : Kept). k.gate + (5 + length body)) c.self.view_is)
    c.requires.long (g.met.D.Disk.measured c.args.disk.now) appends

pub returns-in-Err-append-clause-told : goal.returns-in-Err-append-clause-told
returns-in-Err-append-clause-told g c =
    let before = c.args.self.now in
    let body = body_of c.args.change in
    let r = ready before c.self.inside.state c.args.epoch c.args.change (ap (λ (k : Kept). k.value) c.self.view_is) c.requires.asked c.encode.ensures.back c.in-Ok.ensures.ok c.in-Ok.ensures.room in
    let bytes : c.deref.result.now ≡ behind_gate body = c.deref.ensures.value ∙ c.in-Ok-encode.ensures.bytes in
    let appends : WhereTold (Appends {E = Failed} before.gate (behind_gate body) (Err (record {}))) (g.D.Disk.told c.args.disk.now) (g.D.Disk.told c.append.new.disk) =
    at_same {E = Failed} before.gate (behind_gate body) _ _ (Err (record {})) _ _ (ap (λ (k : Kept). k.gate) c.self.view_is) bytes c.in-Err-append.ensures.told in
    failed_where before (hard_after before.value c.args.epoch (event_of c.args.change)) _ body r.steps r.taken_as r.room (omega (arith, c.encode.ensures.body)) Failed HardFault _ before _ _ (record {}) DiskFault
    c.requires.long (g.met.D.Disk.measured c.args.disk.now) appends

pub returns-in-Err-clause-moments : goal.returns-in-Err-clause-moments
returns-in-Err-clause-moments g c = none_made _ c.in-Err.fault _ (λ same. c.in-Err.ensures.own (ap Err same))

pub returns-in-Err-encode-clause-moments : goal.returns-in-Err-encode-clause-moments
returns-in-Err-encode-clause-moments g c = nothing_made _

pub returns-in-Ok-append-clause-moments : goal.returns-in-Ok-append-clause-moments
returns-in-Ok-append-clause-moments g c =
    let gate = ap (λ (k : Kept). k.gate) c.self.view_is in
    let same : appending_calls c.self.inside.gate c.deref.result.now ≡ writing_calls c.args.self.now.gate c.args.epoch (event_of c.args.change) =
    calls_same c.args.self.now.gate c.self.inside.gate c.args.epoch c.args.change c.deref.result.now c.requires.asked gate (c.deref.ensures.value ∙ c.in-Ok-encode.ensures.bytes) in
    all_made Failed _ _ _ _ same c.in-Ok-append.ensures.calls

pub returns-in-Err-append-clause-moments : goal.returns-in-Err-append-clause-moments
returns-in-Err-append-clause-moments g c =
    let gate = ap (λ (k : Kept). k.gate) c.self.view_is in
    let same : appending_calls c.self.inside.gate c.deref.result.now ≡ writing_calls c.args.self.now.gate c.args.epoch (event_of c.args.change) =
    calls_same c.args.self.now.gate c.self.inside.gate c.args.epoch c.args.change c.deref.result.now c.requires.asked gate (c.deref.ensures.value ∙ c.in-Ok-encode.ensures.bytes) in
    some_made Failed _ _ _ _ (record {}) same c.in-Err-append.ensures.calls
