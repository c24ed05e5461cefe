-- The hearing of a connection where its door may tell nothing.
use Rattle.std.proofs.Common.{◌≡◌, ◌≢◌, ℕ, ◌<◌, ◌≤◌, false, nat_eq, List, ◌++◌, take, Option, Ok, Err, sym, ap, subst, ◌∙◌}
use Rattle.fuxi_io.specs.declared.outside.Failed.{Failed}
use Rattle.fuxi_io.specs.Doors.{Told, given, on_last, WhereTold, Reads}
use Rattle.wire_frames.specs.declared.fault.FrameFault.TheVariants.{Short as ShortFrame}
use Rattle.wire_frames.specs.ReadFrames.{HasFault}
use Rattle.node_core.specs.declared.frame_reader.Stop.{Stop}
use Rattle.node_core.specs.declared.frame_reader.Stop.TheVariants.{Short, Long, Fault}
use Rattle.node_core.specs.declared.frame_reader.Listened.{Listened}
use Rattle.node_core.specs.Roles.{Role}
use Rattle.node_core.specs.FrameReaders.{FrameReader, new_reader, Advances, Halts, Listening, Listens, Broken}
use Rattle.fuxi_io.specs.DoorsLemmas.{same_told, map_told, then_told}
use Rattle.node_core.proofs.FrameReadersLemmas.{begins, goes_on, is_fed, halts, ends_short, ends_fault, ends_long, not_short, not_failed, broken_same, broken_more}

pub broken_told : (a : Option Told) → WhereTold Broken a a
broken_told a = same_told Broken a broken_same

module _ (a b c : Option Told) where
  -- bytes were read
  came_by : (buf : List ℕ) (n : ℕ) (mid new : Told) → nat_eq n 0 ≡ false → Reads {E = Failed} buf (Ok n) mid new → new ≡ on_last (given (take n buf) false) mid
  came_by buf n mid new some reads = reads ∙ ap (λ e. on_last (given (take n buf) e) mid) some

  pub broken_read : (buf : List ℕ) (n : ℕ) → nat_eq n 0 ≡ false → WhereTold Broken a b → WhereTold (Reads {E = Failed} buf (Ok n)) b c → WhereTold Broken a c
  broken_read buf n some = then_told Broken (Reads {E = Failed} buf (Ok n)) Broken a b c (λ old mid new k reads. broken_more (take n buf) old mid new k (came_by buf n mid new some reads))

module _ (most : ℕ) (r : Role) (a b c : Option Told) where
  -- the core is another value, and stands for the same party
  lifted : (now now' : Role → Type 0) (e : FrameReader) (old new : Told) → ((q : Role) → now q → now' q) → Listening most now r e old new → Listening most now' r e old new
  lifted now now' e old new stands k = record { reads = k.reads; bytes = k.bytes; door = k.door; packets = k.packets; splits = k.splits; role = k.role; stands = stands k.role k.stands; same = k.same }

  pub told_begins : (now : Role → Type 0) (e : FrameReader) → e ≡ new_reader → now r → WhereTold (Listening most now r e) a a
  told_begins now e is stands = subst (λ (e : FrameReader). WhereTold (Listening most now r e) a a) (sym is) (same_told (Listening most now r new_reader) a (λ t. begins most r now t stands))

  pub told_goes_on : (now now' : Role → Type 0) (e e' : FrameReader) → ((q : Role) → now q → Advances most now' q e e') → WhereTold (Listening most now r e) a b → WhereTold (Listening most now' r e') a b
  told_goes_on now now' e e' step = map_told (Listening most now r e) (Listening most now' r e') a b (λ old new. goes_on most r now now' e e' old new step)

  pub told_fed : (now now' : Role → Type 0) (e m e' : FrameReader) (buf : List ℕ) (n : ℕ) → nat_eq n 0 ≡ false → m ≡ e → ((q : Role) → now q → now' q) → e' ≡ record m { bytes = m.bytes ++ take n buf }
      → WhereTold (Listening most now r e) a b → WhereTold (Reads {E = Failed} buf (Ok n)) b c → WhereTold (Listening most now' r e') a c
  told_fed now now' e m e' buf n some same stands is =
      then_told (Listening most now r e) (Reads {E = Failed} buf (Ok n)) (Listening most now' r e') a b c (λ old mid new l reads.
      is_fed most r now' e e' (take n buf) old mid new
      (ap (λ (e : FrameReader). e.bytes) is ∙ ap (λ (e : FrameReader). e.bytes ++ take n buf) same) (ap (λ (e : FrameReader). e.count) is ∙ ap (λ (e : FrameReader). e.count) same) (ap (λ (e : FrameReader). e.peer) is ∙ ap (λ (e : FrameReader). e.peer) same)
      (lifted now now' e old mid stands l) (came_by b b c buf n mid new some reads))

  pub told_halts : (now now' : Role → Type 0) (e e' : FrameReader) (stop : Stop) (l : Listened) → stop ≢ Short → stop ≢ Fault → l ≡ record { count = e'.count; peer = e'.peer; stop = stop } → ((q : Role) → now q → Halts most now' q stop e e')
      → WhereTold (Listening most now r e) a b → WhereTold (Listens most now' r l) a b
  told_halts now now' e e' stop l other sound is step h =
      subst (λ l. WhereTold (Listens most now' r l) a b) (sym is)
      (map_told (Listening most now r e) (Listens most now' r (record { count = e'.count; peer = e'.peer; stop = stop })) a b (λ old new. halts most r now now' e e' stop old new (not_short stop other) (not_failed stop sound) step) h)

  pub told_short : (now now' : Role → Type 0) (e m : FrameReader) (l : Listened) (buf : List ℕ) → e.count < most → m ≡ e → ((q : Role) → now q → now' q) → HasFault e.bytes ShortFrame → l ≡ record { count = m.count; peer = m.peer; stop = Short }
      → WhereTold (Listening most now r e) a b → WhereTold (Reads {E = Failed} buf (Ok 0)) b c → WhereTold (Listens most now' r l) a c
  told_short now now' e m l buf few same stands short is h reads =
      subst (λ l. WhereTold (Listens most now' r l) a c) (sym (is ∙ ap (λ (e : FrameReader). let x : Listened = record { count = e.count; peer = e.peer; stop = Short } in x) same))
      (then_told (Listening most now r e) (Reads {E = Failed} buf (Ok 0)) (Listens most now' r (record { count = e.count; peer = e.peer; stop = Short })) a b c
      (λ old mid new k came. ends_short most r now' e old mid new few short (lifted now now' e old mid stands k) came) h reads)

  pub told_fault : (now now' : Role → Type 0) (e m : FrameReader) (l : Listened) (buf : List ℕ) (failed : Failed) → e.count < most → m ≡ e → ((q : Role) → now q → now' q) → HasFault e.bytes ShortFrame → l ≡ record { count = m.count; peer = m.peer; stop = Fault }
      → WhereTold (Listening most now r e) a b → WhereTold (Reads {E = Failed} buf (Err failed)) b c → WhereTold (Listens most now' r l) a c
  told_fault now now' e m l buf failed few same stands short is h reads =
      subst (λ l. WhereTold (Listens most now' r l) a c) (sym (is ∙ ap (λ (e : FrameReader). let x : Listened = record { count = e.count; peer = e.peer; stop = Fault } in x) same))
      (then_told (Listening most now r e) (Reads {E = Failed} buf (Err failed)) (Listens most now' r (record { count = e.count; peer = e.peer; stop = Fault })) a b c
      (λ old mid new k broke. ends_fault most r now' e old mid new few short (lifted now now' e old mid stands k) broke) h reads)

  pub told_long : (now : Role → Type 0) (e : FrameReader) (l : Listened) → most ≤ e.count → l ≡ record { count = e.count; peer = e.peer; stop = Long } → WhereTold (Listening most now r e) a b → WhereTold (Listens most now r l) a b
  told_long now e l full is h =
      subst (λ l. WhereTold (Listens most now r l) a b) (sym is)
      (map_told (Listening most now r e) (Listens most now r (record { count = e.count; peer = e.peer; stop = Long })) a b (λ old new. ends_long most r now e old new full) h)
