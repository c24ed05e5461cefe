-- What a line can give is an event of an input.
use Rattle.std.proofs.Common.{◌≡◌, ◌≤◌, ℕ, ◌<◌, Bool, true, false, not, nat_eq, nat_lt, refl, arith, ap}
use Rattle.std.specs.Prelude.{◌&&◌}
use Rattle.std.proofs.lemmas.Bool.Decides.{nat_tests}
use Rattle.fuxi_terms.proofs.Booleans.{and_true}
use Rattle.schedule_text.specs.LineForms.{shape_of}
use Rattle.schedule_text.specs.Halting.{anywhere, is_writing as is_writing_line}
use Rattle.schedule_text.specs.Writing.{AreWithin, IsLineEvent, MayStop, saying_of}
use Rattle.schedule_text.specs.declared.event.Event.{Event}
use Rattle.schedule_text.specs.declared.event.Event.TheVariants as line
use Rattle.spec_world.specs.Events.{Halt, is_writing}
use Rattle.spec_world.specs.EventRanges.{is_from_line, is_counted}
use Rattle.schedule_replay.specs.LineEvents.{event_as}

pub counted : (n : ℕ) → not (nat_eq n 0) ≡ true → is_counted n ≡ true
counted n is = by (nat_eq n 0) refl is
  where
    by : (b : Bool) → nat_eq n 0 ≡ b → not b ≡ true → nat_lt 0 n ≡ true
    by true e t = absurd (no t)
      where
        no : false ≡ true → ⊥
        no t = grind (arith, t)
    by false e t = grind (arith, nat_tests, e)

pub positive : (n : ℕ) → not (nat_eq n 0) ≡ true → 0 < n
positive n is = let c = counted n is in grind (arith, nat_tests, c)

pub below : (n l : ℕ) → nat_lt n l ≡ true → n < l
below n l is = grind (arith, nat_tests, is)

pub not_below : (n l : ℕ) → not (nat_lt l n) ≡ true → n ≤ l
not_below n l is = by (nat_lt l n) refl is
  where
    by : (b : Bool) → nat_lt l n ≡ b → not b ≡ true → n ≤ l
    by true e t = absurd (no t)
      where
        no : false ≡ true → ⊥
        no t = grind (arith, t)
    by false e t = grind (arith, nat_tests, e)

three : (a b c : Bool) → a ≡ true → b ≡ true → c ≡ true → (a && (b && c)) ≡ true
three a b c x y z = and_true a (b && c) x (and_true b c y z)

four : (a b c d : Bool) → a ≡ true → b ≡ true → c ≡ true → d ≡ true → (a && (b && (c && d))) ≡ true
four a b c d x y z t = and_true a (b && (c && d)) x (three b c d y z t)

-- a line within a stop is one of an input, which writes
stops_none : (x : Event) → is_writing_line x ≡ true → MayStop x
stops_none (line.Halt' calls all p x) is = absurd cc
stops_none x is = tt

writes_as : (x : Event) → is_writing_line x ≡ true → is_writing (event_as x) ≡ true
writes_as (line.Master e) is = refl
writes_as (line.Submit e a g asks) is = refl
writes_as (line.Finish e a) is = refl
writes_as (line.Ban e m) is = refl
writes_as (line.Unban e m) is = refl
writes_as x is = cc

numbered : (e : Event) → AreWithin 0 (shape_of (saying_of e).head).places (saying_of e).numbers → MayStop e → is_from_line (event_as e) ≡ true
numbered (line.Master e) w s = counted e w.1
numbered (line.Stop e) w s = counted e w.1
numbered (line.Agent m b) w s = and_true _ _ w.1 (counted b w.2.1)
numbered (line.App a b) w s = and_true _ _ w.1 (counted b w.2.1)
numbered (line.Submit e a g asks) w s = three _ _ _ (counted e w.1) w.2.1 w.2.2.1
numbered (line.Finish e a) w s = and_true _ _ (counted e w.1) w.2.1
numbered (line.Ban e m) w s = and_true _ _ (counted e w.1) w.2.1
numbered (line.Unban e m) w s = and_true _ _ (counted e w.1) w.2.1
numbered (line.Begin e) w s = counted e w.1
numbered (line.Preempt e) w s = counted e w.1
numbered (line.Judge e least percent) w s = three _ _ _ (counted e w.1) w.2.1 w.2.2.1
numbered (line.Want a u n) w s = and_true _ _ w.1 w.2.1
numbered (line.Near a u m n) w s = three _ _ _ w.1 w.2.1 w.2.2.1
numbered (line.Rack a u r n) w s = three _ _ _ w.1 w.2.1 w.2.2.1
numbered (line.Avoid a u m on) w s = four _ _ _ _ w.1 w.2.1 w.2.2.1 w.2.2.2.1
numbered (line.Back a u m n) w s = three _ _ _ w.1 w.2.1 w.2.2.1
numbered (line.TurnMaster e) w s = counted e w.1
numbered (line.TurnAgent m) w s = w.1
numbered (line.TurnApp a) w s = w.1
numbered (line.ResyncMaster e) w s = counted e w.1
numbered (line.ResyncAgent m) w s = w.1
numbered (line.ResyncApp a) w s = w.1
numbered (line.Deliver k) w s = counted k w.1
numbered (line.DeliverRange k l) w s = and_true _ _ (counted k w.1) w.2.1
numbered (line.Dump k) w s = counted k w.1
numbered line.Show w s = refl
numbered (line.Halt' calls all p x) w s = three _ _ _ s.0 (writes_as x s.1) (numbered x w (stops_none x s.1))

pub from_line : (e : Event) → IsLineEvent e → is_from_line (event_as e) ≡ true
from_line e h = numbered e h.numbers h.stop

-- where what is within an event stands in memory says nothing of it
pub as_anywhere : (e : Event) → event_as (anywhere e) ≡ event_as e
as_anywhere (line.Master e) = refl
as_anywhere (line.Stop e) = refl
as_anywhere (line.Agent m b) = refl
as_anywhere (line.App a b) = refl
as_anywhere (line.Submit e a g asks) = refl
as_anywhere (line.Finish e a) = refl
as_anywhere (line.Ban e m) = refl
as_anywhere (line.Unban e m) = refl
as_anywhere (line.Begin e) = refl
as_anywhere (line.Preempt e) = refl
as_anywhere (line.Judge e least percent) = refl
as_anywhere (line.Want a u n) = refl
as_anywhere (line.Near a u m n) = refl
as_anywhere (line.Rack a u r n) = refl
as_anywhere (line.Avoid a u m on) = refl
as_anywhere (line.Back a u m n) = refl
as_anywhere (line.TurnMaster e) = refl
as_anywhere (line.TurnAgent m) = refl
as_anywhere (line.TurnApp a) = refl
as_anywhere (line.ResyncMaster e) = refl
as_anywhere (line.ResyncAgent m) = refl
as_anywhere (line.ResyncApp a) = refl
as_anywhere (line.Deliver k) = refl
as_anywhere (line.DeliverRange k l) = refl
as_anywhere (line.Dump k) = refl
as_anywhere line.Show = refl
as_anywhere (line.Halt' calls all p x) = ap (Halt calls all) (as_anywhere x)
