-- What a round is, from what its calls did.
use Rattle.std.proofs.Common.{inl, inr, ◌≡◌, ℕ, zero, suc, ◌≤◌, Bool, true, false, ◌||◌, List, [], ◌∷◌, length, take, Option, Some, None, Ok, Err, refl, sym, ap, subst, ◌∙◌, arith}
use Rattle.fuxi_io.specs.declared.outside.Failed.{Failed}
use Rattle.fuxi_io.specs.Doors.{Told, new_talk, taken, failing, shut, on_last, Opens, Writes, Closes}
use Rattle.schedule_unit.specs.declared.party.Party.{Party}
use Rattle.wire_frames.specs.declared.fault.FrameFault.{FrameFault}
use Rattle.wire_frames.specs.declared.fault.FrameFault.TheVariants.{Short as ShortFrame, Length, Version, Kind, Role as NoRole, Place, Body, OutOfMemory}
use Rattle.wire_frames.specs.Streams.{lasting}
use Rattle.node_core.specs.declared.frame_reader.Stop.{Stop}
use Rattle.node_core.specs.declared.frame_reader.Stop.TheVariants.{Ended, Wrong, Stranger as StrangerStop, Long as LongStop, Short, Fault as FaultStop}
use Rattle.node_core.specs.declared.frame_reader.Listened.{Listened}
use Rattle.node_core.specs.declared.rounds.RoundLine.{RoundLine}
use Rattle.node_core.specs.declared.rounds.RoundLine.TheVariants.{Done, Fault}
use Rattle.node_core.specs.Roles.{Role, turn, IsTurn}
use Rattle.node_core.specs.HeardPackets.{Hearing, AtEnd, AtOpen, Came, stops, hear_all, IsRest, Gives}
use Rattle.node_core.specs.FrameReaders.{how_of, behind_of, is_short, is_failed, is_ended, read_on, broken_by, Listens, Broken}
use Rattle.node_core.specs.Rounds.{line_by, Sending, answer_by, is_fault, is_short_fault, says_short, Takes, TakesOf, Rounds, Breaks}
use Rattle.node_core.proofs.Packets.{no_packet, none_short}

take_whole : (l : List ℕ) → l ≡ take (length l) l
take_whole [] = refl
take_whole (x ∷ l) = ap (λ k. x ∷ k) (take_whole l)

-- where nothing came
abbrev none_came : Came
none_came = record { packets = []; behind = None }

nothing_heard : (most : ℕ) (r : Role) → 1 ≤ most → hear_all most r none_came ≡ stops r None 0 AtOpen
nothing_heard zero r first = absurd (omega (arith, first))
nothing_heard (suc most) r first = refl

open_ends : {A : Type 0} → AtOpen ≡ AtEnd → A
open_ends is = cc

-- a hearing that came to its end met no fault
sound_end : {A : Type 0} (stop : Stop) → how_of stop ≡ AtEnd → is_failed stop ≡ true → A
sound_end Ended ends failed = cc
sound_end (Wrong fault) ends failed = cc
sound_end StrangerStop ends failed = cc
sound_end LongStop ends failed = cc
sound_end Short ends failed = cc
sound_end FaultStop ends failed = cc

gives_nothing : Gives [] [] AtOpen
gives_nothing = record { left = []; splits = no_packet []; rest = none_short }

marked : (sent count : ℕ) (stop : Stop) → is_fault (line_by (is_failed stop) sent count (how_of stop)) ≡ is_failed stop
marked sent count Ended = refl
marked sent count (Wrong fault) = refl
marked sent count StrangerStop = refl
marked sent count LongStop = refl
marked sent count Short = refl
marked sent count FaultStop = refl

-- a fault that stays is not that of a part of a frame
clear_fault : (fault : FrameFault) → lasting fault ≡ Some fault → is_short_fault fault ≡ false
clear_fault ShortFrame stays = cc
clear_fault (Length n) stays = refl
clear_fault (Version n) stays = refl
clear_fault (Kind n) stays = refl
clear_fault NoRole stays = refl
clear_fault Place stays = refl
clear_fault Body stays = refl
clear_fault OutOfMemory stays = refl

short_said : (left : List ℕ) (sent count : ℕ) (stop : Stop) → IsRest left (how_of stop) → says_short (line_by (is_failed stop) sent count (how_of stop)) ≡ is_short stop
short_said left sent count Ended rest = refl
short_said left sent count (Wrong fault) rest = clear_fault fault rest.1
short_said left sent count StrangerStop rest = refl
short_said left sent count LongStop rest = refl
short_said left sent count Short rest = refl
short_said left sent count FaultStop rest = refl

takes_all : (b : Bool) (out : List ℕ) (s : Sending) → IsTurn s.role s.peer out → TakesOf b out s
takes_all false out s made = made
takes_all true out s made = inr (record { bytes = out; turn = made; count = length out; part = take_whole out })

sent_free : (b : Bool) (sent other count : ℕ) (stop : Stop) → is_ended stop ≡ false → line_by b sent count (how_of stop) ≡ line_by b other count (how_of stop)
sent_free b sent other count Ended more = cc
sent_free b sent other count (Wrong fault) more = refl
sent_free b sent other count StrangerStop more = refl
sent_free b sent other count LongStop more = refl
sent_free b sent other count Short more = refl
sent_free b sent other count FaultStop more = refl

no_answer : (q : Role) (peer : Option Party) (stop : Stop) → is_ended stop ≡ false → None ≡ answer_by q peer (how_of stop)
no_answer q peer Ended more = cc
no_answer q peer (Wrong fault) more = refl
no_answer q peer StrangerStop more = refl
no_answer q peer LongStop more = refl
no_answer q peer Short more = refl
no_answer q peer FaultStop more = refl

is_end : (stop : Stop) → is_ended stop ≡ true → stop ≡ Ended
is_end Ended over = refl
is_end (Wrong fault) over = cc
is_end StrangerStop over = cc
is_end LongStop over = cc
is_end Short over = cc
is_end FaultStop over = cc

-- no call failed before
late_after : (b : Bool) → b ≡ false → (b || false) || false ≡ false
late_after true sound = cc
late_after false sound = refl

late_twice : (b : Bool) → b ≡ false → ((b || false) || (b || false)) || false ≡ false
late_twice true sound = cc
late_twice false sound = refl

abbrev pub Opened : Bool → List ℕ → Told → Told → Type 0
Opened accepts addr = Opens {E = Failed} accepts addr (Ok (record {}))

abbrev pub Wrote : List ℕ → Told → Told → Type 0
Wrote out = Writes {E = Failed} out (Ok (record {}))

module _ (most : ℕ) (addr : List ℕ) (r : Role) (first : 1 ≤ most) where
  gives_none : Gives [] [] (hear_all most r none_came).how
  gives_none = subst (λ (h : Hearing). Gives [] [] h.how) (sym (nothing_heard most r first)) gives_nothing

  role_none : (now : Role → Type 0) → now r → now (hear_all most r none_came).role
  role_none now stands = subst (λ (h : Hearing). now h.role) (sym (nothing_heard most r first)) stands

  none_ends : {A : Type 0} → (hear_all most r none_came).how ≡ AtEnd → A
  none_ends ends = open_ends (ap (λ (h : Hearing). h.how) (sym (nothing_heard most r first)) ∙ ends)

  -- a fault before anything was read
  pub missed : (accepts : Bool) (now : Role → Type 0) (old new : Told) (failed : Failed) → now r → Opens accepts addr (Err failed) old new → Rounds accepts most addr now r Fault old new
  missed false now old new failed stands is = record {
    visit = None;
    door = is;
    came = none_came;
    stands = role_none now stands;
    meets = record { gives = gives_none; says = ap (λ (h : Hearing). line_by true (length (turn r None)) h.count h.how) (nothing_heard most r first); took = inl refl; ended = refl; failed = refl; behind_end = λ ends fault. none_ends ends; order = tt; closed = refl };
  }
  missed true now old new failed stands is =
      let h = nothing_heard most r first in
      record {
        visit = None;
        door = is;
        came = none_came;
        stands = role_none now stands;
        meets = record {
          gives = gives_none;
          says = ap (λ (h : Hearing). line_by true (length (turn h.role h.peer)) h.count h.how) h;
          took = subst (λ (h : Hearing). Takes true [] (answer_by h.role h.peer h.how)) (sym h) refl;
          ended = refl;
          failed = refl;
          behind_end = λ ends fault. none_ends ends;
          order = tt;
          closed = refl;
        };
      }

  pub unsent : (now : Role → Type 0) (out : List ℕ) (old m1 m2 new : Told) (failed : Failed) → now r → IsTurn r None out → Opened false addr old m1 → Writes out (Err failed) m1 m2 → Closes m2 new
      → Rounds false most addr now r Fault old new
  unsent now out old m1 m2 new failed stands made opens writes closes = record {
    visit = Some (shut (failing (taken (take writes.0 out) new_talk)));
    door = closes ∙ ap (on_last shut) (writes.1 ∙ ap (on_last (λ talk. failing (taken (take writes.0 out) talk))) opens);
    came = none_came;
    stands = role_none now stands;
    meets = record {
      gives = gives_none;
      says = ap (λ (h : Hearing). line_by true (length (turn r None)) h.count h.how) (nothing_heard most r first);
      took = inr (record { bytes = out; turn = made; count = writes.0; part = refl });
      ended = refl;
      failed = refl;
      behind_end = λ ends fault. none_ends ends;
      order = record { turns = refl; late = refl };
      closed = refl;
    };
  }

  -- what was heard behind a whole turn
  pub heard_dialed : (now : Role → Type 0) (out : List ℕ) (sent : ℕ) (l : Listened) (line : RoundLine) (old m1 m2 m3 new : Told) → IsTurn r None out → sent ≡ length (turn r None)
      → line ≡ line_by (is_failed l.stop) sent l.count (how_of l.stop) → Opened false addr old m1 → Wrote out m1 m2 → Listens most now r l m2 m3 → Closes m3 new → Rounds false most addr now r line old new
  heard_dialed now out sent l line old m1 m2 m3 new made count is opens writes h closes =
      let mark : is_fault line ≡ is_failed l.stop = ap is_fault is ∙ marked sent l.count l.stop in
      record {
        visit = Some (shut (broken_by (is_failed l.stop) (read_on h.reads h.bytes (is_short l.stop) (taken out new_talk))));
        door = closes ∙ ap (on_last shut) (h.door ∙ ap (on_last (λ talk. broken_by (is_failed l.stop) (read_on h.reads h.bytes (is_short l.stop) talk))) (writes ∙ ap (on_last (taken out)) opens));
        came = record { packets = h.packets; behind = behind_of l.stop };
        stands = subst (λ (h : Hearing). now h.role) (sym h.hears) h.stands;
        meets = record {
          gives = subst (λ (g : Hearing). Gives h.bytes h.packets g.how) (sym h.hears) h.gives;
          says = ap (λ (g : Hearing). line_by (is_fault line) (length (turn r None)) g.count g.how) h.hears ∙ ap (λ b. line_by b (length (turn r None)) l.count (how_of l.stop)) mark
              ∙ ap (λ n. line_by (is_failed l.stop) n l.count (how_of l.stop)) (sym count) ∙ sym is;
          took = takes_all (is_fault line) out (record { role = r; peer = None }) made;
          ended = ap says_short is ∙ short_said h.gives.left sent l.count l.stop h.gives.rest;
          failed = mark;
          behind_end = λ ends fault. sound_end l.stop (sym (ap (λ (g : Hearing). g.how) h.hears) ∙ ends) (sym mark ∙ fault);
          order = record { turns = refl; late = refl };
          closed = refl;
        };
      }

  pub cut_dialed : (out : List ℕ) (old m1 m2 new : Told) → IsTurn r None out → Opened false addr old m1 → Wrote out m1 m2 → Broken m2 new → Breaks false addr r old new
  cut_dialed out old m1 m2 new made opens writes b = inr (record {
    visit = Some (read_on b.reads b.bytes false (taken out new_talk));
    door = b.door ∙ ap (on_last (read_on b.reads b.bytes false)) (writes ∙ ap (on_last (taken out)) opens);
    took = takes_all true out (record { role = r; peer = None }) made;
    sound = refl;
    order = record { turns = refl; late = refl };
  })

  -- what was heard of a connection that was accepted, where no End packet came
  pub heard_served : (now : Role → Type 0) (sent : ℕ) (l : Listened) (line : RoundLine) (old m1 m2 new : Told) → is_ended l.stop ≡ false
      → line ≡ line_by (is_failed l.stop) sent l.count (how_of l.stop) → Opened true addr old m1 → Listens most now r l m1 m2 → Closes m2 new → Rounds true most addr now r line old new
  heard_served now sent l line old m1 m2 new more is opens h closes =
      let mark : is_fault line ≡ is_failed l.stop = ap is_fault is ∙ marked sent l.count l.stop in
      record {
        visit = Some (shut (broken_by (is_failed l.stop) (read_on h.reads h.bytes (is_short l.stop) new_talk)));
        door = closes ∙ ap (on_last shut) (h.door ∙ ap (on_last (λ talk. broken_by (is_failed l.stop) (read_on h.reads h.bytes (is_short l.stop) talk))) opens);
        came = record { packets = h.packets; behind = behind_of l.stop };
        stands = subst (λ (h : Hearing). now h.role) (sym h.hears) h.stands;
        meets = record {
          gives = subst (λ (g : Hearing). Gives h.bytes h.packets g.how) (sym h.hears) h.gives;
          says = ap (λ (g : Hearing). line_by (is_fault line) (length (turn g.role g.peer)) g.count g.how) h.hears ∙ ap (λ b. line_by b (length (turn h.role l.peer)) l.count (how_of l.stop)) mark
              ∙ sent_free (is_failed l.stop) (length (turn h.role l.peer)) sent l.count l.stop more ∙ sym is;
          took = subst (λ (g : Hearing). Takes (is_fault line) [] (answer_by g.role g.peer g.how)) (sym h.hears) (subst (Takes (is_fault line) []) (no_answer h.role l.peer l.stop more) refl);
          ended = ap says_short is ∙ short_said h.gives.left sent l.count l.stop h.gives.rest;
          failed = mark;
          behind_end = λ ends fault. sound_end l.stop (sym (ap (λ (g : Hearing). g.how) h.hears) ∙ ends) (sym mark ∙ fault);
          order = record { turns = refl; late = refl };
          closed = refl;
        };
      }

  ends : (now : Role → Type 0) (l : Listened) (old new : Told) (h : Listens most now r l old new) → is_ended l.stop ≡ true
      → hear_all most r (record { packets = h.packets; behind = behind_of l.stop }) ≡ stops h.role l.peer l.count AtEnd
  ends now l old new h over = h.hears ∙ ap (λ s. stops h.role l.peer l.count (how_of s)) (is_end l.stop over)

  -- what was heard to an End packet, and answered
  pub answered : (now later : Role → Type 0) (out : List ℕ) (sent : ℕ) (l : Listened) (old m1 m2 m3 new : Told) → is_ended l.stop ≡ true → ((q : Role) → now q → later q)
      → ((q : Role) → now q → IsTurn q l.peer out) → ((q : Role) → now q → sent ≡ length (turn q l.peer))
      → Opened true addr old m1 → Listens most now r l m1 m2 → Wrote out m2 m3 → Closes m3 new → Rounds true most addr later r (Done l.count sent) old new
  answered now later out sent l old m1 m2 m3 new over keeps made count opens h writes closes =
      let hears = ends now l m1 m2 h over in
      record {
        visit = Some (shut (taken out (broken_by (is_failed l.stop) (read_on h.reads h.bytes (is_short l.stop) new_talk))));
        door = closes ∙ ap (on_last shut) (writes ∙ ap (on_last (taken out)) (h.door ∙ ap (on_last (λ talk. broken_by (is_failed l.stop) (read_on h.reads h.bytes (is_short l.stop) talk))) opens));
        came = record { packets = h.packets; behind = behind_of l.stop };
        stands = subst (λ (h : Hearing). later h.role) (sym hears) (keeps h.role h.stands);
        meets = record {
          gives = subst (λ (g : Hearing). Gives h.bytes h.packets g.how) (sym h.hears) h.gives;
          says = ap (λ (g : Hearing). line_by false (length (turn g.role g.peer)) g.count g.how) hears ∙ ap (λ n. Done l.count n) (sym (count h.role h.stands));
          took = subst (λ (g : Hearing). Takes false out (answer_by g.role g.peer g.how)) (sym hears) (made h.role h.stands);
          ended = sym (ap is_short (is_end l.stop over));
          failed = sym (ap is_failed (is_end l.stop over));
          behind_end = λ ends fault. cc;
          order = record { turns = refl; late = late_after (is_failed l.stop) (ap is_failed (is_end l.stop over)) };
          closed = refl;
        };
      }

  -- the same where the answer failed
  pub unanswered : (now later : Role → Type 0) (out : List ℕ) (l : Listened) (old m1 m2 m3 new : Told) (failed : Failed) → is_ended l.stop ≡ true → ((q : Role) → now q → later q)
      → ((q : Role) → now q → IsTurn q l.peer out) → Opened true addr old m1 → Listens most now r l m1 m2 → Writes out (Err failed) m2 m3 → Closes m3 new → Rounds true most addr later r Fault old new
  unanswered now later out l old m1 m2 m3 new failed over keeps made opens h writes closes =
      let hears = ends now l m1 m2 h over in
      record {
        visit = Some (shut (failing (taken (take writes.0 out) (broken_by (is_failed l.stop) (read_on h.reads h.bytes (is_short l.stop) new_talk)))));
        door = closes ∙ ap (on_last shut) (writes.1 ∙ ap (on_last (λ talk. failing (taken (take writes.0 out) talk))) (h.door ∙ ap (on_last (λ talk. broken_by (is_failed l.stop) (read_on h.reads h.bytes (is_short l.stop) talk))) opens));
        came = record { packets = h.packets; behind = behind_of l.stop };
        stands = subst (λ (h : Hearing). later h.role) (sym hears) (keeps h.role h.stands);
        meets = record {
          gives = subst (λ (g : Hearing). Gives h.bytes h.packets g.how) (sym h.hears) h.gives;
          says = ap (λ (g : Hearing). line_by true (length (turn g.role g.peer)) g.count g.how) hears;
          took = subst (λ (g : Hearing). Takes true (take writes.0 out) (answer_by g.role g.peer g.how)) (sym hears) (inr (record { bytes = out; turn = made h.role h.stands; count = writes.0; part = refl }));
          ended = sym (ap is_short (is_end l.stop over));
          failed = refl;
          behind_end = λ ends fault. (refl, refl);
          order = record { turns = refl; late = late_twice (is_failed l.stop) (ap is_failed (is_end l.stop over)) };
          closed = refl;
        };
      }

  pub cut_served : (old mid new : Told) → Opened true addr old mid → Broken mid new → Breaks true addr r old new
  cut_served old mid new opens b = inr (record { visit = Some (read_on b.reads b.bytes false new_talk); door = b.door ∙ ap (on_last (read_on b.reads b.bytes false)) opens; took = refl; sound = refl; order = record { turns = refl; late = refl } })

  pub cut_unanswered : (now : Role → Type 0) (l : Listened) (old mid new : Told) → is_ended l.stop ≡ true → Opened true addr old mid → Listens most now r l mid new → Breaks true addr r old new
  cut_unanswered now l old mid new over opens h =
      inr (record {
        visit = Some (broken_by (is_failed l.stop) (read_on h.reads h.bytes (is_short l.stop) new_talk));
        door = h.door ∙ ap (on_last (λ talk. broken_by (is_failed l.stop) (read_on h.reads h.bytes (is_short l.stop) talk))) opens;
        took = refl;
        sound = ap is_failed (is_end l.stop over);
        order = record { turns = refl; late = refl };
      })
