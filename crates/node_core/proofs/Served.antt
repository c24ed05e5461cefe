-- What a round is where its door may tell nothing.
use Rattle.std.proofs.Common.{inl, ◌≡◌, ℕ, ◌≤◌, Bool, true, false, List, length, Option, None, Err, refl}
use Rattle.fuxi_io.specs.declared.outside.Failed.{Failed}
use Rattle.fuxi_io.specs.Doors.{Told, Opens, Writes, Closes, WhereTold}
use Rattle.node_core.specs.declared.frame_reader.Listened.{Listened}
use Rattle.node_core.specs.declared.rounds.RoundLine.{RoundLine}
use Rattle.node_core.specs.declared.rounds.RoundLine.TheVariants.{Done, Fault}
use Rattle.node_core.specs.Roles.{Role, turn, IsTurn}
use Rattle.node_core.specs.FrameReaders.{how_of, is_failed, is_ended, Listens, Broken}
use Rattle.node_core.specs.Rounds.{line_by, Rounds, Breaks}
use Rattle.fuxi_io.specs.DoorsLemmas.{same_told, map_told, then_told}
use Rattle.node_core.proofs.RoundsLemmas.{Opened, Wrote, missed, unsent, heard_dialed, cut_dialed, heard_served, answered, unanswered, cut_served, cut_unanswered}

record Both (R S : Told → Told → Type 0) (old new : Told) : Type 0 where
  mid : Told
  one : R old mid
  two : S mid new

both : (R S : Told → Told → Type 0) (a b c : Option Told) → WhereTold R a b → WhereTold S b c → WhereTold (Both R S) a c
both R S a b c = then_told R S (Both R S) a b c (λ old mid new x y. record { mid = mid; one = x; two = y })

pub breaks_same : (accepts : Bool) (addr : List ℕ) (r : Role) (a : Option Told) → WhereTold (Breaks accepts addr r) a a
breaks_same accepts addr r a = same_told (Breaks accepts addr r) a (λ t. inl refl)

module _ (most : ℕ) (addr : List ℕ) (r : Role) (first : 1 ≤ most) (a b c d e : Option Told) where
  pub told_missed : (accepts : Bool) (now : Role → Type 0) (failed : Failed) → now r → WhereTold (Opens accepts addr (Err failed)) a b → WhereTold (Rounds accepts most addr now r Fault) a b
  told_missed accepts now failed stands = map_told (Opens accepts addr (Err failed)) (Rounds accepts most addr now r Fault) a b (λ old new. missed most addr r first accepts now old new failed stands)

  pub told_unsent : (now : Role → Type 0) (out : List ℕ) (failed : Failed) → now r → IsTurn r None out → WhereTold (Opened false addr) a b → WhereTold (Writes out (Err failed)) b c → WhereTold Closes c d → WhereTold (Rounds false most addr now r Fault) a d
  told_unsent now out failed stands made x y z =
      then_told (Both (Opened false addr) (Writes out (Err failed))) Closes (Rounds false most addr now r Fault) a c d (λ old mid new p k. unsent most addr r first now out old p.mid mid new failed stands made p.one p.two k)
      (both (Opened false addr) (Writes out (Err failed)) a b c x y) z

  pub told_dialed : (now : Role → Type 0) (out : List ℕ) (sent : ℕ) (l : Listened) (line : RoundLine) → IsTurn r None out → sent ≡ length (turn r None) → line ≡ line_by (is_failed l.stop) sent l.count (how_of l.stop)
      → WhereTold (Opened false addr) a b → WhereTold (Wrote out) b c → WhereTold (Listens most now r l) c d → WhereTold Closes d e → WhereTold (Rounds false most addr now r line) a e
  told_dialed now out sent l line made count is x y z k =
      then_told (Both (Both (Opened false addr) (Wrote out)) (Listens most now r l)) Closes (Rounds false most addr now r line) a d e
      (λ old mid new p k. heard_dialed most addr r first now out sent l line old p.one.mid p.mid mid new made count is p.one.one p.one.two p.two k)
      (both (Both (Opened false addr) (Wrote out)) (Listens most now r l) a c d (both (Opened false addr) (Wrote out) a b c x y) z) k

  pub told_cut_dialed : (out : List ℕ) → IsTurn r None out → WhereTold (Opened false addr) a b → WhereTold (Wrote out) b c → WhereTold Broken c d → WhereTold (Breaks false addr r) a d
  told_cut_dialed out made x y z =
      then_told (Both (Opened false addr) (Wrote out)) Broken (Breaks false addr r) a c d (λ old mid new p h. cut_dialed most addr r first out old p.mid mid new made p.one p.two h) (both (Opened false addr) (Wrote out) a b c x y) z

  pub told_served : (now : Role → Type 0) (sent : ℕ) (l : Listened) (line : RoundLine) → is_ended l.stop ≡ false → line ≡ line_by (is_failed l.stop) sent l.count (how_of l.stop)
      → WhereTold (Opened true addr) a b → WhereTold (Listens most now r l) b c → WhereTold Closes c d → WhereTold (Rounds true most addr now r line) a d
  told_served now sent l line more is x y z =
      then_told (Both (Opened true addr) (Listens most now r l)) Closes (Rounds true most addr now r line) a c d (λ old mid new p k. heard_served most addr r first now sent l line old p.mid mid new more is p.one p.two k)
      (both (Opened true addr) (Listens most now r l) a b c x y) z

  pub told_answered : (now later : Role → Type 0) (out : List ℕ) (sent : ℕ) (l : Listened) → is_ended l.stop ≡ true → ((q : Role) → now q → later q)
      → ((q : Role) → now q → IsTurn q l.peer out) → ((q : Role) → now q → sent ≡ length (turn q l.peer))
      → WhereTold (Opened true addr) a b → WhereTold (Listens most now r l) b c → WhereTold (Wrote out) c d → WhereTold Closes d e → WhereTold (Rounds true most addr later r (Done l.count sent)) a e
  told_answered now later out sent l over keeps made count x y z k =
      then_told (Both (Both (Opened true addr) (Listens most now r l)) (Wrote out)) Closes (Rounds true most addr later r (Done l.count sent)) a d e
      (λ old mid new p k. answered most addr r first now later out sent l old p.one.mid p.mid mid new over keeps made count p.one.one p.one.two p.two k)
      (both (Both (Opened true addr) (Listens most now r l)) (Wrote out) a c d (both (Opened true addr) (Listens most now r l) a b c x y) z) k

  pub told_unanswered : (now later : Role → Type 0) (out : List ℕ) (l : Listened) (failed : Failed) → is_ended l.stop ≡ true → ((q : Role) → now q → later q) → ((q : Role) → now q → IsTurn q l.peer out)
      → WhereTold (Opened true addr) a b → WhereTold (Listens most now r l) b c → WhereTold (Writes out (Err failed)) c d → WhereTold Closes d e → WhereTold (Rounds true most addr later r Fault) a e
  told_unanswered now later out l failed over keeps made x y z k =
      then_told (Both (Both (Opened true addr) (Listens most now r l)) (Writes out (Err failed))) Closes (Rounds true most addr later r Fault) a d e
      (λ old mid new p k. unanswered most addr r first now later out l old p.one.mid p.mid mid new failed over keeps made p.one.one p.one.two p.two k)
      (both (Both (Opened true addr) (Listens most now r l)) (Writes out (Err failed)) a c d (both (Opened true addr) (Listens most now r l) a b c x y) z) k

  pub told_cut_served : WhereTold (Opened true addr) a b → WhereTold Broken b c → WhereTold (Breaks true addr r) a c
  told_cut_served = then_told (Opened true addr) Broken (Breaks true addr r) a b c (cut_served most addr r first)

  pub told_cut_unanswered : (now : Role → Type 0) (l : Listened) → is_ended l.stop ≡ true → WhereTold (Opened true addr) a b → WhereTold (Listens most now r l) b c → WhereTold (Breaks true addr r) a c
  told_cut_unanswered now l over = then_told (Opened true addr) (Listens most now r l) (Breaks true addr r) a b c (λ old mid new. cut_unanswered most addr r first now l old mid new over)
