-- The run of a node over an input that may be known, through a door that may tell.
use Rattle.std.proofs.Common.{inl, inr, ◌⊎◌, ◌≡◌, ℕ, ◌+◌, ◌<◌, ◌≤◌, Bool, true, false, List, length, Option, None, Some, IfSome, Result, Ok, Err, refl, sym, subst, ap, ◌∙◌}
use Rattle.std.specs.Io.KnownBytes.{Appends, IsAtEnd, prepend_known}
use Rattle.fuxi_io.specs.Lines.{InputLine, GivesKnown, BreaksOff, FirstTooLongKnown, MoreKnown}
use Rattle.fuxi_io.specs.Reading.{read_ahead}
use Rattle.fuxi_io.specs.declared.lines.Got.TheVariants.{Line, End}
use Rattle.fuxi_io.specs.declared.lines.LineStop.{LineStop}
use Rattle.fuxi_io.specs.declared.lines.LineStop.TheVariants.{ReadFault as ReadStop, LineTooLong as LongStop, TooManyLines as ManyStop}
use Rattle.fuxi_io.specs.declared.status.Status.{Status}
use Rattle.fuxi_terms.specs.Limits.{most_lines}
use Rattle.input_lines.specs.Contents.{content, is_skipped}
use Rattle.input_lines.specs.InputStatuses.{stop_status}
use Rattle.input_lines.specs.Wholes.{TakesLines}
use Rattle.fuxi_io.specs.Doors.{Told, WhereTold}
use Rattle.node_core.specs.Roles.{Role}
use Rattle.node_core.specs.NodeLines.{node_line}
use Rattle.node_core.specs.NodeTexts.{state_text}
use Rattle.fuxi_node.specs.declared.taking.DiskFailed.{DiskFailed}
use Rattle.fuxi_node.specs.declared.taking.Stop.TheVariants.{Ends, Disk}
use Rattle.fuxi_node.specs.NodeRuns.{Node}
use Rattle.fuxi_node.specs.NodeEnds.{Start, Ended, start_of}
use Rattle.fuxi_node.specs.NodeProgress.{Taken, TakesCounted, WritesEnd, Along}
use Rattle.fuxi_io.specs.DoorsLemmas.{same_told, map_told}
use Rattle.fuxi_node.proofs.NodeProgressLemmas.{line_more}
use Rattle.fuxi_node.proofs.NodeRunsLemmas.{begin, skip, step, state_ended, stop_ended, line_ended, disk_ended}

weaker : (o : Option (List ℕ)) (P Q : List ℕ → Type 0) → ((x : List ℕ) → P x → Q x) → IfSome o P → IfSome o Q
weaker None P Q f h = tt
weaker (Some x) P Q f h = f x h

-- one relation, and then one of what the first has found
go_told : (R T : Told → Told → Type 0) (Q : Type 0) (S : Q → Told → Told → Type 0) (a b c : Option Told) → (take : (old mid : Told) → R old mid → Q) → ((q : Q) → WhereTold (S q) b c)
    → ((old mid new : Told) (x : R old mid) → S (take old mid x) mid new → T old new) → WhereTold R a b → WhereTold T a c
go_told R T Q S None b c take next f h = tt
go_told R T Q S (Some a) None c take next f h = absurd h
go_told R T Q S (Some a) (Some b) None take next f h = next (take a b h)
go_told R T Q S (Some a) (Some b) (Some c) take next f h = f a b c h (next (take a b h))

pub start_along : TakesLines → (most first : ℕ) (addr : List ℕ) (r : Role) (known took : Option (List ℕ)) (ends : Bool) (now : Role → Type 0) (f : ℕ) (t : Option Told) → now r → (ends ≡ false → IsAtEnd known)
    → IfSome known (λ bytes. WhereTold (Along (start_of most addr first r) bytes first ends 0 now known took took f f) t t)
start_along laws most first addr r None took ends now f t stands last = tt
start_along laws most first addr r (Some bytes) took ends now f t stands last =
    same_told (Along (start_of most addr first r) bytes first ends 0 now (Some bytes) took took f f) t (λ u. begin laws (start_of most addr first r) bytes ends now took f u stands refl last)

module _ (laws : TakesLines) (s : Start) (input : Option (List ℕ)) (number : ℕ) (ends : Bool) (events : ℕ) (now : Role → Type 0) (rest w0 w : Option (List ℕ)) (f0 f1 : ℕ) (t0 t1 : Option Told)
    (a : IfSome input (λ bytes. WhereTold (Along s bytes number ends events now rest w0 w f0 f1) t0 t1)) where
  pub skip_along : (rest' : Option (List ℕ)) (line : InputLine) → ends ≡ true → number < most_lines → GivesKnown Line rest line rest' → is_skipped (content line) ≡ true
      → IfSome input (λ bytes. WhereTold (Along s bytes (number + 1) line.ended events now rest' w0 w f0 f1) t0 t1)
  skip_along rest' line ended more gives skipped = weaker input _ _ (λ bytes. map_told (Along s bytes number ends events now rest w0 w f0 f1) (Along s bytes (number + 1) line.ended events now rest' w0 w f0 f1) t0 t1
      (λ old mid x. skip laws s bytes number ends events now rest w0 w f0 f1 old mid x rest' line ended more gives skipped)) a

  pub step_along : (rest' w' : Option (List ℕ)) (line : InputLine) (now' : Role → Type 0) (f2 : ℕ) (t2 : Option Told) → ends ≡ true → number < most_lines → GivesKnown Line rest line rest' → is_skipped (content line) ≡ false
      → ((n : Node) → now n.role → n.events ≡ events → WhereTold (Taken s.most s.addr n (number + 1) (node_line (content line)) now' (Appends w w') f1 f2) t1 t2)
      → IfSome input (λ bytes. WhereTold (Along s bytes (number + 1) line.ended (events + 1) now' rest' w0 w' f0 f2) t0 t2)
  step_along rest' w' line now' f2 t2 ended more gives unskipped takes = weaker input _ _ (λ bytes. go_told (Along s bytes number ends events now rest w0 w f0 f1) (Along s bytes (number + 1) line.ended (events + 1) now' rest' w0 w' f0 f2)
      ((r : Role) × now r) (λ q. let n : Node = record { role = q.0; events = events } in Taken s.most s.addr n (number + 1) (node_line (content line)) now' (Appends w w') f1 f2) t0 t1 t2
      (λ old mid x. (x.role, x.stands)) (λ q. takes (record { role = q.0; events = events }) q.1 refl)
      (λ old mid new x t. step laws s bytes number ends events now rest w0 w f0 f1 old mid x rest' w' line now' f2 new ended more gives unskipped t)) a

  module _ (Fits : Role → Type 0) (FitsOne : Role → Role → Type 0) where
    -- the end was told by an answer, or by the last line
    pub end_along : (pending : List ℕ) (source w' : Option (List ℕ)) (line : InputLine) (status : Status) → GivesKnown End rest line (prepend_known pending source) → ((r : Role) → now r → WritesEnd (state_text events r) status w w') → ((r : Role) → now r → Fits r) → ((q p : Role) → Fits q → FitsOne q p)
        → IfSome input (λ bytes. WhereTold (Ended Fits FitsOne s bytes (Ok status) source w0 w' f0 f1) t0 t1)
    end_along pending source w' line status gives writes fits one = weaker input _ _ (λ bytes. map_told (Along s bytes number ends events now rest w0 w f0 f1) (Ended Fits FitsOne s bytes (Ok status) source w0 w' f0 f1) t0 t1 (λ old mid x.
        let e = laws.end x.left line rest (prepend_known pending source) x.is_left gives in
        state_ended laws s bytes number ends events now rest w0 w f0 f1 old mid x Fits FitsOne (fits x.role x.stands) (one x.role x.role (fits x.role x.stands)) source w' status e.0 (laws.no_more pending source e.1) (writes x.role x.stands))) a

    pub last_along : (pending : List ℕ) (source w' : Option (List ℕ)) (status : Status) → rest ≡ prepend_known pending source → ends ≡ false → ((r : Role) → now r → WritesEnd (state_text events r) status w w') → ((r : Role) → now r → Fits r) → ((q p : Role) → Fits q → FitsOne q p)
        → IfSome input (λ bytes. WhereTold (Ended Fits FitsOne s bytes (Ok status) source w0 w' f0 f1) t0 t1)
    last_along pending source w' status is ended writes fits one = weaker input _ _ (λ bytes. map_told (Along s bytes number ends events now rest w0 w f0 f1) (Ended Fits FitsOne s bytes (Ok status) source w0 w' f0 f1) t0 t1 (λ old mid x.
        let end = x.taken.last ended in
        state_ended laws s bytes number ends events now rest w0 w f0 f1 old mid x Fits FitsOne (fits x.role x.stands) (one x.role x.role (fits x.role x.stands)) source w' status end (laws.no_more pending source (sym is ∙ x.is_left ∙ ap (λ l. Some l) end)) (writes x.role x.stands))) a

    pub stop_along : (source : Option (List ℕ)) (stop : LineStop) → ends ≡ true → (stop ≡ ReadStop → BreaksOff rest source) → (stop ≡ LongStop → (number < most_lines) × FirstTooLongKnown rest) → (stop ≡ ManyStop → (number ≡ most_lines) × MoreKnown rest) → ((r : Role) → now r → Fits r)
        → IfSome input (λ bytes. WhereTold (Ended Fits FitsOne s bytes (Ok (stop_status stop number)) source w0 w f0 f1) t0 t1)
    stop_along source stop ended broke long many fits = weaker input _ _ (λ bytes. map_told (Along s bytes number ends events now rest w0 w f0 f1) (Ended Fits FitsOne s bytes (Ok (stop_status stop number)) source w0 w f0 f1) t0 t1
        (λ old mid x. stop_ended laws s bytes number ends events now rest w0 w f0 f1 old mid x Fits FitsOne (fits x.role x.stands) source stop ended broke long many)) a

    -- a line ended it; what is known of the disk, from before the line
    module _ (Now : Role → Type 0) (OneNow : Role → Role → Type 0) (f : (q : Role) → Now q → Fits q) (one : (q p : Role) → OneNow q p → FitsOne q p) where
      pub line_along : {C : Type 0} (stands : C → Role → Type 0) (pending : List ℕ) (source w' : Option (List ℕ)) (line : InputLine) (status : Status) (f2 : ℕ) (t2 : Option Told) → number < most_lines → length pending ≤ read_ahead → GivesKnown Line rest line (prepend_known pending source)
          → is_skipped (content line) ≡ false → ((n : Node) → now n.role → n.events ≡ events → WhereTold (TakesCounted {C = C} stands Now OneNow s.most s.addr n (node_line (content line)) (number + 1) (Err (Ends status)) w w' f1 f2) t1 t2)
          → IfSome input (λ bytes. WhereTold (Ended Fits FitsOne s bytes (Ok status) source w0 w' f0 f2) t0 t2)
      line_along {C} stands pending source w' line status f2 t2 more few gives unskipped takes = weaker input _ _ (λ bytes. go_told (Along s bytes number ends events now rest w0 w f0 f1) (Ended Fits FitsOne s bytes (Ok status) source w0 w' f0 f2)
          ((r : Role) × now r) (λ q. let n : Node = record { role = q.0; events = events } in TakesCounted {C = C} stands Now OneNow s.most s.addr n (node_line (content line)) (number + 1) (Err (Ends status)) w w' f1 f2) t0 t1 t2
          (λ old mid x. (x.role, x.stands)) (λ q. takes (record { role = q.0; events = events }) q.1 refl)
          (λ old mid new x t. line_ended laws s bytes number ends events now rest w0 w f0 f1 old mid x {C = C × ℕ} Fits FitsOne (λ a. stands a.0) pending source w' line status f2 new more few gives unskipped
          (line_more (λ (a : C × ℕ). stands a.0) Now Fits OneNow FitsOne f one s.most s.addr _ (node_line (content line)) (number + 1) w w' f1 f2 mid new (Ends status) t))) a

      pub disk_along : {C : Type 0} (failed : DiskFailed) (stands : C → Role → Type 0) (pending : List ℕ) (source w' : Option (List ℕ)) (line : InputLine) (f2 : ℕ) (t2 : Option Told) → number < most_lines → length pending ≤ read_ahead → GivesKnown Line rest line (prepend_known pending source)
          → is_skipped (content line) ≡ false → ((n : Node) → now n.role → n.events ≡ events → WhereTold (TakesCounted {C = C} stands Now OneNow s.most s.addr n (node_line (content line)) (number + 1) (Err Disk) w w' f1 f2) t1 t2)
          → IfSome input (λ bytes. WhereTold (Ended Fits FitsOne s bytes (Err failed) source w0 w' f0 f2) t0 t2)
      disk_along {C} failed stands pending source w' line f2 t2 more few gives unskipped takes = weaker input _ _ (λ bytes. go_told (Along s bytes number ends events now rest w0 w f0 f1) (Ended Fits FitsOne s bytes (Err failed) source w0 w' f0 f2)
          ((r : Role) × now r) (λ q. let n : Node = record { role = q.0; events = events } in TakesCounted {C = C} stands Now OneNow s.most s.addr n (node_line (content line)) (number + 1) (Err Disk) w w' f1 f2) t0 t1 t2
          (λ old mid x. (x.role, x.stands)) (λ q. takes (record { role = q.0; events = events }) q.1 refl)
          (λ old mid new x t. disk_ended laws s bytes number ends events now rest w0 w f0 f1 old mid x {C = C × ℕ} Fits FitsOne failed (λ a. stands a.0) pending source w' line f2 new more few gives unskipped
          (line_more (λ (a : C × ℕ). stands a.0) Now Fits OneNow FitsOne f one s.most s.addr _ (node_line (content line)) (number + 1) w w' f1 f2 mid new Disk t))) a

pub running_alone : {A : Type 0} {stop : Option LineStop} {s : LineStop} → stop ≡ None → (stop ≡ Some s) ⊎ A → A
running_alone {A} {stop} {s} none (inl h) = let e : Some s ≡ None = sym h ∙ none in cc
running_alone none (inr x) = x

-- The step of a loop: a line that was skipped, or one that was taken
module _ {C : Type 0} (laws : TakesLines) (stands : C → Role → Type 0) (s : Start) (input : Option (List ℕ)) (number : ℕ) (ends : Bool) (events : ℕ) (core : C) (rest w0 w : Option (List ℕ)) (f0 f1 : ℕ) (t0 t1 : Option Told)
    (a : IfSome input (λ bytes. WhereTold (Along s bytes number ends events (stands core) rest w0 w f0 f1) t0 t1)) where
  abbrev IsThen : ℕ → Bool → ℕ → C → Option (List ℕ) → Option (List ℕ) → ℕ → Option Told → Type 0
  IsThen number' ended events' core' rest' w' f2 t2 = IfSome input (λ bytes. WhereTold (Along s bytes number' ended events' (stands core') rest' w0 w' f0 f2) t0 t2)

  pub on_along : (rest' w' : Option (List ℕ)) (line : InputLine) (said : List ℕ) (both : C × ℕ) (number' : ℕ) (f2 : ℕ) (t2 : Option Told) → ends ≡ true → number' ≡ number + 1 → number < most_lines → GivesKnown Line rest line rest' → said ≡ content line
      → (is_skipped said ≡ true → (both ≡ (core, events)) × (w' ≡ w) × (f2 ≡ f1) × (t2 ≡ t1))
      → (is_skipped said ≡ false → both.1 ≡ events + 1)
      → (is_skipped said ≡ false → (n : Node) → stands core n.role → n.events ≡ events → WhereTold (Taken s.most s.addr n number' (node_line said) (stands both.0) (Appends w w') f1 f2) t1 t2)
      → IsThen number' line.ended both.1 both.0 rest' w' f2 t2
  on_along rest' w' line said both number' f2 t2 ended is_number more gives is_said skips counts takes = by (is_skipped (content line)) refl
    where
      by : (b : Bool) → is_skipped (content line) ≡ b → IsThen number' line.ended both.1 both.0 rest' w' f2 t2
      by true e =
          let h = skips (ap is_skipped is_said ∙ e) in
          subst (λ k. IsThen k line.ended both.1 both.0 rest' w' f2 t2) (sym is_number)
          (subst (λ b. IsThen (number + 1) line.ended b.1 b.0 rest' w' f2 t2) (sym h.0)
          (subst (λ x. IsThen (number + 1) line.ended events core rest' x f2 t2) (sym h.1)
          (subst (λ x. IsThen (number + 1) line.ended events core rest' w x t2) (sym h.2)
          (subst (λ x. IsThen (number + 1) line.ended events core rest' w f1 x) (sym h.3)
          (skip_along laws s input number ends events (stands core) rest w0 w f0 f1 t0 t1 a rest' line ended more gives e)))))
      by false e =
          let f = ap is_skipped is_said ∙ e in
          subst (λ k. IsThen k line.ended both.1 both.0 rest' w' f2 t2) (sym is_number)
          (subst (λ k. IsThen (number + 1) line.ended k both.0 rest' w' f2 t2) (sym (counts f))
          (step_along laws s input number ends events (stands core) rest w0 w f0 f1 t0 t1 a rest' w' line (stands both.0) f2 t2 ended more gives e
          (λ n st is. subst (λ l. WhereTold (Taken s.most s.addr n (number + 1) (node_line l) (stands both.0) (Appends w w') f1 f2) t1 t2) is_said
          (subst (λ k. WhereTold (Taken s.most s.addr n k (node_line said) (stands both.0) (Appends w w') f1 f2) t1 t2) is_number (takes f n st is)))))

pub ok_is : {A E : Type 0} (x y : A) → (let a : Result A E = Ok x in a) ≡ Ok y → x ≡ y
ok_is x y e = cc
