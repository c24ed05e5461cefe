-- What taking one line does to a run.
use Rattle.std.proofs.Common.{inl, ◌≡◌, ◌≢◌, ℕ, ◌+◌, ◌≤◌, Bool, true, false, cond, not, List, [], ◌∷◌, Option, None, Result, Ok, Err, refl, sym, ap, ◌∙◌, subst, arith}
use mathlib.Core.Bool.{beq}
use Rattle.std.specs.Io.KnownBytes.{Appends}
use Rattle.fuxi_io.specs.Causes.{Rose, TakesPart}
use Rattle.fuxi_io.specs.declared.status.Status.{Status}
use Rattle.fuxi_io.specs.declared.status.Status.TheVariants.{Done, Usage, BadInput, ReadFault, WriteFault, Limit, OutOfMemory, DiskFault, StaleEpoch, DamagedCheckpoint}
use Rattle.schedule_text.specs.declared.event.LineFault.{LineFault}
use Rattle.fuxi_io.specs.Doors.{Told}
use Rattle.node_core.specs.declared.rounds.RoundLine.{RoundLine}
use Rattle.node_core.specs.declared.rounds.RoundLine.TheVariants.{Done as RoundDone, Fault, Bad, Stranger, Long}
use Rattle.node_core.specs.Roles.{Role, OfAgent, OfApp, OfMaster, may_send}
use Rattle.node_core.specs.Rounds.{Rounds, Meets, is_fault}
use Rattle.node_core.specs.declared.line.NodeLine.{NodeLine}
use Rattle.node_core.specs.declared.line.NodeLine.TheVariants.{Round as RoundWord, Serve}
use Rattle.node_core.specs.PartyEvents.{NotHere, accepts}
use Rattle.node_core.specs.NodeTexts.{answer_text, round_text}
use Rattle.fuxi_node.specs.declared.taking.Stop.{Stop}
use Rattle.fuxi_node.specs.declared.taking.Stop.TheVariants.{Ends, Disk}
use Rattle.fuxi_node.specs.NodeRuns.{Node, Round, Played, Run, AtEnd, ended, then_is, played_as, behind, meets, takes}
use Rattle.fuxi_node.specs.Visits.{Visit, RoseBy, WasAt}
use Rattle.fuxi_node.specs.NodeProgress.{Taken, Says, WritesText, TakesQuietly, TakesLine}

pub other_bool : (a b : Bool) → beq a b ≡ false → a ≢ b
other_bool true true e = cc
other_bool true false e = λ f. cc
other_bool false true e = λ f. cc
other_bool false false e = cc

-- a party that is not called dials
pub dials : (r : Role) → accepts r ≡ false → may_send r None ≡ true
dials (OfAgent r) e = refl
dials (OfApp r) e = refl
dials (OfMaster h r) e = cc

-- no round, and the door as it was
pub not_there : (most : ℕ) (addr : List ℕ) (before after : ℕ) (t : Told) → before ≤ after → WasAt most addr [] before after t t
not_there most addr before after t later = record { door = refl; are = tt; faults = omega (arith, later) }

-- a line that is no round
module _ {C : Type 0} (stands : C → Role → Type 0) (Fits : Role → Type 0) (FitsOne : Role → Role → Type 0) (n : Node) (what : Result NodeLine LineFault) where
  taken_quietly : (most : ℕ) (addr : List ℕ) (number : ℕ) (now : Role → Type 0) (Writes : List ℕ → Type 0) (before after : ℕ) (t : Told) → before ≤ after → Says n what now Writes → Taken most addr n number what now Writes before after t t
  taken_quietly most addr number now Writes before after t later s = record {
    visits = [];
    was = not_there most addr before after t later;
    output = s.output;
    writes = s.writes;
    role = s.role;
    stands = s.stands;
    through = λ rounds run. s.through most number rounds run;
  }

  pub quiet_line : (most : ℕ) (addr : List ℕ) (number : ℕ) (result : Result C Stop) (w0 w : Option (List ℕ)) (before after : ℕ) (t : Told) → before ≤ after → TakesQuietly stands Fits FitsOne n what result w0 w → TakesLine stands Fits FitsOne most addr n what number result w0 w before after t t
  quiet_line most addr number (Ok core) w0 w before after t later h = taken_quietly most addr number (stands core) (Appends w0 w) before after t later h
  quiet_line most addr number (Err (Ends WriteFault)) w0 w before after t later h = taken_quietly most addr number Fits (TakesPart w0 w) before after t later h
  quiet_line most addr number (Err (Ends OutOfMemory)) w0 w before after t later h = (h.0, later, inl refl, h.1 most number)
  quiet_line most addr number (Err (Ends Done)) w0 w before after t later h = absurd h
  quiet_line most addr number (Err (Ends Usage)) w0 w before after t later h = absurd h
  quiet_line most addr number (Err (Ends (BadInput line fault))) w0 w before after t later h = absurd h
  quiet_line most addr number (Err (Ends ReadFault)) w0 w before after t later h = absurd h
  quiet_line most addr number (Err (Ends (Limit limit kept))) w0 w before after t later h = absurd h
  quiet_line most addr number (Err (Ends DiskFault)) w0 w before after t later h = absurd h
  quiet_line most addr number (Err (Ends (StaleEpoch fence))) w0 w before after t later h = absurd h
  quiet_line most addr number (Err (Ends (DamagedCheckpoint offset))) w0 w before after t later h = absurd h
  quiet_line most addr number (Err Disk) w0 w before after t later h = (h.0, not_there most addr before after t later, h.1 most number)

  -- its text could not be written, or memory lacked
  pub said_err : (A : Type 0) (text : List ℕ) (role : Role) → ((most number : ℕ) (rounds : List Round) (run : Node → List Round → Run) → takes most number n rounds what run ≡ behind text [] (run (then_is n role) rounds))
      → Fits role → FitsOne n.role role → (status : Status) (w0 w : Option (List ℕ)) → WritesText {A = A} text (Err status) w0 w → TakesQuietly stands Fits FitsOne n what (Err (Ends status)) w0 w
  said_err A text role is fits one WriteFault w0 w h = record { output = text; writes = h; role = role; stands = fits; through = is }
  said_err A text role is fits one OutOfMemory w0 w h = (h, λ most number. subst (FitsOne n.role) (sym (ap (λ (r : Run). r.node.role) (is most number [] (λ n rounds. ended n AtEnd)))) one)
  said_err A text role is fits one Done w0 w h = h
  said_err A text role is fits one Usage w0 w h = h
  said_err A text role is fits one (BadInput line fault) w0 w h = h
  said_err A text role is fits one ReadFault w0 w h = h
  said_err A text role is fits one (Limit limit kept) w0 w h = h
  said_err A text role is fits one DiskFault w0 w h = h
  said_err A text role is fits one (StaleEpoch fence) w0 w h = h
  said_err A text role is fits one (DamagedCheckpoint offset) w0 w h = h

-- of a line that leads to the same, wherever its event stands in memory
module _ {C : Type 0} (stands : C → Role → Type 0) (Fits : Role → Type 0) (FitsOne : Role → Role → Type 0) (n : Node) (what other : Result NodeLine LineFault)
    (same : (most number : ℕ) (rounds : List Round) (run : Node → List Round → Run) → takes most number n rounds other run ≡ takes most number n rounds what run) where
  says_same : (now : Role → Type 0) (Writes : List ℕ → Type 0) → Says n what now Writes → Says n other now Writes
  says_same now Writes s = record { output = s.output; writes = s.writes; role = s.role; stands = s.stands; through = λ most number rounds run. same most number rounds run ∙ s.through most number rounds run }

  pub quietly_same : (result : Result C Stop) (w0 w : Option (List ℕ)) → TakesQuietly stands Fits FitsOne n what result w0 w → TakesQuietly stands Fits FitsOne n other result w0 w
  quietly_same (Ok core) w0 w h = says_same (stands core) (Appends w0 w) h
  quietly_same (Err (Ends WriteFault)) w0 w h = says_same Fits (TakesPart w0 w) h
  quietly_same (Err (Ends OutOfMemory)) w0 w h = (h.0, λ most number. subst (FitsOne n.role) (sym (ap (λ (r : Run). r.node.role) (same most number [] (λ n rounds. ended n AtEnd)))) (h.1 most number))
  quietly_same (Err (Ends Done)) w0 w h = h
  quietly_same (Err (Ends Usage)) w0 w h = h
  quietly_same (Err (Ends (BadInput line fault))) w0 w h = h
  quietly_same (Err (Ends ReadFault)) w0 w h = h
  quietly_same (Err (Ends (Limit limit kept))) w0 w h = h
  quietly_same (Err (Ends DiskFault)) w0 w h = h
  quietly_same (Err (Ends (StaleEpoch fence))) w0 w h = h
  quietly_same (Err (Ends (DamagedCheckpoint offset))) w0 w h = h
  quietly_same (Err Disk) w0 w h = (h.0, λ most number. subst (FitsOne n.role) (sym (ap (λ (r : Run). r.node.role) (same most number [] (λ n rounds. ended n AtEnd)))) (h.1 most number))

-- what is known of the disk at a line that ended the node, seen from before it
module _ {C : Type 0} (stands : C → Role → Type 0) (Fits More : Role → Type 0) (FitsOne MoreOne : Role → Role → Type 0) (f : (q : Role) → Fits q → More q) (one : (q p : Role) → FitsOne q p → MoreOne q p)
    (most : ℕ) (addr : List ℕ) (n : Node) (what : Result NodeLine LineFault) (number : ℕ) (w0 w : Option (List ℕ)) (before after : ℕ) (old new : Told) where
  pub line_more : (stop : Stop) → TakesLine {C = C} stands Fits FitsOne most addr n what number (Err stop) w0 w before after old new → TakesLine {C = C} stands More MoreOne most addr n what number (Err stop) w0 w before after old new
  line_more (Ends WriteFault) t = record { visits = t.visits; was = t.was; output = t.output; writes = t.writes; role = t.role; stands = f t.role t.stands; through = t.through }
  line_more (Ends OutOfMemory) h = (h.0, h.1, h.2, one _ _ h.3)
  line_more (Ends (BadInput line fault)) h = (h.0, h.1, h.2, h.3, f n.role h.4)
  line_more (Ends Done) h = absurd h
  line_more (Ends Usage) h = absurd h
  line_more (Ends ReadFault) h = absurd h
  line_more (Ends (Limit limit kept)) h = absurd h
  line_more (Ends DiskFault) h = absurd h
  line_more (Ends (StaleEpoch fence)) h = absurd h
  line_more (Ends (DamagedCheckpoint offset)) h = absurd h
  line_more Disk h = (h.0, h.1, one _ _ h.2)

-- the line of a round of another kind of node
pub other_round : (n : Node) (serves : Bool) → accepts n.role ≢ serves → (most number : ℕ) (rounds : List Round) (run : Node → List Round → Run)
    → takes most number n rounds (Ok (cond serves Serve RoundWord)) run ≡ behind (answer_text NotHere) [] (run (then_is n n.role) rounds)
other_round n true other most number rounds run = ap (λ b. meets most n rounds b run) (by (accepts n.role) other)
  where
    by : (b : Bool) → b ≢ true → b ≡ false
    by true o = absurd (o refl)
    by false o = refl
other_round n false other most number rounds run = ap (λ b. meets most n rounds (not b) run) (by (accepts n.role) other)
  where
    by : (b : Bool) → b ≢ false → b ≡ true
    by true o = refl
    by false o = absurd (o refl)

-- a round
own_round : (most number : ℕ) (n : Node) (rounds : List Round) (run : Node → List Round → Run) (b : Bool) → accepts n.role ≡ b → takes most number n rounds (Ok (cond b Serve RoundWord)) run ≡ meets most n rounds true run
own_round most number n rounds run true e = ap (λ b. meets most n rounds b run) e
own_round most number n rounds run false e = ap (λ b. meets most n rounds (not b) run) e

one_mark : (line : RoundLine) (before after : ℕ) → before ≤ after → (line ≡ Fault → Rose before after) → RoseBy (cond (is_fault line) 1 0 + 0) before after
one_mark (RoundDone heard sent) before after later rose = omega (arith, later)
one_mark Fault before after later rose = let r = rose refl in omega (arith, r)
one_mark (Bad at fault) before after later rose = omega (arith, later)
one_mark (Stranger at) before after later rose = omega (arith, later)
one_mark Long before after later rose = omega (arith, later)

pub taken_round : (most : ℕ) (addr : List ℕ) (n : Node) (number : ℕ) (now later : Role → Type 0) (line : RoundLine) (Writes : List ℕ → Type 0) (before after : ℕ) (old new : Told) → before ≤ after → (line ≡ Fault → Rose before after)
    → ((r : Role) → now r → later r) → Writes (round_text line) → Rounds (accepts n.role) most addr now n.role line old new → Taken most addr n number (Ok (cond (accepts n.role) Serve RoundWord)) later Writes before after old new
taken_round most addr n number now later line Writes before after old new rises rose keeps writes r =
    let p : Played = record { role = n.role; round = record { came = r.came; mark = is_fault line } } in
    let v : Visit = record { played = p; talk = r.visit } in
    let says : (played_as most p).line ≡ line = r.meets.says in
    record {
      visits = v ∷ [];
      was = record {
        door = r.door;
        are = ((ap is_fault (sym says), subst (Meets (accepts n.role) most n.role r.came r.visit) (sym says) r.meets), tt);
        faults = one_mark line before after rises rose;
      };
      output = round_text (played_as most p).line;
      writes = subst (λ l. Writes (round_text l)) (sym says) writes;
      role = (played_as most p).role;
      stands = keeps (played_as most p).role r.stands;
      through = λ rounds run. own_round most number n (p.round ∷ rounds) run (accepts n.role) refl;
    }
