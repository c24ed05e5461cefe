-- Parts of a storm, one after another.
use Rattle.std.proofs.Common.{◌≡◌, ℕ, zero, suc, ◌+◌, ◌-◌, ◌<◌, List, [], ◌∷◌, ◌++◌, Result, Ok, Err, refl, sym, ◌∙◌, ap, subst, add-one, arith}
use Rattle.std.specs.Prelude.{IfErr, OnOk}
use Rattle.fuxi_terms.specs.Counts.{then_do}
use Rattle.schedule_replay.specs.declared.stop.WorldStop.{WorldStop}
use Rattle.schedule_replay.specs.declared.stop.WorldStop.TheVariants.{TooManyPackets, PoolBytes, OutOfMemory}
use Rattle.schedule_replay.specs.WorldSteps.{Takes, StopsAt}
use Rattle.schedule_replay.specs.Worlds.{WorldRecord, IsWorld, StandsFor}
use Rattle.spec_world.specs.World.{World, empty_world}
use Rattle.spec_world.specs.Events.{Event, world_step}
use Rattle.storm_run.specs.declared.choices.Choice.{Choice}
use Rattle.storm_run.specs.Choices.{Chosen, chosen}
use Rattle.storm_run.specs.Clusters.{storm_cluster}
use Rattle.storm_run.specs.Storms.{unless_past, taken, all_taken, each, stepped, storm_at, all_stepped, opened, closed, storm}
use Rattle.storm_run.specs.Summaries.{summary, storm_of}
use Rattle.storm_run.specs.StormRuns.{RanTo, StoppedAt, Ends, Runs, Steps, Chooses, events_in, outcome}

abbrev pub Part : Type 0
Part = World → Result World WorldStop

-- an event is taken, or it is not
took : (e : Event) (old new : WorldRecord) (text : List ℕ) → Takes e old new text → Runs (λ w. taken w e) old (Ok new)
took e old new text takes = λ w good stands.
    let d = takes w good stands in
    record { world = (world_step w e).world; is = ap (unless_past (world_step w e).world) d.limit; good = d.is; stands = d.stands }

stopped : (e : Event) (old : WorldRecord) (stop : WorldStop) → StopsAt e old stop → Runs (λ w. taken w e) old (Err stop)
stopped e old (TooManyPackets kept) stops = λ w good stands. ap (unless_past (world_step w e).world) (stops w good stands)
stopped e old (PoolBytes kept) stops = λ w good stands. ap (unless_past (world_step w e).world) (stops w good stands)
stopped e old OutOfMemory stops = λ w good stands. tt

pub stepped_by : (e : Event) (old new : WorldRecord) (text : List ℕ) (result : Result (Unit {0}) WorldStop) → OnOk result (Takes e old new text) → IfErr result (StopsAt e old) → Runs (λ w. taken w e) old (outcome new result)
stepped_by e old new text (Ok done) takes stops = took e old new text takes
stepped_by e old new text (Err stop) takes stops = stopped e old stop stops

-- nothing is done
pub ran_none : (old : WorldRecord) → Runs (λ w. Ok w) old (Ok old)
ran_none old = λ w good stands. record { world = w; is = refl; good = good; stands = stands }

-- a part that is another by its name
pub ran_same : (f g : Part) (old : WorldRecord) (result : Result WorldRecord WorldStop) → ((w : World) → IsWorld w → StandsFor old w → f w ≡ g w) → Runs f old result → Runs g old result
ran_same f g old result same ran = λ w good stands. subst (λ o. Ends o result) (same w good stands) (ran w good stands)

-- one part, and then another
pub then_ran : (f : Part) (G : World → Part) (old new : WorldRecord) (result : Result WorldRecord WorldStop) → Runs f old (Ok new) → ((w : World) → IsWorld w → StandsFor old w → Runs (G w) new result)
    → Runs (λ w. then_do (f w) (G w)) old result
then_ran f G old new result first rest = λ w good stands.
    let r = first w good stands in
    subst (λ o. Ends (then_do o (G w)) result) (sym r.is) (rest w good stands r.world r.good r.stands)

-- a stop is a stop of what was to follow
pub stays_stopped : {A B : Type 0} → (o : Result A WorldStop) (g : A → Result B WorldStop) (stop : WorldStop) → StoppedAt o stop → StoppedAt (then_do o g) stop
stays_stopped o g (TooManyPackets kept) at = ap (λ x. then_do x g) at
stays_stopped o g (PoolBytes kept) at = ap (λ x. then_do x g) at
stays_stopped o g OutOfMemory at = tt

pub then_stopped : (f : Part) (G : World → Part) (old : WorldRecord) (stop : WorldStop) → Runs f old (Err stop) → Runs (λ w. then_do (f w) (G w)) old (Err stop)
then_stopped f G old stop first = λ w good stands. stays_stopped (f w) (G w) stop (first w good stands)

-- for each number: one more, and a stop before the last
pub each_more : {A E : Type 0} → (n : ℕ) (f : ℕ → A → Result A E) (x : A) → each (n + 1) f x ≡ then_do (each n f x) (f n)
each_more n f x = rw add-one refl

pub each_stopped : {A : Type 0} → (n d : ℕ) (f : ℕ → A → Result A WorldStop) (x : A) (stop : WorldStop) → StoppedAt (each n f x) stop → StoppedAt (each (n + d) f x) stop
each_stopped n zero f x stop at = let e : n + 0 ≡ n = omega arith in subst (λ k. StoppedAt (each k f x) stop) (sym e) at
each_stopped n (suc d) f x stop at =
    let e : n + suc d ≡ suc (n + d) = omega arith in
    subst (λ k. StoppedAt (each k f x) stop) (sym e) (stays_stopped (each (n + d) f x) (f (n + d)) stop (each_stopped n d f x stop at))

pub each_stopped_before : {A : Type 0} → (n k : ℕ) (f : ℕ → A → Result A WorldStop) (x : A) (stop : WorldStop) → n < k → StoppedAt (then_do (each n f x) (f n)) stop → StoppedAt (each k f x) stop
each_stopped_before n k f x stop lt at =
    let e : (n + 1) + (k - (n + 1)) ≡ k = omega arith in
    subst (λ j. StoppedAt (each j f x) stop) e (each_stopped (n + 1) (k - (n + 1)) f x stop (subst (λ o. StoppedAt o stop) (sym (each_more n f x)) at))

-- the same of what runs
pub ran_more : (n : ℕ) (f : ℕ → Part) (old mid new : WorldRecord) → Runs (each n f) old (Ok mid) → Runs (f n) mid (Ok new) → Runs (each (n + 1) f) old (Ok new)
ran_more n f old mid new before one = ran_same (λ w. then_do (each n f w) (f n)) (each (n + 1) f) old (Ok new) (λ w good stands. sym (each_more n f w)) (then_ran (each n f) (λ w. f n) old mid (Ok new) before (λ w good stands. one))

pub ran_short : (n k : ℕ) (f : ℕ → Part) (old mid : WorldRecord) (stop : WorldStop) → n < k → Runs (each n f) old (Ok mid) → Runs (f n) mid (Err stop) → Runs (each k f) old (Err stop)
ran_short n k f old mid stop lt before one = λ w good stands. each_stopped_before n k f w stop lt (then_ran (each n f) (λ w. f n) old mid (Err stop) before (λ w good stands. one) w good stands)

-- events one after another
onward : (o : Result World WorldStop) (f g h : Part) → ((w : World) → f w ≡ then_do (g w) h) → then_do o f ≡ then_do (then_do o g) h
onward (Ok w) f g h same = same w
onward (Err stop) f g h same = refl

pub taken_then : (xs ys : List Event) (w : World) → all_taken (xs ++ ys) w ≡ then_do (all_taken xs w) (all_taken ys)
taken_then [] ys w = refl
taken_then (e ∷ es) ys w = onward (taken w e) (all_taken (es ++ ys)) (all_taken es) (all_taken ys) (λ v. taken_then es ys v)

then_nothing : (o : Result World WorldStop) → then_do o (λ w. Ok w) ≡ o
then_nothing (Ok w) = refl
then_nothing (Err stop) = refl

pub taken_one : (e : Event) (w : World) → all_taken (e ∷ []) w ≡ taken w e
taken_one e w = then_nothing (taken w e)

-- Steps: one made of its events, one more, and a stop before the last
pub stepped_as : (x x' : ℕ) (choice : Choice) (old : WorldRecord) (result : Result WorldRecord WorldStop) → ((w : World) → IsWorld w → StandsFor old w → Chooses (chosen w x) choice x') → Runs (all_taken (events_in choice)) old result
    → Steps (λ w. stepped (storm_at w x)) old result x'
stepped_as x x' choice old (Ok new) chooses ran = λ w good stands.
    let c = chooses w good stands in
    let r = ran w good stands in
    let C : Chosen = chosen w x in
    record {
      storm = storm_at r.world x';
      is = ap (λ es. then_do (all_taken es w) (λ v. Ok (storm_at v C.generator))) (sym c.events) ∙ ap (λ o. then_do o (λ v. Ok (storm_at v C.generator))) r.is ∙ ap (λ g. Ok (storm_at r.world g)) (sym c.generator);
      good = r.good;
      stands = r.stands;
      generator = refl;
    }
stepped_as x x' choice old (Err stop) chooses ran = λ w good stands.
    let c = chooses w good stands in
    let C : Chosen = chosen w x in
    subst (λ es. StoppedAt (then_do (all_taken es w) (λ v. Ok (storm_at v C.generator))) stop) c.events (stays_stopped (all_taken (events_in choice) w) (λ v. Ok (storm_at v C.generator)) stop (ran w good stands))

pub steps_none : (x : ℕ) (old : WorldRecord) → Steps (λ w. all_stepped 0 (storm_at w x)) old (Ok old) x
steps_none x old = λ w good stands. record { storm = storm_at w x; is = refl; good = good; stands = stands; generator = refl }

pub steps_more : (n first x x' : ℕ) (old mid new : WorldRecord) → Steps (λ w. all_stepped n (storm_at w first)) old (Ok mid) x → Steps (λ w. stepped (storm_at w x)) mid (Ok new) x' → Steps (λ w. all_stepped (n + 1) (storm_at w first)) old (Ok new) x'
steps_more n first x x' old mid new before one = λ w good stands.
    let b = before w good stands in
    let r = one b.storm.world b.good b.stands in
    record {
      storm = r.storm;
      is = each_more n (λ k. stepped) (storm_at w first) ∙ ap (λ o. then_do o stepped) b.is ∙ ap (λ g. stepped (storm_at b.storm.world g)) (sym b.generator) ∙ r.is;
      good = r.good;
      stands = r.stands;
      generator = r.generator;
    }

pub steps_short : (n k first x x' : ℕ) (old mid : WorldRecord) (stop : WorldStop) → n < k → Steps (λ w. all_stepped n (storm_at w first)) old (Ok mid) x → Steps (λ w. stepped (storm_at w x)) mid (Err stop) x' → Steps (λ w. all_stepped k (storm_at w first)) old (Err stop) x'
steps_short n k first x x' old mid stop lt before one = λ w good stands.
    let b = before w good stands in
    each_stopped_before n k (λ j. stepped) (storm_at w first) stop lt
    (subst (λ o. StoppedAt (then_do o stepped) stop) (sym b.is) (subst (λ g. StoppedAt (stepped (storm_at b.storm.world g)) stop) b.generator (one b.storm.world b.good b.stands)))

-- The whole storm: the first events, the steps, and the closing rounds
pub played : (steps seed x : ℕ) (start opening stepping : WorldRecord) (result : Result WorldRecord WorldStop) → IsWorld (empty_world storm_cluster) → StandsFor start (empty_world storm_cluster)
    → Runs opened start (Ok opening) → Steps (λ w. all_stepped steps (storm_at w seed)) opening (Ok stepping) x → Runs closed stepping result → Ends (storm seed steps) result
played steps seed x start opening stepping result good stands opens steps_ closes =
    let o = opens (empty_world storm_cluster) good stands in
    let s = steps_ o.world o.good o.stands in
    subst (λ r. Ends (then_do r (λ w. then_do (all_stepped steps (storm_at w seed)) (λ t. closed t.world))) result) (sym o.is)
    (subst (λ r. Ends (then_do r (λ t. closed t.world)) result) (sym s.is) (closes s.storm.world s.good s.stands))

pub stopped_early : (steps seed : ℕ) (start : WorldRecord) (stop : WorldStop) → IsWorld (empty_world storm_cluster) → StandsFor start (empty_world storm_cluster) → Runs opened start (Err stop) → StoppedAt (storm seed steps) stop
stopped_early steps seed start stop good stands opens = stays_stopped (opened (empty_world storm_cluster)) (λ w. then_do (all_stepped steps (storm_at w seed)) (λ t. closed t.world)) stop (opens (empty_world storm_cluster) good stands)

pub stopped_late : (steps seed x : ℕ) (start opening : WorldRecord) (stop : WorldStop) → IsWorld (empty_world storm_cluster) → StandsFor start (empty_world storm_cluster) → Runs opened start (Ok opening)
    → Steps (λ w. all_stepped steps (storm_at w seed)) opening (Err stop) x → StoppedAt (storm seed steps) stop
stopped_late steps seed x start opening stop good stands opens steps_ =
    let o = opens (empty_world storm_cluster) good stands in
    subst (λ r. StoppedAt (then_do r (λ w. then_do (all_stepped steps (storm_at w seed)) (λ t. closed t.world))) stop) (sym o.is)
    (stays_stopped (all_stepped steps (storm_at o.world seed)) (λ t. closed t.world) stop (steps_ o.world o.good o.stands))

-- its text
pub told_text : (steps seed : ℕ) (run : WorldRecord) (text : List ℕ) → RanTo (storm seed steps) run → ((w : World) → IsWorld w → StandsFor run w → text ≡ summary seed steps w) → storm_of seed steps ≡ Ok text
told_text steps seed run text r is = ap (λ o. then_do o (λ w. Ok (summary seed steps w))) r.is ∙ ap (λ t. Ok t) (sym (is r.world r.good r.stands))

pub told_stop : (steps seed : ℕ) (stop : WorldStop) → StoppedAt (storm seed steps) stop → StoppedAt (storm_of seed steps) stop
told_stop steps seed stop at = stays_stopped (storm seed steps) (λ w. Ok (summary seed steps w)) stop at
