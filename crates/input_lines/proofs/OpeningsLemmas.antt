-- The lines before the one that describes the cluster are skipped one by one, up to that line or to what comes in its place.
use Rattle.std.proofs.Common.{◌≡◌, ◌≢◌, ℕ, ◌+◌, ◌<◌, ◌≤◌, true, false, nat_lt, List, [], ◌∷◌, ◌++◌, length, Option, None, Some, IfSome, Result, Ok, Err, refl, sym, ◌∙◌, ap, subst, arith, append_assoc, append-nil}
use Rattle.std.proofs.lemmas.Bool.Decides.{nat_tests}
use Rattle.fuxi_io.specs.Lines.{InputLine, lines_of, GivesKnown, IsFirst, BreaksOff, FirstLonger, FirstTooLongKnown, MoreKnown}
use Rattle.fuxi_io.specs.Reading.{Reading, line_of, rest_of, read_ahead}
use Rattle.fuxi_io.specs.declared.lines.Got.TheVariants.{Line}
use Rattle.fuxi_io.specs.declared.lines.LineStop.{LineStop}
use Rattle.fuxi_io.specs.declared.lines.LineStop.TheVariants.{ReadFault as ReadStop, LineTooLong as LongStop, TooManyLines as ManyStop}
use Rattle.fuxi_io.specs.declared.status.InputFault.TheVariants.{LineTooLong, NoCluster}
use Rattle.fuxi_io.specs.declared.status.Status.TheVariants.{BadInput}
use Rattle.fuxi_terms.specs.Cluster.{ClusterRecord}
use Rattle.fuxi_terms.specs.Limits.{most_line_bytes, most_lines}
use Rattle.cluster_desc.specs.declared.fault.ClusterFault.{ClusterFault}
use Rattle.cluster_desc.specs.declared.fault.ClusterFault.TheVariants.{NotJson as ClusterNotJson, WrongKind as ClusterWrongKind, UnknownKey as ClusterUnknownKey, MissingKey as ClusterMissingKey, Count as ClusterCount, LengthDiffers as ClusterLengthDiffers, QuantityRange as ClusterQuantityRange, QuotaOverLimit as ClusterQuotaOverLimit, OutOfMemory as ClusterOutOfMemory}
use Rattle.cluster_desc.specs.ClusterLine.{cluster_of}
use Rattle.cluster_desc.specs.Faults.{IsFault}
use Rattle.input_lines.specs.Contents.{content, is_skipped}
use Rattle.input_lines.specs.InputStatuses.{stop_status}
use Rattle.input_lines.specs.Wholes.{AreWhole, TakesLines}
use Rattle.input_lines.specs.Openings.{Opening, BadAt, TooMany, cluster_fault, described, opening_from, HasCluster, IsLast, StopsAtCluster, Opened}
use Rattle.input_lines.specs.InputStatuses.{cluster_status}
use Rattle.input_lines.proofs.Known.{weaker}

-- a line that is skipped, and one that says something
module _ (before : ℕ) (line : InputLine) (lines : List InputLine) (more : before < most_lines) (short : length line.bytes ≤ most_line_bytes) where
  opening_skipped : is_skipped (content line) ≡ true → opening_from before (line ∷ lines) ≡ opening_from (before + 1) lines
  opening_skipped skip =
      let m : nat_lt before most_lines ≡ true = grind (arith, nat_tests, more) in
      let s : nat_lt most_line_bytes (length line.bytes) ≡ false = grind (arith, nat_tests, short) in
      rw (m, s, skip) refl

  opening_said : is_skipped (content line) ≡ false → opening_from before (line ∷ lines) ≡ described (before + 1) (cluster_of (content line)) lines
  opening_said skip =
      let m : nat_lt before most_lines ≡ true = grind (arith, nat_tests, more) in
      let s : nat_lt most_line_bytes (length line.bytes) ≡ false = grind (arith, nat_tests, short) in
      rw (m, s, skip) refl

opening_long : (before : ℕ) (lines : List InputLine) → before < most_lines → FirstLonger most_line_bytes lines → opening_from before lines ≡ BadAt (before + 1) LineTooLong
opening_long before [] more long = absurd long
opening_long before (line ∷ lines) more long =
    let m : nat_lt before most_lines ≡ true = grind (arith, nat_tests, more) in
    let s : nat_lt most_line_bytes (length line.bytes) ≡ true = grind (arith, nat_tests, long) in
    rw (m, s) refl

opening_many : (before : ℕ) (lines : List InputLine) → before ≡ most_lines → lines ≢ [] → opening_from before lines ≡ TooMany before
opening_many before [] many some = absurd (some refl)
opening_many before (line ∷ lines) many some = let m : nat_lt before most_lines ≡ false = grind (arith, nat_tests, many) in rw m (ap TooMany (sym many))

-- of an input before the line that describes the cluster: the lines taken, and the bytes that are left
pub record Seeking (bytes : List ℕ) (first number : ℕ) (rest : Option (List ℕ)) : Type 0 where
  pub lines : List InputLine
  pub left : List ℕ
  pub is_left : rest ≡ Some left
  pub cut : lines_of bytes ≡ lines ++ lines_of left
  pub whole : AreWhole bytes left lines
  pub through : (more : List InputLine) → opening_from first (lines ++ more) ≡ opening_from number more

pub seek_start : TakesLines → (known : Option (List ℕ)) (first : ℕ) → IfSome known (λ bytes. Seeking bytes first first known)
seek_start laws None first = tt
seek_start laws (Some bytes) first = record { lines = []; left = bytes; is_left = refl; cut = refl; whole = laws.none bytes; through = λ more. refl }

module _ (laws : TakesLines) (bytes : List ℕ) (first number : ℕ) (rest : Option (List ℕ)) (s : Seeking bytes first number rest) where
  cut_more : (line : InputLine) (behind : List ℕ) → IsFirst s.left line behind → lines_of bytes ≡ (s.lines ++ line ∷ []) ++ lines_of behind
  cut_more line behind f = s.cut ∙ ap (λ ls. s.lines ++ ls) f.first ∙ sym (append_assoc s.lines (line ∷ []) (lines_of behind))

  through_more : (line : InputLine) (more : List InputLine) → opening_from first ((s.lines ++ line ∷ []) ++ more) ≡ opening_from number (line ∷ more)
  through_more line more = ap (opening_from first) (append_assoc s.lines (line ∷ []) more) ∙ s.through (line ∷ more)

  -- the lines of the whole input begin as those that are left
  begins : (opening : Opening) → opening_from number (lines_of s.left) ≡ opening → opening_from first (lines_of bytes) ≡ opening
  begins opening is = ap (opening_from first) s.cut ∙ s.through (lines_of s.left) ∙ is

  step : (rest' : Option (List ℕ)) (line : InputLine) → line.ended ≡ true → number < most_lines → GivesKnown Line rest line rest' → is_skipped (content line) ≡ true → Seeking bytes first (number + 1) rest'
  step rest' line ends more gives skipped =
      let n = laws.next s.left line rest rest' s.is_left gives in
      record {
        lines = s.lines ++ line ∷ [];
        left = n.behind;
        is_left = n.is_left;
        cut = cut_more line n.behind n.first;
        whole = laws.more bytes s.left n.behind s.lines line s.whole n.first ends;
        through = λ ls. through_more line ls ∙ opening_skipped number line ls more n.first.short skipped;
      }

  found : (rest' : Option (List ℕ)) (line : InputLine) (cluster : ClusterRecord) → number < most_lines → GivesKnown Line rest line rest' → is_skipped (content line) ≡ false → cluster_of (content line) ≡ Ok cluster
      → HasCluster bytes cluster first (number + 1) line.ended rest'
  found rest' line cluster more gives skipped is =
      let n = laws.next s.left line rest rest' s.is_left gives in
      record {
        lines = s.lines ++ line ∷ [];
        left = n.behind;
        is_left = n.is_left;
        cut = cut_more line n.behind n.first;
        taken = record { whole = λ e. laws.more bytes s.left n.behind s.lines line s.whole n.first e; last = n.first.last };
        through = λ ls. through_more line ls ∙ opening_said number line ls more n.first.short skipped ∙ ap (λ said. described (number + 1) said ls) is;
      }

  no_cluster : (reading : Reading) (source : Option (List ℕ)) (line : InputLine) (fault : ClusterFault) → number < most_lines → length reading.pending ≤ read_ahead → GivesKnown Line rest line (rest_of reading source) → is_skipped (content line) ≡ false
      → IsFault (cluster_of (content line)) fault → Opened first bytes (Err (cluster_status fault (number + 1))) reading source
  no_cluster reading source line fault more few gives skipped is = by_fault fault is
    where
      bad : (fault : ClusterFault) → cluster_of (content line) ≡ Err fault → opening_from first (lines_of bytes) ≡ BadAt (number + 1) (cluster_fault fault)
      bad fault is =
          let n = laws.next s.left line rest (rest_of reading source) s.is_left gives in
          begins (BadAt (number + 1) (cluster_fault fault))
          (ap (opening_from number) n.first.first ∙ opening_said number line (lines_of n.behind) more n.first.short skipped ∙ ap (λ said. described (number + 1) said (lines_of n.behind)) is)

      ends : (said : Result ClusterRecord ClusterFault) → IsLast (described (number + 1) said [])
      ends (Ok cluster) = refl
      ends (Err fault) = tt

      wants : StopsAtCluster first bytes source
      wants =
          let n = laws.next s.left line rest (rest_of reading source) s.is_left gives in
          let is : opening_from first (s.lines ++ line ∷ []) ≡ described (number + 1) (cluster_of (content line)) [] = s.through (line ∷ []) ∙ opening_said number line [] more n.first.short skipped in
          record {
            lines = s.lines ++ line ∷ [];
            takes = record {
              behind = n.behind;
              cut = cut_more line n.behind n.first;
              ahead = reading.pending;
              gave = laws.ahead reading.pending n.behind source n.is_left;
              few = few;
            };
            last = subst IsLast (sym is) (ends (cluster_of (content line)));
          }

      by_fault : (fault : ClusterFault) → IsFault (cluster_of (content line)) fault → Opened first bytes (Err (cluster_status fault (number + 1))) reading source
      by_fault ClusterNotJson is = bad ClusterNotJson is
      by_fault (ClusterWrongKind key) is = bad (ClusterWrongKind key) is
      by_fault ClusterUnknownKey is = bad ClusterUnknownKey is
      by_fault (ClusterMissingKey key) is = bad (ClusterMissingKey key) is
      by_fault (ClusterCount key) is = bad (ClusterCount key) is
      by_fault ClusterLengthDiffers is = bad ClusterLengthDiffers is
      by_fault ClusterQuantityRange is = bad ClusterQuantityRange is
      by_fault (ClusterQuotaOverLimit group) is = bad (ClusterQuotaOverLimit group) is
      by_fault ClusterOutOfMemory is = wants

  stopped : (reading : Reading) (source : Option (List ℕ)) (stop : LineStop) → (stop ≡ ReadStop → BreaksOff rest source) → (stop ≡ LongStop → (number < most_lines) × FirstTooLongKnown rest) → (stop ≡ ManyStop → (number ≡ most_lines) × MoreKnown rest)
      → Opened first bytes (Err (stop_status stop number)) reading source
  stopped reading source ReadStop broke long many =
      let b = laws.broken bytes s.left source s.lines s.whole (subst (λ r. BreaksOff r source) s.is_left (broke refl)) in
      record { given = b.given; gave = b.gave; line = number + 1; none = ap (opening_from first) (b.whole ∙ sym (append-nil s.lines)) ∙ s.through [] }
  stopped reading source LongStop broke long many =
      let l = long refl in
      begins (BadAt (number + 1) LineTooLong) (opening_long number (lines_of s.left) l.0 (subst FirstTooLongKnown s.is_left l.1))
  stopped reading source ManyStop broke long many =
      let m = many refl in
      begins (TooMany number) (opening_many number (lines_of s.left) m.0 (laws.some s.left (subst MoreKnown s.is_left m.1)))

-- the same of an input that may be known
module _ (laws : TakesLines) (input : Option (List ℕ)) (first number : ℕ) (rest : Option (List ℕ)) (a : IfSome input (λ bytes. Seeking bytes first number rest)) where
  pub seek_more : (rest' : Option (List ℕ)) (line : InputLine) (number' : ℕ) → number' ≡ number + 1 → line.ended ≡ true → number < most_lines → GivesKnown Line rest line rest' → is_skipped (content line) ≡ true → IfSome input (λ bytes. Seeking bytes first number' rest')
  seek_more rest' line number' next ends more gives skipped =
      weaker input _ _ (λ bytes (s : Seeking bytes first number rest). subst (λ k. Seeking bytes first k rest') (sym next) (step laws bytes first number rest s rest' line ends more gives skipped)) a

  pub seek_cluster : (reading : Reading) (source : Option (List ℕ)) (cluster : ClusterRecord) → reading.number ≡ number + 1 → number < most_lines → GivesKnown Line rest (line_of reading) (rest_of reading source) → is_skipped (content (line_of reading)) ≡ false
      → cluster_of (content (line_of reading)) ≡ Ok cluster → IfSome input (λ bytes. Opened first bytes (Ok cluster) reading source)
  seek_cluster reading source cluster next more gives skipped is =
      weaker input _ _ (λ bytes (s : Seeking bytes first number rest).
      subst (λ k. HasCluster bytes cluster first k reading.ended (rest_of reading source)) (sym next) (found laws bytes first number rest s (rest_of reading source) (line_of reading) cluster more gives skipped is)) a

  pub seek_fault : (reading : Reading) (source : Option (List ℕ)) (fault : ClusterFault) → number < most_lines → length reading.pending ≤ read_ahead → GivesKnown Line rest (line_of reading) (rest_of reading source) → is_skipped (content (line_of reading)) ≡ false
      → IsFault (cluster_of (content (line_of reading))) fault → IfSome input (λ bytes. Opened first bytes (Err (cluster_status fault (number + 1))) reading source)
  seek_fault reading source fault more few gives skipped is =
      weaker input _ _ (λ bytes (s : Seeking bytes first number rest). no_cluster laws bytes first number rest s reading source (line_of reading) fault more few gives skipped is) a

  -- the end was told by a line that says nothing
  pub seek_last : (reading : Reading) (source rest' : Option (List ℕ)) (line : InputLine) → line.ended ≡ false → number < most_lines → GivesKnown Line rest line rest' → is_skipped (content line) ≡ true
      → IfSome input (λ bytes. Opened first bytes (Err (BadInput ((number + 1) + 1) NoCluster)) reading source)
  seek_last reading source rest' line ends more gives skipped = weaker input _ _ (λ bytes (s : Seeking bytes first number rest).
      let n = laws.next s.left line rest rest' s.is_left gives in
      begins laws bytes first number rest s (BadAt ((number + 1) + 1) NoCluster)
      (ap (opening_from number) n.first.first ∙ opening_skipped number line (lines_of n.behind) more n.first.short skipped ∙ ap (λ xs. opening_from (number + 1) (lines_of xs)) (n.first.last ends))) a

  pub seek_stop : (reading : Reading) (source : Option (List ℕ)) (stop : LineStop) → (stop ≡ ReadStop → BreaksOff rest source) → (stop ≡ LongStop → (number < most_lines) × FirstTooLongKnown rest) → (stop ≡ ManyStop → (number ≡ most_lines) × MoreKnown rest)
      → IfSome input (λ bytes. Opened first bytes (Err (stop_status stop number)) reading source)
  seek_stop reading source stop broke long many = weaker input _ _ (λ bytes (s : Seeking bytes first number rest). stopped laws bytes first number rest s reading source stop broke long many) a
