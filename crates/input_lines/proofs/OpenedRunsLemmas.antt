-- A run ends before the line that describes the cluster, or goes on behind it.
use Rattle.std.proofs.Common.{◌⊎◌, inl, ◌≡◌, ◌≢◌, ℕ, Bool, true, false, List, [], ◌++◌, Option, None, Some, IfSome, Err, refl, sym, ◌∙◌, ap, subst, append_assoc}
use Rattle.std.specs.List.{concat}
use Rattle.std.specs.Io.KnownBytes.{Appends, Consumes, IsAtEnd}
use Rattle.std.proofs.lemmas.List.Elements.{filter-append}
use Rattle.fuxi_io.specs.Lines.{InputLine, lines_of}
use Rattle.fuxi_io.specs.Reading.{Reading}
use Rattle.fuxi_io.specs.declared.status.InputFault.TheVariants.{NoCluster}
use Rattle.fuxi_io.specs.declared.status.LimitOf.TheVariants.{Lines, Packets, Bytes, Records, Calls}
use Rattle.fuxi_io.specs.declared.status.Status.{Status}
use Rattle.fuxi_io.specs.declared.status.Status.TheVariants.{Done, Usage, BadInput, ReadFault, WriteFault, Limit, OutOfMemory, DiskFault, StaleEpoch, DamagedCheckpoint}
use Rattle.fuxi_terms.specs.Cluster.{ClusterRecord}
use Rattle.fuxi_terms.proofs.AppendsLemmas.{appends_none}
use Rattle.input_lines.specs.LineRuns.{Ending, AtEnd, AtBadLine, AtLimit, Run, Ends, ended, run_from, ReadsWhole, StopsWithin, Ended}
use Rattle.input_lines.specs.OpenedRuns.{Opener, run_opened, read_from}
use Rattle.input_lines.specs.Openings.{Opening, Opens, BadAt, TooMany, opening_from, HasCluster, IsLast, Opened}
use Rattle.input_lines.specs.Wholes.{whole_lines, AreWhole, AreTaken, WritesLast}
use Rattle.input_lines.proofs.Known.{weaker}

-- up to the line that describes the cluster nothing is printed
silent : {W S : Type 0} (o : Opener W S) (opening : Opening) → IsLast opening → (run_opened o opening).outputs ≡ []
silent o (Opens cluster number behind) last = ap (λ ls. (run_from o.runner number (o.start cluster) ls).outputs) last
silent o (BadAt line fault) last = refl
silent o (TooMany kept) last = absurd last

module _ {W S : Type 0} (o : Opener W S) (e : Ends W S) (first : ℕ) where
  -- no cluster was read: the run is over
  module _ (unread : (line : ℕ) → e.IsOpen (AtBadLine line NoCluster)) (bytes : List ℕ) (reading : Reading) (source took : Option (List ℕ)) where
    over : (opening : Opening) (ending : Ending) → run_opened o opening ≡ ended o.unopened ending → opening_from first (lines_of bytes) ≡ opening
        → ((read_from o first (lines_of bytes)).ending ≡ ending) × Appends took took (concat (read_from o first (lines_of bytes)).outputs)
    over opening ending same is =
        let whole : read_from o first (lines_of bytes) ≡ ended o.unopened ending = ap (run_opened o) is ∙ same in
        (ap (λ (r : Run S). r.ending) whole, subst (λ (r : Run S). Appends took took (concat r.outputs)) (sym whole) (appends_none took))

    never_begun : (status : Status) → Opened first bytes (Err status) reading source → Ended e (read_from o first) bytes status source took took
    never_begun (BadInput line fault) is = over (BadAt line fault) (AtBadLine line fault) refl is
    never_begun (Limit Lines kept) is = over (TooMany kept) (AtLimit Lines kept) refl is
    never_begun (Limit Packets kept) is = absurd is
    never_begun (Limit Bytes kept) is = absurd is
    never_begun (Limit Calls kept) is = absurd is
    never_begun (Limit Records kept) is = absurd is
    never_begun ReadFault n =
        let same : read_from o first (whole_lines (lines_of n.given)) ≡ ended o.unopened (AtBadLine n.line NoCluster) = ap (run_opened o) n.none in
        record {
          given = n.given;
          gave = n.gave;
          unended = subst (λ (r : Run S). e.IsOpen r.ending) (sym same) (unread n.line);
          writes = subst (λ (r : Run S). Appends took took (concat r.outputs)) (sym same) (appends_none took);
        }
    never_begun OutOfMemory s = record {
      lines = s.lines;
      behind = s.takes.behind;
      cut = s.takes.cut;
      ahead = s.takes.ahead;
      gave = s.takes.gave;
      few = s.takes.few;
      writes = inl (subst (λ ps. WritesLast ps took took) (sym (silent o (opening_from first s.lines) s.last)) (record { part = 0; writes = appends_none took }));
    }
    never_begun Done is = absurd is
    never_begun Usage is = absurd is
    never_begun WriteFault is = absurd is
    never_begun DiskFault is = absurd is
    never_begun (StaleEpoch fence) is = absurd is
    never_begun (DamagedCheckpoint offset) is = absurd is

  pub no_line : ((line : ℕ) → e.IsOpen (AtBadLine line NoCluster)) → (input : Option (List ℕ)) (reading : Reading) (source took : Option (List ℕ)) (status : Status) → IfSome input (λ bytes. Opened first bytes (Err status) reading source)
      → IfSome input (λ bytes. Ended e (read_from o first) bytes status source took took)
  no_line unread input reading source took status opened = weaker input _ _ (λ bytes is. never_begun unread bytes reading source took status is) opened

  -- the run behind the line of the cluster is the run
  module _ (bytes : List ℕ) (cluster : ClusterRecord) (number : ℕ) (ends : Bool) (rest : Option (List ℕ)) (h : HasCluster bytes cluster first number ends rest) where
    goes_on : (more : List InputLine) → read_from o first (h.lines ++ more) ≡ run_from o.runner number (o.start cluster) more
    goes_on more = ap (run_opened o) (h.through more)

    all : read_from o first (lines_of bytes) ≡ run_from o.runner number (o.start cluster) (lines_of h.left)
    all = ap (read_from o first) h.cut ∙ goes_on (lines_of h.left)

    stops_behind : (source w0 w : Option (List ℕ)) → StopsWithin e (run_from o.runner number (o.start cluster)) h.left source w0 w → StopsWithin e (read_from o first) bytes source w0 w
    stops_behind source w0 w s = record {
      lines = h.lines ++ s.lines;
      behind = s.behind;
      cut = h.cut ∙ ap (λ ls. h.lines ++ ls) s.cut ∙ sym (append_assoc h.lines s.lines (lines_of s.behind));
      ahead = s.ahead;
      gave = s.gave;
      few = s.few;
      writes = subst (λ (r : Run S). WritesLast r.outputs w0 w ⊎ ((s.behind ≡ []) × e.BreaksAll r w0 w)) (sym (goes_on s.lines)) s.writes;
    }

    gave_more : (given left part : List ℕ) (source : Option (List ℕ)) → bytes ≡ given ++ left → Consumes (Some left) source part → Consumes (Some bytes) source (given ++ part)
    gave_more given left part None is gave = absurd gave
    gave_more given left part (Some more) is gave = is ∙ ap (λ l. given ++ l) gave ∙ sym (append_assoc given part more)

    reads_behind : (source w0 w : Option (List ℕ)) → AreWhole bytes h.left h.lines → ReadsWhole e (run_from o.runner number (o.start cluster)) h.left source w0 w → ReadsWhole e (read_from o first) bytes source w0 w
    reads_behind source w0 w t r =
        let same : read_from o first (whole_lines (lines_of (t.given ++ r.given))) ≡ run_from o.runner number (o.start cluster) (whole_lines (lines_of r.given)) =
        ap (λ ls. read_from o first (whole_lines ls)) (t.alone r.given) ∙ ap (read_from o first) (filter-append (λ (line : InputLine). line.ended) h.lines (lines_of r.given) ∙ ap (λ ls. ls ++ whole_lines (lines_of r.given)) t.whole)
        ∙ goes_on (whole_lines (lines_of r.given)) in
        record {
          given = t.given ++ r.given;
          gave = gave_more t.given h.left r.given source t.is r.gave;
          unended = subst (λ (x : Run S). e.IsOpen x.ending) (sym same) r.unended;
          writes = subst (λ (x : Run S). Appends w0 w (concat x.outputs)) (sym same) r.writes;
        }

    -- a source is not asked behind a line that ended the input
    reads_by_end : (end : Bool) (source w0 w : Option (List ℕ)) → AreTaken end bytes h.left h.lines → (end ≡ false → ReadFault ≢ ReadFault) → ReadsWhole e (run_from o.runner number (o.start cluster)) h.left source w0 w → ReadsWhole e (read_from o first) bytes source w0 w
    reads_by_end true source w0 w t read r = reads_behind source w0 w (t.whole refl) r
    reads_by_end false source w0 w t read r = absurd (read refl refl)

    behind_ended : (status : Status) (source w0 w : Option (List ℕ)) → (ends ≡ false → status ≢ ReadFault) → Ended e (run_from o.runner number (o.start cluster)) h.left status source w0 w → Ended e (read_from o first) bytes status source w0 w
    behind_ended Done source w0 w read d = (d.0, subst (λ (r : Run S). r.ending ≡ AtEnd) (sym all) d.1, subst (λ (r : Run S). e.WritesAll r w0 w) (sym all) d.2)
    behind_ended (BadInput line fault) source w0 w read d = subst (λ (r : Run S). (r.ending ≡ AtBadLine line fault) × Appends w0 w (concat r.outputs)) (sym all) d
    behind_ended (Limit what kept) source w0 w read d = subst (λ (r : Run S). (r.ending ≡ AtLimit what kept) × Appends w0 w (concat r.outputs)) (sym all) d
    behind_ended ReadFault source w0 w read d = reads_by_end ends source w0 w h.taken read d
    behind_ended WriteFault source w0 w read d = stops_behind source w0 w d
    behind_ended OutOfMemory source w0 w read d = stops_behind source w0 w d
    behind_ended Usage source w0 w read d = absurd d
    behind_ended DiskFault source w0 w read d = absurd d
    behind_ended (StaleEpoch fence) source w0 w read d = absurd d
    behind_ended (DamagedCheckpoint offset) source w0 w read d = absurd d

  pub behind_line : (input : Option (List ℕ)) (cluster : ClusterRecord) (number : ℕ) (ends : Bool) (rest source w0 w : Option (List ℕ)) (status : Status) → IfSome input (λ bytes. HasCluster bytes cluster first number ends rest) → (ends ≡ false → status ≢ ReadFault)
      → ((ends ≡ false → IsAtEnd rest) → IfSome rest (λ bytes. Ended e (run_from o.runner number (o.start cluster)) bytes status source w0 w)) → IfSome input (λ bytes. Ended e (read_from o first) bytes status source w0 w)
  behind_line input cluster number ends rest source w0 w status has read runs = weaker input _ _ (λ bytes (h : HasCluster bytes cluster first number ends rest).
      behind_ended bytes cluster number ends rest h status source w0 w read
      (subst (λ r. IfSome r (λ bytes. Ended e (run_from o.runner number (o.start cluster)) bytes status source w0 w)) h.is_left (runs (λ e. subst IsAtEnd (sym h.is_left) (h.taken.last e))))) has
