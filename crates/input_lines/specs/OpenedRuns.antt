-- A run behind the line that describes the cluster, whatever runs there; where no line describes one, it ends before.
use Rattle.std.specs.Prelude.{◌≡◌, ◌⊎◌, ℕ, List}
use Rattle.fuxi_io.specs.Lines.{InputLine}
use Rattle.fuxi_io.specs.declared.status.InputFault.TheVariants.{NoCluster}
use Rattle.fuxi_io.specs.declared.status.LimitOf.TheVariants.{Lines}
use Rattle.fuxi_terms.specs.Cluster.{ClusterRecord}
use Rattle.input_lines.specs.LineRuns.{Ending, AtEnd, AtBadLine, AtLimit, Run, Runner, ended, run_from}
use Rattle.input_lines.specs.Openings.{Opening, Opens, BadAt, TooMany, opening_from}

-- what runs behind the line of a cluster: from which state, and what is told where there is none
pub record Opener (W S : Type 0) : Type 0 where
  pub runner : Runner W S
  pub start : ClusterRecord → W
  pub unopened : S

-- the run behind the line that describes the cluster, where one does
abbrev pub run_opened : {W S : Type 0} → Opener W S → Opening → Run S
run_opened o (Opens cluster number behind) = run_from o.runner number (o.start cluster) behind
run_opened o (BadAt line fault) = ended o.unopened (AtBadLine line fault)
run_opened o (TooMany kept) = ended o.unopened (AtLimit Lines kept)

-- the run over these lines, of which the first that is not skipped describes the cluster
abbrev pub read_from : {W S : Type 0} → Opener W S → ℕ → List InputLine → Run S
read_from o before lines = run_opened o (opening_from before lines)

-- no line that was read ended the run
abbrev pub IsOpen : Ending → Type 0
IsOpen ending = (ending ≡ AtEnd) ⊎ ((line : ℕ) × (ending ≡ AtBadLine line NoCluster))
