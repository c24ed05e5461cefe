-- The line that tells of an outcome.
use Rattle.std.specs.Prelude.{ℕ, List, codes}
use Rattle.fuxi_io.specs.Reports.{status_line}
use Rattle.fuxi_io.specs.declared.status.Status.{Status}

abbrev pub report_line : Status → List ℕ
report_line status = status_line (codes "usage: fuxi replay | storm SEED STEPS | node master EPOCH ADDR | node agent MACHINE BOOT ADDR | node app APP BOOT UNITS ADDR | lease | work\n") status
