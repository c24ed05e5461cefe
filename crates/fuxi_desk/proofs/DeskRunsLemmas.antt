-- How a desk is written that ends.
use Rattle.std.proofs.Common.{◌⊎◌, inl, inr, ◌≡◌, ℕ, List, Option, Some, IfSome, refl, sym, subst}
use Rattle.fuxi_io.specs.declared.status.InputFault.TheVariants.{NoCluster}
use Rattle.fuxi_io.specs.declared.status.Status.{Status}
use Rattle.fuxi_io.specs.declared.status.Status.TheVariants.{Done, ReadFault, WriteFault, OutOfMemory}
use Rattle.input_lines.specs.LineProgress.{WritesItsEnd}
use Rattle.input_lines.specs.LineRuns.{AtEnd, AtBadLine}
use Rattle.input_lines.specs.OpenedRuns.{IsOpen}
use Rattle.input_lines.specs.Wholes.{TakesLines}
use Rattle.input_lines.proofs.LineProgressLemmas.{ends_done}
use Rattle.fuxi_desk.specs.Preparing.{Prepared}
use Rattle.fuxi_desk.specs.DeskRuns.{Ended, IsFinal, desk_ends, desk_runner, pieces, read_from, run_of}

-- behind its outputs stands the text
pub ends_with_its_text : TakesLines → WritesItsEnd desk_runner desk_ends
ends_with_its_text laws = record {
  unended = inl refl;
  all = λ r w before now after state ending writes final. record {
    text = final.text;
    final = subst (λ (s : Option Prepared). IsFinal s final.text) (sym state) final.final;
    writes = laws.both r.outputs final.text before now after writes final.writes;
  };
  part = λ r w before now after state ending writes final. record {
    text = final.text;
    final = subst (λ (s : Option Prepared). IsFinal s final.text) (sym state) final.final;
    writes = laws.last (pieces r final.text) r.outputs final.text final.writes.0 before now after refl writes final.writes.2;
  };
}

pub may_be_unread : (line : ℕ) → IsOpen (AtBadLine line NoCluster)
may_be_unread line = inr (line, refl)

pub completes : (known : Option (List ℕ)) (bytes : List ℕ) (status : Status) (left w0 w : Option (List ℕ)) → known ≡ Some bytes → (run_of bytes).ending ≡ AtEnd → IfSome known (λ b. Ended (read_from 0) b status left w0 w)
    → (status ≡ ReadFault → ⊥) → (status ≡ WriteFault → ⊥) → (status ≡ Done) ⊎ (status ≡ OutOfMemory)
completes known bytes status left w0 w is good h unread unwritten = ends_done desk_ends (read_from 0) bytes left w0 w good status (subst (λ o. IfSome o (λ b. Ended (read_from 0) b status left w0 w)) is h) unread unwritten
