-- What a line prepares, and prints.
use Rattle.std.proofs.Common.{◌≡◌, inr, ℕ, false, true, List, [], Option, Ok, Err, refl, sym, ◌∙◌, ap}
use Rattle.std.specs.Io.KnownBytes.{Appends}
use Rattle.fuxi_io.specs.Causes.{TakesPart}
use Rattle.fuxi_io.specs.declared.status.LimitOf.TheVariants.{Calls}
use Rattle.fuxi_io.specs.declared.status.Status.TheVariants.{WriteFault, Limit}
use Rattle.master_desk.specs.CallOrders.{most_calls}
use Rattle.input_lines.specs.Contents.{is_skipped}
use Rattle.input_lines.specs.LineProgress.{IsTaken}
use Rattle.input_lines.specs.LineRuns.{Prints}
use Rattle.fuxi_desk.specs.DeskLines.{DeskEvent, desk_event}
use Rattle.fuxi_desk.specs.Preparing.{IsStepped, Prepared, PreparedRecord, Stands, desk_step, is_past}
use Rattle.fuxi_desk.specs.DeskProgress.{StandsIn, TakesLine}
use Rattle.fuxi_desk.specs.DeskRuns.{desk_runner, said_of, unless_past}

module _ (line : List ℕ) (number : ℕ) (w : Prepared) (event : DeskEvent) (unskipped : is_skipped line ≡ false) (is : desk_event line ≡ Ok event) where
  -- it is a call past the greatest number
  pub past_line : (took : Option (List ℕ)) → is_past w event ≡ true → TakesLine line number w (Err (Limit Calls most_calls)) took took
  past_line took past = (unskipped, ap (said_of w) is ∙ ap (unless_past w event) past, refl)

  -- it was taken and what it prints was written, or a part of it
  module _ (x : PreparedRecord) (text : List ℕ) (before after : Option (List ℕ)) (within : is_past w event ≡ false) (stepped : IsStepped event w x [] text) where
    prints : (Stands' : Prepared → Type 0) → Stands' (desk_step w event).prepared → IsTaken desk_runner.says Stands' line w text
    prints Stands' stands =
        let s = desk_step w event in
        record { after = s.prepared; is = ap (said_of w) is ∙ ap (unless_past w event) within ∙ ap (λ t. Prints t s.prepared) (sym stepped.text); stands = stands }

    pub took_line : Appends before after text → TakesLine line number w (Ok x) before after
    took_line writes = inr (unskipped, (text, prints (Stands x) stepped.stands, writes))

    pub took_part : TakesPart before after text → TakesLine line number w (Err WriteFault) before after
    took_part writes = (unskipped, (text, prints (StandsIn (Err WriteFault)) tt, writes))
