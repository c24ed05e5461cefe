-- A read from a door over memory.
use Rattle.std.proofs.Common.{◌≡◌, ℕ, ◌+◌, Bool, true, false, ◌||◌, nat_eq, List, ◌∷◌, ◌++◌, take, drop, drop-drop, Some, None, cond, refl, sym, ap, ◌∙◌}
use Rattle.std.proofs.Math.Seq.{take-add}
use Rattle.fuxi_io.specs.Doors.{Talk, Told, given, on_last}
use Rattle.fuxi_io.specs.UsageTraces.{trace_read}
use Rattle.fuxi_io.specs.MemoryDoors.{Doorway, told_of, talk_of, talks_of}
use Rattle.fuxi_io.specs.declared.memory_door.Opened.{Opened}
use Rattle.fuxi_io.specs.declared.usage_trace.UsageTrace.{UsageTrace}

or_false : (a b : Bool) → b ≡ false → a ≡ a || b
or_false true b is = refl
or_false false b is = sym is

-- some bytes came, so this was not the end
module _ (handed accepts : Bool) (addr : List ℕ) (knocks : ℕ) (took : List ℕ) (last : Opened) (past : List Opened) (n : ℕ) (o : UsageTrace) (order : o ≡ trace_read last.order) (more : nat_eq n 0 ≡ false) where
  abbrev shape : List ℕ → Bool → UsageTrace → Talk
  shape gave ended now = record { gave = gave; took = drop last.from took; ended = ended; order = now }

  talk_more : shape (take (last.at + n) last.bytes.items) last.ended o ≡ given (take n (drop last.at last.bytes.items)) (nat_eq n 0) (talk_of took last)
  talk_more =
      let gave = take last.at last.bytes.items ++ take n (drop last.at last.bytes.items) in
      ap (λ g. shape g last.ended o) (take-add last.at n last.bytes.items) ∙ ap (λ e. shape gave e o) (or_false last.ended (nat_eq n 0) more) ∙ ap (λ x. shape gave (last.ended || nat_eq n 0) x) order

  told_more : (begun : Bool) → told_of handed accepts addr knocks begun took (record last { at = last.at + n; order = o }) past ≡ on_last (given (take n (drop last.at last.bytes.items)) (nat_eq n 0)) (told_of handed accepts addr knocks begun took last past)
  told_more false = refl
  told_more true = ap (λ (t : Talk). let told : Told = record { knock = cond handed (Some (record { accepts = accepts; addr = addr })) None; knocks = knocks; talks = t ∷ talks_of (take last.from took) past } in told) talk_more

  pub read_more : (begun : Bool) (coming : List (List ℕ)) (room places : ℕ) (fails : List ℕ) (calls faults : ℕ)
      → (let d : Doorway = record { told = told_of handed accepts addr knocks begun took (record last { at = last.at + n; order = o }) past; left = drop (last.at + n) last.bytes.items; coming = coming; room = room; places = places; fails = fails; calls = calls; faults = faults } in d)
      ≡ record { told = on_last (given (take n (drop last.at last.bytes.items)) (nat_eq n 0)) (told_of handed accepts addr knocks begun took last past); left = drop n (drop last.at last.bytes.items); coming = coming; room = room; places = places; fails = fails; calls = calls; faults = faults }
  read_more begun coming room places fails calls faults =
      let door = λ (t : Told) (l : List ℕ). let d : Doorway = record { told = t; left = l; coming = coming; room = room; places = places; fails = fails; calls = calls; faults = faults } in d in
      ap (λ t. door t (drop (last.at + n) last.bytes.items)) (told_more begun) ∙ ap (λ l. door (on_last (given (take n (drop last.at last.bytes.items)) (nat_eq n 0)) (told_of handed accepts addr knocks begun took last past)) l) (sym (drop-drop n last.at last.bytes.items))
