use Rattle.std.proofs.Common.{◌++◌, ap, subst, sym, ◌∙◌, map, List}
use Rattle.std.specs.List.{AllByRecursion}
use Rattle.std.proofs.lemmas.List.{map-append}
use Rattle.fuxi_terms.proofs.Alls.{all_append}
use Rattle.fuxi_terms.specs.Tallies.{TallyRecord, ChangeRecord}
use Rattle.full_sync.specs.declared.duplex.Note.{Note}
use Rattle.work_plan.specs.Ends.{Brought, packet_of, parcel_of}
use Rattle.work_plan.proofs.EndsLemmas.{turn_sends}
use Rattle.work_plan.proofs.ends.turn.Goals as goal

pub returns : goal.returns
returns c = record {
  turns = λ p q l hs e is_p is_to.
      let from = c.args.from in
      let to = c.args.to in
      let old = c.args.parcels.now.items in
      let ns = c.in_ok-notes.notes in
      let sends = turn_sends c.args.ends.now from to ns p q l hs e is_p is_to c.acked-acked.ensures.posted c.in_ok-notes.ensures.marks c.in_ok-notes.ensures.brings in
      let appended = c.in_ok-append.ensures ∙ ap (λ (ns : List (Note TallyRecord ChangeRecord)). old ++ map (parcel_of from to) ns) c.into_vec.ensures in (
        ap (map packet_of) appended ∙ map-append packet_of old (map (parcel_of from to) ns) ∙ ap (λ xs. map packet_of old ++ xs) sends.0,
        λ olds. subst (AllByRecursion (Brought hs)) (sym appended) (all_append (Brought hs) old (map (parcel_of from to) ns) olds sends.1),
      );
  between = record { notes = c.into_vec.result.items; behind = c.in_ok-append.ensures };
}
