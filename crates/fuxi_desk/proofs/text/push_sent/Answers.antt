use Rattle.std.proofs.Common.{List, ℕ, ◌++◌, ◌∷◌, [], ◌∙◌, ap}
use Rattle.std.specs.Prelude.{codes, decimal}
use Rattle.peer_channel.specs.Parcels.{party_of}
use Rattle.spec_net.specs.Net.{Kind}
use Rattle.schedule_text.specs.PrintedLines.{ended, kind_word, party_word, place_word}
use Rattle.schedule_text.specs.Printing.{as_kind}
use Rattle.fuxi_desk.proofs.DeskTextsLemmas.{sent_pushed}
use Rattle.fuxi_desk.proofs.text.push_sent.Goals as goal

pub returns : goal.returns
returns c =
    let h = c.args.head.now in
    let words : Kind → List (List ℕ) = λ k. party_word (party_of h.from) ∷ party_word (party_of h.to) ∷ kind_word k ∷ place_word h.place.inc h.place.seq ∷ decimal h.bytes ∷ [] in
    sent_pushed c.args.out.now.items c.extend_from_slice.new.self.items c.extend_from_slice-2.new.self.items c.as_slice.result.now c.split_at.result.1.now c.write_output.new.out.items (words (as_kind c.printed_kind.result))
    c.in_ok-extend_from_slice.ensures.items c.in_ok-extend_from_slice-2.ensures.items c.split_at.ensures.back c.as_slice.ensures.value (c.in_ok-write_output.ensures.ok ∙ ap (λ xs. xs ++ ended (codes "sent" ∷ decimal 0 ∷ words (as_kind c.printed_kind.result))) c.new-text.ensures.items)
    ∙ ap (λ k. c.args.out.now.items ++ ended (codes "sent" ∷ words k)) c.printed_kind.ensures
