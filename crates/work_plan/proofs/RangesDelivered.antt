-- Packets are delivered one after another.
use Rattle.std.proofs.Common.{◌≡◌, ℕ, zero, suc, ◌+◌, ◌-◌, ◌<◌, ◌≤◌, true, false, nat_lt, List, [], ◌∷◌, ◌++◌, length, map, Option, Some, slice_get, sym, ◌∙◌, ap, subst, arith, append-nil, append_assoc}
use Rattle.std.proofs.lemmas.List.{length-map}
use Rattle.std.proofs.lemmas.Bool.Decides.{nat_tests}
use Rattle.fuxi_terms.proofs.Lists.{all_at}
use Rattle.work_plan.specs.declared.ends.Parcel.{Parcel}
use Rattle.work_plan.specs.Ends.{Brought, packet_of}
use Rattle.work_plan.specs.WorkEvents.{deliver, deliveries}
use Rattle.work_plan.specs.WorkLines.{lines_text}
use Rattle.work_plan.specs.AgentWithApps.{World}
use Rattle.work_plan.specs.declared.hearing.Heard.{Heard}
use Rattle.work_plan.specs.WorkMoves.{Delivers, HearsOne, heard_line}
use Rattle.work_plan.specs.WorkSteps.{StepsTo}
use Rattle.work_plan.specs.WorkWorlds.{AgentAt, AppsAt, Carries, Stands}
use Rattle.work_plan.specs.declared.working.Working.{Working}
use Rattle.work_plan.proofs.PacketDelivered.{carries_delivered, events_delivered}
use Rattle.work_plan.proofs.Texts.{text_both}

pub mapped_at : {A B : Type 0} (f : A → B) (xs : List A) (i : ℕ) (x : A) → slice_get xs i ≡ Some x → slice_get (map f xs) i ≡ Some (f x)
mapped_at f [] i x e = cc
mapped_at f (y ∷ ys) zero x e = let same : y ≡ x = cc in ap (λ z. Some (f z)) same
mapped_at f (y ∷ ys) (suc i) x e = mapped_at f ys i x e

-- the packets of the written world are those that are kept
pub packet_there : (r : Working) (w : World) (i : ℕ) (x : Parcel) → Stands r w → slice_get r.packets.items i ≡ Some x → slice_get w.net.packets i ≡ Some (packet_of x)
packet_there r w i x s e = ap (λ xs. slice_get xs i) (sym s.carries.packets) ∙ mapped_at packet_of r.packets.items i x e

pub as_many : (r : Working) (w : World) → Stands r w → length w.net.packets ≡ length r.packets.items
as_many r w s = ap length (sym s.carries.packets) ∙ length-map r.packets.items packet_of

pub enough : (r : Working) (w : World) (k : ℕ) → Stands r w → k ≤ length r.packets.items → nat_lt (length w.net.packets) k ≡ false
enough r w k s le = let many = as_many r w s in grind (arith, nat_tests, many, le)

pub too_few : (r : Working) (w : World) (k : ℕ) → Stands r w → length r.packets.items < k → nat_lt (length w.net.packets) k ≡ true
too_few r w k s lt = let many = as_many r w s in grind (arith, nat_tests, many, lt)

module _ (first last : ℕ) where
  pub range_begins : (r : Working) (w : World) (out : List ℕ) → first ≤ last → Stands r w → Delivers first last first r out out w
  range_begins r w out le s =
      let many : last - first + 1 ≡ last + 1 - first = omega (arith, le) in
      record { world = w; stands = s; same = ap (λ n. (deliveries w first n).world) many; text = ap (λ n. out ++ lines_text (deliveries w first n).lines) many }

  pub range_goes : (n : ℕ) (r r' : Working) (w : World) (before out out' : List ℕ) → n ≤ last → (d : Delivers first last n r before out w) → StepsTo (deliver d.world n (slice_get d.world.net.packets (n - 1))) r' out out' → Delivers first last (n + 1) r' before out' w
  range_goes n r r' w before out out' le d t =
      let s = deliver d.world n (slice_get d.world.net.packets (n - 1)) in
      let m = last + 1 - (n + 1) in
      let many : last + 1 - n ≡ suc m = omega (arith, le) in
      let rest = (deliveries s.world (n + 1) m).lines in
      record {
        world = s.world;
        stands = t.stands;
        same = d.same ∙ ap (λ k. (deliveries d.world n k).world) many;
        text = d.text ∙ ap (λ k. out ++ lines_text (deliveries d.world n k).lines) many ∙ ap (λ ts. out ++ ts) (text_both s.lines rest) ∙ sym (append_assoc out (lines_text s.lines) (lines_text rest)) ∙ ap (λ o. o ++ lines_text rest) (sym t.text);
      }

  pub range_ends : (n : ℕ) (r : Working) (w : World) (before out : List ℕ) → last + 1 ≤ n → Delivers first last n r before out w → StepsTo (deliveries w first (last - first + 1)) r before out
  range_ends n r w before out le d =
      let none : last + 1 - n ≡ 0 = omega (arith, le) in
      record {
        stands = subst (Stands r) (sym (d.same ∙ ap (λ k. (deliveries d.world n k).world) none)) d.stands;
        text = sym (d.text ∙ ap (λ k. out ++ lines_text (deliveries d.world n k).lines) none ∙ append-nil out);
      }

-- one packet that is there is delivered
pub one_delivered : (r r' : Working) (w : World) (k : ℕ) (x : Parcel) (heard : Option Heard) (before after : List ℕ) → Stands r w → slice_get r.packets.items (k - 1) ≡ Some x
    → (AgentAt r.agent w → AppsAt r.apps.items w → Brought w.net.histories x → HearsOne x heard r.agent r'.agent r.apps.items r'.apps.items k w) → r'.events ≡ r.events → r'.packets.items ≡ r.packets.items
    → after ≡ before ++ lines_text (heard_line k heard ∷ []) → StepsTo (deliver w k (slice_get w.net.packets (k - 1))) r' before after
one_delivered r r' w k x heard before after s there hears events packets text =
    let y = packet_of x in
    let one = hears s.agent s.apps (all_at (Brought w.net.histories) r.packets.items (k - 1) x s.carries.brought there) in
    subst (λ o. StepsTo (deliver w k o) r' before after) (sym (packet_there r w (k - 1) x s there)) (record {
      stands = record { events = events ∙ s.events ∙ sym (events_delivered w k y); agent = one.agent; apps = one.apps; carries = subst (λ xs. Carries xs (deliver w k (Some y)).world) (sym packets) (carries_delivered r.packets.items w k y s.carries) };
      text = text ∙ ap (λ ls. before ++ lines_text ls) (sym one.lines);
    })
