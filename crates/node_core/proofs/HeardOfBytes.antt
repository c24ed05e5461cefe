-- The bytes of a connection say what is heard of it.
use Rattle.std.proofs.Common.{◌≡◌, ◌≢◌, ℕ, zero, suc, ◌+◌, Bool, true, false, cond, List, [], ◌∷◌, ◌++◌, append_assoc, length, length-append, drop, drop_at, Option, Some, None, Result, Ok, Err, refl, sym, ap, subst, ◌∙◌, arith}
use Rattle.std.proofs.lemmas.List.{take_at}
use Rattle.std.specs.List.{flat_map}
use Rattle.schedule_unit.specs.declared.party.Party.{Party}
use Rattle.party_ledgers.specs.declared.packets.Packet.{Packet}
use Rattle.wire_frames.specs.declared.fault.FrameFault.{FrameFault}
use Rattle.wire_frames.specs.declared.fault.FrameFault.TheVariants.{Short, OutOfMemory}
use Rattle.wire_frames.specs.Frames.{frame, IsFrame}
use Rattle.wire_frames.specs.ReadFrames.{Begins, HasFault, Reads}
use Rattle.wire_frames.specs.Streams.{Splits, lasting}
use Rattle.node_core.specs.Roles.{Role, heard, allowed}
use Rattle.node_core.specs.HeardPackets.{AtEnd, AtStranger, Came, is_end, stops, how_behind, hear_on, hear_all, IsRest, Gives}

front : (bytes left : List ℕ) (x : Packet) (xs : List Packet) → Splits bytes (x ∷ xs) left → bytes ≡ frame x ++ (flat_map frame xs ++ left)
front bytes left x xs s = s.whole ∙ append_assoc (frame x) (flat_map frame xs) left

begins_first : (bytes left : List ℕ) (x : Packet) (xs : List Packet) → Splits bytes (x ∷ xs) left → Begins bytes x (length (frame x))
begins_first bytes left x xs s =
    let behind = flat_map frame xs ++ left in
    subst (λ l. Begins l x (length (frame x))) (sym (front bytes left x xs s)) (record {
      within = omega (arith, length-append (frame x) behind);
      frame = subst (IsFrame x) (sym (take_at (frame x) behind (length (frame x)) refl)) s.each.0;
    })

-- a fault that is no want of memory
record IsSure (left : List ℕ) : Type 0 where
  fault : FrameFault
  has : HasFault left fault
  sure : fault ≢ OutOfMemory

lasts : (fault : FrameFault) → lasting fault ≡ Some fault → fault ≢ OutOfMemory
lasts fault stays is = let gone : lasting OutOfMemory ≡ Some OutOfMemory = subst (λ f. lasting f ≡ Some f) is stays in cc

no_short : (fault : FrameFault) → lasting fault ≡ Some fault → fault ≡ Short → ⊥
no_short fault stays is = let gone : lasting Short ≡ Some Short = subst (λ f. lasting f ≡ Some f) is stays in cc

rest_fault : (left : List ℕ) (behind : Option FrameFault) → IsRest left (how_behind behind) → IsSure left
rest_fault left None rest = record { fault = Short; has = rest; sure = λ e. cc }
rest_fault left (Some fault) rest = record { fault = fault; has = rest.0; sure = lasts fault rest.1 }

module _ (one_frame : (x y : Packet) (a b more rest : List ℕ) → IsFrame x a → IsFrame y b → a ++ more ≡ b ++ rest → (x ≡ y) × (a ≡ b))
    (one : (bytes : List ℕ) (r s : Result (Packet × ℕ) FrameFault) → Reads bytes r → Reads bytes s → r ≢ Err OutOfMemory → s ≢ Err OutOfMemory → r ≡ s) where
  same_fault : (left : List ℕ) (f g : FrameFault) → HasFault left f → HasFault left g → f ≢ OutOfMemory → g ≢ OutOfMemory → f ≡ g
  same_fault left f g has found sure certain = let is : Err f ≡ Err g = one left (Err f) (Err g) has found (λ e. sure cc) (λ e. certain cc) in cc

  not_both : (bytes left : List ℕ) (x : Packet) (xs : List Packet) → IsSure bytes → Splits bytes (x ∷ xs) left → ⊥
  not_both bytes left x xs s t =
      let none : Result (Packet × ℕ) FrameFault = Err s.fault in
      let some : Result (Packet × ℕ) FrameFault = Ok (x, length (frame x)) in
      let is : none ≡ some = one bytes none some s.has (begins_first bytes left x xs t) (λ e. s.sure cc) (λ e. cc) in cc

  same_rest : (left : List ℕ) (b c : Option FrameFault) → IsRest left (how_behind b) → IsRest left (how_behind c) → how_behind b ≡ how_behind c
  same_rest left None None p q = refl
  same_rest left None (Some g) p q = absurd (no_short g q.1 (same_fault left g Short q.0 p (lasts g q.1) (λ e. cc)))
  same_rest left (Some f) None p q = absurd (no_short f p.1 (same_fault left f Short p.0 q (lasts f p.1) (λ e. cc)))
  same_rest left (Some f) (Some g) p q = ap (λ f. how_behind (Some f)) (same_fault left f g p.0 q.0 (lasts f p.1) (lasts g q.1))

  -- both lists begin with the same packet, and the bytes behind it are the same
  record SameFront (x y : Packet) (front other : List ℕ) : Type 0 where
    packet : x ≡ y
    behind : front ≡ other

  same_front : (bytes left rest : List ℕ) (x y : Packet) (xs ys : List Packet) → Splits bytes (x ∷ xs) left → Splits bytes (y ∷ ys) rest → SameFront x y (flat_map frame xs ++ left) (flat_map frame ys ++ rest)
  same_front bytes left rest x y xs ys s t =
      let a = flat_map frame xs ++ left in
      let b = flat_map frame ys ++ rest in
      let both : frame x ++ a ≡ frame y ++ b = sym (front bytes left x xs s) ∙ front bytes rest y ys t in
      let same = one_frame x y (frame x) (frame y) a b s.each.0 t.each.0 both in
      record {
        packet = same.0;
        behind = sym (drop_at (frame x) a (length (frame x)) refl) ∙ ap (drop (length (frame x))) both ∙ drop_at (frame y) b (length (frame x)) (ap length (sym same.1));
      }

  abbrev Once : ℕ → Type 0
  Once n = (b c : Option FrameFault) (p : Option Party) (r : Role) (count : ℕ) (bytes left rest : List ℕ) (xs ys : List Packet) → Splits bytes xs left → IsRest left (hear_on n b p r count xs).how
      → Splits bytes ys rest → IsRest rest (hear_on n c p r count ys).how → hear_on n b p r count xs ≡ hear_on n c p r count ys

  -- of the same first packet
  packet_once : (n : ℕ) → Once n → (b c : Option FrameFault) (p : Option Party) (r : Role) (count : ℕ) (bytes left rest : List ℕ) (x : Packet) (xs ys : List Packet) → Splits bytes (x ∷ xs) left
      → IsRest left (hear_on (suc n) b p r count (x ∷ xs)).how → Splits bytes (x ∷ ys) rest → IsRest rest (hear_on (suc n) c p r count (x ∷ ys)).how → hear_on (suc n) b p r count (x ∷ xs) ≡ hear_on (suc n) c p r count (x ∷ ys)
  packet_once n again b c p r count bytes left rest x xs ys s k t l = by (allowed r p x) (is_end x.kind) k l
    where
      same : SameFront x x (flat_map frame xs ++ left) (flat_map frame ys ++ rest)
      same = same_front bytes left rest x x xs ys s t

      by : (a e : Bool) → IsRest left (cond a (cond e (stops r (Some x.from) count AtEnd) (hear_on n b (Some x.from) (heard r x) (count + 1) xs)) (stops r p count AtStranger)).how
          → IsRest rest (cond a (cond e (stops r (Some x.from) count AtEnd) (hear_on n c (Some x.from) (heard r x) (count + 1) ys)) (stops r p count AtStranger)).how
          → cond a (cond e (stops r (Some x.from) count AtEnd) (hear_on n b (Some x.from) (heard r x) (count + 1) xs)) (stops r p count AtStranger)
          ≡ cond a (cond e (stops r (Some x.from) count AtEnd) (hear_on n c (Some x.from) (heard r x) (count + 1) ys)) (stops r p count AtStranger)
      by false e k l = refl
      by true true k l = refl
      by true false k l =
          again b c (Some x.from) (heard r x) (count + 1) (flat_map frame xs ++ left) left rest xs ys (record { whole = refl; each = s.each.1 }) k (record { whole = same.behind; each = t.each.1 }) l

  hears_once : (n : ℕ) → Once n
  hears_once zero b c p r count bytes left rest xs ys s k t l = refl
  hears_once (suc n) b c p r count bytes left rest [] [] s k t l =
      ap (stops r p count) (same_rest left b c k (subst (λ bs. IsRest bs (how_behind c)) (sym t.whole ∙ s.whole) l))
  hears_once (suc n) b c p r count bytes left rest [] (y ∷ ys) s k t l = absurd (not_both bytes rest y ys (subst IsSure (sym s.whole) (rest_fault left b k)) t)
  hears_once (suc n) b c p r count bytes left rest (x ∷ xs) [] s k t l = absurd (not_both bytes left x xs (subst IsSure (sym t.whole) (rest_fault rest c l)) s)
  hears_once (suc n) b c p r count bytes left rest (x ∷ xs) (y ∷ ys) s k t l =
      let same = (same_front bytes left rest x y xs ys s t).packet in
      let both = subst (λ (z : Packet). Splits bytes (z ∷ ys) rest × IsRest rest (hear_on (suc n) c p r count (z ∷ ys)).how) (sym same) (t, l) in
      packet_once n (hears_once n) b c p r count bytes left rest x xs ys s k both.0 both.1 ∙ ap (λ z. hear_on (suc n) c p r count (z ∷ ys)) same

  pub heard_once : (most : ℕ) (r : Role) (bytes : List ℕ) (came other : Came) → Gives bytes came.packets (hear_all most r came).how → Gives bytes other.packets (hear_all most r other).how → hear_all most r came ≡ hear_all most r other
  heard_once most r bytes came other g h = hears_once most came.behind other.behind None r 0 bytes g.left h.left came.packets other.packets g.splits g.rest h.splits h.rest
