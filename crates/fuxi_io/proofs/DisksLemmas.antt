-- A crash may leave what a read gives, and the file after the last sync.
use Rattle.std.proofs.Common.{◌≡◌, ◌⊎◌, ⊎_elim, ℕ, ◌+◌, ◌-◌, ◌<◌, ◌≤◌, false, List, ◌∷◌, ◌++◌, length, take, drop, slice_index, get_or, refl, ◌∙◌, ap, arith, append_assoc, length-append, length-take, length-drop}
use Rattle.std.proofs.lemmas.List.{get_or_append_left, get_or-append_right, get_or-take, get_or-drop}
use Rattle.std.proofs.lemmas.Bool.Decides.{nat_tests}
use Rattle.fuxi_io.specs.Disks.{Moment, IsImage, is_pending, synced_moment, overwritten, after_write}

pub read_is_image : (bytes : List ℕ) → IsImage (synced_moment bytes) bytes
read_is_image bytes = record { at_least = omega arith; at_most = omega arith; stays = λ place within still. refl }

pub synced_is_image : (m : Moment) → IsImage m m.bytes → IsImage m m.synced
synced_is_image m image = record { at_least = omega arith; at_most = image.at_least; stays = λ place within still. refl }

-- a place that is not pending after a write lies before it or behind it, and was not pending
outside : (at size place : ℕ) (ranges : List (ℕ × ℕ)) → is_pending ((at, size) ∷ ranges) place ≡ false → ((place < at) ⊎ (at + size ≤ place)) × (is_pending ranges place ≡ false)
outside at size place ranges still = grind (arith, nat_tests)

same_before : (file new : List ℕ) (at place : ℕ) → at ≤ length file → place < at → slice_index (overwritten file at new) place ≡ slice_index file place
same_before file new at place begins before =
    ap (λ l. slice_index l place) (append_assoc (take at file) new (drop (at + length new) file))
    ∙ get_or_append_left (take at file) (new ++ drop (at + length new) file) 0 place (omega (arith, begins, before, length-take at file))
    ∙ get_or-take at file place 0 before

same_behind : (file new : List ℕ) (at place : ℕ) → at ≤ length file → at + length new ≤ place → slice_index (overwritten file at new) place ≡ slice_index file place
same_behind file new at place begins behind =
    let end = at + length new in
    get_or-append_right (take at file ++ new) (drop end file) end place 0 (omega (arith, begins, length-append (take at file) new, length-take at file)) behind
    ∙ get_or-drop end file (place - end) 0 ∙ ap (λ n. get_or file n 0) (omega (arith, behind))

pub written_is_image : (m : Moment) (at : ℕ) (new : List ℕ) → at ≤ length m.bytes → IsImage m m.bytes → IsImage (after_write at new m) (overwritten m.bytes at new)
written_is_image m at new begins image = record {
  at_least =
      let end = at + length new in
      omega (arith, image.at_least, begins, length-append (take at m.bytes ++ new) (drop end m.bytes), length-append (take at m.bytes) new, length-take at m.bytes, length-drop end m.bytes);
  at_most = omega arith;
  stays = λ place within still.
      let parts = outside at (length new) place m.writes still in
      ⊎_elim (λ before. same_before m.bytes new at place begins before) (λ behind. same_behind m.bytes new at place begins behind) parts.0 ∙ image.stays place within parts.1;
}
