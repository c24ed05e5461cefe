-- What is known of a line whose words are as many as its form wants, and which lines its first letter leaves.
use Rattle.std.proofs.Common.{◌≡◌, ℕ, zero, suc, ◌<◌, ◌≤◌, Bool, true, false, cond, ◌&&◌, nat_eq, List, [], ◌∷◌, length, map, drop, get_or, filter, Bor, Option, Some, None, Result, Ok, Err, ◌⊎◌, inl, inr, refl, sym, ap, ◌∙◌, arith}
use Rattle.std.proofs.lemmas.Bool.{cases_Bool}
use Rattle.std.proofs.lemmas.Bool.Decides.{nat_tests}
use Rattle.std.proofs.lemmas.Map.Views.{any-filter_same}
use Rattle.std.specs.List.{list_all, list_any, find, zip}
use Rattle.std.specs.Str.{bytes_eq}
use Rattle.schedule_text.specs.declared.event.LineFault.{LineFault}
use Rattle.schedule_text.specs.declared.event.LineFault.TheVariants.{UnknownWord, WrongCount}
use Rattle.schedule_text.specs.declared.form.Head.{Head}
use Rattle.schedule_text.specs.declared.form.Head.TheVariants.{Master, Stop, Agent, App, Submit, Finish, Ban, Unban, Begin, Preempt, Judge, Want, Near, Rack, Avoid, Back, TurnMaster, TurnAgent, TurnApp, ResyncMaster, ResyncAgent, ResyncApp, Deliver, DeliverRange, Dump, Show}
use Rattle.schedule_text.specs.LineForms.{Shape, heads, shape_of}
use Rattle.schedule_text.specs.ReadEvents.{begins, front, units_of, is_unit, has_count, is_head, head_of}

some_behind : (n : ℕ) (words : List (List ℕ)) → list_all is_unit (units_of (drop n words)) ≡ true → n < length words
some_behind zero [] h = cc
some_behind zero (w ∷ ws) h = omega arith
some_behind (suc n) [] h = cc
some_behind (suc n) (w ∷ ws) h = let more = some_behind n ws h in omega (arith, more)

-- a line with as many words as it must has words for its front
pub counted_front : (s : Shape) (words : List (List ℕ)) → has_count s words ≡ true → front s ≤ length words
counted_front s words h = by_units s.units h
  where
    by_units : (b : Bool) → elim b as (λ _. Bool) [ true ↦ list_all is_unit (units_of (drop (front s) words)) | false ↦ nat_eq (length words) (front s) ] ≡ true → front s ≤ length words
    by_units true e = let more = some_behind (front s) words e in omega (arith, more)
    by_units false e = grind (arith, nat_tests, e)

-- The first letter of the words of a line, and of those of a form
abbrev pub letter : List (List ℕ) → ℕ
letter words = get_or (get_or words 0 []) 0 0

pub first_letter : (words : List (Bor (List ℕ))) (other : Bor (List ℕ)) → 1 ≤ length words → letter (map (λ (w : Bor (List ℕ)). w.now) words) ≡ get_or (get_or words 0 other).now 0 0
first_letter [] other there = absurd (omega (arith, there))
first_letter (w ∷ ws) other there = refl

some_letter : (h : Head) → 1 ≤ letter (shape_of h).words
some_letter Master = omega arith
some_letter Stop = omega arith
some_letter Agent = omega arith
some_letter App = omega arith
some_letter Submit = omega arith
some_letter Finish = omega arith
some_letter Ban = omega arith
some_letter Unban = omega arith
some_letter Begin = omega arith
some_letter Preempt = omega arith
some_letter Judge = omega arith
some_letter Want = omega arith
some_letter Near = omega arith
some_letter Rack = omega arith
some_letter Avoid = omega arith
some_letter Back = omega arith
some_letter TurnMaster = omega arith
some_letter TurnAgent = omega arith
some_letter TurnApp = omega arith
some_letter ResyncMaster = omega arith
some_letter ResyncAgent = omega arith
some_letter ResyncApp = omega arith
some_letter Deliver = omega arith
some_letter DeliverRange = omega arith
some_letter Dump = omega arith
some_letter Show = omega arith

-- words that begin with different letters differ
pub other_words : (first words : List (List ℕ)) → 1 ≤ letter first → 1 ≤ length words → nat_eq (letter first) (letter words) ≡ false → list_all (λ p. bytes_eq p.0 p.1) (zip first words) ≡ false
other_words [] words some there ne = absurd (omega (arith, some))
other_words ([] ∷ fs) words some there ne = absurd (omega (arith, some))
other_words ((c ∷ f) ∷ fs) [] some there ne = absurd (omega (arith, there))
other_words ((c ∷ f) ∷ fs) ([] ∷ ws) some there ne = refl
other_words ((c ∷ f) ∷ fs) ((b ∷ w) ∷ ws) some there ne = ap (λ t. (t && bytes_eq f w) && list_all (λ p. bytes_eq p.0 p.1) (zip fs ws)) ne

-- Where each line that is left out fails the test, the first one that does not is the same
kept_step : (test : Head → Bool) (h : Head) (b : Bool) (kept hs : List Head) → (b ≡ false → test h ≡ false) → find test kept ≡ find test hs → find test (cond b (h ∷ kept) kept) ≡ find test (h ∷ hs)
kept_step test h true kept hs out more = ap {A = Option Head} (λ o. cond (test h) (Some h) o) more
kept_step test h false kept hs out more = more ∙ sym (ap (λ t. cond t (Some h) (find test hs)) (out refl))

find_kept : (test keep : Head → Bool) → ((h : Head) → keep h ≡ false → test h ≡ false) → (hs : List Head) → find test (filter keep hs) ≡ find test hs
find_kept test keep out [] = refl
find_kept test keep out (h ∷ hs) = kept_step test h (keep h) (filter keep hs) hs (out h) (find_kept test keep out hs)

-- So the lines of one letter give what all of them give
module _ (l : ℕ) (words : List (List ℕ)) (there : 1 ≤ length words) (is : letter words ≡ l) where
  abbrev keep : Head → Bool
  keep h = nat_eq (letter (shape_of h).words) l

  out : (h : Head) → keep h ≡ false → begins (shape_of h) words ≡ false
  out h ne = other_words (shape_of h).words words (some_letter h) there (ap (nat_eq (letter (shape_of h).words)) is ∙ ne)

  kept : (h : Head) → begins (shape_of h) words ≡ true → keep h ≡ true
  kept h begun = elim (cases_Bool (keep h)) [
    | inl t ↦ t
    | inr f ↦ absurd (let other = out h f in let no : ⊥ = cc in no)
  ]

  abbrev told : Option Head → Bool → Result Head LineFault
  told o b = elim o [ Some h ↦ Ok h | None ↦ Err (cond b WrongCount UnknownWord) ]

  of_letter : head_of (filter keep heads) words ≡ head_of heads words
  of_letter =
      ap (λ o. told o (list_any (λ h. begins (shape_of h) words) (filter keep heads))) (find_kept (is_head words) keep (λ h ne. ap (λ b. b && has_count (shape_of h) words) (out h ne)) heads)
      ∙ ap (told (find (is_head words) heads)) (any-filter_same (λ h. begins (shape_of h) words) keep true kept heads)

  pub head_among : (hs : List Head) → (hs ≡ heads) ⊎ (hs ≡ filter keep heads) → head_of hs words ≡ head_of heads words
  head_among hs (inl e) = ap (λ hs. head_of hs words) e
  head_among hs (inr e) = ap (λ hs. head_of hs words) e ∙ of_letter
