-- Lines that are printed one behind the other, each with its text, whatever frames say.
use Rattle.std.specs.Prelude.{OnOk}
use Rattle.std.specs.Option.{unwrap_or}
use Rattle.std.proofs.Common.{Result, Ok, Err, ◌≡◌, ℕ, zero, suc, ◌+◌, ◌<◌, List, take, arith, take_all, [], ◌∷◌, ◌++◌, length, Option, Some, slice_get, refl, sym, ◌∙◌, ap, subst, append_assoc, append-nil}
use Rattle.std.specs.List.{flat_map}
use Rattle.std.proofs.Math.Seq.{take-append_seam}
use Rattle.std.proofs.lemmas.List.Concat.{flat_map-append}
use Rattle.fuxi_terms.proofs.Lists.{take_last}
use Rattle.spec_world.specs.Outputs.{Line}

-- What was there is there still
pub begins_then : (a b c : List ℕ) → take (length a) b ≡ a → take (length b) c ≡ b → take (length a) c ≡ a
begins_then [] b c h k = refl
begins_then (x ∷ a) [] c h k = cc
begins_then (x ∷ a) (y ∷ b) [] h k = cc
begins_then (x ∷ a) (y ∷ b) (z ∷ c) h k =
    let first : z ≡ x = cc in
    let had : take (length a) b ≡ a = cc in
    let has : take (length b) c ≡ b = cc in
    let rest : take (length a) c ≡ a = begins_then a b c had has in
    λ i. first i ∷ rest i

-- what follows from what holds at Ok
pub then_ok : {A E : Type 0} {P Q : Type 0} (r : Result A E) → OnOk r P → (P → Q) → OnOk r Q
then_ok (Ok x) h f = f h
then_ok (Err e) h f = tt

-- Items of a list
pub item_at : {A : Type 0} (xs : List A) (i : ℕ) → i < length xs → (e : A) × (slice_get xs i ≡ Some e)
item_at [] i lt = absurd (omega (arith, lt))
item_at (x ∷ xs) zero lt = (x, refl)
item_at (x ∷ xs) (suc i) lt = item_at xs i (omega (arith, lt))

pub one_item : {A : Type 0} (found : Option A) (x y : A) → found ≡ Some x → found ≡ Some y → x ≡ y
one_item found x y is same = ap (λ o. unwrap_or o x) (sym is ∙ same)

module _ {F : Type 0} (text : F → Line → List ℕ) where
  -- the texts of these lines were appended
  abbrev pub ShowsAs : List Line → List ℕ → List ℕ → Type 0
  ShowsAs lines before after = (frame : F) → after ≡ before ++ flat_map (text frame) lines

  pub shows_none : (a : List ℕ) → ShowsAs [] a a
  shows_none a = λ frame. sym (append-nil a)

  -- lines, and then others
  pub shows_then : (as_ bs : List Line) (a b c : List ℕ) → ShowsAs as_ a b → ShowsAs bs b c → ShowsAs (as_ ++ bs) a c
  shows_then as_ bs a b c h k = λ frame. k frame ∙ ap (λ l. l ++ flat_map (text frame) bs) (h frame) ∙ append_assoc a (flat_map (text frame) as_) (flat_map (text frame) bs)
      ∙ ap (λ l. a ++ l) (sym (flat_map-append (text frame) as_ bs))

  -- the same lines
  pub shows_same : (as_ bs : List Line) (a b : List ℕ) → as_ ≡ bs → ShowsAs as_ a b → ShowsAs bs a b
  shows_same as_ bs a b e h = λ frame. h frame ∙ ap (λ ls. a ++ flat_map (text frame) ls) e

  pub begins_shown : F → (ls : List Line) (a b : List ℕ) → ShowsAs ls a b → take (length a) b ≡ a
  begins_shown any ls a b h = subst (λ l. take (length a) l ≡ a) (sym (h any)) (take-append_seam a (flat_map (text any) ls))

  -- the lines of one item more, which is known or is there
  pub shows_one : {A : Type 0} (f : A → List Line) (xs : List A) (i : ℕ) (x : A) (a b c : List ℕ) → slice_get xs i ≡ Some x → ShowsAs (flat_map f (take i xs)) a b → ShowsAs (f x) b c → ShowsAs (flat_map f (take (i + 1) xs)) a c
  shows_one f xs i x a b c at h k = shows_same (flat_map f (take i xs) ++ f x) (flat_map f (take (i + 1) xs)) a c
      (sym (ap (flat_map f) (take_last xs i x at) ∙ flat_map-append f (take i xs) (x ∷ []) ∙ ap (λ l. flat_map f (take i xs) ++ l) (append-nil (f x)))) (shows_then (flat_map f (take i xs)) (f x) a b c h k)

  pub shows_item : {A : Type 0} (f : A → List Line) (xs : List A) (i : ℕ) (a b c : List ℕ) → i < length xs → ShowsAs (flat_map f (take i xs)) a b → ((e : A) → slice_get xs i ≡ Some e → ShowsAs (f e) b c) → ShowsAs (flat_map f (take (i + 1) xs)) a c
  shows_item f xs i a b c lt h k = let at = item_at xs i lt in shows_one f xs i at.0 a b c at.1 h (k at.0 at.1)

  -- the lines of all items
  pub shows_all : {A : Type 0} (f : A → List Line) (xs : List A) (i : ℕ) (a b : List ℕ) → i ≡ length xs → ShowsAs (flat_map f (take i xs)) a b → ShowsAs (flat_map f xs) a b
  shows_all f xs i a b all h = shows_same (flat_map f (take i xs)) (flat_map f xs) a b (ap (λ n. flat_map f (take n xs)) all ∙ ap (flat_map f) (take_all (length xs) xs (omega arith))) h
