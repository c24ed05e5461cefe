-- Lines that are written one after another.
use Rattle.std.proofs.Common.{◌≡◌, ℕ, ◌+◌, ◌<◌, List, [], ◌∷◌, ◌++◌, length, map, take, get_or, refl, sym, ◌∙◌, ap, add-one, append_assoc, append-nil}
use Rattle.std.specs.List.{flat_map}
use Rattle.std.proofs.Math.Seq.{take-suc}
use Rattle.std.proofs.lemmas.List.Concat.{flat_map-append}
use Rattle.fuxi_terms.specs.Lists.{below}
use Rattle.work_plan.specs.WorkLines.{Line, line_text, lines_text}

pub text_both : (xs ys : List Line) → lines_text (xs ++ ys) ≡ lines_text xs ++ lines_text ys
text_both xs ys = flat_map-append line_text xs ys

pub one_text : (x : Line) → lines_text (x ∷ []) ≡ line_text x
one_text x = append-nil (line_text x)

-- what was written, and more lines
pub text_then : (xs ys : List Line) (init out out' : List ℕ) → out ≡ init ++ lines_text xs → out' ≡ out ++ lines_text ys → out' ≡ init ++ lines_text (xs ++ ys)
text_then xs ys init out out' e f = f ∙ ap (λ o. o ++ lines_text ys) e ∙ append_assoc init (lines_text xs) (lines_text ys) ∙ ap (λ t. init ++ t) (sym (text_both xs ys))

pub flat_more : {A : Type 0} (f : ℕ → List A) (n : ℕ) → flat_map f (below (n + 1)) ≡ flat_map f (below n) ++ f n
flat_more f n = ap (λ k. flat_map f (below k)) (add-one n) ∙ flat_map-append f (below n) (n ∷ []) ∙ ap (λ xs. flat_map f (below n) ++ xs) (append-nil (f n))

pub text_more : (f : ℕ → List Line) (n : ℕ) (init out out' : List ℕ) → out ≡ init ++ lines_text (flat_map f (below n)) → out' ≡ out ++ lines_text (f n) → out' ≡ init ++ lines_text (flat_map f (below (n + 1)))
text_more f n init out out' e g = text_then (flat_map f (below n)) (f n) init out out' e g ∙ ap (λ xs. init ++ lines_text xs) (sym (flat_more f n))

-- lines of the items of a list
module _ {A : Type 0} (f : A → Line) where
  last_mapped : (ys : List A) (y : A) → map f (ys ++ y ∷ []) ≡ map f ys ++ f y ∷ []
  last_mapped [] y = refl
  last_mapped (z ∷ zs) y = ap (λ ws. f z ∷ ws) (last_mapped zs y)

  front : (xs : List A) (i : ℕ) (d : A) → i < length xs → take (i + 1) xs ≡ take i xs ++ get_or xs i d ∷ []
  front xs i d lt = ap (λ k. take k xs) (add-one i) ∙ take-suc xs i d lt

  pub text_item : (xs : List A) (i : ℕ) (d : A) (init out out' : List ℕ) → i < length xs → out ≡ init ++ lines_text (map f (take i xs)) → out' ≡ out ++ line_text (f (get_or xs i d)) → out' ≡ init ++ lines_text (map f (take (i + 1) xs))
  text_item xs i d init out out' lt e g =
      text_then (map f (take i xs)) (f (get_or xs i d) ∷ []) init out out' e (g ∙ ap (λ t. out ++ t) (sym (one_text (f (get_or xs i d))))) ∙ ap (λ ys. init ++ lines_text ys) (sym (ap (map f) (front xs i d lt) ∙ last_mapped (take i xs) (get_or xs i d)))
