-- The value of a line, and which clusters are read.
use Rattle.std.proofs.Common.{◌≡◌, ℕ, List, take, Some, None, inl, inr, sym, ap, ◌∙◌}
use Rattle.std.specs.Str.{IsUtf8, is_utf8}
use Rattle.std.proofs.lemmas.Bool.{cond-true, cond-false, cases_Bool}
use Rattle.std.proofs.lemmas.Str.{IsUtf8-from_is_utf8, is_utf8-from_IsUtf8}
use Rattle.serde_json.specs.Data.{Data}
use Rattle.serde_json.specs.Read.{read}
use Rattle.fuxi_terms.specs.Vectors.{fits}
use Rattle.fuxi_terms.specs.Padded.{padded}
use Rattle.fuxi_terms.proofs.VectorLaws.{fits-padded}
use Rattle.cluster_desc.specs.ClusterLine.{value_of}

pub value_of-some : (line : List ℕ) (d : Data) → IsUtf8 line → read line ≡ Some d → value_of line ≡ Some d
unfolding value_of
value_of-some line d u r = cond-true (is_utf8 line) (read line) None (is_utf8-from_IsUtf8 line u) ∙ r

pub value_of-none : (line : List ℕ) → (IsUtf8 line → read line ≡ None) → value_of line ≡ None
unfolding value_of
value_of-none line h = elim (cases_Bool (is_utf8 line)) [
  | inl t ↦ cond-true (is_utf8 line) (read line) None t ∙ h (IsUtf8-from_is_utf8 line t)
  | inr f ↦ cond-false (is_utf8 line) (read line) None f
]

-- to fit is the same with the zeros behind
pub fits_taken : (n : ℕ) (a b : List ℕ) → padded (take n a) ≡ a → padded (take n b) ≡ b → fits a b ≡ fits (take n a) (take n b)
fits_taken n a b h k =
    ap (λ x. fits x b) (sym h) ∙ ap (λ y. fits (padded (take n a)) y) (sym k) ∙ fits-padded (take n a) (take n b)
