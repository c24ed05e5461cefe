-- What a sink took, where it may be known.
use Rattle.std.proofs.Common.{ℕ, List, [], ◌++◌, Option, None, Some, sym, ◌∙◌, ap, append_assoc, append-nil}
use Rattle.std.specs.Io.KnownBytes.{Appends}

pub appends_both : (a b c : Option (List ℕ)) (x y : List ℕ) → Appends a b x → Appends b c y → Appends a c (x ++ y)
appends_both None b c x y h k = tt
appends_both (Some p) None c x y h k = absurd h
appends_both (Some p) (Some q) None x y h k = absurd k
appends_both (Some p) (Some q) (Some r) x y h k = k ∙ ap (λ l. l ++ y) h ∙ append_assoc p x y

pub appends_none : (t : Option (List ℕ)) → Appends t t []
appends_none None = tt
appends_none (Some x) = sym (append-nil x)
