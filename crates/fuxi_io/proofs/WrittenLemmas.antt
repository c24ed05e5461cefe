-- Pieces that are written one after another.
use Rattle.std.proofs.Common.{◌≡◌, ℕ, ◌+◌, ◌<◌, List, [], ◌∷◌, ◌++◌, length, get_or, take, drop, map, Option, refl, sym, ◌∙◌, ap, subst, arith, append_assoc, drop-cons, add-one}
use Rattle.std.specs.List.{concat}
use Rattle.std.specs.Io.KnownBytes.{Appends}
use Rattle.std.proofs.lemmas.List.{length-append, take-append-le}
use Rattle.std.proofs.Math.Seq.{take-append-add}
use Rattle.fuxi_io.specs.Causes.{TakesPart}
use Rattle.fuxi_terms.proofs.AppendsLemmas.{appends_both, appends_none}
use Rattle.fuxi_io.specs.Written.{Written}

module _ {A : Type 0} (f : A → List ℕ) where
  next_piece : (ps : List A) (i : ℕ) (d : A) → i < length ps → concat (map f (drop i ps)) ≡ f (get_or ps i d) ++ concat (map f (drop (i + 1) ps))
  next_piece ps i d lt = ap (λ l. concat (map f l)) (drop-cons ps i d lt ∙ ap (λ n. get_or ps i d ∷ drop n ps) (sym (add-one i)))

  pub none_written : (ps : List A) (t : Option (List ℕ)) → Written (concat (map f ps)) (concat (map f ps)) t t
  none_written ps t = record { front = []; writes = appends_none t; whole = refl }

  pub more_written : (all : List ℕ) (ps : List A) (i : ℕ) (d : A) (a b c : Option (List ℕ)) → i < length ps → Written all (concat (map f (drop i ps))) a b → Appends b c (f (get_or ps i d)) → Written all (concat (map f (drop (i + 1) ps))) a c
  more_written all ps i d a b c lt w is = record {
    front = w.front ++ f (get_or ps i d);
    writes = appends_both a b c w.front (f (get_or ps i d)) w.writes is;
    whole = append_assoc w.front (f (get_or ps i d)) (concat (map f (drop (i + 1) ps))) ∙ ap (λ l. w.front ++ l) (sym (next_piece ps i d lt)) ∙ w.whole;
  }

  pub part_written : (all : List ℕ) (ps : List A) (i : ℕ) (d : A) (a b c : Option (List ℕ)) → i < length ps → Written all (concat (map f (drop i ps))) a b → TakesPart b c (f (get_or ps i d)) → TakesPart a c all
  part_written all ps i d a b c lt w is =
      let x = f (get_or ps i d) in
      let more = concat (map f (drop (i + 1) ps)) in
      let whole : w.front ++ (x ++ more) ≡ all = ap (λ l. w.front ++ l) (sym (next_piece ps i d lt)) ∙ w.whole in
      let taken : take (length w.front + is.0) all ≡ w.front ++ take is.0 x = ap (take (length w.front + is.0)) (sym whole) ∙ take-append-add w.front (x ++ more) is.0 ∙ ap (λ l. w.front ++ l) (take-append-le is.0 x more (omega (arith, is.1))) in
      let long = ap length (sym whole) in
      (length w.front + is.0, omega (arith, is.1, long, length-append w.front (x ++ more), length-append x more), subst (Appends a c) (sym taken) (appends_both a b c w.front (take is.0 x) w.writes is.2))
