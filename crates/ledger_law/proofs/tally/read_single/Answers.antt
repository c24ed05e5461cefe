use Rattle.std.proofs.Common.{◌≡◌, ℕ, ◌<◌, ◌≤◌, ◌∷◌, [], sym, take, ◌∙◌, ap, arith, lit<, rules}
use Rattle.std.specs.Prelude.{unsigned_abs}
use Rattle.std.specs.Int.{from_be_bytes, cast_signed, w32, w64}
use Rattle.std.proofs.lemmas.Int.{to_z-of_z}
use Rattle.std.proofs.lemmas.List.Elements.{All-from_recursion}
use Rattle.fuxi_terms.specs.Counts.{is_no_change}
use Rattle.fuxi_terms.proofs.Booleans.{not_both}
use Rattle.ledger_law.specs.Forms.{change_entry, headed, IsChangeEntry}
use Rattle.ledger_law.proofs.NoForm.{not_single, not_changes}
use Rattle.ledger_law.proofs.tally.read_single.Goals.{then-change-eq0-via-then-change-eq0, then-change-eq0-via-else-change-eq0+then-unsigned_abs-greatest}
use Rattle.ledger_law.proofs.tally.read_single.Goals as goal

too_great : (n m a b : ℕ) → n ≡ a → m ≡ b → m < n → a ≤ b → ⊥
too_great n m a b n_is m_is lt le = omega arith

pub returns-then-from_be_bytes-ne1 : goal.returns-then-from_be_bytes-ne1
returns-then-from_be_bytes-ne1 g c =
    let number = c.from_be_bytes.ensures ∙ ap (from_be_bytes w32) (c.split_at-2.ensures.front ∙ ap (take 4) c.split_at.ensures.back) in
    not_single g.S.Shape.greatest_of g.met.S.Shape.bounded g.met.S.Shape.writable c.args.body.now c.from_be_bytes-head.result c.from_be_bytes.result c.requires number c.if-from_be_bytes-ne1.true

pub returns-then-change-eq0 : goal.returns-then-change-eq0
returns-then-change-eq0 g c =
    let found : c.args.body.now ≡ headed change_entry c.from_be_bytes-head.result (c.read-change.result ∷ []) = search rules in
    let fits = to_z-of_z w64 c.read-change.result.1 c.read-change.ensures.entry.value in
    not_changes g.S.Shape.greatest_of g.met.S.Shape.bounded g.met.S.Shape.writable c.args.body.now c.from_be_bytes-head.result (c.read-change.result ∷ []) (All-from_recursion IsChangeEntry (c.read-change.result ∷ []) (c.read-change.ensures.entry, tt)) (lit< tt) found
    (λ h. elim c.then-change-eq0.branch [
      | then-change-eq0-via-then-change-eq0 w ↦ not_both (is_no_change c.read-change.result.1) (ap is_no_change (sym fits ∙ ap (cast_signed w64) w.if-change-eq0.true)) h.changes.real.0
      | then-change-eq0-via-else-change-eq0+then-unsigned_abs-greatest w ↦ too_great _ _ _ _ (w.unsigned_abs.ensures.value ∙ ap unsigned_abs fits) w.greatest.ensures w.if-unsigned_abs-greatest.true h.within.0
    ])

pub returns : goal.returns
returns g c = (
  record {
    head = c.from_be_bytes-head.type_inv;
    entries = record {
      changes = record { sorted = search rules; real = search rules };
      within = search rules;
    };
  },
  search rules,
)
