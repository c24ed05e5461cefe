use Rattle.std.proofs.Common.{◌≡◌, ◌+◌, ◌++◌, ◌∷◌, [], List, get_or, refl, sym, subst, arith}
use Rattle.std.proofs.lemmas.List.{get_or_read}
use Rattle.fuxi_master.specs.Cores.{StandsFor}
use Rattle.master_desk.specs.declared.entry.Entry.{Entry}
use Rattle.master_desk.specs.CallOrders.{IsCallOf, times}
use Rattle.master_desk.specs.Books.{BookRecord, Counts, order_in}
use Rattle.master_desk.proofs.CallBytesLemmas.{may_hear}
use Rattle.master_desk.proofs.BooksLemmas.{enters, gone_as, grows_more, next_small, number_is_next, place_there}
use Rattle.master_desk.proofs.book.Book.enter.Goals as goal

pub overflow_add-number : goal.overflow_add-number
overflow_add-number c =
    let x : BookRecord = record { sessions = c.self.inside.sessions.value; opening = c.self.inside.opening.value; journal = c.self.inside.journal.items; master = c.self.inside.seat } in
    let call = subst (λ (b : BookRecord). IsCallOf b.sessions c.args.session (times c.args.session (order_in b.journal)) c.args.call) (sym c.self.view_is) c.requires.call in
    let there = place_there c.self.inside.taken.items x c.args.session _ c.self.invariant.0 c.self.invariant.1 call.there in
    let read : c.index.result.now ≡ get_or c.self.inside.taken.items c.args.session 0 = get_or_read c.self.inside.taken.items c.args.session c.index.result.now there c.index.ensures 0 in
    let small = next_small c.self.inside.taken.items x c.args.session c.self.invariant.0 c.self.invariant.1 call.there in
    record { fits = omega (arith, read, small) }

pub hear_call-requires-clause-call : goal.hear_call-requires-clause-call
hear_call-requires-clause-call c = may_hear _ c.args.call c.requires.call.says

pub invariant_of-self-in-Err-push : goal.invariant_of-self-in-Err-push
invariant_of-self-in-Err-push c =
    let x : BookRecord = record { sessions = c.self.inside.sessions.value; opening = c.self.inside.opening.value; journal = c.self.inside.journal.items; master = c.self.inside.seat } in
    (gone_as x c.push.new.self.items c.take.new.self c.self.invariant.0 c.in-Err-push.ensures.items c.take.ensures.after, subst (λ (j : List Entry). Counts c.self.inside.taken.items j) (sym c.in-Err-push.ensures.items) c.self.invariant.1)

pub returns-in-Err-push-clause-runs : goal.returns-in-Err-push-clause-runs
returns-in-Err-push-clause-runs c r s =
    let x : BookRecord = record { sessions = c.self.inside.sessions.value; opening = c.self.inside.opening.value; journal = c.self.inside.journal.items; master = c.self.inside.seat } in
    (gone_as x c.push.new.self.items c.take.new.self c.self.invariant.0 c.in-Err-push.ensures.items c.take.ensures.after).runs r (subst (λ (b : BookRecord). StandsFor b.opening.core r) (sym c.self.view_is) s)

pub returns-in-Err-push-clause-fits : goal.returns-in-Err-push-clause-fits
returns-in-Err-push-clause-fits c =
    let x : BookRecord = record { sessions = c.self.inside.sessions.value; opening = c.self.inside.opening.value; journal = c.self.inside.journal.items; master = c.self.inside.seat } in
    (gone_as x c.push.new.self.items c.take.new.self c.self.invariant.0 c.in-Err-push.ensures.items c.take.ensures.after).fits

pub invariant_of-self-2 : goal.invariant_of-self-2
invariant_of-self-2 c =
    let x : BookRecord = record { sessions = c.self.inside.sessions.value; opening = c.self.inside.opening.value; journal = c.self.inside.journal.items; master = c.self.inside.seat } in
    let call = subst (λ (b : BookRecord). IsCallOf b.sessions c.args.session (times c.args.session (order_in b.journal)) c.args.call) (sym c.self.view_is) c.requires.call in
    let e : Entry = record { session = c.args.session; call = c.index.result.now + 1; words = c.in-Ok.after.1; heads = c.in-Ok.after.2 } in
    enters x c.self.inside.taken.items c.in-Some.master c.in-Ok.after.0 c.args.call e c.index.result.now c.push.new.self.items c.self.invariant.0 c.self.invariant.1 (sym c.in-Some.ensures.value) call c.index.ensures refl c.in-Ok.ensures.hears c.in-Ok.ensures.steps c.in-Ok-push.ensures.items

pub returns-clause-runs : goal.returns-clause-runs
returns-clause-runs c r s =
    let x : BookRecord = record { sessions = c.self.inside.sessions.value; opening = c.self.inside.opening.value; journal = c.self.inside.journal.items; master = c.self.inside.seat } in
    let call = subst (λ (b : BookRecord). IsCallOf b.sessions c.args.session (times c.args.session (order_in b.journal)) c.args.call) (sym c.self.view_is) c.requires.call in
    let e : Entry = record { session = c.args.session; call = c.index.result.now + 1; words = c.in-Ok.after.1; heads = c.in-Ok.after.2 } in
    let now = enters x c.self.inside.taken.items c.in-Some.master c.in-Ok.after.0 c.args.call e c.index.result.now c.push.new.self.items c.self.invariant.0 c.self.invariant.1 (sym c.in-Some.ensures.value) call c.index.ensures refl c.in-Ok.ensures.hears c.in-Ok.ensures.steps c.in-Ok-push.ensures.items in
    now.0.runs r (subst (λ (b : BookRecord). StandsFor b.opening.core r) (sym c.self.view_is) s)

pub returns-clause-fits : goal.returns-clause-fits
returns-clause-fits c =
    let x : BookRecord = record { sessions = c.self.inside.sessions.value; opening = c.self.inside.opening.value; journal = c.self.inside.journal.items; master = c.self.inside.seat } in
    let call = subst (λ (b : BookRecord). IsCallOf b.sessions c.args.session (times c.args.session (order_in b.journal)) c.args.call) (sym c.self.view_is) c.requires.call in
    let e : Entry = record { session = c.args.session; call = c.index.result.now + 1; words = c.in-Ok.after.1; heads = c.in-Ok.after.2 } in
    (enters x c.self.inside.taken.items c.in-Some.master c.in-Ok.after.0 c.args.call e c.index.result.now c.push.new.self.items c.self.invariant.0 c.self.invariant.1 (sym c.in-Some.ensures.value) call c.index.ensures refl c.in-Ok.ensures.hears c.in-Ok.ensures.steps c.in-Ok-push.ensures.items).0.fits

pub returns-clause-entered : goal.returns-clause-entered
returns-clause-entered c =
    let x : BookRecord = record { sessions = c.self.inside.sessions.value; opening = c.self.inside.opening.value; journal = c.self.inside.journal.items; master = c.self.inside.seat } in
    let call = subst (λ (b : BookRecord). IsCallOf b.sessions c.args.session (times c.args.session (order_in b.journal)) c.args.call) (sym c.self.view_is) c.requires.call in
    let e : Entry = record { session = c.args.session; call = c.index.result.now + 1; words = c.in-Ok.after.1; heads = c.in-Ok.after.2 } in
    record {
      entry = e;
      is_of = refl;
      number = subst (λ (b : BookRecord). c.index.result.now + 1 ≡ times c.args.session (order_in b.journal) + 1) c.self.view_is (number_is_next x c.self.inside.taken.items c.args.session c.index.result.now _ c.self.invariant.0 c.self.invariant.1 call.there c.index.ensures);
      journal = subst (λ (b : BookRecord). c.push.new.self.items ≡ b.journal ++ e ∷ []) c.self.view_is c.in-Ok-push.ensures.items;
      here = refl;
    }

pub returns-clause-grows : goal.returns-clause-grows
returns-clause-grows c =
    let e : Entry = record { session = c.args.session; call = c.index.result.now + 1; words = c.in-Ok.after.1; heads = c.in-Ok.after.2 } in
    grows_more c.args.self.now.journal c.push.new.self.items e (subst (λ (b : BookRecord). c.push.new.self.items ≡ b.journal ++ e ∷ []) c.self.view_is c.in-Ok-push.ensures.items)
