-- What each connection of a door over memory took.
use Rattle.std.proofs.Common.{◌≡◌, ℕ, suc, ◌+◌, ◌-◌, ◌<◌, ◌≤◌, Bool, true, false, nat_eq, List, [], ◌∷◌, length, take, drop, reverse, get_or, length-take, length-drop, cond, refl, sym, ap, ◌∙◌, arith}
use Rattle.std.proofs.lemmas.Bool.Decides.{nat_tests}
use Rattle.std.proofs.lemmas.List.{take-take, take_all, drop-take, get_or-reverse, length-reverse}
use Rattle.fuxi_io.specs.Doors.{took_by}
use Rattle.fuxi_io.specs.MemoryDoors.{talks_of, AreCut, IsSpan}
use Rattle.fuxi_io.specs.declared.memory_door.Opened.{Opened}

-- where the bytes begin that the connection of this number took, counted from 0 at the oldest
abbrev begin_at : List Opened → ℕ → ℕ
begin_at [] number = 0
begin_at (c ∷ cs) number = cond (nat_eq number (length cs)) c.from (begin_at cs number)

as_many : (took : List ℕ) (cs : List Opened) → length (talks_of took cs) ≡ length cs
as_many took [] = refl
as_many took (c ∷ cs) = ap suc (as_many (take c.from took) cs)

-- the number of the newest, and every other one
took_here : (took : List ℕ) (c : Opened) (cs : List Opened) (k : ℕ) → k ≡ length cs → took_by (talks_of took (c ∷ cs)) k ≡ drop c.from took
took_here took c cs k is =
    let here : nat_eq k (length (talks_of (take c.from took) cs)) ≡ true = grind (arith, nat_tests, is, as_many (take c.from took) cs) in
    ap (λ b. cond b (drop c.from took) (took_by (talks_of (take c.from took) cs) k)) here

took_there : (took : List ℕ) (c : Opened) (cs : List Opened) (k : ℕ) → k < length cs → took_by (talks_of took (c ∷ cs)) k ≡ took_by (talks_of (take c.from took) cs) k
took_there took c cs k less =
    let there : nat_eq k (length (talks_of (take c.from took) cs)) ≡ false = grind (arith, nat_tests, less, as_many (take c.from took) cs) in
    ap (λ b. cond b (drop c.from took) (took_by (talks_of (take c.from took) cs) k)) there

begin_here : (c : Opened) (cs : List Opened) (k : ℕ) → k ≡ length cs → begin_at (c ∷ cs) k ≡ c.from
begin_here c cs k is = let here : nat_eq k (length cs) ≡ true = grind (arith, nat_tests, is) in ap (λ b. cond b c.from (begin_at cs k)) here

begin_there : (c : Opened) (cs : List Opened) (k : ℕ) → k < length cs → begin_at (c ∷ cs) k ≡ begin_at cs k
begin_there c cs k less = let there : nat_eq k (length cs) ≡ false = grind (arith, nat_tests, less) in ap (λ b. cond b c.from (begin_at cs k)) there

-- the newest has all bytes from its place on
newest : (took : List ℕ) (cs : List Opened) (k : ℕ) → k + 1 ≡ length cs → took_by (talks_of took cs) k ≡ drop (begin_at cs k) took
newest took [] k is = absurd (omega (arith, is))
newest took (c ∷ cs) k is =
    let here : k ≡ length cs = omega (arith, is) in
    took_here took c cs k here ∙ ap (λ n. drop n took) (sym (begin_here c cs k here))

-- every place is among the bytes
begins_within : (end : ℕ) (cs : List Opened) (k : ℕ) → AreCut end cs → k < length cs → begin_at cs k ≤ end
begins_within end [] k cut less = absurd (omega (arith, less))
begins_within end (c ∷ cs) k cut less = by (nat_eq k (length cs)) refl (λ more. begins_within c.from cs k cut.1 more)
  where
    by : (b : Bool) → nat_eq k (length cs) ≡ b → (k < length cs → begin_at cs k ≤ c.from) → cond b c.from (begin_at cs k) ≤ end
    by true is rest = cut.0
    by false is rest = omega (arith, cut.0, rest (grind (arith, nat_tests, is, less)))

-- every place is before that of the next connection
begins_before : (end : ℕ) (cs : List Opened) (k : ℕ) → AreCut end cs → k + 1 < length cs → begin_at cs k ≤ begin_at cs (k + 1)
begins_before end [] k cut less = absurd (omega (arith, less))
begins_before end (c ∷ cs) k cut less = by (nat_eq (k + 1) (length cs)) refl (begins_within c.from cs k cut.1 (omega (arith, less))) (λ more. begins_before c.from cs k cut.1 more)
  where
    front : begin_at (c ∷ cs) k ≡ begin_at cs k
    front = begin_there c cs k (omega (arith, less))

    by : (b : Bool) → nat_eq (k + 1) (length cs) ≡ b → begin_at cs k ≤ c.from → (k + 1 < length cs → begin_at cs k ≤ begin_at cs (k + 1)) → begin_at (c ∷ cs) k ≤ cond b c.from (begin_at cs (k + 1))
    by true is near far = omega (arith, front, near)
    by false is near far = omega (arith, front, far (grind (arith, nat_tests, is, less)))

cut_drop : (a b : ℕ) (xs : List ℕ) → a ≤ b → drop a (take b xs) ≡ take (b - a) (drop a xs)
cut_drop a b xs le = let split : b ≡ a + (b - a) = omega (arith, le) in ap (λ n. drop a (take n xs)) split ∙ drop-take a (b - a) xs

-- any other has the bytes up to the place of the next one
earlier : (took : List ℕ) (end : ℕ) (cs : List Opened) (k : ℕ) → end ≡ length took → AreCut end cs → k + 1 < length cs
    → took_by (talks_of took cs) k ≡ take (begin_at cs (k + 1) - begin_at cs k) (drop (begin_at cs k) took)
earlier took end [] k all cut less = absurd (omega (arith, less))
earlier took end (c ∷ cs) k all cut less =
    took_there took c cs k (omega (arith, less)) ∙ by (nat_eq (k + 1) (length cs)) refl (λ more. earlier (take c.from took) c.from cs k long cut.1 more)
  where
    a : ℕ
    a = begin_at cs k

    near : a ≤ c.from
    near = begins_within c.from cs k cut.1 (omega (arith, less))

    front : begin_at (c ∷ cs) k ≡ a
    front = begin_there c cs k (omega (arith, less))

    long : c.from ≡ length (take c.from took)
    long = omega (arith, length-take c.from took, all, cut.0)

    by : (b : Bool) → nat_eq (k + 1) (length cs) ≡ b
        → (k + 1 < length cs → took_by (talks_of (take c.from took) cs) k ≡ take (begin_at cs (k + 1) - a) (drop a (take c.from took)))
        → took_by (talks_of (take c.from took) cs) k ≡ take (cond b c.from (begin_at cs (k + 1)) - begin_at (c ∷ cs) k) (drop (begin_at (c ∷ cs) k) took)
    by true is rest =
        newest (take c.from took) cs k (grind (arith, nat_tests, is)) ∙ cut_drop a c.from took near ∙ ap (λ n. take (c.from - n) (drop n took)) (sym front)
    by false is rest =
        let more : k + 1 < length cs = grind (arith, nat_tests, is, less) in
        let b = begin_at cs (k + 1) in
        let far : b ≤ c.from = begins_within c.from cs (k + 1) cut.1 more in
        rest more ∙ ap (λ l. take (b - a) l) (cut_drop a c.from took near) ∙ take-take (b - a) (c.from - a) (drop a took) (omega (arith, far))
        ∙ ap (λ n. take (b - n) (drop n took)) (sym front)

begin_read : (cs : List Opened) (k : ℕ) (d : Opened) → k < length cs → begin_at cs k ≡ (get_or cs (length cs - 1 - k) d).from
begin_read [] k d less = absurd (omega (arith, less))
begin_read (c ∷ cs) k d less = by (nat_eq k (length cs)) refl (λ more. begin_read cs k d more)
  where
    by : (b : Bool) → nat_eq k (length cs) ≡ b → (k < length cs → begin_at cs k ≡ (get_or cs (length cs - 1 - k) d).from)
        → cond b c.from (begin_at cs k) ≡ (get_or (c ∷ cs) (suc (length cs) - 1 - k) d).from
    by true is rest = let first : suc (length cs) - 1 - k ≡ 0 = grind (arith, nat_tests, is) in ap (λ n. (get_or (c ∷ cs) n d).from) (sym first)
    by false is rest =
        let more : k < length cs = grind (arith, nat_tests, is, less) in
        let next : suc (length cs) - 1 - k ≡ suc (length cs - 1 - k) = omega (arith, more) in
        rest more ∙ ap (λ n. (get_or (c ∷ cs) n d).from) (sym next)

-- of the last connection and the earlier ones, the oldest first
begin_past : (last : Opened) (past : List Opened) (k : ℕ) (d : Opened) → k < length past → begin_at (last ∷ reverse past) k ≡ (get_or past k d).from
begin_past last past k d less =
    let n = length past in
    let many : length (reverse past) ≡ n = length-reverse past in
    let back : n - 1 - (n - 1 - k) ≡ k = omega (arith, less) in
    let place : length (reverse past) - 1 - k ≡ n - 1 - k = omega (arith, many) in
    begin_there last (reverse past) k (omega (arith, less, many)) ∙ begin_read (reverse past) k d (omega (arith, less, many))
    ∙ ap (λ i. (get_or (reverse past) i d).from) place ∙ ap (λ c. c.from) (get_or-reverse past (n - 1 - k) d (omega (arith, less))) ∙ ap (λ i. (get_or past i d).from) back

-- the spans of the last one, of the one before it, and of any other
pub span_last : (count : ℕ) (last : Opened) (past : List Opened) (k : ℕ) → AreCut count (last ∷ reverse past) → k ≡ length past → IsSpan count (last ∷ reverse past) k last.from count
span_last count last past k cut is = record {
  rises = cut.0;
  within = omega arith;
  took = λ bytes long.
      let here : k ≡ length (reverse past) = omega (arith, is, length-reverse past) in
      took_here bytes last (reverse past) k here ∙ sym (take_all (count - last.from) (drop last.from bytes) (omega (arith, length-drop last.from bytes, long)));
}

span_between : (count : ℕ) (cs : List Opened) (k from end : ℕ) → AreCut count cs → k + 1 < length cs → begin_at cs k ≡ from → begin_at cs (k + 1) ≡ end → IsSpan count cs k from end
span_between count cs k from end cut less starts ends = record {
  rises = omega (arith, begins_before count cs k cut less, starts, ends);
  within = omega (arith, begins_within count cs (k + 1) cut less, ends);
  took = λ bytes long. earlier bytes count cs k (sym long) cut less ∙ ap (λ n. take (begin_at cs (k + 1) - n) (drop n bytes)) starts ∙ ap (λ n. take (n - from) (drop from bytes)) ends;
}

pub span_second : (count : ℕ) (last : Opened) (past : List Opened) (k : ℕ) (d : Opened) → AreCut count (last ∷ reverse past) → k + 1 ≡ length past
    → IsSpan count (last ∷ reverse past) k (get_or past k d).from last.from
span_second count last past k d cut is =
    span_between count (last ∷ reverse past) k (get_or past k d).from last.from cut (omega (arith, is, length-reverse past))
    (begin_past last past k d (omega (arith, is))) (begin_here last (reverse past) (k + 1) (omega (arith, is, length-reverse past)))

pub span_earlier : (count : ℕ) (last : Opened) (past : List Opened) (k : ℕ) (d e : Opened) → AreCut count (last ∷ reverse past) → k + 1 < length past
    → IsSpan count (last ∷ reverse past) k (get_or past k d).from (get_or past (k + 1) e).from
span_earlier count last past k d e cut less =
    span_between count (last ∷ reverse past) k (get_or past k d).from (get_or past (k + 1) e).from cut (omega (arith, less, length-reverse past))
    (begin_past last past k d (omega (arith, less))) (begin_past last past (k + 1) e less)

-- one that was not opened took nothing
pub took_none : (took : List ℕ) (cs : List Opened) (k : ℕ) → length cs ≤ k → took_by (talks_of took cs) k ≡ []
took_none took [] k most = refl
took_none took (c ∷ cs) k most =
    let past : nat_eq k (length (talks_of (take c.from took) cs)) ≡ false = grind (arith, nat_tests, most, as_many (take c.from took) cs) in
    ap (λ b. cond b (drop c.from took) (took_by (talks_of (take c.from took) cs) k)) past ∙ took_none (take c.from took) cs k (omega (arith, most))
