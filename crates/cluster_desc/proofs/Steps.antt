-- Tests one after another, and a test of each value of an array.
use Rattle.std.proofs.Common.{◌≡◌, ℕ, ◌+◌, ◌<◌, ◌≤◌, List, [], ◌∷◌, ◌++◌, length, get_or, drop, Result, Ok, Err, refl, sym, ap, subst, ◌∙◌, add-one}
use Rattle.std.proofs.lemmas.List.{append-nil, append_assoc, drop_more, drop_all}
use Rattle.serde_json.specs.Data.{Data}
use Rattle.serde_json.specs.View.{view, items_view}
use Rattle.serde_json.specs.declared.value.Value.{Value}
use Rattle.cluster_desc.specs.declared.fault.ClusterFault.{ClusterFault}
use Rattle.cluster_desc.specs.declared.fault.ClusterFault.TheVariants.{NotJson, WrongKind, UnknownKey, MissingKey, Count, LengthDiffers, QuantityRange, QuotaOverLimit, OutOfMemory}
use Rattle.cluster_desc.specs.Faults.{◌>>=◌, IsFault}
use Rattle.cluster_desc.specs.ClusterLine.{count_of, each}

-- a fault ends the tests
pub fault_bind : {A B : Type 0} (r : Result A ClusterFault) (f : A → Result B ClusterFault) (e : ClusterFault) → IsFault r e → IsFault (r >>= f) e
fault_bind r f NotJson h = ap (λ x. x >>= f) h
fault_bind r f (WrongKind k) h = ap (λ x. x >>= f) h
fault_bind r f UnknownKey h = ap (λ x. x >>= f) h
fault_bind r f (MissingKey k) h = ap (λ x. x >>= f) h
fault_bind r f (Count k) h = ap (λ x. x >>= f) h
fault_bind r f LengthDiffers h = ap (λ x. x >>= f) h
fault_bind r f QuantityRange h = ap (λ x. x >>= f) h
fault_bind r f (QuotaOverLimit g) h = ap (λ x. x >>= f) h
fault_bind r f OutOfMemory h = tt

-- a fault that is the outcome's
pub fault_is : {A : Type 0} (r : Result A ClusterFault) (e : ClusterFault) → r ≡ Err e → IsFault r e
fault_is r NotJson h = h
fault_is r (WrongKind k) h = h
fault_is r UnknownKey h = h
fault_is r (MissingKey k) h = h
fault_is r (Count k) h = h
fault_is r LengthDiffers h = h
fault_is r QuantityRange h = h
fault_is r (QuotaOverLimit g) h = h
fault_is r OutOfMemory h = tt

-- what the rest gives, behind what the values so far gave
abbrev pub behind : {A : Type 0} → List A → Result (List A) ClusterFault → Result (List A) ClusterFault
behind front rest = rest >>= λ as_. Ok (front ++ as_)

pub each_none : {A : Type 0} (whole : Result (List A) ClusterFault) → whole ≡ behind [] whole
each_none (Ok as_) = refl
each_none (Err e) = refl

behind_more : {A : Type 0} (front : List A) (a : A) (rest : Result (List A) ClusterFault) → behind front (rest >>= λ as_. Ok (a ∷ as_)) ≡ behind (front ++ a ∷ []) rest
behind_more front a (Ok as_) = ap Ok (sym (append_assoc front (a ∷ []) as_))
behind_more front a (Err e) = refl

-- one value more
pub each_more : {A : Type 0} (f : ℕ → Data → Result A ClusterFault) (whole : Result (List A) ClusterFault) (front : List A) (vs : List Value) (i : ℕ) (v : Value) (a : A) → i < length vs → v ≡ get_or vs i v → f i (view v) ≡ Ok a → whole ≡ behind front (each f i (items_view (drop i vs))) → whole ≡ behind (front ++ a ∷ []) (each f (i + 1) (items_view (drop (i + 1) vs)))
each_more f whole front vs i v a l e h w =
    let d = drop_more vs i v l in
    let s : drop i vs ≡ v ∷ drop (i + 1) vs = d ∙ ap (λ x. x ∷ drop (i + 1) vs) (sym e) in
    w ∙ ap (λ xs. behind front (each f i (items_view xs))) s
    ∙ ap (λ r. behind front (r >>= λ x. each f (i + 1) (items_view (drop (i + 1) vs)) >>= λ as_. Ok (x ∷ as_))) h
    ∙ behind_more front a (each f (i + 1) (items_view (drop (i + 1) vs)))

-- the first value that fails
pub each_fails : {A : Type 0} (f : ℕ → Data → Result A ClusterFault) (whole : Result (List A) ClusterFault) (front : List A) (vs : List Value) (i : ℕ) (v : Value) (e : ClusterFault) → i < length vs → v ≡ get_or vs i v → IsFault (f i (view v)) e → whole ≡ behind front (each f i (items_view (drop i vs))) → IsFault whole e
each_fails {A} f whole front vs i v e l g h w =
    let d = drop_more vs i v l in
    let s : drop i vs ≡ v ∷ drop (i + 1) vs = d ∙ ap (λ x. x ∷ drop (i + 1) vs) (sym g) in
    let t = w ∙ ap (λ xs. behind front (each f i (items_view xs))) s in
    let rest : A → Result (List A) ClusterFault = λ x. each f (i + 1) (items_view (drop (i + 1) vs)) >>= λ as_. Ok (x ∷ as_) in
    let last : List A → Result (List A) ClusterFault = λ as_. Ok (front ++ as_) in
    subst (λ (r : Result (List A) ClusterFault). IsFault r e) (sym t) (fault_bind (f i (view v) >>= rest) last e (fault_bind (f i (view v)) rest e h))

-- all of them
pub each_all : {A : Type 0} (f : ℕ → Data → Result A ClusterFault) (whole : Result (List A) ClusterFault) (front : List A) (vs : List Value) (i : ℕ) → length vs ≤ i → whole ≡ behind front (each f i (items_view (drop i vs))) → whole ≡ Ok front
each_all f whole front vs i l w =
    let d = drop_all i vs l in
    w ∙ ap (λ xs. behind front (each f i (items_view xs))) d ∙ ap Ok (append-nil front)

-- as many values as the code counts
pub count_of_view : (vs : List Value) → count_of (items_view vs) ≡ length vs
count_of_view [] = refl
count_of_view (v ∷ vs) = ap (λ n. n + 1) (count_of_view vs) ∙ add-one (length vs)
