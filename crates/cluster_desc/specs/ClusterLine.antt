-- What a cluster line is: the outcome of the tests on the value that its JSON has.
use Rattle.std.specs.Prelude.{ℕ, ◌+◌, Bool, true, ◌&&◌, nat_eq, List, [], ◌∷◌, length, Option, None, option_and_then, Result, Ok, if◌then◌else◌}
use Rattle.std.specs.List.{list_any}
use Rattle.std.specs.Str.{bytes_eq, is_utf8}
use Rattle.serde_json.specs.Data.{Data, Items, no_items, item, Members, no_members, member}
use Rattle.serde_json.specs.Find.{get, as_u64, as_number, as_array, as_object}
use Rattle.serde_json.specs.Read.{read}
use Rattle.fuxi_terms.specs.Vectors.{fits}
use Rattle.fuxi_terms.specs.Cluster.{MachineRecord, GroupRecord, ClusterRecord, are_quantities, is_between}
use Rattle.fuxi_terms.specs.ClusterKeys.{word_of}
use Rattle.fuxi_terms.specs.declared.cluster_key.ClusterKey.{ClusterKey}
use Rattle.fuxi_terms.specs.declared.cluster_key.ClusterKey.TheVariants.{Cluster, Resources, Machines, Groups, Rack, Has, Quota, Limit}
use Rattle.schedule_unit.specs.declared.party.GroupNo.{GroupNo}
use Rattle.cluster_desc.specs.declared.fault.ClusterFault.{ClusterFault}
use Rattle.cluster_desc.specs.declared.fault.ClusterFault.TheVariants.{NotJson, WrongKind, UnknownKey, MissingKey, Count, LengthDiffers, QuantityRange, QuotaOverLimit}
use Rattle.cluster_desc.specs.Faults.{◌>>=◌, holds, given}

-- ---- values

abbrev pub whole_number : ClusterKey → Data → Result ℕ ClusterFault
whole_number key d = given (option_and_then as_u64 (as_number d)) (WrongKind key)

-- each value with its place, in order
abbrev pub each : {A : Type 0} → (ℕ → Data → Result A ClusterFault) → ℕ → Items → Result (List A) ClusterFault
each f i no_items = Ok []
each f i (item d ds) = f i d >>= λ a. each f (i + 1) ds >>= λ as_. Ok (a ∷ as_)

unfoldable pub number_between : ClusterKey → ℕ → ℕ → Data → Result ℕ ClusterFault
number_between key least most d = do
  n ← whole_number key d
  _ ← holds (is_between least most n) (Count key)
  Ok n

unfoldable pub numbers_of : ClusterKey → Data → Result (List ℕ) ClusterFault
numbers_of key d = given (as_array d) (WrongKind key) >>= λ ds. each (λ i. whole_number key) 0 ds

unfoldable pub quantities : ClusterKey → ℕ → Data → Result (List ℕ) ClusterFault
quantities key resources d = do
  ns ← numbers_of key d
  _ ← holds (nat_eq (length ns) resources) LengthDiffers
  _ ← holds (are_quantities ns) QuantityRange
  Ok ns

abbrev pub count_of : Items → ℕ
count_of no_items = 0
count_of (item d ds) = count_of ds + 1

unfoldable pub array_between : ClusterKey → ℕ → ℕ → Data → Result Items ClusterFault
array_between key least most d = do
  ds ← given (as_array d) (WrongKind key)
  _ ← holds (is_between least most (count_of ds)) (Count key)
  Ok ds

-- ---- objects

-- each key is the word of one of these
abbrev pub has_only : List ClusterKey → Members → Bool
has_only keys no_members = true
has_only keys (member k d ms) = list_any (λ key. bytes_eq (word_of key) k) keys && has_only keys ms

-- an object with no other key
unfoldable pub object_of : ClusterKey → List ClusterKey → Data → Result (Unit {0}) ClusterFault
object_of key keys d = do
  ms ← given (as_object d) (WrongKind key)
  holds (has_only keys ms) UnknownKey

unfoldable pub value_at : ClusterKey → Data → Result Data ClusterFault
value_at key d = given (get (word_of key) d) (MissingKey key)

-- ---- machines and groups

unfoldable pub machine_at : ℕ → Data → Result MachineRecord ClusterFault
machine_at resources d = do
  _ ← object_of Machines (Rack ∷ Has ∷ []) d
  r ← value_at Rack d
  h ← value_at Has d
  rack ← number_between Rack 0 63 r
  has ← quantities Has resources h
  Ok (record { rack = rack; has = has })

abbrev pub group_no : ℕ → GroupNo
group_no n = record { 0 = n }

unfoldable pub group_at : ℕ → ℕ → Data → Result GroupRecord ClusterFault
group_at resources number d = do
  _ ← object_of Groups (Quota ∷ Limit ∷ []) d
  q ← value_at Quota d
  l ← value_at Limit d
  quota ← quantities Quota resources q
  limit ← quantities Limit resources l
  _ ← holds (fits quota limit) (QuotaOverLimit (group_no number))
  Ok (record { quota = quota; limit = limit })

-- ---- the line

unfoldable pub cluster_at : Data → Result ClusterRecord ClusterFault
cluster_at d = do
  _ ← object_of Cluster (Resources ∷ Machines ∷ Groups ∷ []) d
  r ← value_at Resources d
  m ← value_at Machines d
  g ← value_at Groups d
  resources ← number_between Resources 1 8 r
  ms ← array_between Machines 1 256 m
  machines ← each (λ i. machine_at resources) 0 ms
  gs ← array_between Groups 1 32 g
  groups ← each (group_at resources) 0 gs
  Ok (record { resources = resources; machines = machines; groups = groups })

-- the value of the line, where that is JSON in UTF-8
unfoldable pub value_of : List ℕ → Option Data
value_of line = if is_utf8 line then read line else None

unfoldable pub cluster_of : List ℕ → Result ClusterRecord ClusterFault
cluster_of line = given (value_of line) NotJson >>= cluster_at
