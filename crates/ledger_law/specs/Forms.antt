-- Written forms: entries of one width behind their number, and a tally's head before them. All numbers are big-endian.
use Rattle.std.specs.Prelude.{ℕ, ℤ, ◌<◌, ◌^◌, List, ◌∷◌, ◌++◌, length}
use Rattle.std.specs.List.{flat_map}
use Rattle.std.specs.Int.{to_be_bytes, cast_unsigned, w16, w32, w64}
use Rattle.std.specs.Int.RustNames.{FitsSigned}
use Rattle.fuxi_terms.specs.declared.Key.{Key}
use Rattle.fuxi_terms.specs.Tallies.{TallyRecord, ChangeRecord}

-- the number of entries, and then each entry
abbrev pub counted : {E : Type 0} → (E → List ℕ) → List E → List ℕ
counted form es = to_be_bytes w32 (length es) ++ flat_map form es

-- a head before them
abbrev pub headed : {E : Type 0} → (E → List ℕ) → ℕ → List E → List ℕ
headed form head es = to_be_bytes w64 head ++ counted form es

-- what, unit, number, value
abbrev pub number_entry : Key × ℕ → List ℕ
number_entry e = e.0.what ∷ e.0.unit ∷ to_be_bytes w16 e.0.number ++ to_be_bytes w64 e.1

-- a change in two's complement
abbrev pub change_entry : Key × ℤ → List ℕ
change_entry e = number_entry (e.0, cast_unsigned w64 e.1)

abbrev pub tally_form : TallyRecord → List ℕ
tally_form t = headed number_entry t.head t.entries

abbrev pub change_form : ChangeRecord → List ℕ
change_form c = headed change_entry c.head c.entries

-- the entries whose fields have room in their places
pub record IsNumberEntry (e : Key × ℕ) : Type 0 where
  pub number : e.0.number < 2 ^ 16
  pub value : e.1 < 2 ^ 64

pub record IsChangeEntry (e : Key × ℤ) : Type 0 where
  pub number : e.0.number < 2 ^ 16
  pub value : FitsSigned w64 e.1
