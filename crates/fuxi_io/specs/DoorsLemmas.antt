-- Relations between what a door told before and after, through a door that may tell nothing.
use Rattle.std.specs.Prelude.{Option, None, Some}
use Rattle.fuxi_io.specs.Doors.{Told, WhereTold}

pub same_told : (R : Told → Told → Type 0) (a : Option Told) → ((t : Told) → R t t) → WhereTold R a a
same_told R None r = tt
same_told R (Some a) r = r a

pub map_told : (R S : Told → Told → Type 0) (a b : Option Told) → ((old new : Told) → R old new → S old new) → WhereTold R a b → WhereTold S a b
map_told R S None b f r = tt
map_told R S (Some a) None f r = r
map_told R S (Some a) (Some b) f r = f a b r

-- one relation and then another
pub then_told : (R S T : Told → Told → Type 0) (a b c : Option Told) → ((old mid new : Told) → R old mid → S mid new → T old new) → WhereTold R a b → WhereTold S b c → WhereTold T a c
then_told R S T None b c f r s = tt
then_told R S T (Some a) None c f r s = absurd r
then_told R S T (Some a) (Some b) None f r s = s
then_told R S T (Some a) (Some b) (Some c) f r s = f a b c r s
