-- The lines that a lease prints.
use Rattle.std.specs.Prelude.{ℕ, List, ◌++◌, codes, decimal}
use Rattle.epoch_lease.specs.declared.event.LeaseOut.{LeaseOut}
use Rattle.epoch_lease.specs.declared.event.LeaseOut.TheVariants.{Granted, Held, NoEpoch, HardFull, Renewed, Released, Expired, NotHolder, Free}

abbrev pub answer_text : LeaseOut → List ℕ
answer_text (Granted e) = codes "granted " ++ decimal e ++ codes "\n"
answer_text (Held h e) = codes "held " ++ decimal h ++ codes " " ++ decimal e ++ codes "\n"
answer_text NoEpoch = codes "refused NoEpoch\n"
answer_text (HardFull most) = codes "refused HardFull " ++ decimal most ++ codes "\n"
answer_text (Renewed e) = codes "renewed " ++ decimal e ++ codes "\n"
answer_text (Released e) = codes "released " ++ decimal e ++ codes "\n"
answer_text (Expired e) = codes "expired " ++ decimal e ++ codes "\n"
answer_text (NotHolder last) = codes "refused NotHolder " ++ decimal last ++ codes "\n"
answer_text Free = codes "refused Free\n"

-- at the end of the input the last epoch
abbrev pub last_text : ℕ → List ℕ
last_text last = codes "last " ++ decimal last ++ codes "\n"
