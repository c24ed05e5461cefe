-- A storm without steps.
use Rattle.std.proofs.Common.{◌≡◌, Ok, refl, codes}
use Rattle.std.specs.Fmt.{digits}
use Rattle.storm_run.specs.Generators.{number}
use Rattle.storm_run.specs.Storms.{opened, closed, peers_turned}
use Rattle.storm_run.specs.Summaries.{summary, storm_of}

pub first_number : number 1 ≡ 908834774
first_number = refl

pub calm : storm_of 1 0 ≡ Ok (codes "storm 1 0\nevents 129\npackets 209\nfence 1\ngranted 0 0\ngranted 1 0\ngranted 2 0\nheld 0 0\nheld 1 0\nheld 2 0\nrows 0 0\nrows 1 0\nrows 2 0\nrows 3 0\nrows 4 0\nrows 5 0\nrows 6 0\nrows 7 0\nquiet yes\n")
unfolding digits opened closed peers_turned summary
calm = refl
