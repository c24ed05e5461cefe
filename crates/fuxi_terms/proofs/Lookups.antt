-- What a look-up found, and what is read of a known job by way of its record.
use Rattle.std.proofs.Common.{◌≡◌, false, Option, Some, None, refl}
use Rattle.std.specs.Option.{is_some, unwrap_or, option_map}
use Rattle.fuxi_terms.specs.Cluster.{JobRecord}
use Rattle.fuxi_terms.specs.Jobs.{KnownJob}

pub none_is : {A : Type 0} (o : Option A) → is_some o ≡ false → o ≡ None
none_is None e = refl
none_is (Some x) e = cc

pub by_record : {A : Type 0} (f : JobRecord → A) (d : A) (o : Option KnownJob) → unwrap_or (option_map (λ (k : KnownJob). f k.job) o) d ≡ unwrap_or (option_map f (option_map (λ (k : KnownJob). k.job) o)) d
by_record f d None = refl
by_record f d (Some k) = refl
